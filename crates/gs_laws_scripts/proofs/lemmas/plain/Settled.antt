-- What the plain tree refuses is refused for sure: it is no refusal for want of memory, or of a disk.
use Rattle.std.proofs.Common.{◌≡◌, ◌++◌, ◌&&◌, ℕ, Bool, true, false, not, List, [], map, refl, subst}
use Rattle.std.specs.Prelude.{Option, Some, None, Result, Ok, Err, if◌then◌else◌, is_none, is_some}
use Rattle.gs_base.specs.declared.refusal.Refusal.{Refusal}
use Rattle.gs_base.specs.declared.refusal.Refusal.TheVariants as refusals
use Rattle.gs_client.specs.Replies.{unsure_or}
use Rattle.gs_edit.specs.Plain.{create_rows, hide_rows, mkdirs_rows, rename_rows, snapshot_rows, unhide_rows, unhide_target}
use Rattle.gs_edit.specs.Table.{fronts, moved_path, paths_of, tabled}
use Rattle.gs_laws_plain.specs.commands.Answers.{answered, by_paths, deletes, has_visible, listed, plain_answer}
use Rattle.gs_master_spec.specs.Calls.{is_any_deep, is_any_hidden}
use Rattle.gs_msg.specs.declared.answer.Answer.{Answer}
use Rattle.gs_msg.specs.declared.answer.Answer.TheVariants as answers
use Rattle.gs_msg.specs.declared.call.Call.{Call}
use Rattle.gs_msg.specs.declared.call.Call.TheVariants as calls
use Rattle.gs_path.specs.Path.{Name, Path, begins}
use Rattle.gs_tree.specs.Entry.{Dir, Entry, File}
use Rattle.gs_tree.specs.Edits.{beside, copied, create, file_above, hidden_path, hide, is_file, mkdirs, move_to, moved, old_name, parent, placed, rename, same_path, snapshot, target_of, unhidden, unhide, with_dirs, with_entry}
use Rattle.gs_tree.specs.Find.{Rows, at, is_copied_too_deep, is_too_deep}
use Rattle.gs_tree.specs.Plain.{Plain}

-- what is refused is refused for sure
abbrev pub IsSure : {A : Type 0} → Result A Refusal → Type 0
IsSure (Ok x) = Unit {0}
IsSure (Err e) = unsure_or e ≡ e

sure_if : {A : Type 0} (b : Bool) (r s : Result A Refusal) → IsSure r → IsSure s → IsSure (if b then r else s)
sure_if true r s x y = x
sure_if false r s x y = y

sure_tabled : (paths : List Path) (r : Result (Plain (List ℕ)) Refusal) → IsSure r → IsSure (tabled paths r)
sure_tabled paths (Ok m) x = tt
sure_tabled paths (Err e) x = x

sure_answered : {A : Type 0} (answer : Answer) (r : Result A Refusal) → IsSure r → IsSure (answered answer r)
sure_answered answer (Ok x) h = tt
sure_answered answer (Err e) h = h

-- ---- the commands

sure_two : {A : Type 0} (e f : Refusal) (new : A) → unsure_or e ≡ e → unsure_or f ≡ f → (a b : Bool) → IsSure (if a then Err e else if b then Err f else Ok new)
sure_two e f new x y true b = x
sure_two e f new x y false true = y
sure_two e f new x y false false = tt

sure_three : {A : Type 0} (e f g : Refusal) (new : A) → unsure_or e ≡ e → unsure_or f ≡ f → unsure_or g ≡ g → (a b c : Bool) → IsSure (if a then Err e else if b then Err f else if c then Err g else Ok new)
sure_three e f g new x y z true b c = x
sure_three e f g new x y z false true c = y
sure_three e f g new x y z false false true = z
sure_three e f g new x y z false false false = tt

module _ (rows : Rows (List ℕ)) where
  pub sure_mkdirs : (p : Path) → IsSure (mkdirs_rows rows p)
  sure_mkdirs p = sure_tabled (paths_of rows ++ fronts p) (mkdirs (at rows) p) (sure_two refusals.Exists refusals.NotADirectory (with_dirs p (at rows)) refl refl (is_file (at rows p)) (file_above (at rows) p))

  pub sure_create : (p : Path) → IsSure (create_rows rows p)
  sure_create p = sure_tabled (paths_of rows ++ fronts p) (create (at rows) p) (sure_two refusals.Exists refusals.NotADirectory (with_entry p (File []) (with_dirs p (at rows))) refl refl (is_some (at rows p)) (file_above (at rows) p))

  pub sure_hide : (p : Path) (moment number : ℕ) → IsSure (hide_rows rows p moment number)
  sure_hide p moment number =
      sure_tabled (paths_of rows ++ map (moved_path p (hidden_path p moment number)) (paths_of rows)) (hide (at rows) p moment number)
      (sure_three refusals.IsRoot refusals.NotFound refusals.Exists (moved p (hidden_path p moment number) (at rows)) refl refl refl (same_path p []) (is_none (at rows p)) (is_some (at rows (hidden_path p moment number))))

  pub sure_unhide : (p : Path) → IsSure (unhide_rows rows p)
  sure_unhide p = sure_tabled (paths_of rows ++ map (moved_path p (unhide_target p (old_name p))) (paths_of rows)) (unhide (at rows) p) (each (old_name p))
    where
      each : (o : Option Name) → IsSure (unhidden (at rows) p o)
      each None = refl
      each (Some name) = sure_two refusals.NotFound refusals.Exists (moved p (beside p name) (at rows)) refl refl (is_none (at rows p)) (is_some (at rows (beside p name)))

  -- where something is moved or copied
  sure_placed : (deep : Bool) (from to : Path) (new : Plain (List ℕ)) → IsSure (placed deep (at rows) from to new)
  sure_placed deep from to new = each (same_path to from) (begins from to) (is_some (at rows to)) (is_none (at rows (parent to))) (is_file (at rows (parent to))) deep
    where
      each : (a b c d e f : Bool) → IsSure (if a then Err refusals.Exists else if b then Err refusals.IntoItself else if c then Err refusals.Exists else if d then Err refusals.NotFound else if e then Err refusals.NotADirectory else if f then Err refusals.BadPath else Ok new)
      each true b c d e f = refl
      each false true c d e f = refl
      each false false true d e f = refl
      each false false false true e f = refl
      each false false false false true f = refl
      each false false false false false true = refl
      each false false false false false false = tt

  sure_from : (from : Path) (r : Result (Plain (List ℕ)) Refusal) → IsSure r → (a b : Bool) → IsSure (if a then Err refusals.IsRoot else if b then Err refusals.NotFound else r)
  sure_from from r x true b = refl
  sure_from from r x false true = refl
  sure_from from r x false false = x

  pub sure_rename : (from to : Path) → IsSure (rename_rows rows from to)
  sure_rename from to =
      let target = target_of (at rows) from to in
      sure_tabled (paths_of rows ++ map (moved_path from (target_of (at rows) from to)) (paths_of rows)) (rename (is_too_deep rows from) (at rows) from to)
      (sure_from from (move_to (is_too_deep rows from (target_of (at rows) from to)) (at rows) from (target_of (at rows) from to))
      (sure_placed (is_too_deep rows from (target_of (at rows) from to)) from (target_of (at rows) from to) (moved from (target_of (at rows) from to) (at rows))) (same_path from []) (is_none (at rows from)))

  pub sure_snapshot : (from to : Path) → IsSure (snapshot_rows rows from to)
  sure_snapshot from to =
      sure_tabled (paths_of rows ++ map (moved_path from to) (paths_of rows)) (snapshot (is_copied_too_deep rows from) (at rows) from to)
      (sure_from from (placed (is_copied_too_deep rows from to) (at rows) from to (copied from to (at rows))) (sure_placed (is_copied_too_deep rows from to) from to (copied from to (at rows))) (same_path from []) (is_none (at rows from)))

  pub sure_deletes : (p : Path) (recursive : Bool) (moment number : ℕ) → IsSure (deletes rows p recursive moment number)
  sure_deletes p recursive moment number = each (same_path p []) (is_none (at rows p)) (not recursive && has_visible rows p)
    where
      hides : Result Answer Refusal
      hides = answered (answers.Path (hidden_path p moment number)) (hide_rows rows p moment number)

      each : (a b c : Bool) → IsSure (if a then Err refusals.IsRoot else if b then Ok answers.Absent else if c then Err refusals.NotEmpty else hides)
      each true b c = refl
      each false true c = tt
      each false false true = refl
      each false false false = sure_answered (answers.Path (hidden_path p moment number)) (hide_rows rows p moment number) (sure_hide p moment number)

  pub sure_listed : (p : Path) (o : Option (Entry (List ℕ))) → IsSure (listed rows p o)
  sure_listed p None = refl
  sure_listed p (Some Dir) = tt
  sure_listed p (Some (File texts)) = tt

  by_paths_or : (deep hidden : Bool) (r : Result Answer Refusal) → IsSure r → IsSure (if deep then Err refusals.BadPath else if hidden then Err refusals.HiddenName else r)
  by_paths_or true hidden r x = refl
  by_paths_or false true r x = refl
  by_paths_or false false r x = x

  sure_is : (call : Call) (r plain : Result Answer Refusal) → IsSure r → Some (by_paths call r) ≡ Some plain → IsSure plain
  sure_is call r plain x h = subst IsSure (same h) (by_paths_or (is_any_deep call) (is_any_hidden call) r x)
    where
      same : {a b : Result Answer Refusal} → ◌≡◌ {A = Option (Result Answer Refusal)} (Some a) (Some b) → a ≡ b
      same h = cc

  -- so is what the plain tree answers
  pub sure_plain : (moment number : ℕ) (call : Call) (plain : Result Answer Refusal) → plain_answer rows moment number call ≡ Some plain → IsSure plain
  sure_plain moment number (calls.Mkdirs p) plain h = sure_is (calls.Mkdirs p) (answered answers.Nothing (mkdirs_rows rows p)) plain (sure_answered answers.Nothing (mkdirs_rows rows p) (sure_mkdirs p)) h
  sure_plain moment number (calls.Create p) plain h = sure_is (calls.Create p) (answered answers.Nothing (create_rows rows p)) plain (sure_answered answers.Nothing (create_rows rows p) (sure_create p)) h
  sure_plain moment number (calls.Rename from to) plain h = sure_is (calls.Rename from to) (answered answers.Nothing (rename_rows rows from to)) plain (sure_answered answers.Nothing (rename_rows rows from to) (sure_rename from to)) h
  sure_plain moment number (calls.Delete p recursive) plain h = sure_is (calls.Delete p recursive) (deletes rows p recursive moment number) plain (sure_deletes p recursive moment number) h
  sure_plain moment number (calls.Undelete p) plain h = sure_is (calls.Undelete p) (answered (answers.Path (unhide_target p (old_name p))) (unhide_rows rows p)) plain (sure_answered (answers.Path (unhide_target p (old_name p))) (unhide_rows rows p) (sure_unhide p)) h
  sure_plain moment number (calls.Snapshot from to) plain h = sure_is (calls.Snapshot from to) (answered answers.Nothing (snapshot_rows rows from to)) plain (sure_answered answers.Nothing (snapshot_rows rows from to) (sure_snapshot from to)) h
  sure_plain moment number (calls.List p) plain h = sure_is (calls.List p) (listed rows p (at rows p)) plain (sure_listed p (at rows p)) h
  sure_plain moment number (calls.Status p) plain h = absurd (cc)
  sure_plain moment number (calls.FindForReading p index) plain h = absurd (cc)
  sure_plain moment number (calls.FindForWriting p index stamp) plain h = absurd (cc)
  sure_plain moment number (calls.Extend p index) plain h = absurd (cc)
  sure_plain moment number calls.Scan plain h = absurd (cc)
  sure_plain moment number calls.Replicate plain h = absurd (cc)
  sure_plain moment number calls.Query plain h = absurd (cc)
  sure_plain moment number calls.PrepareBegin plain h = absurd (cc)
  sure_plain moment number calls.PrepareCommit plain h = absurd (cc)
  sure_plain moment number calls.PrepareAbort plain h = absurd (cc)
  sure_plain moment number calls.Finalize plain h = absurd (cc)
  sure_plain moment number calls.RollbackBegin plain h = absurd (cc)
  sure_plain moment number calls.RollbackCommit plain h = absurd (cc)
