-- What stands at a path stays there through an edit that spares it.
use Rattle.std.proofs.Common.{◌≡◌, ◌∙◌, ◌&&◌, ◌++◌, ℕ, Bool, true, false, not, cond, [], ◌∷◌, map, refl, ap, sym, subst}
use Rattle.std.specs.Prelude.{is_none, is_some, nat_lt, length, slice_set, Option, Some, None, Result, Ok}
use Rattle.std.specs.FinMap as fin
use Rattle.std.proofs.lemmas.Bool.{false≢true}
use Rattle.gs_base.specs.declared.refusal.Refusal.{Refusal}
use Rattle.gs_base.specs.declared.refusal.Refusal.TheVariants.{BadPath, Exists, IntoItself, IsADirectory, IsRoot, NotADirectory, NotFound, NotHidden, Range}
use Rattle.gs_edit.proofs.Covers.{covered-add, covered-create, covered-hide, covered-mkdirs, covered-remove, covered-rename, covered-set, covered-snapshot, covered-unhide}
use Rattle.gs_edit.specs.Plain.{unhide_target}
use Rattle.gs_edit.specs.Table.{moved_path, paths_of, tabled}
use Rattle.gs_edit.specs.View.{NamesView}
use Rattle.gs_edit.specs.declared.edit.Edit.TheVariants as edits
use Rattle.gs_path.specs.Path.{Name, Path, begins, path_cmp, path_total}
use Rattle.gs_master_record.specs.Plain.{PlainEdit, AddChunk, Cow, Create, Forget, Hide, Mkdirs, Remove, Rename, Snapshot, Unhide}
use Rattle.gs_refs.specs.Counts.{taken_each}
use Rattle.gs_master_spec.specs.Undoing.{named_plain}
use Rattle.gs_tree.specs.Edits.{add_chunk, beside, chunks_in, copied, create, file_above, hidden_path, hide, is_dir, is_file, mkdirs, moved, old_name, parent, placed, remove, rename, renamed_beside, same_path, set_chunk, snapshot, target_of, unhidden, visible, with_chunks, with_dirs, with_entry}
use Rattle.gs_tree.specs.Entry.{Dir, Entry, File}
use Rattle.gs_tree.specs.Find.{DirsAbove, Rows, at, is_copied_too_deep, is_too_deep}
use Rattle.gs_tree.specs.Plain.{Plain, after, part_at, with_at, without}
use Rattle.gs_tree.proofs.Apart.{past, same_answer, through}
use Rattle.gs_tree.proofs.Reaching.{same_path-is}
use Rattle.gs_tree.proofs.Splice.{begins_parts}
use Rattle.gs_laws_master.proofs.lemmas.names.EditsBack.{IsDone, admitted, done_of, with_parts}
use Rattle.gs_laws_master.proofs.lemmas.names.Grown.{Grown}
use Rattle.gs_laws_master.proofs.lemmas.upgrades.LedBack.{kept_tree}
use Rattle.gs_laws_master.proofs.lemmas.names.Undone.{was_named}
use Rattle.gs_laws_moves.specs.moves.Places.{EditsSpare, spares_path}

not_true : (b : Bool) → not b ≡ true → b ≡ false
not_true true h = absurd (false≢true h)
not_true false h = refl

-- ---- above what stands something stands

stands_front : (m : Plain ℕ) (p r : Path) → DirsAbove m (p ++ r) → is_some (m (p ++ r)) ≡ true → is_some (m p) ≡ true
stands_front m [] [] above some = some
stands_front m [] (x ∷ r) above some = ap is_some above.0
stands_front m (x ∷ p) r above some = stands_front (λ q. m (x ∷ q)) p r above.1 some

-- so where nothing stands nothing stands below
free_below : (m : Plain ℕ) (p q : Path) → Grown m → is_some (m p) ≡ false → is_some (m q) ≡ true → begins p q ≡ false
free_below m p q grown free some = by_test (begins p q) refl
  where
    by_test : (b : Bool) → begins p q ≡ b → b ≡ false
    by_test true is =
        let parts = begins_parts p q is in
        absurd (false≢true (sym free ∙ stands_front m p (after p q) (subst (DirsAbove m) parts (grown.above q some)) (sym (ap (λ x. is_some (m x)) parts) ∙ some)))
    by_test false is = refl

module _ (m : Plain ℕ) (q : Path) (some : is_some (m q) ≡ true) where
  none_no : (o : Option (Entry ℕ)) → is_some o ≡ true → is_none o ≡ false
  none_no None h = absurd (false≢true h)
  none_no (Some e) h = refl

  -- directories are put where nothing stands
  dirs_spare : (p : Path) → with_dirs p m q ≡ m q
  dirs_spare p = by_begins (begins q p) (is_none (m q)) (none_no (m q) some)
    where
      by_begins : (b c : Bool) → c ≡ false → cond (b && c) (Some Dir) (m q) ≡ m q
      by_begins true c none = ap (λ x. cond x (Some Dir) (m q)) none
      by_begins false c none = refl

  entry_spares : (p : Path) (e : Entry ℕ) (whole : Plain ℕ) → same_path p q ≡ false → with_entry p e whole q ≡ whole q
  entry_spares p e whole other = ap (λ b. cond b (Some e) (whole q)) other

  at_spares : (p : Path) (part whole : Plain ℕ) → begins p q ≡ false → with_at p part whole q ≡ whole q
  at_spares p part whole other = ap (λ b. cond b (part (after p q)) (whole q)) other

  without_spares : (p : Path) → begins p q ≡ false → without p m q ≡ m q
  without_spares p other = ap (λ b. cond b None (m q)) other

  moved_spares : (from to : Path) → Grown m → is_some (m to) ≡ false → begins from q ≡ false → moved from to m q ≡ m q
  moved_spares from to grown free other = at_spares to (part_at from m) (without from m) (free_below m to q grown free some) ∙ without_spares from other

  mkdirs_spares : (n : Plain ℕ) (p : Path) → mkdirs m p ≡ Ok n → n q ≡ m q
  mkdirs_spares n p e = same_answer (with_dirs p m) n q (past (file_above m p) NotADirectory _ n (past (is_file (m p)) Exists _ n e)) ∙ dirs_spare p

  create_spares : (n : Plain ℕ) (p : Path) → create m p ≡ Ok n → n q ≡ m q
  create_spares n p e =
      let free = through (is_some (m p)) Exists _ n e in
      same_answer (with_entry p (File []) (with_dirs p m)) n q (past (file_above m p) NotADirectory _ n (past (is_some (m p)) Exists _ n e)) ∙ entry_spares p (File []) (with_dirs p m) (apart free (same_path p q) refl) ∙ dirs_spare p
    where
      apart : is_some (m p) ≡ false → (b : Bool) → same_path p q ≡ b → b ≡ false
      apart free true is = absurd (false≢true (sym free ∙ ap (λ x. is_some (m x)) (same_path-is p q is) ∙ some))
      apart free false is = refl

  placed_spares : (deep : Bool) (n from_new : Plain ℕ) (from to : Path) → placed deep m from to from_new ≡ Ok n → (is_some (m to) ≡ false → from_new q ≡ m q) → n q ≡ m q
  placed_spares deep n new from to e spares =
      let e1 = past (same_path to from) Exists _ n e in
      let e2 = past (begins from to) IntoItself _ n e1 in
      let free = through (is_some (m to)) Exists _ n e2 in
      let e3 = past (is_some (m to)) Exists _ n e2 in
      let e4 = past (is_none (m (parent to))) NotFound _ n e3 in
      let e5 = past (is_file (m (parent to))) NotADirectory _ n e4 in
      same_answer new n q (past deep BadPath _ n e5) ∙ spares free

  rename_spares : (deep : Path → Bool) (n : Plain ℕ) (from to : Path) → Grown m → begins from q ≡ false → rename deep m from to ≡ Ok n → n q ≡ m q
  rename_spares deep n from to grown other e =
      let e1 = past (same_path from []) IsRoot _ n e in
      let e2 = past (is_none (m from)) NotFound _ n e1 in
      placed_spares (deep (target_of m from to)) n (moved from (target_of m from to) m) from (target_of m from to) e2 (λ free. moved_spares from (target_of m from to) grown free other)

  hide_spares : (n : Plain ℕ) (p : Path) (moment number : ℕ) → Grown m → begins p q ≡ false → hide m p moment number ≡ Ok n → n q ≡ m q
  hide_spares n p moment number grown other e =
      let e1 = past (same_path p []) IsRoot _ n e in
      let e2 = past (is_none (m p)) NotFound _ n e1 in
      let free = through (is_some (m (hidden_path p moment number))) Exists _ n e2 in
      same_answer (moved p (hidden_path p moment number) m) n q (past (is_some (m (hidden_path p moment number))) Exists _ n e2) ∙ moved_spares p (hidden_path p moment number) grown free other

  beside_spares : (n : Plain ℕ) (p : Path) (name : Name) → Grown m → begins p q ≡ false → renamed_beside m p name ≡ Ok n → n q ≡ m q
  beside_spares n p name grown other e =
      let e1 = past (is_none (m p)) NotFound _ n e in
      let free = through (is_some (m (beside p name))) Exists _ n e1 in
      same_answer (moved p (beside p name) m) n q (past (is_some (m (beside p name))) Exists _ n e1) ∙ moved_spares p (beside p name) grown free other

  remove_spares : (n : Plain ℕ) (p : Path) → begins p q ≡ false → remove m p ≡ Ok n → n q ≡ m q
  remove_spares n p other e = same_answer (without p m) n q (past (is_none (m p)) NotFound _ n (past (is_none (old_name p)) NotHidden _ n e)) ∙ without_spares p other

  add_spares : (n : Plain ℕ) (p : Path) (chunk : ℕ) → same_path p q ≡ false → add_chunk m p chunk ≡ Ok n → n q ≡ m q
  add_spares n p chunk other e =
      same_answer (with_chunks p (chunks_in (m p) ++ chunk ∷ []) m) n q (past (is_dir (m p)) IsADirectory _ n (past (is_none (m p)) NotFound _ n e)) ∙ entry_spares p (File (chunks_in (m p) ++ chunk ∷ [])) m other

  set_spares : (n : Plain ℕ) (p : Path) (index chunk : ℕ) → same_path p q ≡ false → set_chunk m p index chunk ≡ Ok n → n q ≡ m q
  set_spares n p index chunk other e =
      same_answer (with_chunks p (slice_set (chunks_in (m p)) index chunk) m) n q (past (not (nat_lt index (length (chunks_in (m p))))) Range _ n (past (is_dir (m p)) IsADirectory _ n (past (is_none (m p)) NotFound _ n e)))
      ∙ entry_spares p (File (slice_set (chunks_in (m p)) index chunk)) m other

  snapshot_spares : (deep : Path → Bool) (n : Plain ℕ) (from to : Path) → Grown m → snapshot deep m from to ≡ Ok n → n q ≡ m q
  snapshot_spares deep n from to grown e =
      let e1 = past (same_path from []) IsRoot _ n e in
      let e2 = past (is_none (m from)) NotFound _ n e1 in
      placed_spares (deep to) n (copied from to m) from to e2 (λ free. at_spares to (visible (part_at from m)) m (free_below m to q grown free some))

-- ---- of names

rows_is : {a b : Rows ℕ} → ◌≡◌ {A = Result (Rows ℕ) Refusal} (Ok a) (Ok b) → a ≡ b
rows_is h = cc

module _ (old : NamesView) (q : Path) (grown : Grown (fin.get old.tree)) (some : is_some (fin.get old.tree q) ≡ true) where
  rows : Rows ℕ
  rows = fin.entries old.tree

  -- what the rows tell then is what the command gives
  by_done : {r : Result (Plain ℕ) Refusal} (new : Rows ℕ) → IsDone r new → ((n : Plain ℕ) → r ≡ Ok n → n q ≡ fin.get old.tree q) → fin.get (fin.from_entries {R = path_cmp} new) q ≡ fin.get old.tree q
  by_done new done spares = ap (λ (f : Plain ℕ). f q) done.same ∙ spares done.plain done.is

  unhide_by : (p : Path) (name : Option Name) (new : Rows ℕ) → old_name p ≡ name → begins p q ≡ false → tabled (paths_of (fin.entries old.tree) ++ map (moved_path p (unhide_target p name)) (paths_of (fin.entries old.tree))) (unhidden (at (fin.entries old.tree)) p name) ≡ Ok new
      → fin.get (fin.from_entries {R = path_cmp} new) q ≡ fin.get old.tree q
  unhide_by p None new is other h = absurd (let k = h in cc)
  unhide_by p (Some name) new is other h =
      by_done new (done_of _ (λ m. unhidden m p (Some name)) old.tree new (covered-unhide (fin.entries old.tree) p (Some name)) h) (λ n e. beside_spares (fin.get old.tree) q some n p name grown other e)

  each : (edit : PlainEdit) (new : Rows ℕ) (refs : _) → spares_path edit q ≡ true → named_plain edit (fin.entries old.tree) old.refs ≡ Ok (new, refs) → fin.get (fin.from_entries {R = path_cmp} new) q ≡ fin.get old.tree q
  each (Mkdirs p) new refs spared e =
      by_done new (done_of _ (λ m. mkdirs m p) old.tree new (covered-mkdirs (fin.entries old.tree) p) (admitted (edits.Mkdirs p) (fin.entries old.tree) old.refs (new, refs) e).rows) (λ n is. mkdirs_spares (fin.get old.tree) q some n p is)
  each (Create p) new refs spared e =
      by_done new (done_of _ (λ m. create m p) old.tree new (covered-create (fin.entries old.tree) p) (admitted (edits.Create p) (fin.entries old.tree) old.refs (new, refs) e).rows) (λ n is. create_spares (fin.get old.tree) q some n p is)
  each (Rename from to) new refs spared e =
      by_done new (done_of _ (λ m. rename (is_too_deep (fin.entries old.tree) from) m from to) old.tree new (covered-rename (fin.entries old.tree) from to) (admitted (edits.Rename from to) (fin.entries old.tree) old.refs (new, refs) e).rows)
      (λ n is. rename_spares (fin.get old.tree) q some (is_too_deep (fin.entries old.tree) from) n from to grown (not_true (begins from q) spared) is)
  each (Hide p moment number) new refs spared e =
      by_done new (done_of _ (λ m. hide m p moment number) old.tree new (covered-hide (fin.entries old.tree) p moment number) (admitted (edits.Hide p (record { 0 = moment }) number) (fin.entries old.tree) old.refs (new, refs) e).rows)
      (λ n is. hide_spares (fin.get old.tree) q some n p moment number grown (not_true (begins p q) spared) is)
  each (Unhide p) new refs spared e = unhide_by p (old_name p) new refl (not_true (begins p q) spared) (admitted (edits.Unhide p) (fin.entries old.tree) old.refs (new, refs) e).rows
  each (Remove p) new refs spared e =
      by_done new (done_of _ (λ m. remove m p) old.tree new (covered-remove (fin.entries old.tree) p) (admitted (edits.Remove p) (fin.entries old.tree) old.refs (new, refs) e).rows) (λ n is. remove_spares (fin.get old.tree) q some n p (not_true (begins p q) spared) is)
  each (AddChunk p chunk) new refs spared e =
      by_done new (done_of _ (λ m. add_chunk m p chunk) old.tree new (covered-add (fin.entries old.tree) p chunk) (admitted (edits.AddChunk p chunk) (fin.entries old.tree) old.refs (new, refs) e).rows) (λ n is. add_spares (fin.get old.tree) q some n p chunk (not_true (same_path p q) spared) is)
  each (Cow p index before chunk) new refs spared e =
      by_done new (done_of _ (λ m. set_chunk m p index chunk) old.tree new (covered-set (fin.entries old.tree) p index chunk) (admitted (edits.Cow p index before chunk) (fin.entries old.tree) old.refs (new, refs) e).rows)
      (λ n is. set_spares (fin.get old.tree) q some n p index chunk (not_true (same_path p q) spared) is)
  each (Snapshot from to) new refs spared e =
      by_done new (done_of _ (λ m. snapshot (is_copied_too_deep (fin.entries old.tree) from) m from to) old.tree new (covered-snapshot (fin.entries old.tree) from to) (admitted (edits.Snapshot from to) (fin.entries old.tree) old.refs (new, refs) e).rows)
      (λ n is. snapshot_spares (fin.get old.tree) q some (is_copied_too_deep (fin.entries old.tree) from) n from to grown is)
  each (Forget chunks) new refs spared e =
      let same = (with_parts (Ok (fin.entries old.tree)) (taken_each old.refs chunks) (new, refs) e).0 in
      ap (λ (r : Rows ℕ). fin.get (fin.from_entries {R = path_cmp} r) q) (sym (rows_is same)) ∙ fin.get-from_entries path_total (fin.entries old.tree) q ∙ sym (fin.get-entries old.tree q)

pub edits_spare : EditsSpare
edits_spare edit old new q kept e spared some =
    let n = was_named edit old new e in
    ap (λ (x : NamesView). fin.get x.tree q) (sym n.is) ∙ each old q (kept_tree old kept).grown some edit n.rows n.refs spared n.made
