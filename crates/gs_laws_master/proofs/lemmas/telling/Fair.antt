-- The refusals of edits and of look-ups can be told.
use Rattle.std.proofs.Common.{◌≡◌, ◌==◌, ◌&&◌, ◌++◌, ℕ, Bool, true, false, not, List, [], ◌∷◌, length, refl, subst}
use Rattle.std.specs.Prelude.{nat_lt, is_none, is_some, slice_get, slice_set, Option, Some, None, Result, Ok, Err, if◌then◌else◌}
use Rattle.std.specs.List.{list_all, AllByRecursion}
use Rattle.std.specs.FinMap as fin
use Rattle.gs_base.specs.declared.refusal.Refusal.{Refusal}
use Rattle.gs_base.specs.declared.refusal.Refusal.TheVariants as refusals
use Rattle.gs_path.specs.Path.{Name, Path, begins}
use Rattle.gs_refs.specs.Counts.{Counts, ascends, is_at_zero, last_count, lowered, lowered_each, lowered_from, raised_each, raised_listed, raised_listed_from, taken_each, without_each}
use Rattle.gs_refs.specs.Counts as counts
use Rattle.gs_tree.specs.Entry.{Entry, Dir, File}
use Rattle.gs_tree.specs.Find.{Rows, at, is_copied_too_deep, is_too_deep}
use Rattle.gs_tree.specs.Plain.{Plain, without}
use Rattle.gs_tree.specs.Edits.{add_chunk, beside, create, file_above, hide, is_dir, is_file, mkdirs, move_to, placed, remove, rename, same_path, set_chunk, snapshot, target_of, unhidden, hidden_path, old_name, parent, chunks_in, with_dirs, made, moved, with_chunks, copied}
use Rattle.gs_edit.specs.Edits.{admits, counted, edited, named, with_counts}
use Rattle.gs_edit.specs.Table.{tabled}
use Rattle.gs_edit.specs.View.{NamesView}
use Rattle.gs_edit.specs.declared.edit.Edit.{Edit}
use Rattle.gs_edit.specs.declared.edit.Edit.TheVariants as edits
use Rattle.gs_lease.specs.declared.view.View.{View}
use Rattle.gs_master_record.specs.Plain.{PlainEdit, AddChunk, Cow, Create, Forget, Hide, Mkdirs, Remove, Rename, Snapshot, Unhide}
use Rattle.gs_master_record.specs.Writable.{IsWritable}
use Rattle.gs_master_spec.specs.Calls.{location_on, listing, status, location, found_chunk}
use Rattle.gs_master_spec.specs.Applied.{view_in}
use Rattle.gs_master_spec.specs.Durable.{Durable}
use Rattle.gs_master_spec.specs.State.{first_of}
use Rattle.gs_master_spec.specs.Undoing.{edited_names, named_plain, names_from}
use Rattle.gs_laws_master.proofs.lemmas.telling.Telling.{bare}

-- ---- refusals of the tree

-- a refusal, if it is one, can be told
pub record Fair {A : Type 0} (r : Result A Refusal) : Type 0 where
  pub can : (refusal : Refusal) → r ≡ Err refusal → IsWritable refusal

module _ {A : Type 0} where
  fair_ok : (x : A) → Fair {A = A} (Ok x)
  fair_ok x = record { can = λ refusal e. absurd (let k = e in cc) }

  fair_err : (refusal : Refusal) → IsWritable refusal → Fair {A = A} (Err refusal)
  fair_err refusal can = record { can = λ r e. subst IsWritable (same e) can }
    where
      same : {r : Refusal} → ◌≡◌ {A = Result A Refusal} (Err refusal) (Err r) → refusal ≡ r
      same e = cc

  fair_if : (b : Bool) (t u : Result A Refusal) → Fair t → Fair u → Fair (if b then t else u)
  fair_if true t u f g = f
  fair_if false t u f g = g

fair_tabled : (ps : List Path) (r : Result (Plain ℕ) Refusal) → Fair r → Fair (tabled ps r)
fair_tabled ps (Ok m) f = fair_ok _
fair_tabled ps (Err refusal) f = fair_err refusal (f.can refusal refl)

fair_counts : (rows : Result (Rows ℕ) Refusal) (refs : Result Counts Refusal) → Fair rows → Fair refs → Fair (with_counts rows refs)
fair_counts (Err refusal) refs f g = fair_err refusal (f.can refusal refl)
fair_counts (Ok rows) (Err refusal) f g = fair_err refusal (g.can refusal refl)
fair_counts (Ok rows) (Ok refs) f g = fair_ok (rows, refs)

fair_placed : (deep : Bool) (m : Plain ℕ) (from to : Path) (new : Plain ℕ) → Fair (placed deep m from to new)
fair_placed deep m from to new =
    let sixth = if deep then Err refusals.BadPath else Ok new in
    let fifth = if is_file (m (parent to)) then Err refusals.NotADirectory else sixth in
    let fourth = if is_none (m (parent to)) then Err refusals.NotFound else fifth in
    let third = if is_some (m to) then Err refusals.Exists else fourth in
    let second = if begins from to then Err refusals.IntoItself else third in
    fair_if (same_path to from) (Err refusals.Exists) second (fair_err refusals.Exists (tt, bare))
    (fair_if (begins from to) (Err refusals.IntoItself) third (fair_err refusals.IntoItself (tt, bare))
    (fair_if (is_some (m to)) (Err refusals.Exists) fourth (fair_err refusals.Exists (tt, bare))
    (fair_if (is_none (m (parent to))) (Err refusals.NotFound) fifth (fair_err refusals.NotFound (tt, bare))
    (fair_if (is_file (m (parent to))) (Err refusals.NotADirectory) sixth (fair_err refusals.NotADirectory (tt, bare))
    (fair_if deep (Err refusals.BadPath) (Ok new) (fair_err refusals.BadPath (tt, bare)) (fair_ok new))))))

pub fair_edited : (edit : Edit) (rows : Rows ℕ) → Fair (edited edit rows)
fair_edited (edits.Mkdirs p) rows =
    let m = at rows in
    fair_tabled _ (mkdirs m p) (fair_if (is_file (m p)) (Err refusals.Exists) (if file_above m p then Err refusals.NotADirectory else Ok (with_dirs p m)) (fair_err refusals.Exists (tt, bare))
    (fair_if (file_above m p) (Err refusals.NotADirectory) (Ok (with_dirs p m)) (fair_err refusals.NotADirectory (tt, bare)) (fair_ok _)))
fair_edited (edits.Create p) rows =
    let m = at rows in
    fair_tabled _ (create m p) (fair_if (is_some (m p)) (Err refusals.Exists) (made m p (File [])) (fair_err refusals.Exists (tt, bare)) (fair_if (file_above m p) (Err refusals.NotADirectory) _ (fair_err refusals.NotADirectory (tt, bare)) (fair_ok _)))
fair_edited (edits.Rename from to) rows =
    let m = at rows in
    let deep = is_too_deep rows from in
    let moves = move_to (deep (target_of m from to)) m from (target_of m from to) in
    fair_tabled _ (rename deep m from to) (fair_if (same_path from []) (Err refusals.IsRoot) (if is_none (m from) then Err refusals.NotFound else moves) (fair_err refusals.IsRoot (tt, bare))
    (fair_if (is_none (m from)) (Err refusals.NotFound) moves (fair_err refusals.NotFound (tt, bare)) (fair_placed (deep (target_of m from to)) m from (target_of m from to) _)))
fair_edited (edits.Hide p moment number) rows =
    let m = at rows in
    let target = hidden_path p moment.0 number in
    let third = if is_some (m target) then Err refusals.Exists else Ok (moved p target m) in
    fair_tabled _ (hide m p moment.0 number) (fair_if (same_path p []) (Err refusals.IsRoot) (if is_none (m p) then Err refusals.NotFound else third) (fair_err refusals.IsRoot (tt, bare))
    (fair_if (is_none (m p)) (Err refusals.NotFound) third (fair_err refusals.NotFound (tt, bare)) (fair_if (is_some (m target)) (Err refusals.Exists) (Ok (moved p target m)) (fair_err refusals.Exists (tt, bare)) (fair_ok _))))
fair_edited (edits.Unhide p) rows = fair_tabled _ (unhidden (at rows) p (old_name p)) (by_name (old_name p))
  where
    by_name : (name : Option Name) → Fair (unhidden (at rows) p name)
    by_name None = fair_err refusals.NotHidden (tt, bare)
    by_name (Some name) =
        let m = at rows in
        let second = if is_some (m (beside p name)) then Err refusals.Exists else Ok (moved p (beside p name) m) in
        fair_if (is_none (m p)) (Err refusals.NotFound) second (fair_err refusals.NotFound (tt, bare)) (fair_if (is_some (m (beside p name))) (Err refusals.Exists) (Ok (moved p (beside p name) m)) (fair_err refusals.Exists (tt, bare)) (fair_ok _))
fair_edited (edits.Remove p) rows =
    let m = at rows in
    fair_tabled _ (remove m p) (fair_if (is_none (old_name p)) (Err refusals.NotHidden) (if is_none (m p) then Err refusals.NotFound else Ok (without p m)) (fair_err refusals.NotHidden (tt, bare))
    (fair_if (is_none (m p)) (Err refusals.NotFound) (Ok (without p m)) (fair_err refusals.NotFound (tt, bare)) (fair_ok _)))
fair_edited (edits.AddChunk p chunk) rows =
    let m = at rows in
    let all = Ok (with_chunks p (chunks_in (m p) ++ chunk ∷ []) m) in
    fair_tabled _ (add_chunk m p chunk) (fair_if (is_none (m p)) (Err refusals.NotFound) (if is_dir (m p) then Err refusals.IsADirectory else all) (fair_err refusals.NotFound (tt, bare))
    (fair_if (is_dir (m p)) (Err refusals.IsADirectory) all (fair_err refusals.IsADirectory (tt, bare)) (fair_ok _)))
fair_edited (edits.Cow p index old new) rows =
    let m = at rows in
    let all = Ok (with_chunks p (slice_set (chunks_in (m p)) index new) m) in
    let third = if not (nat_lt index (length (chunks_in (m p)))) then Err refusals.Range else all in
    fair_tabled _ (set_chunk m p index new) (fair_if (is_none (m p)) (Err refusals.NotFound) (if is_dir (m p) then Err refusals.IsADirectory else third) (fair_err refusals.NotFound (tt, bare))
    (fair_if (is_dir (m p)) (Err refusals.IsADirectory) third (fair_err refusals.IsADirectory (tt, bare)) (fair_if (not (nat_lt index (length (chunks_in (m p))))) (Err refusals.Range) all (fair_err refusals.Range (tt, bare)) (fair_ok _))))
fair_edited (edits.Snapshot from to) rows =
    let m = at rows in
    let deep = is_copied_too_deep rows from in
    let third = placed (deep to) m from to (copied from to m) in
    fair_tabled _ (snapshot deep m from to) (fair_if (same_path from []) (Err refusals.IsRoot) (if is_none (m from) then Err refusals.NotFound else third) (fair_err refusals.IsRoot (tt, bare))
    (fair_if (is_none (m from)) (Err refusals.NotFound) third (fair_err refusals.NotFound (tt, bare)) (fair_placed (deep to) m from to (copied from to m))))
fair_edited (edits.Forget chunks) rows = fair_ok rows

fair_then : (r : Result Counts Refusal) (next : Counts → Result Counts Refusal) → Fair r → ((m : Counts) → Fair (next m)) → Fair (counts.and_then r next)
fair_then (Ok m) next f g = g m
fair_then (Err refusal) next f g = fair_err refusal (f.can refusal refl)

fair_lowered : (m : Counts) (hs : List ℕ) → Fair (lowered_each m hs)
fair_lowered m [] = fair_ok m
fair_lowered m (h ∷ hs) = fair_then (lowered m h) (λ n. lowered_each n hs) (one (fin.get m h)) (λ n. fair_lowered n hs)
  where
    one : (o : Option ℕ) → Fair (lowered_from m h o)
    one None = fair_err refusals.BadLine (tt, bare)
    one (Some n) = fair_if (n == 0) (Err refusals.BadLine) (Ok _) (fair_err refusals.BadLine (tt, bare)) (fair_ok _)

fair_raised : (m : Counts) (hs : List ℕ) → Fair (raised_each m hs)
fair_raised m [] = fair_ok m
fair_raised m (h ∷ hs) = fair_then (raised_listed m h) (λ n. raised_each n hs) (one (fin.get m h)) (λ n. fair_raised n hs)
  where
    one : (o : Option ℕ) → Fair (raised_listed_from m h o)
    one None = fair_err refusals.BadLine (tt, bare)
    one (Some n) = fair_if (nat_lt n last_count) (Ok _) (Err refusals.Exhausted) (fair_ok _) (fair_err refusals.Exhausted (tt, bare))

fair_taken : (m : Counts) (hs : List ℕ) → Fair (taken_each m hs)
fair_taken m hs = fair_if (ascends hs && list_all (λ h. is_at_zero (fin.get m h)) hs) (Ok (without_each m hs)) (Err refusals.BadLine) (fair_ok _) (fair_err refusals.BadLine (tt, bare))

fair_counted : (edit : Edit) (rows : Rows ℕ) (refs : Counts) → Fair (counted edit rows refs)
fair_counted (edits.Mkdirs p) rows refs = fair_ok refs
fair_counted (edits.Create p) rows refs = fair_ok refs
fair_counted (edits.Rename from to) rows refs = fair_ok refs
fair_counted (edits.Hide p moment number) rows refs = fair_ok refs
fair_counted (edits.Unhide p) rows refs = fair_ok refs
fair_counted (edits.Remove p) rows refs = fair_lowered refs _
fair_counted (edits.AddChunk p chunk) rows refs = fair_ok _
fair_counted (edits.Cow p index old new) rows refs = fair_ok _
fair_counted (edits.Snapshot from to) rows refs = fair_raised refs _
fair_counted (edits.Forget chunks) rows refs = fair_taken refs chunks.items

fair_named : (edit : Edit) (rows : Rows ℕ) (refs : Counts) → Fair (named edit rows refs)
fair_named edit rows refs =
    fair_if (admits edit rows refs) (with_counts (edited edit rows) (counted edit rows refs)) (Err refusals.BadLine) (fair_counts (edited edit rows) (counted edit rows refs) (fair_edited edit rows) (fair_counted edit rows refs)) (fair_err refusals.BadLine (tt, bare))

fair_plain : (edit : PlainEdit) (rows : Rows ℕ) (refs : Counts) → Fair (named_plain edit rows refs)
fair_plain (Mkdirs p) rows refs = fair_named (edits.Mkdirs p) rows refs
fair_plain (Create p) rows refs = fair_named (edits.Create p) rows refs
fair_plain (Rename from to) rows refs = fair_named (edits.Rename from to) rows refs
fair_plain (Hide p moment number) rows refs = fair_named (edits.Hide p (record { 0 = moment }) number) rows refs
fair_plain (Unhide p) rows refs = fair_named (edits.Unhide p) rows refs
fair_plain (Remove p) rows refs = fair_named (edits.Remove p) rows refs
fair_plain (AddChunk p chunk) rows refs = fair_named (edits.AddChunk p chunk) rows refs
fair_plain (Cow p index old new) rows refs = fair_named (edits.Cow p index old new) rows refs
fair_plain (Snapshot from to) rows refs = fair_named (edits.Snapshot from to) rows refs
fair_plain (Forget chunks) rows refs = fair_counts (Ok rows) (taken_each refs chunks) (fair_ok rows) (fair_taken refs chunks)

-- what the names refuse can be told
pub fair_names : (edit : PlainEdit) (names : NamesView) → Fair (edited_names edit names)
unfolding edited_names
fair_names edit names = each (named_plain edit (fin.entries names.tree) names.refs) (fair_plain edit (fin.entries names.tree) names.refs)
  where
    each : (r : Result (Rows ℕ × Counts) Refusal) → Fair r → Fair (names_from r)
    each (Ok new) f = fair_ok _
    each (Err refusal) f = fair_err refusal (f.can refusal refl)

-- ---- refusals of look-ups

pub fair_found : (entry : Option (Entry ℕ)) (index : ℕ) → Fair (found_chunk entry index)
fair_found None index = fair_err refusals.NotFound (tt, bare)
fair_found (Some Dir) index = fair_err refusals.IsADirectory (tt, bare)
fair_found (Some (File chunks)) index = by_place (slice_get chunks index) refl
  where
    by_place : (o : Option ℕ) → slice_get chunks index ≡ o → Fair (found_chunk (Some (File chunks)) index)
    by_place None is = rw is (fair_err refusals.Range (tt, bare))
    by_place (Some chunk) is = rw is (fair_ok chunk)

pub fair_location : (d : Durable) (chunk : Result ℕ Refusal) → Fair chunk → Fair (location d chunk)
fair_location d (Err refusal) f = fair_err refusal (f.can refusal refl)
fair_location d (Ok chunk) f = by_view (view_in (fin.get d.chunks chunk))
  where
    by_view : (o : Option View) → Fair (location_on chunk d.epoch o)
    by_view None = fair_err refusals.NoReplica (tt, bare)
    by_view (Some view) = fair_ok _

pub fair_listing : (rows : Rows ℕ) (path : Path) (entry : Option (Entry ℕ)) → Fair (listing rows path entry)
fair_listing rows path None = fair_err refusals.NotFound (tt, bare)
fair_listing rows path (Some Dir) = fair_ok _
fair_listing rows path (Some (File chunks)) = fair_ok _

pub fair_status : (d : Durable) (entry : Option (Entry ℕ)) → Fair (status d entry)
fair_status d None = fair_err refusals.NotFound (tt, bare)
fair_status d (Some Dir) = fair_ok _
fair_status d (Some (File chunks)) = fair_ok _

-- ---- ordered refusals

-- a refusal, if one comes, can be told
abbrev pub IsFairly : Option Refusal → Type 0
IsFairly None = Unit {0}
IsFairly (Some refusal) = IsWritable refusal

abbrev pub IsFairTest : Bool × Refusal → Type 0
IsFairTest test = IsWritable test.1

pub first_fair : (tests : List (Bool × Refusal)) → AllByRecursion IsFairTest tests → IsFairly (first_of tests)
first_fair [] all = tt
first_fair (test ∷ tests) all = by_test test.0 (first_fair tests all.1)
  where
    by_test : (b : Bool) → IsFairly (first_of tests) → IsFairly (if b then Some test.1 else first_of tests)
    by_test true rest = all.0
    by_test false rest = rest
