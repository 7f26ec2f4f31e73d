-- Each edit of the names is taken back by its inverse.
use Rattle.std.proofs.Common.{◌≡◌, ◌∙◌, ◌≤◌, ◌&&◌, ℕ, Bool, true, false, List, ◌++◌, map, not, length, nat_lt, get_or, slice_set, refl, sym, ap, subst}
use Rattle.std.specs.Prelude.{Option, Some, None, Result, Ok, Err, is_none, slice_get, if◌then◌else◌}
use Rattle.std.specs.FinMap as fin
use Rattle.std.proofs.lemmas.Bool.{false≢true, and_parts, ltb-true}
use Rattle.std.proofs.lemmas.Option.{slice_get-get_or}
use Rattle.gs_base.specs.declared.numbers.Moment.{Moment}
use Rattle.gs_base.specs.declared.refusal.Refusal.{Refusal}
use Rattle.gs_base.specs.declared.refusal.Refusal.TheVariants.{BadLine, IsADirectory, NotFound, Range}
use Rattle.gs_path.specs.Path.{Name, Path, path_cmp, path_total}
use Rattle.gs_refs.specs.Counts.{Counts, last_count, lowered_each, raised_each, raised_from}
use Rattle.gs_refs.proofs.EachLemmas.{lowered_back, raised_back, fitting}
use Rattle.gs_tree.specs.Chunks.{chunks_under, visible_chunks_under}
use Rattle.gs_tree.specs.Edits.{add_chunk, beside, chunks_in, is_dir, with_chunks, create, hidden_path, hide, mkdirs, old_name, remove, rename, set_chunk, snapshot, stood, target_of, unhidden, visible}
use Rattle.gs_tree.specs.Entry.{Entry}
use Rattle.gs_tree.specs.Find.{Rows, at, is_copied_too_deep, is_too_deep}
use Rattle.gs_tree.specs.Follows as tree
use Rattle.gs_tree.specs.Inverses.{TakesBack}
use Rattle.gs_tree.specs.Plain.{Plain, Same, part_at}
use Rattle.gs_tree.specs.declared.inverse.TreeInverse.{TreeInverse}
use Rattle.gs_tree.specs.declared.inverse.TreeInverse.TheVariants.{Made, Moved, Removed, Added, Changed, Copied}
use Rattle.gs_tree.proofs.Apart.{past, through}
use Rattle.gs_tree.proofs.Laws.{with_at-append}
use Rattle.gs_tree.proofs.Under.{chunks_of_copy, chunks_under-part}
use Rattle.gs_edit.specs.Edits.{admits, counted, edited, has_reference, holds_chunk, named, with_counts, handed_over}
use Rattle.gs_edit.specs.Names.{NamesTakenBack, accepted, counts_back, without_added, without_changed}
use Rattle.gs_edit.specs.Plain.{unhide_target}
use Rattle.gs_edit.specs.Table.{moved_path, paths_of, tabled}
use Rattle.gs_edit.specs.View.{NamesView, names_of}
use Rattle.gs_edit.specs.declared.edit.Edit.{Edit}
use Rattle.gs_edit.specs.declared.edit.Edit.TheVariants as edits
use Rattle.gs_edit.specs.declared.edit.Inverse.TheVariants as inverses
use Rattle.gs_edit.proofs.Applied.{added_last, changed_at, held}
use Rattle.gs_edit.proofs.Covers.{Covered, covered-add, covered-create, covered-hide, covered-mkdirs, covered-remove, covered-rename, covered-set, covered-snapshot, covered-unhide}
use Rattle.gs_edit.proofs.References.{added_back, handed_back, none_is, referred}
use Rattle.gs_edit.proofs.Tables.{at-covering, seen}
use Rattle.gs_laws_master.proofs.lemmas.names.Grown.{Grown, copy_stands, takes_add, takes_create, takes_hide, takes_mkdirs, takes_remove, takes_rename, takes_set, takes_snapshot, takes_unhide}

-- ---- the parts of an edit

abbrev pub Parts : Result (Rows ℕ) Refusal → Result Counts Refusal → Rows ℕ → Counts → Type 0
Parts rows refs new counts = (rows ≡ Ok new) × (refs ≡ Ok counts)

abbrev new_rows : Rows ℕ → Result (Rows ℕ × Counts) Refusal → Rows ℕ
new_rows other (Ok new) = new.0
new_rows other (Err e) = other

abbrev new_counts : Counts → Result (Rows ℕ × Counts) Refusal → Counts
new_counts other (Ok new) = new.1
new_counts other (Err e) = other

abbrev fails : Result (Rows ℕ × Counts) Refusal → Bool
fails (Ok new) = false
fails (Err e) = true

pub with_parts : (rows : Result (Rows ℕ) Refusal) (refs : Result Counts Refusal) (new : Rows ℕ × Counts) → with_counts rows refs ≡ Ok new → Parts rows refs new.0 new.1
with_parts (Ok rows) (Ok refs) new e = (ap (λ r. Ok (new_rows rows r)) e, ap (λ r. Ok (new_counts refs r)) e)
with_parts (Ok rows) (Err f) new e = absurd (false≢true (sym (ap fails e)))
with_parts (Err f) refs new e = absurd (false≢true (sym (ap fails e)))

pub record Admitted (edit : Edit) (old : Rows ℕ) (refs : Counts) (new : Rows ℕ) (more : Counts) : Type 0 where
  pub asked : admits edit old refs ≡ true
  pub rows : edited edit old ≡ Ok new
  pub counts : counted edit old refs ≡ Ok more

pub admitted : (edit : Edit) (rows : Rows ℕ) (refs : Counts) (new : Rows ℕ × Counts) → named edit rows refs ≡ Ok new → Admitted edit rows refs new.0 new.1
admitted edit rows refs new e = each (admits edit rows refs) refl e
  where
    each : (b : Bool) → admits edit rows refs ≡ b → (if b then with_counts (edited edit rows) (counted edit rows refs) else Err BadLine) ≡ Ok new → Admitted edit rows refs new.0 new.1
    each true is h = let parts = with_parts (edited edit rows) (counted edit rows refs) new h in record { asked = is; rows = parts.0; counts = parts.1 }
    each false is h = absurd (false≢true (sym (ap fails h)))

-- what a command gives, as rows
pub record IsDone (r : Result (Plain ℕ) Refusal) (new : Rows ℕ) : Type 0 where
  pub plain : Plain ℕ
  pub is : r ≡ Ok plain
  pub same : fin.get (fin.from_entries {R = path_cmp} new) ≡ plain

table_is : (ps : List Path) (r : Result (Plain ℕ) Refusal) (new : Rows ℕ) → Covered ps r → tabled ps r ≡ Ok new → IsDone r new
table_is ps (Ok m) new covers e =
    record { plain = m; is = refl; same = λ i q. (ap (λ (rows : Rows ℕ). fin.get (fin.from_entries {R = path_cmp} rows) q) (sym (ok_is e)) ∙ fin.get-from_entries path_total _ q ∙ at-covering ps m covers q) i }
  where
    ok_is : {a b : Rows ℕ} → ◌≡◌ {A = Result (Rows ℕ) Refusal} (Ok a) (Ok b) → a ≡ b
    ok_is h = cc
table_is ps (Err f) new covers e = absurd (let h = e in cc)

-- of names that stand: what stood before, and what stands now
pub done_of : (ps : List Path) (command : Plain ℕ → Result (Plain ℕ) Refusal) (t : fin.FinMap path_cmp (Entry ℕ)) (new : Rows ℕ) → Covered ps (command (at (fin.entries t))) → tabled ps (command (at (fin.entries t))) ≡ Ok new → IsDone (command (fin.get t)) new
done_of ps command t new covers e = subst (λ (m : Plain ℕ). IsDone (command m) new) (sym (seen t)) (table_is ps (command (at (fin.entries t))) new covers e)

-- an inverse that takes the command back takes the edit back
pub back_of : (i : TreeInverse) (command : Result (Plain ℕ) Refusal) (old : NamesView) (new : Rows ℕ) (refs : Counts) → IsDone command new → ((n : Plain ℕ) → command ≡ Ok n → TakesBack i (fin.get old.tree) n)
    → counts_back i (fin.from_entries new) refs ≡ Some old.refs → NamesTakenBack (inverses.Tree i) old (names_of (fin.from_entries new) refs)
back_of i command old new refs done takes counts =
    let back = subst (λ (n : Plain ℕ). TakesBack i (fin.get old.tree) n) (sym done.same) (takes done.plain done.is) in
    record { fits = back.fits; tree = back.back; refs = counts }

same_refs : (refs counts : Counts) → ◌≡◌ {A = Result Counts Refusal} (Ok refs) (Ok counts) → Some counts ≡ Some refs
same_refs refs counts e = let k : refs ≡ counts = cc in ap Some (sym k)

-- ---- edits that leave the counts

abbrev TakesEdit : TreeInverse → Edit → NamesView → Type 0
TakesEdit i edit old = (new : Rows ℕ × Counts) → named edit (fin.entries old.tree) old.refs ≡ Ok new → NamesTakenBack (inverses.Tree i) old (names_of (fin.from_entries new.0) new.1)

pub back_mkdirs : (p : Path) (old : NamesView) → Grown (fin.get old.tree) → TakesEdit (Made p (stood (fin.get old.tree) p)) (edits.Mkdirs p) old
back_mkdirs p old t new e =
    let rows = fin.entries old.tree in
    let parts = admitted (edits.Mkdirs p) rows old.refs new e in
    back_of (Made p (stood (fin.get old.tree) p)) (mkdirs (fin.get old.tree) p) old new.0 new.1 (done_of _ (λ m. mkdirs m p) old.tree new.0 (covered-mkdirs rows p) parts.rows) (λ n is. takes_mkdirs (fin.get old.tree) n p t is) (same_refs old.refs new.1 parts.counts)

pub back_create : (p : Path) (old : NamesView) → Grown (fin.get old.tree) → TakesEdit (Made p (stood (fin.get old.tree) p)) (edits.Create p) old
back_create p old t new e =
    let rows = fin.entries old.tree in
    let parts = admitted (edits.Create p) rows old.refs new e in
    back_of (Made p (stood (fin.get old.tree) p)) (create (fin.get old.tree) p) old new.0 new.1 (done_of _ (λ m. create m p) old.tree new.0 (covered-create rows p) parts.rows) (λ n is. takes_create (fin.get old.tree) n p t is) (same_refs old.refs new.1 parts.counts)

pub back_rename : (from to : Path) (old : NamesView) → Grown (fin.get old.tree) → TakesEdit (Moved from (target_of (fin.get old.tree) from to)) (edits.Rename from to) old
back_rename from to old t new e =
    let rows = fin.entries old.tree in
    let parts = admitted (edits.Rename from to) rows old.refs new e in
    back_of (Moved from (target_of (fin.get old.tree) from to)) (rename (is_too_deep rows from) (fin.get old.tree) from to) old new.0 new.1 (done_of _ (λ m. rename (is_too_deep rows from) m from to) old.tree new.0 (covered-rename rows from to) parts.rows)
    (λ n is. takes_rename (is_too_deep rows from) (fin.get old.tree) n from to t is) (same_refs old.refs new.1 parts.counts)

pub back_hide : (p : Path) (moment : Moment) (number : ℕ) (old : NamesView) → Grown (fin.get old.tree) → TakesEdit (Moved p (hidden_path p moment.0 number)) (edits.Hide p moment number) old
back_hide p moment number old t new e =
    let rows = fin.entries old.tree in
    let parts = admitted (edits.Hide p moment number) rows old.refs new e in
    back_of (Moved p (hidden_path p moment.0 number)) (hide (fin.get old.tree) p moment.0 number) old new.0 new.1 (done_of _ (λ m. hide m p moment.0 number) old.tree new.0 (covered-hide rows p moment.0 number) parts.rows)
    (λ n is. takes_hide (fin.get old.tree) n p moment.0 number t is) (same_refs old.refs new.1 parts.counts)

pub back_unhide : (p : Path) (old : NamesView) → Grown (fin.get old.tree) → TakesEdit (Moved p (unhide_target p (old_name p))) (edits.Unhide p) old
back_unhide p old t new e =
    let rows = fin.entries old.tree in
    let parts = admitted (edits.Unhide p) rows old.refs new e in by_name (old_name p) refl parts.rows (same_refs old.refs new.1 parts.counts)
  where
    by_name : (name : Option Name) → old_name p ≡ name → tabled (paths_of (fin.entries old.tree) ++ map (moved_path p (unhide_target p name)) (paths_of (fin.entries old.tree))) (unhidden (at (fin.entries old.tree)) p name) ≡ Ok new.0 → Some new.1 ≡ Some old.refs
        → NamesTakenBack (inverses.Tree (Moved p (unhide_target p name))) old (names_of (fin.from_entries new.0) new.1)
    by_name None is h same = absurd (let k = h in cc)
    by_name (Some name) is h same =
        back_of (Moved p (beside p name)) (unhidden (fin.get old.tree) p (Some name)) old new.0 new.1 (done_of _ (λ m. unhidden m p (Some name)) old.tree new.0 (covered-unhide (fin.entries old.tree) p (Some name)) h)
        (λ n done. takes_unhide (fin.get old.tree) n p name t is done) same

-- ---- edits of chunks

pub back_add : (p : Path) (chunk : ℕ) (old : NamesView) → TakesEdit (Added p) (edits.AddChunk p chunk) old
back_add p chunk old new e =
    let rows = fin.entries old.tree in
    let all = admitted (edits.AddChunk p chunk) rows old.refs new e in
    let done = done_of _ (λ m. add_chunk m p chunk) old.tree new.0 (covered-add rows p chunk) all.rows in
    let follows : tree.FollowsPlain (add_chunk (fin.get old.tree) p chunk) (Ok (Added p)) (fin.get old.tree) (fin.get (fin.from_entries {R = path_cmp} new.0)) =
    subst (λ (r : Result (Plain ℕ) Refusal). tree.FollowsPlain r (Ok (Added p)) (fin.get old.tree) (fin.get (fin.from_entries {R = path_cmp} new.0))) (sym done.is) (λ q. ap (λ (m : Plain ℕ). m q) done.same) in
    let refs : fin.insert old.refs chunk 1 ≡ new.1 = ok_is all.counts in
    let none = none_is (fin.get old.refs chunk) all.asked in
    back_of (Added p) (add_chunk (fin.get old.tree) p chunk) old new.0 new.1 done (λ n is. takes_add (fin.get old.tree) n p chunk is)
    (ap (without_added new.1) (added_last (fin.get old.tree) (fin.get (fin.from_entries {R = path_cmp} new.0)) p chunk (Added p) follows)
    ∙ added_back old.refs new.1 chunk all.asked (ap (raised_from old.refs chunk) none ∙ ap Ok refs))
  where
    ok_is : {a b : Counts} → ◌≡◌ {A = Result Counts Refusal} (Ok a) (Ok b) → a ≡ b
    ok_is h = cc

set_inside : (m n : Plain ℕ) (p : Path) (index chunk : ℕ) → set_chunk m p index chunk ≡ Ok n → (had : ℕ) × (slice_get (chunks_in (m p)) index ≡ Some had)
set_inside m n p index chunk e =
    let chunks = chunks_in (m p) in
    let e1 = past (is_none (m p)) NotFound _ n e in
    let e2 = past (is_dir (m p)) IsADirectory _ n e1 in
    let low = ltb-true index (length chunks) (not_not (nat_lt index (length chunks)) (through (not (nat_lt index (length chunks))) Range (Ok (with_chunks p (slice_set chunks index chunk) m)) n e2)) in
    (get_or chunks index 0, slice_get-get_or chunks index 0 low)
  where
    not_not : (b : Bool) → not b ≡ false → b ≡ true
    not_not true h = refl
    not_not false h = absurd (false≢true (sym h))

pub back_cow : (p : Path) (index before chunk : ℕ) (old : NamesView) → TakesEdit (Changed p index before) (edits.Cow p index before chunk) old
back_cow p index before chunk old new e =
    let rows = fin.entries old.tree in
    let all = admitted (edits.Cow p index before chunk) rows old.refs new e in
    let done = done_of _ (λ m. set_chunk m p index chunk) old.tree new.0 (covered-set rows p index chunk) all.rows in
    let follows : tree.FollowsPlain (set_chunk (fin.get old.tree) p index chunk) (Ok (Added p)) (fin.get old.tree) (fin.get (fin.from_entries {R = path_cmp} new.0)) =
    subst (λ (r : Result (Plain ℕ) Refusal). tree.FollowsPlain r (Ok (Added p)) (fin.get old.tree) (fin.get (fin.from_entries {R = path_cmp} new.0))) (sym done.is) (λ q. ap (λ (m : Plain ℕ). m q) done.same) in
    let refs : handed_over old.refs before chunk ≡ new.1 = ok_is all.counts in
    let asked = and_parts (is_none (fin.get old.refs chunk)) (holds_chunk (slice_get (chunks_in (at rows p)) index) before && has_reference (fin.get old.refs before)) all.asked in
    let rest = and_parts (holds_chunk (slice_get (chunks_in (at rows p)) index) before) (has_reference (fin.get old.refs before)) asked.1 in
    let own = set_inside (fin.get old.tree) done.plain p index chunk done.is in
    let is : own.0 ≡ before = held (slice_get (chunks_in (fin.get old.tree p)) index) own.0 before own.1 (ap (λ (m : Plain ℕ). holds_chunk (slice_get (chunks_in (m p)) index) before) (seen old.tree) ∙ rest.0) in
    let some = referred old.refs before rest.1 in
    back_of (Changed p index before) (set_chunk (fin.get old.tree) p index chunk) old new.0 new.1 done (λ n made. takes_set (fin.get old.tree) n p index chunk before made (own.1 ∙ ap Some is))
    (ap (λ v. without_changed new.1 v before) (changed_at (fin.get old.tree) (fin.get (fin.from_entries {R = path_cmp} new.0)) p index chunk (Added p) follows)
    ∙ ap (λ (m : Counts). without_changed m (Some chunk) before) (sym refs) ∙ handed_back old.refs before chunk some.0 asked.0 some.1)
  where
    ok_is : {a b : Counts} → ◌≡◌ {A = Result Counts Refusal} (Ok a) (Ok b) → a ≡ b
    ok_is h = cc

-- ---- what is copied, and what is removed

pub back_snapshot : (from to : Path) (old : NamesView) → Grown (fin.get old.tree) → TakesEdit (Copied to) (edits.Snapshot from to) old
back_snapshot from to old t new e =
    let rows = fin.entries old.tree in
    let parts = admitted (edits.Snapshot from to) rows old.refs new e in
    let done = done_of _ (λ m. snapshot (is_copied_too_deep rows from) m from to) old.tree new.0 (covered-snapshot rows from to) parts.rows in
    let now = fin.from_entries {R = path_cmp} new.0 in
    let stands = copy_stands (is_copied_too_deep rows from) (fin.get old.tree) done.plain from to done.is in
    let part : Same (part_at to (fin.get now)) (visible (part_at from (fin.get old.tree))) =
    λ q. ap (λ (m : Plain ℕ). m (to ++ q)) done.same ∙ stands (to ++ q) ∙ with_at-append to (visible (part_at from (fin.get old.tree))) (fin.get old.tree) q in
    back_of (Copied to) (snapshot (is_copied_too_deep rows from) (fin.get old.tree) from to) old new.0 new.1 done (λ n is. takes_snapshot (is_copied_too_deep rows from) (fin.get old.tree) n from to t is)
    (ap (λ hs. accepted (lowered_each new.1 hs)) (chunks_of_copy old.tree now from to part) ∙ ap accepted (lowered_back (visible_chunks_under from rows) old.refs new.1 parts.counts))

-- each count can be told
abbrev pub FitCounts : Counts → Type 0
FitCounts refs = (chunk count : ℕ) → fin.get refs chunk ≡ Some count → count ≤ last_count

pub back_remove : (p : Path) (node : Rows ℕ) (old : NamesView) → Grown (fin.get old.tree) → Same (part_at p (fin.get old.tree)) (at node) → fitting old.refs (chunks_under p (fin.entries old.tree)) ≡ true → TakesEdit (Removed p node) (edits.Remove p) old
back_remove p node old t part fit new e =
    let rows = fin.entries old.tree in
    let parts = admitted (edits.Remove p) rows old.refs new e in
    back_of (Removed p node) (remove (fin.get old.tree) p) old new.0 new.1 (done_of _ (λ m. remove m p) old.tree new.0 (covered-remove rows p) parts.rows) (λ n is. takes_remove (fin.get old.tree) n p node t is part)
    (ap (λ hs. accepted (raised_each new.1 hs)) (sym (chunks_under-part old.tree p node part)) ∙ ap accepted (raised_back (chunks_under p rows) old.refs new.1 parts.counts fit))
