-- Why the tree refuses a snapshot, and what one begins.
use Rattle.std.proofs.Common.{◌≡◌, ◌≢◌, ◌∙◌, ℕ, ◌+◌, ◌*◌, Bool, true, false, not, List, [], ◌∷◌, length, Option, Some, None, Result, Ok, Err, refl, ap}
use Rattle.std.specs.Prelude.{nat_le, nat_lt, is_none, is_some, if◌then◌else◌}
use Rattle.std.specs.FinMap as fin
use Rattle.std.specs.List.{list_any}
use Rattle.gs_base.specs.declared.numbers.ReqId.{ReqId}
use Rattle.gs_base.specs.declared.refusal.Refusal.{Refusal}
use Rattle.gs_base.specs.declared.refusal.Refusal.TheVariants as refusals
use Rattle.gs_path.specs.Path.{Path, begins}
use Rattle.gs_refs.specs.Counts.{Counts, and_then as then_counts, last_count, raised_each, raised_listed_from}
use Rattle.gs_tree.specs.Chunks.{visible_chunks_under}
use Rattle.gs_tree.specs.Edits.{copied, is_file, parent, same_path, snapshot}
use Rattle.gs_tree.specs.Find.{Rows, at, is_copied_too_deep}
use Rattle.gs_tree.specs.Plain.{Plain}
use Rattle.gs_edit.specs.Edits.{edited, with_counts}
use Rattle.gs_edit.specs.Plain.{snapshot_rows}
use Rattle.gs_edit.specs.Table.{tabled}
use Rattle.gs_edit.specs.View.{NamesView}
use Rattle.gs_edit.specs.declared.edit.Edit.TheVariants as edits
use Rattle.gs_lease.specs.declared.view.Purpose.TheVariants as purposes
use Rattle.gs_master_record.specs.Plain.{Snapshot}
use Rattle.gs_master_spec.specs.Beginning.{all_begun, has_versions}
use Rattle.gs_master_spec.specs.State.{State, Turn, and_then, done, fits, refused, turned}
use Rattle.gs_master_state.specs.inner.Trying.{of_tree, refusal_of}
use Rattle.gs_master_spec.specs.Undoing.{edited_names, names_from}
use Rattle.gs_master_spec.specs.Working.{begin_pending, begins_snapshot, is_wanted_at}
use Rattle.gs_master_spec.specs.declared.pending.Waiting.TheVariants as waits
use Rattle.gs_master.proofs.Proposals.{proposals_fit}

-- ---- refusals

abbrev IsTrees : {A : Type 0} → Result A Refusal → Type 0
IsTrees r = of_tree (refusal_of r) ≡ refusal_of r

abbrev IsCounts : {A : Type 0} → Result A Refusal → Type 0
IsCounts r = of_tree (refusal_of r) ≡ None

-- the tests of a snapshot, in their order
placed_so : {A : Type 0} (root none same under stands above file deep : Bool) (new : A) → IsTrees
    (if root then Err refusals.IsRoot
    else if none then Err refusals.NotFound
    else if same then Err refusals.Exists
    else if under then Err refusals.IntoItself
    else if stands then Err refusals.Exists
    else if above then Err refusals.NotFound
    else if file then Err refusals.NotADirectory
    else if deep then Err refusals.BadPath
    else Ok new)
placed_so true none same under stands above file deep new = refl
placed_so false true same under stands above file deep new = refl
placed_so false false true under stands above file deep new = refl
placed_so false false false true stands above file deep new = refl
placed_so false false false false true above file deep new = refl
placed_so false false false false false true file deep new = refl
placed_so false false false false false false true deep new = refl
placed_so false false false false false false false true new = refl
placed_so false false false false false false false false new = refl

snapshot_trees : (is_deep : Path → Bool) (m : Plain ℕ) (from to : Path) → IsTrees (snapshot is_deep m from to)
snapshot_trees is_deep m from to =
    placed_so (same_path from []) (is_none (m from)) (same_path to from) (begins from to) (is_some (m to)) (is_none (m (parent to))) (is_file (m (parent to))) (is_deep to) (copied from to m)

tabled_trees : (paths : List Path) (r : Result (Plain ℕ) Refusal) → IsTrees r → IsTrees (tabled paths r)
tabled_trees paths (Ok m) h = refl
tabled_trees paths (Err e) h = h

rows_trees : (rows : Rows ℕ) (from to : Path) → IsTrees (snapshot_rows rows from to)
rows_trees rows from to = tabled_trees _ (snapshot (is_copied_too_deep rows from) (at rows) from to) (snapshot_trees (is_copied_too_deep rows from) (at rows) from to)

further : (m : Counts) (chunk : ℕ) (chunks : List ℕ) → ((n : Counts) → IsCounts (raised_each n chunks)) → (count : Option ℕ) → IsCounts (then_counts (raised_listed_from m chunk count) (λ n. raised_each n chunks))
further m chunk chunks rest None = refl
further m chunk chunks rest (Some n) = tested (nat_lt n last_count)
  where
    tested : (b : Bool) → IsCounts (then_counts (if b then Ok (fin.insert m chunk (n + 1)) else Err refusals.Exhausted) (λ n. raised_each n chunks))
    tested true = rest (fin.insert m chunk (n + 1))
    tested false = refl

raised_counts : (m : Counts) (chunks : List ℕ) → IsCounts (raised_each m chunks)
raised_counts m [] = refl
raised_counts m (chunk ∷ chunks) = further m chunk chunks (λ n. raised_counts n chunks) (fin.get m chunk)

by_both : (tree : Result (Rows ℕ) Refusal) (refs : Result Counts Refusal) → IsTrees tree → IsCounts refs → of_tree (refusal_of (names_from (with_counts tree refs))) ≡ refusal_of tree
by_both (Err e) refs h k = h
by_both (Ok rows) (Err e) h k = k
by_both (Ok rows) (Ok refs) h k = refl

pub by_tree : (from to : Path) (names : NamesView) → of_tree (refusal_of (edited_names (Snapshot from to) names)) ≡ refusal_of (edited (edits.Snapshot from to) (fin.entries names.tree))
unfolding edited_names
by_tree from to names =
    by_both (snapshot_rows (fin.entries names.tree) from to) (raised_each names.refs (visible_chunks_under from (fin.entries names.tree))) (rows_trees (fin.entries names.tree) from to)
    (raised_counts names.refs (visible_chunks_under from (fin.entries names.tree)))

-- ---- chunks that are made quiet

pub none_of : (chunks : List ℕ) → length chunks ≡ 0 → chunks ≡ []
none_of [] is = refl
none_of (chunk ∷ chunks) is = cc

abbrev pub begins_quiet : State → ReqId → Path → Path → List ℕ → Turn
begins_quiet s req from to chunks = and_then (turned s (begin_pending req (waits.Snapshot from to))) (λ next. all_begun next chunks purposes.Quiet (Some req))

begins_so : (s : State) (req : ReqId) (from to : Path) (chunks : List ℕ) → chunks ≢ [] → begins_snapshot s req from to chunks ≡
    (if list_any (is_wanted_at s) chunks then refused s req refusals.Locked
    else if not (has_versions s.durable (length chunks)) then refused s req refusals.Exhausted
    else if fits s.log (begins_quiet s req from to chunks).records then begins_quiet s req from to chunks
    else refused s req refusals.Full)
begins_so s req from to [] some = absurd (some refl)
begins_so s req from to (chunk ∷ chunks) some = refl

first_so : (a b c : Bool) (x y z w : Turn) → a ≡ true → (if a then x else if not b then y else if c then z else w) ≡ x
first_so a b c x y z w h = ap (λ t. if t then x else if not b then y else if c then z else w) h

second_so : (a b c : Bool) (x y z w : Turn) → a ≡ false → b ≡ false → (if a then x else if not b then y else if c then z else w) ≡ y
second_so a b c x y z w h k = ap (λ t. if t then x else if not b then y else if c then z else w) h ∙ ap (λ t. if not t then y else if c then z else w) k

third_so : (a b c d : Bool) (x y z w : Turn) → a ≡ false → b ≡ true → c ≡ d → (if a then x else if not b then y else if c then z else w) ≡ (if d then z else w)
third_so a b c d x y z w h k l =
    ap (λ t. if t then x else if not b then y else if c then z else w) h ∙ ap (λ t. if not t then y else if c then z else w) k ∙ ap (λ t. if t then z else w) l

module _ (s : State) (req : ReqId) (from to : Path) (chunks : List ℕ) (some : chunks ≢ []) where
  pub while_wanted : list_any (is_wanted_at s) chunks ≡ true → begins_snapshot s req from to chunks ≡ refused s req refusals.Locked
  while_wanted wanted =
      begins_so s req from to chunks some
      ∙ first_so (list_any (is_wanted_at s) chunks) (has_versions s.durable (length chunks)) (fits s.log (begins_quiet s req from to chunks).records) (refused s req refusals.Locked)
      (refused s req refusals.Exhausted) (begins_quiet s req from to chunks) (refused s req refusals.Full) wanted

  pub without_versions : list_any (is_wanted_at s) chunks ≡ false → has_versions s.durable (length chunks) ≡ false → begins_snapshot s req from to chunks ≡ refused s req refusals.Exhausted
  without_versions free none =
      begins_so s req from to chunks some
      ∙ second_so (list_any (is_wanted_at s) chunks) (has_versions s.durable (length chunks)) (fits s.log (begins_quiet s req from to chunks).records) (refused s req refusals.Locked)
      (refused s req refusals.Exhausted) (begins_quiet s req from to chunks) (refused s req refusals.Full) free none

  pub by_room : (room : Bool) → list_any (is_wanted_at s) chunks ≡ false → has_versions s.durable (length chunks) ≡ true → nat_le (s.log.size + length chunks * 22) s.log.limit ≡ room →
      begins_snapshot s req from to chunks ≡ (if room then begins_quiet s req from to chunks else refused s req refusals.Full)
  by_room room free left is =
      begins_so s req from to chunks some
      ∙ third_so (list_any (is_wanted_at s) chunks) (has_versions s.durable (length chunks)) (fits s.log (begins_quiet s req from to chunks).records) room (refused s req refusals.Locked)
      (refused s req refusals.Exhausted) (begins_quiet s req from to chunks) (refused s req refusals.Full) free left
      (proposals_fit (done s (begin_pending req (waits.Snapshot from to))) chunks purposes.Quiet (Some req) ∙ is)
