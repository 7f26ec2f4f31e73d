-- An edit of the tree that changes the counts of a list of chunks.
use Rattle.std.proofs.Common.{◌≡◌, inl, inr, ℕ, Bool, true, false, cond, List, [], ◌∷◌, filter, refl, sym, ap, ◌∙◌, subst}
use Rattle.std.specs.Prelude.{Result, Ok, Err, is_ok, IfErr, MatchBool}
use Rattle.std.specs.FinMap.{FinMap, get, entries}
use Rattle.gs_base.specs.declared.refusal.Refusal.{Refusal}
use Rattle.gs_base.specs.declared.refusal.Refusal.TheVariants.{Memory, BadLine}
use Rattle.gs_path.specs.Path.{Path, path_cmp, begins}
use Rattle.gs_refs.specs.Counts as refs
use Rattle.gs_refs.specs.Counts.{Counts, raised_each, lowered_each}
use Rattle.gs_tree.specs.Entry.{Entry}
use Rattle.gs_tree.specs.Find.{Rows, is_copied_too_deep}
use Rattle.gs_tree.specs.Edits.{remove, snapshot}
use Rattle.gs_tree.specs.Follows as tree
use Rattle.gs_tree.specs.Chunks.{all_chunks, chunks_under, visible_chunks_under, part_chunks}
use Rattle.gs_tree.specs.Inverses.{TakesBack, takes_memory}
use Rattle.gs_tree.specs.declared.inverse.TreeInverse.{TreeInverse}
use Rattle.gs_tree.specs.declared.inverse.TreeInverse.TheVariants.{Removed}
use Rattle.gs_edit.specs.View.{names_of}
use Rattle.gs_edit.specs.Edits.{Applies, edited, renamed, with_counts}
use Rattle.gs_edit.specs.Names.{NamesTakenBack, accepted}
use Rattle.gs_edit.specs.declared.edit.Edit.TheVariants as edits
use Rattle.gs_edit.specs.declared.edit.Inverse.TheVariants as inverses
use Rattle.gs_edit.proofs.Covers.{applies-remove, applies-snapshot}
use Rattle.gs_edit.proofs.Applied.{same_names, same_tree, tree_of_rows}

-- what is sure to be accepted
pub follows_ok : (expected : Result Counts Refusal) (r : Result (Unit {0}) Refusal) (old new m : Counts) → expected ≡ Ok m → refs.CountsDo expected r old new → new ≡ m
follows_ok expected (Ok _) old new m is h = let k : ◌≡◌ {A = Result Counts Refusal} (Ok new) (Ok m) = sym h ∙ is in cc
follows_ok expected (Err e) old new m is h = absurd (let k : ◌≡◌ {A = Result Counts Refusal} (Ok m) (Err e) = sym is ∙ h.0 in cc)

pub remove_applies : (p : Path) (i : TreeInverse) (t u : FinMap path_cmp (Entry ℕ)) (m n : Counts) (hs : List ℕ) → hs ≡ chunks_under p (entries t) → lowered_each m hs ≡ Ok n → tree.FollowsPlain (remove (get t) p) (Ok i) (get t) (get u) → renamed (edits.Remove p) (names_of t m) ≡ Ok (entries u, n)
remove_applies p i t u m n hs are low h =
    ap (λ r. cond (is_ok r) (with_counts (edited (edits.Remove p) (entries t)) r) (Err BadLine)) (ap (lowered_each m) (sym are) ∙ low)
    ∙ ap (λ rows. with_counts rows (Ok n)) (applies-remove p (Ok i) t u h)

pub remove_refused : (p : Path) (e : Refusal) (t u : FinMap path_cmp (Entry ℕ)) (m l n : Counts) (hs : List ℕ) → hs ≡ chunks_under p (entries t) → lowered_each m hs ≡ Ok l → n ≡ m → tree.FollowsPlain {I = TreeInverse} (remove (get t) p) (Err e) (get t) (get u) → Applies {I = TreeInverse} (edits.Remove p) (names_of t m) (Err e) (names_of u n)
remove_refused p e t u m l n hs are low is h =
    let rows = applies-remove {I = TreeInverse} p (Err e) t u h in (
      elim rows.0 [
        | inl same ↦ inl (ap (λ r. cond (is_ok r) (with_counts (edited (edits.Remove p) (entries t)) r) (Err BadLine)) (ap (lowered_each m) (sym are) ∙ low) ∙ ap (λ r. with_counts r (Ok l)) same)
        | inr memory ↦ inr memory
      ],
      same_names u t n m (tree_of_rows u t rows.1) is,
    )

pub removed_back : (p : Path) (i : TreeInverse) (node : List (Path × Entry ℕ)) (t u : FinMap path_cmp (Entry ℕ)) (m n : Counts) (hs : List ℕ) → i ≡ Removed p node → TakesBack i (get t) (get u) → part_chunks node ≡ hs → raised_each n hs ≡ Ok m → NamesTakenBack (inverses.Tree i) (names_of t m) (names_of u n)
removed_back p i node t u m n hs is back are up =
    subst (λ (j : TreeInverse). TakesBack j (get t) (get u) → NamesTakenBack (inverses.Tree j) (names_of t m) (names_of u n)) (sym is)
    (λ b. record { fits = b.fits; tree = b.back; refs = ap (λ l. accepted (raised_each n l)) are ∙ ap accepted up }) back

-- no removal that the tree refuses leaves its place
pub remove_stays : (p : Path) (e : Refusal) (t u : FinMap path_cmp (Entry ℕ)) (m l n : Counts) (hs : List ℕ) → hs ≡ chunks_under p (entries t) → lowered_each m hs ≡ Ok l → n ≡ m → tree.FollowsPlain {I = Unit {0}} (remove (get t) p) (Err e) (get t) (get u) → Applies {I = Unit {0}} (edits.Remove p) (names_of t m) (Err e) (names_of u n)
remove_stays p e t u m l n hs are low is h =
    let rows = applies-remove {I = Unit {0}} p (Err e) t u h in (
      elim rows.0 [
        | inl same ↦ inl (ap (λ r. cond (is_ok r) (with_counts (edited (edits.Remove p) (entries t)) r) (Err BadLine)) (ap (lowered_each m) (sym are) ∙ low) ∙ ap (λ r. with_counts r (Ok l)) same)
        | inr memory ↦ inr memory
      ],
      same_names u t n m (tree_of_rows u t rows.1) is,
    )

-- references that are given back
pub given_back : (old given : Counts) (r : Result (Unit {0}) Refusal) (new : Counts) (hs : List ℕ) → raised_each old hs ≡ Ok given → refs.CountsDo (raised_each old hs) r old new → new ≡ given
given_back old given r new hs is h = follows_ok (raised_each old hs) r old new given is h

pub snapshot_applies : (from to : Path) (i : TreeInverse) (t u : FinMap path_cmp (Entry ℕ)) (m n : Counts) (hs : List ℕ) → hs ≡ visible_chunks_under from (entries t) → raised_each m hs ≡ Ok n → tree.FollowsPlain (snapshot (is_copied_too_deep (entries t) from) (get t) from to) (Ok i) (get t) (get u) → renamed (edits.Snapshot from to) (names_of t m) ≡ Ok (entries u, n)
snapshot_applies from to i t u m n hs are up h =
    ap (with_counts (edited (edits.Snapshot from to) (entries t))) (ap (raised_each m) (sym are) ∙ up)
    ∙ ap (λ rows. with_counts rows (Ok n)) (applies-snapshot from to (Ok i) t u h)

pub snapshot_refused : (from to : Path) (e : Refusal) (t u : FinMap path_cmp (Entry ℕ)) (m : Counts) → tree.FollowsPlain {I = TreeInverse} (snapshot (is_copied_too_deep (entries t) from) (get t) from to) (Err e) (get t) (get u) → Applies {I = TreeInverse} (edits.Snapshot from to) (names_of t m) (Err e) (names_of u m)
snapshot_refused from to e t u m h =
    let rows = applies-snapshot {I = TreeInverse} from to (Err e) t u h in (
      elim rows.0 [
        | inl same ↦ inl (ap (λ r. with_counts r (raised_each m (visible_chunks_under from (entries t)))) same)
        | inr memory ↦ inr memory
      ],
      same_names u t m m (tree_of_rows u t rows.1) refl,
    )

pub snapshot_uncounted : (from to : Path) (i : TreeInverse) (e : Refusal) (t u : FinMap path_cmp (Entry ℕ)) (m : Counts) (hs : List ℕ) → hs ≡ visible_chunks_under from (entries t) → raised_each m hs ≡ Err e → tree.FollowsPlain (snapshot (is_copied_too_deep (entries t) from) (get t) from to) (Ok i) (get t) (get u) → renamed (edits.Snapshot from to) (names_of t m) ≡ Err e
snapshot_uncounted from to i e t u m hs are up h =
    ap (with_counts (edited (edits.Snapshot from to) (entries t))) (ap (raised_each m) (sym are) ∙ up)
    ∙ ap (λ rows. with_counts rows (Err e)) (applies-snapshot from to (Ok i) t u h)

-- an inverse that fits and takes no memory is undone
pub surely_undone : (i : TreeInverse) (t u w : FinMap path_cmp (Entry ℕ)) (r : Result (Unit {0}) Refusal) → takes_memory i ≡ false → TakesBack i (get t) (get u) → tree.Undoes i (get u) r (get w) → IfErr r (λ e. takes_memory i ≡ false → e ≡ BadLine) → w ≡ t
surely_undone i t u w (Ok _) free back h bad = same_tree w t (λ q. h.1 q ∙ back.back q)
surely_undone i t u w (Err e) free back h bad = absurd (elim h.0 [
  | inl memory ↦ let k : Memory ≡ BadLine = sym memory ∙ bad free in cc
  | inr unfit ↦ unfit.1 back.fits
])

every_row : (rows : Rows ℕ) → filter (λ r. begins [] r.0) rows ≡ rows
every_row [] = refl
every_row (r ∷ rows) = ap (λ rest. r ∷ rest) (every_row rows)

-- the chunks under the root
pub chunks_of_all : (rows : Rows ℕ) → chunks_under [] rows ≡ all_chunks rows
chunks_of_all rows = ap (λ (l : Rows ℕ). all_chunks l) (every_row rows)

pub if_true : (P Q : Type 0) (b : Bool) → b ≡ true → MatchBool b P Q → P
if_true P Q true e h = h
if_true P Q false e h = absurd (cc)

pub if_false : (P Q : Type 0) (b : Bool) → b ≡ false → MatchBool b P Q → Q
if_false P Q true e h = absurd (cc)
if_false P Q false e h = h
