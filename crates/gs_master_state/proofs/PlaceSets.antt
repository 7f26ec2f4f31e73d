-- Paths of which none is longer than another: where that begins none but itself.
use Rattle.std.proofs.Common.{◌≡◌, ◌∙◌, ◌||◌, ◌+◌, ◌≤◌, ℕ, Bool, true, false, cond, List, [], ◌∷◌, ◌++◌, append-nil, length, length-append, arith, refl, ap, subst, sym}
use Rattle.std.specs.List.{list_any}
use Rattle.std.specs.Prelude.{Option, Some, None, MatchOption, option_to_list}
use Rattle.std.specs.Cmp.{eq_by_cmp_equiv}
use Rattle.std.specs.BTreeSet.{BTreeSet, Updates}
use Rattle.std.proofs.lemmas.List.Folds.{list_any-append}
use Rattle.gs_path.specs.Path.{Path, begins, path_cmp, path_total}
use Rattle.gs_tree.specs.Edits.{same_path}
use Rattle.gs_tree.specs.Plain.{after}
use Rattle.gs_tree.proofs.Chunks.{same_itself}
use Rattle.gs_tree.proofs.Laws.{begins_append}
use Rattle.gs_tree.proofs.Reaching.{same_path-is}
use Rattle.gs_tree.proofs.Splice.{begins_parts}
use Rattle.gs_master_state.specs.inner.Held.{all_but_last, is_at}
use Rattle.gs_master_state.specs.inner.Places.{AreWithin, HasJust}

both_ways : (a b : Bool) → (a ≡ true → b ≡ true) → (b ≡ true → a ≡ true) → a ≡ b
both_ways true b to back = sym (to refl)
both_ways false true to back = back refl
both_ways false false to back = refl

-- nothing lies behind a path in one that isn't longer
nothing_behind : (p rest : Path) → length (p ++ rest) ≤ length p → p ++ rest ≡ p
nothing_behind p [] short = append-nil p
nothing_behind p (x ∷ rest) short = absurd (let more = length-append p (x ∷ rest) in omega arith)

begins_alone : (p q : Path) → length q ≤ length p → begins p q ≡ true → same_path p q ≡ true
begins_alone p q short front = let is = begins_parts p q front in
    ap (same_path p) (is ∙ nothing_behind p (after p q) (subst (λ r. length r ≤ length p) is short)) ∙ same_itself p

begins_itself : (p q : Path) → same_path p q ≡ true → begins p q ≡ true
begins_itself p q same = ap (begins p) (sym (same_path-is p q same) ∙ sym (append-nil p)) ∙ begins_append p []

pub over_is_at : (p : Path) (most : ℕ) (places : List Path) → most ≤ length p → AreWithin most places → is_at places p ≡ list_any (begins p) places
over_is_at p most [] long within = refl
over_is_at p most (q ∷ places) long within =
    ap (λ b. b || is_at places p) (both_ways (same_path p q) (begins p q) (begins_itself p q) (begins_alone p q (let short = within.0 in omega arith)))
    ∙ ap (λ b. begins p q || b) (over_is_at p most places long within.1)

pub within_more : (least most : ℕ) (places : List Path) → least ≤ most → AreWithin least places → AreWithin most places
within_more least most [] more within = tt
within_more least most (p ∷ places) more within = (let short = within.0 in omega arith, within_more least most places more within.1)

pub within_and : (most : ℕ) (places : List Path) (p : Path) → AreWithin most places → length p ≤ most → AreWithin most (places ++ p ∷ [])
within_and most [] p within short = (short, tt)
within_and most (q ∷ places) p within short = (within.0, within_and most places p within.1 short)

pub within_but_last : (most : ℕ) (places : List Path) → AreWithin most places → AreWithin most (all_but_last places)
within_but_last most [] within = tt
within_but_last most (p ∷ []) within = tt
within_but_last most (p ∷ q ∷ places) within = (within.0, within_but_last most (q ∷ places) within.1)

pub but_last : (places : List Path) (p : Path) → all_but_last (places ++ p ∷ []) ≡ places
but_last [] p = refl
but_last (q ∷ []) p = refl
but_last (q ∷ r ∷ places) p = ap (λ ps. q ∷ ps) (but_last (r ∷ places) p)

pub one_left : (paths : List Path) → length paths ≤ 1 → [] ≡ all_but_last paths
one_left [] short = refl
one_left (p ∷ []) short = refl
one_left (p ∷ q ∷ paths) short = absurd (omega arith)

-- all but the last are left once one is taken off
pub rest_is : (old new : List Path) (popped : Option Path) → old ≡ new ++ option_to_list popped → (m n : ℕ) → m ≡ length old → n ≡ length new → MatchOption popped ((m ≡ 0) × (n ≡ 0)) (λ _. n + 1 ≡ m) → new ≡ all_but_last old
rest_is old [] None items m n long left k = ap all_but_last (sym items)
rest_is old (p ∷ new) None items m n long left k = absurd (let z = k.1 in cc)
rest_is old new (Some p) items m n long left k = sym (but_last new p) ∙ ap all_but_last (sym items)

or_true : (a b c : Bool) → a ≡ c → cond a true b ≡ (b || (c || false))
or_true true true c same = refl
or_true true false c same = ap (λ b. b || false) same
or_true false true c same = refl
or_true false false c same = ap (λ b. b || false) same

pub has_just_and : (old new : BTreeSet Path) (places : List Path) (p : Path) → Updates path_cmp old new p true → HasJust (Some old) places → HasJust (Some new) (places ++ p ∷ [])
has_just_and old new places p updates has q =
    updates.0 q ∙ ap (λ b. cond (same_path p q) true b) (has q) ∙ or_true (same_path p q) (is_at places q) (same_path q p) ((eq_by_cmp_equiv path_total).symm p q)
    ∙ sym (list_any-append (same_path q) places (p ∷ []))
