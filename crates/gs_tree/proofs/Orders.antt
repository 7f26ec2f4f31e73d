-- The rows of a part of a tree in another order.
use Rattle.std.proofs.Common.{◌≡◌, ◌≤◌, ◌+◌, ◌&&◌, ℕ, Bool, true, false, cond, [], ◌∷◌, refl, sym, ap, ◌∙◌, arith}
use Rattle.std.specs.Prelude.{Option, Some, None, is_none}
use Rattle.std.specs.List.{All, list_all, sum_by}
use Rattle.std.specs.List.Sorted.{IsPermutation}
use Rattle.std.proofs.lemmas.List.Sums.{sum_by-cons}
use Rattle.std.proofs.lemmas.List.Elements.{All-nil, All-cons, All-head, All-tail}
use Rattle.std.proofs.lemmas.List.Sorted.{All-permutation, sum_by-IsPermutation}
use Rattle.gs_path.specs.Path.{Path, begins}
use Rattle.gs_tree.specs.Entry.{Entry}
use Rattle.gs_tree.specs.Plain.{Plain, Same}
use Rattle.gs_tree.specs.Find.{Rows, at}
use Rattle.gs_tree.specs.Edits.{same_path, is_dir, parent}
use Rattle.gs_tree.specs.Build.{all_apart, is_short, has_place, is_part}
use Rattle.gs_tree.proofs.Reaching.{same_path-is}
use Rattle.gs_tree.proofs.Chunks.{same_itself}
use Rattle.gs_tree.proofs.Levels.{both_true, left_true, right_true, no_one, tail_none, parts_of}

-- how often a path stands there
hit : Path → Path × Entry ℕ → ℕ
hit p r = cond (same_path p r.0) 1 0

hits : Path → Rows ℕ → ℕ
hits p rows = sum_by (hit p) rows

hit_other : (p : Path) (r : Path × Entry ℕ) → same_path p r.0 ≡ false → hit p r ≡ 0
unfolding hit
hit_other p r h = ap (λ b. cond b 1 0) h

hit_own : (p : Path) (r : Path × Entry ℕ) → same_path p r.0 ≡ true → hit p r ≡ 1
unfolding hit
hit_own p r h = ap (λ b. cond b 1 0) h

hits_more : (p : Path) (r : Path × Entry ℕ) (rows : Rows ℕ) → hits p (r ∷ rows) ≡ hit p r + hits p rows
unfolding hits
hits_more p r rows = sum_by-cons (hit p) r rows

hits_nil : (p : Path) → hits p [] ≡ 0
unfolding hits
hits_nil p = refl

hits_moved : (p : Path) (rows other : Rows ℕ) → IsPermutation rows other → hits p other ≡ hits p rows
unfolding hits
hits_moved p rows other moved = sum_by-IsPermutation (hit p) rows other moved

none_hits : (p : Path) (rows : Rows ℕ) → at rows p ≡ None → hits p rows ≡ 0
none_hits p [] h = hits_nil p
none_hits p (r ∷ rows) h =
    let t = tail_none (same_path p r.0) r.1 (at rows p) h in
    let a = hits_more p r rows in
    let b = hit_other p r t.0 in
    let c = none_hits p rows t.1 in omega arith

hits_none : (p : Path) (rows : Rows ℕ) → hits p rows ≡ 0 → at rows p ≡ None
hits_none p [] h = refl
hits_none p (r ∷ rows) h = each (hits_none p rows) (same_path p r.0) refl
  where
    each : (hits p rows ≡ 0 → at rows p ≡ None) → (b : Bool) → same_path p r.0 ≡ b → cond b (Some r.1) (at rows p) ≡ None
    each rest true is = absurd (let a = hits_more p r rows in let b = hit_own p r is in omega arith)
    each rest false is = rest (let a = hits_more p r rows in let b = hit_other p r is in omega arith)

apart_hits : (p : Path) (rows : Rows ℕ) → all_apart rows ≡ true → hits p rows ≤ 1
apart_hits p [] h = let a = hits_nil p in omega arith
apart_hits p (r ∷ rows) h = each (apart_hits p rows (right_true (is_none (at rows r.0)) (all_apart rows) h)) (same_path p r.0) refl
  where
    each : hits p rows ≤ 1 → (b : Bool) → same_path p r.0 ≡ b → hits p (r ∷ rows) ≤ 1
    each rest true is =
        let gone = ap (at rows) (same_path-is p r.0 is) ∙ no_one (at rows r.0) (left_true (is_none (at rows r.0)) (all_apart rows) h) in
        let a = hits_more p r rows in
        let b = hit_own p r is in
        let c = none_hits p rows gone in omega arith
    each rest false is = let a = hits_more p r rows in let b = hit_other p r is in omega arith

hits_apart : (rows : Rows ℕ) → ((p : Path) → hits p rows ≤ 1) → all_apart rows ≡ true
hits_apart [] h = refl
hits_apart (r ∷ rows) h =
    both_true (is_none (at rows r.0)) (all_apart rows) (ap is_none (hits_none r.0 rows (let a = hits_more r.0 r rows in let b = hit_own r.0 r (same_itself r.0) in let c = h r.0 in omega arith)))
    (hits_apart rows (λ p. let a = hits_more p r rows in let b = h p in omega arith))

all_stand : (m : Plain ℕ) (rows : Rows ℕ) → ((p : Path) (e : Entry ℕ) → at rows p ≡ Some e → m p ≡ Some e) → all_apart rows ≡ true → All (λ r. m r.0 ≡ Some r.1) rows
all_stand m [] h apart = All-nil (λ r. m r.0 ≡ Some r.1)
all_stand m (r ∷ rows) h apart =
    All-cons (λ s. m s.0 ≡ Some s.1) r rows (h r.0 r.1 (ap (λ b. cond b (Some r.1) (at rows r.0)) (same_itself r.0)))
    (all_stand m rows (λ p e is. h p e (ap (λ b. cond b (Some r.1) (at rows p)) (other p e is (same_path p r.0) refl) ∙ is)) (right_true (is_none (at rows r.0)) (all_apart rows) apart))
  where
    gone : at rows r.0 ≡ None
    gone = no_one (at rows r.0) (left_true (is_none (at rows r.0)) (all_apart rows) apart)

    other : (p : Path) (e : Entry ℕ) → at rows p ≡ Some e → (b : Bool) → same_path p r.0 ≡ b → same_path p r.0 ≡ false
    other p e is true s = absurd (let k = ap (at rows) (same_path-is p r.0 s) ∙ gone in cc)
    other p e is false s = s

stand_at : (m : Plain ℕ) (rows : Rows ℕ) (p : Path) (e : Entry ℕ) → All (λ r. m r.0 ≡ Some r.1) rows → at rows p ≡ Some e → m p ≡ Some e
stand_at m [] p e all is = absurd (cc)
stand_at m (r ∷ rows) p e all is = each (stand_at m rows p e (All-tail (λ s. m s.0 ≡ Some s.1) r rows all)) (same_path p r.0) refl is
  where
    each : (at rows p ≡ Some e → m p ≡ Some e) → (b : Bool) → same_path p r.0 ≡ b → cond b (Some r.1) (at rows p) ≡ Some e → m p ≡ Some e
    each rest true s v = ap m (same_path-is p r.0 s) ∙ All-head (λ t. m t.0 ≡ Some t.1) r rows all ∙ v
    each rest false s v = rest v

-- rows that are apart have the same at a path in any order
pub same_moved : (rows other : Rows ℕ) → IsPermutation rows other → all_apart rows ≡ true → (all_apart other ≡ true) × Same (at other) (at rows)
same_moved rows other moved apart = (
  hits_apart other (λ p. let a = hits_moved p rows other moved in let b = apart_hits p rows apart in omega arith),
  λ q. each q (at other q) refl,
)
  where
    all : All (λ r. at rows r.0 ≡ Some r.1) other
    all = All-permutation (λ r. at rows r.0 ≡ Some r.1) rows other moved (all_stand (at rows) rows (λ p e is. is) apart)

    each : (q : Path) (v : Option (Entry ℕ)) → at other q ≡ v → at other q ≡ at rows q
    each q None is = is ∙ sym (hits_none q rows (let a = hits_moved q rows other moved in let b = none_hits q other is in omega arith))
    each q (Some e) is = is ∙ sym (stand_at (at rows) other q e all is)

pub all_passed : (f : Path × Entry ℕ → Bool) (rows : Rows ℕ) → list_all f rows ≡ true → All (λ r. f r ≡ true) rows
all_passed f [] h = All-nil (λ r. f r ≡ true)
all_passed f (r ∷ rows) h = All-cons (λ s. f s ≡ true) r rows (left_true (f r) (list_all f rows) h) (all_passed f rows (right_true (f r) (list_all f rows) h))

pub pass_all : (f g : Path × Entry ℕ → Bool) (rows : Rows ℕ) → ((r : Path × Entry ℕ) → f r ≡ g r) → All (λ r. f r ≡ true) rows → list_all g rows ≡ true
pass_all f g [] same h = refl
pass_all f g (r ∷ rows) same h =
    both_true (g r) (list_all g rows) (sym (same r) ∙ All-head (λ s. f s ≡ true) r rows h) (pass_all f g rows same (All-tail (λ s. f s ≡ true) r rows h))

-- so too where they are a part of a tree
pub part_moved : (t : Path × Entry ℕ) (rows other : Rows ℕ) → IsPermutation rows other → is_part t rows ≡ true → (is_part t other ≡ true) × Same (at (t ∷ other)) (at (t ∷ rows))
part_moved t rows other moved whole =
    let parts = parts_of t rows whole in
    let same = same_moved rows other moved parts.apart in
    let tops : Same (at (t ∷ other)) (at (t ∷ rows)) = λ q. ap (λ v. cond (same_path q t.0) (Some t.1) v) (same.1 q) in (
      both_true (is_short t.0) (all_apart (t ∷ other) && list_all (λ r. begins t.0 r.0 && has_place (at (t ∷ other)) r.0) other) parts.short (both_true (all_apart (t ∷ other)) (list_all (λ r. begins t.0 r.0 && has_place (at (t ∷ other)) r.0) other)
          (both_true (is_none (at other t.0)) (all_apart other) (ap is_none (same.1 t.0 ∙ parts.top)) same.0)
          (pass_all (λ r. begins t.0 r.0 && has_place (at (t ∷ rows)) r.0) (λ r. begins t.0 r.0 && has_place (at (t ∷ other)) r.0) other (λ r. ap (λ v. begins t.0 r.0 && (is_short r.0 && is_dir v)) (sym (tops (parent r.0))))
          (All-permutation (λ r. (begins t.0 r.0 && has_place (at (t ∷ rows)) r.0) ≡ true) rows other moved (all_passed (λ r. begins t.0 r.0 && has_place (at (t ∷ rows)) r.0) rows parts.places)))),
      tops,
    )

pub all_moved : (f : Path × Entry ℕ → Bool) (rows other : Rows ℕ) → IsPermutation rows other → list_all f rows ≡ true → list_all f other ≡ true
all_moved f rows other moved h = pass_all f f other (λ r. refl) (All-permutation (λ r. f r ≡ true) rows other moved (all_passed f rows h))
