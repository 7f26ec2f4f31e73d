-- The first candidate among the servers looked at so far.
use Rattle.std.proofs.Common.{◌≡◌, ◌≢◌, ℕ, ◌+◌, ◌<◌, ◌≤◌, Bool, true, false, cond, List, Option, Some, None, refl, sym, ap, ◌∙◌, subst, ⊎_elim, ◌⊎◌, inl, inr, arith}
use Rattle.std.proofs.lemmas.Bool.{cases_eq, cases_lt, false≢true}
use Rattle.std.proofs.lemmas.Bool.Decides.{nat_tests}
use Rattle.std.specs.Prelude.{◌&&◌, not, nat_lt, slice_index, IfSome, IfNone}
use Rattle.std.specs.List.{list_all}
use Rattle.gs_base.specs.Members.{is_member}
use Rattle.gs_place.specs.Targets.{rack_rank, is_candidate, comes_before, candidates, first_candidate, earlier, IsFirst}
use Rattle.gs_place.proofs.Firsts.{precedes_itself, precedes_other, precedes_better, all_filtered, each_filtered, find_unique, find_nothing}

-- of the servers below n that are not taken the first, if there is one
abbrev pub IsBest : ℕ → List ℕ → List ℕ → ℕ → Option ℕ → Type 0
IsBest racks replicas taken n None = (u : ℕ) → u < n → is_member taken u ≡ true
IsBest racks replicas taken n (Some b) =
    (b < n) × (is_member taken b ≡ false) × ((u : ℕ) → u < n → is_member taken u ≡ false → comes_before racks replicas taken u b ≡ false)

before_itself : (racks : ℕ) (replicas taken : List ℕ) (s : ℕ) → comes_before racks replicas taken s s ≡ false
before_itself racks replicas taken s = precedes_itself (rack_rank racks taken s) (slice_index replicas s) s

before_other : (racks : ℕ) (replicas taken : List ℕ) (u b : ℕ) → u ≢ b → comes_before racks replicas taken u b ≡ false → comes_before racks replicas taken b u ≡ true
before_other racks replicas taken u b differ less =
    precedes_other (rack_rank racks taken u) (rack_rank racks taken b) (slice_index replicas u) (slice_index replicas b) u b differ less

before_better : (racks : ℕ) (replicas taken : List ℕ) (u b s : ℕ) → comes_before racks replicas taken u b ≡ false → comes_before racks replicas taken s b ≡ true → comes_before racks replicas taken u s ≡ false
before_better racks replicas taken u b s least less =
    precedes_better (rack_rank racks taken u) (rack_rank racks taken b) (rack_rank racks taken s) (slice_index replicas u) (slice_index replicas b) (slice_index replicas s) u b s least less

up_to : (n u : ℕ) → u < n + 1 → (u < n) ⊎ (u ≡ n)
up_to n u h = ⊎_elim (λ (below : u < n). inl below) (λ (above : n ≤ u). inr (let e : u ≡ n = omega arith in e)) (cases_lt u n)

clash : (b : Bool) → b ≡ true → b ≡ false → ⊥
clash b t f = false≢true (sym f ∙ t)

pub best_more : (racks : ℕ) (replicas taken : List ℕ) (n : ℕ) (best : Option ℕ) → IsBest racks replicas taken n best → IsBest racks replicas taken (n + 1) (earlier racks replicas taken best n)
best_more racks replicas taken n None is = at (is_member taken n) refl
  where
    at : (b : Bool) → is_member taken n ≡ b → IsBest racks replicas taken (n + 1) (cond b None (Some n))
    at true here = λ u h. ⊎_elim (λ below. is u below) (λ same. ap (is_member taken) same ∙ here) (up_to n u h)
    at false here = (
      omega arith,
      here,
      λ u h free. ⊎_elim
          (λ below. absurd (clash (is_member taken u) (is u below) free))
          (λ same. ap (λ x. comes_before racks replicas taken x n) same ∙ before_itself racks replicas taken n)
          (up_to n u h),
    )
best_more racks replicas taken n (Some best) is = at (is_member taken n) (comes_before racks replicas taken n best) refl refl
  where
    at : (b c : Bool) → is_member taken n ≡ b → comes_before racks replicas taken n best ≡ c → IsBest racks replicas taken (n + 1) (cond b (Some best) (cond c (Some n) (Some best)))
    at true c here less = (
      omega (arith, is.0),
      is.1,
      λ u h free. ⊎_elim
          (λ below. is.2 u below free)
          (λ same. absurd (clash (is_member taken u) (ap (is_member taken) same ∙ here) free))
          (up_to n u h),
    )
    at false true here less = (
      omega arith,
      here,
      λ u h free. ⊎_elim
          (λ below. before_better racks replicas taken u best n (is.2 u below free) less)
          (λ same. ap (λ x. comes_before racks replicas taken x n) same ∙ before_itself racks replicas taken n)
          (up_to n u h),
    )
    at false false here less = (
      omega (arith, is.0),
      is.1,
      λ u h free. ⊎_elim
          (λ below. is.2 u below free)
          (λ same. ap (λ x. comes_before racks replicas taken x best) same ∙ less)
          (up_to n u h),
    )

candidate_is : (servers : ℕ) (taken : List ℕ) (s : ℕ) → s < servers → is_member taken s ≡ false → is_candidate servers taken s ≡ true
candidate_is servers taken s below free = at (is_member taken s) free
  where
    at : (b : Bool) → b ≡ false → (nat_lt s servers && not b) ≡ true
    at b e = grind (arith, nat_tests)

candidate_below : (servers s : ℕ) (b : Bool) → (nat_lt s servers && not b) ≡ true → (s < servers) × (b ≡ false)
candidate_below servers s true h = grind (arith, nat_tests)
candidate_below servers s false h = grind (arith, nat_tests)

pub is_first : (servers racks : ℕ) (replicas taken : List ℕ) (b : ℕ) → IsBest racks replicas taken servers (Some b) → IsFirst servers racks replicas taken b
is_first servers racks replicas taken b is = record {
  candidate = candidate_is servers taken b is.0 is.1;
  first = λ other candidate differ. let h = candidate_below servers other (is_member taken other) candidate in before_other racks replicas taken other b differ (is.2 other h.0 h.1);
}

taken_no : (servers s : ℕ) (b : Bool) → (s < servers → b ≡ true) → (nat_lt s servers && not b) ≡ false
taken_no servers s true h = grind (arith, nat_tests)
taken_no servers s false h = ⊎_elim (λ (below : s < servers). absurd (false≢true (h below))) (λ (above : servers ≤ s). grind (arith, nat_tests)) (cases_lt s servers)

pub no_candidates : (servers racks : ℕ) (replicas taken : List ℕ) → IsBest racks replicas taken servers None → (s : ℕ) → is_candidate servers taken s ≡ false
no_candidates servers racks replicas taken is s = taken_no servers s (is_member taken s) (is s)

not_before : (b : Bool) → b ≡ false → not b ≡ true
not_before b e = ap not e

before_not : (b : Bool) → not b ≡ true → b ≡ false
before_not true e = absurd (false≢true e)
before_not false e = refl

pub best_is_first : (servers racks : ℕ) (replicas taken : List ℕ) (best : Option ℕ) → IsBest racks replicas taken servers best → best ≡ first_candidate servers racks replicas taken
best_is_first servers racks replicas taken None is = sym (find_nothing _ _ 0 servers (λ u low high. no_candidates servers racks replicas taken is u))
best_is_first servers racks replicas taken (Some b) is =
    let least : ℕ → ℕ → Bool = λ server other. not (comes_before racks replicas taken other server) in
    let own : is_candidate servers taken b ≡ true = candidate_is servers taken b is.0 is.1 in
    sym (find_unique (λ server. list_all (least server) (candidates servers taken)) (is_candidate servers taken) 0 servers b (omega arith) (omega (arith, is.0)) own
    (all_filtered (least b) (is_candidate servers taken) 0 servers
    (λ u low high candidate. let h = candidate_below servers u (is_member taken u) candidate in not_before (comes_before racks replicas taken u b) (is.2 u h.0 h.1)))
    (λ u low high candidate first. ⊎_elim
    (λ (same : u ≡ b). same)
    (λ (differ : u ≢ b).
    let h = candidate_below servers u (is_member taken u) candidate in
    absurd (clash (comes_before racks replicas taken b u) (before_other racks replicas taken u b differ (is.2 u h.0 h.1))
    (before_not (comes_before racks replicas taken b u) (each_filtered (least u) (is_candidate servers taken) 0 servers first b (omega arith) (omega (arith, is.0)) own))))
    (cases_eq u b)))

-- ---- at the loop's steps and at its end
pub best_step : (racks : ℕ) (replicas taken : List ℕ) (n s : ℕ) (best new : Option ℕ) → s ≡ n → new ≡ earlier racks replicas taken best s
    → IsBest racks replicas taken n best → IsBest racks replicas taken (n + 1) new
best_step racks replicas taken n s best new same is h =
    subst (IsBest racks replicas taken (n + 1)) (sym (is ∙ ap (earlier racks replicas taken best) same)) (best_more racks replicas taken n best h)

pub best_all : (racks : ℕ) (replicas taken : List ℕ) (n servers : ℕ) (best : Option ℕ) → n ≤ servers → servers ≤ n → IsBest racks replicas taken n best → IsBest racks replicas taken servers best
best_all racks replicas taken n servers best low high h = subst (λ x. IsBest racks replicas taken x best) (let e : n ≡ servers = omega arith in e) h

pub best_first : (servers racks : ℕ) (replicas taken : List ℕ) (best : Option ℕ) → IsBest racks replicas taken servers best → IfSome best (IsFirst servers racks replicas taken)
best_first servers racks replicas taken None h = tt
best_first servers racks replicas taken (Some b) h = is_first servers racks replicas taken b h

pub best_none : (servers racks : ℕ) (replicas taken : List ℕ) (best : Option ℕ) → IsBest racks replicas taken servers best → IfNone best ((s : ℕ) → is_candidate servers taken s ≡ false)
best_none servers racks replicas taken None h = no_candidates servers racks replicas taken h
best_none servers racks replicas taken (Some b) h = tt

pub found_number : (o : Option ℕ) (s n : ℕ) → IfSome o (λ x. x ≡ n) → o ≡ Some s → s ≡ n
found_number None s n is e = absurd cc
found_number (Some x) s n is e = let same : x ≡ s = cc in sym same ∙ is
