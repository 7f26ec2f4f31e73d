-- How many bytes may not stand in a mark.
use Rattle.std.proofs.Common.{◌≡◌, ◌+◌, ℕ, suc, arith, List, Bool, true, false, cond, slice_index, refl, sym, ap, ◌∙◌}
use Rattle.gs_keep_measure.specs.Measure.{may_stand, wrong_before}

wrong_next : (n : ℕ) (bytes : List ℕ) → wrong_before (suc n) bytes ≡ wrong_before n bytes + cond (may_stand n (slice_index bytes n)) 0 1
unfolding wrong_before
wrong_next n bytes = refl

wrong_step : (n : ℕ) (bytes : List ℕ) → wrong_before (n + 1) bytes ≡ wrong_before n bytes + cond (may_stand n (slice_index bytes n)) 0 1
wrong_step n bytes =
    let next : n + 1 ≡ suc n = omega arith in
    ap (λ (k : ℕ). wrong_before k bytes) next ∙ wrong_next n bytes

pub wrong_none : (bytes : List ℕ) → 0 ≡ wrong_before 0 bytes
unfolding wrong_before
wrong_none bytes = refl

pub wrong_more : (n wrong : ℕ) (bytes : List ℕ) (may : Bool) → may ≡ may_stand n (slice_index bytes n) → may ≡ false → wrong ≡ wrong_before n bytes → wrong + 1 ≡ wrong_before (n + 1) bytes
wrong_more n wrong bytes may is other so_far =
    ap (λ (k : ℕ). k + 1) so_far ∙ ap (λ (b : Bool). wrong_before n bytes + cond b 0 1) (sym other ∙ is) ∙ sym (wrong_step n bytes)

pub wrong_same : (n wrong : ℕ) (bytes : List ℕ) (may : Bool) → may ≡ may_stand n (slice_index bytes n) → may ≡ true → wrong ≡ wrong_before n bytes → wrong ≡ wrong_before (n + 1) bytes
wrong_same n wrong bytes may is fits so_far =
    let same : wrong ≡ wrong_before n bytes + 0 = omega (arith, so_far) in
    same ∙ ap (λ (b : Bool). wrong_before n bytes + cond b 0 1) (sym fits ∙ is) ∙ sym (wrong_step n bytes)
