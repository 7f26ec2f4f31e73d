-- A log that goes on.
use Rattle.std.proofs.Common.{◌≡◌, ◌||◌, Bool, true, false, refl, ap, ◌∙◌, true≢false}

pub neither : (a b : Bool) → (a || b) ≡ false → (a ≡ false) × (b ≡ false)
neither true b h = absurd (true≢false h)
neither false b h = (refl, h)

-- where the log hasn't stopped, it has failed if the one below has
pub fails_below : (a b c : Bool) → a ≡ false → b ≡ c → (a || b) ≡ c
fails_below a b c none same = ap (λ k. k || b) none ∙ same
