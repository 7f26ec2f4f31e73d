-- The contents that a disk has held, the last first.
use Rattle.std.specs.Prelude.{◌≡◌, ◌⊎◌, ◌≤◌, ℕ, List, [], ◌∷◌, length}
use mathlib.Core.Logic.{inl, inr}
use Rattle.std.proofs.Common.{arith}

-- one of those that it held from the moment t on: the first content was held at moment 0
abbrev pub HeldSince : ℕ → List (List ℕ) → List ℕ → Type 0
HeldSince t [] c = ⊥
HeldSince t (held ∷ past) c = (t ≤ length past) × ((c ≡ held) ⊎ HeldSince t past c)

none_since : (past : List (List ℕ)) (t : ℕ) (c : List ℕ) → length past ≤ t → HeldSince t past c → ⊥
none_since [] t c le had = had
none_since (held ∷ past) t c le had = Prim.omega (arith, le, had.0)

-- since the last of them there is what is there now
pub only_bytes : (past : List (List ℕ)) (bytes c : List ℕ) → (c ≡ bytes) ⊎ HeldSince (length past) past c → c ≡ bytes
only_bytes past bytes c (inl now) = now
only_bytes past bytes c (inr had) = absurd (none_since past (length past) c (Prim.omega arith) had)
