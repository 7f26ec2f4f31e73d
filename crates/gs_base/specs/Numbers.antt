-- Numbers that are counted upwards, and how they are printed.
use Rattle.std.specs.Prelude.{◌≡◌, ◌+◌, ◌++◌, ℕ, List, Result, Ok, Err, codes, decimal}
use Rattle.gs_base.specs.declared.numbers.Stamp.{Stamp}
use Rattle.gs_base.specs.declared.refusal.Refusal.{Refusal}
use Rattle.gs_base.specs.declared.refusal.Refusal.TheVariants.{Exhausted}

-- the greatest value of a counter
abbrev pub last_number : ℕ
last_number = 18446744073709551615

-- the successor, and Exhausted exactly after the last number
abbrev pub IsNext : {A : Type 0} → ℕ → Result A Refusal → (A → ℕ) → Type 0
IsNext n (Ok next) number = number next ≡ n + 1
IsNext n (Err e) number = (e ≡ Exhausted) × (n ≡ last_number)

-- epoch, point, version
abbrev pub stamp_text : Stamp → List ℕ
stamp_text s = decimal s.epoch ++ (codes "." ++ decimal s.version)
