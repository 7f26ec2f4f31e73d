-- Which values can be written: those that as many bytes tell as a field has.
use Rattle.std.specs.Prelude.{◌≡◌, ◌<◌, ◌^◌, ℕ, true, Option, Some, None, List, length, ⊤}
use Rattle.std.specs.List.{AllByRecursion}
use Rattle.std.specs.Str.{is_utf8}
use Rattle.gs_base.specs.Told.{IsNumber}
use Rattle.gs_base.specs.declared.numbers.Stamp.{Stamp}

-- a text of which a length of two bytes can tell
abbrev pub IsText : List ℕ → Type 0
IsText bytes = (length bytes < 2 ^ 16) × (is_utf8 bytes ≡ true)

abbrev pub AreLongBytes : List ℕ → Type 0
AreLongBytes bytes = IsNumber (length bytes)

abbrev pub AreItems : {A : Type 0} → (A → Type 0) → List A → Type 0
AreItems Is items = (length items < 2 ^ 32) × AllByRecursion Is items

abbrev pub AreLongItems : {A : Type 0} → (A → Type 0) → List A → Type 0
AreLongItems Is items = IsNumber (length items) × AllByRecursion Is items

abbrev pub IsOption : {A : Type 0} → (A → Type 0) → Option A → Type 0
IsOption Is None = ⊤
IsOption Is (Some x) = Is x

abbrev pub IsStamp : Stamp → Type 0
IsStamp s = IsNumber s.epoch × IsNumber s.version
