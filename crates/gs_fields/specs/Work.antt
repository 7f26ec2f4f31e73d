-- What reading and writing answer.
use Rattle.std.specs.Prelude.{◌≡◌, ℕ, List, ◌++◌, Option, Some, None, Result, Ok, Err}
use Rattle.std.specs.Global.{Vec}
use Rattle.gs_fields.specs.declared.fault.Fault.{Fault}
use Rattle.gs_fields.specs.declared.fault.Fault.TheVariants as faults

abbrev pub Fails : {Y : Type 0} → Fault → Option Y → Type 0
Fails faults.Memory read = Unit {0}
Fails faults.Form read = read ≡ None

-- what was read, seen by a view, and what is left, is what reading gives, unless memory ran out
abbrev pub DecodesAs : {X Y : Type 0} → (X → Y) → Result X Fault → List ℕ → Option (Y × List ℕ) → Type 0
DecodesAs view (Ok x) left read = read ≡ Some (view x, left)
DecodesAs view (Err e) left read = Fails e read

abbrev pub Unput : Type 0 → Fault → Type 0
Unput Is faults.Memory = Unit {0}
Unput Is faults.Form = ¬ Is

-- what can be written was, behind what stood there; it can't be only where it isn't what can be
abbrev pub Puts : Type 0 → List ℕ → List ℕ → List ℕ → Result (Unit {0}) Fault → Type 0
Puts Is bytes old new (Ok _) = Is × (new ≡ old ++ bytes)
Puts Is bytes old new (Err e) = Unput Is e

-- what was written is these bytes, from nothing on
abbrev pub Makes : Type 0 → List ℕ → Result (Vec ℕ) Fault → Type 0
Makes Is bytes (Ok out) = Is × (out.items ≡ bytes)
Makes Is bytes (Err e) = Unput Is e

-- the value of which these are the bytes, or there is none that can be written, unless memory ran out
abbrev pub Decodes : {X Y : Type 0} → (X → Y) → (Y → Type 0) → (Y → List ℕ) → List ℕ → Result X Fault → Type 0
Decodes view Is write bytes (Ok x) = Is (view x) × (write (view x) ≡ bytes)
Decodes view Is write bytes (Err faults.Memory) = Unit {0}
Decodes {Y = Y} view Is write bytes (Err faults.Form) = (y : Y) → Is y → ¬ (write y ≡ bytes)
