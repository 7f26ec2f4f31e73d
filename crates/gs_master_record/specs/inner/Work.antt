-- What the crate's functions answer.
use Rattle.std.specs.Prelude.{◌≡◌, ℕ, List, ◌++◌, Option, Some, None, Result, Ok, Err}
use Rattle.std.specs.Global.{Vec}
use Rattle.gs_journal.specs.declared.version.Version.{Version}
use Rattle.gs_master_record.specs.Encoding.{encoded}
use Rattle.gs_master_record.specs.Plain.{PlainEntry, plain}
use Rattle.gs_master_record.specs.Writable.{IsEntry}
use Rattle.gs_master_record.specs.declared.entry.Entry.{Entry}
use Rattle.gs_master_record.specs.declared.fault.Fault.{Fault}
use Rattle.gs_master_record.specs.declared.fault.Fault.TheVariants as faults

abbrev pub Fails : {Y : Type 0} → Fault → Option Y → Type 0
Fails faults.Memory read = Unit {0}
Fails faults.Form read = read ≡ None

-- what was read, seen by a view, and what is left, is what reading gives, unless memory ran out
abbrev pub DecodesAs : {X Y : Type 0} → (X → Y) → Result X Fault → List ℕ → Option (Y × List ℕ) → Type 0
DecodesAs view (Ok x) left read = read ≡ Some (view x, left)
DecodesAs view (Err e) left read = Fails e read

abbrev pub Unput : Type 0 → Fault → Type 0
Unput Is faults.Memory = Unit {0}
Unput Is faults.Form = ¬ Is

-- what can be written was, behind what stood there; it can't be only where it isn't what can be
abbrev pub Puts : Type 0 → List ℕ → List ℕ → List ℕ → Result (Unit {0}) Fault → Type 0
Puts Is bytes old new (Ok _) = Is × (new ≡ old ++ bytes)
Puts Is bytes old new (Err e) = Unput Is e

-- the same of what takes all bytes
abbrev pub GivesAll : {X Y : Type 0} → (X → Y) → Result X Fault → Option Y → Type 0
GivesAll view (Ok x) read = read ≡ Some (view x)
GivesAll view (Err e) read = Fails e read

-- what was written is these bytes, from nothing on
abbrev pub Makes : Type 0 → List ℕ → Result (Vec ℕ) Fault → Type 0
Makes Is bytes (Ok out) = Is × (out.items ≡ bytes)
Makes Is bytes (Err e) = Unput Is e

-- the entry of which these are the kind and the body, or there is none that can be written
abbrev pub Decodes : Version → ℕ × List ℕ → Result Entry Fault → Type 0
Decodes version told (Ok e) = IsEntry version (plain e) × (encoded version (plain e) ≡ told)
Decodes version told (Err faults.Memory) = Unit {0}
Decodes version told (Err faults.Form) = (x : PlainEntry) → IsEntry version x → ¬ (encoded version x ≡ told)
