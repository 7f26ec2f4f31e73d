-- Which calls of a disk fail, and what such a call does.
use Rattle.std.specs.Prelude.{◌≡◌, ◌⊎◌, ◌<◌, ◌-◌, ◌==◌, ℕ, zero, suc, Bool, true, false, Option, Some, None, List, length, take, Result, IsErrOf, MatchOption}
use Rattle.gs_base.specs.declared.refusal.Refusal.{Refusal}
use Rattle.gs_base.specs.declared.refusal.Refusal.TheVariants.{Device}
use Rattle.gs_journal_disk.specs.Disk.{HasCause, Holds}
use Rattle.gs_journal.specs.declared.fault.Fault.{Fault}
use Rattle.gs_journal.specs.declared.fault.Fault.TheVariants.{Never, Fail, Stop, Tear}

-- whether the next call fails
abbrev pub fails : Fault → Bool
fails Never = false
fails (Fail calls) = calls == 0
fails (Stop calls) = calls == 0
fails (Tear calls torn) = calls == 0

-- what is left of a fault behind one call
abbrev pub next : Fault → Fault
next Never = Never
next (Fail zero) = Never
next (Fail (suc calls)) = Fail calls
next (Stop calls) = Stop (calls - 1)
next (Tear calls torn) = Tear (calls - 1) torn

-- what is left of a fault behind so many calls
abbrev pub after : ℕ → Fault → Fault
after zero fault = fault
after (suc calls) fault = after calls (next fault)

-- the bytes that a write that fails leaves, if it leaves any
abbrev pub torn_by : Fault → Option (List ℕ)
torn_by Never = None
torn_by (Fail calls) = None
torn_by (Stop calls) = None
torn_by (Tear calls torn) = Some torn.items

-- a disk with a fault, and how often that has made a call fail
pub record Failing (D : Type 0) : Type 0 where
  pub disk : D
  pub fault : Fault
  pub failures : ℕ

-- the disk with this fault in place of its own
abbrev pub armed : {D : Type 0} → Failing D → Fault → Failing D
armed disk fault = record { disk = disk.disk; fault = fault; failures = disk.failures }

-- What a call counts. The one that fails is refused `Device`; any other is refused only where the disk below fails.
pub record Counts {D T : Type 0} (failures : D → ℕ) (old new : Failing D) (result : Result T Refusal) : Type 0 where
  pub counted : new.fault ≡ next old.fault
  pub failed : fails old.fault ≡ true → IsErrOf result Device × (new.failures ≡ suc old.failures)
  pub passed : fails old.fault ≡ false → HasCause (failures old.disk) (failures new.disk) result × (new.failures ≡ old.failures)

-- What a write that fails leaves: nothing of it, or the fault's bytes where its first were to stand, unless the disk below
-- fails in that.
abbrev pub Tears : {D : Type 0} → (D → List ℕ) → (D → ℕ) → ℕ → List ℕ → Failing D → Failing D → Type 0
Tears seen failures at bytes old new =
    MatchOption (torn_by old.fault) (new.disk ≡ old.disk) (λ torn. Holds (seen old.disk) at (take (length bytes) torn) (seen new.disk) ⊎ (failures old.disk < failures new.disk))

-- ---- a disk that stops

-- a disk of which so many calls pass, and how often it has made a call fail
pub record Stopping (D : Type 0) : Type 0 where
  pub disk : D
  pub calls : ℕ
  pub failures : ℕ

-- What a call counts. While calls pass, this one is refused only where the disk below fails. Behind them it is refused `Device`, and the
-- disk below isn't touched.
pub record CountsDown {D T : Type 0} (failures : D → ℕ) (old new : Stopping D) (result : Result T Refusal) : Type 0 where
  pub counted : new.calls ≡ old.calls - 1
  pub passed : 0 < old.calls → HasCause (failures old.disk) (failures new.disk) result × (new.failures ≡ old.failures)
  pub stopped : old.calls ≡ 0 → IsErrOf result Device × (new.failures ≡ suc old.failures) × (new.disk ≡ old.disk)
