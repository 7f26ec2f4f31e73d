-- Runs of calls that change a replica and leave its seal.
use Rattle.std.specs.Prelude.{◌≡◌, ℕ, List, [], ◌∷◌, Result, Ok}
use Rattle.gs_base.specs.declared.numbers.Stamp.{Stamp}
use Rattle.gs_base.specs.declared.numbers.ReqId.{ReqId}
use Rattle.gs_base.specs.declared.refusal.Refusal.{Refusal}
use Rattle.gs_replica.specs.declared.op.Op.{Op}
use Rattle.gs_replica.specs.declared.live.ReplicaInverse.{ReplicaInverse}
use Rattle.gs_replica.specs.Seals.{State, apply, undo, promise, damage}
use Rattle.gs_replica.specs.Stands.{IsTouched}

pub data Call : Type 0 where
  Applies : Stamp → ℕ → ReqId → Op → List ℕ → Call
  Undoes : ReplicaInverse → Call
  Promises : Stamp → Call
  Damages : ℕ → Call

abbrev pub called : Call → State → Result State Refusal
called (Applies stamp number req op bytes) r = apply stamp number req op bytes r
called (Undoes inverse) r = undo inverse r
called (Promises stamp) r = promise stamp r
called (Damages index) r = damage index r

-- The calls that are accepted, one after the other, lead from one replica to another. A refused call changes nothing.
abbrev pub LeadsTo : State → List Call → State → Type 0
LeadsTo r [] end = end ≡ r
LeadsTo r (c ∷ calls) end = (next : State) × (called c r ≡ Ok next) × LeadsTo next calls end

-- no damage of a block that no edit had touched since the seal
abbrev pub IsSparing : Call → State → Type 0
IsSparing (Damages index) r = IsTouched r.sealed index
IsSparing (Applies stamp number req op bytes) r = Unit {0}
IsSparing (Undoes inverse) r = Unit {0}
IsSparing (Promises stamp) r = Unit {0}

abbrev pub LeadsSparing : State → List Call → State → Type 0
LeadsSparing r [] end = end ≡ r
LeadsSparing r (c ∷ calls) end = (next : State) × (called c r ≡ Ok next) × IsSparing c r × LeadsSparing next calls end
