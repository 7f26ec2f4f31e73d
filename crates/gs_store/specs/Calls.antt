-- Runs of the calls that change a slot.
use Rattle.std.specs.Prelude.{◌≡◌, ℕ, false, List, [], ◌∷◌, Option, Some, None, Result, Ok, refl}
use Rattle.gs_base.specs.declared.numbers.Stamp.{Stamp}
use Rattle.gs_base.specs.declared.numbers.ReqId.{ReqId}
use Rattle.gs_base.specs.Stamps.{is_before}
use Rattle.gs_base.specs.declared.refusal.Refusal.{Refusal}
use Rattle.gs_replica.specs.declared.op.Op.{Op}
use Rattle.gs_replica.specs.Held.{Held}
use Rattle.gs_replica.specs.Copies.{Image, SealedImage}
use Rattle.gs_replica.specs.Stands.{IsTouched}
use Rattle.gs_store.specs.Standing.{struck_by_damage}
use Rattle.gs_store.specs.Slots.{Slot, create, advance, drop_replica, take_lease, lose, damage, mark_bad, nothing, stamp_of, standing, taking, empty_replica}
use Rattle.gs_store.specs.Serving.{apply}
use Rattle.gs_store.specs.Moves.{copy_in, take_copy}
use Rattle.gs_store.specs.Learning.{prepared, finalized, rolled_back}

pub data Call : Type 0 where
  Creates : Stamp → Call
  Advances : Stamp → Call
  CopiesIn : Stamp → Image → Option SealedImage → Call
  TakesCopy : Held → Call
  Drops : Stamp → Call
  TakesLease : Stamp → Call
  Loses : Call
  Damages : ℕ → Call
  MarksBad : ℕ → Call
  Applies : Stamp → ℕ → ReqId → Op → List ℕ → Call
  Seals : Call
  Unseals : Call
  RollsBack : ℕ → Call

-- in a store of these sizes
abbrev pub called : ℕ → ℕ → Call → Slot → Result Slot Refusal
called block chunk (Creates stamp) s = create block chunk stamp s
called block chunk (Advances stamp) s = advance stamp s
called block chunk (CopiesIn stamp image sealed) s = copy_in block chunk stamp image sealed s
called block chunk (TakesCopy h) s = take_copy h s
called block chunk (Drops promise) s = drop_replica promise s
called block chunk (TakesLease stamp) s = take_lease stamp s
called block chunk Loses s = lose s
called block chunk (Damages index) s = damage index s
called block chunk (MarksBad index) s = Ok (mark_bad index s)
called block chunk (Applies stamp number req op bytes) s = apply stamp number req op bytes s
called block chunk Seals s = Ok (prepared s)
called block chunk Unseals s = Ok (finalized s)
called block chunk (RollsBack epoch) s = Ok (rolled_back epoch s)

-- The calls that are accepted, one after the other, lead from one slot to another. A refused call changes nothing.
abbrev pub LeadsTo : ℕ → ℕ → Slot → List Call → Slot → Type 0
LeadsTo block chunk s [] end = end ≡ s
LeadsTo block chunk s (c ∷ calls) end = (next : Slot) × (called block chunk c s ≡ Ok next) × LeadsTo block chunk next calls end

-- any other call than that which takes a lease
abbrev pub IsNoLease : Call → Type 0
IsNoLease (TakesLease stamp) = ⊥
IsNoLease (Creates stamp) = Unit {0}
IsNoLease (Advances stamp) = Unit {0}
IsNoLease (CopiesIn stamp image sealed) = Unit {0}
IsNoLease (TakesCopy h) = Unit {0}
IsNoLease (Drops promise) = Unit {0}
IsNoLease Loses = Unit {0}
IsNoLease (Damages index) = Unit {0}
IsNoLease (MarksBad index) = Unit {0}
IsNoLease (Applies stamp number req op bytes) = Unit {0}
IsNoLease Seals = Unit {0}
IsNoLease Unseals = Unit {0}
IsNoLease (RollsBack epoch) = Unit {0}

-- created, and its lease taken
a_run_of_two_calls : LeadsTo 4 16 nothing (Creates (stamp_of 0 1) ∷ TakesLease (stamp_of 0 1) ∷ []) (taking (stamp_of 0 1) (standing (empty_replica (stamp_of 0 1))))
a_run_of_two_calls = (standing (empty_replica (stamp_of 0 1)), refl, (taking (stamp_of 0 1) (standing (empty_replica (stamp_of 0 1))), refl, refl))

-- what a call brings is of the store's sizes, and was sealed under no stamp above its own
abbrev pub SealedBy : Stamp → Option SealedImage → Type 0
SealedBy stamp None = Unit {0}
SealedBy stamp (Some i) = is_before stamp i.stamp ≡ false

abbrev pub Fits : ℕ → ℕ → Call → Type 0
Fits block chunk (CopiesIn stamp image sealed) = SealedBy stamp sealed
Fits block chunk (TakesCopy h) = (h.chunk.block ≡ block) × (h.chunk.chunk ≡ chunk)
Fits block chunk (Creates stamp) = Unit {0}
Fits block chunk (Advances stamp) = Unit {0}
Fits block chunk (Drops promise) = Unit {0}
Fits block chunk (TakesLease stamp) = Unit {0}
Fits block chunk Loses = Unit {0}
Fits block chunk (Damages index) = Unit {0}
Fits block chunk (MarksBad index) = Unit {0}
Fits block chunk (Applies stamp number req op bytes) = Unit {0}
Fits block chunk Seals = Unit {0}
Fits block chunk Unseals = Unit {0}
Fits block chunk (RollsBack epoch) = Unit {0}

-- any call that leaves what a rollback of the handle gives to its blocks: no prepare, finalize, rollback, loss, nor a copy with an
-- image
abbrev pub KeepsSeal : Call → Type 0
KeepsSeal (CopiesIn stamp image None) = Unit {0}
KeepsSeal (CopiesIn stamp image (Some i)) = ⊥
KeepsSeal (TakesCopy h) = Unit {0}
KeepsSeal (Creates stamp) = Unit {0}
KeepsSeal (Advances stamp) = Unit {0}
KeepsSeal (Drops promise) = Unit {0}
KeepsSeal (TakesLease stamp) = Unit {0}
KeepsSeal Loses = ⊥
KeepsSeal (Damages index) = Unit {0}
KeepsSeal (MarksBad index) = Unit {0}
KeepsSeal (Applies stamp number req op bytes) = Unit {0}
KeepsSeal Seals = ⊥
KeepsSeal Unseals = ⊥
KeepsSeal (RollsBack epoch) = ⊥

abbrev pub KeepSeal : List Call → Type 0
KeepSeal [] = Unit {0}
KeepSeal (c ∷ calls) = KeepsSeal c × KeepSeal calls

-- no damage of a block that no edit had touched since the seal
abbrev pub IsSparing : Call → Slot → Type 0
IsSparing (Damages index) s = IsTouched (struck_by_damage s) index
IsSparing (CopiesIn stamp image sealed) s = Unit {0}
IsSparing (TakesCopy h) s = Unit {0}
IsSparing (Creates stamp) s = Unit {0}
IsSparing (Advances stamp) s = Unit {0}
IsSparing (Drops promise) s = Unit {0}
IsSparing (TakesLease stamp) s = Unit {0}
IsSparing Loses s = Unit {0}
IsSparing (MarksBad index) s = Unit {0}
IsSparing (Applies stamp number req op bytes) s = Unit {0}
IsSparing Seals s = Unit {0}
IsSparing Unseals s = Unit {0}
IsSparing (RollsBack epoch) s = Unit {0}

abbrev pub LeadsSparing : ℕ → ℕ → Slot → List Call → Slot → Type 0
LeadsSparing block chunk s [] end = end ≡ s
LeadsSparing block chunk s (c ∷ calls) end = (next : Slot) × (called block chunk c s ≡ Ok next) × IsSparing c s × LeadsSparing block chunk next calls end
