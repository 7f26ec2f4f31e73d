-- Which slots and stores can be written: those that as many bytes tell as a field has.
use Rattle.std.specs.Prelude.{◌≡◌, ◌≤◌, ℕ, Bool, [], ⊤}
use Rattle.std.specs.FinMap as fin
use Rattle.std.specs.List.{AllByRecursion}
use Rattle.std.specs.Ordering.{nat_cmp}
use Rattle.gs_base.specs.Told.{IsNumber}
use Rattle.gs_fields.specs.Writable.{IsStamp, AreLongItems, IsOption}
use Rattle.gs_replica.specs.Seals.{State}
use Rattle.gs_store.specs.Slots.{Live, Slot}
use Rattle.gs_store.specs.Stores.{Store}
use Rattle.gs_store.specs.Whole.{Keeps, IsSlotOf}
use Rattle.gs_store_image.specs.Writable.{IsTold, IsReplica}

-- a replica is read again where it can be written, as each in memory is
abbrev pub IsReplicaHeld : State → Type 0
IsReplicaHeld r = IsTold r → IsReplica r.held.chunk.block r.held.chunk.chunk r

abbrev pub IsFlag : Bool → Type 0
IsFlag b = ⊤

abbrev pub IsLiveTold : Live → Type 0
IsLiveTold l = IsTold l.replica × IsOption IsNumber l.bad

abbrev pub IsSlotRest : Slot → Type 0
IsSlotRest s = IsOption IsTold s.trash × IsOption IsStamp s.taken

abbrev pub AreSlotReplicas : Slot → Type 0
AreSlotReplicas s = IsOption IsLiveTold s.live × IsSlotRest s

abbrev pub IsSlotCarried : Slot → Type 0
IsSlotCarried s = IsFlag s.carried × AreSlotReplicas s

abbrev pub IsSlotTold : Slot → Type 0
IsSlotTold s = IsStamp s.promise × IsSlotCarried s

-- handles are counted from 1
abbrev pub IsHandle : ℕ → Type 0
IsHandle n = (1 ≤ n) × IsNumber n

abbrev pub IsKeptTold : ℕ × Slot → Type 0
IsKeptTold e = IsHandle e.0 × IsSlotTold e.1

abbrev pub AreSlotsTold : fin.FinMap nat_cmp Slot → Type 0
AreSlotsTold m = AreLongItems IsKeptTold (fin.entries m)

abbrev pub IsStoreTold : Store → Type 0
IsStoreTold s = IsNumber s.epoch × AreSlotsTold s.slots

-- a live replica in a chunk of these sizes
abbrev pub IsLive : ℕ → ℕ → Live → Type 0
IsLive block chunk l = IsReplica block chunk l.replica × IsOption IsNumber l.bad

abbrev pub IsSlotFields : ℕ → ℕ → Slot → Type 0
IsSlotFields block chunk s = IsStamp s.promise × (IsFlag s.carried × (IsOption (IsLive block chunk) s.live × (IsOption (IsReplica block chunk) s.trash × IsOption IsStamp s.taken)))

-- a slot whose replicas are in chunks of these sizes
abbrev pub IsSlot : ℕ → ℕ → Slot → Type 0
IsSlot block chunk s = IsSlotFields block chunk s × Keeps s.promise s.live s.trash s.taken

-- it is read again in a store of its sizes, where it can be written
abbrev pub IsSlotHeld : Slot → Type 0
IsSlotHeld s = (block chunk : ℕ) → IsSlotOf block chunk s → IsSlotTold s → IsSlot block chunk s

abbrev pub IsKept : ℕ → ℕ → ℕ × Slot → Type 0
IsKept block chunk e = IsHandle e.0 × IsSlot block chunk e.1

-- each slot is one of a store of these sizes
abbrev pub AreSlotsOf : ℕ → ℕ → fin.FinMap nat_cmp Slot → Type 0
AreSlotsOf block chunk m = AllByRecursion (λ e. IsSlotOf block chunk e.1) (fin.entries m)

-- a store of these sizes, in which no pushed bytes stand
pub record IsStore (block chunk : ℕ) (s : Store) : Type 0 where
  pub block_is : s.block ≡ block
  pub chunk_is : s.chunk ≡ chunk
  pub none_pushed : s.buffer ≡ []
  pub epoch : IsNumber s.epoch
  pub kept : AreLongItems (IsKept block chunk) (fin.entries s.slots)
  pub slots : AreSlotsOf block chunk s.slots
