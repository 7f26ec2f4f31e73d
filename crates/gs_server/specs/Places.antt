-- What a server keeps of one chunk, and what a message about that chunk comes to.
use Rattle.std.specs.Prelude.{ℕ, ◌==◌, not, cond, Bool, false, List, [], ◌∷◌, Option, Some, None}
use Rattle.gs_base.specs.declared.numbers.Moment.{Moment}
use Rattle.gs_base.specs.declared.numbers.Stamp.{Stamp}
use Rattle.gs_base.specs.Stamps.{is_same}
use Rattle.gs_base.specs.declared.refusal.Refusal.{Refusal}
use Rattle.gs_base.specs.declared.refusal.Refusal.TheVariants as refusals
use Rattle.gs_msg.specs.declared.node.NodeId.{NodeId}
use Rattle.gs_msg.specs.declared.node.NodeId.TheVariants as nodes
use Rattle.gs_msg.specs.declared.message.Message.{Message}
use Rattle.gs_msg.specs.declared.chunk.Chunk.{Chunk}
use Rattle.gs_msg.specs.declared.chunk.Chunk.TheVariants as chunks
use Rattle.gs_msg.specs.declared.body.Body.TheVariants as bodies
use Rattle.gs_store.specs.Slots.{Slot, when, mark_bad, nothing}
use Rattle.gs_server.specs.declared.turn.KeptRefusal.{KeptRefusal}
use Rattle.gs_server_lease.specs.Leases.{PrimaryLease, tell}

-- the slot, which is kept for good, and the lease that is held
pub record Place : Type 0 where
  pub slot : Slot
  pub lease : Option PrimaryLease

-- Who handles a message about a chunk, and when; and what of the shared part it finds: the epoch, the edit of its client that
-- was refused last, and the bytes that were pushed for its request.
pub record Here : Type 0 where
  pub me : ℕ
  pub handle : ℕ
  pub block : ℕ
  pub chunk : ℕ
  pub moment : Moment
  pub epoch : ℕ
  pub refused : Option KeptRefusal
  pub pushed : Option (List ℕ)

-- what becomes of a slot: a call makes it another, or its live replica is marked as bad by a block
pub data SlotChange : Type 0 where
  SlotStays : SlotChange
  SlotBecomes : Slot → SlotChange
  SlotMarked : ℕ → SlotChange

-- what becomes of a lease
pub data LeaseChange : Type 0 where
  LeaseStays : LeaseChange
  LeaseBecomes : PrimaryLease → LeaseChange
  LeaseSpent : LeaseChange

-- What a message about a chunk comes to: what becomes of the place; the refusal of an edit that is kept from now on, if one is;
-- whether the pushed bytes leave the buffer; what is sent; and the refusal with which the message was met.
pub record Part : Type 0 where
  pub slot : SlotChange
  pub lease : LeaseChange
  pub kept : Option KeptRefusal
  pub used : Bool
  pub sent : List Message
  pub said : Option Refusal

abbrev pub slot_after : Slot → SlotChange → Slot
slot_after s SlotStays = s
slot_after s (SlotBecomes new) = new
slot_after s (SlotMarked block) = mark_bad block s

abbrev pub lease_after : Option PrimaryLease → LeaseChange → Option PrimaryLease
lease_after lease LeaseStays = lease
lease_after lease (LeaseBecomes l) = Some l
lease_after lease LeaseSpent = None

-- the place afterwards
abbrev pub after : Place → Part → Place
after p part = record { slot = slot_after p.slot part.slot; lease = lease_after p.lease part.lease }

-- of a chunk of which nothing was heard
abbrev pub empty_place : Place
empty_place = record { slot = nothing; lease = None }

abbrev pub changing : SlotChange → LeaseChange → List Message → Part
changing slot lease sent = record { slot = slot; lease = lease; kept = None; used = false; sent = sent; said = None }

-- nothing changes
abbrev pub sending : List Message → Part
sending sent = changing SlotStays LeaseStays sent

-- a lease whose stamp isn't the promise any more is spent
abbrev pub of_promise : Stamp → Option PrimaryLease → LeaseChange
of_promise promise None = LeaseStays
of_promise promise (Some l) = cond (is_same l.grant.stamp promise) LeaseStays LeaseSpent

abbrev pub promising : Slot → Place → List Message → Part
promising s p sent = changing (SlotBecomes s) (of_promise s.promise p.lease) sent

abbrev pub about : Here → NodeId → Chunk → Message
about h to chunk = tell h.me to (bodies.About h.handle chunk)

-- A block without its digest, wherever it is found, marks the replica as bad, and the master is told behind the answer.
abbrev pub damaged_block : Refusal → Option ℕ
damaged_block (refusals.Damaged block) = Some block
damaged_block refusal = None

abbrev pub marked_by : Option ℕ → SlotChange
marked_by None = SlotStays
marked_by (Some block) = SlotMarked block

abbrev pub tells_bad : Here → Slot → Option ℕ → List Message
tells_bad h s None = []
tells_bad h s (Some block) = about h nodes.Master (chunks.Bad s.promise) ∷ []

abbrev pub refused : Here → Slot → Message → Refusal → Part
refused h s answer refusal = record {
  slot = marked_by (damaged_block refusal);
  lease = LeaseStays;
  kept = None;
  used = false;
  sent = answer ∷ tells_bad h s (damaged_block refusal);
  said = Some refusal;
}

-- a refusal that no message carries
abbrev pub unanswered : Refusal → Part
unanswered refusal = record { slot = SlotStays; lease = LeaseStays; kept = None; used = false; sent = []; said = Some refusal }

-- the refusal, or what is done where there is none
abbrev pub or_else : Option Refusal → (Refusal → Part) → Part → Part
or_else None refuses part = part
or_else (Some refusal) refuses part = refuses refusal

-- a message of another epoch than the server's
abbrev pub other_epoch : Here → ℕ → Option Refusal
other_epoch h epoch = when (not (epoch == h.epoch)) (refusals.Epoch h.epoch)

abbrev pub count_or_none : Option ℕ → ℕ
count_or_none None = 0
count_or_none (Some count) = count
