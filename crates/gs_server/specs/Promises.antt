-- Messages by which a promise is made, kept or given up: create, advance, copyout, copyin, makecopy, drop.
use Rattle.std.specs.Prelude.{◌≡◌, ℕ, Bool, false, [], ◌∷◌, Option, Some, None, Result, Ok, Err, refl}
use Rattle.std.specs.FinMap as fin
use Rattle.gs_base.specs.declared.numbers.Stamp.{Stamp}
use Rattle.gs_base.specs.declared.refusal.Refusal.{Refusal}
use Rattle.gs_base.specs.declared.refusal.Refusal.TheVariants as refusals
use Rattle.gs_replica.specs.Copies.{Image, SealedImage}
use Rattle.gs_msg.specs.declared.node.NodeId.TheVariants as nodes
use Rattle.gs_msg.specs.declared.message.Message.{Message}
use Rattle.gs_msg.specs.declared.chunk.Chunk.TheVariants as chunks
use Rattle.gs_store.specs.Slots.{Slot, count_of, standing, dropped, empty_replica, sealed_replica, mark_bad}
use Rattle.gs_store.specs.Slots as slots
use Rattle.gs_store.specs.Moves as moves
use Rattle.gs_server_lease.specs.Leases.{granted, stamp_of, moment_of}
use Rattle.gs_server.specs.Places.{Place, Here, SlotChange, SlotStays, SlotBecomes, LeaseStays, LeaseSpent, Part, after, changing, sending, about, refused, unanswered, or_else, other_epoch, promising, damaged_block, marked_by, tells_bad, count_or_none, empty_place}

-- a yes: how many edits are applied, and whether the copy of this stamp carried its sealed image
abbrev pub promised : Here → Stamp → Slot → Message
promised h stamp s = about h nodes.Master (chunks.Promised stamp (count_or_none (count_of s.live)) s.carried)

-- a no
abbrev pub unpromised : Here → Place → Stamp → Refusal → Part
unpromised h p stamp refusal = refused h p.slot (about h nodes.Master (chunks.Unpromised stamp refusal)) refusal

-- a call on the slot that raises the promise, or finds what it made before
abbrev pub promises : Here → Place → Stamp → Result Slot Refusal → Part
promises h p stamp (Ok s) = promising s p (promised h stamp s ∷ [])
promises h p stamp (Err refusal) = unpromised h p stamp refusal

abbrev pub create : Here → Place → Stamp → Part
create h p stamp = or_else (other_epoch h stamp.epoch) (unpromised h p stamp) (promises h p stamp (slots.create h.block h.chunk stamp p.slot))

abbrev pub advance : Here → Place → Stamp → Part
advance h p stamp = or_else (other_epoch h stamp.epoch) (unpromised h p stamp) (promises h p stamp (slots.advance stamp p.slot))

abbrev pub copy_in : Here → Place → Stamp → Image → Option SealedImage → Part
copy_in h p stamp image sealed = or_else (other_epoch h stamp.epoch) (unpromised h p stamp) (promises h p stamp (moves.copy_in h.block h.chunk stamp image sealed p.slot))

-- what stands goes to the target
abbrev pub sends_copy : Here → Place → Stamp → ℕ → Result (Image × Option SealedImage) Refusal → Part
sends_copy h p stamp target (Ok copy) = sending (about h (nodes.Server target) (chunks.CopyIn stamp copy.0 copy.1) ∷ [])
sends_copy h p stamp target (Err refusal) = unpromised h p stamp refusal

abbrev pub copy_out : Here → Place → Stamp → ℕ → Bool → Part
copy_out h p stamp target flag = or_else (other_epoch h stamp.epoch) (unpromised h p stamp) (sends_copy h p stamp target (moves.copy_out stamp flag p.slot))

-- a replica goes, and any lease with it; nobody is answered
abbrev pub drops : Result Slot Refusal → Part
drops (Ok s) = changing (SlotBecomes s) LeaseSpent []
drops (Err refusal) = unanswered refusal

abbrev pub drop_replica : Here → Place → ℕ → Stamp → Part
drop_replica h p epoch promise = or_else (other_epoch h epoch) unanswered (drops (slots.drop_replica promise p.slot))

-- A copy under a new handle: the promise of that one is made, the bytes are the old one's. What is refused is told of the new
-- handle; a damaged block is one of the old. These are the parts of the old handle's place and of the new one's; what is sent
-- stands with the new.
pub record Copying : Type 0 where
  pub source : SlotChange
  pub target : Part

abbrev pub not_copied : Here → Place → Here → Stamp → Refusal → Copying
not_copied h source new stamp refusal = record {
  source = marked_by (damaged_block refusal);
  target = record {
    slot = SlotStays;
    lease = LeaseStays;
    kept = None;
    used = false;
    sent = about new nodes.Master (chunks.Unpromised stamp refusal) ∷ tells_bad h source.slot (damaged_block refusal);
    said = Some refusal;
  };
}

abbrev pub copies : Here → Place → Here → Place → Stamp → Result Slot Refusal → Copying
copies h source new target stamp (Ok s) = record { source = SlotStays; target = promising s target (promised new stamp s ∷ []) }
copies h source new target stamp (Err refusal) = not_copied h source new stamp refusal

abbrev pub or_copy : Option Refusal → (Refusal → Copying) → Copying → Copying
or_copy None refuses copying = copying
or_copy (Some refusal) refuses copying = refuses refusal

abbrev pub make_copy : Here → Place → Stamp → Here → Place → Stamp → Copying
make_copy h source at new target stamp = or_copy (other_epoch h stamp.epoch) (not_copied h source new stamp) (copies h source new target stamp (moves.make_copy at stamp source.slot target.slot))

-- Worked: server 0 in epoch 2, of chunk 1 in blocks of 4.
abbrev pub here : Here
here = record { me = 0; handle = 1; block = 4; chunk = 16; moment = moment_of 0; epoch = 2; refused = None; pushed = None }

abbrev pub new_here : Here
new_here = record { me = 0; handle = 2; block = 4; chunk = 16; moment = moment_of 0; epoch = 2; refused = None; pushed = None }

abbrev pub leased : Place
leased = record { slot = standing (empty_replica (stamp_of 2 1)); lease = Some (granted (record { stamp = stamp_of 2 1; members = 0 ∷ []; end = moment_of 60 })) }

abbrev pub unleased : Slot → Place
unleased s = record { slot = s; lease = None }

created : create here empty_place (stamp_of 2 1) ≡ changing (SlotBecomes (standing (empty_replica (stamp_of 2 1)))) LeaseStays (about here nodes.Master (chunks.Promised (stamp_of 2 1) 0 false) ∷ [])
created = refl

-- a repeat leaves the lease, a greater stamp spends it
created_again : after leased (create here leased (stamp_of 2 1)) ≡ leased
created_again = refl

advanced : advance here leased (stamp_of 2 2) ≡ changing (SlotBecomes (standing (empty_replica (stamp_of 2 2)))) LeaseSpent (about here nodes.Master (chunks.Promised (stamp_of 2 2) 0 false) ∷ [])
advanced = refl

of_another_epoch : advance here leased (stamp_of 1 9) ≡ unpromised here leased (stamp_of 1 9) (refusals.Epoch 2)
of_another_epoch = refl

nothing_to_advance : (advance here (unleased (dropped (sealed_replica (stamp_of 2 1)))) (stamp_of 2 2)).said ≡ Some refusals.NoReplica
nothing_to_advance = refl

-- the answer first, then what is told of the block
a_bad_replica_says_so : (advance here (unleased (mark_bad 3 (standing (empty_replica (stamp_of 2 1))))) (stamp_of 2 2)).sent ≡
    about here nodes.Master (chunks.Unpromised (stamp_of 2 2) (refusals.Damaged 3)) ∷ about here nodes.Master (chunks.Bad (stamp_of 2 1)) ∷ []
a_bad_replica_says_so = refl

below_the_promise : (advance here (unleased (standing (empty_replica (stamp_of 2 3)))) (stamp_of 2 2)).said ≡ Some refusals.Old
below_the_promise = refl

-- a copy of no bytes, onto a server that has nothing and onto one that has a replica under a lease
abbrev no_bytes : Image
no_bytes = record { bytes = []; count = 0; done = fin.empty }

sent_to_the_target : copy_out here leased (stamp_of 2 1) 5 false ≡ sending (about here (nodes.Server 5) (chunks.CopyIn (stamp_of 2 1) no_bytes None) ∷ [])
sent_to_the_target = refl

sent_under_another_promise : (copy_out here leased (stamp_of 2 2) 5 false).said ≡ Some (refusals.Stamp (stamp_of 2 1))
sent_under_another_promise = refl

taken_below_the_promise : (copy_in here leased (stamp_of 2 0) no_bytes None).said ≡ Some refusals.Old
taken_below_the_promise = refl

taken_again : after leased (copy_in here leased (stamp_of 2 1) no_bytes None) ≡ leased
taken_again = refl

dropped_with_its_lease : after leased (drop_replica here leased 2 (stamp_of 2 1)) ≡ unleased (slots.removed (standing (empty_replica (stamp_of 2 1))))
dropped_with_its_lease = refl

dropped_in_another_epoch : drop_replica here leased 1 (stamp_of 2 1) ≡ unanswered (refusals.Epoch 2)
dropped_in_another_epoch = refl

dropped_by_another_promise : drop_replica here leased 2 (stamp_of 2 2) ≡ unanswered (refusals.Stamp (stamp_of 2 1))
dropped_by_another_promise = refl

copied : after empty_place (make_copy here leased (stamp_of 2 1) new_here empty_place (stamp_of 2 4)).target ≡ unleased (standing (empty_replica (stamp_of 2 4)))
copied = refl

copied_of_another_promise : (make_copy here leased (stamp_of 2 2) new_here empty_place (stamp_of 2 4)).target.sent ≡ about new_here nodes.Master (chunks.Unpromised (stamp_of 2 4) (refusals.Stamp (stamp_of 2 1))) ∷ []
copied_of_another_promise = refl

-- the new handle isn't promised, and the old one is bad
copied_of_a_bad_replica : (make_copy here (unleased (mark_bad 3 (standing (empty_replica (stamp_of 2 1))))) (stamp_of 2 1) new_here empty_place (stamp_of 2 4)).target.sent ≡
    about new_here nodes.Master (chunks.Unpromised (stamp_of 2 4) (refusals.Damaged 3)) ∷ about here nodes.Master (chunks.Bad (stamp_of 2 1)) ∷ []
copied_of_a_bad_replica = refl
