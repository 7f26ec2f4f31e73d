-- Which call of a chunk's slot an event makes.
use Rattle.std.specs.Prelude.{◌≡◌, ℕ, ◌+◌, ◌==◌, cond, [], ◌∷◌, Option, Some, None, Result, Ok, Err, refl}
use Rattle.gs_base.specs.declared.numbers.Moment.{Moment}
use Rattle.gs_base.specs.declared.numbers.Stamp.{Stamp}
use Rattle.gs_base.specs.declared.numbers.ReqId.{ReqId}
use Rattle.gs_base.specs.declared.epoch.EpochEnd.{EpochEnd}
use Rattle.gs_base.specs.declared.epoch.EpochEnd.TheVariants.{Prepare, Finalize, Rollback}
use Rattle.gs_base.specs.declared.refusal.Refusal.{Refusal}
use Rattle.gs_replica.specs.Held.{Held}
use Rattle.gs_msg.specs.declared.op.Op.{Op}
use Rattle.gs_msg.specs.declared.op.Op.TheVariants.{Append}
use Rattle.gs_msg.specs.Ops.{in_replica}
use Rattle.gs_msg.specs.declared.node.NodeId.{NodeId}
use Rattle.gs_msg.specs.declared.node.NodeId.TheVariants as nodes
use Rattle.gs_msg.specs.declared.body.Body.{Body}
use Rattle.gs_msg.specs.declared.body.Body.TheVariants as bodies
use Rattle.gs_msg.specs.declared.chunk.Chunk.{Chunk}
use Rattle.gs_msg.specs.declared.chunk.Chunk.TheVariants as chunks
use Rattle.gs_replica.specs.declared.op.Op.TheVariants as applied
use Rattle.gs_store.specs.Slots.{Live, Slot}
use Rattle.gs_store.specs.Slots as slots
use Rattle.gs_store.specs.Moves.{copied_from}
use Rattle.gs_store.specs.Calls.{Call, Creates, Advances, CopiesIn, TakesCopy, Drops, TakesLease, Loses, Damages, MarksBad, Applies, Seals, Unseals, RollsBack}
use Rattle.gs_server_lease.specs.Leases.{stamp_of, moment_of, request_of}
use Rattle.gs_server.specs.Places.{Place, Here, SlotChange, SlotStays, SlotBecomes, SlotMarked}
use Rattle.gs_server.specs.Promises as promises
use Rattle.gs_server.specs.Promises.{Copying}
use Rattle.gs_server.specs.Holding.{quiet}
use Rattle.gs_server.specs.Edits.{bytes_of, bytes_or_none, pushed_here}
use Rattle.gs_server.specs.Servers.{Server, new, place_of, here_of, request_in, about_chunk}
use Rattle.gs_server.specs.Runs.{Event, Hears, Ticks, Restarts, slot_in}
use Rattle.gs_server.specs.Runs as runs
use Rattle.gs_laws_server.specs.servers.Editing.{numbered_edit}

-- The call that a message about a chunk asks for: of a client's edit it is the next one of the live replica.
abbrev pub numbered_call : Here → ReqId → Stamp → Op → Option Live → Option Call
numbered_call h req stamp op None = None
numbered_call h req stamp op (Some live) =
    Some (Applies stamp (live.replica.held.count + 1) req (in_replica (numbered_edit h req op (bytes_or_none (bytes_of op None h.pushed)) live).op) (numbered_edit h req op (bytes_or_none (bytes_of op None h.pushed)) live).bytes)

abbrev pub asked_call : Here → Place → Chunk → Option Call
asked_call h p (chunks.Create stamp) = Some (Creates stamp)
asked_call h p (chunks.Advance stamp) = Some (Advances stamp)
asked_call h p (chunks.Grant given) = Some (TakesLease given.stamp)
asked_call h p (chunks.Edit req stamp op) = numbered_call h req stamp op p.slot.live
asked_call h p (chunks.Forward stamp number req op carried) = Some (Applies stamp number req (in_replica op) (bytes_or_none (bytes_of op carried h.pushed)))
asked_call h p (chunks.CopyIn stamp image sealed) = Some (CopiesIn stamp image sealed)
asked_call h p (chunks.Drop epoch promise) = Some (Drops promise)
asked_call h p chunk = None

-- It is made where the message makes the slot another one; or the message marks a bad replica, or does nothing.
abbrev pub made_by : SlotChange → Option Call → Option Call
made_by SlotStays asked = None
made_by (SlotBecomes s) asked = asked
made_by (SlotMarked block) asked = Some (MarksBad block)

abbrev pub call_at : Here → Place → NodeId → Chunk → Option Call
call_at h p from chunk = made_by (about_chunk h p from chunk).slot (asked_call h p chunk)

-- a copy under a new handle is taken by that one, or marks the old one's replica
abbrev pub copy_taken : Result Held Refusal → Option Call
copy_taken (Ok h) = Some (TakesCopy h)
copy_taken (Err refusal) = None

abbrev pub first_call : Option Call → Option Call → Option Call
first_call None second = second
first_call (Some c) second = Some c

abbrev pub copying_call : ℕ → ℕ → ℕ → Copying → Option Call → Option Call
copying_call handle old_handle new_handle copying taken =
    first_call (cond (handle == new_handle) (made_by copying.target.slot taken) None) (cond (handle == old_handle) (made_by copying.source None) None)

-- the next epoch is gone on to
abbrev pub end_call : ℕ → EpochEnd → Call
end_call epoch Prepare = Seals
end_call epoch Finalize = Unseals
end_call epoch Rollback = RollsBack epoch

abbrev pub epoch_call : ℕ → ℕ → EpochEnd → Option Call
epoch_call stands epoch end = cond (epoch == stands) None (cond (epoch == stands + 1) (Some (end_call epoch end)) None)

abbrev pub heard_call : ℕ → Server → NodeId → Body → Moment → Option Call
heard_call handle s from (bodies.About other chunk) moment = cond (handle == other) (call_at (here_of s moment other (request_in chunk)) (place_of other s) from chunk) None
heard_call handle s from (bodies.MakeCopy old_handle at new_handle stamp) moment =
    copying_call handle old_handle new_handle (promises.make_copy (here_of s moment old_handle None) (place_of old_handle s) at (here_of s moment new_handle None) (place_of new_handle s) stamp)
    (copy_taken (copied_from at stamp (slot_in old_handle s)))
heard_call handle s from (bodies.Epoch epoch end) moment = epoch_call s.kept.epoch epoch end
heard_call handle s from body moment = None

-- what is refused is no call
abbrev pub if_done : Call → Result Slot Refusal → Option Call
if_done c (Ok s) = Some c
if_done c (Err refusal) = None

abbrev pub call_by : ℕ → Event → Server → Option Call
call_by handle (Hears message moment) s = heard_call handle s message.from message.body moment
call_by handle (Ticks moment) s = None
call_by handle Restarts s = None
call_by handle (runs.Loses other) s = cond (handle == other) (if_done Loses (slots.lose (slot_in other s))) None
call_by handle (runs.Damages other block) s = cond (handle == other) (if_done (Damages block) (slots.damage block (slot_in other s))) None

-- Worked: a forward of two bytes at a replica of no edits, and messages that a server of no chunks hears.
a_forward_is_applied : asked_call pushed_here quiet (chunks.Forward (stamp_of 2 1) 1 (request_of 7 2) (Append 2) None) ≡ Some (Applies (stamp_of 2 1) 1 (request_of 7 2) applied.Append (97 ∷ 98 ∷ []))
a_forward_is_applied = refl

an_edit_is_numbered : asked_call pushed_here quiet (chunks.Edit (request_of 7 2) (stamp_of 2 1) (Append 2)) ≡ Some (Applies (stamp_of 2 1) 1 (request_of 7 2) applied.Append (97 ∷ 98 ∷ []))
an_edit_is_numbered = refl

under_another_stamp_none_is : call_at pushed_here quiet (nodes.Server 1) (chunks.Forward (stamp_of 2 2) 1 (request_of 7 2) (Append 2) None) ≡ None
under_another_stamp_none_is = refl

each_chunk_is_sealed : heard_call 7 (new 0 4 16) nodes.Master (bodies.Epoch 1 Prepare) (moment_of 0) ≡ Some Seals
each_chunk_is_sealed = refl

by_the_next_epoch_alone : heard_call 7 (new 0 4 16) nodes.Master (bodies.Epoch 2 Prepare) (moment_of 0) ≡ None
by_the_next_epoch_alone = refl

of_another_chunk : heard_call 7 (new 0 4 16) nodes.Master (bodies.About 6 (chunks.Create (stamp_of 0 1))) (moment_of 0) ≡ None
of_another_chunk = refl
