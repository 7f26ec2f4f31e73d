-- A master may go into another thread.
use denote.Enum.Declared.{Declared, field, shape, variants}
use denote.Param.Send.{EachSend, IsSend, enum_send, sendable}
use Rattle.std.proofs.Crossing.{crosses}
use Rattle.std.proofs.MapsCrossingOver as sets
use Rattle.gs_master.specs.contracts.event.Event as Event
use Rattle.gs_master_spec.specs.contracts.asking.Asking as Asking
use Rattle.gs_master_spec.specs.contracts.asking.Prepared as Prepared
use Rattle.gs_master_spec.specs.contracts.pending.Pending as Pending
use Rattle.gs_master_spec.specs.contracts.pending.Waiting as Waiting
use Rattle.gs_master_spec.specs.contracts.reply.KeptReply as KeptReply
use Rattle.gs_master_state.specs.contracts.fault.Fault as Fault
use Rattle.gs_master_state.specs.contracts.held_names.HeldNames as HeldNames
use Rattle.gs_master_state.specs.contracts.log.Log as Log
use Rattle.gs_master_state.specs.contracts.memory.Memory as Memory
use Rattle.gs_master_state.specs.contracts.places.Places as Places
use Rattle.gs_master_state.specs.contracts.recorded.Recorded as Recorded
use Rattle.gs_master_state.specs.contracts.tracked.Calls as Calls
use Rattle.gs_master_state.specs.contracts.tracked.Slot as Slot
use Rattle.gs_master_state.specs.contracts.tracked.Tracked as Tracked
use Rattle.gs_master_state.specs.contracts.undo.ChunkBefore as ChunkBefore
use Rattle.gs_master_state.specs.contracts.undo.EditBefore as EditBefore
use Rattle.gs_master_state.specs.contracts.undo.EpochBefore as EpochBefore
use Rattle.gs_master_state.specs.contracts.undo.Following as Following
use Rattle.gs_master_state.specs.contracts.undo.KeptBefore as KeptBefore
use Rattle.gs_master_state.specs.contracts.undo.MovedNames as MovedNames
use Rattle.gs_master_state.specs.contracts.undo.NamesBefore as NamesBefore
use Rattle.gs_master_state.specs.contracts.undo.ProposalBefore as ProposalBefore
use Rattle.gs_master_state.specs.contracts.undo.RemovedNames as RemovedNames
use Rattle.gs_master_state.specs.contracts.undo.ReplyBefore as ReplyBefore
use Rattle.gs_master_state.specs.contracts.undo.RollbackBefore as RollbackBefore
use Rattle.gs_master_state.specs.contracts.undo.StoodNames as StoodNames
use Rattle.gs_master_state.specs.contracts.undo.Undo as Undo
use Rattle.gs_cluster_send.proofs.Disks.{record_of}
use Rattle.gs_cluster_send.proofs.Leases.{entry, lease, lease_table, lock_table, table}
use Rattle.gs_cluster_send.proofs.Messages.{answer, message}
use Rattle.gs_cluster_send.proofs.Parts.{epoch_end, handle, members, path, refusal, req_id, stamp, view}
use Rattle.gs_cluster_send.proofs.Trees.{edit, inverse, listed_inverse, names, taken_out}

-- an enum of parts that may
enum_by : (T : Declared) → EachSend (variants T) → IsSend (field T).row
enum_by T each = enum_send (shape T) each

pub asking : IsSend (Asking.the_field).row
asking = search (sendable, crosses, stamp, members, req_id) depth 200 fits 100000

pub prepared : IsSend (Prepared.the_field).row
prepared = search (sendable, crosses, view, members) depth 200 fits 100000

pub waiting : IsSend (Waiting.the_field).row
waiting = search (sendable, crosses, path) depth 200 fits 100000

pub pending : IsSend (Pending.the_field).row
pending = search (sendable, crosses, req_id, waiting) depth 200 fits 100000

pub kept_reply : IsSend (KeptReply.the_field).row
kept_reply = search (sendable, crosses, answer, refusal) depth 200 fits 100000

pub reply_before : IsSend (ReplyBefore.the_field).row
reply_before = search (sendable, crosses, kept_reply) depth 200 fits 100000

pub slot : IsSend (Slot.the_field).row
slot = search (sendable, crosses, handle, asking, kept_reply, members, table) depth 200 fits 100000

pub memory : IsSend (Memory.the_field).row
memory = search (sendable, crosses, table, handle, asking, pending, lock_table, members, kept_reply) depth 200 fits 100000

pub calls : IsSend (Calls.the_field).row
calls = search (sendable, crosses, pending, lock_table, handle) depth 200 fits 100000

pub tracked : IsSend (Tracked.the_field).row
tracked = search (sendable, crosses, memory, slot, calls, handle) depth 200 fits 100000

pub places : IsSend (Places.the_field).row
places = search (sendable, crosses, sets.BTreeSet-send, path) depth 200 fits 100000

pub held_names : IsSend (HeldNames.the_field).row
held_names = search (sendable, crosses, names, places, table, handle) depth 200 fits 100000

pub recorded : IsSend (Recorded.the_field).row
recorded = search (sendable, crosses, held_names, lease_table, epoch_end, table, handle, kept_reply, listed_inverse, prepared) depth 200 fits 100000

pub proposal_before : IsSend (ProposalBefore.the_field).row
proposal_before = search (sendable, crosses, handle, lease) depth 200 fits 100000

pub chunk_before : IsSend (ChunkBefore.the_field).row
chunk_before = search (sendable, crosses, handle, lease, prepared) depth 200 fits 100000

pub following : IsSend (Following.the_field).row
following = search (sendable, crosses, edit, path) depth 200 fits 100000

pub stood_names : IsSend (StoodNames.the_field).row
stood_names = search (sendable, crosses, names, places, following) depth 200 fits 100000

pub moved_names : IsSend (MovedNames.the_field).row
moved_names = search (sendable, crosses, names, path) depth 200 fits 100000

pub removed_names : IsSend (RemovedNames.the_field).row
removed_names = search (sendable, crosses, path, taken_out) depth 200 fits 100000

pub names_before : IsSend (NamesBefore.the_field).row
names_before = search (sendable, crosses, inverse, stood_names, moved_names, removed_names) depth 200 fits 100000

pub edit_before : IsSend (EditBefore.the_field).row
edit_before = search (sendable, crosses, names_before, chunk_before, reply_before) depth 200 fits 100000

pub kept_before : IsSend (KeptBefore.the_field).row
kept_before = search (sendable, crosses, listed_inverse, table, handle, prepared) depth 200 fits 100000

pub epoch_before : IsSend (EpochBefore.the_field).row
epoch_before = search (sendable, crosses, kept_before) depth 200 fits 100000

pub rollback_before : IsSend (RollbackBefore.the_field).row
rollback_before = search (sendable, crosses, held_names, lease_table, kept_before) depth 200 fits 100000

ruleset undo_parts = (sendable, crosses, reply_before, proposal_before, chunk_before, handle, prepared, edit_before, epoch_before, rollback_before)

pub undo : IsSend (Undo.the_field).row
undo = enum_by Undo.the_type (search undo_parts depth 60 fits 100000, (search undo_parts depth 60 fits 100000, (search undo_parts depth 60 fits 100000, (search undo_parts depth 60 fits 100000, (search undo_parts depth 60 fits 100000, (search undo_parts depth 60 fits 100000, (search undo_parts depth 60 fits 100000, (search undo_parts depth 60 fits 100000, tt))))))))

pub fault : IsSend (Fault.the_field).row
fault = search (sendable, crosses, entry) depth 200 fits 100000

pub log : IsSend (Log.the_field).row
log = search (sendable, crosses) depth 200 fits 100000

pub event : IsSend (Event.the_field).row
event = search (sendable, crosses, recorded, undo, tracked, log, fault, entry, record_of, message, refusal, path) depth 200 fits 100000
