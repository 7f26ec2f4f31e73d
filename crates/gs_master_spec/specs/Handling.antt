-- The master: what it does with each message, at a tick, for a checkpoint, and after a restart.
use Rattle.std.specs.Prelude.{◌≡◌, ◌&&◌, ◌==◌, ◌+◌, ℕ, Bool, true, false, not, nat_lt, nat_le, List, [], ◌∷◌, map, flat_map, filter, fold, is_some, is_none, Option, Some, None, Result, Ok, Err, if◌then◌else◌, refl}
use Rattle.std.specs.FinMap as fin
use Rattle.gs_base.specs.Stamps.{is_same}
use Rattle.gs_base.specs.declared.config.Config.{Config}
use Rattle.gs_base.specs.declared.numbers.Moment.{Moment}
use Rattle.gs_base.specs.declared.numbers.ReqId.{ReqId}
use Rattle.gs_base.specs.declared.numbers.Stamp.{Stamp}
use Rattle.gs_base.specs.declared.refusal.Refusal.{Refusal}
use Rattle.gs_base.specs.declared.refusal.Refusal.TheVariants as refusals
use Rattle.gs_tree.specs.Edits.{old_name}
use Rattle.gs_edit.specs.Plain.{unhide_target}
use Rattle.gs_journal.specs.Journal.{checkpoint_size, last_generation}
use Rattle.gs_journal.specs.declared.version.Version.{Version}
use Rattle.gs_journal.specs.declared.version.Version.TheVariants as versions
use Rattle.gs_lease.specs.declared.view.View.{View}
use Rattle.gs_msg.specs.declared.answer.Answer.{Answer}
use Rattle.gs_msg.specs.declared.answer.Answer.TheVariants as answers
use Rattle.gs_msg.specs.declared.body.Body.{Body}
use Rattle.gs_msg.specs.declared.body.Body.TheVariants as bodies
use Rattle.gs_msg.specs.declared.call.Call.{Call}
use Rattle.gs_msg.specs.declared.call.Call.TheVariants as calls
use Rattle.gs_msg.specs.declared.chunk.Chunk.{Chunk as Said_of_chunk}
use Rattle.gs_msg.specs.declared.chunk.Chunk.TheVariants as chunks
use Rattle.gs_msg.specs.declared.message.Message.{Message}
use Rattle.gs_msg.specs.declared.node.NodeId.{NodeId}
use Rattle.gs_msg.specs.declared.node.NodeId.TheVariants as nodes
use Rattle.gs_master_record.specs.Encoding.{body}
use Rattle.gs_master_record.specs.Plain.{PlainEntry, Mkdirs, Create, Unhide, Whole}
use Rattle.gs_base.specs.declared.epoch.EpochEnd.TheVariants as ends
use Rattle.gs_master_spec.specs.Applied.{replayed, records_behind}
use Rattle.gs_master_spec.specs.Calls.{refused_before, edited_by, renames, deleted, listing, status, location, found_chunk, looked_up, queried}
use Rattle.gs_master_spec.specs.Chunks.{Chunk, chunk_at, is_leased, step_at_tick, view_of}
use Rattle.gs_master_spec.specs.Durable.{Durable, start, is_rolling, is_listed}
use Rattle.gs_master_spec.specs.Hearing.{promised, unpromised, renewed, reported, damaged, learned, behind, sends, stepped}
use Rattle.gs_master_spec.specs.Settling.{grants}
use Rattle.gs_master_spec.specs.State.{State, Log, Turn, unmoved, met_by, and_then, for_each, reply_to, refused, last_reply, first_of, is_failed, is_unopened, Sound}
use Rattle.gs_master_spec.specs.Upgrades.{prepare_begin, prepare_commit, prepare_abort, finalize, rollback_begin, rollback_commit, tell_all}
use Rattle.gs_master_spec.specs.Volatile.{Volatile, behind_restart, is_pending}
use Rattle.gs_master_spec.specs.Whole.{checkpoint_of}
use Rattle.gs_master_spec.specs.Working.{found_for_writing, extends, snapshots, replicates, scans}
use Rattle.gs_master_spec.specs.declared.asking.Asking.{Asking}
use Rattle.gs_master_spec.specs.declared.reply.KeptReply.{KeptReply}

-- ---- calls

-- a call that nothing stands against but its own tests
abbrev pub called : Config → State → ReqId → Moment → Call → Turn
called config s req moment (calls.Mkdirs path) = edited_by s req (Mkdirs path) answers.Nothing
called config s req moment (calls.Create path) = edited_by s req (Create path) answers.Nothing
called config s req moment (calls.Rename from to) = renames s req from to
called config s req moment (calls.Delete path recursive) = deleted s req path recursive moment
called config s req moment (calls.Undelete path) = edited_by s req (Unhide path) (answers.Path (unhide_target path (old_name path)))
called config s req moment (calls.Snapshot from to) = snapshots s req from to
called config s req moment (calls.List path) = looked_up s req (listing (fin.entries s.durable.names.tree) path (fin.get s.durable.names.tree path))
called config s req moment (calls.Status path) = looked_up s req (status s.durable (fin.get s.durable.names.tree path))
called config s req moment (calls.FindForReading path index) = looked_up s req (location s.durable (found_chunk (fin.get s.durable.names.tree path) index))
called config s req moment (calls.FindForWriting path index stamp) =
    found_for_writing s req path index stamp moment (found_chunk (fin.get s.durable.names.tree path) index)
called config s req moment (calls.Extend path index) = extends config s req path index (fin.get s.durable.names.tree path)
called config s req moment calls.Scan = scans s req moment
called config s req moment calls.Replicate = replicates config s req
called config s req moment calls.Query = queried s req
called config s req moment calls.PrepareBegin = prepare_begin s req
called config s req moment calls.PrepareCommit = prepare_commit config s req moment
called config s req moment calls.PrepareAbort = prepare_abort s req
called config s req moment calls.Finalize = finalize config s req
called config s req moment calls.RollbackBegin = rollback_begin config s req
called config s req moment calls.RollbackCommit = rollback_commit s req

abbrev pub called_unless : Config → State → ReqId → Moment → Call → Option Refusal → Turn
called_unless config s req moment call None = called config s req moment call
called_unless config s req moment call (Some refusal) = refused s req refusal

abbrev pub new_call : Config → State → ReqId → Moment → Call → Turn
new_call config s req moment call = called_unless config s req moment call (refused_before s req call)

-- ---- numbers: a call that waits isn't taken again, the last one gets its reply again, and an older one is refused

abbrev pub refusal_in : Result Answer Refusal → Option Refusal
refusal_in (Ok answer) = None
refusal_in (Err refusal) = Some refusal

abbrev pub replied_again : State → ReqId → Result Answer Refusal → Turn
replied_again s req result = record { after = s; records = []; sent = reply_to req result ∷ []; said = refusal_in result }

-- it gets no answer before it ends, but where the disk has failed
abbrev pub waits_still : State → ReqId → Turn
waits_still s req = if is_failed s.fault then replied_again s req (Err refusals.Device) else unmoved s

-- how a request's number stands to that of the last reply
pub data Numbered : Type 0 where
  New : Numbered
  Again : Result Answer Refusal → Numbered
  Older : Numbered

abbrev pub numbered : Option KeptReply → ℕ → Numbered
numbered None number = New
numbered (Some reply) number = if reply.number == number then Again reply.result else if nat_lt number reply.number then Older else New

abbrev pub taken_as : Config → State → ReqId → Moment → Call → Numbered → Turn
taken_as config s req moment call New = new_call config s req moment call
taken_as config s req moment call (Again result) = replied_again s req result
taken_as config s req moment call Older = replied_again s req (Err refusals.Old)

-- of a journal that couldn't be opened no reply is known either
abbrev pub call_turn : Config → State → ReqId → Moment → Call → Turn
call_turn config s req moment call =
    if is_unopened s.fault then replied_again s req (Err refusals.Device)
    else if is_pending s.volatile.pending req then waits_still s req
    else taken_as config s req moment call (numbered (last_reply s req.client) req.number)

-- ---- messages of servers

abbrev pub about_turn : State → ℕ → ℕ → Moment → Said_of_chunk → Turn
about_turn s server chunk moment (chunks.Promised stamp count carried) = promised s server chunk stamp count carried moment
about_turn s server chunk moment (chunks.Unpromised stamp refusal) = unpromised s server chunk stamp moment
about_turn s server chunk moment (chunks.Renew stamp) = renewed s server chunk stamp moment
about_turn s server chunk moment (chunks.Bad stamp) = damaged s server chunk
about_turn s server chunk moment said = met_by s refusals.Stray

abbrev pub server_turn : State → ℕ → Moment → Body → Turn
server_turn s server moment (bodies.About chunk said) = about_turn s server chunk moment said
server_turn s server moment (bodies.Report epoch replicas) = reported s server epoch replicas
server_turn s server moment (bodies.Learned epoch handles) = learned s server epoch handles
server_turn s server moment (bodies.Behind epoch) = behind s server epoch
server_turn s server moment said = met_by s refusals.Stray

-- once a disk has failed, nothing is done for them
abbrev pub unless_failed : State → Turn → Turn
unless_failed s t = if is_failed s.fault then met_by s refusals.Device else t

abbrev pub from_server : State → ℕ → Moment → Body → Turn
from_server s server moment said = unless_failed s (server_turn s server moment said)

abbrev pub from_client : Config → State → Moment → Body → Turn
from_client config s moment (bodies.Call req call) = call_turn config s req moment call
from_client config s moment said = met_by s refusals.Stray

abbrev pub from_node : Config → State → Moment → Body → NodeId → Turn
from_node config s moment said nodes.Master = met_by s refusals.Stray
from_node config s moment said (nodes.Server server) = from_server s server moment said
from_node config s moment said (nodes.Client client) = from_client config s moment said

-- what the master does with a message; one that isn't for it is a stray
unfoldable pub handle : Config → State → Message → Moment → Turn
handle config s message moment = from_node config s moment message.body message.from

-- ---- a tick

-- the chunks for which a view is proposed, each with its stamp, ascending
abbrev pub proposals : State → List (ℕ × Stamp)
proposals s = map (λ e. (e.0, e.1.stamp)) (fin.entries s.volatile.moving)

abbrev pub pressed_if : State → ℕ → Stamp → Moment → Chunk → Option Asking → Turn
pressed_if s chunk stamp moment c None = unmoved s
pressed_if s chunk stamp moment c (Some asking) =
    if is_same asking.stamp stamp then stepped s chunk c asking false moment (step_at_tick asking) else unmoved s

abbrev pub pressed_at : State → ℕ → Stamp → Moment → Option Chunk → Turn
pressed_at s chunk stamp moment None = unmoved s
pressed_at s chunk stamp moment (Some c) = pressed_if s chunk stamp moment c c.asking

-- A view is settled by one yes, and a call without one is refused. What is begun in the same tick waits for the next.
abbrev pub pressed : Moment → ℕ × Stamp → State → Turn
pressed moment proposal s = pressed_at s proposal.0 proposal.1 moment (chunk_at s proposal.0)

abbrev pub granted_view : ℕ → Option View → List Message
granted_view chunk None = []
granted_view chunk (Some view) = grants chunk view

abbrev pub granted_at : ℕ → Option Chunk → List Message
granted_at chunk None = []
granted_at chunk (Some c) = if is_leased c then granted_view chunk (view_of c) else []

-- every lease is granted again, ascending
abbrev pub granted : State → Turn
granted s = sends s (flat_map (λ chunk. granted_at chunk (chunk_at s chunk)) (fin.keys s.durable.chunks))

-- ---- a checkpoint

-- so many records make the next tick write one
abbrev pub many_records : ℕ
many_records = 4096

abbrev pub checkpoint_body : Durable → List ℕ
checkpoint_body d = body versions.Two (Whole (checkpoint_of d))

-- why none is written: a disk has failed, an upgrade is prepared, no generation is left, there is no room
abbrev pub checkpoint_tests : Bool → Bool → Log → List ℕ → List (Bool × Refusal)
checkpoint_tests failed preparing log bytes =
    (failed, refusals.Device) ∷ (preparing, refusals.Preparing) ∷ (log.generation == last_generation, refusals.Exhausted) ∷ (nat_lt log.limit (checkpoint_size bytes), refusals.Full) ∷ []

-- the other disk has the checkpoint alone, and counts
abbrev pub log_with : Log → List ℕ → Log
log_with log bytes = record log { records = 0; size = checkpoint_size bytes; generation = log.generation + 1 }

-- chunks that stand in no file and never did aren't told
abbrev pub tidied : Durable → Durable
tidied d = record d { chunks = fin.retain_keys d.chunks (is_listed d) }

-- So of the new chunks those stay that wait for their first view. One that was settled, and got no place, is no more, whatever is
-- asked for it: a view of it could be proposed no more, since nothing durable is known of it and its handle was given.
abbrev pub awaits_first : State → ℕ → Bool
awaits_first s chunk = is_none (fin.get s.durable.chunks chunk) && is_some (fin.get s.volatile.moving chunk)

abbrev pub without_place : State → List ℕ
without_place s = filter (λ chunk. is_some (fin.get s.durable.chunks chunk)) s.volatile.unplaced

abbrev pub still_new : State → Volatile
still_new s = record (s.volatile) { moving = fold fin.remove s.volatile.moving (without_place s); unplaced = filter (awaits_first s) s.volatile.unplaced; taken_out = [] }

abbrev pub written : State → Turn
written s = record {
  after = record s { durable = tidied s.durable; volatile = still_new s; log = log_with s.log (checkpoint_body s.durable) };
  records = Whole (checkpoint_of s.durable) ∷ [];
  sent = [];
  said = None;
}

abbrev pub written_unless : State → Option Refusal → Turn
written_unless s None = written s
written_unless s (Some refusal) = met_by s refusal

unfoldable pub checkpoint : State → Turn
checkpoint s = written_unless s (first_of (checkpoint_tests (is_failed s.fault) s.volatile.is_preparing s.log (checkpoint_body s.durable)))

-- where many records stand one is written, or else the tick is as it is
abbrev pub due : State → Bool
due s = nat_le many_records s.log.records && not s.volatile.is_preparing

abbrev pub written_if_due : State → Turn
written_if_due s = if due s then record (checkpoint s) { said = None } else unmoved s

unfoldable pub tick : State → Moment → Turn
tick s moment =
    unless_failed s (and_then (and_then (for_each s (proposals s) (pressed moment)) granted) written_if_due)

-- ---- a restart

-- the settled chunks that no file has or had, of which a checkpoint doesn't tell
abbrev pub unlisted : Durable → List ℕ
unlisted d = filter (λ chunk. not (is_listed d chunk)) (fin.keys d.chunks)

-- Nothing is asked for any chunk, and none is new: so one that stands in no file and never did has no entry any more.
abbrev pub restarted : Durable → Log → State
restarted d log = record { durable = d; volatile = behind_restart (unlisted d); log = log; fault = Sound }

-- while rolling back every server is told again
abbrev pub told_again : Config → Durable → List Message
told_again config d = if is_rolling d.phase then tell_all config d.epoch ends.Rollback else []

abbrev pub reopened : Config → State → Turn
reopened config s = record { after = s; records = []; sent = told_again config s.durable; said = None }

-- a journal of version 1 is written anew, as a checkpoint of version 2 on the other disk
abbrev pub anew : Version → State → Turn
anew versions.One s = written_unless s (first_of (checkpoint_tests false false s.log (checkpoint_body s.durable)))
anew versions.Two s = unmoved s

abbrev pub answered_or : Turn → Option Refusal → Result Turn Refusal
answered_or t None = Ok t
answered_or t (Some refusal) = Err refusal

abbrev pub recovered_from : Config → Version → Log → Option Durable → Result Turn Refusal
recovered_from config version log None = Err refusals.BadLine
recovered_from config version log (Some d) =
    let t = and_then (anew version (restarted d log)) (reopened config) in answered_or t t.said

-- The state that the records of an open journal replay to, if each fits; so many stand behind its last checkpoint.
unfoldable pub recover : Config → Version → List PlainEntry → Log → Result Turn Refusal
recover config version entries log = recovered_from config version (record log { records = records_behind entries }) (replayed start entries)

-- a new store, on a journal without records
abbrev pub fresh : Log → State
fresh log = restarted start log

-- ---- examples

abbrev a_reply : KeptReply
a_reply = record { number = 7; result = Err refusals.NotFound }

the_same_number : numbered (Some a_reply) 7 ≡ Again (Err refusals.NotFound)
the_same_number = refl

a_lower_number : numbered (Some a_reply) 6 ≡ Older
a_lower_number = refl

a_higher_number : numbered (Some a_reply) 8 ≡ New
a_higher_number = refl

abbrev a_log : Log
a_log = record { records = 4096; size = 90000; limit = 100; generation = 3 }

no_checkpoint_while_preparing : first_of (checkpoint_tests false true a_log []) ≡ Some refusals.Preparing
no_checkpoint_while_preparing = refl

room_for_a_checkpoint : first_of (checkpoint_tests false false (record a_log { limit = 20 }) []) ≡ None
room_for_a_checkpoint = refl

no_room_for_a_checkpoint : first_of (checkpoint_tests false false (record a_log { limit = 19 }) []) ≡ Some refusals.Full
no_room_for_a_checkpoint = refl

the_records_are_gone : log_with a_log [] ≡ record { records = 0; size = 20; limit = 100; generation = 4 }
the_records_are_gone = refl
