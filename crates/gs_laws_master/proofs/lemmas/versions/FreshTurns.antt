-- Each version that is proposed is above all before it, whatever message comes and at each tick.
use Rattle.std.proofs.Common.{◌≡◌, ◌&&◌, ◌++◌, ◌==◌, ℕ, Bool, true, false, not, List, [], ◌∷◌, length, refl}
use Rattle.std.specs.Prelude.{flat_map, nat_lt, Option, Some, None, Result, Ok, Err, if◌then◌else◌}
use Rattle.std.specs.List.{list_all}
use Rattle.std.specs.FinMap as fin
use Rattle.std.proofs.lemmas.Bool.{and_parts}
use Rattle.gs_base.specs.Members.{is_member}
use Rattle.gs_base.specs.Stamps.{is_same}
use Rattle.gs_base.specs.declared.config.Config.{Config}
use Rattle.gs_base.specs.declared.numbers.Moment.{Moment}
use Rattle.gs_base.specs.declared.numbers.ReqId.{ReqId}
use Rattle.gs_base.specs.declared.numbers.Stamp.{Stamp}
use Rattle.gs_base.specs.declared.refusal.Refusal.{Refusal}
use Rattle.gs_base.specs.declared.refusal.Refusal.TheVariants as refusals
use Rattle.gs_path.specs.Path.{Path}
use Rattle.gs_edit.specs.View.{NamesView}
use Rattle.gs_lease.specs.Transitions.{end_of}
use Rattle.gs_lease.specs.declared.view.Purpose.TheVariants as purposes
use Rattle.gs_lease.specs.declared.view.View.{View}
use Rattle.gs_msg.specs.declared.answer.Answer.{Answer}
use Rattle.gs_msg.specs.declared.answer.Answer.TheVariants as answers
use Rattle.gs_msg.specs.declared.body.Body.{Body}
use Rattle.gs_msg.specs.declared.body.Body.TheVariants as bodies
use Rattle.gs_msg.specs.declared.body.Reported.{Reported}
use Rattle.gs_msg.specs.declared.chunk.Chunk.{Chunk as Said_of_chunk}
use Rattle.gs_msg.specs.declared.chunk.Chunk.TheVariants as chunks
use Rattle.gs_msg.specs.declared.message.Message.{Message}
use Rattle.gs_msg.specs.declared.node.NodeId.{NodeId}
use Rattle.gs_msg.specs.declared.node.NodeId.TheVariants as nodes
use Rattle.gs_master_record.specs.Plain.{PlainEdit, Edited, Settle, AddChunk, Cow, Snapshot}
use Rattle.gs_master_spec.specs.Beginning.{next_stamp, has_versions, has_handle, begin_at, all_begun, copy_plan, waits_on}
use Rattle.gs_master_spec.specs.Chunks.{Chunk, chunk_at, may_begin, hears, heard_yes, heard_no, is_target, step_of_yes, step_of_no, settling, is_holder, holder_records, target_of, view_by, step_at_tick}
use Rattle.gs_master_spec.specs.Durable.{is_rolling, prepared_view}
use Rattle.gs_master_spec.specs.Handling.{handle, about_turn, server_turn, from_client, from_node, pressed, pressed_at, pressed_if, proposals, granted, granted_at, written_unless, written_if_due, checkpoint, checkpoint_tests, checkpoint_body, due, tick}
use Rattle.gs_master_spec.specs.Hearing.{stepped, heard, ask_plan, send_plan, is_with_sealed, promised_for, promised_at, unpromised_for, unpromised_at, sends, next_epoch, behind, learned, drops, lost, is_lost_at, made_quiet, reported, reported_now, damaged, renewed, is_leased_under}
use Rattle.gs_laws_master.specs.Promises.{ProposesFresh, ProposesFreshAtTicks}
use Rattle.gs_laws_master.proofs.lemmas.versions.Fresh.{IsFreshTurn, may_follow, fresh_at, same_fresh, then_fresh, each_fresh, test_fresh, either_fresh, turn_fresh, ended_fresh, all_ended_fresh, not_false, next_follows, all_begun_fresh}
use Rattle.gs_laws_master.proofs.lemmas.versions.FreshCalls.{call_fresh}
use Rattle.gs_master_spec.specs.Settling.{ended_with, end_plan, if_room_for, edit_plan, edit_turn, ended_by_edit, copied, copied_where, leased_next, replaced_if, replace_plan, goes_on, own_request, is_quiet_at, source_chunks, settle_plan, all_refused, all_go_on, settled_on, settled_if, settled_by, concerned, requests_of, quiet_view_at}
use Rattle.gs_master_spec.specs.State.{State, Plan, Turn, turned, unmoved, and_then, for_each, fits, if_room, met_by, about, is_failed, ended_by, first_of}
use Rattle.gs_master_spec.specs.Undoing.{edited_names}
use Rattle.gs_view.specs.declared.poll.Poll.{Poll}
use Rattle.gs_master_spec.specs.declared.asking.Asking.{Asking}
use Rattle.gs_master_spec.specs.declared.asking.Step.{Step}
use Rattle.gs_master_spec.specs.declared.asking.Step.TheVariants as steps
use Rattle.gs_master_spec.specs.declared.change.Change.{Change}
use Rattle.gs_master_spec.specs.declared.change.Change.TheVariants as changes
use Rattle.gs_master_spec.specs.declared.pending.Pending.{Pending}
use Rattle.gs_master_spec.specs.declared.pending.Waiting.{Waiting}
use Rattle.gs_master_spec.specs.declared.pending.Waiting.TheVariants as waits

-- ---- calls that waited

room_fresh : (s : State) (req : ReqId) (t : Turn) → IsFreshTurn s t → IsFreshTurn s (if_room_for s req t)
room_fresh s req t f = either_fresh s (fits s.log t.records) t (ended_by s req refusals.Full) f (ended_fresh req refusals.Full s)

ended_with_fresh : (req : ReqId) (answer : Answer) (s : State) → IsFreshTurn s (ended_with s req answer)
ended_with_fresh req answer s = turn_fresh s (end_plan s req answer) refl

edit_fresh : (s : State) (req : ReqId) (edit : PlainEdit) (answer : Answer) (before : List Change) (names : Result NamesView Refusal) → IsFreshTurn s (edit_turn s req (edit_plan req edit answer before) names)
edit_fresh s req edit answer before (Ok names) = room_fresh s req (turned s (edit_plan req edit answer before)) (turn_fresh s (edit_plan req edit answer before) refl)
edit_fresh s req edit answer before (Err refusal) = ended_fresh req refusal s

leased_fresh : (req : ReqId) (path : Path) (index chunk : ℕ) (s : State) → IsFreshTurn s (leased_next req path index chunk s)
leased_fresh req path index chunk s =
    let plan : Plan = waits_on (begin_at s chunk purposes.Lease (Some req)) req (waits.Lease path index chunk) in
    let begin = if_room_for s req (turned s plan) in
    either_fresh s (not (may_begin s.durable.phase)) (ended_by s req refusals.RollingBack) (if not (has_versions s.durable 1) then ended_by s req refusals.Exhausted else begin)
    (ended_fresh req refusals.RollingBack s)
    (test_fresh s (not (has_versions s.durable 1)) (ended_by s req refusals.Exhausted) begin (λ is. ended_fresh req refusals.Exhausted s)
    (λ is. room_fresh s req (turned s plan) (turn_fresh s plan (next_follows s.durable.next_version chunk (not_false (has_versions s.durable 1) is)))))

where_fresh : (req : ReqId) (path : Path) (index old : ℕ) (quiet : Option View) (s : State) → has_versions s.durable 1 ≡ true → IsFreshTurn s (copied_where s req path index old quiet)
where_fresh req path index old None s left = ended_fresh req refusals.NoReplica s
where_fresh req path index old (Some view) s left =
    let plan : Plan = waits_on (copy_plan (next_stamp s.durable) old view s.durable.next_handle req) req (waits.Copy path index old s.durable.next_handle) in
    room_fresh s req (turned s plan) (turn_fresh s plan (next_follows s.durable.next_version s.durable.next_handle left))

copied_fresh : (req : ReqId) (path : Path) (index old : ℕ) (s : State) → IsFreshTurn s (copied s req path index old)
copied_fresh req path index old s =
    let copy = copied_where s req path index old (quiet_view_at s old) in
    let left = has_handle s.durable && has_versions s.durable 1 in
    either_fresh s (not (may_begin s.durable.phase)) (ended_by s req refusals.RollingBack) (if not left then ended_by s req refusals.Exhausted else copy) (ended_fresh req refusals.RollingBack s)
    (test_fresh s (not left) (ended_by s req refusals.Exhausted) copy (λ is. ended_fresh req refusals.Exhausted s)
    (λ is. where_fresh req path index old (quiet_view_at s old) s (and_parts (has_handle s.durable) (has_versions s.durable 1) (not_false left is)).1))

replaced_fresh : (req : ReqId) (path : Path) (index old new : ℕ) (names : Result NamesView Refusal) (s : State) → IsFreshTurn s (replaced_if s req path index old new names)
replaced_fresh req path index old new (Ok names) s =
    either_fresh s (fits s.log (Edited own_request (Cow path index old new) ∷ [])) (and_then (turned s (replace_plan path index old new)) (leased_next req path index new)) (ended_by s req refusals.Full)
    (then_fresh s (turned s (replace_plan path index old new)) (leased_next req path index new) (turn_fresh s (replace_plan path index old new) refl)
    (leased_fresh req path index new (turned s (replace_plan path index old new)).after))
    (ended_fresh req refusals.Full s)
replaced_fresh req path index old new (Err refusal) s = ended_fresh req refusal s

goes_on_fresh : (req : ReqId) (view : View) (waiting : Waiting) (s : State) → IsFreshTurn s (goes_on s req view waiting)
unfolding goes_on
goes_on_fresh req view (waits.Extend path chunk) s =
    edit_fresh s req (AddChunk path chunk) (answers.Location chunk view s.durable.epoch) (changes.Place chunk ∷ []) (edited_names (AddChunk path chunk) s.durable.names)
goes_on_fresh req view (waits.Lease path index chunk) s = ended_with_fresh req (answers.Location chunk view s.durable.epoch) s
goes_on_fresh req view (waits.Quiet path index chunk) s = copied_fresh req path index chunk s
goes_on_fresh req view (waits.Copy path index old new) s = replaced_fresh req path index old new (edited_names (Cow path index old new) s.durable.names) s
goes_on_fresh req view (waits.Snapshot from to) s =
    either_fresh s (list_all (is_quiet_at s) (source_chunks s from)) (ended_by_edit s req (Snapshot from to) answers.Nothing []) (unmoved s)
    (edit_fresh s req (Snapshot from to) answers.Nothing [] (edited_names (Snapshot from to) s.durable.names)) (same_fresh s)
goes_on_fresh req view (waits.Replicate chunk target) s =
    either_fresh s (is_member view.members target) (ended_with s req (answers.Copied (Some (record { handle = chunk; server = target })))) (ended_by s req refusals.NoReplica)
    (ended_with_fresh req (answers.Copied (Some (record { handle = chunk; server = target }))) s) (ended_fresh req refusals.NoReplica s)

-- ---- settling

settling_follows : (next : ℕ) (b : Bool) (chunk : ℕ) (target : Option ℕ) (view : View) → list_all (may_follow next) (holder_records b chunk target ++ Settle (record { handle = chunk; view = view }) ∷ []) ≡ true
settling_follows next true chunk None view = refl
settling_follows next true chunk (Some target) view = refl
settling_follows next false chunk None view = refl
settling_follows next false chunk (Some target) view = refl

all_refused_fresh : (chunk : ℕ) (call : Option ReqId) (refusal : Refusal) (s : State) → IsFreshTurn s (all_refused s chunk call refusal)
all_refused_fresh chunk call refusal s = all_ended_fresh (requests_of (concerned s chunk call)) refusal s

all_go_on_fresh : (view : View) (pending : List Pending) (s : State) → IsFreshTurn s (all_go_on view pending s)
all_go_on_fresh view pending s = each_fresh pending (λ (p : Pending) next. goes_on next p.req view p.waits) (λ p next. goes_on_fresh p.req view p.waits next) s

settled_on_fresh : (chunk : ℕ) (asking : Asking) (carried : Bool) (view : View) (s : State) → IsFreshTurn s (settled_on s chunk asking carried view)
settled_on_fresh chunk asking carried view s =
    let records = settling s.durable.phase (prepared_view s.durable chunk) carried chunk asking view in
    let holds = is_holder s.durable.phase (prepared_view s.durable chunk) carried asking view in
    let settles = turned s (settle_plan records chunk view) in
    either_fresh s (fits s.log records) (and_then settles (all_go_on view (concerned s chunk asking.call))) (all_refused s chunk asking.call refusals.Full)
    (then_fresh s settles (all_go_on view (concerned s chunk asking.call)) (turn_fresh s (settle_plan records chunk view) (settling_follows s.durable.next_version holds chunk (target_of asking.purpose) view))
    (all_go_on_fresh view (concerned s chunk asking.call) settles.after))
    (all_refused_fresh chunk asking.call refusals.Full s)

settled_if_fresh : (chunk : ℕ) (asking : Asking) (carried : Bool) (view : Option View) (s : State) → IsFreshTurn s (settled_if s chunk asking carried view)
settled_if_fresh chunk asking carried None s = same_fresh s
settled_if_fresh chunk asking carried (Some view) s = settled_on_fresh chunk asking carried view s

settled_by_fresh : (chunk : ℕ) (c : Chunk) (asking : Asking) (carried : Bool) (by : Poll) (moment : Moment) (s : State) → IsFreshTurn s (settled_by s chunk c asking carried by moment)
unfolding settled_by
settled_by_fresh chunk c asking carried by moment s = settled_if_fresh chunk asking carried (view_by c asking by moment) s

-- ---- messages of servers

stepped_fresh : (chunk : ℕ) (c : Chunk) (asking : Asking) (carried : Bool) (moment : Moment) (step : Step) (s : State) → IsFreshTurn s (stepped s chunk c asking carried moment step)
stepped_fresh chunk c asking carried moment steps.Wait s = same_fresh s
stepped_fresh chunk c asking carried moment (steps.Send source target) s =
    turn_fresh s (send_plan chunk asking source target (is_with_sealed s.durable.phase (prepared_view s.durable chunk) source)) refl
stepped_fresh chunk c asking carried moment (steps.Settle by) s = settled_by_fresh chunk c asking carried by moment s
stepped_fresh chunk c asking carried moment steps.Fail s = all_refused_fresh chunk asking.call refusals.NoReplica s

heard_fresh : (chunk : ℕ) (c : Chunk) (asking : Asking) (carried : Bool) (moment : Moment) (step : Step) (s : State) → IsFreshTurn s (heard s chunk c asking carried moment step)
heard_fresh chunk c asking carried moment step s =
    then_fresh s (turned s (ask_plan chunk asking)) (λ next. stepped next chunk c asking carried moment step) (turn_fresh s (ask_plan chunk asking) refl)
    (stepped_fresh chunk c asking carried moment step (turned s (ask_plan chunk asking)).after)

promised_for_fresh : (server chunk : ℕ) (stamp : Stamp) (count : ℕ) (carried : Bool) (moment : Moment) (c : Chunk) (asking : Option Asking) (s : State) → IsFreshTurn s (promised_for s server chunk stamp count carried moment c asking)
promised_for_fresh server chunk stamp count carried moment c None s = same_fresh s
promised_for_fresh server chunk stamp count carried moment c (Some asking) s =
    either_fresh s (hears asking stamp server) (heard s chunk c (heard_yes asking server count) (carried && is_target asking server) moment (step_of_yes asking server count)) (unmoved s)
    (heard_fresh chunk c (heard_yes asking server count) (carried && is_target asking server) moment (step_of_yes asking server count) s) (same_fresh s)

promised_at_fresh : (server chunk : ℕ) (stamp : Stamp) (count : ℕ) (carried : Bool) (moment : Moment) (c : Option Chunk) (s : State) → IsFreshTurn s (promised_at s server chunk stamp count carried moment c)
promised_at_fresh server chunk stamp count carried moment None s = same_fresh s
promised_at_fresh server chunk stamp count carried moment (Some c) s = promised_for_fresh server chunk stamp count carried moment c c.asking s

unpromised_for_fresh : (server chunk : ℕ) (stamp : Stamp) (moment : Moment) (c : Chunk) (asking : Option Asking) (s : State) → IsFreshTurn s (unpromised_for s server chunk stamp moment c asking)
unpromised_for_fresh server chunk stamp moment c None s = same_fresh s
unpromised_for_fresh server chunk stamp moment c (Some asking) s =
    either_fresh s (hears asking stamp server) (heard s chunk c (heard_no asking server) false moment (step_of_no asking server)) (unmoved s)
    (heard_fresh chunk c (heard_no asking server) false moment (step_of_no asking server) s) (same_fresh s)

unpromised_at_fresh : (server chunk : ℕ) (stamp : Stamp) (moment : Moment) (c : Option Chunk) (s : State) → IsFreshTurn s (unpromised_at s server chunk stamp moment c)
unpromised_at_fresh server chunk stamp moment None s = same_fresh s
unpromised_at_fresh server chunk stamp moment (Some c) s = unpromised_for_fresh server chunk stamp moment c c.asking s

sends_fresh : (messages : List Message) (s : State) → IsFreshTurn s (sends s messages)
sends_fresh messages s = record { fresh = refl; later = λ n given. given }

met_fresh : (refusal : Refusal) (s : State) → IsFreshTurn s (met_by s refusal)
met_fresh refusal s = record { fresh = refl; later = λ n given. given }

behind_fresh : (server epoch : ℕ) (s : State) → IsFreshTurn s (behind s server epoch)
behind_fresh server epoch s =
    either_fresh s (nat_lt epoch s.durable.epoch) (sends s (next_epoch s.durable server epoch)) (unmoved s) (sends_fresh (next_epoch s.durable server epoch) s) (same_fresh s)

learned_fresh : (server epoch : ℕ) (handles : List ℕ) (s : State) → IsFreshTurn s (learned s server epoch handles)
learned_fresh server epoch handles s =
    let plan : Plan = record { records = []; changes = changes.Restored server handles ∷ []; sent = []; said = None } in
    either_fresh s (nat_lt epoch s.durable.epoch) (sends s (next_epoch s.durable server epoch)) (if is_rolling s.durable.phase && (epoch == s.durable.epoch) then turned s plan else unmoved s)
    (sends_fresh (next_epoch s.durable server epoch) s)
    (either_fresh s (is_rolling s.durable.phase && (epoch == s.durable.epoch)) (turned s plan) (unmoved s) (turn_fresh s plan refl) (same_fresh s))

quiet_fresh : (many : List ℕ) (s : State) → IsFreshTurn s (made_quiet many s)
quiet_fresh many s =
    let begin = all_begun s many purposes.Quiet None in
    test_fresh s (has_versions s.durable (length many)) (if_room s begin (unmoved s)) (unmoved s)
    (λ left. either_fresh s (fits s.log begin.records) begin (unmoved s) (all_begun_fresh many purposes.Quiet None s left) (same_fresh s)) (λ is. same_fresh s)

reported_now_fresh : (server : ℕ) (replicas : List Reported) (s : State) → IsFreshTurn s (reported_now s server replicas)
reported_now_fresh server replicas s =
    then_fresh s (sends s (drops s server replicas)) (made_quiet (lost s server replicas)) (sends_fresh (drops s server replicas) s) (quiet_fresh (lost s server replicas) s)

reported_fresh : (server epoch : ℕ) (replicas : List Reported) (s : State) → IsFreshTurn s (reported s server epoch replicas)
reported_fresh server epoch replicas s =
    either_fresh s (nat_lt epoch s.durable.epoch) (sends s (next_epoch s.durable server epoch)) (if may_begin s.durable.phase && (epoch == s.durable.epoch) then reported_now s server replicas else unmoved s)
    (sends_fresh (next_epoch s.durable server epoch) s)
    (either_fresh s (may_begin s.durable.phase && (epoch == s.durable.epoch)) (reported_now s server replicas) (unmoved s) (reported_now_fresh server replicas s) (same_fresh s))

damaged_fresh : (server chunk : ℕ) (s : State) → IsFreshTurn s (damaged s server chunk)
damaged_fresh server chunk s =
    either_fresh s (may_begin s.durable.phase && is_lost_at server (chunk_at s chunk)) (made_quiet (chunk ∷ []) s) (unmoved s) (quiet_fresh (chunk ∷ []) s) (same_fresh s)

renewed_fresh : (server chunk : ℕ) (stamp : Stamp) (moment : Moment) (s : State) → IsFreshTurn s (renewed s server chunk stamp moment)
renewed_fresh server chunk stamp moment s =
    either_fresh s (is_leased_under stamp (chunk_at s chunk) && not s.volatile.is_preparing) (sends s (about chunk (chunks.Renewed stamp (end_of moment)) server ∷ [])) (unmoved s)
    (sends_fresh (about chunk (chunks.Renewed stamp (end_of moment)) server ∷ []) s) (same_fresh s)

about_fresh : (server chunk : ℕ) (moment : Moment) (said : Said_of_chunk) (s : State) → IsFreshTurn s (about_turn s server chunk moment said)
about_fresh server chunk moment (chunks.Promised stamp count carried) s = promised_at_fresh server chunk stamp count carried moment (chunk_at s chunk) s
about_fresh server chunk moment (chunks.Unpromised stamp refusal) s = unpromised_at_fresh server chunk stamp moment (chunk_at s chunk) s
about_fresh server chunk moment (chunks.Renew stamp) s = renewed_fresh server chunk stamp moment s
about_fresh server chunk moment (chunks.Bad stamp) s = damaged_fresh server chunk s
about_fresh server chunk moment said s = met_fresh refusals.Stray s

server_fresh : (server : ℕ) (moment : Moment) (said : Body) (s : State) → IsFreshTurn s (server_turn s server moment said)
server_fresh server moment (bodies.About chunk said) s = about_fresh server chunk moment said s
server_fresh server moment (bodies.Report epoch replicas) s = reported_fresh server epoch replicas s
server_fresh server moment (bodies.Learned epoch handles) s = learned_fresh server epoch handles s
server_fresh server moment (bodies.Behind epoch) s = behind_fresh server epoch s
server_fresh server moment said s = met_fresh refusals.Stray s

-- ---- all messages

from_client_fresh : (config : Config) (moment : Moment) (said : Body) (s : State) → IsFreshTurn s (from_client config s moment said)
from_client_fresh config moment (bodies.Call req call) s = call_fresh config s req moment call
from_client_fresh config moment said s = met_fresh refusals.Stray s

from_node_fresh : (config : Config) (moment : Moment) (said : Body) (from : NodeId) (s : State) → IsFreshTurn s (from_node config s moment said from)
from_node_fresh config moment said nodes.Master s = met_fresh refusals.Stray s
from_node_fresh config moment said (nodes.Server server) s =
    either_fresh s (is_failed s.fault) (met_by s refusals.Device) (server_turn s server moment said) (met_fresh refusals.Device s) (server_fresh server moment said s)
from_node_fresh config moment said (nodes.Client client) s = from_client_fresh config moment said s

pub proposes_fresh : ProposesFresh
unfolding handle
proposes_fresh config s message moment = fresh_at s (handle config s message moment) (from_node_fresh config moment message.body message.from s)

-- ---- ticks

pressed_if_fresh : (chunk : ℕ) (stamp : Stamp) (moment : Moment) (c : Chunk) (asking : Option Asking) (s : State) → IsFreshTurn s (pressed_if s chunk stamp moment c asking)
pressed_if_fresh chunk stamp moment c None s = same_fresh s
pressed_if_fresh chunk stamp moment c (Some asking) s =
    either_fresh s (is_same asking.stamp stamp) (stepped s chunk c asking false moment (step_at_tick asking)) (unmoved s) (stepped_fresh chunk c asking false moment (step_at_tick asking) s) (same_fresh s)

pressed_at_fresh : (chunk : ℕ) (stamp : Stamp) (moment : Moment) (c : Option Chunk) (s : State) → IsFreshTurn s (pressed_at s chunk stamp moment c)
pressed_at_fresh chunk stamp moment None s = same_fresh s
pressed_at_fresh chunk stamp moment (Some c) s = pressed_if_fresh chunk stamp moment c c.asking s

granted_fresh : (s : State) → IsFreshTurn s (granted s)
granted_fresh s = sends_fresh (flat_map (λ chunk. granted_at chunk (chunk_at s chunk)) (fin.keys s.durable.chunks)) s

-- a checkpoint proposes nothing, and leaves the counters
written_unless_fresh : (refusal : Option Refusal) (s : State) → IsFreshTurn s (record (written_unless s refusal) { said = None })
written_unless_fresh None s = record { fresh = refl; later = λ n given. given }
written_unless_fresh (Some refusal) s = record { fresh = refl; later = λ n given. given }

written_fresh : (s : State) → IsFreshTurn s (written_if_due s)
unfolding checkpoint
written_fresh s =
    either_fresh s (due s) (record (checkpoint s) { said = None }) (unmoved s)
    (written_unless_fresh (first_of (checkpoint_tests (is_failed s.fault) s.volatile.is_preparing s.log (checkpoint_body s.durable))) s) (same_fresh s)

tick_fresh : (s : State) (moment : Moment) → IsFreshTurn s (tick s moment)
unfolding tick
tick_fresh s moment =
    let press = for_each s (proposals s) (pressed moment) in
    let both = and_then press granted in
    either_fresh s (is_failed s.fault) (met_by s refusals.Device) (and_then both written_if_due) (met_fresh refusals.Device s)
    (then_fresh s both written_if_due
    (then_fresh s press granted (each_fresh (proposals s) (pressed moment) (λ p next. pressed_at_fresh p.0 p.1 moment (chunk_at next p.0) next) s) (granted_fresh press.after))
    (written_fresh both.after))

pub proposes_fresh_at_ticks : ProposesFreshAtTicks
proposes_fresh_at_ticks s moment = fresh_at s (tick s moment) (tick_fresh s moment)
