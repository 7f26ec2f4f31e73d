-- The records of each message, and of each step of a tick, tell what they can.
use Rattle.std.proofs.Common.{◌≡◌, ◌==◌, ◌&&◌, ◌++◌, ℕ, Bool, true, false, not, List, [], ◌∷◌, length, refl}
use Rattle.std.specs.Prelude.{nat_lt, Option, Some, None, Result, Ok, Err, if◌then◌else◌}
use Rattle.std.specs.List.{list_all, AllByRecursion}
use Rattle.std.specs.FinMap as fin
use Rattle.gs_base.specs.Members.{is_member}
use Rattle.gs_base.specs.Stamps.{is_same}
use Rattle.gs_base.specs.Told.{IsNumber}
use Rattle.gs_base.specs.declared.config.Config.{Config}
use Rattle.gs_base.specs.declared.numbers.Moment.{Moment}
use Rattle.gs_base.specs.declared.numbers.ReqId.{ReqId}
use Rattle.gs_base.specs.declared.numbers.Stamp.{Stamp}
use Rattle.gs_base.specs.declared.refusal.Refusal.{Refusal}
use Rattle.gs_base.specs.declared.refusal.Refusal.TheVariants as refusals
use Rattle.gs_path.specs.Path.{Path}
use Rattle.gs_edit.specs.View.{NamesView}
use Rattle.gs_lease.specs.Transitions.{end_of}
use Rattle.gs_lease.specs.declared.view.Purpose.TheVariants as purposes
use Rattle.gs_lease.specs.declared.view.View.{View}
use Rattle.gs_msg.specs.declared.answer.Answer.{Answer}
use Rattle.gs_msg.specs.declared.answer.Answer.TheVariants as answers
use Rattle.gs_msg.specs.declared.body.Body.{Body}
use Rattle.gs_msg.specs.declared.body.Body.TheVariants as bodies
use Rattle.gs_msg.specs.declared.body.Reported.{Reported}
use Rattle.gs_msg.specs.declared.chunk.Chunk.{Chunk as Said_of_chunk}
use Rattle.gs_msg.specs.declared.chunk.Chunk.TheVariants as chunks
use Rattle.gs_msg.specs.declared.message.Message.{Message}
use Rattle.gs_msg.specs.declared.node.NodeId.{NodeId}
use Rattle.gs_msg.specs.declared.node.NodeId.TheVariants as nodes
use Rattle.gs_master_record.specs.Plain.{PlainEdit, Edited, Settle, AddChunk, Cow, Snapshot}
use Rattle.gs_master_record.specs.Writable.{IsPath, IsRequest, IsWritable}
use Rattle.gs_master_spec.specs.Beginning.{next_stamp, has_versions, has_handle, begin_at, all_begun, copy_plan, waits_on}
use Rattle.gs_master_spec.specs.Chunks.{Chunk, asking_for, chunk_at, has_entry, may_begin, hears, heard_yes, heard_no, is_target, step_of_yes, step_of_no, settling, is_holder, holder_records, target_of, view_by, step_at_tick, with_answers}
use Rattle.gs_master_spec.specs.Durable.{is_rolling, prepared_view}
use Rattle.gs_master_spec.specs.Handling.{handle, about_turn, server_turn, from_client, from_node, pressed, pressed_at, pressed_if, granted}
use Rattle.gs_master_spec.specs.Hearing.{stepped, heard, ask_plan, send_plan, is_with_sealed, promised, promised_for, promised_at, unpromised, unpromised_for, unpromised_at, sends, next_epoch, behind, learned, drops, lost, is_lost_at, made_quiet, reported, reported_now, damaged, renewed, is_leased_under}
use Rattle.gs_master_spec.specs.Settling.{ended_with, end_plan, if_room_for, edit_plan, edit_turn, ended_by_edit, copied, copied_where, leased_next, replaced_if, replace_plan, goes_on, own_request, is_quiet_at, source_chunks, settle_plan, all_refused, all_go_on, settled_on, settled_if, settled_by, concerned, requests_of, quiet_view_at}
use Rattle.gs_master_spec.specs.State.{State, Plan, Turn, turned, unmoved, and_then, fits, if_room, met_by, about, is_failed, ended_by, answer_changes}
use Rattle.gs_master_spec.specs.Undoing.{edited_names}
use Rattle.gs_view.specs.Spoken.{with_yes, with_no}
use Rattle.gs_view.specs.declared.poll.Poll.{Poll}
use Rattle.gs_master_spec.specs.declared.asking.Asking.{Asking}
use Rattle.gs_master_spec.specs.declared.asking.Step.{Step}
use Rattle.gs_master_spec.specs.declared.asking.Step.TheVariants as steps
use Rattle.gs_master_spec.specs.declared.change.Change.{Change}
use Rattle.gs_master_spec.specs.declared.change.Change.TheVariants as changes
use Rattle.gs_master_spec.specs.declared.pending.Pending.{Pending}
use Rattle.gs_master_spec.specs.declared.pending.Waiting.{Waiting}
use Rattle.gs_master_spec.specs.declared.pending.Waiting.TheVariants as waits
use Rattle.gs_laws_master.specs.Promises.{IsToldView}
use Rattle.gs_laws_master.specs.Standing.{IsNamedAbout, IsNamedBody}
use Rattle.gs_laws_master.specs.Written.{IsHeardBody, IsIndex, IsTaken, IsTakenWaiting}
use Rattle.gs_laws_master.proofs.lemmas.telling.Fair.{Fair, fair_names}
use Rattle.gs_laws_master.proofs.lemmas.standing.StandingAnswers.{AreCounts, IsToldStep, no_told, tick_told, view_told, yes_told}
use Rattle.gs_laws_master.proofs.lemmas.telling.Tellable.{IsTellable, IsTellableEdit}
use Rattle.gs_laws_master.proofs.lemmas.telling.Telling.{IsToldChange, TellsTurn, all_begun_tells, all_both, all_ended_tells, all_filtered, all_requests, answer_told, bare, each_tells, either_tells, ended_tells, plan_tells, quiet_tells, same_tells, then_tells}
use Rattle.gs_laws_master.proofs.lemmas.telling.TellingCalls.{CanTell, call_tells, new_fine, own_heard}

-- ---- calls that waited

module _ (req : ReqId) (own : IsRequest req) where
  ended_now : (refusal : Refusal) (s : State) → IsWritable refusal → TellsTurn s (ended_by s req refusal)
  ended_now refusal s can = ended_tells req refusal s own can

  room_tells : (s : State) (t : Turn) → TellsTurn s t → TellsTurn s (if_room_for s req t)
  room_tells s t a = either_tells s (fits s.log t.records) t (ended_by s req refusals.Full) a (ended_now refusals.Full s (tt, bare))

  ended_with_tells : (answer : Answer) (s : State) → TellsTurn s (ended_with s req answer)
  ended_with_tells answer s = plan_tells s (end_plan s req answer) tt (all_both (IsToldChange []) (answer_changes s req answer) (changes.End req ∷ []) (answer_told [] s req answer) (tt, tt))

  edit_tells : (s : State) (edit : PlainEdit) (answer : Answer) (before : List Change) (names : Result NamesView Refusal) → Fair names → IsTellableEdit edit → AllByRecursion (IsToldChange (Edited req edit ∷ [])) before → TellsTurn s (edit_turn s req (edit_plan req edit answer before) names)
  edit_tells s edit answer before (Ok names) fair told cs =
      room_tells s (turned s (edit_plan req edit answer before)) (plan_tells s (edit_plan req edit answer before) ((own, told), tt) (all_both (IsToldChange (Edited req edit ∷ [])) before (changes.End req ∷ []) cs (tt, tt)))
  edit_tells s edit answer before (Err refusal) fair told cs = ended_now refusal s (fair.can refusal refl)

  leased_tells : (path : Path) (index chunk : ℕ) (s : State) → IsPath path → IsIndex index → TellsTurn s (leased_next req path index chunk s)
  leased_tells path index chunk s told low =
      let plan : Plan = waits_on (begin_at s chunk purposes.Lease (Some req)) req (waits.Lease path index chunk) in
      let begin = if_room_for s req (turned s plan) in
      either_tells s (not (may_begin s.durable.phase)) (ended_by s req refusals.RollingBack) (if not (has_versions s.durable 1) then ended_by s req refusals.Exhausted else begin) (ended_now refusals.RollingBack s (tt, bare))
      (either_tells s (not (has_versions s.durable 1)) (ended_by s req refusals.Exhausted) begin (ended_now refusals.Exhausted s (tt, bare)) (room_tells s (turned s plan) (plan_tells s plan (tt, tt) (tt, ((own, (told, low)), tt)))))

  where_tells : (path : Path) (index old : ℕ) (quiet : Option View) (s : State) → IsPath path → IsIndex index → TellsTurn s (copied_where s req path index old quiet)
  where_tells path index old None s told low = ended_now refusals.NoReplica s (tt, bare)
  where_tells path index old (Some view) s told low =
      let new = s.durable.next_handle in
      let copy = copy_plan (next_stamp s.durable) old view new req in
      let plan : Plan = waits_on copy req (waits.Copy path index old new) in
      room_tells s (turned s plan) (plan_tells s plan (tt, tt) (all_both (IsToldChange copy.records) copy.changes (changes.Wait req (waits.Copy path index old new) ∷ [])
      (new_fine new s.durable.next_version (asking_for (next_stamp s.durable) purposes.Quiet view.members (Some req))) ((own, (told, low)), tt)))

  copied_tells : (path : Path) (index old : ℕ) (s : State) → IsPath path → IsIndex index → TellsTurn s (copied s req path index old)
  copied_tells path index old s told low =
      let copy = copied_where s req path index old (quiet_view_at s old) in
      let left = has_handle s.durable && has_versions s.durable 1 in
      either_tells s (not (may_begin s.durable.phase)) (ended_by s req refusals.RollingBack) (if not left then ended_by s req refusals.Exhausted else copy) (ended_now refusals.RollingBack s (tt, bare))
      (either_tells s (not left) (ended_by s req refusals.Exhausted) copy (ended_now refusals.Exhausted s (tt, bare)) (where_tells path index old (quiet_view_at s old) s told low))

  replaced_tells : (path : Path) (index old new : ℕ) (names : Result NamesView Refusal) (s : State) → Fair names → IsPath path → IsIndex index → TellsTurn s (replaced_if s req path index old new names)
  replaced_tells path index old new (Ok names) s fair told low =
      let plan = replace_plan path index old new in
      either_tells s (fits s.log (Edited own_request (Cow path index old new) ∷ [])) (and_then (turned s plan) (leased_next req path index new)) (ended_by s req refusals.Full)
      (then_tells s (turned s plan) (leased_next req path index new) (plan_tells s plan ((own_heard, (told, low)), tt) (tt, tt)) (leased_tells path index new (turned s plan).after told low)) (ended_now refusals.Full s (tt, bare))
  replaced_tells path index old new (Err refusal) s fair told low = ended_now refusal s (fair.can refusal refl)

  goes_on_tells : (view : View) (waiting : Waiting) (s : State) → IsTakenWaiting waiting → TellsTurn s (goes_on s req view waiting)
  unfolding goes_on
  goes_on_tells view (waits.Extend path chunk) s taken =
      edit_tells s (AddChunk path chunk) (answers.Location chunk view s.durable.epoch) (changes.Place chunk ∷ []) (edited_names (AddChunk path chunk) s.durable.names) (fair_names (AddChunk path chunk) s.durable.names) taken (tt, tt)
  goes_on_tells view (waits.Lease path index chunk) s taken = ended_with_tells (answers.Location chunk view s.durable.epoch) s
  goes_on_tells view (waits.Quiet path index chunk) s taken = copied_tells path index chunk s taken.0 taken.1
  goes_on_tells view (waits.Copy path index old new) s taken = replaced_tells path index old new (edited_names (Cow path index old new) s.durable.names) s (fair_names (Cow path index old new) s.durable.names) taken.0 taken.1
  goes_on_tells view (waits.Snapshot from to) s taken =
      either_tells s (list_all (is_quiet_at s) (source_chunks s from)) (ended_by_edit s req (Snapshot from to) answers.Nothing []) (unmoved s)
      (edit_tells s (Snapshot from to) answers.Nothing [] (edited_names (Snapshot from to) s.durable.names) (fair_names (Snapshot from to) s.durable.names) taken tt) (same_tells s)
  goes_on_tells view (waits.Replicate chunk target) s taken =
      either_tells s (is_member view.members target) (ended_with s req (answers.Copied (Some (record { handle = chunk; server = target })))) (ended_by s req refusals.NoReplica)
      (ended_with_tells (answers.Copied (Some (record { handle = chunk; server = target }))) s) (ended_now refusals.NoReplica s (tt, bare))

-- ---- settling

settling_told : (b : Bool) (chunk : ℕ) (target : Option ℕ) (view : View) → IsNumber chunk → IsToldView view → AllByRecursion IsTellable (holder_records b chunk target ++ Settle (record { handle = chunk; view = view }) ∷ [])
settling_told true chunk None view low told = ((low, told), tt)
settling_told true chunk (Some target) view low told = (tt, ((low, told), tt))
settling_told false chunk None view low told = ((low, told), tt)
settling_told false chunk (Some target) view low told = ((low, told), tt)

all_go_on_tells : (view : View) (pending : List Pending) (s : State) → AllByRecursion IsTaken pending → TellsTurn s (all_go_on view pending s)
all_go_on_tells view pending s taken = each_tells IsTaken pending (λ (p : Pending) next. goes_on next p.req view p.waits) taken (λ p next own. goes_on_tells p.req own.0 view p.waits next own.1) s

-- the number of a chunk, and the stamp of what is asked for it
pub record IsAskable (chunk : ℕ) (stamp : Stamp) : Type 0 where
  pub low : IsNumber chunk
  pub epoch : IsNumber stamp.epoch
  pub version : IsNumber stamp.version

module _ (chunk : ℕ) (asking : Asking) (askable : IsAskable chunk asking.stamp) where
  all_refused_tells : (refusal : Refusal) (s : State) → AllByRecursion IsTaken s.volatile.pending → IsWritable refusal → TellsTurn s (all_refused s chunk asking.call refusal)
  all_refused_tells refusal s taken can = all_ended_tells (requests_of (concerned s chunk asking.call)) refusal s (all_requests (concerned s chunk asking.call) (all_filtered IsTaken _ s.volatile.pending taken)) can

  settled_on_tells : (carried : Bool) (view : View) (s : State) → AllByRecursion IsTaken s.volatile.pending → IsToldView view → TellsTurn s (settled_on s chunk asking carried view)
  settled_on_tells carried view s taken told =
      let records = settling s.durable.phase (prepared_view s.durable chunk) carried chunk asking view in
      let settles = turned s (settle_plan records chunk view) in
      either_tells s (fits s.log records) (and_then settles (all_go_on view (concerned s chunk asking.call))) (all_refused s chunk asking.call refusals.Full)
      (then_tells s settles (all_go_on view (concerned s chunk asking.call))
      (plan_tells s (settle_plan records chunk view) (settling_told (is_holder s.durable.phase (prepared_view s.durable chunk) carried asking view) chunk (target_of asking.purpose) view askable.low told) (tt, tt))
      (all_go_on_tells view (concerned s chunk asking.call) settles.after (all_filtered IsTaken _ s.volatile.pending taken))) (all_refused_tells refusals.Full s taken (tt, bare))

  settled_if_tells : (carried : Bool) (view : Option View) (s : State) → AllByRecursion IsTaken s.volatile.pending → ((v : View) → view ≡ Some v → IsToldView v) → TellsTurn s (settled_if s chunk asking carried view)
  settled_if_tells carried None s taken told = same_tells s
  settled_if_tells carried (Some view) s taken told = settled_on_tells carried view s taken (told view refl)

  stepped_tells : (c : Chunk) (carried : Bool) (moment : Moment) (step : Step) (s : State) → AllByRecursion IsTaken s.volatile.pending → IsToldStep step → TellsTurn s (stepped s chunk c asking carried moment step)
  unfolding settled_by
  stepped_tells c carried moment steps.Wait s taken told = same_tells s
  stepped_tells c carried moment (steps.Send source target) s taken told = plan_tells s (send_plan chunk asking source target (is_with_sealed s.durable.phase (prepared_view s.durable chunk) source)) tt (tt, tt)
  stepped_tells c carried moment (steps.Settle by) s taken told =
      settled_if_tells carried (view_by c asking by moment) s taken (λ view is. view_told c asking by moment view told askable.epoch askable.version is)
  stepped_tells c carried moment steps.Fail s taken told = all_refused_tells refusals.NoReplica s taken (tt, bare)

  heard_tells : (c : Chunk) (carried : Bool) (moment : Moment) (step : Step) (s : State) → AllByRecursion IsTaken s.volatile.pending → IsToldStep step → TellsTurn s (heard s chunk c asking carried moment step)
  heard_tells c carried moment step s taken told =
      let asks = turned s (ask_plan chunk asking) in
      then_tells s asks (λ next. stepped next chunk c asking carried moment step) (plan_tells s (ask_plan chunk asking) tt (tt, tt)) (stepped_tells c carried moment step asks.after taken told)

-- ---- messages of servers

-- what is known of a state that an answer meets
pub record CanAnswer (s : State) : Type 0 where
  pub calls : AllByRecursion IsTaken s.volatile.pending
  pub asked : (chunk : ℕ) (asking : Asking) → fin.get s.volatile.moving chunk ≡ Some asking → IsAskable chunk asking.stamp × AreCounts asking.answers

module _ (s : State) (can : CanAnswer s) where
  promised_for_tells : (server chunk : ℕ) (stamp : Stamp) (count : ℕ) (carried : Bool) (moment : Moment) (c : Chunk) (asking : Option Asking) → IsNumber count → fin.get s.volatile.moving chunk ≡ asking → TellsTurn s (promised_for s server chunk stamp count carried moment c asking)
  promised_for_tells server chunk stamp count carried moment c None low has = same_tells s
  promised_for_tells server chunk stamp count carried moment c (Some asking) low has =
      let known = can.asked chunk asking has in
      let told = yes_told asking server count known.1 low in
      either_tells s (hears asking stamp server) (heard s chunk c (heard_yes asking server count) (carried && is_target asking server) moment (step_of_yes asking server count)) (unmoved s)
      (by_member (is_member asking.asked server) (with_yes asking.answers server count) known.0 (carried && is_target asking server) (step_of_yes asking server count) told.1) (same_tells s)
    where
      by_member : (b : Bool) (by : Poll) → IsAskable chunk asking.stamp → (carried : Bool) (step : Step) → IsToldStep step → TellsTurn s (heard s chunk c (if b then with_answers asking by else asking) carried moment step)
      by_member true by askable carries step told = heard_tells chunk (with_answers asking by) askable c carries moment step s can.calls told
      by_member false by askable carries step told = heard_tells chunk asking askable c carries moment step s can.calls told

  unpromised_for_tells : (server chunk : ℕ) (stamp : Stamp) (moment : Moment) (c : Chunk) (asking : Option Asking) → fin.get s.volatile.moving chunk ≡ asking → TellsTurn s (unpromised_for s server chunk stamp moment c asking)
  unpromised_for_tells server chunk stamp moment c None has = same_tells s
  unpromised_for_tells server chunk stamp moment c (Some asking) has =
      let known = can.asked chunk asking has in
      let told = no_told asking server known.1 in
      either_tells s (hears asking stamp server) (heard s chunk c (heard_no asking server) false moment (step_of_no asking server)) (unmoved s)
      (by_member (is_member asking.asked server) (with_no asking.answers server) known.0 (step_of_no asking server) told.1) (same_tells s)
    where
      by_member : (b : Bool) (by : Poll) → IsAskable chunk asking.stamp → (step : Step) → IsToldStep step → TellsTurn s (heard s chunk c (if b then with_answers asking by else asking) false moment step)
      by_member true by askable step told = heard_tells chunk (with_answers asking by) askable c false moment step s can.calls told
      by_member false by askable step told = heard_tells chunk asking askable c false moment step s can.calls told

  promised_tells : (server chunk : ℕ) (stamp : Stamp) (count : ℕ) (carried : Bool) (moment : Moment) → IsNumber count → TellsTurn s (promised s server chunk stamp count carried moment)
  unfolding chunk_at
  promised_tells server chunk stamp count carried moment low = by_entry (has_entry s chunk)
    where
      by_entry : (b : Bool) → TellsTurn s (promised_at s server chunk stamp count carried moment (if b then Some (record { settled = fin.get s.durable.chunks chunk; asking = fin.get s.volatile.moving chunk }) else None))
      by_entry true = promised_for_tells server chunk stamp count carried moment (record { settled = fin.get s.durable.chunks chunk; asking = fin.get s.volatile.moving chunk }) (fin.get s.volatile.moving chunk) low refl
      by_entry false = same_tells s

  unpromised_tells : (server chunk : ℕ) (stamp : Stamp) (moment : Moment) → TellsTurn s (unpromised s server chunk stamp moment)
  unfolding chunk_at
  unpromised_tells server chunk stamp moment = by_entry (has_entry s chunk)
    where
      by_entry : (b : Bool) → TellsTurn s (unpromised_at s server chunk stamp moment (if b then Some (record { settled = fin.get s.durable.chunks chunk; asking = fin.get s.volatile.moving chunk }) else None))
      by_entry true = unpromised_for_tells server chunk stamp moment (record { settled = fin.get s.durable.chunks chunk; asking = fin.get s.volatile.moving chunk }) (fin.get s.volatile.moving chunk) refl
      by_entry false = same_tells s

  sends_tells : (messages : List Message) → TellsTurn s (sends s messages)
  sends_tells messages = quiet_tells s (sends s messages) refl refl refl

  met_tells : (refusal : Refusal) → TellsTurn s (met_by s refusal)
  met_tells refusal = quiet_tells s (met_by s refusal) refl refl refl

  quiet_now : (many : List ℕ) → TellsTurn s (made_quiet many s)
  quiet_now many =
      let begin = all_begun s many purposes.Quiet None in
      either_tells s (has_versions s.durable (length many)) (if_room s begin (unmoved s)) (unmoved s) (either_tells s (fits s.log begin.records) begin (unmoved s) (all_begun_tells many purposes.Quiet None s) (same_tells s)) (same_tells s)

  damaged_tells : (server chunk : ℕ) → TellsTurn s (damaged s server chunk)
  damaged_tells server chunk = either_tells s (may_begin s.durable.phase && is_lost_at server (chunk_at s chunk)) (made_quiet (chunk ∷ []) s) (unmoved s) (quiet_now (chunk ∷ [])) (same_tells s)

  renewed_tells : (server chunk : ℕ) (stamp : Stamp) (moment : Moment) → TellsTurn s (renewed s server chunk stamp moment)
  renewed_tells server chunk stamp moment =
      let message = about chunk (chunks.Renewed stamp (end_of moment)) server ∷ [] in
      either_tells s (is_leased_under stamp (chunk_at s chunk) && not s.volatile.is_preparing) (sends s message) (unmoved s) (sends_tells message) (same_tells s)

  about_tells : (server chunk : ℕ) (moment : Moment) (said : Said_of_chunk) → IsNamedAbout said → TellsTurn s (about_turn s server chunk moment said)
  about_tells server chunk moment (chunks.Promised stamp count carried) named = promised_tells server chunk stamp count carried moment named
  about_tells server chunk moment (chunks.Unpromised stamp refusal) named = unpromised_tells server chunk stamp moment
  about_tells server chunk moment (chunks.Renew stamp) named = renewed_tells server chunk stamp moment
  about_tells server chunk moment (chunks.Bad stamp) named = damaged_tells server chunk
  about_tells server chunk moment said named = met_tells refusals.Stray

  learned_tells : (server epoch : ℕ) (handles : List ℕ) → TellsTurn s (learned s server epoch handles)
  learned_tells server epoch handles =
      let told = sends s (next_epoch s.durable server epoch) in
      let plan : Plan = record { records = []; changes = changes.Restored server handles ∷ []; sent = []; said = None } in
      either_tells s (nat_lt epoch s.durable.epoch) told (if is_rolling s.durable.phase && (epoch == s.durable.epoch) then turned s plan else unmoved s) (sends_tells (next_epoch s.durable server epoch))
      (either_tells s (is_rolling s.durable.phase && (epoch == s.durable.epoch)) (turned s plan) (unmoved s) (plan_tells s plan tt (tt, tt)) (same_tells s))

  behind_tells : (server epoch : ℕ) → TellsTurn s (behind s server epoch)
  behind_tells server epoch = either_tells s (nat_lt epoch s.durable.epoch) (sends s (next_epoch s.durable server epoch)) (unmoved s) (sends_tells (next_epoch s.durable server epoch)) (same_tells s)

  -- ---- a step of a tick

  pressed_if_tells : (chunk : ℕ) (stamp : Stamp) (moment : Moment) (c : Chunk) (asking : Option Asking) → fin.get s.volatile.moving chunk ≡ asking → TellsTurn s (pressed_if s chunk stamp moment c asking)
  pressed_if_tells chunk stamp moment c None has = same_tells s
  pressed_if_tells chunk stamp moment c (Some asking) has =
      let known = can.asked chunk asking has in
      either_tells s (is_same asking.stamp stamp) (stepped s chunk c asking false moment (step_at_tick asking)) (unmoved s) (stepped_tells chunk asking known.0 c false moment (step_at_tick asking) s can.calls (tick_told asking known.1)) (same_tells s)

  pub pressed_tells : (moment : Moment) (proposal : ℕ × Stamp) → TellsTurn s (pressed moment proposal s)
  unfolding chunk_at
  pressed_tells moment proposal = by_entry (has_entry s proposal.0)
    where
      by_entry : (b : Bool) → TellsTurn s (pressed_at s proposal.0 proposal.1 moment (if b then Some (record { settled = fin.get s.durable.chunks proposal.0; asking = fin.get s.volatile.moving proposal.0 }) else None))
      by_entry true = pressed_if_tells proposal.0 proposal.1 moment (record { settled = fin.get s.durable.chunks proposal.0; asking = fin.get s.volatile.moving proposal.0 }) (fin.get s.volatile.moving proposal.0) refl
      by_entry false = same_tells s

-- a report: what is dropped is sent, and then chunks are made quiet
reported_now_tells : (server : ℕ) (replicas : List Reported) (s : State) (can : CanAnswer s) → TellsTurn s (reported_now s server replicas)
reported_now_tells server replicas s can =
    then_tells s (sends s (drops s server replicas)) (made_quiet (lost s server replicas)) (sends_tells s can (drops s server replicas)) (quiet_now s can (lost s server replicas))

reported_tells : (server epoch : ℕ) (replicas : List Reported) (s : State) (can : CanAnswer s) → TellsTurn s (reported s server epoch replicas)
reported_tells server epoch replicas s can =
    either_tells s (nat_lt epoch s.durable.epoch) (sends s (next_epoch s.durable server epoch)) (if may_begin s.durable.phase && (epoch == s.durable.epoch) then reported_now s server replicas else unmoved s) (sends_tells s can (next_epoch s.durable server epoch))
    (either_tells s (may_begin s.durable.phase && (epoch == s.durable.epoch)) (reported_now s server replicas) (unmoved s) (reported_now_tells server replicas s can) (same_tells s))

pub granted_tells : (s : State) → TellsTurn s (granted s)
granted_tells s = quiet_tells s (granted s) refl refl refl

-- ---- all messages

module _ (s : State) (tells : CanTell s) (can : CanAnswer s) where
  server_tells : (server : ℕ) (moment : Moment) (said : Body) → IsNamedBody said → TellsTurn s (server_turn s server moment said)
  server_tells server moment (bodies.About chunk said) named = about_tells s can server chunk moment said named
  server_tells server moment (bodies.Report epoch replicas) named = reported_tells server epoch replicas s can
  server_tells server moment (bodies.Learned epoch handles) named = learned_tells s can server epoch handles
  server_tells server moment (bodies.Behind epoch) named = behind_tells s can server epoch
  server_tells server moment said named = met_tells s can refusals.Stray

  client_tells : (config : Config) (moment : Moment) (said : Body) → IsNamedBody said → IsHeardBody s.durable.names said → IsNumber moment.0 → TellsTurn s (from_client config s moment said)
  client_tells config moment (bodies.Call req call) named heard low = call_tells s req heard.0 tells config moment call named heard.1 low
  client_tells config moment said named heard low = met_tells s can refusals.Stray

  node_tells : (config : Config) (moment : Moment) (said : Body) (from : NodeId) → IsNamedBody said → IsHeardBody s.durable.names said → IsNumber moment.0 → TellsTurn s (from_node config s moment said from)
  node_tells config moment said nodes.Master named heard low = met_tells s can refusals.Stray
  node_tells config moment said (nodes.Server server) named heard low = either_tells s (is_failed s.fault) (met_by s refusals.Device) (server_turn s server moment said) (met_tells s can refusals.Device) (server_tells server moment said named)
  node_tells config moment said (nodes.Client client) named heard low = client_tells config moment said named heard low

  pub message_tells : (config : Config) (message : Message) (moment : Moment) → IsNamedBody message.body → IsHeardBody s.durable.names message.body → IsNumber moment.0 → TellsTurn s (handle config s message moment)
  unfolding handle
  message_tells config message moment named heard low = node_tells config moment message.body message.from named heard low
