-- The records of each message, and of each step of a tick, have room; who has told of a chunk; and what snapshots copy.
use Rattle.std.specs.Cmp.{nat_cmp_total}
use Rattle.std.specs.Ordering.{eq_by_cmp, nat_cmp}
use Rattle.std.proofs.Common.{◌≡◌, ◌⊎◌, inl, inr, ◌≤◌, ◌<◌, ◌||◌, cond, ◌+◌, ◌∙◌, arith, ap, sym, subst, ◌&&◌, ◌++◌, ◌==◌, ℕ, Bool, true, false, not, List, [], ◌∷◌, length, refl}
use Rattle.std.specs.Prelude.{flat_map, nat_lt, Option, Some, None, Result, Ok, Err, if◌then◌else◌}
use Rattle.std.specs.List.{list_all}
use Rattle.std.specs.FinMap as fin
use Rattle.std.proofs.lemmas.Bool.{and_parts}
use Rattle.gs_base.specs.Members.{is_member, with_member}
use Rattle.gs_base.specs.Stamps.{is_same}
use Rattle.gs_base.specs.declared.config.Config.{Config}
use Rattle.gs_base.specs.declared.numbers.Moment.{Moment}
use Rattle.gs_base.specs.declared.numbers.ReqId.{ReqId}
use Rattle.gs_base.specs.declared.numbers.Stamp.{Stamp}
use Rattle.gs_base.specs.declared.refusal.Refusal.{Refusal}
use Rattle.gs_base.specs.declared.refusal.Refusal.TheVariants as refusals
use Rattle.gs_path.specs.Path.{Path}
use Rattle.gs_edit.specs.View.{NamesView}
use Rattle.gs_lease.specs.Transitions.{end_of}
use Rattle.gs_lease.specs.declared.view.Purpose.TheVariants as purposes
use Rattle.gs_lease.specs.declared.view.View.{View}
use Rattle.gs_msg.specs.declared.answer.Answer.{Answer}
use Rattle.gs_msg.specs.declared.answer.Answer.TheVariants as answers
use Rattle.gs_msg.specs.declared.body.Body.{Body}
use Rattle.gs_msg.specs.declared.body.Body.TheVariants as bodies
use Rattle.gs_msg.specs.declared.body.Reported.{Reported}
use Rattle.gs_msg.specs.declared.chunk.Chunk.{Chunk as Said_of_chunk}
use Rattle.gs_msg.specs.declared.chunk.Chunk.TheVariants as chunks
use Rattle.gs_msg.specs.declared.message.Message.{Message}
use Rattle.gs_msg.specs.declared.node.NodeId.{NodeId}
use Rattle.gs_msg.specs.declared.node.NodeId.TheVariants as nodes
use Rattle.gs_master_record.specs.Plain.{PlainEdit, Edited, Settle, AddChunk, Cow, Snapshot}
use Rattle.gs_master_spec.specs.Beginning.{next_stamp, has_versions, has_handle, begin_at, all_begun, copy_plan, waits_on}
use Rattle.gs_master_spec.specs.Chunks.{Chunk, chunk_at, may_begin, hears, heard_yes, heard_no, is_target, step_of_yes, step_of_no, settling, is_holder, holder_records, target_of, view_by, step_at_tick}
use Rattle.gs_master_spec.specs.Durable.{is_rolling, prepared_view}
use Rattle.gs_master_spec.specs.Handling.{call_turn, handle, about_turn, server_turn, from_client, from_node, pressed, pressed_at, pressed_if, proposals, granted, granted_at, written_unless, written_if_due, checkpoint, checkpoint_tests, checkpoint_body, due, tick}
use Rattle.gs_master_spec.specs.Hearing.{stepped, heard, ask_plan, send_plan, is_with_sealed, promised_for, promised_at, unpromised_for, unpromised_at, sends, next_epoch, behind, learned, drops, lost, is_lost_at, made_quiet, reported, reported_now, damaged, renewed, is_leased_under}
use Rattle.gs_laws_master.specs.Rooms.{AllCopyStill, CommitsRollback, CopiesStill, HasRoom, IsCounted, LogsStayWithin, MessagesCopyStill, MessagesCounted, MessagesHaveRoom, NoneHasTold, OthersLeave, RestartsForget, RunsStayWithin, StepsHaveRoom, StepsLeave, TellsHandles, TellsAdd, TellsOf, TellsSince, TicksCopyStill, TicksCounted, TicksHaveRoom, TicksLeave, restored_in}
use Rattle.gs_laws_master.specs.Standing.{Comes, Ticks, Renews, Restarts, turn_of}
use Rattle.gs_laws_master.proofs.lemmas.rooms.Rooms.{Adds, Roomy, all_begun_adds, all_ended_roomy, answer_leaves, both_leave, both_still, each_roomy, either_roomy, ended_roomy, is_plain, leaves_told, plan_adds, plan_roomy, quiet_adds, records_add, same_roomy, test_roomy, then_roomy, tried_roomy}
use Rattle.gs_laws_master.proofs.lemmas.keeping.Kept.{is_tied}
use Rattle.gs_laws_master.proofs.lemmas.keeping.KeptViews.{same_key}
use Rattle.gs_laws_master.proofs.lemmas.rooms.RoomsOfCalls.{Leaves, call_leaves, list_quiet_still, pick}
use Rattle.gs_base.specs.MemberLaws.{eqb_itself, is_member-servers_where}
use Rattle.gs_journal.specs.Journal.{checkpoint_size, last_generation}
use Rattle.gs_master_record.specs.Plain.{PlainEntry}
use Rattle.gs_master_spec.specs.Durable.{Durable}
use Rattle.gs_master_spec.specs.State.{answer_changes, size_of_all}
use Rattle.gs_master_spec.specs.Volatile.{servers_or_none, with_restored}
use Rattle.std.proofs.lemmas.Bool.{false≢true, true≢false}
use Rattle.std.proofs.lemmas.Bool.Decides.{nat_tests}
use Rattle.std.specs.Prelude.{fold, is_some, nat_le}
use Rattle.gs_master_spec.specs.Settling.{ended_with, end_plan, if_room_for, edit_plan, edit_turn, ended_by_edit, copied, copied_where, leased_next, replaced_if, replace_plan, goes_on, own_request, is_quiet_at, source_chunks, settle_plan, all_refused, all_go_on, settled_on, settled_if, settled_by, concerned, requests_of, quiet_view_at}
use Rattle.gs_master_spec.specs.State.{State, Plan, Turn, turned, unmoved, and_then, for_each, fits, if_room, met_by, about, is_failed, ended_by, first_of}
use Rattle.gs_master_spec.specs.Undoing.{edited_names}
use Rattle.gs_view.specs.declared.poll.Poll.{Poll}
use Rattle.gs_master_spec.specs.declared.asking.Asking.{Asking}
use Rattle.gs_master_spec.specs.declared.asking.Step.{Step}
use Rattle.gs_master_spec.specs.declared.asking.Step.TheVariants as steps
use Rattle.gs_master_spec.specs.declared.change.Change.{Change}
use Rattle.gs_master_spec.specs.declared.change.Change.TheVariants as changes
use Rattle.gs_master_spec.specs.declared.pending.Pending.{Pending}
use Rattle.gs_master_spec.specs.declared.pending.Waiting.{Waiting}
use Rattle.gs_master_spec.specs.declared.pending.Waiting.TheVariants as waits

module _ (told : Bool) where
  -- ---- calls that waited

  room_roomy : (s : State) (req : ReqId) (t : Turn) → Adds told s t → Roomy told s (if_room_for s req t)
  room_roomy s req t a = tried_roomy told s t (ended_by s req refusals.Full) a (ended_roomy told req refusals.Full s)

  ended_with_roomy : (req : ReqId) (answer : Answer) (s : State) → Roomy told s (ended_with s req answer)
  ended_with_roomy req answer s = plan_roomy told s (end_plan s req answer) refl (both_leave (answer_changes s req answer) (changes.End req ∷ []) (answer_leaves told s req answer) refl)

  edit_roomy : (s : State) (req : ReqId) (edit : PlainEdit) (answer : Answer) (before : List Change) (names : Result NamesView Refusal) → CopiesStill s.durable (Edited req edit) → list_all leaves_told before ≡ true
      → Roomy told s (edit_turn s req (edit_plan req edit answer before) names)
  edit_roomy s req edit answer before (Ok names) still leaves =
      room_roomy s req (turned s (edit_plan req edit answer before)) (records_add told s (edit_plan req edit answer before) refl (still, λ next is. tt) (both_leave before (changes.End req ∷ []) leaves refl))
  edit_roomy s req edit answer before (Err refusal) still leaves = ended_roomy told req refusal s

  leased_roomy : (req : ReqId) (path : Path) (index chunk : ℕ) (s : State) → Roomy told s (leased_next req path index chunk s)
  leased_roomy req path index chunk s =
      let plan : Plan = waits_on (begin_at s chunk purposes.Lease (Some req)) req (waits.Lease path index chunk) in
      let begin = if_room_for s req (turned s plan) in
      either_roomy told s (not (may_begin s.durable.phase)) (ended_by s req refusals.RollingBack) (if not (has_versions s.durable 1) then ended_by s req refusals.Exhausted else begin)
      (ended_roomy told req refusals.RollingBack s)
      (either_roomy told s (not (has_versions s.durable 1)) (ended_by s req refusals.Exhausted) begin (ended_roomy told req refusals.Exhausted s) (room_roomy s req (turned s plan) (plan_adds told s plan refl refl)))

  where_roomy : (req : ReqId) (path : Path) (index old : ℕ) (quiet : Option View) (s : State) → Roomy told s (copied_where s req path index old quiet)
  where_roomy req path index old None s = ended_roomy told req refusals.NoReplica s
  where_roomy req path index old (Some view) s =
      let plan : Plan = waits_on (copy_plan (next_stamp s.durable) old view s.durable.next_handle req) req (waits.Copy path index old s.durable.next_handle) in
      room_roomy s req (turned s plan) (plan_adds told s plan refl refl)

  copied_roomy : (req : ReqId) (path : Path) (index old : ℕ) (s : State) → Roomy told s (copied s req path index old)
  copied_roomy req path index old s =
      let copy = copied_where s req path index old (quiet_view_at s old) in
      let left = has_handle s.durable && has_versions s.durable 1 in
      either_roomy told s (not (may_begin s.durable.phase)) (ended_by s req refusals.RollingBack) (if not left then ended_by s req refusals.Exhausted else copy) (ended_roomy told req refusals.RollingBack s)
      (either_roomy told s (not left) (ended_by s req refusals.Exhausted) copy (ended_roomy told req refusals.Exhausted s) (where_roomy req path index old (quiet_view_at s old) s))

  replaced_roomy : (req : ReqId) (path : Path) (index old new : ℕ) (names : Result NamesView Refusal) (s : State) → Roomy told s (replaced_if s req path index old new names)
  replaced_roomy req path index old new (Ok names) s = by_room (fits s.log (Edited own_request (Cow path index old new) ∷ [])) refl
    where
      by_room : (b : Bool) → fits s.log (Edited own_request (Cow path index old new) ∷ []) ≡ b → Roomy told s (if b then and_then (turned s (replace_plan path index old new)) (leased_next req path index new) else ended_by s req refusals.Full)
      by_room true fit = then_roomy told s (turned s (replace_plan path index old new)) (leased_next req path index new) (record { room = inr fit; adds = plan_adds told s (replace_plan path index old new) refl refl })
          (leased_roomy req path index new (turned s (replace_plan path index old new)).after)
      by_room false is = ended_roomy told req refusals.Full s
  replaced_roomy req path index old new (Err refusal) s = ended_roomy told req refusal s

  goes_on_roomy : (req : ReqId) (view : View) (waiting : Waiting) (s : State) → Roomy told s (goes_on s req view waiting)
  unfolding goes_on
  goes_on_roomy req view (waits.Extend path chunk) s =
      edit_roomy s req (AddChunk path chunk) (answers.Location chunk view s.durable.epoch) (changes.Place chunk ∷ []) (edited_names (AddChunk path chunk) s.durable.names) tt refl
  goes_on_roomy req view (waits.Lease path index chunk) s = ended_with_roomy req (answers.Location chunk view s.durable.epoch) s
  goes_on_roomy req view (waits.Quiet path index chunk) s = copied_roomy req path index chunk s
  goes_on_roomy req view (waits.Copy path index old new) s = replaced_roomy req path index old new (edited_names (Cow path index old new) s.durable.names) s
  goes_on_roomy req view (waits.Snapshot from to) s =
      test_roomy told s (list_all (is_quiet_at s) (source_chunks s from)) (ended_by_edit s req (Snapshot from to) answers.Nothing []) (unmoved s)
      (λ all. edit_roomy s req (Snapshot from to) answers.Nothing [] (edited_names (Snapshot from to) s.durable.names) (list_quiet_still s from all req to) refl) (λ is. same_roomy told s)
  goes_on_roomy req view (waits.Replicate chunk target) s =
      either_roomy told s (is_member view.members target) (ended_with s req (answers.Copied (Some (record { handle = chunk; server = target })))) (ended_by s req refusals.NoReplica)
      (ended_with_roomy req (answers.Copied (Some (record { handle = chunk; server = target }))) s) (ended_roomy told req refusals.NoReplica s)

  -- ---- settling

  settling_plain : (b : Bool) (chunk : ℕ) (target : Option ℕ) (view : View) → list_all is_plain (holder_records b chunk target ++ Settle (record { handle = chunk; view = view }) ∷ []) ≡ true
  settling_plain true chunk None view = refl
  settling_plain true chunk (Some target) view = refl
  settling_plain false chunk None view = refl
  settling_plain false chunk (Some target) view = refl

  all_refused_roomy : (chunk : ℕ) (call : Option ReqId) (refusal : Refusal) (s : State) → Roomy told s (all_refused s chunk call refusal)
  all_refused_roomy chunk call refusal s = all_ended_roomy told (requests_of (concerned s chunk call)) refusal s

  all_go_on_roomy : (view : View) (pending : List Pending) (s : State) → Roomy told s (all_go_on view pending s)
  all_go_on_roomy view pending s = each_roomy told pending (λ (p : Pending) next. goes_on next p.req view p.waits) (λ p next. goes_on_roomy p.req view p.waits next) s

  settled_on_roomy : (chunk : ℕ) (asking : Asking) (carried : Bool) (view : View) (s : State) → Roomy told s (settled_on s chunk asking carried view)
  settled_on_roomy chunk asking carried view s = by_room (fits s.log records) refl
    where
      records : List PlainEntry
      records = settling s.durable.phase (prepared_view s.durable chunk) carried chunk asking view

      settles : Turn
      settles = turned s (settle_plan records chunk view)

      plain : list_all is_plain records ≡ true
      plain = settling_plain (is_holder s.durable.phase (prepared_view s.durable chunk) carried asking view) chunk (target_of asking.purpose) view

      by_room : (b : Bool) → fits s.log records ≡ b → Roomy told s (if b then and_then settles (all_go_on view (concerned s chunk asking.call)) else all_refused s chunk asking.call refusals.Full)
      by_room true fit = then_roomy told s settles (all_go_on view (concerned s chunk asking.call)) (record { room = inr fit; adds = plan_adds told s (settle_plan records chunk view) plain refl }) (all_go_on_roomy view (concerned s chunk asking.call) settles.after)
      by_room false is = all_refused_roomy chunk asking.call refusals.Full s

  settled_if_roomy : (chunk : ℕ) (asking : Asking) (carried : Bool) (view : Option View) (s : State) → Roomy told s (settled_if s chunk asking carried view)
  settled_if_roomy chunk asking carried None s = same_roomy told s
  settled_if_roomy chunk asking carried (Some view) s = settled_on_roomy chunk asking carried view s

  settled_by_roomy : (chunk : ℕ) (c : Chunk) (asking : Asking) (carried : Bool) (by : Poll) (moment : Moment) (s : State) → Roomy told s (settled_by s chunk c asking carried by moment)
  unfolding settled_by
  settled_by_roomy chunk c asking carried by moment s = settled_if_roomy chunk asking carried (view_by c asking by moment) s

  -- ---- messages of servers

  stepped_roomy : (chunk : ℕ) (c : Chunk) (asking : Asking) (carried : Bool) (moment : Moment) (step : Step) (s : State) → Roomy told s (stepped s chunk c asking carried moment step)
  stepped_roomy chunk c asking carried moment steps.Wait s = same_roomy told s
  stepped_roomy chunk c asking carried moment (steps.Send source target) s =
      plan_roomy told s (send_plan chunk asking source target (is_with_sealed s.durable.phase (prepared_view s.durable chunk) source)) refl refl
  stepped_roomy chunk c asking carried moment (steps.Settle by) s = settled_by_roomy chunk c asking carried by moment s
  stepped_roomy chunk c asking carried moment steps.Fail s = all_refused_roomy chunk asking.call refusals.NoReplica s

  heard_roomy : (chunk : ℕ) (c : Chunk) (asking : Asking) (carried : Bool) (moment : Moment) (step : Step) (s : State) → Roomy told s (heard s chunk c asking carried moment step)
  heard_roomy chunk c asking carried moment step s =
      then_roomy told s (turned s (ask_plan chunk asking)) (λ next. stepped next chunk c asking carried moment step) (plan_roomy told s (ask_plan chunk asking) refl refl)
      (stepped_roomy chunk c asking carried moment step (turned s (ask_plan chunk asking)).after)

  promised_for_roomy : (server chunk : ℕ) (stamp : Stamp) (count : ℕ) (carried : Bool) (moment : Moment) (c : Chunk) (asking : Option Asking) (s : State) → Roomy told s (promised_for s server chunk stamp count carried moment c asking)
  promised_for_roomy server chunk stamp count carried moment c None s = same_roomy told s
  promised_for_roomy server chunk stamp count carried moment c (Some asking) s =
      either_roomy told s (hears asking stamp server) (heard s chunk c (heard_yes asking server count) (carried && is_target asking server) moment (step_of_yes asking server count)) (unmoved s)
      (heard_roomy chunk c (heard_yes asking server count) (carried && is_target asking server) moment (step_of_yes asking server count) s) (same_roomy told s)

  promised_at_roomy : (server chunk : ℕ) (stamp : Stamp) (count : ℕ) (carried : Bool) (moment : Moment) (c : Option Chunk) (s : State) → Roomy told s (promised_at s server chunk stamp count carried moment c)
  promised_at_roomy server chunk stamp count carried moment None s = same_roomy told s
  promised_at_roomy server chunk stamp count carried moment (Some c) s = promised_for_roomy server chunk stamp count carried moment c c.asking s

  unpromised_for_roomy : (server chunk : ℕ) (stamp : Stamp) (moment : Moment) (c : Chunk) (asking : Option Asking) (s : State) → Roomy told s (unpromised_for s server chunk stamp moment c asking)
  unpromised_for_roomy server chunk stamp moment c None s = same_roomy told s
  unpromised_for_roomy server chunk stamp moment c (Some asking) s =
      either_roomy told s (hears asking stamp server) (heard s chunk c (heard_no asking server) false moment (step_of_no asking server)) (unmoved s)
      (heard_roomy chunk c (heard_no asking server) false moment (step_of_no asking server) s) (same_roomy told s)

  unpromised_at_roomy : (server chunk : ℕ) (stamp : Stamp) (moment : Moment) (c : Option Chunk) (s : State) → Roomy told s (unpromised_at s server chunk stamp moment c)
  unpromised_at_roomy server chunk stamp moment None s = same_roomy told s
  unpromised_at_roomy server chunk stamp moment (Some c) s = unpromised_for_roomy server chunk stamp moment c c.asking s

  sends_roomy : (messages : List Message) (s : State) → Roomy told s (sends s messages)
  sends_roomy messages s = quiet_adds told s (sends s messages) refl refl refl (λ c. refl)

  met_roomy : (refusal : Refusal) (s : State) → Roomy told s (met_by s refusal)
  met_roomy refusal s = quiet_adds told s (met_by s refusal) refl refl refl (λ c. refl)

  behind_roomy : (server epoch : ℕ) (s : State) → Roomy told s (behind s server epoch)
  behind_roomy server epoch s =
      either_roomy told s (nat_lt epoch s.durable.epoch) (sends s (next_epoch s.durable server epoch)) (unmoved s) (sends_roomy (next_epoch s.durable server epoch) s) (same_roomy told s)

  quiet_roomy : (many : List ℕ) (s : State) → Roomy told s (made_quiet many s)
  quiet_roomy many s =
      let begin = all_begun s many purposes.Quiet None in
      either_roomy told s (has_versions s.durable (length many)) (if_room s begin (unmoved s)) (unmoved s) (tried_roomy told s begin (unmoved s) (all_begun_adds told many purposes.Quiet None s) (same_roomy told s)) (same_roomy told s)

  reported_now_roomy : (server : ℕ) (replicas : List Reported) (s : State) → Roomy told s (reported_now s server replicas)
  reported_now_roomy server replicas s =
      then_roomy told s (sends s (drops s server replicas)) (made_quiet (lost s server replicas)) (sends_roomy (drops s server replicas) s) (quiet_roomy (lost s server replicas) s)

  reported_roomy : (server epoch : ℕ) (replicas : List Reported) (s : State) → Roomy told s (reported s server epoch replicas)
  reported_roomy server epoch replicas s =
      either_roomy told s (nat_lt epoch s.durable.epoch) (sends s (next_epoch s.durable server epoch)) (if may_begin s.durable.phase && (epoch == s.durable.epoch) then reported_now s server replicas else unmoved s)
      (sends_roomy (next_epoch s.durable server epoch) s)
      (either_roomy told s (may_begin s.durable.phase && (epoch == s.durable.epoch)) (reported_now s server replicas) (unmoved s) (reported_now_roomy server replicas s) (same_roomy told s))

  damaged_roomy : (server chunk : ℕ) (s : State) → Roomy told s (damaged s server chunk)
  damaged_roomy server chunk s =
      either_roomy told s (may_begin s.durable.phase && is_lost_at server (chunk_at s chunk)) (made_quiet (chunk ∷ []) s) (unmoved s) (quiet_roomy (chunk ∷ []) s) (same_roomy told s)

  renewed_roomy : (server chunk : ℕ) (stamp : Stamp) (moment : Moment) (s : State) → Roomy told s (renewed s server chunk stamp moment)
  renewed_roomy server chunk stamp moment s =
      either_roomy told s (is_leased_under stamp (chunk_at s chunk) && not s.volatile.is_preparing) (sends s (about chunk (chunks.Renewed stamp (end_of moment)) server ∷ [])) (unmoved s)
      (sends_roomy (about chunk (chunks.Renewed stamp (end_of moment)) server ∷ []) s) (same_roomy told s)

  about_roomy : (server chunk : ℕ) (moment : Moment) (said : Said_of_chunk) (s : State) → Roomy told s (about_turn s server chunk moment said)
  about_roomy server chunk moment (chunks.Promised stamp count carried) s = promised_at_roomy server chunk stamp count carried moment (chunk_at s chunk) s
  about_roomy server chunk moment (chunks.Unpromised stamp refusal) s = unpromised_at_roomy server chunk stamp moment (chunk_at s chunk) s
  about_roomy server chunk moment (chunks.Renew stamp) s = renewed_roomy server chunk stamp moment s
  about_roomy server chunk moment (chunks.Bad stamp) s = damaged_roomy server chunk s
  about_roomy server chunk moment said s = met_roomy refusals.Stray s

  -- ---- ticks

  pressed_if_roomy : (chunk : ℕ) (stamp : Stamp) (moment : Moment) (c : Chunk) (asking : Option Asking) (s : State) → Roomy told s (pressed_if s chunk stamp moment c asking)
  pressed_if_roomy chunk stamp moment c None s = same_roomy told s
  pressed_if_roomy chunk stamp moment c (Some asking) s =
      either_roomy told s (is_same asking.stamp stamp) (stepped s chunk c asking false moment (step_at_tick asking)) (unmoved s) (stepped_roomy chunk c asking false moment (step_at_tick asking) s) (same_roomy told s)

  pressed_at_roomy : (chunk : ℕ) (stamp : Stamp) (moment : Moment) (c : Option Chunk) (s : State) → Roomy told s (pressed_at s chunk stamp moment c)
  pressed_at_roomy chunk stamp moment None s = same_roomy told s
  pressed_at_roomy chunk stamp moment (Some c) s = pressed_if_roomy chunk stamp moment c c.asking s

  pub pressed_roomy : (moment : Moment) (proposal : ℕ × Stamp) (s : State) → Roomy told s (pressed moment proposal s)
  pressed_roomy moment proposal s = pressed_at_roomy proposal.0 proposal.1 moment (chunk_at s proposal.0) s

  granted_roomy : (s : State) → Roomy told s (granted s)
  granted_roomy s = sends_roomy (flat_map (λ chunk. granted_at chunk (chunk_at s chunk)) (fin.keys s.durable.chunks)) s

  -- the steps of a tick, and what is sent of leases
  steps_roomy : (s : State) (moment : Moment) → Roomy told s (and_then (for_each s (proposals s) (pressed moment)) granted)
  steps_roomy s moment =
      let press = for_each s (proposals s) (pressed moment) in then_roomy told s press granted (each_roomy told (proposals s) (pressed moment) (λ p next. pressed_roomy moment p next) s) (granted_roomy press.after)

-- ---- what a message comes to

-- It leaves who has told; or a server tells; or the rollback is committed.
data Came (s : State) (message : Message) (t : Turn) : Type 0 where
  Same : Roomy true s t → Came s message t
  Told : (server : ℕ) (handles : List ℕ) → TellsHandles s message server handles → Roomy false s t → restored_in t.after ≡ fold (with_restored server) (restored_in s) handles → t.after.durable ≡ s.durable → Came s message t
  Done : Roomy false s t → CommitsRollback s t → restored_in t.after ≡ fin.empty → Came s message t

came_of : (s : State) (message : Message) (t : Turn) → Leaves s t → Came s message t
came_of s message t (inl same) = Same same
came_of s message t (inr done) = Done done.0 done.1.0 done.1.1

abbrev told_plan : ℕ → List ℕ → Plan
told_plan server handles = record { records = []; changes = changes.Restored server handles ∷ []; sent = []; said = None }

told_roomy : (s : State) (server : ℕ) (handles : List ℕ) → Roomy false s (turned s (told_plan server handles))
told_roomy s server handles = quiet_adds false s (turned s (told_plan server handles)) refl refl refl (λ c. absurd (false≢true c))

same_epoch : (a b : ℕ) → (a == b) ≡ true → a ≡ b
same_epoch a b e = grind (arith, nat_tests)

not_below : (a : ℕ) → nat_lt a a ≡ false
not_below a = grind (arith, nat_tests)

module _ (s : State) (message : Message) (sound : is_failed s.fault ≡ false) (server : ℕ) (from : message.from ≡ nodes.Server server) where
  learned_came : (epoch : ℕ) (handles : List ℕ) → message.body ≡ bodies.Learned epoch handles → Came s message (learned s server epoch handles)
  learned_came epoch handles said =
      pick (Came s message) (nat_lt epoch s.durable.epoch) (sends s (next_epoch s.durable server epoch)) (if is_rolling s.durable.phase && (epoch == s.durable.epoch) then turned s (told_plan server handles) else unmoved s)
      (Same (sends_roomy true (next_epoch s.durable server epoch) s)) (by_epoch (is_rolling s.durable.phase && (epoch == s.durable.epoch)) refl)
    where
      by_epoch : (b : Bool) → (is_rolling s.durable.phase && (epoch == s.durable.epoch)) ≡ b → Came s message (if b then turned s (told_plan server handles) else unmoved s)
      by_epoch true is =
          let parts = and_parts (is_rolling s.durable.phase) (epoch == s.durable.epoch) is in
          Told server handles (record { from = from; said = said ∙ ap (λ e. bodies.Learned e handles) (same_epoch epoch s.durable.epoch parts.1); begun = parts.0; sound = sound }) (told_roomy s server handles) refl refl
      by_epoch false is = Same (same_roomy true s)

  server_came : (moment : Moment) (said : Body) → message.body ≡ said → Came s message (server_turn s server moment said)
  server_came moment (bodies.About chunk said) is = Same (about_roomy true server chunk moment said s)
  server_came moment (bodies.Report epoch replicas) is = Same (reported_roomy true server epoch replicas s)
  server_came moment (bodies.Learned epoch handles) is = learned_came epoch handles is
  server_came moment (bodies.Behind epoch) is = Same (behind_roomy true server epoch s)
  server_came moment said is = Same (met_roomy true refusals.Stray s)

client_came : (config : Config) (s : State) (message : Message) (moment : Moment) (said : Body) → Came s message (from_client config s moment said)
client_came config s message moment (bodies.Call req call) = came_of s message (call_turn config s req moment call) (call_leaves config s req moment call)
client_came config s message moment said = Same (met_roomy true refusals.Stray s)

node_came : (config : Config) (s : State) (message : Message) (moment : Moment) (from : NodeId) → message.from ≡ from → Came s message (from_node config s moment message.body from)
node_came config s message moment nodes.Master is = Same (met_roomy true refusals.Stray s)
node_came config s message moment (nodes.Server server) is = by_fault (is_failed s.fault) refl
  where
    by_fault : (b : Bool) → is_failed s.fault ≡ b → Came s message (if b then met_by s refusals.Device else server_turn s server moment message.body)
    by_fault true failed = Same (met_roomy true refusals.Device s)
    by_fault false sound = server_came s message sound server is moment message.body refl
node_came config s message moment (nodes.Client client) is = client_came config s message moment message.body

came : (config : Config) (s : State) (message : Message) (moment : Moment) → Came s message (handle config s message moment)
unfolding handle
came config s message moment = node_came config s message moment message.from refl

room_of : (s : State) (message : Message) (t : Turn) → Came s message t → HasRoom s t
room_of s message t (Same r) = r.room
room_of s message t (Told server handles tells r now still) = r.room
room_of s message t (Done r commits none) = r.room

-- what is left of the log, and of snapshots, whatever came
record Left (s : State) (t : Turn) : Type 0 where
  size : t.after.log.size ≡ s.log.size + size_of_all t.records
  limit : t.after.log.limit ≡ s.log.limit
  still : AllCopyStill s.durable t.records
  counted : IsCounted s t

left_by : (told : Bool) (s : State) (t : Turn) → Adds told s t → Left s t
left_by told s t a = record { size = a.size; limit = a.limit; still = a.still; counted = record { count = a.count; behind = a.behind } }

left_of : (s : State) (message : Message) (t : Turn) → Came s message t → Left s t
left_of s message t (Same r) = left_by true s t r.adds
left_of s message t (Told server handles tells r now still) = left_by false s t r.adds
left_of s message t (Done r commits none) = left_by false s t r.adds

pub messages_counted : MessagesCounted
messages_counted config s message moment = (left_of s message (handle config s message moment) (came config s message moment)).counted

pub ticks_counted : TicksCounted
ticks_counted s moment = (left_by true s _ (steps_roomy true s moment).adds).counted

pub messages_have_room : MessagesHaveRoom
messages_have_room config s message moment = room_of s message (handle config s message moment) (came config s message moment)

pub steps_have_room : StepsHaveRoom
steps_have_room s moment proposal = (pressed_roomy true moment proposal s).room

pub ticks_have_room : TicksHaveRoom
ticks_have_room s moment = (steps_roomy true s moment).room

-- ---- the log stays within its limit

abbrev Within : State → Turn → Type 0
Within s t = (t.after.log.size ≤ t.after.log.limit) × (t.after.log.limit ≡ s.log.limit)

nothing_added : (size limit now least : ℕ) → size ≤ limit → now ≡ size + 0 → least ≡ limit → now ≤ least
nothing_added size limit now least low e f = omega arith

fits_added : (size limit many now least : ℕ) → nat_le (size + many) limit ≡ true → now ≡ size + many → least ≡ limit → now ≤ least
fits_added size limit many now least fit e f = grind (arith, nat_tests)

within_room : (s : State) (t : Turn) → s.log.size ≤ s.log.limit → HasRoom s t → Left s t → Within s t
within_room s t low (inl none) left = (nothing_added s.log.size s.log.limit t.after.log.size t.after.log.limit low (left.size ∙ ap (λ es. s.log.size + size_of_all es) none) left.limit, left.limit)
within_room s t low (inr fit) left = (fits_added s.log.size s.log.limit (size_of_all t.records) t.after.log.size t.after.log.limit fit left.size left.limit, left.limit)

not_above : (limit size : ℕ) → nat_lt limit size ≡ false → size ≤ limit
not_above limit size e = grind (arith, nat_tests)

last_test : (a b c d : Bool) (w x y z : Refusal) → first_of ((a, w) ∷ (b, x) ∷ (c, y) ∷ (d, z) ∷ []) ≡ None → d ≡ false
last_test true b c d w x y z e = absurd (true≢false (ap is_some e))
last_test false true c d w x y z e = absurd (true≢false (ap is_some e))
last_test false false true d w x y z e = absurd (true≢false (ap is_some e))
last_test false false false true w x y z e = absurd (true≢false (ap is_some e))
last_test false false false false w x y z e = refl

written_within : (s : State) → s.log.size ≤ s.log.limit → (refusal : Option Refusal) → first_of (checkpoint_tests (is_failed s.fault) s.volatile.is_preparing s.log (checkpoint_body s.durable)) ≡ refusal → Within s (written_unless s refusal)
written_within s low None passed = (
  not_above s.log.limit (checkpoint_size (checkpoint_body s.durable))
      (last_test (is_failed s.fault) s.volatile.is_preparing (s.log.generation == last_generation) (nat_lt s.log.limit (checkpoint_size (checkpoint_body s.durable))) refusals.Device refusals.Preparing refusals.Exhausted refusals.Full passed),
  refl,
)
written_within s low (Some refusal) passed = (low, refl)

checkpoint_within : (s : State) → s.log.size ≤ s.log.limit → Within s (checkpoint s)
unfolding checkpoint
checkpoint_within s low = written_within s low (first_of (checkpoint_tests (is_failed s.fault) s.volatile.is_preparing s.log (checkpoint_body s.durable))) refl

due_within : (s : State) → s.log.size ≤ s.log.limit → Within s (written_if_due s)
due_within s low = pick (Within s) (due s) (record (checkpoint s) { said = None }) (unmoved s) (checkpoint_within s low) (low, refl)

tick_within : (s : State) (moment : Moment) → s.log.size ≤ s.log.limit → Within s (tick s moment)
unfolding tick
tick_within s moment low =
    let both = and_then (for_each s (proposals s) (pressed moment)) granted in
    let steps = steps_roomy true s moment in
    let first = within_room s both low steps.room (left_by true s both steps.adds) in
    let second = due_within both.after first.0 in
    pick (Within s) (is_failed s.fault) (met_by s refusals.Device) (and_then both written_if_due) (low, refl) (second.0, second.1 ∙ first.1)

pub logs_stay_within : LogsStayWithin
logs_stay_within config s (Comes message moment) low =
    let k = came config s message moment in within_room s (handle config s message moment) low (room_of s message (handle config s message moment) k) (left_of s message (handle config s message moment) k)
logs_stay_within config s (Ticks moment) low = tick_within s moment low
logs_stay_within config s Renews low = checkpoint_within s low
logs_stay_within config s Restarts low = (low, refl)

pub runs_stay_within : RunsStayWithin
runs_stay_within config [] s low = (low, refl)
runs_stay_within config (event ∷ events) s low =
    let one = logs_stay_within config s event low in
    let rest = runs_stay_within config events (turn_of config s event).after one.0 in (rest.0, rest.1 ∙ one.1)

-- ---- who has told

pub tells_add : TellsAdd
unfolding handle
tells_add config s message moment server handles t =
    ap (λ n. restored_in (from_node config s moment message.body n).after) t.from
    ∙ ap (λ said. restored_in (from_node config s moment said (nodes.Server server)).after) t.said
    ∙ ap (λ b. restored_in (if b then met_by s refusals.Device else learned s server s.durable.epoch handles).after) t.sound
    ∙ ap (λ b. restored_in (if b then sends s (next_epoch s.durable server s.durable.epoch) else if is_rolling s.durable.phase && (s.durable.epoch == s.durable.epoch) then turned s (told_plan server handles) else unmoved s).after) (not_below s.durable.epoch)
    ∙ ap (λ b. restored_in (if b && (s.durable.epoch == s.durable.epoch) then turned s (told_plan server handles) else unmoved s).after) t.begun
    ∙ ap (λ b. restored_in (if b then turned s (told_plan server handles) else unmoved s).after) (eqb_itself s.durable.epoch)

told_more : (server : ℕ) (handles : List ℕ) (m : fin.FinMap nat_cmp (List ℕ)) (chunk other : ℕ) → other < 16 →
    is_member (servers_or_none (fin.get (fold (with_restored server) m handles) chunk)) other ≡ (is_member (servers_or_none (fin.get m chunk)) other || ((other == server) && is_member handles chunk))
told_more server [] m chunk other low = nothing (is_member (servers_or_none (fin.get m chunk)) other) (other == server)
  where
    nothing : (a b : Bool) → a ≡ (a || (b && false))
    nothing true b = refl
    nothing false true = refl
    nothing false false = refl
told_more server (h ∷ handles) m chunk other low =
    told_more server handles (with_restored server m h) chunk other low
    ∙ ap (λ o. is_member (servers_or_none o) other || ((other == server) && is_member handles chunk)) (fin.get-insert nat_cmp_total m h (with_member (servers_or_none (fin.get m h)) server) chunk)
    ∙ by_key (eq_by_cmp nat_cmp chunk h) refl
  where
    now_told : (a x b : Bool) → ((a || x) || (a && b)) ≡ (x || (a && true))
    now_told true true b = refl
    now_told true false b = refl
    now_told false true b = refl
    now_told false false b = refl

    by_key : (b : Bool) → eq_by_cmp nat_cmp chunk h ≡ b
        → (is_member (servers_or_none (cond b (Some (with_member (servers_or_none (fin.get m h)) server)) (fin.get m chunk))) other || ((other == server) && is_member handles chunk))
        ≡ (is_member (servers_or_none (fin.get m chunk)) other || ((other == server) && ((h == chunk) || is_member handles chunk)))
    by_key true is =
        ap (λ b. b || ((other == server) && is_member handles chunk)) (is_member-servers_where (λ s. (s == server) || is_member (servers_or_none (fin.get m h)) s) other low)
        ∙ now_told (other == server) (is_member (servers_or_none (fin.get m h)) other) (is_member handles chunk)
        ∙ ap (λ k. is_member (servers_or_none (fin.get m k)) other || ((other == server) && true)) (sym (same_key chunk h is))
        ∙ ap (λ b. is_member (servers_or_none (fin.get m chunk)) other || ((other == server) && (b || is_member handles chunk))) (sym (sym (is_tied chunk h) ∙ is))
    by_key false is = ap (λ b. is_member (servers_or_none (fin.get m chunk)) other || ((other == server) && (b || is_member handles chunk))) (sym (sym (is_tied chunk h) ∙ is))

pub tells_of : TellsOf
tells_of config s message moment server handles chunk other t low =
    ap (λ (r : fin.FinMap nat_cmp (List ℕ)). is_member (servers_or_none (fin.get r chunk)) other) (tells_add config s message moment server handles t) ∙ told_more server handles (restored_in s) chunk other low

others_by : (s : State) (message : Message) (t : Turn) → ((server : ℕ) (handles : List ℕ) → TellsHandles s message server handles → ⊥) → Came s message t → (restored_in t.after ≡ restored_in s) ⊎ (CommitsRollback s t × (restored_in t.after ≡ fin.empty))
others_by s message t other (Same r) = inl (r.adds.restored refl)
others_by s message t other (Told server handles tells r now still) = absurd (other server handles tells)
others_by s message t other (Done r commits none) = inr (commits, none)

pub others_leave : OthersLeave
others_leave config s message moment other = others_by s message (handle config s message moment) other (came config s message moment)

-- a checkpoint leaves who has told, and the phase
record Stays (s : State) (t : Turn) : Type 0 where
  restored : restored_in t.after ≡ restored_in s
  rolling : is_rolling s.durable.phase ≡ true → is_rolling t.after.durable.phase ≡ true

written_stays : (s : State) (refusal : Option Refusal) → Stays s (written_unless s refusal)
written_stays s None = record { restored = refl; rolling = λ r. r }
written_stays s (Some refusal) = record { restored = refl; rolling = λ r. r }

checkpoint_stays : (s : State) → Stays s (checkpoint s)
unfolding checkpoint
checkpoint_stays s = written_stays s (first_of (checkpoint_tests (is_failed s.fault) s.volatile.is_preparing s.log (checkpoint_body s.durable)))

due_stays : (s : State) → Stays s (written_if_due s)
due_stays s = let k = checkpoint_stays s in pick (Stays s) (due s) (record (checkpoint s) { said = None }) (unmoved s) (record { restored = k.restored; rolling = k.rolling }) (record { restored = refl; rolling = λ r. r })

tick_stays : (s : State) (moment : Moment) → Stays s (tick s moment)
unfolding tick
tick_stays s moment =
    let both = and_then (for_each s (proposals s) (pressed moment)) granted in
    let steps = (steps_roomy true s moment).adds in
    let more = due_stays both.after in
    pick (Stays s) (is_failed s.fault) (met_by s refusals.Device) (and_then both written_if_due) (record { restored = refl; rolling = λ r. r })
    (record { restored = more.restored ∙ steps.restored refl; rolling = λ r. more.rolling (steps.rolling refl r) })

pub ticks_leave : TicksLeave
ticks_leave s moment = (tick_stays s moment).restored

pub steps_leave : StepsLeave
steps_leave s moment = (steps_roomy true s moment).adds.restored refl

pub restarts_forget : RestartsForget
restarts_forget config s = refl

-- where no rollback is begun behind it, none was before
none_before : (s : State) (t : Turn) → Stays s t → NoneHasTold s → NoneHasTold t.after
none_before s t k none out = k.restored ∙ none (was_out (is_rolling s.durable.phase) refl)
  where
    was_out : (b : Bool) → is_rolling s.durable.phase ≡ b → b ≡ false
    was_out true is = absurd (true≢false (sym (k.rolling is) ∙ out))
    was_out false is = refl

since_by : (s : State) (message : Message) (t : Turn) → Came s message t → NoneHasTold s → NoneHasTold t.after
since_by s message t (Same r) none out = none_before s t (record { restored = r.adds.restored refl; rolling = r.adds.rolling refl }) none out
since_by s message t (Told server handles tells r now still) none out = absurd (false≢true (sym out ∙ ap (λ (d : Durable). is_rolling d.phase) still ∙ tells.begun))
since_by s message t (Done r commits nobody) none out = nobody

pub tells_since : TellsSince
tells_since config s (Comes message moment) none = since_by s message (handle config s message moment) (came config s message moment) none
tells_since config s (Ticks moment) none = none_before s (tick s moment) (tick_stays s moment) none
tells_since config s Renews none = none_before s (checkpoint s) (checkpoint_stays s) none
tells_since config s Restarts none = λ out. refl

-- ---- snapshots

pub messages_copy_still : MessagesCopyStill
messages_copy_still config s message moment = (left_of s message (handle config s message moment) (came config s message moment)).still

written_still : (s : State) (refusal : Option Refusal) → AllCopyStill s.durable (written_unless s refusal).records
written_still s None = (tt, λ next is. tt)
written_still s (Some refusal) = tt

due_still : (s : State) → AllCopyStill s.durable (written_if_due s).records
unfolding checkpoint
due_still s =
    pick (λ t. AllCopyStill s.durable t.records) (due s) (record (checkpoint s) { said = None }) (unmoved s)
    (written_still s (first_of (checkpoint_tests (is_failed s.fault) s.volatile.is_preparing s.log (checkpoint_body s.durable)))) tt

pub ticks_copy_still : TicksCopyStill
unfolding tick
ticks_copy_still s moment =
    let both = and_then (for_each s (proposals s) (pressed moment)) granted in
    let steps = (steps_roomy true s moment).adds in
    pick (λ t. AllCopyStill s.durable t.records) (is_failed s.fault) (met_by s refusals.Device) (and_then both written_if_due) tt
    (both_still both.records (written_if_due both.after).records s.durable steps.still (λ mid is. subst (λ d. AllCopyStill d (written_if_due both.after).records) (sym (steps.after mid is)) (due_still both.after)))
