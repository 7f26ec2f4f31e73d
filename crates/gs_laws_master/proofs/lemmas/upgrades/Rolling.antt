-- While rolling back nothing is begun and nothing dropped.
use Rattle.std.proofs.Common.{◌≡◌, ◌&&◌, ◌++◌, ◌==◌, ℕ, Bool, true, false, not, List, [], ◌∷◌, refl, ◌∙◌}
use Rattle.std.specs.Prelude.{flat_map, slice_get, fold, nat_lt, is_some, Option, Some, None, unwrap_or, Result, Ok, Err, if◌then◌else◌}
use Rattle.std.specs.List.{list_any, list_all}
use Rattle.std.specs.FinMap as fin
use Rattle.std.proofs.lemmas.Bool.{false≢true}
use Rattle.std.proofs.lemmas.List.Folds.{list_any-append}
use Rattle.gs_base.specs.Stamps.{is_same}
use Rattle.gs_base.specs.declared.config.Config.{Config}
use Rattle.gs_base.specs.declared.numbers.Moment.{Moment}
use Rattle.gs_base.specs.declared.numbers.ReqId.{ReqId}
use Rattle.gs_base.specs.declared.numbers.Stamp.{Stamp}
use Rattle.gs_base.specs.declared.refusal.Refusal.{Refusal}
use Rattle.gs_base.specs.declared.refusal.Refusal.TheVariants as refusals
use Rattle.gs_path.specs.Path.{Path}
use Rattle.gs_edit.specs.View.{NamesView}
use Rattle.gs_lease.specs.declared.view.Term.{Term}
use Rattle.gs_lease.specs.declared.view.View.{View}
use Rattle.gs_msg.specs.declared.answer.Answer.{Answer}
use Rattle.gs_msg.specs.declared.answer.Answer.TheVariants as answers
use Rattle.gs_msg.specs.declared.call.Call.{Call}
use Rattle.gs_msg.specs.declared.call.Call.TheVariants as calls
use Rattle.gs_msg.specs.declared.message.Message.{Message}
use Rattle.gs_msg.specs.declared.node.NodeId.{NodeId}
use Rattle.gs_msg.specs.declared.node.NodeId.TheVariants as nodes
use Rattle.gs_master_spec.specs.Volatile.{is_pending}
use Rattle.gs_master_record.specs.Plain.{RollbackCommit, PlainEdit, PlainEntry, Edited, Said, Settle, Holder, Cow, AddChunk, Snapshot}
use Rattle.gs_base.specs.declared.epoch.EpochEnd.{EpochEnd}
use Rattle.gs_master_record.specs.declared.entry.SettledView.{SettledView}
use Rattle.gs_master_spec.specs.Applied.{applied, if_fits, after_edit, may_be_settled, with_view, held_by}
use Rattle.gs_master_spec.specs.Durable.{Durable, is_rolling, is_upgrade, prepared_view, with_prepared}
use Rattle.gs_laws_master.specs.Promises.{is_proposal, is_drop_message, IsStill, NothingWhileRolling, NothingAtTicks}
use Rattle.gs_master_spec.specs.Settling.{ended_with, end_plan, if_room_for, edit_plan, edit_turn, ended_by_edit, copied, leased_next, replaced_if, replace_plan, goes_on, grant_of, own_request, is_quiet_at, source_chunks, settle_plan, all_refused, all_go_on, settled_on, settled_if, settled_by, concerned, failed, requests_of}
use Rattle.gs_master_spec.specs.State.{State, is_failed, is_unopened, last_reply, refused, met_by, about, first_of, Plan, Turn, with_record, turned, unmoved, and_then, for_each, fits, ended_by, all_ended_by, keeps_refusal, refusal_plan, end_changes}
use Rattle.gs_master_spec.specs.declared.change.Change.{Change}
use Rattle.gs_master_spec.specs.Chunks.{Chunk, chunk_at, may_begin, hears, heard_yes, heard_no, is_target, step_of_yes, step_of_no, settling, is_holder, holder_records, target_of, view_by, is_leased, view_of, step_at_tick}
use Rattle.gs_master_spec.specs.Undoing.{edited_names, all_undone}
use Rattle.gs_base.specs.Members.{is_member}
use Rattle.gs_view.specs.declared.poll.Poll.{Poll}
use Rattle.gs_master_spec.specs.declared.asking.Asking.{Asking}
use Rattle.gs_master_spec.specs.declared.asking.Step.{Step}
use Rattle.gs_master_spec.specs.declared.asking.Step.TheVariants as steps
use Rattle.gs_master_spec.specs.declared.change.Change.TheVariants as changes
use Rattle.gs_lease.specs.Transitions.{end_of}
use Rattle.gs_msg.specs.declared.body.Body.{Body}
use Rattle.gs_msg.specs.declared.body.Body.TheVariants as bodies
use Rattle.gs_msg.specs.declared.body.Reported.{Reported}
use Rattle.gs_msg.specs.declared.chunk.Chunk.{Chunk as Said_of_chunk}
use Rattle.gs_msg.specs.declared.chunk.Chunk.TheVariants as chunks
use Rattle.gs_master_spec.specs.Calls.{is_locked, ordered, is_always_taken, queried, refused_before}
use Rattle.gs_master_spec.specs.Hearing.{stepped, heard, ask_plan, send_plan, is_with_sealed, promised_for, promised_at, unpromised_for, unpromised_at, sends, end_told, next_epoch, behind, learned, reported, reported_now, damaged, renewed, is_leased_under}
use Rattle.gs_master_spec.specs.Handling.{handle, about_turn, server_turn, from_client, from_node, call_turn, called, called_unless, new_call, taken_as, numbered, replied_again, waits_still, Numbered, New, Again, Older, pressed, pressed_at, pressed_if, proposals, granted, granted_at, granted_view, written_unless, written_if_due, checkpoint, checkpoint_tests, checkpoint_body, due, tick}
use Rattle.gs_master_spec.specs.Upgrades.{rollback_commit, commit_on, commit_if, answers_for, told_of, accepted_plan, unrestored}
use Rattle.gs_master_spec.specs.declared.pending.Pending.{Pending}
use Rattle.gs_master_spec.specs.declared.pending.Waiting.{Waiting}
use Rattle.gs_master_spec.specs.declared.pending.Waiting.TheVariants as waits

abbrev pub IsRolling : State → Type 0
IsRolling s = is_rolling s.durable.phase ≡ true

-- a turn that is still, and after which a rollback goes on
pub record GoesOn (t : Turn) : Type 0 where
  pub still : IsStill t
  pub rolling : IsRolling t.after

-- ---- turns one after the other

any_both : {A : Type 0} (p : A → Bool) (xs ys : List A) → list_any p xs ≡ false → list_any p ys ≡ false → list_any p (xs ++ ys) ≡ false
any_both p xs ys a b = list_any-append p xs ys ∙ (rw (a, b) refl)

pub stands_still : (s : State) → IsRolling s → GoesOn (unmoved s)
stands_still s h = record { still = record { records = refl; sent = refl }; rolling = h }

pub then_on : (t : Turn) (f : State → Turn) → GoesOn t → ((s : State) → IsRolling s → GoesOn (f s)) → GoesOn (and_then t f)
then_on t f a h = record {
  still = record {
    records = any_both is_proposal t.records (f t.after).records a.still.records (h t.after a.rolling).still.records;
    sent = any_both is_drop_message t.sent (f t.after).sent a.still.sent (h t.after a.rolling).still.sent;
  };
  rolling = (h t.after a.rolling).rolling;
}

pub each_on : {A : Type 0} (xs : List A) (step : A → State → Turn) → ((x : A) (s : State) → IsRolling s → GoesOn (step x s)) → (s : State) → IsRolling s → GoesOn (for_each s xs step)
each_on [] step h s r = stands_still s r
each_on (x ∷ xs) step h s r = then_on (step x s) (λ next. for_each next xs step) (h x s r) (λ n rn. each_on xs step h n rn)

pub either_on : (b : Bool) (t u : Turn) → GoesOn t → GoesOn u → GoesOn (if b then t else u)
either_on true t u a b = a
either_on false t u a b = b

-- ---- records after which a rollback goes on

abbrev pub Keeps : PlainEntry → Type 0
Keeps entry = (d : Durable) → is_rolling d.phase ≡ true → is_rolling (unwrap_or (applied d entry) d).phase ≡ true

abbrev pub AllKeep : List PlainEntry → Type 0
AllKeep [] = Unit {0}
AllKeep (entry ∷ entries) = Keeps entry × AllKeep entries

rolling_after : (entries : List PlainEntry) (s : State) → AllKeep entries → IsRolling s → IsRolling (fold with_record s entries)
rolling_after [] s k h = h
rolling_after (entry ∷ entries) s k h = rolling_after entries (with_record s entry) k.1 (k.0 s.durable h)

pub turn_on : (s : State) (plan : Plan) → list_any is_proposal plan.records ≡ false → list_any is_drop_message plan.sent ≡ false → AllKeep plan.records → IsRolling s → GoesOn (turned s plan)
turn_on s plan a b k h = record { still = record { records = a; sent = b }; rolling = rolling_after plan.records s k h }

either_way : (b : Bool) (d n : Durable) → is_rolling d.phase ≡ true → is_rolling n.phase ≡ true → is_rolling (unwrap_or (if_fits b n) d).phase ≡ true
either_way true d n h k = k
either_way false d n h k = h

pub keeps_said : (req : ReqId) (refusal : Refusal) → Keeps (Said req refusal)
unfolding applied
keeps_said req refusal d h = h

pub keeps_settle : (v : SettledView) → Keeps (Settle v)
unfolding applied
keeps_settle v d h = either_way (may_be_settled d v) d (with_view d v) h h

edited_keeps : (d : Durable) (by : ReqId) (edit : PlainEdit) (names : Result NamesView Refusal) → is_rolling d.phase ≡ true → is_rolling (unwrap_or (after_edit d by edit names) d).phase ≡ true
edited_keeps d by edit (Ok names) h = rw h h
edited_keeps d by edit (Err refusal) h = h

pub keeps_edited : (by : ReqId) (edit : PlainEdit) → Keeps (Edited by edit)
unfolding applied
keeps_edited by edit d h = edited_keeps d by edit (edited_names edit d.names) h

keeps_holder : (chunk server : ℕ) → Keeps (Holder chunk server)
unfolding applied
keeps_holder chunk server d h =
    either_way (is_upgrade d.phase && (nat_lt server 16 && is_some (prepared_view d chunk))) d (record d { prepared = with_prepared d chunk (held_by server (prepared_view d chunk)) }) h h

-- ---- calls that waited

said_any : (b : Bool) (req : ReqId) (refusal : Refusal) → list_any is_proposal (if b then Said req refusal ∷ [] else []) ≡ false
said_any true req refusal = refl
said_any false req refusal = refl

said_keep : (b : Bool) (req : ReqId) (refusal : Refusal) → AllKeep (if b then Said req refusal ∷ [] else [])
said_keep true req refusal = (keeps_said req refusal, tt)
said_keep false req refusal = tt

pub ended_on : (req : ReqId) (refusal : Refusal) (s : State) → IsRolling s → GoesOn (ended_by s req refusal)
ended_on req refusal s h =
    let b = keeps_refusal s req refusal && fits s.log (Said req refusal ∷ []) in
    turn_on s (refusal_plan s req refusal (end_changes s req) None) (said_any b req refusal) refl (said_keep b req refusal) h

pub all_ended_on : (reqs : List ReqId) (refusal : Refusal) (s : State) → IsRolling s → GoesOn (all_ended_by s reqs refusal)
all_ended_on reqs refusal s h = each_on reqs (λ req next. ended_by next req refusal) (λ req next r. ended_on req refusal next r) s h

ended_with_on : (req : ReqId) (answer : Answer) (s : State) → IsRolling s → GoesOn (ended_with s req answer)
ended_with_on req answer s h = turn_on s (end_plan s req answer) refl refl tt h

room_on : (s : State) (req : ReqId) (t : Turn) → IsRolling s → GoesOn t → GoesOn (if_room_for s req t)
room_on s req t h g = either_on (fits s.log t.records) t (ended_by s req refusals.Full) g (ended_on req refusals.Full s h)

edit_on : (s : State) (req : ReqId) (edit : PlainEdit) (answer : Answer) (before : List Change) (names : Result NamesView Refusal) → IsRolling s → GoesOn (edit_turn s req (edit_plan req edit answer before) names)
edit_on s req edit answer before (Ok names) h = room_on s req (turned s (edit_plan req edit answer before)) h (turn_on s (edit_plan req edit answer before) refl refl (keeps_edited req edit, tt) h)
edit_on s req edit answer before (Err refusal) h = ended_on req refusal s h

-- nothing is begun for a call that goes on
leased_on : (req : ReqId) (path : Path) (index chunk : ℕ) (s : State) → IsRolling s → GoesOn (leased_next req path index chunk s)
leased_on req path index chunk s h = rw h (ended_on req refusals.RollingBack s h)

copied_on : (req : ReqId) (path : Path) (index old : ℕ) (s : State) → IsRolling s → GoesOn (copied s req path index old)
copied_on req path index old s h = rw h (ended_on req refusals.RollingBack s h)

replaced_on : (req : ReqId) (path : Path) (index old new : ℕ) (names : Result NamesView Refusal) (s : State) → IsRolling s → GoesOn (replaced_if s req path index old new names)
replaced_on req path index old new (Ok names) s h =
    either_on (fits s.log (Edited own_request (Cow path index old new) ∷ [])) (and_then (turned s (replace_plan path index old new)) (leased_next req path index new)) (ended_by s req refusals.Full)
    (then_on (turned s (replace_plan path index old new)) (leased_next req path index new)
    (turn_on s (replace_plan path index old new) refl refl (keeps_edited own_request (Cow path index old new), tt) h) (λ n rn. leased_on req path index new n rn))
    (ended_on req refusals.Full s h)
replaced_on req path index old new (Err refusal) s h = ended_on req refusal s h

pub goes_on_on : (req : ReqId) (view : View) (waiting : Waiting) (s : State) → IsRolling s → GoesOn (goes_on s req view waiting)
unfolding goes_on
goes_on_on req view (waits.Extend path chunk) s h = edit_on s req (AddChunk path chunk) (answers.Location chunk view s.durable.epoch) (changes.Place chunk ∷ []) (edited_names (AddChunk path chunk) s.durable.names) h
goes_on_on req view (waits.Lease path index chunk) s h = ended_with_on req (answers.Location chunk view s.durable.epoch) s h
goes_on_on req view (waits.Quiet path index chunk) s h = copied_on req path index chunk s h
goes_on_on req view (waits.Copy path index old new) s h = replaced_on req path index old new (edited_names (Cow path index old new) s.durable.names) s h
goes_on_on req view (waits.Snapshot from to) s h =
    either_on (list_all (is_quiet_at s) (source_chunks s from)) (ended_by_edit s req (Snapshot from to) answers.Nothing []) (unmoved s)
    (edit_on s req (Snapshot from to) answers.Nothing [] (edited_names (Snapshot from to) s.durable.names) h) (stands_still s h)
goes_on_on req view (waits.Replicate chunk target) s h =
    either_on (is_member view.members target) (ended_with s req (answers.Copied (Some (record { handle = chunk; server = target })))) (ended_by s req refusals.NoReplica)
    (ended_with_on req (answers.Copied (Some (record { handle = chunk; server = target }))) s h) (ended_on req refusals.NoReplica s h)

-- ---- settling

grants_none : (chunk : ℕ) (view : View) (term : Option Term) → list_any is_drop_message (grant_of chunk view term) ≡ false
grants_none chunk view None = refl
grants_none chunk view (Some term) = refl

settling_none : (b : Bool) (chunk : ℕ) (target : Option ℕ) (view : View) → list_any is_proposal (holder_records b chunk target ++ Settle (record { handle = chunk; view = view }) ∷ []) ≡ false
settling_none true chunk None view = refl
settling_none true chunk (Some target) view = refl
settling_none false chunk None view = refl
settling_none false chunk (Some target) view = refl

settling_keep : (b : Bool) (chunk : ℕ) (target : Option ℕ) (view : View) → AllKeep (holder_records b chunk target ++ Settle (record { handle = chunk; view = view }) ∷ [])
settling_keep true chunk None view = (keeps_settle _, tt)
settling_keep true chunk (Some target) view = (keeps_holder chunk target, (keeps_settle _, tt))
settling_keep false chunk None view = (keeps_settle _, tt)
settling_keep false chunk (Some target) view = (keeps_settle _, tt)

all_refused_on : (chunk : ℕ) (call : Option ReqId) (refusal : Refusal) (s : State) → IsRolling s → GoesOn (all_refused s chunk call refusal)
all_refused_on chunk call refusal s h = all_ended_on (requests_of (concerned s chunk call)) refusal s h

all_go_on_on : (view : View) (pending : List Pending) (s : State) → IsRolling s → GoesOn (all_go_on view pending s)
all_go_on_on view pending s h = each_on pending (λ (p : Pending) next. goes_on next p.req view p.waits) (λ p next r. goes_on_on p.req view p.waits next r) s h

settled_on_on : (chunk : ℕ) (asking : Asking) (carried : Bool) (view : View) (s : State) → IsRolling s → GoesOn (settled_on s chunk asking carried view)
settled_on_on chunk asking carried view s h =
    let records = settling s.durable.phase (prepared_view s.durable chunk) carried chunk asking view in
    let holds = is_holder s.durable.phase (prepared_view s.durable chunk) carried asking view in
    either_on (fits s.log records) (and_then (turned s (settle_plan records chunk view)) (all_go_on view (concerned s chunk asking.call))) (all_refused s chunk asking.call refusals.Full)
    (then_on (turned s (settle_plan records chunk view)) (all_go_on view (concerned s chunk asking.call))
    (turn_on s (settle_plan records chunk view) (settling_none holds chunk (target_of asking.purpose) view) (grants_none chunk view view.term) (settling_keep holds chunk (target_of asking.purpose) view) h)
    (λ n rn. all_go_on_on view (concerned s chunk asking.call) n rn))
    (all_refused_on chunk asking.call refusals.Full s h)

settled_if_on : (chunk : ℕ) (asking : Asking) (carried : Bool) (view : Option View) (s : State) → IsRolling s → GoesOn (settled_if s chunk asking carried view)
settled_if_on chunk asking carried None s h = stands_still s h
settled_if_on chunk asking carried (Some view) s h = settled_on_on chunk asking carried view s h

pub settled_by_on : (chunk : ℕ) (c : Chunk) (asking : Asking) (carried : Bool) (by : Poll) (moment : Moment) (s : State) → IsRolling s → GoesOn (settled_by s chunk c asking carried by moment)
unfolding settled_by
settled_by_on chunk c asking carried by moment s h = settled_if_on chunk asking carried (view_by c asking by moment) s h

failed_on : (chunk : ℕ) (call : Option ReqId) (s : State) → IsRolling s → GoesOn (failed s chunk call)
failed_on chunk call s h = all_refused_on chunk call refusals.NoReplica s h

-- ---- messages of servers

stepped_on : (chunk : ℕ) (c : Chunk) (asking : Asking) (carried : Bool) (moment : Moment) (step : Step) (s : State) → IsRolling s → GoesOn (stepped s chunk c asking carried moment step)
stepped_on chunk c asking carried moment steps.Wait s h = stands_still s h
stepped_on chunk c asking carried moment (steps.Send source target) s h =
    turn_on s (send_plan chunk asking source target (is_with_sealed s.durable.phase (prepared_view s.durable chunk) source)) refl refl tt h
stepped_on chunk c asking carried moment (steps.Settle by) s h = settled_by_on chunk c asking carried by moment s h
stepped_on chunk c asking carried moment steps.Fail s h = failed_on chunk asking.call s h

heard_on : (chunk : ℕ) (c : Chunk) (asking : Asking) (carried : Bool) (moment : Moment) (step : Step) (s : State) → IsRolling s → GoesOn (heard s chunk c asking carried moment step)
heard_on chunk c asking carried moment step s h =
    then_on (turned s (ask_plan chunk asking)) (λ next. stepped next chunk c asking carried moment step) (turn_on s (ask_plan chunk asking) refl refl tt h) (λ n rn. stepped_on chunk c asking carried moment step n rn)

promised_for_on : (server chunk : ℕ) (stamp : Stamp) (count : ℕ) (carried : Bool) (moment : Moment) (c : Chunk) (asking : Option Asking) (s : State) → IsRolling s → GoesOn (promised_for s server chunk stamp count carried moment c asking)
promised_for_on server chunk stamp count carried moment c None s h = stands_still s h
promised_for_on server chunk stamp count carried moment c (Some asking) s h =
    either_on (hears asking stamp server) (heard s chunk c (heard_yes asking server count) (carried && is_target asking server) moment (step_of_yes asking server count)) (unmoved s)
    (heard_on chunk c (heard_yes asking server count) (carried && is_target asking server) moment (step_of_yes asking server count) s h) (stands_still s h)

promised_at_on : (server chunk : ℕ) (stamp : Stamp) (count : ℕ) (carried : Bool) (moment : Moment) (c : Option Chunk) (s : State) → IsRolling s → GoesOn (promised_at s server chunk stamp count carried moment c)
promised_at_on server chunk stamp count carried moment None s h = stands_still s h
promised_at_on server chunk stamp count carried moment (Some c) s h = promised_for_on server chunk stamp count carried moment c c.asking s h

unpromised_for_on : (server chunk : ℕ) (stamp : Stamp) (moment : Moment) (c : Chunk) (asking : Option Asking) (s : State) → IsRolling s → GoesOn (unpromised_for s server chunk stamp moment c asking)
unpromised_for_on server chunk stamp moment c None s h = stands_still s h
unpromised_for_on server chunk stamp moment c (Some asking) s h =
    either_on (hears asking stamp server) (heard s chunk c (heard_no asking server) false moment (step_of_no asking server)) (unmoved s)
    (heard_on chunk c (heard_no asking server) false moment (step_of_no asking server) s h) (stands_still s h)

unpromised_at_on : (server chunk : ℕ) (stamp : Stamp) (moment : Moment) (c : Option Chunk) (s : State) → IsRolling s → GoesOn (unpromised_at s server chunk stamp moment c)
unpromised_at_on server chunk stamp moment None s h = stands_still s h
unpromised_at_on server chunk stamp moment (Some c) s h = unpromised_for_on server chunk stamp moment c c.asking s h

sends_on : (messages : List Message) (s : State) → list_any is_drop_message messages ≡ false → IsRolling s → GoesOn (sends s messages)
sends_on messages s none h = record { still = record { records = refl; sent = none }; rolling = h }

end_told_none : (server epoch : ℕ) (end : Option EpochEnd) → list_any is_drop_message (end_told server epoch end) ≡ false
end_told_none server epoch None = refl
end_told_none server epoch (Some end) = refl

told_on : (server epoch : ℕ) (s : State) → IsRolling s → GoesOn (sends s (next_epoch s.durable server epoch))
told_on server epoch s h = sends_on (next_epoch s.durable server epoch) s (end_told_none server epoch (slice_get s.durable.ends epoch)) h

behind_on : (server epoch : ℕ) (s : State) → IsRolling s → GoesOn (behind s server epoch)
behind_on server epoch s h = either_on (nat_lt epoch s.durable.epoch) (sends s (next_epoch s.durable server epoch)) (unmoved s) (told_on server epoch s h) (stands_still s h)

learned_on : (server epoch : ℕ) (handles : List ℕ) (s : State) → IsRolling s → GoesOn (learned s server epoch handles)
learned_on server epoch handles s h =
    let plan : Plan = record { records = []; changes = changes.Restored server handles ∷ []; sent = []; said = None } in
    either_on (nat_lt epoch s.durable.epoch) (sends s (next_epoch s.durable server epoch)) (if is_rolling s.durable.phase && (epoch == s.durable.epoch) then turned s plan else unmoved s)
    (told_on server epoch s h)
    (either_on (is_rolling s.durable.phase && (epoch == s.durable.epoch)) (turned s plan) (unmoved s) (turn_on s plan refl refl tt h) (stands_still s h))

reported_on : (server epoch : ℕ) (replicas : List Reported) (s : State) → IsRolling s → GoesOn (reported s server epoch replicas)
reported_on server epoch replicas s h =
    either_on (nat_lt epoch s.durable.epoch) (sends s (next_epoch s.durable server epoch)) (if may_begin s.durable.phase && (epoch == s.durable.epoch) then reported_now s server replicas else unmoved s)
    (told_on server epoch s h) (rw h (stands_still s h))

damaged_on : (server chunk : ℕ) (s : State) → IsRolling s → GoesOn (damaged s server chunk)
damaged_on server chunk s h = rw h (stands_still s h)

renewed_on : (server chunk : ℕ) (stamp : Stamp) (moment : Moment) (s : State) → IsRolling s → GoesOn (renewed s server chunk stamp moment)
renewed_on server chunk stamp moment s h =
    either_on (is_leased_under stamp (chunk_at s chunk) && not s.volatile.is_preparing) (sends s (about chunk (chunks.Renewed stamp (end_of moment)) server ∷ [])) (unmoved s)
    (sends_on (about chunk (chunks.Renewed stamp (end_of moment)) server ∷ []) s refl h) (stands_still s h)

met_on : (refusal : Refusal) (s : State) → IsRolling s → GoesOn (met_by s refusal)
met_on refusal s h = record { still = record { records = refl; sent = refl }; rolling = h }

about_on : (server chunk : ℕ) (moment : Moment) (said : Said_of_chunk) (s : State) → IsRolling s → GoesOn (about_turn s server chunk moment said)
about_on server chunk moment (chunks.Promised stamp count carried) s h = promised_at_on server chunk stamp count carried moment (chunk_at s chunk) s h
about_on server chunk moment (chunks.Unpromised stamp refusal) s h = unpromised_at_on server chunk stamp moment (chunk_at s chunk) s h
about_on server chunk moment (chunks.Renew stamp) s h = renewed_on server chunk stamp moment s h
about_on server chunk moment (chunks.Bad stamp) s h = damaged_on server chunk s h
about_on server chunk moment said s h = met_on refusals.Stray s h

server_on : (server : ℕ) (moment : Moment) (said : Body) (s : State) → IsRolling s → GoesOn (server_turn s server moment said)
server_on server moment (bodies.About chunk said) s h = about_on server chunk moment said s h
server_on server moment (bodies.Report epoch replicas) s h = reported_on server epoch replicas s h
server_on server moment (bodies.Learned epoch handles) s h = learned_on server epoch handles s h
server_on server moment (bodies.Behind epoch) s h = behind_on server epoch s h
server_on server moment said s h = met_on refusals.Stray s h

-- ---- calls

refused_still : (req : ReqId) (refusal : Refusal) (s : State) → IsStill (refused s req refusal)
refused_still req refusal s = record { records = said_any (keeps_refusal s req refusal && fits s.log (Said req refusal ∷ [])) req refusal; sent = refl }

either_still : (b : Bool) (t u : Turn) → IsStill t → IsStill u → IsStill (if b then t else u)
either_still true t u a b = a
either_still false t u a b = b

replied_still : (req : ReqId) (result : Result Answer Refusal) (s : State) → IsStill (replied_again s req result)
replied_still req result s = record { records = refl; sent = refl }

unmoved_still : (s : State) → IsStill (unmoved s)
unmoved_still s = record { records = refl; sent = refl }

-- all but a query and the commit of the rollback are refused
refused_rolling : (failed preparing locked : Bool) (call : Call) → is_always_taken call ≡ false → is_some (first_of (ordered failed true preparing locked call)) ≡ true
refused_rolling true preparing locked call other = refl
refused_rolling false preparing locked call other = rw other refl

unless_still : (config : Config) (req : ReqId) (moment : Moment) (call : Call) (s : State) (refusal : Option Refusal) → is_some refusal ≡ true → IsStill (called_unless config s req moment call refusal)
unless_still config req moment call s None none = absurd (false≢true none)
unless_still config req moment call s (Some refusal) some = refused_still req refusal s

taken_still : (config : Config) (req : ReqId) (moment : Moment) (call : Call) (s : State) (refusal : Option Refusal) → IsStill (called config s req moment call) → IsStill (called_unless config s req moment call refusal)
taken_still config req moment call s None still = still
taken_still config req moment call s (Some refusal) still = refused_still req refusal s

queried_still : (req : ReqId) (s : State) → IsStill (queried s req)
queried_still req s = record { records = refl; sent = refl }

commit_if_still : (req : ReqId) (names : NamesView) (lacking : Option ℕ) (s : State) → IsStill (commit_if s req names lacking)
commit_if_still req names (Some chunk) s = refused_still req (refusals.Unrestored chunk) s
commit_if_still req names None s =
    let answers_now = answers_for (prepared_view s.durable) (told_of s) (fin.entries names.refs) in
    let plan : Plan = accepted_plan s req (RollbackCommit s.durable.epoch answers_now ∷ []) (changes.RolledBack ∷ []) [] s.durable.epoch in
    either_still (fits s.log (RollbackCommit s.durable.epoch answers_now ∷ [])) (turned s plan) (refused s req refusals.Full) (record { records = refl; sent = refl }) (refused_still req refusals.Full s)

commit_on_still : (req : ReqId) (names : Option NamesView) (s : State) → IsStill (commit_on s req names)
commit_on_still req None s = refused_still req refusals.BadLine s
commit_on_still req (Some names) s = commit_if_still req names (unrestored (prepared_view s.durable) (told_of s) (fin.entries names.refs)) s

rollback_commit_still : (req : ReqId) (s : State) → IsStill (rollback_commit s req)
rollback_commit_still req s =
    either_still (is_rolling s.durable.phase) (commit_on s req (all_undone s.durable.inverses s.durable.names)) (refused s req refusals.NotUpgrading)
    (commit_on_still req (all_undone s.durable.inverses s.durable.names) s) (refused_still req refusals.NotUpgrading s)

is_refused : (req : ReqId) (call : Call) (s : State) → IsRolling s → is_always_taken call ≡ false → is_some (refused_before s req call) ≡ true
is_refused req call s h other = rw h (refused_rolling (is_failed s.fault) s.volatile.is_preparing (is_locked s req call) call other)

new_still : (config : Config) (req : ReqId) (moment : Moment) (call : Call) (s : State) → IsRolling s → IsStill (new_call config s req moment call)
new_still config req moment calls.Query s h = taken_still config req moment calls.Query s (refused_before s req calls.Query) (queried_still req s)
new_still config req moment calls.RollbackCommit s h = taken_still config req moment calls.RollbackCommit s (refused_before s req calls.RollbackCommit) (rollback_commit_still req s)
new_still config req moment (calls.Mkdirs path) s h = unless_still config req moment (calls.Mkdirs path) s (refused_before s req (calls.Mkdirs path)) (is_refused req (calls.Mkdirs path) s h refl)
new_still config req moment (calls.Create path) s h = unless_still config req moment (calls.Create path) s (refused_before s req (calls.Create path)) (is_refused req (calls.Create path) s h refl)
new_still config req moment (calls.Rename from to) s h = unless_still config req moment (calls.Rename from to) s (refused_before s req (calls.Rename from to)) (is_refused req (calls.Rename from to) s h refl)
new_still config req moment (calls.Delete path recursive) s h = unless_still config req moment (calls.Delete path recursive) s (refused_before s req (calls.Delete path recursive)) (is_refused req (calls.Delete path recursive) s h refl)
new_still config req moment (calls.Undelete path) s h = unless_still config req moment (calls.Undelete path) s (refused_before s req (calls.Undelete path)) (is_refused req (calls.Undelete path) s h refl)
new_still config req moment (calls.Snapshot from to) s h = unless_still config req moment (calls.Snapshot from to) s (refused_before s req (calls.Snapshot from to)) (is_refused req (calls.Snapshot from to) s h refl)
new_still config req moment (calls.List path) s h = unless_still config req moment (calls.List path) s (refused_before s req (calls.List path)) (is_refused req (calls.List path) s h refl)
new_still config req moment (calls.Status path) s h = unless_still config req moment (calls.Status path) s (refused_before s req (calls.Status path)) (is_refused req (calls.Status path) s h refl)
new_still config req moment (calls.FindForReading path index) s h = unless_still config req moment (calls.FindForReading path index) s (refused_before s req (calls.FindForReading path index)) (is_refused req (calls.FindForReading path index) s h refl)
new_still config req moment (calls.FindForWriting path index stamp) s h = unless_still config req moment (calls.FindForWriting path index stamp) s (refused_before s req (calls.FindForWriting path index stamp)) (is_refused req (calls.FindForWriting path index stamp) s h refl)
new_still config req moment (calls.Extend path index) s h = unless_still config req moment (calls.Extend path index) s (refused_before s req (calls.Extend path index)) (is_refused req (calls.Extend path index) s h refl)
new_still config req moment calls.Scan s h = unless_still config req moment calls.Scan s (refused_before s req calls.Scan) (is_refused req calls.Scan s h refl)
new_still config req moment calls.Replicate s h = unless_still config req moment calls.Replicate s (refused_before s req calls.Replicate) (is_refused req calls.Replicate s h refl)
new_still config req moment calls.PrepareBegin s h = unless_still config req moment calls.PrepareBegin s (refused_before s req calls.PrepareBegin) (is_refused req calls.PrepareBegin s h refl)
new_still config req moment calls.PrepareCommit s h = unless_still config req moment calls.PrepareCommit s (refused_before s req calls.PrepareCommit) (is_refused req calls.PrepareCommit s h refl)
new_still config req moment calls.PrepareAbort s h = unless_still config req moment calls.PrepareAbort s (refused_before s req calls.PrepareAbort) (is_refused req calls.PrepareAbort s h refl)
new_still config req moment calls.Finalize s h = unless_still config req moment calls.Finalize s (refused_before s req calls.Finalize) (is_refused req calls.Finalize s h refl)
new_still config req moment calls.RollbackBegin s h = unless_still config req moment calls.RollbackBegin s (refused_before s req calls.RollbackBegin) (is_refused req calls.RollbackBegin s h refl)

taken_as_still : (config : Config) (req : ReqId) (moment : Moment) (call : Call) (how : Numbered) (s : State) → IsRolling s → IsStill (taken_as config s req moment call how)
taken_as_still config req moment call New s h = new_still config req moment call s h
taken_as_still config req moment call (Again result) s h = replied_still req result s
taken_as_still config req moment call Older s h = replied_still req (Err refusals.Old) s

call_still : (config : Config) (req : ReqId) (moment : Moment) (call : Call) (s : State) → IsRolling s → IsStill (call_turn config s req moment call)
call_still config req moment call s h =
    let taken = taken_as config s req moment call (numbered (last_reply s req.client) req.number) in
    let device = replied_still req (Err refusals.Device) s in
    either_still (is_unopened s.fault) (replied_again s req (Err refusals.Device)) (if is_pending s.volatile.pending req then waits_still s req else taken)
    device
    (either_still (is_pending s.volatile.pending req) (waits_still s req) taken
    (either_still (is_failed s.fault) (replied_again s req (Err refusals.Device)) (unmoved s) device (unmoved_still s))
    (taken_as_still config req moment call (numbered (last_reply s req.client) req.number) s h))

-- ---- messages

from_client_still : (config : Config) (moment : Moment) (said : Body) (s : State) → IsRolling s → IsStill (from_client config s moment said)
from_client_still config moment (bodies.Call req call) s h = call_still config req moment call s h
from_client_still config moment said s h = (met_on refusals.Stray s h).still

from_node_still : (config : Config) (moment : Moment) (said : Body) (from : NodeId) (s : State) → IsRolling s → IsStill (from_node config s moment said from)
from_node_still config moment said nodes.Master s h = (met_on refusals.Stray s h).still
from_node_still config moment said (nodes.Server server) s h =
    either_still (is_failed s.fault) (met_by s refusals.Device) (server_turn s server moment said) (met_on refusals.Device s h).still (server_on server moment said s h).still
from_node_still config moment said (nodes.Client client) s h = from_client_still config moment said s h

pub nothing_while_rolling : NothingWhileRolling
unfolding handle
nothing_while_rolling config s message moment h = from_node_still config moment message.body message.from s h

-- ---- ticks

pressed_if_on : (chunk : ℕ) (stamp : Stamp) (moment : Moment) (c : Chunk) (asking : Option Asking) (s : State) → IsRolling s → GoesOn (pressed_if s chunk stamp moment c asking)
pressed_if_on chunk stamp moment c None s h = stands_still s h
pressed_if_on chunk stamp moment c (Some asking) s h =
    either_on (is_same asking.stamp stamp) (stepped s chunk c asking false moment (step_at_tick asking)) (unmoved s) (stepped_on chunk c asking false moment (step_at_tick asking) s h) (stands_still s h)

pressed_at_on : (chunk : ℕ) (stamp : Stamp) (moment : Moment) (c : Option Chunk) (s : State) → IsRolling s → GoesOn (pressed_at s chunk stamp moment c)
pressed_at_on chunk stamp moment None s h = stands_still s h
pressed_at_on chunk stamp moment (Some c) s h = pressed_if_on chunk stamp moment c c.asking s h

view_none : (chunk : ℕ) (view : Option View) → list_any is_drop_message (granted_view chunk view) ≡ false
view_none chunk None = refl
view_none chunk (Some view) = grants_none chunk view view.term

if_none : (b : Bool) (messages : List Message) → list_any is_drop_message messages ≡ false → list_any is_drop_message (if b then messages else []) ≡ false
if_none true messages none = none
if_none false messages none = refl

granted_none : (chunk : ℕ) (c : Option Chunk) → list_any is_drop_message (granted_at chunk c) ≡ false
granted_none chunk None = refl
granted_none chunk (Some c) = if_none (is_leased c) (granted_view chunk (view_of c)) (view_none chunk (view_of c))

all_granted_none : (s : State) (many : List ℕ) → list_any is_drop_message (flat_map (λ chunk. granted_at chunk (chunk_at s chunk)) many) ≡ false
all_granted_none s [] = refl
all_granted_none s (chunk ∷ many) =
    any_both is_drop_message (granted_at chunk (chunk_at s chunk)) (flat_map (λ c. granted_at c (chunk_at s c)) many) (granted_none chunk (chunk_at s chunk)) (all_granted_none s many)

granted_on : (s : State) → IsRolling s → GoesOn (granted s)
granted_on s h = sends_on (flat_map (λ chunk. granted_at chunk (chunk_at s chunk)) (fin.keys s.durable.chunks)) s (all_granted_none s (fin.keys s.durable.chunks)) h

written_unless_on : (refusal : Option Refusal) (s : State) → IsRolling s → GoesOn (record (written_unless s refusal) { said = None })
written_unless_on None s h = record { still = record { records = refl; sent = refl }; rolling = h }
written_unless_on (Some refusal) s h = record { still = record { records = refl; sent = refl }; rolling = h }

written_if_due_on : (s : State) → IsRolling s → GoesOn (written_if_due s)
unfolding checkpoint
written_if_due_on s h =
    either_on (due s) (record (checkpoint s) { said = None }) (unmoved s)
    (written_unless_on (first_of (checkpoint_tests (is_failed s.fault) s.volatile.is_preparing s.log (checkpoint_body s.durable))) s h) (stands_still s h)

pub nothing_at_ticks : NothingAtTicks
unfolding tick
nothing_at_ticks s moment h =
    let press = for_each s (proposals s) (pressed moment) in
    either_still (is_failed s.fault) (met_by s refusals.Device) (and_then (and_then press granted) written_if_due) (met_on refusals.Device s h).still
    (then_on (and_then press granted) written_if_due
    (then_on press granted (each_on (proposals s) (pressed moment) (λ p n rn. pressed_at_on p.0 p.1 moment (chunk_at n p.0) n rn) s h) (λ n rn. granted_on n rn)) (λ n rn. written_if_due_on n rn)).still
