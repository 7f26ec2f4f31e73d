-- Each turn of the master while one snapshot waits, definition by definition.
use Rattle.std.proofs.Common.{◌==◌, ◌&&◌, ◌||◌, ◌+◌, ℕ, Bool, true, false, not, List, [], ◌∷◌, ap, length, map, filter}
use Rattle.std.specs.Prelude.{flat_map, is_none, nat_le, nat_lt, slice_get, Option, Some, None, Result, Ok, Err, if◌then◌else◌}
use Rattle.std.specs.List.{AllByRecursion, list_all, list_any}
use Rattle.std.specs.FinMap as fin
use Rattle.gs_base.specs.Members.{is_member}
use Rattle.gs_base.specs.Stamps.{is_same}
use Rattle.gs_base.specs.declared.config.Config.{Config}
use Rattle.gs_base.specs.declared.epoch.EpochEnd.{EpochEnd}
use Rattle.gs_base.specs.declared.epoch.EpochEnd.TheVariants as ends
use Rattle.gs_base.specs.declared.numbers.Moment.{Moment}
use Rattle.gs_base.specs.declared.numbers.ReqId.{ReqId}
use Rattle.gs_base.specs.declared.numbers.Stamp.{Stamp}
use Rattle.gs_base.specs.declared.refusal.Refusal.{Refusal}
use Rattle.gs_base.specs.declared.refusal.Refusal.TheVariants as refusals
use Rattle.gs_path.specs.Path.{Path}
use Rattle.gs_tree.specs.Edits.{hidden_path, old_name, same_path, target_of}
use Rattle.gs_tree.specs.Entry.{Entry, Dir, File}
use Rattle.gs_tree.specs.Find.{Rows}
use Rattle.gs_edit.specs.Edits.{edited}
use Rattle.gs_edit.specs.Plain.{unhide_target}
use Rattle.gs_edit.specs.View.{NamesView}
use Rattle.gs_edit.specs.declared.edit.Edit.TheVariants as edits
use Rattle.gs_lease.specs.Transitions.{end_of}
use Rattle.gs_lease.specs.declared.view.Purpose.{Purpose}
use Rattle.gs_lease.specs.declared.view.Purpose.TheVariants as purposes
use Rattle.gs_lease.specs.declared.view.View.{View}
use Rattle.gs_msg.specs.declared.answer.Answer.{Answer}
use Rattle.gs_msg.specs.declared.answer.Answer.TheVariants as answers
use Rattle.gs_msg.specs.declared.body.Body.{Body}
use Rattle.gs_msg.specs.declared.body.Body.TheVariants as bodies
use Rattle.gs_msg.specs.declared.body.Reported.{Reported}
use Rattle.gs_msg.specs.declared.call.Call.{Call}
use Rattle.gs_msg.specs.declared.call.Call.TheVariants as calls
use Rattle.gs_msg.specs.declared.chunk.Chunk.{Chunk as Said_of_chunk}
use Rattle.gs_msg.specs.declared.chunk.Chunk.TheVariants as chunks
use Rattle.gs_msg.specs.declared.message.Message.{Message}
use Rattle.gs_msg.specs.declared.node.NodeId.{NodeId}
use Rattle.gs_msg.specs.declared.node.NodeId.TheVariants as nodes
use Rattle.gs_place.specs.Needs.{most_needed_of}
use Rattle.gs_master_record.specs.Plain.{PlainEdit, PlainEntry, AddChunk, Cow, Create, Edited, Finalize, Hide, Mkdirs, Prepare, Rename, RollbackBegin, RollbackCommit, Snapshot, Unhide}
use Rattle.gs_master_spec.specs.Beginning.{all_begun, begin_at, begun, copy_plan, counted_views, create_plan, has_handle, has_versions, next_stamp, targets_for, waits_from_now, waits_on}
use Rattle.gs_master_spec.specs.Calls.{accept_plan, answered_with, deleted, edit_if, edited_by, found_chunk, has_visible_child, is_shared, listing, location, looked_up, most_chunks, refused_before, status, told_phase}
use Rattle.gs_master_spec.specs.Chunks.{Chunk, chunk_at, heard_no, heard_yes, hears, is_leased, is_quiet, is_target, is_wanted, may_begin, members_of, settling, step_at_tick, step_of_no, step_of_yes, view_by, view_of}
use Rattle.gs_master_spec.specs.Durable.{is_rolling, prepared_view}
use Rattle.gs_master_spec.specs.Handling.{Numbered, New, Again, Older, about_turn, call_turn, called, called_unless, from_client, from_node, granted, granted_at, granted_view, handle, numbered, pressed, pressed_at, pressed_if, proposals, replied_again, server_turn, taken_as, waits_still}
use Rattle.gs_master_spec.specs.Hearing.{ask_plan, drops, end_told, heard, is_leased_under, is_lost_at, is_stray, learned, lost, made_quiet, next_epoch, promised_at, promised_for, reported, reported_now, sends, stepped, unpromised_at, unpromised_for}
use Rattle.gs_master_spec.specs.Settling.{all_go_on, all_refused, concerned, copied, copied_where, edit_plan, edit_turn, ended_by_edit, ended_with, goes_on, if_room_for, is_quiet_at, leased_next, own_request, replace_plan, replaced_if, requests_of, settle_plan, settled_by, settled_if, settled_on, source_chunks, quiet_view_at}
use Rattle.gs_master_spec.specs.State.{Plan, State, Turn, about, all_ended_by, and_then, ended_by, first_of, fits, for_each, if_room, is_failed, is_unopened, last_reply, met_by, refused, reply_to, turned, unmoved}
use Rattle.gs_master_spec.specs.Undoing.{all_undone, edited_names}
use Rattle.gs_master_spec.specs.Upgrades.{accepted_plan, all_unquiet, answers_for, begin_tests, chunk_count, commit_if, commit_on, commit_tests, end_tests, finalize, is_last_epoch, prepare_begin, prepare_commit, rollback_begin, tell_all, told_of, unless, unrestored}
use Rattle.gs_master_spec.specs.Volatile.{is_pending}
use Rattle.gs_master_spec.specs.Working.{begin_pending, begins, begins_new, begins_snapshot, copied_on_write, created_on, extended_at, extends, forgotten_chunks, found_for_writing, is_wanted_at, leased, may_use, needs_of, removed_paths, replicated_to, replicates_chunk, replicates_most, scan_plan, scanned, snapshot_if, unquiet, waiting_for, written_at}
use Rattle.gs_master_spec.specs.declared.asking.Asking.{Asking}
use Rattle.gs_master_spec.specs.declared.asking.Step.{Step}
use Rattle.gs_master_spec.specs.declared.asking.Step.TheVariants as steps
use Rattle.gs_master_spec.specs.declared.change.Change.{Change}
use Rattle.gs_master_spec.specs.declared.change.Change.TheVariants as changes
use Rattle.gs_master_spec.specs.declared.pending.Pending.{Pending}
use Rattle.gs_master_spec.specs.declared.pending.Waiting.{Waiting}
use Rattle.gs_master_spec.specs.declared.pending.Waiting.TheVariants as waits
use Rattle.gs_view.specs.declared.poll.Poll.{Poll}
use Rattle.std.proofs.Common.{◌≡◌, ◌⊎◌, ◌++◌, inl, inr, refl, cond, subst, sym, append_assoc}
use Rattle.gs_master_spec.specs.Handling.{refusal_in}
use Rattle.gs_master_spec.specs.Outcomes.{caller_of}
use Rattle.gs_master_spec.specs.Settling.{is_copied_by}
use Rattle.gs_master_spec.specs.State.{answered, end_changes, refusal_plan}
use Rattle.gs_master_spec.specs.Hearing.{is_with_sealed, send_plan}
use Rattle.gs_master_spec.specs.Settling.{end_plan}
use Rattle.gs_master_spec.specs.Upgrades.{prepare_abort}
use Rattle.gs_master_spec.specs.Volatile.{is_call}
use Rattle.gs_master_spec.specs.Working.{replicated_to, waits_for_any}
use Rattle.gs_laws_moves.proofs.lemmas.answers.Kept.{AllIn, AreChanges}
use Rattle.gs_laws_moves.proofs.lemmas.answers.Plans.{AreEntries, PlanSo, SaidSo, accept_so, accepted_so, all_told, answered_so, ask_so, begin_so, both_so, copy_so, create_so, edit_so, end_plan_so, ended_so, granted_none, pending_so, refusal_so, replace_so, scan_so, send_so, settle_so, waits_further, waits_now}
use Rattle.gs_laws_moves.proofs.lemmas.answers.Answering.{pick}
use Rattle.gs_laws_plain.specs.commands.Answers.{is_refused_by_store}
use Rattle.gs_master_record.specs.Plain.{Said}
use Rattle.gs_master_spec.specs.State.{Log, answer_changes, keeps_refusal, kept_in_memory, said_changes, said_records}
use Rattle.gs_master_spec.specs.Replies.{is_later}
use Rattle.gs_master_spec.specs.Volatile.{all_changed, let_go, let_go_of, without_call}
use Rattle.gs_laws_plain.proofs.lemmas.replies.Plainly.{IsPlainCopy, copies_plainly, refused_plainly}
use Rattle.gs_laws_plain.proofs.lemmas.replies.Waiting as turns
use Rattle.gs_laws_plain.proofs.lemmas.replies.Waiting.{Away, EndsOther, Here, Others, answered_then, end_away, ends_then, part_here, planned, so_of, still, then_answered, then_comes, then_silent, then_so, then_stays}
use Rattle.gs_laws_plain.specs.replies.Waited.{IsMadeBy}

requests_so : (P : ReqId → Type 0) (ps : List Pending) → AllIn P ps → AllByRecursion P (requests_of ps)
requests_so P [] all = tt
requests_so P (p ∷ ps) all = (all.0, requests_so P ps all.1)

some_so : (P : ReqId → Type 0) (f : Pending → Bool) (ps : List Pending) → AllIn P ps → AllIn P (filter f ps)
some_so P f [] all = tt
some_so P f (p ∷ ps) all = by_test (f p) (some_so P f ps all.1)
  where
    by_test : (b : Bool) → AllIn P (filter f ps) → AllIn P (cond b (p ∷ filter f ps) (filter f ps))
    by_test true rest = (all.0, rest)
    by_test false rest = rest

module _ (own : ReqId) (source place : Path) where
  abbrev P : ReqId → Type 0
  P = Others own

  abbrev Stays : State → Turn → Type 0
  Stays s t = turns.Stays own source place s t

  abbrev So : State → Turn → Type 0
  So s t = turns.So own source place s t

  abbrev Comes : State → Turn → Type 0
  Comes s t = turns.Comes own source place s t

  abbrev Ends : State → Turn → Type 0
  Ends s t = turns.Ends own source place s t

  abbrev EndsNone : List Change → Type 0
  EndsNone cs = AllByRecursion (EndsOther own) cs

  nothing : (s : State) (said : Option Refusal) → Stays s (record { after = s; records = []; sent = []; said = said })
  nothing s said = still own source place s [] said tt

  nothing_so : (s : State) (said : Option Refusal) → So s (record { after = s; records = []; sent = []; said = said })
  nothing_so s said = so_of own source place s (record { after = s; records = []; sent = []; said = said }) (nothing s said)

  still_so : (s : State) (messages : List Message) (said : Option Refusal) → SaidSo P messages → So s (record { after = s; records = []; sent = messages; said = said })
  still_so s messages said so = so_of own source place s (record { after = s; records = []; sent = messages; said = said }) (still own source place s messages said so)

  planned_so : (s : State) (plan : Plan) → PlanSo P plan → EndsNone plan.changes → So s (turned s plan)
  planned_so s plan so none = so_of own source place s (turned s plan) (planned own source place s plan so none)

  -- ---- which calls changes end

  kept_ends : (b : Bool) (req : ReqId) (result : Result Answer Refusal) → EndsNone (if b then kept_in_memory req result ∷ [] else [])
  kept_ends true req result = (tt, tt)
  kept_ends false req result = tt

  answer_ends : (s : State) (req : ReqId) (answer : Answer) → EndsNone (answer_changes s req answer)
  answer_ends s req answer = kept_ends (is_later (last_reply s req.client) req.number) req (Ok answer)

  said_ends : (s : State) (req : ReqId) (refusal : Refusal) (further : List Change) → EndsNone further → EndsNone (said_changes (keeps_refusal s req refusal) s.log req refusal ++ further)
  said_ends s req refusal further none = both_so _ (said_changes (keeps_refusal s req refusal) s.log req refusal) further (kept_ends (keeps_refusal s req refusal && not (fits s.log (Said req refusal ∷ []))) req (Err refusal)) none

  let_go_ends : (new : List ℕ) (req : ReqId) (es : List (ℕ × Asking)) → EndsNone (flat_map (let_go_of new req) es)
  let_go_ends new req [] = tt
  let_go_ends new req (e ∷ es) = both_so _ (let_go_of new req e) (flat_map (let_go_of new req) es) (by_tests (is_call req e.1.call) (is_member new e.0)) (let_go_ends new req es)
    where
      by_tests : (c n : Bool) → EndsNone (if not c then [] else if n then changes.Lose e.0 ∷ [] else changes.Ask e.0 (without_call e.1) ∷ [])
      by_tests false n = tt
      by_tests true true = (tt, tt)
      by_tests true false = (tt, tt)

  end_ends : (s : State) (req : ReqId) → P req → EndsNone (end_changes s req)
  end_ends s req is = both_so _ (let_go s.volatile req) (changes.End req ∷ []) (let_go_ends s.volatile.unplaced req (fin.entries s.volatile.moving)) (is, tt)

  -- ---- turns of others

  begun_so : (s : State) (chunk : ℕ) (purpose : Purpose) (call : Option ReqId) → Stays s (begun s chunk purpose call)
  begun_so s chunk purpose call = planned own source place s (begin_at s chunk purpose call) (begin_so P s chunk purpose call) (tt, tt)

  all_begun_so : (many : List ℕ) (purpose : Purpose) (call : Option ReqId) (s : State) → Stays s (all_begun s many purpose call)
  all_begun_so [] purpose call s = nothing s None
  all_begun_so (chunk ∷ many) purpose call s =
      let first = begun_so s chunk purpose call in then_stays own source place s (begun s chunk purpose call) (λ next. all_begun next many purpose call) first (all_begun_so many purpose call (begun s chunk purpose call).after)

  -- ---- one request

  module _ (req : ReqId) (is : P req) where
    refused_turn : (s : State) (refusal : Refusal) → Stays s (refused s req refusal)
    refused_turn s refusal = planned own source place s (refusal_plan s req refusal [] (Some refusal)) (refusal_so P req is s refusal [] (Some refusal) tt) (said_ends s req refusal [] tt)

    ended_turn : (s : State) (refusal : Refusal) → Stays s (ended_by s req refusal)
    ended_turn s refusal = planned own source place s (refusal_plan s req refusal (end_changes s req) None) (ended_so P req is s refusal) (said_ends s req refusal (end_changes s req) (end_ends s req is))

    room_so : (s : State) (t : Turn) → Stays s t → Stays s (if_room s t (refused s req refusals.Full))
    room_so s t a = pick (Stays s) (fits s.log t.records) t (refused s req refusals.Full) a (refused_turn s refusals.Full)

    for_room_so : (s : State) (t : Turn) → Stays s t → Stays s (if_room_for s req t)
    for_room_so s t a = pick (Stays s) (fits s.log t.records) t (ended_by s req refusals.Full) a (ended_turn s refusals.Full)

    replied_so : (s : State) (result : Result Answer Refusal) → Stays s (replied_again s req result)
    replied_so s result = still own source place s (reply_to req result ∷ []) (refusal_in result) (is, tt)

    -- ---- calls of the tree

    edit_if_so : (s : State) (edit : PlainEdit) (answer : Answer) (names : Result NamesView Refusal) → Stays s (edit_if s req edit answer names)
    edit_if_so s edit answer (Ok names) = room_so s (turned s (accept_plan req edit answer)) (planned own source place s (accept_plan req edit answer) (accept_so P req is edit answer) tt)
    edit_if_so s edit answer (Err refusal) = refused_turn s refusal

    edited_so : (s : State) (edit : PlainEdit) (answer : Answer) → Stays s (edited_by s req edit answer)
    edited_so s edit answer = edit_if_so s edit answer (edited_names edit s.durable.names)

    answered_turn : (s : State) (answer : Answer) → Stays s (answered_with s req answer)
    answered_turn s answer = planned own source place s (answered s req answer) (answered_so P req is s answer) (answer_ends s req answer)

    looked_so : (s : State) (result : Result Answer Refusal) → Stays s (looked_up s req result)
    looked_so s (Ok answer) = answered_turn s answer
    looked_so s (Err refusal) = refused_turn s refusal

    deleted_so : (s : State) (path : Path) (recursive : Bool) (moment : Moment) → Stays s (deleted s req path recursive moment)
    deleted_so s path recursive moment =
        let hides = edited_by s req (Hide path moment.0 s.durable.next_hidden) (answers.Path (hidden_path path moment.0 s.durable.next_hidden)) in
        let third = if s.durable.next_hidden == 0 then refused s req refusals.Exhausted else hides in
        let second = if not recursive && has_visible_child (fin.entries s.durable.names.tree) path then refused s req refusals.NotEmpty else third in
        let first = if is_none (fin.get s.durable.names.tree path) then answered_with s req answers.Absent else second in
        pick (Stays s) (same_path path []) (refused s req refusals.IsRoot) first (refused_turn s refusals.IsRoot)
        (pick (Stays s) (is_none (fin.get s.durable.names.tree path)) (answered_with s req answers.Absent) second (answered_turn s answers.Absent)
        (pick (Stays s) (not recursive && has_visible_child (fin.entries s.durable.names.tree) path) (refused s req refusals.NotEmpty) third (refused_turn s refusals.NotEmpty)
        (pick (Stays s) (s.durable.next_hidden == 0) (refused s req refusals.Exhausted) hides (refused_turn s refusals.Exhausted)
        (edited_so s (Hide path moment.0 s.durable.next_hidden) (answers.Path (hidden_path path moment.0 s.durable.next_hidden))))))

    -- ---- calls that begin views

    begins_so : (s : State) (plan : Plan) (waiting : Waiting) → PlanSo P plan → EndsNone plan.changes → Stays s (begins s req plan waiting)
    begins_so s plan waiting so none =
        pick (Stays s) (not (has_versions s.durable 1)) (refused s req refusals.Exhausted) (if_room s (turned s (waits_from_now plan req waiting)) (refused s req refusals.Full)) (refused_turn s refusals.Exhausted)
        (room_so s (turned s (waits_from_now plan req waiting)) (planned own source place s (waits_from_now plan req waiting) (waits_now P req is plan waiting so) (both_so _ plan.changes (changes.Begin (record { req = req; waits = waiting }) ∷ []) none (tt, tt))))

    begins_new_so : (s : State) (plan : Plan) (waiting : Waiting) → PlanSo P plan → EndsNone plan.changes → Stays s (begins_new s req plan waiting)
    begins_new_so s plan waiting so none = pick (Stays s) (not (has_handle s.durable)) (refused s req refusals.Exhausted) (begins s req plan waiting) (refused_turn s refusals.Exhausted) (begins_so s plan waiting so none)

    leased_so : (s : State) (path : Path) (index : ℕ) (stamp : Option Stamp) (moment : Moment) (chunk : ℕ) (c : Chunk) → Stays s (leased s req path index stamp moment chunk c)
    leased_so s path index stamp moment chunk c =
        let begin = begins s req (begin_at s chunk purposes.Lease (Some req)) (waits.Lease path index chunk) in
        pick (Stays s) (is_leased c && may_use stamp moment (view_of c)) (looked_up s req (location s.durable (Ok chunk))) (if is_wanted c then refused s req refusals.Locked else begin)
        (looked_so s (location s.durable (Ok chunk)))
        (pick (Stays s) (is_wanted c) (refused s req refusals.Locked) begin (refused_turn s refusals.Locked)
        (begins_so s (begin_at s chunk purposes.Lease (Some req)) (waits.Lease path index chunk) (begin_so P s chunk purposes.Lease (Some req)) (tt, tt)))

    copied_on_write_so : (s : State) (path : Path) (index chunk : ℕ) (c : Chunk) (view : Option View) → Stays s (copied_on_write s req path index chunk c view)
    copied_on_write_so s path index chunk c None = refused_turn s refusals.NoReplica
    copied_on_write_so s path index chunk c (Some view) =
        let copy = begins_new s req (copy_plan (next_stamp s.durable) chunk view s.durable.next_handle req) (waits.Copy path index chunk s.durable.next_handle) in
        let quiet = begins s req (begin_at s chunk purposes.Quiet (Some req)) (waits.Quiet path index chunk) in
        pick (Stays s) (is_wanted c) (refused s req refusals.Locked) (if is_quiet c then copy else quiet) (refused_turn s refusals.Locked)
        (pick (Stays s) (is_quiet c) copy quiet
        (begins_new_so s (copy_plan (next_stamp s.durable) chunk view s.durable.next_handle req) (waits.Copy path index chunk s.durable.next_handle) (copy_so P (next_stamp s.durable) chunk view s.durable.next_handle req) (tt, (tt, tt)))
        (begins_so s (begin_at s chunk purposes.Quiet (Some req)) (waits.Quiet path index chunk) (begin_so P s chunk purposes.Quiet (Some req)) (tt, tt)))

    written_so : (s : State) (path : Path) (index : ℕ) (stamp : Option Stamp) (moment : Moment) (chunk : ℕ) (c : Option Chunk) → Stays s (written_at s req path index stamp moment chunk c)
    written_so s path index stamp moment chunk None = refused_turn s refusals.NoReplica
    written_so s path index stamp moment chunk (Some c) =
        pick (Stays s) (is_shared s.durable.names chunk) (copied_on_write s req path index chunk c (view_of c)) (leased s req path index stamp moment chunk c)
        (copied_on_write_so s path index chunk c (view_of c)) (leased_so s path index stamp moment chunk c)

    found_so : (s : State) (path : Path) (index : ℕ) (stamp : Option Stamp) (moment : Moment) (chunk : Result ℕ Refusal) → Stays s (found_for_writing s req path index stamp moment chunk)
    found_so s path index stamp moment (Err refusal) = refused_turn s refusal
    found_so s path index stamp moment (Ok chunk) = written_so s path index stamp moment chunk (chunk_at s chunk)

    created_so : (s : State) (path : Path) (targets : Option (List ℕ)) → Stays s (created_on s req path targets)
    created_so s path None = refused_turn s refusals.NoServer
    created_so s path (Some targets) =
        begins_new_so s (create_plan (next_stamp s.durable) s.durable.next_handle targets req) (waits.Extend path s.durable.next_handle) (create_so P (next_stamp s.durable) s.durable.next_handle targets req) (tt, (tt, tt))

    extended_at_so : (config : Config) (s : State) (path : Path) (chunks : List ℕ) (index : ℕ) → Stays s (extended_at config s req path chunks index)
    extended_at_so config s path chunks index =
        let makes = created_on s req path (targets_for config (counted_views s) [] config.replicas) in
        pick (Stays s) (nat_lt index (length chunks)) (looked_up s req (location s.durable (found_chunk (Some (File chunks)) index)))
        (if nat_lt (length chunks) index || nat_le most_chunks index then refused s req refusals.Range else makes)
        (looked_so s (location s.durable (found_chunk (Some (File chunks)) index)))
        (pick (Stays s) (nat_lt (length chunks) index || nat_le most_chunks index) (refused s req refusals.Range) makes (refused_turn s refusals.Range)
        (created_so s path (targets_for config (counted_views s) [] config.replicas)))

    extends_so : (config : Config) (s : State) (path : Path) (index : ℕ) (entry : Option (Entry ℕ)) → Stays s (extends config s req path index entry)
    extends_so config s path index None = refused_turn s refusals.NotFound
    extends_so config s path index (Some Dir) = refused_turn s refusals.IsADirectory
    extends_so config s path index (Some (File chunks)) = extended_at_so config s path chunks index

    begins_snapshot_so : (s : State) (from to : Path) (many : List ℕ) → Stays s (begins_snapshot s req from to many)
    begins_snapshot_so s from to [] = edited_so s (Snapshot from to) answers.Nothing
    begins_snapshot_so s from to (chunk ∷ chunks) =
        let wait = turned s (begin_pending req (waits.Snapshot from to)) in
        let begin : State → Turn = λ next. all_begun next (chunk ∷ chunks) purposes.Quiet (Some req) in
        let all = if_room s (and_then wait begin) (refused s req refusals.Full) in
        let first = planned own source place s (begin_pending req (waits.Snapshot from to)) (pending_so P req is (waits.Snapshot from to)) (tt, tt) in
        pick (Stays s) (list_any (is_wanted_at s) (chunk ∷ chunks)) (refused s req refusals.Locked)
        (if not (has_versions s.durable (length (chunk ∷ chunks))) then refused s req refusals.Exhausted else all)
        (refused_turn s refusals.Locked)
        (pick (Stays s) (not (has_versions s.durable (length (chunk ∷ chunks)))) (refused s req refusals.Exhausted) all (refused_turn s refusals.Exhausted)
        (room_so s (and_then wait begin) (then_stays own source place s wait begin first (all_begun_so (chunk ∷ chunks) purposes.Quiet (Some req) wait.after))))

    snapshot_if_so : (s : State) (from to : Path) (rows : Result (Rows ℕ) Refusal) → Stays s (snapshot_if s req from to rows)
    snapshot_if_so s from to (Ok rows) = begins_snapshot_so s from to (unquiet s from)
    snapshot_if_so s from to (Err refusal) = refused_turn s refusal

    replicated_to_so : (s : State) (chunk : ℕ) (targets : Option (List ℕ)) → Stays s (replicated_to s req chunk targets)
    replicated_to_so s chunk None = refused_turn s refusals.NoServer
    replicated_to_so s chunk (Some []) = refused_turn s refusals.NoServer
    replicated_to_so s chunk (Some (target ∷ targets)) =
        begins_so s (begin_at s chunk (purposes.Copy target) (Some req)) (waits.Replicate chunk target) (begin_so P s chunk (purposes.Copy target) (Some req)) (tt, tt)

    replicates_so : (config : Config) (s : State) (chunk : ℕ) (c : Option Chunk) → Stays s (replicates_chunk config s req chunk c)
    replicates_so config s chunk None = refused_turn s refusals.NoReplica
    replicates_so config s chunk (Some c) =
        pick (Stays s) (is_wanted c) (refused s req refusals.Locked) (replicated_to s req chunk (targets_for config (counted_views s) (members_of c) 1)) (refused_turn s refusals.Locked)
        (replicated_to_so s chunk (targets_for config (counted_views s) (members_of c) 1))

    most_so : (config : Config) (s : State) (chunk : Option ℕ) → Stays s (replicates_most config s req chunk)
    most_so config s None = answered_turn s (answers.Copied None)
    most_so config s (Some chunk) = replicates_so config s chunk (chunk_at s chunk)

  all_ended_so : (reqs : List ReqId) (refusal : Refusal) (s : State) → AllByRecursion P reqs → Stays s (all_ended_by s reqs refusal)
  all_ended_so [] refusal s all = nothing s None
  all_ended_so (req ∷ reqs) refusal s all =
      let first = ended_turn req all.0 s refusal in then_stays own source place s (ended_by s req refusal) (λ next. all_ended_by next reqs refusal) first (all_ended_so reqs refusal (ended_by s req refusal).after all.1)

  -- ---- several calls that have waited, and this isn't among them

  -- a scan ends no snapshot
  scan_away : (forgotten : List ℕ) (ps : List Pending) → Here own source place ps → Away own (filter (λ (p : Pending). waits_for_any forgotten p.waits) ps)
  scan_away forgotten [] here = absurd here
  scan_away forgotten (p ∷ ps) (inl first) = subst (λ (q : Pending). Away own (cond (waits_for_any forgotten q.waits) (q ∷ filter (λ (r : Pending). waits_for_any forgotten r.waits) ps) (filter (λ (r : Pending). waits_for_any forgotten r.waits) ps))) (sym first.0) (some_so P (λ (q : Pending). waits_for_any forgotten q.waits) ps first.1)
  scan_away forgotten (p ∷ ps) (inr more) = by_test (waits_for_any forgotten p.waits) (scan_away forgotten ps more.1)
    where
      rest : List Pending
      rest = filter (λ (q : Pending). waits_for_any forgotten q.waits) ps

      by_test : (b : Bool) → Away own (filter (λ (q : Pending). waits_for_any forgotten q.waits) ps) → Away own (cond b (p ∷ filter (λ (q : Pending). waits_for_any forgotten q.waits) ps) (filter (λ (q : Pending). waits_for_any forgotten q.waits) ps))
      by_test true away = (more.0, away)
      by_test false away = away

  module _ (req : ReqId) (is : P req) where
    scanned_with : (s : State) (removed : List Path) (forgotten : List ℕ) → Away own (filter (λ (p : Pending). waits_for_any forgotten p.waits) s.volatile.pending) → Stays s (scanned s req removed forgotten)
    scanned_with s removed forgotten others =
        let scan = turned s (scan_plan removed forgotten) in
        let ended : State → Turn = λ next. all_ended_by next (waiting_for s forgotten) refusals.NoReplica in
        let answer : State → Turn = λ next. answered_with next req (answers.Scanned (length removed) (length forgotten)) in
        let first = planned own source place s (scan_plan removed forgotten) (scan_so P (req, is) removed forgotten) (tt, tt) in
        let waiting = requests_so P (filter (λ (p : Pending). waits_for_any forgotten p.waits) s.volatile.pending) others in
        let second = then_stays own source place s scan ended first (all_ended_so (waiting_for s forgotten) refusals.NoReplica scan.after waiting) in
        room_so req is s (and_then (and_then scan ended) answer)
        (then_stays own source place s (and_then scan ended) answer second (answered_turn req is (and_then scan ended).after (answers.Scanned (length removed) (length forgotten))))

    scanned_so : (s : State) (removed : List Path) (forgotten : List ℕ) → Stays s (scanned s req removed forgotten)
    scanned_so s removed forgotten = record {
      away = λ w. (scanned_with s removed forgotten (some_so P (λ (p : Pending). waits_for_any forgotten p.waits) s.volatile.pending w)).away w;
      here = λ h. (scanned_with s removed forgotten (scan_away forgotten s.volatile.pending h)).here h;
    }

  module _ (req : ReqId) (is : P req) where
    -- ---- how a call that has waited goes on

    leased_next_so : (path : Path) (index chunk : ℕ) (s : State) → Stays s (leased_next req path index chunk s)
    leased_next_so path index chunk s =
        let plan : Plan = waits_on (begin_at s chunk purposes.Lease (Some req)) req (waits.Lease path index chunk) in
        let begin = if_room_for s req (turned s plan) in
        pick (Stays s) (not (may_begin s.durable.phase)) (ended_by s req refusals.RollingBack) (if not (has_versions s.durable 1) then ended_by s req refusals.Exhausted else begin) (ended_turn req is s refusals.RollingBack)
        (pick (Stays s) (not (has_versions s.durable 1)) (ended_by s req refusals.Exhausted) begin (ended_turn req is s refusals.Exhausted)
        (for_room_so req is s (turned s plan) (planned own source place s plan (waits_further P req is (begin_at s chunk purposes.Lease (Some req)) (waits.Lease path index chunk) (begin_so P s chunk purposes.Lease (Some req))) (tt, (tt, tt)))))

    where_so : (s : State) (path : Path) (index old : ℕ) (quiet : Option View) → Stays s (copied_where s req path index old quiet)
    where_so s path index old None = ended_turn req is s refusals.NoReplica
    where_so s path index old (Some view) =
        let copy = copy_plan (next_stamp s.durable) old view s.durable.next_handle req in
        let plan : Plan = waits_on copy req (waits.Copy path index old s.durable.next_handle) in
        for_room_so req is s (turned s plan) (planned own source place s plan (waits_further P req is copy (waits.Copy path index old s.durable.next_handle) (copy_so P (next_stamp s.durable) old view s.durable.next_handle req)) (tt, (tt, (tt, tt))))

    copied_so : (s : State) (path : Path) (index old : ℕ) → Stays s (copied s req path index old)
    copied_so s path index old =
        let copy = copied_where s req path index old (quiet_view_at s old) in
        let left = has_handle s.durable && has_versions s.durable 1 in
        pick (Stays s) (not (may_begin s.durable.phase)) (ended_by s req refusals.RollingBack) (if not left then ended_by s req refusals.Exhausted else copy) (ended_turn req is s refusals.RollingBack)
        (pick (Stays s) (not left) (ended_by s req refusals.Exhausted) copy (ended_turn req is s refusals.Exhausted) (where_so s path index old (quiet_view_at s old)))

    edit_turn_so : (s : State) (edit : PlainEdit) (answer : Answer) (before : List Change) (names : Result NamesView Refusal) → AreChanges P before → EndsNone before → Stays s (edit_turn s req (edit_plan req edit answer before) names)
    edit_turn_so s edit answer before (Ok names) so none = for_room_so req is s (turned s (edit_plan req edit answer before)) (planned own source place s (edit_plan req edit answer before) (edit_so P req is edit answer before so) (both_so _ before (changes.End req ∷ []) none (is, tt)))
    edit_turn_so s edit answer before (Err refusal) so none = ended_turn req is s refusal

    replaced_so : (path : Path) (index old new : ℕ) (names : Result NamesView Refusal) (s : State) → Stays s (replaced_if s req path index old new names)
    replaced_so path index old new (Ok names) s =
        let t = turned s (replace_plan path index old new) in
        let first = planned own source place s (replace_plan path index old new) (replace_so P (req, is) path index old new) (tt, tt) in
        pick (Stays s) (fits s.log (Edited own_request (Cow path index old new) ∷ [])) (and_then t (leased_next req path index new)) (ended_by s req refusals.Full)
        (then_stays own source place s t (leased_next req path index new) first (leased_next_so path index new t.after)) (ended_turn req is s refusals.Full)
    replaced_so path index old new (Err refusal) s = ended_turn req is s refusal

    ended_with_so : (s : State) (answer : Answer) → Stays s (ended_with s req answer)
    ended_with_so s answer = planned own source place s (end_plan s req answer) (end_plan_so P req is s answer) (both_so _ (answer_changes s req answer) (changes.End req ∷ []) (answer_ends s req answer) (is, tt))

    goes_on_so : (s : State) (view : View) (waiting : Waiting) → Stays s (goes_on s req view waiting)
    unfolding goes_on
    goes_on_so s view (waits.Extend path new) = edit_turn_so s (AddChunk path new) (answers.Location new view s.durable.epoch) (changes.Place new ∷ []) (edited_names (AddChunk path new) s.durable.names) (tt, tt) (tt, tt)
    goes_on_so s view (waits.Lease path index found) = ended_with_so s (answers.Location found view s.durable.epoch)
    goes_on_so s view (waits.Quiet path index quiet) = copied_so s path index quiet
    goes_on_so s view (waits.Copy path index old new) = replaced_so path index old new (edited_names (Cow path index old new) s.durable.names) s
    goes_on_so s view (waits.Snapshot from to) =
        pick (Stays s) (list_all (is_quiet_at s) (source_chunks s from)) (ended_by_edit s req (Snapshot from to) answers.Nothing []) (unmoved s)
        (edit_turn_so s (Snapshot from to) answers.Nothing [] (edited_names (Snapshot from to) s.durable.names) tt tt) (nothing s None)
    goes_on_so s view (waits.Replicate chunk target) =
        let done = answers.Copied (Some (record { handle = chunk; server = target })) in
        pick (Stays s) (is_member view.members target) (ended_with s req done) (ended_by s req refusals.NoReplica) (ended_with_so s done) (ended_turn req is s refusals.NoReplica)

  all_go_away : (view : View) (calls : List Pending) (s : State) → Away own calls → Stays s (all_go_on view calls s)
  all_go_away view [] s all = nothing s None
  all_go_away view (p ∷ calls) s all =
      let first = goes_on_so p.req all.0 s view p.waits in then_stays own source place s (goes_on s p.req view p.waits) (all_go_on view calls) first (all_go_away view calls (goes_on s p.req view p.waits).after all.1)

  -- ---- its own end

  said_made : (keeps : Bool) (log : Log) (refusal : Refusal) → IsMadeBy own source place (Err refusal) (said_records keeps log own refusal)
  said_made keeps log refusal = by_test (keeps && fits log (Said own refusal ∷ []))
    where
      by_test : (b : Bool) → IsMadeBy own source place (Err refusal) (if b then Said own refusal ∷ [] else [])
      by_test true = inr refl
      by_test false = inl refl

  nothing_more : {A : Type 0} (xs : List A) → xs ≡ xs ++ []
  nothing_more [] = refl
  nothing_more (x ∷ xs) = ap (λ ys. x ∷ ys) (nothing_more xs)

  refused_own : (s : State) (refusal : Refusal) → IsPlainCopy source place s.durable.names (Err refusal) → Ends s (ended_by s own refusal)
  refused_own s refusal plainly = (
    record {
      result = Err refusal;
      goes = record { before = []; behind = []; made = (ended_by s own refusal).records; is_made = said_made (keeps_refusal s own refusal) s.log refusal; parts = nothing_more (ended_by s own refusal).records; none_before = refl; none_behind = refl; plainly = plainly };
      sent = ((λ same. refl), tt);
    },
    subst (λ cs. Away own (all_changed s.volatile cs).pending) (append_assoc (said_changes (keeps_refusal s own refusal) s.log own refusal) (let_go s.volatile own) (changes.End own ∷ []))
        (end_away own (said_changes (keeps_refusal s own refusal) s.log own refusal ++ let_go s.volatile own) s.volatile),
  )

  own_refused : (s : State) (refusal : Refusal) → is_refused_by_store (Err refusal) ≡ true → Ends s (ended_by s own refusal)
  own_refused s refusal is = refused_own s refusal (refused_plainly source place s.durable.names refusal is)

  own_edits : (s : State) (r : Result NamesView Refusal) → edited_names (Snapshot source place) s.durable.names ≡ r → Ends s (edit_turn s own (edit_plan own (Snapshot source place) answers.Nothing []) r)
  own_edits s (Err refusal) is = refused_own s refusal (copies_plainly source place s.durable.names (Err refusal) is)
  own_edits s (Ok names) is =
      pick (Ends s) (fits s.log (turned s (edit_plan own (Snapshot source place) answers.Nothing [])).records) (turned s (edit_plan own (Snapshot source place) answers.Nothing [])) (ended_by s own refusals.Full) (
        record {
          result = Ok answers.Nothing;
          goes = record { before = []; behind = []; made = Edited own (Snapshot source place) ∷ []; is_made = refl; parts = refl; none_before = refl; none_behind = refl; plainly = copies_plainly source place s.durable.names (Ok names) is };
          sent = ((λ same. refl), tt);
        },
        end_away own [] s.volatile,
      )
      (own_refused s refusals.Full refl)

  own_goes : (s : State) (view : View) → Here own source place s.volatile.pending → Comes s (goes_on s own view (waits.Snapshot source place))
  unfolding goes_on
  own_goes s view here =
      pick (Comes s) (list_all (is_quiet_at s) (source_chunks s source)) (ended_by_edit s own (Snapshot source place) answers.Nothing []) (unmoved s)
      (inr (own_edits s (edited_names (Snapshot source place) s.durable.names) refl)) (inl ((nothing s None).here here))

  -- ---- several calls that have waited, and this is among them

  all_ended_here : (ps : List Pending) (refusal : Refusal) (s : State) → is_refused_by_store (Err refusal) ≡ true → Here own source place ps → Here own source place s.volatile.pending → Ends s (all_ended_by s (requests_of ps) refusal)
  all_ended_here [] refusal s is among here = absurd among
  all_ended_here (p ∷ ps) refusal s is (inl first) here =
      ends_then own source place s (ended_by s p.req refusal) (λ next. all_ended_by next (requests_of ps) refusal) (subst (λ (q : Pending). Ends s (ended_by s q.req refusal)) (sym first.0) (own_refused s refusal is))
      (all_ended_so (requests_of ps) refusal (ended_by s p.req refusal).after (requests_so P ps first.1)).away
  all_ended_here (p ∷ ps) refusal s is (inr more) here =
      let first = (ended_turn p.req more.0 s refusal).here here in
      let rest = all_ended_here ps refusal (ended_by s p.req refusal).after is more.1 first.1 in
      (then_answered own source place s (ended_by s p.req refusal) (λ next. all_ended_by next (requests_of ps) refusal) first.0 rest.0, rest.1)

  all_go_here : (view : View) (calls : List Pending) (s : State) → Here own source place calls → Here own source place s.volatile.pending → Comes s (all_go_on view calls s)
  all_go_here view [] s among here = absurd among
  all_go_here view (p ∷ calls) s (inl first) here = by (subst (λ (q : Pending). Comes s (goes_on s q.req view q.waits)) (sym first.0) (own_goes s view here))
    where
      by : Comes s (goes_on s p.req view p.waits) → Comes s (all_go_on view (p ∷ calls) s)
      by (inl waited) = then_comes own source place s (goes_on s p.req view p.waits) (all_go_on view calls) waited.0 (inl ((all_go_away view calls (goes_on s p.req view p.waits).after first.1).here waited.1))
      by (inr ends) = inr (ends_then own source place s (goes_on s p.req view p.waits) (all_go_on view calls) ends (all_go_away view calls (goes_on s p.req view p.waits).after first.1).away)
  all_go_here view (p ∷ calls) s (inr more) here =
      let first = (goes_on_so p.req more.0 s view p.waits).here here in
      then_comes own source place s (goes_on s p.req view p.waits) (all_go_on view calls) first.0 (all_go_here view calls (goes_on s p.req view p.waits).after more.1 first.1)

  everybody_so : (s : State) (refusal : Refusal) → is_refused_by_store (Err refusal) ≡ true → So s (all_ended_by s (requests_of s.volatile.pending) refusal)
  everybody_so s refusal is = record { away = λ w. (all_ended_so (requests_of s.volatile.pending) refusal s (requests_so P s.volatile.pending w)).away w; here = λ h. inr (all_ended_here s.volatile.pending refusal s is h h) }

  module _ (req : ReqId) (is : P req) where
    -- ---- calls of an upgrade

    own_turn : (s : State) (refusal : Refusal) → So s (refused s req refusal)
    own_turn s refusal = so_of own source place s (refused s req refusal) (refused_turn req is s refusal)

    room_full : (s : State) (t : Turn) → So s t → So s (if_room s t (refused s req refusals.Full))
    room_full s t a = pick (So s) (fits s.log t.records) t (refused s req refusals.Full) a (own_turn s refusals.Full)

    unless_so : (refusal : Option Refusal) (s : State) (t : Turn) → So s t → So s (unless refusal s req t)
    unless_so None s t a = pick (So s) (fits s.log t.records) t (refused s req refusals.Full) a (own_turn s refusals.Full)
    unless_so (Some refusal) s t a = own_turn s refusal

    accepted_turn : (s u : State) (records : List PlainEntry) (before : List Change) (sent : List Message) (epoch : ℕ) → AreEntries P records → AreChanges P before → EndsNone before → SaidSo P sent → So s (turned s (accepted_plan s req records before sent epoch))
    accepted_turn s u records before sent epoch are so none said = planned_so s (accepted_plan s req records before sent epoch) (accepted_so P req is s records before sent epoch are so said) (both_so _ before (answer_changes s req (answers.Epoch epoch)) none (answer_ends s req (answers.Epoch epoch)))

    begin_prepare_so : (s : State) → So s (prepare_begin s req)
    begin_prepare_so s =
        let many = all_unquiet s in
        let ended = all_ended_by s (requests_of s.volatile.pending) refusals.Preparing in
        let begin : State → Turn = λ next. all_begun next many purposes.Quiet None in
        let accept : State → Turn = λ next. turned next (accepted_plan next req [] (changes.Prepare true ∷ []) [] s.durable.epoch) in
        let first = everybody_so s refusals.Preparing refl in
        let second = then_so own source place s ended begin first (so_of own source place ended.after (begin ended.after) (all_begun_so many purposes.Quiet None ended.after)) in
        unless_so (first_of (begin_tests s.durable.phase s.volatile.is_preparing s.volatile.pending (not (has_versions s.durable (length many))))) s (and_then (and_then ended begin) accept)
        (then_so own source place s (and_then ended begin) accept second (accepted_turn (and_then ended begin).after s [] (changes.Prepare true ∷ []) [] s.durable.epoch tt (tt, tt) (tt, tt) tt))

    commit_prepare_so : (config : Config) (s : State) (moment : Moment) → So s (prepare_commit config s req moment)
    commit_prepare_so config s moment =
        unless_so (first_of (commit_tests s.durable.phase s.volatile.is_preparing (all_unquiet s) (is_last_epoch s.durable))) s _
        (accepted_turn s s (Prepare (s.durable.epoch + 1) moment.0 (chunk_count s) ∷ []) (changes.Prepare false ∷ []) (tell_all config (s.durable.epoch + 1) ends.Prepare) (s.durable.epoch + 1) ((req, is), tt) (tt, tt) (tt, tt) (all_told P config (s.durable.epoch + 1) ends.Prepare))

    abort_so : (s : State) → So s (prepare_abort s req)
    abort_so s =
        pick (So s) s.volatile.is_preparing (turned s (accepted_plan s req [] (changes.Prepare false ∷ []) [] s.durable.epoch)) (refused s req refusals.NotUpgrading)
        (accepted_turn s s [] (changes.Prepare false ∷ []) [] s.durable.epoch tt (tt, tt) (tt, tt) tt) (own_turn s refusals.NotUpgrading)

    finalize_so : (config : Config) (s : State) → So s (finalize config s req)
    finalize_so config s =
        unless_so (first_of (end_tests s.durable.phase (is_last_epoch s.durable))) s _
        (accepted_turn s s (Finalize (s.durable.epoch + 1) ∷ []) [] (tell_all config (s.durable.epoch + 1) ends.Finalize) (s.durable.epoch + 1) ((req, is), tt) tt tt (all_told P config (s.durable.epoch + 1) ends.Finalize))

    rollback_so : (config : Config) (s : State) → So s (rollback_begin config s req)
    rollback_so config s =
        let plan : Plan = record { records = RollbackBegin (s.durable.epoch + 1) ∷ []; changes = []; sent = []; said = None } in
        let ended : State → Turn = λ next. all_ended_by next (requests_of s.volatile.pending) refusals.RollingBack in
        let accept : State → Turn = λ next. turned next (accepted_plan next req [] [] (tell_all config (s.durable.epoch + 1) ends.Rollback) (s.durable.epoch + 1)) in
        let both = and_then (turned s plan) ended in
        let first = planned_so s plan (record { records = ((req, is), tt); changes = tt; sent = tt }) tt in
        let second = then_so own source place s (turned s plan) ended first (everybody_so (turned s plan).after refusals.RollingBack refl) in
        unless_so (first_of (end_tests s.durable.phase (is_last_epoch s.durable))) s (and_then both accept)
        (then_so own source place s both accept second (accepted_turn both.after s [] [] (tell_all config (s.durable.epoch + 1) ends.Rollback) (s.durable.epoch + 1) tt tt tt (all_told P config (s.durable.epoch + 1) ends.Rollback)))

    commit_if_so : (s : State) (names : NamesView) (lacking : Option ℕ) → So s (commit_if s req names lacking)
    commit_if_so s names (Some chunk) = own_turn s (refusals.Unrestored chunk)
    commit_if_so s names None =
        let records = RollbackCommit s.durable.epoch (answers_for (prepared_view s.durable) (told_of s) (fin.entries names.refs)) ∷ [] in
        room_full s (turned s (accepted_plan s req records (changes.RolledBack ∷ []) [] s.durable.epoch)) (accepted_turn s s records (changes.RolledBack ∷ []) [] s.durable.epoch ((req, is), tt) (tt, tt) (tt, tt) tt)

    commit_on_so : (s : State) (names : Option NamesView) → So s (commit_on s req names)
    commit_on_so s None = own_turn s refusals.BadLine
    commit_on_so s (Some names) = commit_if_so s names (unrestored (prepared_view s.durable) (told_of s) (fin.entries names.refs))

    -- ---- all calls

    called_so : (config : Config) (s : State) (moment : Moment) (call : Call) → So s (called config s req moment call)
    called_so config s moment (calls.Mkdirs path) = so_of own source place s _ (edited_so req is s (Mkdirs path) answers.Nothing)
    called_so config s moment (calls.Create path) = so_of own source place s _ (edited_so req is s (Create path) answers.Nothing)
    called_so config s moment (calls.Rename from to) = so_of own source place s _ (edit_if_so req is s (Rename from (target_of (fin.get s.durable.names.tree) from to)) answers.Nothing (edited_names (Rename from to) s.durable.names))
    called_so config s moment (calls.Delete path recursive) = so_of own source place s _ (deleted_so req is s path recursive moment)
    called_so config s moment (calls.Undelete path) = so_of own source place s _ (edited_so req is s (Unhide path) (answers.Path (unhide_target path (old_name path))))
    called_so config s moment (calls.Snapshot from to) = so_of own source place s _ (snapshot_if_so req is s from to (edited (edits.Snapshot from to) (fin.entries s.durable.names.tree)))
    called_so config s moment (calls.List path) = so_of own source place s _ (looked_so req is s (listing (fin.entries s.durable.names.tree) path (fin.get s.durable.names.tree path)))
    called_so config s moment (calls.Status path) = so_of own source place s _ (looked_so req is s (status s.durable (fin.get s.durable.names.tree path)))
    called_so config s moment (calls.FindForReading path index) = so_of own source place s _ (looked_so req is s (location s.durable (found_chunk (fin.get s.durable.names.tree path) index)))
    called_so config s moment (calls.FindForWriting path index stamp) = so_of own source place s _ (found_so req is s path index stamp moment (found_chunk (fin.get s.durable.names.tree path) index))
    called_so config s moment (calls.Extend path index) = so_of own source place s _ (extends_so req is config s path index (fin.get s.durable.names.tree path))
    called_so config s moment calls.Scan = so_of own source place s _ (scanned_so req is s (removed_paths moment.0 (fin.entries s.durable.names.tree)) (forgotten_chunks moment.0 (fin.entries s.durable.names.tree) (fin.entries s.durable.names.refs)))
    called_so config s moment calls.Replicate = so_of own source place s _ (most_so req is config s (most_needed_of config.replicas (needs_of s)))
    called_so config s moment calls.Query = so_of own source place s _ (answered_turn req is s (answers.Phase (told_phase s.volatile.is_preparing s.durable.phase) s.durable.epoch))
    called_so config s moment calls.PrepareBegin = begin_prepare_so s
    called_so config s moment calls.PrepareCommit = commit_prepare_so config s moment
    called_so config s moment calls.PrepareAbort = abort_so s
    called_so config s moment calls.Finalize = finalize_so config s
    called_so config s moment calls.RollbackBegin = rollback_so config s
    called_so config s moment calls.RollbackCommit =
        pick (So s) (is_rolling s.durable.phase) (commit_on s req (all_undone s.durable.inverses s.durable.names)) (refused s req refusals.NotUpgrading)
        (commit_on_so s (all_undone s.durable.inverses s.durable.names)) (own_turn s refusals.NotUpgrading)

    unless_called : (config : Config) (s : State) (moment : Moment) (call : Call) (refusal : Option Refusal) → So s (called_unless config s req moment call refusal)
    unless_called config s moment call None = called_so config s moment call
    unless_called config s moment call (Some refusal) = own_turn s refusal

    taken_so : (config : Config) (s : State) (moment : Moment) (call : Call) (how : Numbered) → So s (taken_as config s req moment call how)
    taken_so config s moment call New = unless_called config s moment call (refused_before s req call)
    taken_so config s moment call (Again result) = so_of own source place s (replied_again s req result) (replied_so req is s result)
    taken_so config s moment call Older = so_of own source place s (replied_again s req (Err refusals.Old)) (replied_so req is s (Err refusals.Old))

    call_so : (config : Config) (s : State) (moment : Moment) (call : Call) → So s (call_turn config s req moment call)
    call_so config s moment call =
        let taken = taken_as config s req moment call (numbered (last_reply s req.client) req.number) in
        let device = so_of own source place s (replied_again s req (Err refusals.Device)) (replied_so req is s (Err refusals.Device)) in
        pick (So s) (is_unopened s.fault) (replied_again s req (Err refusals.Device)) (if is_pending s.volatile.pending req then waits_still s req else taken)
        device
        (pick (So s) (is_pending s.volatile.pending req) (waits_still s req) taken
        (pick (So s) (is_failed s.fault) (replied_again s req (Err refusals.Device)) (unmoved s) device (nothing_so s None))
        (taken_so config s moment call (numbered (last_reply s req.client) req.number)))

  -- ---- settling

  -- whom a chunk concerns
  abbrev is_concerned : State → ℕ → Option ReqId → Pending → Bool
  is_concerned s chunk call p = is_call p.req call || is_copied_by s chunk p.waits

  all_refused_so : (s : State) (chunk : ℕ) (call : Option ReqId) (refusal : Refusal) → is_refused_by_store (Err refusal) ≡ true → So s (all_refused s chunk call refusal)
  all_refused_so s chunk call refusal is = record { away = λ w. (others (some_so P (is_concerned s chunk call) s.volatile.pending w)).away w; here = λ h. by h (part_here own source place (is_concerned s chunk call) s.volatile.pending h) }
    where
      others : Away own (concerned s chunk call) → Stays s (all_refused s chunk call refusal)
      others away = all_ended_so (requests_of (concerned s chunk call)) refusal s (requests_so P (concerned s chunk call) away)

      by : Here own source place s.volatile.pending → Here own source place (concerned s chunk call) ⊎ Away own (concerned s chunk call) → Comes s (all_refused s chunk call refusal)
      by h (inl among) = inr (all_ended_here (concerned s chunk call) refusal s is among h)
      by h (inr away) = inl ((others away).here h)

  goes_so : (s : State) (chunk : ℕ) (call : Option ReqId) (view : View) (plan : Plan) → PlanSo P plan → EndsNone plan.changes → So s (and_then (turned s plan) (all_go_on view (concerned s chunk call)))
  goes_so s chunk call view plan so none = record { away = λ w. (others (some_so P (is_concerned s chunk call) s.volatile.pending w)).away w; here = λ h. by h (part_here own source place (is_concerned s chunk call) s.volatile.pending h) }
    where
      first : Stays s (turned s plan)
      first = planned own source place s plan so none

      others : Away own (concerned s chunk call) → Stays s (and_then (turned s plan) (all_go_on view (concerned s chunk call)))
      others away = then_stays own source place s (turned s plan) (all_go_on view (concerned s chunk call)) first (all_go_away view (concerned s chunk call) (turned s plan).after away)

      by : Here own source place s.volatile.pending → Here own source place (concerned s chunk call) ⊎ Away own (concerned s chunk call) → Comes s (and_then (turned s plan) (all_go_on view (concerned s chunk call)))
      by h (inl among) = (let one = first.here h in then_comes own source place s (turned s plan) (all_go_on view (concerned s chunk call)) one.0 (all_go_here view (concerned s chunk call) (turned s plan).after among one.1))
      by h (inr away) = inl ((others away).here h)

  settled_on_so : (s : State) (chunk : ℕ) (asking : Asking) (carried : Bool) (view : View) → So s (settled_on s chunk asking carried view)
  settled_on_so s chunk asking carried view =
      let records = settling s.durable.phase (prepared_view s.durable chunk) carried chunk asking view in
      pick (So s) (fits s.log records) (and_then (turned s (settle_plan records chunk view)) (all_go_on view (concerned s chunk asking.call))) (all_refused s chunk asking.call refusals.Full)
      (goes_so s chunk asking.call view (settle_plan records chunk view) (settle_so P s chunk asking carried view) (tt, tt)) (all_refused_so s chunk asking.call refusals.Full refl)

  settled_if_so : (s : State) (chunk : ℕ) (asking : Asking) (carried : Bool) (view : Option View) → So s (settled_if s chunk asking carried view)
  settled_if_so s chunk asking carried None = nothing_so s None
  settled_if_so s chunk asking carried (Some view) = settled_on_so s chunk asking carried view

  settled_by_so : (s : State) (chunk : ℕ) (c : Chunk) (asking : Asking) (carried : Bool) (by : Poll) (moment : Moment) → So s (settled_by s chunk c asking carried by moment)
  unfolding settled_by
  settled_by_so s chunk c asking carried by moment = settled_if_so s chunk asking carried (view_by c asking by moment)

  -- ---- messages of servers

  stepped_so : (s : State) (chunk : ℕ) (c : Chunk) (asking : Asking) (carried : Bool) (moment : Moment) (step : Step) → So s (stepped s chunk c asking carried moment step)
  stepped_so s chunk c asking carried moment steps.Wait = nothing_so s None
  stepped_so s chunk c asking carried moment (steps.Send source target) =
      let with_sealed = is_with_sealed s.durable.phase (prepared_view s.durable chunk) source in planned_so s (send_plan chunk asking source target with_sealed) (send_so P chunk asking source target with_sealed) (tt, tt)
  stepped_so s chunk c asking carried moment (steps.Settle by) = settled_by_so s chunk c asking carried by moment
  stepped_so s chunk c asking carried moment steps.Fail = all_refused_so s chunk asking.call refusals.NoReplica refl

  heard_so : (s : State) (chunk : ℕ) (c : Chunk) (asking : Asking) (carried : Bool) (moment : Moment) (step : Step) → So s (heard s chunk c asking carried moment step)
  heard_so s chunk c asking carried moment step =
      let first = planned_so s (ask_plan chunk asking) (ask_so P chunk asking) (tt, tt) in
      then_so own source place s (turned s (ask_plan chunk asking)) (λ next. stepped next chunk c asking carried moment step) first (stepped_so (turned s (ask_plan chunk asking)).after chunk c asking carried moment step)

  promised_for_so : (s : State) (server chunk : ℕ) (stamp : Stamp) (count : ℕ) (carried : Bool) (moment : Moment) (c : Chunk) (asking : Option Asking) → So s (promised_for s server chunk stamp count carried moment c asking)
  promised_for_so s server chunk stamp count carried moment c None = nothing_so s None
  promised_for_so s server chunk stamp count carried moment c (Some asking) =
      pick (So s) (hears asking stamp server) (heard s chunk c (heard_yes asking server count) (carried && is_target asking server) moment (step_of_yes asking server count)) (unmoved s)
      (heard_so s chunk c (heard_yes asking server count) (carried && is_target asking server) moment (step_of_yes asking server count)) (nothing_so s None)

  promised_at_so : (s : State) (server chunk : ℕ) (stamp : Stamp) (count : ℕ) (carried : Bool) (moment : Moment) (c : Option Chunk) → So s (promised_at s server chunk stamp count carried moment c)
  promised_at_so s server chunk stamp count carried moment None = nothing_so s None
  promised_at_so s server chunk stamp count carried moment (Some c) = promised_for_so s server chunk stamp count carried moment c c.asking

  unpromised_for_so : (s : State) (server chunk : ℕ) (stamp : Stamp) (moment : Moment) (c : Chunk) (asking : Option Asking) → So s (unpromised_for s server chunk stamp moment c asking)
  unpromised_for_so s server chunk stamp moment c None = nothing_so s None
  unpromised_for_so s server chunk stamp moment c (Some asking) =
      pick (So s) (hears asking stamp server) (heard s chunk c (heard_no asking server) false moment (step_of_no asking server)) (unmoved s)
      (heard_so s chunk c (heard_no asking server) false moment (step_of_no asking server)) (nothing_so s None)

  unpromised_at_so : (s : State) (server chunk : ℕ) (stamp : Stamp) (moment : Moment) (c : Option Chunk) → So s (unpromised_at s server chunk stamp moment c)
  unpromised_at_so s server chunk stamp moment None = nothing_so s None
  unpromised_at_so s server chunk stamp moment (Some c) = unpromised_for_so s server chunk stamp moment c c.asking

  end_so : (server epoch : ℕ) (end : Option EpochEnd) → SaidSo P (end_told server epoch end)
  end_so server epoch None = tt
  end_so server epoch (Some end) = (tt, tt)

  next_so : (s : State) (server epoch : ℕ) → So s (sends s (next_epoch s.durable server epoch))
  next_so s server epoch = still_so s (next_epoch s.durable server epoch) None (end_so server epoch (slice_get s.durable.ends epoch))

  quiet_so : (many : List ℕ) (s : State) → So s (made_quiet many s)
  quiet_so many s =
      let begin = all_begun s many purposes.Quiet None in
      pick (So s) (has_versions s.durable (length many)) (if_room s begin (unmoved s)) (unmoved s) (pick (So s) (fits s.log begin.records) begin (unmoved s) (so_of own source place s begin (all_begun_so many purposes.Quiet None s)) (nothing_so s None)) (nothing_so s None)

  drops_so : (epoch server : ℕ) (replicas : List Reported) → SaidSo P (map (λ (r : Reported). about r.handle (chunks.Drop epoch r.promise) server) replicas)
  drops_so epoch server [] = tt
  drops_so epoch server (r ∷ replicas) = (tt, drops_so epoch server replicas)

  reported_so : (s : State) (server epoch : ℕ) (replicas : List Reported) → So s (reported s server epoch replicas)
  reported_so s server epoch replicas =
      let dropped = sends s (drops s server replicas) in
      let quiet = made_quiet (lost s server replicas) in
      let first = still_so s (drops s server replicas) None (drops_so s.durable.epoch server (filter (λ (r : Reported). is_stray (chunk_at s r.handle) server) replicas)) in
      pick (So s) (nat_lt epoch s.durable.epoch) (sends s (next_epoch s.durable server epoch)) (if may_begin s.durable.phase && (epoch == s.durable.epoch) then reported_now s server replicas else unmoved s) (next_so s server epoch)
      (pick (So s) (may_begin s.durable.phase && (epoch == s.durable.epoch)) (reported_now s server replicas) (unmoved s)
      (then_so own source place s dropped quiet first (quiet_so (lost s server replicas) dropped.after)) (nothing_so s None))

  learned_so : (s : State) (server epoch : ℕ) (handles : List ℕ) → So s (learned s server epoch handles)
  learned_so s server epoch handles =
      let plan : Plan = record { records = []; changes = changes.Restored server handles ∷ []; sent = []; said = None } in
      pick (So s) (nat_lt epoch s.durable.epoch) (sends s (next_epoch s.durable server epoch)) (if is_rolling s.durable.phase && (epoch == s.durable.epoch) then turned s plan else unmoved s) (next_so s server epoch)
      (pick (So s) (is_rolling s.durable.phase && (epoch == s.durable.epoch)) (turned s plan) (unmoved s) (planned_so s plan (record { records = tt; changes = (tt, tt); sent = tt }) (tt, tt)) (nothing_so s None))

  about_so : (s : State) (server chunk : ℕ) (moment : Moment) (said : Said_of_chunk) → So s (about_turn s server chunk moment said)
  about_so s server chunk moment (chunks.Promised stamp count carried) = promised_at_so s server chunk stamp count carried moment (chunk_at s chunk)
  about_so s server chunk moment (chunks.Unpromised stamp refusal) = unpromised_at_so s server chunk stamp moment (chunk_at s chunk)
  about_so s server chunk moment (chunks.Renew stamp) =
      pick (So s) (is_leased_under stamp (chunk_at s chunk) && not s.volatile.is_preparing) (sends s (about chunk (chunks.Renewed stamp (end_of moment)) server ∷ [])) (unmoved s)
      (still_so s (about chunk (chunks.Renewed stamp (end_of moment)) server ∷ []) None (tt, tt)) (nothing_so s None)
  about_so s server chunk moment (chunks.Bad stamp) =
      pick (So s) (may_begin s.durable.phase && is_lost_at server (chunk_at s chunk)) (made_quiet (chunk ∷ []) s) (unmoved s) (quiet_so (chunk ∷ []) s) (nothing_so s None)
  about_so s server chunk moment said = nothing_so s (Some refusals.Stray)

  server_so : (s : State) (server : ℕ) (moment : Moment) (said : Body) → So s (server_turn s server moment said)
  server_so s server moment (bodies.About chunk said) = about_so s server chunk moment said
  server_so s server moment (bodies.Report epoch replicas) = reported_so s server epoch replicas
  server_so s server moment (bodies.Learned epoch handles) = learned_so s server epoch handles
  server_so s server moment (bodies.Behind epoch) = pick (So s) (nat_lt epoch s.durable.epoch) (sends s (next_epoch s.durable server epoch)) (unmoved s) (next_so s server epoch) (nothing_so s None)
  server_so s server moment said = nothing_so s (Some refusals.Stray)

  -- the call that comes is such a one
  client_so : (config : Config) (s : State) (moment : Moment) (said : Body) → ((req : ReqId) → caller_of said ≡ Some req → P req) → So s (from_client config s moment said)
  client_so config s moment (bodies.Call req call) is = call_so req (is req refl) config s moment call
  client_so config s moment said is = nothing_so s (Some refusals.Stray)

  pub node_so : (config : Config) (s : State) (moment : Moment) (said : Body) (from : NodeId) → ((req : ReqId) → caller_of said ≡ Some req → P req) → So s (from_node config s moment said from)
  node_so config s moment said nodes.Master is = nothing_so s (Some refusals.Stray)
  node_so config s moment said (nodes.Server server) is = pick (So s) (is_failed s.fault) (met_by s refusals.Device) (server_turn s server moment said) (nothing_so s (Some refusals.Device)) (server_so s server moment said)
  node_so config s moment said (nodes.Client client) is = client_so config s moment said is

  pub message_so : (config : Config) (s : State) (message : Message) (moment : Moment) → ((req : ReqId) → caller_of message.body ≡ Some req → P req) → So s (handle config s message moment)
  unfolding handle
  message_so config s message moment is = node_so config s moment message.body message.from is

  -- ---- a tick

  pressed_if_so : (s : State) (chunk : ℕ) (stamp : Stamp) (moment : Moment) (c : Chunk) (asking : Option Asking) → So s (pressed_if s chunk stamp moment c asking)
  pressed_if_so s chunk stamp moment c None = nothing_so s None
  pressed_if_so s chunk stamp moment c (Some asking) =
      pick (So s) (is_same asking.stamp stamp) (stepped s chunk c asking false moment (step_at_tick asking)) (unmoved s) (stepped_so s chunk c asking false moment (step_at_tick asking)) (nothing_so s None)

  pressed_at_so : (s : State) (chunk : ℕ) (stamp : Stamp) (moment : Moment) (c : Option Chunk) → So s (pressed_at s chunk stamp moment c)
  pressed_at_so s chunk stamp moment None = nothing_so s None
  pressed_at_so s chunk stamp moment (Some c) = pressed_if_so s chunk stamp moment c c.asking

  all_pressed_so : (many : List (ℕ × Stamp)) (moment : Moment) (s : State) → So s (for_each s many (pressed moment))
  all_pressed_so [] moment s = nothing_so s None
  all_pressed_so (p ∷ many) moment s =
      let first = pressed_at_so s p.0 p.1 moment (chunk_at s p.0) in then_so own source place s (pressed moment p s) (λ next. for_each next many (pressed moment)) first (all_pressed_so many moment (pressed moment p s).after)

  view_so : (chunk : ℕ) (view : Option View) → SaidSo P (granted_view chunk view)
  view_so chunk None = tt
  view_so chunk (Some view) = granted_none P chunk view view.term

  granted_at_so : (chunk : ℕ) (c : Option Chunk) → SaidSo P (granted_at chunk c)
  granted_at_so chunk None = tt
  granted_at_so chunk (Some c) = by_lease (is_leased c)
    where
      by_lease : (b : Bool) → SaidSo P (if b then granted_view chunk (view_of c) else [])
      by_lease true = view_so chunk (view_of c)
      by_lease false = tt

  all_granted_so : (s : State) (many : List ℕ) → SaidSo P (flat_map (λ chunk. granted_at chunk (chunk_at s chunk)) many)
  all_granted_so s [] = tt
  all_granted_so s (chunk ∷ many) = both_so _ (granted_at chunk (chunk_at s chunk)) (flat_map (λ c. granted_at c (chunk_at s c)) many) (granted_at_so chunk (chunk_at s chunk)) (all_granted_so s many)

  -- all steps of a tick, before a checkpoint
  pub steps_so : (s : State) (moment : Moment) → So s (and_then (for_each s (proposals s) (pressed moment)) granted)
  steps_so s moment =
      let press = for_each s (proposals s) (pressed moment) in
      let first = all_pressed_so (proposals s) moment s in
      then_so own source place s press granted first (still_so press.after (flat_map (λ chunk. granted_at chunk (chunk_at press.after chunk)) (fin.keys press.after.durable.chunks)) None (all_granted_so press.after (fin.keys press.after.durable.chunks)))
