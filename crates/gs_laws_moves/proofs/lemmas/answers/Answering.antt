-- Each event of the master answers, keeps and lets wait only such requests as the call that comes, and those that wait.
use Rattle.std.proofs.Common.{◌==◌, ◌&&◌, ◌||◌, ◌+◌, ℕ, Bool, true, false, not, List, [], ◌∷◌, length, map, filter, ◌∙◌}
use Rattle.std.specs.Prelude.{flat_map, is_none, nat_le, nat_lt, slice_get, Option, Some, None, Result, Ok, Err, if◌then◌else◌}
use Rattle.std.specs.List.{AllByRecursion, list_all, list_any}
use Rattle.std.specs.FinMap as fin
use Rattle.gs_base.specs.Members.{is_member}
use Rattle.gs_base.specs.Stamps.{is_same}
use Rattle.gs_base.specs.declared.config.Config.{Config}
use Rattle.gs_base.specs.declared.epoch.EpochEnd.{EpochEnd}
use Rattle.gs_base.specs.declared.epoch.EpochEnd.TheVariants as ends
use Rattle.gs_base.specs.declared.numbers.Moment.{Moment}
use Rattle.gs_base.specs.declared.numbers.ReqId.{ReqId}
use Rattle.gs_base.specs.declared.numbers.Stamp.{Stamp}
use Rattle.gs_base.specs.declared.refusal.Refusal.{Refusal}
use Rattle.gs_base.specs.declared.refusal.Refusal.TheVariants as refusals
use Rattle.gs_path.specs.Path.{Path}
use Rattle.gs_tree.specs.Edits.{hidden_path, old_name, same_path, target_of}
use Rattle.gs_tree.specs.Entry.{Entry, Dir, File}
use Rattle.gs_tree.specs.Find.{Rows}
use Rattle.gs_edit.specs.Edits.{edited}
use Rattle.gs_edit.specs.Plain.{unhide_target}
use Rattle.gs_edit.specs.View.{NamesView}
use Rattle.gs_edit.specs.declared.edit.Edit.TheVariants as edits
use Rattle.gs_lease.specs.Transitions.{end_of}
use Rattle.gs_lease.specs.declared.view.Purpose.{Purpose}
use Rattle.gs_lease.specs.declared.view.Purpose.TheVariants as purposes
use Rattle.gs_lease.specs.declared.view.View.{View}
use Rattle.gs_msg.specs.declared.answer.Answer.{Answer}
use Rattle.gs_msg.specs.declared.answer.Answer.TheVariants as answers
use Rattle.gs_msg.specs.declared.body.Body.{Body}
use Rattle.gs_msg.specs.declared.body.Body.TheVariants as bodies
use Rattle.gs_msg.specs.declared.body.Reported.{Reported}
use Rattle.gs_msg.specs.declared.call.Call.{Call}
use Rattle.gs_msg.specs.declared.call.Call.TheVariants as calls
use Rattle.gs_msg.specs.declared.chunk.Chunk.{Chunk as Said_of_chunk}
use Rattle.gs_msg.specs.declared.chunk.Chunk.TheVariants as chunks
use Rattle.gs_msg.specs.declared.message.Message.{Message}
use Rattle.gs_msg.specs.declared.node.NodeId.{NodeId}
use Rattle.gs_msg.specs.declared.node.NodeId.TheVariants as nodes
use Rattle.gs_place.specs.Needs.{most_needed_of}
use Rattle.gs_master_record.specs.Plain.{PlainEdit, PlainEntry, AddChunk, Cow, Create, Edited, Finalize, Hide, Mkdirs, Prepare, Rename, RollbackBegin, RollbackCommit, Snapshot, Unhide}
use Rattle.gs_master_spec.specs.Beginning.{all_begun, begin_at, begun, copy_plan, counted_views, create_plan, has_handle, has_versions, next_stamp, targets_for, waits_from_now, waits_on}
use Rattle.gs_master_spec.specs.Calls.{accept_plan, answered_with, deleted, edit_if, edited_by, found_chunk, has_visible_child, is_shared, listing, location, looked_up, most_chunks, refused_before, status, told_phase}
use Rattle.gs_master_spec.specs.Chunks.{Chunk, chunk_at, heard_no, heard_yes, hears, is_leased, is_quiet, is_target, is_wanted, may_begin, members_of, settling, step_at_tick, step_of_no, step_of_yes, view_by, view_of}
use Rattle.gs_master_spec.specs.Durable.{is_rolling, prepared_view}
use Rattle.gs_master_spec.specs.Handling.{Numbered, New, Again, Older, about_turn, call_turn, called, called_unless, from_client, from_node, granted, granted_at, granted_view, handle, numbered, pressed, pressed_at, pressed_if, proposals, replied_again, server_turn, taken_as, waits_still}
use Rattle.gs_master_spec.specs.Hearing.{ask_plan, drops, end_told, heard, is_leased_under, is_lost_at, is_stray, learned, lost, made_quiet, next_epoch, promised_at, promised_for, reported, reported_now, sends, stepped, unpromised_at, unpromised_for}
use Rattle.gs_master_spec.specs.Settling.{all_go_on, all_refused, concerned, copied, copied_where, edit_plan, edit_turn, ended_by_edit, ended_with, goes_on, if_room_for, is_quiet_at, leased_next, own_request, replace_plan, replaced_if, requests_of, settle_plan, settled_by, settled_if, settled_on, source_chunks, quiet_view_at}
use Rattle.gs_master_spec.specs.State.{Plan, State, Turn, about, all_ended_by, and_then, ended_by, first_of, fits, for_each, if_room, is_failed, is_unopened, last_reply, met_by, refused, reply_to, turned, unmoved}
use Rattle.gs_master_spec.specs.Undoing.{all_undone, edited_names}
use Rattle.gs_master_spec.specs.Upgrades.{accepted_plan, all_unquiet, answers_for, begin_tests, chunk_count, commit_if, commit_on, commit_tests, end_tests, finalize, is_last_epoch, prepare_begin, prepare_commit, rollback_begin, tell_all, told_of, unless, unrestored}
use Rattle.gs_master_spec.specs.Volatile.{is_pending}
use Rattle.gs_master_spec.specs.Working.{begin_pending, begins, begins_new, begins_snapshot, copied_on_write, created_on, extended_at, extends, forgotten_chunks, found_for_writing, is_wanted_at, leased, may_use, needs_of, removed_paths, replicated_to, replicates_chunk, replicates_most, scan_plan, scanned, snapshot_if, unquiet, waiting_for, written_at}
use Rattle.gs_master_spec.specs.declared.asking.Asking.{Asking}
use Rattle.gs_master_spec.specs.declared.asking.Step.{Step}
use Rattle.gs_master_spec.specs.declared.asking.Step.TheVariants as steps
use Rattle.gs_master_spec.specs.declared.change.Change.{Change}
use Rattle.gs_master_spec.specs.declared.change.Change.TheVariants as changes
use Rattle.gs_master_spec.specs.declared.pending.Pending.{Pending}
use Rattle.gs_master_spec.specs.declared.pending.Waiting.{Waiting}
use Rattle.gs_master_spec.specs.declared.pending.Waiting.TheVariants as waits
use Rattle.gs_view.specs.declared.poll.Poll.{Poll}
use Rattle.std.proofs.Common.{◌≡◌, refl, cond}
use Rattle.gs_master_spec.specs.Handling.{refusal_in}
use Rattle.gs_master_spec.specs.Outcomes.{caller_of}
use Rattle.gs_master_spec.specs.Settling.{is_copied_by}
use Rattle.gs_master_spec.specs.State.{answered, end_changes, refusal_plan}
use Rattle.gs_master_spec.specs.Hearing.{is_with_sealed, send_plan}
use Rattle.gs_master_spec.specs.Settling.{end_plan}
use Rattle.gs_master_spec.specs.Upgrades.{prepare_abort}
use Rattle.gs_master_spec.specs.Volatile.{is_call}
use Rattle.gs_master_spec.specs.Working.{replicated_to, waits_for_any}
use Rattle.gs_laws_moves.proofs.lemmas.answers.Kept.{AllIn, AreChanges, on_still, on_then, rest, rest_then}
use Rattle.gs_laws_moves.proofs.lemmas.answers.Plans.{AreEntries, PlanSo, SaidSo, TurnSo, Waiting_so, accept_so, accepted_so, all_told, answered_so, ask_so, begin_so, both_so, copy_so, create_so, edit_so, end_plan_so, ended_so, granted_none, pending_so, planned, refusal_so, replace_so, scan_so, send_so, settle_so, waits_further, waits_now}

pub pick : (S : Turn → Type 0) (b : Bool) (t u : Turn) → S t → S u → S (if b then t else u)
pick S true t u x y = x
pick S false t u x y = y

requests_so : (P : ReqId → Type 0) (ps : List Pending) → AllIn P ps → AllByRecursion P (requests_of ps)
requests_so P [] all = tt
requests_so P (p ∷ ps) all = (all.0, requests_so P ps all.1)

some_so : (P : ReqId → Type 0) (f : Pending → Bool) (ps : List Pending) → AllIn P ps → AllIn P (filter f ps)
some_so P f [] all = tt
some_so P f (p ∷ ps) all = by_test (f p) (some_so P f ps all.1)
  where
    by_test : (b : Bool) → AllIn P (filter f ps) → AllIn P (cond b (p ∷ filter f ps) (filter f ps))
    by_test true rest = (all.0, rest)
    by_test false rest = rest

module _ (P : ReqId → Type 0) where
  abbrev W : State → Type 0
  W s = Waiting_so P s

  abbrev So : State → Turn → Type 0
  So s t = TurnSo P s t

  still : (s : State) (messages : List Message) (said : Option Refusal) → W s → SaidSo P messages → So s (record { after = s; records = []; sent = messages; said = said })
  still s messages said w so = record {
    sent = so;
    records = tt;
    durable = on_still P s.durable.replies s.durable.replies refl;
    memory = on_still P s.volatile.replies s.volatile.replies refl;
    waits = w;
    rests = λ none. (rest s.durable, refl);
  }

  nothing : (s : State) (said : Option Refusal) → W s → So s (record { after = s; records = []; sent = []; said = said })
  nothing s said w = still s [] said w tt

  then_so : (s : State) (t : Turn) (f : State → Turn) → So s t → So t.after (f t.after) → So s (and_then t f)
  then_so s t f a b = record {
    sent = both_so _ t.sent (f t.after).sent a.sent b.sent;
    records = both_so _ t.records (f t.after).records a.records b.records;
    durable = on_then P s.durable.replies t.after.durable.replies (f t.after).after.durable.replies a.durable b.durable;
    memory = on_then P s.volatile.replies t.after.volatile.replies (f t.after).after.volatile.replies a.memory b.memory;
    waits = b.waits;
    rests = λ none. (rest_then s.durable t.after.durable (f t.after).after.durable (a.rests none).0 (b.rests none).0, (b.rests none).1 ∙ (a.rests none).1);
  }

  -- whatever it says to nobody
  said_so : (s : State) (t : Turn) (said : Option Refusal) → So s t → So s (record t { said = said })
  said_so s t said a = record { sent = a.sent; records = a.records; durable = a.durable; memory = a.memory; waits = a.waits; rests = a.rests }

  begun_so : (s : State) (chunk : ℕ) (purpose : Purpose) (call : Option ReqId) → W s → So s (begun s chunk purpose call)
  begun_so s chunk purpose call w = planned P s (begin_at s chunk purpose call) w (begin_so P s chunk purpose call)

  all_begun_so : (many : List ℕ) (purpose : Purpose) (call : Option ReqId) (s : State) → W s → So s (all_begun s many purpose call)
  all_begun_so [] purpose call s w = nothing s None w
  all_begun_so (chunk ∷ many) purpose call s w =
      let first = begun_so s chunk purpose call w in then_so s (begun s chunk purpose call) (λ next. all_begun next many purpose call) first (all_begun_so many purpose call (begun s chunk purpose call).after first.waits)

  -- ---- one request

  module _ (req : ReqId) (is : P req) where
    refused_turn : (s : State) (refusal : Refusal) → W s → So s (refused s req refusal)
    refused_turn s refusal w = planned P s (refusal_plan s req refusal [] (Some refusal)) w (refusal_so P req is s refusal [] (Some refusal) tt)

    ended_turn : (s : State) (refusal : Refusal) → W s → So s (ended_by s req refusal)
    ended_turn s refusal w = planned P s (refusal_plan s req refusal (end_changes s req) None) w (ended_so P req is s refusal)

    room_so : (s : State) (t : Turn) → W s → So s t → So s (if_room s t (refused s req refusals.Full))
    room_so s t w a = pick (So s) (fits s.log t.records) t (refused s req refusals.Full) a (refused_turn s refusals.Full w)

    for_room_so : (s : State) (t : Turn) → W s → So s t → So s (if_room_for s req t)
    for_room_so s t w a = pick (So s) (fits s.log t.records) t (ended_by s req refusals.Full) a (ended_turn s refusals.Full w)

    replied_so : (s : State) (result : Result Answer Refusal) → W s → So s (replied_again s req result)
    replied_so s result w = still s (reply_to req result ∷ []) (refusal_in result) w (is, tt)

    -- ---- calls of the tree

    edit_if_so : (s : State) (edit : PlainEdit) (answer : Answer) (names : Result NamesView Refusal) → W s → So s (edit_if s req edit answer names)
    edit_if_so s edit answer (Ok names) w = room_so s (turned s (accept_plan req edit answer)) w (planned P s (accept_plan req edit answer) w (accept_so P req is edit answer))
    edit_if_so s edit answer (Err refusal) w = refused_turn s refusal w

    edited_so : (s : State) (edit : PlainEdit) (answer : Answer) → W s → So s (edited_by s req edit answer)
    edited_so s edit answer w = edit_if_so s edit answer (edited_names edit s.durable.names) w

    answered_turn : (s : State) (answer : Answer) → W s → So s (answered_with s req answer)
    answered_turn s answer w = planned P s (answered s req answer) w (answered_so P req is s answer)

    looked_so : (s : State) (result : Result Answer Refusal) → W s → So s (looked_up s req result)
    looked_so s (Ok answer) w = answered_turn s answer w
    looked_so s (Err refusal) w = refused_turn s refusal w

    deleted_so : (s : State) (path : Path) (recursive : Bool) (moment : Moment) → W s → So s (deleted s req path recursive moment)
    deleted_so s path recursive moment w =
        let hides = edited_by s req (Hide path moment.0 s.durable.next_hidden) (answers.Path (hidden_path path moment.0 s.durable.next_hidden)) in
        let third = if s.durable.next_hidden == 0 then refused s req refusals.Exhausted else hides in
        let second = if not recursive && has_visible_child (fin.entries s.durable.names.tree) path then refused s req refusals.NotEmpty else third in
        let first = if is_none (fin.get s.durable.names.tree path) then answered_with s req answers.Absent else second in
        pick (So s) (same_path path []) (refused s req refusals.IsRoot) first (refused_turn s refusals.IsRoot w)
        (pick (So s) (is_none (fin.get s.durable.names.tree path)) (answered_with s req answers.Absent) second (answered_turn s answers.Absent w)
        (pick (So s) (not recursive && has_visible_child (fin.entries s.durable.names.tree) path) (refused s req refusals.NotEmpty) third (refused_turn s refusals.NotEmpty w)
        (pick (So s) (s.durable.next_hidden == 0) (refused s req refusals.Exhausted) hides (refused_turn s refusals.Exhausted w)
        (edited_so s (Hide path moment.0 s.durable.next_hidden) (answers.Path (hidden_path path moment.0 s.durable.next_hidden)) w))))

    -- ---- calls that begin views

    begins_so : (s : State) (plan : Plan) (waiting : Waiting) → W s → PlanSo P plan → So s (begins s req plan waiting)
    begins_so s plan waiting w so =
        pick (So s) (not (has_versions s.durable 1)) (refused s req refusals.Exhausted) (if_room s (turned s (waits_from_now plan req waiting)) (refused s req refusals.Full)) (refused_turn s refusals.Exhausted w)
        (room_so s (turned s (waits_from_now plan req waiting)) w (planned P s (waits_from_now plan req waiting) w (waits_now P req is plan waiting so)))

    begins_new_so : (s : State) (plan : Plan) (waiting : Waiting) → W s → PlanSo P plan → So s (begins_new s req plan waiting)
    begins_new_so s plan waiting w so = pick (So s) (not (has_handle s.durable)) (refused s req refusals.Exhausted) (begins s req plan waiting) (refused_turn s refusals.Exhausted w) (begins_so s plan waiting w so)

    leased_so : (s : State) (path : Path) (index : ℕ) (stamp : Option Stamp) (moment : Moment) (chunk : ℕ) (c : Chunk) → W s → So s (leased s req path index stamp moment chunk c)
    leased_so s path index stamp moment chunk c w =
        let begin = begins s req (begin_at s chunk purposes.Lease (Some req)) (waits.Lease path index chunk) in
        pick (So s) (is_leased c && may_use stamp moment (view_of c)) (looked_up s req (location s.durable (Ok chunk))) (if is_wanted c then refused s req refusals.Locked else begin)
        (looked_so s (location s.durable (Ok chunk)) w)
        (pick (So s) (is_wanted c) (refused s req refusals.Locked) begin (refused_turn s refusals.Locked w)
        (begins_so s (begin_at s chunk purposes.Lease (Some req)) (waits.Lease path index chunk) w (begin_so P s chunk purposes.Lease (Some req))))

    copied_on_write_so : (s : State) (path : Path) (index chunk : ℕ) (c : Chunk) (view : Option View) → W s → So s (copied_on_write s req path index chunk c view)
    copied_on_write_so s path index chunk c None w = refused_turn s refusals.NoReplica w
    copied_on_write_so s path index chunk c (Some view) w =
        let copy = begins_new s req (copy_plan (next_stamp s.durable) chunk view s.durable.next_handle req) (waits.Copy path index chunk s.durable.next_handle) in
        let quiet = begins s req (begin_at s chunk purposes.Quiet (Some req)) (waits.Quiet path index chunk) in
        pick (So s) (is_wanted c) (refused s req refusals.Locked) (if is_quiet c then copy else quiet) (refused_turn s refusals.Locked w)
        (pick (So s) (is_quiet c) copy quiet
        (begins_new_so s (copy_plan (next_stamp s.durable) chunk view s.durable.next_handle req) (waits.Copy path index chunk s.durable.next_handle) w (copy_so P (next_stamp s.durable) chunk view s.durable.next_handle req))
        (begins_so s (begin_at s chunk purposes.Quiet (Some req)) (waits.Quiet path index chunk) w (begin_so P s chunk purposes.Quiet (Some req))))

    written_so : (s : State) (path : Path) (index : ℕ) (stamp : Option Stamp) (moment : Moment) (chunk : ℕ) (c : Option Chunk) → W s → So s (written_at s req path index stamp moment chunk c)
    written_so s path index stamp moment chunk None w = refused_turn s refusals.NoReplica w
    written_so s path index stamp moment chunk (Some c) w =
        pick (So s) (is_shared s.durable.names chunk) (copied_on_write s req path index chunk c (view_of c)) (leased s req path index stamp moment chunk c)
        (copied_on_write_so s path index chunk c (view_of c) w) (leased_so s path index stamp moment chunk c w)

    found_so : (s : State) (path : Path) (index : ℕ) (stamp : Option Stamp) (moment : Moment) (chunk : Result ℕ Refusal) → W s → So s (found_for_writing s req path index stamp moment chunk)
    found_so s path index stamp moment (Err refusal) w = refused_turn s refusal w
    found_so s path index stamp moment (Ok chunk) w = written_so s path index stamp moment chunk (chunk_at s chunk) w

    created_so : (s : State) (path : Path) (targets : Option (List ℕ)) → W s → So s (created_on s req path targets)
    created_so s path None w = refused_turn s refusals.NoServer w
    created_so s path (Some targets) w =
        begins_new_so s (create_plan (next_stamp s.durable) s.durable.next_handle targets req) (waits.Extend path s.durable.next_handle) w (create_so P (next_stamp s.durable) s.durable.next_handle targets req)

    extended_at_so : (config : Config) (s : State) (path : Path) (chunks : List ℕ) (index : ℕ) → W s → So s (extended_at config s req path chunks index)
    extended_at_so config s path chunks index w =
        let makes = created_on s req path (targets_for config (counted_views s) [] config.replicas) in
        pick (So s) (nat_lt index (length chunks)) (looked_up s req (location s.durable (found_chunk (Some (File chunks)) index)))
        (if nat_lt (length chunks) index || nat_le most_chunks index then refused s req refusals.Range else makes)
        (looked_so s (location s.durable (found_chunk (Some (File chunks)) index)) w)
        (pick (So s) (nat_lt (length chunks) index || nat_le most_chunks index) (refused s req refusals.Range) makes (refused_turn s refusals.Range w)
        (created_so s path (targets_for config (counted_views s) [] config.replicas) w))

    extends_so : (config : Config) (s : State) (path : Path) (index : ℕ) (entry : Option (Entry ℕ)) → W s → So s (extends config s req path index entry)
    extends_so config s path index None w = refused_turn s refusals.NotFound w
    extends_so config s path index (Some Dir) w = refused_turn s refusals.IsADirectory w
    extends_so config s path index (Some (File chunks)) w = extended_at_so config s path chunks index w

    begins_snapshot_so : (s : State) (from to : Path) (many : List ℕ) → W s → So s (begins_snapshot s req from to many)
    begins_snapshot_so s from to [] w = edited_so s (Snapshot from to) answers.Nothing w
    begins_snapshot_so s from to (chunk ∷ chunks) w =
        let wait = turned s (begin_pending req (waits.Snapshot from to)) in
        let begin : State → Turn = λ next. all_begun next (chunk ∷ chunks) purposes.Quiet (Some req) in
        let all = if_room s (and_then wait begin) (refused s req refusals.Full) in
        let first = planned P s (begin_pending req (waits.Snapshot from to)) w (pending_so P req is (waits.Snapshot from to)) in
        pick (So s) (list_any (is_wanted_at s) (chunk ∷ chunks)) (refused s req refusals.Locked)
        (if not (has_versions s.durable (length (chunk ∷ chunks))) then refused s req refusals.Exhausted else all)
        (refused_turn s refusals.Locked w)
        (pick (So s) (not (has_versions s.durable (length (chunk ∷ chunks)))) (refused s req refusals.Exhausted) all (refused_turn s refusals.Exhausted w)
        (room_so s (and_then wait begin) w (then_so s wait begin first (all_begun_so (chunk ∷ chunks) purposes.Quiet (Some req) wait.after first.waits))))

    snapshot_if_so : (s : State) (from to : Path) (rows : Result (Rows ℕ) Refusal) → W s → So s (snapshot_if s req from to rows)
    snapshot_if_so s from to (Ok rows) w = begins_snapshot_so s from to (unquiet s from) w
    snapshot_if_so s from to (Err refusal) w = refused_turn s refusal w

    replicated_to_so : (s : State) (chunk : ℕ) (targets : Option (List ℕ)) → W s → So s (replicated_to s req chunk targets)
    replicated_to_so s chunk None w = refused_turn s refusals.NoServer w
    replicated_to_so s chunk (Some []) w = refused_turn s refusals.NoServer w
    replicated_to_so s chunk (Some (target ∷ targets)) w =
        begins_so s (begin_at s chunk (purposes.Copy target) (Some req)) (waits.Replicate chunk target) w (begin_so P s chunk (purposes.Copy target) (Some req))

    replicates_so : (config : Config) (s : State) (chunk : ℕ) (c : Option Chunk) → W s → So s (replicates_chunk config s req chunk c)
    replicates_so config s chunk None w = refused_turn s refusals.NoReplica w
    replicates_so config s chunk (Some c) w =
        pick (So s) (is_wanted c) (refused s req refusals.Locked) (replicated_to s req chunk (targets_for config (counted_views s) (members_of c) 1)) (refused_turn s refusals.Locked w)
        (replicated_to_so s chunk (targets_for config (counted_views s) (members_of c) 1) w)

    most_so : (config : Config) (s : State) (chunk : Option ℕ) → W s → So s (replicates_most config s req chunk)
    most_so config s None w = answered_turn s (answers.Copied None) w
    most_so config s (Some chunk) w = replicates_so config s chunk (chunk_at s chunk) w

  -- ---- several calls that have waited

  all_ended_so : (reqs : List ReqId) (refusal : Refusal) (s : State) → AllByRecursion P reqs → W s → So s (all_ended_by s reqs refusal)
  all_ended_so [] refusal s all w = nothing s None w
  all_ended_so (req ∷ reqs) refusal s all w =
      let first = ended_turn req all.0 s refusal w in then_so s (ended_by s req refusal) (λ next. all_ended_by next reqs refusal) first (all_ended_so reqs refusal (ended_by s req refusal).after all.1 first.waits)

  module _ (req : ReqId) (is : P req) where
    scanned_so : (s : State) (removed : List Path) (forgotten : List ℕ) → W s → So s (scanned s req removed forgotten)
    scanned_so s removed forgotten w =
        let scan = turned s (scan_plan removed forgotten) in
        let ended : State → Turn = λ next. all_ended_by next (waiting_for s forgotten) refusals.NoReplica in
        let answer : State → Turn = λ next. answered_with next req (answers.Scanned (length removed) (length forgotten)) in
        let first = planned P s (scan_plan removed forgotten) w (scan_so P (req, is) removed forgotten) in
        let waiting = requests_so P (filter (λ (p : Pending). waits_for_any forgotten p.waits) s.volatile.pending) (some_so P (λ (p : Pending). waits_for_any forgotten p.waits) s.volatile.pending w) in
        let second = then_so s scan ended first (all_ended_so (waiting_for s forgotten) refusals.NoReplica scan.after waiting first.waits) in
        room_so req is s (and_then (and_then scan ended) answer) w
        (then_so s (and_then scan ended) answer second (answered_turn req is (and_then scan ended).after (answers.Scanned (length removed) (length forgotten)) second.waits))

    -- ---- calls of an upgrade

    unless_so : (refusal : Option Refusal) (s : State) (t : Turn) → W s → So s t → So s (unless refusal s req t)
    unless_so None s t w a = room_so req is s t w a
    unless_so (Some refusal) s t w a = refused_turn req is s refusal w

    accepted_turn : (s u : State) (records : List PlainEntry) (before : List Change) (sent : List Message) (epoch : ℕ) → W s → AreEntries P records → AreChanges P before → SaidSo P sent → So s (turned s (accepted_plan s req records before sent epoch))
    accepted_turn s u records before sent epoch w are so said = planned P s (accepted_plan s req records before sent epoch) w (accepted_so P req is s records before sent epoch are so said)

    begin_prepare_so : (s : State) → W s → So s (prepare_begin s req)
    begin_prepare_so s w =
        let many = all_unquiet s in
        let ended = all_ended_by s (requests_of s.volatile.pending) refusals.Preparing in
        let begin : State → Turn = λ next. all_begun next many purposes.Quiet None in
        let accept : State → Turn = λ next. turned next (accepted_plan next req [] (changes.Prepare true ∷ []) [] s.durable.epoch) in
        let first = all_ended_so (requests_of s.volatile.pending) refusals.Preparing s (requests_so P s.volatile.pending w) w in
        let second = then_so s ended begin first (all_begun_so many purposes.Quiet None ended.after first.waits) in
        unless_so (first_of (begin_tests s.durable.phase s.volatile.is_preparing s.volatile.pending (not (has_versions s.durable (length many))))) s (and_then (and_then ended begin) accept) w
        (then_so s (and_then ended begin) accept second (accepted_turn (and_then ended begin).after s [] (changes.Prepare true ∷ []) [] s.durable.epoch second.waits tt (tt, tt) tt))

    commit_prepare_so : (config : Config) (s : State) (moment : Moment) → W s → So s (prepare_commit config s req moment)
    commit_prepare_so config s moment w =
        unless_so (first_of (commit_tests s.durable.phase s.volatile.is_preparing (all_unquiet s) (is_last_epoch s.durable))) s _ w
        (accepted_turn s s (Prepare (s.durable.epoch + 1) moment.0 (chunk_count s) ∷ []) (changes.Prepare false ∷ []) (tell_all config (s.durable.epoch + 1) ends.Prepare) (s.durable.epoch + 1) w ((req, is), tt) (tt, tt) (all_told P config (s.durable.epoch + 1) ends.Prepare))

    abort_so : (s : State) → W s → So s (prepare_abort s req)
    abort_so s w =
        pick (So s) s.volatile.is_preparing (turned s (accepted_plan s req [] (changes.Prepare false ∷ []) [] s.durable.epoch)) (refused s req refusals.NotUpgrading)
        (accepted_turn s s [] (changes.Prepare false ∷ []) [] s.durable.epoch w tt (tt, tt) tt) (refused_turn req is s refusals.NotUpgrading w)

    finalize_so : (config : Config) (s : State) → W s → So s (finalize config s req)
    finalize_so config s w =
        unless_so (first_of (end_tests s.durable.phase (is_last_epoch s.durable))) s _ w
        (accepted_turn s s (Finalize (s.durable.epoch + 1) ∷ []) [] (tell_all config (s.durable.epoch + 1) ends.Finalize) (s.durable.epoch + 1) w ((req, is), tt) tt (all_told P config (s.durable.epoch + 1) ends.Finalize))

    rollback_so : (config : Config) (s : State) → W s → So s (rollback_begin config s req)
    rollback_so config s w =
        let plan : Plan = record { records = RollbackBegin (s.durable.epoch + 1) ∷ []; changes = []; sent = []; said = None } in
        let ended : State → Turn = λ next. all_ended_by next (requests_of s.volatile.pending) refusals.RollingBack in
        let accept : State → Turn = λ next. turned next (accepted_plan next req [] [] (tell_all config (s.durable.epoch + 1) ends.Rollback) (s.durable.epoch + 1)) in
        let both = and_then (turned s plan) ended in
        let first = planned P s plan w (record { records = ((req, is), tt); changes = tt; sent = tt }) in
        let second = then_so s (turned s plan) ended first (all_ended_so (requests_of s.volatile.pending) refusals.RollingBack (turned s plan).after (requests_so P s.volatile.pending w) first.waits) in
        unless_so (first_of (end_tests s.durable.phase (is_last_epoch s.durable))) s (and_then both accept) w
        (then_so s both accept second (accepted_turn both.after s [] [] (tell_all config (s.durable.epoch + 1) ends.Rollback) (s.durable.epoch + 1) second.waits tt tt (all_told P config (s.durable.epoch + 1) ends.Rollback)))

    commit_if_so : (s : State) (names : NamesView) (lacking : Option ℕ) → W s → So s (commit_if s req names lacking)
    commit_if_so s names (Some chunk) w = refused_turn req is s (refusals.Unrestored chunk) w
    commit_if_so s names None w =
        let records = RollbackCommit s.durable.epoch (answers_for (prepared_view s.durable) (told_of s) (fin.entries names.refs)) ∷ [] in
        room_so req is s (turned s (accepted_plan s req records (changes.RolledBack ∷ []) [] s.durable.epoch)) w (accepted_turn s s records (changes.RolledBack ∷ []) [] s.durable.epoch w ((req, is), tt) (tt, tt) tt)

    commit_on_so : (s : State) (names : Option NamesView) → W s → So s (commit_on s req names)
    commit_on_so s None w = refused_turn req is s refusals.BadLine w
    commit_on_so s (Some names) w = commit_if_so s names (unrestored (prepared_view s.durable) (told_of s) (fin.entries names.refs)) w

    -- ---- all calls

    called_so : (config : Config) (s : State) (moment : Moment) (call : Call) → W s → So s (called config s req moment call)
    called_so config s moment (calls.Mkdirs path) w = edited_so req is s (Mkdirs path) answers.Nothing w
    called_so config s moment (calls.Create path) w = edited_so req is s (Create path) answers.Nothing w
    called_so config s moment (calls.Rename from to) w = edit_if_so req is s (Rename from (target_of (fin.get s.durable.names.tree) from to)) answers.Nothing (edited_names (Rename from to) s.durable.names) w
    called_so config s moment (calls.Delete path recursive) w = deleted_so req is s path recursive moment w
    called_so config s moment (calls.Undelete path) w = edited_so req is s (Unhide path) (answers.Path (unhide_target path (old_name path))) w
    called_so config s moment (calls.Snapshot from to) w = snapshot_if_so req is s from to (edited (edits.Snapshot from to) (fin.entries s.durable.names.tree)) w
    called_so config s moment (calls.List path) w = looked_so req is s (listing (fin.entries s.durable.names.tree) path (fin.get s.durable.names.tree path)) w
    called_so config s moment (calls.Status path) w = looked_so req is s (status s.durable (fin.get s.durable.names.tree path)) w
    called_so config s moment (calls.FindForReading path index) w = looked_so req is s (location s.durable (found_chunk (fin.get s.durable.names.tree path) index)) w
    called_so config s moment (calls.FindForWriting path index stamp) w = found_so req is s path index stamp moment (found_chunk (fin.get s.durable.names.tree path) index) w
    called_so config s moment (calls.Extend path index) w = extends_so req is config s path index (fin.get s.durable.names.tree path) w
    called_so config s moment calls.Scan w = scanned_so s (removed_paths moment.0 (fin.entries s.durable.names.tree)) (forgotten_chunks moment.0 (fin.entries s.durable.names.tree) (fin.entries s.durable.names.refs)) w
    called_so config s moment calls.Replicate w = most_so req is config s (most_needed_of config.replicas (needs_of s)) w
    called_so config s moment calls.Query w = answered_turn req is s (answers.Phase (told_phase s.volatile.is_preparing s.durable.phase) s.durable.epoch) w
    called_so config s moment calls.PrepareBegin w = begin_prepare_so s w
    called_so config s moment calls.PrepareCommit w = commit_prepare_so config s moment w
    called_so config s moment calls.PrepareAbort w = abort_so s w
    called_so config s moment calls.Finalize w = finalize_so config s w
    called_so config s moment calls.RollbackBegin w = rollback_so config s w
    called_so config s moment calls.RollbackCommit w =
        pick (So s) (is_rolling s.durable.phase) (commit_on s req (all_undone s.durable.inverses s.durable.names)) (refused s req refusals.NotUpgrading)
        (commit_on_so s (all_undone s.durable.inverses s.durable.names) w) (refused_turn req is s refusals.NotUpgrading w)

    unless_called : (config : Config) (s : State) (moment : Moment) (call : Call) (refusal : Option Refusal) → W s → So s (called_unless config s req moment call refusal)
    unless_called config s moment call None w = called_so config s moment call w
    unless_called config s moment call (Some refusal) w = refused_turn req is s refusal w

    taken_so : (config : Config) (s : State) (moment : Moment) (call : Call) (how : Numbered) → W s → So s (taken_as config s req moment call how)
    taken_so config s moment call New w = unless_called config s moment call (refused_before s req call) w
    taken_so config s moment call (Again result) w = replied_so req is s result w
    taken_so config s moment call Older w = replied_so req is s (Err refusals.Old) w

    call_so : (config : Config) (s : State) (moment : Moment) (call : Call) → W s → So s (call_turn config s req moment call)
    call_so config s moment call w =
        let taken = taken_as config s req moment call (numbered (last_reply s req.client) req.number) in
        let device = replied_so req is s (Err refusals.Device) w in
        pick (So s) (is_unopened s.fault) (replied_again s req (Err refusals.Device)) (if is_pending s.volatile.pending req then waits_still s req else taken)
        device
        (pick (So s) (is_pending s.volatile.pending req) (waits_still s req) taken
        (pick (So s) (is_failed s.fault) (replied_again s req (Err refusals.Device)) (unmoved s) device (nothing s None w))
        (taken_so config s moment call (numbered (last_reply s req.client) req.number) w))

    -- ---- how a call that has waited goes on

    leased_next_so : (path : Path) (index chunk : ℕ) (s : State) → W s → So s (leased_next req path index chunk s)
    leased_next_so path index chunk s w =
        let plan : Plan = waits_on (begin_at s chunk purposes.Lease (Some req)) req (waits.Lease path index chunk) in
        let begin = if_room_for s req (turned s plan) in
        pick (So s) (not (may_begin s.durable.phase)) (ended_by s req refusals.RollingBack) (if not (has_versions s.durable 1) then ended_by s req refusals.Exhausted else begin) (ended_turn req is s refusals.RollingBack w)
        (pick (So s) (not (has_versions s.durable 1)) (ended_by s req refusals.Exhausted) begin (ended_turn req is s refusals.Exhausted w)
        (for_room_so req is s (turned s plan) w (planned P s plan w (waits_further P req is (begin_at s chunk purposes.Lease (Some req)) (waits.Lease path index chunk) (begin_so P s chunk purposes.Lease (Some req))))))

    where_so : (s : State) (path : Path) (index old : ℕ) (quiet : Option View) → W s → So s (copied_where s req path index old quiet)
    where_so s path index old None w = ended_turn req is s refusals.NoReplica w
    where_so s path index old (Some view) w =
        let copy = copy_plan (next_stamp s.durable) old view s.durable.next_handle req in
        let plan : Plan = waits_on copy req (waits.Copy path index old s.durable.next_handle) in
        for_room_so req is s (turned s plan) w (planned P s plan w (waits_further P req is copy (waits.Copy path index old s.durable.next_handle) (copy_so P (next_stamp s.durable) old view s.durable.next_handle req)))

    copied_so : (s : State) (path : Path) (index old : ℕ) → W s → So s (copied s req path index old)
    copied_so s path index old w =
        let copy = copied_where s req path index old (quiet_view_at s old) in
        let left = has_handle s.durable && has_versions s.durable 1 in
        pick (So s) (not (may_begin s.durable.phase)) (ended_by s req refusals.RollingBack) (if not left then ended_by s req refusals.Exhausted else copy) (ended_turn req is s refusals.RollingBack w)
        (pick (So s) (not left) (ended_by s req refusals.Exhausted) copy (ended_turn req is s refusals.Exhausted w) (where_so s path index old (quiet_view_at s old) w))

    edit_turn_so : (s : State) (edit : PlainEdit) (answer : Answer) (before : List Change) (names : Result NamesView Refusal) → AreChanges P before → W s → So s (edit_turn s req (edit_plan req edit answer before) names)
    edit_turn_so s edit answer before (Ok names) so w = for_room_so req is s (turned s (edit_plan req edit answer before)) w (planned P s (edit_plan req edit answer before) w (edit_so P req is edit answer before so))
    edit_turn_so s edit answer before (Err refusal) so w = ended_turn req is s refusal w

    replaced_so : (path : Path) (index old new : ℕ) (names : Result NamesView Refusal) (s : State) → W s → So s (replaced_if s req path index old new names)
    replaced_so path index old new (Ok names) s w =
        let t = turned s (replace_plan path index old new) in
        let first = planned P s (replace_plan path index old new) w (replace_so P (req, is) path index old new) in
        pick (So s) (fits s.log (Edited own_request (Cow path index old new) ∷ [])) (and_then t (leased_next req path index new)) (ended_by s req refusals.Full)
        (then_so s t (leased_next req path index new) first (leased_next_so path index new t.after first.waits)) (ended_turn req is s refusals.Full w)
    replaced_so path index old new (Err refusal) s w = ended_turn req is s refusal w

    ended_with_so : (s : State) (answer : Answer) → W s → So s (ended_with s req answer)
    ended_with_so s answer w = planned P s (end_plan s req answer) w (end_plan_so P req is s answer)

    goes_on_so : (s : State) (view : View) (waiting : Waiting) → W s → So s (goes_on s req view waiting)
    unfolding goes_on
    goes_on_so s view (waits.Extend path new) w = edit_turn_so s (AddChunk path new) (answers.Location new view s.durable.epoch) (changes.Place new ∷ []) (edited_names (AddChunk path new) s.durable.names) (tt, tt) w
    goes_on_so s view (waits.Lease path index found) w = ended_with_so s (answers.Location found view s.durable.epoch) w
    goes_on_so s view (waits.Quiet path index quiet) w = copied_so s path index quiet w
    goes_on_so s view (waits.Copy path index old new) w = replaced_so path index old new (edited_names (Cow path index old new) s.durable.names) s w
    goes_on_so s view (waits.Snapshot from to) w =
        pick (So s) (list_all (is_quiet_at s) (source_chunks s from)) (ended_by_edit s req (Snapshot from to) answers.Nothing []) (unmoved s)
        (edit_turn_so s (Snapshot from to) answers.Nothing [] (edited_names (Snapshot from to) s.durable.names) tt w) (nothing s None w)
    goes_on_so s view (waits.Replicate chunk target) w =
        let done = answers.Copied (Some (record { handle = chunk; server = target })) in
        pick (So s) (is_member view.members target) (ended_with s req done) (ended_by s req refusals.NoReplica) (ended_with_so s done w) (ended_turn req is s refusals.NoReplica w)

  all_go_on_so : (view : View) (calls : List Pending) (s : State) → AllIn P calls → W s → So s (all_go_on view calls s)
  all_go_on_so view [] s all w = nothing s None w
  all_go_on_so view (p ∷ calls) s all w =
      let first = goes_on_so p.req all.0 s view p.waits w in then_so s (goes_on s p.req view p.waits) (all_go_on view calls) first (all_go_on_so view calls (goes_on s p.req view p.waits).after all.1 first.waits)

  -- ---- settling

  concerned_so : (s : State) (chunk : ℕ) (call : Option ReqId) → W s → AllIn P (concerned s chunk call)
  concerned_so s chunk call w = some_so P (λ (p : Pending). is_call p.req call || is_copied_by s chunk p.waits) s.volatile.pending w

  all_refused_so : (s : State) (chunk : ℕ) (call : Option ReqId) (refusal : Refusal) → W s → So s (all_refused s chunk call refusal)
  all_refused_so s chunk call refusal w = all_ended_so (requests_of (concerned s chunk call)) refusal s (requests_so P (concerned s chunk call) (concerned_so s chunk call w)) w

  settled_on_so : (s : State) (chunk : ℕ) (asking : Asking) (carried : Bool) (view : View) → W s → So s (settled_on s chunk asking carried view)
  settled_on_so s chunk asking carried view w =
      let records = settling s.durable.phase (prepared_view s.durable chunk) carried chunk asking view in
      let t = turned s (settle_plan records chunk view) in
      let calls = concerned s chunk asking.call in
      let first = planned P s (settle_plan records chunk view) w (settle_so P s chunk asking carried view) in
      pick (So s) (fits s.log records) (and_then t (all_go_on view calls)) (all_refused s chunk asking.call refusals.Full)
      (then_so s t (all_go_on view calls) first (all_go_on_so view calls t.after (concerned_so s chunk asking.call w) first.waits)) (all_refused_so s chunk asking.call refusals.Full w)

  settled_if_so : (s : State) (chunk : ℕ) (asking : Asking) (carried : Bool) (view : Option View) → W s → So s (settled_if s chunk asking carried view)
  settled_if_so s chunk asking carried None w = nothing s None w
  settled_if_so s chunk asking carried (Some view) w = settled_on_so s chunk asking carried view w

  settled_by_so : (s : State) (chunk : ℕ) (c : Chunk) (asking : Asking) (carried : Bool) (by : Poll) (moment : Moment) → W s → So s (settled_by s chunk c asking carried by moment)
  unfolding settled_by
  settled_by_so s chunk c asking carried by moment w = settled_if_so s chunk asking carried (view_by c asking by moment) w

  -- ---- messages of servers

  stepped_so : (s : State) (chunk : ℕ) (c : Chunk) (asking : Asking) (carried : Bool) (moment : Moment) (step : Step) → W s → So s (stepped s chunk c asking carried moment step)
  stepped_so s chunk c asking carried moment steps.Wait w = nothing s None w
  stepped_so s chunk c asking carried moment (steps.Send source target) w =
      let with_sealed = is_with_sealed s.durable.phase (prepared_view s.durable chunk) source in planned P s (send_plan chunk asking source target with_sealed) w (send_so P chunk asking source target with_sealed)
  stepped_so s chunk c asking carried moment (steps.Settle by) w = settled_by_so s chunk c asking carried by moment w
  stepped_so s chunk c asking carried moment steps.Fail w = all_refused_so s chunk asking.call refusals.NoReplica w

  heard_so : (s : State) (chunk : ℕ) (c : Chunk) (asking : Asking) (carried : Bool) (moment : Moment) (step : Step) → W s → So s (heard s chunk c asking carried moment step)
  heard_so s chunk c asking carried moment step w =
      let first = planned P s (ask_plan chunk asking) w (ask_so P chunk asking) in
      then_so s (turned s (ask_plan chunk asking)) (λ next. stepped next chunk c asking carried moment step) first (stepped_so (turned s (ask_plan chunk asking)).after chunk c asking carried moment step first.waits)

  promised_for_so : (s : State) (server chunk : ℕ) (stamp : Stamp) (count : ℕ) (carried : Bool) (moment : Moment) (c : Chunk) (asking : Option Asking) → W s → So s (promised_for s server chunk stamp count carried moment c asking)
  promised_for_so s server chunk stamp count carried moment c None w = nothing s None w
  promised_for_so s server chunk stamp count carried moment c (Some asking) w =
      pick (So s) (hears asking stamp server) (heard s chunk c (heard_yes asking server count) (carried && is_target asking server) moment (step_of_yes asking server count)) (unmoved s)
      (heard_so s chunk c (heard_yes asking server count) (carried && is_target asking server) moment (step_of_yes asking server count) w) (nothing s None w)

  promised_at_so : (s : State) (server chunk : ℕ) (stamp : Stamp) (count : ℕ) (carried : Bool) (moment : Moment) (c : Option Chunk) → W s → So s (promised_at s server chunk stamp count carried moment c)
  promised_at_so s server chunk stamp count carried moment None w = nothing s None w
  promised_at_so s server chunk stamp count carried moment (Some c) w = promised_for_so s server chunk stamp count carried moment c c.asking w

  unpromised_for_so : (s : State) (server chunk : ℕ) (stamp : Stamp) (moment : Moment) (c : Chunk) (asking : Option Asking) → W s → So s (unpromised_for s server chunk stamp moment c asking)
  unpromised_for_so s server chunk stamp moment c None w = nothing s None w
  unpromised_for_so s server chunk stamp moment c (Some asking) w =
      pick (So s) (hears asking stamp server) (heard s chunk c (heard_no asking server) false moment (step_of_no asking server)) (unmoved s)
      (heard_so s chunk c (heard_no asking server) false moment (step_of_no asking server) w) (nothing s None w)

  unpromised_at_so : (s : State) (server chunk : ℕ) (stamp : Stamp) (moment : Moment) (c : Option Chunk) → W s → So s (unpromised_at s server chunk stamp moment c)
  unpromised_at_so s server chunk stamp moment None w = nothing s None w
  unpromised_at_so s server chunk stamp moment (Some c) w = unpromised_for_so s server chunk stamp moment c c.asking w

  end_so : (server epoch : ℕ) (end : Option EpochEnd) → SaidSo P (end_told server epoch end)
  end_so server epoch None = tt
  end_so server epoch (Some end) = (tt, tt)

  next_so : (s : State) (server epoch : ℕ) → W s → So s (sends s (next_epoch s.durable server epoch))
  next_so s server epoch w = still s (next_epoch s.durable server epoch) None w (end_so server epoch (slice_get s.durable.ends epoch))

  quiet_so : (many : List ℕ) (s : State) → W s → So s (made_quiet many s)
  quiet_so many s w =
      let begin = all_begun s many purposes.Quiet None in
      pick (So s) (has_versions s.durable (length many)) (if_room s begin (unmoved s)) (unmoved s) (pick (So s) (fits s.log begin.records) begin (unmoved s) (all_begun_so many purposes.Quiet None s w) (nothing s None w)) (nothing s None w)

  drops_so : (epoch server : ℕ) (replicas : List Reported) → SaidSo P (map (λ (r : Reported). about r.handle (chunks.Drop epoch r.promise) server) replicas)
  drops_so epoch server [] = tt
  drops_so epoch server (r ∷ replicas) = (tt, drops_so epoch server replicas)

  reported_so : (s : State) (server epoch : ℕ) (replicas : List Reported) → W s → So s (reported s server epoch replicas)
  reported_so s server epoch replicas w =
      let dropped = sends s (drops s server replicas) in
      let quiet = made_quiet (lost s server replicas) in
      let first = still s (drops s server replicas) None w (drops_so s.durable.epoch server (filter (λ (r : Reported). is_stray (chunk_at s r.handle) server) replicas)) in
      pick (So s) (nat_lt epoch s.durable.epoch) (sends s (next_epoch s.durable server epoch)) (if may_begin s.durable.phase && (epoch == s.durable.epoch) then reported_now s server replicas else unmoved s) (next_so s server epoch w)
      (pick (So s) (may_begin s.durable.phase && (epoch == s.durable.epoch)) (reported_now s server replicas) (unmoved s)
      (then_so s dropped quiet first (quiet_so (lost s server replicas) dropped.after first.waits)) (nothing s None w))

  learned_so : (s : State) (server epoch : ℕ) (handles : List ℕ) → W s → So s (learned s server epoch handles)
  learned_so s server epoch handles w =
      let plan : Plan = record { records = []; changes = changes.Restored server handles ∷ []; sent = []; said = None } in
      pick (So s) (nat_lt epoch s.durable.epoch) (sends s (next_epoch s.durable server epoch)) (if is_rolling s.durable.phase && (epoch == s.durable.epoch) then turned s plan else unmoved s) (next_so s server epoch w)
      (pick (So s) (is_rolling s.durable.phase && (epoch == s.durable.epoch)) (turned s plan) (unmoved s) (planned P s plan w (record { records = tt; changes = (tt, tt); sent = tt })) (nothing s None w))

  about_so : (s : State) (server chunk : ℕ) (moment : Moment) (said : Said_of_chunk) → W s → So s (about_turn s server chunk moment said)
  about_so s server chunk moment (chunks.Promised stamp count carried) w = promised_at_so s server chunk stamp count carried moment (chunk_at s chunk) w
  about_so s server chunk moment (chunks.Unpromised stamp refusal) w = unpromised_at_so s server chunk stamp moment (chunk_at s chunk) w
  about_so s server chunk moment (chunks.Renew stamp) w =
      pick (So s) (is_leased_under stamp (chunk_at s chunk) && not s.volatile.is_preparing) (sends s (about chunk (chunks.Renewed stamp (end_of moment)) server ∷ [])) (unmoved s)
      (still s (about chunk (chunks.Renewed stamp (end_of moment)) server ∷ []) None w (tt, tt)) (nothing s None w)
  about_so s server chunk moment (chunks.Bad stamp) w =
      pick (So s) (may_begin s.durable.phase && is_lost_at server (chunk_at s chunk)) (made_quiet (chunk ∷ []) s) (unmoved s) (quiet_so (chunk ∷ []) s w) (nothing s None w)
  about_so s server chunk moment said w = nothing s (Some refusals.Stray) w

  server_so : (s : State) (server : ℕ) (moment : Moment) (said : Body) → W s → So s (server_turn s server moment said)
  server_so s server moment (bodies.About chunk said) w = about_so s server chunk moment said w
  server_so s server moment (bodies.Report epoch replicas) w = reported_so s server epoch replicas w
  server_so s server moment (bodies.Learned epoch handles) w = learned_so s server epoch handles w
  server_so s server moment (bodies.Behind epoch) w = pick (So s) (nat_lt epoch s.durable.epoch) (sends s (next_epoch s.durable server epoch)) (unmoved s) (next_so s server epoch w) (nothing s None w)
  server_so s server moment said w = nothing s (Some refusals.Stray) w

  -- the call that comes is such a one
  client_so : (config : Config) (s : State) (moment : Moment) (said : Body) → ((req : ReqId) → caller_of said ≡ Some req → P req) → W s → So s (from_client config s moment said)
  client_so config s moment (bodies.Call req call) is w = call_so req (is req refl) config s moment call w
  client_so config s moment said is w = nothing s (Some refusals.Stray) w

  node_so : (config : Config) (s : State) (moment : Moment) (said : Body) (from : NodeId) → ((req : ReqId) → caller_of said ≡ Some req → P req) → W s → So s (from_node config s moment said from)
  node_so config s moment said nodes.Master is w = nothing s (Some refusals.Stray) w
  node_so config s moment said (nodes.Server server) is w = pick (So s) (is_failed s.fault) (met_by s refusals.Device) (server_turn s server moment said) (nothing s (Some refusals.Device) w) (server_so s server moment said w)
  node_so config s moment said (nodes.Client client) is w = client_so config s moment said is w

  pub message_so : (config : Config) (s : State) (message : Message) (moment : Moment) → ((req : ReqId) → caller_of message.body ≡ Some req → P req) → W s → So s (handle config s message moment)
  unfolding handle
  message_so config s message moment is w = node_so config s moment message.body message.from is w

  -- ---- a tick

  pressed_if_so : (s : State) (chunk : ℕ) (stamp : Stamp) (moment : Moment) (c : Chunk) (asking : Option Asking) → W s → So s (pressed_if s chunk stamp moment c asking)
  pressed_if_so s chunk stamp moment c None w = nothing s None w
  pressed_if_so s chunk stamp moment c (Some asking) w =
      pick (So s) (is_same asking.stamp stamp) (stepped s chunk c asking false moment (step_at_tick asking)) (unmoved s) (stepped_so s chunk c asking false moment (step_at_tick asking) w) (nothing s None w)

  pressed_at_so : (s : State) (chunk : ℕ) (stamp : Stamp) (moment : Moment) (c : Option Chunk) → W s → So s (pressed_at s chunk stamp moment c)
  pressed_at_so s chunk stamp moment None w = nothing s None w
  pressed_at_so s chunk stamp moment (Some c) w = pressed_if_so s chunk stamp moment c c.asking w

  all_pressed_so : (many : List (ℕ × Stamp)) (moment : Moment) (s : State) → W s → So s (for_each s many (pressed moment))
  all_pressed_so [] moment s w = nothing s None w
  all_pressed_so (p ∷ many) moment s w =
      let first = pressed_at_so s p.0 p.1 moment (chunk_at s p.0) w in then_so s (pressed moment p s) (λ next. for_each next many (pressed moment)) first (all_pressed_so many moment (pressed moment p s).after first.waits)

  view_so : (chunk : ℕ) (view : Option View) → SaidSo P (granted_view chunk view)
  view_so chunk None = tt
  view_so chunk (Some view) = granted_none P chunk view view.term

  granted_at_so : (chunk : ℕ) (c : Option Chunk) → SaidSo P (granted_at chunk c)
  granted_at_so chunk None = tt
  granted_at_so chunk (Some c) = by_lease (is_leased c)
    where
      by_lease : (b : Bool) → SaidSo P (if b then granted_view chunk (view_of c) else [])
      by_lease true = view_so chunk (view_of c)
      by_lease false = tt

  all_granted_so : (s : State) (many : List ℕ) → SaidSo P (flat_map (λ chunk. granted_at chunk (chunk_at s chunk)) many)
  all_granted_so s [] = tt
  all_granted_so s (chunk ∷ many) = both_so _ (granted_at chunk (chunk_at s chunk)) (flat_map (λ c. granted_at c (chunk_at s c)) many) (granted_at_so chunk (chunk_at s chunk)) (all_granted_so s many)

  -- all steps of a tick, before a checkpoint
  pub steps_so : (s : State) (moment : Moment) → W s → So s (and_then (for_each s (proposals s) (pressed moment)) granted)
  steps_so s moment w =
      let press = for_each s (proposals s) (pressed moment) in
      let first = all_pressed_so (proposals s) moment s w in
      then_so s press granted first (still press.after (flat_map (λ chunk. granted_at chunk (chunk_at press.after chunk)) (fin.keys press.after.durable.chunks)) None first.waits (all_granted_so press.after (fin.keys press.after.durable.chunks)))
