-- Each version that a call proposes is above all before it.
use Rattle.std.proofs.Common.{◌≡◌, ◌∙◌, ◌==◌, ◌&&◌, ◌||◌, ◌+◌, ◌++◌, ℕ, Bool, true, false, not, List, [], ◌∷◌, length, map, refl, ap, sym}
use Rattle.std.specs.Prelude.{nat_lt, nat_le, is_none, is_some, Option, Some, None, Result, Ok, Err, if◌then◌else◌}
use Rattle.std.specs.List.{list_all, list_any}
use Rattle.std.specs.FinMap as fin
use Rattle.std.proofs.lemmas.Bool.{false≢true}
use Rattle.gs_base.specs.declared.config.Config.{Config}
use Rattle.gs_base.specs.declared.epoch.EpochEnd.TheVariants as ends
use Rattle.gs_base.specs.declared.numbers.Moment.{Moment}
use Rattle.gs_base.specs.declared.numbers.ReqId.{ReqId}
use Rattle.gs_base.specs.declared.numbers.Stamp.{Stamp}
use Rattle.gs_base.specs.declared.refusal.Refusal.{Refusal}
use Rattle.gs_base.specs.declared.refusal.Refusal.TheVariants as refusals
use Rattle.gs_path.specs.Path.{Path}
use Rattle.gs_tree.specs.Entry.{Entry, Dir, File}
use Rattle.gs_tree.specs.Find.{Rows}
use Rattle.gs_tree.specs.Edits.{same_path, hidden_path, old_name, target_of}
use Rattle.gs_edit.specs.Edits.{edited}
use Rattle.gs_edit.specs.Plain.{unhide_target}
use Rattle.gs_edit.specs.View.{NamesView}
use Rattle.gs_edit.specs.declared.edit.Edit.TheVariants as edits
use Rattle.gs_lease.specs.declared.view.Purpose.TheVariants as purposes
use Rattle.gs_lease.specs.declared.view.View.{View}
use Rattle.gs_msg.specs.declared.answer.Answer.{Answer}
use Rattle.gs_msg.specs.declared.answer.Answer.TheVariants as answers
use Rattle.gs_msg.specs.declared.call.Call.{Call}
use Rattle.gs_msg.specs.declared.call.Call.TheVariants as calls
use Rattle.gs_place.specs.Needs.{most_needed_of}
use Rattle.gs_master_record.specs.Plain.{PlainEdit, Edited, Prepare, Finalize, RollbackBegin, RollbackCommit, Mkdirs, Create, Rename, Hide, Unhide, Snapshot}
use Rattle.gs_master_spec.specs.Beginning.{next_stamp, has_versions, has_handle, begin_at, all_begun, create_plan, copy_plan, waits_from_now, targets_for, counted_views}
use Rattle.gs_master_spec.specs.Calls.{edited_by, edit_if, accept_plan, deleted, answered_with, has_visible_child, looked_up, listing, status, location, found_chunk, refused_before, told_phase, is_shared, most_chunks, renames}
use Rattle.gs_master_spec.specs.Chunks.{Chunk, chunk_at, is_leased, is_quiet, is_wanted, view_of, members_of}
use Rattle.gs_master_spec.specs.Durable.{is_ordinary, is_rolling, prepared_view, values_left}
use Rattle.gs_master_spec.specs.Handling.{call_turn, called, called_unless, taken_as, numbered, replied_again, waits_still, Numbered, New, Again, Older}
use Rattle.gs_laws_master.proofs.lemmas.versions.Fresh.{IsFreshTurn, may_follow, same_fresh, then_fresh, test_fresh, either_fresh, turn_fresh, refused_fresh, all_ended_fresh, all_ended_same, not_false, next_follows, all_begun_fresh}
use Rattle.gs_master_spec.specs.Settling.{own_request, requests_of}
use Rattle.gs_master_spec.specs.State.{State, Plan, Turn, turned, unmoved, and_then, fits, if_room, refused, answered, all_ended_by, is_failed, is_unopened, last_reply, first_of}
use Rattle.gs_master_spec.specs.Undoing.{edited_names, all_undone}
use Rattle.gs_master_spec.specs.Upgrades.{accepted_plan, all_unquiet, begin_tests, commit_tests, end_tests, if_pending, lowest_path, pending_paths, is_last_epoch, chunk_count, tell_all, answers_for, unless, prepare_begin, prepare_commit, prepare_abort, finalize, rollback_begin, rollback_commit, commit_on, commit_if, unrestored, told_of}
use Rattle.gs_master_spec.specs.Volatile.{is_pending}
use Rattle.gs_master_spec.specs.Working.{begins, begins_new, may_use, leased, copied_on_write, written_at, found_for_writing, created_on, extended_at, extends, unquiet, is_wanted_at, begin_pending, begins_snapshot, snapshot_if, replicated_to, replicates_chunk, replicates_most, needs_of, scanned, scan_plan, scan_edits, forget_if, waiting_for, removed_paths, forgotten_chunks}
use Rattle.gs_master_spec.specs.declared.change.Change.TheVariants as changes
use Rattle.gs_master_spec.specs.declared.pending.Waiting.{Waiting}
use Rattle.gs_master_spec.specs.declared.pending.Waiting.TheVariants as waits

room_fresh : (s : State) (req : ReqId) (t : Turn) → IsFreshTurn s t → IsFreshTurn s (if_room s t (refused s req refusals.Full))
room_fresh s req t f = either_fresh s (fits s.log t.records) t (refused s req refusals.Full) f (refused_fresh req refusals.Full s)

-- ---- calls of the tree

edit_fresh : (s : State) (req : ReqId) (edit : PlainEdit) (answer : Answer) (names : Result NamesView Refusal) → IsFreshTurn s (edit_if s req edit answer names)
edit_fresh s req edit answer (Ok names) = room_fresh s req (turned s (accept_plan req edit answer)) (turn_fresh s (accept_plan req edit answer) refl)
edit_fresh s req edit answer (Err refusal) = refused_fresh req refusal s

edited_fresh : (s : State) (req : ReqId) (edit : PlainEdit) (answer : Answer) → IsFreshTurn s (edited_by s req edit answer)
edited_fresh s req edit answer = edit_fresh s req edit answer (edited_names edit s.durable.names)

renames_fresh : (s : State) (req : ReqId) (from to : Path) → IsFreshTurn s (renames s req from to)
renames_fresh s req from to = edit_fresh s req (Rename from (target_of (fin.get s.durable.names.tree) from to)) answers.Nothing (edited_names (Rename from to) s.durable.names)

answered_fresh : (s : State) (req : ReqId) (answer : Answer) → IsFreshTurn s (answered_with s req answer)
answered_fresh s req answer = turn_fresh s (answered s req answer) refl

looked_fresh : (s : State) (req : ReqId) (result : Result Answer Refusal) → IsFreshTurn s (looked_up s req result)
looked_fresh s req (Ok answer) = answered_fresh s req answer
looked_fresh s req (Err refusal) = refused_fresh req refusal s

deleted_fresh : (s : State) (req : ReqId) (path : Path) (recursive : Bool) (moment : Moment) → IsFreshTurn s (deleted s req path recursive moment)
deleted_fresh s req path recursive moment =
    let hides = edited_by s req (Hide path moment.0 s.durable.next_hidden) (answers.Path (hidden_path path moment.0 s.durable.next_hidden)) in
    let third = if s.durable.next_hidden == 0 then refused s req refusals.Exhausted else hides in
    let second = if not recursive && has_visible_child (fin.entries s.durable.names.tree) path then refused s req refusals.NotEmpty else third in
    let first = if is_none (fin.get s.durable.names.tree path) then answered_with s req answers.Absent else second in
    either_fresh s (same_path path []) (refused s req refusals.IsRoot) first (refused_fresh req refusals.IsRoot s)
    (either_fresh s (is_none (fin.get s.durable.names.tree path)) (answered_with s req answers.Absent) second (answered_fresh s req answers.Absent)
    (either_fresh s (not recursive && has_visible_child (fin.entries s.durable.names.tree) path) (refused s req refusals.NotEmpty) third (refused_fresh req refusals.NotEmpty s)
    (either_fresh s (s.durable.next_hidden == 0) (refused s req refusals.Exhausted) hides (refused_fresh req refusals.Exhausted s)
    (edited_fresh s req (Hide path moment.0 s.durable.next_hidden) (answers.Path (hidden_path path moment.0 s.durable.next_hidden))))))

-- ---- calls that begin views

-- the plan's record is looked at where a version is left
begins_fresh : (s : State) (req : ReqId) (plan : Plan) (waiting : Waiting) → (has_versions s.durable 1 ≡ true → list_all (may_follow s.durable.next_version) plan.records ≡ true) → IsFreshTurn s (begins s req plan waiting)
begins_fresh s req plan waiting h =
    test_fresh s (not (has_versions s.durable 1)) (refused s req refusals.Exhausted) (if_room s (turned s (waits_from_now plan req waiting)) (refused s req refusals.Full))
    (λ is. refused_fresh req refusals.Exhausted s)
    (λ is. room_fresh s req (turned s (waits_from_now plan req waiting)) (turn_fresh s (waits_from_now plan req waiting) (h (not_false (has_versions s.durable 1) is))))

begins_new_fresh : (s : State) (req : ReqId) (plan : Plan) (waiting : Waiting) → (has_versions s.durable 1 ≡ true → list_all (may_follow s.durable.next_version) plan.records ≡ true) → IsFreshTurn s (begins_new s req plan waiting)
begins_new_fresh s req plan waiting h =
    either_fresh s (not (has_handle s.durable)) (refused s req refusals.Exhausted) (begins s req plan waiting) (refused_fresh req refusals.Exhausted s) (begins_fresh s req plan waiting h)

leased_fresh : (s : State) (req : ReqId) (path : Path) (index : ℕ) (stamp : Option Stamp) (moment : Moment) (chunk : ℕ) (c : Chunk) → IsFreshTurn s (leased s req path index stamp moment chunk c)
leased_fresh s req path index stamp moment chunk c =
    let begin = begins s req (begin_at s chunk purposes.Lease (Some req)) (waits.Lease path index chunk) in
    either_fresh s (is_leased c && may_use stamp moment (view_of c)) (looked_up s req (location s.durable (Ok chunk))) (if is_wanted c then refused s req refusals.Locked else begin)
    (looked_fresh s req (location s.durable (Ok chunk)))
    (either_fresh s (is_wanted c) (refused s req refusals.Locked) begin (refused_fresh req refusals.Locked s)
    (begins_fresh s req (begin_at s chunk purposes.Lease (Some req)) (waits.Lease path index chunk) (next_follows s.durable.next_version chunk)))

copied_fresh : (s : State) (req : ReqId) (path : Path) (index chunk : ℕ) (c : Chunk) (view : Option View) → IsFreshTurn s (copied_on_write s req path index chunk c view)
copied_fresh s req path index chunk c None = refused_fresh req refusals.NoReplica s
copied_fresh s req path index chunk c (Some view) =
    let copy = copy_plan (next_stamp s.durable) chunk view s.durable.next_handle req in
    let begins_copy = begins_new s req copy (waits.Copy path index chunk s.durable.next_handle) in
    let begins_quiet = begins s req (begin_at s chunk purposes.Quiet (Some req)) (waits.Quiet path index chunk) in
    either_fresh s (is_wanted c) (refused s req refusals.Locked) (if is_quiet c then begins_copy else begins_quiet) (refused_fresh req refusals.Locked s)
    (either_fresh s (is_quiet c) begins_copy begins_quiet
    (begins_new_fresh s req copy (waits.Copy path index chunk s.durable.next_handle) (next_follows s.durable.next_version s.durable.next_handle))
    (begins_fresh s req (begin_at s chunk purposes.Quiet (Some req)) (waits.Quiet path index chunk) (next_follows s.durable.next_version chunk)))

written_fresh : (s : State) (req : ReqId) (path : Path) (index : ℕ) (stamp : Option Stamp) (moment : Moment) (chunk : ℕ) (c : Option Chunk) → IsFreshTurn s (written_at s req path index stamp moment chunk c)
written_fresh s req path index stamp moment chunk None = refused_fresh req refusals.NoReplica s
written_fresh s req path index stamp moment chunk (Some c) =
    either_fresh s (is_shared s.durable.names chunk) (copied_on_write s req path index chunk c (view_of c)) (leased s req path index stamp moment chunk c)
    (copied_fresh s req path index chunk c (view_of c)) (leased_fresh s req path index stamp moment chunk c)

found_fresh : (s : State) (req : ReqId) (path : Path) (index : ℕ) (stamp : Option Stamp) (moment : Moment) (chunk : Result ℕ Refusal) → IsFreshTurn s (found_for_writing s req path index stamp moment chunk)
found_fresh s req path index stamp moment (Ok chunk) = written_fresh s req path index stamp moment chunk (chunk_at s chunk)
found_fresh s req path index stamp moment (Err refusal) = refused_fresh req refusal s

created_fresh : (s : State) (req : ReqId) (path : Path) (targets : Option (List ℕ)) → IsFreshTurn s (created_on s req path targets)
created_fresh s req path None = refused_fresh req refusals.NoServer s
created_fresh s req path (Some targets) =
    begins_new_fresh s req (create_plan (next_stamp s.durable) s.durable.next_handle targets req) (waits.Extend path s.durable.next_handle) (next_follows s.durable.next_version s.durable.next_handle)

extended_fresh : (config : Config) (s : State) (req : ReqId) (path : Path) (chunks : List ℕ) (index : ℕ) → IsFreshTurn s (extended_at config s req path chunks index)
extended_fresh config s req path chunks index =
    let makes = created_on s req path (targets_for config (counted_views s) [] config.replicas) in
    either_fresh s (nat_lt index (length chunks)) (looked_up s req (location s.durable (found_chunk (Some (File chunks)) index)))
    (if nat_lt (length chunks) index || nat_le most_chunks index then refused s req refusals.Range else makes)
    (looked_fresh s req (location s.durable (found_chunk (Some (File chunks)) index)))
    (either_fresh s (nat_lt (length chunks) index || nat_le most_chunks index) (refused s req refusals.Range) makes (refused_fresh req refusals.Range s)
    (created_fresh s req path (targets_for config (counted_views s) [] config.replicas)))

extends_fresh : (config : Config) (s : State) (req : ReqId) (path : Path) (index : ℕ) (entry : Option (Entry ℕ)) → IsFreshTurn s (extends config s req path index entry)
extends_fresh config s req path index None = refused_fresh req refusals.NotFound s
extends_fresh config s req path index (Some Dir) = refused_fresh req refusals.IsADirectory s
extends_fresh config s req path index (Some (File chunks)) = extended_fresh config s req path chunks index

snapshot_fresh : (s : State) (req : ReqId) (from to : Path) (many : List ℕ) → IsFreshTurn s (begins_snapshot s req from to many)
snapshot_fresh s req from to [] = edited_fresh s req (Snapshot from to) answers.Nothing
snapshot_fresh s req from to (chunk ∷ chunks) =
    let wait = turned s (begin_pending req (waits.Snapshot from to)) in
    let begin : State → Turn = λ next. all_begun next (chunk ∷ chunks) purposes.Quiet (Some req) in
    let all = if_room s (and_then wait begin) (refused s req refusals.Full) in
    either_fresh s (list_any (is_wanted_at s) (chunk ∷ chunks)) (refused s req refusals.Locked)
    (if not (has_versions s.durable (length (chunk ∷ chunks))) then refused s req refusals.Exhausted else all)
    (refused_fresh req refusals.Locked s)
    (test_fresh s (not (has_versions s.durable (length (chunk ∷ chunks)))) (refused s req refusals.Exhausted) all (λ is. refused_fresh req refusals.Exhausted s)
    (λ is. room_fresh s req (and_then wait begin)
    (then_fresh s wait begin (turn_fresh s (begin_pending req (waits.Snapshot from to)) refl)
    (all_begun_fresh (chunk ∷ chunks) purposes.Quiet (Some req) wait.after (not_false (has_versions s.durable (length (chunk ∷ chunks))) is)))))

snapshot_if_fresh : (s : State) (req : ReqId) (from to : Path) (rows : Result (Rows ℕ) Refusal) → IsFreshTurn s (snapshot_if s req from to rows)
snapshot_if_fresh s req from to (Ok rows) = snapshot_fresh s req from to (unquiet s from)
snapshot_if_fresh s req from to (Err refusal) = refused_fresh req refusal s

replicated_fresh : (s : State) (req : ReqId) (chunk : ℕ) (targets : Option (List ℕ)) → IsFreshTurn s (replicated_to s req chunk targets)
replicated_fresh s req chunk None = refused_fresh req refusals.NoServer s
replicated_fresh s req chunk (Some []) = refused_fresh req refusals.NoServer s
replicated_fresh s req chunk (Some (target ∷ targets)) =
    begins_fresh s req (begin_at s chunk (purposes.Copy target) (Some req)) (waits.Replicate chunk target) (next_follows s.durable.next_version chunk)

replicates_fresh : (config : Config) (s : State) (req : ReqId) (chunk : ℕ) (c : Option Chunk) → IsFreshTurn s (replicates_chunk config s req chunk c)
replicates_fresh config s req chunk None = refused_fresh req refusals.NoReplica s
replicates_fresh config s req chunk (Some c) =
    either_fresh s (is_wanted c) (refused s req refusals.Locked) (replicated_to s req chunk (targets_for config (counted_views s) (members_of c) 1)) (refused_fresh req refusals.Locked s)
    (replicated_fresh s req chunk (targets_for config (counted_views s) (members_of c) 1))

most_fresh : (config : Config) (s : State) (req : ReqId) (chunk : Option ℕ) → IsFreshTurn s (replicates_most config s req chunk)
most_fresh config s req None = answered_fresh s req (answers.Copied None)
most_fresh config s req (Some chunk) = replicates_fresh config s req chunk (chunk_at s chunk)

-- a scan's edits propose nothing
forget_follows : (next : ℕ) (forgotten : List ℕ) → list_all (may_follow next) (map (Edited own_request) (forget_if forgotten)) ≡ true
forget_follows next [] = refl
forget_follows next (chunk ∷ chunks) = refl

scan_follows : (next : ℕ) (removed : List Path) (forgotten : List ℕ) → list_all (may_follow next) (map (Edited own_request) (scan_edits removed forgotten)) ≡ true
scan_follows next [] forgotten = forget_follows next forgotten
scan_follows next (path ∷ removed) forgotten = scan_follows next removed forgotten

scanned_fresh : (s : State) (req : ReqId) (removed : List Path) (forgotten : List ℕ) → IsFreshTurn s (scanned s req removed forgotten)
scanned_fresh s req removed forgotten =
    let scan = turned s (scan_plan removed forgotten) in
    let ended : State → Turn = λ next. all_ended_by next (waiting_for s forgotten) refusals.NoReplica in
    let answer : State → Turn = λ next. answered_with next req (answers.Scanned (length removed) (length forgotten)) in
    room_fresh s req (and_then (and_then scan ended) answer)
    (then_fresh s (and_then scan ended) answer
    (then_fresh s scan ended (turn_fresh s (scan_plan removed forgotten) (scan_follows s.durable.next_version removed forgotten)) (all_ended_fresh (waiting_for s forgotten) refusals.NoReplica scan.after))
    (answered_fresh (and_then scan ended).after req (answers.Scanned (length removed) (length forgotten))))

-- ---- calls of an upgrade

unless_fresh : (refusal : Option Refusal) (s : State) (req : ReqId) (t : Turn) → (refusal ≡ None → IsFreshTurn s t) → IsFreshTurn s (unless refusal s req t)
unless_fresh None s req t f = room_fresh s req t (f refl)
unless_fresh (Some refusal) s req t f = refused_fresh req refusal s

-- a prepare is begun only where versions are left
all_passed : (begun : Bool) (path : Option Path) (exhausted : Bool) → first_of ((begun, refusals.AlreadyUpgrading) ∷ (if_pending path ++ (exhausted, refusals.Exhausted) ∷ [])) ≡ None → exhausted ≡ false
all_passed true path exhausted e = absurd (false≢true (sym (ap is_some e)))
all_passed false (Some path) exhausted e = absurd (false≢true (sym (ap is_some e)))
all_passed false None true e = absurd (false≢true (sym (ap is_some e)))
all_passed false None false e = refl

begin_fresh : (s : State) (req : ReqId) → IsFreshTurn s (prepare_begin s req)
begin_fresh s req =
    let many = all_unquiet s in
    let ended = all_ended_by s (requests_of s.volatile.pending) refusals.Preparing in
    let begin : State → Turn = λ next. all_begun next many purposes.Quiet None in
    let accept : State → Turn = λ next. turned next (accepted_plan next req [] (changes.Prepare true ∷ []) [] s.durable.epoch) in
    let both = and_then ended begin in
    unless_fresh (first_of (begin_tests s.durable.phase s.volatile.is_preparing s.volatile.pending (not (has_versions s.durable (length many))))) s req
    (and_then both accept)
    (λ passed. then_fresh s both accept
    (then_fresh s ended begin (all_ended_fresh (requests_of s.volatile.pending) refusals.Preparing s) (begun_fresh many ended (all_ended_same (requests_of s.volatile.pending) refusals.Preparing s)
    (not_false (has_versions s.durable (length many)) (all_passed (s.volatile.is_preparing || not (is_ordinary s.durable.phase)) (lowest_path (pending_paths s.volatile.pending)) (not (has_versions s.durable (length many))) passed))))
    (turn_fresh both.after (accepted_plan both.after req [] (changes.Prepare true ∷ []) [] s.durable.epoch) refl))
  where
    begun_fresh : (many : List ℕ) (ended : Turn) → ended.after.durable.next_version ≡ s.durable.next_version → has_versions s.durable (length many) ≡ true → IsFreshTurn ended.after (all_begun ended.after many purposes.Quiet None)
    begun_fresh many ended same left = all_begun_fresh many purposes.Quiet None ended.after (ap (λ (n : ℕ). nat_le (length many) (values_left n)) same ∙ left)

commit_fresh : (config : Config) (s : State) (req : ReqId) (moment : Moment) → IsFreshTurn s (prepare_commit config s req moment)
commit_fresh config s req moment =
    let plan : Plan = accepted_plan s req (Prepare (s.durable.epoch + 1) moment.0 (chunk_count s) ∷ []) (changes.Prepare false ∷ []) (tell_all config (s.durable.epoch + 1) ends.Prepare) (s.durable.epoch + 1) in
    unless_fresh (first_of (commit_tests s.durable.phase s.volatile.is_preparing (all_unquiet s) (is_last_epoch s.durable))) s req (turned s plan) (λ passed. turn_fresh s plan refl)

abort_fresh : (s : State) (req : ReqId) → IsFreshTurn s (prepare_abort s req)
abort_fresh s req =
    let plan : Plan = accepted_plan s req [] (changes.Prepare false ∷ []) [] s.durable.epoch in
    either_fresh s s.volatile.is_preparing (turned s plan) (refused s req refusals.NotUpgrading) (turn_fresh s plan refl) (refused_fresh req refusals.NotUpgrading s)

finalize_fresh : (config : Config) (s : State) (req : ReqId) → IsFreshTurn s (finalize config s req)
finalize_fresh config s req =
    let plan : Plan = accepted_plan s req (Finalize (s.durable.epoch + 1) ∷ []) [] (tell_all config (s.durable.epoch + 1) ends.Finalize) (s.durable.epoch + 1) in
    unless_fresh (first_of (end_tests s.durable.phase (is_last_epoch s.durable))) s req (turned s plan) (λ passed. turn_fresh s plan refl)

rollback_fresh : (config : Config) (s : State) (req : ReqId) → IsFreshTurn s (rollback_begin config s req)
rollback_fresh config s req =
    let plan : Plan = record { records = RollbackBegin (s.durable.epoch + 1) ∷ []; changes = []; sent = []; said = None } in
    let ended : State → Turn = λ next. all_ended_by next (requests_of s.volatile.pending) refusals.RollingBack in
    let accept : State → Turn = λ next. turned next (accepted_plan next req [] [] (tell_all config (s.durable.epoch + 1) ends.Rollback) (s.durable.epoch + 1)) in
    let both = and_then (turned s plan) ended in
    unless_fresh (first_of (end_tests s.durable.phase (is_last_epoch s.durable))) s req (and_then both accept)
    (λ passed. then_fresh s both accept (then_fresh s (turned s plan) ended (turn_fresh s plan refl) (all_ended_fresh (requests_of s.volatile.pending) refusals.RollingBack (turned s plan).after))
    (turn_fresh both.after (accepted_plan both.after req [] [] (tell_all config (s.durable.epoch + 1) ends.Rollback) (s.durable.epoch + 1)) refl))

commit_if_fresh : (s : State) (req : ReqId) (names : NamesView) (lacking : Option ℕ) → IsFreshTurn s (commit_if s req names lacking)
commit_if_fresh s req names (Some chunk) = refused_fresh req (refusals.Unrestored chunk) s
commit_if_fresh s req names None =
    let plan : Plan = accepted_plan s req (RollbackCommit s.durable.epoch (answers_for (prepared_view s.durable) (told_of s) (fin.entries names.refs)) ∷ []) (changes.RolledBack ∷ []) [] s.durable.epoch in
    room_fresh s req (turned s plan) (turn_fresh s plan refl)

commit_on_fresh : (s : State) (req : ReqId) (names : Option NamesView) → IsFreshTurn s (commit_on s req names)
commit_on_fresh s req None = refused_fresh req refusals.BadLine s
commit_on_fresh s req (Some names) = commit_if_fresh s req names (unrestored (prepared_view s.durable) (told_of s) (fin.entries names.refs))

rolled_fresh : (s : State) (req : ReqId) → IsFreshTurn s (rollback_commit s req)
rolled_fresh s req =
    either_fresh s (is_rolling s.durable.phase) (commit_on s req (all_undone s.durable.inverses s.durable.names)) (refused s req refusals.NotUpgrading)
    (commit_on_fresh s req (all_undone s.durable.inverses s.durable.names)) (refused_fresh req refusals.NotUpgrading s)

-- ---- all calls

called_fresh : (config : Config) (s : State) (req : ReqId) (moment : Moment) (call : Call) → IsFreshTurn s (called config s req moment call)
called_fresh config s req moment (calls.Mkdirs path) = edited_fresh s req (Mkdirs path) answers.Nothing
called_fresh config s req moment (calls.Create path) = edited_fresh s req (Create path) answers.Nothing
called_fresh config s req moment (calls.Rename from to) = renames_fresh s req from to
called_fresh config s req moment (calls.Delete path recursive) = deleted_fresh s req path recursive moment
called_fresh config s req moment (calls.Undelete path) = edited_fresh s req (Unhide path) (answers.Path (unhide_target path (old_name path)))
called_fresh config s req moment (calls.Snapshot from to) = snapshot_if_fresh s req from to (edited (edits.Snapshot from to) (fin.entries s.durable.names.tree))
called_fresh config s req moment (calls.List path) = looked_fresh s req (listing (fin.entries s.durable.names.tree) path (fin.get s.durable.names.tree path))
called_fresh config s req moment (calls.Status path) = looked_fresh s req (status s.durable (fin.get s.durable.names.tree path))
called_fresh config s req moment (calls.FindForReading path index) = looked_fresh s req (location s.durable (found_chunk (fin.get s.durable.names.tree path) index))
called_fresh config s req moment (calls.FindForWriting path index stamp) = found_fresh s req path index stamp moment (found_chunk (fin.get s.durable.names.tree path) index)
called_fresh config s req moment (calls.Extend path index) = extends_fresh config s req path index (fin.get s.durable.names.tree path)
called_fresh config s req moment calls.Scan =
    scanned_fresh s req (removed_paths moment.0 (fin.entries s.durable.names.tree)) (forgotten_chunks moment.0 (fin.entries s.durable.names.tree) (fin.entries s.durable.names.refs))
called_fresh config s req moment calls.Replicate = most_fresh config s req (most_needed_of config.replicas (needs_of s))
called_fresh config s req moment calls.Query = answered_fresh s req (answers.Phase (told_phase s.volatile.is_preparing s.durable.phase) s.durable.epoch)
called_fresh config s req moment calls.PrepareBegin = begin_fresh s req
called_fresh config s req moment calls.PrepareCommit = commit_fresh config s req moment
called_fresh config s req moment calls.PrepareAbort = abort_fresh s req
called_fresh config s req moment calls.Finalize = finalize_fresh config s req
called_fresh config s req moment calls.RollbackBegin = rollback_fresh config s req
called_fresh config s req moment calls.RollbackCommit = rolled_fresh s req

unless_called : (config : Config) (s : State) (req : ReqId) (moment : Moment) (call : Call) (refusal : Option Refusal) → IsFreshTurn s (called_unless config s req moment call refusal)
unless_called config s req moment call None = called_fresh config s req moment call
unless_called config s req moment call (Some refusal) = refused_fresh req refusal s

replied_fresh : (s : State) (req : ReqId) (result : Result Answer Refusal) → IsFreshTurn s (replied_again s req result)
replied_fresh s req result = record { fresh = refl; later = λ n given. given }

taken_fresh : (config : Config) (s : State) (req : ReqId) (moment : Moment) (call : Call) (how : Numbered) → IsFreshTurn s (taken_as config s req moment call how)
taken_fresh config s req moment call New = unless_called config s req moment call (refused_before s req call)
taken_fresh config s req moment call (Again result) = replied_fresh s req result
taken_fresh config s req moment call Older = replied_fresh s req (Err refusals.Old)

pub call_fresh : (config : Config) (s : State) (req : ReqId) (moment : Moment) (call : Call) → IsFreshTurn s (call_turn config s req moment call)
call_fresh config s req moment call =
    let taken = taken_as config s req moment call (numbered (last_reply s req.client) req.number) in
    let device = replied_fresh s req (Err refusals.Device) in
    either_fresh s (is_unopened s.fault) (replied_again s req (Err refusals.Device)) (if is_pending s.volatile.pending req then waits_still s req else taken)
    device
    (either_fresh s (is_pending s.volatile.pending req) (waits_still s req) taken
    (either_fresh s (is_failed s.fault) (replied_again s req (Err refusals.Device)) (unmoved s) device (same_fresh s))
    (taken_fresh config s req moment call (numbered (last_reply s req.client) req.number)))
