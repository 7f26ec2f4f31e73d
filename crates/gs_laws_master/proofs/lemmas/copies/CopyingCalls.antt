-- The copies on write that a call begins are of chunks at rest.
use Rattle.std.proofs.Common.{◌≡◌, arith, ◌∙◌, ◌==◌, ◌&&◌, ◌||◌, ◌+◌, ◌++◌, ℕ, Bool, true, false, not, List, [], ◌∷◌, length, refl, ap, sym}
use Rattle.std.specs.Prelude.{nat_lt, nat_le, is_none, is_some, Option, Some, None, Result, Ok, Err, if◌then◌else◌}
use Rattle.std.specs.List.{list_all, list_any}
use Rattle.std.specs.FinMap as fin
use Rattle.std.proofs.lemmas.Bool.{false≢true}
use Rattle.gs_base.specs.declared.config.Config.{Config}
use Rattle.gs_base.specs.declared.epoch.EpochEnd.TheVariants as ends
use Rattle.gs_base.specs.declared.numbers.Moment.{Moment}
use Rattle.gs_base.specs.declared.numbers.ReqId.{ReqId}
use Rattle.gs_base.specs.declared.numbers.Stamp.{Stamp}
use Rattle.gs_base.specs.declared.refusal.Refusal.{Refusal}
use Rattle.gs_base.specs.declared.refusal.Refusal.TheVariants as refusals
use Rattle.gs_path.specs.Path.{Path}
use Rattle.gs_tree.specs.Entry.{Entry, Dir, File}
use Rattle.gs_tree.specs.Find.{Rows}
use Rattle.gs_tree.specs.Edits.{same_path, hidden_path, old_name, target_of}
use Rattle.gs_edit.specs.Edits.{edited}
use Rattle.gs_edit.specs.Plain.{unhide_target}
use Rattle.gs_edit.specs.View.{NamesView}
use Rattle.gs_edit.specs.declared.edit.Edit.TheVariants as edits
use Rattle.gs_lease.specs.declared.view.Purpose.TheVariants as purposes
use Rattle.gs_lease.specs.declared.view.View.{View}
use Rattle.gs_msg.specs.declared.answer.Answer.{Answer}
use Rattle.gs_msg.specs.declared.answer.Answer.TheVariants as answers
use Rattle.gs_msg.specs.declared.call.Call.{Call}
use Rattle.gs_msg.specs.declared.call.Call.TheVariants as calls
use Rattle.gs_place.specs.Needs.{most_needed_of}
use Rattle.gs_master_record.specs.Plain.{PlainEdit, Prepare, Finalize, RollbackBegin, RollbackCommit, Mkdirs, Create, Rename, Hide, Unhide, Snapshot}
use Rattle.gs_master_spec.specs.Beginning.{next_stamp, has_versions, has_handle, begin_at, all_begun, create_plan, copy_plan, waits_from_now, targets_for, counted_views}
use Rattle.gs_master_spec.specs.Calls.{edited_by, edit_if, accept_plan, deleted, answered_with, has_visible_child, looked_up, listing, status, location, found_chunk, refused_before, told_phase, is_shared, most_chunks, renames}
use Rattle.gs_master_spec.specs.Chunks.{Chunk, chunk_at, has_entry, is_leased, is_quiet, is_wanted, view_of, members_of}
use Rattle.gs_master_spec.specs.Durable.{Settled, is_rolling, prepared_view}
use Rattle.gs_master_spec.specs.Handling.{call_turn, called, called_unless, taken_as, numbered, replied_again, waits_still, Numbered, New, Again, Older}
use Rattle.gs_base.specs.Members.{is_member}
use Rattle.std.specs.Ordering.{nat_cmp}
use Rattle.std.proofs.lemmas.Bool.{true≢false, and_parts}
use Rattle.std.proofs.lemmas.Bool.Decides.{nat_tests}
use Rattle.gs_master_spec.specs.Settling.{requests_of}
use Rattle.gs_master_spec.specs.State.{State, Plan, Turn, turned, unmoved, and_then, fits, if_room, refused, all_ended_by, is_failed, is_unopened, last_reply, first_of}
use Rattle.gs_master_spec.specs.Undoing.{edited_names, all_undone}
use Rattle.gs_master_spec.specs.Upgrades.{accepted_plan, all_unquiet, begin_tests, commit_tests, end_tests, is_last_epoch, chunk_count, tell_all, answers_for, unless, prepare_begin, prepare_commit, finalize, rollback_begin, commit_on, commit_if, unrestored, told_of}
use Rattle.gs_master_spec.specs.Volatile.{is_pending}
use Rattle.gs_master_spec.specs.Working.{begins, begins_new, may_use, leased, copied_on_write, written_at, found_for_writing, created_on, extended_at, extends, unquiet, is_wanted_at, begin_pending, begins_snapshot, snapshot_if, replicated_to, replicates_chunk, replicates_most, needs_of, scanned, scan_plan, waiting_for, removed_paths, forgotten_chunks}
use Rattle.gs_master_spec.specs.declared.change.Change.{Change}
use Rattle.gs_master_spec.specs.declared.change.Change.TheVariants as changes
use Rattle.gs_master_spec.specs.declared.pending.Waiting.{Waiting}
use Rattle.gs_master_spec.specs.declared.pending.Waiting.TheVariants as waits
use Rattle.gs_base.specs.declared.epoch.EpochEnd.{EpochEnd}
use Rattle.gs_base.specs.Members.{count_from}
use Rattle.gs_base.specs.MemberLaws.{eqb_itself}
use Rattle.gs_lease.specs.declared.view.Purpose.{Purpose}
use Rattle.gs_msg.specs.declared.body.Body.{Body}
use Rattle.gs_msg.specs.declared.body.Body.TheVariants as bodies
use Rattle.gs_msg.specs.declared.chunk.Chunk.TheVariants as chunks
use Rattle.gs_msg.specs.declared.message.Message.{Message}
use Rattle.gs_msg.specs.declared.node.NodeId.{NodeId}
use Rattle.gs_msg.specs.declared.node.NodeId.TheVariants as nodes
use Rattle.gs_master_record.specs.Plain.{PlainEntry, Propose}
use Rattle.gs_master_spec.specs.Applied.{applied, if_fits, is_fresh, may_propose, proposed, with_proposal}
use Rattle.gs_master_spec.specs.Beginning.{begun, members_at}
use Rattle.gs_master_spec.specs.Durable.{is_given}
use Rattle.gs_master_spec.specs.State.{about, ended_by, post, reply_to, to_each, with_record}
use Rattle.gs_master_spec.specs.declared.asking.Asking.{Asking}
use Rattle.gs_laws_master.specs.Copying.{AreCopiesOf, IsCopyOf}
use Rattle.gs_laws_master.specs.Promises.{IsKept}
use Rattle.gs_laws_master.proofs.lemmas.versions.Fresh.{next_is_fresh}
use Rattle.gs_laws_master.proofs.lemmas.keeping.KeptViews.{same_key}
use Rattle.gs_laws_master.proofs.lemmas.rooms.RoomsOfCalls.{pick}
use Rattle.std.proofs.lemmas.Bool.{and_from}
use Rattle.std.proofs.lemmas.List.Folds.{list_all-append}
use Rattle.std.proofs.Common.{cond}
use Rattle.std.specs.Cmp.{nat_cmp_total}
use Rattle.std.specs.Ordering.{eq_by_cmp}
use Rattle.std.specs.Prelude.{unwrap_or}

-- ---- turns that send no copy

abbrev pub is_copy : Body → Bool
is_copy (bodies.MakeCopy old stamp new next) = true
is_copy said = false

abbrev pub Mute : List Message → Type 0
Mute messages = list_all (λ (m : Message). not (is_copy m.body)) messages ≡ true

abbrev pub IsMute : Turn → Type 0
IsMute t = Mute t.sent

no_copy : (s : State) (to : NodeId) (body : Body) → not (is_copy body) ≡ true → IsCopyOf s to body
no_copy s to (bodies.MakeCopy old stamp new next) e = absurd (false≢true e)
no_copy s to said e = tt

-- so all copies among them are such
pub mute_copies : (s : State) (messages : List Message) → Mute messages → AreCopiesOf s messages
mute_copies s [] e = tt
mute_copies s (m ∷ messages) e =
    let parts = and_parts (not (is_copy m.body)) (list_all (λ (x : Message). not (is_copy x.body)) messages) e in (no_copy s m.to m.body parts.0, mute_copies s messages parts.1)

pub both_mute : (xs ys : List Message) → Mute xs → Mute ys → Mute (xs ++ ys)
both_mute xs ys a b = list_all-append (λ (m : Message). not (is_copy m.body)) xs ys ∙ and_from (list_all (λ (m : Message). not (is_copy m.body)) xs) (list_all (λ (m : Message). not (is_copy m.body)) ys) a b

pub then_mute : (t : Turn) (f : State → Turn) → IsMute t → IsMute (f t.after) → IsMute (and_then t f)
then_mute t f a b = both_mute t.sent (f t.after).sent a b

pub each_mute : (servers : List ℕ) (message : ℕ → Message) → ((server : ℕ) → not (is_copy (message server).body) ≡ true) → Mute (to_each servers message)
each_mute [] message none = refl
each_mute (server ∷ servers) message none = and_from (not (is_copy (message server).body)) (list_all (λ (m : Message). not (is_copy m.body)) (to_each servers message)) (none server) (each_mute servers message none)

pub begun_mute : (s : State) (chunk : ℕ) (purpose : Purpose) (call : Option ReqId) → Mute (begin_at s chunk purpose call).sent
begun_mute s chunk purpose call = each_mute (members_at (chunk_at s chunk)) (about chunk (chunks.Advance (next_stamp s.durable))) (λ server. refl)

pub all_begun_mute : (many : List ℕ) (purpose : Purpose) (call : Option ReqId) (s : State) → IsMute (all_begun s many purpose call)
all_begun_mute [] purpose call s = refl
all_begun_mute (chunk ∷ many) purpose call s = then_mute (begun s chunk purpose call) (λ next. all_begun next many purpose call) (begun_mute s chunk purpose call) (all_begun_mute many purpose call (begun s chunk purpose call).after)

pub all_ended_mute : (reqs : List ReqId) (refusal : Refusal) (s : State) → IsMute (all_ended_by s reqs refusal)
all_ended_mute [] refusal s = refl
all_ended_mute (req ∷ reqs) refusal s = then_mute (ended_by s req refusal) (λ next. all_ended_by next reqs refusal) refl (all_ended_mute reqs refusal (ended_by s req refusal).after)

room_mute : (s : State) (req : ReqId) (t : Turn) → IsMute t → IsMute (if_room s t (refused s req refusals.Full))
room_mute s req t a = pick IsMute (fits s.log t.records) t (refused s req refusals.Full) a refl

-- ---- calls of the tree

edit_mute : (s : State) (req : ReqId) (edit : PlainEdit) (answer : Answer) (names : Result NamesView Refusal) → IsMute (edit_if s req edit answer names)
edit_mute s req edit answer (Ok names) = room_mute s req (turned s (accept_plan req edit answer)) refl
edit_mute s req edit answer (Err refusal) = refl

edited_mute : (s : State) (req : ReqId) (edit : PlainEdit) (answer : Answer) → IsMute (edited_by s req edit answer)
edited_mute s req edit answer = edit_mute s req edit answer (edited_names edit s.durable.names)

renames_mute : (s : State) (req : ReqId) (from to : Path) → IsMute (renames s req from to)
renames_mute s req from to = edit_mute s req (Rename from (target_of (fin.get s.durable.names.tree) from to)) answers.Nothing (edited_names (Rename from to) s.durable.names)

answered_mute : (s : State) (req : ReqId) (answer : Answer) → IsMute (answered_with s req answer)
answered_mute s req answer = refl

looked_mute : (s : State) (req : ReqId) (result : Result Answer Refusal) → IsMute (looked_up s req result)
looked_mute s req (Ok answer) = answered_mute s req answer
looked_mute s req (Err refusal) = refl

deleted_mute : (s : State) (req : ReqId) (path : Path) (recursive : Bool) (moment : Moment) → IsMute (deleted s req path recursive moment)
deleted_mute s req path recursive moment =
    let hides = edited_by s req (Hide path moment.0 s.durable.next_hidden) (answers.Path (hidden_path path moment.0 s.durable.next_hidden)) in
    let third = if s.durable.next_hidden == 0 then refused s req refusals.Exhausted else hides in
    let second = if not recursive && has_visible_child (fin.entries s.durable.names.tree) path then refused s req refusals.NotEmpty else third in
    let first = if is_none (fin.get s.durable.names.tree path) then answered_with s req answers.Absent else second in
    pick IsMute (same_path path []) (refused s req refusals.IsRoot) first refl
    (pick IsMute (is_none (fin.get s.durable.names.tree path)) (answered_with s req answers.Absent) second (answered_mute s req answers.Absent)
    (pick IsMute (not recursive && has_visible_child (fin.entries s.durable.names.tree) path) (refused s req refusals.NotEmpty) third refl
    (pick IsMute (s.durable.next_hidden == 0) (refused s req refusals.Exhausted) hides refl
    (edited_mute s req (Hide path moment.0 s.durable.next_hidden) (answers.Path (hidden_path path moment.0 s.durable.next_hidden))))))

-- ---- calls that begin views

begins_mute : (s : State) (req : ReqId) (plan : Plan) (waiting : Waiting) → Mute plan.sent → IsMute (begins s req plan waiting)
begins_mute s req plan waiting mute =
    pick IsMute (not (has_versions s.durable 1)) (refused s req refusals.Exhausted) (if_room s (turned s (waits_from_now plan req waiting)) (refused s req refusals.Full)) refl (room_mute s req (turned s (waits_from_now plan req waiting)) mute)

begins_new_mute : (s : State) (req : ReqId) (plan : Plan) (waiting : Waiting) → Mute plan.sent → IsMute (begins_new s req plan waiting)
begins_new_mute s req plan waiting mute = pick IsMute (not (has_handle s.durable)) (refused s req refusals.Exhausted) (begins s req plan waiting) refl (begins_mute s req plan waiting mute)

leased_mute : (s : State) (req : ReqId) (path : Path) (index : ℕ) (stamp : Option Stamp) (moment : Moment) (chunk : ℕ) (c : Chunk) → IsMute (leased s req path index stamp moment chunk c)
leased_mute s req path index stamp moment chunk c =
    let begin = begins s req (begin_at s chunk purposes.Lease (Some req)) (waits.Lease path index chunk) in
    pick IsMute (is_leased c && may_use stamp moment (view_of c)) (looked_up s req (location s.durable (Ok chunk))) (if is_wanted c then refused s req refusals.Locked else begin)
    (looked_mute s req (location s.durable (Ok chunk)))
    (pick IsMute (is_wanted c) (refused s req refusals.Locked) begin refl
    (begins_mute s req (begin_at s chunk purposes.Lease (Some req)) (waits.Lease path index chunk) (begun_mute s chunk purposes.Lease (Some req))))

created_mute : (s : State) (req : ReqId) (path : Path) (targets : Option (List ℕ)) → IsMute (created_on s req path targets)
created_mute s req path None = refl
created_mute s req path (Some targets) =
    begins_new_mute s req (create_plan (next_stamp s.durable) s.durable.next_handle targets req) (waits.Extend path s.durable.next_handle) (each_mute targets (about s.durable.next_handle (chunks.Create (next_stamp s.durable))) (λ server. refl))

extended_mute : (config : Config) (s : State) (req : ReqId) (path : Path) (chunks : List ℕ) (index : ℕ) → IsMute (extended_at config s req path chunks index)
extended_mute config s req path chunks index =
    let makes = created_on s req path (targets_for config (counted_views s) [] config.replicas) in
    pick IsMute (nat_lt index (length chunks)) (looked_up s req (location s.durable (found_chunk (Some (File chunks)) index)))
    (if nat_lt (length chunks) index || nat_le most_chunks index then refused s req refusals.Range else makes)
    (looked_mute s req (location s.durable (found_chunk (Some (File chunks)) index)))
    (pick IsMute (nat_lt (length chunks) index || nat_le most_chunks index) (refused s req refusals.Range) makes refl
    (created_mute s req path (targets_for config (counted_views s) [] config.replicas)))

extends_mute : (config : Config) (s : State) (req : ReqId) (path : Path) (index : ℕ) (entry : Option (Entry ℕ)) → IsMute (extends config s req path index entry)
extends_mute config s req path index None = refl
extends_mute config s req path index (Some Dir) = refl
extends_mute config s req path index (Some (File chunks)) = extended_mute config s req path chunks index

snapshot_mute : (s : State) (req : ReqId) (from to : Path) (many : List ℕ) → IsMute (begins_snapshot s req from to many)
snapshot_mute s req from to [] = edited_mute s req (Snapshot from to) answers.Nothing
snapshot_mute s req from to (chunk ∷ chunks) =
    let wait = turned s (begin_pending req (waits.Snapshot from to)) in
    let begin : State → Turn = λ next. all_begun next (chunk ∷ chunks) purposes.Quiet (Some req) in
    let all = if_room s (and_then wait begin) (refused s req refusals.Full) in
    pick IsMute (list_any (is_wanted_at s) (chunk ∷ chunks)) (refused s req refusals.Locked)
    (if not (has_versions s.durable (length (chunk ∷ chunks))) then refused s req refusals.Exhausted else all)
    refl
    (pick IsMute (not (has_versions s.durable (length (chunk ∷ chunks)))) (refused s req refusals.Exhausted) all refl
    (room_mute s req (and_then wait begin) (then_mute wait begin refl (all_begun_mute (chunk ∷ chunks) purposes.Quiet (Some req) wait.after))))

snapshot_if_mute : (s : State) (req : ReqId) (from to : Path) (rows : Result (Rows ℕ) Refusal) → IsMute (snapshot_if s req from to rows)
snapshot_if_mute s req from to (Ok rows) = snapshot_mute s req from to (unquiet s from)
snapshot_if_mute s req from to (Err refusal) = refl

replicated_mute : (s : State) (req : ReqId) (chunk : ℕ) (targets : Option (List ℕ)) → IsMute (replicated_to s req chunk targets)
replicated_mute s req chunk None = refl
replicated_mute s req chunk (Some []) = refl
replicated_mute s req chunk (Some (target ∷ targets)) =
    begins_mute s req (begin_at s chunk (purposes.Copy target) (Some req)) (waits.Replicate chunk target) (begun_mute s chunk (purposes.Copy target) (Some req))

replicates_mute : (config : Config) (s : State) (req : ReqId) (chunk : ℕ) (c : Option Chunk) → IsMute (replicates_chunk config s req chunk c)
replicates_mute config s req chunk None = refl
replicates_mute config s req chunk (Some c) =
    pick IsMute (is_wanted c) (refused s req refusals.Locked) (replicated_to s req chunk (targets_for config (counted_views s) (members_of c) 1)) refl
    (replicated_mute s req chunk (targets_for config (counted_views s) (members_of c) 1))

most_mute : (config : Config) (s : State) (req : ReqId) (chunk : Option ℕ) → IsMute (replicates_most config s req chunk)
most_mute config s req None = answered_mute s req (answers.Copied None)
most_mute config s req (Some chunk) = replicates_mute config s req chunk (chunk_at s chunk)

scanned_mute : (s : State) (req : ReqId) (removed : List Path) (forgotten : List ℕ) → IsMute (scanned s req removed forgotten)
scanned_mute s req removed forgotten =
    let scan = turned s (scan_plan removed forgotten) in
    let ended : State → Turn = λ next. all_ended_by next (waiting_for s forgotten) refusals.NoReplica in
    let answer : State → Turn = λ next. answered_with next req (answers.Scanned (length removed) (length forgotten)) in
    room_mute s req (and_then (and_then scan ended) answer) (then_mute (and_then scan ended) answer (then_mute scan ended refl (all_ended_mute (waiting_for s forgotten) refusals.NoReplica scan.after)) refl)

-- ---- calls of an upgrade

unless_mute : (refusal : Option Refusal) (s : State) (req : ReqId) (t : Turn) → IsMute t → IsMute (unless refusal s req t)
unless_mute None s req t a = room_mute s req t a
unless_mute (Some refusal) s req t a = refl

-- what is told to all servers, and the reply
told_mute : (config : Config) (s : State) (req : ReqId) (records : List PlainEntry) (before : List Change) (epoch other : ℕ) (end : EpochEnd) → Mute (accepted_plan s req records before (tell_all config epoch end) other).sent
told_mute config s req records before epoch other end =
    both_mute (tell_all config epoch end) (reply_to req (Ok (answers.Epoch other)) ∷ []) (each_mute (count_from 0 config.servers) (λ server. post (nodes.Server server) (bodies.Epoch epoch end)) (λ server. refl)) refl

begin_mute : (s : State) (req : ReqId) → IsMute (prepare_begin s req)
begin_mute s req =
    let many = all_unquiet s in
    let ended = all_ended_by s (requests_of s.volatile.pending) refusals.Preparing in
    let begin : State → Turn = λ next. all_begun next many purposes.Quiet None in
    let accept : State → Turn = λ next. turned next (accepted_plan next req [] (changes.Prepare true ∷ []) [] s.durable.epoch) in
    unless_mute (first_of (begin_tests s.durable.phase s.volatile.is_preparing s.volatile.pending (not (has_versions s.durable (length many))))) s req (and_then (and_then ended begin) accept)
    (then_mute (and_then ended begin) accept (then_mute ended begin (all_ended_mute (requests_of s.volatile.pending) refusals.Preparing s) (all_begun_mute many purposes.Quiet None ended.after)) refl)

commit_mute : (config : Config) (s : State) (req : ReqId) (moment : Moment) → IsMute (prepare_commit config s req moment)
commit_mute config s req moment =
    unless_mute (first_of (commit_tests s.durable.phase s.volatile.is_preparing (all_unquiet s) (is_last_epoch s.durable))) s req _
    (told_mute config s req (Prepare (s.durable.epoch + 1) moment.0 (chunk_count s) ∷ []) (changes.Prepare false ∷ []) (s.durable.epoch + 1) (s.durable.epoch + 1) ends.Prepare)

finalize_mute : (config : Config) (s : State) (req : ReqId) → IsMute (finalize config s req)
finalize_mute config s req =
    unless_mute (first_of (end_tests s.durable.phase (is_last_epoch s.durable))) s req _ (told_mute config s req (Finalize (s.durable.epoch + 1) ∷ []) [] (s.durable.epoch + 1) (s.durable.epoch + 1) ends.Finalize)

rollback_mute : (config : Config) (s : State) (req : ReqId) → IsMute (rollback_begin config s req)
rollback_mute config s req =
    let plan : Plan = record { records = RollbackBegin (s.durable.epoch + 1) ∷ []; changes = []; sent = []; said = None } in
    let ended : State → Turn = λ next. all_ended_by next (requests_of s.volatile.pending) refusals.RollingBack in
    let accept : State → Turn = λ next. turned next (accepted_plan next req [] [] (tell_all config (s.durable.epoch + 1) ends.Rollback) (s.durable.epoch + 1)) in
    let both = and_then (turned s plan) ended in
    unless_mute (first_of (end_tests s.durable.phase (is_last_epoch s.durable))) s req (and_then both accept)
    (then_mute both accept (then_mute (turned s plan) ended refl (all_ended_mute (requests_of s.volatile.pending) refusals.RollingBack (turned s plan).after)) (told_mute config both.after req [] [] (s.durable.epoch + 1) (s.durable.epoch + 1) ends.Rollback))

commit_if_mute : (s : State) (req : ReqId) (names : NamesView) (lacking : Option ℕ) → IsMute (commit_if s req names lacking)
commit_if_mute s req names (Some chunk) = refl
commit_if_mute s req names None =
    room_mute s req (turned s (accepted_plan s req (RollbackCommit s.durable.epoch (answers_for (prepared_view s.durable) (told_of s) (fin.entries names.refs)) ∷ []) (changes.RolledBack ∷ []) [] s.durable.epoch)) refl

commit_on_mute : (s : State) (req : ReqId) (names : Option NamesView) → IsMute (commit_on s req names)
commit_on_mute s req None = refl
commit_on_mute s req (Some names) = commit_if_mute s req names (unrestored (prepared_view s.durable) (told_of s) (fin.entries names.refs))

-- ---- all calls but those that look a chunk up for writing

is_found : Call → Bool
is_found (calls.FindForWriting path index stamp) = true
is_found call = false

called_mute : (config : Config) (s : State) (req : ReqId) (moment : Moment) (call : Call) → is_found call ≡ false → IsMute (called config s req moment call)
unfolding is_found
called_mute config s req moment (calls.Mkdirs path) e = edited_mute s req (Mkdirs path) answers.Nothing
called_mute config s req moment (calls.Create path) e = edited_mute s req (Create path) answers.Nothing
called_mute config s req moment (calls.Rename from to) e = renames_mute s req from to
called_mute config s req moment (calls.Delete path recursive) e = deleted_mute s req path recursive moment
called_mute config s req moment (calls.Undelete path) e = edited_mute s req (Unhide path) (answers.Path (unhide_target path (old_name path)))
called_mute config s req moment (calls.Snapshot from to) e = snapshot_if_mute s req from to (edited (edits.Snapshot from to) (fin.entries s.durable.names.tree))
called_mute config s req moment (calls.List path) e = looked_mute s req (listing (fin.entries s.durable.names.tree) path (fin.get s.durable.names.tree path))
called_mute config s req moment (calls.Status path) e = looked_mute s req (status s.durable (fin.get s.durable.names.tree path))
called_mute config s req moment (calls.FindForReading path index) e = looked_mute s req (location s.durable (found_chunk (fin.get s.durable.names.tree path) index))
called_mute config s req moment (calls.FindForWriting path index stamp) e = absurd (true≢false e)
called_mute config s req moment (calls.Extend path index) e = extends_mute config s req path index (fin.get s.durable.names.tree path)
called_mute config s req moment calls.Scan e = scanned_mute s req (removed_paths moment.0 (fin.entries s.durable.names.tree)) (forgotten_chunks moment.0 (fin.entries s.durable.names.tree) (fin.entries s.durable.names.refs))
called_mute config s req moment calls.Replicate e = most_mute config s req (most_needed_of config.replicas (needs_of s))
called_mute config s req moment calls.Query e = answered_mute s req (answers.Phase (told_phase s.volatile.is_preparing s.durable.phase) s.durable.epoch)
called_mute config s req moment calls.PrepareBegin e = begin_mute s req
called_mute config s req moment calls.PrepareCommit e = commit_mute config s req moment
called_mute config s req moment calls.PrepareAbort e = pick IsMute s.volatile.is_preparing (turned s (accepted_plan s req [] (changes.Prepare false ∷ []) [] s.durable.epoch)) (refused s req refusals.NotUpgrading) refl refl
called_mute config s req moment calls.Finalize e = finalize_mute config s req
called_mute config s req moment calls.RollbackBegin e = rollback_mute config s req
called_mute config s req moment calls.RollbackCommit e =
    pick IsMute (is_rolling s.durable.phase) (commit_on s req (all_undone s.durable.inverses s.durable.names)) (refused s req refusals.NotUpgrading) (commit_on_mute s req (all_undone s.durable.inverses s.durable.names)) refl

-- ---- a copy on write

-- each member is one
members_on : (view : View) (servers : List ℕ) (s : State) (chunk : ℕ) (message : ℕ → Message) → ((server : ℕ) → is_member view.members server ≡ true → IsCopyOf s (message server).to (message server).body) → ((server : ℕ) → is_member servers server ≡ true → is_member view.members server ≡ true)
    → AreCopiesOf s (to_each servers message)
members_on view [] s chunk message each within = tt
members_on view (server ∷ servers) s chunk message each within =
    (each server (within server (ap (λ b. b || is_member servers server) (eqb_itself server))), members_on view servers s chunk message each (λ other here. within other (or_second (server == other) (is_member servers other) here)))
  where
    or_second : (a b : Bool) → b ≡ true → (a || b) ≡ true
    or_second true b e = refl
    or_second false b e = e

-- the copies of a chunk that is settled so
pub copies_of : (s : State) (old new : ℕ) (view : View) (next : Stamp) → fin.get s.durable.chunks old ≡ Some (record { view = view; is_moving = false }) → view.term ≡ None → fin.get s.volatile.moving old ≡ None
    → AreCopiesOf s (to_each view.members (λ server. post (nodes.Server server) (bodies.MakeCopy old view.stamp new next)))
copies_of s old new view next has none unasked =
    members_on view view.members s old (λ server. post (nodes.Server server) (bodies.MakeCopy old view.stamp new next))
    (λ server here. record { settled = record { view = view; is_moving = false }; has = has; still = (refl, none); under = refl; on = here; unasked = unasked }) (λ server here. here)

-- a new chunk leaves the one that it is a copy of
pub new_leaves : (s : State) (chunk : ℕ) (settled : Settled) → IsKept s.durable → has_handle s.durable ≡ true → fin.get s.durable.chunks chunk ≡ Some settled
    → (fin.get (with_record s (Propose s.durable.next_handle s.durable.next_version)).durable.chunks chunk ≡ Some settled) × ((a : Asking) → fin.get s.volatile.moving chunk ≡ None → fin.get (fin.insert s.volatile.moving s.durable.next_handle a) chunk ≡ None)
unfolding applied
new_leaves s chunk settled k handle has = (by_fit (may_propose s.durable.phase s.durable.next_handle s.durable.next_version s.durable.next_handle s.durable.next_version (fin.get s.durable.chunks s.durable.next_handle)), λ a none. fin.get-insert nat_cmp_total s.volatile.moving s.durable.next_handle a chunk ∙ by_key a (eq_by_cmp nat_cmp chunk s.durable.next_handle) refl none)
  where
    not_given : (n : ℕ) → is_given n n ≡ true → is_fresh n n ≡ true → ⊥
    not_given n g f = absurd (grind (arith, nat_tests))

    none_there : fin.get s.durable.chunks s.durable.next_handle ≡ None
    none_there = by_entry (fin.get s.durable.chunks s.durable.next_handle) refl
      where
        by_entry : (o : Option Settled) → fin.get s.durable.chunks s.durable.next_handle ≡ o → o ≡ None
        by_entry None is = refl
        by_entry (Some x) is = absurd (not_given s.durable.next_handle (k.handles s.durable.next_handle (ap is_some is)) (next_is_fresh s.durable.next_handle 1 (omega arith) handle))

    by_fit : (b : Bool) → fin.get (unwrap_or (if_fits b (proposed s.durable s.durable.next_handle s.durable.next_version)) s.durable).chunks chunk ≡ Some settled
    by_fit true = ap (λ o. fin.get (with_proposal s.durable s.durable.next_handle o) chunk) none_there ∙ has
    by_fit false = has

    by_key : (a : Asking) (b : Bool) → eq_by_cmp nat_cmp chunk s.durable.next_handle ≡ b → fin.get s.volatile.moving chunk ≡ None → cond b (Some a) (fin.get s.volatile.moving chunk) ≡ None
    by_key a true is none = absurd (false≢true (sym (ap is_some none_there) ∙ ap (λ c. is_some (fin.get s.durable.chunks c)) (sym (same_key chunk s.durable.next_handle is)) ∙ ap is_some has))
    by_key a false is none = none

-- what a turn sends is of chunks at rest behind it
abbrev pub Rests : Turn → Type 0
Rests t = AreCopiesOf t.after t.sent

pub mute_rests : (t : Turn) → IsMute t → Rests t
mute_rests t mute = mute_copies t.after t.sent mute

quiet_parts : (moving : Bool) (asked still : Bool) → (not (asked || moving) && still) ≡ true → (asked ≡ false) × ((moving ≡ false) × (still ≡ true))
quiet_parts moving true still e = absurd (false≢true e)
quiet_parts true false still e = absurd (false≢true e)
quiet_parts false false true e = (refl, (refl, refl))
quiet_parts false false false e = absurd (false≢true e)

nothing_at : {A : Type 0} (o : Option A) → is_some o ≡ false → o ≡ None
nothing_at None e = refl
nothing_at (Some x) e = absurd (true≢false e)

nobody_at : {A : Type 0} (o : Option A) → is_none o ≡ true → o ≡ None
nobody_at None e = refl
nobody_at (Some x) e = absurd (false≢true e)

module _ (s : State) (req : ReqId) (k : IsKept s.durable) where
  copy_rests : (path : Path) (index chunk : ℕ) (settled : Settled) → fin.get s.durable.chunks chunk ≡ Some settled → is_quiet (record { settled = Some settled; asking = fin.get s.volatile.moving chunk }) ≡ true
      → Rests (begins_new s req (copy_plan (next_stamp s.durable) chunk settled.view s.durable.next_handle req) (waits.Copy path index chunk s.durable.next_handle))
  copy_rests path index chunk settled has quiet =
      let plan = waits_from_now (copy_plan (next_stamp s.durable) chunk settled.view s.durable.next_handle req) req (waits.Copy path index chunk s.durable.next_handle) in
      let parts = quiet_parts settled.is_moving (is_some (fin.get s.volatile.moving chunk)) (is_none settled.view.term) quiet in
      let still = nobody_at settled.view.term parts.1.1 in
      let exact : fin.get s.durable.chunks chunk ≡ Some (record { view = settled.view; is_moving = false }) = has ∙ ap (λ b. Some (record { view = settled.view; is_moving = b })) parts.1.0 in
      by_handle (has_handle s.durable) refl (λ handle. let leaves = new_leaves s chunk (record { view = settled.view; is_moving = false }) k handle exact in
      copies_of (turned s plan).after chunk s.durable.next_handle settled.view (next_stamp s.durable) leaves.0 still (leaves.1 _ (nothing_at (fin.get s.volatile.moving chunk) parts.0)))
    where
      by_handle : (b : Bool) → has_handle s.durable ≡ b → (has_handle s.durable ≡ true → Rests (turned s (waits_from_now (copy_plan (next_stamp s.durable) chunk settled.view s.durable.next_handle req) req (waits.Copy path index chunk s.durable.next_handle))))
          → Rests (if not b then refused s req refusals.Exhausted else begins s req (copy_plan (next_stamp s.durable) chunk settled.view s.durable.next_handle req) (waits.Copy path index chunk s.durable.next_handle))
      by_handle true handle rests =
          let plan = waits_from_now (copy_plan (next_stamp s.durable) chunk settled.view s.durable.next_handle req) req (waits.Copy path index chunk s.durable.next_handle) in
          pick Rests (not (has_versions s.durable 1)) (refused s req refusals.Exhausted) (if_room s (turned s plan) (refused s req refusals.Full)) (tt, tt)
          (pick Rests (fits s.log plan.records) (turned s plan) (refused s req refusals.Full) (rests handle) (tt, tt))
      by_handle false handle rests = (tt, tt)

  written_rests : (path : Path) (index : ℕ) (stamp : Option Stamp) (moment : Moment) (chunk : ℕ) (settled : Option Settled) → fin.get s.durable.chunks chunk ≡ settled
      → Rests (written_at s req path index stamp moment chunk (Some (record { settled = settled; asking = fin.get s.volatile.moving chunk })))
  written_rests path index stamp moment chunk settled has =
      let c : Chunk = record { settled = settled; asking = fin.get s.volatile.moving chunk } in
      pick Rests (is_shared s.durable.names chunk) (copied_on_write s req path index chunk c (view_of c)) (leased s req path index stamp moment chunk c) (by_view settled has)
      (mute_rests (leased s req path index stamp moment chunk c) (leased_mute s req path index stamp moment chunk c))
    where
      by_view : (o : Option Settled) → fin.get s.durable.chunks chunk ≡ o → let c : Chunk = record { settled = o; asking = fin.get s.volatile.moving chunk } in Rests (copied_on_write s req path index chunk c (view_of c))
      by_view None is = (tt, tt)
      by_view (Some x) is =
          let c : Chunk = record { settled = Some x; asking = fin.get s.volatile.moving chunk } in
          let begins_copy = begins_new s req (copy_plan (next_stamp s.durable) chunk x.view s.durable.next_handle req) (waits.Copy path index chunk s.durable.next_handle) in
          let begins_quiet = begins s req (begin_at s chunk purposes.Quiet (Some req)) (waits.Quiet path index chunk) in
          pick Rests (is_wanted c) (refused s req refusals.Locked) (if is_quiet c then begins_copy else begins_quiet) (tt, tt)
          (by_quiet (is_quiet c) refl begins_copy begins_quiet (λ quiet. copy_rests path index chunk x is quiet) (mute_rests begins_quiet (begins_mute s req (begin_at s chunk purposes.Quiet (Some req)) (waits.Quiet path index chunk) (begun_mute s chunk purposes.Quiet (Some req)))))
        where
          by_quiet : {q : Bool} (b : Bool) → q ≡ b → (t u : Turn) → (q ≡ true → Rests t) → Rests u → Rests (if b then t else u)
          by_quiet true is t u f g = f is
          by_quiet false is t u f g = g

  found_rests : (path : Path) (index : ℕ) (stamp : Option Stamp) (moment : Moment) (chunk : Result ℕ Refusal) → Rests (found_for_writing s req path index stamp moment chunk)
  unfolding chunk_at
  found_rests path index stamp moment (Err refusal) = (tt, tt)
  found_rests path index stamp moment (Ok chunk) = by_entry (has_entry s chunk)
    where
      by_entry : (b : Bool) → Rests (written_at s req path index stamp moment chunk (if b then Some (record { settled = fin.get s.durable.chunks chunk; asking = fin.get s.volatile.moving chunk }) else None))
      by_entry true = written_rests path index stamp moment chunk (fin.get s.durable.chunks chunk) refl
      by_entry false = (tt, tt)

  called_rests : (config : Config) (moment : Moment) (call : Call) → Rests (called config s req moment call)
  unfolding is_found
  called_rests config moment (calls.FindForWriting path index stamp) = found_rests path index stamp moment (found_chunk (fin.get s.durable.names.tree path) index)
  called_rests config moment call = mute_rests (called config s req moment call) (called_mute config s req moment call refl)

  unless_rests : (config : Config) (moment : Moment) (call : Call) (refusal : Option Refusal) → Rests (called_unless config s req moment call refusal)
  unless_rests config moment call None = called_rests config moment call
  unless_rests config moment call (Some refusal) = (tt, tt)

  taken_rests : (config : Config) (moment : Moment) (call : Call) (how : Numbered) → Rests (taken_as config s req moment call how)
  taken_rests config moment call New = unless_rests config moment call (refused_before s req call)
  taken_rests config moment call (Again result) = (tt, tt)
  taken_rests config moment call Older = (tt, tt)

  pub call_rests : (config : Config) (moment : Moment) (call : Call) → Rests (call_turn config s req moment call)
  call_rests config moment call =
      let taken = taken_as config s req moment call (numbered (last_reply s req.client) req.number) in
      pick Rests (is_unopened s.fault) (replied_again s req (Err refusals.Device)) (if is_pending s.volatile.pending req then waits_still s req else taken) (tt, tt)
      (pick Rests (is_pending s.volatile.pending req) (waits_still s req) taken
      (pick Rests (is_failed s.fault) (replied_again s req (Err refusals.Device)) (unmoved s) (tt, tt) tt)
      (taken_rests config moment call (numbered (last_reply s req.client) req.number)))
