-- What holds of each message that the master may make, by its kind, holds of all that it sends, whatever comes.
use Rattle.std.proofs.Common.{◌==◌, ◌&&◌, ◌||◌, ◌+◌, ◌++◌, ℕ, Bool, true, false, not, List, [], ◌∷◌, length, map, filter}
use Rattle.std.specs.Prelude.{flat_map, is_none, nat_le, nat_lt, slice_get, Option, Some, None, Result, Ok, Err, if◌then◌else◌}
use Rattle.std.specs.List.{AllByRecursion, list_all, list_any}
use Rattle.std.specs.FinMap as fin
use Rattle.gs_base.specs.Members.{count_from, is_member}
use Rattle.gs_base.specs.Stamps.{is_same}
use Rattle.gs_base.specs.declared.config.Config.{Config}
use Rattle.gs_base.specs.declared.epoch.EpochEnd.{EpochEnd}
use Rattle.gs_base.specs.declared.epoch.EpochEnd.TheVariants as ends
use Rattle.gs_base.specs.declared.numbers.Moment.{Moment}
use Rattle.gs_base.specs.declared.numbers.ReqId.{ReqId}
use Rattle.gs_base.specs.declared.numbers.Stamp.{Stamp}
use Rattle.gs_base.specs.declared.refusal.Refusal.{Refusal}
use Rattle.gs_base.specs.declared.refusal.Refusal.TheVariants as refusals
use Rattle.gs_path.specs.Path.{Path}
use Rattle.gs_tree.specs.Edits.{hidden_path, old_name, same_path, target_of}
use Rattle.gs_tree.specs.Entry.{Entry, Dir, File}
use Rattle.gs_tree.specs.Find.{Rows}
use Rattle.gs_edit.specs.Edits.{edited}
use Rattle.gs_edit.specs.Plain.{unhide_target}
use Rattle.gs_edit.specs.View.{NamesView}
use Rattle.gs_edit.specs.declared.edit.Edit.TheVariants as edits
use Rattle.gs_lease.specs.Transitions.{end_of}
use Rattle.gs_lease.specs.declared.view.Purpose.{Purpose}
use Rattle.gs_lease.specs.declared.view.Purpose.TheVariants as purposes
use Rattle.gs_lease.specs.declared.view.Term.{Term}
use Rattle.gs_lease.specs.declared.view.View.{View}
use Rattle.gs_msg.specs.declared.answer.Answer.{Answer}
use Rattle.gs_msg.specs.declared.answer.Answer.TheVariants as answers
use Rattle.gs_msg.specs.declared.body.Body.{Body}
use Rattle.gs_msg.specs.declared.body.Body.TheVariants as bodies
use Rattle.gs_msg.specs.declared.body.Reported.{Reported}
use Rattle.gs_msg.specs.declared.call.Call.{Call}
use Rattle.gs_msg.specs.declared.call.Call.TheVariants as calls
use Rattle.gs_msg.specs.declared.chunk.Chunk.{Chunk as Said_of_chunk}
use Rattle.gs_msg.specs.declared.chunk.Chunk.TheVariants as chunks
use Rattle.gs_lease.specs.declared.held.Grant.{Grant}
use Rattle.gs_msg.specs.declared.message.Message.{Message}
use Rattle.gs_msg.specs.declared.node.NodeId.{NodeId}
use Rattle.gs_msg.specs.declared.node.NodeId.TheVariants as nodes
use Rattle.gs_place.specs.Needs.{most_needed_of}
use Rattle.gs_master_record.specs.Plain.{PlainEdit, PlainEntry, AddChunk, Cow, Create, Edited, Finalize, Hide, Mkdirs, Prepare, Rename, RollbackBegin, RollbackCommit, Snapshot, Unhide}
use Rattle.gs_master_spec.specs.Beginning.{all_begun, begin_at, begun, copy_plan, counted_views, create_plan, has_handle, has_versions, members_at, next_stamp, targets_for, waits_from_now, waits_on}
use Rattle.gs_master_spec.specs.Calls.{accept_plan, answered_with, deleted, edit_if, edited_by, found_chunk, has_visible_child, is_shared, listing, location, looked_up, most_chunks, refused_before, status, told_phase}
use Rattle.gs_master_spec.specs.Chunks.{Chunk, chunk_at, heard_no, heard_yes, hears, is_leased, is_quiet, is_target, is_wanted, may_begin, members_of, settling, step_at_tick, step_of_no, step_of_yes, view_by, view_of}
use Rattle.gs_master_spec.specs.Durable.{Durable, is_rolling, prepared_view}
use Rattle.gs_master_spec.specs.Handling.{Numbered, New, Again, Older, about_turn, call_turn, called, called_unless, checkpoint, checkpoint_body, checkpoint_tests, due, from_client, from_node, granted, granted_at, granted_view, handle, numbered, pressed, pressed_at, pressed_if, proposals, replied_again, server_turn, taken_as, tick, told_again, waits_still, written_if_due, written_unless}
use Rattle.gs_master_spec.specs.Hearing.{ask_plan, drops, end_told, heard, is_leased_under, is_lost_at, is_stray, learned, lost, made_quiet, next_epoch, promised_at, promised_for, reported, reported_now, sends, stepped, unpromised_at, unpromised_for}
use Rattle.gs_master_spec.specs.Settling.{all_go_on, all_refused, concerned, copied, copied_where, edit_plan, edit_turn, ended_by_edit, ended_with, goes_on, grant_of, if_room_for, is_quiet_at, leased_next, own_request, replace_plan, replaced_if, requests_of, settle_plan, settled_by, settled_if, settled_on, source_chunks, quiet_view_at}
use Rattle.gs_master_spec.specs.State.{Plan, State, Turn, about, all_ended_by, and_then, ended_by, first_of, fits, for_each, if_room, is_failed, is_unopened, last_reply, met_by, post, refused, reply_to, to_each, turned, unmoved}
use Rattle.gs_master_spec.specs.Undoing.{all_undone, edited_names}
use Rattle.gs_master_spec.specs.Upgrades.{accepted_plan, all_unquiet, answers_for, begin_tests, chunk_count, commit_if, commit_on, commit_tests, end_tests, finalize, is_last_epoch, prepare_begin, prepare_commit, rollback_begin, tell_all, told_of, unless, unrestored}
use Rattle.gs_master_spec.specs.Volatile.{is_pending}
use Rattle.gs_master_spec.specs.Working.{begin_pending, begins, begins_new, begins_snapshot, copied_on_write, created_on, extended_at, extends, forgotten_chunks, found_for_writing, is_wanted_at, leased, may_use, needs_of, removed_paths, replicated_to, replicates_chunk, replicates_most, scan_plan, scanned, snapshot_if, unquiet, waiting_for, written_at}
use Rattle.gs_master_spec.specs.declared.asking.Asking.{Asking}
use Rattle.gs_master_spec.specs.declared.asking.Step.{Step}
use Rattle.gs_master_spec.specs.declared.asking.Step.TheVariants as steps
use Rattle.gs_master_spec.specs.declared.change.Change.{Change}
use Rattle.gs_master_spec.specs.declared.change.Change.TheVariants as changes
use Rattle.gs_master_spec.specs.declared.pending.Pending.{Pending}
use Rattle.gs_master_spec.specs.declared.pending.Waiting.{Waiting}
use Rattle.gs_master_spec.specs.declared.pending.Waiting.TheVariants as waits
use Rattle.gs_view.specs.declared.poll.Poll.{Poll}

-- each kind of message that the master makes
pub record EachKind (Says : Message → Type 0) : Type 0 where
  pub reply : (req : ReqId) (result : Result Answer Refusal) → Says (reply_to req result)
  pub create : (chunk : ℕ) (stamp : Stamp) (server : ℕ) → Says (about chunk (chunks.Create stamp) server)
  pub advance : (chunk : ℕ) (stamp : Stamp) (server : ℕ) → Says (about chunk (chunks.Advance stamp) server)
  pub grant : (chunk : ℕ) (given : Grant) (server : ℕ) → Says (about chunk (chunks.Grant given) server)
  pub renewed : (chunk : ℕ) (stamp : Stamp) (end : Moment) (server : ℕ) → Says (about chunk (chunks.Renewed stamp end) server)
  pub copy_out : (chunk : ℕ) (stamp : Stamp) (target : ℕ) (with_sealed : Bool) (server : ℕ) → Says (about chunk (chunks.CopyOut stamp target with_sealed) server)
  pub drop : (chunk epoch : ℕ) (promise : Stamp) (server : ℕ) → Says (about chunk (chunks.Drop epoch promise) server)
  pub make_copy : (server old : ℕ) (stamp : Stamp) (new : ℕ) (next : Stamp) → Says (post (nodes.Server server) (bodies.MakeCopy old stamp new next))
  pub epoch : (server epoch : ℕ) (end : EpochEnd) → Says (post (nodes.Server server) (bodies.Epoch epoch end))

pick : (P : Turn → Type 0) (b : Bool) (t u : Turn) → P t → P u → P (if b then t else u)
pick P true t u x y = x
pick P false t u x y = y

both_say : (Says : Message → Type 0) (xs ys : List Message) → AllByRecursion Says xs → AllByRecursion Says ys → AllByRecursion Says (xs ++ ys)
both_say Says [] ys a b = b
both_say Says (x ∷ xs) ys a b = (a.0, both_say Says xs ys a.1 b)

module _ (Says : Message → Type 0) (kinds : EachKind Says) where
  abbrev AllSaid : List Message → Type 0
  AllSaid messages = AllByRecursion Says messages

  abbrev Said : Turn → Type 0
  Said t = AllByRecursion Says t.sent

  then_said : (t : Turn) (f : State → Turn) → Said t → Said (f t.after) → Said (and_then t f)
  then_said t f a b = both_say Says t.sent (f t.after).sent a b

  each_said : (servers : List ℕ) (message : ℕ → Message) → ((server : ℕ) → Says (message server)) → AllSaid (to_each servers message)
  each_said [] message says = tt
  each_said (server ∷ servers) message says = (says server, each_said servers message says)

  refused_said : (s : State) (req : ReqId) (refusal : Refusal) → Said (refused s req refusal)
  refused_said s req refusal = (kinds.reply req (Err refusal), tt)

  ended_said : (s : State) (req : ReqId) (refusal : Refusal) → Said (ended_by s req refusal)
  ended_said s req refusal = (kinds.reply req (Err refusal), tt)

  begun_said : (s : State) (chunk : ℕ) (purpose : Purpose) (call : Option ReqId) → AllSaid (begin_at s chunk purpose call).sent
  begun_said s chunk purpose call = each_said (members_at (chunk_at s chunk)) (about chunk (chunks.Advance (next_stamp s.durable))) (λ server. kinds.advance chunk (next_stamp s.durable) server)

  all_begun_said : (many : List ℕ) (purpose : Purpose) (call : Option ReqId) (s : State) → Said (all_begun s many purpose call)
  all_begun_said [] purpose call s = tt
  all_begun_said (chunk ∷ many) purpose call s =
      then_said (begun s chunk purpose call) (λ next. all_begun next many purpose call) (begun_said s chunk purpose call) (all_begun_said many purpose call (begun s chunk purpose call).after)

  all_ended_said : (reqs : List ReqId) (refusal : Refusal) (s : State) → Said (all_ended_by s reqs refusal)
  all_ended_said [] refusal s = tt
  all_ended_said (req ∷ reqs) refusal s =
      then_said (ended_by s req refusal) (λ next. all_ended_by next reqs refusal) (ended_said s req refusal) (all_ended_said reqs refusal (ended_by s req refusal).after)

  room_said : (s : State) (req : ReqId) (t : Turn) → Said t → Said (if_room s t (refused s req refusals.Full))
  room_said s req t a = pick Said (fits s.log t.records) t (refused s req refusals.Full) a (refused_said s req refusals.Full)

  -- ---- calls of the tree

  edit_said : (s : State) (req : ReqId) (edit : PlainEdit) (answer : Answer) (names : Result NamesView Refusal) → Said (edit_if s req edit answer names)
  edit_said s req edit answer (Ok names) = room_said s req (turned s (accept_plan req edit answer)) (kinds.reply req (Ok answer), tt)
  edit_said s req edit answer (Err refusal) = refused_said s req refusal

  edited_said : (s : State) (req : ReqId) (edit : PlainEdit) (answer : Answer) → Said (edited_by s req edit answer)
  edited_said s req edit answer = edit_said s req edit answer (edited_names edit s.durable.names)

  answered_said : (s : State) (req : ReqId) (answer : Answer) → Said (answered_with s req answer)
  answered_said s req answer = (kinds.reply req (Ok answer), tt)

  looked_said : (s : State) (req : ReqId) (result : Result Answer Refusal) → Said (looked_up s req result)
  looked_said s req (Ok answer) = answered_said s req answer
  looked_said s req (Err refusal) = refused_said s req refusal

  deleted_said : (s : State) (req : ReqId) (path : Path) (recursive : Bool) (moment : Moment) → Said (deleted s req path recursive moment)
  deleted_said s req path recursive moment =
      let hides = edited_by s req (Hide path moment.0 s.durable.next_hidden) (answers.Path (hidden_path path moment.0 s.durable.next_hidden)) in
      let third = if s.durable.next_hidden == 0 then refused s req refusals.Exhausted else hides in
      let second = if not recursive && has_visible_child (fin.entries s.durable.names.tree) path then refused s req refusals.NotEmpty else third in
      let first = if is_none (fin.get s.durable.names.tree path) then answered_with s req answers.Absent else second in
      pick Said (same_path path []) (refused s req refusals.IsRoot) first (refused_said s req refusals.IsRoot)
      (pick Said (is_none (fin.get s.durable.names.tree path)) (answered_with s req answers.Absent) second (answered_said s req answers.Absent)
      (pick Said (not recursive && has_visible_child (fin.entries s.durable.names.tree) path) (refused s req refusals.NotEmpty) third (refused_said s req refusals.NotEmpty)
      (pick Said (s.durable.next_hidden == 0) (refused s req refusals.Exhausted) hides (refused_said s req refusals.Exhausted)
      (edited_said s req (Hide path moment.0 s.durable.next_hidden) (answers.Path (hidden_path path moment.0 s.durable.next_hidden))))))

  -- ---- calls that begin views

  begins_said : (s : State) (req : ReqId) (plan : Plan) (waiting : Waiting) → AllSaid plan.sent → Said (begins s req plan waiting)
  begins_said s req plan waiting said =
      pick Said (not (has_versions s.durable 1)) (refused s req refusals.Exhausted) (if_room s (turned s (waits_from_now plan req waiting)) (refused s req refusals.Full)) (refused_said s req refusals.Exhausted)
      (room_said s req (turned s (waits_from_now plan req waiting)) said)

  begins_new_said : (s : State) (req : ReqId) (plan : Plan) (waiting : Waiting) → AllSaid plan.sent → Said (begins_new s req plan waiting)
  begins_new_said s req plan waiting said =
      pick Said (not (has_handle s.durable)) (refused s req refusals.Exhausted) (begins s req plan waiting) (refused_said s req refusals.Exhausted) (begins_said s req plan waiting said)

  leased_said : (s : State) (req : ReqId) (path : Path) (index : ℕ) (stamp : Option Stamp) (moment : Moment) (chunk : ℕ) (c : Chunk) → Said (leased s req path index stamp moment chunk c)
  leased_said s req path index stamp moment chunk c =
      let begin = begins s req (begin_at s chunk purposes.Lease (Some req)) (waits.Lease path index chunk) in
      pick Said (is_leased c && may_use stamp moment (view_of c)) (looked_up s req (location s.durable (Ok chunk))) (if is_wanted c then refused s req refusals.Locked else begin)
      (looked_said s req (location s.durable (Ok chunk)))
      (pick Said (is_wanted c) (refused s req refusals.Locked) begin (refused_said s req refusals.Locked)
      (begins_said s req (begin_at s chunk purposes.Lease (Some req)) (waits.Lease path index chunk) (begun_said s chunk purposes.Lease (Some req))))

  copies_said : (stamp : Stamp) (old : ℕ) (view : View) (new : ℕ) (req : ReqId) → AllSaid (copy_plan stamp old view new req).sent
  copies_said stamp old view new req =
      each_said view.members (λ server. post (nodes.Server server) (bodies.MakeCopy old view.stamp new stamp)) (λ server. kinds.make_copy server old view.stamp new stamp)

  copied_on_write_said : (s : State) (req : ReqId) (path : Path) (index chunk : ℕ) (c : Chunk) (view : Option View) → Said (copied_on_write s req path index chunk c view)
  copied_on_write_said s req path index chunk c None = refused_said s req refusals.NoReplica
  copied_on_write_said s req path index chunk c (Some view) =
      let copy = begins_new s req (copy_plan (next_stamp s.durable) chunk view s.durable.next_handle req) (waits.Copy path index chunk s.durable.next_handle) in
      let quiet = begins s req (begin_at s chunk purposes.Quiet (Some req)) (waits.Quiet path index chunk) in
      pick Said (is_wanted c) (refused s req refusals.Locked) (if is_quiet c then copy else quiet) (refused_said s req refusals.Locked)
      (pick Said (is_quiet c) copy quiet
      (begins_new_said s req (copy_plan (next_stamp s.durable) chunk view s.durable.next_handle req) (waits.Copy path index chunk s.durable.next_handle) (copies_said (next_stamp s.durable) chunk view s.durable.next_handle req))
      (begins_said s req (begin_at s chunk purposes.Quiet (Some req)) (waits.Quiet path index chunk) (begun_said s chunk purposes.Quiet (Some req))))

  written_said : (s : State) (req : ReqId) (path : Path) (index : ℕ) (stamp : Option Stamp) (moment : Moment) (chunk : ℕ) (c : Option Chunk) → Said (written_at s req path index stamp moment chunk c)
  written_said s req path index stamp moment chunk None = refused_said s req refusals.NoReplica
  written_said s req path index stamp moment chunk (Some c) =
      pick Said (is_shared s.durable.names chunk) (copied_on_write s req path index chunk c (view_of c)) (leased s req path index stamp moment chunk c)
      (copied_on_write_said s req path index chunk c (view_of c)) (leased_said s req path index stamp moment chunk c)

  found_said : (s : State) (req : ReqId) (path : Path) (index : ℕ) (stamp : Option Stamp) (moment : Moment) (chunk : Result ℕ Refusal) → Said (found_for_writing s req path index stamp moment chunk)
  found_said s req path index stamp moment (Err refusal) = refused_said s req refusal
  found_said s req path index stamp moment (Ok chunk) = written_said s req path index stamp moment chunk (chunk_at s chunk)

  created_said : (s : State) (req : ReqId) (path : Path) (targets : Option (List ℕ)) → Said (created_on s req path targets)
  created_said s req path None = refused_said s req refusals.NoServer
  created_said s req path (Some targets) =
      begins_new_said s req (create_plan (next_stamp s.durable) s.durable.next_handle targets req) (waits.Extend path s.durable.next_handle)
      (each_said targets (about s.durable.next_handle (chunks.Create (next_stamp s.durable))) (λ server. kinds.create s.durable.next_handle (next_stamp s.durable) server))

  extended_said : (config : Config) (s : State) (req : ReqId) (path : Path) (chunks : List ℕ) (index : ℕ) → Said (extended_at config s req path chunks index)
  extended_said config s req path chunks index =
      let makes = created_on s req path (targets_for config (counted_views s) [] config.replicas) in
      pick Said (nat_lt index (length chunks)) (looked_up s req (location s.durable (found_chunk (Some (File chunks)) index)))
      (if nat_lt (length chunks) index || nat_le most_chunks index then refused s req refusals.Range else makes)
      (looked_said s req (location s.durable (found_chunk (Some (File chunks)) index)))
      (pick Said (nat_lt (length chunks) index || nat_le most_chunks index) (refused s req refusals.Range) makes (refused_said s req refusals.Range)
      (created_said s req path (targets_for config (counted_views s) [] config.replicas)))

  extends_said : (config : Config) (s : State) (req : ReqId) (path : Path) (index : ℕ) (entry : Option (Entry ℕ)) → Said (extends config s req path index entry)
  extends_said config s req path index None = refused_said s req refusals.NotFound
  extends_said config s req path index (Some Dir) = refused_said s req refusals.IsADirectory
  extends_said config s req path index (Some (File chunks)) = extended_said config s req path chunks index

  snapshot_said : (s : State) (req : ReqId) (from to : Path) (many : List ℕ) → Said (begins_snapshot s req from to many)
  snapshot_said s req from to [] = edited_said s req (Snapshot from to) answers.Nothing
  snapshot_said s req from to (chunk ∷ chunks) =
      let wait = turned s (begin_pending req (waits.Snapshot from to)) in
      let begin : State → Turn = λ next. all_begun next (chunk ∷ chunks) purposes.Quiet (Some req) in
      let all = if_room s (and_then wait begin) (refused s req refusals.Full) in
      pick Said (list_any (is_wanted_at s) (chunk ∷ chunks)) (refused s req refusals.Locked)
      (if not (has_versions s.durable (length (chunk ∷ chunks))) then refused s req refusals.Exhausted else all)
      (refused_said s req refusals.Locked)
      (pick Said (not (has_versions s.durable (length (chunk ∷ chunks)))) (refused s req refusals.Exhausted) all (refused_said s req refusals.Exhausted)
      (room_said s req (and_then wait begin) (then_said wait begin tt (all_begun_said (chunk ∷ chunks) purposes.Quiet (Some req) wait.after))))

  snapshot_if_said : (s : State) (req : ReqId) (from to : Path) (rows : Result (Rows ℕ) Refusal) → Said (snapshot_if s req from to rows)
  snapshot_if_said s req from to (Ok rows) = snapshot_said s req from to (unquiet s from)
  snapshot_if_said s req from to (Err refusal) = refused_said s req refusal

  replicated_said : (s : State) (req : ReqId) (chunk : ℕ) (targets : Option (List ℕ)) → Said (replicated_to s req chunk targets)
  replicated_said s req chunk None = refused_said s req refusals.NoServer
  replicated_said s req chunk (Some []) = refused_said s req refusals.NoServer
  replicated_said s req chunk (Some (target ∷ targets)) =
      begins_said s req (begin_at s chunk (purposes.Copy target) (Some req)) (waits.Replicate chunk target) (begun_said s chunk (purposes.Copy target) (Some req))

  replicates_said : (config : Config) (s : State) (req : ReqId) (chunk : ℕ) (c : Option Chunk) → Said (replicates_chunk config s req chunk c)
  replicates_said config s req chunk None = refused_said s req refusals.NoReplica
  replicates_said config s req chunk (Some c) =
      pick Said (is_wanted c) (refused s req refusals.Locked) (replicated_to s req chunk (targets_for config (counted_views s) (members_of c) 1)) (refused_said s req refusals.Locked)
      (replicated_said s req chunk (targets_for config (counted_views s) (members_of c) 1))

  most_said : (config : Config) (s : State) (req : ReqId) (chunk : Option ℕ) → Said (replicates_most config s req chunk)
  most_said config s req None = answered_said s req (answers.Copied None)
  most_said config s req (Some chunk) = replicates_said config s req chunk (chunk_at s chunk)

  scanned_said : (s : State) (req : ReqId) (removed : List Path) (forgotten : List ℕ) → Said (scanned s req removed forgotten)
  scanned_said s req removed forgotten =
      let scan = turned s (scan_plan removed forgotten) in
      let ended : State → Turn = λ next. all_ended_by next (waiting_for s forgotten) refusals.NoReplica in
      let answer : State → Turn = λ next. answered_with next req (answers.Scanned (length removed) (length forgotten)) in
      room_said s req (and_then (and_then scan ended) answer)
      (then_said (and_then scan ended) answer (then_said scan ended tt (all_ended_said (waiting_for s forgotten) refusals.NoReplica scan.after)) (answered_said (and_then scan ended).after req (answers.Scanned (length removed) (length forgotten))))

  -- ---- calls of an upgrade

  unless_said : (refusal : Option Refusal) (s : State) (req : ReqId) (t : Turn) → Said t → Said (unless refusal s req t)
  unless_said None s req t a = room_said s req t a
  unless_said (Some refusal) s req t a = refused_said s req refusal

  all_told : (config : Config) (epoch : ℕ) (end : EpochEnd) → AllSaid (tell_all config epoch end)
  all_told config epoch end = each_said (count_from 0 config.servers) (λ server. post (nodes.Server server) (bodies.Epoch epoch end)) (λ server. kinds.epoch server epoch end)

  -- what is told to all servers, and the reply
  told_said : (config : Config) (s : State) (req : ReqId) (records : List PlainEntry) (before : List Change) (epoch other : ℕ) (end : EpochEnd) → AllSaid (accepted_plan s req records before (tell_all config epoch end) other).sent
  told_said config s req records before epoch other end =
      both_say Says (tell_all config epoch end) (reply_to req (Ok (answers.Epoch other)) ∷ []) (all_told config epoch end) (kinds.reply req (Ok (answers.Epoch other)), tt)

  begin_said : (s : State) (req : ReqId) → Said (prepare_begin s req)
  begin_said s req =
      let many = all_unquiet s in
      let ended = all_ended_by s (requests_of s.volatile.pending) refusals.Preparing in
      let begin : State → Turn = λ next. all_begun next many purposes.Quiet None in
      let accept : State → Turn = λ next. turned next (accepted_plan next req [] (changes.Prepare true ∷ []) [] s.durable.epoch) in
      unless_said (first_of (begin_tests s.durable.phase s.volatile.is_preparing s.volatile.pending (not (has_versions s.durable (length many))))) s req (and_then (and_then ended begin) accept)
      (then_said (and_then ended begin) accept (then_said ended begin (all_ended_said (requests_of s.volatile.pending) refusals.Preparing s) (all_begun_said many purposes.Quiet None ended.after)) (kinds.reply req (Ok (answers.Epoch s.durable.epoch)), tt))

  commit_said : (config : Config) (s : State) (req : ReqId) (moment : Moment) → Said (prepare_commit config s req moment)
  commit_said config s req moment =
      unless_said (first_of (commit_tests s.durable.phase s.volatile.is_preparing (all_unquiet s) (is_last_epoch s.durable))) s req _
      (told_said config s req (Prepare (s.durable.epoch + 1) moment.0 (chunk_count s) ∷ []) (changes.Prepare false ∷ []) (s.durable.epoch + 1) (s.durable.epoch + 1) ends.Prepare)

  finalize_said : (config : Config) (s : State) (req : ReqId) → Said (finalize config s req)
  finalize_said config s req =
      unless_said (first_of (end_tests s.durable.phase (is_last_epoch s.durable))) s req _ (told_said config s req (Finalize (s.durable.epoch + 1) ∷ []) [] (s.durable.epoch + 1) (s.durable.epoch + 1) ends.Finalize)

  rollback_said : (config : Config) (s : State) (req : ReqId) → Said (rollback_begin config s req)
  rollback_said config s req =
      let plan : Plan = record { records = RollbackBegin (s.durable.epoch + 1) ∷ []; changes = []; sent = []; said = None } in
      let ended : State → Turn = λ next. all_ended_by next (requests_of s.volatile.pending) refusals.RollingBack in
      let accept : State → Turn = λ next. turned next (accepted_plan next req [] [] (tell_all config (s.durable.epoch + 1) ends.Rollback) (s.durable.epoch + 1)) in
      let both = and_then (turned s plan) ended in
      unless_said (first_of (end_tests s.durable.phase (is_last_epoch s.durable))) s req (and_then both accept)
      (then_said both accept (then_said (turned s plan) ended tt (all_ended_said (requests_of s.volatile.pending) refusals.RollingBack (turned s plan).after)) (told_said config both.after req [] [] (s.durable.epoch + 1) (s.durable.epoch + 1) ends.Rollback))

  commit_if_said : (s : State) (req : ReqId) (names : NamesView) (lacking : Option ℕ) → Said (commit_if s req names lacking)
  commit_if_said s req names (Some chunk) = refused_said s req (refusals.Unrestored chunk)
  commit_if_said s req names None =
      room_said s req (turned s (accepted_plan s req (RollbackCommit s.durable.epoch (answers_for (prepared_view s.durable) (told_of s) (fin.entries names.refs)) ∷ []) (changes.RolledBack ∷ []) [] s.durable.epoch))
      (kinds.reply req (Ok (answers.Epoch s.durable.epoch)), tt)

  commit_on_said : (s : State) (req : ReqId) (names : Option NamesView) → Said (commit_on s req names)
  commit_on_said s req None = refused_said s req refusals.BadLine
  commit_on_said s req (Some names) = commit_if_said s req names (unrestored (prepared_view s.durable) (told_of s) (fin.entries names.refs))

  -- ---- all calls

  called_said : (config : Config) (s : State) (req : ReqId) (moment : Moment) (call : Call) → Said (called config s req moment call)
  called_said config s req moment (calls.Mkdirs path) = edited_said s req (Mkdirs path) answers.Nothing
  called_said config s req moment (calls.Create path) = edited_said s req (Create path) answers.Nothing
  called_said config s req moment (calls.Rename from to) = edit_said s req (Rename from (target_of (fin.get s.durable.names.tree) from to)) answers.Nothing (edited_names (Rename from to) s.durable.names)
  called_said config s req moment (calls.Delete path recursive) = deleted_said s req path recursive moment
  called_said config s req moment (calls.Undelete path) = edited_said s req (Unhide path) (answers.Path (unhide_target path (old_name path)))
  called_said config s req moment (calls.Snapshot from to) = snapshot_if_said s req from to (edited (edits.Snapshot from to) (fin.entries s.durable.names.tree))
  called_said config s req moment (calls.List path) = looked_said s req (listing (fin.entries s.durable.names.tree) path (fin.get s.durable.names.tree path))
  called_said config s req moment (calls.Status path) = looked_said s req (status s.durable (fin.get s.durable.names.tree path))
  called_said config s req moment (calls.FindForReading path index) = looked_said s req (location s.durable (found_chunk (fin.get s.durable.names.tree path) index))
  called_said config s req moment (calls.FindForWriting path index stamp) = found_said s req path index stamp moment (found_chunk (fin.get s.durable.names.tree path) index)
  called_said config s req moment (calls.Extend path index) = extends_said config s req path index (fin.get s.durable.names.tree path)
  called_said config s req moment calls.Scan = scanned_said s req (removed_paths moment.0 (fin.entries s.durable.names.tree)) (forgotten_chunks moment.0 (fin.entries s.durable.names.tree) (fin.entries s.durable.names.refs))
  called_said config s req moment calls.Replicate = most_said config s req (most_needed_of config.replicas (needs_of s))
  called_said config s req moment calls.Query = answered_said s req (answers.Phase (told_phase s.volatile.is_preparing s.durable.phase) s.durable.epoch)
  called_said config s req moment calls.PrepareBegin = begin_said s req
  called_said config s req moment calls.PrepareCommit = commit_said config s req moment
  called_said config s req moment calls.PrepareAbort =
      pick Said s.volatile.is_preparing (turned s (accepted_plan s req [] (changes.Prepare false ∷ []) [] s.durable.epoch)) (refused s req refusals.NotUpgrading)
      (kinds.reply req (Ok (answers.Epoch s.durable.epoch)), tt) (refused_said s req refusals.NotUpgrading)
  called_said config s req moment calls.Finalize = finalize_said config s req
  called_said config s req moment calls.RollbackBegin = rollback_said config s req
  called_said config s req moment calls.RollbackCommit =
      pick Said (is_rolling s.durable.phase) (commit_on s req (all_undone s.durable.inverses s.durable.names)) (refused s req refusals.NotUpgrading)
      (commit_on_said s req (all_undone s.durable.inverses s.durable.names)) (refused_said s req refusals.NotUpgrading)

  unless_called : (config : Config) (s : State) (req : ReqId) (moment : Moment) (call : Call) (refusal : Option Refusal) → Said (called_unless config s req moment call refusal)
  unless_called config s req moment call None = called_said config s req moment call
  unless_called config s req moment call (Some refusal) = refused_said s req refusal

  replied_said : (s : State) (req : ReqId) (result : Result Answer Refusal) → Said (replied_again s req result)
  replied_said s req result = (kinds.reply req result, tt)

  taken_said : (config : Config) (s : State) (req : ReqId) (moment : Moment) (call : Call) (how : Numbered) → Said (taken_as config s req moment call how)
  taken_said config s req moment call New = unless_called config s req moment call (refused_before s req call)
  taken_said config s req moment call (Again result) = replied_said s req result
  taken_said config s req moment call Older = replied_said s req (Err refusals.Old)

  call_said : (config : Config) (s : State) (req : ReqId) (moment : Moment) (call : Call) → Said (call_turn config s req moment call)
  call_said config s req moment call =
      let taken = taken_as config s req moment call (numbered (last_reply s req.client) req.number) in
      let device = replied_said s req (Err refusals.Device) in
      pick Said (is_unopened s.fault) (replied_again s req (Err refusals.Device)) (if is_pending s.volatile.pending req then waits_still s req else taken)
      device
      (pick Said (is_pending s.volatile.pending req) (waits_still s req) taken
      (pick Said (is_failed s.fault) (replied_again s req (Err refusals.Device)) (unmoved s) device tt)
      (taken_said config s req moment call (numbered (last_reply s req.client) req.number)))

  -- ---- how calls go on

  for_room_said : (s : State) (req : ReqId) (t : Turn) → Said t → Said (if_room_for s req t)
  for_room_said s req t a = pick Said (fits s.log t.records) t (ended_by s req refusals.Full) a (ended_said s req refusals.Full)

  leased_next_said : (req : ReqId) (path : Path) (index chunk : ℕ) (s : State) → Said (leased_next req path index chunk s)
  leased_next_said req path index chunk s =
      let plan : Plan = waits_on (begin_at s chunk purposes.Lease (Some req)) req (waits.Lease path index chunk) in
      let begin = if_room_for s req (turned s plan) in
      pick Said (not (may_begin s.durable.phase)) (ended_by s req refusals.RollingBack) (if not (has_versions s.durable 1) then ended_by s req refusals.Exhausted else begin) (ended_said s req refusals.RollingBack)
      (pick Said (not (has_versions s.durable 1)) (ended_by s req refusals.Exhausted) begin (ended_said s req refusals.Exhausted) (for_room_said s req (turned s plan) (begun_said s chunk purposes.Lease (Some req))))

  where_said : (s : State) (req : ReqId) (path : Path) (index old : ℕ) (quiet : Option View) → Said (copied_where s req path index old quiet)
  where_said s req path index old None = ended_said s req refusals.NoReplica
  where_said s req path index old (Some view) =
      let plan : Plan = waits_on (copy_plan (next_stamp s.durable) old view s.durable.next_handle req) req (waits.Copy path index old s.durable.next_handle) in
      for_room_said s req (turned s plan) (copies_said (next_stamp s.durable) old view s.durable.next_handle req)

  copied_said : (s : State) (req : ReqId) (path : Path) (index old : ℕ) → Said (copied s req path index old)
  copied_said s req path index old =
      let copy = copied_where s req path index old (quiet_view_at s old) in
      let left = has_handle s.durable && has_versions s.durable 1 in
      pick Said (not (may_begin s.durable.phase)) (ended_by s req refusals.RollingBack) (if not left then ended_by s req refusals.Exhausted else copy) (ended_said s req refusals.RollingBack)
      (pick Said (not left) (ended_by s req refusals.Exhausted) copy (ended_said s req refusals.Exhausted) (where_said s req path index old (quiet_view_at s old)))

  edit_turn_said : (s : State) (req : ReqId) (edit : PlainEdit) (answer : Answer) (before : List Change) (names : Result NamesView Refusal) → Said (edit_turn s req (edit_plan req edit answer before) names)
  edit_turn_said s req edit answer before (Ok names) = for_room_said s req (turned s (edit_plan req edit answer before)) (kinds.reply req (Ok answer), tt)
  edit_turn_said s req edit answer before (Err refusal) = ended_said s req refusal

  replaced_said : (req : ReqId) (path : Path) (index old new : ℕ) (names : Result NamesView Refusal) (s : State) → Said (replaced_if s req path index old new names)
  replaced_said req path index old new (Ok names) s =
      let t = turned s (replace_plan path index old new) in
      pick Said (fits s.log (Edited own_request (Cow path index old new) ∷ [])) (and_then t (leased_next req path index new)) (ended_by s req refusals.Full)
      (then_said t (leased_next req path index new) tt (leased_next_said req path index new t.after)) (ended_said s req refusals.Full)
  replaced_said req path index old new (Err refusal) s = ended_said s req refusal

  ended_with_said : (s : State) (req : ReqId) (answer : Answer) → Said (ended_with s req answer)
  ended_with_said s req answer = (kinds.reply req (Ok answer), tt)

  goes_on_said : (s : State) (req : ReqId) (view : View) (waiting : Waiting) → Said (goes_on s req view waiting)
  unfolding goes_on
  goes_on_said s req view (waits.Extend path new) =
      edit_turn_said s req (AddChunk path new) (answers.Location new view s.durable.epoch) (changes.Place new ∷ []) (edited_names (AddChunk path new) s.durable.names)
  goes_on_said s req view (waits.Lease path index found) = ended_with_said s req (answers.Location found view s.durable.epoch)
  goes_on_said s req view (waits.Quiet path index quiet) = copied_said s req path index quiet
  goes_on_said s req view (waits.Copy path index old new) = replaced_said req path index old new (edited_names (Cow path index old new) s.durable.names) s
  goes_on_said s req view (waits.Snapshot from to) =
      pick Said (list_all (is_quiet_at s) (source_chunks s from)) (ended_by_edit s req (Snapshot from to) answers.Nothing []) (unmoved s)
      (edit_turn_said s req (Snapshot from to) answers.Nothing [] (edited_names (Snapshot from to) s.durable.names)) tt
  goes_on_said s req view (waits.Replicate chunk target) =
      let done = answers.Copied (Some (record { handle = chunk; server = target })) in
      pick Said (is_member view.members target) (ended_with s req done) (ended_by s req refusals.NoReplica) (ended_with_said s req done) (ended_said s req refusals.NoReplica)

  all_go_on_said : (view : View) (calls : List Pending) (s : State) → Said (all_go_on view calls s)
  all_go_on_said view [] s = tt
  all_go_on_said view (p ∷ calls) s =
      then_said (goes_on s p.req view p.waits) (all_go_on view calls) (goes_on_said s p.req view p.waits) (all_go_on_said view calls (goes_on s p.req view p.waits).after)

  -- ---- settling

  grant_said : (chunk : ℕ) (view : View) (term : Option Term) → AllSaid (grant_of chunk view term)
  grant_said chunk view None = tt
  grant_said chunk view (Some term) = (kinds.grant chunk _ term.primary, tt)

  all_refused_said : (s : State) (chunk : ℕ) (call : Option ReqId) (refusal : Refusal) → Said (all_refused s chunk call refusal)
  all_refused_said s chunk call refusal = all_ended_said (requests_of (concerned s chunk call)) refusal s

  settled_on_said : (s : State) (chunk : ℕ) (asking : Asking) (carried : Bool) (view : View) → Said (settled_on s chunk asking carried view)
  settled_on_said s chunk asking carried view =
      let records = settling s.durable.phase (prepared_view s.durable chunk) carried chunk asking view in
      let t = turned s (settle_plan records chunk view) in
      let calls = concerned s chunk asking.call in
      pick Said (fits s.log records) (and_then t (all_go_on view calls)) (all_refused s chunk asking.call refusals.Full)
      (then_said t (all_go_on view calls) (grant_said chunk view view.term) (all_go_on_said view calls t.after)) (all_refused_said s chunk asking.call refusals.Full)

  settled_if_said : (s : State) (chunk : ℕ) (asking : Asking) (carried : Bool) (view : Option View) → Said (settled_if s chunk asking carried view)
  settled_if_said s chunk asking carried None = tt
  settled_if_said s chunk asking carried (Some view) = settled_on_said s chunk asking carried view

  settled_by_said : (s : State) (chunk : ℕ) (c : Chunk) (asking : Asking) (carried : Bool) (by : Poll) (moment : Moment) → Said (settled_by s chunk c asking carried by moment)
  unfolding settled_by
  settled_by_said s chunk c asking carried by moment = settled_if_said s chunk asking carried (view_by c asking by moment)

  -- ---- messages of servers

  stepped_said : (s : State) (chunk : ℕ) (c : Chunk) (asking : Asking) (carried : Bool) (moment : Moment) (step : Step) → Said (stepped s chunk c asking carried moment step)
  stepped_said s chunk c asking carried moment steps.Wait = tt
  stepped_said s chunk c asking carried moment (steps.Send source target) = (kinds.copy_out chunk asking.stamp target _ source, tt)
  stepped_said s chunk c asking carried moment (steps.Settle by) = settled_by_said s chunk c asking carried by moment
  stepped_said s chunk c asking carried moment steps.Fail = all_refused_said s chunk asking.call refusals.NoReplica

  heard_said : (s : State) (chunk : ℕ) (c : Chunk) (asking : Asking) (carried : Bool) (moment : Moment) (step : Step) → Said (heard s chunk c asking carried moment step)
  heard_said s chunk c asking carried moment step =
      then_said (turned s (ask_plan chunk asking)) (λ next. stepped next chunk c asking carried moment step) tt (stepped_said (turned s (ask_plan chunk asking)).after chunk c asking carried moment step)

  promised_for_said : (s : State) (server chunk : ℕ) (stamp : Stamp) (count : ℕ) (carried : Bool) (moment : Moment) (c : Chunk) (asking : Option Asking) → Said (promised_for s server chunk stamp count carried moment c asking)
  promised_for_said s server chunk stamp count carried moment c None = tt
  promised_for_said s server chunk stamp count carried moment c (Some asking) =
      pick Said (hears asking stamp server) (heard s chunk c (heard_yes asking server count) (carried && is_target asking server) moment (step_of_yes asking server count)) (unmoved s)
      (heard_said s chunk c (heard_yes asking server count) (carried && is_target asking server) moment (step_of_yes asking server count)) tt

  promised_at_said : (s : State) (server chunk : ℕ) (stamp : Stamp) (count : ℕ) (carried : Bool) (moment : Moment) (c : Option Chunk) → Said (promised_at s server chunk stamp count carried moment c)
  promised_at_said s server chunk stamp count carried moment None = tt
  promised_at_said s server chunk stamp count carried moment (Some c) = promised_for_said s server chunk stamp count carried moment c c.asking

  unpromised_for_said : (s : State) (server chunk : ℕ) (stamp : Stamp) (moment : Moment) (c : Chunk) (asking : Option Asking) → Said (unpromised_for s server chunk stamp moment c asking)
  unpromised_for_said s server chunk stamp moment c None = tt
  unpromised_for_said s server chunk stamp moment c (Some asking) =
      pick Said (hears asking stamp server) (heard s chunk c (heard_no asking server) false moment (step_of_no asking server)) (unmoved s)
      (heard_said s chunk c (heard_no asking server) false moment (step_of_no asking server)) tt

  unpromised_at_said : (s : State) (server chunk : ℕ) (stamp : Stamp) (moment : Moment) (c : Option Chunk) → Said (unpromised_at s server chunk stamp moment c)
  unpromised_at_said s server chunk stamp moment None = tt
  unpromised_at_said s server chunk stamp moment (Some c) = unpromised_for_said s server chunk stamp moment c c.asking

  end_said : (server epoch : ℕ) (end : Option EpochEnd) → AllSaid (end_told server epoch end)
  end_said server epoch None = tt
  end_said server epoch (Some end) = (kinds.epoch server (epoch + 1) end, tt)

  next_said : (s : State) (server epoch : ℕ) → Said (sends s (next_epoch s.durable server epoch))
  next_said s server epoch = end_said server epoch (slice_get s.durable.ends epoch)

  quiet_said : (many : List ℕ) (s : State) → Said (made_quiet many s)
  quiet_said many s =
      let begin = all_begun s many purposes.Quiet None in
      pick Said (has_versions s.durable (length many)) (if_room s begin (unmoved s)) (unmoved s) (pick Said (fits s.log begin.records) begin (unmoved s) (all_begun_said many purposes.Quiet None s) tt) tt

  drops_said : (epoch server : ℕ) (replicas : List Reported) → AllSaid (map (λ (r : Reported). about r.handle (chunks.Drop epoch r.promise) server) replicas)
  drops_said epoch server [] = tt
  drops_said epoch server (r ∷ replicas) = (kinds.drop r.handle epoch r.promise server, drops_said epoch server replicas)

  reported_said : (s : State) (server epoch : ℕ) (replicas : List Reported) → Said (reported s server epoch replicas)
  reported_said s server epoch replicas =
      let dropped = sends s (drops s server replicas) in
      let quiet = made_quiet (lost s server replicas) in
      pick Said (nat_lt epoch s.durable.epoch) (sends s (next_epoch s.durable server epoch)) (if may_begin s.durable.phase && (epoch == s.durable.epoch) then reported_now s server replicas else unmoved s) (next_said s server epoch)
      (pick Said (may_begin s.durable.phase && (epoch == s.durable.epoch)) (reported_now s server replicas) (unmoved s)
      (then_said dropped quiet (drops_said s.durable.epoch server (filter (λ (r : Reported). is_stray (chunk_at s r.handle) server) replicas)) (quiet_said (lost s server replicas) dropped.after)) tt)

  learned_said : (s : State) (server epoch : ℕ) (handles : List ℕ) → Said (learned s server epoch handles)
  learned_said s server epoch handles =
      let plan : Plan = record { records = []; changes = changes.Restored server handles ∷ []; sent = []; said = None } in
      pick Said (nat_lt epoch s.durable.epoch) (sends s (next_epoch s.durable server epoch)) (if is_rolling s.durable.phase && (epoch == s.durable.epoch) then turned s plan else unmoved s) (next_said s server epoch)
      (pick Said (is_rolling s.durable.phase && (epoch == s.durable.epoch)) (turned s plan) (unmoved s) tt tt)

  about_said : (s : State) (server chunk : ℕ) (moment : Moment) (said : Said_of_chunk) → Said (about_turn s server chunk moment said)
  about_said s server chunk moment (chunks.Promised stamp count carried) = promised_at_said s server chunk stamp count carried moment (chunk_at s chunk)
  about_said s server chunk moment (chunks.Unpromised stamp refusal) = unpromised_at_said s server chunk stamp moment (chunk_at s chunk)
  about_said s server chunk moment (chunks.Renew stamp) =
      pick Said (is_leased_under stamp (chunk_at s chunk) && not s.volatile.is_preparing) (sends s (about chunk (chunks.Renewed stamp (end_of moment)) server ∷ [])) (unmoved s) (kinds.renewed chunk stamp (end_of moment) server, tt) tt
  about_said s server chunk moment (chunks.Bad stamp) =
      pick Said (may_begin s.durable.phase && is_lost_at server (chunk_at s chunk)) (made_quiet (chunk ∷ []) s) (unmoved s) (quiet_said (chunk ∷ []) s) tt
  about_said s server chunk moment said = tt

  server_said : (s : State) (server : ℕ) (moment : Moment) (said : Body) → Said (server_turn s server moment said)
  server_said s server moment (bodies.About chunk said) = about_said s server chunk moment said
  server_said s server moment (bodies.Report epoch replicas) = reported_said s server epoch replicas
  server_said s server moment (bodies.Learned epoch handles) = learned_said s server epoch handles
  server_said s server moment (bodies.Behind epoch) = pick Said (nat_lt epoch s.durable.epoch) (sends s (next_epoch s.durable server epoch)) (unmoved s) (next_said s server epoch) tt
  server_said s server moment said = tt

  client_said : (config : Config) (s : State) (moment : Moment) (said : Body) → Said (from_client config s moment said)
  client_said config s moment (bodies.Call req call) = call_said config s req moment call
  client_said config s moment said = tt

  node_said : (config : Config) (s : State) (moment : Moment) (said : Body) (from : NodeId) → Said (from_node config s moment said from)
  node_said config s moment said nodes.Master = tt
  node_said config s moment said (nodes.Server server) = pick Said (is_failed s.fault) (met_by s refusals.Device) (server_turn s server moment said) tt (server_said s server moment said)
  node_said config s moment said (nodes.Client client) = client_said config s moment said

  pub message_said : (config : Config) (s : State) (message : Message) (moment : Moment) → Said (handle config s message moment)
  unfolding handle
  message_said config s message moment = node_said config s moment message.body message.from

  -- ---- a tick

  pressed_if_said : (s : State) (chunk : ℕ) (stamp : Stamp) (moment : Moment) (c : Chunk) (asking : Option Asking) → Said (pressed_if s chunk stamp moment c asking)
  pressed_if_said s chunk stamp moment c None = tt
  pressed_if_said s chunk stamp moment c (Some asking) =
      pick Said (is_same asking.stamp stamp) (stepped s chunk c asking false moment (step_at_tick asking)) (unmoved s) (stepped_said s chunk c asking false moment (step_at_tick asking)) tt

  pressed_at_said : (s : State) (chunk : ℕ) (stamp : Stamp) (moment : Moment) (c : Option Chunk) → Said (pressed_at s chunk stamp moment c)
  pressed_at_said s chunk stamp moment None = tt
  pressed_at_said s chunk stamp moment (Some c) = pressed_if_said s chunk stamp moment c c.asking

  all_pressed : (many : List (ℕ × Stamp)) (moment : Moment) (s : State) → Said (for_each s many (pressed moment))
  all_pressed [] moment s = tt
  all_pressed (p ∷ many) moment s =
      then_said (pressed moment p s) (λ next. for_each next many (pressed moment)) (pressed_at_said s p.0 p.1 moment (chunk_at s p.0)) (all_pressed many moment (pressed moment p s).after)

  view_said : (chunk : ℕ) (view : Option View) → AllSaid (granted_view chunk view)
  view_said chunk None = tt
  view_said chunk (Some view) = grant_said chunk view view.term

  granted_at_said : (chunk : ℕ) (c : Option Chunk) → AllSaid (granted_at chunk c)
  granted_at_said chunk None = tt
  granted_at_said chunk (Some c) = by_lease (is_leased c)
    where
      by_lease : (b : Bool) → AllSaid (if b then granted_view chunk (view_of c) else [])
      by_lease true = view_said chunk (view_of c)
      by_lease false = tt

  all_granted : (s : State) (many : List ℕ) → AllSaid (flat_map (λ chunk. granted_at chunk (chunk_at s chunk)) many)
  all_granted s [] = tt
  all_granted s (chunk ∷ many) =
      both_say Says (granted_at chunk (chunk_at s chunk)) (flat_map (λ c. granted_at c (chunk_at s c)) many) (granted_at_said chunk (chunk_at s chunk)) (all_granted s many)

  -- all steps of a tick, before a checkpoint
  pub steps_said : (s : State) (moment : Moment) → Said (and_then (for_each s (proposals s) (pressed moment)) granted)
  steps_said s moment =
      let press = for_each s (proposals s) (pressed moment) in then_said press granted (all_pressed (proposals s) moment s) (all_granted press.after (fin.keys press.after.durable.chunks))

  unless_written : (s : State) (refusal : Option Refusal) → Said (written_unless s refusal)
  unless_written s None = tt
  unless_written s (Some refusal) = tt

  checkpoint_said : (s : State) → Said (checkpoint s)
  unfolding checkpoint
  checkpoint_said s = unless_written s (first_of (checkpoint_tests (is_failed s.fault) s.volatile.is_preparing s.log (checkpoint_body s.durable)))

  due_said : (s : State) → Said (written_if_due s)
  due_said s = pick Said (due s) (record (checkpoint s) { said = None }) (unmoved s) (checkpoint_said s) tt

  pub tick_said : (s : State) (moment : Moment) → Said (tick s moment)
  unfolding tick
  tick_said s moment =
      let steps = and_then (for_each s (proposals s) (pressed moment)) granted in
      pick Said (is_failed s.fault) (met_by s refusals.Device) (and_then steps written_if_due) tt (then_said steps written_if_due (steps_said s moment) (due_said steps.after))

  -- ---- a restart

  pub reopened_said : (config : Config) (d : Durable) → AllSaid (told_again config d)
  reopened_said config d = by_phase (is_rolling d.phase)
    where
      by_phase : (b : Bool) → AllSaid (if b then tell_all config d.epoch ends.Rollback else [])
      by_phase true = all_told config d.epoch ends.Rollback
      by_phase false = tt
