-- The records of each call have room, and it leaves who has told of a chunk, but for the commit of a rollback.
use Rattle.std.proofs.Common.{◌≡◌, ◌⊎◌, inl, inr, arith, ◌∙◌, ◌==◌, ◌&&◌, ◌||◌, ◌+◌, ◌++◌, ℕ, Bool, true, false, not, List, [], ◌∷◌, length, map, refl, ap, sym}
use Rattle.std.specs.Prelude.{nat_lt, nat_le, is_none, is_some, Option, Some, None, Result, Ok, Err, if◌then◌else◌}
use Rattle.std.specs.List.{list_all, list_any}
use Rattle.std.specs.FinMap as fin
use Rattle.std.proofs.lemmas.Bool.{false≢true}
use Rattle.gs_base.specs.declared.config.Config.{Config}
use Rattle.gs_base.specs.declared.epoch.EpochEnd.TheVariants as ends
use Rattle.gs_base.specs.declared.numbers.Moment.{Moment}
use Rattle.gs_base.specs.declared.numbers.ReqId.{ReqId}
use Rattle.gs_base.specs.declared.numbers.Stamp.{Stamp}
use Rattle.gs_base.specs.declared.refusal.Refusal.{Refusal}
use Rattle.gs_base.specs.declared.refusal.Refusal.TheVariants as refusals
use Rattle.gs_path.specs.Path.{Path}
use Rattle.gs_tree.specs.Entry.{Entry, Dir, File}
use Rattle.gs_tree.specs.Find.{Rows}
use Rattle.gs_tree.specs.Edits.{same_path, hidden_path, old_name, target_of}
use Rattle.gs_edit.specs.Edits.{edited}
use Rattle.gs_edit.specs.Plain.{unhide_target}
use Rattle.gs_edit.specs.View.{NamesView}
use Rattle.gs_edit.specs.declared.edit.Edit.TheVariants as edits
use Rattle.gs_lease.specs.declared.view.Purpose.TheVariants as purposes
use Rattle.gs_lease.specs.declared.view.View.{View}
use Rattle.gs_msg.specs.declared.answer.Answer.{Answer}
use Rattle.gs_msg.specs.declared.answer.Answer.TheVariants as answers
use Rattle.gs_msg.specs.declared.call.Call.{Call}
use Rattle.gs_msg.specs.declared.call.Call.TheVariants as calls
use Rattle.gs_place.specs.Needs.{most_needed_of}
use Rattle.gs_master_record.specs.Plain.{PlainEdit, Edited, Prepare, Finalize, RollbackBegin, RollbackCommit, Mkdirs, Create, Rename, Hide, Unhide, Snapshot}
use Rattle.gs_master_spec.specs.Beginning.{next_stamp, has_versions, has_handle, begin_at, all_begun, create_plan, copy_plan, waits_from_now, targets_for, counted_views}
use Rattle.gs_master_spec.specs.Calls.{edited_by, edit_if, accept_plan, deleted, answered_with, has_visible_child, looked_up, listing, status, location, found_chunk, refused_before, told_phase, is_shared, most_chunks, renames}
use Rattle.gs_master_spec.specs.Chunks.{Chunk, chunk_at, has_entry, is_leased, is_quiet, is_wanted, view_of, members_of}
use Rattle.gs_master_spec.specs.Durable.{Settled, is_rolling, prepared_view}
use Rattle.gs_master_spec.specs.Handling.{call_turn, called, called_unless, taken_as, numbered, replied_again, waits_still, Numbered, New, Again, Older}
use Rattle.gs_laws_master.specs.Rooms.{CommitsRollback, CopiesStill, IsStill, restored_in}
use Rattle.gs_laws_master.proofs.lemmas.fitting.AcceptedUpgrades.{none_passes}
use Rattle.gs_laws_master.proofs.lemmas.upgrades.Resting.{quiet_rests}
use Rattle.gs_laws_master.proofs.lemmas.rooms.Rooms.{Adds, Roomy, all_begun_adds, all_ended_roomy, answer_leaves, both_leave, either_roomy, free_adds, is_plain, leaves_told, plan_adds, plan_roomy, quiet_adds, records_add, refused_roomy, same_roomy, then_adds, tried_roomy}
use Rattle.gs_master_state.proofs.ChunkSets.{in_set, set_entries}
use Rattle.gs_master_spec.specs.Replies.{is_later}
use Rattle.gs_master_state.specs.inner.Surveying.{chunk_set}
use Rattle.gs_base.specs.Members.{is_member}
use Rattle.std.specs.Ordering.{nat_cmp}
use Rattle.std.proofs.lemmas.Bool.{true≢false, and_parts}
use Rattle.std.proofs.lemmas.Bool.Decides.{nat_tests}
use Rattle.gs_master_spec.specs.Settling.{is_quiet_at, own_request, requests_of, source_chunks}
use Rattle.gs_master_spec.specs.State.{State, Plan, Turn, turned, unmoved, and_then, fits, if_room, refused, answered, all_ended_by, answer_changes, kept_in_memory, is_failed, is_unopened, last_reply, first_of}
use Rattle.gs_master_spec.specs.Undoing.{edited_names, all_undone}
use Rattle.gs_master_spec.specs.Upgrades.{accepted_plan, all_unquiet, begin_tests, commit_tests, end_tests, is_last_epoch, chunk_count, tell_all, answers_for, unless, prepare_begin, prepare_commit, prepare_abort, finalize, rollback_begin, rollback_commit, commit_on, commit_if, unrestored, told_of}
use Rattle.gs_master_spec.specs.Volatile.{all_changed, is_pending}
use Rattle.gs_master_spec.specs.Working.{begins, begins_new, may_use, leased, copied_on_write, written_at, found_for_writing, created_on, extended_at, extends, unquiet, is_wanted_at, begin_pending, begins_snapshot, snapshot_if, replicated_to, replicates_chunk, replicates_most, needs_of, put_handles, scanned, scan_plan, scan_edits, forget_if, waiting_for, removed_paths, forgotten_chunks}
use Rattle.gs_master_spec.specs.declared.change.Change.{Change}
use Rattle.gs_master_spec.specs.declared.change.Change.TheVariants as changes
use Rattle.gs_master_spec.specs.declared.pending.Waiting.{Waiting}
use Rattle.gs_master_spec.specs.declared.pending.Waiting.TheVariants as waits

-- ---- chunks that are quiet are still

settled_is : {a b : Settled} → ◌≡◌ {A = Option Settled} (Some a) (Some b) → a ≡ b
settled_is h = cc

-- a chunk that isn't known isn't
unknown : (s : State) (chunk : ℕ) → has_entry s chunk ≡ false → is_quiet_at s chunk ≡ false
unfolding chunk_at
unknown s chunk is = rw is refl

pub quiet_still : (s : State) (chunk : ℕ) (settled : Settled) → is_quiet_at s chunk ≡ true → fin.get s.durable.chunks chunk ≡ Some settled → IsStill settled
quiet_still s chunk settled quiet has = by_known (has_entry s chunk) refl
  where
    by_known : (b : Bool) → has_entry s chunk ≡ b → IsStill settled
    by_known true known = (quiet_rests s chunk known quiet).settled settled has
    by_known false is = absurd (false≢true (sym (unknown s chunk is) ∙ quiet))

module _ (s : State) (from : Path) where
  -- each of the source is
  pub all_quiet_still : ((chunk : ℕ) → is_member (source_chunks s from) chunk ≡ true → is_quiet_at s chunk ≡ true) → (by : ReqId) (to : Path) → CopiesStill s.durable (Edited by (Snapshot from to))
  all_quiet_still quiet by to chunk settled here has = quiet_still s chunk settled (quiet chunk here) has

  none_unquiet_still : unquiet s from ≡ [] → (by : ReqId) (to : Path) → CopiesStill s.durable (Edited by (Snapshot from to))
  none_unquiet_still none by to = all_quiet_still (λ chunk here. quiet_so (is_quiet_at s chunk) (none_passes (λ c. not (is_quiet_at s c)) (put_handles (source_chunks s from)) chunk none (put chunk ∙ here))) by to
    where
      quiet_so : (b : Bool) → not b ≡ false → b ≡ true
      quiet_so true e = refl
      quiet_so false e = absurd (true≢false e)

      put : (chunk : ℕ) → is_some (fin.find nat_cmp chunk (put_handles (source_chunks s from))) ≡ is_member (source_chunks s from) chunk
      put chunk = ap (λ es. is_some (fin.find nat_cmp chunk es)) (sym (set_entries (source_chunks s from))) ∙ ap is_some (sym (fin.get-entries (chunk_set (source_chunks s from)) chunk)) ∙ in_set (source_chunks s from) chunk

  pub list_quiet_still : list_all (is_quiet_at s) (source_chunks s from) ≡ true → (by : ReqId) (to : Path) → CopiesStill s.durable (Edited by (Snapshot from to))
  list_quiet_still all by to = all_quiet_still (λ chunk here. one_of (source_chunks s from) chunk all here) by to
    where
      same_number : (a b : ℕ) → (a == b) ≡ true → a ≡ b
      same_number a b e = grind (arith, nat_tests)

      one_of : (chunks : List ℕ) (chunk : ℕ) → list_all (is_quiet_at s) chunks ≡ true → is_member chunks chunk ≡ true → is_quiet_at s chunk ≡ true
      one_of [] chunk all here = absurd (false≢true here)
      one_of (c ∷ chunks) chunk all here = let parts = and_parts (is_quiet_at s c) (list_all (is_quiet_at s) chunks) all in by_head parts.0 (one_of chunks chunk parts.1) (c == chunk) refl here
        where
          by_head : is_quiet_at s c ≡ true → (is_member chunks chunk ≡ true → is_quiet_at s chunk ≡ true) → (b : Bool) → (c == chunk) ≡ b → (b || is_member chunks chunk) ≡ true → is_quiet_at s chunk ≡ true
          by_head first rest true is k = ap (is_quiet_at s) (sym (same_number c chunk is)) ∙ first
          by_head first rest false is k = rest k

module _ (told : Bool) where
  room_roomy : (s : State) (req : ReqId) (t : Turn) → Adds told s t → Roomy told s (if_room s t (refused s req refusals.Full))
  room_roomy s req t a = tried_roomy told s t (refused s req refusals.Full) a (refused_roomy told req refusals.Full s)

  -- ---- calls of the tree

  edit_roomy : (s : State) (req : ReqId) (edit : PlainEdit) (answer : Answer) (names : Result NamesView Refusal) → CopiesStill s.durable (Edited req edit) → Roomy told s (edit_if s req edit answer names)
  edit_roomy s req edit answer (Ok names) still = room_roomy s req (turned s (accept_plan req edit answer)) (records_add told s (accept_plan req edit answer) refl (still, λ next is. tt) refl)
  edit_roomy s req edit answer (Err refusal) still = refused_roomy told req refusal s

  edited_roomy : (s : State) (req : ReqId) (edit : PlainEdit) (answer : Answer) → CopiesStill s.durable (Edited req edit) → Roomy told s (edited_by s req edit answer)
  edited_roomy s req edit answer still = edit_roomy s req edit answer (edited_names edit s.durable.names) still

  renames_roomy : (s : State) (req : ReqId) (from to : Path) → Roomy told s (renames s req from to)
  renames_roomy s req from to = edit_roomy s req (Rename from (target_of (fin.get s.durable.names.tree) from to)) answers.Nothing (edited_names (Rename from to) s.durable.names) tt

  answered_roomy : (s : State) (req : ReqId) (answer : Answer) → Roomy told s (answered_with s req answer)
  answered_roomy s req answer = plan_roomy told s (answered s req answer) refl (answer_leaves told s req answer)

  looked_roomy : (s : State) (req : ReqId) (result : Result Answer Refusal) → Roomy told s (looked_up s req result)
  looked_roomy s req (Ok answer) = answered_roomy s req answer
  looked_roomy s req (Err refusal) = refused_roomy told req refusal s

  deleted_roomy : (s : State) (req : ReqId) (path : Path) (recursive : Bool) (moment : Moment) → Roomy told s (deleted s req path recursive moment)
  deleted_roomy s req path recursive moment =
      let hides = edited_by s req (Hide path moment.0 s.durable.next_hidden) (answers.Path (hidden_path path moment.0 s.durable.next_hidden)) in
      let third = if s.durable.next_hidden == 0 then refused s req refusals.Exhausted else hides in
      let second = if not recursive && has_visible_child (fin.entries s.durable.names.tree) path then refused s req refusals.NotEmpty else third in
      let first = if is_none (fin.get s.durable.names.tree path) then answered_with s req answers.Absent else second in
      either_roomy told s (same_path path []) (refused s req refusals.IsRoot) first (refused_roomy told req refusals.IsRoot s)
      (either_roomy told s (is_none (fin.get s.durable.names.tree path)) (answered_with s req answers.Absent) second (answered_roomy s req answers.Absent)
      (either_roomy told s (not recursive && has_visible_child (fin.entries s.durable.names.tree) path) (refused s req refusals.NotEmpty) third (refused_roomy told req refusals.NotEmpty s)
      (either_roomy told s (s.durable.next_hidden == 0) (refused s req refusals.Exhausted) hides (refused_roomy told req refusals.Exhausted s)
      (edited_roomy s req (Hide path moment.0 s.durable.next_hidden) (answers.Path (hidden_path path moment.0 s.durable.next_hidden)) tt))))

  -- ---- calls that begin views

  abbrev IsFine : Plan → Type 0
  IsFine plan = (list_all is_plain plan.records ≡ true) × (list_all leaves_told plan.changes ≡ true)

  begins_roomy : (s : State) (req : ReqId) (plan : Plan) (waiting : Waiting) → IsFine plan → Roomy told s (begins s req plan waiting)
  begins_roomy s req plan waiting fine =
      either_roomy told s (not (has_versions s.durable 1)) (refused s req refusals.Exhausted) (if_room s (turned s (waits_from_now plan req waiting)) (refused s req refusals.Full)) (refused_roomy told req refusals.Exhausted s)
      (room_roomy s req (turned s (waits_from_now plan req waiting))
      (plan_adds told s (waits_from_now plan req waiting) fine.0 (both_leave plan.changes (changes.Begin (record { req = req; waits = waiting }) ∷ []) fine.1 refl)))

  begins_new_roomy : (s : State) (req : ReqId) (plan : Plan) (waiting : Waiting) → IsFine plan → Roomy told s (begins_new s req plan waiting)
  begins_new_roomy s req plan waiting fine =
      either_roomy told s (not (has_handle s.durable)) (refused s req refusals.Exhausted) (begins s req plan waiting) (refused_roomy told req refusals.Exhausted s) (begins_roomy s req plan waiting fine)

  leased_roomy : (s : State) (req : ReqId) (path : Path) (index : ℕ) (stamp : Option Stamp) (moment : Moment) (chunk : ℕ) (c : Chunk) → Roomy told s (leased s req path index stamp moment chunk c)
  leased_roomy s req path index stamp moment chunk c =
      let begin = begins s req (begin_at s chunk purposes.Lease (Some req)) (waits.Lease path index chunk) in
      either_roomy told s (is_leased c && may_use stamp moment (view_of c)) (looked_up s req (location s.durable (Ok chunk))) (if is_wanted c then refused s req refusals.Locked else begin)
      (looked_roomy s req (location s.durable (Ok chunk)))
      (either_roomy told s (is_wanted c) (refused s req refusals.Locked) begin (refused_roomy told req refusals.Locked s)
      (begins_roomy s req (begin_at s chunk purposes.Lease (Some req)) (waits.Lease path index chunk) (refl, refl)))

  copied_roomy : (s : State) (req : ReqId) (path : Path) (index chunk : ℕ) (c : Chunk) (view : Option View) → Roomy told s (copied_on_write s req path index chunk c view)
  copied_roomy s req path index chunk c None = refused_roomy told req refusals.NoReplica s
  copied_roomy s req path index chunk c (Some view) =
      let copy = copy_plan (next_stamp s.durable) chunk view s.durable.next_handle req in
      let begins_copy = begins_new s req copy (waits.Copy path index chunk s.durable.next_handle) in
      let begins_quiet = begins s req (begin_at s chunk purposes.Quiet (Some req)) (waits.Quiet path index chunk) in
      either_roomy told s (is_wanted c) (refused s req refusals.Locked) (if is_quiet c then begins_copy else begins_quiet) (refused_roomy told req refusals.Locked s)
      (either_roomy told s (is_quiet c) begins_copy begins_quiet
      (begins_new_roomy s req copy (waits.Copy path index chunk s.durable.next_handle) (refl, refl))
      (begins_roomy s req (begin_at s chunk purposes.Quiet (Some req)) (waits.Quiet path index chunk) (refl, refl)))

  written_roomy : (s : State) (req : ReqId) (path : Path) (index : ℕ) (stamp : Option Stamp) (moment : Moment) (chunk : ℕ) (c : Option Chunk) → Roomy told s (written_at s req path index stamp moment chunk c)
  written_roomy s req path index stamp moment chunk None = refused_roomy told req refusals.NoReplica s
  written_roomy s req path index stamp moment chunk (Some c) =
      either_roomy told s (is_shared s.durable.names chunk) (copied_on_write s req path index chunk c (view_of c)) (leased s req path index stamp moment chunk c)
      (copied_roomy s req path index chunk c (view_of c)) (leased_roomy s req path index stamp moment chunk c)

  found_roomy : (s : State) (req : ReqId) (path : Path) (index : ℕ) (stamp : Option Stamp) (moment : Moment) (chunk : Result ℕ Refusal) → Roomy told s (found_for_writing s req path index stamp moment chunk)
  found_roomy s req path index stamp moment (Ok chunk) = written_roomy s req path index stamp moment chunk (chunk_at s chunk)
  found_roomy s req path index stamp moment (Err refusal) = refused_roomy told req refusal s

  created_roomy : (s : State) (req : ReqId) (path : Path) (targets : Option (List ℕ)) → Roomy told s (created_on s req path targets)
  created_roomy s req path None = refused_roomy told req refusals.NoServer s
  created_roomy s req path (Some targets) =
      begins_new_roomy s req (create_plan (next_stamp s.durable) s.durable.next_handle targets req) (waits.Extend path s.durable.next_handle) (refl, refl)

  extended_roomy : (config : Config) (s : State) (req : ReqId) (path : Path) (chunks : List ℕ) (index : ℕ) → Roomy told s (extended_at config s req path chunks index)
  extended_roomy config s req path chunks index =
      let makes = created_on s req path (targets_for config (counted_views s) [] config.replicas) in
      either_roomy told s (nat_lt index (length chunks)) (looked_up s req (location s.durable (found_chunk (Some (File chunks)) index)))
      (if nat_lt (length chunks) index || nat_le most_chunks index then refused s req refusals.Range else makes)
      (looked_roomy s req (location s.durable (found_chunk (Some (File chunks)) index)))
      (either_roomy told s (nat_lt (length chunks) index || nat_le most_chunks index) (refused s req refusals.Range) makes (refused_roomy told req refusals.Range s)
      (created_roomy s req path (targets_for config (counted_views s) [] config.replicas)))

  extends_roomy : (config : Config) (s : State) (req : ReqId) (path : Path) (index : ℕ) (entry : Option (Entry ℕ)) → Roomy told s (extends config s req path index entry)
  extends_roomy config s req path index None = refused_roomy told req refusals.NotFound s
  extends_roomy config s req path index (Some Dir) = refused_roomy told req refusals.IsADirectory s
  extends_roomy config s req path index (Some (File chunks)) = extended_roomy config s req path chunks index

  snapshot_roomy : (s : State) (req : ReqId) (from to : Path) (many : List ℕ) → unquiet s from ≡ many → Roomy told s (begins_snapshot s req from to many)
  snapshot_roomy s req from to [] none = edited_roomy s req (Snapshot from to) answers.Nothing (none_unquiet_still s from none req to)
  snapshot_roomy s req from to (chunk ∷ chunks) is =
      let wait = turned s (begin_pending req (waits.Snapshot from to)) in
      let begin : State → Turn = λ next. all_begun next (chunk ∷ chunks) purposes.Quiet (Some req) in
      let all = if_room s (and_then wait begin) (refused s req refusals.Full) in
      either_roomy told s (list_any (is_wanted_at s) (chunk ∷ chunks)) (refused s req refusals.Locked)
      (if not (has_versions s.durable (length (chunk ∷ chunks))) then refused s req refusals.Exhausted else all)
      (refused_roomy told req refusals.Locked s)
      (either_roomy told s (not (has_versions s.durable (length (chunk ∷ chunks)))) (refused s req refusals.Exhausted) all (refused_roomy told req refusals.Exhausted s)
      (room_roomy s req (and_then wait begin)
      (then_adds told s wait begin (plan_adds told s (begin_pending req (waits.Snapshot from to)) refl refl) (all_begun_adds told (chunk ∷ chunks) purposes.Quiet (Some req) wait.after))))

  snapshot_if_roomy : (s : State) (req : ReqId) (from to : Path) (rows : Result (Rows ℕ) Refusal) → Roomy told s (snapshot_if s req from to rows)
  snapshot_if_roomy s req from to (Ok rows) = snapshot_roomy s req from to (unquiet s from) refl
  snapshot_if_roomy s req from to (Err refusal) = refused_roomy told req refusal s

  replicated_roomy : (s : State) (req : ReqId) (chunk : ℕ) (targets : Option (List ℕ)) → Roomy told s (replicated_to s req chunk targets)
  replicated_roomy s req chunk None = refused_roomy told req refusals.NoServer s
  replicated_roomy s req chunk (Some []) = refused_roomy told req refusals.NoServer s
  replicated_roomy s req chunk (Some (target ∷ targets)) =
      begins_roomy s req (begin_at s chunk (purposes.Copy target) (Some req)) (waits.Replicate chunk target) (refl, refl)

  replicates_roomy : (config : Config) (s : State) (req : ReqId) (chunk : ℕ) (c : Option Chunk) → Roomy told s (replicates_chunk config s req chunk c)
  replicates_roomy config s req chunk None = refused_roomy told req refusals.NoReplica s
  replicates_roomy config s req chunk (Some c) =
      either_roomy told s (is_wanted c) (refused s req refusals.Locked) (replicated_to s req chunk (targets_for config (counted_views s) (members_of c) 1)) (refused_roomy told req refusals.Locked s)
      (replicated_roomy s req chunk (targets_for config (counted_views s) (members_of c) 1))

  most_roomy : (config : Config) (s : State) (req : ReqId) (chunk : Option ℕ) → Roomy told s (replicates_most config s req chunk)
  most_roomy config s req None = answered_roomy s req (answers.Copied None)
  most_roomy config s req (Some chunk) = replicates_roomy config s req chunk (chunk_at s chunk)

  -- a scan's edits copy nothing
  forget_plain : (forgotten : List ℕ) → list_all is_plain (map (Edited own_request) (forget_if forgotten)) ≡ true
  forget_plain [] = refl
  forget_plain (chunk ∷ chunks) = refl

  scan_plain : (removed : List Path) (forgotten : List ℕ) → list_all is_plain (map (Edited own_request) (scan_edits removed forgotten)) ≡ true
  scan_plain [] forgotten = forget_plain forgotten
  scan_plain (path ∷ removed) forgotten = scan_plain removed forgotten

  scanned_roomy : (s : State) (req : ReqId) (removed : List Path) (forgotten : List ℕ) → Roomy told s (scanned s req removed forgotten)
  scanned_roomy s req removed forgotten =
      let scan = turned s (scan_plan removed forgotten) in
      let ended : State → Turn = λ next. all_ended_by next (waiting_for s forgotten) refusals.NoReplica in
      let answer : State → Turn = λ next. answered_with next req (answers.Scanned (length removed) (length forgotten)) in
      room_roomy s req (and_then (and_then scan ended) answer)
      (then_adds told s (and_then scan ended) answer
      (then_adds told s scan ended (plan_adds told s (scan_plan removed forgotten) (scan_plain removed forgotten) refl) (all_ended_roomy told (waiting_for s forgotten) refusals.NoReplica scan.after).adds)
      (answered_roomy (and_then scan ended).after req (answers.Scanned (length removed) (length forgotten))).adds)

  -- ---- calls of an upgrade

  unless_roomy : (refusal : Option Refusal) (s : State) (req : ReqId) (t : Turn) → Adds told s t → Roomy told s (unless refusal s req t)
  unless_roomy None s req t a = room_roomy s req t a
  unless_roomy (Some refusal) s req t a = refused_roomy told req refusal s

  -- an answer of the epoch
  accepted_leaves : (s : State) (req : ReqId) (before : List Change) (epoch : ℕ) → list_all leaves_told before ≡ true → list_all leaves_told (before ++ answer_changes s req (answers.Epoch epoch)) ≡ true
  accepted_leaves s req before epoch leaves = both_leave before (answer_changes s req (answers.Epoch epoch)) leaves (answer_leaves told s req (answers.Epoch epoch))

  begin_roomy : (s : State) (req : ReqId) → Roomy told s (prepare_begin s req)
  begin_roomy s req =
      let many = all_unquiet s in
      let ended = all_ended_by s (requests_of s.volatile.pending) refusals.Preparing in
      let begin : State → Turn = λ next. all_begun next many purposes.Quiet None in
      let accept : State → Turn = λ next. turned next (accepted_plan next req [] (changes.Prepare true ∷ []) [] s.durable.epoch) in
      let both = and_then ended begin in
      unless_roomy (first_of (begin_tests s.durable.phase s.volatile.is_preparing s.volatile.pending (not (has_versions s.durable (length many))))) s req
      (and_then both accept)
      (then_adds told s both accept
      (then_adds told s ended begin (all_ended_roomy told (requests_of s.volatile.pending) refusals.Preparing s).adds (all_begun_adds told many purposes.Quiet None ended.after))
      (plan_adds told both.after (accepted_plan both.after req [] (changes.Prepare true ∷ []) [] s.durable.epoch) refl (accepted_leaves both.after req (changes.Prepare true ∷ []) s.durable.epoch refl)))

  commit_roomy : (config : Config) (s : State) (req : ReqId) (moment : Moment) → Roomy told s (prepare_commit config s req moment)
  commit_roomy config s req moment =
      let plan : Plan = accepted_plan s req (Prepare (s.durable.epoch + 1) moment.0 (chunk_count s) ∷ []) (changes.Prepare false ∷ []) (tell_all config (s.durable.epoch + 1) ends.Prepare) (s.durable.epoch + 1) in
      unless_roomy (first_of (commit_tests s.durable.phase s.volatile.is_preparing (all_unquiet s) (is_last_epoch s.durable))) s req (turned s plan) (plan_adds told s plan refl (accepted_leaves s req (changes.Prepare false ∷ []) (s.durable.epoch + 1) refl))

  abort_roomy : (s : State) (req : ReqId) → Roomy told s (prepare_abort s req)
  abort_roomy s req =
      let plan : Plan = accepted_plan s req [] (changes.Prepare false ∷ []) [] s.durable.epoch in
      either_roomy told s s.volatile.is_preparing (turned s plan) (refused s req refusals.NotUpgrading) (plan_roomy told s plan refl (accepted_leaves s req (changes.Prepare false ∷ []) s.durable.epoch refl)) (refused_roomy told req refusals.NotUpgrading s)

  finalize_roomy : (config : Config) (s : State) (req : ReqId) → Roomy told s (finalize config s req)
  finalize_roomy config s req =
      let plan : Plan = accepted_plan s req (Finalize (s.durable.epoch + 1) ∷ []) [] (tell_all config (s.durable.epoch + 1) ends.Finalize) (s.durable.epoch + 1) in
      unless_roomy (first_of (end_tests s.durable.phase (is_last_epoch s.durable))) s req (turned s plan) (plan_adds told s plan refl (accepted_leaves s req [] (s.durable.epoch + 1) refl))

  rollback_roomy : (config : Config) (s : State) (req : ReqId) → Roomy told s (rollback_begin config s req)
  rollback_roomy config s req =
      let plan : Plan = record { records = RollbackBegin (s.durable.epoch + 1) ∷ []; changes = []; sent = []; said = None } in
      let ended : State → Turn = λ next. all_ended_by next (requests_of s.volatile.pending) refusals.RollingBack in
      let accept : State → Turn = λ next. turned next (accepted_plan next req [] [] (tell_all config (s.durable.epoch + 1) ends.Rollback) (s.durable.epoch + 1)) in
      let both = and_then (turned s plan) ended in
      unless_roomy (first_of (end_tests s.durable.phase (is_last_epoch s.durable))) s req (and_then both accept)
      (then_adds told s both accept (then_adds told s (turned s plan) ended (plan_adds told s plan refl refl) (all_ended_roomy told (requests_of s.volatile.pending) refusals.RollingBack (turned s plan).after).adds)
      (plan_adds told both.after (accepted_plan both.after req [] [] (tell_all config (s.durable.epoch + 1) ends.Rollback) (s.durable.epoch + 1)) refl (accepted_leaves both.after req [] (s.durable.epoch + 1) refl)))

-- ---- the commit of a rollback

-- a turn leaves who has told, or commits the rollback, behind which nobody has
abbrev pub Leaves : State → Turn → Type 0
Leaves s t = Roomy true s t ⊎ (Roomy false s t × (CommitsRollback s t × (restored_in t.after ≡ fin.empty)))

pub pick : (P : Turn → Type 0) (b : Bool) (t u : Turn) → P t → P u → P (if b then t else u)
pick P true t u x y = x
pick P false t u x y = y

-- where its record has room
if_fits_leaves : (s : State) (t u : Turn) → Adds false s t → CommitsRollback s t → restored_in t.after ≡ fin.empty → Roomy true s u → Leaves s (if_room s t u)
if_fits_leaves s t u adds commits none other = by_room (fits s.log t.records) refl
  where
    by_room : (b : Bool) → fits s.log t.records ≡ b → Leaves s (if b then t else u)
    by_room true fit = inr (record { room = inr fit; adds = adds }, (commits, none))
    by_room false is = inl other

commit_if_leaves : (s : State) (req : ReqId) (names : NamesView) (lacking : Option ℕ) → Leaves s (commit_if s req names lacking)
commit_if_leaves s req names (Some chunk) = inl (refused_roomy true req (refusals.Unrestored chunk) s)
commit_if_leaves s req names None =
    let all = answers_for (prepared_view s.durable) (told_of s) (fin.entries names.refs) in
    let plan : Plan = accepted_plan s req (RollbackCommit s.durable.epoch all ∷ []) (changes.RolledBack ∷ []) [] s.durable.epoch in
    if_fits_leaves s (turned s plan) (refused s req refusals.Full) (free_adds s plan (tt, λ next is. tt) refl) (all, refl) (nobody (is_later (last_reply s req.client) req.number)) (refused_roomy true req refusals.Full s)
  where
    nobody : (b : Bool) → (all_changed s.volatile (changes.RolledBack ∷ (if b then kept_in_memory req (Ok (answers.Epoch s.durable.epoch)) ∷ [] else []))).restored ≡ fin.empty
    nobody true = refl
    nobody false = refl

commit_on_leaves : (s : State) (req : ReqId) (names : Option NamesView) → Leaves s (commit_on s req names)
commit_on_leaves s req None = inl (refused_roomy true req refusals.BadLine s)
commit_on_leaves s req (Some names) = commit_if_leaves s req names (unrestored (prepared_view s.durable) (told_of s) (fin.entries names.refs))

rolled_leaves : (s : State) (req : ReqId) → Leaves s (rollback_commit s req)
rolled_leaves s req =
    pick (Leaves s) (is_rolling s.durable.phase) (commit_on s req (all_undone s.durable.inverses s.durable.names)) (refused s req refusals.NotUpgrading)
    (commit_on_leaves s req (all_undone s.durable.inverses s.durable.names)) (inl (refused_roomy true req refusals.NotUpgrading s))

-- ---- all calls

called_leaves : (config : Config) (s : State) (req : ReqId) (moment : Moment) (call : Call) → Leaves s (called config s req moment call)
called_leaves config s req moment (calls.Mkdirs path) = inl (edited_roomy true s req (Mkdirs path) answers.Nothing tt)
called_leaves config s req moment (calls.Create path) = inl (edited_roomy true s req (Create path) answers.Nothing tt)
called_leaves config s req moment (calls.Rename from to) = inl (renames_roomy true s req from to)
called_leaves config s req moment (calls.Delete path recursive) = inl (deleted_roomy true s req path recursive moment)
called_leaves config s req moment (calls.Undelete path) = inl (edited_roomy true s req (Unhide path) (answers.Path (unhide_target path (old_name path))) tt)
called_leaves config s req moment (calls.Snapshot from to) = inl (snapshot_if_roomy true s req from to (edited (edits.Snapshot from to) (fin.entries s.durable.names.tree)))
called_leaves config s req moment (calls.List path) = inl (looked_roomy true s req (listing (fin.entries s.durable.names.tree) path (fin.get s.durable.names.tree path)))
called_leaves config s req moment (calls.Status path) = inl (looked_roomy true s req (status s.durable (fin.get s.durable.names.tree path)))
called_leaves config s req moment (calls.FindForReading path index) = inl (looked_roomy true s req (location s.durable (found_chunk (fin.get s.durable.names.tree path) index)))
called_leaves config s req moment (calls.FindForWriting path index stamp) = inl (found_roomy true s req path index stamp moment (found_chunk (fin.get s.durable.names.tree path) index))
called_leaves config s req moment (calls.Extend path index) = inl (extends_roomy true config s req path index (fin.get s.durable.names.tree path))
called_leaves config s req moment calls.Scan =
    inl (scanned_roomy true s req (removed_paths moment.0 (fin.entries s.durable.names.tree)) (forgotten_chunks moment.0 (fin.entries s.durable.names.tree) (fin.entries s.durable.names.refs)))
called_leaves config s req moment calls.Replicate = inl (most_roomy true config s req (most_needed_of config.replicas (needs_of s)))
called_leaves config s req moment calls.Query = inl (answered_roomy true s req (answers.Phase (told_phase s.volatile.is_preparing s.durable.phase) s.durable.epoch))
called_leaves config s req moment calls.PrepareBegin = inl (begin_roomy true s req)
called_leaves config s req moment calls.PrepareCommit = inl (commit_roomy true config s req moment)
called_leaves config s req moment calls.PrepareAbort = inl (abort_roomy true s req)
called_leaves config s req moment calls.Finalize = inl (finalize_roomy true config s req)
called_leaves config s req moment calls.RollbackBegin = inl (rollback_roomy true config s req)
called_leaves config s req moment calls.RollbackCommit = rolled_leaves s req

unless_called : (config : Config) (s : State) (req : ReqId) (moment : Moment) (call : Call) (refusal : Option Refusal) → Leaves s (called_unless config s req moment call refusal)
unless_called config s req moment call None = called_leaves config s req moment call
unless_called config s req moment call (Some refusal) = inl (refused_roomy true req refusal s)

replied_leaves : (s : State) (req : ReqId) (result : Result Answer Refusal) → Leaves s (replied_again s req result)
replied_leaves s req result = inl (quiet_adds true s (replied_again s req result) refl refl refl (λ c. refl))

taken_leaves : (config : Config) (s : State) (req : ReqId) (moment : Moment) (call : Call) (how : Numbered) → Leaves s (taken_as config s req moment call how)
taken_leaves config s req moment call New = unless_called config s req moment call (refused_before s req call)
taken_leaves config s req moment call (Again result) = replied_leaves s req result
taken_leaves config s req moment call Older = replied_leaves s req (Err refusals.Old)

pub call_leaves : (config : Config) (s : State) (req : ReqId) (moment : Moment) (call : Call) → Leaves s (call_turn config s req moment call)
call_leaves config s req moment call =
    let taken = taken_as config s req moment call (numbered (last_reply s req.client) req.number) in
    let device = replied_leaves s req (Err refusals.Device) in
    pick (Leaves s) (is_unopened s.fault) (replied_again s req (Err refusals.Device)) (if is_pending s.volatile.pending req then waits_still s req else taken)
    device
    (pick (Leaves s) (is_pending s.volatile.pending req) (waits_still s req) taken
    (pick (Leaves s) (is_failed s.fault) (replied_again s req (Err refusals.Device)) (unmoved s) device (inl (same_roomy true s)))
    (taken_leaves config s req moment call (numbered (last_reply s req.client) req.number)))
