-- The records of each call tell what they can, where its request, its paths and its place in a file can be told.
use Rattle.std.proofs.Common.{◌≡◌, ◌∙◌, ◌<◌, ◌^◌, ◌==◌, ◌&&◌, ◌||◌, ◌+◌, ◌++◌, ℕ, Bool, true, false, not, cond, List, [], ◌∷◌, length, map, filter, refl, ap, sym, subst, arith}
use Rattle.std.specs.Prelude.{min, nat_lt, nat_le, is_none, is_some, Option, Some, None, Result, Ok, Err, if◌then◌else◌}
use Rattle.std.specs.Fmt.{decimal}
use Rattle.std.specs.List.{list_all, list_any, AllByRecursion}
use Rattle.std.specs.Cmp.{nat_cmp_total, tied_itself}
use Rattle.std.specs.FinMap as fin
use Rattle.std.specs.Ordering.{eq_by_cmp, is_eq, nat_cmp}
use Rattle.std.specs.declared.cmp.Ordering.{Ordering}
use Rattle.std.specs.declared.cmp.Ordering.TheVariants.{Less, Equal, Greater}
use Rattle.std.proofs.lemmas.Bool.{false≢true, and_parts}
use Rattle.std.proofs.lemmas.Str.{is_utf8-from_IsUtf8, IsUtf8-from_ascii}
use Rattle.std.proofs.lemmas.Fmt.{IsAscii-decimal, length-decimal-le}
use Rattle.gs_base.specs.MemberLaws.{eqb_itself}
use Rattle.gs_base.specs.Told.{IsNumber}
use Rattle.gs_base.specs.declared.config.Config.{Config}
use Rattle.gs_base.specs.declared.epoch.EpochEnd.TheVariants as ends
use Rattle.gs_base.specs.declared.numbers.Moment.{Moment}
use Rattle.gs_base.specs.declared.numbers.ReqId.{ReqId}
use Rattle.gs_base.specs.declared.numbers.Stamp.{Stamp}
use Rattle.gs_base.specs.declared.refusal.Refusal.{Refusal}
use Rattle.gs_base.specs.declared.refusal.Refusal.TheVariants as refusals
use Rattle.gs_path.specs.Path.{Path, path_cmp, path_total, text_cmp}
use Rattle.gs_refs.specs.Counts.{last_count}
use Rattle.gs_tree.specs.Entry.{Entry, Dir, File}
use Rattle.gs_tree.specs.Find.{Rows}
use Rattle.gs_tree.specs.Edits.{same_path, hidden_path, old_name, target_of}
use Rattle.gs_edit.specs.Edits.{edited}
use Rattle.gs_edit.specs.Plain.{unhide_target}
use Rattle.gs_edit.specs.View.{NamesView}
use Rattle.gs_edit.specs.declared.edit.Edit.TheVariants as edits
use Rattle.gs_lease.specs.declared.view.Purpose.TheVariants as purposes
use Rattle.gs_lease.specs.declared.view.View.{View}
use Rattle.gs_msg.specs.declared.answer.Answer.{Answer}
use Rattle.gs_msg.specs.declared.answer.Answer.TheVariants as answers
use Rattle.gs_msg.specs.declared.call.Call.{Call}
use Rattle.gs_msg.specs.declared.call.Call.TheVariants as calls
use Rattle.gs_place.specs.Needs.{most_needed_of}
use Rattle.gs_master_record.specs.Plain.{PlainEdit, PlainEntry, Create, Edited, Finalize, Hide, Mkdirs, Prepare, Propose, Rename, RollbackBegin, RollbackCommit, Snapshot, Unhide}
use Rattle.gs_master_record.specs.Writable.{IsHandle, IsPath, IsRequest, IsText, IsWritable}
use Rattle.gs_master_spec.specs.Beginning.{next_stamp, has_versions, has_handle, begin_at, all_begun, create_plan, copy_plan, waits_from_now, targets_for, counted_views}
use Rattle.gs_master_spec.specs.Calls.{edited_by, edit_if, accept_plan, deleted, answered_with, has_visible_child, looked_up, listing, status, location, found_chunk, ordered, refused_before, told_phase, is_locked, is_shared, most_chunks, renames, is_any_hidden}
use Rattle.gs_master_spec.specs.Chunks.{Chunk, asking_for, chunk_at, has_entry, is_leased, is_quiet, is_wanted, view_of, members_of}
use Rattle.gs_master_spec.specs.Durable.{is_rolling, prepared_view}
use Rattle.gs_master_spec.specs.Handling.{call_turn, called, called_unless, taken_as, numbered, replied_again, waits_still, Numbered, New, Again, Older}
use Rattle.gs_master_spec.specs.Settling.{own_request, is_quiet_at, requests_of}
use Rattle.gs_master_spec.specs.State.{State, Plan, Turn, turned, unmoved, and_then, fits, if_room, refused, answered, all_ended_by, answer_changes, is_failed, is_unopened, last_reply, first_of}
use Rattle.gs_master_spec.specs.Undoing.{edited_names, all_undone}
use Rattle.gs_master_spec.specs.Upgrades.{accepted_plan, all_unquiet, begin_tests, commit_tests, end_tests, first_in, if_pending, if_unquiet, is_last_epoch, chunk_count, lacks_answer, lower_path, lowest_path, pending_paths, tell_all, answers_for, unless, prepare_begin, prepare_commit, prepare_abort, finalize, rollback_begin, rollback_commit, commit_on, commit_if, unrestored, told_of}
use Rattle.gs_master_spec.specs.Volatile.{is_pending, paths_of}
use Rattle.gs_master_spec.specs.Working.{ascending, begins, begins_new, may_use, leased, copied_on_write, written_at, found_for_writing, created_on, extended_at, extends, unquiet, is_wanted_at, begin_pending, begins_snapshot, snapshot_if, replicated_to, replicates_chunk, replicates_most, needs_of, put_paths, scanned, scan_plan, scan_edits, waiting_for, removed_paths, forgotten_chunks}
use Rattle.gs_edit.specs.Scan.{is_removed, removal_cmp}
use Rattle.gs_tree.specs.Find.{at}
use Rattle.gs_master_spec.specs.declared.asking.Asking.{Asking}
use Rattle.gs_master_spec.specs.declared.change.Change.{Change}
use Rattle.gs_master_spec.specs.declared.change.Change.TheVariants as changes
use Rattle.gs_master_spec.specs.declared.pending.Pending.{Pending}
use Rattle.gs_master_spec.specs.declared.pending.Waiting.{Waiting}
use Rattle.gs_master_spec.specs.declared.pending.Waiting.TheVariants as waits
use Rattle.gs_laws_master.specs.Standing.{IsNamedCall}
use Rattle.gs_laws_master.specs.Written.{AreSpelled, IsIndex, IsMet, IsTaken, IsTakenWaiting, is_spelled}
use Rattle.gs_laws_master.specs.Promises.{AreKept}
use Rattle.gs_laws_master.proofs.lemmas.upgrades.LedBack.{kept_tree}
use Rattle.gs_laws_master.proofs.lemmas.spelling.SpelledNames.{path_of}
use Rattle.gs_tree.specs.Build.{is_short}
use Rattle.gs_tree.proofs.Levels.{both_true}
use Rattle.gs_edit.specs.Scan.{is_without_slashes}
use Rattle.gs_laws_master.proofs.lemmas.fitting.AcceptedUpgrades.{answers_told}
use Rattle.gs_laws_master.proofs.lemmas.telling.Fair.{Fair, IsFairTest, IsFairly, fair_edited, fair_found, fair_listing, fair_location, fair_names, fair_status, first_fair}
use Rattle.gs_laws_master.proofs.lemmas.spelling.Retold.{each_found}
use Rattle.gs_laws_master.proofs.lemmas.telling.Tellable.{IsTellable, IsTellableEdit}
use Rattle.gs_tree.proofs.Depths.{paths_antisymmetric}
use Rattle.gs_laws_master.proofs.lemmas.telling.Telling.{IsToldChange, TellsTurn, all_begun_tells, all_both, all_ended_tells, all_filtered, all_requests, answer_told, bare, either_tells, plan_tells, quiet_tells, refused_tells, same_tells, test_tells, then_tells}
use Rattle.gs_path.specs.Element.{is_hidden}
use Rattle.gs_master_spec.specs.Applied.{is_visible}
use Rattle.gs_laws_master.proofs.lemmas.fitting.AcceptedCalls.{passes, two_visible}
use Rattle.gs_laws_master.proofs.lemmas.names.Resolved.{resolved_told}

-- ---- texts

pub number_text : (n : ℕ) → IsNumber n → IsText (decimal n)
number_text n low = (let short = length-decimal-le 20 n (omega arith) (omega arith) low in omega arith, is_utf8-from_IsUtf8 (decimal n) (IsUtf8-from_ascii (decimal n) (IsAscii-decimal n low)))

-- ---- plans of calls

-- what is asked of a plan that begins something
abbrev IsFine : Plan → Type 0
IsFine plan = AllByRecursion IsTellable plan.records × AllByRecursion (IsToldChange plan.records) plan.changes

pub new_fine : (chunk version : ℕ) (asking : Asking) → AllByRecursion (IsToldChange (Propose chunk version ∷ [])) (changes.Enter chunk ∷ changes.Ask chunk asking ∷ [])
new_fine chunk version asking = (or_left (chunk == chunk) (eqb_itself chunk), (tt, tt))
  where
    or_left : (b : Bool) → b ≡ true → (b || false) ≡ true
    or_left true h = refl
    or_left false h = h

module _ (s : State) (req : ReqId) (heard : IsRequest req) where
  refused_now : (refusal : Refusal) → IsWritable refusal → TellsTurn s (refused s req refusal)
  refused_now refusal can = refused_tells req refusal s heard can

  room_tells : (t : Turn) → TellsTurn s t → TellsTurn s (if_room s t (refused s req refusals.Full))
  room_tells t a = either_tells s (fits s.log t.records) t (refused s req refusals.Full) a (refused_now refusals.Full (tt, bare))

  -- ---- calls of the tree

  edit_tells : (edit : PlainEdit) (answer : Answer) (names : Result NamesView Refusal) → Fair names → IsTellableEdit edit → TellsTurn s (edit_if s req edit answer names)
  edit_tells edit answer (Ok names) fair told = room_tells (turned s (accept_plan req edit answer)) (plan_tells s (accept_plan req edit answer) ((heard, told), tt) tt)
  edit_tells edit answer (Err refusal) fair told = refused_now refusal (fair.can refusal refl)

  edited_tells : (edit : PlainEdit) (answer : Answer) → IsTellableEdit edit → TellsTurn s (edited_by s req edit answer)
  edited_tells edit answer told = edit_tells edit answer (edited_names edit s.durable.names) (fair_names edit s.durable.names) told

  renames_tells : (from to : Path) → IsPath from → IsPath to → is_visible from ≡ true → is_visible to ≡ true → TellsTurn s (renames s req from to)
  renames_tells from to a b seen_from seen_to = by_names (edited_names (Rename from to) s.durable.names) refl
    where
      by_names : (names : Result NamesView Refusal) → edited_names (Rename from to) s.durable.names ≡ names → TellsTurn s (edit_if s req (Rename from (target_of (fin.get s.durable.names.tree) from to)) answers.Nothing names)
      by_names (Ok after) is = edit_tells (Rename from (target_of (fin.get s.durable.names.tree) from to)) answers.Nothing (Ok after) (subst Fair is (fair_names (Rename from to) s.durable.names)) (a, resolved_told s.durable.names after from to a b seen_from seen_to is)
      by_names (Err refusal) is = refused_now refusal ((subst Fair is (fair_names (Rename from to) s.durable.names)).can refusal refl)

  answered_tells : (answer : Answer) → TellsTurn s (answered_with s req answer)
  answered_tells answer = plan_tells s (answered s req answer) tt (answer_told [] s req answer)

  looked_tells : (result : Result Answer Refusal) → Fair result → TellsTurn s (looked_up s req result)
  looked_tells (Ok answer) fair = answered_tells answer
  looked_tells (Err refusal) fair = refused_now refusal (fair.can refusal refl)

  deleted_tells : (path : Path) (recursive : Bool) (moment : Moment) → IsPath path → IsNumber moment.0 → TellsTurn s (deleted s req path recursive moment)
  deleted_tells path recursive moment told low =
      let hides = edited_by s req (Hide path moment.0 s.durable.next_hidden) (answers.Path (hidden_path path moment.0 s.durable.next_hidden)) in
      let third = if s.durable.next_hidden == 0 then refused s req refusals.Exhausted else hides in
      let second = if not recursive && has_visible_child (fin.entries s.durable.names.tree) path then refused s req refusals.NotEmpty else third in
      let first = if is_none (fin.get s.durable.names.tree path) then answered_with s req answers.Absent else second in
      either_tells s (same_path path []) (refused s req refusals.IsRoot) first (refused_now refusals.IsRoot (tt, bare))
      (either_tells s (is_none (fin.get s.durable.names.tree path)) (answered_with s req answers.Absent) second (answered_tells answers.Absent)
      (either_tells s (not recursive && has_visible_child (fin.entries s.durable.names.tree) path) (refused s req refusals.NotEmpty) third (refused_now refusals.NotEmpty (tt, bare))
      (either_tells s (s.durable.next_hidden == 0) (refused s req refusals.Exhausted) hides (refused_now refusals.Exhausted (tt, bare))
      (edited_tells (Hide path moment.0 s.durable.next_hidden) (answers.Path (hidden_path path moment.0 s.durable.next_hidden)) (told, low)))))

  -- ---- calls that begin views

  begins_tells : (plan : Plan) (waiting : Waiting) → IsFine plan → IsTakenWaiting waiting → TellsTurn s (begins s req plan waiting)
  begins_tells plan waiting fine taken =
      let whole = waits_from_now plan req waiting in
      either_tells s (not (has_versions s.durable 1)) (refused s req refusals.Exhausted) (if_room s (turned s whole) (refused s req refusals.Full)) (refused_now refusals.Exhausted (tt, bare))
      (room_tells (turned s whole) (plan_tells s whole fine.0 (all_both (IsToldChange plan.records) plan.changes (changes.Begin (record { req = req; waits = waiting }) ∷ []) fine.1 ((heard, taken), tt))))

  begins_new_tells : (plan : Plan) (waiting : Waiting) → IsFine plan → IsTakenWaiting waiting → TellsTurn s (begins_new s req plan waiting)
  begins_new_tells plan waiting fine taken =
      either_tells s (not (has_handle s.durable)) (refused s req refusals.Exhausted) (begins s req plan waiting) (refused_now refusals.Exhausted (tt, bare)) (begins_tells plan waiting fine taken)

  leased_tells : (path : Path) (index : ℕ) (stamp : Option Stamp) (moment : Moment) (chunk : ℕ) (c : Chunk) → IsPath path → IsIndex index → TellsTurn s (leased s req path index stamp moment chunk c)
  leased_tells path index stamp moment chunk c told low =
      let begin = begins s req (begin_at s chunk purposes.Lease (Some req)) (waits.Lease path index chunk) in
      either_tells s (is_leased c && may_use stamp moment (view_of c)) (looked_up s req (location s.durable (Ok chunk))) (if is_wanted c then refused s req refusals.Locked else begin)
      (looked_tells (location s.durable (Ok chunk)) (fair_location s.durable (Ok chunk) (record { can = λ refusal e. absurd (let k = e in cc) })))
      (either_tells s (is_wanted c) (refused s req refusals.Locked) begin (refused_now refusals.Locked (tt, bare))
      (begins_tells (begin_at s chunk purposes.Lease (Some req)) (waits.Lease path index chunk) ((tt, tt), (tt, tt)) (told, low)))

  copied_tells : (path : Path) (index chunk : ℕ) (c : Chunk) (view : Option View) → IsPath path → IsIndex index → TellsTurn s (copied_on_write s req path index chunk c view)
  copied_tells path index chunk c None told low = refused_now refusals.NoReplica (tt, bare)
  copied_tells path index chunk c (Some view) told low =
      let new = s.durable.next_handle in
      let copy = copy_plan (next_stamp s.durable) chunk view new req in
      let begins_copy = begins_new s req copy (waits.Copy path index chunk new) in
      let begins_quiet = begins s req (begin_at s chunk purposes.Quiet (Some req)) (waits.Quiet path index chunk) in
      either_tells s (is_wanted c) (refused s req refusals.Locked) (if is_quiet c then begins_copy else begins_quiet) (refused_now refusals.Locked (tt, bare))
      (either_tells s (is_quiet c) begins_copy begins_quiet
      (begins_new_tells copy (waits.Copy path index chunk new) ((tt, tt), new_fine new s.durable.next_version (asking_for (next_stamp s.durable) purposes.Quiet view.members (Some req))) (told, low))
      (begins_tells (begin_at s chunk purposes.Quiet (Some req)) (waits.Quiet path index chunk) ((tt, tt), (tt, tt)) (told, low)))

  written_tells : (path : Path) (index : ℕ) (stamp : Option Stamp) (moment : Moment) (chunk : ℕ) (c : Option Chunk) → IsPath path → IsIndex index → TellsTurn s (written_at s req path index stamp moment chunk c)
  written_tells path index stamp moment chunk None told low = refused_now refusals.NoReplica (tt, bare)
  written_tells path index stamp moment chunk (Some c) told low =
      either_tells s (is_shared s.durable.names chunk) (copied_on_write s req path index chunk c (view_of c)) (leased s req path index stamp moment chunk c)
      (copied_tells path index chunk c (view_of c) told low) (leased_tells path index stamp moment chunk c told low)

  -- a place at which a chunk stands is one of a file's
  found_tells : (path : Path) (index : ℕ) (stamp : Option Stamp) (moment : Moment) (chunk : Result ℕ Refusal) → Fair chunk → IsPath path → ((c : ℕ) → chunk ≡ Ok c → IsIndex index) → TellsTurn s (found_for_writing s req path index stamp moment chunk)
  found_tells path index stamp moment (Ok chunk) fair told low = written_tells path index stamp moment chunk (chunk_at s chunk) told (low chunk refl)
  found_tells path index stamp moment (Err refusal) fair told low = refused_now refusal (fair.can refusal refl)

  created_tells : (path : Path) (targets : Option (List ℕ)) → IsPath path → TellsTurn s (created_on s req path targets)
  created_tells path None told = refused_now refusals.NoServer (tt, bare)
  created_tells path (Some targets) told =
      let new = s.durable.next_handle in begins_new_tells (create_plan (next_stamp s.durable) new targets req) (waits.Extend path new) ((tt, tt), new_fine new s.durable.next_version (asking_for (next_stamp s.durable) purposes.Quiet targets (Some req))) told

  extended_tells : (config : Config) (path : Path) (chunks : List ℕ) (index : ℕ) → IsPath path → TellsTurn s (extended_at config s req path chunks index)
  extended_tells config path chunks index told =
      let makes = created_on s req path (targets_for config (counted_views s) [] config.replicas) in
      let found = found_chunk (Some (File chunks)) index in
      either_tells s (nat_lt index (length chunks)) (looked_up s req (location s.durable found)) (if nat_lt (length chunks) index || nat_le most_chunks index then refused s req refusals.Range else makes)
      (looked_tells (location s.durable found) (fair_location s.durable found (fair_found (Some (File chunks)) index)))
      (either_tells s (nat_lt (length chunks) index || nat_le most_chunks index) (refused s req refusals.Range) makes (refused_now refusals.Range (tt, bare)) (created_tells path (targets_for config (counted_views s) [] config.replicas) told))

  extends_tells : (config : Config) (path : Path) (index : ℕ) (entry : Option (Entry ℕ)) → IsPath path → TellsTurn s (extends config s req path index entry)
  extends_tells config path index None told = refused_now refusals.NotFound (tt, bare)
  extends_tells config path index (Some Dir) told = refused_now refusals.IsADirectory (tt, bare)
  extends_tells config path index (Some (File chunks)) told = extended_tells config path chunks index told

  snapshot_tells : (from to : Path) (many : List ℕ) → IsPath from → IsPath to → TellsTurn s (begins_snapshot s req from to many)
  snapshot_tells from to [] a b = edited_tells (Snapshot from to) answers.Nothing (a, b)
  snapshot_tells from to (chunk ∷ chunks) a b =
      let wait = turned s (begin_pending req (waits.Snapshot from to)) in
      let begin : State → Turn = λ next. all_begun next (chunk ∷ chunks) purposes.Quiet (Some req) in
      let all = if_room s (and_then wait begin) (refused s req refusals.Full) in
      either_tells s (list_any (is_wanted_at s) (chunk ∷ chunks)) (refused s req refusals.Locked) (if not (has_versions s.durable (length (chunk ∷ chunks))) then refused s req refusals.Exhausted else all) (refused_now refusals.Locked (tt, bare))
      (either_tells s (not (has_versions s.durable (length (chunk ∷ chunks)))) (refused s req refusals.Exhausted) all (refused_now refusals.Exhausted (tt, bare))
      (room_tells (and_then wait begin) (then_tells s wait begin (plan_tells s (begin_pending req (waits.Snapshot from to)) tt ((heard, (a, b)), tt)) (all_begun_tells (chunk ∷ chunks) purposes.Quiet (Some req) wait.after))))

  snapshot_if_tells : (from to : Path) (rows : Result (Rows ℕ) Refusal) → Fair rows → IsPath from → IsPath to → TellsTurn s (snapshot_if s req from to rows)
  snapshot_if_tells from to (Ok rows) fair a b = snapshot_tells from to (unquiet s from) a b
  snapshot_if_tells from to (Err refusal) fair a b = refused_now refusal (fair.can refusal refl)

  replicated_tells : (chunk : ℕ) (targets : Option (List ℕ)) → TellsTurn s (replicated_to s req chunk targets)
  replicated_tells chunk None = refused_now refusals.NoServer (tt, bare)
  replicated_tells chunk (Some []) = refused_now refusals.NoServer (tt, bare)
  replicated_tells chunk (Some (target ∷ targets)) = begins_tells (begin_at s chunk (purposes.Copy target) (Some req)) (waits.Replicate chunk target) ((tt, tt), (tt, tt)) tt

  replicates_tells : (config : Config) (chunk : ℕ) (c : Option Chunk) → TellsTurn s (replicates_chunk config s req chunk c)
  replicates_tells config chunk None = refused_now refusals.NoReplica (tt, bare)
  replicates_tells config chunk (Some c) =
      either_tells s (is_wanted c) (refused s req refusals.Locked) (replicated_to s req chunk (targets_for config (counted_views s) (members_of c) 1)) (refused_now refusals.Locked (tt, bare))
      (replicated_tells chunk (targets_for config (counted_views s) (members_of c) 1))

  most_tells : (config : Config) (chunk : Option ℕ) → TellsTurn s (replicates_most config s req chunk)
  most_tells config None = answered_tells (answers.Copied None)
  most_tells config (Some chunk) = replicates_tells config chunk (chunk_at s chunk)

-- ---- paths

waiting_paths : (w : Waiting) → IsTakenWaiting w → AllByRecursion IsPath (paths_of w)
waiting_paths (waits.Extend path new) t = (t, tt)
waiting_paths (waits.Lease path index leased) t = (t.0, tt)
waiting_paths (waits.Quiet path index quiet) t = (t.0, tt)
waiting_paths (waits.Copy path index old new) t = (t.0, tt)
waiting_paths (waits.Snapshot from to) t = (t.0, (t.1, tt))
waiting_paths (waits.Replicate copied target) t = tt

paths_told : (ps : List Pending) → AllByRecursion IsTaken ps → AllByRecursion IsPath (pending_paths ps)
paths_told [] t = tt
paths_told (p ∷ ps) t = all_both IsPath (paths_of p.waits) (pending_paths ps) (waiting_paths p.waits t.0.1) (paths_told ps t.1)

path_is : {a b : Path} → ◌≡◌ {A = Option Path} (Some a) (Some b) → a ≡ b
path_is e = cc

lower_told : (path other p : Path) → IsPath path → IsPath other → lower_path path (Some other) ≡ Some p → IsPath p
lower_told path other p a b e = by_order (text_cmp path other) refl
  where
    by_order : (o : Ordering) → text_cmp path other ≡ o → IsPath p
    by_order Less is = subst IsPath (path_is (rw is at e)) a
    by_order Equal is = subst IsPath (path_is (rw is at e)) b
    by_order Greater is = subst IsPath (path_is (rw is at e)) b

lowest_told : (ps : List Path) (p : Path) → AllByRecursion IsPath ps → lowest_path ps ≡ Some p → IsPath p
lowest_told [] p t e = absurd (false≢true (ap is_some e))
lowest_told (q ∷ ps) p t e = by_rest (lowest_path ps) refl e (λ r is. lowest_told ps r t.1 is)
  where
    by_rest : (o : Option Path) → lowest_path ps ≡ o → lower_path q o ≡ Some p → ((r : Path) → lowest_path ps ≡ Some r → IsPath r) → IsPath p
    by_rest None is h rest = subst IsPath (path_is h) t.0
    by_rest (Some r) is h rest = lower_told q r p t.0 (rest r is) h

-- ---- the chunks of refusals

first_passes : (f : ℕ → Bool) (xs : List ℕ) (c : ℕ) → first_in (filter f xs) ≡ Some c → f c ≡ true
first_passes f [] c e = absurd (false≢true (ap is_some e))
first_passes f (x ∷ xs) c e = by_test (first_passes f xs c) (f x) refl e
  where
    number_is : {a b : ℕ} → ◌≡◌ {A = Option ℕ} (Some a) (Some b) → a ≡ b
    number_is k = cc

    by_test : (first_in (filter f xs) ≡ Some c → f c ≡ true) → (b : Bool) → f x ≡ b → first_in (cond b (x ∷ filter f xs) (filter f xs)) ≡ Some c → f c ≡ true
    by_test rest true is h = ap f (sym (number_is h)) ∙ is
    by_test rest false is h = rest h

first_key : (f : ℕ × ℕ → Bool) (es : List (ℕ × ℕ)) (c : ℕ) → first_in (map (λ e. e.0) (filter f es)) ≡ Some c → is_some (fin.find nat_cmp c es) ≡ true
first_key f [] c h = absurd (false≢true (ap is_some h))
first_key f (e ∷ es) c h = by_test (first_key f es c) (f e) h
  where
    number_is : {a b : ℕ} → ◌≡◌ {A = Option ℕ} (Some a) (Some b) → a ≡ b
    number_is k = cc

    later : (b : Bool) → is_some (fin.find nat_cmp c es) ≡ true → is_some (cond b (Some e.1) (fin.find nat_cmp c es)) ≡ true
    later true k = refl
    later false k = k

    by_test : (first_in (map (λ x. x.0) (filter f es)) ≡ Some c → is_some (fin.find nat_cmp c es) ≡ true) → (b : Bool) → first_in (map (λ x. x.0) (cond b (e ∷ filter f es) (filter f es))) ≡ Some c → is_some (fin.find nat_cmp c (e ∷ es)) ≡ true
    by_test rest true k = subst (λ x. is_some (fin.find nat_cmp x (e ∷ es)) ≡ true) (number_is k) (ap (λ o. is_some (cond (is_eq o) (Some e.1) (fin.find nat_cmp e.0 es))) (tied_itself nat_cmp_total e.0))
    by_test rest false k = later (eq_by_cmp nat_cmp c e.0) (rest k)

-- ---- what is removed

abbrev by_order : {A : Type 0} → Ordering → A → A → A → A
by_order Less a b c = a
by_order Equal a b c = b
by_order Greater a b c = c

put_all : (f : Path → Bool) (p : Path) (es : List (Path × Bool)) → f p ≡ true → list_all (λ e. f e.0) es ≡ true → list_all (λ e. f e.0) (fin.put removal_cmp p true es) ≡ true
put_all f p [] own all = ap (λ b. b && true) own
put_all f p (e ∷ es) own all = each (and_parts (f e.0) (list_all (λ x. f x.0) es) all) (put_all f p es own (and_parts (f e.0) (list_all (λ x. f x.0) es) all).1) (removal_cmp p e.0)
  where
    each : (f e.0 ≡ true) × (list_all (λ x. f x.0) es ≡ true) → list_all (λ x. f x.0) (fin.put removal_cmp p true es) ≡ true → (o : Ordering) → list_all (λ x. f x.0) (by_order o ((p, true) ∷ e ∷ es) ((e.0, true) ∷ es) (e ∷ fin.put removal_cmp p true es)) ≡ true
    each parts rest Less = ap (λ b. b && list_all (λ x. f x.0) (e ∷ es)) own ∙ all
    each parts rest Equal = all
    each parts rest Greater = ap (λ b. b && list_all (λ x. f x.0) (fin.put removal_cmp p true es)) parts.0 ∙ rest

puts_all : (f : Path → Bool) (ps : List Path) → list_all f ps ≡ true → list_all (λ e. f e.0) (put_paths ps) ≡ true
puts_all f [] all = refl
puts_all f (p ∷ ps) all = let parts = and_parts (f p) (list_all f ps) all in put_all f p (put_paths ps) parts.0 (puts_all f ps parts.1)

keys_of : (P : Path → Type 0) (f : Path → Bool) (es : List (Path × Bool)) → ((p : Path) → f p ≡ true → P p) → list_all (λ e. f e.0) es ≡ true → AllByRecursion P (map (λ e. e.0) es)
keys_of P f [] h all = tt
keys_of P f (e ∷ es) h all = let parts = and_parts (f e.0) (list_all (λ x. f x.0) es) all in (h e.0 parts.0, keys_of P f es h parts.1)

rows_of : (f : Path → Bool) (g : Path × Entry ℕ → Bool) (rows : Rows ℕ) → list_all (λ r. f r.0) rows ≡ true → list_all f (map (λ r. r.0) (filter g rows)) ≡ true
rows_of f g [] all = refl
rows_of f g (r ∷ rows) all = let parts = and_parts (f r.0) (list_all (λ x. f x.0) rows) all in by_test (g r) parts.0 (rows_of f g rows parts.1)
  where
    by_test : (b : Bool) → f r.0 ≡ true → list_all f (map (λ x. x.0) (filter g rows)) ≡ true → list_all f (map (λ x. x.0) (cond b (r ∷ filter g rows) (filter g rows))) ≡ true
    by_test true own rest = ap (λ b. b && list_all f (map (λ x. x.0) (filter g rows))) own ∙ rest
    by_test false own rest = rest

-- what a scan removes can be told
abbrev is_path : Path → Bool
is_path p = list_all is_spelled p && (is_short p && is_without_slashes p)

both_rows : (f g : Path → Bool) (rows : Rows ℕ) → list_all (λ r. f r.0) rows ≡ true → list_all (λ r. g r.0) rows ≡ true → list_all (λ r. f r.0 && g r.0) rows ≡ true
both_rows f g [] a b = refl
both_rows f g (r ∷ rows) a b =
    let x = and_parts (f r.0) (list_all (λ q. f q.0) rows) a in
    let y = and_parts (g r.0) (list_all (λ q. g q.0) rows) b in both_true (f r.0 && g r.0) (list_all (λ q. f q.0 && g q.0) rows) (both_true (f r.0) (g r.0) x.0 y.0) (both_rows f g rows x.1 y.1)

pub removed_told : (names : NamesView) (moment : ℕ) → AreKept names → AreSpelled names → AllByRecursion IsPath (removed_paths moment (fin.entries names.tree))
removed_told names moment kept spelled =
    let rows = fin.entries names.tree in
    let plain = kept_tree names kept in
    let each = each_found path_cmp path_total paths_antisymmetric (λ r. list_all is_spelled r.0) rows (fin.entries_sorted names.tree) (λ path entry found. spelled path (ap is_some (fin.get-entries names.tree path ∙ found))) in
    keys_of IsPath is_path (put_paths (map (λ r. r.0) (filter (λ r. is_removed moment (at rows) r.0) rows)))
    (λ p h. let a = and_parts (list_all is_spelled p) (is_short p && is_without_slashes p) h in let b = and_parts (is_short p) (is_without_slashes p) a.1 in path_of p a.0 b.0 b.1)
    (puts_all is_path (map (λ r. r.0) (filter (λ r. is_removed moment (at rows) r.0) rows)) (rows_of is_path (λ r. is_removed moment (at rows) r.0) rows
    (both_rows (list_all is_spelled) (λ p. is_short p && is_without_slashes p) rows each (both_rows is_short is_without_slashes rows plain.short plain.plain))))

pub own_heard : IsRequest own_request
own_heard = (omega arith, omega arith)

scan_told : (removed : List Path) (forgotten : List ℕ) → AllByRecursion IsPath removed → AllByRecursion IsTellable (map (Edited own_request) (scan_edits removed forgotten))
scan_told [] [] t = tt
scan_told [] (chunk ∷ chunks) t = ((own_heard, tt), tt)
scan_told (path ∷ removed) forgotten t = ((own_heard, t.0), scan_told removed forgotten t.1)

-- ---- all calls

-- what is known of a state that a call meets
pub record CanTell (s : State) : Type 0 where
  pub calls : AllByRecursion IsTaken s.volatile.pending
  pub known : (chunk : ℕ) → has_entry s chunk ≡ true → IsHandle chunk
  pub before : (names : NamesView) (chunk : ℕ) → is_rolling s.durable.phase ≡ true → all_undone s.durable.inverses s.durable.names ≡ Some names → is_some (fin.get names.refs chunk) ≡ true → IsHandle chunk
  pub removed : (moment : ℕ) → AllByRecursion IsPath (removed_paths moment (fin.entries s.durable.names.tree))

module _ (s : State) (req : ReqId) (heard : IsRequest req) (can : CanTell s) where
  scanned_tells : (removed : List Path) (forgotten : List ℕ) → AllByRecursion IsPath removed → TellsTurn s (scanned s req removed forgotten)
  scanned_tells removed forgotten told =
      let scan = turned s (scan_plan removed forgotten) in
      let ended : State → Turn = λ next. all_ended_by next (waiting_for s forgotten) refusals.NoReplica in
      let answer : State → Turn = λ next. answered_with next req (answers.Scanned (length removed) (length forgotten)) in
      room_tells s req heard (and_then (and_then scan ended) answer)
      (then_tells s (and_then scan ended) answer
      (then_tells s scan ended (plan_tells s (scan_plan removed forgotten) (scan_told removed forgotten told) (tt, tt))
      (all_ended_tells (waiting_for s forgotten) refusals.NoReplica scan.after (all_requests _ (all_filtered IsTaken _ s.volatile.pending can.calls)) (tt, bare)))
      (answered_tells (and_then scan ended).after req heard (answers.Scanned (length removed) (length forgotten))))

  unless_tells : (refusal : Option Refusal) (t : Turn) → IsFairly refusal → TellsTurn s t → TellsTurn s (unless refusal s req t)
  unless_tells None t fair a = room_tells s req heard t a
  unless_tells (Some refusal) t fair a = refused_now s req heard refusal fair

  accepted_told : (records : List PlainEntry) (next : State) (before : List Change) (epoch : ℕ) → AllByRecursion (IsToldChange records) before → AllByRecursion (IsToldChange records) (before ++ answer_changes next req (answers.Epoch epoch))
  accepted_told records next before epoch t = all_both (IsToldChange records) before (answer_changes next req (answers.Epoch epoch)) t (answer_told records next req (answers.Epoch epoch))

  begin_tells : TellsTurn s (prepare_begin s req)
  begin_tells =
      let many = all_unquiet s in
      let reqs = requests_of s.volatile.pending in
      let ended = all_ended_by s reqs refusals.Preparing in
      let begin : State → Turn = λ next. all_begun next many purposes.Quiet None in
      let accept : State → Turn = λ next. turned next (accepted_plan next req [] (changes.Prepare true ∷ []) [] s.durable.epoch) in
      let both = and_then ended begin in
      let exhausted = not (has_versions s.durable (length many)) in
      let tests = begin_tests s.durable.phase s.volatile.is_preparing s.volatile.pending exhausted in
      unless_tells (first_of tests) (and_then both accept) (first_fair tests ((tt, bare), by_lowest exhausted (lowest_path (pending_paths s.volatile.pending)) (λ p is. lowest_told (pending_paths s.volatile.pending) p (paths_told s.volatile.pending can.calls) is)))
      (then_tells s both accept (then_tells s ended begin (all_ended_tells reqs refusals.Preparing s (all_requests s.volatile.pending can.calls) (tt, bare)) (all_begun_tells many purposes.Quiet None ended.after))
      (plan_tells both.after (accepted_plan both.after req [] (changes.Prepare true ∷ []) [] s.durable.epoch) tt (accepted_told [] both.after (changes.Prepare true ∷ []) s.durable.epoch (tt, tt))))
    where
      by_lowest : (exhausted : Bool) (o : Option Path) → ((p : Path) → o ≡ Some p → IsPath p) → AllByRecursion IsFairTest (if_pending o ++ (exhausted, refusals.Exhausted) ∷ [])
      by_lowest exhausted None told = ((tt, bare), tt)
      by_lowest exhausted (Some p) told = ((tt, (told p refl).0), ((tt, bare), tt))

  few : (n : ℕ) → min n last_count < 2 ^ 32
  few n = omega arith

  commit_tells : (config : Config) (moment : Moment) → IsNumber moment.0 → TellsTurn s (prepare_commit config s req moment)
  commit_tells config moment low =
      let plan : Plan = accepted_plan s req (Prepare (s.durable.epoch + 1) moment.0 (chunk_count s) ∷ []) (changes.Prepare false ∷ []) (tell_all config (s.durable.epoch + 1) ends.Prepare) (s.durable.epoch + 1) in
      let tests = commit_tests s.durable.phase s.volatile.is_preparing (all_unquiet s) (is_last_epoch s.durable) in
      unless_tells (first_of tests) (turned s plan) (first_fair tests ((tt, bare), ((tt, bare), by_first (first_in (all_unquiet s)) (λ chunk is. first_passes _ (ascending (fin.keys s.durable.chunks ++ fin.keys s.volatile.moving)) chunk is))))
      (plan_tells s plan ((low, few (length (filter (has_entry s) (fin.keys s.durable.chunks)))), tt) (accepted_told plan.records s (changes.Prepare false ∷ []) (s.durable.epoch + 1) (tt, tt)))
    where
      by_first : (o : Option ℕ) → ((chunk : ℕ) → o ≡ Some chunk → (has_entry s chunk && not (is_quiet_at s chunk)) ≡ true) → AllByRecursion IsFairTest (if_unquiet o ++ (is_last_epoch s.durable, refusals.Exhausted) ∷ [])
      by_first None known = ((tt, bare), tt)
      by_first (Some chunk) known = let handle = can.known chunk (and_parts (has_entry s chunk) (not (is_quiet_at s chunk)) (known chunk refl)).0 in ((handle, number_text chunk handle.1), ((tt, bare), tt))

  abort_tells : TellsTurn s (prepare_abort s req)
  abort_tells =
      let plan : Plan = accepted_plan s req [] (changes.Prepare false ∷ []) [] s.durable.epoch in
      either_tells s s.volatile.is_preparing (turned s plan) (refused s req refusals.NotUpgrading) (plan_tells s plan tt (accepted_told [] s (changes.Prepare false ∷ []) s.durable.epoch (tt, tt))) (refused_now s req heard refusals.NotUpgrading (tt, bare))

  end_fair : IsFairly (first_of (end_tests s.durable.phase (is_last_epoch s.durable)))
  end_fair = first_fair (end_tests s.durable.phase (is_last_epoch s.durable)) ((tt, bare), ((tt, bare), tt))

  finalize_tells : (config : Config) → TellsTurn s (finalize config s req)
  finalize_tells config =
      let plan : Plan = accepted_plan s req (Finalize (s.durable.epoch + 1) ∷ []) [] (tell_all config (s.durable.epoch + 1) ends.Finalize) (s.durable.epoch + 1) in
      unless_tells (first_of (end_tests s.durable.phase (is_last_epoch s.durable))) (turned s plan) end_fair (plan_tells s plan (tt, tt) (accepted_told plan.records s [] (s.durable.epoch + 1) tt))

  rollback_tells : (config : Config) → TellsTurn s (rollback_begin config s req)
  rollback_tells config =
      let plan : Plan = record { records = RollbackBegin (s.durable.epoch + 1) ∷ []; changes = []; sent = []; said = None } in
      let ended : State → Turn = λ next. all_ended_by next (requests_of s.volatile.pending) refusals.RollingBack in
      let accept : State → Turn = λ next. turned next (accepted_plan next req [] [] (tell_all config (s.durable.epoch + 1) ends.Rollback) (s.durable.epoch + 1)) in
      let both = and_then (turned s plan) ended in
      unless_tells (first_of (end_tests s.durable.phase (is_last_epoch s.durable))) (and_then both accept) end_fair
      (then_tells s both accept (then_tells s (turned s plan) ended (plan_tells s plan (tt, tt) tt) (all_ended_tells (requests_of s.volatile.pending) refusals.RollingBack (turned s plan).after (all_requests s.volatile.pending can.calls) (tt, bare)))
      (plan_tells both.after (accepted_plan both.after req [] [] (tell_all config (s.durable.epoch + 1) ends.Rollback) (s.durable.epoch + 1)) tt (accepted_told [] both.after [] (s.durable.epoch + 1) tt)))

  commit_if_tells : (names : NamesView) (lacking : Option ℕ) → ((chunk : ℕ) → lacking ≡ Some chunk → IsHandle chunk) → TellsTurn s (commit_if s req names lacking)
  commit_if_tells names (Some chunk) known = let handle = known chunk refl in refused_now s req heard (refusals.Unrestored chunk) (handle, number_text chunk handle.1)
  commit_if_tells names None known =
      let all = answers_for (prepared_view s.durable) (told_of s) (fin.entries names.refs) in
      let plan : Plan = accepted_plan s req (RollbackCommit s.durable.epoch all ∷ []) (changes.RolledBack ∷ []) [] s.durable.epoch in
      room_tells s req heard (turned s plan) (plan_tells s plan (answers_told (prepared_view s.durable) (told_of s) (fin.entries names.refs), tt) (accepted_told plan.records s (changes.RolledBack ∷ []) s.durable.epoch (tt, tt)))

  commit_on_tells : is_rolling s.durable.phase ≡ true → (names : Option NamesView) → all_undone s.durable.inverses s.durable.names ≡ names → TellsTurn s (commit_on s req names)
  commit_on_tells begun None back = refused_now s req heard refusals.BadLine (tt, bare)
  commit_on_tells begun (Some names) back =
      commit_if_tells names (unrestored (prepared_view s.durable) (told_of s) (fin.entries names.refs))
      (λ chunk is. can.before names chunk begun back (ap is_some (fin.get-entries names.refs chunk) ∙ first_key (lacks_answer (prepared_view s.durable) (told_of s)) (fin.entries names.refs) chunk is))

  rolled_tells : TellsTurn s (rollback_commit s req)
  rolled_tells =
      test_tells s (is_rolling s.durable.phase) (commit_on s req (all_undone s.durable.inverses s.durable.names)) (refused s req refusals.NotUpgrading)
      (λ begun. commit_on_tells begun (all_undone s.durable.inverses s.durable.names) refl) (λ _. refused_now s req heard refusals.NotUpgrading (tt, bare))

  called_tells : (config : Config) (moment : Moment) (call : Call) → is_any_hidden call ≡ false → IsNamedCall call → IsMet s.durable.names call → IsNumber moment.0 → TellsTurn s (called config s req moment call)
  called_tells config moment (calls.Mkdirs path) hidden named met low = edited_tells s req heard (Mkdirs path) answers.Nothing named
  called_tells config moment (calls.Create path) hidden named met low = edited_tells s req heard (Create path) answers.Nothing named
  called_tells config moment (calls.Rename from to) hidden named met low =
      let seen = and_parts (is_visible from) (is_visible to) (two_visible (list_any is_hidden from) (list_any is_hidden to) hidden) in renames_tells s req heard from to named.0 named.1 seen.0 seen.1
  called_tells config moment (calls.Delete path recursive) hidden named met low = deleted_tells s req heard path recursive moment named low
  called_tells config moment (calls.Undelete path) hidden named met low = edited_tells s req heard (Unhide path) (answers.Path (unhide_target path (old_name path))) named
  called_tells config moment (calls.Snapshot from to) hidden named met low =
      let rows = fin.entries s.durable.names.tree in snapshot_if_tells s req heard from to (edited (edits.Snapshot from to) rows) (fair_edited (edits.Snapshot from to) rows) named.0 named.1
  called_tells config moment (calls.List path) hidden named met low =
      looked_tells s req heard (listing (fin.entries s.durable.names.tree) path (fin.get s.durable.names.tree path)) (fair_listing (fin.entries s.durable.names.tree) path (fin.get s.durable.names.tree path))
  called_tells config moment (calls.Status path) hidden named met low = looked_tells s req heard (status s.durable (fin.get s.durable.names.tree path)) (fair_status s.durable (fin.get s.durable.names.tree path))
  called_tells config moment (calls.FindForReading path index) hidden named met low =
      let found = found_chunk (fin.get s.durable.names.tree path) index in looked_tells s req heard (location s.durable found) (fair_location s.durable found (fair_found (fin.get s.durable.names.tree path) index))
  called_tells config moment (calls.FindForWriting path index stamp) hidden named met low =
      found_tells s req heard path index stamp moment (found_chunk (fin.get s.durable.names.tree path) index) (fair_found (fin.get s.durable.names.tree path) index) named met
  called_tells config moment (calls.Extend path index) hidden named met low = extends_tells s req heard config path index (fin.get s.durable.names.tree path) named
  called_tells config moment calls.Scan hidden named met low =
      let rows = fin.entries s.durable.names.tree in
      scanned_tells (removed_paths moment.0 rows) (forgotten_chunks moment.0 rows (fin.entries s.durable.names.refs)) (can.removed moment.0)
  called_tells config moment calls.Replicate hidden named met low = most_tells s req heard config (most_needed_of config.replicas (needs_of s))
  called_tells config moment calls.Query hidden named met low = answered_tells s req heard (answers.Phase (told_phase s.volatile.is_preparing s.durable.phase) s.durable.epoch)
  called_tells config moment calls.PrepareBegin hidden named met low = begin_tells
  called_tells config moment calls.PrepareCommit hidden named met low = commit_tells config moment low
  called_tells config moment calls.PrepareAbort hidden named met low = abort_tells
  called_tells config moment calls.Finalize hidden named met low = finalize_tells config
  called_tells config moment calls.RollbackBegin hidden named met low = rollback_tells config
  called_tells config moment calls.RollbackCommit hidden named met low = rolled_tells

  before_fair : (call : Call) → IsFairly (refused_before s req call)
  before_fair call = first_fair (ordered (is_failed s.fault) (is_rolling s.durable.phase) s.volatile.is_preparing (is_locked s req call) call) ((tt, bare), ((tt, bare), ((tt, bare), ((tt, bare), ((tt, bare), ((tt, bare), tt))))))

  unless_called : (config : Config) (moment : Moment) (call : Call) (refusal : Option Refusal) → refused_before s req call ≡ refusal → IsFairly refusal → IsNamedCall call → IsMet s.durable.names call → IsNumber moment.0 → TellsTurn s (called_unless config s req moment call refusal)
  unless_called config moment call None is fair named met low = called_tells config moment call (passes s req call is).hidden named met low
  unless_called config moment call (Some refusal) is fair named met low = refused_now s req heard refusal fair

  replied_tells : (result : Result Answer Refusal) → TellsTurn s (replied_again s req result)
  replied_tells result = quiet_tells s (replied_again s req result) refl refl refl

  taken_tells : (config : Config) (moment : Moment) (call : Call) (how : Numbered) → IsNamedCall call → IsMet s.durable.names call → IsNumber moment.0 → TellsTurn s (taken_as config s req moment call how)
  taken_tells config moment call New named met low = unless_called config moment call (refused_before s req call) refl (before_fair call) named met low
  taken_tells config moment call (Again result) named met low = replied_tells result
  taken_tells config moment call Older named met low = replied_tells (Err refusals.Old)

  pub call_tells : (config : Config) (moment : Moment) (call : Call) → IsNamedCall call → IsMet s.durable.names call → IsNumber moment.0 → TellsTurn s (call_turn config s req moment call)
  call_tells config moment call named met low =
      let taken = taken_as config s req moment call (numbered (last_reply s req.client) req.number) in
      let device = replied_tells (Err refusals.Device) in
      either_tells s (is_unopened s.fault) (replied_again s req (Err refusals.Device)) (if is_pending s.volatile.pending req then waits_still s req else taken) device
      (either_tells s (is_pending s.volatile.pending req) (waits_still s req) taken (either_tells s (is_failed s.fault) (replied_again s req (Err refusals.Device)) (unmoved s) device (same_tells s))
      (taken_tells config moment call (numbered (last_reply s req.client) req.number) named met low))
