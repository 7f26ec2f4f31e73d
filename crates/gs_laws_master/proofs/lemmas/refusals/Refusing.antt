-- A call that is refused leaves all but its kept reply.
use Rattle.std.proofs.Common.{arith, ◌≡◌, inl, inr, ◌∙◌, ◌++◌, ℕ, Bool, true, false, not, ◌&&◌, ◌||◌, ◌==◌, ◌+◌, List, [], ◌∷◌, length, refl, ap, subst, sym, ◌⊎◌, cond}
use Rattle.std.specs.Prelude.{fold, nat_lt, nat_le, is_none, Option, Some, None, is_some, Result, Ok, Err, if◌then◌else◌}
use Rattle.std.specs.List.{list_any}
use Rattle.std.specs.FinMap as fin
use Rattle.std.proofs.lemmas.Bool.Decides.{nat_tests}
use Rattle.std.proofs.lemmas.Bool.{false≢true, true≢false}
use Rattle.gs_base.specs.declared.config.Config.{Config}
use Rattle.gs_base.specs.declared.numbers.Moment.{Moment}
use Rattle.gs_base.specs.declared.numbers.ReqId.{ReqId}
use Rattle.gs_base.specs.declared.numbers.Stamp.{Stamp}
use Rattle.gs_base.specs.declared.refusal.Refusal.{Refusal}
use Rattle.gs_base.specs.declared.refusal.Refusal.TheVariants as refusals
use Rattle.gs_path.specs.Path.{Path}
use Rattle.gs_tree.specs.Entry.{Entry, Dir, File}
use Rattle.gs_tree.specs.Find.{Rows}
use Rattle.gs_tree.specs.Edits.{same_path, hidden_path, old_name, target_of}
use Rattle.gs_edit.specs.Edits.{edited}
use Rattle.gs_edit.specs.Plain.{unhide_target}
use Rattle.gs_edit.specs.View.{NamesView}
use Rattle.gs_edit.specs.declared.edit.Edit.TheVariants as edits
use Rattle.gs_lease.specs.declared.view.Purpose.TheVariants as purposes
use Rattle.gs_lease.specs.declared.view.View.{View}
use Rattle.gs_msg.specs.declared.answer.Answer.{Answer}
use Rattle.gs_msg.specs.declared.answer.Answer.TheVariants as answers
use Rattle.gs_msg.specs.declared.call.Call.{Call}
use Rattle.gs_msg.specs.declared.call.Call.TheVariants as calls
use Rattle.gs_place.specs.Needs.{most_needed_of}
use Rattle.gs_base.specs.declared.epoch.EpochEnd.TheVariants as ends
use Rattle.gs_master_spec.specs.declared.change.Change.TheVariants as changes
use Rattle.gs_master_record.specs.Plain.{Prepare, Finalize, RollbackBegin, RollbackCommit, PlainEdit, Said, Mkdirs, Create, Rename, Hide, Unhide, Snapshot}
use Rattle.gs_master_spec.specs.Applied.{applied, replayed, with_reply}
use Rattle.gs_master_spec.specs.Beginning.{next_stamp, has_versions, has_handle, begin_at, begun, all_begun, create_plan, copy_plan, waits_from_now, targets_for, counted_views}
use Rattle.gs_master_spec.specs.Calls.{edited_by, edit_if, accept_plan, deleted, answered_with, has_visible_child, looked_up, listing, status, location, found_chunk, refused_before, queried, is_shared, most_chunks, renames}
use Rattle.gs_master_spec.specs.Chunks.{Chunk, chunk_at, is_leased, is_quiet, is_wanted, view_of, members_of}
use Rattle.gs_master_spec.specs.Durable.{is_rolling, prepared_view, Durable}
use Rattle.gs_master_spec.specs.Handling.{call_turn, called, called_unless, taken_as, numbered, replied_again, waits_still, Numbered, New, Again, Older}
use Rattle.gs_master_spec.specs.Replies.{is_later, later}
use Rattle.gs_master_spec.specs.declared.reply.KeptReply.{KeptReply}
use Rattle.std.specs.Cmp.{tied_itself}
use Rattle.std.specs.Ordering.{is_eq}
use Rattle.gs_master_state.proofs.Tracking.{client_total}
use Rattle.gs_laws_master.specs.Promises.{FitsAndKeeps, IsKept, LeavesAll, RefusedFits, RefusedLeavesAll, with_kept, with_said}
use Rattle.gs_laws_master.specs.Standing.{IsOver, OlderAreOver, OverMakeNothing, RefusedAreOver, was_answered}
use Rattle.gs_laws_master.proofs.lemmas.keeping.KeptRecords.{said_kept}
use Rattle.gs_laws_master.proofs.lemmas.standing.Standing.{now_answered}
use Rattle.gs_master_spec.specs.Settling.{requests_of}
use Rattle.gs_master_spec.specs.State.{State, Plan, Turn, with_record, turned, unmoved, and_then, for_each, fits, if_room, refused, ended_by, all_ended_by, keeps_refusal, kept_in_memory, reply_to, is_failed, is_unopened, last_reply, first_of, is_kept}
use Rattle.gs_master_spec.specs.Undoing.{edited_names, all_undone}
use Rattle.gs_master_spec.specs.Upgrades.{accepted_plan, all_unquiet, begin_tests, commit_tests, end_tests, is_last_epoch, chunk_count, tell_all, answers_for, unless, prepare_begin, prepare_commit, prepare_abort, finalize, rollback_begin, rollback_commit, commit_on, commit_if, unrestored, told_of}
use Rattle.gs_master_spec.specs.Volatile.{is_pending, Volatile}
use Rattle.gs_master_spec.specs.Working.{begins, begins_new, may_use, leased, copied_on_write, written_at, found_for_writing, created_on, extended_at, extends, unquiet, is_wanted_at, begin_pending, begins_snapshot, snapshot_if, replicated_to, replicates_chunk, replicates_most, needs_of, scanned, scan_plan, waiting_for, removed_paths, forgotten_chunks}
use Rattle.gs_master_spec.specs.declared.pending.Waiting.{Waiting}
use Rattle.gs_master_spec.specs.declared.pending.Waiting.TheVariants as waits

-- what a refusal leaves
pub record Refuses (s : State) (req : ReqId) (refusal : Refusal) (t : Turn) : Type 0 where
  pub left : LeavesAll s req refusal t
  pub fits : FitsAndKeeps s t
  pub over : is_kept refusal ≡ true → was_answered t.after.durable t.after.volatile req ≡ true

abbrev pub Leaves : State → ReqId → Turn → Type 0
Leaves s req t = (refusal : Refusal) → t.said ≡ Some refusal → Refuses s req refusal t

abbrev pub Silent : Turn → Type 0
Silent t = t.said ≡ None

silent_leaves : (s : State) (req : ReqId) (t : Turn) → Silent t → Leaves s req t
silent_leaves s req t none refusal some = absurd (false≢true (ap is_some (sym none ∙ some)))

-- ---- what says nothing

pub then_silent : (t : Turn) (f : State → Turn) → Silent t → ((s : State) → Silent (f s)) → Silent (and_then t f)
then_silent t f a h = rw (a, h t.after) refl

each_silent : {A : Type 0} (xs : List A) (step : A → State → Turn) → ((x : A) (s : State) → Silent (step x s)) → (s : State) → Silent (for_each s xs step)
each_silent [] step h s = refl
each_silent (x ∷ xs) step h s = then_silent (step x s) (λ next. for_each next xs step) (h x s) (λ n. each_silent xs step h n)

pub ended_silent : (reqs : List ReqId) (refusal : Refusal) (s : State) → Silent (all_ended_by s reqs refusal)
ended_silent reqs refusal s = each_silent reqs (λ req next. ended_by next req refusal) (λ req next. refl) s

pub begun_silent : (many : List ℕ) (call : Option ReqId) (s : State) → Silent (all_begun s many purposes.Quiet call)
begun_silent many call s = each_silent many (λ chunk next. begun next chunk purposes.Quiet call) (λ chunk next. refl) s

-- ---- refusals

refusal_is : {a b : Refusal} → ◌≡◌ {A = Option Refusal} (Some a) (Some b) → a ≡ b
refusal_is h = cc

said_fits : (b : Bool) (s : State) (req : ReqId) (refusal : Refusal) → replayed s.durable (if b then Said req refusal ∷ [] else []) ≡ Some (fold with_record s (if b then Said req refusal ∷ [] else [])).durable
unfolding applied
said_fits true s req refusal = refl
said_fits false s req refusal = refl

said_keeps : (b : Bool) (s : State) (req : ReqId) (refusal : Refusal) → IsKept s.durable → IsKept (fold with_record s (if b then Said req refusal ∷ [] else [])).durable
unfolding applied
said_keeps true s req refusal k = said_kept s.durable (record (s.durable) { replies = with_reply s.durable.replies req (Err refusal) }) req refusal k refl
said_keeps false s req refusal k = k

-- the turn of a refusal, where it is kept or not, and its record has room or not
abbrev said_turn : Bool → Bool → State → ReqId → Refusal → Turn
said_turn keeps room s req refusal = turned s (record {
  records = if keeps && room then Said req refusal ∷ [] else [];
  changes = (if keeps && not room then kept_in_memory req (Err refusal) ∷ [] else []) ++ [];
  sent = reply_to req (Err refusal) ∷ [];
  said = Some refusal;
})

said_left : (keeps room : Bool) (s : State) (req : ReqId) (refusal : Refusal) → LeavesAll s req refusal (said_turn keeps room s req refusal)
unfolding applied
said_left true true s req refusal = record { left = inr (inl (refl, refl)); sent = refl }
said_left true false s req refusal = record { left = inr (inr (refl, refl)); sent = refl }
said_left false room s req refusal = record { left = inl (refl, refl); sent = refl }

-- one that is kept in memory is the last reply
pub kept_answered : (d : Durable) (v : Volatile) (req : ReqId) (result : Result Answer Refusal) → was_answered d (record v { replies = fin.insert v.replies req.client (record { number = req.number; result = result }) }) req ≡ true
kept_answered d v req result =
    ap (λ o. not (is_later (later (fin.get d.replies req.client) o) req.number)) (fin.get-insert client_total v.replies req.client (record { number = req.number; result = result }) req.client)
    ∙ ap (λ o. not (is_later (later (fin.get d.replies req.client) (cond (is_eq o) (Some (record { number = req.number; result = result })) (fin.get v.replies req.client))) req.number)) (tied_itself client_total req.client)
    ∙ by_last (fin.get d.replies req.client)
  where
    not_less : (n : ℕ) → nat_lt n n ≡ false
    not_less n = grind (arith, nat_tests)

    by_less : (r : KeptReply) (b : Bool) → nat_lt r.number req.number ≡ b → not (is_later (if b then Some (record { number = req.number; result = result }) else Some r) req.number) ≡ true
    by_less r true is = ap not (not_less req.number)
    by_less r false is = ap not is

    by_last : (o : Option KeptReply) → not (is_later (later o (Some (record { number = req.number; result = result }))) req.number) ≡ true
    by_last None = ap not (not_less req.number)
    by_last (Some r) = by_less r (nat_lt r.number req.number) refl

said_over : (kept later_one room : Bool) (s : State) (req : ReqId) (refusal : Refusal) → is_later (last_reply s req.client) req.number ≡ later_one → kept ≡ true
    → was_answered (said_turn (kept && later_one) room s req refusal).after.durable (said_turn (kept && later_one) room s req refusal).after.volatile req ≡ true
unfolding applied
said_over true true true s req refusal last is = now_answered s.durable s.volatile req (Err refusal)
said_over true true false s req refusal last is = kept_answered s.durable s.volatile req (Err refusal)
said_over true false room s req refusal last is = ap not last
said_over false later_one room s req refusal last is = absurd (false≢true is)

pub refused_leaves : (s : State) (req : ReqId) (refusal : Refusal) → Leaves s req (refused s req refusal)
refused_leaves s req refusal other some =
    let said = keeps_refusal s req refusal && fits s.log (Said req refusal ∷ []) in record {
      left = subst (λ r. LeavesAll s req r (refused s req refusal)) (refusal_is some) (said_left (keeps_refusal s req refusal) (fits s.log (Said req refusal ∷ [])) s req refusal);
      fits = record { fits = said_fits said s req refusal; kept = λ k. said_keeps said s req refusal k };
      over = λ kept. said_over (is_kept refusal) (is_later (last_reply s req.client) req.number) (fits s.log (Said req refusal ∷ [])) s req refusal refl (ap is_kept (refusal_is some) ∙ kept);
    }

-- the reply is told again
again_leaves : (s : State) (req : ReqId) (result : Result Answer Refusal) → ((refusal : Refusal) → result ≡ Err refusal → is_kept refusal ≡ true → was_answered s.durable s.volatile req ≡ true) → Leaves s req (replied_again s req result)
again_leaves s req (Ok answer) over refusal some = absurd (false≢true (ap is_some some))
again_leaves s req (Err refusal) over other some = record {
  left = subst (λ r. LeavesAll s req r (replied_again s req (Err refusal))) (refusal_is some) (record { left = inl (refl, refl); sent = refl });
  fits = record { fits = refl; kept = λ k. k };
  over = λ kept. over refusal refl (ap is_kept (refusal_is some) ∙ kept);
}

either : (s : State) (req : ReqId) (b : Bool) (t u : Turn) → Leaves s req t → Leaves s req u → Leaves s req (if b then t else u)
either s req true t u a b = a
either s req false t u a b = b

room : (s : State) (req : ReqId) (t : Turn) → Silent t → Leaves s req (if_room s t (refused s req refusals.Full))
room s req t none = either s req (fits s.log t.records) t (refused s req refusals.Full) (silent_leaves s req t none) (refused_leaves s req refusals.Full)

-- ---- calls of the tree

edit_leaves : (s : State) (req : ReqId) (edit : PlainEdit) (answer : Answer) (names : Result NamesView Refusal) → Leaves s req (edit_if s req edit answer names)
edit_leaves s req edit answer (Ok names) = room s req (turned s (accept_plan req edit answer)) refl
edit_leaves s req edit answer (Err refusal) = refused_leaves s req refusal

edited_leaves : (s : State) (req : ReqId) (edit : PlainEdit) (answer : Answer) → Leaves s req (edited_by s req edit answer)
edited_leaves s req edit answer = edit_leaves s req edit answer (edited_names edit s.durable.names)

renames_leaves : (s : State) (req : ReqId) (from to : Path) → Leaves s req (renames s req from to)
renames_leaves s req from to = edit_leaves s req (Rename from (target_of (fin.get s.durable.names.tree) from to)) answers.Nothing (edited_names (Rename from to) s.durable.names)

answered_leaves : (s : State) (req : ReqId) (answer : Answer) → Leaves s req (answered_with s req answer)
answered_leaves s req answer = silent_leaves s req (answered_with s req answer) refl

looked_leaves : (s : State) (req : ReqId) (result : Result Answer Refusal) → Leaves s req (looked_up s req result)
looked_leaves s req (Ok answer) = answered_leaves s req answer
looked_leaves s req (Err refusal) = refused_leaves s req refusal

deleted_leaves : (s : State) (req : ReqId) (path : Path) (recursive : Bool) (moment : Moment) → Leaves s req (deleted s req path recursive moment)
deleted_leaves s req path recursive moment =
    let hides = edited_by s req (Hide path moment.0 s.durable.next_hidden) (answers.Path (hidden_path path moment.0 s.durable.next_hidden)) in
    let third = if s.durable.next_hidden == 0 then refused s req refusals.Exhausted else hides in
    let second = if not recursive && has_visible_child (fin.entries s.durable.names.tree) path then refused s req refusals.NotEmpty else third in
    let first = if is_none (fin.get s.durable.names.tree path) then answered_with s req answers.Absent else second in
    either s req (same_path path []) (refused s req refusals.IsRoot) first (refused_leaves s req refusals.IsRoot)
    (either s req (is_none (fin.get s.durable.names.tree path)) (answered_with s req answers.Absent) second (answered_leaves s req answers.Absent)
    (either s req (not recursive && has_visible_child (fin.entries s.durable.names.tree) path) (refused s req refusals.NotEmpty) third (refused_leaves s req refusals.NotEmpty)
    (either s req (s.durable.next_hidden == 0) (refused s req refusals.Exhausted) hides (refused_leaves s req refusals.Exhausted)
    (edited_leaves s req (Hide path moment.0 s.durable.next_hidden) (answers.Path (hidden_path path moment.0 s.durable.next_hidden))))))

-- ---- calls that begin views

begins_leaves : (s : State) (req : ReqId) (plan : Plan) (waiting : Waiting) → plan.said ≡ None → Leaves s req (begins s req plan waiting)
begins_leaves s req plan waiting none =
    either s req (not (has_versions s.durable 1)) (refused s req refusals.Exhausted) (if_room s (turned s (waits_from_now plan req waiting)) (refused s req refusals.Full))
    (refused_leaves s req refusals.Exhausted) (room s req (turned s (waits_from_now plan req waiting)) none)

begins_new_leaves : (s : State) (req : ReqId) (plan : Plan) (waiting : Waiting) → plan.said ≡ None → Leaves s req (begins_new s req plan waiting)
begins_new_leaves s req plan waiting none =
    either s req (not (has_handle s.durable)) (refused s req refusals.Exhausted) (begins s req plan waiting) (refused_leaves s req refusals.Exhausted) (begins_leaves s req plan waiting none)

leased_leaves : (s : State) (req : ReqId) (path : Path) (index : ℕ) (stamp : Option Stamp) (moment : Moment) (chunk : ℕ) (c : Chunk) → Leaves s req (leased s req path index stamp moment chunk c)
leased_leaves s req path index stamp moment chunk c =
    let begin = begins s req (begin_at s chunk purposes.Lease (Some req)) (waits.Lease path index chunk) in
    either s req (is_leased c && may_use stamp moment (view_of c)) (looked_up s req (location s.durable (Ok chunk))) (if is_wanted c then refused s req refusals.Locked else begin)
    (looked_leaves s req (location s.durable (Ok chunk)))
    (either s req (is_wanted c) (refused s req refusals.Locked) begin (refused_leaves s req refusals.Locked) (begins_leaves s req (begin_at s chunk purposes.Lease (Some req)) (waits.Lease path index chunk) refl))

copied_leaves : (s : State) (req : ReqId) (path : Path) (index chunk : ℕ) (c : Chunk) (view : Option View) → Leaves s req (copied_on_write s req path index chunk c view)
copied_leaves s req path index chunk c None = refused_leaves s req refusals.NoReplica
copied_leaves s req path index chunk c (Some view) =
    let copy = copy_plan (next_stamp s.durable) chunk view s.durable.next_handle req in
    let begins_copy = begins_new s req copy (waits.Copy path index chunk s.durable.next_handle) in
    let begins_quiet = begins s req (begin_at s chunk purposes.Quiet (Some req)) (waits.Quiet path index chunk) in
    either s req (is_wanted c) (refused s req refusals.Locked) (if is_quiet c then begins_copy else begins_quiet) (refused_leaves s req refusals.Locked)
    (either s req (is_quiet c) begins_copy begins_quiet (begins_new_leaves s req copy (waits.Copy path index chunk s.durable.next_handle) refl)
    (begins_leaves s req (begin_at s chunk purposes.Quiet (Some req)) (waits.Quiet path index chunk) refl))

written_leaves : (s : State) (req : ReqId) (path : Path) (index : ℕ) (stamp : Option Stamp) (moment : Moment) (chunk : ℕ) (c : Option Chunk) → Leaves s req (written_at s req path index stamp moment chunk c)
written_leaves s req path index stamp moment chunk None = refused_leaves s req refusals.NoReplica
written_leaves s req path index stamp moment chunk (Some c) =
    either s req (is_shared s.durable.names chunk) (copied_on_write s req path index chunk c (view_of c)) (leased s req path index stamp moment chunk c)
    (copied_leaves s req path index chunk c (view_of c)) (leased_leaves s req path index stamp moment chunk c)

found_leaves : (s : State) (req : ReqId) (path : Path) (index : ℕ) (stamp : Option Stamp) (moment : Moment) (chunk : Result ℕ Refusal) → Leaves s req (found_for_writing s req path index stamp moment chunk)
found_leaves s req path index stamp moment (Ok chunk) = written_leaves s req path index stamp moment chunk (chunk_at s chunk)
found_leaves s req path index stamp moment (Err refusal) = refused_leaves s req refusal

created_leaves : (s : State) (req : ReqId) (path : Path) (targets : Option (List ℕ)) → Leaves s req (created_on s req path targets)
created_leaves s req path None = refused_leaves s req refusals.NoServer
created_leaves s req path (Some targets) =
    begins_new_leaves s req (create_plan (next_stamp s.durable) s.durable.next_handle targets req) (waits.Extend path s.durable.next_handle) refl

extended_leaves : (config : Config) (s : State) (req : ReqId) (path : Path) (chunks : List ℕ) (index : ℕ) → Leaves s req (extended_at config s req path chunks index)
extended_leaves config s req path chunks index =
    let makes = created_on s req path (targets_for config (counted_views s) [] config.replicas) in
    either s req (nat_lt index (length chunks)) (looked_up s req (location s.durable (found_chunk (Some (File chunks)) index)))
    (if nat_lt (length chunks) index || nat_le most_chunks index then refused s req refusals.Range else makes)
    (looked_leaves s req (location s.durable (found_chunk (Some (File chunks)) index)))
    (either s req (nat_lt (length chunks) index || nat_le most_chunks index) (refused s req refusals.Range) makes (refused_leaves s req refusals.Range) (created_leaves s req path (targets_for config (counted_views s) [] config.replicas)))

extends_leaves : (config : Config) (s : State) (req : ReqId) (path : Path) (index : ℕ) (entry : Option (Entry ℕ)) → Leaves s req (extends config s req path index entry)
extends_leaves config s req path index None = refused_leaves s req refusals.NotFound
extends_leaves config s req path index (Some Dir) = refused_leaves s req refusals.IsADirectory
extends_leaves config s req path index (Some (File chunks)) = extended_leaves config s req path chunks index

snapshot_leaves : (s : State) (req : ReqId) (from to : Path) (many : List ℕ) → Leaves s req (begins_snapshot s req from to many)
snapshot_leaves s req from to [] = edited_leaves s req (Snapshot from to) answers.Nothing
snapshot_leaves s req from to (chunk ∷ chunks) =
    let begin = and_then (turned s (begin_pending req (waits.Snapshot from to))) (λ next. all_begun next (chunk ∷ chunks) purposes.Quiet (Some req)) in
    either s req (list_any (is_wanted_at s) (chunk ∷ chunks)) (refused s req refusals.Locked)
    (if not (has_versions s.durable (length (chunk ∷ chunks))) then refused s req refusals.Exhausted else if_room s begin (refused s req refusals.Full))
    (refused_leaves s req refusals.Locked)
    (either s req (not (has_versions s.durable (length (chunk ∷ chunks)))) (refused s req refusals.Exhausted) (if_room s begin (refused s req refusals.Full)) (refused_leaves s req refusals.Exhausted)
    (room s req begin (then_silent (turned s (begin_pending req (waits.Snapshot from to))) (λ next. all_begun next (chunk ∷ chunks) purposes.Quiet (Some req)) refl (λ n. begun_silent (chunk ∷ chunks) (Some req) n))))

snapshot_if_leaves : (s : State) (req : ReqId) (from to : Path) (rows : Result (Rows ℕ) Refusal) → Leaves s req (snapshot_if s req from to rows)
snapshot_if_leaves s req from to (Ok rows) = snapshot_leaves s req from to (unquiet s from)
snapshot_if_leaves s req from to (Err refusal) = refused_leaves s req refusal

replicated_leaves : (s : State) (req : ReqId) (chunk : ℕ) (targets : Option (List ℕ)) → Leaves s req (replicated_to s req chunk targets)
replicated_leaves s req chunk None = refused_leaves s req refusals.NoServer
replicated_leaves s req chunk (Some []) = refused_leaves s req refusals.NoServer
replicated_leaves s req chunk (Some (target ∷ targets)) = begins_leaves s req (begin_at s chunk (purposes.Copy target) (Some req)) (waits.Replicate chunk target) refl

replicates_leaves : (config : Config) (s : State) (req : ReqId) (chunk : ℕ) (c : Option Chunk) → Leaves s req (replicates_chunk config s req chunk c)
replicates_leaves config s req chunk None = refused_leaves s req refusals.NoReplica
replicates_leaves config s req chunk (Some c) =
    either s req (is_wanted c) (refused s req refusals.Locked) (replicated_to s req chunk (targets_for config (counted_views s) (members_of c) 1)) (refused_leaves s req refusals.Locked)
    (replicated_leaves s req chunk (targets_for config (counted_views s) (members_of c) 1))

most_leaves : (config : Config) (s : State) (req : ReqId) (chunk : Option ℕ) → Leaves s req (replicates_most config s req chunk)
most_leaves config s req None = answered_leaves s req (answers.Copied None)
most_leaves config s req (Some chunk) = replicates_leaves config s req chunk (chunk_at s chunk)

scanned_leaves : (s : State) (req : ReqId) (removed : List Path) (forgotten : List ℕ) → Leaves s req (scanned s req removed forgotten)
scanned_leaves s req removed forgotten =
    let ended : State → Turn = λ next. all_ended_by next (waiting_for s forgotten) refusals.NoReplica in
    let answer : State → Turn = λ next. answered_with next req (answers.Scanned (length removed) (length forgotten)) in
    room s req (and_then (and_then (turned s (scan_plan removed forgotten)) ended) answer)
    (then_silent (and_then (turned s (scan_plan removed forgotten)) ended) answer (then_silent (turned s (scan_plan removed forgotten)) ended refl (λ n. ended_silent (waiting_for s forgotten) refusals.NoReplica n)) (λ n. refl))

-- ---- calls of an upgrade

unless_leaves : (refusal : Option Refusal) (s : State) (req : ReqId) (t : Turn) → Silent t → Leaves s req (unless refusal s req t)
unless_leaves None s req t none = room s req t none
unless_leaves (Some refusal) s req t none = refused_leaves s req refusal

begin_leaves : (s : State) (req : ReqId) → Leaves s req (prepare_begin s req)
begin_leaves s req =
    let ended = all_ended_by s (requests_of s.volatile.pending) refusals.Preparing in
    let begin : State → Turn = λ next. all_begun next (all_unquiet s) purposes.Quiet None in
    let accept : State → Turn = λ next. turned next (accepted_plan next req [] (changes.Prepare true ∷ []) [] s.durable.epoch) in
    unless_leaves (first_of (begin_tests s.durable.phase s.volatile.is_preparing s.volatile.pending (not (has_versions s.durable (length (all_unquiet s)))))) s req
    (and_then (and_then ended begin) accept)
    (then_silent (and_then ended begin) accept (then_silent ended begin (ended_silent (requests_of s.volatile.pending) refusals.Preparing s) (λ n. begun_silent (all_unquiet s) None n)) (λ n. refl))

commit_leaves : (config : Config) (s : State) (req : ReqId) (moment : Moment) → Leaves s req (prepare_commit config s req moment)
commit_leaves config s req moment =
    unless_leaves (first_of (commit_tests s.durable.phase s.volatile.is_preparing (all_unquiet s) (is_last_epoch s.durable))) s req
    (turned s (accepted_plan s req (Prepare (s.durable.epoch + 1) moment.0 (chunk_count s) ∷ []) (changes.Prepare false ∷ []) (tell_all config (s.durable.epoch + 1) ends.Prepare) (s.durable.epoch + 1))) refl

abort_leaves : (s : State) (req : ReqId) → Leaves s req (prepare_abort s req)
abort_leaves s req =
    let t = turned s (accepted_plan s req [] (changes.Prepare false ∷ []) [] s.durable.epoch) in
    either s req s.volatile.is_preparing t (refused s req refusals.NotUpgrading) (silent_leaves s req t refl) (refused_leaves s req refusals.NotUpgrading)

finalize_leaves : (config : Config) (s : State) (req : ReqId) → Leaves s req (finalize config s req)
finalize_leaves config s req =
    unless_leaves (first_of (end_tests s.durable.phase (is_last_epoch s.durable))) s req
    (turned s (accepted_plan s req (Finalize (s.durable.epoch + 1) ∷ []) [] (tell_all config (s.durable.epoch + 1) ends.Finalize) (s.durable.epoch + 1))) refl

rollback_leaves : (config : Config) (s : State) (req : ReqId) → Leaves s req (rollback_begin config s req)
rollback_leaves config s req =
    let plan : Plan = record { records = RollbackBegin (s.durable.epoch + 1) ∷ []; changes = []; sent = []; said = None } in
    let ended : State → Turn = λ next. all_ended_by next (requests_of s.volatile.pending) refusals.RollingBack in
    let accept : State → Turn = λ next. turned next (accepted_plan next req [] [] (tell_all config (s.durable.epoch + 1) ends.Rollback) (s.durable.epoch + 1)) in
    unless_leaves (first_of (end_tests s.durable.phase (is_last_epoch s.durable))) s req (and_then (and_then (turned s plan) ended) accept)
    (then_silent (and_then (turned s plan) ended) accept (then_silent (turned s plan) ended refl (λ n. ended_silent (requests_of s.volatile.pending) refusals.RollingBack n)) (λ n. refl))

commit_if_leaves : (s : State) (req : ReqId) (names : NamesView) (lacking : Option ℕ) → Leaves s req (commit_if s req names lacking)
commit_if_leaves s req names (Some chunk) = refused_leaves s req (refusals.Unrestored chunk)
commit_if_leaves s req names None =
    room s req (turned s (accepted_plan s req (RollbackCommit s.durable.epoch (answers_for (prepared_view s.durable) (told_of s) (fin.entries names.refs)) ∷ []) (changes.RolledBack ∷ []) [] s.durable.epoch)) refl

commit_on_leaves : (s : State) (req : ReqId) (names : Option NamesView) → Leaves s req (commit_on s req names)
commit_on_leaves s req None = refused_leaves s req refusals.BadLine
commit_on_leaves s req (Some names) = commit_if_leaves s req names (unrestored (prepared_view s.durable) (told_of s) (fin.entries names.refs))

rolled_leaves : (s : State) (req : ReqId) → Leaves s req (rollback_commit s req)
rolled_leaves s req =
    either s req (is_rolling s.durable.phase) (commit_on s req (all_undone s.durable.inverses s.durable.names)) (refused s req refusals.NotUpgrading)
    (commit_on_leaves s req (all_undone s.durable.inverses s.durable.names)) (refused_leaves s req refusals.NotUpgrading)

-- ---- all calls

called_leaves : (config : Config) (s : State) (req : ReqId) (moment : Moment) (call : Call) → Leaves s req (called config s req moment call)
called_leaves config s req moment (calls.Mkdirs path) = edited_leaves s req (Mkdirs path) answers.Nothing
called_leaves config s req moment (calls.Create path) = edited_leaves s req (Create path) answers.Nothing
called_leaves config s req moment (calls.Rename from to) = renames_leaves s req from to
called_leaves config s req moment (calls.Delete path recursive) = deleted_leaves s req path recursive moment
called_leaves config s req moment (calls.Undelete path) = edited_leaves s req (Unhide path) (answers.Path (unhide_target path (old_name path)))
called_leaves config s req moment (calls.Snapshot from to) = snapshot_if_leaves s req from to (edited (edits.Snapshot from to) (fin.entries s.durable.names.tree))
called_leaves config s req moment (calls.List path) = looked_leaves s req (listing (fin.entries s.durable.names.tree) path (fin.get s.durable.names.tree path))
called_leaves config s req moment (calls.Status path) = looked_leaves s req (status s.durable (fin.get s.durable.names.tree path))
called_leaves config s req moment (calls.FindForReading path index) = looked_leaves s req (location s.durable (found_chunk (fin.get s.durable.names.tree path) index))
called_leaves config s req moment (calls.FindForWriting path index stamp) = found_leaves s req path index stamp moment (found_chunk (fin.get s.durable.names.tree path) index)
called_leaves config s req moment (calls.Extend path index) = extends_leaves config s req path index (fin.get s.durable.names.tree path)
called_leaves config s req moment calls.Scan =
    scanned_leaves s req (removed_paths moment.0 (fin.entries s.durable.names.tree)) (forgotten_chunks moment.0 (fin.entries s.durable.names.tree) (fin.entries s.durable.names.refs))
called_leaves config s req moment calls.Replicate = most_leaves config s req (most_needed_of config.replicas (needs_of s))
called_leaves config s req moment calls.Query = silent_leaves s req (queried s req) refl
called_leaves config s req moment calls.PrepareBegin = begin_leaves s req
called_leaves config s req moment calls.PrepareCommit = commit_leaves config s req moment
called_leaves config s req moment calls.PrepareAbort = abort_leaves s req
called_leaves config s req moment calls.Finalize = finalize_leaves config s req
called_leaves config s req moment calls.RollbackBegin = rollback_leaves config s req
called_leaves config s req moment calls.RollbackCommit = rolled_leaves s req

unless_called : (config : Config) (s : State) (req : ReqId) (moment : Moment) (call : Call) (refusal : Option Refusal) → Leaves s req (called_unless config s req moment call refusal)
unless_called config s req moment call None = called_leaves config s req moment call
unless_called config s req moment call (Some refusal) = refused_leaves s req refusal

-- a reply that is told again was the last one
again_answered : (s : State) (req : ReqId) (result : Result Answer Refusal) → numbered (last_reply s req.client) req.number ≡ Again result → was_answered s.durable s.volatile req ≡ true
again_answered s req result is = by_last (last_reply s req.client) is
  where
    by_less : (r : KeptReply) (b : Bool) → nat_lt req.number r.number ≡ b → (if b then Older else New) ≡ Again result → not (nat_lt r.number req.number) ≡ true
    by_less r true less h = absurd (no_older h)
      where
        no_older : Older ≡ Again result → ⊥
        no_older h = cc
    by_less r false less h = absurd (no_new h)
      where
        no_new : New ≡ Again result → ⊥
        no_new h = cc

    by_same : (r : KeptReply) (b : Bool) → (r.number == req.number) ≡ b → (if b then Again r.result else (if nat_lt req.number r.number then Older else New)) ≡ Again result → not (nat_lt r.number req.number) ≡ true
    by_same r true same h = grind (arith, nat_tests)
    by_same r false other h = by_less r (nat_lt req.number r.number) refl h

    by_last : (o : Option KeptReply) → numbered o req.number ≡ Again result → not (is_later o req.number) ≡ true
    by_last None h = absurd (no_new h)
      where
        no_new : New ≡ Again result → ⊥
        no_new h = cc
    by_last (Some r) h = by_same r (r.number == req.number) refl h

-- a refusal that isn't kept
unkept : (s : State) (req : ReqId) (r refusal : Refusal) → is_kept r ≡ false → ◌≡◌ {A = Result Answer Refusal} (Err r) (Err refusal) → is_kept refusal ≡ true → was_answered s.durable s.volatile req ≡ true
unkept s req r refusal out same kept = absurd (false≢true (sym out ∙ ap is_kept (error_is same) ∙ kept))
  where
    error_is : {a b : Refusal} → ◌≡◌ {A = Result Answer Refusal} (Err a) (Err b) → a ≡ b
    error_is h = cc

taken_leaves : (config : Config) (s : State) (req : ReqId) (moment : Moment) (call : Call) (how : Numbered) → numbered (last_reply s req.client) req.number ≡ how → Leaves s req (taken_as config s req moment call how)
taken_leaves config s req moment call New is = unless_called config s req moment call (refused_before s req call)
taken_leaves config s req moment call (Again result) is = again_leaves s req result (λ refusal same kept. again_answered s req result is)
taken_leaves config s req moment call Older is = again_leaves s req (Err refusals.Old) (λ refusal. unkept s req refusals.Old refusal refl)

call_leaves : (config : Config) (s : State) (req : ReqId) (moment : Moment) (call : Call) → Leaves s req (call_turn config s req moment call)
call_leaves config s req moment call =
    let taken = taken_as config s req moment call (numbered (last_reply s req.client) req.number) in
    let device = again_leaves s req (Err refusals.Device) (λ refusal. unkept s req refusals.Device refusal refl) in
    either s req (is_unopened s.fault) (replied_again s req (Err refusals.Device)) (if is_pending s.volatile.pending req then waits_still s req else taken)
    device
    (either s req (is_pending s.volatile.pending req) (waits_still s req) taken
    (either s req (is_failed s.fault) (replied_again s req (Err refusals.Device)) (unmoved s) device (silent_leaves s req (unmoved s) refl))
    (taken_leaves config s req moment call (numbered (last_reply s req.client) req.number) refl))

pub refused_leaves_all : RefusedLeavesAll
refused_leaves_all config s req moment call refusal some = (call_leaves config s req moment call refusal some).left

pub refused_fits : RefusedFits
refused_fits config s req moment call some = by_said (call_turn config s req moment call).said refl some
  where
    by_said : (said : Option Refusal) → (call_turn config s req moment call).said ≡ said → is_some said ≡ true → FitsAndKeeps s (call_turn config s req moment call)
    by_said None is h = absurd (false≢true h)
    by_said (Some refusal) is h = (call_leaves config s req moment call refusal is).fits

-- ---- a call that was answered is over

-- a call that waits is refused only as its disk has failed
still_rests : (s : State) (req : ReqId) (refusal : Refusal) → (waits_still s req).said ≡ Some refusal → is_kept refusal ≡ true → ⊥
still_rests s req refusal some kept = by_failed (is_failed s.fault) some
  where
    by_failed : (b : Bool) → (if b then replied_again s req (Err refusals.Device) else unmoved s).said ≡ Some refusal → ⊥
    by_failed true h = false≢true (ap is_kept (refusal_is h) ∙ kept)
    by_failed false h = false≢true (ap is_some h)

-- a refusal leaves the calls that wait
left_waiting : (s : State) (req : ReqId) (refusal : Refusal) (t : Turn) → LeavesAll s req refusal t → t.after.volatile.pending ≡ s.volatile.pending
left_waiting s req refusal t k = by_left k.left
  where
    by_left : ((t.after ≡ s) × (t.records ≡ [])) ⊎ (((t.after ≡ with_said s req refusal) × (t.records ≡ Said req refusal ∷ [])) ⊎ ((t.after ≡ with_kept s req refusal) × (t.records ≡ []))) → t.after.volatile.pending ≡ s.volatile.pending
    by_left (inl same) = ap (λ (x : State). x.volatile.pending) same.0
    by_left (inr (inl said)) = ap (λ (x : State). x.volatile.pending) said.0
    by_left (inr (inr kept)) = ap (λ (x : State). x.volatile.pending) kept.0

refused_rests : (config : Config) (s : State) (req : ReqId) (moment : Moment) (call : Call) (refusal : Refusal) → (call_turn config s req moment call).said ≡ Some refusal → is_kept refusal ≡ true → is_pending s.volatile.pending req ≡ false
refused_rests config s req moment call refusal some kept = by_opened (is_unopened s.fault) some
  where
    by_waiting : (b : Bool) → is_pending s.volatile.pending req ≡ b → (if b then waits_still s req else taken_as config s req moment call (numbered (last_reply s req.client) req.number)).said ≡ Some refusal → is_pending s.volatile.pending req ≡ false
    by_waiting true is h = absurd (still_rests s req refusal h kept)
    by_waiting false is h = is

    by_opened : (b : Bool) → (if b then replied_again s req (Err refusals.Device) else (if is_pending s.volatile.pending req then waits_still s req else taken_as config s req moment call (numbered (last_reply s req.client) req.number))).said ≡ Some refusal
        → is_pending s.volatile.pending req ≡ false
    by_opened true h = absurd (false≢true (ap is_kept (refusal_is h) ∙ kept))
    by_opened false h = by_waiting (is_pending s.volatile.pending req) refl h

pub refused_are_over : RefusedAreOver
refused_are_over config s req moment call refusal some kept =
    let k = call_leaves config s req moment call refusal some in record {
      answered = k.over kept;
      rests = ap (λ ps. is_pending ps req) (left_waiting s req refusal (call_turn config s req moment call) k.left) ∙ refused_rests config s req moment call refusal some kept;
    }

pub older_are_over : OlderAreOver
older_are_over config s req moment call reply opened rests has less = record {
  said = ap (λ (t : Turn). t.said) is;
  over = subst (λ (t : Turn). IsOver t.after.durable t.after.volatile req) (sym is) (record { answered = ap (λ o. not (is_later o req.number)) has ∙ not_less reply.number req.number less; rests = rests });
}
  where
    not_less : (a b : ℕ) → nat_lt b a ≡ true → not (nat_lt a b) ≡ true
    not_less a b h = grind (arith, nat_tests)

    differs : (a b : ℕ) → nat_lt b a ≡ true → (a == b) ≡ false
    differs a b h = grind (arith, nat_tests)

    taken : Turn
    taken = taken_as config s req moment call (numbered (last_reply s req.client) req.number)

    is : call_turn config s req moment call ≡ replied_again s req (Err refusals.Old)
    is =
        ap (λ b. if b then replied_again s req (Err refusals.Device) else (if is_pending s.volatile.pending req then waits_still s req else taken)) opened
        ∙ ap (λ b. if b then waits_still s req else taken) rests
        ∙ ap (λ o. taken_as config s req moment call (numbered o req.number)) has
        ∙ ap (λ b. taken_as config s req moment call (if b then Again reply.result else if nat_lt req.number reply.number then Older else New)) (differs reply.number req.number less)
        ∙ ap (λ b. taken_as config s req moment call (if b then Older else New)) less

abbrev MakesNothing : State → Turn → Type 0
MakesNothing s t = (t.records ≡ []) × (t.after ≡ s)

pub over_make_nothing : OverMakeNothing
over_make_nothing config s req moment call over = by_opened (is_unopened s.fault)
  where
    by_number : (how : Numbered) → numbered (last_reply s req.client) req.number ≡ how → MakesNothing s (taken_as config s req moment call how)
    by_number New is = absurd (new_is_later (last_reply s req.client) is over.answered)
      where
        by_less : (r : KeptReply) (b : Bool) → nat_lt req.number r.number ≡ b → (r.number == req.number) ≡ false → (if b then Older else New) ≡ New → not (nat_lt r.number req.number) ≡ true → ⊥
        by_less r true less other h out = no_older h
          where
            no_older : Older ≡ New → ⊥
            no_older h = cc
        by_less r false less other h out = true≢false (let k = out in grind (arith, nat_tests))

        by_same : (r : KeptReply) (b : Bool) → (r.number == req.number) ≡ b → (if b then Again r.result else (if nat_lt req.number r.number then Older else New)) ≡ New → not (nat_lt r.number req.number) ≡ true → ⊥
        by_same r true same h out = no_again h
          where
            no_again : Again r.result ≡ New → ⊥
            no_again h = cc
        by_same r false other h out = by_less r (nat_lt req.number r.number) refl other h out

        new_is_later : (o : Option KeptReply) → numbered o req.number ≡ New → not (is_later o req.number) ≡ true → ⊥
        new_is_later None h out = false≢true out
        new_is_later (Some r) h out = by_same r (r.number == req.number) refl h out
    by_number (Again result) is = (refl, refl)
    by_number Older is = (refl, refl)

    by_waiting : (b : Bool) → is_pending s.volatile.pending req ≡ b → MakesNothing s (if b then waits_still s req else taken_as config s req moment call (numbered (last_reply s req.client) req.number))
    by_waiting true is = absurd (false≢true (sym over.rests ∙ is))
    by_waiting false is = by_number (numbered (last_reply s req.client) req.number) refl

    by_opened : (b : Bool) → MakesNothing s (if b then replied_again s req (Err refusals.Device) else (if is_pending s.volatile.pending req then waits_still s req else taken_as config s req moment call (numbered (last_reply s req.client) req.number)))
    by_opened true = (refl, refl)
    by_opened false = by_waiting (is_pending s.volatile.pending req) refl
