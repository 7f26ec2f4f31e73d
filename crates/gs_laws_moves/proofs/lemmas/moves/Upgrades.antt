-- Each call of an upgrade, and each call, is a chain of moves.
use Rattle.std.proofs.Common.{◌≡◌, arith, inl, inr, ◌∙◌, ◌==◌, ◌&&◌, ◌||◌, ◌+◌, ◌++◌, ℕ, Bool, true, false, not, cond, List, [], ◌∷◌, length, refl, ap, sym, subst}
use Rattle.std.specs.Prelude.{nat_lt, slice_get, unwrap_or, Option, Some, None, Result, Ok, Err, if◌then◌else◌}
use Rattle.std.specs.List.{list_any, list_all}
use Rattle.std.specs.FinMap as fin
use Rattle.std.proofs.lemmas.Bool.{false≢true, true≢false, and_parts}
use Rattle.std.proofs.lemmas.Bool.Decides.{nat_tests}
use Rattle.gs_base.specs.Members.{is_member}
use Rattle.gs_base.specs.declared.config.Config.{Config}
use Rattle.gs_base.specs.declared.epoch.EpochEnd.{EpochEnd}
use Rattle.gs_base.specs.declared.epoch.EpochEnd.TheVariants as ends
use Rattle.gs_base.specs.declared.numbers.Moment.{Moment}
use Rattle.gs_base.specs.declared.numbers.ReqId.{ReqId}
use Rattle.gs_base.specs.declared.refusal.Refusal.{Refusal}
use Rattle.gs_base.specs.declared.refusal.Refusal.TheVariants as refusals
use Rattle.gs_edit.specs.Edits.{edited}
use Rattle.gs_edit.specs.View.{NamesView}
use Rattle.gs_edit.specs.declared.edit.Edit.TheVariants as edits
use Rattle.gs_lease.specs.declared.view.Purpose.TheVariants as purposes
use Rattle.gs_msg.specs.declared.answer.Answer.{Answer}
use Rattle.gs_msg.specs.declared.answer.Answer.TheVariants as answers
use Rattle.gs_msg.specs.declared.call.Call.{Call}
use Rattle.gs_msg.specs.declared.call.Call.TheVariants as calls
use Rattle.gs_place.specs.Needs.{most_needed_of}
use Rattle.gs_master_record.specs.Plain.{Mkdirs, Create, Unhide, Prepare, Finalize, RollbackBegin, RollbackCommit}
use Rattle.gs_master_spec.specs.Beginning.{all_begun, has_versions}
use Rattle.gs_master_spec.specs.Calls.{found_chunk, refused_before, told_phase}
use Rattle.gs_master_spec.specs.Chunks.{has_entry}
use Rattle.gs_master_spec.specs.Durable.{Durable, is_listed, is_ordinary, is_rolling, prepared_view}
use Rattle.gs_master_spec.specs.Handling.{call_turn, called, called_unless, numbered, refusal_in, replied_again, taken_as, waits_still, New, Again, Older}
use Rattle.gs_master_state.specs.Sane.{are_apart, is_waited_by, makes}
use Rattle.gs_master_spec.specs.Settling.{is_quiet_at, requests_of}
use Rattle.gs_master_spec.specs.Replies.{is_later}
use Rattle.gs_master_spec.specs.State.{State, Turn, turned, and_then, joined, refused, all_ended_by, ended_by, first_of, is_failed, is_kept, is_unopened, last_reply, unmoved}
use Rattle.gs_master_spec.specs.Undoing.{all_undone}
use Rattle.gs_master_spec.specs.Upgrades.{accepted_plan, all_unquiet, answers_for, begin_tests, chunk_count, commit_if, commit_on, commit_tests, end_tests, finalize, first_in, if_pending, if_unquiet, is_last_epoch, lowest_path, pending_paths, prepare_abort, prepare_begin, prepare_commit, rollback_begin, tell_all, told_of, unless, unrestored}
use Rattle.gs_master_spec.specs.Volatile.{is_call, is_pending, without_pending}
use Rattle.gs_master_spec.specs.Working.{ascending, needs_of}
use Rattle.gs_master_spec.specs.declared.asking.Asking.{Asking}
use Rattle.gs_master_spec.specs.declared.change.Change.TheVariants as changes
use Rattle.gs_master_spec.specs.declared.pending.Pending.{Pending}
use Rattle.gs_master_spec.specs.declared.reply.KeptReply.{KeptReply}
use Rattle.gs_laws_master.specs.Promises.{IsKept}
use Rattle.gs_laws_master.proofs.lemmas.fitting.AcceptedCalls.{left_false, one_visible, passes}
use Rattle.gs_laws_moves.proofs.lemmas.moves.Ended.{each_pending}
use Rattle.gs_laws_moves.proofs.lemmas.moves.Free.{first_free, found_here, free_of, none_free}
use Rattle.gs_path.specs.Element.{is_hidden}
use Rattle.gs_laws_master.proofs.lemmas.fitting.AcceptedUpgrades.{begin_fits, first_test, not_so, unquiet_none}
use Rattle.gs_laws_master.proofs.lemmas.fitting.AcceptedViews.{filter_holds}
use Rattle.gs_laws_master.proofs.lemmas.fitting.AcceptedWork.{all_ended_same, no_makers, pending_none}
use Rattle.gs_laws_master.proofs.lemmas.standing.StandingTurns.{Holds, given_up}
use Rattle.gs_laws_moves.proofs.lemmas.moves.Calls.{deletes_chain, edits_chain, renames_chain, extends_turned, found_listed, found_turned, lists_chain, located_turned, most_chain, scans_turned, snapshot_if_chain, status_chain}
use Rattle.gs_laws_moves.proofs.lemmas.moves.Chains.{Chained, Turned, all_begun_chain, all_ended_chain, answered_chain, closing_chain, joined_together, refused_chain, rests, room_chain, room_turned, test_chain, test_turned, then_chain, within}
use Rattle.gs_laws_moves.specs.moves.Epochs.{ByItself, Closes}
use Rattle.gs_laws_moves.specs.moves.ForCalls.{IsHeardAs, IsNew}
use Rattle.gs_laws_moves.specs.moves.Guards.{IsCalled, IsHeardCall, IsRefusable, Heard, WasReplied, hears_call}
use Rattle.gs_laws_moves.specs.moves.Moves.{Moves, Then, BeginsRollback, CommitsRollback, Finalizes, Flags, Prepares, Says, TellsRollback}

-- ---- calls that wait for no path make no chunk

abbrev NoMakers : List Pending → Type 0
NoMakers ps = (chunk : ℕ) (call : Option ReqId) → is_waited_by call (makes chunk) ps ≡ false

fewer_makers : (ps : List Pending) (req : ReqId) → NoMakers ps → NoMakers (without_pending ps req)
fewer_makers ps req none chunk call = fewer ps (none chunk call)
  where
    either_none : (a b : Bool) → (a || b) ≡ false → (a ≡ false) × (b ≡ false)
    either_none true b h = absurd (true≢false h)
    either_none false b h = (refl, h)

    fewer : (qs : List Pending) → is_waited_by call (makes chunk) qs ≡ false → is_waited_by call (makes chunk) (without_pending qs req) ≡ false
    fewer [] h = refl
    fewer (q ∷ qs) h = let parts = either_none (is_call q.req call && makes chunk q.waits) (is_waited_by call (makes chunk) qs) h in by_test (not (same_op_of q)) parts.0 (fewer qs parts.1)
      where
        same_op_of : Pending → Bool
        same_op_of p = is_call req (Some p.req)

        by_test : (b : Bool) → (is_call q.req call && makes chunk q.waits) ≡ false → is_waited_by call (makes chunk) (without_pending qs req) ≡ false → is_waited_by call (makes chunk) (cond b (q ∷ without_pending qs req) (without_pending qs req)) ≡ false
        by_test true here rest = ap (λ x. x || is_waited_by call (makes chunk) (without_pending qs req)) here ∙ rest
        by_test false here rest = rest

ended_placed : (reqs : List ReqId) (refusal : Refusal) (s : State) → Holds true s → NoMakers s.volatile.pending → (all_ended_by s reqs refusal).after.volatile.unplaced ≡ s.volatile.unplaced
ended_placed [] refusal s h none = refl
ended_placed (req ∷ reqs) refusal s h none =
    let one = given_up true s req refusal h in
    ended_placed reqs refusal (ended_by s req refusal).after one.good.holds (subst NoMakers (sym one.pending) (fewer_makers s.volatile.pending req none)) ∙ one.placed (λ c a has call. not_there c a has a.call refl call (is_member s.volatile.unplaced c) refl)
  where
    not_there : (c : ℕ) (a : Asking) → fin.get s.volatile.moving c ≡ Some a → (call : Option ReqId) → a.call ≡ call → is_call req a.call ≡ true → (m : Bool) → is_member s.volatile.unplaced c ≡ m → m ≡ false
    not_there c a has None is own m here = absurd (false≢true (sym (ap (is_call req) is) ∙ own))
    not_there c a has (Some r) is own true here = absurd (false≢true (sym (none c a.call) ∙ (h.stands.asked c a has).own r is here))
    not_there c a has (Some r) is own false here = refl

-- ---- the last of the epochs that ended

pub at_end : (past : List EpochEnd) (end : EpochEnd) → slice_get (past ++ end ∷ []) (length past) ≡ Some end
at_end [] end = refl
at_end (x ∷ past) end = at_end past end

same_count : (a b : ℕ) → (a == b) ≡ true → a ≡ b
same_count a b h = grind (arith, nat_tests)

pub ends_counted : (d : Durable) → IsKept d → length d.ends ≡ d.epoch
ends_counted d k = same_count (length d.ends) d.epoch (and_parts (length d.ends == d.epoch) _ k.ends).0

module _ (config : Config) (heard : Heard) where
  unless_chain : (s : State) (req : ReqId) → IsRefusable heard s req false → (t : Turn) (refusal : Option Refusal) → (refusal ≡ None → Chained config heard s t) → Chained config heard s (unless refusal s req t)
  unless_chain s req may t None a = room_chain config heard s req may t (a refl)
  unless_chain s req may t (Some refusal) a = refused_chain config heard s req may refusal

  prepare_chain : (s : State) (req : ReqId) → IsRefusable heard s req false → Holds true s → IsHeardAs heard req calls.PrepareBegin → Chained config heard s (prepare_begin s req)
  prepare_chain s req may h for =
      let reqs = requests_of s.volatile.pending in
      let many = all_unquiet s in
      let ended = all_ended_by s reqs refusals.Preparing in
      let begin : State → Turn = λ next. all_begun next many purposes.Quiet None in
      let accept : State → Turn = λ next. turned next (accepted_plan next req [] (changes.Prepare true ∷ []) [] s.durable.epoch) in
      let exhausted = not (has_versions s.durable (length many)) in
      unless_chain s req may (and_then (and_then ended begin) accept) (first_of (begin_tests s.durable.phase s.volatile.is_preparing s.volatile.pending exhausted))
      (λ passed.
      let more = if_pending (lowest_path (pending_paths s.volatile.pending)) ++ (exhausted, refusals.Exhausted) ∷ [] in
      let one = first_test (s.volatile.is_preparing || not (is_ordinary s.durable.phase)) refusals.AlreadyUpgrading more passed in
      let rest = pending_none (lowest_path (pending_paths s.volatile.pending)) exhausted one.1 in
      let known = filter_holds (has_entry s) (λ chunk. has_entry s chunk && not (is_quiet_at s chunk)) (ascending (fin.keys s.durable.chunks ++ fin.keys s.volatile.moving)) (λ chunk k. (and_parts (has_entry s chunk) (not (is_quiet_at s chunk)) k).0) in
      let placed = ended_placed reqs refusals.Preparing s h (λ chunk call. no_makers chunk call s.volatile.pending rest.0) in
      let still : list_all (has_entry ended.after) many ≡ true =
      ap (λ u. list_all (λ c. is_listed ended.after.durable c || is_member u c) many) placed
      ∙ all_ended_same (λ d. list_all (λ c. is_listed d c || is_member s.volatile.unplaced c) many) (λ d replies. refl) reqs refusals.Preparing s ∙ known in
      then_chain config heard s (and_then ended begin) accept
      (then_chain config heard s ended begin (all_ended_chain config heard reqs refusals.Preparing s (each_pending s.volatile.pending h.stands.apart)) (all_begun_chain config heard many None ended.after still))
      (Moves (and_then ended begin).after (Flags req true s.durable.epoch) None (tt, for)))

  unless_turned : (s : State) (req : ReqId) → IsRefusable heard s req false → (t : Turn) (refusal : Option Refusal) → (refusal ≡ None → Turned config heard s t) → Turned config heard s (unless refusal s req t)
  unless_turned s req may t None a = room_turned config heard s req may t (a refl)
  unless_turned s req may t (Some refusal) a = within config heard (refused_chain config heard s req may refusal)

  commit_chain : (s : State) (req : ReqId) → IsRefusable heard s req false → (moment : Moment) → IsKept s.durable → IsNew heard s req calls.PrepareCommit → Turned config heard s (prepare_commit config s req moment)
  commit_chain s req may moment k for =
      unless_turned s req may (turned s (accepted_plan s req (Prepare (s.durable.epoch + 1) moment.0 (chunk_count s) ∷ []) (changes.Prepare false ∷ []) (tell_all config (s.durable.epoch + 1) ends.Prepare) (s.durable.epoch + 1)))
      (first_of (commit_tests s.durable.phase s.volatile.is_preparing (all_unquiet s) (is_last_epoch s.durable)))
      (λ passed.
      let more = if_unquiet (first_in (all_unquiet s)) ++ (is_last_epoch s.durable, refusals.Exhausted) ∷ [] in
      let one = first_test (not s.volatile.is_preparing && not (is_ordinary s.durable.phase)) refusals.AlreadyUpgrading ((not s.volatile.is_preparing, refusals.NotUpgrading) ∷ more) passed in
      let two = first_test (not s.volatile.is_preparing) refusals.NotUpgrading more one.1 in
      let quiet = (unquiet_none (all_unquiet s) (is_last_epoch s.durable) two.1).0 in
      ByItself s (Prepares req moment) None (record { begun = not_so s.volatile.is_preparing two.0; quiet = quiet; ended = ends_counted s.durable k }, for) refl)

  finalize_chain : (s : State) (req : ReqId) → IsRefusable heard s req false → IsKept s.durable → IsNew heard s req calls.Finalize → Turned config heard s (finalize config s req)
  finalize_chain s req may k for =
      unless_turned s req may (turned s (accepted_plan s req (Finalize (s.durable.epoch + 1) ∷ []) [] (tell_all config (s.durable.epoch + 1) ends.Finalize) (s.durable.epoch + 1)))
      (first_of (end_tests s.durable.phase (is_last_epoch s.durable))) (λ passed. ByItself s (Finalizes req) None (record { passed = passed; ended = ends_counted s.durable k }, for) refl)

  rollback_chain : (s : State) (req : ReqId) → IsRefusable heard s req false → IsKept s.durable → are_apart s.volatile.pending ≡ true → IsNew heard s req calls.RollbackBegin → Turned config heard s (rollback_begin config s req)
  rollback_chain s req may k apart for =
      let first = turned s (record { records = RollbackBegin (s.durable.epoch + 1) ∷ []; changes = []; sent = []; said = None }) in
      let reqs = requests_of s.volatile.pending in
      let ended : State → Turn = λ next. all_ended_by next reqs refusals.RollingBack in
      let accept : State → Turn = λ next. turned next (accepted_plan next req [] [] (tell_all config (s.durable.epoch + 1) ends.Rollback) (s.durable.epoch + 1)) in
      unless_turned s req may (and_then (and_then first ended) accept) (first_of (end_tests s.durable.phase (is_last_epoch s.durable)))
      (λ passed.
      let fit = begin_fits s.durable k passed in
      let ended_so : slice_get (and_then first ended).after.durable.ends s.durable.epoch ≡ Some ends.Rollback =
      all_ended_same (λ d. slice_get d.ends s.durable.epoch) (λ d replies. refl) reqs refusals.RollingBack first.after
      ∙ ap (λ o. slice_get (unwrap_or o s.durable).ends s.durable.epoch) fit
      ∙ ap (slice_get (s.durable.ends ++ ends.Rollback ∷ [])) (sym (ends_counted s.durable k)) ∙ at_end s.durable.ends ends.Rollback in
      let behind = ended first.after in
      subst (Turned config heard s) (sym (joined_together first behind (accept behind.after)))
      (Closes s BeginsRollback None (joined behind (accept behind.after)) (record { passed = passed; ended = ends_counted s.durable k }, (req, for)) refl
      (Then first.after behind (accept behind.after) (closing_chain config heard reqs refusals.RollingBack first.after (each_pending s.volatile.pending apart))
      (Moves behind.after (TellsRollback req (s.durable.epoch + 1)) None ((record { before = s.durable.epoch; next = refl; ended = ended_so }, for.heard_so), refl)))))

  abort_chain : (s : State) (req : ReqId) → IsRefusable heard s req false → IsHeardAs heard req calls.PrepareAbort → Chained config heard s (prepare_abort s req)
  abort_chain s req may for =
      test_chain config heard s s.volatile.is_preparing (turned s (accepted_plan s req [] (changes.Prepare false ∷ []) [] s.durable.epoch)) (refused s req refusals.NotUpgrading)
      (λ _. Moves s (Flags req false s.durable.epoch) None (tt, for)) (λ _. refused_chain config heard s req may refusals.NotUpgrading)

  restored_chain : (s : State) (req : ReqId) → IsRefusable heard s req false → (names : NamesView) (lacking : Option ℕ) → is_rolling s.durable.phase ≡ true → all_undone s.durable.inverses s.durable.names ≡ Some names → unrestored (prepared_view s.durable) (told_of s) (fin.entries names.refs) ≡ lacking
      → IsNew heard s req calls.RollbackCommit → Turned config heard s (commit_if s req names lacking)
  restored_chain s req may names (Some chunk) rolling back is for = within config heard (refused_chain config heard s req may (refusals.Unrestored chunk))
  restored_chain s req may names None rolling back is for =
      room_turned config heard s req may (turned s (accepted_plan s req (RollbackCommit s.durable.epoch (answers_for (prepared_view s.durable) (told_of s) (fin.entries names.refs)) ∷ []) (changes.RolledBack ∷ []) [] s.durable.epoch))
      (ByItself s (CommitsRollback req names) None (record { rolling = rolling; back = back; restored = is }, for) refl)

  commits_chain : (s : State) (req : ReqId) → IsRefusable heard s req false → (names : Option NamesView) → is_rolling s.durable.phase ≡ true → all_undone s.durable.inverses s.durable.names ≡ names → IsNew heard s req calls.RollbackCommit → Turned config heard s (commit_on s req names)
  commits_chain s req may None rolling is for = within config heard (refused_chain config heard s req may refusals.BadLine)
  commits_chain s req may (Some names) rolling is for = restored_chain s req may names (unrestored (prepared_view s.durable) (told_of s) (fin.entries names.refs)) rolling is refl for

  -- ---- all calls

  called_chain : (s : State) (req : ReqId) → IsCalled heard s req → is_pending s.volatile.pending req ≡ false → (moment : Moment) (call : Call) → Holds true s → refused_before s req call ≡ None → IsNew heard s req call → Turned config heard s (called config s req moment call)
  called_chain s req come new moment (calls.Mkdirs path) h passed for = within config heard (edits_chain config heard s req (Mkdirs path) answers.Nothing refl refl refl (none_free s req _ _ (free_of s req (calls.Mkdirs path) new passed)) come (calls.Mkdirs path, for, refl))
  called_chain s req come new moment (calls.Create path) h passed for = within config heard (edits_chain config heard s req (Create path) answers.Nothing refl refl refl (none_free s req _ _ (free_of s req (calls.Create path) new passed)) come (calls.Create path, for, refl))
  called_chain s req come new moment (calls.Rename from to) h passed for = within config heard (renames_chain config heard s req from to (first_free s req from _ _ (free_of s req (calls.Rename from to) new passed)) come for)
  called_chain s req come new moment (calls.Delete path recursive) h passed for = within config heard (deletes_chain config heard s req path recursive moment (first_free s req path _ _ (free_of s req (calls.Delete path recursive) new passed)) come for)
  called_chain s req come new moment (calls.Undelete path) h passed for = within config heard (edits_chain config heard s req (Unhide path) _ refl refl refl (first_free s req path _ _ (free_of s req (calls.Undelete path) new passed)) come (calls.Undelete path, for, refl))
  called_chain s req come new moment (calls.Snapshot from to) h passed for = within config heard (snapshot_if_chain config heard s req come (none_free s req _ _ (free_of s req (calls.Snapshot from to) new passed)) from to (edited (edits.Snapshot from to) (fin.entries s.durable.names.tree)) h.stands.kept for)
  called_chain s req come new moment (calls.List path) h passed for = within config heard (lists_chain config heard s req (come, new) path)
  called_chain s req come new moment (calls.Status path) h passed for = within config heard (status_chain config heard s req (come, new) path)
  called_chain s req come new moment (calls.FindForReading path index) h passed for =
      located_turned config heard s req come new (found_chunk (fin.get s.durable.names.tree path) index) (left_false (is_rolling s.durable.phase) (passes s req (calls.FindForReading path index) passed).rolling) (λ c is. found_listed config heard s path index c h.stands.kept is) (λ c view is has. (calls.FindForReading path index, for, found_here (fin.get s.durable.names.tree path) index c is))
  called_chain s req come new moment (calls.FindForWriting path index stamp) h passed for =
      found_turned config heard s req come path index stamp moment (found_chunk (fin.get s.durable.names.tree path) index) (one_visible (list_any is_hidden path) (passes s req (calls.FindForWriting path index stamp) passed).hidden) (free_of s req (calls.FindForWriting path index stamp) new passed) h.stands.kept (left_false (is_rolling s.durable.phase) (passes s req (calls.FindForWriting path index stamp) passed).rolling) refl for
  called_chain s req come new moment (calls.Extend path index) h passed for =
      extends_turned config heard s req come new path index (fin.get s.durable.names.tree path) h.stands.kept (left_false (is_rolling s.durable.phase) (passes s req (calls.Extend path index) passed).rolling) refl for (one_visible (list_any is_hidden path) (passes s req (calls.Extend path index) passed).hidden) (free_of s req (calls.Extend path index) new passed)
  called_chain s req come new moment calls.Scan h passed for = scans_turned config heard s req (come, new) moment h.stands for
  called_chain s req come new moment calls.Replicate h passed for = within config heard (most_chain config heard s req come new (most_needed_of config.replicas (needs_of s)) for)
  called_chain s req come new moment calls.Query h passed for = within config heard (answered_chain config heard s req (answers.Phase (told_phase s.volatile.is_preparing s.durable.phase) s.durable.epoch) refl)
  called_chain s req come new moment calls.PrepareBegin h passed for = within config heard (prepare_chain s req (come, new) h for.heard_so)
  called_chain s req come new moment calls.PrepareCommit h passed for = commit_chain s req (come, new) moment h.stands.kept for
  called_chain s req come new moment calls.PrepareAbort h passed for = within config heard (abort_chain s req (come, new) for.heard_so)
  called_chain s req come new moment calls.Finalize h passed for = finalize_chain s req (come, new) h.stands.kept for
  called_chain s req come new moment calls.RollbackBegin h passed for = rollback_chain s req (come, new) h.stands.kept h.stands.apart for
  called_chain s req come new moment calls.RollbackCommit h passed for =
      test_turned config heard s (is_rolling s.durable.phase) (commit_on s req (all_undone s.durable.inverses s.durable.names)) (refused s req refusals.NotUpgrading)
      (λ rolling. commits_chain s req (come, new) (all_undone s.durable.inverses s.durable.names) rolling refl for) (λ _. within config heard (refused_chain config heard s req (come, new) refusals.NotUpgrading))

  called_unless_chain : (s : State) (req : ReqId) → IsCalled heard s req → is_pending s.volatile.pending req ≡ false → (moment : Moment) (call : Call) (refusal : Option Refusal) → Holds true s → refused_before s req call ≡ refusal → IsNew heard s req call → Turned config heard s (called_unless config s req moment call refusal)
  called_unless_chain s req come new moment call None h passed for = called_chain s req come new moment call h passed for
  called_unless_chain s req come new moment call (Some refusal) h passed for = within config heard (refused_chain config heard s req (come, new) refusal)

  -- ---- a reply again

  refused_again : (s : State) (req : ReqId) (refusal : Refusal) → is_kept refusal ≡ false → Chained config heard s (replied_again s req (Err refusal))
  refused_again s req refusal unkept = Moves s (Says _) (Some refusal) (((inl tt, tt), refl, (inl unkept, tt)), tt)

  again_chain : (s : State) (req : ReqId) → IsHeardCall heard req → is_pending s.volatile.pending req ≡ false → (result : Result Answer Refusal) → WasReplied s req result → Chained config heard s (replied_again s req result)
  again_chain s req come new (Ok answer) was = Moves s (Says _) (refusal_in (Ok answer)) (((inr was, tt), refl, (was, tt)), tt)
  again_chain s req come new (Err refusal) was = Moves s (Says _) (refusal_in (Err refusal)) (((inr was, tt), refl, (inr (was, new, ap hears_call come.2), tt)), tt)

  taken_chain : (s : State) (req : ReqId) → is_pending s.volatile.pending req ≡ false → (moment : Moment) (call : Call) → IsHeardAs heard req call → Holds true s → Turned config heard s (taken_as config s req moment call (numbered (last_reply s req.client) req.number))
  taken_chain s req new moment call told h = by_reply (last_reply s req.client) refl
    where
      come : IsHeardCall heard req
      come = (told.0, call, told.1)

      for : (o : Option KeptReply) → last_reply s req.client ≡ o → is_later o req.number ≡ true → IsNew heard s req call
      for o has later = record { heard_so = told; later = ap (λ o. is_later o req.number) has ∙ later; rests = new }

      called : (o : Option KeptReply) → last_reply s req.client ≡ o → is_later o req.number ≡ true → IsCalled heard s req
      called o has later = inl (come, ap (λ o. is_later o req.number) has ∙ later)

      by_order : (reply : KeptReply) (b : Bool) → (reply.number == req.number) ≡ false → nat_lt req.number reply.number ≡ b → last_reply s req.client ≡ Some reply → Turned config heard s (taken_as config s req moment call (if b then Older else New))
      by_order reply true other older has = within config heard (refused_again s req refusals.Old refl)
      by_order reply false other older has = called_unless_chain s req (called (Some reply) has (behind reply.number req.number other older)) new moment call (refused_before s req call) h refl (for (Some reply) has (behind reply.number req.number other older))
        where
          behind : (a b : ℕ) → (a == b) ≡ false → nat_lt b a ≡ false → nat_lt a b ≡ true
          behind a b other older = grind (arith, nat_tests)

      by_number : (reply : KeptReply) (b : Bool) → (reply.number == req.number) ≡ b → last_reply s req.client ≡ Some reply
          → Turned config heard s (taken_as config s req moment call (if b then Again reply.result else if nat_lt req.number reply.number then Older else New))
      by_number reply true same has = within config heard (again_chain s req come new reply.result (record { reply = reply; has = has; number = same; is = refl }))
      by_number reply false same has = by_order reply (nat_lt req.number reply.number) same refl has

      by_reply : (o : Option KeptReply) → last_reply s req.client ≡ o → Turned config heard s (taken_as config s req moment call (numbered o req.number))
      by_reply None has = called_unless_chain s req (called None has refl) new moment call (refused_before s req call) h refl (for None has refl)
      by_reply (Some reply) has = by_number reply (reply.number == req.number) refl has

  pub call_chain : (s : State) (req : ReqId) (moment : Moment) (call : Call) → IsHeardAs heard req call → Holds true s → Turned config heard s (call_turn config s req moment call)
  call_chain s req moment call told h =
      let taken = taken_as config s req moment call (numbered (last_reply s req.client) req.number) in
      test_turned config heard s (is_unopened s.fault) (replied_again s req (Err refusals.Device)) (if is_pending s.volatile.pending req then waits_still s req else taken) (λ _. within config heard (refused_again s req refusals.Device refl))
      (λ _. test_turned config heard s (is_pending s.volatile.pending req) (waits_still s req) taken
      (λ _. test_turned config heard s (is_failed s.fault) (replied_again s req (Err refusals.Device)) (unmoved s) (λ _. within config heard (refused_again s req refusals.Device refl)) (λ _. within config heard (rests config heard s))) (λ new. taken_chain s req new moment call told h))
