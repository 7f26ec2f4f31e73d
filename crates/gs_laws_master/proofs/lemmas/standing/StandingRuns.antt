-- What stands is kept by every event, so over every run.
use Rattle.std.proofs.Common.{◌≡◌, ◌∙◌, ◌&&◌, ◌||◌, ◌==◌, inr, ℕ, Bool, true, false, not, List, [], ◌∷◌, length, refl, ap, sym, arith, subst}
use Rattle.std.specs.Prelude.{is_some, nat_lt, Option, Some, None, Err, if◌then◌else◌, Result, Ok}
use Rattle.std.specs.FinMap as fin
use Rattle.std.specs.List.{AllByRecursion, list_all, list_any}
use Rattle.std.specs.Ordering.{nat_cmp}
use Rattle.std.proofs.lemmas.Bool.{false≢true, and_parts}
use Rattle.std.proofs.lemmas.Bool.Decides.{nat_tests}
use Rattle.gs_base.specs.Members.{is_member}
use Rattle.gs_base.specs.Told.{IsNumber}
use Rattle.gs_base.specs.declared.config.Config.{Config}
use Rattle.gs_base.specs.declared.numbers.Moment.{Moment}
use Rattle.gs_base.specs.declared.numbers.ReqId.{ReqId}
use Rattle.gs_base.specs.declared.numbers.Stamp.{Stamp}
use Rattle.gs_base.specs.declared.refusal.Refusal.{Refusal}
use Rattle.gs_base.specs.declared.refusal.Refusal.TheVariants as refusals
use Rattle.gs_path.specs.Element.{is_hidden}
use Rattle.gs_path.specs.Path.{Path}
use Rattle.gs_tree.proofs.Levels.{both_true}
use Rattle.gs_tree.specs.Edits.{old_name, target_of}
use Rattle.gs_edit.specs.Edits.{edited}
use Rattle.gs_edit.specs.Plain.{unhide_target}
use Rattle.gs_edit.specs.declared.edit.Edit.TheVariants as edits
use Rattle.gs_lease.specs.declared.view.Purpose.TheVariants as purposes
use Rattle.gs_msg.specs.declared.answer.Answer.TheVariants as answers
use Rattle.gs_msg.specs.declared.body.Body.{Body}
use Rattle.gs_msg.specs.declared.body.Body.TheVariants as bodies
use Rattle.gs_msg.specs.declared.body.Reported.{Reported}
use Rattle.gs_msg.specs.declared.call.Call.{Call}
use Rattle.gs_msg.specs.declared.call.Call.TheVariants as calls
use Rattle.gs_msg.specs.declared.chunk.Chunk.{Chunk as About}
use Rattle.gs_msg.specs.declared.chunk.Chunk.TheVariants as abouts
use Rattle.gs_msg.specs.declared.message.Message.{Message}
use Rattle.gs_msg.specs.declared.node.NodeId.{NodeId}
use Rattle.gs_msg.specs.declared.node.NodeId.TheVariants as nodes
use Rattle.gs_place.specs.Needs.{most_needed_of}
use Rattle.gs_master_record.specs.Plain.{Mkdirs, Create, Rename, Unhide}
use Rattle.gs_master_spec.specs.Beginning.{all_begun, has_versions}
use Rattle.gs_master_spec.specs.Calls.{found_chunk, is_always_taken, is_work, listing, location, refused_before, status, told_phase, edit_if, renames}
use Rattle.gs_master_spec.specs.Chunks.{chunk_at, has_entry, may_begin}
use Rattle.gs_master_spec.specs.Durable.{Durable, Settled, is_listed, is_rolling}
use Rattle.gs_master_spec.specs.Handling.{recover, recovered_from, about_turn, call_turn, called, called_unless, fresh, from_client, from_node, granted, handle, numbered, pressed, proposals, replied_again, restarted, unlisted, server_turn, taken_as, tick, unless_failed, waits_still, written_if_due, Numbered, New, Again, Older}
use Rattle.gs_master_spec.specs.Hearing.{behind, damaged, drops, is_leased_under, is_lost_at, is_told_sound, learned, lost, made_quiet, next_epoch, renewed, reported, reported_now, sends}
use Rattle.gs_master_spec.specs.Replies.{is_later}
use Rattle.gs_master_spec.specs.State.{State, Log, Plan, Turn, turned, unmoved, met_by, and_then, fits, for_each, if_room, is_failed, is_unopened, last_reply}
use Rattle.gs_journal.specs.declared.version.Version.TheVariants.{Two}
use Rattle.gs_master_spec.specs.Applied.{is_visible, records_behind}
use Rattle.gs_master_spec.specs.Volatile.{is_pending, paths_of}
use Rattle.gs_master_spec.specs.declared.pending.Pending.{Pending}
use Rattle.gs_master_spec.specs.Working.{needs_of}
use Rattle.gs_master_spec.specs.declared.change.Change.TheVariants as changes
use Rattle.gs_master_spec.specs.declared.reply.KeptReply.{KeptReply}
use Rattle.gs_laws_master.specs.Promises.{AllFit, IsKept}
use Rattle.gs_laws_master.specs.Standing.{RunsRecover, AreCounters, CanWait, FirmGoesOn, Event, Comes, Ticks, Renews, Restarts, EventsFit, FitsAndStands, IsFirm, IsNamed, IsNamedAbout, IsNamedBody, IsNamedCall, RunsFit, StartsFirm, run_of, turn_of, was_answered}
use Rattle.gs_laws_master.proofs.lemmas.fitting.Accepted.{may_so, unhide_well}
use Rattle.gs_laws_master.proofs.lemmas.fitting.AcceptedCalls.{Passes, left_false, one_visible, passes, two_visible, resolved_may, resolved_written}
use Rattle.gs_laws_master.proofs.lemmas.fitting.AcceptedViews.{filter_holds, is_settled}
use Rattle.gs_laws_master.specs.Numbered.{EventsKeepNumbers, RunsKeepNumbers}
use Rattle.gs_laws_master.proofs.lemmas.keeping.KeptAll.{start_kept}
use Rattle.gs_laws_master.proofs.lemmas.names.Numbered.{start_numbers}
use Rattle.gs_laws_master.proofs.lemmas.standing.Standing.{restored}
use Rattle.gs_laws_master.proofs.lemmas.standing.StandingAnswers.{pressed_good, promised_good, unpromised_good}
use Rattle.gs_laws_master.proofs.lemmas.standing.StandingCalls.{deleted_good, extends_good, found_good, most_good, plain_good, snapshot_if_good}
use Rattle.gs_laws_master.proofs.lemmas.upgrades.Resting.{found_member, member_found}
use Rattle.gs_laws_master.proofs.lemmas.standing.StandingCheckpoints.{checkpoint_good, due_good, member_stays, member_was}
use Rattle.gs_laws_master.proofs.lemmas.standing.StandingTurns.{Good, Holds, answered_good, looked_good, none_good, refused_good, same_good, test_good, then_good}
use Rattle.gs_laws_master.proofs.lemmas.standing.StandingUpgrades.{abort_good, begin_good, commit_good, finalize_good, prepare_good, rolled_good, scans_good}
use Rattle.gs_laws_master.proofs.lemmas.standing.StandingViews.{MayBegin, all_begun_good, for_none}
use Rattle.gs_edit.specs.View.{NamesView}
use Rattle.gs_master_record.specs.Writable.{IsPath}
use Rattle.gs_master_spec.specs.Undoing.{edited_names}
use Rattle.gs_master_state.proofs.Renames.{resolved_does}

-- a store that is opened: nothing is asked, and no call waits
pub opens_firm : (d : Durable) (log : Log) → IsKept d → AreCounters d → IsFirm (restarted d log)
opens_firm d log kept counters = record {
  stands = record {
    kept = kept;
    counters = counters;
    asked = λ chunk asking has. absurd (false≢true (sym (ap is_some (fin.get-empty nat_cmp chunk)) ∙ ap is_some has));
    unplaced = λ chunk here. absurd (false≢true here);
    counted = λ chunk some. by_listed chunk some (is_listed d chunk) refl;
    out = λ chunk here. (kept.handles chunk (was_settled chunk here), refl);
    apart = refl;
    calls = tt;
    preparing = λ p. absurd (false≢true p);
  };
  rolling = λ r. refl;
}
  where
    by_listed : (chunk : ℕ) → is_some (fin.get d.chunks chunk) ≡ true → (b : Bool) → is_listed d chunk ≡ b → (b || (false || is_member (unlisted d) chunk)) ≡ true
    by_listed chunk some true is = refl
    by_listed chunk some false is = member_stays (λ c. not (is_listed d c)) (fin.keys d.chunks) chunk (ap not is) (found_member (fin.entries d.chunks) chunk (ap is_some (sym (fin.get-entries d.chunks chunk)) ∙ some))

    was_settled : (chunk : ℕ) → is_member (unlisted d) chunk ≡ true → is_some (fin.get d.chunks chunk) ≡ true
    was_settled chunk here = ap is_some (fin.get-entries d.chunks chunk) ∙ member_found (fin.entries d.chunks) chunk (member_was (λ c. not (is_listed d c)) (fin.keys d.chunks) chunk here)

pub starts_firm : StartsFirm
starts_firm log = opens_firm (fresh log).durable log start_kept (record { handle = omega arith; version = omega arith; hidden = omega arith })

-- ---- a call

new_later : (o : Option KeptReply) (n : ℕ) → numbered o n ≡ New → is_later o n ≡ true
new_later None n e = refl
new_later (Some reply) n e = by_tests (reply.number == n) refl (nat_lt n reply.number) refl e
  where
    is_new : Numbered → Bool
    is_new New = true
    is_new (Again result) = false
    is_new Older = false

    by_tests : (b : Bool) → (reply.number == n) ≡ b → (c : Bool) → nat_lt n reply.number ≡ c → (if b then Again reply.result else if c then Older else New) ≡ New → nat_lt reply.number n ≡ true
    by_tests true is c less k = absurd (false≢true (ap is_new k))
    by_tests false is true less k = absurd (false≢true (ap is_new k))
    by_tests false is false less k = grind (arith, nat_tests)

module _ (config : Config) (s : State) (req : ReqId) (moment : Moment) (h : Holds true s) (low : IsNumber moment.0) where
  may_begin_so : (call : Call) → Passes s call → is_pending s.volatile.pending req ≡ false → was_answered s.durable s.volatile req ≡ false → is_always_taken call ≡ false → is_work call ≡ true → MayBegin s req
  may_begin_so call p out new taken work = record {
    out = out;
    new = new;
    rolling = left_false (is_rolling s.durable.phase) (ap (λ b. is_rolling s.durable.phase && not b) (sym taken) ∙ p.rolling);
    preparing = left_false s.volatile.is_preparing (ap (λ b. s.volatile.is_preparing && b) (sym work) ∙ p.preparing);
  }

  renames_good : (from to : Path) → is_rolling s.durable.phase ≡ false → (is_visible from && is_visible to) ≡ true → IsPath from × IsPath to → Good true s (renames s req from to)
  renames_good from to rolling well told = by_names (edited_names (Rename from to) s.durable.names) refl
    where
      by_names : (names : Result NamesView Refusal) → edited_names (Rename from to) s.durable.names ≡ names → Good true s (edit_if s req (Rename from (target_of (fin.get s.durable.names.tree) from to)) answers.Nothing names)
      by_names (Err refusal) is = refused_good true s req refusal h
      by_names (Ok after) is =
          subst (λ names. Good true s (edit_if s req (Rename from (target_of (fin.get s.durable.names.tree) from to)) answers.Nothing names)) (resolved_does s.durable.names after from to is)
          (plain_good s req (Rename from (target_of (fin.get s.durable.names.tree) from to)) answers.Nothing h (λ names e. resolved_may s from to rolling well) (resolved_written s after from to well told is) refl refl rolling)

  called_good : (call : Call) → Passes s call → is_pending s.volatile.pending req ≡ false → was_answered s.durable s.volatile req ≡ false → IsNamedCall call → Good true s (called config s req moment call)
  called_good (calls.Mkdirs path) p out new named =
      plain_good s req (Mkdirs path) answers.Nothing h (λ names e. may_so s.durable (Mkdirs path) (left_false (is_rolling s.durable.phase) p.rolling) (one_visible (list_any is_hidden path) p.hidden) refl refl) named refl refl (left_false (is_rolling s.durable.phase) p.rolling)
  called_good (calls.Create path) p out new named =
      plain_good s req (Create path) answers.Nothing h (λ names e. may_so s.durable (Create path) (left_false (is_rolling s.durable.phase) p.rolling) (one_visible (list_any is_hidden path) p.hidden) refl refl) named refl refl (left_false (is_rolling s.durable.phase) p.rolling)
  called_good (calls.Rename from to) p out new named =
      renames_good from to (left_false (is_rolling s.durable.phase) p.rolling) (two_visible (list_any is_hidden from) (list_any is_hidden to) p.hidden) named
  called_good (calls.Delete path recursive) p out new named = deleted_good s req path recursive moment h (left_false (is_rolling s.durable.phase) p.rolling) (one_visible (list_any is_hidden path) p.hidden) named low
  called_good (calls.Undelete path) p out new named =
      plain_good s req (Unhide path) (answers.Path (unhide_target path (old_name path))) h
      (λ names e. may_so s.durable (Unhide path) (left_false (is_rolling s.durable.phase) p.rolling) (unhide_well s.durable.names names path h.stands.kept.names e) refl refl) named refl refl (left_false (is_rolling s.durable.phase) p.rolling)
  called_good (calls.Snapshot from to) p out new named =
      snapshot_if_good s req h (may_begin_so (calls.Snapshot from to) p out new refl refl) from to (edited (edits.Snapshot from to) (fin.entries s.durable.names.tree)) (two_visible (list_any is_hidden from) (list_any is_hidden to) p.hidden) named.0 named.1
  called_good (calls.List path) p out new named = looked_good true s req (listing (fin.entries s.durable.names.tree) path (fin.get s.durable.names.tree path)) h
  called_good (calls.Status path) p out new named = looked_good true s req (status s.durable (fin.get s.durable.names.tree path)) h
  called_good (calls.FindForReading path index) p out new named = looked_good true s req (location s.durable (found_chunk (fin.get s.durable.names.tree path) index)) h
  called_good (calls.FindForWriting path index stamp) p out new named =
      found_good s req h (may_begin_so (calls.FindForWriting path index stamp) p out new refl refl) path index stamp moment named (one_visible (list_any is_hidden path) p.hidden) (found_chunk (fin.get s.durable.names.tree path) index) refl
  called_good (calls.Extend path index) p out new named =
      extends_good s req h (may_begin_so (calls.Extend path index) p out new refl refl) config path index named (one_visible (list_any is_hidden path) p.hidden) (fin.get s.durable.names.tree path)
  called_good calls.Scan p out new named = scans_good s req moment h (left_false (is_rolling s.durable.phase) p.rolling)
  called_good calls.Replicate p out new named = most_good s req h (may_begin_so calls.Replicate p out new refl refl) config (most_needed_of config.replicas (needs_of s)) refl
  called_good calls.Query p out new named = answered_good true s req (answers.Phase (told_phase s.volatile.is_preparing s.durable.phase) s.durable.epoch) h
  called_good calls.PrepareBegin p out new named = prepare_good s req h (left_false (is_rolling s.durable.phase) p.rolling)
  called_good calls.PrepareCommit p out new named = commit_good config s req moment h
  called_good calls.PrepareAbort p out new named = abort_good s req h
  called_good calls.Finalize p out new named = finalize_good config s req h
  called_good calls.RollbackBegin p out new named = begin_good config s req h
  called_good calls.RollbackCommit p out new named = rolled_good s req h

  unless_called : (call : Call) (refusal : Option Refusal) → refused_before s req call ≡ refusal → is_pending s.volatile.pending req ≡ false → was_answered s.durable s.volatile req ≡ false → IsNamedCall call → Good true s (called_unless config s req moment call refusal)
  unless_called call None e out new named = called_good call (passes s req call e) out new named
  unless_called call (Some refusal) e out new named = refused_good true s req refusal h

  taken_good : (call : Call) (how : Numbered) → numbered (last_reply s req.client) req.number ≡ how → is_pending s.volatile.pending req ≡ false → IsNamedCall call → Good true s (taken_as config s req moment call how)
  taken_good call New e out named = unless_called call (refused_before s req call) refl out (ap not (new_later (last_reply s req.client) req.number e)) named
  taken_good call (Again result) e out named = same_good true s (replied_again s req result) refl refl h
  taken_good call Older e out named = same_good true s (replied_again s req (Err refusals.Old)) refl refl h

  call_good : (call : Call) → IsNamedCall call → Good true s (call_turn config s req moment call)
  call_good call named =
      let again = replied_again s req (Err refusals.Device) in
      let taken = taken_as config s req moment call (numbered (last_reply s req.client) req.number) in
      let device = same_good true s again refl refl h in
      test_good true s (is_unopened s.fault) again (if is_pending s.volatile.pending req then waits_still s req else taken) (λ _. device)
      (λ _. test_good true s (is_pending s.volatile.pending req) (waits_still s req) taken
      (λ _. test_good true s (is_failed s.fault) again (unmoved s) (λ _. device) (λ _. same_good true s (unmoved s) refl refl h))
      (λ out. taken_good call (numbered (last_reply s req.client) req.number) refl out named))

-- ---- messages of servers

-- a chunk that is lost at a member is settled, and the master knows it
lost_known : (s : State) (server chunk : ℕ) → is_lost_at server (chunk_at s chunk) ≡ true → (is_settled s.durable chunk && has_entry s chunk) ≡ true
unfolding chunk_at
lost_known s server chunk h = by_entry (has_entry s chunk) refl (fin.get s.durable.chunks chunk) refl
  where
    by_entry : (b : Bool) → has_entry s chunk ≡ b → (o : Option Settled) → fin.get s.durable.chunks chunk ≡ o → (is_settled s.durable chunk && has_entry s chunk) ≡ true
    by_entry true entry (Some settled) is = both_true (is_settled s.durable chunk) (has_entry s chunk) (ap is_some is) entry
    by_entry true entry None is = absurd (false≢true (rw (entry, is) at h))
    by_entry false entry o is = absurd (false≢true (rw entry at h))

not_rolling : (b : Bool) → not b ≡ true → b ≡ false
not_rolling true h = absurd (false≢true h)
not_rolling false h = refl

module _ (s : State) (h : Holds true s) where
  still_good : Good true s (unmoved s)
  still_good = same_good true s (unmoved s) refl refl h

  sent_good : (messages : List Message) → Good true s (sends s messages)
  sent_good messages = same_good true s (sends s messages) refl refl h

  quiet_good : (many : List ℕ) → is_rolling s.durable.phase ≡ false → list_all (λ c. is_settled s.durable c && has_entry s c) many ≡ true → Good true s (made_quiet many s)
  quiet_good many rolling known =
      let all = all_begun s many purposes.Quiet None in
      test_good true s (has_versions s.durable (length many)) (if_room s all (unmoved s)) (unmoved s)
      (λ left. test_good true s (fits s.log all.records) all (unmoved s)
      (λ _. all_begun_good true many purposes.Quiet None s h (record { rolling = rolling; left = left; known = known; quiet = refl; owned = inr refl; for = λ c. for_none s.durable s.volatile c purposes.Quiet })) (λ _. still_good)) (λ _. still_good)

  damaged_good : (server chunk : ℕ) → Good true s (damaged s server chunk)
  damaged_good server chunk =
      test_good true s (may_begin s.durable.phase && is_lost_at server (chunk_at s chunk)) (made_quiet (chunk ∷ []) s) (unmoved s)
      (λ k. let parts = and_parts (may_begin s.durable.phase) (is_lost_at server (chunk_at s chunk)) k in
      quiet_good (chunk ∷ []) (not_rolling (is_rolling s.durable.phase) parts.0) (both_true (is_settled s.durable chunk && has_entry s chunk) true (lost_known s server chunk parts.1) refl))
      (λ _. still_good)

  renewed_good : (server chunk : ℕ) (stamp : Stamp) (moment : Moment) → Good true s (renewed s server chunk stamp moment)
  renewed_good server chunk stamp moment = test_good true s (is_leased_under stamp (chunk_at s chunk) && not s.volatile.is_preparing) _ (unmoved s) (λ _. same_good true s _ refl refl h) (λ _. still_good)

  about_good : (server chunk : ℕ) (moment : Moment) (said : About) → IsNamedAbout said → Good true s (about_turn s server chunk moment said)
  about_good server chunk moment (abouts.Promised stamp count carried) low = promised_good s h server chunk stamp count carried moment low
  about_good server chunk moment (abouts.Unpromised stamp refusal) low = unpromised_good s h server chunk stamp moment
  about_good server chunk moment (abouts.Renew stamp) low = renewed_good server chunk stamp moment
  about_good server chunk moment (abouts.Bad stamp) low = damaged_good server chunk
  about_good server chunk moment said low = same_good true s (met_by s refusals.Stray) refl refl h

  learned_good : (server epoch : ℕ) (handles : List ℕ) → Good true s (learned s server epoch handles)
  learned_good server epoch handles =
      let told = sends s (next_epoch s.durable server epoch) in
      let plan : Plan = record { records = []; changes = changes.Restored server handles ∷ []; sent = []; said = None } in
      test_good true s (nat_lt epoch s.durable.epoch) told (if is_rolling s.durable.phase && (epoch == s.durable.epoch) then turned s plan else unmoved s) (λ _. sent_good (next_epoch s.durable server epoch))
      (λ _. test_good true s (is_rolling s.durable.phase && (epoch == s.durable.epoch)) (turned s plan) (unmoved s)
      (λ _. none_good true s plan (restored s.durable s.volatile h.stands server handles) (λ c r. h.rolling c r)) (λ _. still_good))

  reported_good : (server epoch : ℕ) (replicas : List Reported) → Good true s (reported s server epoch replicas)
  reported_good server epoch replicas =
      let told = sends s (next_epoch s.durable server epoch) in
      let dropped = sends s (drops s server replicas) in
      let quiet = made_quiet (lost s server replicas) in
      test_good true s (nat_lt epoch s.durable.epoch) told (if may_begin s.durable.phase && (epoch == s.durable.epoch) then reported_now s server replicas else unmoved s) (λ _. sent_good (next_epoch s.durable server epoch))
      (λ _. test_good true s (may_begin s.durable.phase && (epoch == s.durable.epoch)) (reported_now s server replicas) (unmoved s)
      (λ k. then_good true s dropped quiet (sent_good (drops s server replicas))
      (quiet_good (lost s server replicas) (not_rolling (is_rolling s.durable.phase) (and_parts (may_begin s.durable.phase) (epoch == s.durable.epoch) k).0)
      (filter_holds (λ c. is_settled s.durable c && has_entry s c) (λ chunk. is_lost_at server (chunk_at s chunk) && not (is_told_sound replicas chunk)) (fin.keys s.durable.chunks)
      (λ chunk both. lost_known s server chunk (and_parts (is_lost_at server (chunk_at s chunk)) (not (is_told_sound replicas chunk)) both).0))))
      (λ _. still_good))

  behind_good : (server epoch : ℕ) → Good true s (behind s server epoch)
  behind_good server epoch = test_good true s (nat_lt epoch s.durable.epoch) (sends s (next_epoch s.durable server epoch)) (unmoved s) (λ _. sent_good (next_epoch s.durable server epoch)) (λ _. still_good)

  server_good : (server : ℕ) (moment : Moment) (said : Body) → IsNamedBody said → Good true s (server_turn s server moment said)
  server_good server moment (bodies.About chunk said) named = about_good server chunk moment said named
  server_good server moment (bodies.Report epoch replicas) named = reported_good server epoch replicas
  server_good server moment (bodies.Learned epoch handles) named = learned_good server epoch handles
  server_good server moment (bodies.Behind epoch) named = behind_good server epoch
  server_good server moment said named = same_good true s (met_by s refusals.Stray) refl refl h

  unless_failed_good : (t : Turn) → Good true s t → Good true s (unless_failed s t)
  unless_failed_good t g = test_good true s (is_failed s.fault) (met_by s refusals.Device) t (λ _. same_good true s (met_by s refusals.Device) refl refl h) (λ _. g)

  client_good : (config : Config) (moment : Moment) (said : Body) → IsNamedBody said → IsNumber moment.0 → Good true s (from_client config s moment said)
  client_good config moment (bodies.Call req call) named low = call_good config s req moment h low call named
  client_good config moment said named low = same_good true s (met_by s refusals.Stray) refl refl h

  node_good : (config : Config) (moment : Moment) (said : Body) (from : NodeId) → IsNamedBody said → IsNumber moment.0 → Good true s (from_node config s moment said from)
  node_good config moment said nodes.Master named low = same_good true s (met_by s refusals.Stray) refl refl h
  node_good config moment said (nodes.Server server) named low = unless_failed_good (server_turn s server moment said) (server_good server moment said named)
  node_good config moment said (nodes.Client client) named low = client_good config moment said named low

  message_good : (config : Config) (message : Message) (moment : Moment) → IsNamedBody message.body → IsNumber moment.0 → Good true s (handle config s message moment)
  unfolding handle
  message_good config message moment named low = node_good config moment message.body message.from named low

-- ---- a tick

each_good : {A : Type 0} (xs : List A) (step : A → State → Turn) → ((x : A) (s : State) → Holds true s → Good true s (step x s)) → (s : State) → Holds true s → Good true s (for_each s xs step)
each_good [] step f s h = same_good true s (unmoved s) refl refl h
each_good (x ∷ xs) step f s h = let one = f x s h in then_good true s (step x s) (λ next. for_each next xs step) one (each_good xs step f (step x s).after one.holds)

-- its steps, whether a checkpoint is written behind them or not
steps_good : (s : State) (moment : Moment) → Holds true s → Good true s (and_then (for_each s (proposals s) (pressed moment)) granted)
steps_good s moment h =
    let all = for_each s (proposals s) (pressed moment) in
    let first = each_good (proposals s) (pressed moment) (λ proposal next k. pressed_good next k moment proposal) s h in
    then_good true s all granted first (same_good true all.after (granted all.after) refl refl first.holds)

tick_good : (s : State) (moment : Moment) → Holds true s → Good true s (tick s moment)
unfolding tick
tick_good s moment h =
    let all = for_each s (proposals s) (pressed moment) in
    let second = steps_good s moment h in
    unless_failed_good s h (and_then (and_then all granted) written_if_due)
    (then_good true s (and_then all granted) written_if_due second (due_good (and_then all granted).after second.holds))

-- ---- every event, and every run

holds_of : (s : State) → IsFirm s → Holds true s
holds_of s f = record { stands = f.stands; rolling = λ c r. f.rolling r }

firm_of : (s : State) (t : Turn) → Good true s t → FitsAndStands s t
firm_of s t g = record { fits = g.fits; firm = record { stands = g.holds.stands; rolling = λ r. g.holds.rolling refl r } }

event_good : (config : Config) (event : Event) (s : State) → IsNamed event → Holds true s → Good true s (turn_of config s event)
event_good config (Comes message moment) s named h = message_good s h config message moment named.0 named.1
event_good config (Ticks moment) s named h = tick_good s moment h
event_good config Renews s named h = checkpoint_good s h
event_good config Restarts s named h = let f = opens_firm s.durable s.log h.stands.kept h.stands.counters in record { numbers = λ n. n; fits = refl; holds = record { stands = f.stands; rolling = λ c r. f.rolling r } }

pub steps_fit : (s : State) (moment : Moment) → IsFirm s → AllFit s (and_then (for_each s (proposals s) (pressed moment)) granted)
steps_fit s moment firm = (steps_good s moment (holds_of s firm)).fits

pub events_fit : EventsFit
events_fit config s event named firm = firm_of s (turn_of config s event) (event_good config event s named (holds_of s firm))

run_good : (config : Config) (events : List Event) (s : State) → AllByRecursion IsNamed events → Holds true s → Good true s (run_of config s events)
run_good config [] s named h = same_good true s (unmoved s) refl refl h
run_good config (event ∷ events) s named h =
    let one = event_good config event s named.0 h in then_good true s (turn_of config s event) (λ next. run_of config next events) one (run_good config events (turn_of config s event).after named.1 one.holds)

pub runs_fit : RunsFit
runs_fit config log events named = firm_of (fresh log) (run_of config (fresh log) events) (run_good config events (fresh log) named (holds_of (fresh log) (starts_firm log)))

pub events_keep_numbers : EventsKeepNumbers
events_keep_numbers config s event named firm = (event_good config event s named (holds_of s firm)).numbers

pub runs_keep_numbers : RunsKeepNumbers
runs_keep_numbers config log events named = (run_good config events (fresh log) named (holds_of (fresh log) (starts_firm log))).numbers start_numbers

-- ---- what is firm may go on

all_visible : (ps : List Pending) → AllByRecursion CanWait ps → list_all (λ (p : Pending). list_all is_visible (paths_of p.waits)) ps ≡ true
all_visible [] all = refl
all_visible (p ∷ ps) all = both_true (list_all is_visible (paths_of p.waits)) (list_all (λ (q : Pending). list_all is_visible (paths_of q.waits)) ps) all.0.0 (all_visible ps all.1)

pub firm_goes_on : FirmGoesOn
firm_goes_on s f = record { visible = all_visible s.volatile.pending f.stands.calls; since = λ chunk asking has. (f.stands.asked chunk asking has).since }

-- ---- a restart

pub runs_recover : RunsRecover
unfolding recover
runs_recover config log now events named =
    let t = run_of config (fresh log) events in
    ap (recovered_from config Two (record now { records = records_behind t.records })) (runs_fit config log events named).fits
