-- A chunk that nobody may write stays such, where no lease is asked for it, and no rollback is committed.
use Rattle.std.proofs.Common.{◌≡◌, arith, ◌+◌, ◌∙◌, ◌==◌, ◌&&◌, inl, inr, ℕ, Bool, true, false, List, [], ◌∷◌, refl, ap, sym, subst}
use Rattle.std.specs.Prelude.{Option, Some, if◌then◌else◌}
use Rattle.std.specs.FinMap as fin
use Rattle.std.specs.List.{list_all}
use Rattle.std.proofs.lemmas.Bool.{false≢true, true≢false}
use Rattle.std.proofs.lemmas.Bool.Decides.{nat_tests}
use Rattle.gs_base.specs.declared.config.Config.{Config}
use Rattle.gs_base.specs.declared.epoch.EpochEnd.TheVariants as ends
use Rattle.gs_base.specs.declared.numbers.ReqId.{ReqId}
use Rattle.gs_lease.specs.Transitions.{is_for_lease}
use Rattle.gs_lease.specs.declared.view.Purpose.{Purpose}
use Rattle.gs_lease.specs.declared.view.Purpose.TheVariants as purposes
use Rattle.gs_lease.specs.declared.view.View.{View}
use Rattle.gs_msg.specs.declared.answer.Answer.TheVariants as answers
use Rattle.gs_master_record.specs.Plain.{AddChunk, Finalize, PlainEntry, Prepare, Settle, Snapshot}
use Rattle.gs_master_spec.specs.Beginning.{begin_at, copy_plan, create_plan, members_at, next_stamp}
use Rattle.gs_master_spec.specs.Calls.{accept_plan}
use Rattle.gs_master_spec.specs.Chunks.{asking_for, chunk_at, heard_no, heard_yes, holder_records, is_holder, target_of, with_answers}
use Rattle.gs_base.specs.Members.{is_member}
use Rattle.gs_view.specs.Spoken.{with_no, with_yes}
use Rattle.gs_master_spec.specs.Durable.{Settled, prepared_view}
use Rattle.gs_master_spec.specs.Handling.{without_place}
use Rattle.gs_master_spec.specs.Settling.{edit_plan, end_plan, own_request, replace_plan}
use Rattle.gs_master_spec.specs.State.{State, Plan, answer_changes, answered, keeps_refusal, said_changes, turned}
use Rattle.gs_master_spec.specs.Upgrades.{accepted_plan, chunk_count, tell_all}
use Rattle.gs_master_spec.specs.Volatile.{Volatile, all_changed}
use Rattle.gs_master_spec.specs.Working.{begin_pending, scan_edits, scan_plan}
use Rattle.gs_master_spec.specs.declared.asking.Asking.{Asking}
use Rattle.gs_master_spec.specs.declared.change.Change.TheVariants as changes
use Rattle.gs_master_spec.specs.declared.pending.Waiting.TheVariants as waits
use Rattle.gs_laws_master.specs.Promises.{AllFit}
use Rattle.gs_laws_master.proofs.lemmas.standing.Standing.{changed_more}
use Rattle.gs_laws_moves.proofs.lemmas.moves.Asked.{accepted_moving, answer_moving, asking_is, beside_moving, ended_asked, got, said_moving, said_usual, scan_usual, settle_view, tidied_view}
use Rattle.gs_laws_moves.proofs.lemmas.moves.Fitting.{split}
use Rattle.gs_laws_moves.proofs.lemmas.moves.Leaving.{AskedFrom, ViewFrom, all_removed, change_asked, leaves_view, records_view, same_asked, same_view}
use Rattle.gs_laws_moves.proofs.lemmas.moves.Right.{one_fits, settled_gives}
use Rattle.gs_laws_moves.proofs.lemmas.moves.Sharing.{view_term}
use Rattle.gs_laws_moves.specs.moves.Guards.{ComesOf, Heard, IsMade, settled_chunk}
use Rattle.gs_laws_moves.specs.moves.Moved.{is_commit}
use Rattle.gs_laws_moves.specs.moves.Moves.{Alone, Beside, FromNow, Further, Move, Begins, Makes, Copies, Hears, Sends, Settles, Edits, Extends, CopiesTree, Replaces, Scans, Refuses, Answers as AnswersCall, Waits, Restores, Says, Flags, Prepares, Finalizes, BeginsRollback, TellsRollback, CommitsRollback, Checkpoints, move_turn, plan_of_refusal, plan_of_restore, plan_of_rollback, with_beside}
use Rattle.gs_laws_moves.specs.moves.Shared.{IsUnleased}

same_number : (a b : ℕ) → (a == b) ≡ true → a ≡ b
same_number a b h = grind (arith, nat_tests)

settled_is : {a b : Settled} → ◌≡◌ {A = Option Settled} (Some a) (Some b) → a ≡ b
settled_is k = cc

-- a lease is asked for this chunk
abbrev pub asks_lease : ℕ → Move → Bool
asks_lease chunk (Begins q purpose call beside) = (q == chunk) && is_for_lease purpose
asks_lease chunk move = false

yes_purpose : (old : Asking) (server count : ℕ) → (heard_yes old server count).purpose ≡ old.purpose
yes_purpose old server count = by_test (is_member old.asked server)
  where
    by_test : (b : Bool) → (if b then with_answers old (with_yes old.answers server count) else old).purpose ≡ old.purpose
    by_test true = refl
    by_test false = refl

no_purpose : (old : Asking) (server : ℕ) → (heard_no old server).purpose ≡ old.purpose
no_purpose old server = by_test (is_member old.asked server)
  where
    by_test : (b : Bool) → (if b then with_answers old (with_no old.answers server) else old).purpose ≡ old.purpose
    by_test true = refl
    by_test false = refl

heard_purpose : (heard : Heard) (q : ℕ) (old new : Asking) → ComesOf heard q old new → new.purpose ≡ old.purpose
heard_purpose heard q old new (inl one) = ap (λ (z : Asking). z.purpose) one.4 ∙ yes_purpose old one.0 one.1
heard_purpose heard q old new (inr one) = ap (λ (z : Asking). z.purpose) one.2 ∙ no_purpose old one.0

beside_all : (f : PlainEntry → Bool) (plan : Plan) (beside : Beside) → list_all f plan.records ≡ true → list_all f (with_beside beside plan).records ≡ true
beside_all f plan Alone all = all
beside_all f plan (FromNow req waiting) all = all
beside_all f plan (Further req waiting) all = all

module _ (chunk : ℕ) where
  carried : (s u : State) → ViewFrom chunk s.durable u.durable → AskedFrom chunk s.volatile.moving u.volatile.moving → IsUnleased s chunk → IsUnleased u chunk
  carried s u view asked k = record {
    term = record { term = λ x has. (let p = view x has in ap (λ (v : View). v.term) (sym p.2) ∙ k.term.term p.0 p.1) };
    asked = λ b has. (let p = asked b has in ap (λ (a : Asking). is_for_lease a.purpose) p.2 ∙ k.asked p.0 p.1);
  }

  -- this is asked for a chunk now
  asks_so : (s u : State) (q : ℕ) (asking : Asking) → ViewFrom chunk s.durable u.durable → u.volatile.moving ≡ fin.insert s.volatile.moving q asking → (q ≡ chunk → is_for_lease asking.purpose ≡ false) → IsUnleased s chunk → IsUnleased u chunk
  asks_so s u q asking view moving here k = record {
    term = record { term = λ x has. (let p = view x has in ap (λ (v : View). v.term) (sym p.2) ∙ k.term.term p.0 p.1) };
    asked = λ b has. by_key (q == chunk) refl b has;
  }
    where
      by_key : (t : Bool) → (q == chunk) ≡ t → (b : Asking) → fin.get u.volatile.moving chunk ≡ Some b → is_for_lease b.purpose ≡ false
      by_key true same b has =
          let is = same_number q chunk same in
          ap (λ (a : Asking). is_for_lease a.purpose) (sym (asking_is (sym (got s.volatile.moving chunk asking) ∙ ap (λ c. fin.get (fin.insert s.volatile.moving c asking) chunk) (sym is) ∙ ap (λ m. fin.get m chunk) (sym moving) ∙ has))) ∙ here is
      by_key false other b has =
          let p = change_asked chunk s.volatile (changes.Ask q asking) other b (ap (λ m. fin.get m chunk) (sym moving) ∙ has) in ap (λ (a : Asking). is_for_lease a.purpose) p.2 ∙ k.asked p.0 p.1

  module _ (config : Config) (heard : Heard) (s : State) (k : IsUnleased s chunk) where
    plan_so : (plan : Plan) → list_all (leaves_view chunk) plan.records ≡ true → AskedFrom chunk s.volatile.moving (all_changed s.volatile plan.changes).moving → AllFit s (turned s plan) → IsUnleased (turned s plan).after chunk
    plan_so plan usual asked fit = carried s (turned s plan).after (records_view chunk plan.records s.durable (turned s plan).after.durable usual fit) asked k

    plain_so : (plan : Plan) → list_all (leaves_view chunk) plan.records ≡ true → (all_changed s.volatile plan.changes).moving ≡ s.volatile.moving → AllFit s (turned s plan) → IsUnleased (turned s plan).after chunk
    plain_so plan usual moving fit = plan_so plan usual (subst (AskedFrom chunk s.volatile.moving) (sym moving) (same_asked chunk s.volatile.moving)) fit

    begins_so : (q : ℕ) (purpose : Purpose) (call : Option ReqId) (beside : Beside) → IsMade config heard s (Begins q purpose call beside) → ((q == chunk) && is_for_lease purpose) ≡ false → IsUnleased (move_turn config s (Begins q purpose call beside)).after chunk
    begins_so q purpose call beside made other =
        let plan = begin_at s q purpose call in
        let u = (move_turn config s (Begins q purpose call beside)).after in
        asks_so s u q (asking_for (next_stamp s.durable) purpose (members_at (chunk_at s q)) call) (records_view chunk (with_beside beside plan).records s.durable u.durable (beside_all (leaves_view chunk) plan beside refl) made.fits)
        (beside_moving s plan beside) (λ same. by_test (q == chunk) (is_it q chunk same) other) k
      where
        is_it : (m n : ℕ) → m ≡ n → (m == n) ≡ true
        is_it m n h = grind (arith, nat_tests)

        by_test : (b : Bool) → b ≡ true → (b && is_for_lease purpose) ≡ false → is_for_lease purpose ≡ false
        by_test true is h = h
        by_test false is h = absurd (false≢true is)

    new_so : (plan : Plan) (beside : Beside) (asked : List ℕ) (req : ReqId) → list_all (leaves_view chunk) plan.records ≡ true
        → (all_changed s.volatile plan.changes).moving ≡ fin.insert s.volatile.moving s.durable.next_handle (asking_for (next_stamp s.durable) purposes.Quiet asked (Some req)) → AllFit s (turned s (with_beside beside plan)) → IsUnleased (turned s (with_beside beside plan)).after chunk
    new_so plan beside asked req usual moving fit =
        let v = (turned s (with_beside beside plan)).after in
        asks_so s v s.durable.next_handle (asking_for (next_stamp s.durable) purposes.Quiet asked (Some req)) (records_view chunk (with_beside beside plan).records s.durable v.durable (beside_all (leaves_view chunk) plan beside usual) fit)
        (beside_moving s plan beside ∙ moving) (λ same. refl) k

    settles_so : (q : ℕ) (asking : Asking) (carries : Bool) (view : View) → IsMade config heard s (Settles q asking carries view) → IsUnleased (move_turn config s (Settles q asking carries view)).after chunk
    settles_so q asking carries view made = by_key (q == chunk) refl
      where
        u : State
        u = (move_turn config s (Settles q asking carries view)).after

        asked : AskedFrom chunk s.volatile.moving u.volatile.moving
        asked = change_asked chunk s.volatile (changes.Settled q) refl

        holds : List PlainEntry
        holds = holder_records (is_holder s.durable.phase (prepared_view s.durable q) carries asking view) q (target_of asking.purpose)

        has : fin.get u.durable.chunks q ≡ Some (record { view = view; is_moving = false })
        has =
            let parts = split holds (Settle (record { handle = q; view = view }) ∷ []) s.durable u.durable made.fits in
            settled_gives parts.mid u.durable q view (one_fits parts.mid u.durable (Settle (record { handle = q; view = view })) parts.then)

        by_key : (b : Bool) → (q == chunk) ≡ b → IsUnleased u chunk
        by_key true same =
            let is = same_number q chunk same in
            let none = view_term (settled_chunk s q) asking made.may.by made.may.moment view made.may.view_is (k.asked asking (ap (fin.get s.volatile.moving) (sym is) ∙ made.may.has)) in
            record {
              term = record { term = λ x got_it. ap (λ (z : Settled). z.view.term) (settled_is (sym got_it ∙ ap (fin.get u.durable.chunks) (sym is) ∙ has)) ∙ none };
              asked = λ b got_it. (let p = asked b got_it in ap (λ (a : Asking). is_for_lease a.purpose) p.2 ∙ k.asked p.0 p.1);
            }
        by_key false other = carried s u (settle_view chunk s q asking carries view other made.fits) asked k

    pub move_unled : (move : Move) → IsMade config heard s move → asks_lease chunk move ≡ false → is_commit move ≡ false → IsUnleased (move_turn config s move).after chunk
    move_unled (CommitsRollback req names) made other within = absurd (true≢false within)
    move_unled (Begins q purpose call beside) made other within = begins_so q purpose call beside made other
    move_unled (Makes targets req path) made other within = new_so (create_plan (next_stamp s.durable) s.durable.next_handle targets req) (FromNow req (waits.Extend path s.durable.next_handle)) targets req refl refl made.fits
    move_unled (Copies old view req beside) made other within = new_so (copy_plan (next_stamp s.durable) old view s.durable.next_handle req) beside view.members req refl refl made.fits
    move_unled (Hears q new) made other within =
        let u = (move_turn config s (Hears q new)).after in
        asks_so s u q new (same_view chunk s.durable u.durable refl) refl (λ same. ap is_for_lease (heard_purpose heard q made.may.old new made.may.comes) ∙ k.asked made.may.old (ap (fin.get s.volatile.moving) (sym same) ∙ made.may.has)) k
    move_unled (Sends q asking source target) made other within =
        let u = (move_turn config s (Sends q asking source target)).after in
        asks_so s u q (record asking { source = Some source }) (same_view chunk s.durable u.durable refl) refl (λ same. k.asked asking (ap (fin.get s.volatile.moving) (sym same) ∙ made.may.has)) k
    move_unled (Settles q asking carries view) made other within = settles_so q asking carries view made
    move_unled (Edits req edit answer) made other within = plain_so (accept_plan req edit answer) refl refl made.fits
    move_unled (Extends req path q view) made other within = plain_so (edit_plan req (AddChunk path q) (answers.Location q view s.durable.epoch) (changes.Place q ∷ [])) refl refl made.fits
    move_unled (CopiesTree req from to) made other within = plain_so (edit_plan req (Snapshot from to) answers.Nothing []) refl refl made.fits
    move_unled (Replaces path index old new) made other within = plain_so (replace_plan path index old new) refl refl made.fits
    move_unled (Scans removed forgotten) made other within = plan_so (scan_plan removed forgotten) (scan_usual chunk own_request (scan_edits removed forgotten)) (change_asked chunk s.volatile (changes.Forget forgotten) refl) made.fits
    move_unled (Refuses req refusal true) made other within = plan_so (plan_of_refusal s req refusal true) (said_usual chunk s req refusal) (ended_asked chunk s req refusal).0 made.fits
    move_unled (Refuses req refusal false) made other within =
        let more = changed_more (said_changes (keeps_refusal s req refusal) s.log req refusal) [] s.volatile in
        plain_so (plan_of_refusal s req refusal false) (said_usual chunk s req refusal) (ap (λ (v : Volatile). v.moving) more ∙ (said_moving s req refusal).0) made.fits
    move_unled (AnswersCall req answer true) made other within =
        let more = changed_more (answer_changes s req answer) (changes.End req ∷ []) s.volatile in plain_so (end_plan s req answer) refl (ap (λ (v : Volatile). v.moving) more ∙ (answer_moving s s.volatile req answer).0) made.fits
    move_unled (AnswersCall req answer false) made other within = plain_so (answered s req answer) refl (answer_moving s s.volatile req answer).0 made.fits
    move_unled (Waits req waiting) made other within = plain_so (begin_pending req waiting) refl refl made.fits
    move_unled (Restores server chunks) made other within = plain_so (plan_of_restore server chunks) refl refl made.fits
    move_unled (Says messages) made other within = k
    move_unled (Flags req preparing epoch) made other within = plain_so (accepted_plan s req [] (changes.Prepare preparing ∷ []) [] epoch) refl (accepted_moving s (changes.Prepare preparing ∷ []) req (answers.Epoch epoch)).0 made.fits
    move_unled (Prepares req moment) made other within =
        plain_so (accepted_plan s req (Prepare (s.durable.epoch + 1) moment.0 (chunk_count s) ∷ []) (changes.Prepare false ∷ []) (tell_all config (s.durable.epoch + 1) ends.Prepare) (s.durable.epoch + 1)) refl
        (accepted_moving s (changes.Prepare false ∷ []) req (answers.Epoch (s.durable.epoch + 1))).0 made.fits
    move_unled (Finalizes req) made other within =
        plain_so (accepted_plan s req (Finalize (s.durable.epoch + 1) ∷ []) [] (tell_all config (s.durable.epoch + 1) ends.Finalize) (s.durable.epoch + 1)) refl (accepted_moving s [] req (answers.Epoch (s.durable.epoch + 1))).0 made.fits
    move_unled BeginsRollback made other within = plain_so (plan_of_rollback s) refl refl made.fits
    move_unled (TellsRollback req epoch) made other within = plain_so (accepted_plan s req [] [] (tell_all config epoch ends.Rollback) epoch) refl (accepted_moving s [] req (answers.Epoch epoch)).0 made.fits
    move_unled Checkpoints made other within = carried s (move_turn config s Checkpoints).after (tidied_view chunk s.durable) (λ b has. (b, all_removed chunk (without_place s) s.volatile.moving b has, refl)) k
