-- What each move sends is right in the state that it leaves.
use Rattle.std.proofs.Common.{◌≡◌, arith, inl, ◌∙◌, ◌==◌, ◌&&◌, ◌||◌, ◌+◌, ◌++◌, ℕ, Bool, true, false, not, cond, List, [], ◌∷◌, refl, ap, sym, subst}
use Rattle.std.specs.Prelude.{is_some, option_and_then, slice_get, Option, Some, None, Ok}
use Rattle.std.specs.Cmp.{nat_cmp_total, tied_itself}
use Rattle.std.specs.FinMap as fin
use Rattle.std.specs.List.{AllByRecursion}
use Rattle.std.specs.Ordering.{eq_by_cmp, is_eq, nat_cmp}
use Rattle.std.proofs.lemmas.Bool.{and_parts, false≢true}
use Rattle.std.proofs.lemmas.Bool.Decides.{nat_tests}
use Rattle.gs_base.specs.Members.{count_from, is_member}
use Rattle.gs_base.specs.MemberLaws.{eqb_itself}
use Rattle.gs_base.specs.declared.config.Config.{Config}
use Rattle.gs_base.specs.declared.epoch.EpochEnd.{EpochEnd}
use Rattle.gs_base.specs.declared.epoch.EpochEnd.TheVariants as ends
use Rattle.gs_base.specs.declared.numbers.ReqId.{ReqId}
use Rattle.gs_edit.specs.View.{NamesView}
use Rattle.gs_lease.specs.declared.view.Purpose.{Purpose}
use Rattle.gs_lease.specs.declared.view.Purpose.TheVariants as purposes
use Rattle.gs_lease.specs.declared.view.View.{View}
use Rattle.gs_msg.specs.declared.answer.Answer.{Answer}
use Rattle.gs_msg.specs.declared.answer.Answer.TheVariants as answers
use Rattle.gs_msg.specs.declared.body.Body.TheVariants as bodies
use Rattle.gs_msg.specs.declared.chunk.Chunk.TheVariants as abouts
use Rattle.gs_msg.specs.declared.message.Message.{Message}
use Rattle.gs_msg.specs.declared.node.NodeId.TheVariants as nodes
use Rattle.gs_path.specs.Path.{Path}
use Rattle.gs_master_record.specs.Plain.{PlainEntry, AddChunk, Edited, Prepare, Finalize, Propose, Settle}
use Rattle.gs_master_record.specs.declared.checkpoint.Phase.TheVariants.{Ordinary, Upgrade}
use Rattle.gs_master_record.specs.declared.entry.SettledView.{SettledView}
use Rattle.gs_master_spec.specs.Applied.{after_edit, applied, is_next_epoch, are_at_rest, may_be_settled, may_edit, may_propose, proposed, replayed, view_in, with_edit, with_epoch, with_proposal, with_view, without_prepared}
use Rattle.gs_master_spec.specs.Beginning.{members_at, next_stamp}
use Rattle.gs_master_spec.specs.Chunks.{has_entry, asking_for, chunk_at, holder_records, is_holder, target_of}
use Rattle.gs_master_spec.specs.Durable.{Durable, Settled, is_given, is_listed, is_ordinary, is_rolling, is_upgrade, prepared_view}
use Rattle.gs_master_spec.specs.State.{State, Turn, turned, about, post, to_each}
use Rattle.gs_master_spec.specs.Undoing.{edited_names}
use Rattle.gs_master_spec.specs.declared.asking.Asking.{Asking}
use Rattle.gs_laws_master.specs.Promises.{AllFit}
use Rattle.gs_laws_master.proofs.lemmas.upgrades.Beginnings.{fits_gives}
use Rattle.gs_laws_master.proofs.lemmas.keeping.KeptEdits.{add_lists}
use Rattle.gs_laws_master.proofs.lemmas.keeping.KeptViews.{same_key}
use Rattle.gs_laws_moves.proofs.lemmas.moves.Chains.{plain_right}
use Rattle.gs_laws_moves.proofs.lemmas.moves.Entries.{settling_known}
use Rattle.gs_laws_moves.proofs.lemmas.moves.Events.{all_told, both_right, grant_right}
use Rattle.gs_laws_moves.proofs.lemmas.moves.Fitting.{split}
use Rattle.gs_laws_moves.proofs.lemmas.moves.Upgrades.{at_end}
use Rattle.gs_laws_moves.specs.moves.Guards.{AreEnded, AreRight, Heard, HasEnded, IsAskedOf, IsEdit, IsLocatedBy, IsRight, IsRightAnswer, IsSettledOn, MayCopy, MaySend, May}
use Rattle.gs_laws_moves.specs.moves.Moves.{Alone, Beside, FromNow, Further, Move, Begins, Makes, Copies, Hears, Sends, Settles, Edits, Extends, CopiesTree, Replaces, Scans, Refuses, Answers as AnswersCall, Waits, Restores, Says, Flags, Prepares, Finalizes, BeginsRollback, TellsRollback, CommitsRollback, Checkpoints, move_turn, plan_of_begin, plan_of_copy}

-- ---- maps

got : (m : fin.FinMap nat_cmp Asking) (chunk : ℕ) (asking : Asking) → fin.get (fin.insert m chunk asking) chunk ≡ Some asking
got m chunk asking = fin.get-insert nat_cmp_total m chunk asking chunk ∙ ap (λ o. cond (is_eq o) (Some asking) (fin.get m chunk)) (tied_itself nat_cmp_total chunk)

-- ---- what is asked of each of some servers

or_second : (a b : Bool) → b ≡ true → (a || b) ≡ true
or_second true b e = refl
or_second false b e = e

each_within : (P : Message → Type 0) (message : ℕ → Message) (all servers : List ℕ) → ((server : ℕ) → is_member all server ≡ true → P (message server)) → ((server : ℕ) → is_member servers server ≡ true → is_member all server ≡ true) → AllByRecursion P (to_each servers message)
each_within P message all [] f within = tt
each_within P message all (server ∷ servers) f within =
    (f server (within server (ap (λ b. b || is_member servers server) (eqb_itself server))), each_within P message all servers f (λ other here. within other (or_second (server == other) (is_member servers other) here)))

pub each_of : (P : Message → Type 0) (message : ℕ → Message) (servers : List ℕ) → ((server : ℕ) → is_member servers server ≡ true → P (message server)) → AllByRecursion P (to_each servers message)
each_of P message servers f = each_within P message servers servers f (λ server here. here)

-- ---- what the last record makes

durable_is : {a b : Durable} → ◌≡◌ {A = Option Durable} (Some a) (Some b) → a ≡ b
durable_is k = cc

pub one_fits : (d e : Durable) (x : PlainEntry) → replayed d (x ∷ []) ≡ Some e → applied d x ≡ Some e
one_fits d e x fit = by_first (applied d x) refl fit
  where
    by_first : (o : Option Durable) → applied d x ≡ o → option_and_then (λ n. Some n) o ≡ Some e → applied d x ≡ Some e
    by_first None is h = absurd (false≢true (ap is_some h))
    by_first (Some n) is h = is ∙ h

pub settled_gives : (d e : Durable) (chunk : ℕ) (view : View) → applied d (Settle (record { handle = chunk; view = view })) ≡ Some e → fin.get e.chunks chunk ≡ Some (record { view = view; is_moving = false })
unfolding applied
settled_gives d e chunk view fit =
    let v : SettledView = record { handle = chunk; view = view } in
    let gives = fits_gives (may_be_settled d v) (with_view d v) e fit in
    ap (λ (x : Durable). fin.get x.chunks chunk) (sym gives.1)
    ∙ fin.get-insert nat_cmp_total d.chunks chunk (record { view = view; is_moving = false }) chunk ∙ ap (λ o. cond (is_eq o) (Some (record { view = view; is_moving = false })) (fin.get d.chunks chunk)) (tied_itself nat_cmp_total chunk)

-- a new chunk leaves another that was given
proposed_leaves : (d e : Durable) (old : ℕ) (version : ℕ) (settled : Settled) → is_given d.next_handle old ≡ true → fin.get d.chunks old ≡ Some settled → applied d (Propose d.next_handle version) ≡ Some e → fin.get e.chunks old ≡ Some settled
unfolding applied
proposed_leaves d e old version settled given has fit =
    let gives = fits_gives (may_propose d.phase d.next_handle d.next_version d.next_handle version (fin.get d.chunks d.next_handle)) (proposed d d.next_handle version) e fit in
    ap (λ (x : Durable). fin.get x.chunks old) (sym gives.1) ∙ by_new (fin.get d.chunks d.next_handle)
  where
    not_given : (n : ℕ) → is_given n n ≡ true → ⊥
    not_given n g = absurd (grind (arith, nat_tests))

    by_key : (x : Settled) (b : Bool) → eq_by_cmp nat_cmp old d.next_handle ≡ b → cond b (Some (record x { is_moving = true })) (fin.get d.chunks old) ≡ Some settled
    by_key x true is = absurd (not_given d.next_handle (subst (λ n. is_given d.next_handle n ≡ true) (same_key old d.next_handle is) given))
    by_key x false is = has

    by_new : (o : Option Settled) → fin.get (with_proposal d d.next_handle o) old ≡ Some settled
    by_new None = has
    by_new (Some x) = fin.get-insert nat_cmp_total d.chunks d.next_handle (record x { is_moving = true }) old ∙ by_key x (eq_by_cmp nat_cmp old d.next_handle) refl

other_unasked : (m : fin.FinMap nat_cmp Asking) (next old : ℕ) (a : Asking) → is_given next old ≡ true → fin.get m old ≡ None → fin.get (fin.insert m next a) old ≡ None
other_unasked m next old a given none = fin.get-insert nat_cmp_total m next a old ∙ by_key (eq_by_cmp nat_cmp old next) refl
  where
    not_given : (n : ℕ) → is_given n n ≡ true → ⊥
    not_given n g = absurd (grind (arith, nat_tests))

    by_key : (b : Bool) → eq_by_cmp nat_cmp old next ≡ b → cond b (Some a) (fin.get m old) ≡ None
    by_key true is = absurd (not_given next (subst (λ n. is_given next n ≡ true) (same_key old next is) given))
    by_key false is = none

-- an edit of the names that puts a chunk into a file leaves views and epochs; the file has it then, and nothing is rolled back
record IsAdded (d e : Durable) (chunk : ℕ) : Type 0 where
  chunks : e.chunks ≡ d.chunks
  epoch : e.epoch ≡ d.epoch
  listed : is_listed e chunk ≡ true
  calm : is_rolling e.phase ≡ false

unfoldable added_gives : (d e : Durable) (by : ReqId) (path : Path) (chunk : ℕ) (names : NamesView) → edited_names (AddChunk path chunk) d.names ≡ Ok names → applied d (Edited by (AddChunk path chunk)) ≡ Some e → IsAdded d e chunk
unfolding applied
added_gives d e by path chunk names is fit =
    let edit = AddChunk path chunk in
    let gives = fits_gives (may_edit d edit) (with_edit d by edit names) e (ap (after_edit d by edit) (sym is) ∙ fit) in
    record {
      chunks = ap (λ (x : Durable). x.chunks) (sym gives.1);
      epoch = ap (λ (x : Durable). x.epoch) (sym gives.1);
      listed = ap (λ (x : Durable). is_listed x chunk) (sym gives.1) ∙ add_lists path chunk d.names names is;
      calm = ap (λ (x : Durable). is_rolling x.phase) (sym gives.1) ∙ not_true (is_rolling d.phase) (and_parts (not (is_rolling d.phase)) _ gives.0).0;
    }
  where
    not_true : (b : Bool) → not b ≡ true → b ≡ false
    not_true true h = absurd (false≢true h)
    not_true false h = refl

prepared_ends : (d e : Durable) (moment chunks : ℕ) → applied d (Prepare (d.epoch + 1) moment chunks) ≡ Some e → e.ends ≡ d.ends ++ ends.Prepare ∷ []
unfolding applied
prepared_ends d e moment chunks fit =
    ap (λ (x : Durable). x.ends) (sym (fits_gives (is_ordinary d.phase && (is_next_epoch d.epoch (d.epoch + 1) && are_at_rest d)) (without_prepared (with_epoch d ends.Prepare Upgrade)) e fit).1)

finalized_ends : (d e : Durable) → applied d (Finalize (d.epoch + 1)) ≡ Some e → e.ends ≡ d.ends ++ ends.Finalize ∷ []
unfolding applied
finalized_ends d e fit =
    ap (λ (x : Durable). x.ends) (sym (fits_gives (is_upgrade d.phase && is_next_epoch d.epoch (d.epoch + 1)) (without_prepared (with_epoch d ends.Finalize Ordinary)) e fit).1)

has_ended : (s u : State) (end : EpochEnd) → AreEnded s → u.durable.ends ≡ s.durable.ends ++ end ∷ [] → HasEnded u (s.durable.epoch + 1) end
has_ended s u end counted is = record { before = s.durable.epoch; next = refl; ended = ap (λ past. slice_get past s.durable.epoch) is ∙ ap (slice_get (s.durable.ends ++ end ∷ [])) (sym counted) ∙ at_end s.durable.ends end }

module _ (config : Config) (heard : Heard) (s : State) where
  -- ---- what is begun

  asked_right : (after : State) (chunk : ℕ) (asking : Asking) → fin.get after.volatile.moving chunk ≡ Some asking → (server : ℕ) → is_member asking.asked server ≡ true → IsAskedOf after chunk asking.stamp (nodes.Server server)
  asked_right after chunk asking has server on = record { asking = asking; has = has; under = refl; on = on }

  begins_right : (chunk : ℕ) (purpose : Purpose) (call : Option ReqId) (beside : Beside) → AreRight heard (move_turn config s (Begins chunk purpose call beside)).after (move_turn config s (Begins chunk purpose call beside)).sent
  begins_right chunk purpose call beside = by_beside beside
    where
      members : List ℕ
      members = members_at (chunk_at s chunk)

      asking : Asking
      asking = asking_for (next_stamp s.durable) purpose members call

      right : (after : State) → fin.get after.volatile.moving chunk ≡ Some asking → AreRight heard after (to_each members (about chunk (abouts.Advance (next_stamp s.durable))))
      right after has = each_of (λ (m : Message). IsRight heard after m.to m.body) (about chunk (abouts.Advance (next_stamp s.durable))) members (λ server on. asked_right after chunk asking has server on)

      by_beside : (b : Beside) → AreRight heard (turned s (plan_of_begin s chunk purpose call b)).after (turned s (plan_of_begin s chunk purpose call b)).sent
      by_beside Alone = right (turned s (plan_of_begin s chunk purpose call Alone)).after (got s.volatile.moving chunk asking)
      by_beside (FromNow req waiting) = right (turned s (plan_of_begin s chunk purpose call (FromNow req waiting))).after (got s.volatile.moving chunk asking)
      by_beside (Further req waiting) = right (turned s (plan_of_begin s chunk purpose call (Further req waiting))).after (got s.volatile.moving chunk asking)

  makes_right : (targets : List ℕ) (req : ReqId) (path : Path) → AreRight heard (move_turn config s (Makes targets req path)).after (move_turn config s (Makes targets req path)).sent
  makes_right targets req path =
      let after = (move_turn config s (Makes targets req path)).after in
      let chunk = s.durable.next_handle in
      let asking = asking_for (next_stamp s.durable) purposes.Quiet targets (Some req) in
      each_of (λ (m : Message). IsRight heard after m.to m.body) (about chunk (abouts.Create (next_stamp s.durable))) targets (λ server on. asked_right after chunk asking (got s.volatile.moving chunk asking) server on)

  copies_right : (old : ℕ) (view : View) (req : ReqId) (beside : Beside) → MayCopy s old view → AllFit s (move_turn config s (Copies old view req beside)) → AreRight heard (move_turn config s (Copies old view req beside)).after (move_turn config s (Copies old view req beside)).sent
  copies_right old view req beside may fit = by_beside beside fit
    where
      new : ℕ
      new = s.durable.next_handle

      asking : Asking
      asking = asking_for (next_stamp s.durable) purposes.Quiet view.members (Some req)

      right : (after : State) → fin.get after.durable.chunks old ≡ Some (record { view = view; is_moving = false }) → fin.get after.volatile.moving old ≡ None → fin.get after.volatile.moving new ≡ Some asking
          → AreRight heard after (to_each view.members (λ server. post (nodes.Server server) (bodies.MakeCopy old view.stamp new (next_stamp s.durable))))
      right after has unasked asked =
          each_of (λ (m : Message). IsRight heard after m.to m.body) (λ server. post (nodes.Server server) (bodies.MakeCopy old view.stamp new (next_stamp s.durable))) view.members
          (λ server on. record { view = view; settled = record { has = has; unasked = unasked }; quiet = may.quiet; under = refl; on = on; asked = asked_right after new asking asked server on })

      all : (t : Turn) → t.records ≡ Propose new s.durable.next_version ∷ [] → t.after.volatile.moving ≡ fin.insert s.volatile.moving new asking → AllFit s t → AreRight heard t.after (to_each view.members (λ server. post (nodes.Server server) (bodies.MakeCopy old view.stamp new (next_stamp s.durable))))
      all t records moving fit =
          right t.after
          (proposed_leaves s.durable t.after.durable old s.durable.next_version (record { view = view; is_moving = false }) may.given may.settled.has (one_fits s.durable t.after.durable (Propose new s.durable.next_version) (ap (replayed s.durable) (sym records) ∙ fit)))
          (ap (λ m. fin.get m old) moving ∙ other_unasked s.volatile.moving new old asking may.given may.settled.unasked) (ap (λ m. fin.get m new) moving ∙ got s.volatile.moving new asking)

      by_beside : (b : Beside) → AllFit s (turned s (plan_of_copy s old view req b)) → AreRight heard (turned s (plan_of_copy s old view req b)).after (turned s (plan_of_copy s old view req b)).sent
      by_beside Alone fit = all (turned s (plan_of_copy s old view req Alone)) refl refl fit
      by_beside (FromNow waits_on waiting) fit = all (turned s (plan_of_copy s old view req (FromNow waits_on waiting))) refl refl fit
      by_beside (Further waits_on waiting) fit = all (turned s (plan_of_copy s old view req (Further waits_on waiting))) refl refl fit

  sends_right : (chunk : ℕ) (asking : Asking) (source target : ℕ) → MaySend s chunk asking source target → AreRight heard (move_turn config s (Sends chunk asking source target)).after (move_turn config s (Sends chunk asking source target)).sent
  sends_right chunk asking source target may =
      (record { asking = record asking { source = Some source }; source = source; has = got s.volatile.moving chunk (record asking { source = Some source }); under = refl; copies = may.copies; from = refl; chosen = may.chosen; is = refl; sealed = refl }, tt)

  settles_right : (chunk : ℕ) (asking : Asking) (carried : Bool) (view : View) → has_entry s chunk ≡ true → AllFit s (move_turn config s (Settles chunk asking carried view)) → AreRight heard (move_turn config s (Settles chunk asking carried view)).after (move_turn config s (Settles chunk asking carried view)).sent
  settles_right chunk asking carried view known fit =
      let after = (move_turn config s (Settles chunk asking carried view)).after in
      let holds = holder_records (is_holder s.durable.phase (prepared_view s.durable chunk) carried asking view) chunk (target_of asking.purpose) in
      let last = Settle (record { handle = chunk; view = view }) in
      let parts = split holds (last ∷ []) s.durable after.durable fit in
      let has = settled_gives parts.mid after.durable chunk view (one_fits parts.mid after.durable last parts.then) in
      let removed : fin.get (fin.remove s.volatile.moving chunk) chunk ≡ None = fin.get-remove nat_cmp_total s.volatile.moving chunk chunk ∙ ap (λ o. cond (is_eq o) None (fin.get s.volatile.moving chunk)) (tied_itself nat_cmp_total chunk) in
      grant_right after chunk heard view (settling_known s chunk asking carried view known) (record { has = has; unasked = removed }) view.term refl

  -- ---- calls

  pub added_right : (req : ReqId) (path : Path) (chunk : ℕ) (view : View) → IsEdit s (AddChunk path chunk) → IsSettledOn s chunk view → AllFit s (move_turn config s (Extends req path chunk view)) → IsLocatedBy (move_turn config s (Extends req path chunk view)).after chunk view s.durable.epoch
  added_right req path chunk view edit settled fit =
      let after = (move_turn config s (Extends req path chunk view)).after.durable in
      let added = added_gives s.durable after req path chunk edit.0 edit.1 (one_fits s.durable after (Edited req (AddChunk path chunk)) fit) in
      record { settled = ap (λ m. view_in (fin.get m chunk)) added.chunks ∙ ap view_in settled.has; now = sym added.epoch; listed = added.listed; calm = added.calm }

  extends_right : (req : ReqId) (path : Path) (chunk : ℕ) (view : View) → IsEdit s (AddChunk path chunk) → IsSettledOn s chunk view → AllFit s (move_turn config s (Extends req path chunk view)) → AreRight heard (move_turn config s (Extends req path chunk view)).after (move_turn config s (Extends req path chunk view)).sent
  extends_right req path chunk view edit settled fit = (inl (added_right req path chunk view edit settled fit), tt)

  answers_right : (req : ReqId) (answer : Answer) (over : Bool) → IsRightAnswer s answer → AreRight heard (move_turn config s (AnswersCall req answer over)).after (move_turn config s (AnswersCall req answer over)).sent
  answers_right req answer true right = (inl (by_answer answer right), tt)
    where
      after : State
      after = (move_turn config s (AnswersCall req answer true)).after

      by_answer : (a : Answer) → IsRightAnswer s a → IsRightAnswer after a
      by_answer (answers.Location chunk view epoch) is = record { settled = is.settled; now = is.now; listed = is.listed; calm = is.calm }
      by_answer a is = tt
  answers_right req answer false right = (inl (by_answer answer right), tt)
    where
      after : State
      after = (move_turn config s (AnswersCall req answer false)).after

      by_answer : (a : Answer) → IsRightAnswer s a → IsRightAnswer after a
      by_answer (answers.Location chunk view epoch) is = record { settled = is.settled; now = is.now; listed = is.listed; calm = is.calm }
      by_answer a is = tt

  -- ---- every move

  pub right_of : (move : Move) → May config heard s move → AllFit s (move_turn config s move) → AreRight heard (move_turn config s move).after (move_turn config s move).sent
  right_of (Begins chunk purpose call beside) may fit = begins_right chunk purpose call beside
  right_of (Makes targets req path) may fit = makes_right targets req path
  right_of (Copies old view req beside) may fit = copies_right old view req beside may.0 fit
  right_of (Hears chunk asking) may fit = tt
  right_of (Sends chunk asking source target) may fit = sends_right chunk asking source target may
  right_of (Settles chunk asking carried view) may fit = settles_right chunk asking carried view may.known fit
  right_of (Edits req edit answer) may fit = (inl (plain_right _ answer may.answers), tt)
  right_of (Extends req path chunk view) may fit = extends_right req path chunk view may.0 may.1 fit
  right_of (CopiesTree req from to) may fit = (inl tt, tt)
  right_of (Replaces path index old new) may fit = tt
  right_of (Scans removed forgotten) may fit = tt
  right_of (Refuses req refusal over) may fit = (inl tt, tt)
  right_of (AnswersCall req answer over) may fit = answers_right req answer over may.0
  right_of (Waits req waiting) may fit = tt
  right_of (Restores server chunks) may fit = tt
  right_of (Says messages) may fit = may.0
  right_of (Flags req preparing epoch) may fit = (inl tt, tt)
  right_of (Prepares req moment) may fit =
      let t = move_turn config s (Prepares req moment) in
      let ended = has_ended s t.after ends.Prepare may.ended (prepared_ends s.durable t.after.durable moment.0 _ (one_fits s.durable t.after.durable _ fit)) in
      both_right heard t.after _ _ (all_told heard t.after (s.durable.epoch + 1) ends.Prepare ended (count_from 0 config.servers)) (inl tt, tt)
  right_of (Finalizes req) may fit =
      let t = move_turn config s (Finalizes req) in
      let ended = has_ended s t.after ends.Finalize may.ended (finalized_ends s.durable t.after.durable (one_fits s.durable t.after.durable _ fit)) in
      both_right heard t.after _ _ (all_told heard t.after (s.durable.epoch + 1) ends.Finalize ended (count_from 0 config.servers)) (inl tt, tt)
  right_of BeginsRollback may fit = tt
  right_of (TellsRollback req epoch) may fit =
      let t = move_turn config s (TellsRollback req epoch) in
      both_right heard t.after _ _ (all_told heard t.after epoch ends.Rollback (record { before = may.before; next = may.next; ended = may.ended }) (count_from 0 config.servers)) (inl tt, tt)
  right_of (CommitsRollback req names) may fit = (inl tt, tt)
  right_of Checkpoints may fit = tt
