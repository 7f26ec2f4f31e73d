-- What the master does at a step, whatever disk of it fails.
use Rattle.std.proofs.Common.{◌≡◌, ◌∙◌, ◌<◌, ◌≤◌, ◌+◌, ◌++◌, ◌⊎◌, ◌&&◌, ◌||◌, not, ℕ, zero, suc, Bool, true, false, List, [], ◌∷◌, length, map, Option, Some, None, Result, Ok, Err, refl, sym, ap, subst, inl, inr, arith}
use Rattle.std.specs.Prelude.{if◌then◌else◌, option_and_then, take}
use Rattle.std.specs.List.{AllByRecursion}
use Rattle.std.proofs.lemmas.Bool.{false≢true}
use Rattle.std.proofs.lemmas.List.{length-append, map-append, take-append-le, take_all}
use Rattle.gs_base.specs.Told.{IsNumber}
use Rattle.gs_base.specs.declared.config.Config.{Config}
use Rattle.gs_base.specs.declared.numbers.Moment.{Moment}
use Rattle.gs_base.specs.declared.numbers.ReqId.{ReqId}
use Rattle.gs_base.specs.declared.refusal.Refusal.{Refusal}
use Rattle.gs_base.specs.declared.refusal.Refusal.TheVariants as refusals
use Rattle.gs_journal.specs.Journal.{checkpointed}
use Rattle.gs_journal.specs.Records.{Text, standing}
use Rattle.gs_journal.specs.declared.version.Version.TheVariants as versions
use Rattle.gs_journal.specs.declared.version.Version.TheVariants.{Two}
use Rattle.gs_master.proofs.Composing.{all_front, all_joined, replayed_both}
use Rattle.gs_master.proofs.Idle.{nothing_recorded}
use Rattle.gs_master.proofs.Renewed.{failed_tick, written_tick}
use Rattle.gs_master.proofs.Turning.{front_fits, replayed_behind}
use Rattle.gs_master.specs.Finishing.{and_checkpoint}
use Rattle.gs_master.specs.Journaled.{text_seen}
use Rattle.gs_master.specs.Masters.{IsAnsweredUnsure, LeavesText, MasterAnswers, MasterOf}
use Rattle.gs_master.specs.Recovering.{TellsStill}
use Rattle.gs_master.specs.Ticking.{AnswersAs, AnswersTick, LeavesAnew, is_written, lacking, pressed_all, writes_one}
use Rattle.gs_master.specs.declared.turn.Turn.{Turn as Told}
use Rattle.gs_laws_master.proofs.lemmas.standing.StandingRuns.{events_fit, opens_firm, steps_fit}
use Rattle.gs_laws_master.specs.Promises.{AllFit, IsKept, IsWritten}
use Rattle.gs_laws_master.specs.Standing.{AreCounters, Comes as HearsAt, IsFirm, IsNamedBody, Restarts as RestartsAt, Ticks as TicksAt}
use Rattle.gs_laws_moves.proofs.lemmas.moves.Made.{events_end_once, ticks_end_once}
use Rattle.gs_laws_moves.proofs.lemmas.moves.Stands.{once_stands}
use Rattle.gs_laws_moves.specs.moves.Epochs.{EndsOnce}
use Rattle.gs_laws_moves.specs.moves.Guards.{Heard, IsMade}
use Rattle.gs_laws_moves.specs.moves.Laws.{said_from}
use Rattle.gs_master_plan.specs.Renewable.{renewal_refusal}
use Rattle.gs_master_record.specs.Encoding.{encoded}
use Rattle.gs_master_record.specs.Plain.{PlainCheckpoint, PlainEntry, Whole}
use Rattle.gs_master_record.specs.Writable.{IsEntry}
use Rattle.gs_master_spec.specs.Applied.{applied, replayed}
use Rattle.gs_master_spec.specs.Calls.{is_locked, ordered}
use Rattle.gs_master_spec.specs.Durable.{Durable, is_rolling, start}
use Rattle.gs_master_spec.specs.Handling.{Again, New, Numbered, Older, call_turn, called_unless, checkpoint_body, due, from_client, from_node, handle, numbered, reopened, replied_again, restarted, server_turn, taken_as, tick, waits_still}
use Rattle.gs_master_spec.specs.Outcomes.{IsCut, IsDone, caller_of, unsure}
use Rattle.gs_master_spec.specs.State.{State, Turn, first_of, is_failed, is_unopened, last_reply, met_by, reply_to, unmoved}
use Rattle.gs_master_spec.specs.Volatile.{is_pending}
use Rattle.gs_master_spec.specs.Whole.{checkpoint_of}
use Rattle.gs_msg.specs.declared.answer.Answer.{Answer}
use Rattle.gs_msg.specs.declared.body.Body.{Body}
use Rattle.gs_msg.specs.declared.body.Body.TheVariants as bodies
use Rattle.gs_msg.specs.declared.call.Call.{Call}
use Rattle.gs_msg.specs.declared.event.DiskId.{DiskId}
use Rattle.gs_msg.specs.declared.message.Message.{Message}
use Rattle.gs_msg.specs.declared.node.NodeId.{NodeId}
use Rattle.gs_msg.specs.declared.node.NodeId.TheVariants as ids
use Rattle.gs_nodes.specs.Happenings.{MasterHears, MasterTicks, MeetsClosed, Opens, Reopens, refusal_of_call}
use Rattle.gs_nodes.specs.declared.place.MasterPlace.{MasterPlace}
use Rattle.gs_nodes.specs.declared.place.MasterPlace.TheVariants.{Standing, Closed, Away}
use Rattle.gs_laws_world.proofs.lemmas.lasting.Lasting.{opens_told}
use Rattle.gs_laws_world.specs.lasting.Lasting.{IsToldIn, Lasts, OpensAs, StandsFirm, TellsAMaster}
use Rattle.gs_world.specs.Sent.{IsSent, Sent}
use Rattle.gs_laws_lift.proofs.lemmas.stores.Durable.{told_once}
use Rattle.gs_laws_lift.proofs.lemmas.stores.Mastering.{both, nothing, said_once}
use Rattle.gs_laws_lift.proofs.lemmas.stores.Reopening.{standing_is, started}
use Rattle.gs_laws_lift.specs.stores.Doing.{HasDurable, IsHeardIn, Moves, Refuses, Starts, Waits}
use Rattle.gs_laws_lift.specs.stores.Going.{MasterArmed, MasterHeard, MasterOpened, MasterTicked, MasterUnopened}
use Rattle.gs_laws_lift.specs.stores.Left.{AreAnswers, AreReplies, Arranges, Cuts, Does, IsHeardBy, Keeps, MasterDoesAll, MastersDoAll, answer_by_number, answer_failed, as_left, left_of}

-- ---- what is told where a part of a turn stands

-- Of some records so many stand behind what was durable, this many at least, and this text tells what they lead to.
pub record IsStood (d : Durable) (records : List PlainEntry) (least : ℕ) (text : Text) : Type 0 where
  pub many : ℕ
  pub enough : least ≤ many
  pub within : many ≤ length records
  pub durable : Durable
  pub stand : replayed d (take many records) ≡ Some durable
  pub told : IsToldIn text durable

all_taken : (P : PlainEntry → Type 0) (many : ℕ) (xs : List PlainEntry) → AllByRecursion P xs → AllByRecursion P (take many xs)
all_taken P zero xs all = tt
all_taken P (suc many) [] all = tt
all_taken P (suc many) (x ∷ xs) all = (all.0, all_taken P many xs all.1)

tells_more : (text new : Text) (d e : Durable) (xs : List PlainEntry) → IsToldIn text d → AllByRecursion (IsEntry Two) xs → replayed d xs ≡ Some e → new ≡ (text.0, text.1 ++ map (encoded Two) xs) → IsToldIn new e
tells_more text new d e xs told are fit is = record {
  entries = told.entries ++ xs;
  records = is ∙ (λ i. ((told.records i).0, (told.records i).1 ++ map (encoded Two) xs)) ∙ (λ i. (Two, sym (map-append (encoded Two) told.entries xs) i));
  are_entries = all_joined (IsEntry Two) told.entries xs told.are_entries are;
  replays = replayed_behind start d e told.entries xs told.replays fit;
}

-- what a checkpoint tells doesn't depend on what it meets
whole_alike : (d e : Durable) (c : PlainCheckpoint) → replayed d (Whole c ∷ []) ≡ replayed e (Whole c ∷ [])
unfolding applied
whole_alike d e c = refl

not_above : (place all : ℕ) → place < all → place ≤ all
not_above place all below = omega arith

next_one : (place all : ℕ) → place < all → place + 1 ≤ all
next_one place all below = omega arith

module _ (text new : Text) (d last : Durable) (records : List PlainEntry) (told : IsToldIn text d) (are : AllByRecursion (IsEntry Two) records) (fits : replayed d records ≡ Some last) where
  stood_at : (least many : ℕ) → least ≤ many → many ≤ length records → new ≡ (text.0, text.1 ++ map (encoded Two) (take many records)) → IsStood d records least new
  stood_at least many enough within is =
      let e = front_fits d last records many fits in
      record { many = many; enough = enough; within = within; durable = e.0; stand = e.1; told = tells_more text new d e.0 (take many records) told (all_taken (IsEntry Two) many records are) e.1 is }

  pub stood_left : (place : ℕ) → place < length records → LeavesText records place text new → IsStood d records place new
  stood_left place below (inl is) = stood_at place place (omega arith) (not_above place (length records) below) is
  stood_left place below (inr is) = stood_at place (place + 1) (omega arith) (next_one place (length records) below) is

  pub stood_all : (place : ℕ) → place ≡ length records → new ≡ (text.0, text.1 ++ map (encoded Two) records) → IsStood d records place new
  stood_all place there is = stood_at place (length records) (omega arith) (omega arith) (is ∙ (λ i. (text.0, text.1 ++ map (encoded Two) (sym (take_all (length records) records (omega arith)) i))))

pub stood_more : (d : Durable) (records more all : List PlainEntry) (least : ℕ) (text : Text) → all ≡ records ++ more → IsStood d records least text → IsStood d all least text
stood_more d records more all least text is part = record {
  many = part.many;
  enough = part.enough;
  within = subst (λ es. part.many ≤ length es) (sym is) (longer part.many (length records) (length more) (length (records ++ more)) (length-append records more) part.within);
  durable = part.durable;
  stand = ap (λ es. replayed d (take part.many es)) is ∙ ap (replayed d) (take-append-le part.many records more part.within) ∙ part.stand;
  told = part.told;
}
  where
    longer : (many first rest both : ℕ) → both ≡ first + rest → many ≤ first → many ≤ both
    longer many first rest both same within = omega arith

-- a checkpoint stands alone
pub stood_anew : (d last next : Durable) (records all : List PlainEntry) (least : ℕ) (new : Text) → least ≡ length records → all ≡ records ++ Whole (checkpoint_of next) ∷ [] → IsEntry Two (Whole (checkpoint_of next)) → replayed d records ≡ Some next → replayed d all ≡ Some last
    → new ≡ checkpointed (checkpoint_body next) → IsStood d all least new
stood_anew d last next records all least new there is is_entry fit fits anew = record {
  many = length all;
  enough = below least (length records) (length all) there (ap (λ (xs : List PlainEntry). length xs) is ∙ length-append records (Whole (checkpoint_of next) ∷ []));
  within = omega arith;
  durable = last;
  stand = ap (replayed d) (take_all (length all) all (omega arith)) ∙ fits;
  told = record {
    entries = Whole (checkpoint_of next) ∷ [];
    records = anew;
    are_entries = (is_entry, tt);
    replays = whole_alike start next (checkpoint_of next) ∙ sym (replayed_both d records (Whole (checkpoint_of next) ∷ []) ∙ ap (option_and_then (λ mid. replayed mid (Whole (checkpoint_of next) ∷ []))) fit) ∙ ap (replayed d) (sym is) ∙ fits;
  };
}
  where
    below : (place many all : ℕ) → place ≡ many → all ≡ many + 1 → place ≤ all
    below place many all same one_more = omega arith

-- one of the second version is never written anew
still_told : (old new : Text) (d : Durable) → IsToldIn old d → TellsStill old new → new ≡ old
still_told old new d told (inl same) = same
still_told old new d told (inr (entries, durable, tells, one, anew)) = absurd (never (sym one ∙ ap (λ (t : Text). t.0) told.records))
  where
    never : versions.One ≡ versions.Two → ⊥
    never is = cc

-- ---- what a master answers of which a disk has failed

unsure_replies : (caller : Option ReqId) → AreReplies (unsure caller)
unsure_replies None = tt
unsure_replies (Some req) = (tt, tt)

-- who is told that a turn was cut is a caller
pub cut_replies : (s : State) (caller : Option ReqId) (t : Turn) (place : ℕ) (messages : List Message) (said : Option Refusal) (after : State) → IsCut s caller t place messages said after → AreReplies messages
cut_replies s caller t place messages said after is = subst AreReplies (sym is.sends) (unsure_replies caller)

pub answers_reply : (s : State) (caller : Option ReqId) (messages : List Message) → AreAnswers s caller messages → AreReplies messages
answers_reply s caller messages (inl none) = subst AreReplies (sym none) tt
answers_reply s caller messages (inr (req, is, sends)) = subst AreReplies (sym sends) (tt, tt)

pub heard_by : (sent : Sent) (heard : Heard) (caller : Option ReqId) → IsHeardBy sent heard caller → IsHeardIn sent heard
heard_by sent heard caller (inl (none, nobody)) = inl none
heard_by sent heard caller (inr (message, was, is, by)) = inr (message, was, is)

module _ (config : Config) (s : State) (moment : Moment) (failed : is_failed s.fault ≡ true) where
  -- nothing changes in memory, and the caller is told what such a master answers
  abbrev StaysSo : Option ReqId → Turn → Type 0
  StaysSo caller t = (t.after ≡ s) × AreAnswers s caller t.sent

  nobody : (caller : Option ReqId) (refusal : Refusal) → StaysSo caller (met_by s refusal)
  nobody caller refusal = (refl, inl refl)

  called : (req : ReqId) (call : Call) → StaysSo (Some req) (call_turn config s req moment call)
  called req call = told_so (by_tests (is_unopened s.fault) (is_pending s.volatile.pending req) (numbered (last_reply s req.client) req.number))
    where
      Told : Turn → Result Answer Refusal → Type 0
      Told t result = (t.after ≡ s) × ((t.sent ≡ []) ⊎ (t.sent ≡ reply_to req result ∷ []))

      told_so : Told (call_turn config s req moment call) (answer_failed s req) → StaysSo (Some req) (call_turn config s req moment call)
      told_so (still, inl none) = (still, inl none)
      told_so (still, inr sends) = (still, inr (req, refl, sends))

      again : (result : Result Answer Refusal) → Told (replied_again s req result) result
      again result = (refl, inr refl)

      taken : (n : Numbered) → Told (taken_as config s req moment call n) (answer_by_number n)
      taken New =
          subst (λ b. Told (called_unless config s req moment call (first_of (ordered b (is_rolling s.durable.phase) s.volatile.is_preparing (is_locked s req call) call))) (Err refusals.Device)) (sym failed) (refl, inr refl)
      taken (Again result) = again result
      taken Older = again (Err refusals.Old)

      by_tests : (u p : Bool) (n : Numbered) → Told (if u then replied_again s req (Err refusals.Device) else if p then waits_still s req else taken_as config s req moment call n) (if u || p then Err refusals.Device else answer_by_number n)
      by_tests true p n = again (Err refusals.Device)
      by_tests false true n = subst (λ b. Told (if b then replied_again s req (Err refusals.Device) else unmoved s) (Err refusals.Device)) (sym failed) (again (Err refusals.Device))
      by_tests false false n = taken n

  of_client : (said : Body) → StaysSo (caller_of said) (from_client config s moment said)
  of_client (bodies.Call req call) = called req call
  of_client said = nobody (caller_of said) refusals.Stray

  from : (said : Body) (node : NodeId) → StaysSo (caller_of said) (from_node config s moment said node)
  from said ids.Master = nobody (caller_of said) refusals.Stray
  from said (ids.Server server) = subst (λ b. StaysSo (caller_of said) (if b then met_by s refusals.Device else server_turn s server moment said)) (sym failed) (nobody (caller_of said) refusals.Device)
  from said (ids.Client client) = of_client said

pub failed_answers : (config : Config) (s : State) (message : Message) (moment : Moment) → is_failed s.fault ≡ true → ((handle config s message moment).after ≡ s) × AreAnswers s (caller_of message.body) (handle config s message moment).sent
unfolding handle
failed_answers config s message moment failed = from config s moment failed message.body message.from

above : (n m : ℕ) → n < m → m ≡ 0 → ⊥
above n m below none = omega arith

module _ {D : Type 0} (seen : D → List ℕ) (failures : D → ℕ) (armed : DiskId → ℕ → MasterPlace D → MasterPlace D) (sent : Sent) (old new : MasterPlace D) (messages : List Message) where
  abbrev X : Type 0
  X = MasterDoesAll seen armed sent old new messages

  left_sound : (m : MasterOf D) → is_failed m.state.fault ≡ false → as_left (Standing m) ≡ Standing m
  left_sound m sound = ap (λ b. left_of b m) sound

  left_failed : (m : MasterOf D) → is_failed m.state.fault ≡ true → as_left (Standing m) ≡ Closed m.journal.first m.journal.second
  left_failed m failed = ap (λ b. left_of b m) failed

  firm_of : (m : MasterOf D) → is_failed m.state.fault ≡ false → Lasts seen (as_left (Standing m)) → StandsFirm seen m
  firm_of m sound lasts = subst (Lasts seen) (left_sound m sound) lasts

  tells_of : (m : MasterOf D) → is_failed m.state.fault ≡ true → Lasts seen (as_left (Standing m)) → TellsAMaster (text_seen seen m.journal)
  tells_of m failed lasts = subst (Lasts seen) (left_failed m failed) lasts

  at_left : (m : MasterOf D) (place : MasterPlace D) → place ≡ Standing m → is_failed m.state.fault ≡ false → as_left place ≡ Standing m
  at_left m place at sound = ap as_left at ∙ left_sound m sound

  -- ---- a turn

  -- that is done
  done_does : (m after : MasterOf D) (heard : Heard) (t : Turn) (told : Told) → old ≡ Standing m → new ≡ Standing after → is_failed m.state.fault ≡ false → after.state.fault ≡ m.state.fault → IsFirm m.state → IsHeardIn sent heard → EndsOnce m.config (IsMade m.config heard) m.state t
      → IsWritten t → IsDone t told.sent.items told.said after.state → messages ≡ told.sent.items → X
  done_does m after heard t told at master sound fault firm was turn written done sends =
      let there = at_left after new master (ap is_failed fault ∙ sound) in
      Does (there ∙ sym master) (Moves m after heard t (at_left m old at sound) there was (once_stands m.config heard m.state t turn written firm.stands.kept).turn done.after (sends ∙ done.sends))

  -- at which a disk failed
  cut_does : (m after : MasterOf D) (heard : Heard) (caller : Option ReqId) (t : Turn) (place : ℕ) (said : Option Refusal) → old ≡ Standing m → new ≡ Standing after → is_failed m.state.fault ≡ false → is_failed after.state.fault ≡ true → Lasts seen (as_left new) → IsFirm m.state
      → IsHeardBy sent heard caller → EndsOnce m.config (IsMade m.config heard) m.state t → IsWritten t → IsStood m.state.durable t.records place (text_seen seen after.journal) → IsCut m.state caller t place messages said after.state → X
  cut_does m after heard caller t place said at master sound failed lasts firm was turn written part cut =
      let tells = tells_of after failed (subst (λ place. Lasts seen (as_left place)) master lasts) in
      let same = told_once (text_seen seen after.journal) tells.durable part.durable tells.told part.told in
      Cuts m after heard caller t place part.many said part.durable after.journal.first after.journal.second (at_left m old at sound) master was (once_stands m.config heard m.state t turn written firm.stands.kept).turn cut part.enough part.within part.stand
      (ap as_left master ∙ left_failed after failed) (subst IsKept same tells.kept) (subst AreCounters same tells.counters) part.told

  has_failed : (m after : MasterOf D) (caller : Option ReqId) (t : Turn) (Leaves : ℕ → Text → Text → Type 0) (place : ℕ) (told : Told) → IsAnsweredUnsure seen failures Leaves caller t place m told after → is_failed after.state.fault ≡ true
  has_failed m after caller t Leaves place told is = ap (λ (s : State). is_failed s.fault) is.cut.after

  cut_so : (m after : MasterOf D) (caller : Option ReqId) (t : Turn) (Leaves : ℕ → Text → Text → Type 0) (place : ℕ) (told : Told) → IsAnsweredUnsure seen failures Leaves caller t place m told after → messages ≡ told.sent.items → IsCut m.state caller t place messages told.said after.state
  cut_so m after caller t Leaves place told is sends = subst (λ ms. IsCut m.state caller t place ms told.said after.state) (sym sends) is.cut

  answered : (m after : MasterOf D) (caller : Option ReqId) (heard : Heard) (t : Turn) (told : Told) → old ≡ Standing m → new ≡ Standing after → is_failed m.state.fault ≡ false → Lasts seen (as_left new) → StandsFirm seen m → IsHeardBy sent heard caller
      → EndsOnce m.config (IsMade m.config heard) m.state t → AllFit m.state t → MasterAnswers seen failures caller t m (Ok told) after → messages ≡ told.sent.items → X
  answered m after caller heard t told at master sound lasts firm was turn fit (inl is) sends = done_does m after heard t told at master sound is.fault firm.firm (heard_by sent heard caller was) turn is.are_entries is.done sends
  answered m after caller heard t told at master sound lasts firm was turn fit (inr (place, is)) sends =
      cut_does m after heard caller t place told.said at master sound (has_failed m after caller t (LeavesText t.records) place told is) lasts firm.firm was turn is.are_entries
      (stood_left m.journal.text (text_seen seen after.journal) m.state.durable t.after.durable t.records firm.told is.are_entries fit place is.cut.within is.shown) (cut_so m after caller t (LeavesText t.records) place told is sends)

  -- ---- a master of which a disk had failed

  idle_does : (m after : MasterOf D) (heard : Heard) (caller : Option ReqId) (t : Turn) (told : Told) → old ≡ Standing m → new ≡ Standing after → is_failed m.state.fault ≡ true → IsHeardBy sent heard caller → t.records ≡ [] → (t.after ≡ m.state) × AreAnswers m.state caller t.sent
      → MasterAnswers seen failures caller t m (Ok told) after → messages ≡ told.sent.items → X
  idle_does m after heard caller t told at master failed was none stays (inl is) sends =
      Keeps m after heard caller at master failed (is.done.after ∙ stays.0) (ap as_left master ∙ left_failed after (ap is_failed is.fault ∙ failed) ∙ (λ i. Closed (is.still none i).first (is.still none i).second) ∙ sym (ap as_left at ∙ left_failed m failed)) was
      (subst (AreAnswers m.state caller) (sym (sends ∙ is.done.sends)) stays.1)
  idle_does m after heard caller t told at master failed was none stays (inr (place, is)) sends = absurd (above place (length t.records) is.cut.within (ap (λ (xs : List PlainEntry). length xs) none))

  -- disks that aren't open
  closed : (place there : MasterPlace D) (caller : Option ReqId) (turn : Told) → as_left there ≡ there → new ≡ place → old ≡ there → MeetsClosed (refusal_of_call caller) there (Ok turn) place → messages ≡ turn.sent.items → X
  closed place there caller turn left master at meets sends = Does (ap as_left (master ∙ meets.0) ∙ left ∙ sym (master ∙ meets.0)) (Refuses caller (ap as_left (master ∙ meets.0 ∙ sym at)) (sends ∙ meets.1))

  -- ---- a message

  heard_does : (there place : MasterPlace D) (message : Message) (at_moment : Moment) (turn : Told) → old ≡ there → new ≡ place → Lasts seen (as_left there) → Lasts seen (as_left new) → IsNamedBody message.body × IsNumber at_moment.0 → IsSent message sent
      → MasterHears seen failures message at_moment there (Ok turn) place → messages ≡ turn.sent.items → X
  heard_does (Standing m) place message at_moment turn at master lasts behind named was (after, is, answers) sends = by_fault (is_failed m.state.fault) refl
    where
      t : Turn
      t = handle m.config m.state message at_moment

      by_fault : (b : Bool) → is_failed m.state.fault ≡ b → X
      by_fault true failed =
          idle_does m after (said_from message.from message.body) (caller_of message.body) t turn at (master ∙ is) failed (inr (message, was, refl, refl)) (nothing_recorded m.config m.state message at_moment failed) (failed_answers m.config m.state message at_moment failed) answers sends
      by_fault false sound =
          let firm = firm_of m sound lasts in
          answered m after (caller_of message.body) (said_from message.from message.body) t turn at (master ∙ is) sound behind firm (inr (message, was, refl, refl))
          (events_end_once m.config m.state (HearsAt message at_moment) named firm.firm) (events_fit m.config m.state (HearsAt message at_moment) named firm.firm).fits answers sends
  heard_does (Closed first second) place message at_moment turn at master lasts behind named was meets sends = closed place (Closed first second) (caller_of message.body) turn refl master at meets sends
  heard_does Away place message at_moment turn at master lasts behind named was meets sends = closed place Away (caller_of message.body) turn refl master at meets sends

  -- ---- a tick

  whole_ticked : (m after : MasterOf D) (at_moment : Moment) (told : Told) (b : Bool) → writes_one m.state (pressed_all m.state at_moment) ≡ b → old ≡ Standing m → new ≡ Standing after → is_failed m.state.fault ≡ false → Lasts seen (as_left new) → StandsFirm seen m
      → AnswersAs seen failures b (tick m.state at_moment) (pressed_all m.state at_moment) m told after → messages ≡ told.sent.items → X
  whole_ticked m after at_moment told false is_so at master sound lasts firm answers sends =
      answered m after None None (tick m.state at_moment) told at master sound lasts firm (inl (refl, refl)) (events_end_once m.config m.state (TicksAt at_moment) tt firm.firm) (events_fit m.config m.state (TicksAt at_moment) tt firm.firm).fits answers sends
  whole_ticked m after at_moment told true is_so at master sound lasts firm answers sends = by_answer answers
    where
      steps : Turn
      steps = pressed_all m.state at_moment

      t : Turn
      t = tick m.state at_moment

      parts : (due steps.after ≡ true) × (is_written steps.after ≡ true)
      parts = both (due steps.after) (is_written steps.after) (both (not (is_failed m.state.fault)) (due steps.after && is_written steps.after) is_so).1

      anew : t ≡ and_checkpoint steps
      anew = written_tick m.state at_moment sound parts.0 (nothing (renewal_refusal steps.after) parts.1)

      records : t.records ≡ steps.records ++ Whole (checkpoint_of steps.after.durable) ∷ []
      records = ap (λ (x : Turn). x.records) anew

      turn : EndsOnce m.config (IsMade m.config None) m.state t
      turn = events_end_once m.config m.state (TicksAt at_moment) tt firm.firm

      fits : AllFit m.state t
      fits = (events_fit m.config m.state (TicksAt at_moment) tt firm.firm).fits

      last_of : (xs : List PlainEntry) → AllByRecursion (IsEntry Two) (xs ++ Whole (checkpoint_of steps.after.durable) ∷ []) → IsEntry Two (Whole (checkpoint_of steps.after.durable))
      last_of [] all = all.0
      last_of (x ∷ xs) all = last_of xs all.1

      -- a disk failed at a step's record, or at the checkpoint
      stood_by : AllByRecursion (IsEntry Two) t.records → (place : ℕ) → LeavesAnew steps place m.journal.text (text_seen seen after.journal) → IsStood m.state.durable t.records place (text_seen seen after.journal)
      stood_by are place (inl (below, leaves)) =
          stood_more m.state.durable steps.records (Whole (checkpoint_of steps.after.durable) ∷ []) t.records place (text_seen seen after.journal) records
          (stood_left m.journal.text (text_seen seen after.journal) m.state.durable steps.after.durable steps.records firm.told (all_front (IsEntry Two) steps.records (Whole (checkpoint_of steps.after.durable) ∷ []) (subst (AllByRecursion (IsEntry Two)) records are))
          (steps_fit m.state at_moment firm.firm) place below leaves)
      stood_by are place (inr (there, inl all)) =
          stood_more m.state.durable steps.records (Whole (checkpoint_of steps.after.durable) ∷ []) t.records place (text_seen seen after.journal) records
          (stood_all m.journal.text (text_seen seen after.journal) m.state.durable steps.after.durable steps.records firm.told (all_front (IsEntry Two) steps.records (Whole (checkpoint_of steps.after.durable) ∷ []) (subst (AllByRecursion (IsEntry Two)) records are))
          (steps_fit m.state at_moment firm.firm) place there all)
      stood_by are place (inr (there, inr alone)) =
          stood_anew m.state.durable t.after.durable steps.after.durable steps.records t.records place (text_seen seen after.journal) there records (last_of steps.records (subst (AllByRecursion (IsEntry Two)) records are)) (steps_fit m.state at_moment firm.firm) fits alone

      by_answer : AnswersAs seen failures true t steps m told after → X
      by_answer (inl is) =
          let all : IsWritten (and_checkpoint steps) = all_joined (IsEntry Two) steps.records (Whole (checkpoint_of steps.after.durable) ∷ []) is.are_entries (is.is_entry, tt) in
          done_does m after None t told at master sound is.fault firm.firm (inl refl) turn (subst IsWritten (sym anew) all) is.done sends
      by_answer (inr (place, is)) =
          cut_does m after None None t place told.said at master sound (has_failed m after None t (LeavesAnew steps) place told is) lasts firm.firm (inl (refl, refl)) turn is.are_entries (stood_by is.are_entries place is.shown) (cut_so m after None t (LeavesAnew steps) place told is sends)

  ticked_does : (there place : MasterPlace D) (at_moment : Moment) (turn : Told) → old ≡ there → new ≡ place → Lasts seen (as_left there) → Lasts seen (as_left new) → MasterTicks seen failures at_moment there (Ok turn) place → messages ≡ turn.sent.items → X
  ticked_does (Standing m) place at_moment turn at master lasts behind (after, is, answers) sends = by_fault (is_failed m.state.fault) refl answers
    where
      steps : Turn
      steps = pressed_all m.state at_moment

      by_fault : (b : Bool) → is_failed m.state.fault ≡ b → AnswersTick seen failures at_moment m (Ok turn) after → X
      by_fault true failed (inl whole) =
          let none = failed_tick m.state at_moment failed in
          let plain : writes_one m.state steps ≡ false = ap (λ b. not b && (due steps.after && is_written steps.after)) failed in
          idle_does m after None None (tick m.state at_moment) turn at (master ∙ is) failed (inl (refl, refl)) (ap (λ (t : Turn). t.records) none) (subst (λ (t : Turn). (t.after ≡ m.state) × AreAnswers m.state None t.sent) (sym none) (refl, inl refl))
          (subst (λ b. AnswersAs seen failures b (tick m.state at_moment) steps m turn after) plain whole) sends
      by_fault true failed (inr (sound, is_due, none, short)) = absurd (false≢true (sym sound ∙ failed))
      by_fault false sound (inl whole) = whole_ticked m after at_moment turn (writes_one m.state steps) refl at (master ∙ is) sound behind (firm_of m sound lasts) whole sends
      by_fault false sound (inr (still, is_due, none, short)) =
          let firm = firm_of m sound lasts in
          let fit : AllFit m.state (lacking steps) = steps_fit m.state at_moment firm.firm in
          answered m after None None (lacking steps) turn at (master ∙ is) sound behind firm (inl (refl, refl)) (said_once m.config None m.state steps (lacking steps).said (ticks_end_once m.config m.state at_moment firm.firm fit)) fit short sends
  ticked_does (Closed first second) place at_moment turn at master lasts behind meets sends = closed place (Closed first second) None turn refl master at meets sends
  ticked_does Away place at_moment turn at master lasts behind meets sends = closed place Away None turn refl master at meets sends

  -- ---- a restart

  -- what is left of it
  record Tells (there : MasterPlace D) (one two : D) : Type 0 where
    durable : Durable
    has : HasDurable seen (as_left there) durable
    kept : IsKept durable
    counters : AreCounters durable
    told : IsToldIn (standing (seen one) (seen two)) durable

  tells_at : (m : MasterOf D) → Lasts seen (as_left (Standing m)) → Tells (Standing m) m.journal.first m.journal.second
  tells_at m lasts = by_fault (is_failed m.state.fault) refl
    where
      by_fault : (b : Bool) → is_failed m.state.fault ≡ b → Tells (Standing m) m.journal.first m.journal.second
      by_fault true failed =
          let tells = tells_of m failed lasts in
          record { durable = tells.durable; has = subst (λ place. HasDurable seen place tells.durable) (sym (left_failed m failed)) tells.told; kept = tells.kept; counters = tells.counters; told = tells.told }
      by_fault false sound =
          let firm = firm_of m sound lasts in
          record {
            durable = m.state.durable;
            has = subst (λ place. HasDurable seen place m.state.durable) (sym (left_sound m sound)) refl;
            kept = firm.firm.stands.kept;
            counters = firm.firm.stands.counters;
            told = subst (λ t. IsToldIn t m.state.durable) (sym firm.as_seen.text) firm.told;
          }

  opened_does : (config : Config) (there place : MasterPlace D) (one two : D) (turn : Told) → old ≡ there → new ≡ place → Tells there one two → Opens seen failures config (one, two) (Ok turn) place → messages ≡ turn.sent.items → X
  opened_does config there place one two turn at master tells (after, is, opened, said) sends =
      let found : OpensAs seen tells.durable place = opens_told seen failures config one two tells.durable turn place tells.kept tells.counters tells.told (after, is, opened, said) in
      let same = standing_is found.0 after (sym found.1 ∙ is) in
      let durable = subst (λ (y : MasterOf D). y.state.durable ≡ tells.durable) same (ap (λ (s : State). s.durable) found.2) in
      let x = started seen failures config one two tells.durable after turn.sent.items tells.told durable opened in
      let s = restarted tells.durable x.log in
      let firm = opens_firm tells.durable x.log tells.kept tells.counters in
      let stands = at_left after new (master ∙ is) (ap (λ (y : State). is_failed y.fault) x.state) in
      Does (stands ∙ sym (master ∙ is)) (Starts config tells.durable x.log after (reopened config s) (subst (λ p. HasDurable seen (as_left p) tells.durable) (sym at) tells.has) tells.kept tells.counters stands
      (once_stands config None s (reopened config s) (events_end_once config s RestartsAt tt firm) tt tells.kept).turn x.state (sends ∙ x.sends))

  unopened_does : (config : Config) (there place : MasterPlace D) (one two : D) (e : Refusal) → old ≡ there → new ≡ place → Tells there one two → Opens seen failures config (one, two) (Err e) place → messages ≡ [] → X
  unopened_does config there place one two e at master tells (u, is, refusal, inl (device, more)) none =
      let text = still_told (standing (seen one) (seen two)) (standing (seen u.first) (seen u.second)) tells.durable tells.told device.1 in
      Does (ap as_left (master ∙ is) ∙ sym (master ∙ is)) (Waits tells.durable u.first u.second (subst (λ p. HasDurable seen (as_left p) tells.durable) (sym at) tells.has) tells.kept tells.counters (ap as_left (master ∙ is)) (subst (λ t. IsToldIn t tells.durable) (sym text) tells.told) none)
  unopened_does config there place one two e at master tells (u, is, refusal, inr (text, quiet, why)) none =
      Does (ap as_left (master ∙ is) ∙ sym (master ∙ is)) (Waits tells.durable u.first u.second (subst (λ p. HasDurable seen (as_left p) tells.durable) (sym at) tells.has) tells.kept tells.counters (ap as_left (master ∙ is)) (subst (λ t. IsToldIn t tells.durable) (sym text) tells.told) none)

  reopened_does : (config : Config) (there place : MasterPlace D) (turn : Told) → old ≡ there → new ≡ place → Lasts seen (as_left there) → Reopens seen failures config there (Ok turn) place → messages ≡ turn.sent.items → X
  reopened_does config (Standing m) place turn at master lasts opens sends = opened_does config (Standing m) place m.journal.first m.journal.second turn at master (tells_at m lasts) opens sends
  reopened_does config (Closed one two) place turn at master k opens sends =
      opened_does config (Closed one two) place one two turn at master (record { durable = k.durable; has = k.told; kept = k.kept; counters = k.counters; told = k.told }) opens sends
  reopened_does config Away place turn at master lasts opens sends = absurd lasts

  refused_does : (config : Config) (there place : MasterPlace D) (e : Refusal) → old ≡ there → new ≡ place → Lasts seen (as_left there) → Reopens seen failures config there (Err e) place → messages ≡ [] → X
  refused_does config (Standing m) place e at master lasts opens none = unopened_does config (Standing m) place m.journal.first m.journal.second e at master (tells_at m lasts) opens none
  refused_does config (Closed one two) place e at master k opens none =
      unopened_does config (Closed one two) place one two e at master (record { durable = k.durable; has = k.told; kept = k.kept; counters = k.counters; told = k.told }) opens none
  refused_does config Away place e at master lasts opens none = absurd lasts

-- whatever happens at the master
pub masters_do_all : {D : Type 0} (seen : D → List ℕ) (failures : D → ℕ) (armed : DiskId → ℕ → MasterPlace D → MasterPlace D) → MastersDoAll seen failures armed
masters_do_all seen failures armed config sent old new messages lasts behind (MasterHeard message at_moment turn was to named hears sends) =
    heard_does seen failures armed sent old new messages old new message at_moment turn refl refl lasts behind named was hears sends
masters_do_all seen failures armed config sent old new messages lasts behind (MasterTicked at_moment turn ticks sends) = ticked_does seen failures armed sent old new messages old new at_moment turn refl refl lasts behind ticks sends
masters_do_all seen failures armed config sent old new messages lasts behind (MasterOpened turn opens sends) = reopened_does seen failures armed sent old new messages config old new turn refl refl lasts opens sends
masters_do_all seen failures armed config sent old new messages lasts behind (MasterUnopened e opens none) = refused_does seen failures armed sent old new messages config old new e refl refl lasts opens none
masters_do_all seen failures armed config sent old new messages lasts behind (MasterArmed disk call is none) = Arranges disk call is none
