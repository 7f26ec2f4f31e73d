-- What the master does at a step, whichever chunk is looked at.
use Rattle.std.proofs.Common.{◌≡◌, ◌∙◌, ◌+◌, ◌&&◌, not, ℕ, Bool, true, false, List, [], ◌∷◌, Option, Some, None, Ok, Err, refl, sym, ap, subst, inl, inr}
use Rattle.gs_base.specs.Told.{IsNumber}
use Rattle.gs_base.specs.declared.config.Config.{Config}
use Rattle.gs_base.specs.declared.numbers.Moment.{Moment}
use Rattle.gs_base.specs.declared.numbers.ReqId.{ReqId}
use Rattle.gs_base.specs.declared.refusal.Refusal.{Refusal}
use Rattle.gs_journal.specs.Journal.{failures_of_both}
use Rattle.gs_journal.specs.Records.{standing}
use Rattle.gs_journal.specs.declared.version.Version.TheVariants.{Two}
use Rattle.gs_laws_master.specs.Promises.{AllFit, IsKept, IsWritten}
use Rattle.gs_laws_master.specs.Standing.{AreCounters, Comes as HearsAt, IsFirm, IsNamedBody, Restarts as RestartsAt, Ticks as TicksAt}
use Rattle.gs_laws_master.proofs.lemmas.standing.StandingRuns.{opens_firm}
use Rattle.gs_master.specs.Masters.{MasterAnswers, MasterOf}
use Rattle.gs_master.proofs.Composing.{all_joined}
use Rattle.gs_master.proofs.Renewed.{written_tick}
use Rattle.gs_master.specs.Finishing.{and_checkpoint}
use Rattle.gs_master.specs.Starting.{IsOpened}
use Rattle.gs_master.specs.Ticking.{AnswersAs, is_written, lacking, pressed_all, writes_one}
use Rattle.gs_master.specs.declared.turn.Turn.{Turn as Told}
use Rattle.gs_msg.specs.declared.event.DiskId.{DiskId}
use Rattle.gs_msg.specs.declared.message.Message.{Message}
use Rattle.gs_master_plan.specs.Renewable.{renewal_refusal}
use Rattle.gs_master_record.specs.Plain.{Whole}
use Rattle.gs_master_record.specs.Writable.{IsEntry}
use Rattle.gs_master_spec.specs.Durable.{Durable}
use Rattle.gs_master_spec.specs.Handling.{due, handle, reopened, restarted, tick}
use Rattle.gs_master_spec.specs.Outcomes.{IsDone, caller_of}
use Rattle.gs_master_spec.specs.State.{State, Turn, is_failed}
use Rattle.gs_master_spec.specs.Whole.{checkpoint_of}
use Rattle.gs_nodes.specs.Happenings.{MasterHears, MasterTicks, MeetsClosed, Reopens, limit, refusal_of_call}
use Rattle.gs_nodes.specs.declared.place.MasterPlace.{MasterPlace}
use Rattle.gs_nodes.specs.declared.place.MasterPlace.TheVariants.{Standing, Closed, Away}
use Rattle.gs_laws_world.specs.lasting.Lasting.{IsToldIn, Lasts, OpensAs, WaitsAs, failures_at}
use Rattle.gs_world.specs.Sent.{IsSent, Sent}
use Rattle.gs_laws_world.proofs.lemmas.lasting.Lasting.{opens_again, opens_told, waits_again}
use Rattle.gs_laws_moves.specs.moves.Guards.{Heard, IsMade}
use Rattle.gs_laws_moves.specs.moves.Laws.{said_from}
use Rattle.gs_laws_moves.specs.moves.Epochs.{EndsOnce}
use Rattle.gs_laws_moves.proofs.lemmas.moves.Made.{events_end_once, ticks_end_once}
use Rattle.gs_laws_moves.proofs.lemmas.moves.Stands.{once_stands}
use Rattle.gs_laws_lift.specs.stores.Going.{MasterArmed, MasterHeard, MasterOpened, MasterTicked, MasterUnopened}
use Rattle.gs_laws_lift.specs.stores.Doing.{Arms, MasterDoes, HasDurable, IsHeardIn, MastersDo, Moves, Refuses, Starts, Waits}
use Rattle.gs_laws_lift.proofs.lemmas.stores.Mastering.{both, not_true, nothing, said_once}
use Rattle.gs_laws_lift.proofs.lemmas.stores.Reopening.{never, standing_is, started}

module _ {D : Type 0} (seen : D → List ℕ) (failures : D → ℕ) (armed : DiskId → ℕ → MasterPlace D → MasterPlace D) (sent : Sent) (old new : MasterPlace D) (messages : List Message) where
  abbrev X : Type 0
  X = MasterDoes seen armed sent old new messages

  -- a turn that is done
  done_does : (m after : MasterOf D) (heard : Heard) (t : Turn) (told : Told) → old ≡ Standing m → new ≡ Standing after → IsFirm m.state → IsHeardIn sent heard → EndsOnce m.config (IsMade m.config heard) m.state t → IsWritten t
      → IsDone t told.sent.items told.said after.state → messages ≡ told.sent.items → X
  done_does m after heard t told at master firm was turn written done sends =
      Moves m after heard t at master was (once_stands m.config heard m.state t turn written firm.stands.kept).turn done.after (sends ∙ done.sends)

  answered : (m after : MasterOf D) (caller : Option ReqId) (heard : Heard) (t : Turn) (told : Told) → old ≡ Standing m → new ≡ Standing after → IsFirm m.state → IsHeardIn sent heard
      → (AllFit m.state t → EndsOnce m.config (IsMade m.config heard) m.state t) → MasterAnswers seen failures caller t m (Ok told) after → failures_of_both failures after.journal ≡ failures_of_both failures m.journal → messages ≡ told.sent.items → X
  answered m after caller heard t told at master firm was chain (inl is) same sends =
      done_does m after heard t told at master firm was (chain (is.fit ∙ ap (λ (x : State). Some x.durable) is.done.after)) is.are_entries is.done sends
  answered m after caller heard t told at master firm was chain (inr (place, cut)) same sends =
      absurd (never (failures_of_both failures m.journal) (failures_of_both failures after.journal) cut.cause same)

  -- disks that aren't open
  closed : (place there : MasterPlace D) (caller : Option ReqId) (turn : Told) → new ≡ place → old ≡ there → MeetsClosed (refusal_of_call caller) there (Ok turn) place → messages ≡ turn.sent.items → X
  closed place there caller turn master at meets sends = Refuses caller (master ∙ meets.0 ∙ sym at) (sends ∙ meets.1)

  heard_does : (there place : MasterPlace D) (message : Message) (at_moment : Moment) (turn : Told) → old ≡ there → new ≡ place → Lasts seen there → IsNamedBody message.body × IsNumber at_moment.0 → IsSent message sent
      → failures_at failures place ≡ failures_at failures there → MasterHears seen failures message at_moment there (Ok turn) place → messages ≡ turn.sent.items → X
  heard_does (Standing m) place message at_moment turn at master lasts named was same (after, is, answers) sends =
      answered m after (caller_of message.body) (said_from message.from message.body) (handle m.config m.state message at_moment) turn at (master ∙ is) lasts.firm (inr (message, was, refl))
      (λ fit. events_end_once m.config m.state (HearsAt message at_moment) named lasts.firm) answers (sym (ap (failures_at failures) is) ∙ same) sends
  heard_does (Closed first second) place message at_moment turn at master lasts named was same meets sends = closed place (Closed first second) (caller_of message.body) turn master at meets sends
  heard_does Away place message at_moment turn at master lasts named was same meets sends = closed place Away (caller_of message.body) turn master at meets sends

  -- a tick
  whole_ticked : (m after : MasterOf D) (at_moment : Moment) (told : Told) (b : Bool) → writes_one m.state (pressed_all m.state at_moment) ≡ b → old ≡ Standing m → new ≡ Standing after → IsFirm m.state
      → AnswersAs seen failures b (tick m.state at_moment) (pressed_all m.state at_moment) m told after → failures_of_both failures after.journal ≡ failures_of_both failures m.journal → messages ≡ told.sent.items → X
  whole_ticked m after at_moment told true is_so at master firm (inl is) same sends =
      let steps = pressed_all m.state at_moment in
      let first = both (not (is_failed m.state.fault)) (due steps.after && is_written steps.after) is_so in
      let second = both (due steps.after) (is_written steps.after) first.1 in
      let t : tick m.state at_moment ≡ and_checkpoint steps = written_tick m.state at_moment (not_true (is_failed m.state.fault) first.0) second.0 (nothing (renewal_refusal steps.after) second.1) in
      let all : IsWritten (and_checkpoint steps) = all_joined (IsEntry Two) steps.records (Whole (checkpoint_of steps.after.durable) ∷ []) is.are_entries (is.is_entry, tt) in
      done_does m after None (tick m.state at_moment) told at master firm (inl refl) (events_end_once m.config m.state (TicksAt at_moment) tt firm) (subst IsWritten (sym t) all) is.done sends
  whole_ticked m after at_moment told false is_so at master firm (inl is) same sends =
      done_does m after None (tick m.state at_moment) told at master firm (inl refl) (events_end_once m.config m.state (TicksAt at_moment) tt firm) is.are_entries is.done sends
  whole_ticked m after at_moment told true is_so at master firm (inr (place, cut)) same sends = absurd (never (failures_of_both failures m.journal) (failures_of_both failures after.journal) cut.cause same)
  whole_ticked m after at_moment told false is_so at master firm (inr (place, cut)) same sends = absurd (never (failures_of_both failures m.journal) (failures_of_both failures after.journal) cut.cause same)

  ticked_does : (there place : MasterPlace D) (at_moment : Moment) (turn : Told) → old ≡ there → new ≡ place → Lasts seen there → failures_at failures place ≡ failures_at failures there → MasterTicks seen failures at_moment there (Ok turn) place → messages ≡ turn.sent.items → X
  ticked_does (Standing m) place at_moment turn at master lasts same (after, is, inl whole) sends =
      whole_ticked m after at_moment turn (writes_one m.state (pressed_all m.state at_moment)) refl at (master ∙ is) lasts.firm whole (sym (ap (failures_at failures) is) ∙ same) sends
  ticked_does (Standing m) place at_moment turn at master lasts same (after, is, inr (sound, is_due, none, answers)) sends =
      answered m after None None (lacking (pressed_all m.state at_moment)) turn at (master ∙ is) lasts.firm (inl refl)
      (λ fit. said_once m.config None m.state (pressed_all m.state at_moment) (lacking (pressed_all m.state at_moment)).said (ticks_end_once m.config m.state at_moment lasts.firm fit)) answers (sym (ap (failures_at failures) is) ∙ same) sends
  ticked_does (Closed first second) place at_moment turn at master lasts same meets sends = closed place (Closed first second) None turn master at meets sends
  ticked_does Away place at_moment turn at master lasts same meets sends = closed place Away None turn master at meets sends

  -- ---- a restart

  started_does : (config : Config) (one two : D) (d : Durable) (after : MasterOf D) (turn : Told) → HasDurable seen old d → IsKept d → AreCounters d → IsToldIn (standing (seen one) (seen two)) d → after.state.durable ≡ d
      → IsOpened seen failures config one two (standing (seen one) (seen two)) limit after turn.sent.items → new ≡ Standing after → messages ≡ turn.sent.items → X
  started_does config one two d after turn has kept counters told same is master sends =
      let x = started seen failures config one two d after turn.sent.items told same is in
      let s = restarted d x.log in
      let firm = opens_firm d x.log kept counters in
      Starts config d x.log after (reopened config s) has kept counters master (once_stands config None s (reopened config s) (events_end_once config s RestartsAt tt firm) tt kept).turn x.state (sends ∙ x.sends)

  opened_does : (config : Config) (there place : MasterPlace D) (turn : Told) → old ≡ there → new ≡ place → Lasts seen there → Reopens seen failures config there (Ok turn) place → messages ≡ turn.sent.items → X
  opened_does config (Standing m) place turn at master lasts (after, is, opened, said) sends =
      let found : OpensAs seen m.state.durable place = opens_again seen failures config m turn place lasts (after, is, opened, said) in
      let same = standing_is found.0 after (sym found.1 ∙ is) in
      started_does config m.journal.first m.journal.second m.state.durable after turn (subst (λ place. HasDurable seen place m.state.durable) (sym at) refl) lasts.firm.stands.kept lasts.firm.stands.counters
      (subst (λ t. IsToldIn t m.state.durable) (sym lasts.as_seen.text) lasts.told) (subst (λ (y : MasterOf D). y.state.durable ≡ m.state.durable) same (ap (λ (s : State). s.durable) found.2)) opened (master ∙ is) sends
  opened_does config (Closed one two) place turn at master k (after, is, opened, said) sends =
      let found : OpensAs seen k.durable place = opens_told seen failures config one two k.durable turn place k.kept k.counters k.told (after, is, opened, said) in
      let same = standing_is found.0 after (sym found.1 ∙ is) in
      started_does config one two k.durable after turn (subst (λ place. HasDurable seen place k.durable) (sym at) k.told) k.kept k.counters k.told (subst (λ (y : MasterOf D). y.state.durable ≡ k.durable) same (ap (λ (s : State). s.durable) found.2)) opened (master ∙ is) sends
  opened_does config Away place turn at master lasts opens sends = absurd lasts

  unopened_does : (config : Config) (there place : MasterPlace D) (e : Refusal) → old ≡ there → new ≡ place → Lasts seen there → failures_at failures place ≡ failures_at failures there → Reopens seen failures config there (Err e) place → messages ≡ [] → X
  unopened_does config (Standing m) place e at master lasts same opens none =
      let waits : WaitsAs seen m.state.durable place = waits_again seen failures config m e place lasts opens same in
      Waits m.state.durable waits.0 waits.1 (subst (λ place. HasDurable seen place m.state.durable) (sym at) refl) lasts.firm.stands.kept lasts.firm.stands.counters (master ∙ waits.2) waits.3 none
  unopened_does config (Closed one two) place e at master k same (u, is, refusal, inl (device, more)) none =
      absurd (never (failures one + failures two) (failures u.first + failures u.second) more (sym (ap (failures_at failures) is) ∙ same))
  unopened_does config (Closed one two) place e at master k same (u, is, refusal, inr (text, quiet, why)) none =
      Waits k.durable u.first u.second (subst (λ place. HasDurable seen place k.durable) (sym at) k.told) k.kept k.counters (master ∙ is) (subst (λ t. IsToldIn t k.durable) (sym text) k.told) none
  unopened_does config Away place e at master lasts same opens none = absurd lasts

-- whatever happens at the master, and no disk fails
pub masters_do : {D : Type 0} (seen : D → List ℕ) (failures : D → ℕ) (armed : DiskId → ℕ → MasterPlace D → MasterPlace D) → MastersDo seen failures armed
masters_do seen failures armed config sent old new messages lasts same (MasterHeard message at_moment turn was to named hears sends) =
    heard_does seen failures armed sent old new messages old new message at_moment turn refl refl lasts named was same hears sends
masters_do seen failures armed config sent old new messages lasts same (MasterTicked at_moment turn ticks sends) = ticked_does seen failures armed sent old new messages old new at_moment turn refl refl lasts same ticks sends
masters_do seen failures armed config sent old new messages lasts same (MasterOpened turn opens sends) = opened_does seen failures armed sent old new messages config old new turn refl refl lasts opens sends
masters_do seen failures armed config sent old new messages lasts same (MasterUnopened e opens none) = unopened_does seen failures armed sent old new messages config old new e refl refl lasts same opens none
masters_do seen failures armed config sent old new messages lasts same (MasterArmed disk call is none) = Arms disk call is none
