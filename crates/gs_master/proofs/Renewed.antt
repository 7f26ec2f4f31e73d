-- That an event which is ended with a checkpoint is finished, and what the journal tells then.
use Rattle.std.proofs.Common.{◌≡◌, ◌⊎◌, inl, inr, ◌∙◌, ◌<◌, ◌++◌, ◌&&◌, ℕ, Bool, true, false, not, List, [], ◌∷◌, map, length, take, refl, ap, arith, subst, sym, append-nil}
use Rattle.std.specs.Prelude.{Option, Some, None, fold, is_none, slice_get, if◌then◌else◌, Result, Ok, Err}
use Rattle.std.specs.List.{AllByRecursion}
use Rattle.std.proofs.lemmas.Bool.{false≢true}
use Rattle.std.proofs.lemmas.List.{length-map, take-append-le}
use Rattle.gs_base.specs.declared.config.Config.{Config}
use Rattle.gs_base.specs.declared.numbers.Moment.{Moment}
use Rattle.gs_base.specs.declared.refusal.Refusal.{Refusal}
use Rattle.gs_base.specs.declared.refusal.Refusal.TheVariants as refusals
use Rattle.gs_journal.specs.Journal.{State as Journal, checkpointed, failures_of_both}
use Rattle.gs_journal.specs.declared.version.Version.TheVariants.{Two}
use Rattle.gs_master_record.specs.Encoding.{encoded}
use Rattle.gs_master_record.specs.Plain.{PlainEntry, Whole, plain}
use Rattle.gs_master_record.specs.Writable.{IsEntry}
use Rattle.gs_master_spec.specs.Applied.{replayed}
use Rattle.gs_master_spec.specs.Durable.{Durable}
use Rattle.gs_master.specs.inner.Events.{log_behind}
use Rattle.gs_master.specs.Finishing.{FinishesAnew, IsAtRest, IsCutShortAnew, IsFinishedAnew, and_checkpoint}
use Rattle.gs_master_spec.specs.Handling.{checkpoint, checkpoint_body, checkpoint_tests, due, tick, tidied, written, written_if_due, written_unless}
use Rattle.gs_master.specs.Journaled.{IsAsSeen, IsLogOf, text_seen}
use Rattle.gs_master.specs.Masters.{MasterAnswers, DoubtLeaves, Holds, IsAnswered, IsAnsweredUnsure, IsHeld, IsTold, MasterOf}
use Rattle.gs_master_spec.specs.Outcomes.{cut}
use Rattle.gs_master_state.specs.inner.Plans.{fault_of, log_of}
use Rattle.gs_master_state.specs.inner.Recorded.{durable_of}
use Rattle.gs_master.specs.inner.Renewing.{AreCutAnew, AreRenewed, BreaksAnew, BreaksLast, Renews}
use Rattle.gs_master_plan.specs.Renewable.{refusal_beforehand, renewal_refusal}
use Rattle.gs_master_spec.specs.State.{Fault, Sound, Failed, Unopened, Log, State, Turn, first_of, first_said, is_failed, joined, met_by, unmoved}
use Rattle.gs_master.specs.Ticking.{AnswersAs, AnswersCheckpoint, AnswersTick, IsAnsweredAnew, LeavesAnew, is_written, lacking, pressed_all}
use Rattle.gs_master.specs.inner.Turns.{GoesBack, IsTurned, state_at}
use Rattle.gs_master_spec.specs.Whole.{checkpoint_of}
use Rattle.gs_master.specs.declared.event.Event.{Event}
use Rattle.gs_master.specs.declared.turn.Turn.{Turn as Told}
use Rattle.gs_master.proofs.Composing.{all_joined}
use Rattle.gs_master.proofs.Entered.{recorded_as}
use Rattle.gs_master.proofs.Finished.{IsLeft, came, records_are, stood_is}
use Rattle.gs_master.proofs.Renewals.{all_before, cut_before, last_of}
use Rattle.gs_master.proofs.Turning.{breaks, front_fits, left_by, told_more}

-- ---- an event that is ended with a checkpoint

module _ {D : Type 0} (seen : D → List ℕ) (may_leave : D → List ℕ → Type 0) (failures : D → ℕ) (steps : Turn) (begun old : Event) (rest : IsAtRest begun) (turned : IsTurned steps begun old) (back : GoesBack begun old) where
  replays : replayed (durable_of begun.recorded) steps.records ≡ Some steps.after.durable
  replays = turned.replays ∙ ap (λ (s : State). Some s.durable) turned.after

  bytes : old.written.items ≡ map (encoded Two) steps.records
  bytes = (came begun old rest back).written ∙ ap (map (encoded Two)) (records_are steps begun old rest turned)

  anew : (told : Told) (mid e : Event) (j k : Journal D) → IsLeft mid told e → AreRenewed seen may_leave failures (log_of begun.log) old j mid k → IsFinishedAnew seen may_leave failures steps begun j told e k
  anew told mid e j k left renewed =
      let after : state_at e ≡ state_at mid = ap state_at left.others in record {
        done = record {
          after = after ∙ renewed.0.after ∙ ap (λ (s : State). (written s).after) turned.after;
          sends = left.sent ∙ renewed.0.sends ∙ turned.sent ∙ ap (λ sent. sent ++ steps.sent) rest.sent;
          says = left.said ∙ renewed.0.says ∙ turned.said ∙ ap (λ said. first_said said steps.said) rest.begun.said;
        };
        replays = replays;
        are_entries = turned.are_entries;
        is_entry = subst (λ (s : State). IsEntry Two (Whole (checkpoint_of s.durable))) turned.after renewed.0.is_entry;
        fault = sym (ap (λ (s : State). s.fault) turned.after) ∙ ap fault_of back.fault;
        renews = λ is.
            let gained = renewed.1 is in
            (subst (λ (s : State). Renews seen may_leave failures j (checkpoint_body s.durable) k) turned.after gained.0, subst (λ (s : State). IsLogOf s.log k) (sym after) gained.1);
      }

  short : (place : ℕ) (told : Told) (mid e : Event) (j k : Journal D) → IsLeft mid told e → AreCutAnew seen failures (durable_of begun.recorded) (log_of begun.log) place old j mid k → IsCutShortAnew seen failures steps place begun j told e k
  short place told mid e j k left at =
      let after : state_at e ≡ state_at mid = ap state_at left.others in
      let records : map plain old.entries.items ++ Whole (checkpoint_of (durable_of old.recorded)) ∷ [] ≡ steps.records ++ Whole (checkpoint_of steps.after.durable) ∷ [] =
      λ i. records_are steps begun old rest turned i ++ Whole (checkpoint_of (turned.after i).durable) ∷ [] in
      let stood = stood_is begun old rest back in record {
        cut = record {
          within = subst (λ (rs : List PlainEntry). place < length rs) records at.0.within;
          after = after ∙ at.0.after ∙ (λ i. cut (stood i) (records i) place);
          sends = left.sent ∙ at.0.sends;
          says = left.said ∙ at.0.says;
        };
        replays = replays;
        are_entries = turned.are_entries;
        is_entry = subst (λ (s : State). IsEntry Two (Whole (checkpoint_of s.durable))) turned.after at.2;
        breaks = λ is. subst (λ (s : State). BreaksAnew seen failures j (map (encoded Two) steps.records) (checkpoint_body s.durable) place k) turned.after
            (subst (λ rs. BreaksAnew seen failures j rs (checkpoint_body (durable_of old.recorded)) place k) bytes (at.1 is));
      }

  pub finished_anew : (told : Told) (mid e : Event) (j k : Journal D) → IsLeft mid told e →
      (AreRenewed seen may_leave failures (log_of begun.log) old j mid k ⊎ ((place : ℕ) × AreCutAnew seen failures (durable_of begun.recorded) (log_of begun.log) place old j mid k)) →
      FinishesAnew seen may_leave failures steps begun j told e k
  finished_anew told mid e j k left (inl renewed) = inl (anew told mid e j k left renewed)
  finished_anew told mid e j k left (inr at) = inr (at.0, short at.0 told mid e j k left at.1)

-- ---- what the journal tells

module _ {D : Type 0} (seen : D → List ℕ) (may_leave : D → List ℕ → Type 0) (failures : D → ℕ) where
  pub tells_alone : (d : Durable) (k : Journal D) → k.text ≡ checkpointed (checkpoint_body d) → IsTold (tidied d) k
  tells_alone d k text = record {
    first = (9, checkpoint_body d) ∷ [];
    base = tidied d;
    entries = [];
    begins = inr (d, (refl, refl));
    text = text;
    are_entries = tt;
    replays = refl;
  }

  renews : (f : Fault) (d next : Durable) (log after : Log) (j k : Journal D) → Holds seen may_leave d log j f → is_failed f ≡ false →
      (IsLogOf log j → Renews seen may_leave failures j (checkpoint_body next) k × IsLogOf after k) → Holds seen may_leave (tidied next) after k f × (k.text ≡ checkpointed (checkpoint_body next))
  renews Sound d next log after j k (stands, (is, told)) sound gives = let given = gives is in ((given.0.stands, (given.1, tells_alone next k given.0.made.text)), given.0.made.text)
  renews (Failed doubt) d next log after j k held sound gives = absurd (false≢true (sym sound))
  renews (Unopened doubt) d next log after j k held sound gives = absurd (false≢true (sym sound))

  breaks_last : (f : Fault) (d next : Durable) (log after : Log) (j k : Journal D) (rs : List PlainEntry) → Holds seen may_leave d log j f → is_failed f ≡ false → AllByRecursion (IsEntry Two) rs → replayed d rs ≡ Some next →
      (IsLogOf log j → BreaksLast seen failures j (map (encoded Two) rs) (checkpoint_body next) k) →
      (failures_of_both failures j < failures_of_both failures k) × Holds seen may_leave next after k (Failed (Some (Whole (checkpoint_of next))))
  breaks_last Sound d next log after j k rs (stands, (is, told)) sound are fit broke = (broken.cause, (broken.closed, by_text broken.text))
    where
      broken : BreaksLast seen failures j (map (encoded Two) rs) (checkpoint_body next) k
      broken = broke is

      by_text : (k.text ≡ (j.text.0, j.text.1 ++ map (encoded Two) rs)) ⊎ (k.text ≡ checkpointed (checkpoint_body next)) → (found : Durable) × (DoubtLeaves (Some (Whole (checkpoint_of next))) next found × IsTold found k)
      by_text (inl text) = (next, (inl refl, told_more d next j k rs told are fit text))
      by_text (inr text) = (tidied next, (inr (inr (refl, refl)), tells_alone next k text))
  breaks_last (Failed doubt) d next log after j k rs held sound are fit broke = absurd (false≢true (sym sound))
  breaks_last (Unopened doubt) d next log after j k rs held sound are fit broke = absurd (false≢true (sym sound))

  -- ---- the master

  module _ (config : Config) (steps : Turn) (begun : Event) (j : Journal D) (held : IsHeld seen may_leave (state_at begun) j) (sound : is_failed (state_at begun).fault ≡ false) (e : Event) (k : Journal D) where
    abbrev pub at : Event → Journal D → MasterOf D
    at x y = record { config = config; state = state_at x; journal = y }

    log_known : (f : Fault) → Holds seen may_leave (durable_of begun.recorded) (state_at begun).log j f → is_failed f ≡ false → IsLogOf (state_at begun).log j
    log_known Sound held sound = held.1.0
    log_known (Failed doubt) held sound = absurd (false≢true (sym sound))
    log_known (Unopened doubt) held sound = absurd (false≢true (sym sound))

    done : (told : Told) → IsFinishedAnew seen may_leave failures steps begun j told e k → IsAnsweredAnew seen failures (and_checkpoint steps) steps (at begun j) told (at e k) × IsHeld seen may_leave (state_at e) k
    done told is =
        let f = (state_at begun).fault in
        let renewed = is.renews (log_known f held sound) in
        let gives = renews f (durable_of begun.recorded) steps.after.durable (state_at begun).log (state_at e).log j k held sound is.renews in (
          record {
            done = is.done;
            fit = is.replays;
            are_entries = is.are_entries;
            is_entry = is.is_entry;
            text = gives.1;
            fault = ap (λ (s : State). s.fault) is.done.after ∙ is.fault;
            as_seen = record { text = renewed.0.stands.text; size = renewed.0.stands.size; generation = renewed.0.stands.generation; whole = renewed.0.stands.whole };
            known = renewed.1;
            quiet = renewed.0.quiet;
            config = refl;
          },
          subst (λ (s : State). Holds seen may_leave s.durable (state_at e).log k s.fault) (sym is.done.after)
              (subst (Holds seen may_leave (tidied steps.after.durable) (state_at e).log k) (sym is.fault) gives.0),
        )

    abbrev whole : PlainEntry
    whole = Whole (checkpoint_of steps.after.durable)

    idle : is_failed (state_at begun).fault ≡ true → steps.records ≡ []
    idle failed = absurd (false≢true (sym sound ∙ failed))

    cut_held : (place : ℕ) (mid : Durable) (doubt : PlainEntry) → state_at e ≡ cut (state_at begun) (steps.records ++ whole ∷ []) place →
        replayed (durable_of begun.recorded) (take place (steps.records ++ whole ∷ [])) ≡ Some mid → slice_get (steps.records ++ whole ∷ []) place ≡ Some doubt →
        Holds seen may_leave mid (fold log_behind (state_at begun).log (take place (steps.records ++ whole ∷ []))) k (Failed (Some doubt)) → IsHeld seen may_leave (state_at e) k
    cut_held place mid doubt after front there held =
        let records = steps.records ++ whole ∷ [] in
        let state = after ∙ ap (λ (s : State). record s { fault = Failed (slice_get records place) }) (recorded_as (state_at begun) (take place records) mid front) in
        subst (λ (s : State). IsHeld seen may_leave s k) (sym state) (subst (λ o. Holds seen may_leave mid (fold log_behind (state_at begun).log (take place records)) k (Failed o)) (sym there) held)

    recorded_as_cut : (place : ℕ) (mid : Durable) → replayed (durable_of begun.recorded) (take place (steps.records ++ whole ∷ [])) ≡ Some mid →
        cut (state_at begun) (steps.records ++ whole ∷ []) place
        ≡ record (state_at begun) { durable = mid; log = fold log_behind (state_at begun).log (take place (steps.records ++ whole ∷ [])); fault = Failed (slice_get (steps.records ++ whole ∷ []) place) }
    recorded_as_cut place mid front =
        let records = steps.records ++ whole ∷ [] in ap (λ (s : State). record s { fault = Failed (slice_get records place) }) (recorded_as (state_at begun) (take place records) mid front)

    by_place : (place : ℕ) → state_at e ≡ cut (state_at begun) (steps.records ++ whole ∷ []) place → AllByRecursion (IsEntry Two) steps.records → replayed (durable_of begun.recorded) steps.records ≡ Some steps.after.durable →
        BreaksAnew seen failures j (map (encoded Two) steps.records) (checkpoint_body steps.after.durable) place k →
        (replayed (durable_of begun.recorded) (take place (steps.records ++ whole ∷ [])) ≡ Some (durable_of e.recorded)) × ((failures_of_both failures j < failures_of_both failures k) × ((k.is_failed ≡ true) × IsHeld seen may_leave (state_at e) k))
    by_place place after are fit (inl (below, broke)) =
        let d = durable_of begun.recorded in
        let rs = steps.records in
        let within : place < length rs = subst (λ n. place < n) (length-map rs (encoded Two)) below in
        let mid = front_fits d steps.after.durable rs place fit in
        let log = fold log_behind (state_at begun).log (take place rs) in
        let gives = breaks seen may_leave failures (state_at begun).fault d steps.after.durable mid.0 (state_at begun).log log j k rs place held idle within are fit mid.1 (λ is. broke) in
        let state = after ∙ sym (cut_before (state_at begun) rs whole place within) ∙ ap (λ (s : State). record s { fault = Failed (slice_get rs place) }) (recorded_as (state_at begun) (take place rs) mid.0 mid.1) in
        let front : take place (rs ++ whole ∷ []) ≡ take place rs = take-append-le place rs (whole ∷ []) (omega arith) in (
          ap (replayed d) front ∙ mid.1 ∙ ap (λ (s : State). Some s.durable) (sym state),
          (gives.0, (gives.1.0, subst (λ (s : State). IsHeld seen may_leave s k) (sym state) gives.1)),
        )
    by_place place after are fit (inr (last, broke)) =
        let d = durable_of begun.recorded in
        let rs = steps.records in
        let here : place ≡ length rs = last ∙ length-map rs (encoded Two) in
        let front = all_before rs whole place here in
        let log = fold log_behind (state_at begun).log (take place (rs ++ whole ∷ [])) in
        let gives = breaks_last (state_at begun).fault d steps.after.durable (state_at begun).log log j k rs held sound are fit (λ is. broke) in
        let fits = ap (replayed d) front ∙ fit in (
          fits ∙ ap (λ (s : State). Some s.durable) (sym (after ∙ recorded_as_cut place steps.after.durable fits)),
          (gives.0, (gives.1.0, cut_held place steps.after.durable whole after fits (last_of rs whole place here) gives.1)),
        )

    -- what is left of the text, and what the disks are seen to say
    left_anew : (place : ℕ) → BreaksAnew seen failures j (map (encoded Two) steps.records) (checkpoint_body steps.after.durable) place k → LeavesAnew steps place j.text k.text × LeavesAnew steps place j.text (text_seen seen k)
    left_anew place (inl (below, broke)) =
        let rs = steps.records in
        let within : place < length rs = subst (λ n. place < n) (length-map rs (encoded Two)) below in
        (inl (within, left_by j.text k.text rs place broke.text), inl (within, left_by j.text (text_seen seen k) rs place broke.shown))
    left_anew place (inr (last, broke)) =
        let here : place ≡ length steps.records = last ∙ length-map steps.records (encoded Two) in (inr (here, broke.text), inr (here, broke.shown))

    short_held : (told : Told) (place : ℕ) → IsCutShortAnew seen failures steps place begun j told e k → IsAnsweredUnsure seen failures (LeavesAnew steps) None (and_checkpoint steps) place (at begun j) told (at e k) × IsHeld seen may_leave (state_at e) k
    short_held told place is =
        let broke = is.breaks (log_known (state_at begun).fault held sound) in
        let texts = left_anew place broke in
        let gives = by_place place is.cut.after is.are_entries is.replays broke in (
          record {
            cut = is.cut;
            fit = gives.0;
            are_entries = all_joined (IsEntry Two) steps.records (whole ∷ []) is.are_entries (is.is_entry, tt);
            left = texts.0;
            shown = texts.1;
            cause = gives.1.0;
            closed = gives.1.1.0;
            config = refl;
          },
          gives.1.1.1,
        )

    pub answers_anew : (told : Told) → FinishesAnew seen may_leave failures steps begun j told e k →
        IsAnsweredAnew seen failures (and_checkpoint steps) steps (at begun j) told (at e k) ⊎ ((place : ℕ) × IsAnsweredUnsure seen failures (LeavesAnew steps) None (and_checkpoint steps) place (at begun j) told (at e k))
    answers_anew told (inl is) = inl (done told is).0
    answers_anew told (inr is) = inr (is.0, (short_held told is.0 is.1).0)

    pub held_anew : (told : Told) → FinishesAnew seen may_leave failures steps begun j told e k → IsHeld seen may_leave (state_at e) k
    held_anew told (inl is) = (done told is).1
    held_anew told (inr is) = (short_held told is.0 is.1).1

-- ---- a tick

-- nothing is said behind what was said
said_none : (said : Option Refusal) → first_said said None ≡ said
said_none None = refl
said_none (Some refusal) = refl

as_they_are : (steps : Turn) → joined steps (unmoved steps.after) ≡ steps
as_they_are steps = λ i. record { after = steps.after; records = append-nil steps.records i; sent = append-nil steps.sent i; said = said_none steps.said i }

refused_or : (s : State) (o : Option Refusal) → is_none o ≡ false → record (written_unless s o) { said = None } ≡ unmoved s
refused_or s None some = absurd (false≢true (sym some))
refused_or s (Some refusal) some = refl

if_due : (s : State) (b : Bool) → (b && is_written s) ≡ false → (if b then record (checkpoint s) { said = None } else unmoved s) ≡ unmoved s
unfolding checkpoint
if_due s true not_written = refused_or s (renewal_refusal s) not_written
if_due s false not_due = refl

sound_tick : (s : State) (moment : Moment) → is_failed s.fault ≡ false → tick s moment ≡ joined (pressed_all s moment) (written_if_due (pressed_all s moment).after)
unfolding tick
sound_tick s moment sound = ap (λ b. if b then met_by s refusals.Device else joined (pressed_all s moment) (written_if_due (pressed_all s moment).after)) sound

pub failed_tick : (s : State) (moment : Moment) → is_failed s.fault ≡ true → tick s moment ≡ met_by s refusals.Device
unfolding tick
failed_tick s moment failed = ap (λ b. if b then met_by s refusals.Device else joined (pressed_all s moment) (written_if_due (pressed_all s moment).after)) failed

pub plain_tick : (s : State) (moment : Moment) → is_failed s.fault ≡ false → (due (pressed_all s moment).after && is_written (pressed_all s moment).after) ≡ false → tick s moment ≡ pressed_all s moment
plain_tick s moment sound none =
    let steps = pressed_all s moment in
    sound_tick s moment sound ∙ ap (joined steps) (if_due steps.after (due steps.after) none) ∙ as_they_are steps

is_nothing : {A : Type 0} (o : Option A) → is_none o ≡ true → o ≡ None
is_nothing None is = refl
is_nothing (Some x) is = absurd (false≢true is)

pub written_checkpoint : (s : State) → renewal_refusal s ≡ None → checkpoint s ≡ written s
unfolding checkpoint
written_checkpoint s none = ap (written_unless s) none

pub refused_checkpoint : (s : State) (refusal : Refusal) → renewal_refusal s ≡ Some refusal → checkpoint s ≡ met_by s refusal
unfolding checkpoint
refused_checkpoint s refusal some = ap (written_unless s) some

pub written_tick : (s : State) (moment : Moment) → is_failed s.fault ≡ false → due (pressed_all s moment).after ≡ true → renewal_refusal (pressed_all s moment).after ≡ None → tick s moment ≡ and_checkpoint (pressed_all s moment)
written_tick s moment sound is_due none =
    let steps = pressed_all s moment in
    sound_tick s moment sound
    ∙ ap (λ b. joined steps (if b then record (checkpoint steps.after) { said = None } else unmoved steps.after)) is_due
    ∙ ap (λ (t : Turn). joined steps (record t { said = None })) (written_checkpoint steps.after none)
    ∙ (λ i. record { after = (written steps.after).after; records = steps.records ++ Whole (checkpoint_of steps.after.durable) ∷ []; sent = append-nil steps.sent i; said = said_none steps.said i })

pub checkpoint_alone : (s : State) → renewal_refusal s ≡ None → checkpoint s ≡ and_checkpoint (unmoved s)
checkpoint_alone s none = written_checkpoint s none

-- ---- what is answered

-- where nothing stands against a checkpoint no disk has failed
pub unrefused_sound : (s : State) → renewal_refusal s ≡ None → is_failed s.fault ≡ false
unrefused_sound s none = by_test (is_failed s.fault) none
  where
    by_test : (b : Bool) → first_of (checkpoint_tests b s.volatile.is_preparing s.log (checkpoint_body s.durable)) ≡ None → b ≡ false
    by_test true none = absurd (false≢true (ap is_none none))
    by_test false none = refl

-- what is known of a journal where no disk has failed
abbrev pub IsKnown : {D : Type 0} → (D → List ℕ) → MasterOf D → Type 0
IsKnown seen m = is_failed m.state.fault ≡ false → IsAsSeen seen m.journal × IsLogOf m.state.log m.journal

-- a refusal that no message carries
refused_there : {D : Type 0} (seen : D → List ℕ) (failures : D → ℕ) (refusal : Refusal) (old : MasterOf D) (told : Told) → IsKnown seen old → told.sent.items ≡ [] → told.said ≡ Some refusal →
    IsAnswered seen failures (met_by old.state refusal) old told old
refused_there seen failures refusal old told known sent said = record {
  done = record { after = refl; sends = sent; says = said };
  fit = refl;
  are_entries = tt;
  text = λ i. (old.journal.text.0, sym (append-nil old.journal.text.1) i);
  fault = refl;
  as_seen = λ sound. (known sound).0;
  known = λ sound. (known sound).1;
  quiet = refl;
  still = λ none. refl;
  config = refl;
}

module _ {D : Type 0} (seen : D → List ℕ) (failures : D → ℕ) (moment : Moment) (old : MasterOf D) where
  abbrev steps : Turn
  steps = pressed_all old.state moment

  abbrev As : Bool → Turn → Told → MasterOf D → Type 0
  As b t told new = AnswersAs seen failures b t steps old told new

  pub ticks_failed : is_failed old.state.fault ≡ true → (told : Told) → told.sent.items ≡ [] → told.said ≡ Some refusals.Device → AnswersTick seen failures moment old (Ok told) old
  ticks_failed failed told sent said =
      inl (subst (λ b. As (not b && (due steps.after && is_written steps.after)) (tick old.state moment) told old) (sym failed)
      (subst (λ t. As false t told old) (sym (failed_tick old.state moment failed))
      (inl (refused_there seen failures refusals.Device old told (λ sound. absurd (false≢true (sym sound ∙ failed))) sent said))))

  pub ticks_plain : is_failed old.state.fault ≡ false → (due steps.after && is_written steps.after) ≡ false → (result : Result Told Refusal) (new : MasterOf D) → MasterAnswers seen failures None steps old result new → AnswersTick seen failures moment old result new
  ticks_plain sound none (Ok told) new answered =
      inl (subst (λ b. As (not b && (due steps.after && is_written steps.after)) (tick old.state moment) told new) (sym sound)
      (subst (λ b. As b (tick old.state moment) told new) (sym none)
      (subst (λ t. As false t told new) (sym (plain_tick old.state moment sound none)) answered)))
  ticks_plain sound none (Err e) new answered = answered

  -- a checkpoint is due, and memory is wanting for it
  pub ticks_short : is_failed old.state.fault ≡ false → due steps.after ≡ true → refusal_beforehand steps.after ≡ None → (result : Result Told Refusal) (new : MasterOf D) →
      MasterAnswers seen failures None (lacking steps) old result new → AnswersTick seen failures moment old result new
  ticks_short sound is_due none (Ok told) new answered = inr (sound, is_due, none, answered)
  ticks_short sound is_due none (Err e) new answered = answered

  pub ticks_anew : is_failed old.state.fault ≡ false → due steps.after ≡ true → renewal_refusal steps.after ≡ None → (told : Told) (new : MasterOf D) →
      AnswersAs seen failures true (and_checkpoint steps) steps old told new → AnswersTick seen failures moment old (Ok told) new
  ticks_anew sound is_due none told new answered =
      inl (subst (λ b. As (not b && (due steps.after && is_written steps.after)) (tick old.state moment) told new) (sym sound)
      (subst (λ b. As (b && is_written steps.after) (tick old.state moment) told new) (sym is_due)
      (subst (λ o. As (is_none o) (tick old.state moment) told new) (sym none)
      (subst (λ t. As true t told new) (sym (written_tick old.state moment sound is_due none)) answered))))

module _ {D : Type 0} (seen : D → List ℕ) (failures : D → ℕ) (old : MasterOf D) where
  abbrev AsAlone : Bool → Turn → Told → MasterOf D → Type 0
  AsAlone b t told new = AnswersAs seen failures b t (unmoved old.state) old told new

  pub checkpoint_written : renewal_refusal old.state ≡ None → (told : Told) (new : MasterOf D) →
      AnswersAs seen failures true (and_checkpoint (unmoved old.state)) (unmoved old.state) old told new → AnswersCheckpoint seen failures old (Ok told) new
  checkpoint_written none told new answered =
      subst (λ o. AsAlone (is_none o) (checkpoint old.state) told new) (sym none) (subst (λ t. AsAlone true t told new) (sym (checkpoint_alone old.state none)) answered)

  pub checkpoint_refused : (refusal : Refusal) → renewal_refusal old.state ≡ Some refusal → (told : Told) → IsKnown seen old → told.sent.items ≡ [] → told.said ≡ Some refusal → AnswersCheckpoint seen failures old (Ok told) old
  checkpoint_refused refusal some told known sent said =
      subst (λ o. AsAlone (is_none o) (checkpoint old.state) told old) (sym some)
      (subst (λ t. AsAlone false t told old) (sym (refused_checkpoint old.state refusal some)) (inl (refused_there seen failures refusal old told known sent said)))
