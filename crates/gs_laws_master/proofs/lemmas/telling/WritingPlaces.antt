-- A restart on the records before a place of a turn finds a steady master.
use Rattle.std.proofs.Common.{◌≡◌, ◌⊎◌, inl, inr, ◌∙◌, ◌≤◌, ◌<◌, ◌^◌, ◌++◌, ℕ, zero, suc, Bool, true, false, List, [], ◌∷◌, length, refl, ap, sym, subst, arith}
use Rattle.std.specs.Prelude.{is_some, option_and_then, take, Option, Some, None, if◌then◌else◌}
use Rattle.std.specs.List.{AllByRecursion}
use Rattle.std.proofs.lemmas.Bool.{false≢true}
use Rattle.gs_base.specs.declared.config.Config.{Config}
use Rattle.gs_base.specs.declared.numbers.Moment.{Moment}
use Rattle.gs_base.specs.declared.refusal.Refusal.{Refusal}
use Rattle.gs_msg.specs.declared.message.Message.{Message}
use Rattle.gs_journal.specs.declared.version.Version.TheVariants.{Two}
use Rattle.gs_master_record.specs.Plain.{PlainEntry, Edited, Said, Propose, Settle, Prepare, Finalize, RollbackBegin, RollbackCommit, Whole, Holder}
use Rattle.gs_master_record.specs.Writable.{IsEntry}
use Rattle.gs_master_spec.specs.Applied.{applied, replayed}
use Rattle.gs_master_spec.specs.Durable.{Durable}
use Rattle.gs_master_spec.specs.Handling.{checkpoint, checkpoint_body, checkpoint_tests, due, granted, handle, pressed, proposals, restarted, tick, written_if_due, written_unless}
use Rattle.gs_master_spec.specs.State.{Log, State, Turn, and_then, first_of, for_each, is_failed, met_by, unmoved}
use Rattle.gs_base.specs.declared.refusal.Refusal.TheVariants as refusals
use Rattle.gs_laws_master.specs.Promises.{AllFit, IsKept, IsOfKept}
use Rattle.gs_laws_master.specs.Standing.{AreCounters, Event, Comes, Ticks, Renews, Restarts, IsNamed, turn_of}
use Rattle.gs_laws_master.specs.Written.{AllStepsWrittenAtPlaces, AreHolders, AreLow, AreReplies, EventsWrittenAtPlaces, HasSpelled, IsHeardIn, IsSteady, IsToldBack, WritesAll}
use Rattle.gs_laws_master.proofs.lemmas.keeping.KeptAll.{keeps_all}
use Rattle.gs_laws_master.proofs.lemmas.restarts.Reached.{keeps_counters}
use Rattle.gs_laws_master.proofs.lemmas.spelling.SpelledNames.{keeps_spelled}
use Rattle.gs_laws_master.proofs.lemmas.standing.StandingRuns.{events_fit, opens_firm}
use Rattle.gs_laws_master.proofs.lemmas.telling.Tellable.{IsTellable, low_after, not_whole}
use Rattle.gs_laws_master.proofs.lemmas.telling.Telling.{all_both}
use Rattle.gs_laws_master.proofs.lemmas.telling.TellingTurns.{message_tells, pressed_tells}
use Rattle.gs_laws_master.proofs.lemmas.telling.ToldInverses.{keeps_back}
use Rattle.gs_laws_master.proofs.lemmas.telling.ToldReplies.{keeps_holders, keeps_replies}
use Rattle.gs_laws_master.proofs.lemmas.telling.Writing.{all_steps_written, can_answer, can_tell, events_written, messages_written, steps_written}

durable_is : {a b : Durable} → ◌≡◌ {A = Option Durable} (Some a) (Some b) → a ≡ b
durable_is h = cc

-- ---- the records before a place

some_of : (P : PlainEntry → Type 0) (place : ℕ) (xs : List PlainEntry) → AllByRecursion P xs → AllByRecursion P (take place xs)
some_of P zero xs all = tt
some_of P (suc place) [] all = tt
some_of P (suc place) (x ∷ xs) all = (all.0, some_of P place xs all.1)

none_of : (place : ℕ) → ◌≡◌ {A = List PlainEntry} (take place []) []
none_of zero = refl
none_of (suc place) = refl

-- where one more stands behind them, they are as they were, or all
one_more : (place : ℕ) (xs ys : List PlainEntry) → length ys ≤ 1 → (take place (xs ++ ys) ≡ take place xs) ⊎ (take place (xs ++ ys) ≡ xs ++ ys)
one_more zero xs ys few = inl refl
one_more (suc place) [] [] few = inl refl
one_more (suc place) [] (y ∷ []) few = inr (ap (λ l. y ∷ l) (none_of place))
one_more (suc place) [] (y ∷ z ∷ ys) few = absurd (omega arith)
one_more (suc place) (x ∷ xs) ys few = by_rest (one_more place xs ys few)
  where
    by_rest : (take place (xs ++ ys) ≡ take place xs) ⊎ (take place (xs ++ ys) ≡ xs ++ ys) → (x ∷ take place (xs ++ ys) ≡ x ∷ take place xs) ⊎ (x ∷ take place (xs ++ ys) ≡ x ∷ xs ++ ys)
    by_rest (inl same) = inl (ap (λ l. x ∷ l) same)
    by_rest (inr all) = inr (ap (λ l. x ∷ l) all)

-- ---- what is told

each_told : {A : Type 0} (xs : List A) (step : A → State → Turn) → ((x : A) (s : State) → IsSteady s → WritesAll (step x s)) → ((x : A) (s : State) → IsSteady s → AllByRecursion IsTellable (step x s).records) → (s : State) → IsSteady s
    → AllByRecursion IsTellable (for_each s xs step).records
each_told [] step h k s y = tt
each_told (x ∷ xs) step h k s y = all_both IsTellable (step x s).records (for_each (step x s).after xs step).records (k x s y) (each_told xs step h k (step x s).after (h x s y).steady)

abbrev pub all_steps : State → Moment → Turn
all_steps s moment = and_then (for_each s (proposals s) (pressed moment)) granted

pub steps_told : (s : State) (moment : Moment) → IsSteady s → AllByRecursion IsTellable (all_steps s moment).records
steps_told s moment y =
    let press = for_each s (proposals s) (pressed moment) in
    all_both IsTellable press.records []
    (each_told (proposals s) (pressed moment) (λ proposal next k. steps_written next moment proposal k) (λ proposal next k. (pressed_tells next (can_answer next k) moment proposal).told) s y) tt

pub message_told : (config : Config) (s : State) (message : Message) (moment : Moment) → IsNamed (Comes message moment) → IsHeardIn s (Comes message moment) → IsSteady s → AllByRecursion IsTellable (handle config s message moment).records
message_told config s message moment named heard y = (message_tells s (can_tell s y) (can_answer s y) config message moment named.0 heard named.1).told

-- ---- checkpoints: one record, or none

unless_few : (s : State) (refusal : Option Refusal) → length (written_unless s refusal).records ≤ 1
unless_few s None = omega arith
unless_few s (Some refusal) = omega arith

checkpoint_few : (s : State) → length (checkpoint s).records ≤ 1
unfolding checkpoint
checkpoint_few s = unless_few s (first_of (checkpoint_tests (is_failed s.fault) s.volatile.is_preparing s.log (checkpoint_body s.durable)))

due_few : (s : State) → length (written_if_due s).records ≤ 1
due_few s = by_test (due s)
  where
    by_test : (b : Bool) → length (if b then record (checkpoint s) { said = None } else unmoved s).records ≤ 1
    by_test true = checkpoint_few s
    by_test false = omega arith

-- ---- what each such record keeps, at each place

-- behind each of these records
abbrev pub AtAll : (Durable → Type 0) → Durable → List PlainEntry → Type 0
AtAll P d entries = (place : ℕ) (last : Durable) → replayed d (take place entries) ≡ Some last → P last

module _ (P : Durable → Type 0) (next_one : (entry : PlainEntry) (d next : Durable) → IsTellable entry → IsEntry Two entry → P d → applied d entry ≡ Some next → P next) where
  pub all_behind : (entries : List PlainEntry) (d last : Durable) → AllByRecursion IsTellable entries → AllByRecursion (IsEntry Two) entries → P d → replayed d entries ≡ Some last → P last
  all_behind [] d last t f p e = subst P (durable_is e) p
  all_behind (entry ∷ entries) d last t f p e = by_first (λ n now h. all_behind entries n last t.1 f.1 now h) (applied d entry) refl e
    where
      by_first : ((n : Durable) → P n → replayed n entries ≡ Some last → P last) → (a : Option Durable) → applied d entry ≡ a → option_and_then (λ n. replayed n entries) a ≡ Some last → P last
      by_first rest None is h = absurd (false≢true (ap is_some h))
      by_first rest (Some n) is h = rest n (next_one entry d n t.0 f.0 p is) h

  told_at_all : (d : Durable) (entries : List PlainEntry) → AllByRecursion IsTellable entries → AllByRecursion (IsEntry Two) entries → P d → AtAll P d entries
  told_at_all d entries t f p place last e = all_behind (take place entries) d last (some_of IsTellable place entries t) (some_of (IsEntry Two) place entries f) p e

  pub steps_at_all : (s : State) (moment : Moment) → IsSteady s → P s.durable → AtAll P s.durable (all_steps s moment).records
  steps_at_all s moment y p = told_at_all s.durable (all_steps s moment).records (steps_told s moment y) (all_steps_written s moment y).written p

  none_at_all : (d : Durable) → P d → AtAll P d []
  none_at_all d p place last e = subst P (durable_is (ap (replayed d) (sym (none_of place)) ∙ e)) p

  -- where one more stands behind them, and it is so behind all
  one_more_at_all : (d after : Durable) (xs ys : List PlainEntry) → AtAll P d xs → length ys ≤ 1 → replayed d (xs ++ ys) ≡ Some after → P after → AtAll P d (xs ++ ys)
  one_more_at_all d after xs ys first few fits p place last e = by_place (one_more place xs ys few)
    where
      by_place : (take place (xs ++ ys) ≡ take place xs) ⊎ (take place (xs ++ ys) ≡ xs ++ ys) → P last
      by_place (inl same) = first place last (ap (replayed d) (sym same) ∙ e)
      by_place (inr all) = subst P (durable_is (sym fits ∙ ap (replayed d) (sym all) ∙ e)) p

  tick_at_all : (s : State) (moment : Moment) → IsSteady s → P s.durable → AllFit s (tick s moment) → P (tick s moment).after.durable → AtAll P s.durable (tick s moment).records
  unfolding tick
  tick_at_all s moment y now fits p = by_test (is_failed s.fault) fits p
    where
      steps : Turn
      steps = all_steps s moment

      by_test : (b : Bool) → AllFit s (if b then met_by s refusals.Device else and_then steps written_if_due) → P (if b then met_by s refusals.Device else and_then steps written_if_due).after.durable
          → AtAll P s.durable (if b then met_by s refusals.Device else and_then steps written_if_due).records
      by_test true f after = none_at_all s.durable now
      by_test false f after = one_more_at_all s.durable (and_then steps written_if_due).after.durable steps.records (written_if_due steps.after).records (steps_at_all s moment y now) (due_few steps.after) f after

  pub event_at_all : (config : Config) (s : State) (event : Event) → IsNamed event → IsHeardIn s event → IsSteady s → P s.durable → P (turn_of config s event).after.durable → AtAll P s.durable (turn_of config s event).records
  event_at_all config s (Comes message moment) named heard y now p =
      told_at_all s.durable (handle config s message moment).records (message_told config s message moment named heard y) (messages_written config s message moment named heard y).written now
  event_at_all config s (Ticks moment) named heard y now p = tick_at_all s moment y now (events_fit config s (Ticks moment) named y.firm).fits p
  event_at_all config s Renews named heard y now p =
      one_more_at_all s.durable (checkpoint s).after.durable [] (checkpoint s).records (none_at_all s.durable now) (checkpoint_few s) (events_fit config s Renews named y.firm).fits p
  event_at_all config s Restarts named heard y now p = none_at_all s.durable now

-- ---- what a restart can be made of

record Opens (d : Durable) : Type 0 where
  kept : IsKept d
  counters : AreCounters d
  low : AreLow d
  spelled : HasSpelled d
  replies : AreReplies d
  holders : AreHolders d
  back : AllByRecursion IsToldBack d.inverses

opens_steady : (d : Durable) (log : Log) → Opens d → log.size ≤ log.limit → log.limit < 2 ^ 32 → IsSteady (restarted d log)
opens_steady d log o room limit = record {
  firm = opens_firm d log o.kept o.counters;
  within = record { low = o.low; spelled = o.spelled; replies = o.replies; holders = o.holders; back = o.back; unplaced = λ c here. absurd (false≢true here); calls = tt };
  room = room;
  limit = limit;
}

opens_now : (s : State) → IsSteady s → Opens s.durable
opens_now s y = record { kept = y.firm.stands.kept; counters = y.firm.stands.counters; low = y.within.low; spelled = y.within.spelled; replies = y.within.replies; holders = y.within.holders; back = y.within.back }

of_kept : (entry : PlainEntry) → IsTellable entry → IsOfKept entry
of_kept (Edited by edit) t = tt
of_kept (Said to refusal) t = tt
of_kept (Propose chunk version) t = tt
of_kept (Settle v) t = tt
of_kept (Prepare epoch moment chunks) t = tt
of_kept (Finalize epoch) t = tt
of_kept (RollbackBegin epoch) t = tt
of_kept (RollbackCommit epoch answers) t = tt
of_kept (Whole c) t = absurd t
of_kept (Holder chunk server) t = tt

-- behind a record that can be written and is no checkpoint
opens_next : (entry : PlainEntry) (d next : Durable) → IsTellable entry → IsEntry Two entry → Opens d → applied d entry ≡ Some next → Opens next
opens_next entry d next t f o e =
    let other = not_whole entry t in
    let kept = keeps_all entry other d next f o.kept e in
    let spelled = keeps_spelled entry d next other f.0 o.kept o.spelled e in
    record {
      kept = kept;
      counters = keeps_counters entry d next (of_kept entry t) f o.counters e;
      low = low_after entry d next o.low t f.0 e;
      spelled = spelled;
      replies = keeps_replies entry d next other f.0 o.kept o.spelled o.replies e;
      holders = keeps_holders entry d next other o.holders e;
      back = keeps_back entry d next other f.0 o.kept o.spelled o.low kept spelled o.back e;
    }

-- ---- a restart

pub all_steps_written_at_places : AllStepsWrittenAtPlaces
all_steps_written_at_places s moment place d log y fit room limit = opens_steady d log (steps_at_all Opens opens_next s moment y (opens_now s y) place d fit) room limit

pub events_written_at_places : EventsWrittenAtPlaces
events_written_at_places config s event place d log named heard y fit room limit =
    let after = opens_now (turn_of config s event).after (events_written config s event named heard y).steady in
    opens_steady d log (event_at_all Opens opens_next config s event named heard y (opens_now s y) after place d fit) room limit
