-- So it is of each event of a steady master, and of each run.
use Rattle.std.proofs.Common.{◌≡◌, ℕ, zero, suc, true, List, [], ◌∷◌, refl, subst, take}
use Rattle.std.specs.Prelude.{None, Option, Some, slice_get}
use Rattle.std.specs.List.{AllByRecursion}
use Rattle.gs_base.specs.declared.config.Config.{Config}
use Rattle.gs_base.specs.declared.numbers.ReqId.{ReqId}
use Rattle.gs_msg.specs.declared.call.Call.{Call}
use Rattle.gs_msg.specs.declared.body.Body.{Body}
use Rattle.gs_master_record.specs.Plain.{PlainEntry}
use Rattle.gs_laws_master.proofs.lemmas.standing.StandingRuns.{steps_fit}
use Rattle.gs_laws_master.proofs.lemmas.telling.Writing.{all_steps_written, events_written}
use Rattle.gs_laws_master.specs.Standing.{Comes, Event, IsFirm, Renews, Restarts, Ticks, turn_of}
use Rattle.gs_laws_moves.proofs.lemmas.moves.Made.{ticks_are_for}
use Rattle.gs_laws_moves.proofs.lemmas.moves.Stands.{events_stand_for, once_stands_also}
use Rattle.gs_laws_moves.specs.moves.Epochs.{EndsOnce}
use Rattle.gs_laws_moves.specs.moves.ForCalls.{IsFor, IsMadeWellFor}
use Rattle.gs_laws_moves.specs.moves.Guards.{Heard}
use Rattle.gs_laws_moves.specs.moves.Laws.{heard_in, met_in}
use Rattle.gs_master_spec.specs.Durable.{is_rolling}
use Rattle.gs_master_spec.specs.Handling.{granted, pressed, proposals}
use Rattle.gs_master_spec.specs.State.{State, Turn, and_then, for_each}
use Rattle.gs_laws_lift.proofs.lemmas.calls.Recorded.{records_are_for}
use Rattle.gs_laws_lift.proofs.lemmas.calls.Told.{sent_are_for}
use Rattle.gs_laws_lift.proofs.lemmas.calls.Waits.{asked_start, asked_stay}
use Rattle.gs_laws_lift.specs.calls.Events.{CutsAreAskedFor, EventsAreAskedFor, IsAskedTurn, RunsAreAskedFor, StepsAreAskedFor}
use Rattle.gs_laws_lift.specs.calls.Recorded.{IsRecordedFor}
use Rattle.gs_laws_lift.specs.calls.Waits.{AreAskedFor, HearsOneOf}

-- a restart drops what waits
met_asked : (all : List (ReqId × Call)) (s : State) (event : Event) → AreAskedFor all s → AreAskedFor all (met_in s event)
met_asked all s (Comes message moment) k = k
met_asked all s (Ticks moment) k = k
met_asked all s Renews k = k
met_asked all s Restarts k = asked_start all s.durable s.log

met_calm : (s : State) (event : Event) → IsFirm s → is_rolling (met_in s event).durable.phase ≡ true → (met_in s event).volatile.pending ≡ []
met_calm s (Comes message moment) firm rolling = firm.rolling rolling
met_calm s (Ticks moment) firm rolling = firm.rolling rolling
met_calm s Renews firm rolling = firm.rolling rolling
met_calm s Restarts firm rolling = refl

turn_is_asked : (all : List (ReqId × Call)) (config : Config) (heard : Heard) (s : State) (t : Turn) → EndsOnce config (IsMadeWellFor config heard) s t → HearsOneOf all heard → (is_rolling s.durable.phase ≡ true → s.volatile.pending ≡ []) → AreAskedFor all s → IsAskedTurn all config heard s t
turn_is_asked all config heard s t turn hears calm k = record { waits = asked_stay all config heard s t turn hears calm k; sent = sent_are_for all config heard s t turn hears k; records = records_are_for all config heard s t turn hears k }

pub events_are_asked_for : EventsAreAskedFor
events_are_asked_for all config s event named heard y hears k =
    turn_is_asked all config (heard_in event) (met_in s event) (turn_of config s event) (events_stand_for config s event named heard y) hears (met_calm s event y.firm) (met_asked all s event k)

pub steps_are_asked_for : StepsAreAskedFor
steps_are_asked_for all config s moment y k =
    let t = and_then (for_each s (proposals s) (pressed moment)) granted in
    let turn = once_stands_also config None (IsFor None) s t (ticks_are_for config s moment y.firm (steps_fit s moment y.firm)) (all_steps_written s moment y).written y.firm.stands.kept in
    turn_is_asked all config None s t turn.0 (λ from req call is. absurd (none_some is)) y.firm.rolling k
  where
    none_some : {a : ℕ × Body} → ◌≡◌ {A = Option (ℕ × Body)} None (Some a) → ⊥
    none_some h = absurd (cc)

-- ---- a disk fails

some_first : (P : PlainEntry → Type 0) (n : ℕ) (xs : List PlainEntry) → AllByRecursion P xs → AllByRecursion P (take n xs)
some_first P zero xs all = tt
some_first P (suc n) [] all = tt
some_first P (suc n) (x ∷ xs) all = (all.0, some_first P n xs all.1)

one_at : (P : PlainEntry → Type 0) (n : ℕ) (xs : List PlainEntry) (x : PlainEntry) → AllByRecursion P xs → slice_get xs n ≡ Some x → P x
one_at P n [] x all is = absurd (none_entry is)
  where
    none_entry : {a : PlainEntry} → ◌≡◌ {A = Option PlainEntry} None (Some a) → ⊥
    none_entry h = absurd (cc)
one_at P zero (y ∷ xs) x all is = subst P (entry_is is) all.0
  where
    entry_is : {a b : PlainEntry} → ◌≡◌ {A = Option PlainEntry} (Some a) (Some b) → a ≡ b
    entry_is h = cc
one_at P (suc n) (y ∷ xs) x all is = one_at P n xs x all.1 is

pub cuts_are_asked_for : CutsAreAskedFor
cuts_are_asked_for all config heard s t place k = record { stand = some_first (IsRecordedFor all config heard s t) place t.records k.records; doubt = λ entry is. one_at (IsRecordedFor all config heard s t) place t.records entry k.records is }

pub runs_are_asked_for : RunsAreAskedFor
runs_are_asked_for all config s [] named heard y hears k = tt
runs_are_asked_for all config s (event ∷ events) named heard y hears k =
    let one = events_are_asked_for all config s event named.0 heard.0 y hears.0 k in
    (one, runs_are_asked_for all config (turn_of config s event).after events named.1 heard.1 (events_written config s event named.0 heard.0 y).steady hears.1 one.waits)
