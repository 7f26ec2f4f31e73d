-- A turn ends one epoch at most, and settles nothing beside; and so it is of one that forgets chunks, or answers a look-up at once.
use Rattle.std.specs.Prelude.{◌+◌, ◌&&◌, ◌||◌, ◌≡◌, ℕ, Bool, true, false, not, refl, slice_get, [], Option, Some, None}
use Rattle.std.specs.FinMap as fin
use Rattle.gs_base.specs.declared.config.Config.{Config}
use Rattle.gs_base.specs.declared.epoch.EpochEnd.TheVariants as ends
use Rattle.gs_base.specs.declared.numbers.Moment.{Moment}
use Rattle.gs_base.specs.declared.refusal.Refusal.{Refusal}
use Rattle.gs_laws_master.specs.Promises.{AllFit, IsKept, IsWritten}
use Rattle.gs_laws_master.specs.Standing.{Event, IsFirm, IsNamed, turn_of}
use Rattle.gs_master_record.specs.declared.checkpoint.Phase.TheVariants.{Ordinary, Upgrade, Rolling}
use Rattle.gs_master_spec.specs.Durable.{Durable, is_ordinary, is_rolling, is_upgrade, start}
use Rattle.gs_master_spec.specs.Handling.{granted, pressed, proposals}
use Rattle.gs_master_spec.specs.State.{State, Turn, and_then, for_each, joined}
use Rattle.gs_laws_moves.specs.moves.Guards.{Heard, IsMade, is_location}
use Rattle.gs_laws_moves.specs.moves.Laws.{IsMadeWell, heard_in, met_in}
use Rattle.gs_laws_moves.specs.moves.Moves.{Answers, BeginsRollback, Chain, CommitsRollback, Finalizes, Move, Prepares, Refuses, Scans, TellsRollback, move_turn}

-- moves that make a turn by themselves: those by which an epoch ends, or a rollback is done, the one that forgets chunks, and a look-up that is answered at once
abbrev pub is_alone : Move → Bool
is_alone (Scans removed forgotten) = true
is_alone (Prepares req moment) = true
is_alone (Finalizes req) = true
is_alone BeginsRollback = true
is_alone (CommitsRollback req names) = true
is_alone (Answers req answer over) = is_location answer && not over
is_alone move = false

-- of these, those behind which calls end
abbrev pub is_followed : Move → Bool
is_followed (Scans removed forgotten) = true
is_followed BeginsRollback = true
is_followed move = false

-- moves by which calls end: they are refused or answered, and servers are told of the rollback; no look-up is answered so that didn't wait
abbrev pub closes : Move → Bool
closes (Refuses req refusal over) = true
closes (Answers req answer over) = over || not (is_location answer)
closes (TellsRollback req epoch) = true
closes move = false

-- A turn is a chain of moves of which none is alone; or it is one that is; or it is a scan, or the beginning of a rollback, behind which there are only moves by which calls end.
pub data EndsOnce (config : Config) (Holds : State → Move → Type 0) : State → Turn → Type 0 where
  Within : (s : State) (t : Turn) → Chain config (λ u move. Holds u move × (is_alone move ≡ false)) s t → EndsOnce config Holds s t
  ByItself : (s : State) (move : Move) (said : Option Refusal) → Holds s move → is_alone move ≡ true → EndsOnce config Holds s (record (move_turn config s move) { said = said })
  Closes : (s : State) (move : Move) (said : Option Refusal) (next : Turn) → Holds s move → is_followed move ≡ true → Chain config (λ u move. Holds u move × (closes move ≡ true)) (move_turn config s move).after next
      → EndsOnce config Holds s (joined (record (move_turn config s move) { said = said }) next)

-- So is each event of a firm master, and each move of it is made.
abbrev pub EventsEndOnce : Type 0
EventsEndOnce = (config : Config) (s : State) (event : Event) → IsNamed event → IsFirm s → EndsOnce config (IsMade config (heard_in event)) (met_in s event) (turn_of config s event)

-- So is what a tick does before it writes a checkpoint that is due, where memory is wanting for that one.
abbrev pub TicksEndOnce : Type 0
TicksEndOnce = (config : Config) (s : State) (moment : Moment) → IsFirm s → AllFit s (and_then (for_each s (proposals s) (pressed moment)) granted) → EndsOnce config (IsMade config None) s (and_then (for_each s (proposals s) (pressed moment)) granted)

-- What is durable stands before and behind each move of it, where its records can all be written.
pub record EndsOnceWell (config : Config) (heard : Heard) (s : State) (t : Turn) : Type 0 where
  pub turn : EndsOnce config (IsMadeWell config heard) s t
  pub behind : IsKept t.after.durable

abbrev pub OnceStands : Type 0
OnceStands = (config : Config) (heard : Heard) (s : State) (t : Turn) → EndsOnce config (IsMade config heard) s t → IsWritten t → IsKept s.durable → EndsOnceWell config heard s t

-- ---- epochs

-- a prepare and the commit of a rollback, as the records tell them
abbrev pub prepares : Durable → Durable → Bool
prepares old new = is_ordinary old.phase && is_upgrade new.phase

abbrev pub rolls_back : Durable → Durable → Bool
rolls_back old new = is_rolling old.phase && is_ordinary new.phase

-- What becomes of the epoch and of the phase. Behind a prepare nothing was changed yet.
pub data EpochGoes (d e : Durable) : Type 0 where
  Stays : e.epoch ≡ d.epoch → e.phase ≡ d.phase → EpochGoes d e
  Prepared : e.epoch ≡ d.epoch + 1 → d.phase ≡ Ordinary → e.phase ≡ Upgrade → e.inverses ≡ [] → ((chunk : ℕ) → fin.get e.prepared chunk ≡ None) → EpochGoes d e
  Finalized : e.epoch ≡ d.epoch + 1 → d.phase ≡ Upgrade → e.phase ≡ Ordinary → slice_get e.ends d.epoch ≡ Some ends.Finalize → EpochGoes d e
  Begun : e.epoch ≡ d.epoch + 1 → d.phase ≡ Upgrade → e.phase ≡ Rolling → slice_get e.ends d.epoch ≡ Some ends.Rollback → EpochGoes d e
  Committed : e.epoch ≡ d.epoch → d.phase ≡ Rolling → e.phase ≡ Ordinary → EpochGoes d e

-- So it is over each turn that ends one epoch at most.
abbrev pub EpochsGo : Type 0
EpochsGo = (config : Config) (heard : Heard) (s : State) (t : Turn) → EndsOnce config (IsMadeWell config heard) s t → EpochGoes s.durable t.after.durable

-- Where no move of a chain is alone, both stay.
abbrev pub IsSameEpoch : Durable → Durable → Type 0
IsSameEpoch d e = (e.epoch ≡ d.epoch) × (e.phase ≡ d.phase)

abbrev pub WithinStays : Type 0
WithinStays = (config : Config) (heard : Heard) (s : State) (t : Turn) → Chain config (λ u move. IsMade config heard u move × (is_alone move ≡ false)) s t → IsSameEpoch s.durable t.after.durable

-- ---- examples

a_prepare : (epoch : ℕ) → prepares start (record start { phase = Upgrade; epoch = epoch }) ≡ true
a_prepare epoch = refl

a_rollback_that_is_begun_is_not_done : rolls_back (record start { phase = Upgrade }) (record start { phase = Rolling }) ≡ false
a_rollback_that_is_begun_is_not_done = refl

its_commit : rolls_back (record start { phase = Rolling }) start ≡ true
its_commit = refl
