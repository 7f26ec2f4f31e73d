-- To which call a location is told: the chunk stands at the place that the call named.
use Rattle.std.specs.Prelude.{[], ◌∷◌, ◌≡◌, ◌⊎◌, List, None, Some, codes, refl, slice_get, take, ℕ}
use Rattle.std.specs.FinMap as fin
use Rattle.gs_tree.specs.Edits.{chunks_in}
use Rattle.gs_tree.specs.Entry.{File}
use Rattle.std.specs.List.{AllByRecursion}
use Rattle.gs_base.specs.declared.config.Config.{Config}
use Rattle.gs_base.specs.declared.numbers.ReqId.{ReqId}
use Rattle.gs_edit.specs.View.{NamesView}
use Rattle.gs_lease.specs.declared.view.View.{View}
use Rattle.gs_msg.specs.declared.call.Call.{Call}
use Rattle.gs_msg.specs.declared.call.Call.TheVariants as calls
use Rattle.gs_msg.specs.declared.message.Message.{Message}
use Rattle.gs_path.specs.Path.{Path}
use Rattle.gs_laws_moves.specs.moves.Epochs.{EndsOnce}
use Rattle.gs_laws_moves.specs.moves.ForCalls.{IsLed, IsMadeWellFor, StandsAt}
use Rattle.gs_laws_moves.specs.moves.Guards.{Heard, IsLocatedBy}
use Rattle.gs_laws_moves.specs.moves.Locations.{IsLocatedWithin, IsToldIn, IsToldOnlyIf, KeepsLocation}
use Rattle.gs_laws_moves.specs.moves.Moves.{move_turn}
use Rattle.gs_master_spec.specs.Applied.{replayed}
use Rattle.gs_master_spec.specs.Durable.{Durable}
use Rattle.gs_master_spec.specs.State.{State, Turn}
use Rattle.gs_laws_lift.specs.calls.Waits.{AreAskedFor, HearsOneOf, WasCalled}

-- the chunk stands at the place that this call names
abbrev pub IsAtPlaceOf : NamesView → ℕ → Call → Type 0
IsAtPlaceOf names chunk (calls.FindForReading path index) = StandsAt names path index chunk
IsAtPlaceOf names chunk (calls.FindForWriting path index stamp) = StandsAt names path index chunk
IsAtPlaceOf names chunk (calls.Extend path index) = StandsAt names path index chunk
IsAtPlaceOf names chunk call = ⊥

-- a view that is told to a call to find the chunk for writing has a primary
abbrev pub IsLedFor : Call → View → Type 0
IsLedFor (calls.FindForWriting path index stamp) view = IsLed view
IsLedFor call view = Unit {0}

-- A move of the turn tells a call that was heard, now or before, where a chunk is. After that move the chunk stands at the place that the call named.
-- The view that is told is its settled one, the epoch is the one that stands, and no rollback goes on. The view has a primary where the call is to find the chunk for writing.
pub record IsToldFor (all : List (ReqId × Call)) (config : Config) (heard : Heard) (s : State) (t : Turn) (req : ReqId) (chunk : ℕ) (view : View) (epoch : ℕ) : Type 0 where
  pub within : IsLocatedWithin config (IsMadeWellFor config heard) s t req chunk view epoch
  pub call : Call
  pub was : WasCalled all req call
  pub here : IsAtPlaceOf (move_turn config within.before.after within.move).after.durable.names chunk call
  pub located : IsLocatedBy (move_turn config within.before.after within.move).after chunk view epoch
  pub led : IsLedFor call view

-- it was told before, or the turn tells it so
abbrev pub WasToldFor : List (ReqId × Call) → Config → Heard → State → Turn → ReqId → ℕ → View → ℕ → Type 0
WasToldFor all config heard s t req chunk view epoch = KeepsLocation s req chunk view epoch ⊎ IsToldFor all config heard s t req chunk view epoch

-- ---- what is to hold

-- This holds of each reply that a turn sends, where calls wait as they were heard.
abbrev pub SentAreFor : Type 0
SentAreFor = (all : List (ReqId × Call)) (config : Config) (heard : Heard) (s : State) (t : Turn) → EndsOnce config (IsMadeWellFor config heard) s t → HearsOneOf all heard → AreAskedFor all s →
    AllByRecursion (λ (m : Message). IsToldOnlyIf (WasToldFor all config heard s t) m.body) t.sent

-- It holds of each reply that is kept after the turn.
abbrev pub KeptAreFor : Type 0
KeptAreFor = (all : List (ReqId × Call)) (config : Config) (heard : Heard) (s : State) (t : Turn) (req : ReqId) (chunk : ℕ) (view : View) (epoch : ℕ) → EndsOnce config (IsMadeWellFor config heard) s t → HearsOneOf all heard → AreAskedFor all s →
    KeepsLocation t.after req chunk view epoch → WasToldFor all config heard s t req chunk view epoch

-- It holds of each reply that the records tell which stand, where a disk fails after some of them.
abbrev pub PartsTellFor : Type 0
PartsTellFor = (all : List (ReqId × Call)) (config : Config) (heard : Heard) (s : State) (t : Turn) (many : ℕ) (d : Durable) (req : ReqId) (chunk : ℕ) (view : View) (epoch : ℕ) → EndsOnce config (IsMadeWellFor config heard) s t → HearsOneOf all heard → AreAskedFor all s →
    replayed s.durable (take many t.records) ≡ Some d → IsToldIn d.replies req chunk view epoch → WasToldFor all config heard s t req chunk view epoch

-- ---- examples

abbrev f : Path
f = codes "f" ∷ []

at_the_place_that_was_asked : (names : NamesView) → IsAtPlaceOf names 7 (calls.Extend f 2) ≡ StandsAt names f 2 7
at_the_place_that_was_asked names = refl

-- another chunk stands there, so this one is no answer
another_chunk_is_no_answer : (names : NamesView) → fin.get names.tree f ≡ Some (File (8 ∷ [])) → IsAtPlaceOf names 7 (calls.FindForWriting f 0 None) → ⊥
another_chunk_is_no_answer names file here = never (eight file) here
  where
    eight : fin.get names.tree f ≡ Some (File (8 ∷ [])) → StandsAt names f 0 8
    eight is = λ i. slice_get (chunks_in (is i)) 0

    never : StandsAt names f 0 8 → StandsAt names f 0 7 → ⊥
    never a b = absurd (cc)

who_reads_needs_no_primary : (view : View) → IsLedFor (calls.FindForReading f 0) view
who_reads_needs_no_primary view = tt

no_place_of_a_scan : (names : NamesView) → IsAtPlaceOf names 7 calls.Scan → ⊥
no_place_of_a_scan names is = is
