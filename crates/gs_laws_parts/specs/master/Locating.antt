-- A view of which a look-up tells is settled behind the turn in which it is told.
use Rattle.std.specs.Prelude.{◌≡◌, ◌⊎◌, ℕ, Bool, true, false, Some}
use Rattle.std.specs.FinMap as fin
use Rattle.std.specs.List.{AllByRecursion}
use Rattle.gs_base.specs.declared.config.Config.{Config}
use Rattle.gs_base.specs.declared.numbers.ReqId.{ReqId}
use Rattle.gs_lease.specs.declared.view.View.{View}
use Rattle.gs_msg.specs.declared.message.Message.{Message}
use Rattle.gs_master_spec.specs.Applied.{view_in}
use Rattle.gs_master_spec.specs.Durable.{Durable, is_listed, is_rolling}
use Rattle.gs_master_spec.specs.State.{State, Turn}
use Rattle.gs_laws_moves.specs.moves.Asked.{WasHeard}
use Rattle.gs_laws_moves.specs.moves.Epochs.{EndsOnce, is_alone}
use Rattle.gs_laws_moves.specs.moves.Guards.{Heard, IsSettledOn}
use Rattle.gs_laws_moves.specs.moves.Laws.{IsMadeWell}
use Rattle.gs_laws_moves.specs.moves.Locations.{IsToldOnlyIf, KeepsLocation, Locates}
use Rattle.gs_laws_moves.specs.moves.Moves.{Chain, Move, move_turn}
use Rattle.gs_laws_chunk.specs.machine.Machine.{ChunkWorld}
use Rattle.gs_laws_chunk.specs.machine.Laws.{IsReached}
use Rattle.gs_laws_parts.specs.master.Chains.{AreLive}
use Rattle.gs_laws_parts.specs.master.Families.{Family, HeardOf, MarksOf}
use Rattle.gs_laws_parts.specs.master.Telling.{Says, Shows}

-- A file has the chunk, and its view that was settled last is this one.
abbrev pub IsListedOn : Durable → ℕ → View → Type 0
IsListedOn d chunk view = (is_listed d chunk ≡ true) × (view_in (fin.get d.chunks chunk) ≡ Some view)

-- A chunk that a file has, and that is settled with no other view proposed, is settled on the same view behind moves of which none is alone: nobody can promise a view that is proposed among them.
abbrev pub SettledStay : Type 0
SettledStay = (chunk : ℕ) (whole : ℕ → Bool) (config : Config) (heard : Heard) (s : State) (t : Turn) (w : ChunkWorld) (view : View) → IsReached w → AreLive whole w → Shows chunk s w → WasHeard (Says chunk w) heard → IsSettledOn s chunk view → is_listed s.durable chunk ≡ true
    → Chain config (λ u move. IsMadeWell config heard u move × (is_alone move ≡ false)) s t → IsListedOn t.after.durable chunk view

-- A look-up tells so where this is durable: a file has the chunk, this is its view that was settled last, this is the epoch, and nothing is rolled back.
pub record IsLookedUpIn (d : Durable) (chunk : ℕ) (view : View) (epoch : ℕ) : Type 0 where
  pub listed : is_listed d chunk ≡ true
  pub settled : view_in (fin.get d.chunks chunk) ≡ Some view
  pub now : d.epoch ≡ epoch
  pub calm : is_rolling d.phase ≡ false

-- a chunk that is told of by a move which isn't alone is looked up so behind all moves that follow in its turn
abbrev pub MovesLocate : Type 0
MovesLocate = (whole : ℕ → ℕ → Bool) (config : Config) (heard : Heard) (s : State) (family : Family s) → ((chunk : ℕ) → HeardOf chunk s heard (family chunk)) → ((chunk : ℕ) → MarksOf chunk s (whole chunk) (family chunk))
    → (move : Move) (t : Turn) (caller : ReqId) (chunk : ℕ) (view : View) (epoch : ℕ) → IsMadeWell config heard s move → is_alone move ≡ false → Locates s move caller chunk view epoch
    → Chain config (λ u m. IsMadeWell config heard u m × (is_alone m ≡ false)) (move_turn config s move).after t → IsLookedUpIn t.after.durable chunk view epoch

-- It was told before, or is looked up where this is durable.
abbrev pub IsToldSo : State → Durable → (caller : ReqId) (chunk : ℕ) → View → (epoch : ℕ) → Type 0
IsToldSo s d caller chunk view epoch = KeepsLocation s caller chunk view epoch ⊎ IsLookedUpIn d chunk view epoch

-- So it is of each reply that is kept behind a turn that ends one epoch at most,
abbrev pub KeptAreLookedUp : Type 0
KeptAreLookedUp = (whole : ℕ → ℕ → Bool) (config : Config) (heard : Heard) (s : State) (t : Turn) (family : Family s) → ((chunk : ℕ) → HeardOf chunk s heard (family chunk)) → ((chunk : ℕ) → MarksOf chunk s (whole chunk) (family chunk))
    → EndsOnce config (IsMadeWell config heard) s t → (caller : ReqId) (chunk : ℕ) (view : View) (epoch : ℕ) → KeepsLocation t.after caller chunk view epoch → IsToldSo s t.after.durable caller chunk view epoch

-- and of each that is sent.
abbrev pub SentAreLookedUp : Type 0
SentAreLookedUp = (whole : ℕ → ℕ → Bool) (config : Config) (heard : Heard) (s : State) (t : Turn) (family : Family s) → ((chunk : ℕ) → HeardOf chunk s heard (family chunk)) → ((chunk : ℕ) → MarksOf chunk s (whole chunk) (family chunk))
    → EndsOnce config (IsMadeWell config heard) s t → AllByRecursion (λ (m : Message). IsToldOnlyIf (IsToldSo s t.after.durable) m.body) t.sent
