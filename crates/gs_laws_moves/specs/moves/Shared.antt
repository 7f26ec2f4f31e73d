-- A chunk that stands in several places isn't leased.
use Rattle.std.specs.Prelude.{◌≡◌, ℕ, true, false, Some, None, refl}
use Rattle.std.specs.FinMap as fin
use Rattle.gs_base.specs.declared.config.Config.{Config}
use Rattle.gs_lease.specs.Transitions.{is_for_lease}
use Rattle.gs_lease.specs.declared.view.Purpose.TheVariants as purposes
use Rattle.gs_master_spec.specs.Calls.{is_shared}
use Rattle.gs_master_spec.specs.Durable.{Durable, Settled}
use Rattle.gs_master_spec.specs.Handling.{restarted}
use Rattle.gs_master_spec.specs.State.{State, Log}
use Rattle.gs_master_spec.specs.declared.asking.Asking.{Asking}
use Rattle.gs_laws_master.specs.Standing.{Event, IsFirm, IsNamed, turn_of}
use Rattle.gs_laws_moves.specs.moves.Guards.{Heard, IsMade}
use Rattle.gs_laws_moves.specs.moves.Moves.{Move, move_turn}

-- nobody has its lease
pub record HasNoTerm (d : Durable) (chunk : ℕ) : Type 0 where
  pub term : (settled : Settled) → fin.get d.chunks chunk ≡ Some settled → settled.view.term ≡ None

-- and nothing is asked for one
pub record IsUnleased (s : State) (chunk : ℕ) : Type 0 where
  pub term : HasNoTerm s.durable chunk
  pub asked : (asking : Asking) → fin.get s.volatile.moving chunk ≡ Some asking → is_for_lease asking.purpose ≡ false

-- So it is of each chunk with two references or more.
abbrev pub IsSharedSo : State → ℕ → Type 0
IsSharedSo s chunk = is_shared s.durable.names chunk ≡ true → IsUnleased s chunk

-- So it stays over each move that is made,
abbrev pub EachMoveSharesSo : Type 0
EachMoveSharesSo = (config : Config) (heard : Heard) (s : State) (move : Move) (chunk : ℕ) → IsMade config heard s move → IsSharedSo s chunk → IsSharedSo (move_turn config s move).after chunk

-- and so over each event of a firm master. What is durable tells the first part alone, and nothing is in memory at a start.
abbrev pub StaysSharedSo : Type 0
StaysSharedSo = (config : Config) (s : State) (event : Event) (chunk : ℕ) → IsNamed event → IsFirm s → IsSharedSo s chunk → IsSharedSo (turn_of config s event).after chunk

abbrev pub StartsSharedSo : Type 0
StartsSharedSo = (d : Durable) (log : Log) (chunk : ℕ) → (is_shared d.names chunk ≡ true → HasNoTerm d chunk) → IsSharedSo (restarted d log) chunk

-- ---- examples

a_view_is_quiet : is_for_lease purposes.Quiet ≡ false
a_view_is_quiet = refl
