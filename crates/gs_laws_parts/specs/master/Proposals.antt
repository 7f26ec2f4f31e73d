-- What is to hold of moves that propose a view, that settle one, and that prepare an upgrade.
use Rattle.std.specs.Prelude.{◌≡◌, ◌==◌, ℕ, Bool, true, false, is_some}
use Rattle.gs_base.specs.declared.config.Config.{Config}
use Rattle.gs_base.specs.declared.numbers.Moment.{Moment}
use Rattle.gs_base.specs.declared.numbers.ReqId.{ReqId}
use Rattle.gs_lease.specs.declared.view.View.{View}
use Rattle.gs_master_spec.specs.State.{State}
use Rattle.gs_master_spec.specs.declared.asking.Asking.{Asking}
use Rattle.gs_laws_master.specs.Promises.{IsKept}
use Rattle.gs_laws_moves.specs.moves.Asked.{WasHeard}
use Rattle.gs_laws_moves.specs.moves.Guards.{Heard, IsMade}
use Rattle.gs_laws_moves.specs.moves.Moves.{Begins, Copies, Makes, Move, Prepares, Settles, move_turn}
use Rattle.gs_laws_chunk.specs.machine.Machine.{ChunkWorld}
use Rattle.gs_laws_parts.specs.master.Single.{FollowsAs, IsUnmoved}
use Rattle.gs_laws_parts.specs.master.Telling.{Shows}
use Rattle.gs_laws_parts.specs.master.Telling as telling

-- a view of a chunk is proposed: of one that is known, or of a new one
abbrev pub is_proposal : Move → Bool
is_proposal (Begins chunk purpose call beside) = true
is_proposal (Makes targets req path) = true
is_proposal (Copies old view req beside) = true
is_proposal move = false

-- Of a chunk that is shown, whose handle was given, such a move is some events: the members of its view, which stays, are asked to go on.
abbrev pub ProposalsFollow : Type 0
ProposalsFollow = (born chunk : ℕ) (whole : ℕ → Bool) (config : Config) (heard : Heard) (s : State) (move : Move) (w : ChunkWorld) → is_proposal move ≡ true → Shows chunk s w → WasHeard (telling.Says chunk w) heard → IsMade config heard s move
    → FollowsAs born chunk whole w (move_turn config s move).after (move_turn config s move).sent (IsUnmoved w)

-- So is a view that is settled, with who took the image of the chunk before it, and with the lease behind it; that of another chunk leaves the view.
abbrev pub SettlingsFollow : Type 0
SettlingsFollow = (born chunk : ℕ) (whole : ℕ → Bool) (config : Config) (heard : Heard) (s : State) (q : ℕ) (asking : Asking) (carried : Bool) (view : View) (w : ChunkWorld) → Shows chunk s w → WasHeard (telling.Says chunk w) heard
    → IsMade config heard s (Settles q asking carried view) → FollowsAs born chunk whole w (move_turn config s (Settles q asking carried view)).after (move_turn config s (Settles q asking carried view)).sent (λ v. (q == chunk) ≡ false → IsUnmoved w v)

-- So is a prepare, which leaves the view, where it is said which servers have a live replica that is whole.
abbrev pub PreparesFollow : Type 0
PreparesFollow = (born chunk : ℕ) (whole : ℕ → Bool) (config : Config) (heard : Heard) (s : State) (req : ReqId) (moment : Moment) (w : ChunkWorld) → ((j : ℕ) → whole j ≡ true → is_some (w.members j).live ≡ true) → IsKept s.durable
    → Shows chunk s w → WasHeard (telling.Says chunk w) heard → IsMade config heard s (Prepares req moment) → FollowsAs born chunk whole w (move_turn config s (Prepares req moment)).after (move_turn config s (Prepares req moment)).sent (IsUnmoved w)
