-- What single moves make of the view that the master keeps of a chunk.
use Rattle.std.specs.Prelude.{◌≡◌, ◌⊎◌, ◌==◌, ℕ, Bool, false, None, List, is_some}
use Rattle.std.specs.FinMap as fin
use Rattle.gs_msg.specs.declared.message.Message.{Message}
use Rattle.gs_master_spec.specs.State.{State}
use Rattle.gs_laws_moves.specs.moves.Moves.{CommitsRollback, Move, Settles}
use Rattle.gs_laws_chunk.specs.machine.Machine.{ChunkWorld}
use Rattle.gs_laws_parts.specs.master.Telling.{FollowsMaster}

-- the view stays
abbrev pub IsUnmoved : ChunkWorld → ChunkWorld → Type 0
IsUnmoved w v = v.entry.view ≡ w.entry.view

-- A rollback was committed: where a view had been proposed, that one was never settled; the view that stands now was given back where the chunk is known, which it is where it has a row; and of one that isn't known nobody may number in the view.
pub record IsCommitted (chunk : ℕ) (u : State) (w v : ChunkWorld) : Type 0 where
  pub back : (w.known.view ≡ w.known.top) ⊎ (v.known.stood w.known.top ≡ false)
  pub given : v.known.stood v.known.view ≡ v.entry.is_known
  pub fades : v.entry.is_known ≡ false → v.entry.view.holder ≡ None
  pub row : v.entry.is_known ≡ is_some (fin.get u.durable.chunks chunk)

-- what each move makes of it, with the state behind the move: all but a settling of the chunk and a commit leave it
abbrev pub AsOf : (chunk : ℕ) → Move → (u : State) (w v : ChunkWorld) → Type 0
AsOf chunk (Settles q asking carried view) u w v = (q == chunk) ≡ false → IsUnmoved w v
AsOf chunk (CommitsRollback req names) u w v = IsCommitted chunk u w v
AsOf chunk move u w v = IsUnmoved w v

-- some events that lead to where a state is shown, with what is so of the world there
pub record FollowsAs (born chunk : ℕ) (whole : ℕ → Bool) (w : ChunkWorld) (u : State) (messages : List Message) (As : ChunkWorld → Type 0) : Type 0 where
  pub follows : FollowsMaster born chunk whole w u messages
  pub leaves : As follows.world
