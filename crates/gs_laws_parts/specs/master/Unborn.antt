-- A chunk whose handle wasn't given yet: the master knows nothing of it, and says nothing of it.
use Rattle.std.specs.Prelude.{◌≡◌, ◌≤◌, ◌⊎◌, ℕ, true, false, List, [], None}
use Rattle.std.specs.FinMap as fin
use Rattle.std.specs.List.{AllByRecursion}
use Rattle.gs_base.specs.Members.{is_member}
use Rattle.gs_base.specs.Told.{IsNumber}
use Rattle.gs_base.specs.declared.config.Config.{Config}
use Rattle.gs_base.specs.declared.epoch.EpochEnd.TheVariants as ends
use Rattle.gs_lease.specs.declared.view.View.{View}
use Rattle.gs_msg.specs.declared.body.Body.{Body}
use Rattle.gs_msg.specs.declared.body.Body.TheVariants as bodies
use Rattle.gs_msg.specs.declared.message.Message.{Message}
use Rattle.gs_replica.specs.Stands.{Edit}
use Rattle.gs_master_spec.specs.Durable.{Durable, is_given}
use Rattle.gs_master_spec.specs.Handling.{restarted}
use Rattle.gs_master_spec.specs.State.{State, Log, Turn}
use Rattle.gs_laws_moves.specs.moves.Asked.{IsAskedSo, WasHeard}
use Rattle.gs_laws_moves.specs.moves.Guards.{Heard, MayCopy}
use Rattle.gs_laws_moves.specs.moves.Laws.{IsMadeWell}
use Rattle.gs_laws_moves.specs.moves.Moves.{Move, move_turn}
use Rattle.gs_laws_chunk.specs.machine.Laws.{IsNumbered}
use Rattle.gs_laws_chunk.specs.machine.Machine.{ChunkWorld}
use Rattle.gs_laws_chunk.specs.machine.Events.{born}
use Rattle.gs_laws_parts.specs.master.Births.{IsBorn}
use Rattle.gs_laws_parts.specs.master.Showing.{Rises}
use Rattle.gs_laws_parts.specs.master.Telling.{Says}

-- a world in which nothing was said
abbrev pub silent : ChunkWorld
silent = born 0 (λ epoch. ends.Finalize) []

-- What is durable has no view of it, of now or of a prepare; and its handle wasn't given, if it is one of 64 bits: others never are.
pub record IsUngiven (chunk : ℕ) (d : Durable) : Type 0 where
  pub handle : IsNumber d.next_handle
  pub given : IsNumber chunk → is_given d.next_handle chunk ≡ false
  pub settled : fin.get d.chunks chunk ≡ None
  pub prepared : fin.get d.prepared chunk ≡ None

-- The handle wasn't given: the chunk isn't new, nothing is asked for it, and no server has named it. Each new chunk's handle was given.
pub record IsUnborn (chunk : ℕ) (s : State) : Type 0 where
  pub counter : IsNumber s.durable.next_version
  pub ungiven : IsUngiven chunk s.durable
  pub placed : is_member s.volatile.unplaced chunk ≡ false
  pub unasked : fin.get s.volatile.moving chunk ≡ None
  pub said : IsAskedSo (Says chunk silent) s chunk
  pub new : (q : ℕ) → is_member s.volatile.unplaced q ≡ true → is_given s.durable.next_handle q ≡ true

-- a message says nothing of the chunk, and tells of epochs up to this one
abbrev pub SaysNothingIn : ℕ → ℕ → Body → Type 0
SaysNothingIn chunk epoch (bodies.About handle said) = handle ≡ chunk → ⊥
SaysNothingIn chunk epoch (bodies.MakeCopy old at new stamp) = (old ≡ chunk → ⊥) × (new ≡ chunk → ⊥)
SaysNothingIn chunk epoch (bodies.Epoch told end) = told ≤ epoch
SaysNothingIn chunk epoch body = Unit {0}

abbrev pub SaysNothing : ℕ → ℕ → Message → Type 0
SaysNothing chunk epoch m = SaysNothingIn chunk epoch m.body

-- so it goes on
pub record StaysUnborn (chunk : ℕ) (s : State) (t : Turn) : Type 0 where
  pub unborn : IsUnborn chunk t.after
  pub rises : Rises s.durable t.after.durable
  pub says : AllByRecursion (SaysNothing chunk t.after.durable.epoch) t.sent

-- It stays so, or is made, or copied from another, with whatever edits it is given.
abbrev pub GoesUnborn : ℕ → State → Turn → Type 0
GoesUnborn chunk s t = StaysUnborn chunk s t
    ⊎ (Rises s.durable t.after.durable × (IsBorn chunk [] t.after t.sent ⊎ ((old : ℕ) × (view : View) × MayCopy s old view × ((origin : List Edit) → IsNumbered origin → IsBorn chunk origin t.after t.sent))))

-- So it is of each move, where servers say nothing of the chunk.
abbrev pub EachMoveGoesUnborn : Type 0
EachMoveGoesUnborn = (chunk : ℕ) (config : Config) (heard : Heard) (s : State) (move : Move) → WasHeard (Says chunk silent) heard → IsMadeWell config heard s move → IsUnborn chunk s → GoesUnborn chunk s (move_turn config s move)

-- A master that is started again is such as it was.
abbrev pub RestartsUnborn : Type 0
RestartsUnborn = (chunk : ℕ) (d : Durable) (log : Log) → IsNumber d.next_version → IsUngiven chunk d → IsUnborn chunk (restarted d log)
