-- What stays of a server that has rolled back, until the rollback is committed and just behind that.
use Rattle.std.specs.Prelude.{◌≡◌, ℕ, Bool, true, List, Some}
use Rattle.gs_base.specs.declared.epoch.EpochEnd.TheVariants.{Rollback}
use Rattle.gs_replica.specs.Stands.{Edit}
use Rattle.gs_laws_chunk.specs.machine.Stamps.{start_of}
use Rattle.gs_laws_chunk.specs.machine.Machine.{Member, ChunkWorld}
use Rattle.gs_laws_chunk.specs.machine.Events.{Learns, CommitsRollback, IsFit, Can, happens}
use Rattle.gs_laws_chunk.specs.machine.Laws.{prepared_list}

-- a rollback is begun, and in a later world it is still going on
pub record IsStillRolling (w last : ChunkWorld) : Type 0 where
  pub first : w.entry.is_rolling ≡ true
  pub still : last.entry.is_rolling ≡ true
  pub same : last.entry.epoch ≡ w.entry.epoch

-- The epoch and the promise stay. What is live then was live before; and a server that is intact then was so, with the same live replica.
pub record IsHeld (m n : Member) : Type 0 where
  pub epoch : n.epoch ≡ m.epoch
  pub promise : n.promise ≡ m.promise
  pub live : (edits : List Edit) → n.live ≡ Some edits → m.live ≡ Some edits
  pub intact : n.intact ≡ true → (m.intact ≡ true) × (n.live ≡ m.live)

-- so it is of a server that has learned of the rollback, in each world until the commit
abbrev pub RolledAreHeld : ChunkWorld → ChunkWorld → Type 0
RolledAreHeld w last = IsStillRolling w last → (me : ℕ) → (w.members me).epoch ≡ w.entry.epoch → IsHeld (w.members me) (last.members me)

-- what is live of such a server is under the first stamp of the epoch
abbrev pub RolledAreFirst : ChunkWorld → Type 0
RolledAreFirst w = w.entry.is_rolling ≡ true → (me : ℕ) (edits : List Edit) → (w.members me).epoch ≡ w.entry.epoch → (w.members me).live ≡ Some edits → (w.members me).promise ≡ start_of w.entry.epoch

-- A server that makes its image live as it learns of a rollback is intact, whatever was lost or damaged before.
abbrev pub LearnersAreIntact : ChunkWorld → Type 0
LearnersAreIntact w = (me : ℕ) (fails : Bool) (edits : List Edit) → ((happens w (Learns me Rollback fails)).members me).live ≡ Some edits → ((happens w (Learns me Rollback fails)).members me).intact ≡ true

-- Of a server whose image was sealed at the prepare, or brought by a copy since, and which has learned of the rollback: where it is intact at the
-- commit, it is live then and behind it with just the prepared list, which is that of the chunk if the commit keeps it.
pub record IsBack (w last : ChunkWorld) (members : List ℕ) (keeps : Bool) (me : ℕ) : Type 0 where
  pub held : IsHeld (w.members me) ((happens last (CommitsRollback members keeps)).members me)
  pub promise : ((happens last (CommitsRollback members keeps)).members me).promise ≡ start_of w.entry.epoch
  pub before : (last.members me).live ≡ Some (prepared_list w)
  pub behind : ((happens last (CommitsRollback members keeps)).members me).live ≡ Some (prepared_list w)
  pub list : keeps ≡ true → (happens last (CommitsRollback members keeps)).known.list (start_of w.entry.epoch) ≡ prepared_list w

abbrev pub SurvivorsAreBack : ChunkWorld → ChunkWorld → Type 0
SurvivorsAreBack w last = w.entry.is_rolling ≡ true → last.entry.epoch ≡ w.entry.epoch → w.entry.was_known ≡ true
    → (me : ℕ) → (w.members me).epoch ≡ w.entry.epoch → IsFit w.entry me → (last.members me).intact ≡ true
    → (members : List ℕ) (keeps : Bool) → Can last (CommitsRollback members keeps) → IsBack w last members keeps me
