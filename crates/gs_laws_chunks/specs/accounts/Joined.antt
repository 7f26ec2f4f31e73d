-- A chunk that is born, in one world of a run of a store: its machine shows the store, and the account of the run agrees with it.
use Rattle.std.specs.Prelude.{◌≡◌, ◌⊎◌, ℕ, List, Some, true}
use Rattle.gs_base.specs.declared.numbers.ReqId.{ReqId}
use Rattle.gs_world.specs.Histories.{History}
use Rattle.gs_laws_chunk.specs.machine.Machine.{Entry, ChunkWorld}
use Rattle.gs_laws_chunk.specs.machine.Events.{Leads}
use Rattle.gs_laws_chunk.specs.machine.Laws.{IsUpgrading}
use Rattle.gs_laws_parts.specs.master.Showing.{ShowsDurable}
use Rattle.gs_laws_lift.specs.stores.Showing.{AreToldApart, IsAlive, Keeps}
use Rattle.gs_laws_chunks.specs.accounts.Accounts.{Account}
use Rattle.gs_laws_chunks.specs.accounts.Running.{Setup}
use Rattle.gs_master_spec.specs.Durable.{Durable, is_listed, is_upgrade, upgrade_epoch}
use Rattle.gs_laws_chunks.specs.accounts.Agreeing.{Agrees, ListsStay}

-- Whom a rollback may take the chunk from, by what is known: a member of the view of the prepare that began this epoch, or a server that has promised within
-- the epoch with a copy that carried the sealed image.
abbrev pub WasFit : ChunkWorld → ℕ → ℕ → Type 0
WasFit w e j = (w.known.members (w.known.prepared e) j ≡ true) ⊎ (w.known.carries e j ≡ true)

-- Who survives by the account, of those from whom a rollback may take the chunk, is intact in the machine.
abbrev pub IsIntact : Account → ℕ → ChunkWorld → Type 0
IsIntact a chunk w = (e j : ℕ) → IsUpgrading w e → w.entry.was_known ≡ true → WasFit w e j → a.intact chunk j ≡ true → (w.members j).intact ≡ true

module _ {D : Type 0} (x : Setup D) (bytes : ReqId → List ℕ) (chunk : ℕ) (now : History D) (a : Account) where
  -- What the account says of the chunk is what its machine has; while an upgrade stands, or is being rolled back, who survives by the account is intact there,
  -- of those from whom a rollback may take the chunk. What the records tell is shown. And digests tell what each server keeps of the chunk from what that
  -- stands for.
  pub record IsSeen : Type 0 where
    pub alive : IsAlive x.seen x.config bytes chunk now
    pub agrees : Agrees a now.sent chunk alive.reached.0 alive.world
    pub intact : IsIntact a chunk alive.world
    pub keeps : Keeps x.config bytes now
    pub apart : AreToldApart chunk now alive.world
    pub told : ShowsDurable chunk a.durable alive.world.entry

-- From one world of a run to a later one the machine of a chunk that is born leads on, from the same birth; and what the account had as the machine of views
-- that stood it has so still.
pub record SeenOn {D : Type 0} (x : Setup D) (bytes : ReqId → List ℕ) (chunk : ℕ) (now : History D) (a : Account) (later : History D) (b : Account) (first : IsSeen x bytes chunk now a) (last : IsSeen x bytes chunk later b) : Type 0 where
  pub same : last.alive.reached.0 ≡ first.alive.reached.0
  pub leads : Leads first.alive.world last.alive.world
  pub lists : ListsStay chunk a first.alive.world b last.alive.world

-- Right behind an accepted prepare a chunk that a file has was known at the prepare, and its settled view is the prepared one.
abbrev pub IsJustPrepared : ℕ → Durable → Entry → Type 0
IsJustPrepared chunk d e = is_listed d chunk ≡ true → (e.was_known ≡ true) × (e.prepared.stamp ≡ e.view.stamp)

-- A chunk is seen in the world right behind an accepted prepare, and in a later one, in which the records tell that this upgrade stands, or is being rolled back.
pub record SeenSince {D : Type 0} (x : Setup D) (bytes : ReqId → List ℕ) (chunk : ℕ) (prepared : History D) (before : Account) (now : History D) (after : Account) : Type 0 where
  pub first : IsSeen x bytes chunk prepared before
  pub last : IsSeen x bytes chunk now after
  pub on : SeenOn x bytes chunk prepared before now after first last
  pub begun : is_upgrade before.durable.phase ≡ true
  pub settled : IsJustPrepared chunk before.durable first.alive.world.entry
  pub still : upgrade_epoch after.durable.phase after.durable.epoch ≡ Some before.durable.epoch
