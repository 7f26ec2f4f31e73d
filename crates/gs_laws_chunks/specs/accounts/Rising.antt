-- Epochs never fall.
use Rattle.std.specs.Prelude.{◌+◌, ◌≡◌, ◌≤◌, ◌⊎◌, List, true, ℕ}
use Rattle.std.proofs.Common.{arith, inr, refl}
use Rattle.gs_master_record.specs.declared.checkpoint.Phase.TheVariants.{Rolling, Upgrade}
use Rattle.gs_master_spec.specs.Durable.{Durable, is_ordinary, is_rolling, start}
use Rattle.gs_world.specs.Histories.{History}
use Rattle.gs_world.specs.Runs.{Step}
use Rattle.gs_laws_chunks.specs.accounts.Running.{IsGiven, IsToldAt, RunsBare, Setup}
use Rattle.gs_laws_world.specs.steady.Saying.{KeepsTypes}
use Rattle.gs_laws_world.specs.steady.Through.{LastsThrough}

-- The epoch is the same or a later one. Where it is the same, the phase is the same, or a rollback was committed.
pub record EpochRises (d e : Durable) : Type 0 where
  pub rises : d.epoch ≤ e.epoch
  pub stays : d.epoch ≡ e.epoch → (e.phase ≡ d.phase) ⊎ ((is_rolling d.phase ≡ true) × (is_ordinary e.phase ≡ true))

-- ---- what is to hold

-- So it is over each run, of what is told: by a master of which no disk has failed, or else by its disks.
abbrev pub EpochsNeverFall : {D : Type 0} → Setup D → Type 0
EpochsNeverFall {D} x = IsGiven x → (steps : List Step) (old new : History D) (d e : Durable) → RunsBare x steps old new → KeepsTypes old → LastsThrough x.seen old.nodes.master → IsToldAt x.seen old.nodes.master d → IsToldAt x.seen new.nodes.master e → EpochRises d e

-- ---- examples

a_rollback_begins_in_the_next_epoch : (epoch : ℕ) → EpochRises (record start { phase = Upgrade; epoch = epoch }) (record start { phase = Rolling; epoch = epoch + 1 })
a_rollback_begins_in_the_next_epoch epoch = record { rises = omega arith; stays = λ same. absurd (omega arith) }

it_is_committed_in_that : (epoch : ℕ) → EpochRises (record start { phase = Rolling; epoch = epoch }) (record start { epoch = epoch })
it_is_committed_in_that epoch = record { rises = omega arith; stays = λ same. inr (refl, refl) }
