-- A store of `World` is one that the laws speak of, with an account.
use Rattle.std.specs.Prelude.{[], ◌<◌, ◌^◌, ◌∷◌, ◌≡◌, Bool, List, true, ℕ}
use Rattle.gs_base.specs.declared.config.Config.{Config}
use Rattle.gs_block.specs.Written.{TellsApart}
use Rattle.gs_journal.specs.Faults.{Failing}
use Rattle.gs_journal.specs.Records.{fresh, standing}
use Rattle.gs_world.specs.Histories.{History, arms, failures_of, seen_of}
use Rattle.gs_world.specs.Runs.{RunsTo, Step}
use Rattle.gs_laws_world.specs.worlds.Worlds.{IsReachedSo}
use Rattle.gs_laws_chunks.specs.accounts.Accounts.{Account}
use Rattle.gs_laws_chunks.specs.accounts.Running.{AreAmong, IsReached, Setup}

-- the store of a world: over these disks, with so many clients; failures of its disks may be arranged, and may come by themselves
abbrev pub world_of : {D : Type 0} → (D → List ℕ) → (D → ℕ) → Config → ℕ → Failing D × Failing D → (List ℕ → Bool) → Setup (Failing D)
world_of seen failures config clients disks among =
    record { seen = seen_of seen; failures = failures_of failures; armed = arms; config = config; clients = clients; disks = disks; among = among; fails = true }

-- after each step of a run the blocks that servers have are among some
abbrev pub HaveBlocksAmong : {D : Type 0} (seen : D → List ℕ) (failures : D → ℕ) → (List ℕ → Bool) → (steps : List Step) (old new : History (Failing D)) → RunsTo (seen_of seen) (failures_of failures) arms steps old new → Type 0
HaveBlocksAmong seen failures among [] old new runs = Unit {0}
HaveBlocksAmong seen failures among (step ∷ steps) old new (mid, goes, rest) = AreAmong among mid.nodes × HaveBlocksAmong seen failures among steps mid new rest

-- A store of `World` that is reached within its types, over disks that said nothing, has an account, where different blocks that its servers ever had have different digests.
abbrev pub EachWorldHasAnAccount : Type 0 → Type 0
EachWorldHasAnAccount D = (seen : D → List ℕ) (failures : D → ℕ) (config : Config) (clients : ℕ) (disks : Failing D × Failing D) (now : History (Failing D)) (r : IsReachedSo (seen_of seen) (failures_of failures) arms config clients disks now)
    → standing (seen disks.0.disk) (seen disks.1.disk) ≡ fresh → clients < 2 ^ 32
    → (among : List ℕ → Bool) → among [] ≡ true → TellsApart among → HaveBlocksAmong seen failures among r.reached.steps r.reached.begun now r.reached.runs
    → (a : Account) × IsReached (world_of seen failures config clients disks among) now a
