-- A store of `World` that is reached has an account.
use Rattle.std.proofs.lemmas.Bool.{true≢false}
use Rattle.std.proofs.Common.{◌∷◌, ℕ, Bool, List, [], refl}
use Rattle.std.specs.List.{AllByRecursion}
use Rattle.gs_base.specs.declared.config.Config.{Config}
use Rattle.gs_journal.specs.Faults.{Failing, armed}
use Rattle.gs_msg.specs.declared.event.DiskId.{DiskId}
use Rattle.gs_msg.specs.declared.event.DiskId.TheVariants.{First, Second}
use Rattle.gs_nodes.specs.declared.place.MasterPlace.{MasterPlace}
use Rattle.gs_nodes.specs.declared.place.MasterPlace.TheVariants.{Away, Closed, Standing}
use Rattle.gs_world.specs.Histories.{History, arms, failures_of, fault_at, seen_of}
use Rattle.gs_world.specs.Runs.{RunsTo, Step}
use Rattle.gs_laws_world.specs.steady.Saying.{IsStepWithin}
use Rattle.gs_laws_chunks.proofs.lemmas.accounts.Through.{have_accounts}
use Rattle.gs_laws_chunks.specs.accounts.Reaching.{EachWorldHasAnAccount, HaveBlocksAmong, world_of}
use Rattle.gs_laws_chunks.specs.accounts.Running.{IsArmed, IsGiven, RunsBare}

module _ {D : Type 0} (seen : D → List ℕ) (failures : D → ℕ) where
  -- a failure that is arranged changes nothing that is seen
  arms_are : (disk : DiskId) (call : ℕ) (place : MasterPlace (Failing D)) → IsArmed (seen_of seen) place (arms disk call place)
  arms_are First call (Standing m) = (record m.journal { first = armed m.journal.first (fault_at call) }, refl, record { first = refl; second = refl; others = refl })
  arms_are First call (Closed first second) = (armed first (fault_at call), second, refl, refl, refl)
  arms_are First call Away = refl
  arms_are Second call (Standing m) = (record m.journal { second = armed m.journal.second (fault_at call) }, refl, record { first = refl; second = refl; others = refl })
  arms_are Second call (Closed first second) = (first, armed second (fault_at call), refl, refl, refl)
  arms_are Second call Away = refl

  module _ (config : Config) (clients : ℕ) (disks : Failing D × Failing D) (among : List ℕ → Bool) where
    -- the steps are such as runs are made of
    runs_any : (steps : List Step) (old new : History (Failing D)) (runs : RunsTo (seen_of seen) (failures_of failures) arms steps old new) → AllByRecursion IsStepWithin steps → HaveBlocksAmong seen failures among steps old new runs
        → RunsBare (world_of seen failures config clients disks among) steps old new
    runs_any [] old new same within ever = same
    runs_any (step ∷ steps) old new (mid, goes, rest) within ever = (mid, record { goes = goes; within = within.0; among = ever.0; sound = λ none. absurd (true≢false none) }, runs_any steps mid new rest within.1 ever.1)

pub each_world_has_an_account : (D : Type 0) → EachWorldHasAnAccount D
each_world_has_an_account D seen failures config clients disks now r none few among empty apart ever =
    let x = world_of seen failures config clients disks among in
    let given : IsGiven x = record { new = none; few = few; armed = arms_are seen failures; empty = empty } in
    let has = have_accounts x r.reached.begun now r.reached.steps given r.reached.begins (runs_any seen failures config clients disks among r.reached.steps r.reached.begun now r.reached.runs r.within ever) in
    (has.1, record { apart = apart; begun = r.reached.begun; first = has.0; steps = r.reached.steps; begins = has.2; runs = has.3 })
