-- What a script leaves is a store that is reached, with an account.
use Rattle.std.proofs.lemmas.Bool.{true≢false}
use Rattle.std.proofs.Common.{true, false, ◌<◌, ◌^◌, ℕ, Bool, List, [], ◌∷◌, refl, arith}
use Rattle.std.specs.List.{AllByRecursion}
use Rattle.gs_base.specs.declared.config.Config.{Config}
use Rattle.gs_shell_desk.specs.Ways.{way_of}
use Rattle.gs_msg.specs.declared.event.DiskId.{DiskId}
use Rattle.gs_world.specs.Histories.{History}
use Rattle.gs_world.specs.Runs.{RunsTo, Step}
use Rattle.gs_laws_chunks.specs.desks.Reached.{history}
use Rattle.gs_laws_world.specs.steady.Unarmed.{unarmed}
use Rattle.gs_laws_world.specs.steady.Saying.{IsStepWithin, RunsQuietly}
use Rattle.gs_nodes.specs.declared.place.MasterPlace.{MasterPlace}
use Rattle.gs_nodes.specs.declared.place.MasterPlace.TheVariants.{Standing, Closed, Away}
use Rattle.gs_laws_chunks.proofs.lemmas.accounts.Through.{have_accounts}
use Rattle.gs_laws_chunks.specs.accounts.Running.{IsArmed, IsGiven, RunsBare}
use Rattle.gs_laws_scripts.specs.runs.Scripts.{AnyScriptIsReached, EachScriptIsReached, setup_of}
use Rattle.gs_laws_chunks.specs.accounts.Among.{AreAlways, AreEver}

module _ {D : Type 0} (seen : D → List ℕ) (failures : D → ℕ) (config : Config) (disks : D × D) (among : List ℕ → Bool) where
  -- no failure is arranged
  none_armed : (disk : DiskId) (call : ℕ) (place : MasterPlace D) → IsArmed seen place (unarmed disk call place)
  none_armed disk call (Standing m) = (m.journal, refl, record { first = refl; second = refl; others = refl })
  none_armed disk call (Closed first second) = (first, second, refl, refl, refl)
  none_armed disk call Away = refl

  -- the steps are such as runs are made of
  runs_bare : (steps : List Step) (old new : History D) (runs : RunsQuietly seen failures unarmed steps old new) → AllByRecursion IsStepWithin steps → AreAlways seen failures among steps old new runs → RunsBare (setup_of seen failures config disks among false) steps old new
  runs_bare [] old new same within always = same
  runs_bare (step ∷ steps) old new (mid, goes, quiet, rest) within always = (mid, record { goes = goes; within = within.0; among = always.0; sound = λ never. quiet }, runs_bare steps mid new rest within.1 always.1)

  -- those in which disks fail too
  runs_any : (steps : List Step) (old new : History D) (runs : RunsTo seen failures unarmed steps old new) → AllByRecursion IsStepWithin steps → AreEver seen failures among steps old new runs → RunsBare (setup_of seen failures config disks among true) steps old new
  runs_any [] old new same within ever = same
  runs_any (step ∷ steps) old new (mid, goes, rest) within ever = (mid, record { goes = goes; within = within.0; among = ever.0; sound = λ none. absurd (true≢false none) }, runs_any steps mid new rest within.1 ever.1)

pub each_script_is_reached : (D : Type 0) → EachScriptIsReached D
each_script_is_reached D seen failures config disks desk r none runs among empty apart always =
    let x = setup_of seen failures config disks among false in
    let now = history r.sent (way_of desk.wire) in
    let given : IsGiven x = record { new = none; few = (let h : 1 < 2 ^ 32 = omega arith in h); armed = none_armed seen failures config disks among; empty = empty } in
    let has = have_accounts x r.reached.begun now r.reached.steps given r.reached.begins (runs_bare seen failures config disks among r.reached.steps r.reached.begun now runs r.within always) in
    (has.1, record { apart = apart; begun = r.reached.begun; first = has.0; steps = r.reached.steps; begins = has.2; runs = has.3 })

pub any_script_is_reached : (D : Type 0) → AnyScriptIsReached D
any_script_is_reached D seen failures config disks desk r none among empty apart ever =
    let x = setup_of seen failures config disks among true in
    let now = history r.sent (way_of desk.wire) in
    let given : IsGiven x = record { new = none; few = (let h : 1 < 2 ^ 32 = omega arith in h); armed = none_armed seen failures config disks among; empty = empty } in
    let has = have_accounts x r.reached.begun now r.reached.steps given r.reached.begins (runs_any seen failures config disks among r.reached.steps r.reached.begun now r.reached.runs r.within ever) in
    (has.1, record { apart = apart; begun = r.reached.begun; first = has.0; steps = r.reached.steps; begins = has.2; runs = has.3 })
