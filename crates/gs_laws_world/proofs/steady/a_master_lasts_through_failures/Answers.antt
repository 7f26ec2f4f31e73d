use Rattle.std.proofs.Common.{subst, sym}
use Rattle.gs_world.specs.Histories.{arms, failures_of, seen_of}
use Rattle.gs_laws_world.proofs.lemmas.steady.Keeping.{step_within}
use Rattle.gs_laws_world.proofs.lemmas.steady.Through.{arms_last, arms_tell, begins_through, reopens_as, run_through, sound_tells, step_on, tells_once, tells_some, waits_as}
use Rattle.gs_laws_world.specs.steady.Through.{LastsThrough, TellsAt}
use Rattle.gs_laws_world.proofs.steady.a_master_lasts_through_failures.Goals as goal

pub returns-clause-begun : goal.returns-clause-begun
returns-clause-begun g c seen failures armed config clients disks new none begins = begins_through seen failures armed config clients disks new none begins

pub returns-clause-kept : goal.returns-clause-kept
returns-clause-kept g c seen failures steps old new runs within keeps h = run_through (seen_of seen) (failures_of failures) arms (arms_last seen) (arms_tell seen) steps old new runs within keeps h

pub returns-clause-unarmed : goal.returns-clause-unarmed
returns-clause-unarmed g c seen failures armed steps old new leaves runs within keeps h =
    run_through seen failures armed (λ disk call place lasts. subst (LastsThrough seen) (sym (leaves disk call place)) lasts) (λ d disk call place told. subst (λ p. TellsAt seen p d) (sym (leaves disk call place)) told) steps old new runs within keeps h

pub returns-clause-told : goal.returns-clause-told
returns-clause-told g c seen place h = tells_some seen (λ disk. 0) place h

pub returns-clause-once : goal.returns-clause-once
returns-clause-once g c seen place d e t u = tells_once seen (λ disk. 0) place d e t u

pub returns-clause-sound : goal.returns-clause-sound
returns-clause-sound g c seen m sound h = sound_tells seen (λ disk. 0) m sound h

pub returns-clause-step : goal.returns-clause-step
returns-clause-step g c seen failures step old new d goes within keeps h told =
    let on = step_on (seen_of seen) (failures_of failures) arms (arms_last seen) (arms_tell seen) step old new d goes (step_within (seen_of seen) (failures_of failures) arms step old within keeps) h told in (on.durable, on.tells, on.on)

pub returns-clause-opens : goal.returns-clause-opens
returns-clause-opens g c seen failures config place d turn new h told opening = reopens_as seen failures config place d turn new h told opening

pub returns-clause-waits : goal.returns-clause-waits
returns-clause-waits g c seen failures config place d e new h told opening = waits_as seen failures config place d e new h told opening
