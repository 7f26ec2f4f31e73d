use Rattle.gs_world.specs.Histories.{arms, failures_of, seen_of}
use Rattle.gs_laws_world.proofs.lemmas.steady.Enduring.{hears_for_memory, lasts_armed, lasts_unarmed, run_for_memory, ticks_for_memory}
use Rattle.gs_laws_world.proofs.steady.a_master_asked_within_its_types_stays_steady.Goals as goal

pub returns-clause-kept : goal.returns-clause-kept
returns-clause-kept g c seen failures steps old new runs within keeps h = lasts_armed seen failures steps old new runs within keeps h

pub returns-clause-unarmed : goal.returns-clause-unarmed
returns-clause-unarmed g c seen failures armed steps old new leaves runs within keeps h = lasts_unarmed seen failures armed steps old new leaves runs within keeps h

pub returns-clause-messages : goal.returns-clause-messages
returns-clause-messages g c seen failures h message moment e new keeps steady sent to small hears = hears_for_memory seen failures h message moment e new keeps steady sent to small hears

pub returns-clause-ticks : goal.returns-clause-ticks
returns-clause-ticks g c seen failures h moment e new steady ticks = ticks_for_memory seen failures h moment e new steady ticks

pub returns-clause-refused : goal.returns-clause-refused
returns-clause-refused g c seen failures steps old new runs within keeps h =
    run_for_memory (seen_of seen) (failures_of failures) arms (λ xs first last quiet small types steady. lasts_armed seen failures xs first last quiet small types steady) steps old new runs within keeps h
