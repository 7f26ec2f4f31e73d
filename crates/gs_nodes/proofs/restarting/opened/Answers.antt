use Rattle.gs_nodes.proofs.restarting.opened.Goals as goal

pub returns-in-Ok-clause-survives : goal.returns-in-Ok-clause-survives
returns-in-Ok-clause-survives g c = record { any_moment = c.in-Ok.ensures.any_moment; stands = c.in-Ok.ensures.stands }

pub returns-in-Err-clause-survives : goal.returns-in-Err-clause-survives
returns-in-Err-clause-survives g c = record { any_moment = c.in-Err.ensures.any_moment_refused; lasts = c.in-Err.ensures.lasts }
