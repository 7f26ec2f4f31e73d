use Rattle.gs_laws_world.proofs.lemmas.steady.Refusing.{message_refused, tick_refused}
use Rattle.gs_laws_world.proofs.steady.a_firm_master_refuses_for_memory.Goals as goal

pub returns-clause-messages : goal.returns-clause-messages
returns-clause-messages g c seen failures message moment m e new h within named heard = message_refused seen failures moment m e new h within message named heard

pub returns-clause-ticks : goal.returns-clause-ticks
returns-clause-ticks g c seen failures moment m e new h within ticked = tick_refused seen failures moment m e new h within ticked
