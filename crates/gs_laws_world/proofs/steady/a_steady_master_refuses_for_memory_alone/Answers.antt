use Rattle.gs_laws_world.proofs.lemmas.steady.Refusing.{message_refused_for_memory, tick_refused_for_memory}
use Rattle.gs_laws_world.proofs.steady.a_steady_master_refuses_for_memory_alone.Goals as goal

pub returns-clause-messages : goal.returns-clause-messages
returns-clause-messages g c seen failures message moment m e new h steady named within heard = message_refused_for_memory seen failures moment m e new h steady message named within heard

pub returns-clause-ticks : goal.returns-clause-ticks
returns-clause-ticks g c seen failures moment m e new h steady ticked = tick_refused_for_memory seen failures moment m e new h steady ticked
