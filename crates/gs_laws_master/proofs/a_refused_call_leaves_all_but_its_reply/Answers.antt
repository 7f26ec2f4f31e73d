use Rattle.gs_laws_master.proofs.lemmas.refusals.Refusing.{refused_leaves_all}
use Rattle.gs_laws_master.proofs.a_refused_call_leaves_all_but_its_reply.Goals as goal

pub returns : goal.returns
returns c = refused_leaves_all
