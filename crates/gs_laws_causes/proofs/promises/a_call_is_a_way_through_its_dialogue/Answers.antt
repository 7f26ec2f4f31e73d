use Rattle.gs_client.specs.Sends.{Sends}
use Rattle.gs_laws_causes.proofs.Carrying.{follows, went}
use Rattle.gs_laws_causes.proofs.promises.a_call_is_a_way_through_its_dialogue.Goals as goal

pub returns-clause-goes : goal.returns-clause-goes
returns-clause-goes g c = went (Sends g.L.Link.Carries)

pub returns-clause-comes : goal.returns-clause-comes
returns-clause-comes g c = λ call old result new w. follows (Sends g.L.Link.Carries) call old result new w.exchanges w.carried w.says
