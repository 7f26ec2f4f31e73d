use Rattle.gs_client.specs.Sends.{Sends}
use Rattle.gs_laws_causes.proofs.Lines.{each_line}
use Rattle.gs_laws_causes.proofs.promises.an_unsure_line_has_a_cause.Goals as goal

pub returns : goal.returns
returns g c = each_line (Sends g.L.Link.Carries)
