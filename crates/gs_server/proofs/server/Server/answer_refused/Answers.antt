use Rattle.std.proofs.Common.{◌≡◌, Some, subst}
use Rattle.std.specs.FinMap as fin
use Rattle.gs_server.specs.Servers.{Server}
use Rattle.gs_server.proofs.Edited.{same_as_refused}
use Rattle.gs_server.proofs.server.Server.answer_refused.Goals as goal

pub returns-in-Repeated : goal.returns-in-Repeated
returns-in-Repeated c =
    let found : Some c.in_ok-kept.kept.now ≡ fin.get c.args.self.now.kept.refused c.args.req.client =
    subst (λ (s : Server). Some c.in_ok-kept.kept.now ≡ fin.get s.kept.refused c.args.req.client) c.self.view_is c.in_ok-kept.ensures.value in
    same_as_refused c.args.req c.args.self.now c.in_ok-kept.kept.now (fin.get c.args.self.now.kept.refused c.args.req.client) c.refuse_once.result found c.in-Repeated.ensures c.refuse_once.ensures
