use Rattle.gs_server.proofs.Made.{judged_some, unanswered_step}
use Rattle.gs_server.proofs.server.Server.renewed.Goals as goal

pub returns-in-Err : goal.returns-in-Err
returns-in-Err c = unanswered_step c.args.handle c.args.self.now _ _ c.in-Err.refusal c.refused.result (judged_some _ c.in-Err.refusal c.in-Err.ensures) c.refused.ensures.sent c.refused.ensures.said
