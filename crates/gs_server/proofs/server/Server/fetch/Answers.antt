use Rattle.std.proofs.Common.{None, Some, Ok, cond, subst}
use Rattle.std.specs.Prelude.{◌==◌}
use Rattle.gs_base.specs.declared.refusal.Refusal.TheVariants as refusals
use Rattle.gs_base.specs.Calls.{Judges}
use Rattle.gs_server.specs.Fetches.{given}
use Rattle.gs_server.specs.Servers.{Server, place_of}
use Rattle.gs_server.proofs.Made.{fetch_err}
use Rattle.gs_server.proofs.server.Server.fetch.Goals as goal

pub returns-in-Err-given : goal.returns-in-Err-given
returns-in-Err-given c =
    let old : Server = c.args.self.now in
    fetch_err c.args.handle c.args.req c.args.moment old (c.args.epoch == old.kept.epoch) (refusals.Epoch old.kept.epoch) (given c.args.stamp c.args.asked (place_of c.args.handle old).slot)
    c.in-Err-given.refusal c.refuse_fetch-in-Err-given.new.self c.refuse_fetch-in-Err-given.result (subst (λ (s : Server). Judges {B = Unit {0}} (cond (c.args.epoch == s.kept.epoch) None (Some (refusals.Epoch s.kept.epoch))) (Ok tt)) c.self.view_is c.in_default.ensures) c.in-Err-given.ensures c.refuse_fetch-in-Err-given.ensures.step c.refuse_fetch-in-Err-given.ensures.lacking c.refuse_fetch-in-Err-given.ensures.unchanged
