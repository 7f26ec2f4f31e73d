use Rattle.std.proofs.Common.{Err, subst, sym}
use Rattle.gs_base.specs.Calls.{Makes}
use Rattle.gs_msg.specs.declared.body.Given.TheVariants as givens
use Rattle.gs_msg.specs.declared.chunk.Asked.{Asked}
use Rattle.gs_store.specs.Serving.{digest}
use Rattle.gs_store.specs.Stores.{slot_of}
use Rattle.gs_server.specs.Fetches.{given}
use Rattle.gs_server.specs.Servers.{Server, store_of}
use Rattle.gs_server.proofs.Made.{giving_err}
use Rattle.gs_server.proofs.server.Server.given.Goals as goal

pub returns-in-Err : goal.returns-in-Err
returns-in-Err c =
    subst (λ (s : Server). Makes (given c.args.stamp c.args.asked (slot_of c.args.handle (store_of s))) (Err c.in-Err.refusal)) c.self.view_is
    (subst (λ (asked : Asked). Makes (given c.args.stamp asked (slot_of c.args.handle c.self.inside.store)) (Err c.in-Err.refusal)) (sym c.in-Digest.is)
    (giving_err givens.Digest (λ x. x) (digest c.args.stamp c.in-Digest.block (slot_of c.args.handle c.self.inside.store)) c.in-Err.refusal c.in-Err.ensures))
