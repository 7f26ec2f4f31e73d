use Rattle.std.proofs.Common.{sym, subst}
use Rattle.gs_msg.specs.declared.chunk.Chunk.{Chunk}
use Rattle.gs_server.specs.Servers.{ServerSteps, handle_chunk}
use Rattle.gs_server.proofs.server.Server.handle_leased.Goals as goal

pub returns-in-Forward-clause-step : goal.returns-in-Forward-clause-step
returns-in-Forward-clause-step c =
    subst (λ (chunk : Chunk). ServerSteps (handle_chunk c.args.self.now c.args.from c.args.handle chunk c.args.moment) c.forward.result c.args.self.now c.forward.new.self) (sym c.in-Forward.is) c.forward.ensures
