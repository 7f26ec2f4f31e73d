use Rattle.std.proofs.Common.{subst}
use Rattle.gs_store.specs.Buffers.{pushed}
use Rattle.gs_server.specs.Edits.{bytes_of}
use Rattle.gs_server.specs.Servers.{Server, ServerSteps, store_of}
use Rattle.gs_server.specs.inner.Applying.{applied_with, taken_by}
use Rattle.gs_server.specs.contracts.server.Server.{the_view}
use Rattle.gs_server.proofs.Forwarded.{taken_err}
use Rattle.gs_server.proofs.server.Server.take_next.Goals as goal

pub returns-in-Err : goal.returns-in-Err
returns-in-Err c =
    let v : Server = the_view c.self.inside in
    subst (λ (old : Server). ServerSteps (taken_by c.args.handle c.args.from c.args.edit.stamp c.args.edit.number (applied_with c.args.handle c.args.edit.stamp c.args.edit.number c.args.edit.req c.args.edit.op (store_of old) (bytes_of c.args.edit.op c.args.carried (pushed c.args.edit.req old.dropped.buffer))) old) c.decline.result old c.decline.new.self) c.self.view_is
    (taken_err c.args.handle c.args.from c.args.edit.stamp c.args.edit.number (applied_with c.args.handle c.args.edit.stamp c.args.edit.number c.args.edit.req c.args.edit.op (store_of v) (bytes_of c.args.edit.op c.args.carried (pushed c.args.edit.req v.dropped.buffer))) c.in-Err.refusal v c.apply.new.store c.decline.new.self c.decline.result
    c.in-Err.ensures c.decline.ensures.step c.decline.ensures.lacking c.decline.ensures.unchanged)
