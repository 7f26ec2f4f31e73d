use Rattle.std.proofs.Common.{None, Ok, subst}
use Rattle.std.specs.Prelude.{◌==◌}
use Rattle.gs_base.specs.declared.refusal.Refusal.TheVariants as refusals
use Rattle.gs_store.specs.Slots as slots
use Rattle.gs_server.specs.Promises.{create}
use Rattle.gs_server.specs.Servers.{Server, ServerSteps, step_of, here_of, place_of}
use Rattle.gs_server.specs.contracts.server.Server.{the_view}
use Rattle.gs_server.proofs.Made.{made_ok, made_err, of_performs}
use Rattle.gs_server.proofs.server.Server.create.Goals as goal

pub returns-in-Ok : goal.returns-in-Ok
returns-in-Ok c =
    let v : Server = the_view c.self.inside in
    subst (λ (old : Server). ServerSteps (step_of c.args.handle None (create (here_of old c.args.moment c.args.handle None) (place_of c.args.handle old) c.args.stamp) old) (Ok c.promise.result) old c.promise.new.self) c.self.view_is
    (made_ok c.args.handle c.args.stamp c.args.moment v (c.args.stamp.epoch == v.kept.epoch) (refusals.Epoch v.kept.epoch) (slots.create v.block v.chunk c.args.stamp (place_of c.args.handle v).slot) c.create.new.self c.promise.new.self c.promise.result
    c.in_default.ensures (of_performs _ _ _ _ c.in-Ok.ensures.edit) c.promise.ensures.after c.promise.ensures.sent c.promise.ensures.said)

pub returns-in-Err-create : goal.returns-in-Err-create
returns-in-Err-create c =
    let v : Server = the_view c.self.inside in
    subst (λ (old : Server). ServerSteps (step_of c.args.handle None (create (here_of old c.args.moment c.args.handle None) (place_of c.args.handle old) c.args.stamp) old) c.unpromise-in-Err-create.result old c.unpromise-in-Err-create.new.self) c.self.view_is
    (made_err c.args.handle c.args.stamp c.args.moment v (c.args.stamp.epoch == v.kept.epoch) (refusals.Epoch v.kept.epoch) (slots.create v.block v.chunk c.args.stamp (place_of c.args.handle v).slot) c.in-Err-create.refusal c.create.new.self c.unpromise-in-Err-create.new.self c.unpromise-in-Err-create.result
    c.in_default.ensures (of_performs _ _ _ _ c.in-Err-create.ensures.edit) c.unpromise-in-Err-create.ensures.step c.unpromise-in-Err-create.ensures.lacking c.unpromise-in-Err-create.ensures.unchanged)
