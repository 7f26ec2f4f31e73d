use Rattle.std.proofs.Common.{None, Ok, subst}
use Rattle.std.specs.Prelude.{◌==◌}
use Rattle.gs_base.specs.declared.refusal.Refusal.TheVariants as refusals
use Rattle.gs_store.specs.Slots as slots
use Rattle.gs_server.specs.Promises.{advance}
use Rattle.gs_server.specs.Servers.{Server, ServerSteps, step_of, here_of, place_of}
use Rattle.gs_server.specs.contracts.server.Server.{the_view}
use Rattle.gs_server.proofs.Made.{made_ok, made_err, of_does}
use Rattle.gs_server.proofs.server.Server.advance.Goals as goal

pub returns-in-Ok : goal.returns-in-Ok
returns-in-Ok c =
    let v : Server = the_view c.self.inside in
    subst (λ (old : Server). ServerSteps (step_of c.args.handle None (advance (here_of old c.args.moment c.args.handle None) (place_of c.args.handle old) c.args.stamp) old) (Ok c.promise.result) old c.promise.new.self) c.self.view_is
    (made_ok c.args.handle c.args.stamp c.args.moment v (c.args.stamp.epoch == v.kept.epoch) (refusals.Epoch v.kept.epoch) (slots.advance c.args.stamp (place_of c.args.handle v).slot) c.advance.new.self c.promise.new.self c.promise.result
    c.in_default.ensures (of_does _ _ _ _ c.in-Ok.ensures) c.promise.ensures.after c.promise.ensures.sent c.promise.ensures.said)

pub returns-in-Err-advance : goal.returns-in-Err-advance
returns-in-Err-advance c =
    let v : Server = the_view c.self.inside in
    subst (λ (old : Server). ServerSteps (step_of c.args.handle None (advance (here_of old c.args.moment c.args.handle None) (place_of c.args.handle old) c.args.stamp) old) c.unpromise-in-Err-advance.result old c.unpromise-in-Err-advance.new.self) c.self.view_is
    (made_err c.args.handle c.args.stamp c.args.moment v (c.args.stamp.epoch == v.kept.epoch) (refusals.Epoch v.kept.epoch) (slots.advance c.args.stamp (place_of c.args.handle v).slot) c.in-Err-advance.refusal c.advance.new.self c.unpromise-in-Err-advance.new.self c.unpromise-in-Err-advance.result
    c.in_default.ensures (of_does _ _ _ _ c.in-Err-advance.ensures) c.unpromise-in-Err-advance.ensures.step c.unpromise-in-Err-advance.ensures.lacking c.unpromise-in-Err-advance.ensures.unchanged)
