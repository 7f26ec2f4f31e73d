use Rattle.std.proofs.Common.{None, Ok, subst}
use Rattle.std.specs.Prelude.{◌==◌}
use Rattle.gs_base.specs.declared.refusal.Refusal.TheVariants as refusals
use Rattle.gs_store.specs.Moves as moves
use Rattle.gs_server.specs.Promises.{copy_in}
use Rattle.gs_server.specs.Servers.{Server, ServerSteps, step_of, here_of, place_of}
use Rattle.gs_server.specs.contracts.server.Server.{the_view}
use Rattle.gs_server.proofs.Made.{made_ok, made_err, of_handed_ok, of_handed_back}
use Rattle.gs_server.proofs.server.Server.copy_in.Goals as goal

pub returns-in-Ok-copy_in : goal.returns-in-Ok-copy_in
returns-in-Ok-copy_in c =
    let v : Server = the_view c.self.inside in
    subst (λ (old : Server). ServerSteps (step_of c.args.handle None (copy_in (here_of old c.args.moment c.args.handle None) (place_of c.args.handle old) c.args.stamp c.args.given.image c.args.given.sealed) old) (Ok c.promise.result) old c.promise.new.self) c.self.view_is
    (made_ok c.args.handle c.args.stamp c.args.moment v (c.args.stamp.epoch == v.kept.epoch) (refusals.Epoch v.kept.epoch) (moves.copy_in v.block v.chunk c.args.stamp c.args.given.image c.args.given.sealed (place_of c.args.handle v).slot) c.copy_in.new.self c.promise.new.self c.promise.result
    c.in_default.ensures (of_handed_ok c.args.given _ _ _ _ c.in-Ok-copy_in.ensures.edit) c.promise.ensures.after c.promise.ensures.sent c.promise.ensures.said)

pub returns-in-Err-copy_in : goal.returns-in-Err-copy_in
returns-in-Err-copy_in c =
    let v : Server = the_view c.self.inside in
    subst (λ (old : Server). ServerSteps (step_of c.args.handle None (copy_in (here_of old c.args.moment c.args.handle None) (place_of c.args.handle old) c.args.stamp c.args.given.image c.args.given.sealed) old) c.unpromise-in-Err-copy_in.result old c.unpromise-in-Err-copy_in.new.self) c.self.view_is
    (made_err c.args.handle c.args.stamp c.args.moment v (c.args.stamp.epoch == v.kept.epoch) (refusals.Epoch v.kept.epoch) (moves.copy_in v.block v.chunk c.args.stamp c.args.given.image c.args.given.sealed (place_of c.args.handle v).slot) c.in-Err-copy_in.refused.refusal c.copy_in.new.self c.unpromise-in-Err-copy_in.new.self c.unpromise-in-Err-copy_in.result
    c.in_default.ensures (of_handed_back c.args.given _ _ _ _ c.in-Err-copy_in.ensures.edit) c.unpromise-in-Err-copy_in.ensures.step c.unpromise-in-Err-copy_in.ensures.lacking c.unpromise-in-Err-copy_in.ensures.unchanged)
