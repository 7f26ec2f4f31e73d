use Rattle.std.proofs.Common.{Ok, subst}
use Rattle.std.specs.Prelude.{◌==◌}
use Rattle.gs_base.specs.declared.refusal.Refusal.TheVariants as refusals
use Rattle.gs_store.specs.Moves as moves
use Rattle.gs_server.specs.Servers.{Server, ServerSteps, make_copy, place_of}
use Rattle.gs_server.specs.contracts.server.Server.{the_view}
use Rattle.gs_server.proofs.Made.{copied_ok, copied_err, of_performs}
use Rattle.gs_server.proofs.server.Server.make_copy.Goals as goal

pub returns-in-Ok : goal.returns-in-Ok
returns-in-Ok c =
    let v : Server = the_view c.self.inside in
    subst (λ (old : Server). ServerSteps (make_copy old c.args.handle c.args.at c.args.new_handle c.args.stamp c.args.moment) (Ok c.promise.result) old c.promise.new.self) c.self.view_is
    (copied_ok c.args.handle c.args.new_handle c.args.stamp c.args.moment v (c.args.stamp.epoch == v.kept.epoch) (refusals.Epoch v.kept.epoch) (moves.make_copy c.args.at c.args.stamp (place_of c.args.handle v).slot (place_of c.args.new_handle v).slot) c.make_copy.new.self c.promise.new.self c.promise.result
    c.in_default.ensures (of_performs _ _ _ _ c.in-Ok.ensures.edit) c.promise.ensures.after c.promise.ensures.sent c.promise.ensures.said)

pub returns-in-Err-make_copy : goal.returns-in-Err-make_copy
returns-in-Err-make_copy c =
    let v : Server = the_view c.self.inside in
    subst (λ (old : Server). ServerSteps (make_copy old c.args.handle c.args.at c.args.new_handle c.args.stamp c.args.moment) c.refuse_copy-in-Err-make_copy.result old c.refuse_copy-in-Err-make_copy.new.self) c.self.view_is
    (copied_err c.args.handle c.args.new_handle c.args.stamp c.args.moment v (c.args.stamp.epoch == v.kept.epoch) (refusals.Epoch v.kept.epoch) (moves.make_copy c.args.at c.args.stamp (place_of c.args.handle v).slot (place_of c.args.new_handle v).slot) c.in-Err-make_copy.refusal c.make_copy.new.self c.refuse_copy-in-Err-make_copy.new.self c.refuse_copy-in-Err-make_copy.result
    c.in_default.ensures (of_performs _ _ _ _ c.in-Err-make_copy.ensures.edit) c.refuse_copy-in-Err-make_copy.ensures.step c.refuse_copy-in-Err-make_copy.ensures.lacking c.refuse_copy-in-Err-make_copy.ensures.unchanged)
