use Rattle.std.proofs.Common.{None, Ok, subst, refl, ap}
use Rattle.std.specs.Prelude.{◌==◌}
use Rattle.gs_base.specs.declared.refusal.Refusal.TheVariants as refusals
use Rattle.gs_store.specs.Slots as slots
use Rattle.gs_server.specs.Promises.{drop_replica}
use Rattle.gs_server.specs.Servers.{Server, ServerSteps, step_of, here_of, place_of, with_leases, with_store}
use Rattle.gs_server.specs.contracts.server.Server.{the_view}
use Rattle.gs_server.proofs.Made.{drop_ok, drop_err, of_does}
use Rattle.gs_server.proofs.server.Server.drop_replica.Goals as goal

pub returns-in-Ok : goal.returns-in-Ok
returns-in-Ok c =
    let v : Server = the_view c.self.inside in
    let after : Server = the_view (record { alloc = c.self.inside.alloc; id = c.self.inside.id; store = c.drop_replica.new.self; leases = c.spend.new.leases; refused = c.self.inside.refused }) in
    subst (λ (old : Server). ServerSteps (step_of c.args.handle None (drop_replica (here_of old c.args.moment c.args.handle None) (place_of c.args.handle old) c.args.epoch c.args.promise) old) (Ok c.silent.result) old after) c.self.view_is
    (drop_ok c.args.handle v (c.args.epoch == v.kept.epoch) (refusals.Epoch v.kept.epoch) (slots.drop_replica c.args.promise (place_of c.args.handle v).slot) c.drop_replica.new.self after c.silent.result
    c.in_default.ensures (of_does _ _ _ _ c.in-Ok.ensures) (ap (λ leases. with_leases leases (with_store c.drop_replica.new.self v)) c.spend.ensures.spent) c.silent.ensures.sent c.silent.ensures.said)

pub returns-in-Err-drop_replica : goal.returns-in-Err-drop_replica
returns-in-Err-drop_replica c =
    let v : Server = the_view c.self.inside in
    let after : Server = with_store c.drop_replica.new.self v in
    subst (λ (old : Server). ServerSteps (step_of c.args.handle None (drop_replica (here_of old c.args.moment c.args.handle None) (place_of c.args.handle old) c.args.epoch c.args.promise) old) (Ok c.refused-in-Err-drop_replica.result) old after) c.self.view_is
    (drop_err c.args.handle v (c.args.epoch == v.kept.epoch) (refusals.Epoch v.kept.epoch) (slots.drop_replica c.args.promise (place_of c.args.handle v).slot) c.in-Err-drop_replica.refusal c.drop_replica.new.self after c.refused-in-Err-drop_replica.result
    c.in_default.ensures c.in-Err-drop_replica.ensures refl c.refused-in-Err-drop_replica.ensures.sent c.refused-in-Err-drop_replica.ensures.said)
