use Rattle.std.proofs.Common.{None, Ok, subst, sym, ap, ◌∙◌}
use Rattle.std.specs.Prelude.{◌==◌}
use Rattle.std.specs.FinMap as fin
use Rattle.gs_base.specs.declared.refusal.Refusal.TheVariants as refusals
use Rattle.gs_store.specs.Slots.{check_grant, take_lease}
use Rattle.gs_server.specs.Holding.{grant, is_held}
use Rattle.gs_server.specs.Servers.{Server, ServerSteps, step_of, here_of, place_of, with_leases, with_store}
use Rattle.gs_server.specs.contracts.server.Server.{the_view}
use Rattle.gs_server.proofs.Made.{grant_ok, grant_err, second_refusal, judged_some, unanswered_step}
use Rattle.gs_server.proofs.server.Server.grant.Goals as goal

pub returns-in-Err-check_grant : goal.returns-in-Err-check_grant
returns-in-Err-check_grant c =
    let v : Server = the_view c.self.inside in
    subst (λ (old : Server). ServerSteps (step_of c.args.handle None (grant (here_of old c.args.moment c.args.handle None) (place_of c.args.handle old) c.args.given) old) (Ok c.refused-in-Err-check_grant.result) old old) c.self.view_is
    (unanswered_step c.args.handle v _ _ c.in-Err-check_grant.refusal c.refused-in-Err-check_grant.result
    (second_refusal (c.args.given.stamp.epoch == v.kept.epoch) (refusals.Epoch v.kept.epoch) (check_grant c.args.given.stamp (place_of c.args.handle v).slot) c.in-Err-check_grant.refusal c.in_default.ensures (judged_some _ c.in-Err-check_grant.refusal c.in-Err-check_grant.ensures))
    c.refused-in-Err-check_grant.ensures.sent c.refused-in-Err-check_grant.ensures.said)

pub returns-in-Err-take_lease : goal.returns-in-Err-take_lease
returns-in-Err-take_lease c =
    let v : Server = the_view c.self.inside in
    let after : Server = the_view (record { alloc = c.self.inside.alloc; id = c.self.inside.id; store = c.take_lease.new.self; leases = c.reserve.new.self; refused = c.self.inside.refused }) in
    subst (λ (old : Server). ServerSteps (step_of c.args.handle None (grant (here_of old c.args.moment c.args.handle None) (place_of c.args.handle old) c.args.given) old) (Ok c.refused-in-Err-take_lease.result) old after) c.self.view_is
    (grant_err c.args.handle v (c.args.given.stamp.epoch == v.kept.epoch) (refusals.Epoch v.kept.epoch) (check_grant c.args.given.stamp (place_of c.args.handle v).slot) (is_held c.args.given.stamp (place_of c.args.handle v).lease) c.args.given (take_lease c.args.given.stamp (place_of c.args.handle v).slot)
    c.in-Err-take_lease.refusal c.take_lease.new.self after c.refused-in-Err-take_lease.result
    c.in_default.ensures c.in_default-check_grant.ensures (ap (λ (s : Server). is_held c.args.given.stamp (place_of c.args.handle s).lease) c.self.view_is ∙ sym c.is_held.ensures ∙ c.if-is_held.false) c.in-Err-take_lease.ensures
    (ap (λ leases. with_leases leases (with_store c.take_lease.new.self v)) c.in_ok-reserve.ensures.same) c.refused-in-Err-take_lease.ensures.sent c.refused-in-Err-take_lease.ensures.said)

pub returns : goal.returns
returns c =
    let v : Server = the_view c.self.inside in
    let after : Server = the_view (record { alloc = c.self.inside.alloc; id = c.self.inside.id; store = c.take_lease.new.self; leases = c.put.new.self; refused = c.self.inside.refused }) in
    subst (λ (old : Server). ServerSteps (step_of c.args.handle None (grant (here_of old c.args.moment c.args.handle None) (place_of c.args.handle old) c.args.given) old) (Ok c.silent-2.result) old after) c.self.view_is
    (grant_ok c.args.handle v (c.args.given.stamp.epoch == v.kept.epoch) (refusals.Epoch v.kept.epoch) (check_grant c.args.given.stamp (place_of c.args.handle v).slot) (is_held c.args.given.stamp (place_of c.args.handle v).lease) c.args.given (take_lease c.args.given.stamp (place_of c.args.handle v).slot)
    c.take_lease.new.self after c.silent-2.result
    c.in_default.ensures c.in_default-check_grant.ensures (ap (λ (s : Server). is_held c.args.given.stamp (place_of c.args.handle s).lease) c.self.view_is ∙ sym c.is_held.ensures ∙ c.if-is_held.false) c.in_default-take_lease.ensures
    (ap (λ leases. with_leases leases (with_store c.take_lease.new.self v)) (c.put.ensures.put ∙ ap (λ m. fin.insert m c.args.handle c.granted.result) c.in_ok-reserve.ensures.same ∙ ap (fin.insert v.dropped.leases c.args.handle) c.granted.ensures)) c.silent-2.ensures.sent c.silent-2.ensures.said)
