use Rattle.std.proofs.Common.{◌≡◌, ◌∙◌, Some, rules, ap, subst, sym, true}
use Rattle.std.specs.FinMap as fin
use Rattle.std.specs.Ordering.{nat_cmp}
use Rattle.gs_base_table.specs.Slots.{live}
use Rattle.gs_lease_table.specs.Settlings.{tells_settled}
use Rattle.gs_master_spec.specs.Applied.{view_in}
use Rattle.gs_master_state.specs.inner.Recorded.{chunks_of}
use Rattle.gs_master_state.proofs.Recording.{marked}
use Rattle.gs_master_state.proofs.Before.{lease_at, lease_before, moved_back, restored_tells}
use Rattle.gs_master_state.proofs.recorded.Recorded.exchange_moving.Goals as goal

pub returns-clause-value : goal.returns-clause-value
returns-clause-value c = marked c.args.self.now c.exchange.new.self c.args.chunk _ c.in_ok-view.view c.args.stamp c.exchange.ensures.put c.restore.ensures (search rules)

pub returns-clause-chunks : goal.returns-clause-chunks
returns-clause-chunks c =
    let has : Some c.in_ok-view.view ≡ view_in (fin.get (chunks_of (live nat_cmp c.args.self.now.leases)) c.args.chunk) = search rules in
    ap chunks_of (lease_before _ _ c.args.chunk _ c.exchange.result c.in_ok-view.view c.exchange.ensures.value c.exchange.ensures.put has) ∙ moved_back (live nat_cmp c.exchange.new.self) c.args.chunk c.exchange.result

pub returns-clause-leases : goal.returns-clause-leases
returns-clause-leases c =
    let has : Some c.in_ok-view.view ≡ view_in (fin.get (chunks_of (live nat_cmp c.args.self.now.leases)) c.args.chunk) = search rules in
    lease_before _ _ c.args.chunk _ c.exchange.result c.in_ok-view.view c.exchange.ensures.value c.exchange.ensures.put has

pub returns-clause-room : goal.returns-clause-room
returns-clause-room c = lease_at _ c.args.chunk c.exchange.result (c.exchange.ensures.keeps.keeps c.args.chunk c.requires) c.exchange.ensures.stood

pub exchange-requires-clause-settled : goal.exchange-requires-clause-settled
exchange-requires-clause-settled c = subst (λ lease. tells_settled lease ≡ true) (sym c.restore.ensures) (restored_tells c.in_ok-view.view (Some c.args.stamp))
