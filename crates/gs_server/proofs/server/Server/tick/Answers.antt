use Rattle.std.proofs.Common.{refl, ap, ◌∙◌}
use Rattle.gs_server.specs.Servers.{Server, with_leases, standing_leases}
use Rattle.gs_server.specs.inner.Spending.{without}
use Rattle.gs_server.specs.contracts.server.Server.{the_view}
use Rattle.gs_server.proofs.Spent.{spent_each}
use Rattle.gs_server.proofs.server.Server.tick.Goals as goal

pub returns : goal.returns
returns c =
    let v : Server = the_view c.self.inside in (
      ap (λ leases. with_leases leases v)
          (c.spend_each.ensures.spent ∙ ap (λ handles. without handles v.dropped.leases) (c.deref.ensures.value ∙ c.in_ok-handles.ensures) ∙ spent_each c.args.moment v.dropped.leases)
          ∙ ap (λ (s : Server). with_leases (standing_leases c.args.moment s.dropped.leases) s) c.self.view_is,
      c.in_ok-sent.ensures,
      refl,
    )
