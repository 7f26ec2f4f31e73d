use Rattle.std.proofs.Common.{◌∙◌, ap, Ok, refl, subst, sym}
use Rattle.gs_cluster_core.specs.declared.role.Role.{Role}
use Rattle.gs_cluster_history.specs.Histories.{Kept}
use Rattle.gs_cluster.specs.Calling.{HearsAll}
use Rattle.gs_cluster.proofs.Hearing.{was_asked, was_not_asked, was_refused}
use Rattle.gs_cluster.proofs.caller.CallerLink.request.Goals as goal

pub returns-in-Ok-Ok : goal.returns-in-Ok-Ok
returns-in-Ok-Ok g c =
    let self = c.args.self.now in
    let hears = subst (λ (n : Kept (Role g.row.D.Denot)). HearsAll g.D.Disk.seen g.D.Disk.failures c.step-asked.new.self self.patience.vain c.wait-reply.result n c.wait-reply.new.self.patience.vain) (sym c.let_go.ensures) c.wait-reply.ensures.hears in (
      was_asked g.D.Disk.seen g.D.Disk.failures self.moment c.args.req c.args.request self.node c.step-asked.new.self self.patience.vain c.let_go.new.self c.wait-reply.new.self.patience.vain c.step-asked.result c.wait-reply.result
          c.step-asked.ensures (c.in-Ok-Ok.is ∙ ap Ok c.in-Ok-Ok.field-0-is) hears,
      c.wait-reply.ensures.moment,
    )

pub returns-in-Ok-Err : goal.returns-in-Ok-Err
returns-in-Ok-Err g c =
    let self = c.args.self.now in (
      was_refused g.D.Disk.seen g.D.Disk.failures self.moment c.args.req c.args.request self.node c.step-asked.new.self self.patience.vain c.step-asked.result c.in-Ok-Err.refusal
          c.step-asked.ensures (c.in-Ok-Err.is ∙ ap Ok c.in-Ok-Err.field-0-is),
      refl,
    )

pub returns-in-Err : goal.returns-in-Err
returns-in-Err g c =
    let self = c.args.self.now in
    (was_not_asked g.D.Disk.seen g.D.Disk.failures self.moment c.args.req c.args.request self.node c.step-asked.new.self self.patience.vain c.step-asked.result c.in-Err.refusal c.step-asked.ensures c.in-Err.is, refl)
