use Rattle.std.proofs.Common.{◌∙◌, subst}
use Rattle.gs_base.specs.Told.{Told}
use Rattle.gs_master_record.proofs.Codes.{other_told, not_true}
use Rattle.gs_server_image.proofs.kept.put_refusal.Goals as goal

pub returns-then-not-are_same : goal.returns-then-not-are_same
returns-then-not-are_same c =
    other_told c.args.refusal.now c.in-Some.again _ _ c.number-number.ensures (c.deref.ensures ∙ c.in_ok-detail.ensures)
    (subst (λ o. Told c.number-number.result c.deref.result.now o) c.in-Some.is c.in_ok-again.ensures) (λ e. not_true c.are_same.result c.if-not-are_same.true (c.are_same.ensures.1 e))
