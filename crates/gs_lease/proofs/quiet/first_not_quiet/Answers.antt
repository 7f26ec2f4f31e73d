use Rattle.std.proofs.Common.{Some, ap, sym, ◌∙◌, cond}
use Rattle.gs_lease.proofs.Quiets.{first_unquiet, all_quiet_of, lowest_of}
use Rattle.gs_lease.proofs.quiet.first_not_quiet.Goals as goal

pub returns-then-not-is_quiet : goal.returns-then-not-is_quiet
returns-then-not-is_quiet c =
    lowest_of _ c.iter-handle-items.result c.in-Some.handle c.iter-handle-items.ensures.entries c.iter-handle-items.ensures.ordered
    (ap first_unquiet (sym c.into_iter-handle-iterator.ensures.into_iter_gives) ∙ sym c.loop-handle.invariant ∙ ap first_unquiet c.in-Some.ensures.steps
    ∙ ap (λ b. cond b (first_unquiet c.next.new.self) (Some c.in-Some.handle)) (sym c.is_quiet.ensures ∙ c.if-not-is_quiet.true))

pub returns : goal.returns
returns c =
    all_quiet_of _ c.iter-handle-items.result c.iter-handle-items.ensures.entries
    (ap first_unquiet (sym c.into_iter-handle-iterator.ensures.into_iter_gives) ∙ sym c.loop-handle.invariant ∙ ap first_unquiet c.in-None.ensures.steps.0)
