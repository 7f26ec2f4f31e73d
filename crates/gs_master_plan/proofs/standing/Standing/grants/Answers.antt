use Rattle.std.proofs.Common.{refl, sym, ◌∙◌}
use Rattle.std.specs.FinMap as fin
use Rattle.gs_master_plan.specs.inner.Planning.{state_of}
use Rattle.gs_master_plan.proofs.Granting.{none_granted}
use Rattle.gs_master_plan.proofs.standing.Standing.grants.Goals as goal

pub returns-then-not-has_primary : goal.returns-then-not-has_primary
returns-then-not-has_primary c =
    let s = state_of c.args.self.now in
    c.new.ensures.items ∙ sym (none_granted s c.args.self.now.recorded.now (fin.keys s.durable.chunks) refl (sym c.has_primary.ensures ∙ c.if-not-has_primary.true))
