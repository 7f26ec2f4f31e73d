use Rattle.std.proofs.Common.{◌∙◌, sym, refl}
use Rattle.gs_place.proofs.Picks.{picked_none, picked_more, picked_all, are_targets, picked_out}
use Rattle.gs_place.proofs.placement.targets.Goals as goal

pub loop-pick-init : goal.loop-pick-init
loop-pick-init c = picked_none _ _ _ _ _ _ c.none-targets.ensures

pub loop-pick-preserved : goal.loop-pick-preserved
loop-pick-preserved c =
    picked_more _ _ _ _ _ _ c.loop-pick.taken c.loop-pick.targets _ _ c.in-Some.target c.loop-pick-test.true
    c.insert.ensures c.insert-in-loop-pick.ensures (sym c.in-Some.ensures.function) c.in-Some.ensures.first c.loop-pick.invariant

pub returns-in_default-clause-targets : goal.returns-in_default-clause-targets
returns-in_default-clause-targets c = (picked_out _ _ _ _ _ _ c.loop-pick.taken c.loop-pick.targets c.loop-pick-test.true (sym c.first_candidate.ensures.function ∙ c.in_default.is) c.loop-pick.invariant, refl)

pub returns : goal.returns
returns c = record {
  targets = picked_all _ _ _ _ _ _ c.loop-pick.taken c.loop-pick.targets c.loop-pick-test.false c.loop-pick.invariant;
  first = are_targets _ _ _ _ _ _ c.loop-pick.taken c.loop-pick.targets c.loop-pick.auto._pick-end c.loop-pick-test.false c.loop-pick.invariant;
  none = tt;
}
