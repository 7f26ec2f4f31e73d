use Rattle.std.proofs.Common.{◌∙◌, ap, arith, subst, sym}
use Rattle.gs_master_state.specs.inner.Held.{all_but_last}
use Rattle.gs_master_state.specs.inner.Places.{AreWithin, Paths}
use Rattle.gs_master_state.proofs.PlaceSets.{one_left, rest_is, within_but_last}
use Rattle.gs_master_state.proofs.places.Places.pop.Goals as goal

pub returns-then-len-le1 : goal.returns-then-len-le1
returns-then-len-le1 c =
    ap (λ (v : Paths). v.items) c.drop.view_is ∙ c.new.ensures.items ∙ one_left c.self.inside.paths.items (omega (arith, c.self.inside.paths.ok.0)) ∙ ap (λ (v : Paths). all_but_last v.items) c.self.view_is

pub invariant_of-self-2 : goal.invariant_of-self-2
invariant_of-self-2 c =
    let rest = rest_is c.self.inside.paths.items c.pop-last.new.self.items c.pop-last.result c.pop-last.ensures.items c.self.inside.paths.len c.pop-last.new.self.len c.self.inside.paths.ok.0 c.pop-last.new.self.ok.0 c.pop-last.ensures.cases in
    (tt, subst (AreWithin c.self.inside.longest) (sym rest) (within_but_last c.self.inside.longest c.self.inside.paths.items c.self.invariant.1))

pub returns : goal.returns
returns c =
    rest_is c.self.inside.paths.items c.pop-last.new.self.items c.pop-last.result c.pop-last.ensures.items c.self.inside.paths.len c.pop-last.new.self.len c.self.inside.paths.ok.0 c.pop-last.new.self.ok.0 c.pop-last.ensures.cases
    ∙ ap (λ (v : Paths). all_but_last v.items) c.self.view_is
