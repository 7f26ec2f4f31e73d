use Rattle.std.proofs.Common.{◌≡◌, [], ap, sym, ◌∙◌, ℕ}
use Rattle.std.specs.FinMap.{get}
use Rattle.gs_tree.specs.Find.{at}
use Rattle.gs_tree.specs.Places.{without_place}
use Rattle.gs_tree.specs.Plain.{Plain}
use Rattle.gs_tree.proofs.Moves.{seen}
use Rattle.gs_tree.proofs.Places.{root_beside_place}
use Rattle.gs_tree.proofs.tree.Tree.give_up_place.Goals as goal

pub invariant_of-self : goal.invariant_of-self
invariant_of-self c = c.give_up_place.ensures [] ∙ root_beside_place c.args.path.now (at c.self.inside.root) ∙ c.self.invariant

pub returns : goal.returns
returns c q =
    let old : at c.self.inside.root ≡ get c.args.self.now = sym (seen c.self.inside.root) ∙ ap get c.self.view_is in
    ap (λ (f : Plain ℕ). f q) (seen c.give_up_place.new.root) ∙ c.give_up_place.ensures q ∙ ap (λ (m : Plain ℕ). without_place c.args.path.now m q) old
