use Rattle.std.proofs.Common.{◌≡◌, [], ap, sym, ◌∙◌, ℕ}
use Rattle.std.specs.FinMap.{get}
use Rattle.gs_tree.specs.Find.{at}
use Rattle.gs_tree.specs.Places.{returned}
use Rattle.gs_tree.specs.Plain.{Plain}
use Rattle.gs_tree.proofs.Moves.{seen}
use Rattle.gs_tree.proofs.Places.{root_returned}
use Rattle.gs_tree.proofs.tree.Tree.return_to_place.Goals as goal

pub invariant_of-self : goal.invariant_of-self
invariant_of-self c = c.return_to.ensures [] ∙ root_returned c.args.from.now c.args.to.now (at c.self.inside.root) ∙ c.self.invariant

pub returns : goal.returns
returns c q =
    let old : at c.self.inside.root ≡ get c.args.self.now = sym (seen c.self.inside.root) ∙ ap get c.self.view_is in
    ap (λ (f : Plain ℕ). f q) (seen c.return_to.new.root) ∙ c.return_to.ensures q ∙ ap (λ (m : Plain ℕ). returned c.args.from.now c.args.to.now m q) old
