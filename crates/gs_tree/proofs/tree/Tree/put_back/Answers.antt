use Rattle.std.proofs.Common.{◌≡◌, [], ap, sym, ◌∙◌, ℕ}
use Rattle.std.specs.FinMap.{get}
use Rattle.gs_tree.specs.Find.{at}
use Rattle.gs_tree.specs.Places.{put_back}
use Rattle.gs_tree.specs.Plain.{Plain}
use Rattle.gs_tree.proofs.Moves.{seen}
use Rattle.gs_tree.proofs.Places.{root_put_back}
use Rattle.gs_tree.proofs.tree.Tree.put_back.Goals as goal

pub invariant_of-self : goal.invariant_of-self
invariant_of-self c = c.put_back_in.ensures [] ∙ root_put_back c.args.path.now (at c.args.node) (at c.self.inside.root) ∙ c.self.invariant

pub returns : goal.returns
returns c q =
    let old : at c.self.inside.root ≡ get c.args.self.now = sym (seen c.self.inside.root) ∙ ap get c.self.view_is in
    ap (λ (f : Plain ℕ). f q) (seen c.put_back_in.new.root) ∙ c.put_back_in.ensures q ∙ ap (λ (m : Plain ℕ). put_back c.args.path.now (at c.args.node) m q) old
