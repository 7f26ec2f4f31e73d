use Rattle.std.proofs.Common.{◌++◌, [], sym, ap, ◌∙◌, refl}
use Rattle.std.specs.FinMap.{get}
use Rattle.gs_tree.specs.Build.{rows_of_entries}
use Rattle.gs_tree.specs.Find.{at}
use Rattle.gs_tree.proofs.Moves.{seen}
use Rattle.gs_tree.proofs.Regions.{listed_under, rows_under-part}
use Rattle.gs_tree.proofs.tree.Tree.entries_under.Goals as goal

pub returns-in-Some : goal.returns-in-Some
returns-in-Some c =
    let part = λ (q : _). ap (λ m. get m (c.args.path.now ++ q)) (sym c.self.view_is) ∙ ap (λ f. f (c.args.path.now ++ q)) (seen c.self.inside.root) ∙ ap (λ p. at c.self.inside.root (p ++ q)) (sym c.elements.ensures) ∙ c.in-Some.ensures.part q in
    listed_under c.entries_by_path.result c.args.self.now c.args.path.now c.in-Some.node.now part c.entries_by_path.ensures.rows c.entries_by_path.ensures.sound

pub returns-in-None : goal.returns-in-None
returns-in-None c =
    let part = λ (q : _). ap (λ m. get m (c.args.path.now ++ q)) (sym c.self.view_is) ∙ ap (λ f. f (c.args.path.now ++ q)) (seen c.self.inside.root) ∙ ap (λ p. at c.self.inside.root (p ++ q)) (sym c.elements.ensures) ∙ c.in-None.ensures.part q in
    ap rows_of_entries c.new.ensures.items ∙ sym (rows_under-part c.args.self.now c.args.path.now [] refl part)
