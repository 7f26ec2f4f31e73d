use Rattle.std.proofs.Common.{◌≡◌, ◌++◌, [], sym, ap, ◌∙◌, subst}
use Rattle.std.specs.Prelude.{IfOk}
use Rattle.std.specs.FinMap.{get}
use Rattle.gs_tree.specs.Find.{at}
use Rattle.gs_tree.proofs.Moves.{seen}
use Rattle.gs_tree.proofs.Under.{chunks_under-part}
use Rattle.gs_tree.proofs.tree.Tree.chunks_under.Goals as goal

pub returns-in-Some : goal.returns-in-Some
returns-in-Some c =
    let part = λ (q : _). ap (λ m. get m (c.args.path.now ++ q)) (sym c.self.view_is) ∙ ap (λ f. f (c.args.path.now ++ q)) (seen c.self.inside.root) ∙ ap (λ p. at c.self.inside.root (p ++ q)) (sym c.elements.ensures) ∙ c.in-Some.ensures.part q in
    subst (λ l. IfOk c.all_chunks.result (λ found. found.items ≡ l)) (sym (chunks_under-part c.args.self.now c.args.path.now c.in-Some.node.now part)) c.all_chunks.ensures

pub returns-in-None : goal.returns-in-None
returns-in-None c =
    let part = λ (q : _). ap (λ m. get m (c.args.path.now ++ q)) (sym c.self.view_is) ∙ ap (λ f. f (c.args.path.now ++ q)) (seen c.self.inside.root) ∙ ap (λ p. at c.self.inside.root (p ++ q)) (sym c.elements.ensures) ∙ c.in-None.ensures.part q in
    c.new.ensures.items ∙ sym (chunks_under-part c.args.self.now c.args.path.now [] part)
