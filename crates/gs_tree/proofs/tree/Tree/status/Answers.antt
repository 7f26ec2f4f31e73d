use Rattle.std.proofs.Common.{◌++◌, [], ap, sym, ◌∙◌, refl, append-nil}
use Rattle.std.specs.FinMap.{get}
use Rattle.gs_tree.specs.Find.{at}
use Rattle.gs_tree.proofs.Moves.{seen}
use Rattle.gs_tree.proofs.Depths.{chunks_some, chunks_none}
use Rattle.gs_tree.proofs.tree.Tree.status.Goals as goal

pub returns-in_default : goal.returns-in_default
returns-in_default c =
    (refl, ap (λ m. get m c.args.path.now) (sym c.self.view_is) ∙ ap (λ f. f c.args.path.now) (seen c.self.inside.root) ∙ ap (at c.self.inside.root) (sym (append-nil c.args.path.now)) ∙ ap (λ p. at c.self.inside.root (p ++ [])) (sym c.elements.ensures) ∙ c.in_default.ensures.part [])

pub returns-in-Some-chunks : goal.returns-in-Some-chunks
returns-in-Some-chunks c =
    ap (λ m. get m c.args.path.now) (sym c.self.view_is) ∙ ap (λ f. f c.args.path.now) (seen c.self.inside.root) ∙ ap (at c.self.inside.root) (sym (append-nil c.args.path.now)) ∙ ap (λ p. at c.self.inside.root (p ++ [])) (sym c.elements.ensures) ∙ c.in-Some.ensures.part []
    ∙ chunks_some (at c.in-Some.node.now []) c.in-Some-chunks.chunks.now (sym c.in-Some-chunks.ensures.chunks)

pub returns-in-None : goal.returns-in-None
returns-in-None c =
    ap (λ m. get m c.args.path.now) (sym c.self.view_is) ∙ ap (λ f. f c.args.path.now) (seen c.self.inside.root) ∙ ap (at c.self.inside.root) (sym (append-nil c.args.path.now)) ∙ ap (λ p. at c.self.inside.root (p ++ [])) (sym c.elements.ensures) ∙ c.in-Some.ensures.part []
    ∙ chunks_none (at c.in-Some.node.now []) c.chunks.ensures.stands (sym c.in-None.ensures.chunks)
