use Rattle.std.proofs.Common.{◌≡◌, ◌++◌, ◌∷◌, [], ap, sym, ◌∙◌, subst}
use Rattle.gs_path.specs.Path.{Path}
use Rattle.gs_tree.specs.Plain.{with_at}
use Rattle.gs_tree.specs.Find.{at}
use Rattle.gs_tree.specs.Edits.{parent}
use Rattle.gs_tree.specs.Inverses.{TakesBack}
use Rattle.gs_tree.specs.declared.inverse.TreeInverse.TheVariants.{Copied}
use Rattle.gs_tree.proofs.Moves.{parent-append, append_some}
use Rattle.gs_tree.proofs.Removals.{takes_copied}
use Rattle.gs_tree.proofs.snapshots.put_copy.Goals as goal

pub graft-requires : goal.graft-requires
graft-requires c =
    let split = sym c.elements.ensures ∙ c.in-Some.ensures.cases.0 in
    let parent_is : parent c.args.to.now ≡ c.in-Some.parent.now = ap parent split ∙ parent-append c.in-Some.parent.now c.in-Some.name.now in ap (at c.args.root.now) (sym parent_is) ∙ c.requires.dir

pub returns-clause-undo : goal.returns-clause-undo
returns-clause-undo c =
    let split = sym c.elements.ensures ∙ c.in-Some.ensures.cases.0 in
    let now = λ (q : Path). c.in_ok-graft.ensures.now q ∙ ap (λ n. with_at (c.in-Some.parent.now ++ n ∷ []) (at c.args.copy) (at c.args.root.now) q) c.in_ok-name.ensures ∙ ap (λ p. with_at p (at c.args.copy) (at c.args.root.now) q) (sym split) in
    subst (λ (s : Path). TakesBack (Copied s) (at c.args.root.now) (at c.graft.new.self)) (sym c.in_ok-target.ensures)
    (takes_copied (at c.args.root.now) (at c.graft.new.self) (at c.args.copy) c.args.to.now (λ z. append_some c.in-Some.parent.now c.in-Some.name.now (sym split ∙ z)) c.requires.free c.requires.stands now)
