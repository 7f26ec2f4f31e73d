use Rattle.std.proofs.Common.{subst, ap, ◌∙◌, length}
use Rattle.gs_path.specs.Path.{Path}
use Rattle.gs_tree.specs.Find.{at, DirsAbove}
use Rattle.gs_tree.specs.inner.Sort.{sort_of}
use Rattle.gs_tree.specs.declared.inverse.TreeInverse.TheVariants.{Made}
use Rattle.gs_tree.proofs.Moves.{dir_is}
use Rattle.gs_tree.proofs.Makes.{mkdirs_there}
use Rattle.gs_tree.proofs.making.found.Goals as goal

pub returns-in_ok-copy-in-Dir-clause-edit : goal.returns-in_ok-copy-in-Dir-clause-edit
returns-in_ok-copy-in-Dir-clause-edit c =
    let dir = dir_is (at c.args.root.now c.args.path.now) (c.in-Dir.ensures.sort ∙ ap (λ p. sort_of (at c.args.root.now p)) c.elements.ensures) in
    let above = subst (λ (p : Path). DirsAbove (at c.args.root.now) p) c.elements.ensures (c.in-Dir.ensures.above (λ e. cc)) in
    mkdirs_there (Made c.in_ok-copy-in-Dir.field-0 (length c.elements-above.result.now)) (at c.args.root.now) c.args.path.now dir above
