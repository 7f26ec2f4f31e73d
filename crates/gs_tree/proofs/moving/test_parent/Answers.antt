use Rattle.std.proofs.Common.{◌≡◌, ap, sym, ◌∙◌}
use Rattle.gs_tree.specs.declared.node.Sort.TheVariants as sorts
use Rattle.gs_tree.specs.Find.{at}
use Rattle.gs_tree.specs.Edits.{parent}
use Rattle.gs_tree.proofs.Moves.{told, dir_is, parent-append}
use Rattle.gs_tree.proofs.moving.test_parent.Goals as goal

pub returns-in-Missing : goal.returns-in-Missing
returns-in-Missing c deep from m new =
    told deep (at c.args.root.now) m from c.args.target.now c.in-Some.parent.now c.in-Some.field-0-0.now sorts.Missing new (sym c.elements.ensures ∙ c.in-Some.ensures.cases.0) c.in-Missing.ensures.sort

pub returns-in-File : goal.returns-in-File
returns-in-File c deep from m new =
    told deep (at c.args.root.now) m from c.args.target.now c.in-Some.parent.now c.in-Some.field-0-0.now sorts.File new (sym c.elements.ensures ∙ c.in-Some.ensures.cases.0) c.in-File.ensures.sort

pub returns-in-Dir : goal.returns-in-Dir
returns-in-Dir c =
    let up : parent c.args.target.now ≡ c.in-Some.parent.now = ap parent (sym c.elements.ensures ∙ c.in-Some.ensures.cases.0) ∙ parent-append c.in-Some.parent.now c.in-Some.field-0-0.now in
    ap (at c.args.root.now) up ∙ dir_is (at c.args.root.now c.in-Some.parent.now) c.in-Dir.ensures.sort
