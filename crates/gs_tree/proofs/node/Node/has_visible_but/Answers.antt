use Rattle.std.proofs.Common.{sym, ap, ◌∙◌, subst}
use Rattle.std.specs.Bool.{MatchBool}
use Rattle.gs_tree.specs.Find.{at}
use Rattle.gs_tree.specs.Listing.{HasVisibleBut}
use Rattle.gs_tree.specs.Rows.{rows_of, IsLevel, IsRooted}
use Rattle.gs_tree.proofs.Children.{visible_but}
use Rattle.gs_tree.proofs.node.Node.has_visible_but.Goals as goal

pub returns-in-Dir : goal.returns-in-Dir
returns-in-Dir c =
    subst (λ r. MatchBool c.any_visible_but.result (HasVisibleBut c.args.name.now (at r)) (HasVisibleBut c.args.name.now (at r) → ⊥)) (ap rows_of (sym c.in-Dir.is) ∙ c.self.view_is)
    (visible_but c.in-Dir.children.entries c.args.name.now c.any_visible_but.result (subst IsLevel c.in-Dir.is c.self.invariant.level) (subst IsRooted c.in-Dir.is c.self.invariant.rooted) c.any_visible_but.ensures)
