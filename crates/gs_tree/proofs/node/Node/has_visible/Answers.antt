use Rattle.std.proofs.Common.{sym, ap, ◌∙◌, subst}
use Rattle.std.specs.Bool.{MatchBool}
use Rattle.gs_tree.specs.Find.{at}
use Rattle.gs_tree.specs.Listing.{HasVisible}
use Rattle.gs_tree.specs.Rows.{rows_of, IsLevel, IsRooted}
use Rattle.gs_tree.proofs.Children.{visible}
use Rattle.gs_tree.proofs.node.Node.has_visible.Goals as goal

pub returns-in-Dir : goal.returns-in-Dir
returns-in-Dir c =
    subst (λ r. MatchBool c.any_visible.result (HasVisible (at r)) (HasVisible (at r) → ⊥)) (ap rows_of (sym c.in-Dir.is) ∙ c.self.view_is)
    (visible c.in-Dir.children.entries c.any_visible.result (subst IsLevel c.in-Dir.is c.self.invariant.level) (subst IsRooted c.in-Dir.is c.self.invariant.rooted) c.any_visible.ensures)
