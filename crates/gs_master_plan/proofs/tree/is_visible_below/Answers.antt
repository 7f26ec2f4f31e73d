use Rattle.std.proofs.Common.{◌∙◌, ◌&&◌, ap, not, sym}
use Rattle.std.specs.List.{list_any}
use Rattle.gs_path.specs.Element.{is_hidden}
use Rattle.gs_tree.proofs.Laws.{after_append, begins_append}
use Rattle.gs_master_plan.specs.inner.Holding.{is_visible_below}
use Rattle.gs_master_plan.proofs.tree.is_visible_below.Goals as goal

pub returns-in-Some : goal.returns-in-Some
returns-in-Some c =
    let from = c.args.from.now in
    let rest = c.in-Some.rest.now in
    ap not c.is_any_hidden.ensures ∙ sym (ap (is_visible_below from) c.in-Some.ensures ∙ (λ i. begins_append from rest i && not (list_any is_hidden (after_append from rest i))))
