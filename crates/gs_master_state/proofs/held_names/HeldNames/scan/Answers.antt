use Rattle.std.proofs.Common.{rules, ◌≡◌, ◌∙◌, [], ap, subst}
use Rattle.std.specs.FinMap.{entries}
use Rattle.gs_edit.specs.Scan.{Scans}
use Rattle.gs_edit.specs.View.{NamesView}
use Rattle.gs_master_state.specs.inner.Held.{HeldView}
use Rattle.gs_master_state.proofs.Keeping.{not_kept}
use Rattle.gs_master_state.proofs.held_names.HeldNames.scan.Goals as goal

pub returns-then-is_empty : goal.returns-then-is_empty
returns-then-is_empty c =
    let none : c.self.inside.places.items ≡ [] = search rules in
    subst (λ (v : NamesView). Scans c.args.moment.0 (entries v.tree) v.refs c.scan.result)
    (not_kept c.self.inside.places.items c.self.inside.names none ∙ ap (λ (v : HeldView). v.names) c.self.view_is) c.scan.ensures
