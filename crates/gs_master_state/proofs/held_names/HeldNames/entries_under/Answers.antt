use Rattle.std.proofs.Common.{◌≡◌, ◌∙◌, false, ap, subst, sym}
use Rattle.std.specs.FinMap.{entries}
use Rattle.std.specs.List.{list_any}
use Rattle.std.specs.Prelude.{IfOk}
use Rattle.gs_path.specs.Path.{begins}
use Rattle.gs_tree.specs.Build.{rows_of_entries}
use Rattle.gs_tree.specs.Chunks.{rows_under}
use Rattle.gs_tree.specs.Find.{Rows}
use Rattle.gs_master_state.specs.inner.Held.{HeldView}
use Rattle.gs_master_state.proofs.Keeping.{not_any, under_apart}
use Rattle.gs_master_state.proofs.held_names.HeldNames.entries_under.Goals as goal

pub returns-then-is_apart : goal.returns-then-is_apart
returns-then-is_apart c =
    let apart : list_any (begins c.args.path.now) c.self.inside.places.items ≡ false = ap (λ (v : HeldView). list_any (begins c.args.path.now) v.places) c.self.view_is ∙ not_any (begins c.args.path.now) c.args.self.now.places (sym c.is_apart.ensures ∙ c.if-is_apart.true) in
    subst (λ (rows : Rows _). IfOk c.entries_under.result (λ listed. rows_of_entries listed.items ≡ rows))
    (ap (λ t. rows_under c.args.path.now (entries t)) c.tree.ensures ∙ under_apart c.self.inside.places.items c.args.path.now c.self.inside.names apart ∙ ap (λ (v : HeldView). rows_under c.args.path.now (entries v.names.tree)) c.self.view_is)
    c.entries_under.ensures
