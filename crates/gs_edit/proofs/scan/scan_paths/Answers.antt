use Rattle.std.proofs.Common.{◌≡◌, ℕ, filter, map, ap, ◌∙◌}
use Rattle.std.specs.FinMap.{entries, entries_sorted}
use Rattle.std.proofs.lemmas.Result.{IfOk-weaker}
use Rattle.gs_tree.specs.Find.{Rows}
use Rattle.gs_tree.specs.Build.{path_of_entry}
use Rattle.gs_edit.specs.Table.{paths_of}
use Rattle.gs_edit.specs.Scan.{goes}
use Rattle.gs_edit.proofs.Removals.{removed_in_order}
use Rattle.gs_edit.proofs.Scanned.{paths_listed}
use Rattle.gs_edit.proofs.scan.scan_paths.Goals as goal

pub returns : goal.returns
returns c =
    let moment = c.args.moment.0 in
    let listed : c.in_ok-found.found.items ≡ filter (goes moment) (paths_of (entries c.args.tree.now)) =
    c.in_ok-found.ensures ∙ ap (λ es. filter (goes moment) (map path_of_entry es)) c.deref.ensures.value ∙ paths_listed moment c.in_ok-entries.entries.items
    ∙ ap (λ (rows : Rows ℕ). filter (goes moment) (paths_of rows)) c.in_ok-entries.ensures.rows in
    IfOk-weaker c.in_order.result _ _
    (λ paths h. removed_in_order moment (entries c.args.tree.now) c.in_ok-found.found.items paths.items (entries_sorted c.args.tree.now) listed h.0 h.1)
    c.in_order.ensures
