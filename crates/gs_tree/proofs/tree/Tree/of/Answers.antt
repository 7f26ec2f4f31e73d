use Rattle.std.proofs.Common.{[], ap, ◌∙◌, subst}
use Rattle.std.specs.Prelude.{Ok}
use Rattle.gs_path.specs.Path.{Path}
use Rattle.gs_tree.specs.Entry.{Dir}
use Rattle.gs_tree.specs.Build.{rows_of_entries}
use Rattle.gs_tree.specs.inner.Building.{BuildsPart}
use Rattle.gs_tree.proofs.Moves.{seen}
use Rattle.gs_tree.proofs.tree.Tree.of.Goals as goal

pub returns-in-Ok : goal.returns-in-Ok
returns-in-Ok c =
    let h : BuildsPart ([], Dir) (rows_of_entries c.args.entries.now) (Ok c.in-Ok.root) = subst (λ (p : Path). BuildsPart (p, Dir) (rows_of_entries c.args.entries.now) (Ok c.in-Ok.root)) c.root.ensures c.in-Ok.ensures in
    (h.0, λ q. ap (λ f. f q) (seen c.in-Ok.root) ∙ h.1 q)
