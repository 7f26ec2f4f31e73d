use Rattle.std.proofs.Common.{subst}
use Rattle.std.specs.FinMap.{entries}
use Rattle.gs_edit.specs.View.{NamesView, names_of}
use Rattle.gs_edit.specs.Edits.{AppliesRows}
use Rattle.gs_edit.proofs.Applied.{rows_applied}
use Rattle.gs_edit.proofs.names.Names.apply.Goals as goal

pub returns-clause-rows : goal.returns-clause-rows
returns-clause-rows c keeps =
    subst (λ (v : NamesView). AppliesRows c.args.edit.now (entries v.tree) c.apply_in.result (entries c.apply_in.new.tree)) c.self.view_is
    (rows_applied c.args.edit.now keeps c.apply_in.result (names_of c.self.inside.tree c.self.inside.refs) (names_of c.apply_in.new.tree c.apply_in.new.refs) c.apply_in.ensures.edit)
