use Rattle.std.proofs.Common.{sym, ◌∙◌}
use Rattle.gs_master_state.proofs.Deleted.{hidden_beside}
use Rattle.gs_master_state.proofs.file.hidden_path.Goals as goal

pub returns : goal.returns
returns c = hidden_beside c.beside.result c.args.path.now c.in-Some.field-0-1.now c.in-Some.name.now c.in_ok-hidden.hidden c.args.moment.0 c.args.number (sym c.elements.ensures ∙ c.in-Some.ensures.cases.0) c.in_ok-hidden.ensures.name c.beside.ensures
