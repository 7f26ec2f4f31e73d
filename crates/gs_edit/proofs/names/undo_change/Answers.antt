use Rattle.gs_edit.proofs.Applied.{undo_refused}
use Rattle.gs_edit.proofs.names.undo_change.Goals as goal

pub returns-in-Err-clause-undo : goal.returns-in-Err-clause-undo
returns-in-Err-clause-undo c = undo_refused c.args.inverse.now c.args.tree.now c.undo.new.self c.args.refs.now c.in-Err.refusal c.in-Err.ensures.undo
