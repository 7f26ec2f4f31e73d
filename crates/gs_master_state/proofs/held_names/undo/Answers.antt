use Rattle.gs_master_state.proofs.Before.{names_back}
use Rattle.gs_master_state.proofs.held_names.undo.Goals as goal

pub returns : goal.returns
returns c = λ stood back free. names_back c.args.inverse.now stood c.args.names.now c.undo-undone.new.self c.undo-undone.result c.undo-undone.ensures.undo c.undo-undone.ensures.memory (back, free)
