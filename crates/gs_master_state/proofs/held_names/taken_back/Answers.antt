use Rattle.gs_master_state.proofs.Holding.{undone_gives}
use Rattle.gs_master_state.proofs.held_names.taken_back.Goals as goal

pub returns-in-Ok : goal.returns-in-Ok
returns-in-Ok c = λ stood back. undone_gives c.args.inverse.now stood c.args.names c.undo.new.self c.in-Ok.ensures.undo back
