use Rattle.gs_master_state.proofs.Holding.{follows}
use Rattle.gs_master_state.proofs.held_names.followed.Goals as goal

pub returns-in-Ok : goal.returns-in-Ok
returns-in-Ok c = λ before after stands edited. follows c.args.edit.now c.args.spare c.in_ok-spare.spare c.made.new.names before after c.in_ok-spare.was stands c.in-Ok.ensures edited
