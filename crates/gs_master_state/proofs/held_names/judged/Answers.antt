use Rattle.gs_master_state.proofs.Holding.{none_refuses, refused_told}
use Rattle.gs_master_state.proofs.held_names.judged.Goals as goal

pub returns-in-Ok-clause-judged : goal.returns-in-Ok-clause-judged
returns-in-Ok-clause-judged c = none_refuses c.args.edit.now c.args.names c.apply.new.self c.in-Ok.ensures.edit

pub returns-in-Err-clause-judged : goal.returns-in-Err-clause-judged
returns-in-Err-clause-judged c = refused_told c.args.edit.now c.args.names c.in-Err.refusal c.told.result c.in-Err.ensures.edit.0 c.told.ensures.told
