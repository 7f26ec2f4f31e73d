use Rattle.gs_master_state.proofs.Takings.{refused_list, takes_one}
use Rattle.gs_master_state.proofs.upgrade.take_back.Goals as goal

pub returns-in-Err : goal.returns-in-Err
returns-in-Err c = refused_list c.args.listed.now c.args.names.now c.in-Err.refusal c.in-Err.ensures

pub returns : goal.returns
returns c = takes_one c.args.listed.now c.in-Ok.inverse c.args.names.now c.undo.new.self c.undo.result c.in-Ok.ensures.0 c.in-Ok.ensures.1 c.undo.ensures.undo
