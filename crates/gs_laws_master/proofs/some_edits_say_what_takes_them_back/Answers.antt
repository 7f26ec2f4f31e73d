use Rattle.gs_master_state.proofs.Edits.{say_alone}
use Rattle.gs_laws_master.proofs.some_edits_say_what_takes_them_back.Goals as goal

pub returns : goal.returns
returns c = say_alone
