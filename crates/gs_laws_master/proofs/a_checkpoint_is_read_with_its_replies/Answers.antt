use Rattle.gs_master_state.proofs.Opened.{with_replies, without_replies}
use Rattle.gs_laws_master.proofs.a_checkpoint_is_read_with_its_replies.Goals as goal

pub returns-clause-told : goal.returns-clause-told
returns-clause-told c = with_replies

pub returns-clause-none : goal.returns-clause-none
returns-clause-none c = without_replies
