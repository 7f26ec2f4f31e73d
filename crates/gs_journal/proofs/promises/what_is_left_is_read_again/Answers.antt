use Rattle.gs_journal.proofs.Forms.{old_or_new, with_or_without}
use Rattle.gs_journal.proofs.promises.what_is_left_is_read_again.Goals as goal

pub returns-clause-appended : goal.returns-clause-appended
returns-clause-appended c = with_or_without

pub returns-clause-renewed : goal.returns-clause-renewed
returns-clause-renewed c = old_or_new
