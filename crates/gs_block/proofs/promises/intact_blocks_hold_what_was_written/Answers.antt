use Rattle.gs_block.proofs.Standing.{intact_same}
use Rattle.gs_block.proofs.Telling.{read_same, whole_same}
use Rattle.gs_block.proofs.promises.intact_blocks_hold_what_was_written.Goals as goal

pub returns-clause-block : goal.returns-clause-block
returns-clause-block c s bytes i w told below intact = intact_same s bytes i w told below intact

pub returns-clause-read : goal.returns-clause-read
returns-clause-read c s bytes part offset many w told e = read_same s bytes part offset many w told e

pub returns-clause-whole : goal.returns-clause-whole
returns-clause-whole c s bytes w told none = whole_same s bytes w told none
