use Rattle.std.proofs.Common.{refl}
use Rattle.gs_replica.proofs.Blocks.{apply_brings}
use Rattle.gs_replica.proofs.promises.edits_bring_blocks_of_their_text.Goals as goal

pub returns-clause-held : goal.returns-clause-held
returns-clause-held c block chunk r r2 edits stamp number req op bytes stands told is = (apply_brings block chunk r r2 edits stamp number req op bytes stands told is _ refl).0

pub returns-clause-listed : goal.returns-clause-listed
returns-clause-listed c block chunk r r2 edits stamp number req op bytes stands told is = (apply_brings block chunk r r2 edits stamp number req op bytes stands told is _ refl).1
