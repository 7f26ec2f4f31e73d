use Rattle.gs_laws_chunks.proofs.lemmas.accounts.Blocks.{blocks_have}
use Rattle.gs_laws_chunks.proofs.accounts.blocks_that_stand_are_all_blocks.Goals as goal

pub returns : goal.returns
returns c = blocks_have
