use Rattle.gs_block.proofs.Others.{damage_others}
use Rattle.gs_block.proofs.promises.damage_leaves_the_other_blocks.Goals as goal

pub returns : goal.returns
returns c s s2 index some e = damage_others s s2 index some e
