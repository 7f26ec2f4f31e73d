use Rattle.gs_block.proofs.Counts.{empty_stored}
use Rattle.gs_block.proofs.blocks.Blocks.new.Goals as goal

pub invariant_of-result : goal.invariant_of-result
invariant_of-result c = rw (c.new.ensures.items, c.new-2.ensures.items) (empty_stored c.args.sizes.block c.args.sizes.chunk c.args.sizes.some c.args.sizes.block_fits c.args.sizes.chunk_fits)
