use Rattle.gs_block.specs.Stored.{block_at, digest_at}
use Rattle.gs_block.proofs.promises.digests_tell_blocks_apart.Goals as goal

pub returns : goal.returns
unfolding digest_at
returns c among size xs ys tells has_xs has_ys i same = tells (block_at size i xs) (block_at size i ys) (has_xs i) (has_ys i) same
