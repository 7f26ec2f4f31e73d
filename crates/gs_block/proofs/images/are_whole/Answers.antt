use Rattle.std.proofs.Common.{◌≡◌, ◌*◌, ◌<◌, ◌≤◌, arith, rules}
use Rattle.gs_block.specs.Stored.{count_of}
use Rattle.gs_block.proofs.Counts.{starts}
use Rattle.gs_block.proofs.images.are_whole.Goals as goal

pub overflow_sub-long : goal.overflow_sub-long
overflow_sub-long c =
    let counted = c.requires.counted in
    let inside = c.loop-index-test.true in
    let begins = starts c.args.size c.args.long c.loop-index.index c.requires.some (let l : c.loop-index.index < count_of c.args.size c.args.long = omega arith in l) in
    omega arith

pub overflow_mul-index : goal.overflow_mul-index
overflow_mul-index c =
    let counted = c.requires.counted in
    let inside = c.loop-index-test.true in
    let begins = starts c.args.size c.args.long c.loop-index.index c.requires.some (let l : c.loop-index.index < count_of c.args.size c.args.long = omega arith in l) in
    let bound : c.loop-index.index * c.args.size ≤ c.args.long = omega arith in
    let fits = c.ranges.long.fits in
    search rules
