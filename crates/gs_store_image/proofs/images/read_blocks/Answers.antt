use Rattle.std.proofs.lemmas.Result.{err_from_is_err_and}
use Rattle.gs_fields.specs.Reading.{times, long_bytes_at, option_at}
use Rattle.gs_fields.proofs.Loops.{goes_on, ends}
use Rattle.gs_store_image.proofs.images.read_blocks.Goals as goal

pub returns-in_err-image : goal.returns-in_err-image
returns-in_err-image c =
    let p = err_from_is_err_and c.from_residual.result c.from_residual.ensures.1 in
    rw (p.1, p.2) (ends (option_at long_bytes_at) c.in_err-image.field-0.0 c.loop.blocks.items c.args.count c.loop.counter c.loop.cursor.rest.now (times (option_at long_bytes_at) c.args.count c.args.cursor.now.rest.now) c.loop-test.true c.in_err-image.ensures c.loop.invariant)

pub loop-preserved : goal.loop-preserved
loop-preserved c =
    rw c.in_ok-push.ensures.items (goes_on (option_at long_bytes_at) c.loop.blocks.items c.args.count c.loop.counter c.loop.cursor.rest.now c.in_ok-image.image c.read_image.new.cursor.rest.now (times (option_at long_bytes_at) c.args.count c.args.cursor.now.rest.now) c.loop-test.true c.in_ok-image.ensures c.loop.invariant)
