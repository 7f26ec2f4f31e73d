use Rattle.std.proofs.lemmas.Result.{err_from_is_err_and}
use Rattle.gs_fields.specs.Reading.{times}
use Rattle.gs_fields.proofs.Loops.{goes_on, ends}
use Rattle.gs_store_image.specs.StoreReading.{kept_at}
use Rattle.gs_store_image.proofs.store.read_slots.Goals as goal

pub returns-in_err-kept : goal.returns-in_err-kept
returns-in_err-kept c =
    let p = err_from_is_err_and c.from_residual.result c.from_residual.ensures.1 in
    let at = kept_at c.args.sizes.block c.args.sizes.chunk in
    rw (p.1, p.2) (ends at c.in_err-kept.field-0.0 c.loop.slots.items c.args.count c.loop.counter c.loop.cursor.rest.now (times at c.args.count c.args.cursor.now.rest.now) c.loop-test.true c.in_err-kept.ensures c.loop.invariant)

pub loop-preserved : goal.loop-preserved
loop-preserved c =
    let at = kept_at c.args.sizes.block c.args.sizes.chunk in
    rw c.in_ok-push.ensures.items (goes_on at c.loop.slots.items c.args.count c.loop.counter c.loop.cursor.rest.now c.in_ok-kept.kept c.read_kept.new.cursor.rest.now (times at c.args.count c.args.cursor.now.rest.now) c.loop-test.true c.in_ok-kept.ensures c.loop.invariant)
