use Rattle.std.proofs.Common.{◌+◌, drop}
use Rattle.std.proofs.lemmas.Result.{err_from_is_err_and}
use Rattle.gs_fields.proofs.Loops.{all_left, one_less, not_put, none_left, cut_at, cut_end}
use Rattle.gs_fields.proofs.lists.put_items.Goals as goal

pub loop-item-init : goal.loop-item-init
loop-item-init g c = all_left g.T.Field.plain g.T.Field.Is g.T.Field.written c.args.items.now c.args.out.now.items

pub returns-in_err-put : goal.returns-in_err-put
returns-in_err-put g c =
    let p = err_from_is_err_and c.from_residual.result c.from_residual.ensures.1 in
    rw (p.1, p.2) (not_put g.T.Field.plain g.T.Field.Is g.T.Field.written c.args.items.now (drop c.loop-item.item-index c.args.items.now) c.item-item.result (drop (c.loop-item.item-index + 1) c.args.items.now) c.args.out.now.items c.loop-item.out.items c.in_err-put.field-0.0 (cut_at c.args.items.now c.loop-item.item-index c.item-item.result c.loop-item-test.true c.item-item.is) c.in_err-put.ensures c.loop-item.invariant)

pub loop-item-preserved : goal.loop-item-preserved
loop-item-preserved g c =
    one_less g.T.Field.plain g.T.Field.Is g.T.Field.written c.args.items.now (drop c.loop-item.item-index c.args.items.now) c.item-item.result (drop (c.loop-item.item-index + 1) c.args.items.now) c.args.out.now.items c.loop-item.out.items c.put.new.out.items
    (cut_at c.args.items.now c.loop-item.item-index c.item-item.result c.loop-item-test.true c.item-item.is) c.in_ok-put.ensures c.loop-item.invariant

pub returns : goal.returns
returns g c =
    none_left g.T.Field.plain g.T.Field.Is g.T.Field.written c.args.items.now (drop c.loop-item.item-index c.args.items.now) c.args.out.now.items c.loop-item.out.items (cut_end c.args.items.now c.loop-item.item-index c.loop-item-test.false) c.loop-item.invariant
