use Rattle.std.proofs.Common.{◌+◌, drop}
use Rattle.std.proofs.lemmas.Result.{err_from_is_err_and}
use Rattle.gs_master_record.proofs.Loops.{all_left, one_less, not_put, none_left, cut_at, cut_end, list_put}
use Rattle.gs_master_record.proofs.lists.put_list.Goals as goal

pub loop-item-init : goal.loop-item-init
loop-item-init g c = all_left g.T.Field.plain g.T.Field.Is g.T.Field.written c.args.items.now c.put.new.out.items

pub returns-in_err-put-2 : goal.returns-in_err-put-2
returns-in_err-put-2 g c =
    let p = err_from_is_err_and c.from_residual-in_err-put-2.result c.from_residual-in_err-put-2.ensures.1 in
    rw (p.1, p.2) (not_put g.T.Field.plain g.T.Field.Is g.T.Field.written c.args.items.now (drop c.loop-item.item-index c.args.items.now) c.item-item.result (drop (c.loop-item.item-index + 1) c.args.items.now) c.put.new.out.items c.loop-item.out.items c.in_err-put-2.field-0.0 (cut_at c.args.items.now c.loop-item.item-index c.item-item.result c.loop-item-test.true c.item-item.is) c.in_err-put-2.ensures c.loop-item.invariant)

pub loop-item-preserved : goal.loop-item-preserved
loop-item-preserved g c =
    one_less g.T.Field.plain g.T.Field.Is g.T.Field.written c.args.items.now (drop c.loop-item.item-index c.args.items.now) c.item-item.result (drop (c.loop-item.item-index + 1) c.args.items.now) c.put.new.out.items c.loop-item.out.items c.put-in-loop-item.new.out.items
    (cut_at c.args.items.now c.loop-item.item-index c.item-item.result c.loop-item-test.true c.item-item.is) c.in_ok-put-2.ensures c.loop-item.invariant

pub returns : goal.returns
returns g c =
    list_put g.T.Field.plain g.T.Field.Is g.T.Field.written c.args.items.now c.in-Ok.count c.args.out.now.items c.put.new.out.items c.loop-item.out.items c.in-Ok.ensures.0 c.in-Ok.ensures.1 c.in_ok-put.ensures.1
    (none_left g.T.Field.plain g.T.Field.Is g.T.Field.written c.args.items.now (drop c.loop-item.item-index c.args.items.now) c.put.new.out.items c.loop-item.out.items (cut_end c.args.items.now c.loop-item.item-index c.loop-item-test.false) c.loop-item.invariant)
