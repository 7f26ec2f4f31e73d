use Rattle.std.proofs.Common.{◌≡◌, ◌++◌, ◌∷◌, [], map}
use Rattle.std.proofs.lemmas.Result.{err_from_is_err_and}
use Rattle.std.proofs.lemmas.List.{map_push}
use Rattle.gs_fields.specs.Reading.{times}
use Rattle.gs_fields.proofs.Loops.{goes_on, ends, is_done, begins}
use Rattle.gs_fields.proofs.lists.read_items.Goals as goal

pub loop-init : goal.loop-init
loop-init g c = rw c.new-items.ensures.items (begins g.T.Field.reading c.args.count c.args.cursor.now.rest.now)

pub returns-in_err-item : goal.returns-in_err-item
returns-in_err-item g c =
    let p = err_from_is_err_and c.from_residual.result c.from_residual.ensures.1 in
    rw (p.1, p.2) (ends g.T.Field.reading c.in_err-item.field-0.0 (map g.T.Field.plain c.loop.items.items) c.args.count c.loop.counter c.loop.cursor.rest.now (times g.T.Field.reading c.args.count c.args.cursor.now.rest.now) c.loop-test.true c.in_err-item.ensures c.loop.invariant)

pub loop-preserved : goal.loop-preserved
loop-preserved g c =
    let e : map g.T.Field.plain c.push.new.self.items ≡ map g.T.Field.plain c.loop.items.items ++ g.T.Field.plain c.in_ok-item.item ∷ [] = rw c.in_ok-push.ensures.items (map_push _ c.loop.items.items c.in_ok-item.item) in
    rw e (goes_on g.T.Field.reading (map g.T.Field.plain c.loop.items.items) c.args.count c.loop.counter c.loop.cursor.rest.now (g.T.Field.plain c.in_ok-item.item) c.read.new.cursor.rest.now (times g.T.Field.reading c.args.count c.args.cursor.now.rest.now) c.loop-test.true c.in_ok-item.ensures c.loop.invariant)

pub returns : goal.returns
returns g c = is_done g.T.Field.reading (map g.T.Field.plain c.loop.items.items) c.args.count c.loop.counter c.loop.cursor.rest.now (times g.T.Field.reading c.args.count c.args.cursor.now.rest.now) c.loop-test.false c.loop.invariant
