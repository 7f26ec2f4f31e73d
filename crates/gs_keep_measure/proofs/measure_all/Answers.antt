use Rattle.std.proofs.Common.{arith, refl, inr}
use Rattle.gs_keep_measure.proofs.Steps.{all_measured, if_err, if_some, none_yet, not_measured, one_more, too_many_lines}
use Rattle.gs_keep_measure.proofs.measure_all.Goals as goal

pub loop-count-init : goal.loop-count-init
loop-count-init g c = none_yet (g.B.Read.remaining c.args.reader.now.reader) _ refl refl refl refl refl

pub loop-count-preserved : goal.loop-count-preserved
loop-count-preserved g c =
    if_some (g.B.Read.remaining c.args.reader.now.reader) _ _ (λ xs so_far. one_more xs (g.B.Read.remaining c.loop-count.reader.reader) (g.B.Read.remaining c.measure_one.new.reader.reader) c.loop-count.count c.loop-count.now
    c.in-Some.more so_far (rw c.in-Some.is at c.in_ok-more.ensures.more)) c.loop-count.invariant

pub returns-in-None-clause-measure : goal.returns-in-None-clause-measure
returns-in-None-clause-measure g c =
    if_some (g.B.Read.remaining c.args.reader.now.reader) _ _ (λ xs so_far. all_measured xs (g.B.Read.remaining c.loop-count.reader.reader) (g.B.Read.remaining c.measure_one.new.reader.reader) c.loop-count.count c.loop-count.now
    so_far (rw c.in-None.is at c.in_ok-more.ensures.more)) c.loop-count.invariant

pub returns-in_err-more-clause-refused : goal.returns-in_err-more-clause-refused
returns-in_err-more-clause-refused g c =
    if_err c.from_residual.result c.in_err-more.field-0.0 _ c.from_residual.ensures.1
    (if_some (g.B.Read.remaining c.args.reader.now.reader) _ _ (λ xs so_far. not_measured c.in_err-more.field-0.0 xs (g.B.Read.remaining c.loop-count.reader.reader) c.loop-count.count c.loop-count.now
    so_far c.in_err-more.ensures.refused) c.loop-count.invariant)

pub returns-clause-refused : goal.returns-clause-refused
returns-clause-refused g c =
    if_some (g.B.Read.remaining c.args.reader.now.reader) _ _ (λ xs so_far. inr (too_many_lines xs (g.B.Read.remaining c.loop-count.reader.reader) c.loop-count.count c.loop-count.now (omega arith) so_far)) c.loop-count.invariant
