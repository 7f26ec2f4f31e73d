use Rattle.std.proofs.Common.{arith, eq-eqb, ne_eqb}
use Rattle.gs_keep_measure.proofs.TailLines.{len_all, len_here, len_more}
use Rattle.gs_keep_measure.proofs.tail.line_len.Goals as goal

pub returns-then-first-eq10-clause-value : goal.returns-then-first-eq10-clause-value
returns-then-first-eq10-clause-value c =
    len_here c.args.bytes.now c.loop-first.rest.now c.in-Some.more.now c.in-Some.first.now c.loop-first.count c.in-Some.ensures.cases.0 (eq-eqb c.in-Some.first.now 10 c.if-first-eq10.true) c.loop-first.invariant.0

pub loop-first-preserved : goal.loop-first-preserved
loop-first-preserved c = (
  len_more c.args.bytes.now c.loop-first.rest.now c.in-Some.more.now c.in-Some.first.now c.loop-first.count c.in-Some.ensures.cases.0 (ne_eqb c.in-Some.first.now 10 c.if-first-eq10.false) c.loop-first.invariant.0,
  omega (arith, c.loop-first.invariant.1, c.in-Some.ensures.cases.1),
)

pub returns-clause-value : goal.returns-clause-value
returns-clause-value c = len_all c.args.bytes.now c.loop-first.rest.now c.loop-first.count c.in_default.ensures.cases c.loop-first.invariant.0
