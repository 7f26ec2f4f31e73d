use Rattle.std.proofs.Common.{◌≡◌, true, false, rules, arith}
use Rattle.gs_keep_measure.proofs.Nearly.{wrong_more, wrong_none, wrong_same}
use Rattle.gs_keep_measure.proofs.is_nearly_mark.Goals.{then-not-may_stand, else-not-may_stand}
use Rattle.gs_keep_measure.proofs.is_nearly_mark.Goals as goal

pub loop-place-init : goal.loop-place-init
loop-place-init c = (wrong_none c.args.bytes.now, omega arith)

pub loop-place-preserved : goal.loop-place-preserved
loop-place-preserved c = elim c.if-not-may_stand.branch [
  | then-not-may_stand w ↦
      let other : c.may_stand.result ≡ false = search rules in
      rw w.wrong-is (wrong_more c.loop-place.place c.loop-place.wrong c.args.bytes.now c.may_stand.result c.may_stand.ensures other c.loop-place.invariant.0, omega (arith, c.loop-place.invariant.1))
  | else-not-may_stand w ↦
      let fits : c.may_stand.result ≡ true = search rules in
      rw w.wrong-is (wrong_same c.loop-place.place c.loop-place.wrong c.args.bytes.now c.may_stand.result c.may_stand.ensures fits c.loop-place.invariant.0, omega (arith, c.loop-place.invariant.1))
]
