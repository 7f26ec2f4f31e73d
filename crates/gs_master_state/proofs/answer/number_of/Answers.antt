use Rattle.std.proofs.Common.{arith}
use Rattle.gs_master_state.proofs.Digits.{all_read, too_many}
use Rattle.gs_master_state.proofs.answer.number_of.Goals as goal

pub returns-in_default : goal.returns-in_default
returns-in_default c =
    too_many c.as_bytes-digit-items.result.now c.loop-digit.digit-index c.loop-digit.number _ c.loop-digit-test.true c.loop-digit.invariant.read (λ fits. c.in_default.ensures (omega arith))

pub returns-in_default-checked_add : goal.returns-in_default-checked_add
returns-in_default-checked_add c =
    let tens = c.in-Some.ensures in
    let digit = c.digit_value.ensures in
    too_many c.as_bytes-digit-items.result.now c.loop-digit.digit-index c.loop-digit.number _ c.loop-digit-test.true c.loop-digit.invariant.read (λ fits. c.in_default-checked_add.ensures (omega arith))

pub returns : goal.returns
returns c = all_read c.as_bytes-digit-items.result.now c.loop-digit.digit-index c.loop-digit.number _ c.loop-digit-test.false c.loop-digit.invariant.fits c.loop-digit.invariant.read
