use Rattle.std.proofs.Common.{arith}
use Rattle.gs_keep_mark.proofs.Lines.{digits_more, digits_none}
use Rattle.gs_keep_mark.proofs.+push_digits.Goals as goal

pub returns-then-places-eq0 : goal.returns-then-places-eq0
returns-then-places-eq0 t c = digits_none c.args.bytes.now.items c.args.places c.args.count (omega (arith, c.if-places-eq0.true))

pub returns : goal.returns
returns t c = digits_more c.args.bytes.now.items _ _ c.args.places c.args.count (omega (arith, c.if-places-eq0.false)) c.in_ok-push_digits.ensures c.in_ok-extend_from_slice.ensures.items
