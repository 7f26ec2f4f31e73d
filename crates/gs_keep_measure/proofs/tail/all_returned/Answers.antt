use Rattle.std.proofs.Common.{◌≡◌, ◌<◌, false, true, length, rules}
use Rattle.gs_keep_measure.proofs.TailLines.{all_more, all_not, fewer}
use Rattle.gs_keep_measure.proofs.tail.all_returned.Goals as goal

pub returns-then-not-is_returned : goal.returns-then-not-is_returned
returns-then-not-is_returned c =
    let some : 0 < length c.loop-rest.rest.now = search rules in
    let fails : c.is_returned.result ≡ false = search rules in
    all_not _ c.loop-rest.rest.now c.next_line-next.result.line.now c.is_returned.result c.next_line-next.ensures.line some c.is_returned.ensures fails c.loop-rest.invariant

pub loop-rest-preserved : goal.loop-rest-preserved
loop-rest-preserved c =
    let some : 0 < length c.loop-rest.rest.now = search rules in
    let holds : c.is_returned.result ≡ true = search rules in
    all_more _ c.loop-rest.rest.now c.next_line-next.result.line.now c.next_line-next.result.rest.now c.is_returned.result c.next_line-next.ensures.line c.next_line-next.ensures.rest some c.is_returned.ensures holds
    c.loop-rest.invariant

pub loop-rest-smaller : goal.loop-rest-smaller
loop-rest-smaller c =
    let some : 0 < length c.loop-rest.rest.now = search rules in
    fewer c.loop-rest.rest.now c.next_line-next.result.rest.now c.next_line-next.ensures.rest some
