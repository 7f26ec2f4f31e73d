use Rattle.std.proofs.Common.{◌≡◌, ◌<◌, false, length, rules}
use Rattle.gs_keep_measure.proofs.TailLines.{any_here, any_more, fewer}
use Rattle.gs_keep_measure.proofs.tail.has_mark.Goals as goal

pub returns-then-begins_mark : goal.returns-then-begins_mark
returns-then-begins_mark c =
    let some : 0 < length c.loop-rest.rest.now = search rules in
    any_here _ c.loop-rest.rest.now c.next_line-next.result.line.now c.begins_mark.result c.next_line-next.ensures.line some c.begins_mark.ensures c.if-begins_mark.true c.loop-rest.invariant

pub loop-rest-preserved : goal.loop-rest-preserved
loop-rest-preserved c =
    let some : 0 < length c.loop-rest.rest.now = search rules in
    let fails : c.begins_mark.result ≡ false = search rules in
    any_more _ c.loop-rest.rest.now c.next_line-next.result.line.now c.next_line-next.result.rest.now c.begins_mark.result c.next_line-next.ensures.line c.next_line-next.ensures.rest some c.begins_mark.ensures fails
    c.loop-rest.invariant

pub loop-rest-smaller : goal.loop-rest-smaller
loop-rest-smaller c =
    let some : 0 < length c.loop-rest.rest.now = search rules in
    fewer c.loop-rest.rest.now c.next_line-next.result.rest.now c.next_line-next.ensures.rest some
