use Rattle.std.proofs.Common.{◌≡◌, ◌<◌, ◌∙◌, ℕ, List, false, ap, arith, length, rules, subst, sym}
use Rattle.gs_keep_measure.proofs.TailLines.{early_here, early_last, early_more, early_none, fewer_left, some_of}
use Rattle.gs_keep_measure.proofs.tail.early_mark.Goals as goal

pub returns-then-is_empty : goal.returns-then-is_empty
returns-then-is_empty c =
    let none : length c.next_line-next.result.rest.now ≡ 0 = search rules in
    early_last c.loop-count.rest.now c.loop-count.count (ap length (sym c.next_line-next.ensures.rest) ∙ none) ∙ sym c.loop-count.invariant.0

pub returns-then-begins_mark : goal.returns-then-begins_mark
returns-then-begins_mark c =
    let some : 0 < length c.next_line-next.result.rest.now = search rules in
    early_here _ c.loop-count.rest.now c.next_line-next.result.line.now c.next_line-next.result.rest.now c.loop-count.count c.begins_mark.result c.next_line-next.ensures.line c.next_line-next.ensures.rest some
    c.begins_mark.ensures c.if-begins_mark.true c.loop-count.invariant.0

pub loop-count-preserved : goal.loop-count-preserved
loop-count-preserved c =
    let some : 0 < length c.next_line-next.result.rest.now = search rules in
    let fails : c.begins_mark.result ≡ false = search rules in (
      early_more _ c.loop-count.rest.now c.next_line-next.result.line.now c.next_line-next.result.rest.now c.loop-count.count c.begins_mark.result c.next_line-next.ensures.line c.next_line-next.ensures.rest some
          c.begins_mark.ensures fails c.loop-count.invariant.0,
      fewer_left c.args.bytes.now c.loop-count.rest.now c.next_line-next.result.line.now c.next_line-next.result.rest.now c.loop-count.count c.next_line-next.ensures.rest
          (some_of c.loop-count.rest.now (subst (λ (l : List ℕ). 0 < length l) c.next_line-next.ensures.rest some)) c.loop-count.invariant.1,
    )

pub returns : goal.returns
returns c =
    let none : length c.loop-count.rest.now ≡ 0 = omega (arith, c.loop-count.invariant.1) in
    early_none c.loop-count.rest.now c.loop-count.count none ∙ sym c.loop-count.invariant.0
