use Rattle.std.proofs.Common.{ap, sym, ◌∙◌, take, drop, ◌+◌, arith}
use Rattle.std.proofs.lemmas.List.{take_all}
use Rattle.std.specs.Prelude.{is_ok}
use Rattle.gs_refs.specs.Counts.{raised_each, lowered_each, and_then}
use Rattle.gs_refs.proofs.EachLemmas.{lowered_back, raised_last, ok_is, take_next, drop_next}
use Rattle.gs_refs.proofs.refs.Refs.raise_each.Goals as goal

pub lower_back-requires : goal.lower_back-requires
lower_back-requires c =
    let done = take c.loop-index.index c.args.handles.now in
    ap (λ s. is_ok (lowered_each s done)) c.in-Err.ensures.1 ∙ ap is_ok (lowered_back done c.args.self.now c.loop-index.self c.loop-index.invariant.1)

pub returns-in-Err-clause-edit : goal.returns-in-Err-clause-edit
returns-in-Err-clause-edit c =
    let done = take c.loop-index.index c.args.handles.now in
    let next = drop_next c.args.handles.now c.loop-index.index c.index-handles-index.result c.loop-index-test.true c.index-handles-index.is in (
      sym c.loop-index.invariant.0 ∙ ap (raised_each c.loop-index.self) next
          ∙ ap (λ r. and_then r (λ n. raised_each n (drop (c.loop-index.index + 1) c.args.handles.now))) c.in-Err.ensures.0,
      ok_is c.lower_back.new.self c.args.self.now (sym c.lower_back.ensures ∙ ap (λ s. lowered_each s done) c.in-Err.ensures.1
          ∙ lowered_back done c.args.self.now c.loop-index.self c.loop-index.invariant.1),
    )

pub loop-index-preserved : goal.loop-index-preserved
loop-index-preserved c =
    let h = c.index-handles-index.result in
    let next = drop_next c.args.handles.now c.loop-index.index h c.loop-index-test.true c.index-handles-index.is in (
      sym (ap (raised_each c.loop-index.self) next ∙ ap (λ r. and_then r (λ n. raised_each n (drop (c.loop-index.index + 1) c.args.handles.now))) c.in-Ok.ensures)
          ∙ c.loop-index.invariant.0,
      ap (raised_each c.args.self.now) (take_next c.args.handles.now c.loop-index.index h c.loop-index-test.true c.index-handles-index.is)
          ∙ raised_last (take c.loop-index.index c.args.handles.now) h c.args.self.now c.loop-index.self c.raise_listed.new.self c.loop-index.invariant.1 c.in-Ok.ensures,
    )

pub returns-clause-back : goal.returns-clause-back
returns-clause-back c =
    let all = take_all c.loop-index.index c.args.handles.now (omega (arith, c.loop-index-test.false)) in
    lowered_back c.args.handles.now c.args.self.now c.loop-index.self (ap (raised_each c.args.self.now) (sym all) ∙ c.loop-index.invariant.1)
