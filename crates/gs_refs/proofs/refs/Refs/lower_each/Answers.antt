use Rattle.std.proofs.Common.{ap, sym, ◌∙◌, take, drop, ◌+◌, arith}
use Rattle.std.proofs.lemmas.List.{take_all}
use Rattle.std.specs.Prelude.{is_ok}
use Rattle.gs_refs.specs.Counts.{raised_each, lowered_each, and_then}
use Rattle.gs_refs.proofs.EachLemmas.{raised_back, lowered_last, fitting, fitting_last, ok_is, take_next, drop_next}
use Rattle.gs_refs.proofs.refs.Refs.lower_each.Goals as goal

pub raise_back-requires : goal.raise_back-requires
raise_back-requires c =
    let done = take c.loop-index.index c.args.handles.now in
    ap (λ s. is_ok (raised_each s done)) c.in-Err.ensures.edit.1
    ∙ ap is_ok (raised_back done c.args.self.now c.loop-index.self c.loop-index.invariant.1 c.loop-index.invariant.2)

pub returns-in-Err-clause-edit : goal.returns-in-Err-clause-edit
returns-in-Err-clause-edit c =
    let done = take c.loop-index.index c.args.handles.now in
    let next = drop_next c.args.handles.now c.loop-index.index c.index-handles-index.result c.loop-index-test.true c.index-handles-index.is in (
      sym c.loop-index.invariant.0 ∙ ap (lowered_each c.loop-index.self) next
          ∙ ap (λ r. and_then r (λ n. lowered_each n (drop (c.loop-index.index + 1) c.args.handles.now))) c.in-Err.ensures.edit.0,
      ok_is c.raise_back.new.self c.args.self.now (sym c.raise_back.ensures ∙ ap (λ s. raised_each s done) c.in-Err.ensures.edit.1
          ∙ raised_back done c.args.self.now c.loop-index.self c.loop-index.invariant.1 c.loop-index.invariant.2),
    )

pub loop-index-preserved : goal.loop-index-preserved
loop-index-preserved c =
    let h = c.index-handles-index.result in
    let done = take c.loop-index.index c.args.handles.now in
    let next = drop_next c.args.handles.now c.loop-index.index h c.loop-index-test.true c.index-handles-index.is in
    let last = take_next c.args.handles.now c.loop-index.index h c.loop-index-test.true c.index-handles-index.is in (
      sym (ap (lowered_each c.loop-index.self) next ∙ ap (λ r. and_then r (λ n. lowered_each n (drop (c.loop-index.index + 1) c.args.handles.now))) c.in-Ok.ensures.edit)
          ∙ c.loop-index.invariant.0,
      ap (lowered_each c.args.self.now) last
          ∙ lowered_last done h c.args.self.now c.loop-index.self c.lower.new.self c.loop-index.invariant.1 c.in-Ok.ensures.edit,
      ap (fitting c.args.self.now) last ∙ fitting_last done h c.args.self.now c.loop-index.self c.loop-index.invariant.1 c.loop-index.invariant.2 c.in-Ok.ensures.count,
    )

pub returns-clause-back : goal.returns-clause-back
returns-clause-back c =
    let all = take_all c.loop-index.index c.args.handles.now (omega (arith, c.loop-index-test.false)) in
    raised_back c.args.handles.now c.args.self.now c.loop-index.self (ap (lowered_each c.args.self.now) (sym all) ∙ c.loop-index.invariant.1)
    (ap (fitting c.args.self.now) (sym all) ∙ c.loop-index.invariant.2)
