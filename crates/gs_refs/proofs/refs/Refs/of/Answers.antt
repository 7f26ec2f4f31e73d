use Rattle.std.proofs.Common.{◌≡◌, ap, sym, ◌∙◌, []}
use Rattle.std.proofs.lemmas.List.{nil_from_length}
use Rattle.std.specs.FinMap as fin
use Rattle.std.specs.Slice.Iter.{iter_rest}
use Rattle.gs_refs.proofs.CountLemmas.{onto, onto_last, onto_empty, from_entries-entries}
use Rattle.gs_refs.proofs.refs.Refs.of.Goals as goal

pub loop-handle-init : goal.loop-handle-init
loop-handle-init c =
    rw (c.into_iter-handle-iterator.ensures.into_iter_gives, c.rev-handle-items.ensures.source, c.iter.ensures.rest, c.new-refs.ensures) (onto_empty c.args.entries.now)

pub loop-handle-preserved : goal.loop-handle-preserved
loop-handle-preserved c =
    let rest = iter_rest c.next.new.self.iter in
    ap (onto rest) c.in_ok-write.ensures.ok ∙ sym (onto_last rest c.in-Some.field-0.now c.loop-handle.refs)
    ∙ ap (λ es. onto es c.loop-handle.refs) (sym c.in-Some.ensures.steps) ∙ c.loop-handle.invariant

pub returns-clause-back : goal.returns-clause-back
returns-clause-back c counts is =
    let rest = iter_rest c.loop-handle.handle-iterator.iter in
    let over : rest ≡ [] = nil_from_length rest c.in-None.ensures.steps.0 in
    ap (λ es. onto es c.loop-handle.refs) (sym over) ∙ c.loop-handle.invariant ∙ ap (λ es. fin.from_entries es) is ∙ from_entries-entries counts
