use Rattle.std.proofs.Common.{◌++◌, ap, sym, ◌∙◌}
use Rattle.std.proofs.lemmas.List.{append-nil}
use Rattle.std.specs.FinMap as fin
use Rattle.gs_refs.specs.Counts.{without_references}
use Rattle.gs_refs.proofs.CountLemmas.{entries-from_entries}
use Rattle.gs_refs.proofs.refs.Refs.orphans.Goals as goal

pub returns : goal.returns
returns c =
    sym (append-nil c.loop-handle.found.items) ∙ ap (λ t. c.loop-handle.found.items ++ without_references t) (sym c.in-None.ensures.steps.0) ∙ c.loop-handle.invariant
    ∙ ap without_references (c.into_iter-handle-iterator.ensures.into_iter_gives ∙ c.iter-handle-items.ensures.rest
    ∙ sym (entries-from_entries c.self.inside.counts.entries c.iter-handle-items.ensures.ordered) ∙ ap (λ m. fin.entries m) c.self.view_is)
