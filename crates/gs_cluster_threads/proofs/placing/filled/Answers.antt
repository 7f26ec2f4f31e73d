use Rattle.std.proofs.Common.{◌++◌, Some, map, sym, ap, ◌∙◌, append-nil}
use Rattle.std.proofs.lemmas.List.{nil_from_length}
use Rattle.gs_cluster_threads.proofs.placing.filled.Goals as goal

pub returns : goal.returns
returns g c =
    let rest = c.loop-place.place-iterator.rest in
    let full = map (λ k. Some k) c.loop-place.nodes.items in
    let nothing = nil_from_length rest.items (sym rest.ok.0 ∙ c.in-None.ensures.steps.0) in
    sym (append-nil full) ∙ ap (λ l. full ++ l) (sym nothing) ∙ c.loop-place.invariant.first
