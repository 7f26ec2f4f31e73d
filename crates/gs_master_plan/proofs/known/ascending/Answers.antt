use Rattle.std.proofs.Common.{◌++◌, map, ap, sym, ◌∙◌}
use Rattle.std.specs.FinMap as fin
use Rattle.std.proofs.lemmas.List.{append-nil}
use Rattle.gs_master_state.proofs.ChunkSets.{key_of, set_entries}
use Rattle.gs_master_plan.proofs.known.ascending.Goals as goal

pub returns : goal.returns
returns c =
    sym (append-nil c.loop-chunk.once.items) ∙ ap (λ t. c.loop-chunk.once.items ++ map key_of t) (sym c.in-None.ensures.steps.0) ∙ c.loop-chunk.invariant
    ∙ ap (map key_of) (c.into_iter-chunk-iterator.ensures.into_iter_gives ∙ c.iter-chunk-items.ensures.entries) ∙ ap (λ m. map key_of (fin.entries m)) c.in_ok-set.ensures
    ∙ ap (map key_of) (set_entries c.args.chunks.now)
