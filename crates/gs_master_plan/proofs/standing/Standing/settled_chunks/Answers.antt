use Rattle.std.proofs.Common.{ℕ, ◌++◌, ◌∙◌, true, ap, sym}
use Rattle.std.specs.Prelude.{filter_map}
use Rattle.std.proofs.lemmas.List.{append-nil}
use Rattle.gs_master_state.specs.inner.Surveying.{settled_where}
use Rattle.gs_master_state.proofs.Surveys.{all_pass, settled_in}
use Rattle.gs_master_plan.proofs.standing.Standing.settled_chunks.Goals as goal

pub returns : goal.returns
returns c =
    let test = λ (chunk : ℕ). true in
    sym (append-nil c.loop-chunk.chunks.items) ∙ ap (λ t. c.loop-chunk.chunks.items ++ filter_map (settled_where test) t) (sym c.in-None.ensures.steps.0) ∙ c.loop-chunk.invariant
    ∙ ap (filter_map (settled_where test)) c.into_iter-chunk-iterator.ensures.into_iter_gives
    ∙ settled_in test c.args.self.now.recorded.now c.iter-chunk-items.result (record { all = c.iter-chunk-items.ensures.entries; rise = c.iter-chunk-items.ensures.ordered }) ∙ all_pass _
