use Rattle.std.proofs.Common.{◌++◌, ap, sym, ◌∙◌}
use Rattle.std.specs.Prelude.{filter_map}
use Rattle.std.proofs.lemmas.List.{append-nil}
use Rattle.gs_master_plan.specs.inner.Planning.{state_of}
use Rattle.gs_master_state.specs.inner.Surveying.{is_lost, settled_where}
use Rattle.gs_master_state.proofs.Surveys.{settled_in}
use Rattle.gs_master_plan.proofs.standing.Standing.lost_of_all.Goals as goal

pub returns : goal.returns
returns c =
    let test = is_lost (state_of c.args.self.now) c.args.server c.args.reported.now in
    sym (append-nil c.loop-chunk.lost.items) ∙ ap (λ t. c.loop-chunk.lost.items ++ filter_map (settled_where test) t) (sym c.in-None.ensures.steps.0) ∙ c.loop-chunk.invariant
    ∙ ap (filter_map (settled_where test)) c.into_iter-chunk-iterator.ensures.into_iter_gives
    ∙ settled_in test c.args.self.now.recorded.now c.iter-chunk-items.result (record { all = c.iter-chunk-items.ensures.entries; rise = c.iter-chunk-items.ensures.ordered })
