use Rattle.std.proofs.Common.{◌++◌, ap, not, sym, ◌∙◌, ℕ}
use Rattle.std.specs.Prelude.{filter_map}
use Rattle.std.proofs.lemmas.List.{append-nil}
use Rattle.gs_master_spec.specs.Durable.{is_listed}
use Rattle.gs_master_state.specs.inner.Recorded.{durable_of}
use Rattle.gs_master_state.specs.inner.Surveying.{settled_where}
use Rattle.gs_master_state.proofs.Surveys.{settled_in}
use Rattle.gs_master_state.proofs.recorded.Recorded.unlisted.Goals as goal

pub returns : goal.returns
returns c =
    let test = λ (chunk : ℕ). not (is_listed (durable_of c.args.self.now) chunk) in
    sym (append-nil c.loop-chunk.unlisted.items) ∙ ap (λ t. c.loop-chunk.unlisted.items ++ filter_map (settled_where test) t) (sym c.in-None.ensures.steps.0) ∙ c.loop-chunk.invariant
    ∙ ap (filter_map (settled_where test)) c.into_iter-chunk-iterator.ensures.into_iter_gives
    ∙ settled_in test c.args.self.now c.iter-chunk-items.result (record { all = c.iter-chunk-items.ensures.entries; rise = c.iter-chunk-items.ensures.ordered })
