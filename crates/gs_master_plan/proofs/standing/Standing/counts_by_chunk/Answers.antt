use Rattle.std.proofs.Common.{◌≡◌, ◌+◌, ◌∙◌, ℕ, ap, sym, arith}
use Rattle.std.specs.Prelude.{filter_map, slice_index}
use Rattle.gs_master_spec.specs.Beginning.{replicas_on}
use Rattle.gs_master_spec.specs.Beginning.{is_counted}
use Rattle.gs_master_plan.specs.inner.Planning.{state_of}
use Rattle.gs_master_state.specs.inner.Surveying.{view_where}
use Rattle.gs_master_state.proofs.Surveys.{views_in}
use Rattle.gs_master_plan.proofs.standing.Standing.counts_by_chunk.Goals as goal

none_left : (count : ℕ) → count ≡ count + 0
none_left count = omega arith

pub returns : goal.returns
returns c =
    let test = is_counted (state_of c.args.self.now) in
    let views = filter_map (view_where test) in
    record {
      each = λ k low.
          none_left (slice_index c.loop-chunk.counts k) ∙ ap (λ l. slice_index c.loop-chunk.counts k + replicas_on (views l) k) (sym c.in-None.ensures.steps.0) ∙ c.loop-chunk.invariant.counted k low
          ∙ ap (λ l. replicas_on (views l) k) c.into_iter-chunk-iterator.ensures.into_iter_gives
          ∙ ap (λ l. replicas_on l k) (views_in test c.args.self.now.recorded.now c.iter-chunk-items.result (record { all = c.iter-chunk-items.ensures.entries; rise = c.iter-chunk-items.ensures.ordered }));
    }
