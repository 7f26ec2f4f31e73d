use Rattle.std.proofs.Common.{◌≡◌, ◌+◌, ◌≤◌, ◌∙◌, ℕ, length, min, ap, sym, arith}
use Rattle.std.specs.Prelude.{filter_map}
use Rattle.gs_refs.specs.Counts.{last_count}
use Rattle.gs_master_spec.specs.Chunks.{has_entry}
use Rattle.gs_master_plan.specs.inner.Planning.{state_of}
use Rattle.gs_master_state.specs.inner.Surveying.{settled_where}
use Rattle.gs_master_state.proofs.Surveys.{settled_in}
use Rattle.gs_master_plan.proofs.standing.Standing.chunk_count.Goals as goal

all_counted : (count : ℕ) → count ≤ last_count → count ≡ min (count + 0) last_count
all_counted count small = omega arith

pub returns : goal.returns
returns c =
    let test = has_entry (state_of c.args.self.now) in
    let found = filter_map (settled_where test) in
    all_counted c.loop-chunk.count c.loop-chunk.invariant.small ∙ ap (λ l. min (c.loop-chunk.count + length (found l)) last_count) (sym c.in-None.ensures.steps.0) ∙ c.loop-chunk.invariant.counted
    ∙ ap (λ l. min (length (found l)) last_count) c.into_iter-chunk-iterator.ensures.into_iter_gives
    ∙ ap (λ l. min (length l) last_count) (settled_in test c.args.self.now.recorded.now c.iter-chunk-items.result (record { all = c.iter-chunk-items.ensures.entries; rise = c.iter-chunk-items.ensures.ordered }))
