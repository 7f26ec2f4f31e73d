use Rattle.std.proofs.Common.{not, filter, ap, sym, ◌∙◌}
use Rattle.gs_master_plan.specs.inner.Planning.{state_of}
use Rattle.gs_master_spec.specs.Settling.{is_quiet_at, source_chunks}
use Rattle.gs_master_spec.specs.Working.{ascending}
use Rattle.gs_master_state.proofs.ChunkSets.{ascending_where}
use Rattle.gs_master_state.proofs.Mapping.{if_ok_weaker}
use Rattle.gs_master_plan.proofs.Still.{all_still}
use Rattle.gs_master_plan.proofs.standing.Standing.unquiet.Goals as goal

pub returns-clause-value : goal.returns-clause-value
returns-clause-value c =
    if_ok_weaker _ _
    (λ chunks is.
    is
    ∙ ap ascending (c.deref-2.ensures.value ∙ c.in_ok-unquiet.ensures
    ∙ ap (filter (λ chunk. not (is_quiet_at (state_of c.args.self.now) chunk))) (c.deref.ensures.value ∙ c.in_ok-chunks.ensures))
    ∙ ascending_where (λ chunk. not (is_quiet_at (state_of c.args.self.now) chunk)) (source_chunks (state_of c.args.self.now) c.args.from.now))
    c.ascending.result c.ascending.ensures

pub returns-clause-none : goal.returns-clause-none
returns-clause-none c =
    if_ok_weaker _ _
    (λ chunks is none.
    all_still (is_quiet_at (state_of c.args.self.now)) (source_chunks (state_of c.args.self.now) c.args.from.now)
    (sym (is
    ∙ ap ascending (c.deref-2.ensures.value ∙ c.in_ok-unquiet.ensures
    ∙ ap (filter (λ chunk. not (is_quiet_at (state_of c.args.self.now) chunk))) (c.deref.ensures.value ∙ c.in_ok-chunks.ensures))
    ∙ ascending_where (λ chunk. not (is_quiet_at (state_of c.args.self.now) chunk)) (source_chunks (state_of c.args.self.now) c.args.from.now)) ∙ none))
    c.ascending.result c.ascending.ensures
