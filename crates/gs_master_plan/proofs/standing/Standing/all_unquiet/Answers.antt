use Rattle.std.proofs.Common.{◌++◌, filter, ap, sym, ◌∙◌}
use Rattle.std.specs.FinMap as fin
use Rattle.gs_master_plan.specs.inner.Planning.{state_of}
use Rattle.gs_master_state.specs.inner.Surveying.{has_unquiet}
use Rattle.gs_master_spec.specs.Working.{ascending}
use Rattle.gs_master_state.proofs.ChunkSets.{ascending_where, filter_both}
use Rattle.gs_master_state.proofs.Mapping.{if_ok_weaker}
use Rattle.gs_master_plan.proofs.standing.Standing.all_unquiet.Goals as goal

pub returns : goal.returns
returns c =
    let s = state_of c.args.self.now in
    let test = has_unquiet s in
    if_ok_weaker _ _
    (λ chunks is.
    is
    ∙ ap ascending (c.deref.ensures.value ∙ c.in_ok-unquiet.ensures ∙ ap (λ l. l ++ filter test (fin.keys s.volatile.moving)) c.in_ok-settled.ensures ∙ sym (filter_both test (fin.keys s.durable.chunks) (fin.keys s.volatile.moving)))
    ∙ ascending_where test (fin.keys s.durable.chunks ++ fin.keys s.volatile.moving))
    c.ascending.result c.ascending.ensures
