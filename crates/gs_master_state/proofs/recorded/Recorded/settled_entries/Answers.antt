use Rattle.std.proofs.Common.{◌++◌, ap, sym, ◌∙◌}
use Rattle.std.specs.Prelude.{filter_map}
use Rattle.std.proofs.lemmas.List.{append-nil}
use Rattle.gs_master_state.specs.Checkpoints.{listed_entry}
use Rattle.gs_master_spec.specs.Durable.{is_listed}
use Rattle.gs_master_state.specs.inner.Recorded.{durable_of}
use Rattle.gs_master_state.proofs.Tellings.{settled_all}
use Rattle.gs_master_state.proofs.recorded.Recorded.settled_entries.Goals as goal

pub returns : goal.returns
returns c =
    let listed = listed_entry (is_listed (durable_of c.args.self.now)) in
    sym (append-nil c.loop-handle.listed.items) ∙ ap (λ t. c.loop-handle.listed.items ++ filter_map listed t) (sym c.in-None.ensures.steps.0) ∙ c.loop-handle.invariant
    ∙ ap (filter_map listed) c.into_iter-handle-iterator.ensures.into_iter_gives ∙ settled_all c.args.self.now c.iter-handle-items.result c.iter-handle-items.ensures.entries c.iter-handle-items.ensures.ordered
