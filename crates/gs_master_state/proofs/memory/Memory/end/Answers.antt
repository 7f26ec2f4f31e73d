use Rattle.std.proofs.Common.{rules, not}
use Rattle.std.proofs.lemmas.Fn.{filter_same}
use Rattle.gs_lock.specs.Operations.{same_op}
use Rattle.gs_master_spec.specs.declared.pending.Pending.{Pending}
use Rattle.gs_master_state.proofs.memory.Memory.end.Goals as goal

pub returns : goal.returns
returns c = record { changed = rw (filter_same _ (λ (p : Pending). not (same_op c.args.req p.req)) _ (λ x b f' k. search rules) _ _ c.retain.ensures.filtered) (search rules); keeps = search rules }
