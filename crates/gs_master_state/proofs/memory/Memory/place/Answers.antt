use Rattle.std.proofs.Common.{rules, ◌==◌, not}
use Rattle.std.proofs.lemmas.Fn.{filter_same}
use Rattle.gs_master_state.proofs.memory.Memory.place.Goals as goal

pub returns : goal.returns
returns c = record { changed = rw (filter_same _ (λ x. not (x == c.args.chunk)) _ (λ x b f' k. search rules) _ _ c.retain.ensures.filtered) (search rules); keeps = search rules }
