use Rattle.std.proofs.Common.{◌≡◌, drop}
use Rattle.std.specs.List.{list_any}
use Rattle.gs_master_spec.specs.Whole.{is_hidden_twice}
use Rattle.gs_master_state.proofs.checkpoint.has_hidden_twice.Given as goal

abbrev pub invariant-loop-name : goal.invariant-loop-name
invariant-loop-name l = list_any is_hidden_twice (drop l.name-index l.name-items) ≡ list_any is_hidden_twice l.name-items
