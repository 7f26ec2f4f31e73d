use Rattle.std.proofs.Common.{◌≡◌, ◌==◌}
use Rattle.std.specs.List.{list_all}
use Rattle.gs_refs.proofs.refs.Refs.is_zero.Given as goal

abbrev pub invariant-loop-count : goal.invariant-loop-count
invariant-loop-count l = list_all (λ e. e.1 == 0) l.count-iterator ≡ list_all (λ e. e.1 == 0) l.initial.count-iterator
