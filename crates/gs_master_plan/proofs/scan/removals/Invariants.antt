use Rattle.std.proofs.Common.{◌≡◌, ◌++◌, map}
use Rattle.gs_master_record.specs.Plain.{plain, Edited, Remove}
use Rattle.gs_master_spec.specs.Settling.{own_request}
use Rattle.gs_master_plan.proofs.scan.removals.Given as goal

abbrev pub invariant-loop-path : goal.invariant-loop-path
invariant-loop-path l =
    (goal.iterator-loop-path).can_next l.path-iterator ×
    (goal.iterator-loop-path).is_finite l.path-iterator ×
    (map plain l.records.items ++ map (Edited own_request) (map (λ path. Remove path) l.path-iterator.rest.items) ≡ map (Edited own_request) (map (λ path. Remove path) l.fn.removed.items))
