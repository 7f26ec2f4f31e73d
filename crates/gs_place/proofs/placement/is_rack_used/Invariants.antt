use Rattle.std.proofs.Common.{◌≡◌, length}
use Rattle.std.specs.Prelude.{◌==◌}
use Rattle.std.specs.List.{list_any}
use Rattle.gs_place.specs.Targets.{rack_of}
use Rattle.gs_place.proofs.placement.is_rack_used.Given as goal

abbrev pub invariant-loop-other : goal.invariant-loop-other
invariant-loop-other l =
    list_any (λ other. rack_of l.config.racks other == l.rack) l.left ≡ list_any (λ other. rack_of l.config.racks other == l.rack) l.fn.taken

abbrev pub decreases-loop-other : goal.decreases-loop-other
decreases-loop-other l = length l.left
