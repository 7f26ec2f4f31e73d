use Rattle.std.proofs.Common.{◌≡◌, map, drop}
use Rattle.gs_store_image.specs.Reading.{rises_from, rises}
use Rattle.gs_store_image.proofs.table.rises.Given as goal

-- what is left rises behind the last one where the whole rises
abbrev pub invariant-loop-entry : goal.invariant-loop-entry
invariant-loop-entry g l = rises_from l.last (map (λ e. (e.0, g.F.Field.plain e.1)) (drop l.entry-index l.rest)) ≡ rises (map (λ e. (e.0, g.F.Field.plain e.1)) l.fn.entries)
