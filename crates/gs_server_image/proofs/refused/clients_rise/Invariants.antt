use Rattle.std.proofs.Common.{◌≡◌, map, drop}
use Rattle.gs_store_image.specs.Reading.{rises_from, rises}
use Rattle.gs_server_image.proofs.refused.clients_rise.Given as goal

-- what is left rises behind the last one where the whole rises
abbrev pub invariant-loop-entry : goal.invariant-loop-entry
invariant-loop-entry l = rises_from l.last (map (λ e. (e.0, e.1.kept)) (drop l.entry-index l.rest)) ≡ rises (map (λ e. (e.0, e.1.kept)) l.fn.entries)
