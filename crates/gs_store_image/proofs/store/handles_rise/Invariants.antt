use Rattle.std.proofs.Common.{◌≡◌, drop}
use Rattle.gs_store_image.specs.Reading.{rises_from, rises}
use Rattle.gs_store_image.proofs.store.handles_rise.Given as goal

-- what is left rises behind the last one where the whole rises
abbrev pub invariant-loop-kept : goal.invariant-loop-kept
invariant-loop-kept l = rises_from l.last (drop l.kept-index l.rest) ≡ rises l.fn.slots
