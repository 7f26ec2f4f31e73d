use Rattle.std.proofs.Common.{rules}
use Rattle.gs_image.proofs.Finding.{part_refused}
use Rattle.gs_image.proofs.reading.parts_at.Goals as goal

pub returns-in_err-found : goal.returns-in_err-found
returns-in_err-found c = let stopped = part_refused c.in_err-found.field-0.0 _ _ _ _ _ c.loop-index.invariant c.loop-index-test.true c.in_err-found.ensures in search rules
