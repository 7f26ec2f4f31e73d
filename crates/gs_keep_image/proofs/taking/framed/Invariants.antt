use Rattle.std.proofs.Common.{◌≡◌, ◌++◌, drop}
use Rattle.gs_parts_image.specs.Work.{bytes_of}
use Rattle.gs_keep_image.proofs.taking.framed.Given as goal

-- the parts so far, and the others behind them
abbrev pub invariant-loop-part : goal.invariant-loop-part
invariant-loop-part l = l.writer ++ bytes_of (drop l.part-index l.parts) ≡ bytes_of l.parts
