use Rattle.std.proofs.Common.{◌≡◌, drop}
use Rattle.gs_parts_image.specs.Reading.{servers_in}
use Rattle.gs_parts_image.specs.Work.{pointed}
use Rattle.gs_parts_image.proofs.Loops.{with_front}
use Rattle.gs_parts_image.proofs.servers.servers_in.Given as goal

-- the servers so far are those of the parts so far
abbrev pub invariant-loop-part : goal.invariant-loop-part
invariant-loop-part l =
    (l.number ≡ l.part-index) × (with_front l.servers.items (servers_in l.config.block l.config.chunk l.number (pointed (drop l.part-index l.parts))) ≡ servers_in l.config.block l.config.chunk 0 (pointed l.parts))
