use Rattle.std.proofs.Common.{◌+◌, ◌-◌, ◌/◌, ◌%◌, []}
use Rattle.gs_client_dialogue.specs.Dialogues.{Leads}
use Rattle.gs_client.specs.Sends.{Sends}
use Rattle.gs_client_part.specs.Reading.{span}
use Rattle.gs_client.specs.Reading.{pieces_call}
use Rattle.gs_client.proofs.client.Client.pieces.Given as goal

abbrev pub invariant-loop-i : goal.invariant-loop-i
invariant-loop-i g l =
    Leads (Sends g.L.Link.Carries)
    (pieces_call l.file.size l.file.path.now l.file.chunks l.end l.file.known (l.offset / l.file.size) (l.offset % l.file.size) (span l.file.size l.offset l.end) []) (l.initial.self, l.initial.link)
    (pieces_call l.file.size l.file.path.now l.file.chunks l.end l.known (l.offset / l.file.size + l.i) l.start (span l.file.size l.offset l.end - l.i) l.read.items) (l.self, l.link)
