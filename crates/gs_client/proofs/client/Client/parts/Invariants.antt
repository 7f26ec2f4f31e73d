use Rattle.std.proofs.Common.{◌-◌}
use Rattle.gs_client_dialogue.specs.Dialogues.{Leads}
use Rattle.gs_client.specs.Edits.{Edits}
use Rattle.gs_client.specs.Writing.{parts_call}
use Rattle.gs_client.proofs.client.Client.parts.Given as goal

abbrev pub invariant-loop-i : goal.invariant-loop-i
invariant-loop-i g l =
    Leads (Edits g.L.Link.Carries) (parts_call l.write.size l.write.path.now l.write.offset l.write.bytes.now 0 l.count) (l.initial.self, l.initial.edits, l.initial.link)
    (parts_call l.write.size l.write.path.now l.write.offset l.write.bytes.now l.i (l.count - l.i)) (l.self, l.edits, l.link)
