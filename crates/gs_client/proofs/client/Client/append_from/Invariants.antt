use Rattle.std.proofs.Common.{◌<◌, ◌-◌}
use Rattle.gs_client_dialogue.specs.Dialogues.{Leads}
use Rattle.gs_client.specs.Edits.{Edits}
use Rattle.gs_client.specs.Writing.{append_from}
use Rattle.gs_client.proofs.client.Client.append_from.Given as goal

abbrev pub invariant-loop-index : goal.invariant-loop-index
invariant-loop-index g l =
    (l.index < 4096) × Leads (Edits g.L.Link.Carries) (append_from l.appended.size l.appended.path.now l.appended.bytes.now l.first (4095 - l.first)) (l.initial.self, l.initial.edits, l.initial.link)
    (append_from l.appended.size l.appended.path.now l.appended.bytes.now l.index (4095 - l.index)) (l.self, l.edits, l.link)
