use Rattle.std.proofs.Common.{◌+◌, ◌-◌}
use Rattle.gs_client_dialogue.specs.Dialogues.{Leads}
use Rattle.gs_client.specs.Sends.{Sends}
use Rattle.gs_client.specs.Writing.{extends_call}
use Rattle.gs_client.proofs.client.Client.extends.Given as goal

abbrev pub invariant-loop-i : goal.invariant-loop-i
invariant-loop-i g l =
    Leads (Sends g.L.Link.Carries) (extends_call l.path l.from l.count) (l.initial.self, l.initial.link) (extends_call l.path (l.from + l.i) (l.count - l.i)) (l.self, l.link)
