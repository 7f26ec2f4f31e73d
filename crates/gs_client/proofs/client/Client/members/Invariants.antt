use Rattle.gs_base.specs.declared.refusal.Refusal.TheVariants.{NoReplica}
use Rattle.gs_client_dialogue.specs.Dialogues.{Leads}
use Rattle.gs_client.specs.Sends.{Sends}
use Rattle.gs_client.specs.Looking.{members_call}
use Rattle.gs_client.proofs.client.Client.members.Given as goal

abbrev pub invariant-loop-member : goal.invariant-loop-member
invariant-loop-member g l =
    Leads (Sends g.L.Link.Carries) (members_call l.located l.asked l.located.view.members NoReplica) (l.initial.self, l.initial.link)
    (members_call l.located l.asked l.member-iterator l.last) (l.self, l.link)
