use Rattle.gs_client.specs.Sends.{Sends}
use Rattle.gs_client.proofs.Members.{member_answers, member_refuses, members_end}
use Rattle.gs_client.proofs.client.Client.members.Goals as goal

pub loop-member-init : goal.loop-member-init
loop-member-init g c = rw c.into_iter-member-iterator.ensures.into_iter_gives (λ result new follows. follows)

pub returns-in-Ok : goal.returns-in-Ok
returns-in-Ok g c =
    member_answers (Sends g.L.Link.Carries) c.args.located.now c.args.asked _ _ _ _ _ _ _ _ _ _ _ c.loop-member.invariant c.in-Some.ensures.steps
    (rw c.fetch.ensures at c.ask-reply.ensures) c.given.ensures c.in-Ok.is

pub loop-member-preserved : goal.loop-member-preserved
loop-member-preserved g c =
    member_refuses (Sends g.L.Link.Carries) c.args.located.now c.args.asked _ _ _ _ _ _ _ _ _ _ _ c.loop-member.invariant c.in-Some.ensures.steps
    (rw c.fetch.ensures at c.ask-reply.ensures) c.given.ensures c.in-Err.is

pub returns : goal.returns
returns g c = members_end (Sends g.L.Link.Carries) c.args.located.now c.args.asked _ _ _ (c.loop-member.self, c.loop-member.link) _ _ c.loop-member.invariant c.in-None.ensures.steps.0
