use Rattle.std.proofs.Common.{eq-eqb}
use Rattle.gs_client.specs.Sends.{Sends}
use Rattle.gs_client.proofs.Members.{known_answers, known_refuses}
use Rattle.gs_client.proofs.client.Client.fetch.Goals as goal

pub returns-in-Ok : goal.returns-in-Ok
returns-in-Ok g c =
    known_answers (Sends g.L.Link.Carries) c.args.wanted.path.now c.in-Some.located c.args.wanted.index c.args.wanted.asked _ _ c.in-Ok.found c.args.known
    c.in-Some.is (eq-eqb c.in-Some.located.index c.args.wanted.index c.if-located-wanted.false) c.in-Ok.ensures

pub returns : goal.returns
returns g c =
    known_refuses (Sends g.L.Link.Carries) c.args.wanted.path.now c.in-Some.located c.args.wanted.index c.args.wanted.asked _ _ _ _ _ c.args.known
    c.in-Some.is (eq-eqb c.in-Some.located.index c.args.wanted.index c.if-located-wanted.false) c.in-Err.ensures c.anew-in-Err.ensures
