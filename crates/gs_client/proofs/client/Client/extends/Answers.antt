use Rattle.std.proofs.Common.{◌≡◌, ◌+◌, rules, Err}
use Rattle.gs_client_dialogue.proofs.Talks.{leads_next, leads_stop}
use Rattle.gs_client.specs.Sends.{Sends}
use Rattle.gs_client.specs.Writing.{extend_call}
use Rattle.gs_client.proofs.Counts.{extends_next}
use Rattle.gs_client.proofs.client.Client.extends.Goals as goal

pub returns-in_err-extend : goal.returns-in_err-extend
returns-in_err-extend g c =
    let e : c.from_residual.result ≡ Err c.in_err-extend.field-0.0 = search rules in
    let leads = rw (extends_next c.args.path.now c.args.from c.loop-i.i c.args.count c.loop-i-test.true) at c.loop-i.invariant in
    rw e (leads_stop (Sends g.L.Link.Carries) _ (extend_call c.args.path.now (c.args.from + c.loop-i.i)) _ _ _ _ _ leads c.in_err-extend.ensures)

pub loop-i-preserved : goal.loop-i-preserved
loop-i-preserved g c =
    let leads = rw (extends_next c.args.path.now c.args.from c.loop-i.i c.args.count c.loop-i-test.true) at c.loop-i.invariant in
    leads_next (Sends g.L.Link.Carries) _ (extend_call c.args.path.now (c.args.from + c.loop-i.i)) _ _ _ _ _ leads c.in_ok-extend.ensures
