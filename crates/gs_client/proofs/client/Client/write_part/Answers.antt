use Rattle.std.proofs.Common.{◌≡◌, rules, Err, refl}
use Rattle.gs_client_dialogue.proofs.Talks.{follows_both, follows_none}
use Rattle.gs_client.specs.Edits.{Edits}
use Rattle.gs_client.specs.Writing.{part_call}
use Rattle.gs_client.proofs.client.Client.write_part.Goals as goal

pub returns-in_err-outcome : goal.returns-in_err-outcome
returns-in_err-outcome g c =
    let e : c.from_residual.result ≡ Err c.in_err-outcome.field-0.0 = search rules in
    rw e (follows_none (Edits g.L.Link.Carries) (part_call c.args.edit.now.path.now c.args.edit.now.index c.args.edit.now.op c.args.edit.now.bytes.now) _ _ _ _ c.in_err-outcome.ensures)

pub returns : goal.returns
returns g c =
    follows_both (Edits g.L.Link.Carries) (part_call c.args.edit.now.path.now c.args.edit.now.index c.args.edit.now.op c.args.edit.now.bytes.now) _ _ _ _ _ _ c.in_ok-outcome.ensures (c.written.ensures, refl)
