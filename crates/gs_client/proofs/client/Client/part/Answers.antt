use Rattle.std.proofs.Common.{◌≡◌, None, rules, Err, refl}
use Rattle.gs_client_dialogue.proofs.Talks.{follows_both, follows_none}
use Rattle.gs_client.specs.Edits.{Edits}
use Rattle.gs_client.specs.Writing.{writing_call}
use Rattle.gs_client.proofs.Counts.{as_edits, edit_done, edit_again}
use Rattle.gs_client.proofs.client.Client.part.Goals as goal

pub returns-in_err-located : goal.returns-in_err-located
returns-in_err-located g c =
    let e : c.from_residual.result ≡ Err c.in_err-located.field-0.0 = search rules in
    rw e (follows_none (Edits g.L.Link.Carries) (writing_call c.args.edit.now.path.now c.args.edit.now.index None) _ _ _ _
    (as_edits g.L.Link.Carries (writing_call c.args.edit.now.path.now c.args.edit.now.index None) (λ reply n. refl, λ reply. tt) _ _ _ _ _ _ c.in_err-located.ensures))

pub returns-in-Ok : goal.returns-in-Ok
returns-in-Ok g c =
    follows_both (Edits g.L.Link.Carries) (writing_call c.args.edit.now.path.now c.args.edit.now.index None) _ _ _ _ _ _
    (as_edits g.L.Link.Carries (writing_call c.args.edit.now.path.now c.args.edit.now.index None) (λ reply n. refl, λ reply. tt) _ _ c.args.edits.now _ _ _ c.in_ok-located.ensures)
    (edit_done (Edits g.L.Link.Carries) c.args.edit.now.path.now c.args.edit.now.index c.in_ok-located.located c.args.edit.now.op c.args.edit.now.bytes.now _ _ _ c.in-Ok.ensures)

pub returns-in-Err : goal.returns-in-Err
returns-in-Err g c =
    follows_both (Edits g.L.Link.Carries) (writing_call c.args.edit.now.path.now c.args.edit.now.index None) _ _ _ _ _ _
    (as_edits g.L.Link.Carries (writing_call c.args.edit.now.path.now c.args.edit.now.index None) (λ reply n. refl, λ reply. tt) _ _ c.args.edits.now _ _ _ c.in_ok-located.ensures)
    (edit_again (Edits g.L.Link.Carries) c.args.edit.now.path.now c.args.edit.now.index c.in_ok-located.located c.args.edit.now.op c.args.edit.now.bytes.now _ _ _ _ _ c.in-Err.ensures c.again.ensures)
