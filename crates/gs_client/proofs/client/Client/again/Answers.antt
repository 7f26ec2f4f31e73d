use Rattle.std.proofs.Common.{◌≡◌, rules, Err, refl}
use Rattle.gs_client_dialogue.proofs.Talks.{follows_both, follows_none, follows_then}
use Rattle.gs_client.specs.Replies.{is_stale}
use Rattle.gs_client.specs.Edits.{Edits}
use Rattle.gs_client.specs.Writing.{avoided, writing_call}
use Rattle.gs_client.proofs.Counts.{as_edits}
use Rattle.gs_client.proofs.client.Client.again.Goals as goal

pub returns-in_err-located : goal.returns-in_err-located
returns-in_err-located g c =
    let e : c.from_residual.result ≡ Err c.in_err-located.field-0.0 = search rules in
    let found = rw c.avoided.ensures at c.in_err-located.ensures in
    rw e (follows_then (Edits g.L.Link.Carries) (is_stale c.args.refusal) _ _ _ _ _ (search rules)
    (follows_none (Edits g.L.Link.Carries) (writing_call c.args.edit.now.path.now c.args.edit.now.index (avoided c.args.refusal c.args.stamp)) _ _ _ _
    (as_edits g.L.Link.Carries (writing_call c.args.edit.now.path.now c.args.edit.now.index (avoided c.args.refusal c.args.stamp)) (λ reply n. refl, λ reply. tt) _ _ _ _ _ _ found)))

pub returns : goal.returns
returns g c =
    let found = rw c.avoided.ensures at c.in_ok-located.ensures in
    follows_then (Edits g.L.Link.Carries) (is_stale c.args.refusal) _ _ _ _ _ (search rules)
    (follows_both (Edits g.L.Link.Carries) (writing_call c.args.edit.now.path.now c.args.edit.now.index (avoided c.args.refusal c.args.stamp)) _ _ _ _ _ _
    (as_edits g.L.Link.Carries (writing_call c.args.edit.now.path.now c.args.edit.now.index (avoided c.args.refusal c.args.stamp)) (λ reply n. refl, λ reply. tt) _ _ c.args.edits.now _ _ _ found) c.send.ensures)
