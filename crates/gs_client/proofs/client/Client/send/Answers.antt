use Rattle.std.proofs.Common.{◌≡◌, rules}
use Rattle.gs_client.proofs.Counts.{edit_sent}
use Rattle.gs_client.proofs.client.Client.send.Goals as goal

pub returns : goal.returns
returns g c =
    let e : c.in_ok-from_slice.field-0.items ≡ c.args.edit.now.bytes.now = search rules in
    edit_sent g.L.Link.Carries c.args.located.now c.in-Some.term c.args.edit.now.op c.args.edit.now.bytes.now _ _ _ _ _ _ _ _ c.in-Some.is (rw (c.new.ensures, e) at c.ask.ensures) c.edited-edited.ensures c.with_edit.ensures
