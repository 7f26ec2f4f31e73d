use Rattle.std.proofs.Common.{◌≡◌, inl, rules}
use Rattle.gs_client.proofs.Ones.{one}
use Rattle.gs_client.specs.Sends.{Sends}
use Rattle.gs_client.specs.Replies.{looked, located_in}
use Rattle.gs_client.proofs.client.Client.find_for_writing.Goals as goal

pub returns : goal.returns
returns g c =
    let e : c.in_ok-copy.field-0 ≡ c.args.edit.now.path.now = search rules in
    inl (one (Sends g.L.Link.Carries) _ looked (located_in c.args.edit.now.index) _ _ _ _ _ (rw e at c.ask.ensures) c.looked.ensures c.located_in.ensures)
