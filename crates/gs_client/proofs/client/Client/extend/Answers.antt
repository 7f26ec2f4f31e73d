use Rattle.std.proofs.Common.{◌≡◌, inl, rules}
use Rattle.gs_client.proofs.Ones.{one}
use Rattle.gs_client.specs.Sends.{Sends}
use Rattle.gs_client.specs.Replies.{changed, located_in}
use Rattle.gs_client.proofs.client.Client.extend.Goals as goal

pub returns : goal.returns
returns g c =
    let e : c.in_ok-copy.field-0 ≡ c.args.path.now = search rules in
    inl (one (Sends g.L.Link.Carries) _ changed (located_in c.args.index) _ _ _ _ _ (rw e at c.ask.ensures) c.changed.ensures c.located_in.ensures)
