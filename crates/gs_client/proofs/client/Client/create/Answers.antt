use Rattle.gs_client.proofs.Ones.{one}
use Rattle.gs_client.specs.Sends.{Sends}
use Rattle.gs_client.specs.Replies.{changed, nothing_in}
use Rattle.gs_client.proofs.client.Client.create.Goals as goal

pub returns : goal.returns
returns g c = one (Sends g.L.Link.Carries) _ changed nothing_in _ _ _ _ _ c.ask.ensures c.changed.ensures c.nothing_in.ensures
