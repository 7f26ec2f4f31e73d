use Rattle.gs_client.proofs.Ones.{one}
use Rattle.gs_client.specs.Sends.{Sends}
use Rattle.gs_client.specs.Replies.{looked, status_in}
use Rattle.gs_client.proofs.client.Client.status.Goals as goal

pub returns : goal.returns
returns g c = one (Sends g.L.Link.Carries) _ looked status_in _ _ _ _ _ c.ask.ensures c.looked.ensures c.status_in.ensures
