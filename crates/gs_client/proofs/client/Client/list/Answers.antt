use Rattle.gs_client.proofs.Ones.{one}
use Rattle.gs_client.specs.Sends.{Sends}
use Rattle.gs_client.specs.Replies.{looked, names_in}
use Rattle.gs_client.proofs.client.Client.list.Goals as goal

pub returns : goal.returns
returns g c = one (Sends g.L.Link.Carries) _ looked names_in _ _ _ _ _ c.ask.ensures c.looked.ensures c.names_in.ensures
