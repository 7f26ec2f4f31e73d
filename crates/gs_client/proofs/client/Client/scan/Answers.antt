use Rattle.gs_client.proofs.Ones.{one}
use Rattle.gs_client.specs.Sends.{Sends}
use Rattle.gs_client.specs.Replies.{changed, scanned_in}
use Rattle.gs_client.proofs.client.Client.scan.Goals as goal

pub returns : goal.returns
returns g c = one (Sends g.L.Link.Carries) _ changed scanned_in _ _ _ _ _ c.ask.ensures c.changed.ensures c.scanned_in.ensures
