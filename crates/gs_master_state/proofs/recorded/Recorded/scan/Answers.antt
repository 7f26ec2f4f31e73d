use Rattle.gs_master_state.specs.inner.Recorded.{durable_of}
use Rattle.gs_master_state.proofs.ScanLists.{scan_is}
use Rattle.gs_master_state.proofs.recorded.Recorded.scan.Goals as goal

pub returns-in-Ok : goal.returns-in-Ok
returns-in-Ok c = scan_is c.args.moment (durable_of c.args.self.now).names c.in-Ok.scan c.in-Ok.ensures
