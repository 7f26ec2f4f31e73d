use Rattle.std.proofs.Common.{subst}
use Rattle.gs_master_spec.specs.Quieted.{TellsQuiet}
use Rattle.gs_master_spec.specs.State.{State}
use Rattle.gs_master.specs.Masters.{MasterOf}
use Rattle.gs_master.proofs.master.Master.all_quiet.Goals as goal

pub returns : goal.returns
returns g c =
    subst (λ (v : MasterOf g.row.D.Denot). TellsQuiet v.state c.all_quiet.result) c.self.view_is
    (subst (λ (s : State). TellsQuiet s c.all_quiet.result) c.standing.ensures c.all_quiet.ensures)
