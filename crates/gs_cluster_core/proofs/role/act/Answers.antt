use Rattle.std.proofs.Common.{refl, subst, sym}
use Rattle.gs_cluster_history.specs.Logs.{told}
use Rattle.gs_cluster_core.specs.Roles.{ActsAs}
use Rattle.gs_cluster_core.specs.declared.role.Role.TheVariants.{Server}
use Rattle.gs_cluster_core.proofs.role.act.Goals as goal

pub returns-in-Server : goal.returns-in-Server
returns-in-Server g c =
    subst (λ role. ActsAs g.D.Disk.seen g.D.Disk.failures c.args.event.moment c.args.event.happening role (told c.server_acts.result) (Server c.server_acts.new.server))
    (sym c.in-Server.is) (c.server_acts.new.server, refl, c.server_acts.ensures)
