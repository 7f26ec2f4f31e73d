use Rattle.std.proofs.Common.{refl, subst, sym}
use Rattle.gs_cluster_history.specs.Logs.{told}
use Rattle.gs_cluster_core.specs.Roles.{HearsAs}
use Rattle.gs_cluster_core.specs.declared.role.Role.TheVariants.{Server}
use Rattle.gs_cluster_core.proofs.role.hear.Goals as goal

pub returns-in-Server : goal.returns-in-Server
returns-in-Server g c =
    subst (λ role. HearsAs g.D.Disk.seen g.D.Disk.failures c.args.sent role (told c.server_hears.result) (Server c.server_hears.new.server))
    (sym c.in-Server.is) (c.server_hears.new.server, refl, c.server_hears.ensures)
