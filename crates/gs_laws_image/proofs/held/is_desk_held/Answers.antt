use Rattle.std.proofs.Common.{List, subst}
use Rattle.std.specs.List.{AllByRecursion}
use Rattle.gs_server.specs.Servers.{Server}
use Rattle.gs_laws_image.specs.Slots.{IsServerHeld}
use Rattle.gs_laws_image.proofs.Stored.{stored}
use Rattle.gs_laws_image.proofs.held.is_desk_held.Goals as goal

pub returns : goal.returns
returns c config d w g closes restarted told =
    stored config d c.args.desk.now w c.configurations_have_sizes.ensures g closes (subst (λ (ss : List Server). AllByRecursion IsServerHeld ss) c.deref.ensures.value c.are_servers_held.ensures) restarted told
