use Rattle.gs_shell_desk.specs.Ways.{way_of}
use Rattle.gs_world.proofs.Reaching.{server_reached}
use Rattle.gs_laws_chunks.specs.desks.Reached.{history}
use Rattle.gs_laws_world.specs.steady.Unarmed.{unarmed}
use Rattle.gs_laws_chunks.proofs.desks.each_server_of_a_script_is_reached.Goals as goal

pub returns : goal.returns
returns g c seen failures config disks desk id s reached found =
    server_reached seen failures unarmed config c.configurations_have_sizes.ensures 1 disks (history reached.sent (way_of desk.wire)) id s reached.reached found
