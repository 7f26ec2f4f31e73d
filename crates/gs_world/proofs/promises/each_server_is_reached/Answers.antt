use Rattle.gs_world.proofs.Reaching.{server_reached}
use Rattle.gs_world.proofs.promises.each_server_is_reached.Goals as goal

pub returns : goal.returns
returns g c seen failures armed config clients disks now id s reached found =
    server_reached seen failures armed config c.configurations_have_sizes.ensures clients disks now id s reached found
