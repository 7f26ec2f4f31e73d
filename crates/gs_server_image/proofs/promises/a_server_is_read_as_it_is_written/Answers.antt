use Rattle.gs_server_image.proofs.Servers.{reads_server}
use Rattle.gs_server_image.proofs.promises.a_server_is_read_as_it_is_written.Goals as goal

pub returns : goal.returns
returns c = reads_server
