use Rattle.gs_base.proofs.Bits.{no_servers}
use Rattle.gs_base.proofs.members.Members.none.Goals as goal

pub returns : goal.returns
returns c = no_servers
