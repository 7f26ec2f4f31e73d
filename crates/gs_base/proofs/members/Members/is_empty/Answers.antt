use Rattle.gs_base.proofs.Bits.{found_none}
use Rattle.gs_base.proofs.members.Members.is_empty.Goals as goal

pub returns : goal.returns
returns c = found_none _ _ c.self.view_is c.self.invariant
