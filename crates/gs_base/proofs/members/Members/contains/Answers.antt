use Rattle.gs_base.proofs.Bits.{found_member}
use Rattle.gs_base.proofs.members.Members.contains.Goals as goal

pub returns : goal.returns
returns c = found_member _ _ _ _ c.self.view_is c.number.ensures.number c.number.ensures.below
