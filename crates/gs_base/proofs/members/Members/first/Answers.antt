use Rattle.gs_base.proofs.Bits.{found_lowest}
use Rattle.gs_base.proofs.members.Members.first.Goals as goal

pub returns : goal.returns
returns c = found_lowest _ _ _ c.self.view_is c.self.invariant c.new.ensures.some c.new.ensures.number
