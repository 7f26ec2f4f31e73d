use Rattle.gs_base.proofs.Bits.{same_bits}
use Rattle.gs_base.proofs.members.MembersPartialEq.eq.Goals as goal

pub returns : goal.returns
returns c = same_bits _ _ _ _ c.self.view_is c.self.invariant c.other.view_is c.other.invariant
