use Rattle.gs_base.proofs.Bits.{found_bits}
use Rattle.gs_base.proofs.members.Members.bits.Goals as goal

pub returns-clause-bits : goal.returns-clause-bits
returns-clause-bits c = found_bits _ _ c.self.view_is c.self.invariant
