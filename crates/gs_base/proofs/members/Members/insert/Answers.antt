use Rattle.gs_base.proofs.Bits.{inserted}
use Rattle.gs_base.proofs.members.Members.insert.Goals as goal

pub returns : goal.returns
returns c = inserted _ _ _ _ c.self.view_is c.number.ensures.number c.number.ensures.below
