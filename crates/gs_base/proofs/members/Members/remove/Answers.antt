use Rattle.gs_base.proofs.Bits.{removed, taken_first}
use Rattle.gs_base.proofs.members.Members.remove.Goals as goal

pub returns-clause-without : goal.returns-clause-without
returns-clause-without c = removed _ _ _ _ c.self.view_is c.number.ensures.number c.number.ensures.below

pub returns-clause-first : goal.returns-clause-first
returns-clause-first c = λ first. taken_first _ _ _ _ c.self.view_is first (returns-clause-without c)
