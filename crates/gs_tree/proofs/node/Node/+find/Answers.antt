use Rattle.gs_tree.proofs.Rows.{goes_to, part_none, part_below, dirs_above}
use Rattle.gs_tree.proofs.node.Node.+find.Goals as goal

pub returns-in-None-clause-part : goal.returns-in-None-clause-part
returns-in-None-clause-part t c =
    part_none (goes_to c.self.view_is c.self.invariant.level c.in-Dir.is c.in-len1-up.len_at_least c.first-item.is) c.in-None.ensures.value

pub returns-in-Some-clause-part : goal.returns-in-Some-clause-part
returns-in-Some-clause-part t c =
    part_below (goes_to c.self.view_is c.self.invariant.level c.in-Dir.is c.in-len1-up.len_at_least c.first-item.is) c.in-Some.child.now _ c.in-Some.ensures.value c.find.ensures.part

pub returns-in-Some-clause-above : goal.returns-in-Some-clause-above
returns-in-Some-clause-above t c some =
    dirs_above (goes_to c.self.view_is c.self.invariant.level c.in-Dir.is c.in-len1-up.len_at_least c.first-item.is) c.in-Some.child.now c.in-Some.ensures.value (c.find.ensures.above some)
