use Rattle.std.proofs.Common.{rules, sym, ◌∙◌}
use Rattle.gs_tree.proofs.Moves.{parent_is}
use Rattle.gs_master_state.proofs.Deleted.{parent_none}
use Rattle.gs_master_state.proofs.file.directory.Goals as goal

pub returns-in-Some : goal.returns-in-Some
returns-in-Some c = parent_is c.args.path.now c.in-Some.parent (search rules)

pub returns-in-None : goal.returns-in-None
returns-in-None c = c.root.ensures ∙ sym (parent_none c.args.path.now (search rules))
