use Rattle.gs_tree.proofs.Parts.{made_same, removed_again, list_whole}
use Rattle.gs_tree.proofs.promises.lists_undo_the_same.Goals as goal

pub returns-clause-made : goal.returns-clause-made
returns-clause-made c path above = made_same path above

pub returns-clause-removed : goal.returns-clause-removed
returns-clause-removed c path node rows i sound top list h = removed_again path node rows i sound top list h

pub returns-clause-whole : goal.returns-clause-whole
returns-clause-whole c path node rows sound top list short = list_whole path node rows sound top list short
