use Rattle.std.proofs.Common.{[]}
use Rattle.gs_tree.specs.Entry.{Dir}
use Rattle.gs_tree.proofs.Levels.{built_again}
use Rattle.gs_tree.proofs.Orders.{part_moved}
use Rattle.gs_tree.proofs.promises.entries_build_their_tree.Goals as goal

pub returns-clause-again : goal.returns-clause-again
returns-clause-again c tree rows built is whole h = built_again tree rows built is whole h

pub returns-clause-order : goal.returns-clause-order
returns-clause-order c rows other moved whole = part_moved ([], Dir) rows other moved whole
