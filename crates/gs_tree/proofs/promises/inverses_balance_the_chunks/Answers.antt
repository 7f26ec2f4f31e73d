use Rattle.std.proofs.Common.{sym}
use Rattle.gs_tree.proofs.Counting.{undone_counts}
use Rattle.gs_tree.proofs.promises.inverses_balance_the_chunks.Goals as goal

pub returns-clause-undo : goal.returns-clause-undo
returns-clause-undo c count i old new add fits same = undone_counts count i old new add fits same

pub returns-clause-edit : goal.returns-clause-edit
returns-clause-edit c count i old new add taken = undone_counts count i new old add taken.fits (λ q. sym (taken.back q))
