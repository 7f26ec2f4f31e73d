use Rattle.gs_msg.proofs.Decided.{listed_decides}
use Rattle.std.proofs.lemmas.Slice.Eq.{slice_eq-Decides}
use Rattle.gs_msg.proofs.lists.same_names.Goals as goal

pub returns : goal.returns
returns c = slice_eq-Decides listed_decides c.args.left.now c.args.right.now c.eq.result c.eq.ensures
