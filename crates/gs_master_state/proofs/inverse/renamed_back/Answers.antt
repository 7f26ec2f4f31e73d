use Rattle.std.proofs.Common.{ap, ◌∙◌}
use Rattle.gs_master_record.specs.Plain.{UndoRename}
use Rattle.gs_tree.specs.Edits.{target_of}
use Rattle.gs_master_state.proofs.Deleted.{seen}
use Rattle.gs_master_state.proofs.inverse.renamed_back.Goals as goal

pub returns : goal.returns
returns c = λ i. UndoRename ((c.in_ok-target.ensures ∙ ap (λ m. target_of m c.args.from.now c.args.to.now) (seen c.args.names.now.names.tree)) i) (c.in_ok-copy.ensures i)
