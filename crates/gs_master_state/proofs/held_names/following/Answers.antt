use Rattle.std.proofs.Common.{ap, subst, ◌∙◌}
use Rattle.gs_edit.specs.Names.{NamesTakenBack}
use Rattle.gs_edit.specs.declared.edit.Inverse.TheVariants.{Tree}
use Rattle.gs_master_state.proofs.Holding.{moved_again}
use Rattle.gs_master_state.proofs.held_names.following.Goals as goal

pub returns : goal.returns
returns c before after led back = moved_again c.in-Moved.from c.in-Moved.to before after (subst (λ i. NamesTakenBack i before after) (c.in-Tree.is ∙ ap (λ i. Tree i) c.in-Moved.is) back)
