use Rattle.std.proofs.Common.{◌≡◌, ◌⊎◌, subst}
use Rattle.std.specs.FinMap as fin
use Rattle.gs_base.specs.declared.refusal.Refusal.TheVariants.{Memory, BadLine}
use Rattle.gs_tree.specs.Follows.{CanMove}
use Rattle.gs_edit.specs.View.{NamesView}
use Rattle.gs_edit.proofs.names.Names.with_moved.Goals as goal

pub returns-in-Err : goal.returns-in-Err
returns-in-Err c =
    subst (λ (n : NamesView). (c.in-Err.refusal ≡ Memory) ⊎ ((c.in-Err.refusal ≡ BadLine) × (CanMove c.args.from.now c.args.to.now (fin.get n.tree) → ⊥))) c.self.view_is c.in-Err.ensures
