use Rattle.std.proofs.Common.{◌≡◌, [], ap, sym, ◌∙◌, subst, ℕ}
use Rattle.std.specs.Bool.{MatchBool}
use Rattle.std.specs.Prelude.{is_some, false}
use Rattle.gs_tree.specs.Plain.{Plain, part_at}
use Rattle.gs_tree.specs.Find.{at}
use Rattle.gs_tree.specs.Inverses.{IsBlankRow, row_of}
use Rattle.gs_tree.proofs.Children.{row_some}
use Rattle.gs_tree.proofs.undoing.is_row_at.Goals as goal

pub returns-in-Some : goal.returns-in-Some
returns-in-Some c =
    let part : at c.in-Some.node.now ≡ part_at c.args.first.now (at c.args.root.now) = λ i q. sym (c.in-Some.ensures.part q) i in
    subst (λ (m : Plain ℕ). MatchBool c.is_blank_row.result (IsBlankRow m c.args.below.now) (IsBlankRow m c.args.below.now → ⊥)) part c.is_blank_row.ensures

pub returns-in-None : goal.returns-in-None
returns-in-None c = λ (e, (blank, same)).
    let some = row_some c.args.below.now e in
    let gone : is_some (row_of c.args.below.now e []) ≡ false = ap is_some (sym (same []) ∙ c.in-None.ensures.part []) in cc
