use Rattle.std.proofs.Common.{ap, ◌∙◌, ℕ}
use Rattle.std.specs.Prelude.{Ok}
use Rattle.gs_tree.specs.Find.{Rows, at}
use Rattle.gs_tree.proofs.Places.{given_out, given_otherwise}
use Rattle.gs_tree.proofs.moving.give_up.Goals as goal
use Rattle.gs_tree.proofs.moving.give_up.Goals.{in-Moved, in_default}

pub returns-clause-now : goal.returns-clause-now
returns-clause-now c =
    let one = at c.args.root.now in elim c.match-inverse.branch [
      | in-Moved w ↦ λ q. ap (λ (k : Rows ℕ). at k q) w.root-is ∙ given_out c.args.made w.in-Moved.from w.in-Moved.field-1 one (at w.give_up_place.new.root) (c.in_ok-inverse.was ∙ ap (λ i. Ok i) w.in-Moved.is) c.requires w.give_up_place.ensures q
      | in_default w ↦ λ q. ap (λ (k : Rows ℕ). at k q) w.root-is ∙ given_otherwise c.args.made c.in_ok-inverse.inverse one c.in_ok-inverse.was c.requires w.in_default.not-Moved q
    ]
