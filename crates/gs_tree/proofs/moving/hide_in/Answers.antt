use Rattle.std.proofs.Common.{ap, sym, ◌∙◌, subst, ℕ}
use Rattle.std.specs.Prelude.{Result}
use Rattle.gs_base.specs.declared.refusal.Refusal.{Refusal}
use Rattle.gs_tree.specs.Plain.{Plain}
use Rattle.gs_tree.specs.Places.{given_up}
use Rattle.gs_tree.specs.Find.{at}
use Rattle.gs_tree.specs.Edits.{renamed_beside}
use Rattle.gs_tree.specs.Follows.{FollowsPlain}
use Rattle.gs_tree.proofs.Moves.{append_some, hide-beside}
use Rattle.gs_tree.proofs.moving.hide_in.Goals as goal

pub rename_beside-requires : goal.rename_beside-requires
rename_beside-requires c = λ z. append_some c.in-Some.field-0-1.now c.in-Some.name.now (sym (sym c.elements.ensures ∙ c.in-Some.ensures.cases.0) ∙ z)

pub returns-clause-edit : goal.returns-clause-edit
returns-clause-edit c =
    let split = sym c.elements.ensures ∙ c.in-Some.ensures.cases.0 in
    let is = hide-beside (at c.args.root.now) c.args.path.now c.in-Some.field-0-1.now c.in-Some.name.now c.args.moment.0 c.args.number split
    ∙ ap (renamed_beside (at c.args.root.now) c.args.path.now) (sym c.in_ok-hidden.ensures.name) in
    subst (λ (r : Result (Plain ℕ) Refusal). FollowsPlain r c.rename_beside.result (at c.args.root.now) (given_up c.rename_beside.result (at c.rename_beside.new.root))) (sym is) c.rename_beside.ensures.edit
