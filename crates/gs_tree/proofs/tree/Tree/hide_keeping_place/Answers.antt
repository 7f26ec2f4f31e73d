use Rattle.std.proofs.Common.{◌≡◌, ap, sym, ◌∙◌, subst, ℕ}
use Rattle.std.specs.Prelude.{IfOk}
use Rattle.std.specs.FinMap.{get}
use Rattle.gs_tree.specs.Places.{KeepsPlace, given_up}
use Rattle.gs_tree.specs.Find.{at}
use Rattle.gs_tree.specs.Plain.{Plain}
use Rattle.gs_tree.specs.Edits.{hide}
use Rattle.gs_tree.specs.Follows.{FollowsPlain}
use Rattle.gs_tree.specs.Inverses.{TakesBack}
use Rattle.gs_tree.proofs.Moves.{seen}
use Rattle.gs_tree.proofs.Places.{root_given_up}
use Rattle.gs_tree.proofs.Root.{root_follows, hide-root}
use Rattle.gs_tree.proofs.tree.Tree.hide_keeping_place.Goals as goal

pub returns-clause-edit : goal.returns-clause-edit
returns-clause-edit c =
    let old : at c.self.inside.root ≡ get c.args.self.now = sym (seen c.self.inside.root) ∙ ap get c.self.view_is in
    let mid = at c.hide_in.new.root in
    let step = subst (λ (m : Plain ℕ). FollowsPlain (hide m c.args.path.now c.args.moment.0 c.args.number) c.hide_in.result m (given_up c.hide_in.result mid)) old c.hide_in.ensures.edit in
    subst (λ (k : Plain ℕ). FollowsPlain (hide (get c.args.self.now) c.args.path.now c.args.moment.0 c.args.number) c.hide_in.result (get c.args.self.now) (given_up c.hide_in.result k)) (sym (seen c.hide_in.new.root)) step

pub returns-clause-undo : goal.returns-clause-undo
returns-clause-undo c =
    let old : at c.self.inside.root ≡ get c.args.self.now = sym (seen c.self.inside.root) ∙ ap get c.self.view_is in
    let mid = at c.hide_in.new.root in
    let step = subst (λ (m : Plain ℕ). IfOk c.hide_in.result (λ i. TakesBack i m (given_up c.hide_in.result mid))) old c.hide_in.ensures.undo in
    subst (λ (n : Plain ℕ). IfOk c.hide_in.result (λ i. TakesBack i (get c.args.self.now) (given_up c.hide_in.result n))) (sym (seen c.hide_in.new.root)) step

pub returns-clause-place : goal.returns-clause-place
returns-clause-place c = subst (λ (n : Plain ℕ). IfOk c.hide_in.result (λ i. KeepsPlace i n)) (sym (seen c.hide_in.new.root)) c.hide_in.ensures.place

pub invariant_of-self : goal.invariant_of-self
invariant_of-self c =
    root_given_up c.hide_in.result (at c.hide_in.new.root) (root_follows _ c.hide_in.result (at c.self.inside.root) (given_up c.hide_in.result (at c.hide_in.new.root)) (hide-root (at c.self.inside.root) c.args.path.now c.args.moment.0 c.args.number c.self.invariant) c.hide_in.ensures.edit c.self.invariant)
