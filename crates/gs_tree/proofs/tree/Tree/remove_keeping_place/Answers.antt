use Rattle.std.proofs.Common.{◌≡◌, ap, sym, ◌∙◌, subst, ℕ}
use Rattle.std.specs.Prelude.{IfErr, IfOk}
use Rattle.std.specs.FinMap.{get}
use Rattle.gs_tree.specs.Find.{at}
use Rattle.gs_tree.specs.Places.{IsNotTakenOut, IsTakenOut}
use Rattle.gs_tree.specs.Plain.{Plain}
use Rattle.gs_tree.proofs.Moves.{seen}
use Rattle.gs_tree.proofs.Root.{root_taken}
use Rattle.gs_tree.proofs.Under.{taken_chunks}
use Rattle.gs_tree.proofs.tree.Tree.remove_keeping_place.Goals as goal

pub returns-clause-made : goal.returns-clause-made
returns-clause-made c =
    let old : at c.self.inside.root ≡ get c.args.self.now = sym (seen c.self.inside.root) ∙ ap get c.self.view_is in
    let step = subst (λ (m : Plain ℕ). IfOk c.remove_to_place.result (λ node. IsTakenOut c.args.path.now (at node) m (at c.remove_to_place.new.root))) old c.remove_to_place.ensures.made in
    subst (λ (n : Plain ℕ). IfOk c.remove_to_place.result (λ node. IsTakenOut c.args.path.now (at node) (get c.args.self.now) n)) (sym (seen c.remove_to_place.new.root)) step

pub returns-clause-refused : goal.returns-clause-refused
returns-clause-refused c =
    let old : at c.self.inside.root ≡ get c.args.self.now = sym (seen c.self.inside.root) ∙ ap get c.self.view_is in
    let step = subst (λ (m : Plain ℕ). IfErr c.remove_to_place.result (λ e. IsNotTakenOut c.args.path.now m e (at c.remove_to_place.new.root))) old c.remove_to_place.ensures.refused in
    subst (λ (n : Plain ℕ). IfErr c.remove_to_place.result (λ e. IsNotTakenOut c.args.path.now (get c.args.self.now) e n)) (sym (seen c.remove_to_place.new.root)) step

pub returns-clause-chunks : goal.returns-clause-chunks
returns-clause-chunks c = taken_chunks c.remove_to_place.result c.args.self.now _ c.args.path.now (returns-clause-made c)

pub invariant_of-self : goal.invariant_of-self
invariant_of-self c =
    root_taken c.remove_to_place.result c.args.path.now (at c.self.inside.root) (at c.remove_to_place.new.root) c.remove_to_place.ensures.made c.remove_to_place.ensures.refused c.self.invariant
