use Rattle.std.proofs.Common.{◌≡◌, ap, sym, ◌∙◌, subst, ℕ}
use Rattle.std.specs.Prelude.{IfOk}
use Rattle.std.specs.FinMap.{get}
use Rattle.gs_tree.specs.Find.{at}
use Rattle.gs_tree.specs.Plain.{Plain}
use Rattle.gs_tree.specs.Edits.{remove}
use Rattle.gs_tree.specs.Follows.{FollowsPlain}
use Rattle.gs_tree.specs.Inverses.{TakesBack, IsRemoved}
use Rattle.gs_tree.proofs.Moves.{seen}
use Rattle.gs_tree.proofs.Under.{remove_chunks}
use Rattle.gs_tree.proofs.Root.{root_follows, remove-root}
use Rattle.gs_tree.proofs.tree.Tree.remove.Goals as goal

pub returns-clause-edit : goal.returns-clause-edit
returns-clause-edit c =
    let old : at c.self.inside.root ≡ get c.args.self.now = sym (seen c.self.inside.root) ∙ ap get c.self.view_is in
    let step = subst (λ (m : Plain ℕ). FollowsPlain (remove m c.args.path.now) c.remove_in.result m (at c.remove_in.new.root)) old c.remove_in.ensures.edit in
    subst (λ (n : Plain ℕ). FollowsPlain (remove (get c.args.self.now) c.args.path.now) c.remove_in.result (get c.args.self.now) n) (sym (seen c.remove_in.new.root)) step

pub returns-clause-undo : goal.returns-clause-undo
returns-clause-undo c =
    let old : at c.self.inside.root ≡ get c.args.self.now = sym (seen c.self.inside.root) ∙ ap get c.self.view_is in
    let step = subst (λ (m : Plain ℕ). IfOk c.remove_in.result (λ i. TakesBack i m (at c.remove_in.new.root))) old c.remove_in.ensures.undo in
    subst (λ (n : Plain ℕ). IfOk c.remove_in.result (λ i. TakesBack i (get c.args.self.now) n)) (sym (seen c.remove_in.new.root)) step

pub returns-clause-inverse : goal.returns-clause-inverse
returns-clause-inverse c =
    let old : at c.self.inside.root ≡ get c.args.self.now = sym (seen c.self.inside.root) ∙ ap get c.self.view_is in
    subst (λ (m : Plain ℕ). IfOk c.remove_in.result (λ i. IsRemoved m c.args.path.now i)) old c.remove_in.ensures.inverse

pub returns-clause-chunks : goal.returns-clause-chunks
returns-clause-chunks c = remove_chunks c.remove_in.result c.args.self.now c.args.path.now (returns-clause-inverse c)

pub invariant_of-self : goal.invariant_of-self
invariant_of-self c =
    root_follows _ c.remove_in.result (at c.self.inside.root) (at c.remove_in.new.root) (remove-root (at c.self.inside.root) c.args.path.now c.self.invariant) c.remove_in.ensures.edit c.self.invariant
