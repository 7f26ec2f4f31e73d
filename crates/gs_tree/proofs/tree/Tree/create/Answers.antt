use Rattle.std.proofs.Common.{◌≡◌, ap, sym, ◌∙◌, subst, ℕ}
use Rattle.std.specs.Prelude.{IfOk}
use Rattle.std.specs.FinMap.{get}
use Rattle.gs_tree.specs.Find.{at}
use Rattle.gs_tree.specs.Plain.{Plain}
use Rattle.gs_tree.specs.Edits.{create}
use Rattle.gs_tree.specs.Follows.{FollowsPlain}
use Rattle.gs_tree.specs.Inverses.{TakesBack}
use Rattle.gs_tree.proofs.Moves.{seen}
use Rattle.gs_tree.proofs.Root.{root_follows, create-root}
use Rattle.gs_tree.proofs.tree.Tree.create.Goals as goal

pub returns-clause-edit : goal.returns-clause-edit
returns-clause-edit c =
    let old : at c.self.inside.root ≡ get c.args.self.now = sym (seen c.self.inside.root) ∙ ap get c.self.view_is in
    let step = subst (λ (m : Plain ℕ). FollowsPlain (create m c.args.path.now) c.create_in.result m (at c.create_in.new.root)) old c.create_in.ensures.edit in
    subst (λ (n : Plain ℕ). FollowsPlain (create (get c.args.self.now) c.args.path.now) c.create_in.result (get c.args.self.now) n) (sym (seen c.create_in.new.root)) step

pub returns-clause-undo : goal.returns-clause-undo
returns-clause-undo c =
    let old : at c.self.inside.root ≡ get c.args.self.now = sym (seen c.self.inside.root) ∙ ap get c.self.view_is in
    let step = subst (λ (m : Plain ℕ). IfOk c.create_in.result (λ i. TakesBack i m (at c.create_in.new.root))) old c.create_in.ensures.undo in
    subst (λ (n : Plain ℕ). IfOk c.create_in.result (λ i. TakesBack i (get c.args.self.now) n)) (sym (seen c.create_in.new.root)) step

pub invariant_of-self : goal.invariant_of-self
invariant_of-self c =
    root_follows _ c.create_in.result (at c.self.inside.root) (at c.create_in.new.root) (create-root (at c.self.inside.root) c.args.path.now c.self.invariant) c.create_in.ensures.edit c.self.invariant
