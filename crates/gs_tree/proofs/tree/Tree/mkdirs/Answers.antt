use Rattle.std.proofs.Common.{◌≡◌, ap, sym, ◌∙◌, subst, ℕ}
use Rattle.std.specs.Prelude.{IfOk}
use Rattle.std.specs.FinMap.{get}
use Rattle.gs_tree.specs.Find.{at}
use Rattle.gs_tree.specs.Plain.{Plain}
use Rattle.gs_tree.specs.Edits.{mkdirs}
use Rattle.gs_tree.specs.Follows.{FollowsPlain}
use Rattle.gs_tree.specs.Inverses.{TakesBack}
use Rattle.gs_tree.proofs.Moves.{seen}
use Rattle.gs_tree.proofs.Root.{root_follows, mkdirs-root}
use Rattle.gs_tree.proofs.tree.Tree.mkdirs.Goals as goal

pub returns-clause-edit : goal.returns-clause-edit
returns-clause-edit c =
    let old : at c.self.inside.root ≡ get c.args.self.now = sym (seen c.self.inside.root) ∙ ap get c.self.view_is in
    let step = subst (λ (m : Plain ℕ). FollowsPlain (mkdirs m c.args.path.now) c.mkdirs_in.result m (at c.mkdirs_in.new.root)) old c.mkdirs_in.ensures.edit in
    subst (λ (n : Plain ℕ). FollowsPlain (mkdirs (get c.args.self.now) c.args.path.now) c.mkdirs_in.result (get c.args.self.now) n) (sym (seen c.mkdirs_in.new.root)) step

pub returns-clause-undo : goal.returns-clause-undo
returns-clause-undo c =
    let old : at c.self.inside.root ≡ get c.args.self.now = sym (seen c.self.inside.root) ∙ ap get c.self.view_is in
    let step = subst (λ (m : Plain ℕ). IfOk c.mkdirs_in.result (λ i. TakesBack i m (at c.mkdirs_in.new.root))) old c.mkdirs_in.ensures.undo in
    subst (λ (n : Plain ℕ). IfOk c.mkdirs_in.result (λ i. TakesBack i (get c.args.self.now) n)) (sym (seen c.mkdirs_in.new.root)) step

pub invariant_of-self : goal.invariant_of-self
invariant_of-self c =
    root_follows _ c.mkdirs_in.result (at c.self.inside.root) (at c.mkdirs_in.new.root) (mkdirs-root (at c.self.inside.root) c.args.path.now c.self.invariant) c.mkdirs_in.ensures.edit c.self.invariant
