use Rattle.std.proofs.Common.{◌≡◌, ap, sym, ◌∙◌, subst, ℕ}
use Rattle.std.specs.Prelude.{IfOk}
use Rattle.std.specs.FinMap.{get}
use Rattle.gs_tree.specs.Places.{given_up}
use Rattle.gs_tree.specs.Find.{at}
use Rattle.gs_tree.specs.Plain.{Plain}
use Rattle.gs_tree.specs.Edits.{unhide}
use Rattle.gs_tree.specs.Follows.{FollowsPlain}
use Rattle.gs_tree.specs.Inverses.{TakesBack}
use Rattle.gs_tree.proofs.Moves.{seen}
use Rattle.gs_tree.proofs.Places.{closed_follows, closed_takes}
use Rattle.gs_tree.proofs.Root.{root_follows, unhide-root}
use Rattle.gs_tree.proofs.tree.Tree.unhide.Goals as goal

pub returns-clause-edit : goal.returns-clause-edit
returns-clause-edit c =
    let old : at c.self.inside.root ≡ get c.args.self.now = sym (seen c.self.inside.root) ∙ ap get c.self.view_is in
    let mid = at c.unhide_in-made.new.root in
    let step = subst (λ (m : Plain ℕ). FollowsPlain (unhide m c.args.path.now) c.unhide_in-made.result m (given_up c.unhide_in-made.result mid)) old c.unhide_in-made.ensures.edit in
    let done = closed_follows (unhide (get c.args.self.now) c.args.path.now) c.unhide_in-made.result c.give_up.result (get c.args.self.now) mid (at c.give_up.new.root) c.give_up.ensures.made c.give_up.ensures.now step in
    subst (λ (k : Plain ℕ). FollowsPlain (unhide (get c.args.self.now) c.args.path.now) c.give_up.result (get c.args.self.now) k) (sym (seen c.give_up.new.root)) done

pub returns-clause-undo : goal.returns-clause-undo
returns-clause-undo c =
    let old : at c.self.inside.root ≡ get c.args.self.now = sym (seen c.self.inside.root) ∙ ap get c.self.view_is in
    let mid = at c.unhide_in-made.new.root in
    let step = subst (λ (m : Plain ℕ). IfOk c.unhide_in-made.result (λ i. TakesBack i m (given_up c.unhide_in-made.result mid))) old c.unhide_in-made.ensures.undo in
    let done = closed_takes c.unhide_in-made.result c.give_up.result (get c.args.self.now) mid (at c.give_up.new.root) c.give_up.ensures.made c.give_up.ensures.now step in
    subst (λ (n : Plain ℕ). IfOk c.give_up.result (λ i. TakesBack i (get c.args.self.now) n)) (sym (seen c.give_up.new.root)) done

pub invariant_of-self : goal.invariant_of-self
invariant_of-self c =
    let done = closed_follows _ c.unhide_in-made.result c.give_up.result (at c.self.inside.root) (at c.unhide_in-made.new.root) (at c.give_up.new.root) c.give_up.ensures.made c.give_up.ensures.now c.unhide_in-made.ensures.edit in
    root_follows _ c.give_up.result (at c.self.inside.root) (at c.give_up.new.root) (unhide-root (at c.self.inside.root) c.args.path.now c.self.invariant) done c.self.invariant
