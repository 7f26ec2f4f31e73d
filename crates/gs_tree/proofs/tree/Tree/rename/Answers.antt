use Rattle.std.proofs.Common.{◌≡◌, ap, sym, ◌∙◌, subst, ℕ}
use Rattle.std.specs.Prelude.{IfOk}
use Rattle.std.specs.FinMap.{get, entries}
use Rattle.gs_tree.specs.Places.{given_up}
use Rattle.gs_tree.specs.Find.{at, is_too_deep, IsDepthTest}
use Rattle.gs_tree.specs.Plain.{Plain}
use Rattle.gs_tree.specs.Edits.{rename, target_of}
use Rattle.gs_tree.specs.Follows.{FollowsPlain}
use Rattle.gs_tree.specs.Inverses.{TakesBack}
use Rattle.gs_tree.proofs.Moves.{seen}
use Rattle.gs_tree.proofs.Places.{closed_follows, closed_takes}
use Rattle.gs_tree.proofs.Depths.{map_test}
use Rattle.gs_tree.proofs.Root.{root_follows, rename-root}
use Rattle.gs_tree.proofs.Depths.{rows_test}
use Rattle.gs_tree.proofs.tree.Tree.rename.Goals as goal

pub returns-clause-edit : goal.returns-clause-edit
returns-clause-edit c =
    let old : at c.self.inside.root ≡ get c.args.self.now = sym (seen c.self.inside.root) ∙ ap get c.self.view_is in
    let from = c.args.from.now in
    let to = c.args.to.now in
    let m = get c.args.self.now in
    let deep = is_too_deep (entries c.args.self.now) from (target_of m from to) in
    let test : IsDepthTest deep (at c.self.inside.root) from (target_of (at c.self.inside.root) from to) =
    subst (λ (k : Plain ℕ). IsDepthTest deep k from (target_of k from to)) (sym old) (map_test c.args.self.now from (target_of m from to)) in
    let mid = at c.rename_in-made.new.root in
    let step = subst (λ (k : Plain ℕ). FollowsPlain (rename (λ _. deep) k from to) c.rename_in-made.result k (given_up c.rename_in-made.result mid)) old (c.rename_in-made.ensures.edit deep test) in
    let done = closed_follows (rename (λ _. deep) m from to) c.rename_in-made.result c.give_up.result m mid (at c.give_up.new.root) c.give_up.ensures.made c.give_up.ensures.now step in
    subst (λ (n : Plain ℕ). FollowsPlain (rename (λ _. deep) m from to) c.give_up.result m n) (sym (seen c.give_up.new.root)) done

pub returns-clause-undo : goal.returns-clause-undo
returns-clause-undo c =
    let old : at c.self.inside.root ≡ get c.args.self.now = sym (seen c.self.inside.root) ∙ ap get c.self.view_is in
    let mid = at c.rename_in-made.new.root in
    let step = subst (λ (m : Plain ℕ). IfOk c.rename_in-made.result (λ i. TakesBack i m (given_up c.rename_in-made.result mid))) old c.rename_in-made.ensures.undo in
    let done = closed_takes c.rename_in-made.result c.give_up.result (get c.args.self.now) mid (at c.give_up.new.root) c.give_up.ensures.made c.give_up.ensures.now step in
    subst (λ (n : Plain ℕ). IfOk c.give_up.result (λ i. TakesBack i (get c.args.self.now) n)) (sym (seen c.give_up.new.root)) done

pub invariant_of-self : goal.invariant_of-self
invariant_of-self c =
    let rows = c.self.inside.root in
    let from = c.args.from.now in
    let to = c.args.to.now in
    let target = target_of (at rows) from to in
    let deep = is_too_deep rows from target in
    let step = c.rename_in-made.ensures.edit deep (rows_test rows from target) in
    let done = closed_follows _ c.rename_in-made.result c.give_up.result (at rows) (at c.rename_in-made.new.root) (at c.give_up.new.root) c.give_up.ensures.made c.give_up.ensures.now step in
    root_follows _ c.give_up.result (at rows) (at c.give_up.new.root) (rename-root (λ _. deep) (at rows) from to c.self.invariant) done c.self.invariant
