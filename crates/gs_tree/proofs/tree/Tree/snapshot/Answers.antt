use Rattle.std.proofs.Common.{◌≡◌, ap, sym, ◌∙◌, subst, ℕ, []}
use Rattle.std.specs.Prelude.{IfOk}
use Rattle.std.specs.FinMap.{get, entries, from_entries}
use Rattle.gs_tree.specs.Find.{at, is_copied_too_deep, IsDepthTest}
use Rattle.gs_tree.specs.Plain.{Plain, part_at}
use Rattle.gs_tree.specs.Edits.{snapshot, visible}
use Rattle.gs_tree.specs.Follows.{FollowsPlain}
use Rattle.gs_tree.specs.Inverses.{TakesBack}
use Rattle.gs_tree.proofs.Moves.{seen}
use Rattle.gs_tree.proofs.Depths.{copied_map_test}
use Rattle.gs_tree.proofs.Under.{snapshot_chunks}
use Rattle.gs_tree.proofs.Root.{root_follows, snapshot-root}
use Rattle.gs_tree.proofs.Depths.{copied_test}
use Rattle.gs_tree.proofs.tree.Tree.snapshot.Goals as goal

pub returns-clause-edit : goal.returns-clause-edit
returns-clause-edit c =
    let old : at c.self.inside.root ≡ get c.args.self.now = sym (seen c.self.inside.root) ∙ ap get c.self.view_is in
    let from = c.args.from.now in
    let to = c.args.to.now in
    let m = get c.args.self.now in
    let deep = is_copied_too_deep (entries c.args.self.now) from to in
    let test : IsDepthTest deep (visible (part_at from (at c.self.inside.root))) [] to =
    subst (λ (k : Plain ℕ). IsDepthTest deep (visible (part_at from k)) [] to) (sym old) (copied_map_test c.args.self.now from to) in
    let step = subst (λ (k : Plain ℕ). FollowsPlain (snapshot (λ _. deep) k from to) c.snapshot_in.result k (at c.snapshot_in.new.root)) old (c.snapshot_in.ensures.edit deep test) in
    subst (λ (n : Plain ℕ). FollowsPlain (snapshot (λ _. deep) m from to) c.snapshot_in.result m n) (sym (seen c.snapshot_in.new.root)) step

pub returns-clause-undo : goal.returns-clause-undo
returns-clause-undo c =
    let old : at c.self.inside.root ≡ get c.args.self.now = sym (seen c.self.inside.root) ∙ ap get c.self.view_is in
    let step = subst (λ (m : Plain ℕ). IfOk c.snapshot_in.result (λ i. TakesBack i m (at c.snapshot_in.new.root))) old c.snapshot_in.ensures.undo in
    subst (λ (n : Plain ℕ). IfOk c.snapshot_in.result (λ i. TakesBack i (get c.args.self.now) n)) (sym (seen c.snapshot_in.new.root)) step

pub returns-clause-chunks : goal.returns-clause-chunks
returns-clause-chunks c =
    snapshot_chunks c.snapshot_in.result (is_copied_too_deep (entries c.args.self.now) c.args.from.now) c.args.self.now (from_entries c.snapshot_in.new.root) c.args.from.now c.args.to.now (returns-clause-edit c)

pub invariant_of-self : goal.invariant_of-self
invariant_of-self c =
    let rows = c.self.inside.root in
    let from = c.args.from.now in
    let to = c.args.to.now in
    let deep = is_copied_too_deep rows from to in
    root_follows _ c.snapshot_in.result (at rows) (at c.snapshot_in.new.root) (snapshot-root (λ _. deep) (at rows) from to c.self.invariant) (c.snapshot_in.ensures.edit deep (copied_test rows from to)) c.self.invariant
