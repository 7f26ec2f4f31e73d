use Rattle.std.proofs.Common.{◌≡◌, ap, sym, ◌∙◌, subst, ℕ}
use Rattle.std.specs.FinMap.{get, from_entries}
use Rattle.gs_path.specs.Path.{path_cmp}
use Rattle.gs_tree.specs.Find.{at}
use Rattle.gs_tree.specs.Plain.{Plain}
use Rattle.gs_tree.specs.Follows.{Undoes}
use Rattle.gs_tree.specs.declared.inverse.TreeInverse.{TreeInverse}
use Rattle.gs_tree.specs.declared.inverse.TreeInverse.TheVariants.{Made, Moved, Removed, Added, Changed, Copied}
use Rattle.gs_tree.proofs.Moves.{seen}
use Rattle.gs_tree.proofs.Root.{root_undone}
use Rattle.gs_tree.proofs.tree.Tree.undo.Goals as goal

pub returns-in-Made-clause-undo : goal.returns-in-Made-clause-undo
returns-in-Made-clause-undo c =
    let old : at c.self.inside.root ≡ get c.args.self.now = sym (seen c.self.inside.root) ∙ ap get c.self.view_is in
    let i = Made c.in-Made.path c.in-Made.above in
    let step = subst (λ (m : Plain ℕ). Undoes i m c.unmake.result (at c.unmake.new.root)) old c.unmake.ensures.undo in
    subst (λ (j : TreeInverse). Undoes j (get c.args.self.now) c.unmake.result (get (from_entries {R = path_cmp} c.unmake.new.root))) (sym c.in-Made.is)
    (subst (λ (n : Plain ℕ). Undoes i (get c.args.self.now) c.unmake.result n) (sym (seen c.unmake.new.root)) step)

pub returns-in-Moved-clause-undo : goal.returns-in-Moved-clause-undo
returns-in-Moved-clause-undo c =
    let old : at c.self.inside.root ≡ get c.args.self.now = sym (seen c.self.inside.root) ∙ ap get c.self.view_is in
    let i = Moved c.in-Moved.from c.in-Moved.to in
    let step = subst (λ (m : Plain ℕ). Undoes i m c.move_back.result (at c.move_back.new.root)) old c.move_back.ensures in
    subst (λ (j : TreeInverse). Undoes j (get c.args.self.now) c.move_back.result (get (from_entries {R = path_cmp} c.move_back.new.root))) (sym c.in-Moved.is)
    (subst (λ (n : Plain ℕ). Undoes i (get c.args.self.now) c.move_back.result n) (sym (seen c.move_back.new.root)) step)

pub returns-in-Removed-clause-undo : goal.returns-in-Removed-clause-undo
returns-in-Removed-clause-undo c =
    let old : at c.self.inside.root ≡ get c.args.self.now = sym (seen c.self.inside.root) ∙ ap get c.self.view_is in
    let i = Removed c.in-Removed.path c.in-Removed.node in
    let step = subst (λ (m : Plain ℕ). Undoes i m c.plant.result (at c.plant.new.root)) old c.plant.ensures in
    subst (λ (j : TreeInverse). Undoes j (get c.args.self.now) c.plant.result (get (from_entries {R = path_cmp} c.plant.new.root))) (sym c.in-Removed.is)
    (subst (λ (n : Plain ℕ). Undoes i (get c.args.self.now) c.plant.result n) (sym (seen c.plant.new.root)) step)

pub returns-in-Added-clause-undo : goal.returns-in-Added-clause-undo
returns-in-Added-clause-undo c =
    let old : at c.self.inside.root ≡ get c.args.self.now = sym (seen c.self.inside.root) ∙ ap get c.self.view_is in
    let i = Added c.in-Added.path in
    let step = subst (λ (m : Plain ℕ). Undoes i m c.drop_chunk.result (at c.drop_chunk.new.root)) old c.drop_chunk.ensures.undo in
    subst (λ (j : TreeInverse). Undoes j (get c.args.self.now) c.drop_chunk.result (get (from_entries {R = path_cmp} c.drop_chunk.new.root))) (sym c.in-Added.is)
    (subst (λ (n : Plain ℕ). Undoes i (get c.args.self.now) c.drop_chunk.result n) (sym (seen c.drop_chunk.new.root)) step)

pub returns-in-Changed-clause-undo : goal.returns-in-Changed-clause-undo
returns-in-Changed-clause-undo c =
    let old : at c.self.inside.root ≡ get c.args.self.now = sym (seen c.self.inside.root) ∙ ap get c.self.view_is in
    let i = Changed c.in-Changed.path c.in-Changed.index c.in-Changed.chunk in
    let step = subst (λ (m : Plain ℕ). Undoes i m c.reset_chunk.result (at c.reset_chunk.new.root)) old c.reset_chunk.ensures.undo in
    subst (λ (j : TreeInverse). Undoes j (get c.args.self.now) c.reset_chunk.result (get (from_entries {R = path_cmp} c.reset_chunk.new.root))) (sym c.in-Changed.is)
    (subst (λ (n : Plain ℕ). Undoes i (get c.args.self.now) c.reset_chunk.result n) (sym (seen c.reset_chunk.new.root)) step)

pub returns-in-Copied-clause-undo : goal.returns-in-Copied-clause-undo
returns-in-Copied-clause-undo c =
    let old : at c.self.inside.root ≡ get c.args.self.now = sym (seen c.self.inside.root) ∙ ap get c.self.view_is in
    let i = Copied c.in-Copied.path in
    let step = subst (λ (m : Plain ℕ). Undoes i m c.drop_copy.result (at c.drop_copy.new.root)) old c.drop_copy.ensures.undo in
    subst (λ (j : TreeInverse). Undoes j (get c.args.self.now) c.drop_copy.result (get (from_entries {R = path_cmp} c.drop_copy.new.root))) (sym c.in-Copied.is)
    (subst (λ (n : Plain ℕ). Undoes i (get c.args.self.now) c.drop_copy.result n) (sym (seen c.drop_copy.new.root)) step)

pub invariant_of-self-in-Moved : goal.invariant_of-self-in-Moved
invariant_of-self-in-Moved c = root_undone (Moved c.in-Moved.from c.in-Moved.to) c.move_back.result (at c.self.inside.root) (at c.move_back.new.root) c.move_back.ensures c.self.invariant

pub invariant_of-self-in-Removed : goal.invariant_of-self-in-Removed
invariant_of-self-in-Removed c = root_undone (Removed c.in-Removed.path c.in-Removed.node) c.plant.result (at c.self.inside.root) (at c.plant.new.root) c.plant.ensures c.self.invariant

pub invariant_of-self-in-Added : goal.invariant_of-self-in-Added
invariant_of-self-in-Added c = root_undone (Added c.in-Added.path) c.drop_chunk.result (at c.self.inside.root) (at c.drop_chunk.new.root) c.drop_chunk.ensures.undo c.self.invariant

pub invariant_of-self-in-Changed : goal.invariant_of-self-in-Changed
invariant_of-self-in-Changed c = root_undone (Changed c.in-Changed.path c.in-Changed.index c.in-Changed.chunk) c.reset_chunk.result (at c.self.inside.root) (at c.reset_chunk.new.root) c.reset_chunk.ensures.undo c.self.invariant

pub invariant_of-self-in-Copied : goal.invariant_of-self-in-Copied
invariant_of-self-in-Copied c = root_undone (Copied c.in-Copied.path) c.drop_copy.result (at c.self.inside.root) (at c.drop_copy.new.root) c.drop_copy.ensures.undo c.self.invariant
