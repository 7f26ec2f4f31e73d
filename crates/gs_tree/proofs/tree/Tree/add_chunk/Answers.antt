use Rattle.std.proofs.Common.{◌≡◌, ap, sym, ◌∙◌, subst, ℕ}
use Rattle.std.specs.Prelude.{IfOk}
use Rattle.std.specs.FinMap.{get}
use Rattle.gs_tree.specs.Find.{at}
use Rattle.gs_tree.specs.Plain.{Plain}
use Rattle.gs_tree.specs.Edits.{add_chunk}
use Rattle.gs_tree.specs.Follows.{FollowsPlain}
use Rattle.gs_tree.specs.Inverses.{TakesBack}
use Rattle.gs_tree.proofs.Moves.{seen}
use Rattle.gs_tree.proofs.tree.Tree.add_chunk.Goals as goal

pub returns-clause-edit : goal.returns-clause-edit
returns-clause-edit c =
    let old : at c.self.inside.root ≡ get c.args.self.now = sym (seen c.self.inside.root) ∙ ap get c.self.view_is in
    let step = subst (λ (m : Plain ℕ). FollowsPlain (add_chunk m c.args.path.now c.args.chunk) c.add_chunk_in.result m (at c.add_chunk_in.new.root)) old c.add_chunk_in.ensures.edit in
    subst (λ (n : Plain ℕ). FollowsPlain (add_chunk (get c.args.self.now) c.args.path.now c.args.chunk) c.add_chunk_in.result (get c.args.self.now) n) (sym (seen c.add_chunk_in.new.root)) step

pub returns-clause-undo : goal.returns-clause-undo
returns-clause-undo c =
    let old : at c.self.inside.root ≡ get c.args.self.now = sym (seen c.self.inside.root) ∙ ap get c.self.view_is in
    let step = subst (λ (m : Plain ℕ). IfOk c.add_chunk_in.result (λ i. TakesBack i m (at c.add_chunk_in.new.root))) old c.add_chunk_in.ensures.undo in
    subst (λ (n : Plain ℕ). IfOk c.add_chunk_in.result (λ i. TakesBack i (get c.args.self.now) n)) (sym (seen c.add_chunk_in.new.root)) step
