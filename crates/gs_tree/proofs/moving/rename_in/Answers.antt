use Rattle.std.proofs.Common.{◌≡◌, ◌++◌, [], ap, sym, ◌∙◌, subst, inl, refl, ℕ, append-nil}
use Rattle.std.specs.Prelude.{Err, Result, IfOk, None}
use Rattle.gs_base.specs.declared.refusal.Refusal.{Refusal}
use Rattle.gs_base.specs.declared.refusal.Refusal.TheVariants.{NotFound}
use Rattle.gs_tree.specs.declared.inverse.TreeInverse.{TreeInverse}
use Rattle.gs_tree.specs.inner.Sort.{sort_of}
use Rattle.gs_tree.specs.Plain.{Plain, with_at}
use Rattle.gs_tree.specs.Places.{given_up}
use Rattle.gs_tree.specs.Find.{at, IsDepthTest, DirsAbove}
use Rattle.gs_tree.specs.Edits.{move_to, target_of}
use Rattle.gs_tree.specs.Inverses.{TakesBack}
use Rattle.gs_tree.specs.Follows.{FollowsPlain}
use Rattle.gs_tree.proofs.Moves.{lifted, rename-is, missing-is, not_empty}
use Rattle.gs_tree.proofs.moving.rename_in.Goals as goal

pub returns-in_default-clause-edit : goal.returns-in_default-clause-edit
returns-in_default-clause-edit c deep test =
    let m = at c.args.root.now in
    let from = c.args.from.now in
    let none : m from ≡ None = ap m (sym (ap (λ p. p ++ []) c.elements-3.ensures ∙ append-nil from)) ∙ c.in_default.ensures.part [] in
    let is = missing-is deep m from c.args.to.now (not_empty from c.elements.result.now c.is_empty.result c.elements.ensures c.is_empty.ensures c.if-is_empty.false) none in
    subst (λ (r : Result (Plain ℕ) Refusal). FollowsPlain {I = TreeInverse} r (Err NotFound) m (at c.replace.new.self)) (sym is) (inl refl, c.in_default.ensures.now)

pub aim_at-aim-requires-clause-found : goal.aim_at-aim-requires-clause-found
aim_at-aim-requires-clause-found c =
    let m = at c.args.root.now in
    let from = c.args.from.now in
    let l = lifted m (at c.in-Some.node) (at c.replace.new.self) c.new.result from c.elements-3.result.now c.elements-3.ensures c.new.ensures c.in-Some.ensures.found (c.in-Some.ensures.above refl) c.in-Some.ensures.part c.in-Some.ensures.now in
    c.sort_at-found.ensures.sort ∙ ap (λ p. sort_of (m p)) c.elements-2.ensures ∙ ap (λ (k : Plain ℕ). sort_of (k c.args.to.now)) (sym l.back)

pub settle-requires-clause-place : goal.settle-requires-clause-place
settle-requires-clause-place c =
    let m = at c.args.root.now in
    let from = c.args.from.now in
    let l = lifted m (at c.in-Some.node) (at c.replace.new.self) c.new.result from c.elements-3.result.now c.elements-3.ensures c.new.ensures c.in-Some.ensures.found (c.in-Some.ensures.above refl) c.in-Some.ensures.part c.in-Some.ensures.now in
    l.place

pub settle-requires-clause-above : goal.settle-requires-clause-above
settle-requires-clause-above c =
    let m = at c.args.root.now in
    let from = c.args.from.now in
    let l = lifted m (at c.in-Some.node) (at c.replace.new.self) c.new.result from c.elements-3.result.now c.elements-3.ensures c.new.ensures c.in-Some.ensures.found (c.in-Some.ensures.above refl) c.in-Some.ensures.part c.in-Some.ensures.now in
    subst (λ (k : Plain ℕ). DirsAbove k from) (sym l.back) l.above

pub returns-clause-edit : goal.returns-clause-edit
returns-clause-edit c deep test =
    let m = at c.args.root.now in
    let from = c.args.from.now in
    let l = lifted m (at c.in-Some.node) (at c.replace.new.self) c.new.result from c.elements-3.result.now c.elements-3.ensures c.new.ensures c.in-Some.ensures.found (c.in-Some.ensures.above refl) c.in-Some.ensures.part c.in-Some.ensures.now in
    let to = c.args.to.now in
    let now = with_at from (at c.in-Some.node) (at c.replace.new.self) in
    let tested = subst (λ (k : Plain ℕ). IsDepthTest deep k from (target_of k from to)) (sym l.back) test in
    let step = c.settle.ensures.edit (move_to deep now from (target_of now from to)) (c.aim_at-aim.ensures.edit deep tested) in
    let is = rename-is deep m from to (not_empty from c.elements.result.now c.is_empty.result c.elements.ensures c.is_empty.ensures c.if-is_empty.false) l.stands in
    subst (λ (r : Result (Plain ℕ) Refusal). FollowsPlain r c.settle.result m (given_up c.settle.result (at c.settle.new.root))) (sym is)
    (subst (λ (k : Plain ℕ). FollowsPlain (move_to deep k from (target_of k from to)) c.settle.result k (given_up c.settle.result (at c.settle.new.root))) l.back step)

pub returns-clause-undo : goal.returns-clause-undo
returns-clause-undo c =
    let m = at c.args.root.now in
    let from = c.args.from.now in
    let l = lifted m (at c.in-Some.node) (at c.replace.new.self) c.new.result from c.elements-3.result.now c.elements-3.ensures c.new.ensures c.in-Some.ensures.found (c.in-Some.ensures.above refl) c.in-Some.ensures.part c.in-Some.ensures.now in
    subst (λ (k : Plain ℕ). IfOk c.settle.result (λ i. TakesBack i k (given_up c.settle.result (at c.settle.new.root)))) l.back c.settle.ensures.undo
