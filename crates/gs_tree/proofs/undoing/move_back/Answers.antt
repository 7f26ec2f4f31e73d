use Rattle.std.proofs.Common.{arith, length, subst, ℕ, Bool, ◌∷◌, ◌≡◌, ◌++◌, [], ap, sym, ◌∙◌, refl, inl, inr, append-nil, false}
use Rattle.std.specs.Prelude.{Result, is_some}
use Rattle.std.specs.declared.alloc.AllocError.{AllocError}
use Rattle.gs_path.specs.Path.{Path, begins}
use Rattle.gs_tree.specs.Plain.{Plain, with_at}
use Rattle.gs_tree.specs.inner.Steps.{Relocates}
use Rattle.gs_tree.specs.Find.{at}
use Rattle.gs_tree.specs.Edits.{parent}
use Rattle.gs_tree.specs.inner.Sort.{sort_of}
use Rattle.gs_tree.specs.declared.node.Sort.TheVariants as sorts
use Rattle.gs_tree.proofs.Rows.{empty_path}
use Rattle.gs_tree.proofs.Moves.{lifted, dir_is, parent-append, relocated, taken}
use Rattle.gs_tree.proofs.undoing.move_back.Goals as goal

pub returns-in_default : goal.returns-in_default
returns-in_default c =
    let few : length c.elements.result.now ≡ 0 = c.in_default.ensures.cases in
    let none : c.args.from.now ≡ [] = sym c.elements.ensures ∙ empty_path c.elements.result.now (omega arith) in (
      inr (
        refl,
        λ fits. let gone : is_some (at c.args.root.now c.args.to.now) ≡ false = ap is_some (ap (λ p. at c.args.root.now (p ++ c.args.to.now)) (sym none) ∙ fits.2 c.args.to.now) in
            let there = fits.0 in cc,
      ),
      λ q. refl,
    )

pub returns-in-Missing : goal.returns-in-Missing
returns-in-Missing c =
    let split = sym c.elements.ensures ∙ c.in-Some.ensures.cases.0 in
    let parent_is : parent c.args.from.now ≡ c.in-Some.parent.now = ap parent split ∙ parent-append c.in-Some.parent.now c.in-Some.name.now in (
      inr (
        refl,
        λ fits. let s : sort_of (at c.args.root.now c.in-Some.parent.now) ≡ sorts.Dir = ap (λ p. sort_of (at c.args.root.now p)) (sym parent_is) ∙ ap sort_of fits.3 in
            let r = c.sort_at.ensures.sort ∙ s in elim c.in-Missing.is [ inl d ↦ cc (d, r) | inr f ↦ cc (f, r) ],
      ),
      λ q. refl,
    )

pub put-requires : goal.put-requires
put-requires c n =
    let m = at c.args.root.now in
    let one = at c.replace.new.self in
    let to = c.args.to.now in
    let l = lifted m (at c.in-Some-replace.node) one c.new.result to c.elements-2.result.now c.elements-2.ensures c.new.ensures c.in-Some-replace.ensures.found (c.in-Some-replace.ensures.above refl) c.in-Some-replace.ensures.part c.in-Some-replace.ensures.now in
    let gone : is_some (one to) ≡ false = ap (λ p. is_some (one p)) (sym c.elements-in_default-copy.ensures) ∙ ap is_some n in cc (gone, l.holds)

pub returns-in_default-copy : goal.returns-in_default-copy
returns-in_default-copy c =
    let m = at c.args.root.now in
    let one = at c.replace.new.self in
    let to = c.args.to.now in
    let l = lifted m (at c.in-Some-replace.node) one c.new.result to c.elements-2.result.now c.elements-2.ensures c.new.ensures c.in-Some-replace.ensures.found (c.in-Some-replace.ensures.above refl) c.in-Some-replace.ensures.part c.in-Some-replace.ensures.now in
    (inl refl, λ q. c.put.ensures q ∙ ap (λ p. with_at p (at c.in-Some-replace.node) one q) c.elements-in_default-copy.ensures ∙ ap (λ (k : Plain ℕ). k q) l.back)

pub relocate-requires-clause-dir : goal.relocate-requires-clause-dir
relocate-requires-clause-dir c =
    let m = at c.args.root.now in
    let one = at c.replace.new.self in
    let to = c.args.to.now in
    let l = lifted m (at c.in-Some-replace.node) one c.new.result to c.elements-2.result.now c.elements-2.ensures c.new.ensures c.in-Some-replace.ensures.found (c.in-Some-replace.ensures.above refl) c.in-Some-replace.ensures.part c.in-Some-replace.ensures.now in
    let split = sym c.elements.ensures ∙ c.in-Some.ensures.cases.0 in
    l.others c.in-Some.parent.now (c.in-Some.name.now ∷ []) (ap (begins to) (sym split) ∙ sym c.starts_with.ensures ∙ c.if-starts_with.false) ∙ dir_is (m c.in-Some.parent.now) c.in-Dir.ensures.sort

pub relocate-requires-clause-stands : goal.relocate-requires-clause-stands
relocate-requires-clause-stands c =
    let m = at c.args.root.now in
    let one = at c.replace.new.self in
    let to = c.args.to.now in
    let l = lifted m (at c.in-Some-replace.node) one c.new.result to c.elements-2.result.now c.elements-2.ensures c.new.ensures c.in-Some-replace.ensures.found (c.in-Some-replace.ensures.above refl) c.in-Some-replace.ensures.part c.in-Some-replace.ensures.now in
    ap (λ p. is_some (one p)) c.elements-3.ensures ∙ l.holds

-- what the node's landing says, of the paths themselves
landing : (m node one new : Plain ℕ) (to from to' from' : Path) (r : Result Bool AllocError) → to' ≡ to → from' ≡ from → with_at to node one ≡ m → Relocates (with_at to' node one) to' from' r new → Relocates m to from r new
landing m node one new to from to' from' r e1 e2 back h =
    subst (λ (k : Plain ℕ). Relocates k to from r new) back (subst (λ (t : Path). Relocates (with_at to node one) to t r new) e2 (subst (λ (p : Path). Relocates (with_at p node one) p from' r new) e1 h))

pub returns-in-Ok-true : goal.returns-in-Ok-true
returns-in-Ok-true c =
    let m = at c.args.root.now in
    let one = at c.replace.new.self in
    let to = c.args.to.now in
    let l = lifted m (at c.in-Some-replace.node) one c.new.result to c.elements-2.result.now c.elements-2.ensures c.new.ensures c.in-Some-replace.ensures.found (c.in-Some-replace.ensures.above refl) c.in-Some-replace.ensures.part c.in-Some-replace.ensures.now in
    let got = landing m (at c.in-Some-replace.node) one (at c.relocate.new.self) to c.args.from.now c.elements-3.result.now c.elements-4.result.now c.relocate.result c.elements-3.ensures c.elements-4.ensures l.back c.relocate.ensures in
    let split = sym c.elements.ensures ∙ c.in-Some.ensures.cases.0 in
    let parent_is : parent c.args.from.now ≡ c.in-Some.parent.now = ap parent split ∙ parent-append c.in-Some.parent.now c.in-Some.name.now in
    let moves = relocated m (at c.relocate.new.self) to c.args.from.now c.in-Ok-true.field-0 c.in-Ok-true.field-0-test (rw c.in-Ok-true.is at got) in
    ((l.stands, sym c.starts_with.ensures ∙ c.if-starts_with.false, moves.0, ap m parent_is ∙ dir_is (m c.in-Some.parent.now) c.in-Dir.ensures.sort), moves.1)

pub returns-in-Ok-false : goal.returns-in-Ok-false
returns-in-Ok-false c =
    let m = at c.args.root.now in
    let one = at c.replace.new.self in
    let to = c.args.to.now in
    let l = lifted m (at c.in-Some-replace.node) one c.new.result to c.elements-2.result.now c.elements-2.ensures c.new.ensures c.in-Some-replace.ensures.found (c.in-Some-replace.ensures.above refl) c.in-Some-replace.ensures.part c.in-Some-replace.ensures.now in
    let got = landing m (at c.in-Some-replace.node) one (at c.relocate.new.self) to c.args.from.now c.elements-3.result.now c.elements-4.result.now c.relocate.result c.elements-3.ensures c.elements-4.ensures l.back c.relocate.ensures in
    let stays = taken m (at c.relocate.new.self) to c.args.from.now c.in-Ok-false.field-0 c.in-Ok-false.field-0-test (rw c.in-Ok-false.is at got) in (
      inr (
        refl,
        λ fits. let gone : is_some (m c.args.from.now) ≡ false = ap (λ p. is_some (m p)) (sym (append-nil c.args.from.now)) ∙ ap is_some (fits.2 []) in let there = stays.0 in cc,
      ),
      stays.1,
    )

pub returns-in-Err : goal.returns-in-Err
returns-in-Err c =
    let m = at c.args.root.now in
    let one = at c.replace.new.self in
    let to = c.args.to.now in
    let l = lifted m (at c.in-Some-replace.node) one c.new.result to c.elements-2.result.now c.elements-2.ensures c.new.ensures c.in-Some-replace.ensures.found (c.in-Some-replace.ensures.above refl) c.in-Some-replace.ensures.part c.in-Some-replace.ensures.now in
    let got = landing m (at c.in-Some-replace.node) one (at c.relocate.new.self) to c.args.from.now c.elements-3.result.now c.elements-4.result.now c.relocate.result c.elements-3.ensures c.elements-4.ensures l.back c.relocate.ensures in
    (inl refl, rw c.in-Err.is at got)
