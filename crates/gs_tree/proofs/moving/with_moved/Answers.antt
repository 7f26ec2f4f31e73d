use Rattle.std.proofs.Common.{◌≡◌, ◌++◌, ◌∷◌, [], true, false, cond, ap, sym, ◌∙◌, ℕ, inl, inr, refl, append-nil}
use Rattle.std.specs.Prelude.{Some, is_some}
use Rattle.gs_path.specs.Path.{Path, begins}
use Rattle.gs_tree.specs.Entry.{Dir}
use Rattle.gs_tree.specs.inner.Sort.{sort_of}
use Rattle.gs_tree.specs.Plain.{Plain, after, with_at, without, part_at}
use Rattle.gs_tree.specs.Find.{at}
use Rattle.gs_tree.proofs.Rows.{stands_top}
use Rattle.gs_tree.specs.Edits.{moved, parent}
use Rattle.gs_tree.proofs.Moves.{dir_is, not_empty, parent-append, append_some}
use Rattle.gs_tree.proofs.moving.with_moved.Goals as goal

-- what was taken out and put elsewhere was moved
moved_so : (m one two : Plain ℕ) (from to other : Path) (node : Plain ℕ) → to ≡ other → ((q : Path) → m (from ++ q) ≡ node q) → ((q : Path) → one q ≡ without from m q)
    → ((q : Path) → two q ≡ with_at other node one q) → (q : Path) → two q ≡ moved from to m q
moved_so m one two from to other node e part rest put q =
    put q ∙ ap (λ p. with_at p node one q) (sym e)
    ∙ elim (begins to q) as (λ b. cond b (node (after to q)) (one q) ≡ cond b (part_at from m (after to q)) (without from m q)) [
      | true ↦ sym (part (after to q))
      | false ↦ rest q
    ]

pub returns-in_default : goal.returns-in_default
returns-in_default c =
    inr (
      refl,
      λ can. let gone : is_some (at c.args.root c.args.from.now) ≡ false = ap (λ p. is_some (at c.args.root p)) (sym c.elements-2.ensures ∙ sym (append-nil c.elements-2.result.now)) ∙ ap is_some (c.in_default.ensures.part []) in
          let there = can.2 in cc,
    )

pub returns-in-Missing : goal.returns-in-Missing
returns-in-Missing c =
    let par = c.in-Some-split_last.parent.now in
    let one = at c.prune.new.self in
    let split = sym c.elements-3.ensures ∙ c.in-Some-split_last.ensures.cases.0 in
    let parent_is : parent c.args.to.now ≡ par = ap parent split ∙ parent-append par c.in-Some-split_last.name.now in
    inr (
      refl,
      λ can. let dir : one par ≡ Some Dir = ap one (sym parent_is) ∙ c.in-Some.ensures.rest (parent c.args.to.now) ∙ ap (λ p. without p (at c.args.root) (parent c.args.to.now)) c.elements-2.ensures ∙ can.3 in
          let sort = c.sort_at.ensures.sort ∙ ap sort_of dir in elim c.in-Missing.is [ inl d ↦ cc (d, sort) | inr f ↦ cc (f, sort) ],
    )

pub returns : goal.returns
returns c =
    let from = c.args.from.now in
    let to = c.args.to.now in
    let m = at c.args.root in
    let par = c.in-Some-split_last.parent.now in
    let one = at c.prune.new.self in
    let split = sym c.elements-3.ensures ∙ c.in-Some-split_last.ensures.cases.0 in
    let parent_is : parent to ≡ par = ap parent split ∙ parent-append par c.in-Some-split_last.name.now in
    let part : (q : Path) → m (from ++ q) ≡ at c.in-Some.node q = λ q. ap (λ p. m (p ++ q)) (sym c.elements-2.ensures) ∙ c.in-Some.ensures.part q in
    let rest : (q : Path) → one q ≡ without from m q = λ q. c.in-Some.ensures.rest q ∙ ap (λ p. without p m q) c.elements-2.ensures in (
      (
        not_empty from c.elements.result.now c.is_empty.result c.elements.ensures c.is_empty.ensures c.if-is_empty.false,
        λ z. append_some par c.in-Some-split_last.name.now (sym split ∙ z),
        ap (λ p. is_some (m p)) (sym (append-nil from)) ∙ ap is_some (part []) ∙ ap (λ r. is_some (at r [])) (sym c.node.view_is) ∙ stands_top c.node.inside.kind,
        sym (rest (parent to)) ∙ ap one parent_is ∙ dir_is (one par) c.in-Dir.ensures.sort,
      ),
      moved_so m one (at c.graft.new.self) from to (par ++ c.in_ok-name.name ∷ []) (at c.in-Some.node) (split ∙ ap (λ n. par ++ n ∷ []) (sym c.in_ok-name.ensures)) part rest c.in_ok-graft.ensures.now,
    )
