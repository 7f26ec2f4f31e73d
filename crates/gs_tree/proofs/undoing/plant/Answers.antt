use Rattle.std.proofs.Common.{◌≡◌, ◌++◌, ◌∷◌, [], ap, sym, ◌∙◌, refl, inl, inr, append-nil, false}
use Rattle.std.specs.Prelude.{is_some}
use Rattle.gs_tree.specs.Plain.{with_at}
use Rattle.gs_tree.specs.Find.{at}
use Rattle.gs_tree.specs.Edits.{parent}
use Rattle.gs_tree.specs.inner.Sort.{sort_of}
use Rattle.gs_tree.specs.declared.node.Sort.TheVariants as sorts
use Rattle.gs_tree.proofs.Moves.{stands_is, dir_is, parent-append}
use Rattle.gs_tree.proofs.Removals.{with_part}
use Rattle.gs_tree.proofs.undoing.plant.Goals as goal

pub returns-in-Dir : goal.returns-in-Dir
returns-in-Dir c =
    let taken : sorts.Missing ≡ sort_of (at c.args.root.now c.args.path.now) → ⊥ =
    λ e. let m = c.sort_at.ensures.sort ∙ ap (λ p. sort_of (at c.args.root.now p)) c.elements.ensures ∙ sym e in elim c.in-Dir.is [ inl d ↦ cc (d, m) | inr f ↦ cc (f, m) ] in
    let some = stands_is (at c.args.root.now c.args.path.now) taken in
    (inr (refl, λ fits. let gone : is_some (at c.args.root.now c.args.path.now) ≡ false = ap (λ p. is_some (at c.args.root.now p)) (sym (append-nil c.args.path.now)) ∙ ap is_some (fits.0 []) in cc), λ q. refl)

pub returns-in-Missing-sort_at : goal.returns-in-Missing-sort_at
returns-in-Missing-sort_at c =
    let split = sym c.elements-2.ensures ∙ c.in-Some.ensures.cases.0 in
    let parent_is : parent c.args.path.now ≡ c.in-Some.parent.now = ap parent split ∙ parent-append c.in-Some.parent.now c.in-Some.name.now in (
      inr (
        refl,
        λ fits. let s : sort_of (at c.args.root.now c.in-Some.parent.now) ≡ sorts.Dir = ap (λ p. sort_of (at c.args.root.now p)) (sym parent_is) ∙ ap sort_of fits.1 in
            let r = c.sort_at-2.ensures.sort ∙ s in elim c.in-Missing-sort_at.is [ inl d ↦ cc (d, r) | inr f ↦ cc (f, r) ],
      ),
      λ q. refl,
    )

pub returns : goal.returns
returns c =
    let split = sym c.elements-2.ensures ∙ c.in-Some.ensures.cases.0 in
    let parent_is : parent c.args.path.now ≡ c.in-Some.parent.now = ap parent split ∙ parent-append c.in-Some.parent.now c.in-Some.name.now in (
      (λ r. ap (λ p. at c.args.root.now (p ++ r)) (sym c.elements.ensures) ∙ c.in-Missing.ensures.free refl r, ap (at c.args.root.now) parent_is ∙ dir_is (at c.args.root.now c.in-Some.parent.now) c.in-Dir-sort_at.ensures.sort),
      λ q. c.in_ok-graft.ensures.now q ∙ ap (λ n. with_at (c.in-Some.parent.now ++ n ∷ []) (at c.in_ok-copy.copy) (at c.args.root.now) q) c.in_ok-name.ensures
          ∙ ap (λ p. with_at p (at c.in_ok-copy.copy) (at c.args.root.now) q) (sym split) ∙ with_part c.args.path.now (at c.in_ok-copy.copy) (at c.args.node.now) (at c.args.root.now) c.in_ok-copy.ensures.same q,
    )
