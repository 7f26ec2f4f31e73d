use Rattle.std.proofs.Common.{◌≡◌, ap, sym, ◌∙◌, subst, inl, inr, ℕ, [], cond, rules}
use Rattle.std.specs.Prelude.{Ok, Err, Result}
use Rattle.gs_base.specs.declared.refusal.Refusal.{Refusal}
use Rattle.gs_base.specs.declared.refusal.Refusal.TheVariants.{NotFound, BadPath}
use Rattle.gs_tree.specs.declared.inverse.TreeInverse.{TreeInverse}
use Rattle.gs_tree.specs.declared.node.Sort.TheVariants as sorts
use Rattle.gs_tree.specs.inner.Sort.{sort_of}
use Rattle.gs_tree.specs.Plain.{Plain, with_at, part_at}
use Rattle.gs_tree.specs.Find.{at, IsDepthTest}
use Rattle.gs_tree.specs.Edits.{copied, visible}
use Rattle.gs_tree.specs.Follows.{FollowsPlain}
use Rattle.gs_tree.proofs.Apart.{if_ok}
use Rattle.gs_tree.proofs.Moves.{not_front, refused, snapshot-is, snapshot-missing, not_empty, stands_is, none_is}
use Rattle.gs_tree.proofs.snapshots.snapshot_in.Goals as goal

pub returns-in-Missing-clause-edit : goal.returns-in-Missing-clause-edit
returns-in-Missing-clause-edit c deep test =
    let none = none_is (at c.args.root.now c.args.from.now) (c.in-Missing.ensures.sort ∙ ap (λ p. sort_of (at c.args.root.now p)) c.elements-2.ensures) in
    refused TreeInverse NotFound (at c.args.root.now) (snapshot-missing deep (at c.args.root.now) c.args.from.now c.args.to.now (not_empty c.args.from.now c.elements.result.now c.is_empty.result c.elements.ensures c.is_empty.ensures c.if-is_empty.false) none)

pub returns-in_err-test_place : goal.returns-in_err-test_place
returns-in_err-test_place c =
    let stands : sorts.Missing ≡ sort_of (at c.args.root.now c.args.from.now) → ⊥ =
    λ e. let m = c.sort_at.ensures.sort ∙ ap (λ p. sort_of (at c.args.root.now p)) c.elements-2.ensures ∙ sym e in elim c.in-Dir.is [ inl d ↦ cc (d, m) | inr f ↦ cc (f, m) ] in
    let some = stands_is (at c.args.root.now c.args.from.now) stands in
    let ne = not_empty c.args.from.now c.elements.result.now c.is_empty.result c.elements.ensures c.is_empty.ensures c.if-is_empty.false in
    let e : c.from_residual.result ≡ Err c.in_err-test_place.field-0.0 = search rules in
    rw e (record {
      edit = λ deep test. refused TreeInverse c.in_err-test_place.field-0.0 (at c.args.root.now) (snapshot-is deep (at c.args.root.now) c.args.from.now c.args.to.now ne some ∙ c.in_err-test_place.ensures deep (copied c.args.from.now c.args.to.now (at c.args.root.now)));
      undo = tt;
      inverse = tt;
      apart = tt;
    })

pub returns : goal.returns
returns c =
    let stands : sorts.Missing ≡ sort_of (at c.args.root.now c.args.from.now) → ⊥ =
    λ e. let m = c.sort_at.ensures.sort ∙ ap (λ p. sort_of (at c.args.root.now p)) c.elements-2.ensures ∙ sym e in elim c.in-Dir.is [ inl d ↦ cc (d, m) | inr f ↦ cc (f, m) ] in
    let some = stands_is (at c.args.root.now c.args.from.now) stands in
    let ne = not_empty c.args.from.now c.elements.result.now c.is_empty.result c.elements.ensures c.is_empty.ensures c.if-is_empty.false in
    let part : at c.in_ok-copy.copy ≡ visible (part_at c.args.from.now (at c.args.root.now)) = λ i q. c.in_ok-copy.ensures.same q i in record {
      edit = λ deep test.
          let is = snapshot-is deep (at c.args.root.now) c.args.from.now c.args.to.now ne some ∙ c.in_ok-test_place.ensures.answer deep (copied c.args.from.now c.args.to.now (at c.args.root.now)) in
          let step = c.put_copy.ensures.edit deep (subst (λ (k : Plain ℕ). IsDepthTest deep k [] c.args.to.now) (sym part) test) in
          let same = subst (λ (k : Plain ℕ). FollowsPlain (cond deep (Err BadPath) (Ok (with_at c.args.to.now k (at c.args.root.now)))) c.put_copy.result (at c.args.root.now) (at c.put_copy.new.root)) part step in
          subst (λ (r : Result (Plain ℕ) Refusal). FollowsPlain r c.put_copy.result (at c.args.root.now) (at c.put_copy.new.root)) (sym is) same;
      undo = c.put_copy.ensures.undo;
      inverse = c.put_copy.ensures.inverse;
      apart = if_ok c.put_copy.result (c.in_ok-test_place.ensures.apart, not_front (at c.args.root.now) c.args.to.now c.args.from.now c.in_ok-test_place.ensures.free some);
    }
