use Rattle.std.proofs.Common.{rules, ◌≡◌, ◌≢◌, ◌++◌, [], ap, sym, ◌∙◌, subst, ℕ, inl, inr, append-nil, false}
use Rattle.std.specs.Prelude.{is_some, is_none, Ok, Result}
use Rattle.gs_base.specs.declared.refusal.Refusal.{Refusal}
use Rattle.gs_path.specs.Path.{Path}
use Rattle.gs_tree.specs.Plain.{Plain, without}
use Rattle.gs_tree.specs.Find.{at, DirsAbove}
use Rattle.gs_tree.specs.inner.Sort.{sort_of}
use Rattle.gs_tree.specs.Follows.{FollowsPlain}
use Rattle.gs_tree.specs.Inverses.{TakesBack}
use Rattle.gs_tree.specs.declared.inverse.TreeInverse.TheVariants.{Removed}
use Rattle.gs_tree.specs.declared.node.Sort.TheVariants as sorts
use Rattle.gs_tree.proofs.Moves.{stands_is, some_is}
use Rattle.gs_tree.proofs.Removals.{remove-is, takes_removed, named}
use Rattle.gs_tree.proofs.removing.remove_in.Goals as goal

pub returns-in-Some : goal.returns-in-Some
returns-in-Some c =
    let stands : sorts.Missing ≡ sort_of (at c.args.root.now c.args.path.now) → ⊥ =
    λ e. let m = c.sort_at.ensures.sort ∙ ap (λ p. sort_of (at c.args.root.now p)) c.elements.ensures ∙ sym e in elim c.in-Dir.is [ inl d ↦ cc (d, m) | inr f ↦ cc (f, m) ] in
    let above : DirsAbove (at c.args.root.now) c.args.path.now = subst (λ (p : Path). DirsAbove (at c.args.root.now) p) c.elements.ensures (c.sort_at.ensures.above (λ e. elim c.in-Dir.is [ inl d ↦ cc (d, e) | inr f ↦ cc (f, e) ])) in
    let some = stands_is (at c.args.root.now c.args.path.now) stands in
    let hidden : is_none c.in_ok-hidden.hidden ≡ false = search rules in
    let ne : c.args.path.now ≢ [] = c.in_ok-hidden.ensures.root (named c.in_ok-hidden.hidden hidden) in
    let is = remove-is (at c.args.root.now) c.args.path.now (ap is_none (sym c.in_ok-hidden.ensures.old) ∙ hidden) (some_is (at c.args.root.now c.args.path.now) some) in
    let now = λ (q : Path). c.in-Some.ensures.rest q ∙ ap (λ p. without p (at c.args.root.now) q) c.elements-2.ensures in
    let part = λ (q : Path). ap (λ p. at c.args.root.now (p ++ q)) (sym c.elements-2.ensures) ∙ c.in-Some.ensures.part q in record {
      edit = subst (λ (r : Result (Plain ℕ) Refusal). FollowsPlain r (Ok (Removed c.in_ok-source.source c.in-Some.node)) (at c.args.root.now) (at c.prune.new.self)) (sym is) now;
      undo = subst (λ (s : Path). TakesBack (Removed s c.in-Some.node) (at c.args.root.now) (at c.prune.new.self)) (sym c.in_ok-source.ensures)
          (takes_removed (at c.args.root.now) (at c.prune.new.self) c.args.path.now c.in-Some.node ne above now part);
      inverse = (c.in-Some.node, (part, ap (λ s. Removed s c.in-Some.node) c.in_ok-source.ensures));
    }

pub returns : goal.returns
returns c =
    let stands : sorts.Missing ≡ sort_of (at c.args.root.now c.args.path.now) → ⊥ =
    λ e. let m = c.sort_at.ensures.sort ∙ ap (λ p. sort_of (at c.args.root.now p)) c.elements.ensures ∙ sym e in elim c.in-Dir.is [ inl d ↦ cc (d, m) | inr f ↦ cc (f, m) ] in
    let some = stands_is (at c.args.root.now c.args.path.now) stands in
    let gone : is_some (at c.args.root.now c.args.path.now) ≡ false =
    ap (λ p. is_some (at c.args.root.now p)) (sym (append-nil c.args.path.now) ∙ ap (λ p. p ++ []) (sym c.elements-2.ensures)) ∙ ap is_some (c.in-None.ensures.part []) in absurd (cc)
