use Rattle.std.proofs.Common.{◌≡◌, ◌++◌, true, ap, sym, ◌∙◌, inl, inr}
use Rattle.std.specs.Prelude.{is_some}
use Rattle.gs_tree.specs.Find.{at}
use Rattle.gs_tree.specs.Plain.{with_at, without}
use Rattle.gs_tree.specs.inner.Sort.{sort_of}
use Rattle.gs_tree.specs.declared.node.Sort.TheVariants as sorts
use Rattle.gs_tree.proofs.Moves.{stands_is}
use Rattle.gs_tree.proofs.Places.{gone_back}
use Rattle.gs_tree.proofs.moving.return_to.Goals as goal

pub returns : goal.returns
returns c =
    let m = at c.args.root.now in
    let from = c.args.from.now in
    let to = c.args.to.now in
    let sort : c.sort_at.result ≡ sort_of (m from) = c.sort_at.ensures.sort ∙ ap (λ p. sort_of (m p)) c.elements.ensures in
    let stands : is_some (m from) ≡ true = stands_is (m from) (λ z. let s : sorts.Missing ≡ c.sort_at.result = z ∙ sym sort in elim c.in-Dir.is [ inl d ↦ cc (d, s) | inr f ↦ cc (f, s) ]) in
    let there : is_some (m to) ≡ true = ap (λ p. is_some (m p)) (sym c.elements-2.ensures) ∙ sym c.in-Some.ensures.found in
    gone_back m (at c.in-Some.node) (at c.replace.new.self) (at c.put.new.self) (at c.prune.new.self) (at c.new.result) from to (sym c.starts_with.ensures ∙ c.if-starts_with.false) (sym c.starts_with-else-starts_with.ensures ∙ c.if-starts_with-2.false) stands there
    (λ q. ap (λ p. m (p ++ q)) (sym c.elements-2.ensures) ∙ c.in-Some.ensures.part q)
    (λ q. c.in-Some.ensures.now q ∙ ap (λ p. with_at p (at c.new.result) m q) c.elements-2.ensures)
    (λ q. c.put.ensures q ∙ ap (λ p. with_at p (at c.in-Some.node) (at c.replace.new.self) q) c.elements-3.ensures)
    (λ q. c.prune.ensures.rest q ∙ ap (λ p. without p (at c.put.new.self) q) c.elements-4.ensures)
