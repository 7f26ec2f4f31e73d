use Rattle.std.proofs.Common.{◌≡◌, ◌++◌, ◌∷◌, [], ap, sym, ◌∙◌, subst, ℕ}
use Rattle.std.specs.FinMap.{get}
use Rattle.std.specs.Bool.{MatchBool}
use Rattle.std.specs.Prelude.{is_some, false}
use Rattle.gs_tree.specs.Plain.{Plain, part_at}
use Rattle.gs_tree.specs.Find.{at}
use Rattle.gs_tree.specs.Listing.{HasVisibleBut}
use Rattle.gs_tree.proofs.Moves.{seen}
use Rattle.gs_tree.proofs.tree.Tree.has_visible_but.Goals as goal

pub returns-in-Some : goal.returns-in-Some
returns-in-Some c =
    let part : at c.in-Some.node.now ≡ part_at c.args.path.now (get c.args.self.now) = λ i q.
    (sym (c.in-Some.ensures.part q) ∙ ap (λ p. at c.self.inside.root (p ++ q)) c.elements.ensures ∙ sym (ap (λ f. f (c.args.path.now ++ q)) (seen c.self.inside.root)) ∙ ap (λ m. get m (c.args.path.now ++ q)) c.self.view_is) i in
    subst (λ (m : Plain ℕ). MatchBool c.has_visible_but.result (HasVisibleBut c.args.name.now m) (HasVisibleBut c.args.name.now m → ⊥)) part c.has_visible_but.ensures

pub returns-in-None : goal.returns-in-None
returns-in-None c = λ (name, (seen_name, some)).
    let none = ap (λ m. get m (c.args.path.now ++ name ∷ [])) (sym c.self.view_is) ∙ ap (λ f. f (c.args.path.now ++ name ∷ [])) (seen c.self.inside.root) ∙ ap (λ p. at c.self.inside.root (p ++ name ∷ [])) (sym c.elements.ensures) ∙ c.in-None.ensures.part (name ∷ []) in
    let gone : is_some (get c.args.self.now (c.args.path.now ++ name ∷ [])) ≡ false = ap is_some none in cc
