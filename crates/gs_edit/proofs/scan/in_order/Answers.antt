use Rattle.std.proofs.Common.{◌≡◌, ◌++◌, ◌∷◌, [], List, refl, sym, ap, ◌∙◌, subst, append_assoc}
use Rattle.std.proofs.lemmas.List.{nil_from_length}
use Rattle.std.specs.List.Sorted.{IsPermutation, IsSorted}
use Rattle.gs_path.specs.Path.{Path}
use Rattle.gs_edit.specs.Scan.{removal_cmp}
use Rattle.gs_edit.proofs.scan.in_order.Goals as goal

append-nil : (xs : List Path) → xs ++ [] ≡ xs
append-nil [] = refl
append-nil (x ∷ xs) = ap (λ ys. x ∷ ys) (append-nil xs)

-- one path more
carried : (done new rest all more : List Path) (x y : Path) → new ≡ done ++ y ∷ [] → y ≡ x → more ≡ x ∷ rest → done ++ more ≡ all → new ++ rest ≡ all
carried done new rest all more x y pushed same next before =
    ap (λ ps. ps ++ rest) (pushed ∙ ap (λ p. done ++ p ∷ []) same) ∙ append_assoc done (x ∷ []) rest ∙ ap (λ ps. done ++ ps) (sym next) ∙ before

pub loop-removal-preserved : goal.loop-removal-preserved
loop-removal-preserved c =
    carried c.loop-removal.paths.items c.push.new.self.items c.next.new.self.rest.items c.into_iter-removal-iterator.result.rest.items c.loop-removal.removal-iterator.rest.items c.in-Some.removal c.into_path.result c.in_ok-push.ensures.items
    c.into_path.ensures c.in-Some.ensures.steps.0 c.loop-removal.invariant

pub returns : goal.returns
returns c =
    let rest : List Path = c.loop-removal.removal-iterator.rest.items in
    let none : rest ≡ [] = nil_from_length rest (sym c.loop-removal.removal-iterator.rest.ok.0 ∙ c.in-None.ensures.steps.0) in
    let sorted : c.sort.new.self.items ≡ c.loop-removal.paths.items = sym (sym (append-nil c.loop-removal.paths.items) ∙ ap (λ (ps : List Path). c.loop-removal.paths.items ++ ps) (sym none) ∙ c.loop-removal.invariant ∙ c.into_iter-removal-iterator.ensures.into_iter_gives.0) in
    subst (λ (ps : List Path). IsPermutation c.args.found.items ps × IsSorted removal_cmp ps) sorted (c.in_ok-sort.ensures.permutation, c.in_ok-sort.ensures.sorted)
