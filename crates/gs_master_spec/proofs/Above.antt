-- The paths above a path, one after the other.
use Rattle.std.proofs.Common.{◌≡◌, ◌∙◌, ◌+◌, ◌++◌, ◌<◌, ℕ, List, [], ◌∷◌, length, take, get_or, add-one, refl, sym, ap}
use Rattle.std.proofs.Math.Seq.{take-suc}
use Rattle.std.specs.Prelude.{map}
use Rattle.gs_lock.specs.Locks.{beginnings}
use Rattle.gs_path.specs.Path.{Name, Path}
use Rattle.gs_master_spec.specs.Volatile.{above}
use Rattle.gs_tree.specs.Edits.{parent}

pub take_next : {X : Type 0} (xs : List X) (i : ℕ) (x : X) → i < length xs → x ≡ get_or xs i x → take (i + 1) xs ≡ take i xs ++ x ∷ []
take_next xs i x below is = ap (λ k. take k xs) (add-one i) ∙ take-suc xs i x below ∙ ap (λ y. take i xs ++ y ∷ []) (sym is)

mapped : {A B : Type 0} (f : A → B) (xs ys : List A) → map f (xs ++ ys) ≡ map f xs ++ map f ys
mapped f [] ys = refl
mapped f (x ∷ xs) ys = ap (λ zs. f x ∷ zs) (mapped f xs ys)

parent_next : (p : Path) (name : Name) → parent (p ++ name ∷ []) ≡ p
parent_next [] name = refl
parent_next (first ∷ []) name = refl
parent_next (first ∷ second ∷ p) name = ap (λ xs. first ∷ xs) (parent_next (second ∷ p) name)

begun : (first : Name) (p : Path) → beginnings (first ∷ p) ≡ beginnings (parent (first ∷ p)) ++ (first ∷ p) ∷ []
begun first [] = refl
begun first (second ∷ p) =
    ap (λ xs. [] ∷ map (λ front. first ∷ front) xs) (begun second p) ∙ ap (λ xs. [] ∷ xs) (mapped (λ front. first ∷ front) (beginnings (parent (second ∷ p))) ((second ∷ p) ∷ []))

pub above_next : (p : Path) (name : Name) → above (p ++ name ∷ []) ≡ above p ++ p ∷ []
above_next [] name = refl
above_next (first ∷ p) name = ap beginnings (parent_next (first ∷ p) name) ∙ begun first p
