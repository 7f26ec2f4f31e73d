-- What is made of the items of a list.
use Rattle.std.proofs.Common.{◌≡◌, ◌∙◌, ℕ, zero, suc, ◌+◌, List, [], ◌∷◌, ◌++◌, map, add-one, ap, sym, arith}
use Rattle.std.proofs.lemmas.List.{map-append}
use Rattle.std.specs.Prelude.{Option, Some, None, IfSome, Result, Ok, Err, IfOk}
use Rattle.gs_base.specs.Members.{count_from}

-- ---- numbers

count_push : (first n : ℕ) → count_from first (suc n) ≡ count_from first n ++ (first + n) ∷ []
count_push first zero = ap (λ x. x ∷ []) (omega arith)
count_push first (suc n) = ap (λ xs. first ∷ xs) (count_push (first + 1) n ∙ ap (λ x. count_from (first + 1) n ++ x ∷ []) (omega arith))

pub counted_next : {B : Type 0} (f : ℕ → B) (done : List B) (n : ℕ) → done ≡ map f (count_from 0 n) → done ++ f n ∷ [] ≡ map f (count_from 0 (n + 1))
counted_next f done n h =
    ap (λ ys. ys ++ f n ∷ []) h ∙ sym (map-append f (count_from 0 n) (n ∷ [])) ∙ ap (map f) (sym (ap (count_from 0) (add-one n) ∙ count_push 0 n ∙ ap (λ x. count_from 0 n ++ x ∷ []) (omega arith)))

pub found_number : (o : Option ℕ) (s n : ℕ) → IfSome o (λ x. x ≡ n) → o ≡ Some s → s ≡ n
found_number None s n is e = absurd cc
found_number (Some x) s n is e = let same : x ≡ s = cc in sym same ∙ is

-- of two lists, one behind the other
pub mapped_both : {A B : Type 0} (f : A → B) (xs ys : List A) (done all : List B) → done ≡ map f xs → all ≡ done ++ map f ys → all ≡ map f (xs ++ ys)
mapped_both f xs ys done all first then = then ∙ ap (λ zs. zs ++ map f ys) first ∙ sym (map-append f xs ys)

pub if_ok_weaker : {R E : Type 0} (P Q : R → Type 0) → ((x : R) → P x → Q x) → (r : Result R E) → IfOk r P → IfOk r Q
if_ok_weaker P Q weaker (Ok x) h = weaker x h
if_ok_weaker P Q weaker (Err e) h = h
