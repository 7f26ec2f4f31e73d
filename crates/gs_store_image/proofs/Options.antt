-- An option of values that are seen as they are is seen as it is.
use Rattle.std.proofs.Common.{◌≡◌, ℕ, List, Option, Some, None, Result, Ok, Err, refl, ap, subst, ◌∙◌}
use Rattle.gs_fields.specs.declared.fault.Fault.{Fault}
use Rattle.gs_fields.specs.Encoding.{option, seen_option}
use Rattle.gs_fields.specs.Work.{DecodesAs, Puts}
use Rattle.gs_fields.specs.Writable.{IsOption}

seen_as_it_is : {A : Type 0} (o : Option A) → seen_option (λ x. x) o ≡ o
seen_as_it_is None = refl
seen_as_it_is (Some x) = refl

pub decodes_seen : {A : Type 0} (r : Result (Option A) Fault) (left : List ℕ) (read : Option (Option A × List ℕ)) → DecodesAs (seen_option (λ (x : A). x)) r left read → DecodesAs (λ (o : Option A). o) r left read
decodes_seen (Ok o) left read h = h ∙ ap (λ z. Some (z, left)) (seen_as_it_is o)
decodes_seen (Err e) left read h = h

pub puts_seen : {A : Type 0} (Is : A → Type 0) (write : A → List ℕ) (o : Option A) (old new : List ℕ) (r : Result (Unit {0}) Fault) → Puts (IsOption Is (seen_option (λ x. x) o)) (option write (seen_option (λ x. x) o)) old new r
    → Puts (IsOption Is o) (option write o) old new r
puts_seen Is write o old new r h = subst (λ z. Puts (IsOption Is z) (option write z) old new r) (seen_as_it_is o) h
