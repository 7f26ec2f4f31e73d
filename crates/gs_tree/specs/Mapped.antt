-- A tree with another payload: each chunk as a function gives it.
use Rattle.std.specs.Prelude.{◌≡◌, ◌+◌, [], ◌∷◌, map, Option, Some, None, Result, Ok, Err, refl}
use Rattle.gs_base.specs.declared.refusal.Refusal.{Refusal}
use Rattle.gs_tree.specs.Entry.{Entry, Dir, File}
use Rattle.gs_tree.specs.Plain.{Plain}

abbrev pub mapped_entry : {A B : Type 0} → (A → B) → Entry A → Entry B
mapped_entry f Dir = Dir
mapped_entry f (File chunks) = File (map f chunks)

abbrev pub mapped_at : {A B : Type 0} → (A → B) → Option (Entry A) → Option (Entry B)
mapped_at f None = None
mapped_at f (Some e) = Some (mapped_entry f e)

abbrev pub mapped : {A B : Type 0} → (A → B) → Plain A → Plain B
mapped f m q = mapped_at f (m q)

abbrev pub mapped_result : {A B : Type 0} → (A → B) → Result (Plain A) Refusal → Result (Plain B) Refusal
mapped_result f (Ok m) = Ok (mapped f m)
mapped_result f (Err e) = Err e

one_more : mapped_at (λ n. n + 1) (Some (File (7 ∷ 8 ∷ []))) ≡ Some (File (8 ∷ 9 ∷ []))
one_more = refl
