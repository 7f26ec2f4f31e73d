-- Where none of some chunks is left that isn't quiet, all are.
use Rattle.std.proofs.Common.{◌≡◌, ◌∙◌, ◌&&◌, ℕ, Bool, true, false, not, cond, List, [], ◌∷◌, filter, ap, refl, sym}
use Rattle.std.specs.Prelude.{is_some, map, Some}
use Rattle.std.specs.Cmp.{nat_cmp_total, tied_itself}
use Rattle.std.specs.FinMap as fin
use Rattle.std.specs.FinMap.Entries.{find-put}
use Rattle.std.specs.List.{list_all}
use Rattle.std.specs.Ordering.{is_eq, nat_cmp}
use Rattle.std.proofs.lemmas.Bool.{false≢true}
use Rattle.gs_master_spec.specs.Working.{ascending, put_handles}
use Rattle.gs_master_state.proofs.ChunkSets.{ascending_where}

abbrev is_empty : {A : Type 0} → List A → Bool
is_empty [] = true
is_empty (x ∷ xs) = false

all_pass : (f : ℕ → Bool) (xs : List ℕ) → is_empty (filter (λ c. not (f c)) xs) ≡ true → list_all f xs ≡ true
all_pass f [] none = refl
all_pass f (x ∷ xs) none = by_test (f x) none (all_pass f xs)
  where
    by_test : (b : Bool) → is_empty (cond (not b) (x ∷ filter (λ c. not (f c)) xs) (filter (λ c. not (f c)) xs)) ≡ true → (is_empty (filter (λ c. not (f c)) xs) ≡ true → list_all f xs ≡ true) → (b && list_all f xs) ≡ true
    by_test true none rest = rest none
    by_test false none rest = absurd (false≢true none)

-- what is put is there
some_in : (k : ℕ) (es : List (ℕ × Bool)) → is_some (fin.find nat_cmp k es) ≡ true → is_empty (map (λ e. e.0) es) ≡ false
some_in k [] some = absurd (false≢true some)
some_in k (e ∷ es) some = refl

none_ascending : (xs : List ℕ) → ascending xs ≡ [] → is_empty xs ≡ true
none_ascending [] none = refl
none_ascending (x ∷ xs) none = absurd (false≢true (sym (some_in x (put_handles (x ∷ xs)) found) ∙ ap is_empty none))
  where
    found : is_some (fin.find nat_cmp x (put_handles (x ∷ xs))) ≡ true
    found = ap is_some (find-put nat_cmp nat_cmp_total x x true (put_handles xs)) ∙ ap (λ b. is_some (cond b (Some true) (fin.find nat_cmp x (put_handles xs)))) (ap is_eq (tied_itself nat_cmp_total x))

pub all_still : (f : ℕ → Bool) (xs : List ℕ) → filter (λ c. not (f c)) (ascending xs) ≡ [] → list_all f xs ≡ true
all_still f xs none = all_pass f xs (none_ascending (filter (λ c. not (f c)) xs) (ascending_where (λ c. not (f c)) xs ∙ none))
