-- A server that names a chunk in what it says has a slot of it that is named.
use Rattle.std.proofs.Common.{◌≡◌, ℕ, true, List, [], ◌∷◌, inl, inr, subst}
use Rattle.std.specs.Prelude.{◌==◌}
use Rattle.std.specs.List.{AllByRecursion}
use Rattle.std.proofs.lemmas.Bool.{eqb-true, false≢true, or_cases}
use Rattle.gs_base.specs.Members.{is_member}
use Rattle.gs_laws_parts.proofs.lemmas.server.Entries.{names_all}
use Rattle.gs_store.specs.Learning.{is_named}
use Rattle.gs_store.specs.Stores.{Store, named, slot_of}

all_member : (P : ℕ → Type 0) (xs : List ℕ) (j : ℕ) → AllByRecursion P xs → is_member xs j ≡ true → P j
all_member P [] j all is = absurd (false≢true is)
all_member P (y ∷ xs) j all is = elim (or_cases (y == j) (is_member xs j) is) [
  | inl same ↦ subst P (eqb-true y j same) all.0
  | inr more ↦ all_member P xs j all.1 more
]

pub named_slot : (epoch : ℕ) (s : Store) (handle : ℕ) → is_member (named epoch s) handle ≡ true → is_named epoch (slot_of handle s) ≡ true
named_slot epoch s handle is = all_member (λ h. is_named epoch (slot_of h s) ≡ true) (named epoch s) handle (names_all epoch s (λ h. is_named epoch (slot_of h s) ≡ true) (λ h named. named)) is
