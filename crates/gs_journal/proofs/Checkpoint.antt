-- What two disks say while the other one is made anew.
use Rattle.std.proofs.Common.{◌≡◌, inl, inr, ℕ, suc, ◌+◌, ◌<◌, ◌^◌, true, false, List, [], ◌∷◌, ◌++◌, length, sym, ◌∙◌, ap, subst, arith, append_assoc, length-append}
use Rattle.gs_journal_disk.specs.Disk.{Only}
use Rattle.gs_journal.specs.Records.{Entry, frame, entry_of, header, is_begun, version_of, generation_of, records_of, second_counts, standing, text_of}
use Rattle.gs_journal.specs.inner.Rest.{IsAtRest, IsMaking}
use Rattle.gs_journal.specs.Journal.{IsStillOrNext}
use Rattle.gs_journal.specs.inner.Pair.{text, IsSettled}
use Rattle.gs_journal.specs.declared.pair.Pair.{Pair}
use Rattle.gs_journal.specs.declared.version.Version.TheVariants.{Two}
use Rattle.gs_journal.proofs.Frames.{frame_is}
use Rattle.gs_journal.proofs.Complete.{complete_next, at_rest}
use Rattle.gs_journal.proofs.Opening.{header_begun, header_generation, header_complete}
use Rattle.gs_journal.proofs.Settled.{known_first, known_second, settled_first, settled_second, grown}
use Rattle.gs_journal.proofs.Standing.{standing_first, standing_second, second_unmade, first_unmade, second_made, first_made, generation_first, generation_second}

-- a new disk with one record
pub record IsNew (g : ℕ) (r : Entry) (x : List ℕ) : Type 0 where
  pub begun : is_begun x ≡ true
  pub version : version_of x ≡ Two
  pub generation : generation_of x ≡ g
  pub rest : IsAtRest (13 + (1 + length (frame r))) x
  pub says : text_of x ≡ (Two, r ∷ [])

pub new_disk : (g : ℕ) (r : Entry) (x : List ℕ) → g < 2 ^ 64 → length r.1 < 2 ^ 32 → x ≡ header Two g ++ 1 ∷ (frame r ++ 0 ∷ []) → IsNew g r x
new_disk g r x fits short is =
    let h = header_complete g in
    let framed = frame_is r short in
    let next = complete_next (header Two g) (frame r) h.0 framed.0 in
    let ended = at_rest (header Two g ++ 1 ∷ frame r) 0 next.0 (omega arith) in
    let regrouped : (header Two g ++ 1 ∷ frame r) ++ 0 ∷ [] ≡ x = append_assoc (header Two g) (1 ∷ frame r) (0 ∷ []) ∙ sym is in
    let size : length (header Two g ++ 1 ∷ frame r) ≡ 13 + (1 + length (frame r)) = length-append (header Two g) (1 ∷ frame r) ∙ omega arith in
    let one : records_of x ≡ r ∷ [] =
    ap records_of (sym regrouped) ∙ ended.1 ∙ next.1 ∙ ap (λ (rs : List Entry). rs ++ entry_of (frame r) ∷ []) h.1 ∙ ap (λ (e : Entry). e ∷ []) framed.1 in record {
      begun = ap is_begun is ∙ header_begun g (1 ∷ (frame r ++ 0 ∷ []));
      version = ap version_of is;
      generation = ap generation_of is ∙ header_generation g (1 ∷ (frame r ++ 0 ∷ [])) fits;
      rest = subst (λ (l : List ℕ). IsAtRest (13 + (1 + length (frame r))) l) regrouped (subst (λ (k : ℕ). IsAtRest k ((header Two g ++ 1 ∷ frame r) ++ 0 ∷ [])) size ended.0);
      says = λ i. (ap version_of is i, one i);
    }

one_more : (n : ℕ) {m : ℕ} → m ≡ suc n → m ≡ n + 1
one_more n is = omega (arith, is)

module _ (a b bytes : List ℕ) (r : Entry) where
  pub second_making : (c : List ℕ) → second_counts a b ≡ false → is_begun a ≡ true → IsNew (suc (generation_of a)) r (1 ∷ bytes) → IsMaking bytes b c → IsStillOrNext (standing a b) (generation_of a) (Two, r ∷ []) a c
  second_making c counts begun new (inl unmade) =
      let still = second_unmade a b c counts unmade in inl (standing_first a c still begun ∙ sym (standing_first a b counts begun), generation_first a c still begun)
  second_making c counts begun new (inr made) =
      let later = second_made a b c (ap is_begun made ∙ new.begun) (ap generation_of made ∙ new.generation) in
      inr (standing_second a c later ∙ ap text_of made ∙ new.says, one_more (generation_of a) (generation_second a c later ∙ ap generation_of made ∙ new.generation))

  pub first_making : (c : List ℕ) → second_counts a b ≡ true → IsNew (suc (generation_of b)) r (1 ∷ bytes) → IsMaking bytes a c → IsStillOrNext (standing a b) (generation_of b) (Two, r ∷ []) c b
  first_making c counts new (inl unmade) =
      let still = first_unmade a b c counts unmade in inl (standing_second c b still ∙ sym (standing_second a b counts), generation_second c b still)
  first_making c counts new (inr made) =
      let begun = ap is_begun made ∙ new.begun in
      let later = first_made a b c begun (ap generation_of made ∙ new.generation) in
      inr (standing_first c b later begun ∙ ap text_of made ∙ new.says, one_more (generation_of b) (generation_first c b later begun ∙ ap generation_of made ∙ new.generation))

module _ {D : Type 0} (seen : D → List ℕ) (may_leave : D → List ℕ → Type 0) where
  -- the first disk was made anew while the second counted
  pub new_first : (j j' : Pair D) (r : Entry) (bytes written : List ℕ) → IsSettled seen may_leave j → j.is_second ≡ true → j.generation + 1 < 2 ^ 64 → length r.1 < 2 ^ 32 → 1 ∷ bytes ≡ header Two (j.generation + 1) ++ 1 ∷ (frame r ++ 0 ∷ [])
      → written ≡ frame r ++ 0 ∷ [] → seen j'.first ≡ 1 ∷ bytes → j'.second ≡ j.second → j'.is_second ≡ false → j'.version ≡ Two → j'.generation ≡ j.generation + 1 → j'.end ≡ 13 + length written → Only (seen j'.first) (may_leave j'.first)
      → IsSettled seen may_leave j' × (text seen j' ≡ (Two, r ∷ []))
  new_first j j' r bytes written s is fits short made wrote first second side version generation end only =
      let k = known_second seen may_leave j s is in
      let new = subst (IsNew (j.generation + 1) r) (sym first) (new_disk (j.generation + 1) r (1 ∷ bytes) fits short made) in
      let next : generation_of (seen j'.first) ≡ suc (generation_of (seen j.second)) = omega (arith, new.generation, k.0.generation) in
      let counts : second_counts (seen j'.first) (seen j'.second) ≡ false =
      subst (λ (d : D). second_counts (seen j'.first) (seen d) ≡ false) (sym second) (first_made (seen j.first) (seen j.second) (seen j'.first) new.begun next) in
      let rest : IsAtRest j'.end (seen j'.first) = subst (λ (n : ℕ). IsAtRest n (seen j'.first)) (sym end) (grown r written wrote 13 (seen j'.first) new.rest) in (
        settled_first seen may_leave j' side counts (record { begun = new.begun; rest = rest; version = version ∙ sym new.version; generation = generation ∙ sym new.generation }) only
            (subst (λ (d : D). Only (seen d) (may_leave d)) (sym second) s.second),
        standing_first (seen j'.first) (seen j'.second) counts new.begun ∙ new.says,
      )

  -- the second disk was made anew while the first counted
  pub new_second : (j j' : Pair D) (r : Entry) (bytes written : List ℕ) → IsSettled seen may_leave j → j.is_second ≡ false → j.generation + 1 < 2 ^ 64 → length r.1 < 2 ^ 32 → 1 ∷ bytes ≡ header Two (j.generation + 1) ++ 1 ∷ (frame r ++ 0 ∷ [])
      → written ≡ frame r ++ 0 ∷ [] → seen j'.second ≡ 1 ∷ bytes → j'.first ≡ j.first → j'.is_second ≡ true → j'.version ≡ Two → j'.generation ≡ j.generation + 1 → j'.end ≡ 13 + length written → Only (seen j'.second) (may_leave j'.second)
      → IsSettled seen may_leave j' × (text seen j' ≡ (Two, r ∷ []))
  new_second j j' r bytes written s is fits short made wrote second first side version generation end only =
      let k = known_first seen may_leave j s is in
      let new = subst (IsNew (j.generation + 1) r) (sym second) (new_disk (j.generation + 1) r (1 ∷ bytes) fits short made) in
      let next : generation_of (seen j'.second) ≡ suc (generation_of (seen j.first)) = omega (arith, new.generation, k.0.generation) in
      let counts : second_counts (seen j'.first) (seen j'.second) ≡ true =
      subst (λ (d : D). second_counts (seen d) (seen j'.second) ≡ true) (sym first) (second_made (seen j.first) (seen j.second) (seen j'.second) new.begun next) in
      let rest : IsAtRest j'.end (seen j'.second) = subst (λ (n : ℕ). IsAtRest n (seen j'.second)) (sym end) (grown r written wrote 13 (seen j'.second) new.rest) in (
        settled_second seen may_leave j' side counts (record { begun = new.begun; rest = rest; version = version ∙ sym new.version; generation = generation ∙ sym new.generation })
            (subst (λ (d : D). Only (seen d) (may_leave d)) (sym first) s.first) only,
        standing_second (seen j'.first) (seen j'.second) counts ∙ new.says,
      )

  -- what a crash leaves in between
  pub new_while_first : (j : Pair D) (r : Entry) (bytes c : List ℕ) → IsSettled seen may_leave j → j.is_second ≡ true → j.generation + 1 < 2 ^ 64 → length r.1 < 2 ^ 32 → 1 ∷ bytes ≡ header Two (j.generation + 1) ++ 1 ∷ (frame r ++ 0 ∷ [])
      → IsMaking bytes (seen j.first) c → IsStillOrNext (text seen j) j.generation (Two, r ∷ []) c (seen j.second)
  new_while_first j r bytes c s is fits short made making =
      let k = known_second seen may_leave j s is in
      let same : j.generation + 1 ≡ suc (generation_of (seen j.second)) = omega (arith, k.0.generation) in
      subst (λ (g : ℕ). IsStillOrNext (text seen j) g (Two, r ∷ []) c (seen j.second)) (sym k.0.generation)
      (first_making (seen j.first) (seen j.second) bytes r c k.1 (subst (λ (n : ℕ). IsNew n r (1 ∷ bytes)) same (new_disk (j.generation + 1) r (1 ∷ bytes) fits short made)) making)

  pub new_while_second : (j : Pair D) (r : Entry) (bytes c : List ℕ) → IsSettled seen may_leave j → j.is_second ≡ false → j.generation + 1 < 2 ^ 64 → length r.1 < 2 ^ 32 → 1 ∷ bytes ≡ header Two (j.generation + 1) ++ 1 ∷ (frame r ++ 0 ∷ [])
      → IsMaking bytes (seen j.second) c → IsStillOrNext (text seen j) j.generation (Two, r ∷ []) (seen j.first) c
  new_while_second j r bytes c s is fits short made making =
      let k = known_first seen may_leave j s is in
      let same : j.generation + 1 ≡ suc (generation_of (seen j.first)) = omega (arith, k.0.generation) in
      subst (λ (g : ℕ). IsStillOrNext (text seen j) g (Two, r ∷ []) (seen j.first) c) (sym k.0.generation)
      (second_making (seen j.first) (seen j.second) bytes r c k.1 k.0.begun (subst (λ (n : ℕ). IsNew n r (1 ∷ bytes)) same (new_disk (j.generation + 1) r (1 ∷ bytes) fits short made)) making)
