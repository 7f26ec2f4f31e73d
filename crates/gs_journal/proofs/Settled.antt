-- Journals of which one disk changes.
use Rattle.std.proofs.Common.{◌≡◌, ℕ, ◌+◌, Bool, true, false, List, [], ◌∷◌, ◌++◌, length, sym, ◌∙◌, ap, subst, arith, length-append}
use Rattle.std.specs.Prelude.{if◌then◌else◌}
use Rattle.gs_journal_disk.specs.Disk.{Only}
use Rattle.gs_journal.specs.Records.{Entry, Text, frame, is_begun, version_of, generation_of, records_of, second_counts, standing}
use Rattle.gs_journal.specs.inner.Rest.{IsAtRest, Continues}
use Rattle.gs_journal.specs.Journal.{with_record}
use Rattle.gs_journal.specs.inner.Pair.{counting, text, IsSettled}
use Rattle.gs_journal.specs.declared.pair.Pair.{Pair}
use Rattle.gs_journal.proofs.Standing.{same_header, standing_first, standing_second, first_continues, second_continues}

-- what is known of the disk that counts
pub record Known {D : Type 0} (seen : D → List ℕ) (j : Pair D) (bytes : List ℕ) : Type 0 where
  pub begun : is_begun bytes ≡ true
  pub rest : IsAtRest j.end bytes
  pub version : j.version ≡ version_of bytes
  pub generation : j.generation ≡ generation_of bytes

module _ {D : Type 0} (seen : D → List ℕ) (may_leave : D → List ℕ → Type 0) where
  counting_second : (j : Pair D) → j.is_second ≡ true → counting seen j ≡ seen j.second
  counting_second j is = ap (λ (b : Bool). if b then seen j.second else seen j.first) is

  counting_first : (j : Pair D) → j.is_second ≡ false → counting seen j ≡ seen j.first
  counting_first j is = ap (λ (b : Bool). if b then seen j.second else seen j.first) is

  known : (j : Pair D) (bytes : List ℕ) → IsSettled seen may_leave j → counting seen j ≡ bytes → Known seen j bytes
  known j bytes s is = subst (Known seen j) is (record { begun = s.begun; rest = s.rest; version = s.version; generation = s.generation })

  pub known_second : (j : Pair D) → IsSettled seen may_leave j → j.is_second ≡ true → Known seen j (seen j.second) × (second_counts (seen j.first) (seen j.second) ≡ true)
  known_second j s is = (known j (seen j.second) s (counting_second j is), s.counts ∙ is)

  pub known_first : (j : Pair D) → IsSettled seen may_leave j → j.is_second ≡ false → Known seen j (seen j.first) × (second_counts (seen j.first) (seen j.second) ≡ false)
  known_first j s is = (known j (seen j.first) s (counting_first j is), s.counts ∙ is)

  pub settled_second : (j : Pair D) → j.is_second ≡ true → second_counts (seen j.first) (seen j.second) ≡ true → Known seen j (seen j.second)
      → Only (seen j.first) (may_leave j.first) → Only (seen j.second) (may_leave j.second) → IsSettled seen may_leave j
  settled_second j is counts k first second =
      let moved = subst (Known seen j) (sym (counting_second j is)) k in
      record { counts = counts ∙ sym is; begun = moved.begun; rest = moved.rest; version = moved.version; generation = moved.generation; first = first; second = second }

  pub settled_first : (j : Pair D) → j.is_second ≡ false → second_counts (seen j.first) (seen j.second) ≡ false → Known seen j (seen j.first)
      → Only (seen j.first) (may_leave j.first) → Only (seen j.second) (may_leave j.second) → IsSettled seen may_leave j
  settled_first j is counts k first second =
      let moved = subst (Known seen j) (sym (counting_first j is)) k in
      record { counts = counts ∙ sym is; begun = moved.begun; rest = moved.rest; version = moved.version; generation = moved.generation; first = first; second = second }

  -- one record more on the second disk
  pub more_on_second : (j j' : Pair D) (r : Entry) → IsSettled seen may_leave j → j.is_second ≡ true → j'.is_second ≡ j.is_second → j'.first ≡ j.first → j'.version ≡ j.version → j'.generation ≡ j.generation
      → IsAtRest j'.end (seen j'.second) → Continues (seen j.second) (records_of (seen j.second) ++ r ∷ []) (seen j'.second) → Only (seen j'.second) (may_leave j'.second)
      → IsSettled seen may_leave j' × (text seen j' ≡ with_record (text seen j) r)
  more_on_second j j' r s is same_side same_first same_version same_generation rest goes_on only =
      let k = known_second j s is in
      let h = same_header (seen j.second) (seen j'.second) goes_on.same_header in
      let next = second_continues (seen j.first) (seen j.second) (records_of (seen j.second) ++ r ∷ []) (seen j'.second) k.1 goes_on in
      let other : seen j.first ≡ seen j'.first = ap seen (sym same_first) in (
        settled_second j' (same_side ∙ is) (subst (λ (f : List ℕ). second_counts f (seen j'.second) ≡ true) other next.0)
            (record { begun = h.begun ∙ k.0.begun; rest = rest; version = same_version ∙ k.0.version ∙ sym h.version; generation = same_generation ∙ k.0.generation ∙ sym h.generation })
            (subst (λ (d : D). Only (seen d) (may_leave d)) (sym same_first) s.first) only,
        ap (λ (f : List ℕ). standing f (seen j'.second)) (sym other) ∙ next.1 ∙ ap (λ (t : Text). with_record t r) (sym (standing_second (seen j.first) (seen j.second) k.1)),
      )

  -- one record more on the first disk
  pub more_on_first : (j j' : Pair D) (r : Entry) → IsSettled seen may_leave j → j.is_second ≡ false → j'.is_second ≡ j.is_second → j'.second ≡ j.second → j'.version ≡ j.version → j'.generation ≡ j.generation
      → IsAtRest j'.end (seen j'.first) → Continues (seen j.first) (records_of (seen j.first) ++ r ∷ []) (seen j'.first) → Only (seen j'.first) (may_leave j'.first)
      → IsSettled seen may_leave j' × (text seen j' ≡ with_record (text seen j) r)
  more_on_first j j' r s is same_side same_second same_version same_generation rest goes_on only =
      let k = known_first j s is in
      let h = same_header (seen j.first) (seen j'.first) goes_on.same_header in
      let next = first_continues (seen j.first) (seen j.second) (records_of (seen j.first) ++ r ∷ []) (seen j'.first) k.1 k.0.begun goes_on in
      let other : seen j.second ≡ seen j'.second = ap seen (sym same_second) in (
        settled_first j' (same_side ∙ is) (subst (λ (f : List ℕ). second_counts (seen j'.first) f ≡ false) other next.0)
            (record { begun = next.1; rest = rest; version = same_version ∙ k.0.version ∙ sym h.version; generation = same_generation ∙ k.0.generation ∙ sym h.generation })
            only (subst (λ (d : D). Only (seen d) (may_leave d)) (sym same_second) s.second),
        ap (λ (f : List ℕ). standing (seen j'.first) f) (sym other) ∙ next.2 ∙ ap (λ (t : Text). with_record t r) (sym (standing_first (seen j.first) (seen j.second) k.1 k.0.begun)),
      )

  -- the second disk was read
  pub reread_second : (j : Pair D) (d : D) → IsSettled seen may_leave j → seen d ≡ seen j.second → Only (seen d) (may_leave d)
      → IsSettled seen may_leave (record { first = j.first; second = d; is_second = j.is_second; version = j.version; generation = j.generation; end = j.end })
  reread_second j d s is only =
      let same : (if j.is_second then seen d else seen j.first) ≡ counting seen j = ap (λ (x : List ℕ). if j.is_second then x else seen j.first) is in
      record {
        counts = ap (second_counts (seen j.first)) is ∙ s.counts;
        begun = ap is_begun same ∙ s.begun;
        rest = subst (IsAtRest j.end) (sym same) s.rest;
        version = s.version ∙ ap version_of (sym same);
        generation = s.generation ∙ ap generation_of (sym same);
        first = s.first;
        second = only;
      }

  -- the first disk was read
  pub reread_first : (j : Pair D) (d : D) → IsSettled seen may_leave j → seen d ≡ seen j.first → Only (seen d) (may_leave d)
      → IsSettled seen may_leave (record { first = d; second = j.second; is_second = j.is_second; version = j.version; generation = j.generation; end = j.end })
  reread_first j d s is only =
      let same : (if j.is_second then seen j.second else seen d) ≡ counting seen j = ap (λ (x : List ℕ). if j.is_second then seen j.second else x) is in
      record {
        counts = ap (λ (x : List ℕ). second_counts x (seen j.second)) is ∙ s.counts;
        begun = ap is_begun same ∙ s.begun;
        rest = subst (IsAtRest j.end) (sym same) s.rest;
        version = s.version ∙ ap version_of (sym same);
        generation = s.generation ∙ ap generation_of (sym same);
        first = only;
        second = s.second;
      }

-- where the records end, by the bytes that were written
pub grown : (r : Entry) (bytes : List ℕ) → bytes ≡ frame r ++ 0 ∷ [] → (end : ℕ) (x : List ℕ) → IsAtRest (end + (1 + length (frame r))) x → IsAtRest (end + length bytes) x
grown r bytes is end x rest =
    let size : 1 + length (frame r) ≡ length bytes = omega (arith, ap length is, length-append (frame r) (0 ∷ [])) in subst (λ (n : ℕ). IsAtRest (end + n) x) size rest
