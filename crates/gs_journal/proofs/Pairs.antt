-- What a crash leaves of two disks while one of them changes.
use Rattle.std.proofs.Common.{◌≡◌, inl, inr, ℕ, true, false, List, [], ◌∷◌, ◌++◌, sym, ◌∙◌, ap, subst, arith}
use Rattle.gs_journal_disk.specs.Disk.{Only, LeavesPairs}
use Rattle.gs_journal_disk.specs.Stage.{LeavesOnly}
use Rattle.gs_journal.specs.Records.{Entry, Text, is_begun, records_of, second_counts, standing}
use Rattle.gs_journal.specs.inner.Rest.{IsBeforeOrAfter}
use Rattle.gs_journal.specs.Journal.{with_record, IsWithOrWithout}
use Rattle.gs_journal_disk.proofs.Moments.{Stays}
use Rattle.gs_journal.proofs.Standing.{standing_first, standing_second, first_continues, second_continues}

module _ {D : Type 0} (seen : D → List ℕ) (may_leave : D → List ℕ → Type 0) (moment : D → ℕ) (left_since : D → ℕ → List ℕ → Type 0) where
  pub only_first : (first second first' : D) (P : List ℕ → Type 0) (Q : List ℕ → List ℕ → Type 0) → Only (seen second) (may_leave second) → Stays seen may_leave moment left_since second
      → LeavesOnly moment left_since first first' P → ((c : List ℕ) → P c → Q c (seen second)) → LeavesPairs moment left_since first second first' second Q
  only_first first second first' P Q only stays leaves q = record {
    later_first = leaves.later;
    later_second = omega arith;
    each = λ a b left_a left_b. subst (Q a) (sym (only b (stays b left_b))) (q a (leaves.each a left_a));
  }

  pub only_second : (first second second' : D) (P : List ℕ → Type 0) (Q : List ℕ → List ℕ → Type 0) → Only (seen first) (may_leave first) → Stays seen may_leave moment left_since first
      → LeavesOnly moment left_since second second' P → ((c : List ℕ) → P c → Q (seen first) c) → LeavesPairs moment left_since first second first second' Q
  only_second first second second' P Q only stays leaves q = record {
    later_first = omega arith;
    later_second = leaves.later;
    each = λ a b left_a left_b. subst (λ x. Q x b) (sym (only a (stays a left_a))) (q b (leaves.each b left_b));
  }

module _ (a b : List ℕ) (r : Entry) where
  pub first_before_or_after : (c : List ℕ) → second_counts a b ≡ false → is_begun a ≡ true → IsBeforeOrAfter a r c → IsWithOrWithout (standing a b) r (standing c b)
  first_before_or_after c counts begun (inl before) = inl ((first_continues a b (records_of a) c counts begun before).2 ∙ sym (standing_first a b counts begun))
  first_before_or_after c counts begun (inr after) =
      inr ((first_continues a b (records_of a ++ r ∷ []) c counts begun after).2 ∙ ap (λ (t : Text). with_record t r) (sym (standing_first a b counts begun)))

  pub second_before_or_after : (c : List ℕ) → second_counts a b ≡ true → IsBeforeOrAfter b r c → IsWithOrWithout (standing a b) r (standing a c)
  second_before_or_after c counts (inl before) = inl ((second_continues a b (records_of b) c counts before).1 ∙ sym (standing_second a b counts))
  second_before_or_after c counts (inr after) =
      inr ((second_continues a b (records_of b ++ r ∷ []) c counts after).1 ∙ ap (λ (t : Text). with_record t r) (sym (standing_second a b counts)))

-- a call that leaves the disks alone leaves what holds of them
pub nothing_changed : {D : Type 0} (seen : D → List ℕ) (may_leave : D → List ℕ → Type 0) (moment : D → ℕ) (left_since : D → ℕ → List ℕ → Type 0) (first second : D) (Q : List ℕ → List ℕ → Type 0)
    → Only (seen first) (may_leave first) → Only (seen second) (may_leave second) → Stays seen may_leave moment left_since first → Stays seen may_leave moment left_since second
    → Q (seen first) (seen second) → LeavesPairs moment left_since first second first second Q
nothing_changed seen may_leave moment left_since first second Q only_a only_b stays_a stays_b q = record {
  later_first = omega arith;
  later_second = omega arith;
  each = λ a b left_a left_b. subst (λ (x : List ℕ). Q x b) (sym (only_a a (stays_a a left_a))) (subst (Q (seen first)) (sym (only_b b (stays_b b left_b))) q);
}
