-- A checkpoint behind a reading.
use Rattle.std.proofs.Common.{◌≡◌, ◌≤◌, ℕ, Bool, true, false, List, ◌∙◌, sym, subst, arith}
use Rattle.std.specs.Prelude.{not}
use Rattle.gs_journal_disk.specs.Disk.{LeavesPairs}
use Rattle.gs_journal.specs.Records.{Text, second_counts}
use Rattle.gs_journal.specs.Journal.{State, AreBoth, IsStillOrNext, LeavesCounting, LeavesOther, disk_of}

module _ {D : Type 0} (seen : D → List ℕ) (may_leave : D → List ℕ → Type 0) (moment : D → ℕ) (left_since : D → ℕ → List ℕ → Type 0)
    (shows : (d : D) → may_leave d (seen d)) (counts_now : (d : D) (t : ℕ) (c : List ℕ) → t ≤ moment d → may_leave d c → left_since d t c)
    (old mid new : State D) (made : Text) (reads : LeavesPairs moment left_since old.first old.second mid.first mid.second (AreBoth (seen old.first) (seen old.second)))
    (renews : LeavesPairs moment left_since mid.first mid.second new.first new.second (IsStillOrNext mid.text mid.generation made)) where
  abbrev Both : Type 0
  Both = LeavesPairs moment left_since old.first old.second new.first new.second (IsStillOrNext mid.text mid.generation made)

  now : (d : D) → left_since d (moment d) (seen d)
  now d = counts_now d (moment d) (seen d) (omega arith) (shows d)

  first_read : left_since mid.first (moment old.first) (seen mid.first)
  first_read = counts_now mid.first (moment old.first) (seen mid.first) reads.later_first (shows mid.first)

  second_read : left_since mid.second (moment old.second) (seen mid.second)
  second_read = counts_now mid.second (moment old.second) (seen mid.second) reads.later_second (shows mid.second)

  same : AreBoth (seen old.first) (seen old.second) (seen mid.first) (seen mid.second)
  same = reads.each (seen mid.first) (seen mid.second) first_read second_read

  by_counting : (is_second : Bool) → disk_of (not is_second) mid ≡ disk_of (not is_second) old → disk_of is_second new ≡ disk_of is_second mid → Both
  by_counting true other counting = record {
    later_first = omega (arith, reads.later_first, renews.later_first);
    later_second = omega (arith, reads.later_second, renews.later_second);
    each = λ a b left_a left_b.
        let b_read = subst (λ (d : D). left_since d (moment old.second) b) counting left_b in
        let b_is : b ≡ seen mid.second = (reads.each (seen mid.first) b first_read b_read).1 ∙ sym same.1 in
        subst (IsStillOrNext mid.text mid.generation made a) (sym b_is)
        (renews.each a (seen mid.second) (subst (λ (d : D). left_since new.first (moment d) a) (sym other) left_a)
        (subst (λ (d : D). left_since d (moment mid.second) (seen mid.second)) (sym counting) (now mid.second)));
  }
  by_counting false other counting = record {
    later_first = omega (arith, reads.later_first, renews.later_first);
    later_second = omega (arith, reads.later_second, renews.later_second);
    each = λ a b left_a left_b.
        let a_read = subst (λ (d : D). left_since d (moment old.first) a) counting left_a in
        let a_is : a ≡ seen mid.first = (reads.each a (seen mid.second) a_read second_read).0 ∙ sym same.0 in
        subst (λ (x : List ℕ). IsStillOrNext mid.text mid.generation made x b) (sym a_is)
        (renews.each (seen mid.first) b (subst (λ (d : D). left_since d (moment mid.first) (seen mid.first)) (sym counting) (now mid.first))
        (subst (λ (d : D). left_since new.second (moment d) b) (sym other) left_b));
  }

  pub behind_a_reading : LeavesOther seen old mid → LeavesCounting seen mid new → Both
  behind_a_reading other counting =
      by_counting (second_counts (seen old.first) (seen old.second)) other
      (subst (λ (s : Bool). disk_of s new ≡ disk_of s mid) (λ i. second_counts (same.0 i) (same.1 i)) counting)
