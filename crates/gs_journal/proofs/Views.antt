-- What contracts see of a journal, by its disks.
use Rattle.std.proofs.Common.{◌≡◌, inl, inr, ℕ, ◌+◌, ◌-◌, ◌≤◌, Bool, true, false, refl, Option, Some, None, Result, Ok, List, [], ◌∷◌, ◌++◌, length, sym, ◌∙◌, ap, subst, arith, length-append}
use Rattle.std.specs.Prelude.{if◌then◌else◌, nat_le, IfSome, OnOk}
use Rattle.std.proofs.lemmas.Bool.{cond-true}
use Rattle.std.proofs.lemmas.Bool.Decides.{nat_tests}
use Rattle.gs_base.specs.declared.refusal.Refusal.{Refusal}
use Rattle.gs_base.specs.declared.refusal.Refusal.TheVariants.{Device, Full}
use Rattle.gs_journal_disk.specs.Disk.{LeavesPairs}
use Rattle.gs_journal.specs.Records.{Entry, Text, frame, generation_of, generation_standing, second_counts, standing}
use Rattle.gs_journal.specs.Journal.{State, Stands, AreBoth, IsOldOrNew, IsStillOrNext, record_size, append_refusal, text_size}
use Rattle.gs_journal.specs.inner.Pair.{text, counting, IsSettled}
use Rattle.gs_journal.specs.declared.pair.Pair.{Pair}
use Rattle.gs_journal.proofs.Complete.{at_rest_size}
use Rattle.gs_journal_disk.proofs.Moments.{Stays}
use Rattle.gs_journal.proofs.Pairs.{nothing_changed}
use Rattle.gs_journal.proofs.Standing.{generation_counts, text_counts}

module _ {D : Type 0} (seen : D → List ℕ) (may_leave : D → List ℕ → Type 0) where
  abbrev pub state_of : Pair D → ℕ → Bool → State D
  state_of p limit is_failed =
      record { text = text seen p; size = p.end + 1; limit = limit; generation = p.generation; is_failed = is_failed; first = p.first; second = p.second }

  -- what each crash leaves of disks that are settled
  pub lasts : (p : Pair D) → IsSettled seen may_leave p → (a b : List ℕ) → may_leave p.first a → may_leave p.second b → standing a b ≡ text seen p
  lasts p s a b left_a left_b = ap (λ (x : List ℕ). standing x b) (s.first a left_a) ∙ ap (standing (seen p.first)) (s.second b left_b)

  pub stands : (p : Pair D) (limit : ℕ) (is_failed : Bool) → is_failed ≡ false → IsSettled seen may_leave p → Stands seen may_leave (state_of p limit is_failed)
  stands p limit is_failed is_open s =
      let same : (if second_counts (seen p.first) (seen p.second) then seen p.second else seen p.first) ≡ counting seen p =
      ap (λ (b : Bool). if b then seen p.second else seen p.first) s.counts in record {
        is_open = is_open;
        text = refl;
        size = ap length same ∙ s.rest.length;
        generation = ap generation_of same ∙ sym s.generation;
        whole = at_rest_size p.end (counting seen p) s.rest ∙ ap text_size (sym (text_counts (seen p.first) (seen p.second) p.is_second s.counts s.begun));
        lasts = lasts p s;
      }

module _ {D : Type 0} (seen : D → List ℕ) (may_leave : D → List ℕ → Type 0) (moment : D → ℕ) (left_since : D → ℕ → List ℕ → Type 0) where
  -- what a call leaves, by the value that contracts see
  pub moved : (p : Pair D) (limit : ℕ) (is_failed : Bool) (v : State D) (Q : Text → List ℕ → List ℕ → Type 0) (a b : D) → state_of seen may_leave p limit is_failed ≡ v
      → LeavesPairs moment left_since p.first p.second a b (Q (text seen p)) → LeavesPairs moment left_since v.first v.second a b (Q v.text)
  moved p limit is_failed v Q a b is leaves = subst (λ (w : State D). LeavesPairs moment left_since w.first w.second a b (Q w.text)) is leaves

  -- a call that does nothing
  pub unmoved : (p : Pair D) (limit : ℕ) (is_failed : Bool) (v : State D) (Q : Text → List ℕ → List ℕ → Type 0) → state_of seen may_leave p limit is_failed ≡ v → IsSettled seen may_leave p
      → ((d : D) → Stays seen may_leave moment left_since d) → Q (text seen p) (seen p.first) (seen p.second) → LeavesPairs moment left_since v.first v.second v.first v.second (Q v.text)
  unmoved p limit is_failed v Q is s stays q =
      subst (λ (w : State D). LeavesPairs moment left_since w.first w.second w.first w.second (Q w.text)) is
      (nothing_changed seen may_leave moment left_since p.first p.second (Q (text seen p)) s.first s.second (stays p.first) (stays p.second) q)

  -- a reading leaves what was there
  pub moved_as_seen : (p : Pair D) (limit : ℕ) (is_failed : Bool) (v : State D) (a b : D) → state_of seen may_leave p limit is_failed ≡ v
      → LeavesPairs moment left_since p.first p.second a b (AreBoth (seen p.first) (seen p.second)) → LeavesPairs moment left_since v.first v.second a b (AreBoth (seen v.first) (seen v.second))
  moved_as_seen p limit is_failed v a b is leaves = subst (λ (w : State D). LeavesPairs moment left_since w.first w.second a b (AreBoth (seen w.first) (seen w.second))) is leaves

  pub same_text : (first second a b : D) → LeavesPairs moment left_since first second a b (AreBoth (seen first) (seen second))
      → LeavesPairs moment left_since first second a b (λ x y. standing x y ≡ standing (seen first) (seen second))
  same_text first second a b leaves = record {
    later_first = leaves.later_first;
    later_second = leaves.later_second;
    each = λ x y left_x left_y. let is = leaves.each x y left_x left_y in λ i. standing (is.0 i) (is.1 i);
  }

  -- the same with the generation
  pub moved_on : (p : Pair D) (limit : ℕ) (is_failed : Bool) (v : State D) (new : Text) (a b : D) → state_of seen may_leave p limit is_failed ≡ v
      → LeavesPairs moment left_since p.first p.second a b (IsStillOrNext (text seen p) p.generation new) → LeavesPairs moment left_since v.first v.second a b (IsStillOrNext v.text v.generation new)
  moved_on p limit is_failed v new a b is leaves = subst (λ (w : State D). LeavesPairs moment left_since w.first w.second a b (IsStillOrNext w.text w.generation new)) is leaves

  pub still_there : (p : Pair D) (limit : ℕ) (is_failed : Bool) (v : State D) (new : Text) → state_of seen may_leave p limit is_failed ≡ v → IsSettled seen may_leave p
      → ((d : D) → Stays seen may_leave moment left_since d) → LeavesPairs moment left_since v.first v.second v.first v.second (IsStillOrNext v.text v.generation new)
  still_there p limit is_failed v new is s stays =
      let same : generation_standing (seen p.first) (seen p.second) ≡ p.generation = generation_counts (seen p.first) (seen p.second) p.is_second s.counts s.begun ∙ sym s.generation in
      subst (λ (w : State D). LeavesPairs moment left_since w.first w.second w.first w.second (IsStillOrNext w.text w.generation new)) is
      (nothing_changed seen may_leave moment left_since p.first p.second (IsStillOrNext (text seen p) p.generation new) s.first s.second (stays p.first) (stays p.second) (inl (refl, same)))

  -- the text alone
  pub old_or_new : (first second a b : D) (old new : Text) (generation : ℕ) → LeavesPairs moment left_since first second a b (IsStillOrNext old generation new)
      → LeavesPairs moment left_since first second a b (λ x y. IsOldOrNew old new (standing x y))
  old_or_new first second a b old new generation leaves = record {
    later_first = leaves.later_first;
    later_second = leaves.later_second;
    each = λ x y left_x left_y. text_alone x y (leaves.each x y left_x left_y);
  }
    where
      text_alone : (x y : List ℕ) → IsStillOrNext old generation new x y → IsOldOrNew old new (standing x y)
      text_alone x y (inl still) = inl still.0
      text_alone x y (inr next) = inr next.0

  -- what the disks say behind a call is one of the things that a crash in it leaves
  pub comes_about : (first second a b : D) (Q : List ℕ → List ℕ → Type 0) → ((d : D) → may_leave d (seen d)) → ((d : D) (t : ℕ) (c : List ℕ) → t ≤ moment d → may_leave d c → left_since d t c)
      → LeavesPairs moment left_since first second a b Q → Q (seen a) (seen b)
  comes_about first second a b Q shows counts_now leaves =
      leaves.each (seen a) (seen b) (counts_now a (moment first) (seen a) leaves.later_first (shows a)) (counts_now b (moment second) (seen b) leaves.later_second (shows b))

  -- and so is what a crash leaves behind the call
  pub left_behind : (first second a b : D) (Q : List ℕ → List ℕ → Type 0) → ((d : D) (t : ℕ) (c : List ℕ) → t ≤ moment d → may_leave d c → left_since d t c)
      → LeavesPairs moment left_since first second a b Q → (x y : List ℕ) → may_leave a x → may_leave b y → Q x y
  left_behind first second a b Q counts_now leaves x y left_x left_y =
      leaves.each x y (counts_now a (moment first) x leaves.later_first left_x) (counts_now b (moment second) y leaves.later_second left_y)

-- the tests of an append
module _ {D : Type 0} (j : State D) (r : Entry) where
  pub append_none : j.is_failed ≡ false → j.size + record_size r ≤ j.limit → append_refusal j r ≡ None
  append_none is_open fits =
      ap (λ (b : Bool). if b then Some Device else if nat_le (j.size + record_size r) j.limit then None else Some Full) is_open
      ∙ cond-true (nat_le (j.size + record_size r) j.limit) None (Some Full) (grind (arith, nat_tests))

  pub unjudged : (P : Refusal → Type 0) → append_refusal j r ≡ None → IfSome (append_refusal j r) P
  unjudged P none = subst (λ (o : Option Refusal). IfSome o P) (sym none) tt

  pub room_fits : (room : ℕ) (bytes : List ℕ) → bytes ≡ frame r ++ 0 ∷ [] → room ≡ j.limit - j.size → nat_le (length bytes) room ≡ true → j.size + record_size r ≤ j.limit
  room_fits room bytes is left fits = let within : length bytes ≤ room = grind (arith, fits, nat_tests) in omega (arith, ap length is, length-append (frame r) (0 ∷ []), left, within)

-- what holds of a result that is known
pub on_ok : {T E : Type 0} (P : Type 0) (r : Result T E) (x : T) → r ≡ Ok x → OnOk r P → P
on_ok P r x is on = subst (λ (s : Result _ _). OnOk s P) is on
