-- Records that are appended to a journal one after the other.
use Rattle.std.proofs.Common.{◌≡◌, ◌⊎◌, inl, inr, ◌∙◌, ◌+◌, ◌≤◌, ◌<◌, ℕ, true, List, [], ◌∷◌, ◌++◌, length, take, get_or, ap, subst, sym, arith, append_assoc}
use Rattle.std.specs.Prelude.{Some, None, nat_le, sum_by, if◌then◌else◌}
use Rattle.std.proofs.lemmas.Bool.Decides.{nat_tests}
use Rattle.std.proofs.lemmas.List.Sums.{sum_by-append, sum_by_more_le}
use Rattle.gs_base.specs.declared.refusal.Refusal.{Refusal}
use Rattle.gs_base.specs.declared.refusal.Refusal.TheVariants.{Device, Full}
use Rattle.gs_journal_disk.specs.Disk.{LeavesPairs}
use Rattle.gs_journal.specs.Journal.{State as Journal, Adds, Closes, IsWithOrWithout, Stands, append_refusal, failures_of_both, record_size}
use Rattle.gs_journal.specs.Records.{Entry, Text}
use Rattle.gs_master.specs.Journaled.{Breaks, Gains, IsReadyFor, StandUpTo, text_seen}
use Rattle.gs_master_state.proofs.Rooms.{take_next}

-- what the disks are seen to say behind a call is one of the things that a crash in it leaves
pub seen_behind : {D : Type 0} (seen : D → List ℕ) (may_leave : D → List ℕ → Type 0) (moment : D → ℕ) (left_since : D → ℕ → List ℕ → Type 0) (old new : Journal D) (P : List ℕ → List ℕ → Type 0) →
    ((d : D) → may_leave d (seen d)) → ((d : D) (t : ℕ) (c : List ℕ) → t ≤ moment d → may_leave d c → left_since d t c) →
    LeavesPairs moment left_since old.first old.second new.first new.second P → P (seen new.first) (seen new.second)
seen_behind seen may_leave moment left_since old new P shows counts_now leaves =
    leaves.each (seen new.first) (seen new.second) (counts_now new.first (moment old.first) (seen new.first) leaves.later_first (shows new.first))
    (counts_now new.second (moment old.second) (seen new.second) leaves.later_second (shows new.second))

pub none_there : (rs : List Entry) (i : ℕ) → rs ≡ [] → i < length rs → ⊥
none_there rs i none below = let empty = ap length none in omega arith

module _ {D : Type 0} (seen : D → List ℕ) (may_leave : D → List ℕ → Type 0) (failures : D → ℕ) where
  pub gains_one : (old mid new : Journal D) (rs : List Entry) (i : ℕ) (r : Entry) → i < length rs → r ≡ get_or rs i r → Gains seen may_leave failures old (take i rs) mid →
      Adds mid r new → Stands seen may_leave new → failures_of_both failures new ≡ failures_of_both failures mid → Gains seen may_leave failures old (take (i + 1) rs) new
  gains_one old mid new rs i r below is gains adds stands quiet = record {
    text = adds.text ∙ (λ k. ((gains.text k).0, (gains.text k).1 ++ r ∷ [])) ∙ (λ k. (old.text.0, (append_assoc old.text.1 (take i rs) (r ∷ []) ∙ ap (λ xs. old.text.1 ++ xs) (sym more)) k));
    size = adds.size ∙ ap (λ n. n + record_size r) gains.size ∙ bytes;
    limit = adds.limit ∙ gains.limit;
    generation = adds.generation ∙ gains.generation;
    is_open = stands.is_open;
    quiet = quiet ∙ gains.quiet;
    stands = λ before. stands;
  }
    where
      more : take (i + 1) rs ≡ take i rs ++ r ∷ []
      more = take_next rs i r below is

      bytes : old.size + sum_by record_size (take i rs) + record_size r ≡ old.size + sum_by record_size (take (i + 1) rs)
      bytes = let all = ap (sum_by record_size) more ∙ sum_by-append record_size (take i rs) (r ∷ []) in omega arith

  -- where there is room for all there is for the next
  pub not_refused : (old mid : Journal D) (rs : List Entry) (i : ℕ) (r : Entry) → i < length rs → r ≡ get_or rs i r → IsReadyFor old rs → Gains seen may_leave failures old (take i rs) mid → append_refusal mid r ≡ None
  not_refused old mid rs i r below is ready gains =
      ap (λ b. if b then Some Device else (if nat_le (mid.size + record_size r) mid.limit then None else Some Full)) gains.is_open
      ∙ ap (λ b. if b then None else Some Full) (fits ready.room)
    where
      fits : (rs ≡ []) ⊎ (old.size + sum_by record_size rs ≤ old.limit) → nat_le (mid.size + record_size r) mid.limit ≡ true
      fits (inl none) = let empty = ap length none in absurd (omega arith)
      fits (inr room) =
          let upto = subst (λ x. sum_by record_size (take i rs) + record_size x ≤ sum_by record_size rs) (sym is) (sum_by_more_le record_size rs i r below) in
          let size = gains.size in
          let limit = gains.limit in
          grind (arith, nat_tests)

  up_to : (old mid : Journal D) (rs : List Entry) (i : ℕ) (r : Entry) (text : Text) → i < length rs → r ≡ get_or rs i r → Gains seen may_leave failures old (take i rs) mid → IsWithOrWithout mid.text r text → StandUpTo rs i old.text text
  up_to old mid rs i r text below is gains (inl without) = inl (without ∙ gains.text)
  up_to old mid rs i r text below is gains (inr with) =
      inr (with ∙ (λ k. ((gains.text k).0, (gains.text k).1 ++ r ∷ [])) ∙ (λ k. (old.text.0, (append_assoc old.text.1 (take i rs) (r ∷ []) ∙ ap (λ xs. old.text.1 ++ xs) (sym (take_next rs i r below is))) k)))

  pub breaks : (old mid new : Journal D) (rs : List Entry) (i : ℕ) (r : Entry) (e : Refusal) → i < length rs → r ≡ get_or rs i r → IsReadyFor old rs → Gains seen may_leave failures old (take i rs) mid →
      (append_refusal mid r ≡ None → Closes failures mid new e) → IsWithOrWithout mid.text r new.text → IsWithOrWithout mid.text r (text_seen seen new) → Breaks seen failures old rs i new
  breaks old mid new rs i r e below is ready gains closes either shown =
      let closed = closes (not_refused old mid rs i r below is ready gains) in record {
        cause = subst (λ n. n < failures_of_both failures new) gains.quiet closed.cause;
        closed = closed.closed;
        text = up_to old mid rs i r new.text below is gains either;
        shown = up_to old mid rs i r (text_seen seen new) below is gains shown;
      }
