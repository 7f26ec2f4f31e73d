-- What a crash leaves where disks are opened: in each call, and in those one after the other.
use Rattle.std.proofs.Common.{◌≡◌, ◌⊎◌, inl, inr, ◌∙◌, ◌+◌, ◌≤◌, ℕ, Bool, true, false, List, ap, arith, refl, subst, sym}
use Rattle.std.proofs.lemmas.Bool.{true≢false}
use Rattle.std.specs.Prelude.{if◌then◌else◌}
use Rattle.gs_journal_disk.specs.Disk.{LeavesPairs}
use Rattle.gs_journal.specs.Journal.{State as Journal, AreBoth, IsStillOrNext, LeavesCounting, LeavesOther, Stands, checkpointed, counting}
use Rattle.gs_journal.specs.Records.{Text, fresh, generation_of, generation_standing, is_begun, second_counts, standing, text_of}
use Rattle.gs_journal.specs.declared.version.Version.{Version}
use Rattle.gs_journal.specs.declared.version.Version.TheVariants as versions
use Rattle.gs_master_record.specs.Plain.{PlainEntry}
use Rattle.gs_master_spec.specs.Durable.{Durable}
use Rattle.gs_master_spec.specs.Handling.{checkpoint_body}
use Rattle.gs_master_spec.specs.State.{Fault, Sound, Failed, Unopened, State, is_failed}
use Rattle.gs_master.specs.Crashing.{IsStillOrAnew, MightTell}
use Rattle.gs_master.specs.Masters.{Holds, IsHeld}
use Rattle.gs_master.specs.Recovering.{IsLeft, TellsDurable}
use Rattle.gs_master.specs.inner.Renewing.{LeavesAnew}

-- where a text of version 1 stands, a disk counts
counted : (a b : List ℕ) → (standing a b).0 ≡ versions.One → generation_of (counting a b) ≡ generation_standing a b
counted a b = at (second_counts a b) (is_begun a)
  where
    at : (second first : Bool) → (if second then text_of b else (if first then text_of a else fresh)).0 ≡ versions.One →
        generation_of (if second then b else a) ≡ (if second then generation_of b else (if first then generation_of a else 1))
    at true first one = refl
    at false true one = refl
    at false false one = absurd (cc one)

-- while no disk has failed a master's journal stands, and is of version 2
pub stood : {D : Type 0} (seen : D → List ℕ) (may_leave : D → List ℕ → Type 0) (s : State) (j : Journal D) → IsHeld seen may_leave s j → is_failed s.fault ≡ false → Stands seen may_leave j × (j.text.0 ≡ versions.Two)
stood {D} seen may_leave s j held sound = by_fault s.fault held sound
  where
    by_fault : (f : Fault) → Holds seen may_leave s.durable s.log j f → is_failed f ≡ false → Stands seen may_leave j × (j.text.0 ≡ versions.Two)
    by_fault Sound is e = (is.0, ap (λ (t : Text). t.0) is.1.1.text)
    by_fault (Failed doubt) is e = absurd (true≢false e)
    by_fault (Unopened doubt) is e = absurd (true≢false e)

module _ {D : Type 0} (moment : D → ℕ) (left_since : D → ℕ → List ℕ → Type 0) where
  abbrev Leaves : D → D → D → D → (List ℕ → List ℕ → Type 0) → Type 0
  Leaves = LeavesPairs moment left_since

  weaker : (a b c d : D) (P Q : List ℕ → List ℕ → Type 0) → ((x y : List ℕ) → P x y → Q x y) → Leaves a b c d P → Leaves a b c d Q
  weaker a b c d P Q so is = record { later_first = is.later_first; later_second = is.later_second; each = λ x y l r. so x y (is.each x y l r) }

  -- a crash leaves what is told of the same text and generation
  pub of_same : (t u : Text) (m n : ℕ) (a b c d : D) → t ≡ u → m ≡ n → Leaves a b c d (IsStillOrAnew t m) → Leaves a b c d (IsStillOrAnew u n)
  of_same t u m n a b c d p q is = subst (λ n. Leaves a b c d (IsStillOrAnew u n)) q (subst (λ t. Leaves a b c d (IsStillOrAnew t m)) p is)

  -- and of disks that are handed back
  pub handed_back : (a b c d e f : D) (P : List ℕ → List ℕ → Type 0) → e ≡ c → f ≡ d → Leaves a b c d P → Leaves a b e f P
  handed_back a b c d e f P p q is = subst (λ f. Leaves a b e f P) (sym q) (subst (λ e. Leaves a b e d P) (sym p) is)

  -- a crash behind a call leaves what one in it might leave
  behind : (may_leave : D → List ℕ → Type 0) → ((disk : D) (t : ℕ) (c : List ℕ) → t ≤ moment disk → may_leave disk c → left_since disk t c) → (a b c d : D) (P : List ℕ → List ℕ → Type 0) → Leaves a b c d P →
      (x y : List ℕ) → may_leave c x → may_leave d y → P x y
  behind may_leave counts_now a b c d P is x y l r = is.each x y (counts_now c (moment a) x is.later_first l) (counts_now d (moment b) y is.later_second r)

  -- so it does behind an opening that was refused once the journal was open
  pub might_tell : (seen : D → List ℕ) (may_leave : D → List ℕ → Type 0) → ((disk : D) → may_leave disk (seen disk)) → ((disk : D) (t : ℕ) (c : List ℕ) → t ≤ moment disk → may_leave disk c → left_since disk t c) →
      (first second a b c d : D) (generation : ℕ) → Leaves a b c d (IsStillOrAnew (standing (seen first) (seen second)) generation) → (x y : List ℕ) → may_leave c x → may_leave d y → MightTell (may_leave first) (may_leave second) (standing x y)
  might_tell seen may_leave shows counts_now first second a b c d generation is x y l r = (
    standing (seen first) (seen second),
    (seen first, seen second, shows first, shows second, refl),
    elim (behind may_leave counts_now a b c d (IsStillOrAnew (standing (seen first) (seen second)) generation) is x y l r) [
      | inl still ↦ inl still.0
      | inr (entries, durable, tells, one, anew, next) ↦ inr (entries, durable, tells, one, anew)
    ],
  )

  module _ (seen : D → List ℕ) where
    -- a checkpoint that is written behind no records
    pub leaves_anew : (durable : Durable) (body : List ℕ) (old mid new : Journal D) → body ≡ checkpoint_body durable → mid ≡ old → old.is_failed ≡ false →
        (mid.is_failed ≡ false → Leaves mid.first mid.second new.first new.second (IsStillOrNext mid.text mid.generation (checkpointed body))) → LeavesCounting seen mid new → LeavesAnew seen moment left_since durable old new
    leaves_anew durable body old mid new same still is_open next counting =
        let leaves = subst (λ body. Leaves mid.first mid.second new.first new.second (IsStillOrNext mid.text mid.generation (checkpointed body))) same (next (ap (λ (j : Journal D). j.is_failed) still ∙ is_open)) in
        inr (
          subst (λ (j : Journal D). Leaves j.first j.second new.first new.second (IsStillOrNext j.text j.generation (checkpointed (checkpoint_body durable)))) still leaves,
          subst (λ (j : Journal D). LeavesCounting seen j new) still counting,
        )

    -- the records are read
    pub still_read : (may_leave : D → List ℕ → Type 0) (old new : Journal D) → Stands seen may_leave old → Leaves old.first old.second new.first new.second (λ a b. standing a b ≡ old.text) →
        Leaves old.first old.second new.first new.second (AreBoth (seen old.first) (seen old.second)) → Leaves old.first old.second new.first new.second (IsStillOrAnew old.text old.generation)
    still_read may_leave old new stands text whole = record {
      later_first = text.later_first;
      later_second = text.later_second;
      each = λ a b l r. inl (
        text.each a b l r,
        λ one.
            let both = whole.each a b l r in
            (λ i. generation_standing (both.0 i) (both.1 i)) ∙ sym (counted (seen old.first) (seen old.second) (ap (λ (t : Text). t.0) stands.text ∙ one)) ∙ stands.generation,
      );
    }

    -- a reading and a checkpoint behind it
    abbrev pub BothWhole : Type 0
    BothWhole = (old mid new : Journal D) (made : Text) → Leaves old.first old.second mid.first mid.second (AreBoth (seen old.first) (seen old.second)) → LeavesOther seen old mid →
        Leaves mid.first mid.second new.first new.second (IsStillOrNext mid.text mid.generation made) → LeavesCounting seen mid new → Leaves old.first old.second new.first new.second (IsStillOrNext mid.text mid.generation made)

    module _ (both : BothWhole) (old mid new : Journal D) (is : Leaves old.first old.second mid.first mid.second (IsStillOrAnew old.text old.generation)) (whole : Leaves old.first old.second mid.first mid.second (AreBoth (seen old.first) (seen old.second))) (other : LeavesOther seen old mid) where
      read_alone : new ≡ mid → Leaves old.first old.second new.first new.second (IsStillOrAnew old.text old.generation)
      read_alone same = subst (λ (j : Journal D). Leaves old.first old.second j.first j.second (IsStillOrAnew old.text old.generation)) (sym same) is

      -- and then what they tell may be written anew
      pub read_and_written : (entries : List PlainEntry) (d durable : Durable) (version : Version) → mid.text ≡ old.text → mid.generation ≡ old.generation → TellsDurable old.text entries d → durable ≡ d → version ≡ old.text.0 →
          ((new ≡ mid) ⊎ ((version ≡ versions.One) × LeavesAnew seen moment left_since durable mid new)) → Leaves old.first old.second new.first new.second (IsStillOrAnew old.text old.generation)
      read_and_written entries d durable version text generation tells told v (inl same) = read_alone same
      read_and_written entries d durable version text generation tells told v (inr (one, inl same)) = read_alone same
      read_and_written entries d durable version text generation tells told v (inr (one, inr (leaves, counting))) =
          let made = checkpointed (checkpoint_body durable) in
          weaker old.first old.second new.first new.second (IsStillOrNext mid.text mid.generation made) (IsStillOrAnew old.text old.generation) (λ x y either. elim either [
            | inl still ↦ inl (still.0 ∙ text, λ _. still.1 ∙ generation)
            | inr next ↦ inr (entries, d, tells, sym v ∙ one, next.0 ∙ ap (λ d. checkpointed (checkpoint_body d)) told, next.1 ∙ ap (λ n. n + 1) generation)
          ]) (both old mid new made whole other leaves counting)

-- what was opened stands
pub stands_left : {D : Type 0} (seen : D → List ℕ) (may_leave : D → List ℕ → Type 0) (failures : D → ℕ) (v : Version) (d : Durable) (j k : Journal D) → IsLeft seen may_leave failures v d j k → Stands seen may_leave k
stands_left seen may_leave failures versions.One d j k is = is.stands
stands_left seen may_leave failures versions.Two d j k is = is.1.0
