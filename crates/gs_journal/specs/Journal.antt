-- What a journal is, what its calls answer, and what a crash in one of them leaves.
use Rattle.std.specs.Prelude.{◌≡◌, ◌⊎◌, ◌+◌, ◌-◌, ◌^◌, ◌<◌, ◌≤◌, ◌++◌, ◌==◌, ℕ, Bool, not, true, false, nat_le, if◌then◌else◌, Option, Some, None, List, [], ◌∷◌, length, sum_by, refl}
use Rattle.gs_base.specs.declared.refusal.Refusal.{Refusal}
use Rattle.gs_base.specs.declared.refusal.Refusal.TheVariants.{BadLine, Device, Exhausted, Full, Memory}
use Rattle.gs_journal.specs.Records.{Entry, Text, header_length, generation_of, generation_standing, second_counts, standing}
use Rattle.gs_journal.specs.Forms.{is_text}
use Rattle.gs_journal.specs.Bodies.{is_of_form}
use Rattle.gs_journal.specs.declared.version.Version.TheVariants.{Two}

-- A journal: what its disks say, how many bytes the disk that counts has and how many it may have, its generation, whether
-- a disk has failed since the journal was opened, and the disks.
pub record State (D : Type 0) : Type 0 where
  pub text : Text
  pub size : ℕ
  pub limit : ℕ
  pub generation : ℕ
  pub is_failed : Bool
  pub first : D
  pub second : D

-- the one of two disks' bytes that counts
abbrev pub counting : List ℕ → List ℕ → List ℕ
counting first second = if second_counts first second then second else first

-- how many bytes a record takes: a gate, four for the length of the body, the kind, and the body
abbrev pub record_size : Entry → ℕ
record_size r = 6 + length r.1

-- how many the disk that counts has where this is said: a header, the records, and a closed gate
abbrev pub text_size : Text → ℕ
text_size t = header_length + sum_by record_size t.1 + 1

-- What holds of a journal while no disk has failed: it is as its disks are, it has no more bytes than what it says takes, and each crash leaves
-- what it says.
pub record Stands {D : Type 0} (seen : D → List ℕ) (may_leave : D → List ℕ → Type 0) (j : State D) : Type 0 where
  pub is_open : j.is_failed ≡ false
  pub text : standing (seen j.first) (seen j.second) ≡ j.text
  pub size : length (counting (seen j.first) (seen j.second)) ≡ j.size
  pub generation : generation_of (counting (seen j.first) (seen j.second)) ≡ j.generation
  pub whole : j.size ≡ text_size j.text
  pub lasts : (a b : List ℕ) → may_leave j.first a → may_leave j.second b → standing a b ≡ j.text

abbrev pub failures_of_both : {D : Type 0} → (D → ℕ) → State D → ℕ
failures_of_both failures j = failures j.first + failures j.second

-- how many a disk takes with one checkpoint: a header, the record, and a closed gate
abbrev pub checkpoint_size : List ℕ → ℕ
checkpoint_size body = header_length + record_size (9, body) + 1

-- the last generation that there is
abbrev pub last_generation : ℕ
last_generation = 2 ^ 64 - 1

-- Why a record isn't added, as far as that is known before a disk is touched: a disk has failed, or else the limit would be
-- passed.
abbrev pub append_refusal : {D : Type 0} → State D → Entry → Option Refusal
append_refusal j r = if j.is_failed then Some Device else if nat_le (j.size + record_size r) j.limit then None else Some Full

-- Why a checkpoint isn't made: a disk has failed, or else there is no further generation, or else the limit would be passed.
abbrev pub checkpoint_refusal : {D : Type 0} → State D → List ℕ → Option Refusal
checkpoint_refusal j body =
    if j.is_failed then Some Device else
    if j.generation == last_generation then Some Exhausted else
    if nat_le (checkpoint_size body) j.limit then None else Some Full

-- journals without disks, for the rows below
abbrev empty : Bool → ℕ → ℕ → State Bool
empty is_failed generation limit =
    record { text = (Two, []); size = 14; limit = limit; generation = generation; is_failed = is_failed; first = true; second = true }

-- a record of 3 bytes takes 9
append_refusal-fits : append_refusal (empty false 1 23) (6, 0 ∷ 0 ∷ 2 ∷ []) ≡ None
append_refusal-fits = refl

append_refusal-full : append_refusal (empty false 1 22) (6, 0 ∷ 0 ∷ 2 ∷ []) ≡ Some Full
append_refusal-full = refl

append_refusal-failed : append_refusal (empty true 1 22) (6, 0 ∷ 0 ∷ 2 ∷ []) ≡ Some Device
append_refusal-failed = refl

checkpoint_refusal-fits : checkpoint_refusal (empty false 1 20) [] ≡ None
checkpoint_refusal-fits = refl

checkpoint_refusal-full : checkpoint_refusal (empty false 1 19) [] ≡ Some Full
checkpoint_refusal-full = refl

checkpoint_refusal-exhausted : checkpoint_refusal (empty false last_generation 19) [] ≡ Some Exhausted
checkpoint_refusal-exhausted = refl

checkpoint_refusal-failed : checkpoint_refusal (empty true last_generation 19) [] ≡ Some Device
checkpoint_refusal-failed = refl

abbrev pub with_record : Text → Entry → Text
with_record t r = (t.0, t.1 ++ r ∷ [])

-- the checkpoint alone, in the second version
abbrev pub checkpointed : List ℕ → Text
checkpointed body = (Two, (9, body) ∷ [])

-- the journal has one record more, and its length is within the limit
pub record Adds {D : Type 0} (old : State D) (r : Entry) (new : State D) : Type 0 where
  pub text : new.text ≡ with_record old.text r
  pub size : new.size ≡ old.size + record_size r
  pub fits : new.size ≤ new.limit
  pub limit : new.limit ≡ old.limit
  pub generation : new.generation ≡ old.generation

-- the journal has the checkpoint alone, on the disk of the next generation, and its length is within the limit
pub record MakesCheckpoint {D : Type 0} (old : State D) (body : List ℕ) (new : State D) : Type 0 where
  pub text : new.text ≡ checkpointed body
  pub size : new.size ≡ checkpoint_size body
  pub fits : new.size ≤ new.limit
  pub limit : new.limit ≡ old.limit
  pub generation : new.generation ≡ old.generation + 1

-- a disk has failed in the call, and the journal is closed from then on
pub record Closes {D : Type 0} (failures : D → ℕ) (old new : State D) (e : Refusal) : Type 0 where
  pub refusal : e ≡ Device
  pub cause : failures_of_both failures old < failures_of_both failures new
  pub closed : new.is_failed ≡ true
  pub limit : new.limit ≡ old.limit

-- nothing that the journal says of itself is another than before
pub record Stays {D : Type 0} (old new : State D) : Type 0 where
  pub text : new.text ≡ old.text
  pub size : new.size ≡ old.size
  pub limit : new.limit ≡ old.limit
  pub generation : new.generation ≡ old.generation

-- memory was refused, and the journal is open still
pub record Wants {D : Type 0} (failures : D → ℕ) (old new : State D) (e : Refusal) : Type 0 where
  pub refusal : e ≡ Memory
  pub no_cause : failures_of_both failures new ≡ failures_of_both failures old
  pub is_open : new.is_failed ≡ false

-- the records from before a call, or those with the one that it adds
abbrev pub IsWithOrWithout : Text → Entry → Text → Type 0
IsWithOrWithout old r t = (t ≡ old) ⊎ (t ≡ with_record old r)

-- the text from before a call, or the one that it makes
abbrev pub IsOldOrNew : Text → Text → Text → Type 0
IsOldOrNew old new t = (t ≡ old) ⊎ (t ≡ new)

-- what a checkpoint leaves is of the form that an opening reads, where what stood and what it writes are
abbrev pub CheckpointsAreReadAgain : Type 0
CheckpointsAreReadAgain = (old : Text) (body : List ℕ) (left : Text) → is_text old ≡ true → is_of_form Two true (9, body) ≡ true → IsOldOrNew old (checkpointed body) left
    → is_text left ≡ true

-- the bytes of two disks are these
abbrev pub AreBoth : List ℕ → List ℕ → List ℕ → List ℕ → Type 0
AreBoth first second a b = (a ≡ first) × (b ≡ second)

-- what two disks say: the text from before a call, with the generation of then, or the one that it makes, with the next
abbrev pub IsStillOrNext : Text → ℕ → Text → List ℕ → List ℕ → Type 0
IsStillOrNext old generation new first second =
    ((standing first second ≡ old) × (generation_standing first second ≡ generation))
    ⊎ ((standing first second ≡ new) × (generation_standing first second ≡ generation + 1))

-- the first disk of a journal, or the second
abbrev pub disk_of : {D : Type 0} → Bool → State D → D
disk_of is_second j = if is_second then j.second else j.first

-- The call leaves the disk that doesn't count, to the last of what is known of it: only the other one takes part. So a
-- crash in it finds that disk as the calls before have left it.
abbrev pub LeavesOther : {D : Type 0} → (D → List ℕ) → State D → State D → Type 0
LeavesOther seen old new =
    let other = not (second_counts (seen old.first) (seen old.second)) in disk_of other new ≡ disk_of other old

-- the call leaves the disk that counted before it
abbrev pub LeavesCounting : {D : Type 0} → (D → List ℕ) → State D → State D → Type 0
LeavesCounting seen old new =
    let counts = second_counts (seen old.first) (seen old.second) in disk_of counts new ≡ disk_of counts old

-- Why disks aren't opened: no call of a disk failed and a record isn't of its form; or a disk failed; or memory was refused.
abbrev pub WhyClosed : Text → ℕ → ℕ → Refusal → Type 0
WhyClosed text before now e =
    ((e ≡ BadLine) × (is_text text ≡ false) × (now ≡ before)) ⊎ (((e ≡ Device) × (before < now)) ⊎ ((e ≡ Memory) × (now ≡ before)))

-- what two disks say that a crash might have left before
abbrev pub MightHaveStood : (List ℕ → Type 0) → (List ℕ → Type 0) → Text → Type 0
MightHaveStood first second text = (a : List ℕ) × (b : List ℕ) × first a × second b × (text ≡ standing a b)

-- one record of 3 bytes behind the header
a_text_of_one_record : text_size (Two, (6, 0 ∷ 0 ∷ 2 ∷ []) ∷ []) ≡ 23
a_text_of_one_record = refl

a_new_journal : text_size (Two, []) ≡ 14
a_new_journal = refl
