-- What a crash leaves of two disks on which a master is opened.
use Rattle.std.specs.Prelude.{◌≡◌, ◌⊎◌, ◌+◌, ℕ, List}
use Rattle.gs_journal_disk.specs.Disk.{LeavesPairs}
use Rattle.gs_journal.specs.Journal.{MightHaveStood, checkpointed}
use Rattle.gs_journal.specs.Records.{Text, generation_standing, standing}
use Rattle.gs_journal.specs.declared.version.Version.TheVariants as versions
use Rattle.gs_master_record.specs.Plain.{PlainEntry}
use Rattle.gs_master_spec.specs.Durable.{Durable}
use Rattle.gs_master_spec.specs.Handling.{checkpoint_body}
use Rattle.gs_master.specs.Recovering.{TellsDurable, TellsStill}

-- two disks tell this, where it is of version 1 in this generation
abbrev pub IsStill : Text → ℕ → List ℕ → List ℕ → Type 0
IsStill text generation first second = (standing first second ≡ text) × (text.0 ≡ versions.One → generation_standing first second ≡ generation)

-- or in the place of a text of version 1 the checkpoint of what it comes to, in the next generation
abbrev pub IsStillOrAnew : Text → ℕ → List ℕ → List ℕ → Type 0
IsStillOrAnew text generation first second =
    IsStill text generation first second
    ⊎ ((entries : List PlainEntry) × (durable : Durable) × TellsDurable text entries durable × (text.0 ≡ versions.One)
    × (standing first second ≡ checkpointed (checkpoint_body durable)) × (generation_standing first second ≡ generation + 1))

-- A crash while two disks are opened, and are told in a text and a generation. Until the journal is open, which leaves these two, it leaves what
-- one just before might have left. From then on it leaves what they tell, or what is written anew.
pub record SurvivesOpening {D : Type 0} (may_leave : D → List ℕ → Type 0) (moment : D → ℕ) (left_since : D → ℕ → List ℕ → Type 0) (text : Text) (generation : ℕ) (old_first old_second new_first new_second : D) : Type 0 where
  pub first : D
  pub second : D
  pub opening : LeavesPairs moment left_since old_first old_second first second (λ a b. MightHaveStood (may_leave old_first) (may_leave old_second) (standing a b))
  pub recovery : LeavesPairs moment left_since first second new_first new_second (IsStillOrAnew text generation)

-- the journal isn't opened, or it is and tells no master
abbrev pub SurvivesRefusal : {D : Type 0} → (D → List ℕ → Type 0) → (D → ℕ) → (D → ℕ → List ℕ → Type 0) → Text → ℕ → D → D → D → D → Type 0
SurvivesRefusal may_leave moment left_since text generation old_first old_second new_first new_second =
    LeavesPairs moment left_since old_first old_second new_first new_second (λ a b. MightHaveStood (may_leave old_first) (may_leave old_second) (standing a b))
    ⊎ SurvivesOpening may_leave moment left_since text generation old_first old_second new_first new_second

-- what a crash might have left before, or in the place of a text of version 1 the checkpoint of that
abbrev pub MightTell : (List ℕ → Type 0) → (List ℕ → Type 0) → Text → Type 0
MightTell first second text = (old : Text) × MightHaveStood first second old × TellsStill old text
