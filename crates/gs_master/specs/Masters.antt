-- The master with its journal, and what it answers.
use Rattle.std.specs.Prelude.{◌≡◌, ◌⊎◌, ◌<◌, ◌+◌, ◌++◌, ◌∷◌, ℕ, true, false, List, [], map, take, Option, Some, None, Result, Ok, Err}
use Rattle.std.specs.List.{AllByRecursion}
use Rattle.gs_base.specs.declared.config.Config.{Config}
use Rattle.gs_base.specs.declared.numbers.ReqId.{ReqId}
use Rattle.gs_base.specs.declared.refusal.Refusal.{Refusal}
use Rattle.gs_base.specs.declared.refusal.Refusal.TheVariants as refusals
use Rattle.gs_journal.specs.Journal.{State as Journal, Stands, failures_of_both}
use Rattle.gs_journal.specs.Records.{Entry as Record, Text}
use Rattle.gs_journal.specs.declared.version.Version.TheVariants.{Two}
use Rattle.gs_master_record.specs.Encoding.{encoded}
use Rattle.gs_master_record.specs.Plain.{PlainEntry, Whole}
use Rattle.gs_master_record.specs.Writable.{IsEntry}
use Rattle.gs_master_spec.specs.Applied.{applied, replayed}
use Rattle.gs_master_spec.specs.Durable.{Durable, start}
use Rattle.gs_master_spec.specs.Handling.{checkpoint_body, tidied}
use Rattle.gs_master.specs.Journaled.{IsAsSeen, IsLogOf, text_seen}
use Rattle.gs_master_spec.specs.Outcomes.{IsCut, IsDone}
use Rattle.gs_master_spec.specs.State.{Fault, Sound, Failed, Unopened, Log, State, Turn, fits, is_failed}
use Rattle.gs_master_spec.specs.Whole.{checkpoint_of}
use Rattle.gs_master.specs.declared.turn.Turn.{Turn as Told}

pub record MasterOf (D : Type 0) : Type 0 where
  pub config : Config
  pub state : State
  pub journal : Journal D

abbrev pub with_journal : {D : Type 0} → MasterOf D → Journal D → MasterOf D
with_journal m j = record m { journal = j }

-- ---- what the journal tells

-- a journal begins with nothing, or with the checkpoint of what stood, which tells all but the chunks that no file has or had
abbrev pub Begins : List Record → Durable → Type 0
Begins first base = ((first ≡ []) × (base ≡ start)) ⊎ ((d : Durable) × ((first ≡ (9, checkpoint_body d) ∷ []) × (base ≡ tidied d)))

-- its records, and what those behind its beginning come to
pub record IsTold {D : Type 0} (d : Durable) (j : Journal D) : Type 0 where
  pub first : List Record
  pub base : Durable
  pub entries : List PlainEntry
  pub begins : Begins first base
  pub text : j.text ≡ (Two, first ++ map (encoded Two) entries)
  pub are_entries : AllByRecursion (IsEntry Two) entries
  pub replays : replayed base entries ≡ Some d

-- a record in doubt stands or doesn't, and a checkpoint of what stood tells that
abbrev pub DoubtLeaves : Option PlainEntry → Durable → Durable → Type 0
DoubtLeaves None d found = found ≡ d
DoubtLeaves (Some entry) d found = (found ≡ d) ⊎ ((applied d entry ≡ Some found) ⊎ ((entry ≡ Whole (checkpoint_of d)) × (found ≡ tidied d)))

-- The journal tells what stands. Once a disk has failed it is closed, and tells that with the record in doubt or without.
abbrev pub Holds : {D : Type 0} → (D → List ℕ) → (D → List ℕ → Type 0) → Durable → Log → Journal D → Fault → Type 0
Holds seen may_leave d log j Sound = Stands seen may_leave j × (IsLogOf log j × IsTold d j)
Holds seen may_leave d log j (Failed doubt) = (j.is_failed ≡ true) × ((found : Durable) × (DoubtLeaves doubt d found × IsTold found j))
Holds seen may_leave d log j (Unopened doubt) = j.is_failed ≡ true

abbrev pub IsHeld : {D : Type 0} → (D → List ℕ) → (D → List ℕ → Type 0) → State → Journal D → Type 0
IsHeld seen may_leave s j = Holds seen may_leave s.durable s.log j s.fault

-- ---- what an event answers

-- The turn is done, and no disk has failed in it. Each of its records fits what it meets, and stands behind the others in the journal. Without
-- a record the journal isn't touched. It is as its disks are seen, and the master knows its room, if no disk failed before.
pub record IsAnswered {D : Type 0} (seen : D → List ℕ) (failures : D → ℕ) (t : Turn) (old : MasterOf D) (told : Told) (new : MasterOf D) : Type 0 where
  pub done : IsDone t told.sent.items told.said new.state
  pub fit : replayed old.state.durable t.records ≡ Some new.state.durable
  pub are_entries : AllByRecursion (IsEntry Two) t.records
  pub text : new.journal.text ≡ (old.journal.text.0, old.journal.text.1 ++ map (encoded Two) t.records)
  pub fault : new.state.fault ≡ old.state.fault
  pub as_seen : is_failed new.state.fault ≡ false → IsAsSeen seen new.journal
  pub known : is_failed new.state.fault ≡ false → IsLogOf new.state.log new.journal
  pub quiet : failures_of_both failures new.journal ≡ failures_of_both failures old.journal
  pub still : t.records ≡ [] → new.journal ≡ old.journal
  pub config : new.config ≡ old.config

-- what a failure at the record at a place leaves of a text: the records before it stand behind the others, and it stands or doesn't
abbrev pub LeavesText : List PlainEntry → ℕ → Text → Text → Type 0
LeavesText records place old new =
    (new ≡ (old.0, old.1 ++ map (encoded Two) (take place records))) ⊎ (new ≡ (old.0, old.1 ++ map (encoded Two) (take (place + 1) records)))

-- A disk failed at the record at a place. Those before it fit what they meet, and each is one that is read again. So much is left of the text,
-- and so much the disks are seen to say, which the next opening goes by. The journal is closed until then.
pub record IsAnsweredUnsure {D : Type 0} (seen : D → List ℕ) (failures : D → ℕ) (Leaves : ℕ → Text → Text → Type 0) (caller : Option ReqId) (t : Turn) (place : ℕ) (old : MasterOf D) (told : Told) (new : MasterOf D) : Type 0 where
  pub cut : IsCut old.state caller t place told.sent.items told.said new.state
  pub fit : replayed old.state.durable (take place t.records) ≡ Some new.state.durable
  pub are_entries : AllByRecursion (IsEntry Two) t.records
  pub left : Leaves place old.journal.text new.journal.text
  pub shown : Leaves place old.journal.text (text_seen seen new.journal)
  pub cause : failures_of_both failures old.journal < failures_of_both failures new.journal
  pub closed : new.journal.is_failed ≡ true
  pub config : new.config ≡ old.config

-- Full only where the journal has no room for all records of the turn, BadLine only where one of them doesn't fit what it meets
-- or can't be written, and else memory is wanting.
abbrev pub WhyNot : Turn → State → Refusal → Type 0
WhyNot t s e =
    (e ≡ refusals.Memory)
    ⊎ (((e ≡ refusals.Full) × (fits s.log t.records ≡ false))
    ⊎ ((e ≡ refusals.BadLine) × ((replayed s.durable t.records ≡ None) ⊎ ¬ AllByRecursion (IsEntry Two) t.records)))

-- The turn is done, or cut where a disk failed; or it is refused, and nothing has happened.
abbrev pub MasterAnswers : {D : Type 0} → (D → List ℕ) → (D → ℕ) → Option ReqId → Turn → MasterOf D → Result Told Refusal → MasterOf D → Type 0
MasterAnswers seen failures caller t old (Ok told) new = IsAnswered seen failures t old told new ⊎ ((place : ℕ) × IsAnsweredUnsure seen failures (LeavesText t.records) caller t place old told new)
MasterAnswers seen failures caller t old (Err refusal) new = WhyNot t old.state refusal × (new ≡ old)
