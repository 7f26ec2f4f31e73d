-- What a checkpoint of a state takes, and why none is written.
use Rattle.std.specs.Prelude.{◌≡◌, ◌⊎◌, ◌+◌, ◌==◌, Bool, true, false, [], ◌∷◌, Option, Some, None, Result, Ok, Err, refl}
use Rattle.gs_base.specs.declared.refusal.Refusal.{Refusal}
use Rattle.gs_base.specs.declared.refusal.Refusal.TheVariants.{Device, Exhausted, Full, Memory, Preparing}
use Rattle.gs_journal.specs.Journal.{State as Journal, last_generation}
use Rattle.gs_journal.specs.declared.version.Version.TheVariants.{Two}
use Rattle.gs_master_record.specs.Plain.{Whole, plain}
use Rattle.gs_master_record.specs.Writable.{IsEntry}
use Rattle.gs_master_spec.specs.Handling.{checkpoint_body, checkpoint_tests, log_with, without_place}
use Rattle.gs_master_state.specs.inner.Plans.{log_of}
use Rattle.gs_master_spec.specs.State.{Log, State, first_of, is_failed}
use Rattle.gs_master_spec.specs.Whole.{checkpoint_of}
use Rattle.gs_master_plan.specs.declared.checkpoint.Renewal.{Renewal}
use Rattle.gs_master_spec.specs.Handling.{unlisted}
use Rattle.gs_master_state.specs.inner.Surveying.{awaiting}

-- why no checkpoint of this state is written
abbrev pub renewal_refusal : State → Option Refusal
renewal_refusal s = first_of (checkpoint_tests (is_failed s.fault) s.volatile.is_preparing s.log (checkpoint_body s.durable))

-- The same, as far as that is known whatever the checkpoint tells: a disk has failed, an upgrade is being prepared, or no generation is left.
abbrev pub refusal_by : Bool → Bool → Log → Option Refusal
refusal_by failed preparing log = first_of ((failed, Device) ∷ (preparing, Preparing) ∷ (log.generation == last_generation, Exhausted) ∷ [])

abbrev pub refusal_beforehand : State → Option Refusal
refusal_beforehand s = refusal_by (is_failed s.fault) s.volatile.is_preparing s.log

-- all that a checkpoint of this state takes, against which nothing stands; its record is one that is read again
pub record IsRenewalOf (s : State) (r : Renewal) : Type 0 where
  pub entry : plain r.entry ≡ Whole (checkpoint_of s.durable)
  pub is_entry : IsEntry Two (plain r.entry)
  pub body : r.draft.body ≡ checkpoint_body s.durable
  pub log : log_of r.log ≡ log_with s.log (checkpoint_body s.durable)
  pub unlisted : r.unlisted.items ≡ unlisted s.durable
  pub placed : r.placed.items ≡ without_place s
  pub awaiting : r.awaiting.items ≡ awaiting s
  pub unrefused : renewal_refusal s ≡ None

-- it is of the generation behind the journal's
abbrev pub IsBehind : {D : Type 0} → Journal D → Renewal → Type 0
IsBehind j r = r.draft.generation ≡ j.generation + 1

-- It is made, or something stands against it. Memory is wanting only where nothing is known beforehand that does.
abbrev pub MakesRenewal : {D : Type 0} → State → Journal D → Result Renewal Refusal → Type 0
MakesRenewal s j (Ok r) = IsRenewalOf s r × IsBehind j r
MakesRenewal s j (Err e) = ((e ≡ Memory) × (refusal_beforehand s ≡ None)) ⊎ (renewal_refusal s ≡ Some e)

-- ---- examples

abbrev last_log : Log
last_log = record { records = 4096; size = 90000; limit = 19; generation = last_generation }

a_failed_disk_comes_first : refusal_by true true last_log ≡ Some Device
a_failed_disk_comes_first = refl

then_an_upgrade : refusal_by false true last_log ≡ Some Preparing
then_an_upgrade = refl

then_the_last_generation : refusal_by false false last_log ≡ Some Exhausted
then_the_last_generation = refl

room_is_not_known_beforehand : refusal_by false false (record last_log { generation = 3 }) ≡ None
room_is_not_known_beforehand = refl

it_is_judged_behind : first_of (checkpoint_tests false false (record last_log { generation = 3 }) []) ≡ Some Full
it_is_judged_behind = refl
