-- That what calls plan comes with other records of an event.
use Rattle.std.proofs.Common.{◌≡◌, ℕ, false, List, refl}
use Rattle.std.specs.Prelude.{Option}
use Rattle.std.specs.List.{list_any}
use Rattle.gs_base.specs.declared.numbers.ReqId.{ReqId}
use Rattle.gs_base.specs.declared.numbers.Stamp.{Stamp}
use Rattle.gs_lease.specs.declared.view.Purpose.{Purpose}
use Rattle.gs_lease.specs.declared.view.View.{View}
use Rattle.gs_msg.specs.declared.answer.Answer.{Answer}
use Rattle.gs_msg.specs.declared.message.Message.{Message}
use Rattle.gs_master_record.specs.Plain.{PlainEdit, PlainEntry}
use Rattle.gs_master_spec.specs.Beginning.{begin_at, copy_plan, create_plan, waits_from_now}
use Rattle.gs_master_spec.specs.Calls.{accept_plan}
use Rattle.gs_master_spec.specs.State.{State, answered}
use Rattle.gs_master_state.specs.inner.TakingBack.{comes_alone}
use Rattle.gs_master.specs.inner.Turns.{ComesWithOthers}
use Rattle.gs_master_spec.specs.Upgrades.{accepted_plan}
use Rattle.gs_master_spec.specs.Working.{begin_pending}
use Rattle.gs_master_spec.specs.declared.change.Change.{Change}
use Rattle.gs_master_spec.specs.declared.pending.Waiting.{Waiting}

pub answered_together : (s : State) (req : ReqId) (answer : Answer) → ComesWithOthers (answered s req answer)
answered_together s req answer = record { records = refl }

pub accept_together : (req : ReqId) (edit : PlainEdit) (answer : Answer) → ComesWithOthers (accept_plan req edit answer)
accept_together req edit answer = record { records = refl }

-- a call that waits for a view that is begun
pub begun_together : (s : State) (chunk : ℕ) (purpose : Purpose) (call : Option ReqId) (req : ReqId) (waits : Waiting) → ComesWithOthers (waits_from_now (begin_at s chunk purpose call) req waits)
begun_together s chunk purpose call req waits = record { records = refl }

pub created_together : (stamp : Stamp) (chunk : ℕ) (targets : List ℕ) (req : ReqId) (waits : Waiting) → ComesWithOthers (waits_from_now (create_plan stamp chunk targets req) req waits)
created_together stamp chunk targets req waits = record { records = refl }

pub pending_together : (req : ReqId) (waits : Waiting) → ComesWithOthers (begin_pending req waits)
pending_together req waits = record { records = refl }

-- a call of an upgrade, by its records
pub accepted_together : (s : State) (req : ReqId) (records : List PlainEntry) (before : List Change) (sent : List Message) (epoch : ℕ) → list_any comes_alone records ≡ false →
    ComesWithOthers (accepted_plan s req records before sent epoch)
accepted_together s req records before sent epoch others = record { records = others }
