-- That no chunk of a file has a primary, and that none gets one while clients only look.
use Rattle.std.specs.Prelude.{[], ◌∷◌, ◌<◌, ◌≡◌, ◌⊎◌, None, Ok, Some, false, length, refl, take, true, ℕ}
use Rattle.std.proofs.Common.{inl}
use Rattle.std.specs.FinMap as fin
use Rattle.gs_base.specs.declared.config.Config.{Config}
use Rattle.gs_base.specs.declared.numbers.Moment.{Moment}
use Rattle.gs_base.specs.declared.numbers.ReqId.{ReqId}
use Rattle.gs_lease.specs.Transitions.{is_for_lease}
use Rattle.gs_lease.specs.declared.view.View.{View}
use Rattle.gs_msg.specs.declared.answer.Answer.{Answer}
use Rattle.gs_msg.specs.declared.body.Body.{Body}
use Rattle.gs_msg.specs.declared.body.Body.TheVariants as bodies
use Rattle.gs_msg.specs.declared.call.Call.TheVariants as calls
use Rattle.gs_msg.specs.declared.message.Message.{Message}
use Rattle.gs_master_spec.specs.Applied.{replayed}
use Rattle.gs_master_spec.specs.Durable.{Durable, Settled, is_listed}
use Rattle.gs_master_spec.specs.Handling.{checkpoint, granted, handle, new_call, pressed, proposals, tick}
use Rattle.gs_master_spec.specs.Outcomes.{cut}
use Rattle.gs_master_spec.specs.State.{State, Turn, and_then, for_each}
use Rattle.gs_master_spec.specs.Volatile.{is_pending}
use Rattle.gs_master_spec.specs.declared.asking.Asking.{Asking}
use Rattle.gs_laws_moves.specs.answers.AtOnce.{OneSays}
use Rattle.gs_laws_moves.specs.answers.Resting.{HasHad, is_look}

-- each chunk that a file has, or had, is settled without a primary, if it is settled
abbrev pub AreUnled : Durable → Type 0
AreUnled d = (chunk : ℕ) (settled : Settled) → is_listed d chunk ≡ true → fin.get d.chunks chunk ≡ Some settled → settled.view.term ≡ None

-- no call waits
abbrev pub NoneWaits : State → Type 0
NoneWaits s = (req : ReqId) → is_pending s.volatile.pending req ≡ true → ⊥

-- no such chunk has a primary, no view of one is proposed for a lease, and no call waits
pub record IsUnled (s : State) : Type 0 where
  pub views : AreUnled s.durable
  pub asked : (chunk : ℕ) (asking : Asking) → is_listed s.durable chunk ≡ true → fin.get s.volatile.moving chunk ≡ Some asking → is_for_lease asking.purpose ≡ false
  pub none : NoneWaits s

-- So it is behind a turn, also where a disk fails at one of its records, and by what some of them lead to.
pub record LeavesUnled (s : State) (t : Turn) : Type 0 where
  pub after : IsUnled t.after
  pub cuts : (place : ℕ) → place < length t.records → IsUnled (cut s t.records place)
  pub told : (many : ℕ) (e : Durable) → replayed s.durable (take many t.records) ≡ Some e → AreUnled e

-- nothing is called, or a look-up, or what its client has had a reply to, or to a later one
abbrev pub CallsNothing : State → Body → Type 0
CallsNothing s (bodies.Call req call) = (is_look call ≡ true) ⊎ HasHad s req.client req.number
CallsNothing s body = Unit {0}

-- ---- what is to hold

-- So it is of each message by which nothing else is called,
abbrev pub MessagesLeaveUnled : Type 0
MessagesLeaveUnled = (config : Config) (s : State) (message : Message) (moment : Moment) → CallsNothing s message.body → IsUnled s → LeavesUnled s (handle config s message moment)

-- of a tick,
abbrev pub TicksLeaveUnled : Type 0
TicksLeaveUnled = (s : State) (moment : Moment) → IsUnled s → LeavesUnled s (tick s moment)

-- of what a tick does before it writes a checkpoint that is due,
abbrev pub StepsLeaveUnled : Type 0
StepsLeaveUnled = (s : State) (moment : Moment) → IsUnled s → LeavesUnled s (and_then (for_each s (proposals s) (pressed moment)) granted)

-- and of a checkpoint.
abbrev pub CheckpointsLeaveUnled : Type 0
CheckpointsLeaveUnled = (s : State) → IsUnled s → LeavesUnled s (checkpoint s)

-- Where no call waits, it is so behind the commit of a prepare that is accepted,
abbrev pub PreparesLeaveUnled : Type 0
PreparesLeaveUnled = (config : Config) (s : State) (req : ReqId) (moment : Moment) (answer : Answer) → NoneWaits s → OneSays req (Ok answer) (new_call config s req moment calls.PrepareCommit).sent → IsUnled (new_call config s req moment calls.PrepareCommit).after

-- and behind the commit of a rollback that is accepted, if its record fits.
abbrev pub RollbacksLeaveUnled : Type 0
RollbacksLeaveUnled = (config : Config) (s : State) (req : ReqId) (moment : Moment) (answer : Answer) → let t = new_call config s req moment calls.RollbackCommit in
    NoneWaits s → OneSays req (Ok answer) t.sent → replayed s.durable t.records ≡ Some t.after.durable → IsUnled t.after

-- ---- examples: a chunk on servers 0 and 1, of which 0 is the primary

abbrev a_lease : View
a_lease = record { stamp = record { epoch = 0; version = 5 }; count = 2; members = 0 ∷ 1 ∷ []; term = Some (record { primary = 0; end = record { 0 = 60 } }) }

it_is_led : (d : Durable) → is_listed d 7 ≡ true → fin.get d.chunks 7 ≡ Some (record { view = a_lease; is_moving = false }) → AreUnled d → ⊥
it_is_led d listed has are = some_none (are 7 (record { view = a_lease; is_moving = false }) listed has)
  where
    some_none : a_lease.term ≡ None → ⊥
    some_none is = cc

a_list_calls_nothing : (s : State) (req : ReqId) → CallsNothing s (bodies.Call req (calls.List []))
a_list_calls_nothing s req = inl refl
