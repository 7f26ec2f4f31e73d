-- A store as its chunks see it, whatever disks of the master fail: once one has, what the disks tell is all that is left of the master, as where they wait for it.
use Rattle.std.specs.Prelude.{◌≡◌, ◌⊎◌, ◌≤◌, ◌||◌, ℕ, Bool, true, false, List, [], ◌∷◌, length, take, Option, Some, None, Result, Err, if◌then◌else◌, refl}
use Rattle.std.specs.List.{AllByRecursion}
use Rattle.gs_base.specs.declared.config.Config.{Config}
use Rattle.gs_base.specs.declared.numbers.ReqId.{ReqId}
use Rattle.gs_base.specs.declared.refusal.Refusal.{Refusal}
use Rattle.gs_base.specs.declared.refusal.Refusal.TheVariants as refusals
use Rattle.gs_journal.specs.Records.{standing}
use Rattle.gs_master.specs.Masters.{MasterOf}
use Rattle.gs_laws_master.specs.Promises.{IsKept}
use Rattle.gs_laws_master.specs.Standing.{AreCounters}
use Rattle.gs_laws_moves.specs.moves.Epochs.{EndsOnce}
use Rattle.gs_laws_moves.specs.moves.Guards.{Heard}
use Rattle.gs_laws_moves.specs.moves.Laws.{IsMadeWell, said_from}
use Rattle.gs_master_spec.specs.Applied.{replayed}
use Rattle.gs_master_spec.specs.Durable.{Durable}
use Rattle.gs_master_spec.specs.Handling.{Again, New, Numbered, Older, numbered}
use Rattle.gs_master_spec.specs.Outcomes.{IsCut, caller_of}
use Rattle.gs_master_spec.specs.State.{State, Turn, Unopened, is_failed, is_unopened, last_reply, reply_to}
use Rattle.gs_master_spec.specs.Volatile.{is_pending}
use Rattle.gs_msg.specs.declared.answer.Answer.{Answer}
use Rattle.gs_msg.specs.declared.body.Body.{Body}
use Rattle.gs_msg.specs.declared.body.Body.TheVariants as bodies
use Rattle.gs_msg.specs.declared.event.DiskId.{DiskId}
use Rattle.gs_msg.specs.declared.message.Message.{Message}
use Rattle.gs_nodes.specs.Nodes.{with_master}
use Rattle.gs_nodes.specs.declared.place.MasterPlace.{MasterPlace}
use Rattle.gs_nodes.specs.declared.place.MasterPlace.TheVariants.{Standing, Closed, Away}
use Rattle.gs_world.specs.Histories.{History}
use Rattle.gs_laws_world.specs.lasting.Lasting.{IsToldIn, Lasts}
use Rattle.gs_world.specs.Sent.{IsSent, Sent}
use Rattle.gs_laws_lift.specs.stores.Doing.{MasterDoes}
use Rattle.gs_laws_lift.specs.stores.Going.{MasterGoes}

-- ---- what is left

abbrev pub left_of : {D : Type 0} → Bool → MasterOf D → MasterPlace D
left_of false m = Standing m
left_of true m = Closed m.journal.first m.journal.second

abbrev pub as_left : {D : Type 0} → MasterPlace D → MasterPlace D
as_left (Standing m) = left_of (is_failed m.state.fault) m
as_left (Closed first second) = Closed first second
as_left Away = Away

abbrev pub left_in : {D : Type 0} → History D → History D
left_in h = record h { nodes = with_master (as_left h.nodes.master) h.nodes }

-- ---- what the master does

-- a call is answered
abbrev pub IsReply : Body → Type 0
IsReply (bodies.Reply req result) = Unit {0}
IsReply body = ⊥

abbrev pub AreReplies : List Message → Type 0
AreReplies messages = AllByRecursion (λ (m : Message). IsReply m.body) messages

-- it acts by itself, and nobody has called; or it hears what was sent, by a caller if that is a call
abbrev pub IsHeardBy : Sent → Heard → Option ReqId → Type 0
IsHeardBy sent heard caller = ((heard ≡ None) × (caller ≡ None)) ⊎ ((message : Message) × IsSent message sent × (heard ≡ said_from message.from message.body) × (caller ≡ caller_of message.body))

-- What a call is answered by a master of which a disk has failed: the reply that it keeps, if the call is the last one of its client; that it is an older one; and else that a disk has failed.
abbrev pub answer_by_number : Numbered → Result Answer Refusal
answer_by_number New = Err refusals.Device
answer_by_number (Again result) = result
answer_by_number Older = Err refusals.Old

abbrev pub answer_failed : State → ReqId → Result Answer Refusal
answer_failed s req = if is_unopened s.fault || is_pending s.volatile.pending req then Err refusals.Device else answer_by_number (numbered (last_reply s req.client) req.number)

-- the caller is told that, or nobody is told anything
abbrev pub AreAnswers : State → Option ReqId → List Message → Type 0
AreAnswers s caller messages = (messages ≡ []) ⊎ ((req : ReqId) × (caller ≡ Some req) × (messages ≡ reply_to req (answer_failed s req) ∷ []))

module _ {D : Type 0} (seen : D → List ℕ) (armed : DiskId → ℕ → MasterPlace D → MasterPlace D) (sent : Sent) (old new : MasterPlace D) (messages : List Message) where
  -- It does what it does where no disk fails, and none has failed then. Or one fails at a turn of moves, which is cut at a record: the caller is told that it is unsure, and nobody else is told anything; so many of the
  -- turn's records stand, those before that one at least, and the disks tell what they lead to. Or a disk had failed: nothing changes of what is left, or in memory, and a call is answered at most. Or a failure is
  -- arranged that comes later.
  pub data MasterDoesAll : Type 0 where
    Does : as_left new ≡ new → MasterDoes seen (λ disk call place. place) sent (as_left old) (as_left new) messages → MasterDoesAll
    Cuts : (m after : MasterOf D) (heard : Heard) (caller : Option ReqId) (t : Turn) (place many : ℕ) (said : Option Refusal) (d : Durable) (first second : D) → as_left old ≡ Standing m → new ≡ Standing after → IsHeardBy sent heard caller
        → EndsOnce m.config (IsMadeWell m.config heard) m.state t → IsCut m.state caller t place messages said after.state → place ≤ many → many ≤ length t.records → replayed m.state.durable (take many t.records) ≡ Some d
        → as_left new ≡ Closed first second → IsKept d → AreCounters d → IsToldIn (standing (seen first) (seen second)) d → MasterDoesAll
    Keeps : (m after : MasterOf D) (heard : Heard) (caller : Option ReqId) → old ≡ Standing m → new ≡ Standing after → is_failed m.state.fault ≡ true → after.state ≡ m.state → as_left new ≡ as_left old → IsHeardBy sent heard caller
        → AreAnswers m.state caller messages → MasterDoesAll
    Arranges : (disk : DiskId) (call : ℕ) → new ≡ armed disk call old → messages ≡ [] → MasterDoesAll

-- So it is of whatever happens at the master, whatever disk fails, where what is left of it lasts.
abbrev pub MastersDoAll : {D : Type 0} → (D → List ℕ) → (D → ℕ) → (DiskId → ℕ → MasterPlace D → MasterPlace D) → Type 0
MastersDoAll {D} seen failures armed = (config : Config) (sent : Sent) (old new : MasterPlace D) (messages : List Message) → Lasts seen (as_left old) → Lasts seen (as_left new) → MasterGoes seen failures armed config sent old new messages → MasterDoesAll seen armed sent old new messages

-- ---- examples

a_call_that_waits_is_told_of_the_disk : (s : State) (req : ReqId) → s.fault ≡ Unopened None → answer_failed s req ≡ Err refusals.Device
a_call_that_waits_is_told_of_the_disk s req is = λ i. if is_unopened (is i) || is_pending s.volatile.pending req then Err refusals.Device else answer_by_number (numbered (last_reply s req.client) req.number)

the_last_call_gets_its_reply : (result : Result Answer Refusal) → answer_by_number (numbered (Some (record { number = 7; result = result })) 7) ≡ result
the_last_call_gets_its_reply result = refl

an_older_one_is_refused : (result : Result Answer Refusal) → answer_by_number (numbered (Some (record { number = 7; result = result })) 6) ≡ Err refusals.Old
an_older_one_is_refused result = refl

disks_that_wait_are_left : {D : Type 0} (first second : D) → as_left (Closed first second) ≡ Closed first second
disks_that_wait_are_left first second = refl
