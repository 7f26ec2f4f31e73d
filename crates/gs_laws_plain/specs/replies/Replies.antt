-- Each reply of an event, to whomever it goes: what the plain machine answers to a call of the tree, and the command that its records say.
use Rattle.std.specs.Prelude.{[], ◌∷◌, ◌≡◌, Bool, Err, None, Option, Result, Some, codes, false, filter_map, refl, true}
use Rattle.std.proofs.Common.{inl}
use Rattle.std.specs.List.{AllByRecursion, list_all}
use Rattle.gs_base.specs.declared.config.Config.{Config}
use Rattle.gs_base.specs.declared.numbers.Moment.{Moment}
use Rattle.gs_base.specs.declared.numbers.ReqId.{ReqId}
use Rattle.gs_base.specs.declared.refusal.Refusal.{Refusal}
use Rattle.gs_base.specs.declared.refusal.Refusal.TheVariants as refusals
use Rattle.gs_lock.specs.Operations.{same_op}
use Rattle.gs_msg.specs.declared.answer.Answer.{Answer}
use Rattle.gs_msg.specs.declared.body.Body.{Body}
use Rattle.gs_msg.specs.declared.body.Body.TheVariants as bodies
use Rattle.gs_msg.specs.declared.call.Call.{Call}
use Rattle.gs_msg.specs.declared.call.Call.TheVariants as calls
use Rattle.gs_msg.specs.declared.message.Message.{Message}
use Rattle.gs_path.specs.Path.{Path}
use Rattle.gs_laws_plain.specs.commands.Commands.{command_of}
use Rattle.gs_laws_plain.specs.commands.Doing.{done_by, done_if, is_of_tree}
use Rattle.gs_master_record.specs.Plain.{Create, Edited, PlainEntry, Said}
use Rattle.gs_master_spec.specs.Handling.{handle, tick}
use Rattle.gs_master_spec.specs.State.{State, Turn, last_reply}
use Rattle.gs_master_spec.specs.declared.pending.Waiting.{Waiting}
use Rattle.gs_master_spec.specs.declared.pending.Waiting.TheVariants as waits
use Rattle.gs_master_spec.specs.declared.reply.KeptReply.{KeptReply}
use Rattle.gs_master_state.specs.Sane.{are_apart}
use Rattle.gs_laws_plain.specs.replies.Waited.{GoesOnPlainly, IsPlainBy, RepliesSo, WaitsSo}

-- a record is an edit of this request, or its refusal
abbrev pub is_its_own : ReqId → PlainEntry → Bool
is_its_own req (Edited by edit) = same_op req by
is_its_own req (Said by refusal) = same_op req by
is_its_own req entry = false

-- A call of the tree that comes is answered as the plain tree answers it, by the names that stand, or refused by the store; and the records of its event say the command that it is, or, where it is refused, none. Each of them is under its number.
pub record ComesPlainly (s : State) (t : Turn) (moment : Moment) (req : ReqId) (call : Call) (result : Result Answer Refusal) : Type 0 where
  pub tree : is_of_tree call ≡ true
  pub plainly : IsPlainBy s.durable.names moment.0 s.durable.next_hidden call result
  pub does : filter_map command_of t.records ≡ done_if (done_by s moment call) result
  pub own : list_all (is_its_own req) t.records ≡ true

-- the reply to this request that is kept
pub record WasKept (s : State) (req : ReqId) (result : Result Answer Refusal) : Type 0 where
  pub reply : KeptReply
  pub has : last_reply s req.client ≡ Some reply
  pub number : reply.number ≡ req.number
  pub is : reply.result ≡ result

-- a call waits for something else than to copy a tree
abbrev pub is_other_wait : Waiting → Bool
is_other_wait (waits.Snapshot from to) = false
is_other_wait waiting = true

-- Where this is heard, if anything is: a reply is to the call of the tree that comes, and so; or to a snapshot that has waited, and so; or it is one that is kept, once more, to a call that comes again; or it is to a call that isn't of the tree, which comes, or has waited.
pub data IsAsPlain (s : State) (t : Turn) (moment : Moment) (heard : Option Body) (req : ReqId) (result : Result Answer Refusal) : Type 0 where
  Came : (call : Call) → heard ≡ Some (bodies.Call req call) → ComesPlainly s t moment req call result → IsAsPlain s t moment heard req result
  HadWaited : (from to : Path) → WaitsSo s req (waits.Snapshot from to) → GoesOnPlainly s t req from to result → IsAsPlain s t moment heard req result
  Again : (call : Call) → heard ≡ Some (bodies.Call req call) → WasKept s req result → IsAsPlain s t moment heard req result
  OtherCame : (call : Call) → heard ≡ Some (bodies.Call req call) → is_of_tree call ≡ false → IsAsPlain s t moment heard req result
  OtherWaited : (waiting : Waiting) → WaitsSo s req waiting → is_other_wait waiting ≡ true → IsAsPlain s t moment heard req result

abbrev pub RepliesAsPlain : State → Turn → Moment → Option Body → Type 0
RepliesAsPlain s t moment heard = AllByRecursion (λ (m : Message). RepliesSo (IsAsPlain s t moment heard) m.body) t.sent

-- ---- what is to hold of each event, where each call waits once

abbrev pub MessagesReplyAsPlain : Type 0
MessagesReplyAsPlain = (config : Config) (s : State) (message : Message) (moment : Moment) → are_apart s.volatile.pending ≡ true → RepliesAsPlain s (handle config s message moment) moment (Some message.body)

abbrev pub TicksReplyAsPlain : Type 0
TicksReplyAsPlain = (s : State) (moment : Moment) → are_apart s.volatile.pending ≡ true → RepliesAsPlain s (tick s moment) moment None

-- ---- Worked

abbrev f : Path
f = codes "f" ∷ []

an_extend_waits_for_something_else : is_other_wait (waits.Extend f 7) ≡ true
an_extend_waits_for_something_else = refl

a_snapshot_does_not : is_other_wait (waits.Snapshot f f) ≡ false
a_snapshot_does_not = refl

its_own_edit : is_its_own (record { client = record { 0 = 1 }; number = 7 }) (Edited (record { client = record { 0 = 1 }; number = 7 }) (Create f)) ≡ true
its_own_edit = refl

another_ones_is_not : is_its_own (record { client = record { 0 = 1 }; number = 7 }) (Edited (record { client = record { 0 = 2 }; number = 7 }) (Create f)) ≡ false
another_ones_is_not = refl

-- a call that is refused without a record, for an old number
an_old_number : (s : State) (moment : Moment) (req : ReqId) → ComesPlainly s (record { after = s; records = []; sent = []; said = None }) moment req (calls.Create f) (Err refusals.Old)
an_old_number s moment req = record { tree = refl; plainly = λ text plain has is. inl refl; does = refl; own = refl }
