-- Whom the master answers.
use Rattle.std.specs.Prelude.{[], ◌<◌, ◌∷◌, ◌≡◌, ◌⊎◌, Bool, List, None, Option, Some, false, length, refl, true, ℕ}
use Rattle.std.proofs.Common.{inl}
use Rattle.std.specs.FinMap as fin
use Rattle.std.specs.List.{AllByRecursion}
use Rattle.gs_base.specs.declared.config.Config.{Config}
use Rattle.gs_base.specs.declared.numbers.ClientId.{ClientId}
use Rattle.gs_base.specs.declared.numbers.Moment.{Moment}
use Rattle.gs_base.specs.declared.numbers.ReqId.{ReqId}
use Rattle.gs_base.specs.declared.refusal.Refusal.TheVariants as refusals
use Rattle.gs_msg.specs.declared.body.Body.{Body}
use Rattle.gs_msg.specs.declared.body.Body.TheVariants as bodies
use Rattle.gs_msg.specs.declared.message.Message.{Message}
use Rattle.gs_path.specs.Path.{Path}
use Rattle.gs_master_record.specs.Plain.{Cow, Create, Edited, Finalize, Forget, Holder, PlainEdit, PlainEntry, PlainReply, Propose, Remove, Said, Settle, Whole}
use Rattle.gs_master_spec.specs.Applied.{replayed}
use Rattle.gs_master_spec.specs.Durable.{Durable}
use Rattle.gs_master_spec.specs.Handling.{checkpoint, granted, handle, pressed, proposals, tick}
use Rattle.gs_master_spec.specs.Outcomes.{caller_of, cut}
use Rattle.gs_master_spec.specs.Replies.{client_cmp}
use Rattle.gs_master_spec.specs.State.{State, Turn, and_then, for_each}
use Rattle.gs_master_spec.specs.Settling.{own_request}
use Rattle.gs_master_spec.specs.Volatile.{is_pending}
use Rattle.gs_master_spec.specs.declared.reply.KeptReply.{KeptReply}

-- ---- who is concerned

-- the call comes with the event, or it waits
abbrev pub IsConcerned : State → Option ReqId → ReqId → Type 0
IsConcerned s caller req = (caller ≡ Some req) ⊎ (is_pending s.volatile.pending req ≡ true)

-- the request that a kept reply answers
abbrev pub answered_by : ClientId → KeptReply → ReqId
answered_by client reply = record { client = client; number = reply.number }

-- a reply to this request is kept
pub record Keeps (replies : fin.FinMap client_cmp KeptReply) (req : ReqId) : Type 0 where
  pub reply : KeptReply
  pub has : fin.get replies req.client ≡ Some reply
  pub number : reply.number ≡ req.number

-- ---- what is answered

-- a message that is a reply is to such a request; and none is a call
abbrev pub RepliesTo : (ReqId → Type 0) → Body → Type 0
RepliesTo P (bodies.Reply req result) = P req
RepliesTo P (bodies.Call req call) = ⊥
RepliesTo P body = Unit {0}

-- the edits of a scan, and that for a copy on write: they are the master's own, and tell no answer
abbrev pub tells_nobody : PlainEdit → Bool
tells_nobody (Remove p) = true
tells_nobody (Cow p index old new) = true
tells_nobody (Forget chunks) = true
tells_nobody edit = false

-- what a record tells of answers is told of such requests
abbrev pub TellsOf : (ReqId → Type 0) → PlainEntry → Type 0
TellsOf P (Edited by edit) = (tells_nobody edit ≡ true) ⊎ P by
TellsOf P (Said to refusal) = P to
TellsOf P (Whole c) = AllByRecursion (λ (r : PlainReply). P r.to) c.replies
TellsOf P entry = Unit {0}

-- a record edits no names, ends no epoch, and tells no answer that wasn't told: a view is proposed, settled, or carried by a holder; or it is a checkpoint
abbrev pub is_still : PlainEntry → Bool
is_still (Propose chunk version) = true
is_still (Settle v) = true
is_still (Holder chunk server) = true
is_still (Whole c) = true
is_still entry = false

-- each reply of some was among those before, or it is to such a request
abbrev pub KeepsOn : (ReqId → Type 0) → fin.FinMap client_cmp KeptReply → fin.FinMap client_cmp KeptReply → Type 0
KeepsOn P old new = (client : ClientId) (reply : KeptReply) → fin.get new client ≡ Some reply → (fin.get old client ≡ Some reply) ⊎ P (answered_by client reply)

-- the names, the number of the next deletion, the phase, the epoch and the replies on record are what they were
pub record IsAtRest (d e : Durable) : Type 0 where
  pub names : e.names ≡ d.names
  pub hidden : e.next_hidden ≡ d.next_hidden
  pub phase : e.phase ≡ d.phase
  pub epoch : e.epoch ≡ d.epoch
  pub replies : e.replies ≡ d.replies

-- and so are the replies that are kept in memory
abbrev pub StaysAtRest : State → State → Type 0
StaysAtRest s t = IsAtRest s.durable t.durable × (t.volatile.replies ≡ s.volatile.replies)

-- Only such requests are answered by a turn, and only they wait behind it.
pub record AnswersOnly (P : ReqId → Type 0) (s : State) (t : Turn) : Type 0 where
  pub sent : AllByRecursion (λ (m : Message). RepliesTo P m.body) t.sent
  pub records : AllByRecursion (TellsOf (λ req. Keeps s.durable.replies req ⊎ P req)) t.records
  pub durable : KeepsOn P s.durable.replies t.after.durable.replies
  pub memory : KeepsOn P s.volatile.replies t.after.volatile.replies
  pub waits : (req : ReqId) → is_pending t.after.volatile.pending req ≡ true → P req
  -- where there is no such request, its records are all such
  pub still : ((req : ReqId) → P req → ⊥) → AllByRecursion (λ entry. is_still entry ≡ true) t.records
  -- and all that is at rest
  pub rests : ((req : ReqId) → P req → ⊥) → StaysAtRest s t.after
  pub cut_rests : ((req : ReqId) → P req → ⊥) → (place : ℕ) → place < length t.records → StaysAtRest s (cut s t.records place)
  -- what is kept, also where a disk fails at one of its records
  pub cuts : (place : ℕ) → place < length t.records → KeepsOn P s.durable.replies (cut s t.records place).durable.replies

-- ---- what is to hold

-- of each message, whoever sends it
abbrev pub MessagesAnswerConcerned : Type 0
MessagesAnswerConcerned = (config : Config) (s : State) (message : Message) (moment : Moment) → AnswersOnly (IsConcerned s (caller_of message.body)) s (handle config s message moment)

-- of a tick
abbrev pub TicksAnswerConcerned : Type 0
TicksAnswerConcerned = (s : State) (moment : Moment) → AnswersOnly (IsConcerned s None) s (tick s moment)

-- of what a tick does before it writes a checkpoint that is due
abbrev pub StepsAnswerConcerned : Type 0
StepsAnswerConcerned = (s : State) (moment : Moment) → AnswersOnly (IsConcerned s None) s (and_then (for_each s (proposals s) (pressed moment)) granted)

-- of a checkpoint
abbrev pub CheckpointsAnswerNobody : Type 0
CheckpointsAnswerNobody = (s : State) → AnswersOnly (IsConcerned s None) s (checkpoint s)

-- one of the replies of a checkpoint is to this request
abbrev pub IsToldIn : List PlainReply → ReqId → Type 0
IsToldIn [] req = ⊥
IsToldIn (r ∷ replies) req = (r.to ≡ req) ⊎ IsToldIn replies req

-- a record tells a reply to this request
abbrev pub TellsReply : PlainEntry → ReqId → Type 0
TellsReply (Edited by edit) req = (tells_nobody edit ≡ false) × (by ≡ req)
TellsReply (Said to refusal) req = to ≡ req
TellsReply (Whole c) req = IsToldIn c.replies req
TellsReply entry req = ⊥

-- one of some does
abbrev pub OneTells : List PlainEntry → ReqId → Type 0
OneTells [] req = ⊥
OneTells (entry ∷ entries) req = TellsReply entry req ⊎ OneTells entries req

-- A reply that is kept behind records was kept before them, or one of them tells it.
abbrev pub KeptAreTold : Type 0
KeptAreTold = (records : List PlainEntry) (d e : Durable) (req : ReqId) → replayed d records ≡ Some e → Keeps e.replies req → Keeps d.replies req ⊎ OneTells records req

-- ---- examples

abbrev a_request : ReqId
a_request = record { client = record { 0 = 1 }; number = 7 }

who_calls_is_concerned : (s : State) → IsConcerned s (Some a_request) a_request
who_calls_is_concerned s = inl refl

an_edit_tells_of_its_call : (P : ReqId → Type 0) (path : Path) → TellsOf P (Edited a_request (Create path)) ≡ ((false ≡ true) ⊎ P a_request)
an_edit_tells_of_its_call P path = refl

a_copy_on_write_tells_of_nobody : (path : Path) → TellsOf (λ req. ⊥) (Edited own_request (Cow path 0 7 8))
a_copy_on_write_tells_of_nobody path = inl refl

a_refusal_tells_of_its_call : (P : ReqId → Type 0) → TellsOf P (Said a_request refusals.Locked) ≡ P a_request
a_refusal_tells_of_its_call P = refl

an_epoch_tells_of_nobody : TellsOf (λ req. ⊥) (Finalize 2)
an_epoch_tells_of_nobody = tt
