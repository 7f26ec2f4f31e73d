-- The master's state, what a plan makes of it, and the turn of an event.
use Rattle.std.specs.Prelude.{◌≡◌, ◌&&◌, ◌+◌, ℕ, Bool, true, false, not, nat_le, List, [], ◌∷◌, ◌++◌, map, fold, sum_by, codes, Option, Some, None, unwrap_or, Result, Ok, Err, if◌then◌else◌, refl}
use Rattle.std.specs.FinMap as fin
use Rattle.gs_base.specs.declared.numbers.ReqId.{ReqId}
use Rattle.gs_base.specs.declared.numbers.ClientId.{ClientId}
use Rattle.gs_base.specs.declared.refusal.Refusal.{Refusal}
use Rattle.gs_base.specs.declared.refusal.Refusal.TheVariants as refusals
use Rattle.gs_journal.specs.Journal.{record_size}
use Rattle.gs_journal.specs.declared.version.Version.TheVariants.{Two}
use Rattle.gs_msg.specs.declared.answer.Answer.{Answer}
use Rattle.gs_msg.specs.declared.body.Body.{Body}
use Rattle.gs_msg.specs.declared.body.Body.TheVariants as bodies
use Rattle.gs_msg.specs.declared.chunk.Chunk.{Chunk as Said_of_chunk}
use Rattle.gs_msg.specs.declared.message.Message.{Message}
use Rattle.gs_msg.specs.declared.node.NodeId.{NodeId}
use Rattle.gs_msg.specs.declared.node.NodeId.TheVariants as nodes
use Rattle.gs_master_record.specs.Encoding.{encoded}
use Rattle.gs_master_record.specs.Plain.{PlainEntry, Mkdirs, Edited, Said, Prepare}
use Rattle.gs_master_spec.specs.Applied.{applied}
use Rattle.gs_master_spec.specs.Durable.{Durable}
use Rattle.gs_master_spec.specs.Replies.{later, is_later}
use Rattle.gs_master_spec.specs.Volatile.{Volatile, all_changed, let_go}
use Rattle.gs_master_spec.specs.declared.change.Change.{Change}
use Rattle.gs_master_spec.specs.declared.change.Change.TheVariants as changes
use Rattle.gs_master_spec.specs.declared.reply.KeptReply.{KeptReply}

-- The journal as the master sees it: how many records stand behind the last checkpoint, the bytes of the disk that counts, how
-- many it may have, and its generation.
pub record Log : Type 0 where
  pub records : ℕ
  pub size : ℕ
  pub limit : ℕ
  pub generation : ℕ

-- Whether a disk has failed since the journal was opened, or in the opening itself, and which record was being written then. It
-- stands or doesn't, which the next opening tells.
pub data Fault : Type 0 where
  Sound : Fault
  Failed : Option PlainEntry → Fault
  Unopened : Option PlainEntry → Fault

abbrev pub is_failed : Fault → Bool
is_failed Sound = false
is_failed (Failed doubt) = true
is_failed (Unopened doubt) = true

-- no record was read, so nothing is known of any call
abbrev pub is_unopened : Fault → Bool
is_unopened Sound = false
is_unopened (Failed doubt) = false
is_unopened (Unopened doubt) = true

-- what is durable is what the records of the journal replay to
pub record State : Type 0 where
  pub durable : Durable
  pub volatile : Volatile
  pub log : Log
  pub fault : Fault

-- What is to be done: records, changes of what is kept in memory, messages in order, and the refusal with which a message is met.
pub record Plan : Type 0 where
  pub records : List PlainEntry
  pub changes : List Change
  pub sent : List Message
  pub said : Option Refusal

-- what an event has recorded, sent and said, and the state that it leaves
pub record Turn : Type 0 where
  pub after : State
  pub records : List PlainEntry
  pub sent : List Message
  pub said : Option Refusal

-- ---- room

abbrev pub size_of : PlainEntry → ℕ
size_of entry = record_size (encoded Two entry)

abbrev pub size_of_all : List PlainEntry → ℕ
size_of_all entries = sum_by size_of entries

abbrev pub fits : Log → List PlainEntry → Bool
fits log entries = nat_le (log.size + size_of_all entries) log.limit

-- ---- what a plan makes of the state

abbrev pub with_record : State → PlainEntry → State
with_record s entry = record s {
  durable = unwrap_or (applied s.durable entry) s.durable;
  log = record (s.log) { records = s.log.records + 1; size = s.log.size + size_of entry };
}

abbrev pub done : State → Plan → State
done s plan = record (fold with_record s plan.records) { volatile = all_changed s.volatile plan.changes }

abbrev pub turned : State → Plan → Turn
turned s plan = record { after = done s plan; records = plan.records; sent = plan.sent; said = plan.said }

-- nothing happens
abbrev pub unmoved : State → Turn
unmoved s = record { after = s; records = []; sent = []; said = None }

-- a message is met by a refusal that no message tells
abbrev pub met_by : State → Refusal → Turn
met_by s refusal = record { after = s; records = []; sent = []; said = Some refusal }

abbrev pub first_said : Option Refusal → Option Refusal → Option Refusal
first_said None said = said
first_said (Some refusal) said = Some refusal

abbrev pub joined : Turn → Turn → Turn
joined t next = record { after = next.after; records = t.records ++ next.records; sent = t.sent ++ next.sent; said = first_said t.said next.said }

-- one thing, and in the state that it leaves another
abbrev pub and_then : Turn → (State → Turn) → Turn
and_then t next = joined t (next t.after)

-- one after the other for each of a list
abbrev pub for_each : {A : Type 0} → State → List A → (A → State → Turn) → Turn
for_each s [] step = unmoved s
for_each s (x ∷ xs) step = and_then (step x s) (λ next. for_each next xs step)

-- what is done if its records have room, or else another
abbrev pub if_room : State → Turn → Turn → Turn
if_room s t other = if fits s.log t.records then t else other

abbrev pub nothing_to_do : Plan
nothing_to_do = record { records = []; changes = []; sent = []; said = None }

-- ---- messages

abbrev pub post : NodeId → Body → Message
post to body = record { from = nodes.Master; to = to; body = body }

abbrev pub about : ℕ → Said_of_chunk → ℕ → Message
about chunk said server = post (nodes.Server server) (bodies.About chunk said)

-- the same to each of these servers, ascending
abbrev pub to_each : List ℕ → (ℕ → Message) → List Message
to_each servers message = map message servers

abbrev pub reply_to : ReqId → Result Answer Refusal → Message
reply_to req result = post (nodes.Client req.client) (bodies.Reply req result)

-- ---- replies

-- the last reply to a client
abbrev pub last_reply : State → ClientId → Option KeptReply
last_reply s client = later (fin.get s.durable.replies client) (fin.get s.volatile.replies client)

-- these refusals are answered, and not kept
abbrev pub is_kept : Refusal → Bool
is_kept refusals.Old = false
is_kept refusals.Device = false
is_kept refusals.Memory = false
is_kept refusal = true

abbrev pub kept_in_memory : ReqId → Result Answer Refusal → Change
kept_in_memory req result = changes.Keep (req.client) (record { number = req.number; result = result })

-- A refusal leaves a record where there is room, and is kept in memory else; one that comes behind the reply to a later
-- request isn't kept.
abbrev pub said_records : Bool → Log → ReqId → Refusal → List PlainEntry
said_records keeps log req refusal = if keeps && fits log (Said req refusal ∷ []) then Said req refusal ∷ [] else []

abbrev pub said_changes : Bool → Log → ReqId → Refusal → List Change
said_changes keeps log req refusal = if keeps && not (fits log (Said req refusal ∷ [])) then kept_in_memory req (Err refusal) ∷ [] else []

abbrev pub keeps_refusal : State → ReqId → Refusal → Bool
keeps_refusal s req refusal = is_kept refusal && is_later (last_reply s req.client) req.number

abbrev pub refusal_plan : State → ReqId → Refusal → List Change → Option Refusal → Plan
refusal_plan s req refusal further said = record {
  records = said_records (keeps_refusal s req refusal) s.log req refusal;
  changes = said_changes (keeps_refusal s req refusal) s.log req refusal ++ further;
  sent = reply_to req (Err refusal) ∷ [];
  said = said;
}

-- a call is refused in the event that brings it
abbrev pub refused : State → ReqId → Refusal → Turn
refused s req refusal = turned s (refusal_plan s req refusal [] (Some refusal))

-- a call that waits is refused, and ends
abbrev pub end_changes : State → ReqId → List Change
end_changes s req = let_go s.volatile req ++ changes.End req ∷ []

abbrev pub ended_by : State → ReqId → Refusal → Turn
ended_by s req refusal = turned s (refusal_plan s req refusal (end_changes s req) None)

-- the same for several, in this order
abbrev pub all_ended_by : State → List ReqId → Refusal → Turn
all_ended_by s reqs refusal = for_each s reqs (λ req next. ended_by next req refusal)

-- an answer of which no record tells
abbrev pub answer_changes : State → ReqId → Answer → List Change
answer_changes s req answer = if is_later (last_reply s req.client) req.number then kept_in_memory req (Ok answer) ∷ [] else []

abbrev pub answered : State → ReqId → Answer → Plan
answered s req answer = record { records = []; changes = answer_changes s req answer; sent = reply_to req (Ok answer) ∷ []; said = None }

-- ---- ordered refusals: the first whose test passes

abbrev pub first_of : List (Bool × Refusal) → Option Refusal
first_of [] = None
first_of (test ∷ tests) = if test.0 then Some test.1 else first_of tests

-- ---- examples

the_first_that_passes : first_of ((false, refusals.RollingBack) ∷ (true, refusals.Preparing) ∷ (true, refusals.Locked) ∷ []) ≡ Some refusals.Preparing
the_first_that_passes = refl

a_prepare_takes_26_bytes : size_of (Prepare 1 0 0) ≡ 26
a_prepare_takes_26_bytes = refl

mkdirs_takes_23_bytes : size_of (Edited (record { client = record { 0 = 1 }; number = 1 }) (Mkdirs (codes "a" ∷ []))) ≡ 23
mkdirs_takes_23_bytes = refl

abbrev almost_full : Log
almost_full = record { records = 3; size = 76; limit = 100; generation = 1 }

room_for_one_more : fits almost_full (Edited (record { client = record { 0 = 1 }; number = 1 }) (Mkdirs (codes "a" ∷ [])) ∷ []) ≡ true
room_for_one_more = refl

no_room_for_a_prepare : fits almost_full (Prepare 1 0 0 ∷ []) ≡ false
no_room_for_a_prepare = refl

abbrev a_call : ReqId
a_call = record { client = record { 0 = 1 }; number = 7 }

-- a refusal of a call takes 6 bytes of a record's frame, 12 of the call, 1 of the number, 2 of the detail's length
a_refusal_leaves_a_record : said_records true almost_full a_call refusals.NotFound ≡ Said a_call refusals.NotFound ∷ []
a_refusal_leaves_a_record = refl

without_room_it_is_kept_in_memory : said_changes true (record almost_full { size = 80 }) a_call refusals.NotFound ≡ changes.Keep (a_call.client) (record { number = 7; result = Err refusals.NotFound }) ∷ []
without_room_it_is_kept_in_memory = refl

an_old_number_is_not_kept : is_kept refusals.Old ≡ false
an_old_number_is_not_kept = refl
