-- What comes of an event: its turn, or nothing for want of memory, or a part of its records where a disk fails.
use Rattle.std.specs.Prelude.{◌≡◌, ◌⊎◌, ◌<◌, ℕ, List, [], ◌∷◌, length, take, fold, slice_get, Option, Some, None, Result, Ok, Err, refl}
use Rattle.gs_base.specs.declared.config.Config.{Config}
use Rattle.gs_base.specs.declared.numbers.Moment.{Moment}
use Rattle.gs_base.specs.declared.numbers.ReqId.{ReqId}
use Rattle.gs_base.specs.declared.refusal.Refusal.{Refusal}
use Rattle.gs_base.specs.declared.refusal.Refusal.TheVariants as refusals
use Rattle.gs_msg.specs.declared.body.Body.{Body}
use Rattle.gs_msg.specs.declared.body.Body.TheVariants as bodies
use Rattle.gs_msg.specs.declared.call.Call.{Call}
use Rattle.gs_msg.specs.declared.message.Message.{Message}
use Rattle.gs_master_record.specs.Plain.{PlainEntry, Propose, Prepare}
use Rattle.gs_master_spec.specs.Applied.{applied}
use Rattle.gs_master_spec.specs.Durable.{Durable}
use Rattle.gs_master_spec.specs.Handling.{call_turn, replied_again}
use Rattle.gs_master_spec.specs.State.{State, Fault, Sound, Failed, Unopened, Turn, with_record, reply_to}
use Rattle.gs_master_spec.specs.Volatile.{nothing}

-- ---- a disk fails

-- The append of the record at a place failed: the records before it stand, and it stands or doesn't. What is kept in memory is
-- as it was.
abbrev pub cut : State → List PlainEntry → ℕ → State
cut s records place = record (fold with_record s (take place records)) { fault = Failed (slice_get records place) }

-- who has called is left unsure; nobody else is told anything
abbrev pub caller_of : Body → Option ReqId
caller_of (bodies.Call req call) = Some req
caller_of said = None

abbrev pub unsure : Option ReqId → List Message
unsure None = []
unsure (Some req) = reply_to req (Err refusals.Unsure) ∷ []

abbrev pub cut_refusal : Option ReqId → Refusal
cut_refusal None = refusals.Device
cut_refusal (Some req) = refusals.Unsure

pub record IsCut (s : State) (caller : Option ReqId) (t : Turn) (place : ℕ) (sent : List Message) (said : Option Refusal) (new : State) : Type 0 where
  pub within : place < length t.records
  pub after : new ≡ cut s t.records place
  pub sends : sent ≡ unsure caller
  pub says : said ≡ Some (cut_refusal caller)

-- ---- what an event gives

pub record IsDone (t : Turn) (sent : List Message) (said : Option Refusal) (new : State) : Type 0 where
  pub after : new ≡ t.after
  pub sends : sent ≡ t.sent
  pub says : said ≡ t.said

-- The turn is done; or a disk failed at one of its records; or memory was refused, and nothing has happened.
abbrev pub TurnGives : State → Option ReqId → Turn → Result (List Message × Option Refusal) Refusal → State → Type 0
TurnGives s caller t (Ok given) new = IsDone t given.0 given.1 new ⊎ ((place : ℕ) × IsCut s caller t place given.0 given.1 new)
TurnGives s caller t (Err refusal) new = (refusal ≡ refusals.Memory) × (new ≡ s)

-- ---- the next opening

-- what a journal tells that is opened again: a record in doubt stands or doesn't
abbrev pub MayBeFound : Fault → Durable → Durable → Type 0
MayBeFound Sound d found = found ≡ d
MayBeFound (Failed None) d found = found ≡ d
MayBeFound (Failed (Some entry)) d found = (found ≡ d) ⊎ (applied d entry ≡ Some found)
MayBeFound (Unopened None) d found = found ≡ d
MayBeFound (Unopened (Some entry)) d found = (found ≡ d) ⊎ (applied d entry ≡ Some found)

abbrev pub doubt_in : Fault → Option PlainEntry
doubt_in Sound = None
doubt_in (Failed doubt) = doubt
doubt_in (Unopened doubt) = doubt

-- an opening in which a disk failed leaves all in doubt that was, and nothing is kept in memory
abbrev pub unopened : State → State
unopened s = record s { volatile = nothing; fault = Unopened (doubt_in s.fault) }

-- ---- examples

abbrev a_call : ReqId
a_call = record { client = record { 0 = 1 }; number = 7 }

the_caller_is_unsure : unsure (Some a_call) ≡ reply_to a_call (Err refusals.Unsure) ∷ []
the_caller_is_unsure = refl

in_doubt : (s : State) → (cut s (Prepare 1 0 0 ∷ []) 0).fault ≡ Failed (Some (Prepare 1 0 0))
in_doubt s = refl

nothing_stands_before_the_first : (s : State) → (cut s (Propose 7 8 ∷ Prepare 1 0 0 ∷ []) 0).durable ≡ s.durable
nothing_stands_before_the_first s = refl

the_first_stands : (s : State) → (cut s (Propose 7 8 ∷ Prepare 1 0 0 ∷ []) 1).log.records ≡ (with_record s (Propose 7 8)).log.records
the_first_stands s = refl

-- also one that waits, or whose reply was kept
every_call_is_refused_unopened : (config : Config) (s : State) (moment : Moment) (call : Call) → call_turn config (unopened s) a_call moment call ≡ replied_again (unopened s) a_call (Err refusals.Device)
every_call_is_refused_unopened config s moment call = refl

the_doubt_stays : (s : State) (entry : PlainEntry) → (unopened (record s { fault = Failed (Some entry) })).fault ≡ Unopened (Some entry)
the_doubt_stays s entry = refl
