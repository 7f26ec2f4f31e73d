-- Where clients were told that a chunk is.
use Rattle.std.specs.Prelude.{◌++◌, ◌≡◌, ◌⊎◌, ℕ, false, Some, Ok, refl}
use Rattle.std.specs.FinMap as fin
use Rattle.std.specs.List.{AllByRecursion}
use Rattle.gs_base.specs.declared.config.Config.{Config}
use Rattle.gs_base.specs.declared.numbers.ReqId.{ReqId}
use Rattle.gs_base.specs.declared.refusal.Refusal.TheVariants as refusals
use Rattle.gs_lease.specs.declared.view.View.{View}
use Rattle.gs_msg.specs.declared.answer.Answer.TheVariants as answers
use Rattle.gs_msg.specs.declared.body.Body.{Body}
use Rattle.gs_msg.specs.declared.body.Body.TheVariants as bodies
use Rattle.gs_msg.specs.declared.message.Message.{Message}
use Rattle.gs_path.specs.Path.{Path}
use Rattle.gs_master_spec.specs.Replies.{client_cmp}
use Rattle.gs_master_spec.specs.State.{State, Turn}
use Rattle.gs_master_spec.specs.declared.reply.KeptReply.{KeptReply}
use Rattle.gs_laws_moves.specs.moves.Guards.{Heard, IsLocatedBy, IsMade}
use Rattle.gs_laws_moves.specs.moves.Moves.{Answers, Chain, Extends, Move, Refuses, move_turn}

-- The move answers this call: the chunk is where this view has it, in this epoch: it answers a look-up, or an extend.
abbrev pub Locates : State → Move → (caller : ReqId) (chunk : ℕ) → View → (epoch : ℕ) → Type 0
Locates s (Answers req answer over) caller chunk view epoch = (answer ≡ answers.Location chunk view epoch) × (req ≡ caller)
Locates s (Extends req path new at) caller chunk view epoch = (new ≡ chunk) × (at ≡ view) × (s.durable.epoch ≡ epoch) × (req ≡ caller)
Locates s move caller chunk view epoch = ⊥

-- So it is behind a move that tells so.
abbrev pub LocatedAreRight : Type 0
LocatedAreRight = (config : Config) (heard : Heard) (s : State) (move : Move) (caller : ReqId) (chunk : ℕ) (view : View) (epoch : ℕ) → IsMade config heard s move → Locates s move caller chunk view epoch → IsLocatedBy (move_turn config s move).after chunk view epoch

-- so the last reply to this call's client tells, of those that are kept, and it answers the call
pub record IsToldIn (replies : fin.FinMap client_cmp KeptReply) (caller : ReqId) (chunk : ℕ) (view : View) (epoch : ℕ) : Type 0 where
  pub reply : KeptReply
  pub has : fin.get replies caller.client ≡ Some reply
  pub number : reply.number ≡ caller.number
  pub is : reply.result ≡ Ok (answers.Location chunk view epoch)

abbrev pub KeepsLocation : State → (caller : ReqId) (chunk : ℕ) → View → (epoch : ℕ) → Type 0
KeepsLocation s caller chunk view epoch = IsToldIn s.durable.replies caller chunk view epoch ⊎ IsToldIn s.volatile.replies caller chunk view epoch

-- A move of the turn tells so. Some moves were made before it, and the others after it. The records of the turn are those of these moves.
pub record IsLocatedWithin (config : Config) (Holds : State → Move → Type 0) (s : State) (t : Turn) (caller : ReqId) (chunk : ℕ) (view : View) (epoch : ℕ) : Type 0 where
  pub before : Turn
  pub first : Chain config Holds s before
  pub move : Move
  pub holds : Holds before.after move
  pub locates : Locates before.after move caller chunk view epoch
  pub next : Turn
  pub rest : Chain config Holds (move_turn config before.after move).after next
  pub last : t.after ≡ next.after
  pub records : t.records ≡ before.records ++ ((move_turn config before.after move).records ++ next.records)

-- it was told before, or a move of the turn tells so
abbrev pub WasLocated : Config → (State → Move → Type 0) → State → Turn → (caller : ReqId) (chunk : ℕ) → View → (epoch : ℕ) → Type 0
WasLocated config Holds s t caller chunk view epoch = KeepsLocation s caller chunk view epoch ⊎ IsLocatedWithin config Holds s t caller chunk view epoch

-- So it is of each reply that is kept behind a chain,
abbrev pub KeptWereLocated : Type 0
KeptWereLocated = (config : Config) (heard : Heard) (s : State) (t : Turn) (caller : ReqId) (chunk : ℕ) (view : View) (epoch : ℕ) → Chain config (IsMade config heard) s t → KeepsLocation t.after caller chunk view epoch → WasLocated config (IsMade config heard) s t caller chunk view epoch

-- a reply tells where a chunk is only where that is so
abbrev pub IsToldOnlyIf : (Was : ReqId → ℕ → View → ℕ → Type 0) → Body → Type 0
IsToldOnlyIf Was (bodies.Reply req (Ok (answers.Location chunk view epoch))) = Was req chunk view epoch
IsToldOnlyIf Was body = Unit {0}

-- and of each that is sent.
abbrev pub SentWereLocated : Type 0
SentWereLocated = (config : Config) (heard : Heard) (s : State) (t : Turn) → Chain config (IsMade config heard) s t → AllByRecursion (λ (m : Message). IsToldOnlyIf (WasLocated config (IsMade config heard) s t) m.body) t.sent

-- ---- examples

a_look_up_tells_so : (s : State) (req : ReqId) (view : View) → Locates s (Answers req (answers.Location 7 view 3) false) req 7 view 3
a_look_up_tells_so s req view = (refl, refl)

an_extend_tells_of_its_epoch : (s : State) (req : ReqId) (path : Path) (view : View) → Locates s (Extends req path 7 view) req 7 view s.durable.epoch
an_extend_tells_of_its_epoch s req path view = (refl, refl, refl, refl)

a_refusal_tells_of_no_chunk : (s : State) (req : ReqId) (view : View) → Locates s (Refuses req refusals.NoReplica false) req 7 view 3 ≡ ⊥
a_refusal_tells_of_no_chunk s req view = refl
