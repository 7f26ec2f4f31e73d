-- What a read of a chunk gives.
use Rattle.std.specs.Prelude.{[], ◌++◌, ◌∷◌, ◌≡◌, ◌⊎◌, Contains, Err, List, None, Ok, Result, Some, drop, false, length, refl, take, true, ℕ}
use Rattle.gs_base.specs.Members.{is_member}
use Rattle.gs_base.specs.Stamps.{is_before}
use Rattle.gs_base.specs.declared.numbers.ReqId.{ReqId}
use Rattle.gs_base.specs.declared.numbers.Stamp.{Stamp}
use Rattle.gs_base.specs.declared.refusal.Refusal.{Refusal}
use Rattle.gs_block.specs.Stored.{digest_at}
use Rattle.gs_lease.specs.declared.view.View.{View}
use Rattle.gs_msg.specs.declared.message.Message.{Message}
use Rattle.gs_msg.specs.declared.message.MsgId.{MsgId}
use Rattle.gs_laws_chunks.specs.accounts.Accounts.{Account, settled_count, text_of, view_at}
use Rattle.gs_laws_chunks.specs.accounts.Running.{IsReached, Moves, Runs, Setup}
use Rattle.gs_world.specs.Runs.{Comes, Step}
use Rattle.gs_world.specs.Sent.{IsSent, Sent, message_of}
use Rattle.gs_msg.specs.declared.answer.Answer.TheVariants as answers
use Rattle.gs_laws_lift.specs.stores.Copying.{copied_from}
use Rattle.gs_msg.specs.declared.body.Body.TheVariants as bodies
use Rattle.gs_msg.specs.declared.body.Given.{Given}
use Rattle.gs_msg.specs.declared.body.Given.TheVariants as givens
use Rattle.gs_msg.specs.declared.call.Call.{Call}
use Rattle.gs_msg.specs.declared.chunk.Asked.{Asked}
use Rattle.gs_msg.specs.declared.chunk.Asked.TheVariants as asks
use Rattle.gs_msg.specs.declared.chunk.Chunk.TheVariants as chunks
use Rattle.gs_msg.specs.declared.node.NodeId.{NodeId}
use Rattle.gs_msg.specs.declared.node.NodeId.TheVariants as nodes
use Rattle.gs_msg.specs.declared.event.Event.{Event}
use Rattle.gs_msg.specs.declared.event.Happening.TheVariants as happenings
use Rattle.gs_replica.specs.Stands.{Edit}
use Rattle.gs_world.specs.Histories.{Happens, History, Upshot}
use Rattle.gs_master_spec.specs.Durable.{is_listed, is_rolling}

-- what is asked of a text in blocks of a size: bytes from an offset on, as far as there are any, how many there are, or the digest of a block
abbrev pub given_of : ℕ → List ℕ → Asked → Given
given_of size bytes (asks.Bytes offset many) = givens.Bytes (take many (drop offset bytes))
given_of size bytes asks.Length = givens.Length (length bytes)
given_of size bytes (asks.Digest block) = givens.Digest (digest_at size bytes block)

-- ---- look-ups

-- A file has the chunk, or had it, its view that was settled last is this one, this is the epoch, and no rollback is going on: as the records tell, so a look-up is
-- answered.
pub record IsLookedUp (a : Account) (chunk : ℕ) (view : View) (epoch : ℕ) : Type 0 where
  pub listed : is_listed a.durable chunk ≡ true
  pub settled : view_at a chunk ≡ Some view
  pub now : a.durable.epoch ≡ epoch
  pub calm : is_rolling a.durable.phase ≡ false

-- a client was told of this view of a chunk, in this epoch, in answer to this call
abbrev pub WasLocated : Sent → ReqId → ℕ → View → ℕ → Type 0
WasLocated sent req chunk view epoch = (message : Message) × IsSent message sent × (message.body ≡ bodies.Reply req (Ok (answers.Location chunk view epoch)))

-- this was called
abbrev pub WasCalled : Sent → ReqId → Type 0
WasCalled sent req = (message : Message) × (call : Call) × IsSent message sent × (message.body ≡ bodies.Call req call)

-- ---- reads

-- A server is asked under a view that was told, of which it is a member, in the epoch of then.
abbrev pub IsFetch : Sent → Event → ℕ → View → ℕ → ReqId → Asked → Type 0
IsFetch sent event chunk view epoch req asked =
    (id : MsgId) × (message : Message) × (server : ℕ) × (event.happening ≡ happenings.Deliver id) × (message_of sent id ≡ Some message) × (message.to ≡ nodes.Server server)
    × (is_member view.members server ≡ true) × (message.body ≡ bodies.About chunk (chunks.Fetch req view.stamp epoch asked))

-- what is sent at an event
abbrev pub sent_at : Upshot → List Message
sent_at (Ok out) = out.0
sent_at (Err refusal) = []

-- what is answered at it
abbrev pub GivesBytes : List Message → ReqId → Given → Type 0
GivesBytes sent req given = (message : Message) × Contains sent message × (message.body ≡ bodies.Bytes req (Ok given))

-- The part that was asked for, of the text of a beginning of a list, as the account has it. The list is the chunk's own, of whichever view, or, until the first view of a
-- copy is settled, that of the chunk of which it is one.
pub record IsOfText (block size : ℕ) (a : Account) (sent : Sent) (chunk : ℕ) (asked : Asked) (given : Given) : Type 0 where
  pub source : ℕ
  pub stamp : Stamp
  pub own : (source ≡ chunk) ⊎ ((copied_from sent chunk ≡ Some (source, stamp)) × (view_at a chunk ≡ None))
  pub edits : List Edit
  pub behind : List Edit
  pub beginning : a.list source stamp ≡ edits ++ behind
  pub gives : given ≡ given_of block (text_of size edits) asked

-- A server is asked for this request, whatever it is asked for, and under whichever stamp; and what is given is of a text of the chunk that is asked for, as
-- the lists are right before the event.
pub record WasFetched (block size : ℕ) (a : Account) (all : Sent) (event : Event) (by : NodeId) (req : ReqId) (given : Given) : Type 0 where
  pub id : MsgId
  pub message : Message
  pub server : ℕ
  pub comes : event.happening ≡ happenings.Deliver id
  pub was : message_of all id ≡ Some message
  pub to : message.to ≡ nodes.Server server
  pub there : by ≡ nodes.Server server
  pub chunk : ℕ
  pub stamp : Stamp
  pub epoch : ℕ
  pub asked : Asked
  pub asks : message.body ≡ bodies.About chunk (chunks.Fetch req stamp epoch asked)
  pub of : IsOfText block size a all chunk asked given

-- The part that was asked for, of the text of a beginning of the list of this view or a later one; and that has at least the edits that were settled in
-- the view at the look-up.
pub record IsLegalRead (block size : ℕ) (before now : Account) (chunk : ℕ) (view : View) (asked : Asked) (given : Given) : Type 0 where
  pub stamp : Stamp
  pub later : is_before stamp view.stamp ≡ false
  pub edits : List Edit
  pub behind : List Edit
  pub beginning : now.list chunk stamp ≡ edits ++ behind
  pub others : List Edit
  pub enough : edits ≡ take (settled_count before chunk view) (before.list chunk view.stamp) ++ others
  pub gives : given ≡ given_of block (text_of size edits) asked

module _ {D : Type 0} (x : Setup D) where
  -- A world was come to in which a look-up is answered so, and steps have led on from it. The call that is answered had been sent then: no answer is older than
  -- its request.
  pub record WasLookedUp (now : History D) (b : Account) (req : ReqId) (chunk : ℕ) (view : View) (epoch : ℕ) : Type 0 where
    pub looked : History D
    pub a : Account
    pub reached : IsReached x looked a
    pub steps : List Step
    pub runs : Runs x steps looked a now b
    pub is : IsLookedUp a chunk view epoch
    pub since : WasCalled looked.sent req

  -- So it was of each view that any client was ever told. It needn't be where the client was first told: an answer that is kept may be sent later, when another
  -- view has been settled.
  abbrev pub LocationsWereLookedUp : Type 0
  LocationsWereLookedUp = (now : History D) (b : Account) (req : ReqId) (chunk epoch : ℕ) (view : View) → IsReached x now b → WasLocated now.sent req chunk view epoch → WasLookedUp now b req chunk view epoch

  -- Whatever anybody gives, it is a server that gives it, where it is asked for that request, and it is of a text of the chunk: nothing else is ever read.
  abbrev pub BytesAreFetched : Type 0
  BytesAreFetched = (now next : History D) (a b : Account) (event : Event) (said : Result (Unit {0}) Refusal) (req : ReqId) (given : Given) → IsReached x now a → Moves x (Comes event) now a next b →
      (happens : Happens x.seen x.failures x.armed event now said next) → GivesBytes (sent_at happens.outcome) req given → WasFetched x.config.block x.config.chunk a now.sent event happens.by req given

  -- Whatever has happened since the look-up, a member gives that, or refuses.
  abbrev pub ReadsAreLegal : Type 0
  ReadsAreLegal = (looked now next : History D) (a b c : Account) (steps : List Step) (event : Event) (said : Result (Unit {0}) Refusal) (chunk epoch : ℕ) (view : View) (req : ReqId) (asked : Asked) (given : Given) →
      IsReached x looked a → IsLookedUp a chunk view epoch → Runs x steps looked a now b → Moves x (Comes event) now b next c →
      (happens : Happens x.seen x.failures x.armed event now said next) → IsFetch now.sent event chunk view epoch req asked → GivesBytes (sent_at happens.outcome) req given →
      IsLegalRead x.config.block x.config.chunk a b chunk view asked given

-- ---- Worked, of five bytes in blocks of four
two_bytes : given_of 4 (1 ∷ 2 ∷ 3 ∷ 4 ∷ 5 ∷ []) (asks.Bytes 3 2) ≡ givens.Bytes (4 ∷ 5 ∷ [])
two_bytes = refl

fewer_at_the_end : given_of 4 (1 ∷ 2 ∷ 3 ∷ 4 ∷ 5 ∷ []) (asks.Bytes 4 8) ≡ givens.Bytes (5 ∷ [])
fewer_at_the_end = refl

how_many : given_of 4 (1 ∷ 2 ∷ 3 ∷ 4 ∷ 5 ∷ []) asks.Length ≡ givens.Length 5
how_many = refl
