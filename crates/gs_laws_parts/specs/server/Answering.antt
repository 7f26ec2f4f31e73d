-- What a client is told of an edit, as the machine of the chunk has it.
use Rattle.std.specs.Prelude.{◌≡◌, ◌≢◌, ◌<◌, ◌≤◌, ◌⊎◌, ℕ, false, true, List, ◌∷◌, ◌++◌, length, slice_get, Ok, Option, Some, None}
use Rattle.gs_base.specs.declared.numbers.ReqId.{ReqId}
use Rattle.gs_base.specs.declared.numbers.Stamp.{Stamp}
use Rattle.gs_replica.specs.Stands.{Edit, replica_of, outcome_at}
use Rattle.gs_replica.specs.declared.op.EditOutcome.{EditOutcome as Answer}
use Rattle.gs_replica.specs.declared.op.EditOutcome.TheVariants.{Padded}
use Rattle.gs_msg.specs.declared.message.Message.{Message}
use Rattle.gs_msg.specs.declared.chunk.Chunk.{Chunk}
use Rattle.gs_msg.specs.declared.chunk.Chunk.TheVariants as chunks
use Rattle.gs_msg.specs.declared.body.Body.{Body}
use Rattle.gs_msg.specs.declared.body.Body.TheVariants as bodies
use Rattle.gs_msg.specs.declared.op.Op.{Op}
use Rattle.gs_server_lease.specs.Numbering.{is_passed, is_too_long}
use Rattle.gs_laws_chunk.specs.machine.Stamps.{stamp_at}
use Rattle.gs_laws_chunk.specs.machine.Machine.{Known, ChunkWorld, WasTold, Done}
use Rattle.gs_laws_parts.specs.server.Causes.{Cause, Edits}
use Rattle.gs_laws_parts.specs.server.Showing.{Setting}

-- A request's edit is done in the machine at its place in a list of a view, and the outcome is that of the text before it.
pub record IsAnswered (c : Setting) (w : ChunkWorld) (me : ℕ) (asked : ReqId) (outcome : Answer) : Type 0 where
  pub stamp : ℕ
  pub edit : Edit
  pub before : List Edit
  pub behind : List Edit
  pub told : WasTold w me (Done stamp (length before) edit)
  pub req : edit.req ≡ asked
  pub stands : w.known.list stamp ≡ before ++ edit ∷ behind
  pub is : outcome ≡ outcome_at edit.op (length (replica_of c.size before).bytes)

-- a view in which a server may number was settled, behind that of the birth
pub record IsLed (k : Known) (stamp : ℕ) : Type 0 where
  pub by : ℕ
  pub holder : k.holder stamp ≡ Some by
  pub stood : k.stood stamp ≡ true
  pub late : k.born < stamp

-- Or it isn't an edit: a record of some bytes, no longer than it may be, that comes to a full chunk is passed on. The first edits of the list of the view under whose stamp it
-- was asked for fill the chunk, none of them is of its request, and the view was settled, with a server that may number in it.
pub record IsPassed (c : Setting) (w : ChunkWorld) (under : Stamp) (asked : ReqId) (op : Op) (outcome : Answer) : Type 0 where
  pub padded : outcome ≡ Padded
  pub short : is_too_long c.size op ≡ false
  pub passed : is_passed c.size c.size op ≡ true
  pub stamp : ℕ
  pub under_is : under ≡ stamp_at stamp
  pub settled : stamp ≤ w.entry.view.stamp
  pub before : List Edit
  pub behind : List Edit
  pub stands : w.known.list stamp ≡ before ++ behind
  pub full : length (replica_of c.size before).bytes ≡ c.size
  pub fresh : (place : ℕ) (edit : Edit) → slice_get before place ≡ Some edit → edit.req ≢ asked
  pub led : IsLed w.known stamp

-- only the client's edit that is heard is passed on
abbrev pub PassesHeard : Cause → Setting → ChunkWorld → ReqId → Answer → Type 0
PassesHeard (Edits under req op) c w asked outcome = (req ≡ asked) × IsPassed c w under asked op outcome
PassesHeard cause c w asked outcome = ⊥

-- of what a server sends, the messages that tell a client that its edit is done
abbrev pub AnswersBody : Cause → Setting → ChunkWorld → ℕ → Body → Type 0
AnswersBody cause c w me (bodies.Done req (Ok outcome)) = IsAnswered c w me req outcome ⊎ PassesHeard cause c w req outcome
AnswersBody cause c w me body = Unit {0}

abbrev pub AnswersEdit : Cause → Setting → ChunkWorld → ℕ → Message → Type 0
AnswersEdit cause c w me m = AnswersBody cause c w me m.body

-- no client is told that its edit is done
abbrev pub NoYes : Body → Type 0
NoYes (bodies.Done req (Ok outcome)) = ⊥
NoYes body = Unit {0}

-- the chunk that a message is about
abbrev pub handle_in : Body → Option ℕ
handle_in (bodies.About handle said) = Some handle
handle_in body = None

-- What a server sends: none of what the master or clients say. Of a chunk it says what it promises or doesn't, asks for its lease, forwards
-- edits and tells of them, copies a replica, and tells that one is bad.
abbrev pub IsByServerAbout : Chunk → Type 0
IsByServerAbout (chunks.Promised stamp count carried) = Unit {0}
IsByServerAbout (chunks.Unpromised stamp refusal) = Unit {0}
IsByServerAbout (chunks.Renew stamp) = Unit {0}
IsByServerAbout (chunks.Forward stamp number req op carried) = Unit {0}
IsByServerAbout (chunks.Ack stamp count) = Unit {0}
IsByServerAbout (chunks.Nack stamp refusal) = Unit {0}
IsByServerAbout (chunks.CopyIn stamp image sealed) = Unit {0}
IsByServerAbout (chunks.Bad stamp) = Unit {0}
IsByServerAbout said = ⊥

abbrev pub IsByServer : Body → Type 0
IsByServer (bodies.About handle said) = IsByServerAbout said
IsByServer (bodies.MakeCopy handle at new_handle stamp) = ⊥
IsByServer (bodies.Epoch epoch end) = ⊥
IsByServer (bodies.Push req bytes) = ⊥
IsByServer (bodies.Call req call) = ⊥
IsByServer (bodies.Reply req result) = ⊥
IsByServer body = Unit {0}

-- What a server sends tells clients of edits of the chunk that the message was about, if any: so the machine of that chunk has them.
abbrev pub AnswersOf : Cause → Setting → ℕ → ChunkWorld → ℕ → Option ℕ → Message → Type 0
AnswersOf cause c chunk w me (Some handle) m = IsByServer m.body × (handle ≡ chunk → AnswersBody cause c w me m.body)
AnswersOf cause c chunk w me None m = IsByServer m.body × NoYes m.body
