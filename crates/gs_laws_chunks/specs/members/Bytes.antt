-- What an accepted rollback leaves at the members of a chunk, by what the nodes of a store alone have.
use Rattle.std.specs.Prelude.{[], ◌<◌, ◌∷◌, ◌≡◌, ◌⊎◌, List, None, Some, false, refl, slice_get, true, ℕ}
use Rattle.std.specs.FinMap as fin
use Rattle.gs_base.specs.Members.{is_member}
use Rattle.gs_base.specs.Stamps.{is_before}
use Rattle.gs_block.specs.Written.{TellsApart}
use Rattle.gs_master_spec.specs.Durable.{Durable, Settled}
use Rattle.gs_msg.specs.declared.message.Message.{Message}
use Rattle.gs_msg.specs.declared.message.MsgId.{MsgId}
use Rattle.gs_nodes.specs.declared.place.MasterPlace.{MasterPlace}
use Rattle.gs_refs.specs.Counts.{count_or_zero}
use Rattle.gs_server.specs.Runs.{slot_in}
use Rattle.gs_server.specs.Servers.{Server}
use Rattle.gs_store.specs.Learning.{start_of}
use Rattle.gs_world.specs.Histories.{History}
use Rattle.gs_world.specs.Runs.{Step}
use Rattle.gs_world.specs.Sent.{message_of}
use Rattle.gs_laws_chunks.specs.accounts.Accepting.{NamesChunk, NoRestart, TakesSuch}
use Rattle.gs_laws_chunks.specs.accounts.Back.{GoesBackBy, HasBytes, IsMemberAt, MasterKeeps, RunsWithinBy}
use Rattle.gs_laws_chunks.specs.accounts.Moving.{call_in, event_at}
use Rattle.gs_laws_chunks.specs.accounts.Running.{IsToldAt, RunsBare, Setup}
use Rattle.gs_laws_chunks.specs.accounts.Upgrading.{is_harm_or_drop}

-- A message is sent at a step, at this place of what its node has sent. After the step a server has a live replica of the chunk with these bytes, each block with its digest.
pub record SaysWith {D : Type 0} (chunk server : ℕ) (bytes : List ℕ) (place : MsgId) (message : Message) (old mid : History D) : Type 0 where
  pub new : message_of old.sent place ≡ None
  pub sent : message_of mid.sent place ≡ Some message
  pub has : HasBytes mid server chunk bytes

module _ {D : Type 0} (x : Setup D) (Keeps : MasterPlace D → Durable → Type 0) where
  -- the master took such a message at one of these steps, and wasn't restarted since
  abbrev pub HasTakenBy : (Message → Type 0) → (steps : List Step) (old new : History D) → RunsWithinBy x Keeps steps old new → Type 0
  HasTakenBy Such [] old new runs = ⊥
  HasTakenBy Such (step ∷ steps) old new (mid, one, going, rest) = (TakesSuch x Such step old mid one.goes × NoRestart steps) ⊎ HasTakenBy Such steps mid new rest

  -- the message was sent so at one of these steps, the master took it at a later one, and this holds from there
  abbrev pub HasSaidBy : (new : History D) → ((steps : List Step) (mid : History D) → RunsWithinBy x Keeps steps mid new → Type 0) → (chunk server : ℕ) (bytes : List ℕ) (place : MsgId) (message : Message) (steps : List Step) (old : History D) → RunsWithinBy x Keeps steps old new → Type 0
  HasSaidBy new From chunk server bytes place message [] old runs = ⊥
  HasSaidBy new From chunk server bytes place message (step ∷ steps) old (mid, one, going, rest) =
      (SaysWith chunk server bytes place message old mid × HasTakenBy (λ (m : Message). m ≡ message) steps mid new rest × From steps mid rest) ⊎ HasSaidBy new From chunk server bytes place message steps mid rest

  -- in no step a server loses, damages or drops what it has of a chunk: what it refuses is none
  abbrev pub HarmsOrDropsNoneBetween : (chunk server : ℕ) (steps : List Step) (old new : History D) → RunsWithinBy x Keeps steps old new → Type 0
  HarmsOrDropsNoneBetween chunk server [] old new runs = Unit {0}
  HarmsOrDropsNoneBetween chunk server (step ∷ steps) old new (mid, one, going, rest) =
      (is_harm_or_drop (call_in chunk (event_at step old.sent server) (slice_get old.nodes.servers server)) ≡ false) × HarmsOrDropsNoneBetween chunk server steps mid new rest

  abbrev pub HarmsOrDropsNoneBare : (chunk server : ℕ) (steps : List Step) (old new : History D) → RunsBare x steps old new → Type 0
  HarmsOrDropsNoneBare chunk server [] old new runs = Unit {0}
  HarmsOrDropsNoneBare chunk server (step ∷ steps) old new (mid, one, rest) = (is_harm_or_drop (call_in chunk (event_at step old.sent server) (slice_get old.nodes.servers server)) ≡ false) × HarmsOrDropsNoneBare chunk server steps mid new rest

  -- The server has these bytes in each world after the commit, if nothing of what it has of the chunk was lost, damaged or dropped since a world on the way,
  -- and if it has made no greater promise than the first one of the rollback's epoch.
  abbrev pub KeepsBytesSince : (prepared back : History D) (before last : Durable) (goes : GoesBackBy x Keeps prepared back before last) (chunk server : ℕ) (bytes : List ℕ) (steps : List Step) (mid : History D) → RunsWithinBy x Keeps steps mid goes.now → Type 0
  KeepsBytesSince prepared back before last goes chunk server bytes steps mid rest = (later : History D) (more : List Step) (s : Server) (runs : RunsBare x more back later) → HarmsOrDropsNoneBetween chunk server steps mid goes.now rest →
      HarmsOrDropsNoneBare chunk server (goes.commit ∷ more) goes.now later (back, goes.commits, runs) → slice_get later.nodes.servers server ≡ Some s → is_before (start_of goes.rolling.epoch) (slot_in chunk s).promise ≡ false → HasBytes later server chunk bytes

  -- a server has named the chunk between the prepare and the commit, had these bytes then, and keeps them so
  pub record HasNamedBy (prepared back : History D) (before last : Durable) (goes : GoesBackBy x Keeps prepared back before last) (chunk server : ℕ) (bytes : List ℕ) : Type 0 where
    pub place : MsgId
    pub message : Message
    pub names : NamesChunk goes.rolling.epoch chunk server message
    pub said : HasSaidBy goes.now (KeepsBytesSince prepared back before last goes chunk server bytes) chunk server bytes place message goes.between prepared goes.rest

  -- After a rollback a chunk has a member. Each member has named it between, in a message that the commit counts. After the event that sent it the member had these bytes, and it keeps them as said.
  -- They are those that each sound replica of a member had right after the prepare.
  pub record LeavesBytes (prepared back : History D) (before last : Durable) (goes : GoesBackBy x Keeps prepared back before last) (chunk : ℕ) : Type 0 where
    pub settled : Settled
    pub told : fin.get last.chunks chunk ≡ Some settled
    pub some : (server : ℕ) × (is_member settled.view.members server ≡ true)
    pub bytes : List ℕ
    pub each : (server : ℕ) → is_member settled.view.members server ≡ true → HasNamedBy prepared back before last goes chunk server bytes
    pub those : (id : ℕ) (had : List ℕ) → IsMemberAt before chunk id → HasBytes prepared id chunk had → had ≡ bytes

  -- This holds of each chunk that stood in a file at the prepare, where digests tell blocks apart.
  abbrev pub LeavesBytesBy : Type 0
  LeavesBytesBy = (prepared back : History D) (before last : Durable) (chunk : ℕ) → TellsApart x.among → (goes : GoesBackBy x Keeps prepared back before last) → 0 < count_or_zero (fin.get before.names.refs chunk) → LeavesBytes prepared back before last goes chunk

-- by what the master keeps
abbrev pub RollbackLeavesBytes : {D : Type 0} → Setup D → Type 0
RollbackLeavesBytes x = LeavesBytesBy x MasterKeeps

-- by what its disks tell: a prepare or a commit at whose record a disk failed is one if that record stands
abbrev pub RollbackLeavesTold : {D : Type 0} → Setup D → Type 0
RollbackLeavesTold x = LeavesBytesBy x (IsToldAt x.seen)

-- ---- Worked

-- within no steps no message is sent
no_step_says_it : {D : Type 0} (x : Setup D) (chunk server : ℕ) (bytes : List ℕ) (place : MsgId) (message : Message) (now : History D) → HasSaidBy x MasterKeeps now (λ steps mid rest. Unit {0}) chunk server bytes place message [] now refl → ⊥
no_step_says_it x chunk server bytes place message now said = said
