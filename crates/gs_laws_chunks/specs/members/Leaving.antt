-- What an accepted rollback leaves at the members of a chunk: the text of the prepare. Each member has it from the event on at which it named the chunk.
use Rattle.std.specs.Prelude.{[], ◌<◌, ◌∷◌, ◌≡◌, ◌⊎◌, List, None, Some, false, refl, slice_get, true, ℕ}
use Rattle.gs_base.specs.Members.{is_member}
use Rattle.gs_base.specs.Stamps.{is_before}
use Rattle.gs_base.specs.declared.numbers.Stamp.{Stamp}
use Rattle.gs_master_spec.specs.Durable.{is_rolling}
use Rattle.gs_msg.specs.declared.message.Message.{Message}
use Rattle.gs_msg.specs.declared.message.MsgId.{MsgId}
use Rattle.gs_replica.specs.Stands.{Edit}
use Rattle.gs_server.specs.Runs.{slot_in}
use Rattle.gs_server.specs.Servers.{Server}
use Rattle.gs_store.specs.Learning.{is_named, start_of}
use Rattle.gs_world.specs.Histories.{History}
use Rattle.gs_world.specs.Runs.{Step}
use Rattle.gs_world.specs.Sent.{message_of}
use Rattle.gs_laws_chunks.specs.accounts.Accepting.{HasTaken, IsGivenTo, NamesChunk, references_then}
use Rattle.gs_laws_chunks.specs.accounts.Accounts.{Account, settled_edits}
use Rattle.gs_laws_chunks.specs.accounts.Back.{HasRolledBack}
use Rattle.gs_laws_chunks.specs.accounts.Moving.{call_in, event_at}
use Rattle.gs_laws_chunks.specs.accounts.Running.{Runs, Setup}
use Rattle.gs_laws_chunks.specs.accounts.Sealing.{IsLiveWith}
use Rattle.gs_laws_chunks.specs.accounts.Upgrading.{IsUpgrading, RunsUpgraded, HarmsOrDropsNone, is_current, is_harm_or_drop}

module _ {D : Type 0} (x : Setup D) where
  -- in no step within an upgrade a server loses, damages or drops what it has of a chunk: what it refuses is none
  abbrev pub HarmsOrDropsNoneWithin : (chunk server : ℕ) (steps : List Step) (old : History D) (a : Account) (new : History D) (b : Account) → RunsUpgraded x steps old a new b → Type 0
  HarmsOrDropsNoneWithin chunk server [] old a new b runs = Unit {0}
  HarmsOrDropsNoneWithin chunk server (step ∷ steps) old a new b (mid, c, moves, going, rest) =
      (is_harm_or_drop (call_in chunk (event_at step old.sent server) (slice_get old.nodes.servers server)) ≡ false) × HarmsOrDropsNoneWithin chunk server steps mid c new b rest

  -- a server has a live replica of a chunk with just this text, under this promise
  pub record HasLive (chunk server : ℕ) (promise : Stamp) (edits : List Edit) (now : History D) : Type 0 where
    pub s : Server
    pub there : slice_get now.nodes.servers server ≡ Some s
    pub has : IsLiveWith x.config.chunk promise edits (slot_in chunk s)

  -- In each later world of each run from here a server has this text of a chunk, live under this promise, if nothing of what it has of the chunk was lost, damaged or dropped on the way,
  -- and if it has made no greater promise.
  abbrev pub KeepsLive : (chunk server : ℕ) (promise : Stamp) (edits : List Edit) (now : History D) (a : Account) → Type 0
  KeepsLive chunk server promise edits now a = (later : History D) (b : Account) (steps : List Step) (s : Server) (runs : Runs x steps now a later b) → HarmsOrDropsNone x chunk server steps now a later b runs →
      slice_get later.nodes.servers server ≡ Some s → is_before promise (slot_in chunk s).promise ≡ false → IsLiveWith x.config.chunk promise edits (slot_in chunk s)

  -- ---- a member

  module _ (prepared now back : History D) (before after last : Account) (r : HasRolledBack x prepared before now after back last) (chunk server : ℕ) (place : MsgId) (message : Message) where
    -- A message is sent at a step, at this place of what its node has sent.
    -- After the step its server has the text of the prepare, live under the first stamp of the rollback's epoch.
    pub record SaysAt (old mid : History D) : Type 0 where
      pub new : message_of old.sent place ≡ None
      pub sent : message_of mid.sent place ≡ Some message
      pub live : HasLive chunk server (start_of after.durable.epoch) (settled_edits before chunk) mid

    -- The server has that text still in each world after the commit, whatever happens, if nothing of what it has of the chunk was lost, damaged or dropped since that step,
    -- and if it has made no greater promise.
    abbrev pub KeepsSince : (steps : List Step) (mid : History D) (c : Account) → RunsUpgraded x steps mid c now after → Type 0
    KeepsSince steps mid c rest = (later : History D) (b : Account) (more : List Step) (s : Server) (runs : Runs x more back last later b) → HarmsOrDropsNoneWithin chunk server steps mid c now after rest →
        HarmsOrDropsNone x chunk server (r.step ∷ more) now after later b (back, last, r.moves, runs) → slice_get later.nodes.servers server ≡ Some s → is_before (start_of after.durable.epoch) (slot_in chunk s).promise ≡ false →
        IsLiveWith x.config.chunk (start_of after.durable.epoch) (settled_edits before chunk) (slot_in chunk s)

    -- It has the text in each world on the way to the commit, under the same two conditions.
    abbrev pub KeepsOnTheWay : (steps : List Step) (old : History D) (a : Account) → RunsUpgraded x steps old a now after → Type 0
    KeepsOnTheWay [] old a runs = Unit {0}
    KeepsOnTheWay (step ∷ steps) old a (mid, c, moves, going, rest) = is_harm_or_drop (call_in chunk (event_at step old.sent server) (slice_get old.nodes.servers server)) ≡ false →
        ((s : Server) → slice_get mid.nodes.servers server ≡ Some s → is_before (start_of after.durable.epoch) (slot_in chunk s).promise ≡ false → IsLiveWith x.config.chunk (start_of after.durable.epoch) (settled_edits before chunk) (slot_in chunk s))
        × KeepsOnTheWay steps mid c rest

    -- The message was sent at one of these steps. The master took it at a later one, and wasn't restarted since. So the commit counts it.
    abbrev pub HasSaid : (steps : List Step) (old : History D) (a : Account) → RunsUpgraded x steps old a now after → Type 0
    HasSaid [] old a runs = ⊥
    HasSaid (step ∷ steps) old a (mid, c, moves, going, rest) =
        (SaysAt old mid × HasTaken x (λ (m : Message). m ≡ message) steps mid c now after rest × KeepsOnTheWay steps mid c rest × KeepsSince steps mid c rest) ⊎ HasSaid steps mid c rest

  -- a member has named the chunk so at a step between the prepare and the commit
  pub record HasNamed (prepared now back : History D) (before after last : Account) (r : HasRolledBack x prepared before now after back last) (chunk server : ℕ) : Type 0 where
    pub place : MsgId
    pub message : Message
    pub names : NamesChunk after.durable.epoch chunk server message
    pub said : HasSaid prepared now back before after last r chunk server place message r.upgrade.steps prepared before r.upgrade.runs

  -- After a rollback a chunk has a member, its view has no primary, and each member has named it so.
  pub record LeavesMembers (prepared now back : History D) (before after last : Account) (r : HasRolledBack x prepared before now after back last) (chunk : ℕ) : Type 0 where
    pub given : IsGivenTo x prepared before now after r.upgrade last chunk
    pub each : (server : ℕ) → is_member given.settled.view.members server ≡ true → HasNamed prepared now back before after last r chunk server

  -- ---- what is to hold

  -- This holds after an accepted rollback, of each chunk that stood in a file at the prepare.
  abbrev pub RollbackLeavesMembers : Type 0
  RollbackLeavesMembers = (prepared now back : History D) (before after last : Account) (r : HasRolledBack x prepared before now after back last) (chunk : ℕ) → 0 < references_then x before chunk →
      LeavesMembers prepared now back before after last r chunk

  -- A server had a chunk at the prepare, or was recorded as a holder since. It has learned of the rollback, and would name the chunk. Then it has the text of the prepare live, whatever has happened to it before.
  -- It keeps the text over the commit and after it, until it makes a greater promise, or what it has is lost, damaged or dropped.
  abbrev pub NamersHaveTheText : Type 0
  NamersHaveTheText = (prepared now : History D) (before after : Account) (chunk server : ℕ) (s : Server) → IsUpgrading x prepared before now after → is_rolling after.durable.phase ≡ true → is_current before after chunk server ≡ true →
      slice_get now.nodes.servers server ≡ Some s → s.kept.epoch ≡ after.durable.epoch → is_named after.durable.epoch (slot_in chunk s) ≡ true →
      HasLive chunk server (start_of after.durable.epoch) (settled_edits before chunk) now × KeepsLive chunk server (start_of after.durable.epoch) (settled_edits before chunk) now after

-- ---- Worked

-- where nothing happens a server keeps what it has
what_is_kept_is_had : {D : Type 0} (x : Setup D) (chunk server : ℕ) (promise : Stamp) (edits : List Edit) (now : History D) (a : Account) (s : Server) → KeepsLive x chunk server promise edits now a → slice_get now.nodes.servers server ≡ Some s → is_before promise (slot_in chunk s).promise ≡ false →
    IsLiveWith x.config.chunk promise edits (slot_in chunk s)
what_is_kept_is_had x chunk server promise edits now a s keeps there below = keeps now a [] s (refl, refl) tt there below

-- within no steps no message is sent
no_step_says : {D : Type 0} (x : Setup D) (prepared now back : History D) (before after last : Account) (r : HasRolledBack x prepared before now after back last) (chunk server : ℕ) (place : MsgId) (message : Message) (runs : RunsUpgraded x [] now after now after) →
    HasSaid x prepared now back before after last r chunk server place message [] now after runs → ⊥
no_step_says x prepared now back before after last r chunk server place message runs said = said
