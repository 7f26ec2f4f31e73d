-- When a rollback is accepted.
use Rattle.std.specs.Prelude.{[], ◌<◌, ◌∷◌, ◌≡◌, ◌⊎◌, Bool, Err, List, None, Ok, Result, Some, false, refl, true, ℕ}
use Rattle.std.specs.List.{AllByRecursion}
use Rattle.gs_base.specs.Members.{is_member}
use Rattle.gs_base.specs.declared.numbers.ClientId.{ClientId}
use Rattle.gs_base.specs.declared.numbers.Moment.{Moment}
use Rattle.gs_base.specs.declared.numbers.ReqId.{ReqId}
use Rattle.gs_base.specs.declared.refusal.Refusal.{Refusal}
use Rattle.gs_base.specs.declared.refusal.Refusal.TheVariants as refusals
use Rattle.gs_master.specs.Masters.{MasterOf}
use Rattle.gs_laws_moves.specs.moves.Epochs.{rolls_back}
use Rattle.gs_master_spec.specs.Applied.{with_reply}
use Rattle.gs_master_spec.specs.Durable.{Durable, Settled, is_rolling}
use Rattle.gs_master_spec.specs.Handling.{New, numbered}
use Rattle.gs_master_spec.specs.State.{is_failed, last_reply}
use Rattle.gs_msg.specs.declared.body.Body.TheVariants as bodies
use Rattle.gs_msg.specs.declared.call.Call.TheVariants as calls
use Rattle.gs_msg.specs.declared.event.Happening.{Happening}
use Rattle.gs_msg.specs.declared.event.Happening.TheVariants as happenings
use Rattle.gs_msg.specs.declared.message.Message.{Message}
use Rattle.gs_msg.specs.declared.node.NodeId.TheVariants as nodes
use Rattle.gs_msg.specs.declared.node.StoreNode.TheVariants as keepers
use Rattle.gs_nodes.specs.declared.place.MasterPlace.TheVariants.{Standing}
use Rattle.gs_refs.specs.Counts.{count_or_zero}
use Rattle.gs_world.specs.Histories.{History}
use Rattle.gs_laws_world.specs.lasting.Lasting.{failures_at}
use Rattle.gs_world.specs.Runs.{Comes, Goes, Step, Takes}
use Rattle.gs_laws_chunks.specs.accounts.Accounts.{Account}
use Rattle.gs_laws_chunks.specs.accounts.Running.{Moves, Setup}
use Rattle.gs_laws_chunks.specs.accounts.Upgrading.{IsUpgrading, RunsUpgraded, Survives, is_current}
use Rattle.gs_laws_chunks.specs.accounts.Hearing.{heard_by_master}
use Rattle.std.specs.FinMap as fin

-- ---- who has told

-- with what a step was met
abbrev pub met_at : {D : Type 0} (x : Setup D) (step : Step) (old new : History D) → Goes x.seen x.failures x.armed step old new → Result (Unit {0}) Refusal
met_at x (Comes event) old new (said, happens) = said
met_at x (Takes client) old new goes = Ok tt

-- a server tells that it has learned of this epoch, and names the chunk
pub record NamesChunk (epoch chunk server : ℕ) (message : Message) : Type 0 where
  pub handles : List ℕ
  pub from : message.from ≡ nodes.Server server
  pub says : message.body ≡ bodies.Learned epoch handles
  pub named : is_member handles chunk ≡ true

-- it tells so, whatever it names
pub record TellsLearned (epoch server : ℕ) (message : Message) : Type 0 where
  pub handles : List ℕ
  pub from : message.from ≡ nodes.Server server
  pub says : message.body ≡ bodies.Learned epoch handles

-- the master takes such a message at a step
abbrev pub TakesSuch : {D : Type 0} (x : Setup D) → (Message → Type 0) → (step : Step) (old new : History D) → Goes x.seen x.failures x.armed step old new → Type 0
TakesSuch x Such step old new goes = (message : Message) × (heard_by_master step old.sent ≡ Some message) × Such message × (met_at x step old new goes ≡ Ok tt)

abbrev pub restarts_master : Step → Bool
restarts_master (Comes event) = restarts event.happening
  where
    restarts : Happening → Bool
    restarts (happenings.Restart keepers.Master) = true
    restarts happening = false
restarts_master (Takes client) = false

-- the master isn't restarted
abbrev pub NoRestart : List Step → Type 0
NoRestart steps = AllByRecursion (λ step. restarts_master step ≡ false) steps

-- at one of these steps the master took such a message, and it wasn't restarted since
abbrev pub HasTaken : {D : Type 0} (x : Setup D) → (Message → Type 0) → (steps : List Step) (old : History D) (a : Account) (new : History D) (b : Account) → RunsUpgraded x steps old a new b → Type 0
HasTaken x Such [] old a new b runs = ⊥
HasTaken x Such (step ∷ steps) old a new b (mid, c, moves, going, rest) =
    (TakesSuch x Such step old mid moves.steps.goes × NoRestart steps) ⊎ HasTaken x Such steps mid c new b rest

-- what is durable is as it was, or the refusal of this request is kept beside it
abbrev pub IsAsItWas : ReqId → Refusal → Durable → Durable → Type 0
IsAsItWas req refusal old new = (new ≡ old) ⊎ (new ≡ record old { replies = with_reply old.replies req (Err refusal) })

module _ {D : Type 0} (x : Setup D) where
  -- a server that has the chunk by its view at the prepare, or is a holder of it, has named it in the epoch that stands
  abbrev pub WasNamed : (prepared : History D) (before : Account) (now : History D) (after : Account) → IsUpgrading x prepared before now after → ℕ → Type 0
  WasNamed prepared before now after upgrade chunk =
      (server : ℕ) × (is_current before after chunk server ≡ true) × HasTaken x (NamesChunk after.durable.epoch chunk server) upgrade.steps prepared before now after upgrade.runs

  -- how often a chunk stood in files at the prepare
  abbrev pub references_then : Account → ℕ → ℕ
  references_then before chunk = count_or_zero (fin.get before.durable.names.refs chunk)

  abbrev pub AllWereNamed : (prepared : History D) (before : Account) (now : History D) (after : Account) → IsUpgrading x prepared before now after → Type 0
  AllWereNamed prepared before now after upgrade = (chunk : ℕ) → 0 < references_then before chunk → WasNamed prepared before now after upgrade chunk

  pub record IsLowestUnnamed (prepared : History D) (before : Account) (now : History D) (after : Account) (upgrade : IsUpgrading x prepared before now after) (chunk : ℕ) : Type 0 where
    pub referred : 0 < references_then before chunk
    pub unnamed : WasNamed prepared before now after upgrade chunk → ⊥
    pub lower : (other : ℕ) → other < chunk → 0 < references_then before other → WasNamed prepared before now after upgrade other

  -- ---- what is to hold

  -- A commit is accepted only where all is named, and the rollback is done then. It is refused for a chunk where that isn't named, the lowest such; and else for want of room in the journal, or of memory; and then
  -- the rollback goes on as it was.
  pub record IsDecided (prepared : History D) (before : Account) (now : History D) (after : Account) (upgrade : IsUpgrading x prepared before now after) (req : ReqId) (said : Result (Unit {0}) Refusal) (back : Account) : Type 0 where
    pub accepted : said ≡ Ok tt → AllWereNamed prepared before now after upgrade × (rolls_back after.durable back.durable ≡ true)
    pub refused : (chunk : ℕ) → said ≡ Err (refusals.Unrestored chunk) → IsLowestUnnamed prepared before now after upgrade chunk
    pub kept : (refusal : Refusal) → said ≡ Err refusal → IsAsItWas req refusal after.durable back.durable
    pub either : (said ≡ Ok tt) ⊎ ((chunk : ℕ) × (said ≡ Err (refusals.Unrestored chunk))) ⊎ (said ≡ Err refusals.Full) ⊎ (said ≡ Err refusals.Memory)

  -- a client's call to commit comes to a master that rolls back, and its number is above that of the last answer which is kept of the client
  pub record AsksToCommit (now : History D) (step : Step) : Type 0 where
    pub message : Message
    pub heard : heard_by_master step now.sent ≡ Some message
    pub client : ClientId
    pub from : message.from ≡ nodes.Client client
    pub req : ReqId
    pub asks : message.body ≡ bodies.Call req calls.RollbackCommit
    pub master : MasterOf D
    pub there : now.nodes.master ≡ Standing master
    pub new : numbered (last_reply master.state req.client) req.number ≡ New
    pub rolling : is_rolling master.state.durable.phase ≡ true

  -- No disk of the master has failed since it was opened, and none fails at the step. Behind a failure it refuses any new call, till it is restarted.
  pub record DisksHold (now next : History D) (step : Step) (asks : AsksToCommit now step) : Type 0 where
    pub sound : is_failed asks.master.state.fault ≡ false
    pub none : failures_at x.failures next.nodes.master ≡ failures_at x.failures now.nodes.master

  abbrev pub CommitsAreDecided : Type 0
  CommitsAreDecided = (prepared now next : History D) (before after back : Account) (step : Step) (upgrade : IsUpgrading x prepared before now after) (moves : Moves x step now after next back) (asks : AsksToCommit now step) → (x.fails ≡ true → DisksHold now next step asks) →
      IsDecided prepared before now after upgrade asks.req (met_at x step now next moves.steps.goes) back

  -- Whatever disks have failed, and whichever fail at the call: what is told stays, or the refusal of this request is kept beside it; or the rollback is done, and then all was named.
  abbrev pub CommitsDoOneThing : Type 0
  CommitsDoOneThing = (prepared now next : History D) (before after back : Account) (step : Step) (upgrade : IsUpgrading x prepared before now after) → Moves x step now after next back → (asks : AsksToCommit now step) →
      ((refusal : Refusal) × IsAsItWas asks.req refusal after.durable back.durable) ⊎ ((rolls_back after.durable back.durable ≡ true) × AllWereNamed prepared before now after upgrade)

  -- no rollback is done without it
  abbrev pub NoneGoesBackUnnamed : Type 0
  NoneGoesBackUnnamed = (prepared now next : History D) (before after back : Account) (step : Step) (upgrade : IsUpgrading x prepared before now after) → Moves x step now after next back →
      rolls_back after.durable back.durable ≡ true → AllWereNamed prepared before now after upgrade

  -- a survivor of a chunk has answered in the epoch that stands, and the master wasn't restarted since it took that
  abbrev pub HasAnswered : (prepared : History D) (before : Account) (now : History D) (after : Account) → IsUpgrading x prepared before now after → ℕ → Type 0
  HasAnswered prepared before now after upgrade chunk = (server : ℕ) × Survives before after chunk server × HasTaken x (TellsLearned after.durable.epoch server) upgrade.steps prepared before now after upgrade.runs

  -- For each chunk one survivor that has answered is enough: it has named the chunk.
  abbrev pub OneSurvivorIsEnough : Type 0
  OneSurvivorIsEnough = (prepared now : History D) (before after : Account) (upgrade : IsUpgrading x prepared before now after) → is_rolling after.durable.phase ≡ true →
      ((chunk : ℕ) → 0 < references_then before chunk → HasAnswered prepared before now after upgrade chunk) → AllWereNamed prepared before now after upgrade

  -- So a client's new call to commit is accepted then, but for want of room in the journal or of memory.
  abbrev pub SurvivorsAreAccepted : Type 0
  SurvivorsAreAccepted = (prepared now next : History D) (before after back : Account) (step : Step) (upgrade : IsUpgrading x prepared before now after) (moves : Moves x step now after next back) (asks : AsksToCommit now step) → (x.fails ≡ true → DisksHold now next step asks) →
      ((chunk : ℕ) → 0 < references_then before chunk → HasAnswered prepared before now after upgrade chunk) →
      (met_at x step now next moves.steps.goes ≡ Ok tt) ⊎ (met_at x step now next moves.steps.goes ≡ Err refusals.Full) ⊎ (met_at x step now next moves.steps.goes ≡ Err refusals.Memory)

  -- Behind a rollback each chunk that stood in a file at the prepare has a member, and each member is one that had it then or was recorded as a holder since, and has named it; nobody leads the view, and it has the first stamp of the epoch.
  pub record IsGivenTo (prepared : History D) (before : Account) (now : History D) (after : Account) (upgrade : IsUpgrading x prepared before now after) (last : Account) (chunk : ℕ) : Type 0 where
    pub settled : Settled
    pub told : fin.get last.durable.chunks chunk ≡ Some settled
    pub still : settled.is_moving ≡ false
    pub unled : settled.view.term ≡ None
    pub first : settled.view.stamp ≡ record { epoch = after.durable.epoch; version = 0 }
    pub some : (server : ℕ) × (is_member settled.view.members server ≡ true)
    pub named : (server : ℕ) → is_member settled.view.members server ≡ true → (is_current before after chunk server ≡ true) × HasTaken x (NamesChunk after.durable.epoch chunk server) upgrade.steps prepared before now after upgrade.runs

  abbrev pub MembersHaveNamed : Type 0
  MembersHaveNamed = (prepared now next : History D) (before after back : Account) (step : Step) (upgrade : IsUpgrading x prepared before now after) → Moves x step now after next back → rolls_back after.durable back.durable ≡ true →
      (chunk : ℕ) → 0 < references_then before chunk → IsGivenTo prepared before now after upgrade back chunk

-- ---- Worked
what_a_client_takes_is_no_restart : (client : ClientId) → restarts_master (Takes client) ≡ false
what_a_client_takes_is_no_restart client = refl

that_of_a_server_is_none : (moment : Moment) → restarts_master (Comes (record { moment = moment; happening = happenings.Restart (keepers.Server 1) })) ≡ false
that_of_a_server_is_none moment = refl

that_of_the_master : (moment : Moment) → restarts_master (Comes (record { moment = moment; happening = happenings.Restart keepers.Master })) ≡ true
that_of_the_master moment = refl
