-- What becomes of an edit that a chunkserver has refused, over runs of a store.
use Rattle.std.specs.Prelude.{[], ◌∷◌, ◌≡◌, ◌≢◌, Err, List, Some, slice_get, ℕ}
use Rattle.std.specs.List.{AllByRecursion}
use Rattle.gs_base.specs.declared.numbers.ReqId.{ReqId}
use Rattle.gs_base.specs.declared.numbers.Stamp.{Stamp}
use Rattle.gs_base.specs.declared.refusal.Refusal.{Refusal}
use Rattle.gs_base.specs.declared.refusal.Refusal.TheVariants as refusals
use Rattle.gs_master_spec.specs.Durable.{start}
use Rattle.gs_msg.specs.declared.body.Body.TheVariants as bodies
use Rattle.gs_msg.specs.declared.message.Message.{Message}
use Rattle.gs_replica.specs.Stands.{Edit}
use Rattle.gs_server.specs.Runs as at_server
use Rattle.gs_server.specs.Runs.{behind}
use Rattle.gs_server.specs.Servers.{Server}
use Rattle.gs_laws_server.specs.refusals.Refused.{IsRefusedAt}
use Rattle.gs_world.specs.Histories.{History}
use Rattle.gs_world.specs.Runs.{Step}
use Rattle.gs_world.specs.Sent.{IsSent, Sent}
use Rattle.gs_laws_chunks.specs.accounts.Accounts.{Account, first_account}
use Rattle.gs_laws_chunks.specs.accounts.Moving.{event_at, numbered}
use Rattle.gs_laws_chunks.specs.accounts.Running.{IsReached, Moves, Runs, Setup}

-- the edit of a request is numbered at a step: it goes into a list of a chunk
pub record IsNumberedIn {D : Type 0} (req : ReqId) (step : Step) (old new : History D) : Type 0 where
  pub chunk : ℕ
  pub found : Stamp × Edit
  pub is : numbered step old new chunk ≡ Some found
  pub same : found.1.req ≡ req

-- A server refuses it at a step, for the first time or again, and not as older than another edit of its client. Memory suffices for that.
pub record IsRefusedIn {D : Type 0} (req : ReqId) (step : Step) (old new : History D) : Type 0 where
  pub server : ℕ
  pub s : Server
  pub there : slice_get old.nodes.servers server ≡ Some s
  pub event : at_server.Event
  pub comes : event_at step old.sent server ≡ Some event
  pub refused : IsRefusedAt event s req
  pub went : slice_get new.nodes.servers server ≡ Some (behind event s)

-- A client was told that its edit is refused, and not as older than another one.
pub record WasTold (sent : Sent) (req : ReqId) : Type 0 where
  pub message : Message
  pub refusal : Refusal
  pub is_sent : IsSent message sent
  pub says : message.body ≡ bodies.Done req (Err refusal)
  pub other : refusal ≢ refusals.Old

-- no list of any chunk has it, nor has what is kept of the last prepare
pub record StandsNowhere (req : ReqId) (a : Account) : Type 0 where
  pub lists : (chunk : ℕ) (stamp : Stamp) → AllByRecursion (λ (e : Edit). e.req ≢ req) (a.list chunk stamp)
  pub before : (chunk : ℕ) → AllByRecursion (λ (e : Edit). e.req ≢ req) (a.before chunk)

module _ {D : Type 0} (x : Setup D) where
  -- it is numbered at none of some steps
  abbrev pub NumbersNone : ReqId → (steps : List Step) (old : History D) (a : Account) (new : History D) (b : Account) → Runs x steps old a new b → Type 0
  NumbersNone req [] old a new b runs = Unit {0}
  NumbersNone req (step ∷ steps) old a new b (mid, c, moves, rest) = (IsNumberedIn req step old mid → ⊥) × NumbersNone req steps mid c new b rest

  -- ---- what is to hold

  -- An edit that a server has refused is numbered at no later step, by any server: its message is to that server alone.
  abbrev pub RefusedAreNumberedNowhere : Type 0
  RefusedAreNumberedNowhere = (now mid later : History D) (a c b : Account) (step : Step) (steps : List Step) (req : ReqId) → IsReached x now a → Moves x step now a mid c → IsRefusedIn req step now mid → (runs : Runs x steps mid c later b) →
      (IsNumberedIn req step now mid → ⊥) × NumbersNone req steps mid c later b runs

  -- If no step before has numbered it either, it stands in no list, then or later. So it is never settled.
  abbrev pub RefusedStandNowhere : Type 0
  RefusedStandNowhere = (now mid later : History D) (a c b : Account) (step : Step) (steps : List Step) (req : ReqId) (r : IsReached x now a) → NumbersNone req r.steps r.begun r.first now a r.runs → Moves x step now a mid c → IsRefusedIn req step now mid →
      Runs x steps mid c later b → StandsNowhere req b

  -- The same of an edit of which a client was told that it is refused.
  abbrev pub ToldAreNumberedNowhere : Type 0
  ToldAreNumberedNowhere = (now later : History D) (a b : Account) (steps : List Step) (req : ReqId) → IsReached x now a → WasTold now.sent req → (runs : Runs x steps now a later b) → NumbersNone req steps now a later b runs

  abbrev pub ToldStandNowhere : Type 0
  ToldStandNowhere = (now later : History D) (a b : Account) (steps : List Step) (req : ReqId) (r : IsReached x now a) → NumbersNone req r.steps r.begun r.first now a r.runs → WasTold now.sent req → Runs x steps now a later b → StandsNowhere req b

-- ---- Worked

in_a_new_account_nothing_stands : (req : ReqId) → StandsNowhere req (first_account start)
in_a_new_account_nothing_stands req = record { lists = λ chunk stamp. tt; before = λ chunk. tt }
