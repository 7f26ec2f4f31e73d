-- For which requests a server waits, under the lease of a chunk: each asks for an edit of that chunk.
use Rattle.std.specs.Prelude.{◌≡◌, ℕ, true, List, Option, Some, None, is_some, slice_get, Contains}
use Rattle.gs_base.specs.declared.numbers.ReqId.{ReqId}
use Rattle.gs_msg.specs.declared.event.DiskId.{DiskId}
use Rattle.gs_server_lease.specs.Leases.{PrimaryLease}
use Rattle.gs_server_lease.specs.declared.lease.Open.{Open}
use Rattle.gs_server.specs.Servers.{Server, place_of}
use Rattle.gs_nodes.specs.declared.place.MasterPlace.{MasterPlace}
use Rattle.gs_world.specs.Histories.{History}
use Rattle.gs_laws_parts.specs.server.Requests.{Asked, IsOfOneEdit}
use Rattle.gs_world.specs.Runs.{Step}
use Rattle.gs_laws_lift.specs.stores.Going.{AllSent, Kind}
use Rattle.gs_laws_lift.specs.stores.Numbered.{asked_under}

-- a request asks for an edit of this chunk
abbrev pub AsksFor : (ℕ → Asked) → ℕ → ReqId → Type 0
AsksFor asked chunk req = is_some (asked_under asked chunk req) ≡ true

-- so does each of which the edit waits for the members
abbrev pub OutboxAsks : (ReqId → Type 0) → Option PrimaryLease → Type 0
OutboxAsks Asks None = Unit {0}
OutboxAsks Asks (Some l) = (number : ℕ) (edit : Open) → Contains l.outbox (number, edit) → Asks edit.req

-- under the lease of each chunk of a server
abbrev pub WaitsFor : (ℕ → ReqId → Type 0) → Server → Type 0
WaitsFor Asks s = (chunk : ℕ) → OutboxAsks (Asks chunk) (place_of chunk s).lease

-- at each server of a store
abbrev pub AllWaitFor : {D : Type 0} → (ℕ → ReqId → Type 0) → History D → Type 0
AllWaitFor Asks h = (id : ℕ) (s : Server) → slice_get h.nodes.servers id ≡ Some s → WaitsFor Asks s

abbrev pub AllWaitAsked : {D : Type 0} → (ℕ → Asked) → History D → Type 0
AllWaitAsked asked h = AllWaitFor (AsksFor asked) h

-- So it stays at each step of a store in which all that was sent for a request is of its one edit.
abbrev pub WaitsGoOn : {D : Type 0} → (D → List ℕ) → (D → ℕ) → (DiskId → ℕ → MasterPlace D → MasterPlace D) → (ℕ → Asked) → Type 0
WaitsGoOn {D} seen failures armed asked = (step : Step) (old new : History D) → Kind seen failures armed step old new → AllSent (IsOfOneEdit asked) old.sent → AllWaitAsked asked old → AllWaitAsked asked new
