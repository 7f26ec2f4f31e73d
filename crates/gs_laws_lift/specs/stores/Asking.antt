-- What the clients of a store have asked, so that all that is ever sent for a request is of its one edit.
use Rattle.std.specs.Prelude.{◌≡◌, ◌⊎◌, ◌++◌, ℕ, List, Option, Some}
use Rattle.gs_base.specs.declared.config.Config.{Config}
use Rattle.gs_client.specs.Nodes.{Node}
use Rattle.gs_journal.specs.Records.{fresh, standing}
use Rattle.gs_msg.specs.declared.event.DiskId.{DiskId}
use Rattle.gs_nodes.specs.Happenings.{client_in}
use Rattle.gs_nodes.specs.declared.place.MasterPlace.{MasterPlace}
use Rattle.gs_world.specs.Histories.{Begins, History}
use Rattle.gs_laws_world.specs.lasting.Lasting.{Lasts, RunsSoundly}
use Rattle.gs_world.specs.Runs.{Step}
use Rattle.gs_laws_parts.specs.server.Requests.{AreOnce, Asked, HasAsked, IsNoRequest, IsSentFor}
use Rattle.gs_laws_lift.specs.stores.Going.{AllSent}
use Rattle.gs_laws_lift.specs.stores.Running.{LastsArmed}

-- what was asked stays so, each client's requests in their order
abbrev pub StayAsked : (ℕ → Asked) → (ℕ → Asked) → Type 0
StayAsked old new = (id : ℕ) → (more : Asked) × (new id ≡ old id ++ more)

-- the client of a number, counted from 1
abbrev pub client_at : List Node → ℕ → Option Node
client_at clients id = client_in clients (record { 0 = id })

-- Each client of a store has asked these, each request under a number of its own; and all that was ever sent is for one of them, or of no request.
pub record AreAskedIn {D : Type 0} (asked : ℕ → Asked) (h : History D) : Type 0 where
  pub have : (id : ℕ) (n : Node) → client_at h.nodes.clients id ≡ Some n → HasAsked id (asked id) n
  pub once : (id : ℕ) → AreOnce (asked id)
  pub sent : AllSent (λ m. IsSentFor asked m ⊎ IsNoRequest m.body) h.sent

-- they have asked more since, and what they had asked before stays
pub record AskMore {D : Type 0} (asked : ℕ → Asked) (h : History D) : Type 0 where
  pub all : ℕ → Asked
  pub stay : StayAsked asked all
  pub are : AreAskedIn all h

-- So it goes on over many steps in which no disk of the master fails.
abbrev pub AskOn : {D : Type 0} → (D → List ℕ) → (D → ℕ) → (DiskId → ℕ → MasterPlace D → MasterPlace D) → Type 0
AskOn {D} seen failures armed = LastsArmed seen armed → (steps : List Step) (old new : History D) (asked : ℕ → Asked) → AreAskedIn asked old → Lasts seen old.nodes.master → RunsSoundly seen failures armed steps old new → AskMore asked new

-- And so it is of a store that has begun new, behind any such steps.
abbrev pub AreAskedOver : {D : Type 0} → (D → List ℕ) → (D → ℕ) → (DiskId → ℕ → MasterPlace D → MasterPlace D) → Type 0
AreAskedOver {D} seen failures armed = LastsArmed seen armed → (config : Config) (clients : ℕ) (disks : D × D) (steps : List Step) (begun now : History D) → standing (seen disks.0) (seen disks.1) ≡ fresh → Begins seen failures armed config clients disks begun
    → RunsSoundly seen failures armed steps begun now → (asked : ℕ → Asked) × AreAskedIn asked now
