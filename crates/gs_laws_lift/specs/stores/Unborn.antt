-- A chunk that isn't born: nothing of it is anywhere.
use Rattle.std.specs.Prelude.{◌≡◌, ◌≤◌, ℕ, List, Some, slice_get}
use Rattle.gs_journal.specs.Records.{standing}
use Rattle.gs_laws_master.specs.Promises.{IsKept}
use Rattle.gs_laws_master.specs.Standing.{AreCounters}
use Rattle.gs_msg.specs.declared.body.Body.{Body}
use Rattle.gs_msg.specs.declared.body.Body.TheVariants as bodies
use Rattle.gs_msg.specs.declared.message.Message.{Message}
use Rattle.gs_server.specs.Servers.{Server}
use Rattle.gs_master_spec.specs.Durable.{Durable}
use Rattle.gs_nodes.specs.declared.place.MasterPlace.{MasterPlace}
use Rattle.gs_nodes.specs.declared.place.MasterPlace.TheVariants.{Standing, Closed, Away}
use Rattle.gs_world.specs.Histories.{History}
use Rattle.gs_laws_world.specs.lasting.Lasting.{IsToldIn}
use Rattle.gs_laws_parts.specs.server.Unborn as member
use Rattle.gs_laws_parts.specs.server.Unborn.{KeepsNothing}
use Rattle.gs_laws_parts.specs.master.Unborn as entry
use Rattle.gs_laws_lift.specs.stores.Saying.{IsOfClientAbout}
use Rattle.gs_laws_lift.specs.stores.Going.{AllSent}

-- Nothing is said of it, but for what clients ask of any chunk, and that it is to be copied.
abbrev pub SaysNothing : ℕ → Body → Type 0
SaysNothing chunk (bodies.About handle said) = handle ≡ chunk → IsOfClientAbout said
SaysNothing chunk (bodies.MakeCopy handle at new_handle stamp) = new_handle ≡ chunk → ⊥
SaysNothing chunk body = member.SaysNothing chunk body

-- and no epoch behind this one is told
abbrev pub TellsWithin : ℕ → Body → Type 0
TellsWithin epoch (bodies.Epoch told end) = told ≤ epoch
TellsWithin epoch body = Unit {0}

abbrev pub IsBefore : ℕ → ℕ → Message → Type 0
IsBefore chunk epoch m = SaysNothing chunk m.body × TellsWithin epoch m.body

-- disks that wait tell that no such handle was given
pub record IsUntold {D : Type 0} (seen : D → List ℕ) (chunk epoch : ℕ) (first second : D) : Type 0 where
  pub durable : Durable
  pub kept : IsKept durable
  pub counters : AreCounters durable
  pub told : IsToldIn (standing (seen first) (seen second)) durable
  pub ungiven : entry.IsUngiven chunk durable
  pub later : epoch ≤ durable.epoch

-- the master knows nothing of it, in this epoch or a later one
abbrev pub IsUnknown : {D : Type 0} → (D → List ℕ) → ℕ → ℕ → MasterPlace D → Type 0
IsUnknown seen chunk epoch (Standing m) = entry.IsUnborn chunk m.state × (epoch ≤ m.state.durable.epoch)
IsUnknown seen chunk epoch (Closed first second) = IsUntold seen chunk epoch first second
IsUnknown seen chunk epoch Away = ⊥

-- Servers keep nothing of it and are of no epoch behind this one; the master knows nothing of it; and nothing was said of it.
pub record IsUnborn {D : Type 0} (seen : D → List ℕ) (chunk : ℕ) (h : History D) : Type 0 where
  pub epoch : ℕ
  pub servers : (id : ℕ) (s : Server) → slice_get h.nodes.servers id ≡ Some s → KeepsNothing chunk s × (s.kept.epoch ≤ epoch)
  pub master : IsUnknown seen chunk epoch h.nodes.master
  pub sent : AllSent (IsBefore chunk epoch) h.sent
