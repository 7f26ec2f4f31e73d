-- Each view of a chunk that a client was told was looked up.
use Rattle.std.specs.Prelude.{◌⊎◌, ℕ, List}
use Rattle.std.specs.List.{AllByRecursion}
use Rattle.gs_journal.specs.Records.{standing}
use Rattle.gs_base.specs.declared.numbers.ReqId.{ReqId}
use Rattle.gs_lease.specs.declared.view.View.{View}
use Rattle.gs_msg.specs.declared.message.Message.{Message}
use Rattle.gs_master_spec.specs.Durable.{Durable}
use Rattle.gs_nodes.specs.declared.place.MasterPlace.{MasterPlace}
use Rattle.gs_nodes.specs.declared.place.MasterPlace.TheVariants.{Standing, Closed, Away}
use Rattle.gs_world.specs.Histories.{History}
use Rattle.gs_laws_world.specs.lasting.Lasting.{IsToldIn}
use Rattle.gs_world.specs.Sent.{Sent}
use Rattle.gs_laws_moves.specs.moves.Called.{AllWait}
use Rattle.gs_laws_moves.specs.moves.Locations.{IsToldOnlyIf, KeepsLocation}
use Rattle.gs_laws_moves.specs.moves.Locations as replies
use Rattle.gs_laws_parts.specs.master.Locating.{IsLookedUpIn}
use Rattle.gs_laws_lift.specs.stores.Doing.{HasDurable}
use Rattle.gs_laws_lift.specs.stores.Going.{AllSent}
use Rattle.gs_laws_lift.specs.stores.Left.{as_left}
use Rattle.gs_laws_chunks.specs.accounts.Accounts.{Account}
use Rattle.gs_laws_chunks.specs.accounts.Running.{Setup}
use Rattle.gs_laws_chunks.specs.accounts.Reading.{WasCalled, WasLookedUp}

-- ---- the master

module _ {D : Type 0} (seen : D → List ℕ) where
  -- a reply is kept that tells so: by the master, or by what its disks tell where they wait
  abbrev pub KeepsAt : MasterPlace D → (caller : ReqId) (chunk : ℕ) → View → (epoch : ℕ) → Type 0
  KeepsAt (Standing m) caller chunk view epoch = KeepsLocation m.state caller chunk view epoch
  KeepsAt (Closed first second) caller chunk view epoch = (d : Durable) × IsToldIn (standing (seen first) (seen second)) d × replies.IsToldIn d.replies caller chunk view epoch
  KeepsAt Away caller chunk view epoch = ⊥

  -- each call that waits at the master is one of these
  abbrev pub WaitAt : (ReqId → Type 0) → MasterPlace D → Type 0
  WaitAt P (Standing m) = AllWait P m.state
  WaitAt P place = Unit {0}

  -- It was kept before; or it is looked up in what is durable now, for a call that was sent.
  abbrev pub IsLocatedAt : (sent : Sent) (old new : MasterPlace D) → (caller : ReqId) (chunk : ℕ) → View → (epoch : ℕ) → Type 0
  IsLocatedAt sent old new caller chunk view epoch = KeepsAt old caller chunk view epoch ⊎ (WasCalled sent caller × ((d : Durable) × HasDurable seen new d × IsLookedUpIn d chunk view epoch))

  -- So it is of what is kept where the master is behind something that it does at which no disk fails, and of what it sends; and each call that waits then was sent.
  pub record LocatesSo (before : Sent) (old new : MasterPlace D) (messages : List Message) : Type 0 where
    pub kept : (caller : ReqId) (chunk : ℕ) (view : View) (epoch : ℕ) → KeepsAt new caller chunk view epoch → IsLocatedAt before old new caller chunk view epoch
    pub sent : AllByRecursion (λ (m : Message). IsToldOnlyIf (IsLocatedAt before old new) m.body) messages
    pub waits : WaitAt (WasCalled before) new

  -- whatever disk fails: a reply is kept in memory, or by what is left
  abbrev pub KeepsEither : MasterPlace D → (caller : ReqId) (chunk : ℕ) → View → (epoch : ℕ) → Type 0
  KeepsEither place caller chunk view epoch = KeepsAt place caller chunk view epoch ⊎ KeepsAt (as_left place) caller chunk view epoch

  abbrev pub IsLocatedLeft : (sent : Sent) (old new : MasterPlace D) → (caller : ReqId) (chunk : ℕ) → View → (epoch : ℕ) → Type 0
  IsLocatedLeft sent old new caller chunk view epoch = KeepsEither old caller chunk view epoch ⊎ (WasCalled sent caller × ((d : Durable) × HasDurable seen (as_left new) d × IsLookedUpIn d chunk view epoch))

  pub record LocatesLeft (before : Sent) (old new : MasterPlace D) (messages : List Message) : Type 0 where
    pub kept : (caller : ReqId) (chunk : ℕ) (view : View) (epoch : ℕ) → KeepsEither new caller chunk view epoch → IsLocatedLeft before old new caller chunk view epoch
    pub sent : AllByRecursion (λ (m : Message). IsToldOnlyIf (IsLocatedLeft before old new) m.body) messages
    pub waits : WaitAt (WasCalled before) (as_left new)

-- ---- a run

module _ {D : Type 0} (x : Setup D) where
  -- In a world of a run each view that a client was ever told was looked up, and so was each that is kept in a reply, by a master of which a disk has failed too; and each call that waits where none has was sent.
  pub record WereLookedUp (now : History D) (a : Account) : Type 0 where
    pub sent : AllSent (λ (m : Message). IsToldOnlyIf (WasLookedUp x now a) m.body) now.sent
    pub kept : (caller : ReqId) (chunk : ℕ) (view : View) (epoch : ℕ) → KeepsEither x.seen now.nodes.master caller chunk view epoch → WasLookedUp x now a caller chunk view epoch
    pub waits : WaitAt x.seen (WasCalled now.sent) (as_left now.nodes.master)
