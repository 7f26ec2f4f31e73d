-- What the clients of a store have asked and were told, along a run of it, as the machines of its chunks have it.
use Rattle.std.specs.Prelude.{◌≡◌, ◌<◌, ℕ, Bool, true, List, [], Some, slice_get}
use Rattle.std.proofs.Common.{inl, inr}
use Rattle.gs_base.specs.declared.config.Config.{Config}
use Rattle.gs_base.specs.declared.numbers.ReqId.{ReqId}
use Rattle.gs_block.specs.Written.{HasBlocks, TellsApart}
use Rattle.gs_journal.specs.Records.{fresh, standing}
use Rattle.gs_msg.specs.declared.event.DiskId.{DiskId}
use Rattle.gs_replica.specs.Stands.{Edit, replica_of}
use Rattle.gs_nodes.specs.declared.place.MasterPlace.{MasterPlace}
use Rattle.gs_world.specs.Histories.{Begins, History}
use Rattle.gs_laws_world.specs.lasting.Lasting.{RunsSoundly, failures_at}
use Rattle.gs_world.specs.Runs.{Step}
use Rattle.gs_base.specs.declared.numbers.Stamp.{Stamp}
use Rattle.gs_laws_chunk.specs.machine.Machine.{Known}
use Rattle.gs_laws_chunk.specs.machine.Numbering.{AreNumbered, IsBehind}
use Rattle.gs_laws_chunk.specs.machine.Owning.{AreOwn}
use Rattle.gs_laws_parts.specs.server.Requests.{Asked, IsOfOneEdit}
use Rattle.gs_laws_lift.specs.stores.Among.{AllAmong}
use Rattle.gs_laws_lift.specs.stores.Answers.{DonesAreAnswered}
use Rattle.gs_laws_lift.specs.stores.Going.{AllSent}
use Rattle.gs_laws_lift.specs.stores.Living.{ShowsArmed, StoreGoes, StoreLeads, StoreLives}
use Rattle.gs_laws_lift.specs.stores.Numbered.{AskedWithin, StandsFirst, asked_under}
use Rattle.gs_laws_lift.specs.stores.Owning.{IsAskedEdit, WasAskedFor}
use Rattle.gs_laws_lift.specs.stores.Running.{AreHeld, LastsArmed, UnknownArmed}
use Rattle.gs_laws_lift.specs.stores.Saying.{PushRight}
use Rattle.gs_laws_lift.specs.stores.Showing.{IsAlive, Life}
use Rattle.gs_laws_lift.specs.stores.Waiting.{AllWaitAsked, AsksFor}

module _ {D : Type 0} (seen : D → List ℕ) (config : Config) (bytes : ReqId → List ℕ) where
  -- a machine of it shows the store
  abbrev pub IsLiving : (chunk : ℕ) (h : History D) → Life seen config bytes chunk h → Type 0
  IsLiving chunk h (inl unborn) = ⊥
  IsLiving chunk h (inr a) = Unit {0}

  -- Each edit of the lists of a chunk that lives was numbered under the stamp of its request, but those with which it was born. These were asked for of other
  -- chunks, which live, under stamps up to a bound; and no view of it is of a stamp below that.
  pub record NumbersAsAsked (asked : ℕ → Asked) (chunk : ℕ) (h : History D) (life : (other : ℕ) → Life seen config bytes other h) (a : IsAlive seen config bytes chunk h) : Type 0 where
    pub numbered : AreNumbered (asked_under asked chunk) a.reached.0.origin a.world.known
    pub others : (place : ℕ) (edit : Edit) (other : ℕ) → slice_get a.reached.0.origin place ≡ Some edit → AsksFor asked other edit.req → (other ≡ chunk → ⊥) × IsLiving other h (life other)
    pub bound : ℕ
    pub within : AskedWithin asked bound a.reached.0.origin
    pub behind : IsBehind bound a.world.known

  abbrev pub NumberedIn : (ℕ → Asked) → (chunk : ℕ) (h : History D) → ((other : ℕ) → Life seen config bytes other h) → Life seen config bytes chunk h → Type 0
  NumberedIn asked chunk h life (inl unborn) = Unit {0}
  NumberedIn asked chunk h life (inr a) = NumbersAsAsked asked chunk h life a

  -- Each edit of the lists of a chunk that lives is the one that its request asks for,
  abbrev pub OwnIn : (ℕ → Asked) → (chunk : ℕ) (h : History D) → Life seen config bytes chunk h → Type 0
  OwnIn asked chunk h (inl unborn) = Unit {0}
  OwnIn asked chunk h (inr a) = AreOwn (IsAskedEdit bytes asked config.chunk) a.world.known

  -- and a message that asks for it was sent.
  abbrev pub AskedIn : (chunk : ℕ) (h : History D) → Life seen config bytes chunk h → Type 0
  AskedIn chunk h (inl unborn) = Unit {0}
  AskedIn chunk h (inr a) = AreOwn (λ before edit. WasAskedFor h.sent edit) a.world.known

  -- What clients have asked, and were told. All that was ever sent for a request is of its one edit, and servers wait for what was asked of their chunks; what
  -- clients were told done is done in the machines; and edits were numbered as they were asked for, and are the ones that were asked for,
  -- by messages that were sent.
  pub record StoreTells (asked : ℕ → Asked) (among : List ℕ → Bool) (h : History D) (lives : StoreLives seen config bytes among h) : Type 0 where
    pub one : AllSent (IsOfOneEdit asked) h.sent
    pub waits : AllWaitAsked asked h
    pub dones : DonesAreAnswered seen config bytes asked h lives.life
    pub numbered : (chunk : ℕ) → NumberedIn asked chunk h lives.life (lives.life chunk)
    pub own : (chunk : ℕ) → OwnIn asked chunk h (lives.life chunk)
    pub asked_for : (chunk : ℕ) → AskedIn chunk h (lives.life chunk)

  -- So an edit of a chunk's lists that was asked for of this chunk stands first in the list of the view of its stamp, behind the same edits; no list of a view
  -- has an edit of any request that was asked for under a greater stamp; and each edit is the one that its request asks for.
  pub record EditsStandFirst (asked : ℕ → Asked) (k : Known) (chunk : ℕ) : Type 0 where
    pub first : (t place : ℕ) (edit : Edit) (stamp : Stamp) → slice_get (k.list t) place ≡ Some edit → asked_under asked chunk edit.req ≡ Some stamp → StandsFirst k t place stamp
    pub earlier : (t : ℕ) → k.born < t → k.stood t ≡ true → AskedWithin asked t (k.list t)
    pub own : AreOwn (IsAskedEdit bytes asked config.chunk) k

  abbrev pub TellsFirst : (ℕ → Asked) → (List ℕ → Bool) → Type 0
  TellsFirst asked among = (h : History D) (lives : StoreLives seen config bytes among h) → StoreTells asked among h lives → (chunk : ℕ) (a : IsAlive seen config bytes chunk h) → lives.life chunk ≡ inr a → EditsStandFirst asked a.world.known chunk

module _ {D : Type 0} (seen : D → List ℕ) (failures : D → ℕ) (armed : DiskId → ℕ → MasterPlace D → MasterPlace D) (config : Config) (bytes : ReqId → List ℕ) (among : List ℕ → Bool) (asked : ℕ → Asked) where
  -- So it is when a store begins new.
  abbrev pub StoresTellFirst : Type 0
  StoresTellFirst = (clients : ℕ) (disks : D × D) (begun : History D) → standing (seen disks.0) (seen disks.1) ≡ fresh → Begins seen failures armed config clients disks begun
      → ((chunk : ℕ) → AllAmong among config.block chunk begun.nodes.servers) → AllSent (PushRight bytes) begun.sent → AllSent (IsOfOneEdit asked) begun.sent
      → (lives : StoreLives seen config bytes among begun) × StoreTells seen config bytes asked among begun lives

  -- And so it stays at each step by which all chunks of a store go on, as long as no disk of the master fails.
  abbrev pub StoresTellOn : Type 0
  StoresTellOn = (step : Step) (old new : History D) (lives : StoreLives seen config bytes among old) (goes : StoreGoes seen failures armed config bytes among step old new lives) → failures_at failures new.nodes.master ≡ failures_at failures old.nodes.master
      → AllSent (IsOfOneEdit asked) new.sent → StoreTells seen config bytes asked among old lives → StoreTells seen config bytes asked among new goes.last

  -- behind many steps each chunk has led on, and it is so still
  pub record StoreTellsOn (old new : History D) (lives : StoreLives seen config bytes among old) : Type 0 where
    pub leads : StoreLeads seen config bytes among old new lives
    pub tells : StoreTells seen config bytes asked among new leads.last

  -- So it is over each run, from any world of a store on.
  abbrev pub StoresTellRun : Type 0
  StoresTellRun = ShowsArmed seen armed → LastsArmed seen armed → UnknownArmed seen armed → TellsApart among → HasBlocks config.block among (replica_of config.chunk []).bytes
      → (steps : List Step) (old new : History D) (lives : StoreLives seen config bytes among old) (runs : RunsSoundly seen failures armed steps old new) → ((chunk : ℕ) → AreHeld seen failures armed config among chunk steps old new runs)
      → AllSent (PushRight bytes) new.sent → AllSent (IsOfOneEdit asked) new.sent → StoreTells seen config bytes asked among old lives → StoreTellsOn old new lives
