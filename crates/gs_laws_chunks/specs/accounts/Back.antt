-- What an accepted rollback gives back.
use Rattle.gs_base.specs.Stamps.{is_before}
use Rattle.gs_block.specs.Written.{TellsApart}
use Rattle.std.specs.Prelude.{[], ◌∷◌, ◌≡◌, List, None, Some, false, is_some, slice_get, true, ℕ}
use Rattle.gs_base.specs.Members.{is_member}
use Rattle.gs_lease.specs.declared.view.View.{View}
use Rattle.gs_laws_chunks.specs.accounts.Accounts.{Account, settled_edits, view_at}
use Rattle.gs_laws_moves.specs.moves.Epochs.{prepares, rolls_back}
use Rattle.gs_laws_chunks.specs.accounts.Running.{IsGiven, IsReached, IsToldAt, Moves, Runs, RunsBare, Setup, StepsWithin}
use Rattle.gs_replica.specs.Seals.{lowest_damaged}
use Rattle.gs_server.specs.Servers.{Server}
use Rattle.gs_master_spec.specs.Durable.{Durable, Settled, is_listed, is_ordinary}
use Rattle.gs_master_spec.specs.State.{is_failed}
use Rattle.gs_laws_chunks.specs.accounts.Sealing.{HasText, IsLiveWith}
use Rattle.gs_laws_chunks.specs.accounts.Upgrading.{IsUpgrading, RunsUpgraded, Spare}
use Rattle.gs_nodes.specs.declared.place.MasterPlace.{MasterPlace}
use Rattle.std.specs.FinMap as fin
use Rattle.gs_server.specs.Runs.{slot_in}
use Rattle.gs_store.specs.Slots.{Live}
use Rattle.gs_store.specs.Learning.{is_named}
use Rattle.gs_world.specs.Histories.{Begins, History}
use Rattle.gs_world.specs.Runs.{Step}
use Rattle.gs_nodes.specs.declared.place.MasterPlace.TheVariants.{Standing}

-- ---- with accounts

module _ {D : Type 0} (x : Setup D) where
  -- a rollback is accepted at a step, within an upgrade
  pub record HasRolledBack (prepared : History D) (before : Account) (now : History D) (after : Account) (back : History D) (last : Account) : Type 0 where
    pub upgrade : IsUpgrading x prepared before now after
    pub step : Step
    pub moves : Moves x step now after back last
    pub accepted : rolls_back after.durable last.durable ≡ true

  -- The names behind it are those of the prepare, by what the records tell; also where a disk failed at the commit, and its record stands;
  abbrev pub GivesNamesTold : Type 0
  GivesNamesTold = (prepared now back : History D) (before after last : Account) → HasRolledBack prepared before now after back last → last.durable.names ≡ before.durable.names

  -- each chunk that a file had then, or before, has a settled view, and what is settled of it is what was settled then;
  abbrev pub GivesSettledBack : Type 0
  GivesSettledBack = (prepared now back : History D) (before after last : Account) (chunk : ℕ) → HasRolledBack prepared before now after back last → is_listed before.durable chunk ≡ true →
      (is_some (fin.get last.durable.chunks chunk) ≡ true) × (settled_edits last chunk ≡ settled_edits before chunk)

  -- and no other chunk has one.
  abbrev pub GivesNoOtherBack : Type 0
  GivesNoOtherBack = (prepared now back : History D) (before after last : Account) (chunk : ℕ) → HasRolledBack prepared before now after back last → is_some (fin.get last.durable.chunks chunk) ≡ true → is_listed before.durable chunk ≡ true

  -- A member of a view behind it had the chunk, so that it would name it, in a world on the way, and nothing of it was lost or damaged since.
  pub record IsUnharmed (prepared : History D) (before : Account) (now : History D) (after : Account) (chunk id : ℕ) : Type 0 where
    pub mid : History D
    pub told : Account
    pub first : IsUpgrading x prepared before mid told
    pub s : Server
    pub there : slice_get mid.nodes.servers id ≡ Some s
    pub learned : s.kept.epoch ≡ after.durable.epoch
    pub named : is_named after.durable.epoch (slot_in chunk s) ≡ true
    pub steps : List Step
    pub rest : RunsUpgraded x steps mid told now after
    pub spared : Spare chunk id steps

  -- then its replica has just the text of the prepare
  abbrev pub GivesReplicasBack : Type 0
  GivesReplicasBack = (prepared now back : History D) (before after last : Account) (chunk id : ℕ) (view : View) (s : Server) → HasRolledBack prepared before now after back last →
      view_at last chunk ≡ Some view → is_member view.members id ≡ true → slice_get back.nodes.servers id ≡ Some s → IsUnharmed prepared before now after chunk id →
      IsLiveWith x.config.chunk view.stamp (settled_edits before chunk) (slot_in chunk s)

  -- And whatever has happened, then and later: a member's replica that has made no greater promise, and of which no block is damaged, has no other text.
  abbrev pub NoOtherText : Type 0
  NoOtherText = (prepared now back later : History D) (before after last c : Account) (steps : List Step) (chunk id : ℕ) (view : View) (s : Server) (l : Live) → HasRolledBack prepared before now after back last →
      view_at last chunk ≡ Some view → is_member view.members id ≡ true → Runs x steps back last later c → slice_get later.nodes.servers id ≡ Some s → is_before view.stamp (slot_in chunk s).promise ≡ false →
      (slot_in chunk s).live ≡ Some l → lowest_damaged l.replica.held.chunk ≡ None → HasText x.config.chunk (settled_edits before chunk) l.replica.held.chunk l.replica.held.count

  -- A store at which a rollback is done is reached by a run in which the prepare of its upgrade was accepted, and which no upgrade ended between. It needn't be the given run.
  abbrev pub EachIsOfAPrepare : Type 0
  EachIsOfAPrepare = (now back : History D) (after last : Account) (step : Step) → IsReached x now after → Moves x step now after back last → rolls_back after.durable last.durable ≡ true →
      (prepared : History D) × (before : Account) × HasRolledBack prepared before now after back last

-- ---- by the nodes alone

-- a master stands of which no disk has failed, and keeps this
abbrev pub MasterKeeps : {D : Type 0} → MasterPlace D → Durable → Type 0
MasterKeeps (Standing m) d = (is_failed m.state.fault ≡ false) × (m.state.durable ≡ d)
MasterKeeps place d = ⊥

-- a live replica of a server, each block of which has its digest, has these bytes
pub record HasBytes {D : Type 0} (h : History D) (id chunk : ℕ) (bytes : List ℕ) : Type 0 where
  pub s : Server
  pub there : slice_get h.nodes.servers id ≡ Some s
  pub live : Live
  pub lives : (slot_in chunk s).live ≡ Some live
  pub whole : lowest_damaged live.replica.held.chunk ≡ None
  pub is : live.replica.held.chunk.bytes ≡ bytes

-- a server is a member of a chunk's view
pub record IsMemberAt (d : Durable) (chunk id : ℕ) : Type 0 where
  pub settled : Settled
  pub told : fin.get d.chunks chunk ≡ Some settled
  pub among : is_member settled.view.members id ≡ true

-- Twice: by what a master keeps of which no disk has failed, and by what is told: by it, or, once a disk has failed, by the disks.
module _ {D : Type 0} (x : Setup D) (Keeps : MasterPlace D → Durable → Type 0) where
  -- steps behind none of which no upgrade is kept
  abbrev pub RunsWithinBy : List Step → History D → History D → Type 0
  RunsWithinBy [] old new = new ≡ old
  RunsWithinBy (step ∷ steps) old new =
      (mid : History D) × StepsWithin x step old mid × ((d : Durable) → Keeps mid.nodes.master d → is_ordinary d.phase ≡ false) × RunsWithinBy steps mid new

  -- A store that has begun comes to a step at which a prepare is accepted, and then to one at which a rollback is; no upgrade is ended between.
  pub record GoesBackBy (prepared back : History D) (before last : Durable) : Type 0 where
    pub given : IsGiven x
    pub begun : History D
    pub begins : Begins x.seen x.failures x.armed x.config x.clients x.disks begun
    pub first : List Step
    pub old : History D
    pub runs : RunsBare x first begun old
    pub ordinary : Durable
    pub stood : Keeps old.nodes.master ordinary
    pub step : Step
    pub steps : StepsWithin x step old prepared
    pub keeps : Keeps prepared.nodes.master before
    pub accepted : prepares ordinary before ≡ true
    pub between : List Step
    pub now : History D
    pub rest : RunsWithinBy between prepared now
    pub rolling : Durable
    pub rolls : Keeps now.nodes.master rolling
    pub commit : Step
    pub commits : StepsWithin x commit now back
    pub ended : Keeps back.nodes.master last
    pub done : rolls_back rolling last ≡ true

  -- the tree with the handles of its files, and how often each stands there, are those of the prepare
  abbrev pub GivesNamesBy : Type 0
  GivesNamesBy = (prepared back : History D) (before last : Durable) → GoesBackBy prepared back before last → last.names ≡ before.names

  -- Where digests tell blocks apart, and a member of a chunk's view had these bytes right behind the prepare, each block with its digest, each member of its view
  -- behind the rollback has just these, if each block of it has its digest.
  abbrev pub GivesBytesBy : Type 0
  GivesBytesBy = (prepared back : History D) (before last : Durable) (chunk id other : ℕ) (had has : List ℕ) → TellsApart x.among → GoesBackBy prepared back before last →
      IsMemberAt before chunk id → HasBytes prepared id chunk had → IsMemberAt last chunk other → HasBytes back other chunk has → has ≡ had

  -- And it has them, where in a world of some run from the prepare to the commit it would have named the chunk, and nothing of it was lost or damaged since. It may be marked as bad there, from before.
  pub record WasUnharmedBy (prepared now : History D) (rolling : Durable) (chunk id : ℕ) : Type 0 where
    pub first : List Step
    pub mid : History D
    pub way : RunsWithinBy first prepared mid
    pub s : Server
    pub there : slice_get mid.nodes.servers id ≡ Some s
    pub learned : s.kept.epoch ≡ rolling.epoch
    pub named : is_named rolling.epoch (slot_in chunk s) ≡ true
    pub steps : List Step
    pub rest : RunsWithinBy steps mid now
    pub spared : Spare chunk id steps

  abbrev pub KeepsBytesBy : Type 0
  KeepsBytesBy = (prepared back : History D) (before last : Durable) (chunk id other : ℕ) (had : List ℕ) → TellsApart x.among → (goes : GoesBackBy prepared back before last) →
      IsMemberAt before chunk id → HasBytes prepared id chunk had → IsMemberAt last chunk other → WasUnharmedBy prepared goes.now goes.rolling chunk other → HasBytes back other chunk had

module _ {D : Type 0} (x : Setup D) where
  -- ---- by what a master keeps, of which no disk has failed

  abbrev pub RunsWithin : List Step → History D → History D → Type 0
  RunsWithin = RunsWithinBy x MasterKeeps

  abbrev pub GoesBack : (prepared back : History D) (before last : Durable) → Type 0
  GoesBack = GoesBackBy x MasterKeeps

  abbrev pub GivesNamesBack : Type 0
  GivesNamesBack = GivesNamesBy x MasterKeeps

  abbrev pub GivesBytesBack : Type 0
  GivesBytesBack = GivesBytesBy x MasterKeeps

  abbrev pub KeepsBytes : Type 0
  KeepsBytes = KeepsBytesBy x MasterKeeps

  -- ---- by what is told: so a prepare or a commit at whose record a disk failed is done if that record stands

  abbrev pub ToldNamesBack : Type 0
  ToldNamesBack = GivesNamesBy x (IsToldAt x.seen)

  abbrev pub ToldBytesBack : Type 0
  ToldBytesBack = GivesBytesBy x (IsToldAt x.seen)

  abbrev pub ToldKeepsBytes : Type 0
  ToldKeepsBytes = KeepsBytesBy x (IsToldAt x.seen)
