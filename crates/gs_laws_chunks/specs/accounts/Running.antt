-- Runs of a store with their accounts, and what is taken of them.
use Rattle.std.specs.Prelude.{[], ◌*◌, ◌<◌, ◌^◌, ◌∷◌, ◌≡◌, Bool, List, MatchBool, None, Option, Some, false, length, refl, slice_get, true, ℕ}
use Rattle.gs_base.specs.declared.config.Config.{Config}
use Rattle.gs_block.specs.Stored.{block_at}
use Rattle.gs_block.specs.Written.{TellsApart}
use Rattle.gs_master.specs.Journaled.{text_seen}
use Rattle.gs_master.specs.Masters.{with_journal}
use Rattle.gs_msg.specs.declared.event.DiskId.{DiskId}
use Rattle.gs_laws_chunks.specs.accounts.Accounts.{Account, first_account}
use Rattle.gs_laws_chunks.specs.accounts.Moving.{account_behind}
use Rattle.gs_replica.specs.Seals.{Sealed}
use Rattle.gs_world.specs.Runs.{Goes, Step}
use Rattle.gs_server.specs.Runs.{slot_in}
use Rattle.gs_server.specs.Servers.{Server}
use Rattle.gs_master_spec.specs.Durable.{Durable}
use Rattle.gs_master_spec.specs.State.{is_failed}
use Rattle.gs_store.specs.Slots.{Live}
use Rattle.gs_laws_world.specs.steady.Saying.{IsStepWithin, KeepsTypes}
use Rattle.gs_nodes.specs.Nodes.{Nodes}
use Rattle.gs_nodes.specs.declared.place.MasterPlace.{MasterPlace}
use Rattle.gs_nodes.specs.declared.place.MasterPlace.TheVariants.{Standing, Closed, Away}
use Rattle.gs_journal.specs.Records.{fresh, standing}
use Rattle.gs_laws_world.specs.lasting.Lasting.{IsToldIn, Lasts, RunsSoundly, failures_at}
use Rattle.gs_journal.specs.Journal.{State as Journal}
use Rattle.gs_replica.specs.Seals.{State}
use Rattle.gs_world.specs.Histories.{Begins, History}

-- ---- what the records tell

-- While no disk has failed it is what the master keeps, and else what the disks say: so a record that was being written when one failed stands or doesn't.
abbrev pub IsToldAt : {D : Type 0} → (D → List ℕ) → MasterPlace D → Durable → Type 0
IsToldAt seen (Standing m) d = MatchBool (is_failed m.state.fault) (IsToldIn (text_seen seen m.journal) d) (d ≡ m.state.durable)
IsToldAt seen (Closed first second) d = IsToldIn (standing (seen first) (seen second)) d
IsToldAt seen Away d = ⊥

-- ---- what is taken of a store

-- How its disks are seen, how often one has failed, and how failures of them are arranged; its sizes, its clients, and the disks over which it begins; a set
-- of blocks, which is to hold all that its servers ever have; and whether disks of its master may fail in its runs. Where nothing else is said they may or may not.
pub record Setup (D : Type 0) : Type 0 where
  pub seen : D → List ℕ
  pub failures : D → ℕ
  pub armed : DiskId → ℕ → MasterPlace D → MasterPlace D
  pub config : Config
  pub clients : ℕ
  pub disks : D × D
  pub among : List ℕ → Bool
  pub fails : Bool

-- the same is seen of the disks
pub record IsSeenAlike {D : Type 0} (seen : D → List ℕ) (old new : Journal D) : Type 0 where
  pub first : seen new.first ≡ seen old.first
  pub second : seen new.second ≡ seen old.second
  pub others : new ≡ record old { first = new.first; second = new.second }

-- a failure that is arranged changes nothing that is seen
abbrev pub IsArmed : {D : Type 0} → (D → List ℕ) → MasterPlace D → MasterPlace D → Type 0
IsArmed {D} seen (Standing m) new = (j : Journal D) × (new ≡ Standing (with_journal m j)) × IsSeenAlike seen m.journal j
IsArmed {D} seen (Closed first second) new = (other : D) × (another : D) × (new ≡ Closed other another) × (seen other ≡ seen first) × (seen another ≡ seen second)
IsArmed seen Away new = new ≡ Away

-- The disks say nothing at first; clients are numbered in 32 bits; and failures are arranged as that is meant. The empty block is among the blocks: each
-- chunk begins without bytes, so different blocks are to have different digests also where one of the two is empty.
pub record IsGiven {D : Type 0} (x : Setup D) : Type 0 where
  pub new : standing (x.seen x.disks.0) (x.seen x.disks.1) ≡ fresh
  pub few : x.clients < 2 ^ 32
  pub armed : (disk : DiskId) (call : ℕ) (place : MasterPlace D) → IsArmed x.seen place (x.armed disk call place)
  pub empty : x.among [] ≡ true

-- ---- blocks

-- Each block of some bytes is among these. None is asked of behind the last one.
abbrev pub BlocksAmong : ℕ → (List ℕ → Bool) → List ℕ → Type 0
BlocksAmong size among bytes = (i : ℕ) → i * size < length bytes → among (block_at size i bytes) ≡ true

abbrev pub SealAmong : ℕ → (List ℕ → Bool) → Option Sealed → Type 0
SealAmong size among None = Unit {0}
SealAmong size among (Some t) = BlocksAmong size among t.undone.bytes

-- a replica's blocks, and those that undoing gives
abbrev pub ReplicaAmong : ℕ → (List ℕ → Bool) → Option State → Type 0
ReplicaAmong size among None = Unit {0}
ReplicaAmong size among (Some r) = BlocksAmong size among r.held.chunk.bytes × SealAmong size among r.sealed

abbrev pub replica_in : Option Live → Option State
replica_in None = None
replica_in (Some l) = Some l.replica

-- each block that a server has is among them, damaged ones too
abbrev pub AreAmong : {D : Type 0} → (List ℕ → Bool) → Nodes D → Type 0
AreAmong among nodes = (id chunk : ℕ) (s : Server) → slice_get nodes.servers id ≡ Some s →
    ReplicaAmong s.block among (replica_in (slot_in chunk s).live) × ReplicaAmong s.block among (slot_in chunk s).trash

-- ---- runs

module _ {D : Type 0} (x : Setup D) where
  -- A step of the store: what is asked is within its types, and so is its moment; the blocks that servers have then are among those; and where no disk of the
  -- master may fail, none does.
  pub record StepsWithin (step : Step) (old new : History D) : Type 0 where
    pub goes : Goes x.seen x.failures x.armed step old new
    pub within : IsStepWithin step
    pub among : AreAmong x.among new.nodes
    pub sound : x.fails ≡ false → failures_at x.failures new.nodes.master ≡ failures_at x.failures old.nodes.master

  -- and the account behind it
  pub record Moves (step : Step) (old : History D) (a : Account) (new : History D) (b : Account) : Type 0 where
    pub steps : StepsWithin step old new
    pub told : IsToldAt x.seen new.nodes.master b.durable
    pub account : b ≡ account_behind step old a new b.durable

  -- what an account goes by of such a step: what is told behind it
  pub record IsAccounted (step : Step) (old : History D) (a : Account) (new : History D) (b : Account) : Type 0 where
    pub told : IsToldAt x.seen new.nodes.master b.durable
    pub account : b ≡ account_behind step old a new b.durable

  abbrev pub accounted : (step : Step) (old : History D) (a : Account) (new : History D) (b : Account) → Moves step old a new b → IsAccounted step old a new b
  accounted step old a new b moves = record { told = moves.told; account = moves.account }

  -- one after the other, without accounts and with them
  abbrev pub RunsBare : List Step → History D → History D → Type 0
  RunsBare [] old new = new ≡ old
  RunsBare (step ∷ steps) old new = (mid : History D) × StepsWithin step old mid × RunsBare steps mid new

  abbrev pub Runs : List Step → History D → Account → History D → Account → Type 0
  Runs [] old a new b = (new ≡ old) × (b ≡ a)
  Runs (step ∷ steps) old a new b = (mid : History D) × (c : Account) × Moves step old a mid c × Runs steps mid c new b

  -- a store that has just begun, with its account
  pub record IsNew (now : History D) (a : Account) : Type 0 where
    pub given : IsGiven x
    pub begins : Begins x.seen x.failures x.armed x.config x.clients x.disks now
    pub told : IsToldAt x.seen now.nodes.master a.durable
    pub account : a ≡ first_account a.durable

  -- and behind some steps, where different blocks among those that its servers have had have different digests
  pub record IsReached (now : History D) (a : Account) : Type 0 where
    pub apart : TellsApart x.among
    pub begun : History D
    pub first : Account
    pub steps : List Step
    pub begins : IsNew begun first
    pub runs : Runs steps begun first now a

  -- ---- what is to hold: there are accounts

  -- each run has accounts
  abbrev pub HaveAccounts : Type 0
  HaveAccounts = (begun now : History D) (steps : List Step) → IsGiven x → Begins x.seen x.failures x.armed x.config x.clients x.disks begun → RunsBare steps begun now →
      (first a : Account) × IsNew begun first × Runs steps begun first now a

  -- what was, and what happens, leave no choice of an account: so one run has one account, and one plain view
  abbrev pub FirstIsOne : Type 0
  FirstIsOne = (begun : History D) (a b : Account) → IsNew begun a → IsNew begun b → a ≡ b

  abbrev pub NextIsOne : Type 0
  NextIsOne = (old new : History D) (a b c : Account) (step : Step) → Moves step old a new b → Moves step old a new c → b ≡ c

  -- ---- what stands behind each run in which no disk fails: the master lasts, all keeps to its types, and the steps are such

  pub record StaysSound (steps : List Step) (old new : History D) : Type 0 where
    pub lasts : Lasts x.seen new.nodes.master
    pub types : KeepsTypes new
    pub runs : RunsSoundly x.seen x.failures x.armed steps old new

  abbrev pub ReachedStaySound : Type 0
  ReachedStaySound = x.fails ≡ false → (now : History D) (a : Account) (r : IsReached now a) → StaysSound r.steps r.begun now

-- ---- Worked: no step leaves all as it is, and of nothing all blocks are among some
no_step : {D : Type 0} (x : Setup D) (h : History D) (a : Account) → Runs x [] h a h a
no_step x h a = (refl, refl)

no_replica : (size : ℕ) (among : List ℕ → Bool) → ReplicaAmong size among None
no_replica size among = tt

nothing_is_seen_of_an_arrangement_that_does_nothing : {D : Type 0} (seen : D → List ℕ) (first second : D) → IsArmed seen (Closed first second) (Closed first second)
nothing_is_seen_of_an_arrangement_that_does_nothing seen first second = (first, second, refl, refl, refl)
