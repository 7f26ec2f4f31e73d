-- What the laws of a firm master of a store say.
use Rattle.std.specs.Prelude.{◌≡◌, ℕ, List, Ok, Err}
use Rattle.gs_base.specs.declared.refusal.Refusal.{Refusal}
use Rattle.gs_base.specs.declared.config.Config.{Config}
use Rattle.gs_msg.specs.declared.event.DiskId.{DiskId}
use Rattle.gs_journal.specs.Faults.{Failing}
use Rattle.gs_journal.specs.Records.{fresh, standing}
use Rattle.gs_master.specs.Masters.{MasterOf}
use Rattle.gs_master.specs.declared.turn.Turn.{Turn}
use Rattle.gs_world.specs.Histories.{Begins, History, arms, failures_of, seen_of}
use Rattle.gs_laws_world.specs.lasting.Alike.{AreOpenedAlike}
use Rattle.gs_laws_world.specs.lasting.Lasting.{IsToldIn, Lasts, OpensAs, RunsSoundly, StandsFirm, WaitsAs, failures_at}
use Rattle.gs_laws_master.specs.Promises.{IsKept}
use Rattle.gs_laws_master.specs.Standing.{AreCounters}
use Rattle.gs_master_spec.specs.Durable.{Durable}
use Rattle.gs_world.specs.Runs.{Step}
use Rattle.gs_nodes.specs.Happenings.{Opens, Reopens}
use Rattle.gs_nodes.specs.declared.place.MasterPlace.{MasterPlace}
use Rattle.gs_nodes.specs.declared.place.MasterPlace.TheVariants.{Closed, Standing}

-- ---- a firm master
-- Over disks that say nothing a store begins with a master that stands firm.
abbrev pub NewStoresLast : Type 0 → Type 0
NewStoresLast D = (seen : D → List ℕ) (failures : D → ℕ) (armed : DiskId → ℕ → MasterPlace D → MasterPlace D) (config : Config) (clients : ℕ) (disks : D × D) (new : History D)
    → standing (seen disks.0) (seen disks.1) ≡ fresh → Begins seen failures armed config clients disks new → Lasts seen new.nodes.master

-- It stands so behind each run in which no disk fails.
abbrev pub SoundRunsLast : Type 0 → Type 0
SoundRunsLast D = (seen : D → List ℕ) (failures : D → ℕ) (steps : List Step) (old new : History (Failing D))
    → RunsSoundly (seen_of seen) (failures_of failures) arms steps old new → Lasts (seen_of seen) old.nodes.master → Lasts (seen_of seen) new.nodes.master

-- So it does where no failure can be made to come.
abbrev pub UnarmedSoundRunsLast : Type 0 → Type 0
UnarmedSoundRunsLast D = (seen : D → List ℕ) (failures : D → ℕ) (armed : DiskId → ℕ → MasterPlace D → MasterPlace D) (steps : List Step) (old new : History D)
    → ((disk : DiskId) (call : ℕ) (place : MasterPlace D) → armed disk call place ≡ place) → RunsSoundly seen failures armed steps old new → Lasts seen old.nodes.master
    → Lasts seen new.nodes.master

-- ---- a restart
-- A restart of a firm master opens what was durable.
abbrev pub RestartsOpenWhatStood : Type 0 → Type 0
RestartsOpenWhatStood D = (seen : D → List ℕ) (failures : D → ℕ) (config : Config) (m : MasterOf D) (turn : Turn) (new : MasterPlace D) → StandsFirm seen m
    → Reopens seen failures config (Standing m) (Ok turn) new → OpensAs seen m.state.durable new

-- Where it is refused and no disk failed, the disks wait and tell what was durable.
abbrev pub RefusedRestartsWait : Type 0 → Type 0
RefusedRestartsWait D = (seen : D → List ℕ) (failures : D → ℕ) (config : Config) (m : MasterOf D) (e : Refusal) (new : MasterPlace D) → StandsFirm seen m
    → Reopens seen failures config (Standing m) (Err e) new → failures_at failures new ≡ failures_at failures (Standing m) → WaitsAs seen m.state.durable new

-- A restart of disks that wait opens what they tell.
abbrev pub WaitingDisksAreOpened : Type 0 → Type 0
WaitingDisksAreOpened D = (seen : D → List ℕ) (failures : D → ℕ) (config : Config) (first second : D) (d : Durable) (turn : Turn) (new : MasterPlace D) → IsKept d
    → AreCounters d → IsToldIn (standing (seen first) (seen second)) d → Reopens seen failures config (Closed first second) (Ok turn) new → OpensAs seen d new

-- ---- two openings
-- Where two pairs of disks have the same bytes and both are opened, by the same sizes, they are opened as the same master, which sends the same.
abbrev pub OpeningsAreAlike : Type 0 → Type 0 → Type 0
OpeningsAreAlike D E = (seen : D → List ℕ) (failures : D → ℕ) (other_seen : E → List ℕ) (other_failures : E → ℕ) (config : Config) (disks : D × D) (others : E × E)
    (turn other_turn : Turn) (place : MasterPlace D) (other_place : MasterPlace E) → seen disks.0 ≡ other_seen others.0 → seen disks.1 ≡ other_seen others.1
    → Opens seen failures config disks (Ok turn) place → Opens other_seen other_failures config others (Ok other_turn) other_place → AreOpenedAlike turn place other_turn other_place
