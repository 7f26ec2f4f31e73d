-- What a crash leaves of two disks on which a master is opened, in the midst of that and behind it.
use Rattle.std.specs.Prelude.{◌≡◌, ℕ, false, List, MatchOption}
use Rattle.gs_journal.specs.Journal.{Stands}
use Rattle.gs_journal.specs.Records.{Text, generation_standing, standing}
use Rattle.gs_journal.specs.declared.version.Version.TheVariants as versions
use Rattle.gs_master.specs.Crashing.{MightTell, SurvivesOpening, SurvivesRefusal}
use Rattle.gs_master.specs.Masters.{MasterOf}
use Rattle.gs_master_spec.specs.State.{is_failed}
use Rattle.gs_nodes.specs.Happenings.{disks_of}
use Rattle.gs_nodes.specs.declared.place.MasterPlace.{MasterPlace}
use Rattle.gs_nodes.specs.declared.place.MasterPlace.TheVariants.{Standing, Closed, Away}

-- For what is seen of a disk, what a crash may leave of it, its moment, and what one since a moment might have left.
module _ {D : Type 0} (seen : D → List ℕ) (may_leave : D → List ℕ → Type 0) (moment : D → ℕ) (left_since : D → ℕ → List ℕ → Type 0) where
  -- A master was opened on these disks. A crash in the midst of it left what one just before might have left, or what the disks told, or in the
  -- place of a text of version 1 the checkpoint of that. A crash now leaves what the journal tells.
  pub record SurvivesOpened (disks : D × D) (m : MasterOf D) : Type 0 where
    pub any_moment : SurvivesOpening may_leave moment left_since (standing (seen disks.0) (seen disks.1)) (generation_standing (seen disks.0) (seen disks.1)) disks.0 disks.1 m.journal.first m.journal.second
    pub stands : Stands seen may_leave m.journal

  -- None was, and these two are handed back. A crash in the midst of it left one of the same. A crash now leaves what one before might have left,
  -- or in the place of a text of version 1 the checkpoint of that.
  pub record SurvivesUnopened (disks : D × D) (first second : D) : Type 0 where
    pub any_moment : SurvivesRefusal may_leave moment left_since (standing (seen disks.0) (seen disks.1)) (generation_standing (seen disks.0) (seen disks.1)) disks.0 disks.1 first second
    pub lasts : (a b : List ℕ) → may_leave first a → may_leave second b → MightTell (may_leave disks.0) (may_leave disks.1) (standing a b)

  -- of these disks there is a master now, or two disks that wait
  abbrev pub SurvivesAt : D × D → MasterPlace D → Type 0
  SurvivesAt disks (Standing m) = SurvivesOpened disks m
  SurvivesAt disks (Closed first second) = SurvivesUnopened disks first second
  SurvivesAt disks Away = ⊥

  -- whatever a crash leaves of two disks tells this text
  abbrev pub CrashLeaves : Text → D × D → Type 0
  CrashLeaves text disks = (a b : List ℕ) → may_leave disks.0 a → may_leave disks.1 b → standing a b ≡ text

  -- while no disk of a master has failed, a crash leaves what its journal tells, which is of version 2
  abbrev pub StandsAt : MasterPlace D → Type 0
  StandsAt (Standing m) = is_failed m.state.fault ≡ false → Stands seen may_leave m.journal × (m.journal.text.0 ≡ versions.Two)
  StandsAt (Closed first second) = Unit {0}
  StandsAt Away = Unit {0}

  -- There was a master, no disk of which had failed, and there is none now: a crash leaves what its journal told.
  abbrev pub LeavesOfMaster : MasterPlace D → MasterPlace D → Type 0
  LeavesOfMaster (Standing m) (Closed first second) = is_failed m.state.fault ≡ false → CrashLeaves m.journal.text (first, second)
  LeavesOfMaster (Standing m) (Standing opened) = Unit {0}
  LeavesOfMaster (Standing m) Away = Unit {0}
  LeavesOfMaster (Closed first second) new = Unit {0}
  LeavesOfMaster Away new = Unit {0}

  -- Disks that couldn't be opened leave the text that they would have left before, where it is of version 2: also where that is tried again.
  abbrev pub RefusalsLeave : Type 0
  RefusalsLeave = (disks : D × D) (first second : D) (text : Text) → SurvivesUnopened disks first second → text.0 ≡ versions.Two → CrashLeaves text disks → CrashLeaves text (first, second)

  -- The disks of the master are opened anew. Where they are away nothing is said.
  abbrev pub SurvivesRestart : MasterPlace D → MasterPlace D → Type 0
  SurvivesRestart old new = MatchOption (disks_of old) (Unit {0}) (λ disks. SurvivesAt disks new × LeavesOfMaster old new)

-- Worked: of disks that are away nothing is said, and those of a master, or that wait, lead to a master, or wait.
module _ {D : Type 0} (seen : D → List ℕ) (may_leave : D → List ℕ → Type 0) (moment : D → ℕ) (left_since : D → ℕ → List ℕ → Type 0) where
  nothing_is_said_of_disks_that_are_away : (new : MasterPlace D) → SurvivesRestart seen may_leave moment left_since Away new
  nothing_is_said_of_disks_that_are_away new = tt

  disks_that_wait_wait_on : (a b c d : D) → SurvivesUnopened seen may_leave moment left_since (a, b) c d → SurvivesRestart seen may_leave moment left_since (Closed a b) (Closed c d)
  disks_that_wait_wait_on a b c d is = (is, tt)

  no_disks_get_lost : (a b : D) → SurvivesRestart seen may_leave moment left_since (Closed a b) Away → ⊥
  no_disks_get_lost a b is = is.0
