-- What a crash leaves of an event of a store: of a restart of the master.
use Rattle.std.specs.Prelude.{◌≡◌, ℕ, List}
use Rattle.gs_journal.specs.Faults.{Failing}
use Rattle.gs_msg.specs.declared.event.Happening.{Happening}
use Rattle.gs_msg.specs.declared.event.Happening.TheVariants as happenings
use Rattle.gs_msg.specs.declared.node.StoreNode.{StoreNode}
use Rattle.gs_msg.specs.declared.node.StoreNode.TheVariants as keepers
use Rattle.gs_nodes.specs.Crashing.{SurvivesRestart}
use Rattle.gs_nodes.specs.declared.place.MasterPlace.{MasterPlace}

-- Of a disk that may be made to fail: what a crash may leave of it, its moment, and what one since a moment might have left. They are those of the
-- disk below.
abbrev pub leaves_of : {D : Type 0} → (D → List ℕ → Type 0) → Failing D → List ℕ → Type 0
leaves_of may_leave disk = may_leave disk.disk

abbrev pub moment_of : {D : Type 0} → (D → ℕ) → Failing D → ℕ
moment_of moment disk = moment disk.disk

abbrev pub left_of : {D : Type 0} → (D → ℕ → List ℕ → Type 0) → Failing D → ℕ → List ℕ → Type 0
left_of left_since disk = left_since disk.disk

module _ {D : Type 0} (seen : D → List ℕ) (may_leave : D → List ℕ → Type 0) (moment : D → ℕ) (left_since : D → ℕ → List ℕ → Type 0) where
  -- the master is the node that is restarted
  abbrev pub SurvivesAtNode : StoreNode → MasterPlace D → MasterPlace D → Type 0
  SurvivesAtNode node old new = node ≡ keepers.Master → SurvivesRestart seen may_leave moment left_since old new

  -- The event is a restart of the master: its disks are opened anew. Of other events nothing is said.
  abbrev pub SurvivesEvent : Happening → MasterPlace D → MasterPlace D → Type 0
  SurvivesEvent happening old new = happening ≡ happenings.Restart keepers.Master → SurvivesRestart seen may_leave moment left_since old new
