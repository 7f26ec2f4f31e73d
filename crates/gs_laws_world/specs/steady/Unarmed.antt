-- A run in which no failure of a disk is arranged.
use Rattle.std.specs.Prelude.{◌≡◌, ℕ}
use Rattle.gs_msg.specs.declared.event.DiskId.{DiskId}
use Rattle.gs_nodes.specs.declared.place.MasterPlace.{MasterPlace}

-- no line makes a disk fail: where one does, that is its own
abbrev pub unarmed : {D : Type 0} → DiskId → ℕ → MasterPlace D → MasterPlace D
unarmed disk call place = place

-- where no failure of a disk is arranged
abbrev pub IsUnarmed : {D : Type 0} → (DiskId → ℕ → MasterPlace D → MasterPlace D) → Type 0
IsUnarmed {D} armed = (disk : DiskId) (call : ℕ) (place : MasterPlace D) → armed disk call place ≡ place
