-- Behind each step of a run the blocks that servers have are among some.
use Rattle.std.specs.Prelude.{ℕ, Bool, List, [], ◌∷◌}
use Rattle.gs_world.specs.Histories.{History}
use Rattle.gs_world.specs.Runs.{RunsTo, Step}
use Rattle.gs_laws_world.specs.steady.Unarmed.{unarmed}
use Rattle.gs_laws_world.specs.steady.Saying.{RunsQuietly}
use Rattle.gs_laws_chunks.specs.accounts.Running.{AreAmong}

-- behind each step of a run the blocks that servers have are among some
abbrev pub AreAlways : {D : Type 0} (seen : D → List ℕ) (failures : D → ℕ) → (List ℕ → Bool) → (steps : List Step) (old new : History D) → RunsQuietly seen failures unarmed steps old new → Type 0
AreAlways seen failures among [] old new runs = Unit {0}
AreAlways seen failures among (step ∷ steps) old new (mid, goes, quiet, rest) = AreAmong among mid.nodes × AreAlways seen failures among steps mid new rest

-- behind each step of any run they are
abbrev pub AreEver : {D : Type 0} (seen : D → List ℕ) (failures : D → ℕ) → (List ℕ → Bool) → (steps : List Step) (old new : History D) → RunsTo seen failures unarmed steps old new → Type 0
AreEver seen failures among [] old new runs = Unit {0}
AreEver seen failures among (step ∷ steps) old new (mid, goes, rest) = AreAmong among mid.nodes × AreEver seen failures among steps mid new rest
