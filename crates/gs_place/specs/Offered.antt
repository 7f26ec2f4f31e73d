-- The chunks that were offered, in turn.
use Rattle.std.specs.Prelude.{◌≡◌, ℕ, List}
use Rattle.gs_place.specs.declared.need.Need.{Need}
use Rattle.gs_place.specs.declared.need.Needed.{Needed}
use Rattle.gs_place.specs.Needs.{IsMost}

-- these were offered
pub record IsNeeded (replicas : ℕ) (needs : List Need) (needed : Needed) : Type 0 where
  pub replicas_are : needed.replicas ≡ replicas
  pub most : IsMost replicas needs needed.most
