-- That an account has of the records what the master has.
use Rattle.std.specs.Prelude.{◌≡◌, ℕ, List}
use Rattle.gs_laws_chunks.specs.accounts.Running.{IsToldAt}
use Rattle.gs_laws_lift.specs.stores.Doing.{HasDurable}
use Rattle.gs_laws_world.specs.lasting.Lasting.{Lasts}
use Rattle.gs_master_spec.specs.Durable.{Durable}
use Rattle.gs_nodes.specs.declared.place.MasterPlace.{MasterPlace}

-- Where a master lasts, what its records tell is what is durable where it stands, and what its disks tell where they wait.
abbrev pub ToldIsHad : {D : Type 0} → (D → List ℕ) → Type 0
ToldIsHad {D} seen = (place : MasterPlace D) (d e : Durable) → Lasts seen place → IsToldAt seen place d → HasDurable seen place e → e ≡ d
