-- A desk whose store was always asked within its types.
use Rattle.std.specs.Prelude.{ℕ, List}
use Rattle.std.specs.List.{AllByRecursion}
use Rattle.gs_base.specs.Told.{IsNumber}
use Rattle.gs_base.specs.declared.config.Config.{Config}
use Rattle.gs_shell_desk.specs.Ways.{way_of}
use Rattle.gs_shell_desk.specs.declared.desk.Desk.{Desk}
use Rattle.gs_world.specs.Runs.{IsReached}
use Rattle.gs_world.specs.Sent.{Sent}
use Rattle.gs_laws_chunks.specs.desks.Reached.{Covers, history}
use Rattle.gs_laws_world.specs.steady.Unarmed.{unarmed}
use Rattle.gs_laws_world.specs.steady.Saying.{IsStepWithin}

-- It is at a store that has begun over these disks, with one client, behind steps each of which is within its types; and its moment is a number.
pub record IsReachedWithin {D : Type 0} (seen : D → List ℕ) (failures : D → ℕ) (config : Config) (disks : D × D) (desk : Desk D) : Type 0 where
  pub sent : Sent
  pub reached : IsReached seen failures unarmed config 1 disks (history sent (way_of desk.wire))
  pub covers : Covers sent (way_of desk.wire)
  pub within : AllByRecursion IsStepWithin reached.steps
  pub moment : IsNumber desk.wire.moment.0
