-- What the lines of a script make of a store is a run of events.
use Rattle.std.specs.Prelude.{◌≡◌, ℕ, true, List, length}
use Rattle.std.specs.List.{AllByRecursion}
use Rattle.gs_base.specs.declared.config.Config.{Config}
use Rattle.gs_msg.specs.declared.message.Message.{Message}
use Rattle.gs_shell_desk.specs.Ways.{Way, way_of}
use Rattle.gs_shell_desk.specs.declared.desk.Desk.{Desk}
use Rattle.gs_world.specs.Histories.{History}
use Rattle.gs_world.specs.Runs.{IsReached, RunsTo, Step}
use Rattle.gs_world.specs.Sent.{IsSent, Sent}
use Rattle.gs_laws_world.specs.steady.Unarmed.{unarmed}

abbrev pub AllSent : Sent → List Message → Type 0
AllSent sent messages = AllByRecursion (λ message. IsSent message sent) messages

-- All that is under way or held back was sent by its node. There is a list for each node. Where a message was lost, it is noted that
-- memory was wanting.
pub record Covers {D : Type 0} (sent : Sent) (w : Way D) : Type 0 where
  pub queue : AllSent sent w.queue
  pub held : AllSent sent w.held
  pub servers : length sent.servers ≡ length w.nodes.servers
  pub clients : length sent.clients ≡ length w.nodes.clients
  pub short : sent.has_lost ≡ true → w.is_short ≡ true

abbrev pub history : {D : Type 0} → Sent → Way D → History D
history sent w = record { nodes = w.nodes; sent = sent }

-- from one way to another lead steps of a store, in which all was sent that is under way
pub record LeadsBySteps {D : Type 0} (seen : D → List ℕ) (failures : D → ℕ) (old new : Way D) (sent : Sent) : Type 0 where
  pub steps : List Step
  pub after : Sent
  pub runs : RunsTo seen failures unarmed steps (history sent old) (history after new)
  pub covers : Covers after new

-- a desk at a store that has begun over these disks, with one client, behind some steps
pub record IsReachedDesk {D : Type 0} (seen : D → List ℕ) (failures : D → ℕ) (config : Config) (disks : D × D) (desk : Desk D) : Type 0 where
  pub sent : Sent
  pub reached : IsReached seen failures unarmed config 1 disks (history sent (way_of desk.wire))
  pub covers : Covers sent (way_of desk.wire)
