-- The nodes of a store that has begun new, each with a channel into it, and the names of these channels.
use Rattle.std.specs.Prelude.{◌≡◌, ◌⊎◌, ◌<◌, ◌≤◌, ◌+◌, ℕ, List, Option, Some, None, slice_get}
use Rattle.gs_base.specs.declared.config.Config.{Config}
use Rattle.gs_base.specs.declared.refusal.Refusal.TheVariants as refusals
use Rattle.gs_journal.specs.declared.journal.Unopened.{Unopened}
use Rattle.gs_msg.specs.declared.node.NodeId.{NodeId}
use Rattle.gs_msg.specs.declared.node.NodeId.TheVariants as ids
use Rattle.gs_nodes.specs.Happenings.{WhyNotBegun}
use Rattle.gs_cluster_channel.specs.Named.{no_name}
use Rattle.gs_cluster_channel.specs.Names.{Name, name_of}
use Rattle.gs_cluster_core.specs.Roles.{StartsAs}
use Rattle.gs_cluster_core.specs.declared.role.Role.{Role}
use Rattle.gs_cluster_history.specs.Histories.{Among}
use Rattle.gs_cluster_history.specs.Setting.{Setting, all_ids}
use Rattle.gs_cluster_threads.specs.Wired.{numbers_of}
use Rattle.gs_cluster_threads.specs.declared.wiring.Seed.{Seed}

-- These are all nodes, in the order of their numbers, each as it begins. There are 1 to 16 clients.
pub record IsNew {D : Type 0} (seen : D → List ℕ) (failures : D → ℕ) (setting : Setting) (seeds : List (Seed (Role D))) : Type 0 where
  pub some : 1 ≤ setting.clients
  pub few : setting.clients ≤ 16
  pub all : numbers_of seeds ≡ all_ids setting
  pub starts : (s : Seed (Role D)) → Among seeds s → StartsAs seen failures setting s.line.me s.core s.turn.sent.items

-- Why there is none: `Config` where there are no clients or more than 16, whatever the disks are, and these are as they were; and else that
-- memory is wanting, or they can't be opened.
abbrev pub WhyNotOpened : {D : Type 0} → (D → List ℕ) → (D → ℕ) → Config → ℕ → D × D → Unopened D → Type 0
WhyNotOpened seen failures config clients disks u =
    ((u.refusal ≡ refusals.Config) × ((clients ≡ 0) ⊎ (16 < clients)) × (u.first ≡ disks.0) × (u.second ≡ disks.1))
    ⊎ ((1 ≤ clients) × (clients ≤ 16) × WhyNotBegun seen failures config disks u)

-- where the node of a number stands, with so many servers
abbrev pub place_in : ℕ → NodeId → ℕ
place_in servers ids.Master = 0
place_in servers (ids.Server id) = 1 + id
place_in servers (ids.Client id) = servers + id.0

abbrev pub name_at : {D : Type 0} → Option (Seed (Role D)) → Name
name_at (Some s) = name_of s.line.pass
name_at None = no_name

-- the names of the channels into the nodes
abbrev pub names_of : {D : Type 0} → ℕ → List (Seed (Role D)) → NodeId → Name
names_of servers seeds me = name_at (slice_get seeds (place_in servers me))
