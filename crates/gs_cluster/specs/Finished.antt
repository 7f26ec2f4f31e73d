-- What a cluster has come to when its threads have ended.
use Rattle.std.specs.Prelude.{◌≡◌, ℕ, Bool, true, false, List, length, map, Option, Some, None, Result}
use Rattle.gs_base.specs.declared.refusal.Refusal.{Refusal}
use Rattle.gs_msg.specs.declared.event.DiskId.{DiskId}
use Rattle.gs_nodes.specs.Nodes.{nodes_of}
use Rattle.gs_nodes.specs.declared.nodes.Nodes.{Nodes}
use Rattle.gs_nodes.specs.declared.place.MasterPlace.{MasterPlace}
use Rattle.gs_cluster_core.specs.Stores.{IsStoreRun}
use Rattle.gs_cluster_core.specs.declared.role.Role.{Role}
use Rattle.gs_cluster_history.specs.Histories.{Among, Kept}
use Rattle.gs_cluster_history.specs.Merging.{Place, event_of, places_of}
use Rattle.gs_cluster_history.specs.Setting.{Setting, all_ids}
use Rattle.gs_cluster_threads.specs.Gathered.{EndsAs}
use Rattle.gs_cluster.specs.declared.gathering.Whole.{Whole}

module _ {D : Type 0} (seen : D → List ℕ) (failures : D → ℕ) (setting : Setting) (given : List (Kept (Role D))) where
  -- The histories of all nodes, in the order of their numbers and these among them, by their clocks, are a run of a store that has begun new; these nodes are
  -- what it leads to.
  pub record HasRun (nodes : Nodes D) : Type 0 where
    pub kept : List (Kept (Role D))
    pub among : (k : Kept (Role D)) → Among given k → Among kept k
    pub numbers : map (λ (k : Kept (Role D)). k.me) kept ≡ all_ids setting
    pub run : (armed : DiskId → ℕ → MasterPlace D → MasterPlace D) → IsStoreRun seen failures armed setting kept (places_of kept)
    pub ends : (armed : DiskId → ℕ → MasterPlace D → MasterPlace D) → (run armed).end.nodes ≡ nodes_of nodes

  -- They are given only where these are as many as the clients, and `Stray` is said only where they aren't.
  abbrev pub Finished : Result (Nodes D) Refusal → Type 0
  Finished result = EndsAs HasRun (length given) setting.clients result

  -- It leads to these nodes and to all that they have ever sent, and these are its events.
  pub record HasWholeRun (whole : Whole D) : Type 0 where
    pub kept : List (Kept (Role D))
    pub among : (k : Kept (Role D)) → Among given k → Among kept k
    pub numbers : map (λ (k : Kept (Role D)). k.me) kept ≡ all_ids setting
    pub run : (armed : DiskId → ℕ → MasterPlace D → MasterPlace D) → IsStoreRun seen failures armed setting kept (places_of kept)
    pub ends : (armed : DiskId → ℕ → MasterPlace D → MasterPlace D) → (run armed).end ≡ record { nodes = nodes_of whole.nodes; sent = whole.sent }
    pub events_are : whole.events.items ≡ map (λ (p : Place). event_of p.entry.took) (places_of kept)

  -- It is given only where these are so many, and `Stray` is said only where they aren't.
  abbrev pub FinishedWhole : ℕ → Result (Whole D) Refusal → Type 0
  FinishedWhole all result = EndsAs HasWholeRun (length given) all result

  -- Nodes that were to keep notes are given with their run. If no notes were wanted there is none, and that is said.
  abbrev pub HasWholeIfNoted : Bool → Option (Whole D) → Type 0
  HasWholeIfNoted noted None = noted ≡ false
  HasWholeIfNoted noted (Some whole) = (noted ≡ true) × HasWholeRun whole

  -- Either is given only where these are so many, and `Stray` is said only where they aren't.
  abbrev pub FinishedIfNoted : Bool → ℕ → Result (Option (Whole D)) Refusal → Type 0
  FinishedIfNoted noted all result = EndsAs (HasWholeIfNoted noted) (length given) all result
