-- What the laws of the nodes of a cluster say.
use Rattle.std.specs.Prelude.{◌≡◌, ℕ, List, Some, map, slice_get}
use Rattle.gs_msg.specs.declared.event.DiskId.{DiskId}
use Rattle.gs_msg.specs.declared.node.NodeId.TheVariants as ids
use Rattle.gs_nodes.specs.declared.place.MasterPlace.{MasterPlace}
use Rattle.gs_world.specs.Histories.{Happens, History}
use Rattle.gs_cluster_history.specs.Histories.{Kept, Line, said_of}
use Rattle.gs_cluster_history.specs.Merging.{AllKept, Comes, Matches, Place, event_of, places_of}
use Rattle.gs_cluster_history.specs.Setting.{Setting}
use Rattle.gs_cluster_core.specs.Roles.{DoesAs, StartsAs}
use Rattle.gs_cluster_core.specs.Stores.{AreIn, Differ, IsStoreRun, numbers}
use Rattle.gs_cluster_core.specs.declared.role.Role.{Role}

-- What one of several nodes does is an event of a store that they are in, and behind it they are in it again.
abbrev pub NodesActAsInAStore : Type 0 → Type 0
NodesActAsInAStore D = (seen : D → List ℕ) (failures : D → ℕ) (armed : DiskId → ℕ → MasterPlace D → MasterPlace D) (p : Place) (old new : List (Line (Role D))) (h : History D)
    → Differ (numbers old) → Comes (DoesAs seen failures) p old new → AreIn old h
    → (after : History D) × Happens seen failures armed (event_of p.entry.took) h (said_of p.entry.outcome) after × AreIn new after

-- The entries of histories that match, of which one is the master's, are a run of a store that has begun new.
abbrev pub MatchingHistoriesAreAStoreRun : {D : Type 0} → (D → List ℕ) → (D → ℕ) → Type 0
MatchingHistoriesAreAStoreRun {D} seen failures = (armed : DiskId → ℕ → MasterPlace D → MasterPlace D) (setting : Setting) (ks : List (Kept (Role D)))
    → AllKept (DoesAs seen failures) (StartsAs seen failures setting) ks → Matches ks → Differ (map (λ (k : Kept (Role D)). k.me) ks)
    → (i : ℕ) (k : Kept (Role D)) → slice_get ks i ≡ Some k → k.me ≡ ids.Master → IsStoreRun seen failures armed setting ks (places_of ks)
