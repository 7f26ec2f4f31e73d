-- What the law of histories that match says.
use Rattle.std.specs.Prelude.{List}
use Rattle.gs_msg.specs.declared.message.Message.{Message}
use Rattle.gs_msg.specs.declared.node.NodeId.{NodeId}
use Rattle.gs_cluster_history.specs.declared.took.Took.{Took}
use Rattle.gs_cluster_history.specs.Histories.{Kept, Line, Upshot}
use Rattle.gs_cluster_history.specs.Merging.{AllKept, AreBegun, IsRunOf, Matches, places_of}
use Rattle.gs_cluster_history.specs.Setting.{Setting}

-- Whatever a node does with what it takes, and however it begins: the entries of histories that match are a run of all nodes together.
abbrev pub MatchingHistoriesAreARun : {C : Type 0} → (Took → C → Upshot → C → Type 0) → (Setting → NodeId → C → List Message → Type 0) → Type 0
MatchingHistoriesAreARun {C} Does Starts = (setting : Setting) (ks : List (Kept C)) → AllKept Does (Starts setting) ks → Matches ks
    → (begun : List (Line C)) × AreBegun Does (Starts setting) ks begun × IsRunOf Does ks begun (places_of ks)
