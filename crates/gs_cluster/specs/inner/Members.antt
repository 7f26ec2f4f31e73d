-- Members by what they are.
use Rattle.std.specs.Prelude.{◌≡◌, ◌++◌, ℕ, List, [], ◌∷◌, map, Result, Ok, Err}
use Rattle.gs_base.specs.declared.refusal.Refusal.{Refusal}
use Rattle.gs_base.specs.declared.refusal.Refusal.TheVariants as refusals
use Rattle.gs_client.specs.Nodes.{Node}
use Rattle.gs_nodes.specs.Nodes.{Nodes}
use Rattle.gs_nodes.specs.declared.place.MasterPlace.{MasterPlace}
use Rattle.gs_server.specs.Servers.{Server}
use Rattle.gs_cluster_core.specs.Roles.{DoesAs, StartsAs}
use Rattle.gs_cluster_core.specs.declared.role.Role.{Role}
use Rattle.gs_cluster_core.specs.declared.role.Role.TheVariants.{Master, Server as AServer, Client}
use Rattle.gs_cluster_history.specs.Histories.{Kept}
use Rattle.gs_cluster_history.specs.Setting.{Setting, all_ids}
use Rattle.gs_cluster_notes.specs.declared.notes.Notes.{Notes}
use Rattle.gs_cluster_threads.specs.Gathered.{IsWhole}
use Rattle.gs_cluster_threads.specs.declared.gathering.Member.{Member}
use Rattle.gs_cluster.specs.Finished.{HasWholeRun}
use Rattle.gs_cluster.specs.declared.gathering.Whole.{Whole}

abbrev pub cores_of : {D : Type 0} → List (Member (Role D)) → List (Role D)
cores_of {D} members = map (λ (m : Member (Role D)). m.core) members

abbrev pub masters_in : {D : Type 0} → List (Role D) → List (MasterPlace D)
masters_in [] = []
masters_in (Master place ∷ roles) = place ∷ masters_in roles
masters_in (AServer server ∷ roles) = masters_in roles
masters_in (Client node ∷ roles) = masters_in roles

abbrev pub servers_in : {D : Type 0} → List (Role D) → List Server
servers_in [] = []
servers_in (Master place ∷ roles) = servers_in roles
servers_in (AServer server ∷ roles) = server ∷ servers_in roles
servers_in (Client node ∷ roles) = servers_in roles

abbrev pub clients_in : {D : Type 0} → List (Role D) → List Node
clients_in [] = []
clients_in (Master place ∷ roles) = clients_in roles
clients_in (AServer server ∷ roles) = clients_in roles
clients_in (Client node ∷ roles) = node ∷ clients_in roles

-- these are the nodes of a store: its master, its servers, its clients
abbrev pub AreOf : {D : Type 0} → Nodes D → List (Role D) → Type 0
AreOf {D} n roles = roles ≡ Master n.master ∷ (map (λ (s : Server). AServer s) n.servers ++ map (λ (c : Node). Client c) n.clients)

-- With whatever nodes they are gathered of, these members and their notes are a whole run; or memory is wanting.
abbrev pub IsStore : {D : Type 0} → (D → List ℕ) → (D → ℕ) → Setting → List (Member (Role D)) → List Notes → Result (Whole D) Refusal → Type 0
IsStore {D} seen failures setting members notes (Ok whole) =
    (given : List (Kept (Role D))) → IsWhole (DoesAs seen failures) (StartsAs seen failures setting) (all_ids setting) given members notes → HasWholeRun seen failures setting given whole
IsStore seen failures setting members notes (Err refusal) = refusal ≡ refusals.Memory
