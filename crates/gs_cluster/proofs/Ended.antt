-- What the threads and callers of a cluster leave is a run of a store, and the nodes that it leads to.
use Rattle.std.proofs.Common.{◌≡◌, ◌≢◌, ◌∙◌, ◌+◌, ℕ, List, [], ◌∷◌, Some, Err, length, map, refl, sym, ap, subst, slice_get, arith}
use Rattle.gs_base.specs.declared.config.Config.{Config}
use Rattle.gs_base.specs.declared.refusal.Refusal.{Refusal}
use Rattle.gs_msg.specs.declared.event.DiskId.{DiskId}
use Rattle.gs_msg.specs.declared.node.NodeId.{NodeId}
use Rattle.gs_msg.specs.declared.node.NodeId.TheVariants as ids
use Rattle.gs_nodes.specs.Nodes.{Nodes, nodes_of}
use Rattle.gs_nodes.specs.declared.nodes.Nodes as held
use Rattle.gs_nodes.specs.declared.place.MasterPlace.{MasterPlace}
use Rattle.gs_cluster_core.specs.Roles.{DoesAs, StartsAs}
use Rattle.gs_cluster_core.specs.Stores.{Differ, IsStoreRun}
use Rattle.gs_cluster_core.specs.declared.role.Role.{Role}
use Rattle.gs_cluster_core.specs.declared.role.Role.TheVariants.{Master}
use Rattle.gs_cluster_history.specs.Histories.{Kept}
use Rattle.gs_cluster_history.specs.Merging.{AllKept, Matches, places_of}
use Rattle.gs_cluster_history.specs.Setting.{Setting, all_ids}
use Rattle.gs_cluster_notes.specs.declared.notes.Notes.{Notes}
use Rattle.gs_cluster_threads.specs.Gathered.{EndsAs, Gathers, IsWhole, member_of}
use Rattle.gs_cluster_threads.specs.declared.gathering.Gathered.{Gathered}
use Rattle.gs_cluster_threads.specs.declared.gathering.Member.{Member}
use Rattle.gs_cluster.specs.Finished.{HasRun}
use Rattle.gs_cluster_threads.proofs.Hosting.{refused_alike}
use Rattle.gs_cluster.specs.inner.Members.{AreOf, cores_of, masters_in}
use Rattle.gs_cluster.proofs.Ending.{are_of, sized}
use Rattle.gs_cluster.proofs.Numbers.{all_differ}

head_of : {A : Type 0} (x y : A) (xs ys : List A) → ◌≡◌ {A = List A} (x ∷ xs) (y ∷ ys) → x ≡ y
head_of x y xs ys e = cc

first_there : {C : Type 0} (ks : List (Kept C)) (me : NodeId) (rest : List NodeId) → map (λ (k : Kept C). k.me) ks ≡ me ∷ rest → (k : Kept C) × (slice_get ks 0 ≡ Some k) × (k.me ≡ me)
first_there [] me rest h = absurd cc
first_there (k ∷ ks) me rest h = (k, refl, head_of k.me me _ _ h)

cores_are : {D : Type 0} (ks : List (Kept (Role D))) → cores_of (map member_of ks) ≡ map (λ (k : Kept (Role D)). k.past.core) ks
cores_are [] = refl
cores_are (k ∷ ks) = ap (λ l. k.past.core ∷ l) (cores_are ks)

module _ {D : Type 0} (seen : D → List ℕ) (failures : D → ℕ) where
  -- histories that match are a run of the store
  abbrev pub AreARun : Type 0
  AreARun =
      (armed : DiskId → ℕ → MasterPlace D → MasterPlace D) (setting : Setting) (ks : List (Kept (Role D))) → AllKept (DoesAs seen failures) (StartsAs seen failures setting) ks → Matches ks
      → Differ (map (λ (k : Kept (Role D)). k.me) ks) → (i : ℕ) (k : Kept (Role D)) → slice_get ks i ≡ Some k → k.me ≡ ids.Master → IsStoreRun seen failures armed setting ks (places_of ks)

  module _ (law : AreARun) (setting : Setting) (callers : List (Kept (Role D))) (members : List (Member (Role D))) (notes : List Notes)
      (w : IsWhole (DoesAs seen failures) (StartsAs seen failures setting) (all_ids setting) callers members notes) where
    pub run_of : (armed : DiskId → ℕ → MasterPlace D → MasterPlace D) → IsStoreRun seen failures armed setting w.nodes (places_of w.nodes)
    run_of armed =
        let first = first_there w.nodes ids.Master _ w.numbers in
        law armed setting w.nodes w.kept w.match (subst (λ ns. Differ ns) (sym w.numbers) (all_differ setting)) 0 first.0 first.1 first.2

    pub roles_are : (armed : DiskId → ℕ → MasterPlace D → MasterPlace D) → AreOf (run_of armed).end.nodes (cores_of members)
    roles_are armed = ap (λ (ms : List (Member (Role D))). cores_of ms) w.are ∙ cores_are w.nodes ∙ are_of seen failures armed setting w.nodes (places_of w.nodes) w.numbers (run_of armed)

    not_none : (place : MasterPlace D) (roles rest : List (Role D)) → roles ≡ Master place ∷ rest → masters_in roles ≢ []
    not_none place roles rest is none = let e = ap (λ (rs : List (Role D)). masters_in rs) (sym is) ∙ none in absurd cc

    pub has_master : masters_in (cores_of members) ≢ []
    has_master = not_none _ (cores_of members) _ (roles_are (λ disk call place. place))

    pub has_run : (config : Config) (nodes : held.Nodes D) → config ≡ setting.config → ((n : Nodes D) → n.config ≡ config → AreOf n (cores_of members) → nodes_of nodes ≡ n)
        → HasRun seen failures setting callers nodes
    has_run config nodes sizes from = record {
      kept = w.nodes;
      among = w.among;
      numbers = w.numbers;
      run = run_of;
      ends = λ armed. sym (from (run_of armed).end.nodes (sized seen failures armed setting w.nodes (places_of w.nodes) w.numbers (run_of armed) ∙ sym sizes) (roles_are armed));
    }

  -- where all nodes are there, all callers are
  pub all_callers : (setting : Setting) (callers : List (Kept (Role D))) (threads : ℕ) → threads + length callers ≡ length (all_ids setting) → threads + setting.clients ≡ length (all_ids setting) → length callers ≡ setting.clients
  all_callers setting callers threads all many = let given : ℕ = length callers in let clients : ℕ = setting.clients in omega arith

  -- why it didn't end well
  pub not_finished : {A : Type 0} (Fine : A → Type 0) (setting : Setting) (callers : List (Kept (Role D))) (threads : ℕ) (refusal : Refusal)
      → Gathers (DoesAs seen failures) (StartsAs seen failures setting) (all_ids setting) (threads + length callers) callers (Err refusal) → threads + setting.clients ≡ length (all_ids setting)
      → EndsAs Fine (length callers) setting.clients (Err refusal)
  not_finished Fine setting callers threads refusal said many =
      refused_alike (λ (g : Gathered (Role D)). IsWhole (DoesAs seen failures) (StartsAs seen failures setting) (all_ids setting) callers g.members.items g.notes.items) Fine
      (threads + length callers) (length (all_ids setting)) (length callers) setting.clients refusal said (λ same. ap (λ n. threads + n) same ∙ many)
