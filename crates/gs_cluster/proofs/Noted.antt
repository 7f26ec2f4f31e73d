-- What the threads and callers of a cluster leave, with what its nodes have noted, is a store with all that was sent.
use Rattle.std.proofs.Common.{◌≡◌, ◌∙◌, ◌+◌, ◌++◌, ℕ, false, List, [], ◌∷◌, Result, Ok, Err, length, map, refl, sym, ap, subst, arith}
use Rattle.std.proofs.lemmas.Option.{none-some}
use Rattle.gs_base.specs.declared.config.Config.{Config}
use Rattle.gs_base.specs.declared.refusal.Refusal.{Refusal}
use Rattle.gs_base.specs.declared.refusal.Refusal.TheVariants as refusals
use Rattle.gs_msg.specs.Posts.{Posted}
use Rattle.gs_msg.specs.declared.event.DiskId.{DiskId}
use Rattle.gs_msg.specs.declared.node.NodeId.{NodeId}
use Rattle.gs_msg.specs.declared.outbox.Post.{Post}
use Rattle.gs_nodes.specs.Nodes.{Nodes, nodes_of}
use Rattle.gs_nodes.specs.declared.place.MasterPlace.{MasterPlace}
use Rattle.gs_world.specs.Sent.{Sent, all_posts}
use Rattle.gs_cluster_core.specs.Roles.{DoesAs, StartsAs}
use Rattle.gs_cluster_core.specs.Stores.{IsStoreRun}
use Rattle.gs_cluster_core.specs.declared.role.Role.{Role}
use Rattle.gs_cluster_history.specs.Histories.{Entry, Kept, Listed}
use Rattle.gs_cluster_history.specs.Merging.{Place, event_of, merged, places_of}
use Rattle.gs_cluster_history.specs.Setting.{Setting, all_ids}
use Rattle.gs_cluster_notes.specs.Notes.{AllKeep, post_of, posts_all}
use Rattle.gs_cluster_notes.specs.declared.notes.Notes.{Notes}
use Rattle.gs_cluster_threads.specs.Gathered.{EndsAs, IsWhole}
use Rattle.gs_cluster_threads.specs.declared.gathering.Member.{Member}
use Rattle.gs_cluster.specs.Finished.{FinishedWhole, HasWholeRun}
use Rattle.gs_cluster.specs.declared.gathering.Whole.{Whole}
use Rattle.gs_cluster.specs.inner.Members.{AreOf, IsStore, cores_of}
use Rattle.gs_cluster.proofs.Ended.{AreARun, roles_are, run_of}
use Rattle.gs_cluster.proofs.Ending.{sized}
use Rattle.gs_cluster.proofs.Lists.{length_map}
use Rattle.gs_cluster.proofs.Numbers.{all_long}
use Rattle.gs_cluster.proofs.SentBy.{many_senders, none_lost, sent_in_order}

posts_mapped : {C : Type 0} (ks : List (Kept C)) → posts_all (map (λ (k : Kept C). k.past.sent) ks) ≡ map (λ (k : Kept C). map post_of k.past.sent) ks
posts_mapped [] = refl
posts_mapped {C} (k ∷ ks) = ap (λ (l : List (List Post)). map post_of k.past.sent ∷ l) (posts_mapped ks)

module _ {D : Type 0} (seen : D → List ℕ) (failures : D → ℕ) (law : AreARun seen failures) (setting : Setting) (callers : List (Kept (Role D))) (members : List (Member (Role D))) (notes : List Notes)
    (w : IsWhole (DoesAs seen failures) (StartsAs seen failures setting) (all_ids setting) callers members notes) where
  abbrev run : (armed : DiskId → ℕ → MasterPlace D → MasterPlace D) → IsStoreRun seen failures armed setting w.nodes (places_of w.nodes)
  run armed = run_of seen failures law setting callers members notes w armed

  abbrev histories : List (List Entry)
  histories = map (λ (k : Kept (Role D)). k.entries) w.nodes

  abbrev sent : List (List Listed)
  sent = map (λ (k : Kept (Role D)). k.past.sent) w.nodes

  -- there is an outbox of each node
  pub all_senders : (outboxes : List Posted) → ((hs : List (List Entry)) (ss : List (List Listed)) → AllKeep notes hs ss → map (λ (o : Posted). o.posts) outboxes ≡ posts_all ss) → length outboxes ≡ 1 + setting.config.servers + setting.clients
  all_senders outboxes told =
      let one = length_map (λ (o : Posted). o.posts) outboxes in
      let two = ap (λ (l : List (List Post)). length l) (told histories sent w.told ∙ posts_mapped w.nodes) in
      let three = length_map (λ (k : Kept (Role D)). map post_of k.past.sent) w.nodes in
      let four = length_map (λ (k : Kept (Role D)). k.me) w.nodes in
      let five = ap (λ (l : List NodeId). length l) w.numbers in
      let six = all_long setting in
      omega arith

  pub has_whole : (config : Config) (whole : Whole D) (outboxes : List Posted) → config ≡ setting.config
      → ((n : Nodes D) → n.config ≡ config → AreOf n (cores_of members) → nodes_of whole.nodes ≡ n)
      → ((hs : List (List Entry)) (ss : List (List Listed)) → AllKeep notes hs ss → whole.events.items ≡ map (λ (p : Place). event_of p.entry.took) (merged hs))
      → ((hs : List (List Entry)) (ss : List (List Listed)) → AllKeep notes hs ss → map (λ (o : Posted). o.posts) outboxes ≡ posts_all ss)
      → ((s : Sent) → all_posts outboxes ≡ s.master ∷ (s.servers ++ s.clients) → length s.servers ≡ config.servers → s.has_lost ≡ false → whole.sent ≡ s)
      → HasWholeRun seen failures setting callers whole
  has_whole config whole outboxes sizes nodes noted told posts = record {
    kept = w.nodes;
    among = w.among;
    numbers = w.numbers;
    run = run;
    ends = ended;
    events_are = noted histories sent w.told;
  }
    where
      ended : (armed : DiskId → ℕ → MasterPlace D → MasterPlace D) → (run armed).end ≡ record { nodes = nodes_of whole.nodes; sent = whole.sent }
      ended armed =
          let r = run armed in
          let size = sized seen failures armed setting w.nodes (places_of w.nodes) w.numbers r in
          let these = nodes r.end.nodes (size ∙ sym sizes) (roles_are seen failures law setting callers members notes w armed) in
          let order = told histories sent w.told ∙ posts_mapped w.nodes ∙ sent_in_order seen failures armed setting w.nodes (places_of w.nodes) w.numbers r in
          let many = many_senders seen failures armed setting w.nodes (places_of w.nodes) w.numbers r ∙ ap (λ (c : Config). c.servers) (sym sizes) in
          let all = posts r.end.sent order many (none_lost seen failures armed setting w.nodes (places_of w.nodes) w.numbers r) in
          ap (λ (n : Nodes D). record { nodes = n; sent = r.end.sent }) (sym these) ∙ ap (λ (s : Sent). record { nodes = nodes_of whole.nodes; sent = s }) (sym all)

-- ---- of which nodes

-- memory is wanting
pub lacks_memory : {A : Type 0} (Well : A → Type 0) (many all : ℕ) (refusal : Refusal) → refusal ≡ refusals.Memory → EndsAs Well many all (Err refusal)
lacks_memory Well many all refusal is = subst (λ r. EndsAs Well many all (Err r)) (sym is) tt

module _ {D : Type 0} (seen : D → List ℕ) (failures : D → ℕ) (setting : Setting) (given : List (Kept (Role D))) where
  abbrev Whole_of : List (Kept (Role D)) → List (Member (Role D)) → List Notes → Type 0
  Whole_of ks members notes = IsWhole (DoesAs seen failures) (StartsAs seen failures setting) (all_ids setting) ks members notes

  -- all nodes, with none that are named among them
  pub for_none : (members : List (Member (Role D))) (notes : List Notes) → Whole_of given members notes → Whole_of [] members notes
  for_none members notes w = record { nodes = w.nodes; among = λ k a. absurd (none-some k a.1); numbers = w.numbers; kept = w.kept; match = w.match; are = w.are; told = w.told }

  pub finishes : (members : List (Member (Role D))) (notes : List Notes) → Whole_of given members notes → (all : ℕ) → length given ≡ all → (result : Result (Whole D) Refusal) → IsStore seen failures setting members notes result
      → FinishedWhole seen failures setting given all result
  finishes members notes w all long (Ok whole) store = (long, store given w)
  finishes members notes w all long (Err refusal) is = lacks_memory (HasWholeRun seen failures setting given) (length given) all refusal is
