-- What the nodes of a cluster have sent, as the run of the store has it.
use Rattle.std.proofs.Common.{◌≡◌, ◌∙◌, ◌+◌, ◌-◌, ◌++◌, ℕ, suc, false, List, [], ◌∷◌, Some, None, map, option_map, length, replicate, if◌then◌else◌, refl, sym, ap, arith, slice_get}
use Rattle.std.proofs.lemmas.List.{length-replicate}
use Rattle.std.proofs.lemmas.Option.{slice_get_past}
use Rattle.gs_msg.specs.declared.event.DiskId.{DiskId}
use Rattle.gs_msg.specs.declared.node.NodeId.{NodeId}
use Rattle.gs_msg.specs.declared.node.NodeId.TheVariants as ids
use Rattle.gs_msg.specs.declared.outbox.Post.{Post}
use Rattle.gs_nodes.specs.declared.place.MasterPlace.{MasterPlace}
use Rattle.gs_world.specs.Sent.{Sent, posts_of}
use Rattle.gs_cluster_core.proofs.Sending.{nonzero}
use Rattle.gs_cluster_core.specs.Stores.{IsStoreRun}
use Rattle.gs_cluster_core.specs.declared.role.Role.{Role}
use Rattle.gs_cluster_history.specs.Histories.{Kept, line_of}
use Rattle.gs_cluster_history.specs.Merging.{Place}
use Rattle.gs_cluster_history.specs.Setting.{Setting, all_ids}
use Rattle.gs_cluster_notes.specs.Notes.{post_of}
use Rattle.gs_cluster.proofs.Ending.{found_in_map, other_client, other_server}
use Rattle.gs_cluster.proofs.Lists.{at_map, length_map}
use Rattle.gs_cluster.proofs.Numbers.{all_long, client_stands, server_stands}
use Rattle.gs_cluster.proofs.Ordered.{Parts, in_order, servers_long}

-- the posts of the client of a number stand at the place before it
counted : (s : Sent) (i : ℕ) → posts_of s (ids.Client (record { 0 = i + 1 })) ≡ slice_get s.clients i
counted s i =
    let some : i + 1 ≡ 0 → ⊥ = λ e. absurd (omega arith) in
    let before : i + 1 - 1 ≡ i = omega arith in
    ap (λ b. if b then None else slice_get s.clients (i + 1 - 1)) (nonzero (i + 1) some) ∙ ap (slice_get s.clients) before

abbrev nothing : List Post
nothing = []

module _ {D : Type 0} (seen : D → List ℕ) (failures : D → ℕ) (armed : DiskId → ℕ → MasterPlace D → MasterPlace D) (setting : Setting) (ks : List (Kept (Role D))) (places : List Place)
    (numbers : map (λ (k : Kept (Role D)). k.me) ks ≡ all_ids setting) (run : IsStoreRun seen failures armed setting ks places) where
  abbrev s : Sent
  s = run.end.sent

  abbrev many : ℕ
  many = setting.config.servers

  abbrev posts : Kept (Role D) → List Post
  posts k = map post_of k.past.sent

  abbrev pub lists : List (List Post)
  lists = map posts ks

  -- what stands at a place is what the store's node of the number there has sent
  posts_found : (k : ℕ) (me : NodeId) → slice_get (all_ids setting) k ≡ Some me → (ps : List Post) × (slice_get lists k ≡ Some ps) × (posts_of s me ≡ Some ps)
  posts_found k me h =
      let here = found_in_map (λ (x : Kept (Role D)). x.me) ks k me (ap (λ l. slice_get l k) numbers ∙ h) in
      let line = at_map line_of ks k ∙ ap (option_map line_of) here.1 in
      let stand = run.stand.all (line_of here.0) (k, line) in
      (posts here.0, at_map posts ks k ∙ ap (option_map posts) here.1, ap (posts_of s) (sym here.2) ∙ stand.sent)

  no_servers : slice_get s.servers many ≡ None
  no_servers =
      let begun = run.begins.sent in
      run.others.sent (ids.Server many) (other_server seen failures armed setting ks places numbers run) ∙ ap (λ (t : Sent). slice_get t.servers many) begun.2
      ∙ slice_get_past (replicate many []) many (omega (arith, length-replicate many nothing))

  no_clients : slice_get s.clients setting.clients ≡ None
  no_clients =
      let begun = run.begins.sent in
      sym (counted s setting.clients) ∙ run.others.sent (ids.Client (record { 0 = setting.clients + 1 })) (other_client seen failures armed setting ks places numbers run)
      ∙ counted run.begun.sent setting.clients ∙ ap (λ (t : Sent). slice_get t.clients setting.clients) begun.2
      ∙ slice_get_past (replicate setting.clients []) setting.clients (omega (arith, length-replicate setting.clients nothing))

  the_parts : Parts lists s.master s.servers s.clients many setting.clients
  the_parts = record {
    long =
        (let one = length_map posts ks in
        let two = length_map (λ (k : Kept (Role D)). k.me) ks in
        let three = ap (λ (l : List NodeId). length l) numbers in
        let four = all_long setting in
        omega arith);
    master = (let here = posts_found 0 ids.Master refl in here.1 ∙ sym here.2);
    server = λ i inside. let here = posts_found (suc i) (ids.Server i) (server_stands setting i inside) in (here.0, here.2, here.1);
    client = λ i inside. let here = posts_found (suc (many + i)) (ids.Client (record { 0 = i + 1 })) (client_stands setting i inside) in (here.0, sym (counted s i) ∙ here.2, here.1);
    no_server = no_servers;
    no_client = no_clients;
  }

  -- the lists of all nodes are those of the store, in order
  pub sent_in_order : lists ≡ s.master ∷ (s.servers ++ s.clients)
  sent_in_order = in_order lists s.master s.servers s.clients many setting.clients the_parts

  pub many_senders : length s.servers ≡ many
  many_senders = servers_long lists s.master s.servers s.clients many setting.clients the_parts

  pub none_lost : s.has_lost ≡ false
  none_lost = run.stand.none_lost
