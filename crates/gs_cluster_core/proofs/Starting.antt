-- The nodes of a cluster as they begin are those of a store that has begun new.
use Rattle.std.proofs.Common.{◌≡◌, ◌∙◌, ◌++◌, ◌+◌, ◌-◌, ◌==◌, ◌<◌, ◌≤◌, ◌⊎◌, inl, inr, ⊎_elim, ℕ, zero, suc, List, [], ◌∷◌, length, map, replicate, if◌then◌else◌, Some, None, refl, sym, ap, subst, arith, slice_get, length-append}
use Rattle.std.specs.Prelude.{false, Ok}
use Rattle.std.proofs.lemmas.Option.{none-some, same_Some, slice_get_within}
use Rattle.gs_base.specs.declared.config.Config.{Config}
use Rattle.gs_client.specs.Nodes.{silent}
use Rattle.gs_master.specs.declared.turn.Turn.{Turn}
use Rattle.gs_msg.specs.Posts.{posted}
use Rattle.gs_msg.specs.declared.event.DiskId.{DiskId}
use Rattle.gs_msg.specs.declared.message.Message.{Message}
use Rattle.gs_msg.specs.declared.node.NodeId.{NodeId}
use Rattle.gs_msg.specs.declared.node.NodeId.TheVariants as ids
use Rattle.gs_msg.specs.declared.outbox.Post.{Post}
use Rattle.gs_nodes.specs.Happenings.{Opens}
use Rattle.gs_nodes.specs.Nodes.{new_clients, new_nodes, new_servers, silent_servers}
use Rattle.gs_nodes.specs.declared.place.MasterPlace.{MasterPlace}
use Rattle.gs_server.specs.Servers.{Server}
use Rattle.gs_server.specs.Servers as servers
use Rattle.gs_world.specs.Histories.{Begins, History}
use Rattle.gs_world.specs.Sent.{none_sent, posts_of, with_line}
use Rattle.gs_cluster_history.specs.Histories.{Among, Begins as NodeBegins, Kept, Line, listed}
use Rattle.gs_cluster_history.specs.Merging.{AreBegun, IsRunOf, Place, lines_of}
use Rattle.gs_cluster_history.specs.Setting.{Setting}
use Rattle.gs_cluster_core.specs.Roles.{DoesAs, StartsAs}
use Rattle.gs_cluster_core.specs.Stores.{AreIn, Differ, IsStoreRun, OthersStay, StandsIn, as_client, as_server, node_at, numbers, post_of}
use Rattle.gs_cluster_core.specs.declared.role.Role.{Role}
use Rattle.gs_cluster_core.specs.declared.role.Role.TheVariants.{Master, Server as AServer, Client}
use Rattle.gs_cluster_core.proofs.Running.{all_happen, map_at}
use Rattle.gs_cluster_core.proofs.Sending.{is_posted, nonzero, posts_added}

-- ---- places of lists

get_before : {X : Type 0} (xs ys : List X) (i : ℕ) → i < length xs → slice_get (xs ++ ys) i ≡ slice_get xs i
get_before [] ys i inside = absurd (omega arith)
get_before (x ∷ xs) ys zero inside = refl
get_before (x ∷ xs) ys (suc i) inside = get_before xs ys i (omega arith)

get_last : {X : Type 0} (xs : List X) (y : X) → slice_get (xs ++ y ∷ []) (length xs) ≡ Some y
get_last [] y = refl
get_last (x ∷ xs) y = get_last xs y

get_same : {X : Type 0} (n i : ℕ) (x : X) → i < n → slice_get (replicate n x) i ≡ Some x
get_same zero i x inside = absurd (omega arith)
get_same (suc n) zero x inside = refl
get_same (suc n) (suc i) x inside = get_same n i x (omega arith)

map_found : {X Y : Type 0} (f : X → Y) (xs : List X) (i : ℕ) (y : Y) → slice_get (map f xs) i ≡ Some y → (x : X) × (slice_get xs i ≡ Some x) × (f x ≡ y)
map_found f [] i y h = absurd (none-some y h)
map_found f (x ∷ xs) zero y h = (x, refl, same_Some (f x) y h)
map_found f (x ∷ xs) (suc i) y h = map_found f xs i y h

-- ---- servers and clients that have heard nothing

servers_length : (config : Config) (many : ℕ) → length (silent_servers config many) ≡ many
servers_length config zero = refl
servers_length config (suc many) = let before = servers_length config many in omega (arith, length-append (silent_servers config many) (servers.new many config.block config.chunk ∷ []))

clients_length : (many : ℕ) → length (new_clients many) ≡ many
clients_length zero = refl
clients_length (suc many) = let before = clients_length many in omega (arith, length-append (new_clients many) (silent (record { 0 = many + 1 }) ∷ []))

before_or_last : (i many : ℕ) → i < suc many → (i < many) ⊎ (i ≡ many)
before_or_last zero zero h = inr refl
before_or_last zero (suc many) h = inl (omega arith)
before_or_last (suc i) zero h = absurd (omega arith)
before_or_last (suc i) (suc many) h = ⊎_elim (λ b. inl (omega (arith, b))) (λ e. inr (ap suc e)) (before_or_last i many (omega arith))

client_new : (many i : ℕ) → i < many → slice_get (new_clients many) i ≡ Some (silent (record { 0 = i + 1 }))
client_new zero i inside = absurd (omega arith)
client_new (suc many) i inside =
    let long = clients_length many in
    elim (before_or_last i many inside) [
      | inl before ↦ get_before (new_clients many) (silent (record { 0 = many + 1 }) ∷ []) i (omega (arith, long)) ∙ client_new many i before
      | inr last ↦ subst (λ k. slice_get (new_clients many ++ silent (record { 0 = many + 1 }) ∷ []) k ≡ Some (silent (record { 0 = k + 1 }))) (sym last)
          (ap (slice_get (new_clients many ++ silent (record { 0 = many + 1 }) ∷ [])) (sym long) ∙ get_last (new_clients many) (silent (record { 0 = many + 1 })))
    ]

client_found : (many n : ℕ) → 1 ≤ n → n ≤ many → (if n == 0 then None else slice_get (new_clients many) (n - 1)) ≡ Some (silent (record { 0 = n }))
client_found many n above below =
    let some : n ≡ 0 → ⊥ = λ e. absurd (omega arith) in
    let next : n - 1 + 1 ≡ n = omega arith in
    ap (λ b. if b then None else slice_get (new_clients many) (n - 1)) (nonzero n some) ∙ client_new many (n - 1) (omega arith) ∙ ap (λ (k : ℕ). Some (silent (record { 0 = k }))) next

abbrev no_posts : List Post
no_posts = []

none_found : (many n : ℕ) → 1 ≤ n → n ≤ many → (if n == 0 then None else slice_get (replicate many []) (n - 1)) ≡ Some no_posts
none_found many n above below =
    let some : n ≡ 0 → ⊥ = λ e. absurd (omega arith) in
    ap (λ b. if b then None else slice_get (replicate many []) (n - 1)) (nonzero n some) ∙ get_same many (n - 1) [] (omega arith)

is_master : (me : NodeId) → (me ≡ ids.Master) ⊎ (me ≡ ids.Master → ⊥)
is_master ids.Master = inl refl
is_master (ids.Server id) = inr (λ e. absurd (cc))
is_master (ids.Client id) = inr (λ e. absurd (cc))

module _ {D : Type 0} (seen : D → List ℕ) (failures : D → ℕ) (setting : Setting) where
  record MasterBegins (core : Role D) (first : List Message) : Type 0 where
    disks : D × D
    turn : Turn
    place : MasterPlace D
    texts : (seen disks.0, seen disks.1) ≡ setting.texts
    opens : Opens seen failures setting.config disks (Ok turn) place
    is : core ≡ Master place
    told : first ≡ turn.sent.items

  master_begins : (core : Role D) (first : List Message) → StartsAs seen failures setting ids.Master core first → MasterBegins core first
  master_begins (Master place) first (disks, turn, texts, opens, told) = record { disks = disks; turn = turn; place = place; texts = texts; opens = opens; is = refl; told = told }
  master_begins (AServer s) first starts = absurd starts
  master_begins (Client c) first starts = absurd starts

  module _ (place : MasterPlace D) (turn : Turn) where
    abbrev begun : History D
    begun = record {
      nodes = new_nodes setting.config setting.clients place;
      sent = with_line ids.Master ([] ++ map (posted (record { 0 = 0 })) turn.sent.items, false) (none_sent setting.config.servers setting.clients);
    }

    others_begin : (me : NodeId) (core : Role D) (first : List Message) → (me ≡ ids.Master → ⊥) → StartsAs seen failures setting me core first
        → (node_at begun.nodes me ≡ Some core) × (posts_of begun.sent me ≡ Some []) × (first ≡ [])
    others_begin ids.Master core first other starts = absurd (other refl)
    others_begin (ids.Server id) (Master p) first other starts = absurd starts
    others_begin (ids.Server id) (AServer s) first other (found, none) =
        let inside = subst (λ n. id < n) (servers_length setting.config setting.config.servers) (slice_get_within (new_servers setting.config) id s found) in
        (ap (as_server {D = D}) found, get_same setting.config.servers id [] inside, none)
    others_begin (ids.Server id) (Client c) first other starts = absurd starts
    others_begin (ids.Client id) (Master p) first other starts = absurd starts
    others_begin (ids.Client id) (AServer s) first other starts = absurd starts
    others_begin (ids.Client id) (Client c) first other (above, below, is, none) =
        (ap (as_client {D = D}) (client_found setting.clients id.0 above below ∙ ap Some (sym is)), none_found setting.clients id.0 above below, none)

    module _ (lines : List (Line (Role D))) (differ : Differ (numbers lines)) (begins : (l : Line (Role D)) → Among lines l → NodeBegins (DoesAs seen failures) (StartsAs seen failures setting) l.me l.past)
        (i : ℕ) (m : Line (Role D)) (found : slice_get lines i ≡ Some m) (master : m.me ≡ ids.Master) (core : m.past.core ≡ Master place)
        (sent : m.past.sent ≡ map (listed 0 (record { 0 = 0 })) turn.sent.items) where
      master_stands : StandsIn begun m
      master_stands = record {
        node = ap (node_at begun.nodes) master ∙ ap Some (sym core);
        sent = ap (posts_of begun.sent) master ∙ ap Some (sym (posts_added [] 0 (record { 0 = 0 }) turn.sent.items) ∙ ap (map post_of) (sym sent));
      }

      other_stands : (l : Line (Role D)) → Among lines l → (l.me ≡ ids.Master → ⊥) → StandsIn begun l
      other_stands l among other =
          let b = begins l among in
          let o = others_begin l.me l.past.core b.first other b.starts in
          record { node = o.0; sent = o.1 ∙ ap Some (sym (ap (map post_of) (b.sent ∙ ap (map (listed 0 (record { 0 = 0 }))) o.2))) }

      all_stand : (l : Line (Role D)) → Among lines l → StandsIn begun l
      all_stand l (k, is) =
          ⊎_elim
          (λ too. let same = differ i k ids.Master (map_at (λ (x : Line (Role D)). x.me) lines i m found ∙ ap Some master) (map_at (λ (x : Line (Role D)). x.me) lines k l is ∙ ap Some too) in
          subst (λ (x : Line (Role D)). StandsIn begun x) (same_Some m l (sym found ∙ ap (slice_get lines) same ∙ is)) master_stands)
          (λ other. other_stands l (k, is) other)
          (is_master l.me)

      pub are_in : AreIn lines begun
      are_in = record { all = all_stand; none_lost = refl }

module _ {D : Type 0} (seen : D → List ℕ) (failures : D → ℕ) (armed : DiskId → ℕ → MasterPlace D → MasterPlace D) where
  begins_new : (setting : Setting) (disks : D × D) (place : MasterPlace D) (turn : Turn) → Opens seen failures setting.config disks (Ok turn) place
      → Begins seen failures armed setting.config setting.clients disks (begun seen failures setting place turn)
  begins_new setting disks place turn opens =
      record { place = place; turn = turn; opens = opens; nodes = refl; sent = is_posted (record { 0 = 0 }) ids.Master turn.sent.items (none_sent setting.config.servers setting.clients) [] refl }

  pub is_store_run : (setting : Setting) (ks : List (Kept (Role D))) (places : List Place) (lines : List (Line (Role D))) → AreBegun (DoesAs seen failures) (StartsAs seen failures setting) ks lines
      → IsRunOf (DoesAs seen failures) ks lines places → Differ (map (λ (k : Kept (Role D)). k.me) ks) → (i : ℕ) (k : Kept (Role D)) → slice_get ks i ≡ Some k → k.me ≡ ids.Master
      → IsStoreRun seen failures armed setting ks places
  is_store_run setting ks places lines are run differ i k found master =
      let line = map_found (λ (l : Line (Role D)). l.me) lines i k.me (ap (λ ns. slice_get ns i) are.nodes ∙ map_at (λ (k : Kept (Role D)). k.me) ks i k found) in
      let m = line.0 in
      let is = line.2 ∙ master in
      let b = are.begins m (i, line.1) in
      let o = master_begins seen failures setting m.past.core b.first (subst (λ me. StartsAs seen failures setting me m.past.core b.first) is b.starts) in
      let apart = subst Differ (sym are.nodes) differ in
      let stand = are_in seen failures setting o.place o.turn lines apart are.begins i m line.1 is o.is (b.sent ∙ ap (map (listed 0 (record { 0 = 0 }))) o.told) in
      let all = all_happen seen failures armed places lines (lines_of ks) (begun seen failures setting o.place o.turn) apart run.runs stand in
      record {
        disks = o.disks;
        begun = begun seen failures setting o.place o.turn;
        end = all.end;
        texts = o.texts;
        begins = begins_new setting o.disks o.place o.turn o.opens;
        happens = all.happens;
        stand = all.are;
        others = subst (λ ns. OthersStay ns (begun seen failures setting o.place o.turn) all.end) are.nodes all.others;
        each = run.each;
        rises = run.rises;
      }
