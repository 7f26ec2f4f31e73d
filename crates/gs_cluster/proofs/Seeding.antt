-- The nodes as they begin stand in the order of their numbers, and each has the name of its channel.
use Rattle.std.proofs.Common.{◌≡◌, ◌∙◌, ◌+◌, ◌<◌, ◌≤◌, ◌++◌, ℕ, zero, suc, List, [], ◌∷◌, Some, map, option_map, length, refl, sym, ap, subst, inl, inr, arith, slice_get}
use Rattle.std.proofs.lemmas.List.{map-append}
use Rattle.std.proofs.lemmas.Option.{same_Some, slice_get_past}
use Rattle.gs_base.specs.declared.config.Config.{Config}
use Rattle.gs_client.specs.Nodes.{silent}
use Rattle.gs_msg.specs.declared.message.Message.{Message}
use Rattle.gs_msg.specs.declared.node.NodeId.{NodeId}
use Rattle.gs_msg.specs.declared.node.NodeId.TheVariants as ids
use Rattle.gs_nodes.specs.Nodes.{silent_servers}
use Rattle.gs_server.specs.Servers.{Server}
use Rattle.gs_server.specs.Servers as servers
use Rattle.gs_cluster_channel.specs.Named.{IsNamed}
use Rattle.gs_cluster_channel.specs.Names.{Name, name_of}
use Rattle.gs_cluster_core.specs.Roles.{StartsAs}
use Rattle.gs_cluster_core.specs.declared.role.Role.{Role}
use Rattle.gs_cluster_core.specs.declared.role.Role.TheVariants.{Master, Server as AServer, Client}
use Rattle.gs_cluster_history.specs.Histories.{Among, Kept, listed}
use Rattle.gs_cluster_history.specs.Logs.{first_sent}
use Rattle.gs_cluster_history.specs.Setting.{Setting, all_ids, client_ids, server_ids}
use Rattle.gs_cluster_threads.specs.Wired.{MayBegin, fresh, numbers_of}
use Rattle.gs_cluster_threads.specs.declared.wiring.Seed.{Seed}
use Rattle.gs_cluster.specs.Calling.{fresh_clients}
use Rattle.gs_cluster.specs.Opened.{IsNew, name_at, names_of}
use Rattle.gs_cluster.specs.inner.Seeds.{BeginsSo, Row, client_rows, row_of, rows_of, server_rows}
use Rattle.gs_cluster.proofs.Listed.{counted, counted_at, counted_long}
use Rattle.gs_cluster.proofs.Lists.{at_before, at_behind, at_map, below_or, found, length_map, same_lists}
use Rattle.gs_cluster.proofs.Numbers.{AClient, AMaster, AServer as IsServer, all_long, client_stands, place_of, stands}

-- ---- one after the other

module _ (D : Type 0) (config : Config) where
  abbrev server_row : ℕ → Row D
  server_row i = (ids.Server i, (AServer (servers.new i config.block config.chunk), []))

  abbrev client_row : ℕ → Row D
  client_row i = (ids.Client (record { 0 = i + 1 }), (Client (silent (record { 0 = i + 1 })), []))

  servers_counted : (many : ℕ) → server_rows config many ≡ counted server_row many
  servers_counted zero = refl
  servers_counted (suc many) = ap (λ rows. rows ++ server_row many ∷ []) (servers_counted many)

  clients_counted : (many : ℕ) → client_rows many ≡ counted client_row many
  clients_counted zero = refl
  clients_counted (suc many) = ap (λ rows. rows ++ client_row many ∷ []) (clients_counted many)

  silent_counted : (many : ℕ) → silent_servers config many ≡ counted (λ i. servers.new i config.block config.chunk) many
  silent_counted zero = refl
  silent_counted (suc many) = ap (λ ss. ss ++ servers.new many config.block config.chunk ∷ []) (silent_counted many)

  server_numbers : (many : ℕ) → map (λ (r : Row D). r.0) (server_rows config many) ≡ server_ids many
  server_numbers zero = refl
  server_numbers (suc many) = map-append (λ (r : Row D). r.0) (server_rows config many) (server_row many ∷ []) ∙ ap (λ ns. ns ++ ids.Server many ∷ []) (server_numbers many)

  client_numbers : (many : ℕ) → map (λ (r : Row D). r.0) (client_rows many) ≡ client_ids many
  client_numbers zero = refl
  client_numbers (suc many) = map-append (λ (r : Row D). r.0) (client_rows many) (client_row many ∷ []) ∙ ap (λ ns. ns ++ ids.Client (record { 0 = many + 1 }) ∷ []) (client_numbers many)

numbers_are : {D : Type 0} (seeds : List (Seed (Role D))) → numbers_of seeds ≡ map (λ (r : Row D). r.0) (rows_of seeds)
numbers_are [] = refl
numbers_are (s ∷ ss) = ap (λ ns. s.line.me ∷ ns) (numbers_are ss)

module _ {D : Type 0} (seen : D → List ℕ) (failures : D → ℕ) (config : Config) (clients : ℕ) (disks : D × D) (first : Seed (Role D)) (begins : BeginsSo seen failures config disks first)
    (seeds : List (Seed (Role D))) (rows : rows_of seeds ≡ row_of first ∷ (server_rows config config.servers ++ client_rows clients)) where
  abbrev pub setting : Setting
  setting = record { config = config; clients = clients; texts = (seen disks.0, seen disks.1) }

  pub all : numbers_of seeds ≡ all_ids setting
  all =
      numbers_are seeds ∙ ap (λ (rs : List (Row D)). map (λ (r : Row D). r.0) rs) rows
      ∙ ap (λ ns. first.line.me ∷ ns) (map-append (λ (r : Row D). r.0) (server_rows config config.servers) (client_rows clients) ∙ ap (λ ns. ns ++ map (λ (r : Row D). r.0) (client_rows clients)) (server_numbers D config config.servers) ∙ ap (λ ns. server_ids config.servers ++ ns) (client_numbers D config clients))
      ∙ ap (λ n. n ∷ (server_ids config.servers ++ client_ids clients)) (ap (λ (r : Row D). r.0) begins.row)

  abbrev pub StartsRow : Row D → Type 0
  StartsRow r = StartsAs seen failures setting r.0 r.1.0 r.1.1

  servers_long : length (server_rows {D = D} config config.servers) ≡ config.servers
  servers_long = ap (λ (rs : List (Row D)). length rs) (servers_counted D config config.servers) ∙ counted_long (server_row D config) config.servers

  server_here : (i : ℕ) → i < config.servers → slice_get (rows_of seeds) (suc i) ≡ Some (server_row D config i)
  server_here i inside =
      let long = servers_long in
      ap (λ (rs : List (Row D)). slice_get rs (suc i)) rows ∙ at_before (server_rows config config.servers) (client_rows clients) i (omega arith)
      ∙ ap (λ (rs : List (Row D)). slice_get rs i) (servers_counted D config config.servers) ∙ counted_at (server_row D config) config.servers i inside

  client_here : (i : ℕ) → i < clients → slice_get (rows_of seeds) (suc (config.servers + i)) ≡ Some (client_row D config i)
  client_here i inside =
      ap (λ (rs : List (Row D)). slice_get rs (suc (config.servers + i))) rows ∙ ap (λ n. slice_get (server_rows config config.servers ++ client_rows clients) (n + i)) (sym servers_long)
      ∙ at_behind (server_rows config config.servers) (client_rows clients) i ∙ ap (λ (rs : List (Row D)). slice_get rs i) (clients_counted D config clients) ∙ counted_at (client_row D config) clients i inside

  server_starts : (i : ℕ) → i < config.servers → StartsRow (server_row D config i)
  server_starts i inside = (ap (λ (ss : List Server). slice_get ss i) (silent_counted D config config.servers) ∙ counted_at (λ j. servers.new j config.block config.chunk) config.servers i inside, refl)

  client_starts : (i : ℕ) → i < clients → StartsRow (client_row D config i)
  client_starts i inside = (omega arith, omega arith, refl, refl)

  pub starts : (s : Seed (Role D)) → Among seeds s → StartsRow (row_of s)
  starts s (k, at) =
      let here = at_map row_of seeds k ∙ ap (option_map row_of) at in
      let number = sym (ap (λ (ns : List NodeId). slice_get ns k) all) ∙ at_map (λ (x : Seed (Role D)). x.line.me) seeds k ∙ ap (option_map (λ (x : Seed (Role D)). x.line.me)) at in
      elim (stands setting k s.line.me number) [
        | AMaster place is ↦
            let same = same_Some (row_of first) (row_of s) (sym (ap (λ (rs : List (Row D)). slice_get rs 0) rows) ∙ ap (slice_get (rows_of seeds)) (sym place) ∙ here) in
            subst StartsRow (sym begins.row ∙ same) (disks, begins.turn, refl, begins.opens, refl)
        | IsServer i below place is ↦
            let same = same_Some (server_row D config i) (row_of s) (sym (server_here i below) ∙ ap (slice_get (rows_of seeds)) (sym place) ∙ here) in
            subst StartsRow same (server_starts i below)
        | AClient i below place is ↦
            let same = same_Some (client_row D config i) (row_of s) (sym (client_here i below) ∙ ap (slice_get (rows_of seeds)) (sym place) ∙ here) in
            subst StartsRow same (client_starts i below)
      ]

  pub is_new : 1 ≤ clients → clients ≤ 16 → IsNew seen failures setting seeds
  is_new some few = record { some = some; few = few; all = all; starts = starts }

-- the servers, then the clients
pub rows_joined : {D : Type 0} (config : Config) (clients : ℕ) (none some all kept : List (Seed (Role D)))
    → none ≡ [] → rows_of some ≡ rows_of none ++ server_rows config config.servers → rows_of all ≡ rows_of some ++ client_rows clients → kept ≡ all
    → rows_of kept ≡ server_rows config config.servers ++ client_rows clients
rows_joined {D} config clients none some all kept nothing servers rest same =
    ap (λ (ss : List (Seed (Role D))). rows_of ss) same ∙ rest
    ∙ ap (λ (rs : List (Row D)). rs ++ client_rows clients) (servers ∙ ap (λ (ss : List (Seed (Role D))). rows_of ss ++ server_rows config config.servers) nothing)

-- ---- names, and nodes that have done nothing

module _ {D : Type 0} (seen : D → List ℕ) (failures : D → ℕ) (setting : Setting) (seeds : List (Seed (Role D))) (all : numbers_of seeds ≡ all_ids setting)
    (starts : (s : Seed (Role D)) → Among seeds s → StartsAs seen failures setting s.line.me s.core s.turn.sent.items) where
  number_at : (k : ℕ) (s : Seed (Role D)) → slice_get seeds k ≡ Some s → slice_get (all_ids setting) k ≡ Some s.line.me
  number_at k s at = sym (ap (λ (ns : List NodeId). slice_get ns k) all) ∙ at_map (λ (x : Seed (Role D)). x.line.me) seeds k ∙ ap (option_map (λ (x : Seed (Role D)). x.line.me)) at

  pub named : (s : Seed (Role D)) → Among seeds s → IsNamed (names_of setting.config.servers seeds) s.line.me s.line.pass
  named s (k, at) =
      let same : names_of setting.config.servers seeds s.line.me ≡ name_of s.line.pass = ap (λ n. name_at (slice_get seeds n)) (place_of setting k s.line.me (number_at k s at)) ∙ ap name_at at in
      (sym (ap (λ (n : Name). n.table) same), sym (ap (λ (n : Name). n.key) same))

  pub may_begin : (names : NodeId → Name) → names ≡ names_of setting.config.servers seeds → (s : Seed (Role D)) → Among seeds s → MayBegin (StartsAs seen failures setting) names s
  may_begin names is s among = record { named = subst (λ ns. IsNamed ns s.line.me s.line.pass) (sym is) (named s among); starts = starts s among }

  abbrev client : ℕ → Kept (Role D)
  client i = record { me = ids.Client (record { 0 = i + 1 }); past = record { core = Client (silent (record { 0 = i + 1 })); clock = 0; sent = [] }; entries = [] }

  fresh_counted : (many : ℕ) → fresh_clients many ≡ counted client many
  fresh_counted zero = refl
  fresh_counted (suc many) = ap (λ cs. cs ++ client many ∷ []) (fresh_counted many)

  abbrev Starts : NodeId → Role D → List Message → Type 0
  Starts = StartsAs seen failures setting

  begins_client : (i : ℕ) (core : Role D) (first : List Message) → Starts (ids.Client (record { 0 = i + 1 })) core first → (core ≡ Client (silent (record { 0 = i + 1 }))) × (first ≡ [])
  begins_client i (Master place) first starts = absurd starts
  begins_client i (AServer server) first starts = absurd starts
  begins_client i (Client node) first (above, below, is, none) = (ap (λ c. Client c) is, none)

  is_client : (i : ℕ) (s : Seed (Role D)) → s.line.me ≡ ids.Client (record { 0 = i + 1 }) → Starts s.line.me s.core s.turn.sent.items → fresh s ≡ client i
  is_client i s me start =
      let b = begins_client i s.core s.turn.sent.items (subst (λ n. Starts n s.core s.turn.sent.items) me start) in
      ap (λ (n : NodeId). record (fresh s) { me = n }) me
      ∙ ap (λ (c : Role D). record { me = ids.Client (record { 0 = i + 1 }); past = record { core = c; clock = 0; sent = first_sent s.turn }; entries = [] }) b.0
      ∙ ap (λ (ms : List Message). record { me = ids.Client (record { 0 = i + 1 }); past = record { core = Client (silent (record { 0 = i + 1 })); clock = 0; sent = map (listed 0 (record { 0 = 0 })) ms }; entries = [] }) b.1

  pub seeds_long : length seeds ≡ 1 + setting.config.servers + setting.clients
  seeds_long = sym (length_map (λ (x : Seed (Role D)). x.line.me) seeds) ∙ ap (λ (ns : List NodeId). length ns) all ∙ all_long setting

  module _ (keepers rest : List (Kept (Role D))) (parts : keepers ++ rest ≡ map fresh seeds) (many : length keepers ≡ setting.config.servers + 1) where
    rest_at : (i : ℕ) → slice_get rest i ≡ option_map fresh (slice_get seeds (suc (setting.config.servers + i)))
    rest_at i =
        let place : length keepers + i ≡ suc (setting.config.servers + i) = omega (arith, many) in
        sym (at_behind keepers rest i) ∙ ap (λ (l : List (Kept (Role D))). slice_get l (length keepers + i)) parts ∙ at_map fresh seeds (length keepers + i) ∙ ap (λ k. option_map fresh (slice_get seeds k)) place

    client_inside : (i : ℕ) → i < setting.clients → slice_get rest i ≡ Some (client i)
    client_inside i inside =
        let long = seeds_long in
        let there = found seeds (suc (setting.config.servers + i)) (omega arith) in
        let number = same_Some (there.0).line.me (ids.Client (record { 0 = i + 1 })) (sym (number_at (suc (setting.config.servers + i)) there.0 there.1) ∙ client_stands setting i inside) in
        rest_at i ∙ ap (option_map fresh) there.1 ∙ ap (λ (k : Kept (Role D)). Some k) (is_client i there.0 number (starts there.0 (suc (setting.config.servers + i), there.1)))

    client_each : (i : ℕ) → slice_get rest i ≡ slice_get (fresh_clients setting.clients) i
    client_each i = elim (below_or i setting.clients) [
      | inl inside ↦ client_inside i inside ∙ sym (ap (λ (l : List (Kept (Role D))). slice_get l i) (fresh_counted setting.clients) ∙ counted_at client setting.clients i inside)
      | inr past ↦
          let long = seeds_long in
          let same = ap (λ (l : List (Kept (Role D))). length l) (fresh_counted setting.clients) ∙ counted_long client setting.clients in
          rest_at i ∙ ap (option_map fresh) (slice_get_past seeds (suc (setting.config.servers + i)) (omega arith)) ∙ sym (slice_get_past (fresh_clients setting.clients) i (omega arith))
    ]

    pub are_fresh : rest ≡ fresh_clients setting.clients
    are_fresh = same_lists rest (fresh_clients setting.clients) client_each

-- ---- how many there are

pub enough : (opened servers clients len items seeds : ℕ) → opened ≡ servers → len ≡ items → items ≡ seeds → seeds ≡ 1 + servers + clients → opened + 1 ≤ len
enough opened servers clients len items seeds same own fresh all = omega arith

pub all_together : (hosts keepers opened servers clients all : ℕ) → hosts ≡ keepers → keepers ≡ opened + 1 → opened ≡ servers → all ≡ 1 + servers + clients → hosts + clients ≡ all
all_together hosts keepers opened servers clients all first second same long = omega arith
