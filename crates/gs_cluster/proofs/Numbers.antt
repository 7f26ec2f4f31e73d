-- Numbers of nodes, in their order.
use Rattle.std.proofs.Common.{◌≡◌, ◌∙◌, ◌+◌, ◌-◌, ◌<◌, ◌≤◌, ◌⊎◌, ◌++◌, ◌&&◌, ℕ, zero, suc, Bool, true, false, [], ◌∷◌, Some, length, length-append, refl, sym, ap, subst, inl, inr, ⊎_elim, arith, slice_get}
use Rattle.std.specs.Prelude.{nat_le}
use Rattle.std.proofs.lemmas.Bool.{leb-true}
use Rattle.std.proofs.lemmas.Option.{same_Some, slice_get_within}
use Rattle.gs_base.specs.Configs.{is_within}
use Rattle.gs_base.specs.declared.config.Config.{Config}
use Rattle.gs_msg.specs.declared.node.NodeId.{NodeId}
use Rattle.gs_msg.specs.declared.node.NodeId.TheVariants as ids
use Rattle.gs_cluster_history.specs.Setting.{Setting, all_ids, client_ids, server_ids}
use Rattle.gs_cluster_core.specs.Stores.{Differ}
use Rattle.gs_cluster.specs.Opened.{place_in}
use Rattle.gs_cluster.proofs.Lists.{at_before, at_behind, at_last, below_or}

pub servers_long : (many : ℕ) → length (server_ids many) ≡ many
servers_long zero = refl
servers_long (suc many) = let before = servers_long many in omega (arith, length-append (server_ids many) (ids.Server many ∷ []))

pub clients_long : (many : ℕ) → length (client_ids many) ≡ many
clients_long zero = refl
clients_long (suc many) = let before = clients_long many in omega (arith, length-append (client_ids many) (ids.Client (record { 0 = many + 1 }) ∷ []))

before_or_last : (i many : ℕ) → i < suc many → (i < many) ⊎ (i ≡ many)
before_or_last zero zero h = inr refl
before_or_last zero (suc many) h = inl (omega arith)
before_or_last (suc i) zero h = absurd (omega arith)
before_or_last (suc i) (suc many) h = ⊎_elim (λ b. inl (omega (arith, b))) (λ e. inr (ap suc e)) (before_or_last i many (omega arith))

pub server_at : (many i : ℕ) → i < many → slice_get (server_ids many) i ≡ Some (ids.Server i)
server_at zero i inside = absurd (omega arith)
server_at (suc many) i inside =
    let long = servers_long many in
    elim (before_or_last i many inside) [
      | inl before ↦ at_before (server_ids many) (ids.Server many ∷ []) i (omega (arith, long)) ∙ server_at many i before
      | inr last ↦ subst (λ k. slice_get (server_ids many ++ ids.Server many ∷ []) k ≡ Some (ids.Server k)) (sym last)
          (ap (slice_get (server_ids many ++ ids.Server many ∷ [])) (sym long) ∙ at_last (server_ids many) (ids.Server many))
    ]

pub client_at : (many i : ℕ) → i < many → slice_get (client_ids many) i ≡ Some (ids.Client (record { 0 = i + 1 }))
client_at zero i inside = absurd (omega arith)
client_at (suc many) i inside =
    let long = clients_long many in
    elim (before_or_last i many inside) [
      | inl before ↦ at_before (client_ids many) (ids.Client (record { 0 = many + 1 }) ∷ []) i (omega (arith, long)) ∙ client_at many i before
      | inr last ↦ subst (λ k. slice_get (client_ids many ++ ids.Client (record { 0 = many + 1 }) ∷ []) k ≡ Some (ids.Client (record { 0 = k + 1 }))) (sym last)
          (ap (slice_get (client_ids many ++ ids.Client (record { 0 = many + 1 }) ∷ [])) (sym long) ∙ at_last (client_ids many) (ids.Client (record { 0 = many + 1 })))
    ]

both_left : (a b : Bool) → (a && b) ≡ true → a ≡ true
both_left true b h = refl
both_left false b h = absurd cc

both_right : (a b : Bool) → (a && b) ≡ true → b ≡ true
both_right true b h = h
both_right false b h = absurd cc

pub few_servers : (c : Config) → c.servers ≤ 16
few_servers c = leb-true c.servers 16 (both_right (nat_le 1 c.servers) (nat_le c.servers 16) (both_left (is_within c.servers 1 16) _ c.valid))

module _ (setting : Setting) where
  abbrev servers : ℕ
  servers = setting.config.servers

  abbrev clients : ℕ
  clients = setting.clients

  pub all_long : length (all_ids setting) ≡ 1 + servers + clients
  all_long =
      let s = servers_long servers in
      let c = clients_long clients in
      omega (arith, length-append (server_ids servers) (client_ids clients))

  pub few_nodes : clients ≤ 16 → length (all_ids setting) < 1024
  few_nodes few =
      let long = all_long in
      let s = few_servers setting.config in
      omega arith

  pub server_stands : (i : ℕ) → i < servers → slice_get (all_ids setting) (suc i) ≡ Some (ids.Server i)
  server_stands i inside =
      let long = servers_long servers in
      at_before (server_ids servers) (client_ids clients) i (omega (arith, long)) ∙ server_at servers i inside

  pub client_stands : (i : ℕ) → i < clients → slice_get (all_ids setting) (suc (servers + i)) ≡ Some (ids.Client (record { 0 = i + 1 }))
  client_stands i inside =
      ap (λ n. slice_get (server_ids servers ++ client_ids clients) (n + i)) (sym (servers_long servers)) ∙ at_behind (server_ids servers) (client_ids clients) i ∙ client_at clients i inside

  -- which one stands at a place
  pub data Stands (k : ℕ) (me : NodeId) : Type 0 where
    AMaster : k ≡ 0 → me ≡ ids.Master → Stands k me
    AServer : (i : ℕ) → i < servers → k ≡ suc i → me ≡ ids.Server i → Stands k me
    AClient : (i : ℕ) → i < clients → k ≡ suc (servers + i) → me ≡ ids.Client (record { 0 = i + 1 }) → Stands k me

  split : (k : ℕ) → k < servers + clients → (k < servers) ⊎ ((i : ℕ) × (i < clients) × (k ≡ servers + i))
  split k inside = ⊎_elim (λ (b : k < servers). inl b) (λ (h : servers ≤ k). inr (k - servers, omega arith, omega arith)) (below_or k servers)

  pub stands : (k : ℕ) (me : NodeId) → slice_get (all_ids setting) k ≡ Some me → Stands k me
  stands zero me h = AMaster refl (sym (same_Some ids.Master me h))
  stands (suc k) me h =
      let long = all_long in
      let inside = slice_get_within (all_ids setting) (suc k) me h in
      elim (split k (omega arith)) [
        | inl below ↦ AServer k below refl (sym (same_Some (ids.Server k) me (sym (server_stands k below) ∙ h)))
        | inr (i, below, is) ↦ AClient i below (ap suc is) (sym (same_Some (ids.Client (record { 0 = i + 1 })) me (sym (client_stands i below) ∙ ap (λ n. slice_get (all_ids setting) (suc n)) (sym is) ∙ h)))
      ]

  -- its number says where it stands
  pub place_of : (k : ℕ) (me : NodeId) → slice_get (all_ids setting) k ≡ Some me → place_in servers me ≡ k
  place_of k me h = elim (stands k me h) [
    | AMaster at is ↦ ap (place_in servers) is ∙ sym at
    | AServer i below at is ↦ ap (place_in servers) is ∙ sym (at ∙ next i)
    | AClient i below at is ↦ ap (place_in servers) is ∙ sym (at ∙ next_client i)
  ]
    where
      next : (i : ℕ) → suc i ≡ 1 + i
      next i = omega arith

      next_client : (i : ℕ) → suc (servers + i) ≡ servers + (i + 1)
      next_client i = omega arith

  -- no number stands twice
  pub all_differ : Differ (all_ids setting)
  all_differ i j me at too = sym (place_of i me at) ∙ place_of j me too
