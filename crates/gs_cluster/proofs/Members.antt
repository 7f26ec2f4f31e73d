-- Members are sorted by what they are.
use Rattle.std.proofs.Common.{◌≡◌, ◌∙◌, ◌++◌, List, [], ◌∷◌, map, refl, sym, ap, append-nil, None, slice_get}
use Rattle.std.proofs.lemmas.Option.{none-some, same_Some}
use Rattle.gs_client.specs.Nodes.{Node}
use Rattle.gs_nodes.specs.declared.place.MasterPlace.{MasterPlace}
use Rattle.gs_server.specs.Servers.{Server}
use Rattle.gs_cluster_core.specs.declared.role.Role.{Role}
use Rattle.gs_cluster_core.specs.declared.role.Role.TheVariants.{Master, Server as AServer, Client}
use Rattle.gs_cluster.specs.inner.Members.{clients_in, cores_of, masters_in, servers_in}
use Rattle.gs_cluster_threads.specs.declared.gathering.Member.{Member}

nothing_behind : {X : Type 0} (xs : List X) (x : X) → slice_get (xs ++ x ∷ []) 0 ≡ None → ⊥
nothing_behind [] x none = none-some x (sym none)
nothing_behind (y ∷ ys) x none = none-some y (sym none)

module _ (D : Type 0) where
  abbrev as_servers : List Server → List (Role D)
  as_servers ss = map (λ (s : Server). AServer s) ss

  abbrev as_clients : List Node → List (Role D)
  as_clients cs = map (λ (c : Node). Client c) cs

  no_masters_at_end : (cs : List Node) → masters_in (as_clients cs) ≡ []
  no_masters_at_end [] = refl
  no_masters_at_end (c ∷ cs) = no_masters_at_end cs

  no_masters : (ss : List Server) (cs : List Node) → masters_in (as_servers ss ++ as_clients cs) ≡ []
  no_masters [] cs = no_masters_at_end cs
  no_masters (s ∷ ss) cs = no_masters ss cs

  no_servers : (cs : List Node) → servers_in (as_clients cs) ≡ []
  no_servers [] = refl
  no_servers (c ∷ cs) = no_servers cs

  pub the_servers : (ss : List Server) (cs : List Node) → servers_in (as_servers ss ++ as_clients cs) ≡ ss
  the_servers [] cs = no_servers cs
  the_servers (s ∷ ss) cs = ap (λ xs. s ∷ xs) (the_servers ss cs)

  only_clients : (cs : List Node) → clients_in (as_clients cs) ≡ cs
  only_clients [] = refl
  only_clients (c ∷ cs) = ap (λ xs. c ∷ xs) (only_clients cs)

  pub the_clients : (ss : List Server) (cs : List Node) → clients_in (as_servers ss ++ as_clients cs) ≡ cs
  the_clients [] cs = only_clients cs
  the_clients (s ∷ ss) cs = the_clients ss cs

  pub the_master : (place : MasterPlace D) (ss : List Server) (cs : List Node) → masters_in (Master place ∷ (as_servers ss ++ as_clients cs)) ≡ place ∷ []
  the_master place ss cs = ap (λ xs. place ∷ xs) (no_masters ss cs)

  -- what is sorted so far is all, when nothing is left
  pub without_rest : {X : Type 0} (sorted : List (Role D) → List X) (so_far whole : List X) (rest : List (Member (Role D))) → rest ≡ [] → so_far ++ sorted (cores_of rest) ≡ whole → sorted [] ≡ [] → so_far ≡ whole
  without_rest sorted so_far whole rest nil all none =
      sym (append-nil so_far) ∙ ap (λ xs. so_far ++ xs) (sym none) ∙ ap (λ ms. so_far ++ sorted (cores_of ms)) (sym nil) ∙ all

pub last_alone : {X : Type 0} (xs : List X) (x y : X) → xs ++ x ∷ [] ≡ y ∷ [] → x ≡ y
last_alone [] x y same = same_Some x y (ap (λ l. slice_get l 0) same)
last_alone (z ∷ zs) x y same = absurd (nothing_behind zs x (ap (λ l. slice_get l 1) same))
