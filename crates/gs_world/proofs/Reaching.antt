-- Each server of a store that has begun new is one that has begun with nothing, behind events of its own.
use Rattle.std.proofs.Common.{◌≡◌, ◌∙◌, ◌⊎◌, ◌++◌, ◌≤◌, ℕ, zero, suc, true, List, [], ◌∷◌, Option, Some, None, refl, sym, ap, inl, inr, option_map, slice_get}
use Rattle.gs_base.specs.Configs.{is_config}
use Rattle.gs_base.specs.declared.config.Config.{Config}
use Rattle.gs_msg.specs.declared.event.DiskId.{DiskId}
use Rattle.gs_server.specs.Runs.{Event, behind_all}
use Rattle.gs_server.specs.Runs as at_server
use Rattle.gs_server.specs.Servers.{Server}
use Rattle.gs_server.specs.Servers as servers
use Rattle.gs_nodes.specs.Nodes.{Nodes, silent_servers}
use Rattle.gs_nodes.specs.declared.place.MasterPlace.{MasterPlace}
use Rattle.gs_world.specs.Histories.{History}
use Rattle.gs_world.specs.Runs.{IsReached}
use Rattle.gs_world.proofs.Serving.{run_goes}

-- what stands in a list and one more is in the list, or this
in_both : (xs : List Server) (y s : Server) (id : ℕ) → slice_get (xs ++ y ∷ []) id ≡ Some s → (slice_get xs id ≡ Some s) ⊎ (Some y ≡ Some s)
in_both [] y s zero found = inr found
in_both [] y s (suc id) found = absurd cc
in_both (x ∷ xs) y s zero found = inl found
in_both (x ∷ xs) y s (suc id) found = in_both xs y s id found

record IsSilent (config : Config) (s : Server) : Type 0 where
  me : ℕ
  is : Some (servers.new me config.block config.chunk) ≡ Some s

silent : (config : Config) (many id : ℕ) (s : Server) → slice_get (silent_servers config many) id ≡ Some s → IsSilent config s
silent config zero id s found = absurd cc
silent config (suc many) id s found = elim (in_both (silent_servers config many) (servers.new many config.block config.chunk) s id found) [
  | inl before ↦ silent config many id s before
  | inr is ↦ record { me = many; is = is }
]

-- the sizes of each configuration are those of chunks
abbrev pub HaveSizes : Type 0
HaveSizes = (servers racks replicas block chunk : ℕ) → is_config servers racks replicas block chunk ≡ true → (1 ≤ block) × (block ≤ 65536) × (chunk ≤ 67108864)

module _ {D : Type 0} (seen : D → List ℕ) (failures : D → ℕ) (armed : DiskId → ℕ → MasterPlace D → MasterPlace D) (config : Config) (sizes : HaveSizes) where
  from_silent : (first : Option Server) (events : List Event) (s : Server) → ((t : Server) → first ≡ Some t → IsSilent config t) → Some s ≡ option_map (behind_all events) first
      → at_server.IsReached s
  from_silent None events s silent is = absurd cc
  from_silent (Some t) events s silent is =
      let began = silent t refl in
      let fit = sizes config.servers config.racks config.replicas config.block config.chunk config.valid in
      record {
        me = began.me;
        block = config.block;
        chunk = config.chunk;
        some_block = fit.0;
        block_fits = fit.1;
        chunk_fits = fit.2;
        events = events;
        is = cc;
      }

  pub server_reached : (clients : ℕ) (disks : D × D) (now : History D) (id : ℕ) (s : Server) → IsReached seen failures armed config clients disks now → slice_get now.nodes.servers id ≡ Some s
      → at_server.IsReached s
  server_reached clients disks now id s reached found =
      let goes = run_goes seen failures armed reached.steps reached.begun now reached.runs id in
      from_silent (slice_get reached.begun.nodes.servers id) goes.events s
      (λ t is. silent config config.servers id t (sym (ap (λ (n : Nodes D). slice_get n.servers id) reached.begins.nodes) ∙ is))
      (sym found ∙ goes.behind)
