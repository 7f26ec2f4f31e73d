-- Which stores have an image: those that as many bytes tell as a field has.
use Rattle.std.specs.Prelude.{◌≡◌, ◌+◌, ℕ, List, [], ◌∷◌, length, ⊤}
use Rattle.std.specs.List.{AllByRecursion}
use Rattle.gs_base.specs.Told.{IsNumber}
use Rattle.gs_parts_image.specs.Stores.{Head, Store}
use Rattle.gs_keep_head.specs.Head.{Sizes, AreSizes}
use Rattle.gs_server.specs.Servers.{Server}
use Rattle.gs_server_image.specs.Writable.{IsServerTold, IsServer}

abbrev pub AreSizesTold : Sizes → Type 0
AreSizesTold s = IsNumber s.servers × (IsNumber s.racks × (IsNumber s.replicas × (IsNumber s.chunk × IsNumber s.block)))

abbrev pub IsHeadTold : Head → Type 0
IsHeadTold h = AreSizesTold h.sizes × (IsNumber h.moment × (IsNumber h.last × (⊤ × IsNumber h.drops)))

abbrev pub IsStoreTold : Store → Type 0
IsStoreTold s = IsHeadTold s.head × AllByRecursion IsServerTold s.servers

-- servers of these sizes, numbered from here on
abbrev pub AreServers : ℕ → ℕ → ℕ → List Server → Type 0
AreServers block chunk me [] = ⊤
AreServers block chunk me (s ∷ ss) = IsServer me block chunk s × AreServers block chunk (me + 1) ss

-- There is a store of its sizes; it has as many servers as they say, and what a restart drops of each is empty.
pub record IsStore (s : Store) : Type 0 where
  pub head : IsHeadTold s.head
  pub sizes : AreSizes s.head.sizes
  pub count : length s.servers ≡ s.head.sizes.servers
  pub servers : AreServers s.head.sizes.block s.head.sizes.chunk 0 s.servers
