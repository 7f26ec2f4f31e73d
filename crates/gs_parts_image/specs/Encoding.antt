-- The parts of a store's image: the head, the bytes of both disks, and a server each.
use Rattle.std.specs.Prelude.{◌≡◌, ℕ, true, List, [], ◌∷◌, ◌++◌, map, refl}
use Rattle.gs_parts_image.specs.Stores.{Head, Store}
use Rattle.gs_fields.specs.Encoding.{number, flag}
use Rattle.gs_keep_head.specs.Head.{Sizes}
use Rattle.gs_server_image.specs.Encoding.{server}

-- servers, racks, replicas, bytes of a chunk, bytes of a block
abbrev pub sizes : Sizes → List ℕ
sizes s = number s.servers ++ (number s.racks ++ (number s.replicas ++ (number s.chunk ++ number s.block)))

abbrev pub head : Head → List ℕ
head h = sizes h.sizes ++ (number h.moment ++ (number h.last ++ (flag h.is_short ++ number h.drops)))

abbrev pub parts : Store → List (List ℕ)
parts s = head s.head ∷ s.first ∷ s.second ∷ map server s.servers

-- ---- examples

a_head : head (record { sizes = record { servers = 1; racks = 1; replicas = 1; chunk = 16; block = 4 }; moment = 0; last = 258; is_short = true; drops = 0 })
    ≡ 0 ∷ 0 ∷ 0 ∷ 0 ∷ 0 ∷ 0 ∷ 0 ∷ 1 ∷ 0 ∷ 0 ∷ 0 ∷ 0 ∷ 0 ∷ 0 ∷ 0 ∷ 1 ∷ 0 ∷ 0 ∷ 0 ∷ 0 ∷ 0 ∷ 0 ∷ 0 ∷ 1 ∷ 0 ∷ 0 ∷ 0 ∷ 0 ∷ 0 ∷ 0 ∷ 0 ∷ 16 ∷ 0 ∷ 0 ∷ 0 ∷ 0 ∷ 0 ∷ 0 ∷ 0 ∷ 4
    ∷ 0 ∷ 0 ∷ 0 ∷ 0 ∷ 0 ∷ 0 ∷ 0 ∷ 0 ∷ 0 ∷ 0 ∷ 0 ∷ 0 ∷ 0 ∷ 0 ∷ 1 ∷ 2 ∷ 1 ∷ 0 ∷ 0 ∷ 0 ∷ 0 ∷ 0 ∷ 0 ∷ 0 ∷ 0 ∷ []
a_head = refl
