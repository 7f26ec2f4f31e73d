-- A store at rest, as its image tells it.
use Rattle.std.specs.Prelude.{ℕ, Bool, List}
use Rattle.gs_keep_head.specs.Head.{Sizes, sizes_of}
use Rattle.gs_parts_image.specs.declared.head.Head.{Head as HeldHead}
use Rattle.gs_server.specs.Servers.{Server}

-- What is told beside disks and servers: the sizes, when all happens, the number of the client's last request, whether memory was ever
-- wanting, and how many drops were sent since that was counted from.
pub record Head : Type 0 where
  pub sizes : Sizes
  pub moment : ℕ
  pub last : ℕ
  pub is_short : Bool
  pub drops : ℕ

-- the bytes of the master's disks, and the servers by their numbers
pub record Store : Type 0 where
  pub head : Head
  pub first : List ℕ
  pub second : List ℕ
  pub servers : List Server

abbrev pub head_of : HeldHead → Head
head_of h = record { sizes = sizes_of h.config; moment = h.moment; last = h.last; is_short = h.is_short; drops = h.drops }

abbrev pub store_with : Head → List ℕ → List ℕ → List Server → Store
store_with head first second servers = record { head = head; first = first; second = second; servers = servers }
