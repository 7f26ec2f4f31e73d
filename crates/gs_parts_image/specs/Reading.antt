-- How the parts of an image are read.
use Rattle.std.specs.Prelude.{◌≡◌, ℕ, ◌+◌, ◌==◌, if◌then◌else◌, Bool, List, [], ◌∷◌, length, Option, Some, None, refl}
use Rattle.std.specs.Int.{w64}
use Rattle.gs_base.specs.Configs.{is_config}
use Rattle.gs_parts_image.specs.Stores.{Head, Store, store_with}
use Rattle.gs_fields.specs.Reading.{Reader, ◌>>=◌, both, made, whole, number_at, flag_at}
use Rattle.gs_keep_head.specs.Head.{Sizes}
use Rattle.gs_server.specs.Servers.{Server}
use Rattle.gs_server_image.specs.Reading.{server_at}

abbrev pub SizesFields : Type 0
SizesFields = ℕ × (ℕ × (ℕ × (ℕ × ℕ)))

abbrev pub sizes_with : SizesFields → Sizes
sizes_with x = record { servers = x.0; racks = x.1.0; replicas = x.1.1.0; chunk = x.1.1.1.0; block = x.1.1.1.1 }

-- there is a store of these sizes
abbrev pub sizes_of : SizesFields → Option Sizes
sizes_of x = if is_config x.0 x.1.0 x.1.1.0 x.1.1.1.1 x.1.1.1.0 then Some (sizes_with x) else None

unfoldable pub sizes_at : Reader Sizes
sizes_at = made sizes_of (both (number_at w64) (both (number_at w64) (both (number_at w64) (both (number_at w64) (number_at w64)))))

abbrev pub HeadFields : Type 0
HeadFields = Sizes × (ℕ × (ℕ × (Bool × ℕ)))

abbrev pub head_of : HeadFields → Option Head
head_of x = Some (record { sizes = x.0; moment = x.1.0; last = x.1.1.0; is_short = x.1.1.1.0; drops = x.1.1.1.1 })

unfoldable pub head_at : Reader Head
head_at = made head_of (both sizes_at (both (number_at w64) (both (number_at w64) (both flag_at (number_at w64)))))

-- a part each, numbered from here on
abbrev pub servers_in : ℕ → ℕ → ℕ → List (List ℕ) → Option (List Server)
servers_in block chunk me [] = Some []
servers_in block chunk me (part ∷ parts) = whole (server_at me block chunk part) >>= λ s. servers_in block chunk (me + 1) parts >>= λ ss. Some (s ∷ ss)

-- as many servers as the sizes say
abbrev pub counted_in : Head → List (List ℕ) → Option (List Server)
counted_in h parts = if length parts == h.sizes.servers then servers_in h.sizes.block h.sizes.chunk 0 parts else None

unfoldable pub store_in : List (List ℕ) → Option Store
store_in [] = None
store_in (h ∷ []) = None
store_in (h ∷ first ∷ []) = None
store_in (h ∷ first ∷ second ∷ parts) = whole (head_at h) >>= λ head. counted_in head parts >>= λ servers. Some (store_with head first second servers)
