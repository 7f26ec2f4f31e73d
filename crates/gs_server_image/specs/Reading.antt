-- How a server is read.
use Rattle.std.specs.Prelude.{◌≡◌, ℕ, if◌then◌else◌, List, [], ◌∷◌, map, Option, Some, None, refl}
use Rattle.std.specs.FinMap as fin
use Rattle.std.specs.Int.{w32, w64}
use Rattle.gs_base.specs.declared.numbers.ClientId.{ClientId}
use Rattle.gs_base.specs.declared.refusal.Refusal.{Refusal}
use Rattle.gs_fields.specs.Reading.{Reader, both, made, byte_at, number_at, text_at, long_list_at}
use Rattle.gs_master_record.specs.inner.Told.{told}
use Rattle.gs_server.specs.declared.turn.KeptRefusal.{KeptRefusal}
use Rattle.gs_server.specs.Servers.{Server, of_parts}
use Rattle.gs_server_image.specs.Encoding.{Refused}
use Rattle.gs_store.specs.Stores.{Store}
use Rattle.gs_store_image.specs.Reading.{rises}
use Rattle.gs_store_image.specs.StoreReading.{store_at}

-- the refusal of this number and this detail, if there is one
abbrev pub refusal_of : ℕ × List ℕ → Option Refusal
refusal_of x = told x.0 x.1

unfoldable pub refusal_at : Reader Refusal
refusal_at = made refusal_of (both byte_at text_at)

abbrev pub kept_of : ℕ × Refusal → Option KeptRefusal
kept_of x = Some (record { number = x.0; refusal = x.1 })

unfoldable pub kept_at : Reader KeptRefusal
kept_at = made kept_of (both (number_at w64) refusal_at)

abbrev pub of_client : ℕ × KeptRefusal → ClientId × KeptRefusal
of_client e = (record { 0 = e.0 }, e.1)

abbrev pub map_of : List (ℕ × KeptRefusal) → Refused
map_of es = fin.from_entries (map of_client es)

-- the clients rise
abbrev pub refused_of : List (ℕ × KeptRefusal) → Option Refused
refused_of es = if rises es then Some (map_of es) else None

unfoldable pub refused_at : Reader Refused
refused_at = made refused_of (long_list_at (both (number_at w32) kept_at))

abbrev pub server_of : ℕ → Store × Refused → Option Server
server_of me x = Some (of_parts me x.0 x.1)

-- a server of this number and these sizes
unfoldable pub server_at : ℕ → ℕ → ℕ → Reader Server
server_at me block chunk = made (server_of me) (both (store_at block chunk) refused_at)

-- ---- examples

a_client_twice : (k : KeptRefusal) → refused_of ((4, k) ∷ (4, k) ∷ []) ≡ None
a_client_twice k = refl
