-- How a server is written: its store, and of each client its edit that was refused last.
use Rattle.std.specs.Prelude.{◌≡◌, ℕ, List, [], ◌∷◌, ◌++◌, codes, map, refl}
use Rattle.std.specs.FinMap as fin
use Rattle.byteorder.specs.Endian.{big_bytes}
use Rattle.gs_base.specs.Refusals.{number_of}
use Rattle.gs_base.specs.Told.{detail_text}
use Rattle.gs_base.specs.declared.numbers.ClientId.{ClientId}
use Rattle.gs_base.specs.declared.refusal.Refusal.{Refusal}
use Rattle.gs_base.specs.declared.refusal.Refusal.TheVariants as refusals
use Rattle.gs_fields.specs.Encoding.{number, text, long_list}
use Rattle.gs_server.specs.declared.turn.KeptRefusal.{KeptRefusal}
use Rattle.gs_server.specs.Servers.{Server, client_cmp, store_of}
use Rattle.gs_store_image.specs.StoreEncoding.{store}

abbrev pub Refused : Type 0
Refused = fin.FinMap client_cmp KeptRefusal

-- its number, and its detail as the line of a refusal has it
abbrev pub refusal : Refusal → List ℕ
refusal r = (number_of r ∷ []) ++ text (detail_text r)

-- the number of the request, and why it was refused
abbrev pub kept : KeptRefusal → List ℕ
kept k = number k.number ++ refusal k.refusal

-- a client, and what is kept of it
abbrev pub entry : ℕ × KeptRefusal → List ℕ
entry e = big_bytes 4 e.0 ++ kept e.1

-- a client by its number
abbrev pub by_number : ClientId × KeptRefusal → ℕ × KeptRefusal
by_number e = (e.0.0, e.1)

abbrev pub entries : Refused → List (ℕ × KeptRefusal)
entries m = map by_number (fin.entries m)

-- what is kept of each client, the clients rising
abbrev pub refused : Refused → List ℕ
refused m = long_list entry (entries m)

-- its store, and what it refused
abbrev pub server : Server → List ℕ
server s = store (store_of s) ++ refused s.kept.refused

-- ---- examples

no_detail : refusal refusals.Old ≡ 19 ∷ 0 ∷ 0 ∷ []
no_detail = refl

a_pending_path : refusal (refusals.Pending (codes "/a")) ≡ 36 ∷ 0 ∷ 2 ∷ 47 ∷ 97 ∷ []
a_pending_path = refl

of_client_5 : entry (5, record { number = 2; refusal = refusals.Old }) ≡ 0 ∷ 0 ∷ 0 ∷ 5 ∷ 0 ∷ 0 ∷ 0 ∷ 0 ∷ 0 ∷ 0 ∷ 0 ∷ 2 ∷ 19 ∷ 0 ∷ 0 ∷ []
of_client_5 = refl
