-- A server is read as it is written.
use Rattle.std.proofs.Common.{◌≡◌, ℕ, Some, refl, sym, subst}
use Rattle.gs_fields.specs.Laws.{Reads, reads_both, reads_made, some_is}
use Rattle.gs_server.specs.Servers.{Server, of_parts, store_of, restart}
use Rattle.gs_server_image.specs.Encoding.{Refused, server}
use Rattle.gs_server_image.specs.Reading.{server_of, server_at}
use Rattle.gs_server_image.specs.Writable.{AreRefused, IsServerTold, IsServer}
use Rattle.gs_server_image.proofs.Clients.{reads_refused}
use Rattle.gs_store.specs.Stores.{Store, restarted}
use Rattle.gs_store_image.specs.StoreWritable.{IsStoreTold, AreSlotsOf, IsStore}
use Rattle.gs_store_image.proofs.Stores.{reads_store}

abbrev fields : Server → Store × Refused
fields s = (store_of s, s.kept.refused)

pub reads_server : (me block chunk : ℕ) → Reads (IsServer me block chunk) server (server_at me block chunk)
unfolding server_at
reads_server me block chunk = reads_made {fields = fields} (reads_both (reads_store block chunk) reads_refused) (record { back = back; forth = forth }) where
  again : (s : Server) → IsServer me block chunk s → of_parts me (store_of s) s.kept.refused ≡ s
  again s is = λ i. record { me = sym is.me_is i; block = s.block; chunk = s.chunk; kept = s.kept; dropped = record { leases = sym is.no_lease i; buffer = s.dropped.buffer } }

  back : (s : Server) → IsServer me block chunk s → (IsStore block chunk (store_of s) × AreRefused s.kept.refused) × (server_of me (fields s) ≡ Some s)
  back s is = ((is.store, is.refused), λ i. Some (again s is i))

  forth : (x : Store × Refused) (s : Server) → IsStore block chunk x.0 × AreRefused x.1 → server_of me x ≡ Some s → (fields s ≡ x) × IsServer me block chunk s
  forth x s is e = subst (λ (z : Server). (fields z ≡ x) × IsServer me block chunk z) (some_is (of_parts me x.0 x.1) s e) (refl, record { me_is = refl; store = is.0; no_lease = refl; refused = is.1 })

pub server_held : (s : Server) → (IsStoreTold (store_of s) → AreSlotsOf s.block s.chunk s.kept.slots → IsStore s.block s.chunk (restarted (store_of s)))
    → IsServerTold s → AreSlotsOf s.block s.chunk s.kept.slots → IsServer s.me s.block s.chunk (restart s)
server_held s store told of = record { me_is = refl; store = store told.0 of; no_lease = refl; refused = told.1 }
