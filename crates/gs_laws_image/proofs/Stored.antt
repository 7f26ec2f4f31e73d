-- The image of a desk that goes on, with each server restarted, is one that is read again.
use Rattle.std.proofs.Common.{◌≡◌, ◌∙◌, ◌+◌, ℕ, suc, List, [], ◌∷◌, Option, Some, ap, arith, length, refl, slice_get, subst, sym}
use Rattle.std.specs.Prelude.{unwrap_or}
use Rattle.std.specs.List.{AllByRecursion}
use Rattle.std.proofs.lemmas.Bool.{and_parts}
use Rattle.gs_base.specs.declared.config.Config.{Config}
use Rattle.gs_desk_image.specs.Desks.{Rests, is_closed, store_of}
use Rattle.gs_desk_image.proofs.Alike.{alike}
use Rattle.gs_journal.specs.Memory.{bytes_of, times_failed}
use Rattle.gs_journal.specs.Records.{standing}
use Rattle.gs_journal.specs.declared.memory.MemoryDisk.{MemoryDisk}
use Rattle.gs_laws_chunks.specs.desks.Reached.{history}
use Rattle.gs_laws_chunks.proofs.lemmas.desks.Lines.{silent_many}
use Rattle.gs_laws_scripts.specs.answers.Plain.{PlainDesk}
use Rattle.gs_laws_world.specs.steady.Unarmed.{unarmed}
use Rattle.gs_nodes.specs.Nodes.{Nodes}
use Rattle.gs_parts_image.specs.Reading.{store_in}
use Rattle.gs_parts_image.specs.Stores.{Store}
use Rattle.gs_parts_image.specs.Writable.{AreServers, IsStore, IsStoreTold}
use Rattle.gs_parts_image.proofs.Stores.{store_again}
use Rattle.gs_server.specs.Servers.{Server, restart}
use Rattle.gs_server_image.specs.Writable.{IsServer, IsServerTold}
use Rattle.gs_shell_desk.specs.Ways.{Way, way_of}
use Rattle.gs_shell_desk.specs.declared.desk.Desk.{Desk}
use Rattle.gs_store_image.specs.StoreWritable.{AreSlotsOf}
use Rattle.gs_world.proofs.Reaching.{HaveSizes}
use Rattle.gs_world.proofs.Staying.{run_same}
use Rattle.gs_laws_image.specs.Seen.{SeenDisk, bytes_seen, desk_seen, failures_seen}
use Rattle.gs_laws_image.specs.Going.{GoesOnAs, IsClosedOf}
use Rattle.gs_laws_image.specs.Laws.{ReadDesksAreAlike, ServersAreOfTheirStore}
use Rattle.gs_laws_image.specs.Slots.{AreRestarted, AreServersOf, IsServerHeld, IsServerOf}
use Rattle.gs_laws_image.proofs.Resting.{closed_rests, config_is, run_to}
use Rattle.gs_laws_image.proofs.Sealing.{KeepsSlots, met_keeps}
use Rattle.gs_laws_image.proofs.Slots.{each_kept}

-- ---- the servers of a desk

from_none : (id : ℕ) → id ≡ 0 + id
from_none id = omega arith

further : (me id : ℕ) → me + suc id ≡ (me + 1) + id
further me id = omega arith

module _ (block chunk : ℕ) where
  numbered : (ss : List Server) (me : ℕ) → ((id : ℕ) (s : Server) → slice_get ss id ≡ Some s → IsServerOf (me + id) block chunk s) → AreServersOf block chunk me ss
  numbered [] me each = tt
  numbered (s ∷ ss) me each = (
    subst (λ n. IsServerOf n block chunk s) (last me) (each 0 s refl),
    numbered ss (me + 1) (λ id x found. subst (λ n. IsServerOf n block chunk x) (further me id) (each (suc id) x found)),
  )
    where
      last : (n : ℕ) → n + 0 ≡ n
      last n = omega arith

  -- servers in memory, each of which is restarted
  pub are_servers : (ss : List Server) (me : ℕ) → AllByRecursion IsServerHeld ss → AllByRecursion IsServerTold ss → AreRestarted ss → AreServersOf block chunk me ss → AreServers block chunk me ss
  are_servers [] me held told again of = tt
  are_servers (s ∷ ss) me held told again of = (one of.0, are_servers ss (me + 1) held.1 told.1 again.1 of.1)
    where
      one : IsServerOf me block chunk s → IsServer me block chunk s
      one is =
          subst (λ (x : Server). IsServer me block chunk x) again.0
          (subst (λ n. IsServer me block n (restart s)) is.chunk_is (subst (λ n. IsServer me n s.chunk (restart s)) is.block_is (subst (λ n. IsServer n s.block s.chunk (restart s)) is.me_is (held.0 told.0 is.slots))))

module _ {D : Type 0} (seen : D → List ℕ) (failures : D → ℕ) (config : Config) (d : Desk D) (w : PlainDesk) (g : GoesOnAs seen failures config d w) where
  keeps : HaveSizes → KeepsSlots config (history g.reached.met.sent (way_of (desk_seen seen failures g.counts d).wire))
  keeps sizes =
      met_keeps config bytes_seen failures_seen sizes g.disks (history g.reached.met.sent (way_of (desk_seen seen failures g.counts d).wire))
      (ap (λ (l : List ℕ). standing l g.disks.1.bytes) g.empty.0 ∙ ap (standing []) g.empty.1) g.reached.met.met

  pub servers_of : HaveSizes → AreServersOf config.block config.chunk 0 d.wire.nodes.servers.items
  servers_of have = numbered config.block config.chunk d.wire.nodes.servers.items 0 (λ id s found. subst (λ n. IsServerOf n config.block config.chunk s) (from_none id) (each id s found))
    where
      each : (id : ℕ) (s : Server) → slice_get d.wire.nodes.servers.items id ≡ Some s → IsServerOf id config.block config.chunk s
      each id s found =
          let k = (keeps have).servers id s found in record {
            me_is = k.0.me;
            block_is = k.0.block;
            chunk_is = k.0.size;
            slots = subst (λ n. AreSlotsOf n s.chunk s.kept.slots) (sym k.0.block) (subst (λ n. AreSlotsOf config.block n s.kept.slots) (sym k.0.size) (each_kept config.block config.chunk s k.1));
          }

  pub as_many : length d.wire.nodes.servers.items ≡ config.servers
  as_many =
      let met = g.reached.met.met in
      let now = history g.reached.met.sent (way_of (desk_seen seen failures g.counts d).wire) in
      (run_same bytes_seen failures_seen unarmed met.steps met.begun now (run_to bytes_seen failures_seen config g.disks met.steps met.begun now met.runs)).servers
      ∙ ap (λ (n : Nodes SeenDisk). length n.servers) met.begins.nodes ∙ silent_many config config.servers

  pub sizes_are : d.wire.nodes.config ≡ config
  sizes_are = config_is bytes_seen failures_seen config g.disks (desk_seen seen failures g.counts d) w g.reached

-- ---- its image

-- the servers, and their sizes, are those of the desk whose disks were closed
pub stored : (config : Config) (d c : Desk MemoryDisk) (w : PlainDesk) → HaveSizes → GoesOnAs bytes_of times_failed config d w → IsClosedOf d c → AllByRecursion IsServerHeld c.wire.nodes.servers.items
    → AreRestarted c.wire.nodes.servers.items → IsStoreTold (store_of c) → IsStore (store_of c)
stored config d c w have g closes held restarted told = record {
  head = told.0;
  sizes = c.wire.nodes.config.valid;
  count = ap (λ (ss : List Server). length ss) same ∙ as_many bytes_of times_failed config d w g ∙ ap (λ (z : Config). z.servers) (sym sizes);
  servers = subst (λ (z : Config). AreServers z.block z.chunk 0 c.wire.nodes.servers.items) (sym sizes)
      (are_servers config.block config.chunk c.wire.nodes.servers.items 0 held told.1 restarted
      (subst (λ ss. AreServersOf config.block config.chunk 0 ss) (sym same) (servers_of bytes_of times_failed config d w g have)));
}
  where
    same : c.wire.nodes.servers.items ≡ d.wire.nodes.servers.items
    same = ap (λ (x : Way MemoryDisk). x.nodes.servers) closes.way

    sizes : c.wire.nodes.config ≡ config
    sizes = ap (λ (x : Way MemoryDisk). x.nodes.config) closes.way ∙ sizes_are bytes_of times_failed config d w g

-- what is read of it is alike
pub read_alike : ReadDesksAreAlike
read_alike config d e w g r is = (alike r.closed e rests r.read.1 same, (and_parts (is_closed e.wire.nodes.master) _ r.read.1.rests).0)
  where
    rests : Rests r.closed
    rests = closed_rests bytes_of times_failed config d r.closed w g r.closes r.written.0.0

    same : store_of r.closed ≡ store_of e
    same =
        let again = store_again (store_of r.closed) is in
        let found = r.read.0 in
        let both : ◌≡◌ {A = Option Store} (Some (store_of r.closed)) (Some (store_of e)) = sym again ∙ ap store_in (sym r.written.1) ∙ found in
        ap (λ (o : Option Store). unwrap_or o (store_of e)) both

pub of_their_store : {D : Type 0} → HaveSizes → ServersAreOfTheirStore D
of_their_store have seen failures config d w g = (servers_of seen failures config d w g have, as_many seen failures config d w g)
