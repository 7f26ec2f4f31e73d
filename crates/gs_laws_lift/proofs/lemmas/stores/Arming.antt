-- A failure of a disk that is to come changes nothing that is shown.
use Rattle.std.proofs.Common.{◌≡◌, ℕ, List, subst, sym}
use Rattle.gs_msg.specs.declared.event.DiskId.{DiskId}
use Rattle.gs_msg.specs.declared.event.DiskId.TheVariants as disks
use Rattle.gs_nodes.specs.declared.place.MasterPlace.{MasterPlace}
use Rattle.gs_nodes.specs.declared.place.MasterPlace.TheVariants.{Standing, Closed, Away}
use Rattle.gs_world.specs.Histories.{arms, seen_of}
use Rattle.gs_laws_world.specs.lasting.Lasting.{Lasts}
use Rattle.gs_master_spec.specs.Durable.{Durable}
use Rattle.gs_laws_chunk.specs.machine.Machine.{ChunkWorld}
use Rattle.gs_laws_lift.specs.stores.Doing.{HasDurable}
use Rattle.gs_laws_lift.specs.stores.Living.{ShowsArmed}
use Rattle.gs_laws_lift.specs.stores.Showing.{ShowsMaster}
use Rattle.gs_laws_lift.specs.stores.Running.{LastsArmed, UnknownArmed}

module _ {D : Type 0} (seen : D → List ℕ) where
  shown_armed : (chunk : ℕ) (w : ChunkWorld) (disk : DiskId) (call : ℕ) (place : MasterPlace _) → ShowsMaster (seen_of seen) chunk place w → ShowsMaster (seen_of seen) chunk (arms disk call place) w
  shown_armed chunk w disks.First call (Standing m) h = h
  shown_armed chunk w disks.First call (Closed first second) h = record { durable = h.durable; kept = h.kept; counters = h.counters; told = h.told; shows = h.shows }
  shown_armed chunk w disks.First call Away h = h
  shown_armed chunk w disks.Second call (Standing m) h = h
  shown_armed chunk w disks.Second call (Closed first second) h = record { durable = h.durable; kept = h.kept; counters = h.counters; told = h.told; shows = h.shows }
  shown_armed chunk w disks.Second call Away h = h

  durable_armed : (d : Durable) (disk : DiskId) (call : ℕ) (place : MasterPlace _) → HasDurable (seen_of seen) place d → HasDurable (seen_of seen) (arms disk call place) d
  durable_armed d disks.First call (Standing m) h = h
  durable_armed d disks.First call (Closed first second) h = h
  durable_armed d disks.First call Away h = h
  durable_armed d disks.Second call (Standing m) h = h
  durable_armed d disks.Second call (Closed first second) h = h
  durable_armed d disks.Second call Away h = h

  pub shows_armed : ShowsArmed (seen_of seen) arms
  shows_armed = record { shown = shown_armed; durable = durable_armed }

  pub lasts_armed : LastsArmed (seen_of seen) arms
  lasts_armed disks.First call (Standing m) h = record {
    sound = h.sound;
    firm = h.firm;
    as_seen = record { text = h.as_seen.text; size = h.as_seen.size; generation = h.as_seen.generation; whole = h.as_seen.whole };
    known = record { is_open = h.known.is_open; size = h.known.size; limit = h.known.limit; generation = h.known.generation };
    told = h.told;
  }
  lasts_armed disks.First call (Closed first second) h = h
  lasts_armed disks.First call Away h = h
  lasts_armed disks.Second call (Standing m) h = record {
    sound = h.sound;
    firm = h.firm;
    as_seen = record { text = h.as_seen.text; size = h.as_seen.size; generation = h.as_seen.generation; whole = h.as_seen.whole };
    known = record { is_open = h.known.is_open; size = h.known.size; limit = h.known.limit; generation = h.known.generation };
    told = h.told;
  }
  lasts_armed disks.Second call (Closed first second) h = h
  lasts_armed disks.Second call Away h = h

module _ {D : Type 0} (seen : D → List ℕ) where
  pub unknown_armed : UnknownArmed (seen_of seen) arms
  unknown_armed chunk disks.First call epoch (Standing m) h = h
  unknown_armed chunk disks.First call epoch (Closed first second) h = record { durable = h.durable; kept = h.kept; counters = h.counters; told = h.told; ungiven = h.ungiven; later = h.later }
  unknown_armed chunk disks.First call epoch Away h = h
  unknown_armed chunk disks.Second call epoch (Standing m) h = h
  unknown_armed chunk disks.Second call epoch (Closed first second) h = record { durable = h.durable; kept = h.kept; counters = h.counters; told = h.told; ungiven = h.ungiven; later = h.later }
  unknown_armed chunk disks.Second call epoch Away h = h

pub lasts_unarmed : {D : Type 0} (seen : D → List ℕ) (armed : DiskId → ℕ → MasterPlace D → MasterPlace D) → ((disk : DiskId) (call : ℕ) (place : MasterPlace D) → armed disk call place ≡ place) → LastsArmed seen armed
lasts_unarmed seen armed none disk call place h = subst (Lasts seen) (sym (none disk call place)) h
