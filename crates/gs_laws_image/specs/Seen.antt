-- A desk as it is seen: each disk of its master is its bytes, and how often it has failed. That is counted from some number on, of each of
-- the two disks.
use Rattle.std.specs.Prelude.{◌≡◌, ◌+◌, ℕ, List, refl}
use Rattle.gs_journal.specs.Journal.{State as Journal}
use Rattle.gs_master.specs.Masters.{MasterOf}
use Rattle.gs_nodes.specs.Nodes.{Nodes}
use Rattle.gs_nodes.specs.declared.nodes.Nodes as held
use Rattle.gs_nodes.specs.declared.place.MasterPlace.{MasterPlace}
use Rattle.gs_nodes.specs.declared.place.MasterPlace.TheVariants.{Standing, Closed, Away}
use Rattle.gs_shell_desk.specs.Ways.{Way, way_of}
use Rattle.gs_shell_desk.specs.declared.desk.Desk.{Desk}
use Rattle.gs_shell_desk.specs.declared.wire.Wire.{Wire}

pub record SeenDisk : Type 0 where
  pub bytes : List ℕ
  pub failures : ℕ

abbrev pub bytes_seen : SeenDisk → List ℕ
bytes_seen disk = disk.bytes

abbrev pub failures_seen : SeenDisk → ℕ
failures_seen disk = disk.failures

-- For what is seen of a disk, how often one has failed, and the numbers from which that is counted.
module _ {D : Type 0} (seen : D → List ℕ) (failures : D → ℕ) (counts : ℕ × ℕ) where
  abbrev pub first_seen : D → SeenDisk
  first_seen disk = record { bytes = seen disk; failures = counts.0 + failures disk }

  abbrev pub second_seen : D → SeenDisk
  second_seen disk = record { bytes = seen disk; failures = counts.1 + failures disk }

  abbrev pub disks_seen : D × D → SeenDisk × SeenDisk
  disks_seen disks = (first_seen disks.0, second_seen disks.1)

  abbrev pub journal_seen : Journal D → Journal SeenDisk
  journal_seen j = record { text = j.text; size = j.size; limit = j.limit; generation = j.generation; is_failed = j.is_failed; first = first_seen j.first; second = second_seen j.second }

  abbrev pub master_seen : MasterOf D → MasterOf SeenDisk
  master_seen m = record { config = m.config; state = m.state; journal = journal_seen m.journal }

  abbrev pub place_seen : MasterPlace D → MasterPlace SeenDisk
  place_seen (Standing m) = Standing (master_seen m)
  place_seen (Closed first second) = Closed (first_seen first) (second_seen second)
  place_seen Away = Away

  abbrev pub nodes_seen : Nodes D → Nodes SeenDisk
  nodes_seen n = record { config = n.config; master = place_seen n.master; servers = n.servers; clients = n.clients }

  abbrev pub way_seen : Way D → Way SeenDisk
  way_seen w = record { nodes = nodes_seen w.nodes; moment = w.moment; queue = w.queue; kind = w.kind; held = w.held; drops = w.drops; is_short = w.is_short }

  abbrev held_seen : held.Nodes D → held.Nodes SeenDisk
  held_seen n = record { alloc = n.alloc; config = n.config; master = place_seen n.master; servers = n.servers; clients = n.clients }

  abbrev pub wire_seen : Wire D → Wire SeenDisk
  wire_seen w = record {
    alloc = w.alloc;
    nodes = held_seen w.nodes;
    moment = w.moment;
    queue = w.queue;
    held_kind = w.held_kind;
    held = w.held;
    drops = w.drops;
    is_short = w.is_short;
    trace = w.trace;
  }

  abbrev pub desk_seen : Desk D → Desk SeenDisk
  desk_seen d = record { caller = d.caller; wire = wire_seen d.wire }

  -- what is seen of a desk's way is the way of what is seen of it
  the_way_is_seen : (d : Desk D) → way_of (desk_seen d).wire ≡ way_seen (way_of d.wire)
  the_way_is_seen d = refl
