-- A desk at rest: nothing is under way or held back, its client waits for nothing, and the disks of its master wait to be opened. What
-- its image and its reading answer.
use Rattle.std.specs.Prelude.{◌≡◌, ◌&&◌, ◌==◌, ℕ, Bool, true, false, is_none, List, [], ◌∷◌, length, Option, Some, None, Result, Ok, Err, Vec, option_map}
use Rattle.std.specs.declared.alloc.Global.{Global}
use Rattle.gs_base.specs.declared.numbers.ClientId.{ClientId}
use Rattle.gs_client.specs.Nodes.{Node, resting}
use Rattle.gs_fields.specs.Work.{Fails}
use Rattle.gs_fields.specs.declared.fault.Fault.{Fault}
use Rattle.gs_journal.specs.Memory.{bytes_of}
use Rattle.gs_journal.specs.declared.memory.MemoryDisk.{MemoryDisk}
use Rattle.gs_keep_head.specs.Head.{sizes_of}
use Rattle.gs_nodes.specs.Happenings.{disks_of}
use Rattle.gs_nodes.specs.Nodes.{with_master}
use Rattle.gs_nodes.specs.declared.place.MasterPlace.{MasterPlace}
use Rattle.gs_nodes.specs.declared.place.MasterPlace.TheVariants.{Standing, Closed, Away}
use Rattle.gs_parts_image.specs.Encoding.{parts}
use Rattle.gs_parts_image.specs.Stores.{Head, Store}
use Rattle.gs_parts_image.specs.Work.{MakesParts}
use Rattle.gs_parts_image.specs.Writable.{IsStoreTold}
use Rattle.gs_shell_desk.specs.Ways.{Way, way_of, with_nodes}
use Rattle.gs_shell_desk.specs.declared.desk.Desk.{Desk}

-- ---- what an image tells of a desk

abbrev pub head_of : {D : Type 0} → Desk D → Head
head_of d = record { sizes = sizes_of d.wire.nodes.config; moment = d.wire.moment.0; last = d.caller.client.last.number; is_short = d.wire.is_short; drops = d.wire.drops }

abbrev pub bytes_in : Option MemoryDisk → List ℕ
bytes_in None = []
bytes_in (Some disk) = bytes_of disk

abbrev pub store_of : Desk MemoryDisk → Store
store_of d = record {
  head = head_of d;
  first = bytes_in (option_map (λ disks. disks.0) (disks_of d.wire.nodes.master));
  second = bytes_in (option_map (λ disks. disks.1) (disks_of d.wire.nodes.master));
  servers = d.wire.nodes.servers.items;
}

-- the parts of its image
abbrev pub image_of : Desk MemoryDisk → List (List ℕ)
image_of d = parts (store_of d)

-- ---- whether it rests

abbrev pub is_closed : {D : Type 0} → MasterPlace D → Bool
is_closed (Standing m) = false
is_closed (Closed first second) = true
is_closed Away = false

-- its disks wait to be opened, if it has them
abbrev pub closed : {D : Type 0} → MasterPlace D → MasterPlace D
closed (Standing m) = Closed m.journal.first m.journal.second
closed (Closed first second) = Closed first second
closed Away = Away

-- one client, who waits for nothing and has heard nothing since
abbrev pub asks_nothing : List Node → Bool
asks_nothing [] = false
asks_nothing (n ∷ []) = is_none n.waiting && is_none n.reply
asks_nothing (n ∷ m ∷ more) = false

abbrev pub is_nil : {A : Type 0} → List A → Bool
is_nil xs = length xs == 0

abbrev pub is_resting : {D : Type 0} → Desk D → Bool
is_resting d =
    is_closed d.wire.nodes.master && (is_nil d.wire.queue.items && (is_none d.wire.held_kind && (is_nil d.wire.held.items && asks_nothing d.wire.nodes.clients.items)))

abbrev pub one : ClientId
one = record { 0 = 1 }

-- It rests, and its client is the one that has sent requests up to a number, in a store of these sizes.
pub record Rests {D : Type 0} (d : Desk D) : Type 0 where
  pub rests : is_resting d ≡ true
  pub node : d.wire.nodes.clients.items ≡ resting one d.caller.client.last.number ∷ []
  pub asks : d.caller.client ≡ record { last = record { client = one; number = d.caller.client.last.number }; chunk = d.wire.nodes.config.chunk }

abbrev pub without_master : {D : Type 0} → Way D → Way D
without_master w = with_nodes (with_master Away w.nodes) w

-- The same client, the same nodes and what is between them, and the same bytes on the master's disks. What isn't said to be the same is
-- the past of the disks, and what is kept of messages as text.
pub record AreAlike (d e : Desk MemoryDisk) : Type 0 where
  pub client : d.caller.client ≡ e.caller.client
  pub way : without_master (way_of d.wire) ≡ without_master (way_of e.wire)
  pub first : (store_of d).first ≡ (store_of e).first
  pub second : (store_of d).second ≡ (store_of e).second

-- ---- what is answered

-- it rests, and fields can tell of it
abbrev pub HasImage : Desk MemoryDisk → Type 0
HasImage d = (is_resting d ≡ true) × IsStoreTold (store_of d)

abbrev pub IsImageOf : Desk MemoryDisk → Result (Vec (Vec ℕ Global) Global) Fault → Type 0
IsImageOf d result = MakesParts (HasImage d) (image_of d) result

-- the desk of the store that is read, which rests; or none is
abbrev pub IsDeskOf : Option Store → Result (Desk MemoryDisk) Fault → Type 0
IsDeskOf read (Ok d) = (read ≡ Some (store_of d)) × Rests d
IsDeskOf read (Err e) = Fails e read
