-- How a view is begun: a fresh version is recorded, and who has the chunk is asked.
use Rattle.std.specs.Prelude.{◌≡◌, ◌||◌, ℕ, Bool, not, nat_le, List, [], ◌∷◌, ◌++◌, map, filter, Option, Some, None, refl}
use Rattle.std.specs.List.{count_by}
use Rattle.std.specs.FinMap as fin
use Rattle.gs_base.specs.Members.{is_member, count_from}
use Rattle.gs_base.specs.declared.config.Config.{Config}
use Rattle.gs_base.specs.declared.numbers.ReqId.{ReqId}
use Rattle.gs_base.specs.declared.numbers.Stamp.{Stamp}
use Rattle.gs_lease.specs.declared.view.Purpose.{Purpose}
use Rattle.gs_lease.specs.declared.view.Purpose.TheVariants as purposes
use Rattle.gs_lease.specs.declared.view.View.{View}
use Rattle.gs_msg.specs.declared.body.Body.TheVariants as bodies
use Rattle.gs_msg.specs.declared.chunk.Chunk.TheVariants as chunks
use Rattle.gs_msg.specs.declared.node.NodeId.TheVariants as nodes
use Rattle.gs_place.specs.Targets.{targets_of}
use Rattle.gs_master_record.specs.Plain.{Propose}
use Rattle.gs_master_spec.specs.Chunks.{Chunk, chunk_at, members_of, asking_for}
use Rattle.gs_master_spec.specs.Durable.{Durable, is_listed, values_left}
use Rattle.gs_master_spec.specs.State.{State, Plan, Turn, turned, for_each, about, post, to_each}
use Rattle.gs_master_spec.specs.declared.change.Change.TheVariants as changes
use Rattle.gs_master_spec.specs.declared.pending.Waiting.{Waiting}

-- the stamp of the view that is begun next
abbrev pub next_stamp : Durable → Stamp
next_stamp d = record { epoch = d.epoch; version = d.next_version }

-- so many versions are left
abbrev pub has_versions : Durable → ℕ → Bool
has_versions d many = nat_le many (values_left d.next_version)

abbrev pub has_handle : Durable → Bool
has_handle d = nat_le 1 (values_left d.next_handle)

-- ---- a chunk that is settled on these members

abbrev pub begin_plan : Stamp → ℕ → List ℕ → Purpose → Option ReqId → Plan
begin_plan stamp chunk members purpose call = record {
  records = Propose chunk stamp.version ∷ [];
  changes = changes.Ask chunk (asking_for stamp purpose members call) ∷ [];
  sent = to_each members (about chunk (chunks.Advance stamp));
  said = None;
}

abbrev pub members_at : Option Chunk → List ℕ
members_at None = []
members_at (Some c) = members_of c

abbrev pub begin_at : State → ℕ → Purpose → Option ReqId → Plan
begin_at s chunk purpose call = begin_plan (next_stamp s.durable) chunk (members_at (chunk_at s chunk)) purpose call

abbrev pub begun : State → ℕ → Purpose → Option ReqId → Turn
begun s chunk purpose call = turned s (begin_at s chunk purpose call)

-- several, in this order
abbrev pub all_begun : State → List ℕ → Purpose → Option ReqId → Turn
all_begun s many purpose call = for_each s many (λ chunk next. begun next chunk purpose call)

-- ---- a new chunk

abbrev pub create_plan : Stamp → ℕ → List ℕ → ReqId → Plan
create_plan stamp chunk targets call = record {
  records = Propose chunk stamp.version ∷ [];
  changes = changes.Enter chunk ∷ changes.Ask chunk (asking_for stamp purposes.Quiet targets (Some call)) ∷ [];
  sent = to_each targets (about chunk (chunks.Create stamp));
  said = None;
}

-- a new chunk as a copy of a quiet one, where each of its members has it
abbrev pub copy_plan : Stamp → ℕ → View → ℕ → ReqId → Plan
copy_plan stamp old view new call = record {
  records = Propose new stamp.version ∷ [];
  changes = changes.Enter new ∷ changes.Ask new (asking_for stamp purposes.Quiet view.members (Some call)) ∷ [];
  sent = to_each view.members (λ server. post (nodes.Server server) (bodies.MakeCopy old view.stamp new stamp));
  said = None;
}

-- ---- a call waits for what is begun

abbrev pub waits_from_now : Plan → ReqId → Waiting → Plan
waits_from_now plan req waiting = record plan { changes = plan.changes ++ changes.Begin (record { req = req; waits = waiting }) ∷ [] }

abbrev pub waits_on : Plan → ReqId → Waiting → Plan
waits_on plan req waiting = record plan { changes = plan.changes ++ changes.Wait req waiting ∷ [] }

-- ---- placement: settled views that have a server as a member

-- that of a chunk which a restart took out counts no more
abbrev pub is_counted : State → ℕ → Bool
is_counted s chunk = is_listed s.durable chunk || not (is_member s.volatile.taken_out chunk)

abbrev pub counted_views : State → List View
counted_views s = map (λ e. e.1.view) (filter (λ e. is_counted s e.0) (fin.entries s.durable.chunks))

abbrev pub replicas_on : List View → ℕ → ℕ
replicas_on views server = count_by (λ (v : View). is_member v.members server) views

abbrev pub replica_counts : ℕ → List View → List ℕ
replica_counts servers views = map (replicas_on views) (count_from 0 servers)

abbrev pub targets_for : Config → List View → List ℕ → ℕ → Option (List ℕ)
targets_for config views present wanted = targets_of config.servers config.racks (replica_counts config.servers views) present wanted

-- ---- examples

abbrev a_stamp : Stamp
a_stamp = record { epoch = 1; version = 8 }

abbrev a_view : List ℕ → View
a_view members = record { stamp = record { epoch = 0; version = 5 }; count = 2; members = members; term = None }

its_members_are_asked : begin_plan a_stamp 7 (0 ∷ 2 ∷ []) purposes.Quiet None ≡ record {
  records = Propose 7 8 ∷ [];
  changes = changes.Ask 7 (asking_for a_stamp purposes.Quiet (0 ∷ 2 ∷ []) None) ∷ [];
  sent = record { from = nodes.Master; to = nodes.Server 0; body = bodies.About 7 (chunks.Advance a_stamp) } ∷ record { from = nodes.Master; to = nodes.Server 2; body = bodies.About 7 (chunks.Advance a_stamp) } ∷ [];
  said = None;
}
its_members_are_asked = refl

copied_where_it_is : (copy_plan a_stamp 7 (a_view (1 ∷ [])) 9 (record { client = record { 0 = 1 }; number = 1 })).sent ≡
    record { from = nodes.Master; to = nodes.Server 1; body = bodies.MakeCopy 7 (record { epoch = 0; version = 5 }) 9 a_stamp } ∷ []
copied_where_it_is = refl

replicas_of_three : replica_counts 3 (a_view (0 ∷ 1 ∷ []) ∷ a_view (1 ∷ []) ∷ []) ≡ 1 ∷ 2 ∷ 0 ∷ []
replicas_of_three = refl
