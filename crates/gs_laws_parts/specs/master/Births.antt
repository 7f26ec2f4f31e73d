-- A new chunk: at the move that gives its handle a machine of it is born.
use Rattle.std.specs.Prelude.{◌≡◌, ◌≤◌, ℕ, List, [], None, Some}
use Rattle.std.specs.FinMap as fin
use Rattle.std.specs.List.{AllByRecursion}
use Rattle.gs_base.specs.Told.{IsNumber}
use Rattle.gs_base.specs.declared.config.Config.{Config}
use Rattle.gs_base.specs.declared.numbers.ReqId.{ReqId}
use Rattle.gs_base.specs.declared.numbers.Stamp.{Stamp}
use Rattle.gs_lease.specs.declared.view.View.{View}
use Rattle.gs_msg.specs.declared.body.Body.{Body}
use Rattle.gs_msg.specs.declared.body.Body.TheVariants as bodies
use Rattle.gs_msg.specs.declared.message.Message.{Message}
use Rattle.gs_msg.specs.declared.node.NodeId.{NodeId}
use Rattle.gs_msg.specs.declared.node.NodeId.TheVariants as nodes
use Rattle.gs_path.specs.Path.{Path}
use Rattle.gs_master_record.specs.Plain.{Propose}
use Rattle.gs_replica.specs.Stands.{Edit}
use Rattle.gs_master_spec.specs.Applied.{applied}
use Rattle.gs_master_spec.specs.Durable.{Durable}
use Rattle.gs_master_spec.specs.State.{State}
use Rattle.gs_laws_master.specs.Promises.{IsKept}
use Rattle.gs_laws_moves.specs.moves.Asked.{IsAskedSo}
use Rattle.gs_laws_moves.specs.moves.Guards.{Heard}
use Rattle.gs_laws_moves.specs.moves.Laws.{IsMadeWell}
use Rattle.gs_laws_moves.specs.moves.Moves.{Beside, Copies, Makes, move_turn}
use Rattle.gs_laws_chunk.specs.machine.Stamps.{epoch_of, stamp_at}
use Rattle.gs_laws_chunk.specs.machine.Laws.{Birth, IsNumbered, world_of}
use Rattle.gs_laws_chunk.specs.machine.Mastering.{AreOfMaster}
use Rattle.gs_laws_chunk.specs.machine.Machine.{ChunkWorld, WasTold, CopyIn}
use Rattle.gs_laws_chunk.specs.machine.Events.{Leads, no_member}
use Rattle.gs_laws_chunk.specs.machine.Numbering.{IsBehind}
use Rattle.gs_laws_parts.specs.master.Showing.{IsPast, ShowsDurable}
use Rattle.gs_laws_parts.specs.master.Telling.{Shows, MastersTell}

-- Who is told to make the chunk as a copy of another is told in the machine that it has the edits of that one.
abbrev pub BringsTo : ℕ → List Edit → ChunkWorld → NodeId → Stamp → Type 0
BringsTo born origin w (nodes.Server to) stamp = (t : ℕ) × (stamp ≡ stamp_at t) × (born ≤ epoch_of t) × WasTold w to (CopyIn t origin None)
BringsTo born origin w to stamp = Unit {0}

abbrev pub BringsBody : ℕ → ℕ → List Edit → ChunkWorld → NodeId → Body → Type 0
BringsBody born chunk origin w to (bodies.MakeCopy old at new stamp) = new ≡ chunk → BringsTo born origin w to stamp
BringsBody born chunk origin w to body = Unit {0}

abbrev pub Brings : ℕ → ℕ → List Edit → ChunkWorld → Message → Type 0
Brings born chunk origin w m = BringsBody born chunk origin w m.to m.body

-- A machine is born with these edits in the epoch that stands, and events lead to where the state is shown, and all is told that is sent. Its first view is
-- proposed under the last stamp that was given; so nobody may number yet.
pub record IsBorn (chunk : ℕ) (origin : List Edit) (u : State) (messages : List Message) : Type 0 where
  pub birth : Birth
  pub begins : birth.origin ≡ origin
  pub now : birth.epoch ≡ u.durable.epoch
  pub world : ChunkWorld
  pub unled : world.entry.view.holder ≡ None
  pub leads : Leads (world_of birth) world
  pub masters : AreOfMaster (world_of birth) world leads
  pub members : (j : ℕ) → world.members j ≡ no_member birth.epoch
  pub shows : Shows chunk u world
  pub fresh : (top : ℕ) → IsPast u.durable top → IsBehind top world.known
  pub tells : AllByRecursion (MastersTell birth.epoch chunk world) messages
  pub brings : AllByRecursion (Brings birth.epoch chunk origin world) messages

-- and where its first record alone stands what is durable is shown
pub record IsBornOn (chunk : ℕ) (origin : List Edit) (d : Durable) : Type 0 where
  pub birth : Birth
  pub begins : birth.origin ≡ origin
  pub now : birth.epoch ≡ d.epoch
  pub world : ChunkWorld
  pub leads : Leads (world_of birth) world
  pub masters : AreOfMaster (world_of birth) world leads
  pub members : (j : ℕ) → world.members j ≡ no_member birth.epoch
  pub shows : ShowsDurable chunk d world.entry

-- anybody may have said anything
abbrev pub Anything : ℕ → Body → Type 0
Anything server body = Unit {0}

-- Of a new chunk that is made, the list is empty.
abbrev pub MakesAreBirths : Type 0
MakesAreBirths = (config : Config) (heard : Heard) (s : State) (targets : List ℕ) (req : ReqId) (path : Path) → IsNumber s.durable.next_version → IsAskedSo Anything s s.durable.next_handle → IsMadeWell config heard s (Makes targets req path)
    → IsBorn s.durable.next_handle [] (move_turn config s (Makes targets req path)).after (move_turn config s (Makes targets req path)).sent

-- That of a copy begins with whatever edits it is given.
abbrev pub CopiesAreBirths : Type 0
CopiesAreBirths = (config : Config) (heard : Heard) (s : State) (old : ℕ) (view : View) (req : ReqId) (beside : Beside) (origin : List Edit) → IsNumbered origin → IsNumber s.durable.next_version → IsAskedSo Anything s s.durable.next_handle
    → IsMadeWell config heard s (Copies old view req beside) → IsBorn s.durable.next_handle origin (move_turn config s (Copies old view req beside)).after (move_turn config s (Copies old view req beside)).sent

-- So it is where the record of the proposal is all that stands.
abbrev pub ProposalsAreBirths : Type 0
ProposalsAreBirths = (d next : Durable) (origin : List Edit) → IsNumbered origin → IsKept d → IsNumber d.next_version → fin.get d.chunks d.next_handle ≡ None → applied d (Propose (d.next_handle) (d.next_version)) ≡ Some next → IsBornOn d.next_handle origin next
