-- What stands at servers in every world of a run.
use Rattle.std.specs.Prelude.{◌++◌, ◌≡◌, ◌⊎◌, List, None, Some, false, refl, slice_get, true, ℕ}
use Rattle.gs_base.specs.Members.{is_member}
use Rattle.gs_base.specs.Stamps.{is_same}
use Rattle.gs_base.specs.declared.numbers.Moment.{Moment}
use Rattle.gs_base.specs.declared.numbers.Stamp.{Stamp}
use Rattle.gs_block.specs.Stored.{Stored, block_at, is_intact}
use Rattle.gs_lease.specs.declared.view.View.{View}
use Rattle.gs_msg.specs.declared.message.Message.{Message}
use Rattle.gs_laws_chunks.specs.accounts.Accounts.{Account, settled_edits, text_of, view_at}
use Rattle.gs_laws_chunks.specs.accounts.Running.{IsReached, Setup}
use Rattle.gs_world.specs.Sent.{IsSent, Sent}
use Rattle.gs_server.specs.Servers.{Server}
use Rattle.gs_laws_server.specs.servers.Calling.{call_by}
use Rattle.gs_master_spec.specs.Durable.{Settled, is_rolling}
use Rattle.std.specs.FinMap as fin
use Rattle.gs_server.specs.Runs as at_server
use Rattle.gs_msg.specs.declared.node.NodeId.TheVariants as nodes
use Rattle.gs_server.specs.Runs.{slot_in}
use Rattle.gs_laws_server.specs.servers.Following.{edit_in}
use Rattle.gs_store.specs.Slots.{Live}
use Rattle.gs_replica.specs.Stands.{Edit, StandsFor}
use Rattle.gs_world.specs.Histories.{History}
use Rattle.gs_laws_lift.specs.stores.Copying.{copied_from}

-- ---- each replica stands for a beginning of a list

-- each block that has its digest holds what these bytes have there
abbrev pub HoldsWhereWhole : Stored → List ℕ → Type 0
HoldsWhereWhole stored bytes = (i : ℕ) → is_intact stored.block stored.bytes stored.digests i ≡ true → block_at stored.block i stored.bytes ≡ block_at stored.block i bytes

-- The replica has applied so many edits of the list of one view from the first on, and these requests; it has as many bytes as they leave, and each
-- block that isn't damaged holds theirs. The list is the chunk's own, or, until the first view of a copy is settled, that of the chunk of which it is one.
pub record IsBeginningOf (size chunk : ℕ) (a : Account) (sent : Sent) (s : Server) (l : Live) : Type 0 where
  pub source : ℕ
  pub stamp : Stamp
  pub own : (source ≡ chunk) ⊎ ((copied_from sent chunk ≡ Some (source, stamp)) × (view_at a chunk ≡ None))
  pub edits : List Edit
  pub behind : List Edit
  pub beginning : a.list source stamp ≡ edits ++ behind
  pub stands : StandsFor s.block size l.replica.held edits
  pub whole : HoldsWhereWhole l.replica.held.chunk (text_of size edits)

-- ---- quiet chunks

-- A chunk's view was settled without a primary, no later one is proposed, and no rollback is going on, as the records tell. While one is, members that have
-- learned of it have promised a stamp of its epoch, and the view is still that of before.
pub record IsQuiet (a : Account) (chunk : ℕ) (view : View) : Type 0 where
  pub settled : Settled
  pub told : fin.get a.durable.chunks chunk ≡ Some settled
  pub is : settled.view ≡ view
  pub unled : view.term ≡ None
  pub still : settled.is_moving ≡ false
  pub calm : is_rolling a.durable.phase ≡ false

-- a member's live replica, if it has one, is under the view's stamp, has the view's count, and stands for all edits that are settled; each block
-- that isn't damaged holds theirs
pub record IsStill (size : ℕ) (a : Account) (chunk : ℕ) (view : View) (s : Server) : Type 0 where
  pub stamp : (l : Live) → (slot_in chunk s).live ≡ Some l → is_same (slot_in chunk s).promise view.stamp ≡ true
  pub count : (l : Live) → (slot_in chunk s).live ≡ Some l → l.replica.held.count ≡ view.count
  pub stands : (l : Live) → (slot_in chunk s).live ≡ Some l → StandsFor s.block size l.replica.held (settled_edits a chunk)
  pub whole : (l : Live) → (slot_in chunk s).live ≡ Some l → HoldsWhereWhole l.replica.held.chunk (text_of size (settled_edits a chunk))

-- and no message that was sent makes it take an edit
abbrev pub TakesNoEdit : Sent → ℕ → ℕ → Server → Type 0
TakesNoEdit sent chunk id s = (message : Message) (moment : Moment) → IsSent message sent → message.to ≡ nodes.Server id → edit_in (call_by chunk (at_server.Hears message moment) s) ≡ None

module _ {D : Type 0} (x : Setup D) where
  -- So it is of each live replica in each world of each run.
  abbrev pub ReplicasStand : Type 0
  ReplicasStand = (now : History D) (a : Account) (id chunk : ℕ) (s : Server) (l : Live) → IsReached x now a → slice_get now.nodes.servers id ≡ Some s → (slot_in chunk s).live ≡ Some l →
      IsBeginningOf x.config.chunk chunk a now.sent s l

  -- and of each quiet chunk
  abbrev pub QuietStaysStill : Type 0
  QuietStaysStill = (now : History D) (a : Account) (id chunk : ℕ) (view : View) (s : Server) → IsReached x now a → IsQuiet a chunk view → is_member view.members id ≡ true → slice_get now.nodes.servers id ≡ Some s →
      IsStill x.config.chunk a chunk view s × TakesNoEdit now.sent chunk id s

-- ---- Worked
a_text_holds_itself : (stored : Stored) → HoldsWhereWhole stored stored.bytes
a_text_holds_itself stored i whole = refl
