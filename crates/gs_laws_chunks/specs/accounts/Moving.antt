-- How an account moves at a step: by the step, and by the nodes before and behind it.
use Rattle.std.specs.Ordering.{nat_cmp}
use Rattle.std.specs.Prelude.{[], ◌&&◌, ◌==◌, ◌∷◌, ◌≡◌, Bool, List, None, Option, Some, false, if◌then◌else◌, max, nat_lt, not, option_map, refl, slice_get, take, ℕ}
use Rattle.gs_base.specs.Stamps.{is_same}
use Rattle.gs_base.specs.declared.numbers.Moment.{Moment}
use Rattle.gs_base.specs.declared.numbers.Stamp.{Stamp}
use Rattle.gs_lease.specs.declared.view.View.{View}
use Rattle.gs_msg.specs.declared.body.Body.{Body}
use Rattle.gs_msg.specs.declared.message.Message.{Message}
use Rattle.gs_msg.specs.declared.node.NodeId.{NodeId}
use Rattle.gs_laws_chunks.specs.accounts.Accounts.{Account, edits_in, first_account, view_at}
use Rattle.gs_world.specs.Histories.{History}
use Rattle.gs_world.specs.Runs.{Comes, Step, Takes}
use Rattle.gs_world.specs.Sent.{Sent, message_of, none_sent}
use Rattle.gs_laws_lift.specs.stores.Copying.{copied_from, tells_of_a_copy}
use Rattle.gs_laws_moves.specs.moves.Epochs.{prepares, rolls_back}
use Rattle.gs_server.specs.Places.{count_or_none}
use Rattle.gs_server.specs.Servers.{Server}
use Rattle.gs_laws_server.specs.servers.Calling.{call_by}
use Rattle.gs_master_spec.specs.Applied.{view_in}
use Rattle.gs_master_spec.specs.Durable.{Durable, start, upgrade_epoch}
use Rattle.std.specs.FinMap as fin
use Rattle.gs_msg.specs.declared.chunk.Chunk.TheVariants as chunks
use Rattle.gs_msg.specs.declared.body.Body.TheVariants as bodies
use Rattle.gs_msg.specs.declared.event.Happening.TheVariants as happenings
use Rattle.gs_msg.specs.declared.node.NodeId.TheVariants as nodes
use Rattle.gs_server.specs.Runs as at_server
use Rattle.gs_server.specs.Runs.{slot_in}
use Rattle.gs_replica.specs.Stands.{Edit}
use Rattle.gs_store.specs.Calls.{Call}
use Rattle.gs_laws_parts.specs.server.Harm.{intact_behind, is_whole}
use Rattle.gs_laws_server.specs.servers.Following.{edit_in, lengthened}
use Rattle.gs_store.specs.Slots.{count_of}
use Rattle.gs_msg.specs.declared.event.Happening.{Happening}

-- ---- what a step is at a server

-- the server that a message is to, if it is to one
abbrev pub server_of : NodeId → Option ℕ
server_of (nodes.Server id) = Some id
server_of node = None

abbrev pub is_server : ℕ → Option ℕ → Bool
is_server id None = false
is_server id (Some to) = to == id

-- what comes to this server
abbrev pub comes_to : Option Message → Moment → ℕ → Option at_server.Event
comes_to None moment id = None
comes_to (Some message) moment id = if is_server id (server_of message.to) then Some (at_server.Hears message moment) else None

-- of all that happens, what may change a slot
abbrev pub happens_at : Moment → Happening → Sent → ℕ → Option at_server.Event
happens_at moment (happenings.Deliver message) sent id = comes_to (message_of sent message) moment id
happens_at moment (happenings.Lose server chunk) sent id = if server == id then Some (at_server.Loses chunk) else None
happens_at moment (happenings.Damage server chunk block) sent id = if server == id then Some (at_server.Damages chunk block) else None
happens_at moment happening sent id = None

abbrev pub event_at : Step → Sent → ℕ → Option at_server.Event
event_at (Comes event) sent id = happens_at event.moment event.happening sent id
event_at (Takes client) sent id = None

-- the call of a chunk's slot that it makes, unless memory is wanting
abbrev pub call_in : ℕ → Option at_server.Event → Option Server → Option Call
call_in chunk (Some event) (Some s) = call_by chunk event s
call_in chunk event s = None

-- ---- lists

-- a client asks for an edit of the chunk
abbrev pub is_edit : ℕ → Body → Bool
is_edit chunk (bodies.About other (chunks.Edit req stamp op)) = chunk == other
is_edit chunk body = false

-- a live replica has more edits than before
abbrev pub has_more : ℕ → Server → Server → Bool
has_more chunk s after = nat_lt (count_or_none (count_of (slot_in chunk s).live)) (count_or_none (count_of (slot_in chunk after).live))

-- the edit that a server numbers at a message, with the stamp that it has promised: its replica has one edit more then
abbrev pub numbers : ℕ → Message → Moment → Option Server → Option Server → Option (Stamp × Edit)
numbers chunk message moment (Some s) (Some after) =
    if is_edit chunk message.body && has_more chunk s after
    then option_map (λ (edit : Edit). ((slot_in chunk s).promise, edit)) (edit_in (call_by chunk (at_server.Hears message moment) s)) else None
numbers chunk message moment s after = None

abbrev pub numbered_by : {D : Type 0} → Option ℕ → Message → Moment → History D → History D → ℕ → Option (Stamp × Edit)
numbered_by None message moment old new chunk = None
numbered_by (Some id) message moment old new chunk = numbers chunk message moment (slice_get old.nodes.servers id) (slice_get new.nodes.servers id)

abbrev pub numbered_of : {D : Type 0} → Option Message → Moment → History D → History D → ℕ → Option (Stamp × Edit)
numbered_of None moment old new chunk = None
numbered_of (Some message) moment old new chunk = numbered_by (server_of message.to) message moment old new chunk

abbrev pub numbered_at : {D : Type 0} → Happening → Moment → History D → History D → ℕ → Option (Stamp × Edit)
numbered_at (happenings.Deliver message) moment old new chunk = numbered_of (message_of old.sent message) moment old new chunk
numbered_at happening moment old new chunk = None

-- the edit that is numbered at a step
abbrev pub numbered : {D : Type 0} → Step → History D → History D → ℕ → Option (Stamp × Edit)
numbered (Comes event) old new chunk = numbered_at event.happening event.moment old new chunk
numbered (Takes client) old new chunk = None

abbrev pub edit_under : Stamp → Option (Stamp × Edit) → Option Edit
edit_under stamp None = None
edit_under stamp (Some found) = if is_same found.0 stamp then Some found.1 else None

abbrev pub edits_of : Account → Option (ℕ × Stamp) → List Edit
edits_of a None = []
edits_of a (Some source) = a.list source.0 source.1

-- what a view begins with that follows this one
abbrev pub continued : Account → Sent → ℕ → Option View → List Edit
continued a sent chunk None = edits_of a (copied_from sent chunk)
continued a sent chunk (Some former) = a.list chunk former.stamp

-- A view begins with as many of the edits of the one before it as it counts; the first view of a copy with those of which it is one; and behind a
-- rollback with those of the prepare.
abbrev pub begun : Account → Sent → Durable → ℕ → View → List Edit
begun a sent new chunk view = if rolls_back a.durable new then a.before chunk else take view.count (continued a sent chunk (view_at a chunk))

-- a view is settled that has this stamp
abbrev pub is_under : Stamp → Option View → Bool
is_under stamp None = false
is_under stamp (Some view) = is_same view.stamp stamp

abbrev pub list_behind : Account → Sent → Durable → Option (Stamp × Edit) → ℕ → Stamp → Option View → List Edit
list_behind a sent new found chunk stamp None = lengthened (a.list chunk stamp) (edit_under stamp found)
list_behind a sent new found chunk stamp (Some view) =
    if is_same view.stamp stamp && not (is_under stamp (view_at a chunk)) then begun a sent new chunk view
    else lengthened (a.list chunk stamp) (edit_under stamp found)

-- ---- what servers have

-- the most edits that a server has had under a stamp, also where its replica is gone
abbrev pub reached_behind : ℕ → Option Server → ℕ → Stamp → ℕ
reached_behind so_far None chunk stamp = so_far
reached_behind so_far (Some s) chunk stamp =
    if is_same (slot_in chunk s).promise stamp then max so_far (count_or_none (count_of (slot_in chunk s).live)) else so_far

-- ---- the account behind a step, where the records then tell this
abbrev pub account_behind : {D : Type 0} → Step → History D → Account → History D → Durable → Account
account_behind step old a new d = record {
  durable = d;
  list = λ chunk stamp. list_behind a new.sent d (numbered step old new chunk) chunk stamp (view_in (fin.get d.chunks chunk));
  reached = λ chunk id stamp. reached_behind (a.reached chunk id stamp) (slice_get new.nodes.servers id) chunk stamp;
  intact = λ chunk id.
      if prepares a.durable d then is_whole chunk (slice_get new.nodes.servers id)
      else intact_behind (a.intact chunk id) (upgrade_epoch d.phase d.epoch) chunk (call_in chunk (event_at step old.sent id) (slice_get old.nodes.servers id)) (slice_get old.nodes.servers id) (slice_get new.nodes.servers id);
  before = λ chunk. if prepares a.durable d then edits_in a chunk (view_at a chunk) else a.before chunk;
}

-- ---- Worked

abbrev ordinary : Durable
ordinary = start

abbrev at_stamp : ℕ → Stamp
at_stamp version = record { epoch = 0; version = version }

-- an edit is numbered under the stamp of the view
an_edit_more : (sent : Sent) (edit : Edit) → list_behind (first_account start) sent ordinary (Some (at_stamp 2, edit)) 7 (at_stamp 2) None ≡ edit ∷ []
an_edit_more sent edit = refl

under_another_stamp_none : (a : Account) (sent : Sent) (edit : Edit) → list_behind a sent ordinary (Some (at_stamp 2, edit)) 7 (at_stamp 3) None ≡ a.list 7 (at_stamp 3)
under_another_stamp_none a sent edit = refl

abbrev view_under : ℕ → View
view_under version = record { stamp = at_stamp version; count = 1; members = 0 ∷ []; term = None }

-- a chunk is made, and its first view is settled
a_first_view_begins_with_no_edits : list_behind (first_account start) (none_sent 1 1) ordinary None 7 (at_stamp 2) (Some (view_under 2)) ≡ []
a_first_view_begins_with_no_edits = rw (fin.get-empty nat_cmp 7) refl

-- a copy of chunk 6, which had two edits under the stamp that the master has told; one of them is counted
abbrev with_two : Edit → Edit → Account
with_two first second = record (first_account start) { list = λ chunk stamp. if (chunk == 6) && is_same stamp (at_stamp 1) then first ∷ second ∷ [] else [] }

a_copy_begins_with_what_it_copies : (first second : Edit) → list_behind (with_two first second) tells_of_a_copy ordinary None 7 (at_stamp 2) (Some (view_under 2)) ≡ first ∷ []
a_copy_begins_with_what_it_copies first second = rw (fin.get-empty nat_cmp 7) refl
