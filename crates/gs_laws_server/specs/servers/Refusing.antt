-- What a refused message leaves of a server.
use Rattle.std.specs.Prelude.{◌≡◌, ℕ, Option, Some, None, refl}
use Rattle.gs_base.specs.declared.numbers.ReqId.{ReqId}
use Rattle.gs_base.specs.declared.refusal.Refusal.{Refusal}
use Rattle.gs_base.specs.declared.refusal.Refusal.TheVariants as refusals
use Rattle.gs_msg.specs.declared.node.NodeId.TheVariants as nodes
use Rattle.gs_msg.specs.declared.body.Body.{Body}
use Rattle.gs_msg.specs.declared.body.Body.TheVariants as bodies
use Rattle.gs_server.specs.declared.turn.KeptRefusal.{KeptRefusal}
use Rattle.gs_server_lease.specs.Leases.{moment_of}
use Rattle.gs_server.specs.Places.{SlotChange}
use Rattle.gs_server.specs.Laws.{IsKept, KeepsReply, edit_in}
use Rattle.gs_server.specs.Servers.{Server, new, store_of, with_store, with_refused, change_slot, keep_refusal, handle_body}

-- The whole server is the same, but that the slot of one handle may be marked by the damaged block by which the message is refused, and
-- that the refusal of an edit may be kept for its client, under the edit's number.
pub record IsLeft (handle : ℕ) (edited : Option ReqId) (refusal : Refusal) (s after : Server) : Type 0 where
  pub change : SlotChange
  pub kept : Option KeptRefusal
  pub marks : IsKept refusal change
  pub keeps : KeepsReply kept edited (Some refusal)
  pub is : after ≡ with_refused (keep_refusal edited kept s.kept.refused) (with_store (change_slot handle change (store_of s)) s)

-- of the handle that a message is about, or from which it wants a copy; any other message leaves all
abbrev pub LeavesBut : Body → Refusal → Server → Server → Type 0
LeavesBut (bodies.About handle chunk) refusal s after = IsLeft handle (edit_in chunk) refusal s after
LeavesBut (bodies.MakeCopy handle at new_handle stamp) refusal s after = IsLeft handle None refusal s after
LeavesBut body refusal s after = after ≡ s

-- Worked: what is for another kind of node is refused.
a_stray : (handle_body (new 0 4 16) nodes.Master (bodies.Behind 3) (moment_of 0)).said ≡ Some refusals.Stray
a_stray = refl

which_leaves_all : LeavesBut (bodies.Behind 3) refusals.Stray (new 0 4 16) (handle_body (new 0 4 16) nodes.Master (bodies.Behind 3) (moment_of 0)).after
which_leaves_all = refl
