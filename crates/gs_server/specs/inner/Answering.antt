-- What the handlers of a server share.
use Rattle.std.specs.Prelude.{ℕ, cond, Bool, List, [], ◌∷◌, Option, Some, None, Ok, Err}
use Rattle.std.specs.FinMap as fin
use Rattle.gs_base.specs.declared.numbers.Stamp.{Stamp}
use Rattle.gs_base.specs.declared.numbers.ReqId.{ReqId}
use Rattle.gs_base.specs.declared.refusal.Refusal.{Refusal}
use Rattle.gs_replica.specs.declared.op.EditOutcome.{EditOutcome}
use Rattle.gs_msg.specs.declared.node.NodeId.{NodeId}
use Rattle.gs_msg.specs.declared.node.NodeId.TheVariants as nodes
use Rattle.gs_msg.specs.declared.message.Message.{Message}
use Rattle.gs_msg.specs.declared.body.Body.TheVariants as bodies
use Rattle.gs_msg.specs.declared.chunk.Chunk.TheVariants as chunks
use Rattle.gs_store.specs.Slots.{count_of}
use Rattle.gs_store.specs.Stores.{slot_of}
use Rattle.gs_server_lease.specs.Leases.{tell}
use Rattle.gs_server.specs.Places.{damaged_block, marked_by, of_promise, count_or_none}
use Rattle.gs_server.specs.Servers.{Server, Step, store_of, with_store, with_leases, with_refused, change_slot, change_lease}

abbrev pub bad_told : ℕ → ℕ → Stamp → Option ℕ → List Message
bad_told me handle promise None = []
bad_told me handle promise (Some block) = tell me nodes.Master (bodies.About handle (chunks.Bad promise)) ∷ []

-- an answer by which a message is refused
abbrev pub refused_by : ℕ → Message → Refusal → Server → Step
refused_by handle answer refusal s = record {
  after = with_store (change_slot handle (marked_by (damaged_block refusal)) (store_of s)) s;
  sent = answer ∷ bad_told s.me handle (slot_of handle (store_of s)).promise (damaged_block refusal);
  said = Some refusal;
}

-- the slot is as a call left it: a lease of another stamp is spent, and the promise is told
abbrev pub promised_by : ℕ → Stamp → Server → Step
promised_by handle stamp s = record {
  after = with_leases (change_lease handle (of_promise (slot_of handle (store_of s)).promise (fin.get s.dropped.leases handle)) s.dropped.leases) s;
  sent = tell s.me nodes.Master (bodies.About handle (chunks.Promised stamp (count_or_none (count_of (slot_of handle (store_of s)).live)) (slot_of handle (store_of s)).carried)) ∷ [];
  said = None;
}

-- no copy is made under a new handle
abbrev pub not_copied_by : ℕ → ℕ → Stamp → Refusal → Server → Step
not_copied_by handle new_handle stamp refusal s = refused_by handle (tell s.me nodes.Master (bodies.About new_handle (chunks.Unpromised stamp refusal))) refusal s

-- an edit isn't taken
abbrev pub declined_by : ℕ → NodeId → Stamp → Refusal → Server → Step
declined_by handle from stamp refusal s = refused_by handle (tell s.me from (bodies.About handle (chunks.Nack stamp refusal))) refusal s

-- an edit is refused, and that isn't kept
abbrev pub refused_once_by : ReqId → Refusal → Server → Step
refused_once_by req refusal s = record { after = s; sent = tell s.me (nodes.Client req.client) (bodies.Done req (Err refusal)) ∷ []; said = Some refusal }

-- an edit is refused, and that is kept for its client
abbrev pub kept_by : ℕ → ReqId → Refusal → Server → Step
kept_by handle req refusal s = record {
  after = with_store (change_slot handle (marked_by (damaged_block refusal)) (store_of s)) (with_refused (fin.insert s.kept.refused req.client (record { number = req.number; refusal = refusal })) s);
  sent = tell s.me (nodes.Client req.client) (bodies.Done req (Err refusal)) ∷ bad_told s.me handle (slot_of handle (store_of s)).promise (damaged_block refusal);
  said = Some refusal;
}

-- a client's last edit again
abbrev pub repeated_by : ReqId → EditOutcome → Bool → Server → Step
repeated_by req outcome known s = record { after = s; sent = cond known (tell s.me (nodes.Client req.client) (bodies.Done req (Ok outcome)) ∷ []) []; said = None }
