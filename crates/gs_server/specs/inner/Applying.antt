-- An edit of a message is applied.
use Rattle.std.specs.Prelude.{ℕ, Bool, List, [], ◌∷◌, Option, Some, None, Result, Ok, Err}
use Rattle.gs_base.specs.declared.numbers.Moment.{Moment}
use Rattle.gs_base.specs.declared.numbers.Stamp.{Stamp}
use Rattle.gs_base.specs.declared.numbers.ReqId.{ReqId}
use Rattle.gs_base.specs.declared.refusal.Refusal.{Refusal}
use Rattle.gs_base.specs.declared.refusal.Refusal.TheVariants as refusals
use Rattle.gs_msg.specs.declared.node.NodeId.{NodeId}
use Rattle.gs_msg.specs.declared.body.Body.TheVariants as bodies
use Rattle.gs_msg.specs.declared.chunk.Chunk.TheVariants as chunks
use Rattle.gs_msg.specs.declared.op.Op.{Op}
use Rattle.gs_msg.specs.Ops.{in_replica}
use Rattle.gs_store.specs.Buffers.{pushed}
use Rattle.gs_store.specs.Stores.{Store, apply}
use Rattle.gs_server.specs.declared.applying.Numbered.{Numbered}
use Rattle.gs_server.specs.Edits.{bytes_of, forward, has_bytes}
use Rattle.gs_server_lease.specs.Leases.{tell}
use Rattle.gs_server.specs.Servers.{Server, Step, change_buffer, here_of, place_of, step_of, store_of, with_store}
use Rattle.gs_server.specs.inner.Answering.{declined_by}

abbrev pub leaving : ReqId → Bool → Result Store Refusal → Result Store Refusal
leaving req used (Ok t) = Ok (change_buffer (Some req) used t)
leaving req used (Err e) = Err e

-- with these bytes, which leave the buffer where they are applied; without any it is refused
abbrev pub applied_with : ℕ → Stamp → ℕ → ReqId → Op → Store → Option (List ℕ) → Result Store Refusal
applied_with handle stamp number req op t None = Err refusals.NoData
applied_with handle stamp number req op t (Some bytes) = leaving req (has_bytes op) (apply handle stamp number req (in_replica op) bytes t)

-- with the bytes that it carries, or else with those that were pushed for it
abbrev pub applied_of : ℕ → Numbered → Option (List ℕ) → Store → Result Store Refusal
applied_of handle edit carried t = applied_with handle edit.stamp edit.number edit.req edit.op t (bytes_of edit.op carried (pushed edit.req t.buffer))

-- an edit is applied and acknowledged, or it isn't taken
abbrev pub taken_by : ℕ → NodeId → Stamp → ℕ → Result Store Refusal → Server → Step
taken_by handle from stamp number (Ok t) s = record { after = with_store t s; sent = tell s.me from (bodies.About handle (chunks.Ack stamp number)) ∷ []; said = None }
taken_by handle from stamp number (Err e) s = declined_by handle from stamp e s

abbrev pub taken_of : ℕ → NodeId → Numbered → Option (List ℕ) → Server → Step
taken_of handle from edit carried s =
    taken_by handle from edit.stamp edit.number
    (applied_with handle edit.stamp edit.number edit.req edit.op (store_of s) (bytes_of edit.op carried (pushed edit.req s.dropped.buffer))) s

-- what comes of an edit that its primary has numbered
abbrev pub forwarded_of : ℕ → NodeId → Numbered → Option (List ℕ) → Moment → Server → Step
forwarded_of handle from edit carried moment s =
    step_of handle (Some edit.req) (forward (here_of s moment handle (Some edit.req)) (place_of handle s) from edit.stamp edit.number edit.req edit.op carried) s
