-- What is shown of copies stays so, and who tells of none.
use Rattle.std.proofs.Common.{ℕ, Bool, List, [], ◌∷◌}
use Rattle.std.specs.List.{AllByRecursion}
use Rattle.gs_base.specs.declared.numbers.Stamp.{Stamp}
use Rattle.gs_laws_chunk.specs.machine.Machine.{ChunkWorld}
use Rattle.gs_laws_chunks.specs.accounts.Agreeing.{CopiesNone, CopyShows, IsCopyShown}
use Rattle.gs_laws_parts.specs.master.Rows.{AreCopiedSince, CopiesSince, IsCopiedSince}
use Rattle.gs_laws_lift.proofs.lemmas.stores.Posting.{sent_then}
use Rattle.gs_laws_lift.specs.stores.Going.{AllSent}
use Rattle.gs_laws_lift.specs.stores.Saying.{AreOfClient, IsOfClient}
use Rattle.gs_laws_parts.specs.server.Answering.{IsByServer}
use Rattle.gs_msg.specs.declared.body.Body.{Body}
use Rattle.gs_msg.specs.declared.body.Body.TheVariants as bodies
use Rattle.gs_msg.specs.declared.message.Message.{Message}
use Rattle.gs_msg.specs.declared.node.NodeId.{NodeId}
use Rattle.gs_msg.specs.declared.node.NodeId.TheVariants as nodes
use Rattle.gs_replica.specs.Stands.{Edit}
use Rattle.gs_world.specs.Sent.{Sent}
use Rattle.gs_master_spec.specs.Durable.{Durable}

-- what holds of each message, and leads to another, gives that
pub all_then : (P : Body → Type 0) (Q : NodeId → Body → Type 0) → ((to : NodeId) (body : Body) → P body → Q to body) → (messages : List Message) → AllByRecursion (λ (m : Message). P m.body) messages → AllByRecursion (λ (m : Message). Q m.to m.body) messages
all_then P Q leads [] all = tt
all_then P Q leads (m ∷ messages) all = (leads m.to m.body all.0, all_then P Q leads messages all.1)

module _ (chunk : ℕ) (list : Stamp → List Edit) (v : ChunkWorld) where
  abbrev Shown : NodeId → Body → Type 0
  Shown = CopyShows chunk list v

  -- what was shown of copies
  pub copies_stay : (former : Stamp → List Edit) (w : ChunkWorld) → ((at : Stamp) → IsCopyShown former w at → IsCopyShown list v at) → (sent : Sent) → AllSent (λ (m : Message). CopyShows chunk former w m.to m.body) sent → AllSent (λ (m : Message). CopyShows chunk list v m.to m.body) sent
  copies_stay former w stays sent shown = sent_then (λ (m : Message). CopyShows chunk former w m.to m.body) (λ (m : Message). Shown m.to m.body) sent (λ m. by_body m.to m.body) shown
    where
      by_body : (to : NodeId) (body : Body) → CopyShows chunk former w to body → Shown to body
      by_body (nodes.Server me) (bodies.MakeCopy old at new stamp) k = λ same. stays at (k same)
      by_body (nodes.Server me) body k = tt
      by_body to body k = tt

  -- of a chunk of which no copy was told
  pub copies_none : (sent : Sent) → AllSent (λ (m : Message). CopiesNone chunk m.to m.body) sent → AllSent (λ (m : Message). CopyShows chunk list v m.to m.body) sent
  copies_none sent none = sent_then (λ (m : Message). CopiesNone chunk m.to m.body) (λ (m : Message). Shown m.to m.body) sent (λ m. by_body m.to m.body) none
    where
      by_body : (to : NodeId) (body : Body) → CopiesNone chunk to body → Shown to body
      by_body (nodes.Server me) (bodies.MakeCopy old at new stamp) k = λ same. absurd (k same)
      by_body (nodes.Server me) body k = tt
      by_body to body k = tt

  -- a server tells of none
  pub by_servers_none : (messages : List Message) → AllByRecursion (λ (m : Message). IsByServer m.body) messages → AllByRecursion (λ (m : Message). CopyShows chunk list v m.to m.body) messages
  by_servers_none = all_then IsByServer Shown by_body
    where
      by_body : (to : NodeId) (body : Body) → IsByServer body → Shown to body
      by_body (nodes.Server me) (bodies.MakeCopy old at new stamp) is = absurd is
      by_body (nodes.Server me) body is = tt
      by_body to body is = tt

  -- and no client does
  pub of_clients_none : (messages : List Message) → AreOfClient messages → AllByRecursion (λ (m : Message). CopyShows chunk list v m.to m.body) messages
  of_clients_none = all_then IsOfClient Shown by_body
    where
      by_body : (to : NodeId) (body : Body) → IsOfClient body → Shown to body
      by_body (nodes.Server me) (bodies.MakeCopy old at new stamp) is = absurd is
      by_body (nodes.Server me) body is = tt
      by_body to body is = tt

  -- what the master tells of copies now
  pub copies_now : (d : Durable) (low : ℕ) (known : Bool) → ((at : Stamp) → IsCopiedSince chunk d low known v at → IsCopyShown list v at) → (messages : List Message) → AreCopiedSince chunk d low known v messages → AllByRecursion (λ (m : Message). CopyShows chunk list v m.to m.body) messages
  copies_now d low known shown = all_then (CopiesSince chunk d low known v) Shown by_body
    where
      by_body : (to : NodeId) (body : Body) → CopiesSince chunk d low known v body → Shown to body
      by_body (nodes.Server me) (bodies.MakeCopy old at new stamp) k = λ same. shown at (k same)
      by_body (nodes.Server me) body k = tt
      by_body to body k = tt
