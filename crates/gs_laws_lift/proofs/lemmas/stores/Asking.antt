-- What clients say of a chunk tells nothing, and what they push are the bytes of their requests.
use Rattle.std.proofs.Common.{ℕ, List, [], ◌∷◌}
use Rattle.std.specs.List.{AllByRecursion}
use Rattle.gs_msg.specs.declared.body.Body.{Body}
use Rattle.gs_msg.specs.declared.body.Body.TheVariants as bodies
use Rattle.gs_msg.specs.declared.chunk.Chunk.{Chunk}
use Rattle.gs_msg.specs.declared.chunk.Chunk.TheVariants as chunks
use Rattle.gs_msg.specs.declared.message.Message.{Message}
use Rattle.gs_msg.specs.declared.node.NodeId.{NodeId}
use Rattle.gs_msg.specs.declared.node.NodeId.TheVariants as ids
use Rattle.gs_laws_chunk.specs.machine.Machine.{ChunkWorld}
use Rattle.gs_laws_parts.specs.server.Showing.{Setting}
use Rattle.gs_laws_parts.specs.server.Telling.{SaysOf, ServersTell, TellsBody, TellsTo}
use Rattle.gs_laws_lift.specs.stores.Saying.{AreOfClient, IsOfClient, IsOfClientAbout, PushRight}

pub client_says : (c : Setting) (w : ChunkWorld) (from : NodeId) (said : Chunk) → IsOfClientAbout said → SaysOf c w from said
client_says c w ids.Master said is = tt
client_says c w (ids.Client client) said is = tt
client_says c w (ids.Server server) (chunks.Edit req stamp op) is = tt
client_says c w (ids.Server server) (chunks.Fetch req stamp epoch asked) is = tt
client_says c w (ids.Server server) said is = absurd is

pub client_tells : (c : Setting) (w : ChunkWorld) (to : NodeId) (said : Chunk) → IsOfClientAbout said → TellsTo c w to said
client_tells c w ids.Master said is = tt
client_tells c w (ids.Client client) said is = tt
client_tells c w (ids.Server server) (chunks.Edit req stamp op) is = tt
client_tells c w (ids.Server server) (chunks.Fetch req stamp epoch asked) is = tt
client_tells c w (ids.Server server) said is = absurd is

-- where what is pushed are the bytes of the request
pub of_client : (c : Setting) (chunk : ℕ) (w : ChunkWorld) (message : Message) → IsOfClient message.body → PushRight c.bytes message → ServersTell c chunk w message
of_client c chunk w message is right = by_body message.body is right
  where
    IsRight : Body → Type 0
    IsRight body = PushRight c.bytes (record { from = message.from; to = message.to; body = body })

    by_body : (body : Body) → IsOfClient body → IsRight body → TellsBody c chunk w message.from message.to body
    by_body (bodies.About handle said) is right = λ same. (client_says c w message.from said is, client_tells c w message.to said is)
    by_body (bodies.Push req pushed) is right = right
    by_body (bodies.Call req call) is right = tt
    by_body body is right = absurd is

pub all_of_client : (c : Setting) (chunk : ℕ) (w : ChunkWorld) (messages : List Message) → AreOfClient messages → AllByRecursion (λ (m : Message). PushRight c.bytes m → ServersTell c chunk w m) messages
all_of_client c chunk w [] are = tt
all_of_client c chunk w (m ∷ messages) are = (of_client c chunk w m are.0, all_of_client c chunk w messages are.1)
