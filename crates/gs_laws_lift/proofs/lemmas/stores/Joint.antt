-- What a server and the master say of a chunk is one and the same in the machine, whoever hears it.
use Rattle.std.proofs.Common.{◌≡◌, ℕ, ◌++◌, List, [], ◌∷◌, subst}
use Rattle.gs_base.specs.declared.numbers.ClientId.{ClientId}
use Rattle.std.specs.Prelude.{Contains}
use Rattle.std.specs.List.{AllByRecursion}
use Rattle.gs_base.specs.declared.config.Config.{Config}
use Rattle.gs_base.specs.declared.epoch.EpochEnd.{EpochEnd}
use Rattle.gs_msg.specs.declared.body.Body.{Body}
use Rattle.gs_msg.specs.declared.body.Body.TheVariants as bodies
use Rattle.gs_msg.specs.declared.body.Reported.{Reported}
use Rattle.gs_msg.specs.declared.chunk.Chunk.{Chunk}
use Rattle.gs_msg.specs.declared.chunk.Chunk.TheVariants as chunks
use Rattle.gs_msg.specs.declared.message.Message.{Message}
use Rattle.gs_msg.specs.declared.node.NodeId.{NodeId}
use Rattle.gs_msg.specs.declared.node.NodeId.TheVariants as nodes
use Rattle.gs_master_spec.specs.State.{State, Turn}
use Rattle.gs_laws_chunk.specs.machine.Machine.{Sent, ChunkWorld}
use Rattle.gs_laws_parts.specs.server.Showing.{Setting}
use Rattle.gs_laws_parts.specs.server.Messages.{ReportsIt, NamesIt, TellsEpochTo}
use Rattle.gs_laws_parts.specs.server.Telling.{SaysOf, TellsServer, TellsTo, ReportsAll, NamesAll, TellsBody, ServersTell}
use Rattle.gs_laws_parts.specs.master.Telling as entry
use Rattle.gs_laws_parts.specs.server.Messages as messages
use Rattle.gs_laws_moves.specs.moves.Guards.{Heard, AreRight, IsRight, IsRightAbout}
use Rattle.gs_laws_moves.specs.moves.Asked.{WasHeard}
use Rattle.gs_laws_moves.specs.moves.Laws.{IsMadeWell, said_from}
use Rattle.gs_laws_moves.specs.moves.Moves.{Chain, Rests, Moves, Then, move_turn}
use Rattle.gs_laws_lift.specs.stores.Saying.{IsOfMasterAbout, IsOfMaster, AreOfMaster}

-- ---- what a server says, the master hears

says_about : (c : Setting) (w : ChunkWorld) (from : ℕ) (said : Chunk) → SaysOf c w (nodes.Server from) said → messages.SaysOf w from said
says_about c w from (chunks.Promised stamp count carried) says = says
says_about c w from said says = tt

pub says_of_tells : (c : Setting) (chunk : ℕ) (w : ChunkWorld) (from : ℕ) (to : NodeId) (body : Body) → TellsBody c chunk w (nodes.Server from) to body → entry.Says chunk w from body
says_of_tells c chunk w from to (bodies.About handle said) tells = λ is. says_about c w from said (tells is).0
says_of_tells c chunk w from to (bodies.Report epoch replicas) tells = tells
says_of_tells c chunk w from to (bodies.Learned epoch handles) tells = tells
says_of_tells c chunk w from to body tells = tt

-- what a client has called says nothing of it
pub call_says : (chunk : ℕ) (w : ChunkWorld) (client : ClientId) (body : Body) → WasHeard (entry.Says chunk w) (said_from (nodes.Client client) body)
call_says chunk w client (bodies.Call req call) server said is =
    let pair : ◌≡◌ {A = ℕ × Body} (client.0, bodies.Call req call) (server, said) = cc in
    subst (λ (x : ℕ × Body). entry.Says chunk w x.0 x.1) pair tt
call_says chunk w client body server said is = absurd (cc)

-- ---- what the master says, a server hears

master_says : (c : Setting) (w : ChunkWorld) (from : NodeId) (said : Chunk) → IsOfMasterAbout said → SaysOf c w from said
master_says c w nodes.Master said is = tt
master_says c w (nodes.Client client) said is = tt
master_says c w (nodes.Server server) (chunks.Promised stamp count carried) is = absurd is
master_says c w (nodes.Server server) (chunks.Ack stamp count) is = absurd is
master_says c w (nodes.Server server) said is = tt

master_tells : (c : Setting) (w : ChunkWorld) (to : ℕ) (said : Chunk) → IsOfMasterAbout said → messages.TellsServer c.born w to said → TellsServer c w to said
master_tells c w to (chunks.Create stamp) is tells = tells
master_tells c w to (chunks.Advance stamp) is tells = tells
master_tells c w to (chunks.Grant given) is tells = tells
master_tells c w to (chunks.CopyOut stamp target with_sealed) is tells = tells
master_tells c w to (chunks.Drop epoch promise) is tells = tells
master_tells c w to (chunks.Renewed stamp end) is tells = tt
master_tells c w to said is tells = absurd is

master_tells_to : (c : Setting) (w : ChunkWorld) (to : NodeId) (said : Chunk) → IsOfMasterAbout said → entry.TellsTo c.born w to said → TellsTo c w to said
master_tells_to c w (nodes.Server to) said is tells = master_tells c w to said is tells
master_tells_to c w nodes.Master said is tells = tt
master_tells_to c w (nodes.Client client) said is tells = tt

pub tells_of_master : (c : Setting) (chunk : ℕ) (w : ChunkWorld) (from to : NodeId) (body : Body) → IsOfMaster body → entry.TellsBody c.born chunk w to body → TellsBody c chunk w from to body
tells_of_master c chunk w from to (bodies.About handle said) is tells = λ same. (master_says c w from said is, master_tells_to c w to said is (tells same))
tells_of_master c chunk w from to (bodies.Epoch epoch end) is tells = tells
tells_of_master c chunk w from to (bodies.MakeCopy handle at new_handle stamp) is tells = tt
tells_of_master c chunk w from to (bodies.Reply req result) is tells = tt
tells_of_master c chunk w from to body is tells = absurd is

pub all_of_master : (c : Setting) (chunk : ℕ) (w : ChunkWorld) (messages : List Message) → AreOfMaster messages → AllByRecursion (entry.MastersTell c.born chunk w) messages → AllByRecursion (ServersTell c chunk w) messages
all_of_master c chunk w [] is tells = tt
all_of_master c chunk w (m ∷ messages) is tells = (tells_of_master c chunk w m.from m.to m.body is.0 tells.0, all_of_master c chunk w messages is.1 tells.1)

-- ---- the master says nothing else

right_about : (heard : Heard) (s : State) (chunk : ℕ) (to : NodeId) (said : Chunk) → IsRightAbout heard s chunk to said → IsOfMasterAbout said
right_about heard s chunk to (chunks.Create stamp) right = tt
right_about heard s chunk to (chunks.Advance stamp) right = tt
right_about heard s chunk to (chunks.CopyOut stamp target with_sealed) right = tt
right_about heard s chunk to (chunks.Grant grant) right = tt
right_about heard s chunk to (chunks.Renewed stamp end) right = tt
right_about heard s chunk to (chunks.Drop epoch promise) right = tt
right_about heard s chunk to said right = absurd right

right_body : (heard : Heard) (s : State) (to : NodeId) (body : Body) → IsRight heard s to body → IsOfMaster body
right_body heard s to (bodies.About chunk said) right = right_about heard s chunk to said right
right_body heard s to (bodies.MakeCopy old at new stamp) right = tt
right_body heard s to (bodies.Epoch epoch end) right = tt
right_body heard s to (bodies.Reply req result) right = tt
right_body heard s to body right = absurd right

right_all : (heard : Heard) (s : State) (messages : List Message) → AreRight heard s messages → AreOfMaster messages
right_all heard s [] right = tt
right_all heard s (m ∷ messages) right = (right_body heard s m.to m.body right.0, right_all heard s messages right.1)

pub both_of_master : (xs ys : List Message) → AreOfMaster xs → AreOfMaster ys → AreOfMaster (xs ++ ys)
both_of_master [] ys first second = second
both_of_master (x ∷ xs) ys first second = (first.0, both_of_master xs ys first.1 second)

pub chain_of_master : (config : Config) (heard : Heard) (s : State) (t : Turn) → Chain config (IsMadeWell config heard) s t → AreOfMaster t.sent
chain_of_master config heard s t (Rests u said) = tt
chain_of_master config heard s t (Moves u move said well) = right_all heard (move_turn config u move).after (move_turn config u move).sent well.made.right
chain_of_master config heard s t (Then u first next a b) = both_of_master first.sent next.sent (chain_of_master config heard u first a) (chain_of_master config heard first.after next b)

-- ---- what was told stays told

module _ (c : Setting) (chunk : ℕ) (w v : ChunkWorld) (stays : (x : Sent) → Contains w.sent x → Contains v.sent x) where
  server_grown : (to : ℕ) (said : Chunk) → TellsServer c w to said → TellsServer c v to said
  server_grown to (chunks.Create stamp) h = (h.0, h.1, h.2, stays _ h.3)
  server_grown to (chunks.Advance stamp) h = (h.0, h.1, stays _ h.2)
  server_grown to (chunks.Grant given) h = (h.0, h.1, stays _ h.2)
  server_grown to (chunks.Forward stamp number req op carried) h = (h.0, h.1, h.2, h.3, h.4, h.5, h.6, stays _ h.7)
  server_grown to (chunks.CopyOut stamp target with_sealed) h = (h.0, h.1, stays _ h.2)
  server_grown to (chunks.CopyIn stamp image sealed) h = (h.0, h.1, h.2, h.3, h.4, h.5, h.6, stays _ h.7)
  server_grown to (chunks.Drop epoch promise) h = (h.0, h.1, stays _ h.2)
  server_grown to said h = tt

  to_grown : (to : NodeId) (said : Chunk) → TellsTo c w to said → TellsTo c v to said
  to_grown (nodes.Server to) said h = server_grown to said h
  to_grown nodes.Master said h = tt
  to_grown (nodes.Client client) said h = tt

  says_grown : (from : NodeId) (said : Chunk) → SaysOf c w from said → SaysOf c v from said
  says_grown (nodes.Server from) (chunks.Promised stamp count carried) h = (h.0, h.1, stays _ h.2)
  says_grown (nodes.Server from) (chunks.Ack stamp count) h = (h.0, h.1, stays _ h.2)
  says_grown (nodes.Server from) said h = tt
  says_grown nodes.Master said h = tt
  says_grown (nodes.Client client) said h = tt

  reports_grown : (from epoch : ℕ) (replicas : List Reported) → AllByRecursion (ReportsIt chunk w from epoch) replicas → AllByRecursion (ReportsIt chunk v from epoch) replicas
  reports_grown from epoch [] h = tt
  reports_grown from epoch (r ∷ replicas) h = ((λ is. let x = h.0 is in (x.0, x.1, stays _ x.2)), reports_grown from epoch replicas h.1)

  names_grown : (from epoch : ℕ) (handles : List ℕ) → AllByRecursion (NamesIt chunk w from epoch) handles → AllByRecursion (NamesIt chunk v from epoch) handles
  names_grown from epoch [] h = tt
  names_grown from epoch (r ∷ handles) h = ((λ is. stays _ (h.0 is)), names_grown from epoch handles h.1)

  all_reports_grown : (from : NodeId) (epoch : ℕ) (replicas : List Reported) → ReportsAll chunk w from epoch replicas → ReportsAll chunk v from epoch replicas
  all_reports_grown (nodes.Server from) epoch replicas h = reports_grown from epoch replicas h
  all_reports_grown nodes.Master epoch replicas h = tt
  all_reports_grown (nodes.Client client) epoch replicas h = tt

  all_names_grown : (from : NodeId) (epoch : ℕ) (handles : List ℕ) → NamesAll chunk w from epoch handles → NamesAll chunk v from epoch handles
  all_names_grown (nodes.Server from) epoch handles h = names_grown from epoch handles h
  all_names_grown nodes.Master epoch handles h = tt
  all_names_grown (nodes.Client client) epoch handles h = tt

  epoch_grown : (to : NodeId) (epoch : ℕ) (end : EpochEnd) → TellsEpochTo c.born w to epoch end → TellsEpochTo c.born v to epoch end
  epoch_grown (nodes.Server to) epoch end h = λ late. stays _ (h late)
  epoch_grown nodes.Master epoch end h = tt
  epoch_grown (nodes.Client client) epoch end h = tt

  pub body_grown : (from to : NodeId) (body : Body) → TellsBody c chunk w from to body → TellsBody c chunk v from to body
  body_grown from to (bodies.About handle said) h = λ is. (says_grown from said (h is).0, to_grown to said (h is).1)
  body_grown from to (bodies.Push req bytes) h = h
  body_grown from to (bodies.Report epoch replicas) h = all_reports_grown from epoch replicas h
  body_grown from to (bodies.Learned epoch handles) h = all_names_grown from epoch handles h
  body_grown from to (bodies.Epoch epoch end) h = epoch_grown to epoch end h
  body_grown from to body h = tt
