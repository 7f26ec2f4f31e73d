-- A client's node may go into another thread.
use denote.Param.Send.{IsSend, sendable}
use Rattle.std.proofs.Crossing.{crosses}
use Rattle.gs_client.specs.contracts.link.Reply as Reply
use Rattle.gs_client.specs.contracts.node.ClientNode as ClientNode
use Rattle.gs_cluster_send.proofs.Messages.{answer, given}
use Rattle.gs_cluster_send.proofs.Parts.{edit_outcome, refusal}

pub reply : IsSend (Reply.the_field).row
reply = search (sendable, crosses, answer, edit_outcome, given, refusal) depth 200 fits 100000

pub client_node : IsSend (ClientNode.the_field).row
client_node = search (sendable, crosses, reply) depth 200 fits 100000
