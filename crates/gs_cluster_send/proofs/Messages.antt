-- Messages may go into another thread.
use denote.RattleType.{RattleType}
use denote.Enum.Declared.{Declared, field, shape, variants}
use denote.Param.Send.{EachSend, IsSend, enum_send, sendable}
use Rattle.std.proofs.Crossing.{crosses}
use Rattle.gs_msg.specs.contracts.answer.Answer as Answer
use Rattle.gs_msg.specs.contracts.answer.Status as Status
use Rattle.gs_msg.specs.contracts.body.Body as Body
use Rattle.gs_msg.specs.contracts.body.Given as Given
use Rattle.gs_msg.specs.contracts.call.Call as Call
use Rattle.gs_msg.specs.contracts.chunk.Asked as Asked
use Rattle.gs_msg.specs.contracts.chunk.Chunk as Chunk
use Rattle.gs_msg.specs.contracts.lists.Bytes as Bytes
use Rattle.gs_msg.specs.contracts.lists.Items as Items
use Rattle.gs_msg.specs.contracts.lists.ListedName as ListedName
use Rattle.gs_msg.specs.contracts.lists.Names as Names
use Rattle.gs_msg.specs.contracts.message.Message as Message
use Rattle.gs_msg.specs.contracts.node.NodeId as NodeId
use Rattle.gs_msg.specs.contracts.op.Op as Op
use Rattle.gs_cluster_send.proofs.Parts.{grant, handle, image, moment, name, path, refusal, req_id, sealed_image, stamp}

-- an enum of parts that may
enum_by : (T : Declared) → EachSend (variants T) → IsSend (field T).row
enum_by T each = enum_send (shape T) each

pub op : IsSend (Op.the_field).row
op = search (sendable, crosses) depth 200 fits 100000

pub asked : IsSend (Asked.the_field).row
asked = search (sendable, crosses) depth 200 fits 100000

pub node_id : IsSend (NodeId.the_field).row
node_id = search (sendable, crosses) depth 200 fits 100000

pub items : (T : RattleType) → IsSend T → IsSend (Items.the_field T).row
items T s = search (sendable, crosses) depth 200 fits 100000

pub bytes : IsSend (Bytes.the_field).row
bytes = search (sendable, crosses) depth 200 fits 100000

pub listed_name : IsSend (ListedName.the_field).row
listed_name = search (sendable, crosses, name) depth 200 fits 100000

pub listed_names : IsSend (Names.the_field).row
listed_names = search (sendable, crosses, listed_name) depth 200 fits 100000

pub status : IsSend (Status.the_field).row
status = search (sendable, crosses, items) depth 200 fits 100000

pub answer : IsSend (Answer.the_field).row
answer = search (sendable, crosses, path, listed_names, status) depth 200 fits 100000

pub call : IsSend (Call.the_field).row
call = search (sendable, crosses, path) depth 200 fits 100000

ruleset chunk_parts = (sendable, crosses, stamp, grant, moment, req_id, op, asked, refusal, bytes, image, sealed_image)

pub chunk : IsSend (Chunk.the_field).row
chunk = enum_by Chunk.the_type (search chunk_parts depth 60 fits 100000, (search chunk_parts depth 60 fits 100000, (search chunk_parts depth 60 fits 100000, (search chunk_parts depth 60 fits 100000, (search chunk_parts depth 60 fits 100000, (search chunk_parts depth 60 fits 100000, (search chunk_parts depth 60 fits 100000, (search chunk_parts depth 60 fits 100000, (search chunk_parts depth 60 fits 100000, (search chunk_parts depth 60 fits 100000, (search chunk_parts depth 60 fits 100000, (search chunk_parts depth 60 fits 100000, (search chunk_parts depth 60 fits 100000, (search chunk_parts depth 60 fits 100000, (search chunk_parts depth 60 fits 100000, (search chunk_parts depth 60 fits 100000, tt))))))))))))))))

pub given : IsSend (Given.the_field).row
given = search (sendable, crosses, bytes) depth 200 fits 100000

ruleset body_parts = (sendable, crosses, node_id, handle, stamp, req_id, chunk, call, answer, refusal, bytes, given, items)

pub body : IsSend (Body.the_field).row
body = enum_by Body.the_type (search body_parts depth 60 fits 100000, (search body_parts depth 60 fits 100000, (search body_parts depth 60 fits 100000, (search body_parts depth 60 fits 100000, (search body_parts depth 60 fits 100000, (search body_parts depth 60 fits 100000, (search body_parts depth 60 fits 100000, (search body_parts depth 60 fits 100000, (search body_parts depth 60 fits 100000, (search body_parts depth 60 fits 100000, (search body_parts depth 60 fits 100000, tt)))))))))))

pub message : IsSend (Message.the_field).row
message = search (sendable, crosses, node_id, body) depth 200 fits 100000
