-- A message in one line: its kind, its sender, its receiver, and its fields.
use Rattle.std.specs.Prelude.{◌++◌, ℕ, List, codes, decimal}
use Rattle.gs_base.specs.Numbers.{stamp_text}
use Rattle.gs_base.specs.Refusals.{refusal_text}
use Rattle.gs_base.specs.Texts.{list_text, members_text, request_text, end_text}
use Rattle.gs_base.specs.declared.numbers.Stamp.{Stamp}
use Rattle.gs_msg.specs.Bodies.{kind_of}
use Rattle.gs_msg.specs.Kinds.{name_of}
use Rattle.gs_msg.specs.Nodes.{node_text}
use Rattle.gs_msg.specs.Texts.{flag_text, bytes_text, carried_bytes_text, op_text, asked_text, outcome_text, given_text, image_text, sealed_text, reported_text, call_text, answer_text, result_text}
use Rattle.gs_msg.specs.declared.chunk.Chunk.{Chunk}
use Rattle.gs_msg.specs.declared.chunk.Chunk.TheVariants as chunks
use Rattle.gs_msg.specs.declared.body.Body.{Body}
use Rattle.gs_msg.specs.declared.body.Body.TheVariants as bodies
use Rattle.gs_msg.specs.declared.message.Message.{Message}

-- the chunk that is spoken of, and the stamp
abbrev pub stamped_text : ℕ → Stamp → List ℕ
stamped_text handle stamp = decimal handle ++ (codes " " ++ stamp_text stamp)

-- the same with more behind it
abbrev pub stamped_before : ℕ → Stamp → List ℕ → List ℕ
stamped_before handle stamp rest = decimal handle ++ (codes " " ++ (stamp_text stamp ++ (codes " " ++ rest)))

abbrev pub said_text : ℕ → Chunk → List ℕ
said_text handle (chunks.Create stamp) = stamped_text handle stamp
said_text handle (chunks.Advance stamp) = stamped_text handle stamp
said_text handle (chunks.Promised stamp count carried) = stamped_before handle stamp ((decimal count ++ (codes " " ++ flag_text carried)))
said_text handle (chunks.Unpromised stamp refusal) = stamped_before handle stamp (refusal_text refusal)
said_text handle (chunks.Grant grant) = stamped_before handle grant.stamp ((members_text grant.members ++ (codes " " ++ decimal grant.end.0)))
said_text handle (chunks.Renew stamp) = stamped_text handle stamp
said_text handle (chunks.Renewed stamp end) = stamped_before handle stamp (decimal end.0)
said_text handle (chunks.Edit req stamp op) = request_text req ++ (codes " " ++ (stamped_before handle stamp (op_text op)))
said_text handle (chunks.Forward stamp number req op bytes) = stamped_before handle stamp ((decimal number ++ (codes " " ++ (request_text req ++ (codes " " ++ (op_text op ++ (codes " " ++ carried_bytes_text bytes)))))))
said_text handle (chunks.Ack stamp count) = stamped_before handle stamp (decimal count)
said_text handle (chunks.Nack stamp refusal) = stamped_before handle stamp (refusal_text refusal)
said_text handle (chunks.Fetch req stamp epoch asked) = request_text req ++ (codes " " ++ (stamped_before handle stamp ((decimal epoch ++ (codes " " ++ asked_text asked)))))
said_text handle (chunks.CopyOut stamp target with_sealed) = stamped_before handle stamp ((decimal target ++ (codes " " ++ flag_text with_sealed)))
said_text handle (chunks.CopyIn stamp image sealed) = stamped_before handle stamp ((image_text image ++ (codes " " ++ sealed_text sealed)))
said_text handle (chunks.Drop epoch promise) = decimal epoch ++ (codes " " ++ stamped_text handle promise)
said_text handle (chunks.Bad stamp) = stamped_text handle stamp

abbrev pub fields_text : Body → List ℕ
fields_text (bodies.About handle chunk) = said_text handle chunk
fields_text (bodies.Call req call) = request_text req ++ (codes " " ++ call_text call)
fields_text (bodies.Reply req result) = request_text req ++ (codes " " ++ result_text answer_text result)
fields_text (bodies.Push req bytes) = request_text req ++ (codes " " ++ bytes_text bytes)
fields_text (bodies.Done req result) = request_text req ++ (codes " " ++ result_text outcome_text result)
fields_text (bodies.Bytes req result) = request_text req ++ (codes " " ++ result_text given_text result)
fields_text (bodies.MakeCopy handle at new_handle stamp) = decimal handle ++ (codes " " ++ (stamp_text at ++ (codes " " ++ (decimal new_handle ++ (codes " " ++ stamp_text stamp)))))
fields_text (bodies.Report epoch replicas) = decimal epoch ++ (codes " " ++ list_text reported_text replicas)
fields_text (bodies.Epoch epoch end) = decimal epoch ++ (codes " " ++ end_text end)
fields_text (bodies.Learned epoch handles) = decimal epoch ++ (codes " " ++ list_text decimal handles)
fields_text (bodies.Behind epoch) = decimal epoch

abbrev pub message_text : Message → List ℕ
message_text m = name_of (kind_of m.body) ++ (codes " " ++ (node_text m.from ++ (codes " " ++ (node_text m.to ++ (codes " " ++ fields_text m.body)))))
