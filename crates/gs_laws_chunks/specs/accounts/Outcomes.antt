-- What an edit that was asked for comes to, and what its client is told.
use Rattle.std.specs.Prelude.{[], ◌+◌, ◌∷◌, ◌≡◌, List, MatchBool, false, length, nat_le, refl, ℕ}
use Rattle.gs_base.specs.declared.numbers.ReqId.{ReqId}
use Rattle.gs_base.specs.declared.numbers.Stamp.{Stamp}
use Rattle.gs_msg.specs.declared.body.Body.TheVariants as bodies
use Rattle.gs_msg.specs.declared.chunk.Chunk.TheVariants as chunks
use Rattle.gs_msg.specs.declared.message.Message.{Message}
use Rattle.gs_msg.specs.declared.op.Op.{Op}
use Rattle.gs_msg.specs.declared.op.Op.TheVariants as ops
use Rattle.gs_replica.specs.Stands.{Edit, outcome_at}
use Rattle.gs_replica.specs.declared.op.EditOutcome.{EditOutcome}
use Rattle.gs_replica.specs.declared.op.EditOutcome.TheVariants as outcomes
use Rattle.gs_replica.specs.declared.op.Op.TheVariants as applied
use Rattle.gs_server_lease.specs.Numbering.{is_too_long}
use Rattle.gs_world.specs.Sent.{IsSent, Sent}
use Rattle.gs_laws_chunks.specs.accounts.Accounts.{text_of}
use Rattle.gs_laws_chunks.specs.accounts.Acknowledged.{IsAskedHere}

-- In a chunk of a size, behind this text: a write is that write. A record that fits stands right after the text, and its client is told where the text ended. One that doesn't fit, and a pad, fill the chunk up, without bytes of their own.
abbrev pub ComesTo : (size : ℕ) (text : List ℕ) → Op → Edit → EditOutcome → Type 0
ComesTo size text (ops.Write offset many) edit outcome = (edit.op ≡ applied.Write offset) × (length edit.bytes ≡ many) × (outcome ≡ outcomes.Written)
ComesTo size text (ops.Append many) edit outcome =
    MatchBool (nat_le (length text + many) size) ((edit.op ≡ applied.Append) × (length edit.bytes ≡ many) × (outcome ≡ outcomes.Appended (length text))) ((edit.op ≡ applied.Pad) × (edit.bytes ≡ []) × (outcome ≡ outcomes.Padded))
ComesTo size text ops.Pad edit outcome = (edit.op ≡ applied.Pad) × (edit.bytes ≡ []) × (outcome ≡ outcomes.Padded)

-- So it is of each edit that was asked for, where its client is told what it comes to behind the edits before it: by the operation of any message that asks for it. No record is longer than a quarter of a chunk.
abbrev pub EditsComeTo : Type 0
EditsComeTo = (size : ℕ) (sent : Sent) (chunk : ℕ) (req : ReqId) (stamp : Stamp) (before : List Edit) (edit : Edit) (outcome : EditOutcome) → IsAskedHere size sent chunk req stamp before edit → outcome ≡ outcome_at edit.op (length (text_of size before)) →
    (message : Message) (op : Op) → IsSent message sent → message.body ≡ bodies.About chunk (chunks.Edit req stamp op) → (is_too_long size op ≡ false) × ComesTo size (text_of size before) op edit outcome

-- ---- Worked: records in a chunk of 4 bytes, of which 3 are stored
abbrev a_record : ReqId → Edit
a_record req = record { req = req; op = applied.Append; bytes = 9 ∷ [] }

one_byte_fits : (req : ReqId) → ComesTo 4 (1 ∷ 2 ∷ 3 ∷ []) (ops.Append 1) (a_record req) (outcomes.Appended 3)
one_byte_fits req = (refl, refl, refl)

two_bytes_fill_it_up : (req : ReqId) → ComesTo 4 (1 ∷ 2 ∷ 3 ∷ []) (ops.Append 2) (record { req = req; op = applied.Pad; bytes = [] }) outcomes.Padded
two_bytes_fill_it_up req = (refl, refl, refl)
