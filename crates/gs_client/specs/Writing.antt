-- What is written to a file: chunks that are missing are added first, then each chunk gets its part, as an edit of its own.
use Rattle.std.specs.Prelude.{◌+◌, ◌-◌, ◌/◌, ◌++◌, ◌==◌, ℕ, zero, suc, List, [], if◌then◌else◌, Option, Some, None, Result, Ok, Err, length}
use Rattle.gs_base.specs.declared.refusal.Refusal.{Refusal}
use Rattle.gs_base.specs.declared.refusal.Refusal.TheVariants as refusals
use Rattle.gs_base.specs.declared.numbers.Stamp.{Stamp}
use Rattle.gs_path.specs.Path.{Path}
use Rattle.gs_lease.specs.declared.view.Term.{Term}
use Rattle.gs_replica.specs.declared.op.EditOutcome.{EditOutcome}
use Rattle.gs_replica.specs.declared.op.EditOutcome.TheVariants as outcomes
use Rattle.gs_client_dialogue.specs.Dialogues.{Say, Grow, upon, both, ask, otherwise}
use Rattle.gs_msg.specs.declared.call.Call.TheVariants as calls
use Rattle.gs_msg.specs.declared.op.Op.{Op}
use Rattle.gs_msg.specs.declared.op.Op.TheVariants as ops
use Rattle.gs_msg.specs.declared.event.Request.TheVariants as requests
use Rattle.gs_client_part.specs.declared.located.Located.{Located}
use Rattle.gs_client_part.specs.Writing.{most_chunks, part_start, part_bytes, chunks_to, is_out, part_count, placed}
use Rattle.gs_client.specs.Replies.{located_in, edited, is_stale, is_location_good}
use Rattle.gs_client.specs.Trees.{Call, change, look}
use Rattle.gs_client.specs.Looking.{known_call}

-- where a chunk can be written, under a stamp that isn't the refused one
abbrev pub writing_call : Path → ℕ → Option Stamp → Call Located
writing_call path index refused = Grow (look (calls.FindForWriting path index refused) (located_in index))

-- The bytes go to each member, and the edit to the primary, under one number. A location without a primary is nobody's answer.
abbrev pub send_call : Located → Option Term → Op → List ℕ → Call EditOutcome
send_call l None op bytes = Say (Err refusals.Stray)
send_call l (Some term) op bytes = Grow (ask (requests.Write l.handle l.view.members term.primary l.view.stamp op bytes) edited)

abbrev pub edit_call : Located → Op → List ℕ → Call EditOutcome
edit_call l op bytes = send_call l l.view.term op bytes

-- the stamp that the next look-up avoids
abbrev pub avoided : Refusal → Stamp → Option Stamp
avoided refusal stamp = if is_location_good refusal then None else Some stamp

abbrev pub again_call : Path → ℕ → Stamp → Op → List ℕ → Refusal → Call EditOutcome
again_call path index stamp op bytes refusal =
    if is_stale refusal then both (writing_call path index (avoided refusal stamp)) (λ l. edit_call l op bytes)
    else Say (Err refusal)

-- one part: the chunk is looked up, and once more where that may help
abbrev pub part_call : Path → ℕ → Op → List ℕ → Call EditOutcome
part_call path index op bytes =
    both (writing_call path index None) (λ l. upon (edit_call l op bytes) (otherwise (again_call path index l.view.stamp op bytes)))

-- a write is answered as written; another outcome is nobody's answer
abbrev pub written : EditOutcome → Result (Unit {0}) Refusal
written outcomes.Written = Ok tt
written outcome = Err refusals.Stray

abbrev pub write_part_call : Path → ℕ → Op → List ℕ → Call (Unit {0})
write_part_call path index op bytes = both (part_call path index op bytes) (λ outcome. Say (written outcome))

abbrev pub extend_call : Path → ℕ → Call Located
extend_call path index = Grow (change (calls.Extend path index) (located_in index))

-- so many chunks from this index on
abbrev pub extends_call : Path → ℕ → ℕ → Call (Unit {0})
extends_call path index zero = Say (Ok tt)
extends_call path index (suc count) = both (extend_call path index) (λ l. extends_call path (index + 1) count)

abbrev pub part_op : ℕ → ℕ → List ℕ → ℕ → Op
part_op size offset bytes i = ops.Write (part_start size offset i) (length (part_bytes size offset bytes i))

-- so many parts, from part `i` on
abbrev pub parts_call : ℕ → Path → ℕ → List ℕ → ℕ → ℕ → Call (Unit {0})
parts_call size path offset bytes i zero = Say (Ok tt)
parts_call size path offset bytes i (suc count) =
    both (write_part_call path (offset / size + i) (part_op size offset bytes i) (part_bytes size offset bytes i)) (λ done.
    parts_call size path offset bytes (i + 1) count)

-- the bytes of so many parts, from the first on
abbrev pub first_parts : ℕ → ℕ → List ℕ → ℕ → List ℕ
first_parts size offset bytes zero = []
first_parts size offset bytes (suc count) = first_parts size offset bytes count ++ part_bytes size offset bytes count

abbrev pub write_call : ℕ → Path → Option ℕ → ℕ → List ℕ → Call (Unit {0})
write_call size path opened offset bytes =
    both (known_call path opened) (λ chunks.
    if is_out size offset bytes then Say (Err refusals.Range)
    else both (extends_call path chunks (chunks_to size offset bytes - chunks)) (λ _.
    parts_call size path offset bytes 0 (part_count size offset bytes)))

-- A record stands at a place of its chunk, or the chunk was filled up and the record goes on.
abbrev pub landed : ℕ → ℕ → Call ℕ → EditOutcome → Call ℕ
landed size index next (outcomes.Appended offset) = Say (placed size index offset)
landed size index next outcomes.Padded = next
landed size index next outcomes.Written = Say (Err refusals.Stray)

-- a record goes to this chunk, or to one of so many that are added behind it
abbrev pub append_from : ℕ → Path → List ℕ → ℕ → ℕ → Call ℕ
append_from size path bytes index zero = both (part_call path index (ops.Append (length bytes)) bytes) (landed size index (Say (Err refusals.Range)))
append_from size path bytes index (suc more) =
    both (part_call path index (ops.Append (length bytes)) bytes)
    (landed size index (both (extend_call path (index + 1)) (λ l. append_from size path bytes (index + 1) more)))

-- A record goes to the last chunk; a file without one gets its first. The answer is where in the file it stands.
abbrev pub append_call : ℕ → Path → Option ℕ → List ℕ → Call ℕ
append_call size path opened bytes =
    both (known_call path opened) (λ chunks.
    if length bytes == 0 then Say (Err refusals.Range)
    else both (extends_call path 0 (1 - chunks)) (λ _. append_from size path bytes (chunks - 1) (most_chunks - 1 - (chunks - 1))))
