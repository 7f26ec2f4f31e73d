-- What is asked for what a function is given: an edit of a chunk, a write, a record, a file or a range of it.
use Rattle.std.specs.Prelude.{◌-◌, ◌/◌, ◌%◌, ℕ, List, [], Option}
use Rattle.gs_base.specs.declared.numbers.Stamp.{Stamp}
use Rattle.gs_base.specs.declared.refusal.Refusal.{Refusal}
use Rattle.gs_path.specs.Path.{Path}
use Rattle.gs_replica.specs.declared.op.EditOutcome.{EditOutcome}
use Rattle.gs_client_part.specs.declared.located.Located.{Located}
use Rattle.gs_client_part.specs.declared.writing.Write.{Write}
use Rattle.gs_client_part.specs.Reading.{span}
use Rattle.gs_client.specs.declared.reading.Opened.{Opened}
use Rattle.gs_client.specs.declared.reading.Range.{Range}
use Rattle.gs_client.specs.declared.record.Record.{Record}
use Rattle.gs_client.specs.declared.writing.Edit.{Edit}
use Rattle.gs_client.specs.Trees.{Call}
use Rattle.gs_client.specs.Reading.{end_call, pieces_call, read_call}
use Rattle.gs_client.specs.Writing.{again_call, append_call, append_from, part_call, parts_call, write_call, write_part_call}

-- ---- an edit of a chunk
-- once more, behind this refusal
abbrev pub again_of : Edit → Stamp → Refusal → Call EditOutcome
again_of edit stamp refusal = again_call edit.path.now edit.index stamp edit.op edit.bytes.now refusal

abbrev pub part_of : Edit → Call EditOutcome
part_of edit = part_call edit.path.now edit.index edit.op edit.bytes.now

abbrev pub write_part_of : Edit → Call (Unit {0})
write_part_of edit = write_part_call edit.path.now edit.index edit.op edit.bytes.now

-- ---- a write
-- so many of its parts, from the first on
abbrev pub parts_of : Write → ℕ → Call (Unit {0})
parts_of write count = parts_call write.size write.path.now write.offset write.bytes.now 0 count

-- to a file that was opened with so many chunks
abbrev pub write_of : Write → Option ℕ → Call (Unit {0})
write_of write opened = write_call write.size write.path.now opened write.offset write.bytes.now

-- ---- a record
-- to this chunk, or to one behind it, up to the last that a file may have
abbrev pub append_behind : Record → ℕ → Call ℕ
append_behind appended first = append_from appended.size appended.path.now appended.bytes.now first (4095 - first)

-- to a file that was opened with so many chunks
abbrev pub append_of : Record → Option ℕ → Call ℕ
append_of appended opened = append_call appended.size appended.path.now opened appended.bytes.now

-- ---- a range of a file
-- where it ends, in a file of so many chunks
abbrev pub end_of : ℕ → Path → Option Located → ℕ → Range → Call (ℕ × Option Located)
end_of size path known chunks range = end_call size path known chunks range.offset range.many

-- the bytes between two places of it
abbrev pub pieces_of : ℕ → Path → Option Located → ℕ → ℕ → ℕ → Call (List ℕ × Option Located)
pieces_of size path known chunks offset end = pieces_call size path chunks end known (offset / size) (offset % size) (span size offset end) []

-- its bytes, where chunks have this size
abbrev pub range_of : ℕ → Opened → Range → Call (List ℕ × Option Located)
range_of size file range = read_call size file.path.now file.opened file.known range.offset range.many
