-- A journal may go into another thread with its disks.
use denote.RattleType.{RattleType}
use denote.Struct.Declared.{Declared, fields, row, shape}
use denote.Struct.Struct.{Struct}
use denote.Param.Send.{AllSend, IsSend, recorded_send, sendable, struct_send, view_send}
use Rattle.std.proofs.Crossing.{crosses}
use Rattle.gs_journal.specs.contracts.fault.Fault
use Rattle.gs_journal.specs.contracts.history.History
use Rattle.gs_journal.specs.contracts.memory.MemoryDisk
use Rattle.gs_journal.specs.contracts.failing.FailingDisk
use Rattle.gs_journal.specs.contracts.failing.FailingDisk.TheInside as Inside
use Rattle.gs_journal.specs.contracts.journal.Journal
use Rattle.gs_journal_disk.specs.declared.disk.Disk as disks
use Rattle.gs_journal.specs.contracts.pair.Pair
use Rattle.gs_journal.specs.contracts.record.Record
use Rattle.gs_journal.specs.contracts.version.Version
use Rattle.gs_journal.proofs.history.History.TheLaws.TheKnot as knot

-- a struct whose fields may, behind a view of it
pub struct_row : (T : Declared) → AllSend (fields T) → IsSend (row T)
struct_row T all = recorded_send (Struct (shape T)) T.D T.to T.to_one (struct_send (shape T) all)

pub history : IsSend (History.the_field).row
history = search (sendable, crosses, knot.crosses) depth 60 fits 100000

pub fault : IsSend (Fault.the_field).row
fault = search (sendable, crosses) depth 60 fits 100000

pub version : IsSend (Version.the_field).row
version = search (sendable, crosses) depth 60 fits 100000

pub record_of : IsSend (Record.the_field).row
record_of = search (sendable, crosses) depth 60 fits 100000

pub memory_disk : IsSend (MemoryDisk.the_field).row
memory_disk = search (sendable, crosses, history) depth 60 fits 100000

module _ (D : RattleType) (s : IsSend D) where
  pub pair : IsSend (Pair.the_field D).row
  pair = search (sendable, crosses, version, s) depth 60 fits 100000

  module _ (g : disks.Ghosts D.Denot) where
    pub journal : IsSend (Journal.the_field D g).row
    journal = search (sendable, crosses, pair) depth 60 fits 100000

    inside : IsSend (Inside.the_row D g)
    inside = struct_row (Inside.the_type D g) (s, (fault, (history, tt)))

    pub failing_disk : IsSend (FailingDisk.the_field D g).row
    failing_disk = view_send (Inside.the_row D g) _ _ _ _ inside
