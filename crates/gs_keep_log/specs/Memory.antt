-- A log in memory.
use Rattle.std.specs.Prelude.{Option, Some}
use Rattle.gs_keep_log.specs.Log.{Held}
use Rattle.gs_keep_log.specs.declared.memory.MemoryLog.{MemoryLog}

abbrev pub held : MemoryLog → Held
held log = record { durable = log.durable.items; pending = log.pending.items }

abbrev pub holds : MemoryLog → Option Held
holds log = Some (held log)
