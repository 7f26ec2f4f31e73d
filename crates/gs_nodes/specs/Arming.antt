-- Faults of the disks of the master's journal.
use Rattle.gs_journal.specs.Faults.{Failing, armed}
use Rattle.gs_journal.specs.declared.fault.Fault.{Fault}
use Rattle.gs_master.specs.Masters.{with_journal}
use Rattle.gs_nodes.specs.declared.place.MasterPlace.{MasterPlace}
use Rattle.gs_nodes.specs.declared.place.MasterPlace.TheVariants.{Standing, Closed, Away}

abbrev pub armed_first : {D : Type 0} → Fault → MasterPlace (Failing D) → MasterPlace (Failing D)
armed_first fault (Standing m) = Standing (with_journal m (record m.journal { first = armed m.journal.first fault }))
armed_first fault (Closed first second) = Closed (armed first fault) second
armed_first fault Away = Away

abbrev pub armed_second : {D : Type 0} → Fault → MasterPlace (Failing D) → MasterPlace (Failing D)
armed_second fault (Standing m) = Standing (with_journal m (record m.journal { second = armed m.journal.second fault }))
armed_second fault (Closed first second) = Closed first (armed second fault)
armed_second fault Away = Away
