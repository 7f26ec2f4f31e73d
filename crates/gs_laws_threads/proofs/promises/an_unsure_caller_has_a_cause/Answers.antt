use Rattle.gs_laws_threads.proofs.Callers.{each_call_tells, each_edit_tells, each_line_tells}
use Rattle.gs_laws_threads.proofs.promises.an_unsure_caller_has_a_cause.Goals as goal

pub returns-clause-calls : goal.returns-clause-calls
returns-clause-calls g c = each_call_tells g.row.N.Denot g.row.R.Denot g.D.Disk.seen g.D.Disk.failures

pub returns-clause-edits : goal.returns-clause-edits
returns-clause-edits g c = each_edit_tells g.row.N.Denot g.row.R.Denot g.D.Disk.seen g.D.Disk.failures

pub returns-clause-lines : goal.returns-clause-lines
returns-clause-lines g c = each_line_tells g.row.N.Denot g.row.R.Denot g.D.Disk.seen g.D.Disk.failures
