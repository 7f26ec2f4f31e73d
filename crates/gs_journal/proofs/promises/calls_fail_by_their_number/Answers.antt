use Rattle.gs_journal.proofs.Faults.{never, one, stops, tears}
use Rattle.gs_journal.proofs.promises.calls_fail_by_their_number.Goals as goal

pub returns-clause-never : goal.returns-clause-never
returns-clause-never c = never

pub returns-clause-one : goal.returns-clause-one
returns-clause-one c = one

pub returns-clause-stops : goal.returns-clause-stops
returns-clause-stops c = stops

pub returns-clause-tears : goal.returns-clause-tears
returns-clause-tears c = tears
