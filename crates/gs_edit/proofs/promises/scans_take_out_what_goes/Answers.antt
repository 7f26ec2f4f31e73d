use Rattle.gs_edit.proofs.Sweeping.{swept, in_turn, forgotten_are, not_refused, nothing_again, nothing_over}
use Rattle.gs_edit.proofs.promises.scans_take_out_what_goes.Goals as goal

pub returns-clause-accepted : goal.returns-clause-accepted
returns-clause-accepted c moment names scan counted found = swept moment names scan counted found

pub returns-clause-turn : goal.returns-clause-turn
returns-clause-turn c moment names mid new scan front next rest result counted found is made applied = in_turn moment names mid new scan front next rest result counted found is made applied

pub returns-clause-forgotten : goal.returns-clause-forgotten
returns-clause-forgotten c moment names scan counted found chunk = forgotten_are moment names scan counted found chunk

pub returns-clause-refused : goal.returns-clause-refused
returns-clause-refused c moment names e counted refused = not_refused moment names e counted refused

pub returns-clause-again : goal.returns-clause-again
returns-clause-again c moment old new scan is found = nothing_again moment old new scan is found

pub returns-clause-over : goal.returns-clause-over
returns-clause-over c moment old path closed some = nothing_over moment old path closed some
