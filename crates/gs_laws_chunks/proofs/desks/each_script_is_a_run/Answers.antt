use Rattle.gs_laws_chunks.proofs.lemmas.desks.Lines.{line_steps, reached, script_reaches, start_reaches}
use Rattle.gs_laws_chunks.proofs.desks.each_script_is_a_run.Goals as goal

pub returns-clause-begins : goal.returns-clause-begins
returns-clause-begins g c seen failures config disks desk starts = reached seen failures config disks desk (start_reaches seen failures config disks desk starts)

pub returns-clause-line : goal.returns-clause-line
returns-clause-line g c seen failures old new line text sent answers covers = line_steps seen failures old new line text sent answers covers

pub returns-clause-script : goal.returns-clause-script
returns-clause-script g c seen failures config disks input old new s = reached seen failures config disks s.ended (script_reaches seen failures config disks input old new s)
