use Rattle.gs_laws_chunks.proofs.lemmas.desks.Desks.{desk_for_memory, desk_hears, desk_keeps, desk_lasts, desk_waits}
use Rattle.gs_laws_chunks.proofs.lemmas.desks.Lines.{line_reaches, script_reaches, start_reaches}
use Rattle.gs_laws_chunks.proofs.desks.each_script_asks_within_its_types.Goals as goal

pub returns-clause-begins : goal.returns-clause-begins
returns-clause-begins g c seen failures config disks desk starts = start_reaches seen failures config disks desk starts

pub returns-clause-line : goal.returns-clause-line
returns-clause-line g c seen failures config disks old new line text answers reached = line_reaches seen failures config disks old new line text answers reached

pub returns-clause-script : goal.returns-clause-script
returns-clause-script g c seen failures config disks input old new s = script_reaches seen failures config disks input old new s

pub returns-clause-kept : goal.returns-clause-kept
returns-clause-kept g c seen failures config disks desk r = desk_keeps seen failures config disks desk r

pub returns-clause-waiting : goal.returns-clause-waiting
returns-clause-waiting g c seen failures config disks desk r = desk_waits seen failures config disks desk r

pub returns-clause-heard : goal.returns-clause-heard
returns-clause-heard g c seen failures config disks desk r quiet = desk_hears seen failures config disks desk r quiet

pub returns-clause-steady : goal.returns-clause-steady
returns-clause-steady g c seen failures config disks desk r none quiet = desk_lasts seen failures config disks desk r none quiet

pub returns-clause-refused : goal.returns-clause-refused
returns-clause-refused g c seen failures config disks desk r none runs = desk_for_memory seen failures config disks desk r none runs
