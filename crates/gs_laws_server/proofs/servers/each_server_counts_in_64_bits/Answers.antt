use Rattle.gs_laws_server.proofs.lemmas.servers.CountedServers.{heard_counts, lost_counts, new_counts, restart_counts, run_counts, struck_counts, tick_counts}
use Rattle.gs_laws_server.proofs.servers.each_server_counts_in_64_bits.Goals as goal

pub returns-clause-heard : goal.returns-clause-heard
returns-clause-heard c = λ s message moment counted said. heard_counts s message moment counted said

pub returns-clause-ticked : goal.returns-clause-ticked
returns-clause-ticked c = λ s moment counted. tick_counts s moment counted

pub returns-clause-beats : goal.returns-clause-beats
returns-clause-beats c = λ s. tt

pub returns-clause-restarted : goal.returns-clause-restarted
returns-clause-restarted c = λ s counted. restart_counts s counted

pub returns-clause-lost : goal.returns-clause-lost
returns-clause-lost c = λ handle s counted. lost_counts handle s counted

pub returns-clause-damaged : goal.returns-clause-damaged
returns-clause-damaged c = λ handle block s counted. struck_counts handle block s counted

pub returns-clause-run : goal.returns-clause-run
returns-clause-run c = λ events s said counted. run_counts events s said counted

pub returns-clause-new : goal.returns-clause-new
returns-clause-new c = λ me block chunk. new_counts me block chunk

pub returns-clause-told : goal.returns-clause-told
returns-clause-told c = λ handle stamp count carried said. said
