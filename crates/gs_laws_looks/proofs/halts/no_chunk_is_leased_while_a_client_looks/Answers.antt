use Rattle.gs_laws_looks.proofs.lemmas.halts.Unled.{stays_halted, stays_unled}
use Rattle.gs_laws_looks.proofs.halts.no_chunk_is_leased_while_a_client_looks.Goals as goal

pub returns-clause-quiet : goal.returns-clause-quiet
returns-clause-quiet g c = stays_unled

pub returns-clause-halted : goal.returns-clause-halted
returns-clause-halted g c = stays_halted
