use Rattle.gs_laws_chunks.proofs.lemmas.accounts.Joining.{stores_agree_first, stores_agree_on}
use Rattle.gs_laws_chunks.proofs.accounts.accounts_of_stores_agree_with_machines.Goals as goal

pub returns-clause-first : goal.returns-clause-first
returns-clause-first g c = stores_agree_first

pub returns-clause-steps : goal.returns-clause-steps
returns-clause-steps g c = λ x bytes. stores_agree_on x bytes c.a_message_edits_a_replica_by_what_it_says.ensures.edit
