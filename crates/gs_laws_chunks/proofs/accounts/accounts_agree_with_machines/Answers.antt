use Rattle.gs_laws_chunks.proofs.lemmas.accounts.Agreeing.{masters_agree, servers_agree, still_agrees}
use Rattle.gs_laws_chunks.proofs.lemmas.accounts.Births.{births_agree}
use Rattle.gs_laws_chunks.proofs.lemmas.accounts.Still.{blank_stays}
use Rattle.gs_laws_chunks.proofs.accounts.accounts_agree_with_machines.Goals as goal

pub returns-clause-servers : goal.returns-clause-servers
returns-clause-servers g c = servers_agree c.a_message_edits_a_replica_by_what_it_says.ensures.edit

pub returns-clause-masters : goal.returns-clause-masters
returns-clause-masters g c = masters_agree

pub returns-clause-still : goal.returns-clause-still
returns-clause-still g c = still_agrees _

pub returns-clause-births : goal.returns-clause-births
returns-clause-births g c = births_agree _

pub returns-clause-blank : goal.returns-clause-blank
returns-clause-blank g c = blank_stays _
