use Rattle.gs_laws_chunks.proofs.lemmas.accounts.Agreeing.{lists_stay_on, masters_keep, servers_keep, still_keeps}
use Rattle.gs_laws_chunks.proofs.accounts.what_accounts_have_as_machines_stays.Goals as goal

pub returns-clause-servers : goal.returns-clause-servers
returns-clause-servers g c = servers_keep c.a_message_edits_a_replica_by_what_it_says.ensures.edit

pub returns-clause-masters : goal.returns-clause-masters
returns-clause-masters g c = masters_keep

pub returns-clause-still : goal.returns-clause-still
returns-clause-still g c = still_keeps _

pub returns-clause-onward : goal.returns-clause-onward
returns-clause-onward g c = lists_stay_on
