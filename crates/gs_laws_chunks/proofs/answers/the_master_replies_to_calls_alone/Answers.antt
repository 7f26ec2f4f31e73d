use Rattle.gs_laws_chunks.proofs.lemmas.answers.ForServers.{requests_are_for_servers}
use Rattle.gs_laws_chunks.proofs.answers.the_master_replies_to_calls_alone.Goals as goal

pub returns : goal.returns
returns g c seen failures armed = requests_are_for_servers seen failures armed
