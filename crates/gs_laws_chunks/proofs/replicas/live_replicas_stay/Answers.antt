use Rattle.gs_laws_chunks.proofs.lemmas.replicas.Kept.{replicas_stay}
use Rattle.gs_laws_chunks.proofs.replicas.live_replicas_stay.Goals as goal

pub returns : goal.returns
returns g c x = replicas_stay c.an_event_calls_what_it_says.ensures x
