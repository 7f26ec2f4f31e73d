use Rattle.gs_laws_parts.proofs.lemmas.master.Settled.{settled_stay}
use Rattle.gs_laws_parts.proofs.master.what_is_settled_stays_within_a_turn.Goals as goal

pub returns : goal.returns
returns c = settled_stay
