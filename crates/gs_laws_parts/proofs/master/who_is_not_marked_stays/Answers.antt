use Rattle.gs_laws_parts.proofs.lemmas.master.Marking.{masters_spare}
use Rattle.gs_laws_parts.proofs.master.who_is_not_marked_stays.Goals as goal

pub returns : goal.returns
returns c = masters_spare
