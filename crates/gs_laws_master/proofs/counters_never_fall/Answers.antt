use Rattle.gs_laws_master.proofs.lemmas.keeping.Counters.{keeps_given}
use Rattle.gs_laws_master.proofs.counters_never_fall.Goals as goal

pub returns : goal.returns
returns c = keeps_given
