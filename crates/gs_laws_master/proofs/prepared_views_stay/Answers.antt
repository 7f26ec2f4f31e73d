use Rattle.gs_laws_master.proofs.lemmas.keeping.Kept.{keeps_prepared}
use Rattle.gs_laws_master.proofs.prepared_views_stay.Goals as goal

pub returns : goal.returns
returns c = keeps_prepared
