use Rattle.gs_laws_master.proofs.lemmas.keeping.KeptAll.{keeps_all, leads_to_kept}
use Rattle.gs_laws_master.proofs.records_keep_what_stands.Goals as goal

pub returns : goal.returns
returns c = record { each = keeps_all; all = leads_to_kept }
