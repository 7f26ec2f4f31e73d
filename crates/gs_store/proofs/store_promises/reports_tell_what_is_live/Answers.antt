use Rattle.gs_store.proofs.Told.{told_is}
use Rattle.gs_store.proofs.store_promises.reports_tell_what_is_live.Goals as goal

pub returns : goal.returns
returns c = λ handle s. told_is handle s
