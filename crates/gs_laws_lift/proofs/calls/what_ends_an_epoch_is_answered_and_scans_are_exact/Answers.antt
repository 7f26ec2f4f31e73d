use Rattle.gs_laws_lift.proofs.lemmas.calls.Ended.{ends_are_answered, scans_are_exact}
use Rattle.gs_laws_lift.proofs.calls.what_ends_an_epoch_is_answered_and_scans_are_exact.Goals as goal

pub returns : goal.returns
returns c = record { ends = ends_are_answered; scans = scans_are_exact }
