use Rattle.gs_laws_master.proofs.lemmas.upgrades.Resting.{prepares_exactly, takes_prepares}
use Rattle.gs_laws_master.proofs.a_prepare_is_accepted_exactly_where_all_is_quiet.Goals as goal

pub returns : goal.returns
returns c = record { order = prepares_exactly; taken = takes_prepares }
