use Rattle.gs_laws_moves.proofs.lemmas.upgrades.Since.{cuts_lead, turns_lead}
use Rattle.gs_laws_moves.proofs.upgrades.what_was_prepared_stays_until_it_is_back.Goals as goal

pub returns : goal.returns
returns c = record { turns = turns_lead; cuts = cuts_lead }
