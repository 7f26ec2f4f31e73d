use Rattle.gs_laws_moves.proofs.lemmas.upgrades.Since.{turns_begin}
use Rattle.gs_laws_moves.proofs.upgrades.an_upgrade_begins_with_what_stands.Goals as goal

pub returns : goal.returns
returns c = turns_begin
