use Rattle.gs_laws_lift.proofs.lemmas.stores.Numbered.{lists_elsewhere, newborns_numbered, none_earlier, numbered_first, numbering_goes_on}
use Rattle.gs_laws_lift.proofs.stores.each_edit_was_numbered_under_the_stamp_of_its_request.Goals as goal

pub returns-clause-newborn : goal.returns-clause-newborn
returns-clause-newborn g c seen config bytes asked = newborns_numbered seen config bytes asked

pub returns-clause-goes_on : goal.returns-clause-goes_on
returns-clause-goes_on g c seen config bytes asked = numbering_goes_on seen config bytes asked

pub returns-clause-first : goal.returns-clause-first
returns-clause-first g c = numbered_first

pub returns-clause-none_earlier : goal.returns-clause-none_earlier
returns-clause-none_earlier g c = none_earlier

pub returns-clause-elsewhere : goal.returns-clause-elsewhere
returns-clause-elsewhere g c = lists_elsewhere
