use Rattle.gs_server.proofs.Telling.{edits_tell, numbered_tells, acks_are, no_acks}
use Rattle.gs_server.proofs.promises.edits_are_done_where_all_have_them.Goals as goal

pub returns-clause-at_once : goal.returns-clause-at_once
returns-clause-at_once c = λ h p req stamp op live l lives is. edits_tell h p req stamp op live l lives is

pub returns-clause-numbered : goal.returns-clause-numbered
returns-clause-numbered c = λ h p req stamp op live s lives is. numbered_tells h p req stamp op live s lives is

pub returns-clause-later : goal.returns-clause-later
returns-clause-later c = λ h p server stamp count l held. acks_are h p server stamp count l held

pub returns-clause-unleased : goal.returns-clause-unleased
returns-clause-unleased c = λ h p server stamp count none. no_acks h p server stamp count none
