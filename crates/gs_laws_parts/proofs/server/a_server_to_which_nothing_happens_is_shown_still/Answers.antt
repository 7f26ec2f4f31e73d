use Rattle.gs_laws_parts.proofs.lemmas.server.Beside.{shown_still, shown_beside, shown_marked, whole_live, tells_still}
use Rattle.gs_laws_parts.proofs.server.a_server_to_which_nothing_happens_is_shown_still.Goals as goal

pub returns-clause-event : goal.returns-clause-event
returns-clause-event c = λ setting chunk w e s reached can apart may shows. shown_still w e reached can setting chunk s apart may shows

pub returns-clause-beside : goal.returns-clause-beside
returns-clause-beside c = λ setting chunk w last s reached leads same anew shows. shown_beside w last reached leads setting chunk s same anew shows

pub returns-clause-marked : goal.returns-clause-marked
returns-clause-marked c = λ setting chunk w last s whole reached leads same marks may shows. shown_marked w last reached leads setting chunk s whole same marks may shows

pub returns-clause-live : goal.returns-clause-live
returns-clause-live c = λ setting chunk w s shows whole. whole_live setting chunk w s shows whole

pub returns-clause-told : goal.returns-clause-told
returns-clause-told c = λ setting chunk w last m stays told. tells_still setting chunk w last stays m told
