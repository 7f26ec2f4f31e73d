use Rattle.gs_laws_parts.proofs.lemmas.server.Stores.{store_shown, store_stepped, store_led, store_told, store_born}
use Rattle.gs_laws_parts.proofs.server.stores_go_on.Goals as goal

pub returns-clause-shown : goal.returns-clause-shown
returns-clause-shown c = λ among setting chunk w servers sent id s store there tells keeps. store_shown among setting chunk w servers sent store id s there tells keeps

pub returns-clause-steps : goal.returns-clause-steps
returns-clause-steps c = λ among setting chunk w servers sent cause id s after about new store there steps begun keeps. store_stepped among setting chunk w servers sent store cause id s after about new there steps begun keeps

pub returns-clause-led : goal.returns-clause-led
returns-clause-led c = λ among setting chunk w last servers sent whole new store leads leaves old tells. store_led among setting chunk w servers sent store last whole new leads leaves old tells

pub returns-clause-told : goal.returns-clause-told
returns-clause-told c = λ among setting chunk w servers sent new store tells. store_told among setting chunk w servers sent store new tells

pub returns-clause-born : goal.returns-clause-born
returns-clause-born c = λ among setting chunk b servers sent at unborn nothing lists. store_born among setting chunk b servers sent at unborn nothing lists
