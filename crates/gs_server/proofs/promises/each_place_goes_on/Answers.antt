use Rattle.gs_server.proofs.Lifts.{ticked_is, restarted_is, next_is}
use Rattle.gs_server.proofs.promises.each_place_goes_on.Goals as goal

pub returns-clause-tick : goal.returns-clause-tick
returns-clause-tick c = λ handle s moment. ticked_is handle s moment

pub returns-clause-restart : goal.returns-clause-restart
returns-clause-restart c = λ handle s. restarted_is handle s

pub returns-clause-learn : goal.returns-clause-learn
returns-clause-learn c = λ handle epoch end s next. next_is handle epoch end s next
