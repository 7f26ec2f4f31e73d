use Rattle.gs_server.proofs.Reached.{sound_where, held_last, held_promise, rises_spend}
use Rattle.gs_server.proofs.promises.leases_and_promises_are_in_order.Goals as goal

pub returns-clause-held : goal.returns-clause-held
returns-clause-held c = λ handle s l r held. held_last handle s l r held

pub returns-clause-promised : goal.returns-clause-promised
returns-clause-promised c = λ handle s l r held. held_promise handle s l r held

pub returns-clause-spent : goal.returns-clause-spent
returns-clause-spent c = λ handle e s r changed. rises_spend handle e s r changed

pub returns-clause-reached : goal.returns-clause-reached
returns-clause-reached c = λ handle s r. (sound_where handle s r).reaches

pub returns-clause-epoch : goal.returns-clause-epoch
returns-clause-epoch c = λ handle s r. (sound_where handle s r).within
