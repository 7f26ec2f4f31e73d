use Rattle.gs_laws_server.proofs.lemmas.servers.Waiting.{ordered_lease, counted_waits}
use Rattle.gs_laws_server.proofs.servers.outboxes_are_in_order.Goals as goal

pub returns-clause-rising : goal.returns-clause-rising
returns-clause-rising c = λ handle s l r held. (ordered_lease handle s l r held).rises

pub returns-clause-counted : goal.returns-clause-counted
returns-clause-counted c = λ handle s l live r held lives. counted_waits handle s l live r held lives

pub returns-clause-told : goal.returns-clause-told
returns-clause-told c = λ handle s l r held. (ordered_lease handle s l r held).told
