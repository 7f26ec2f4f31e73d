use Rattle.gs_server.proofs.Reached.{starts_anew, names_live}
use Rattle.gs_server.proofs.promises.a_rollback_names_what_it_makes_live.Goals as goal

pub returns-clause-promise : goal.returns-clause-promise
returns-clause-promise c = λ handle s r live. starts_anew handle s r live

pub returns-clause-named : goal.returns-clause-named
returns-clause-named c = λ handle s r. names_live handle s r
