use Rattle.gs_server.proofs.Behind.{promises_rise}
use Rattle.gs_server.proofs.Reached.{epochs_rise}
use Rattle.gs_server.proofs.promises.no_promise_falls.Goals as goal

pub returns-clause-promise : goal.returns-clause-promise
returns-clause-promise c = λ handle events s. promises_rise handle events s

pub returns-clause-epoch : goal.returns-clause-epoch
returns-clause-epoch c = λ events s. epochs_rise events s
