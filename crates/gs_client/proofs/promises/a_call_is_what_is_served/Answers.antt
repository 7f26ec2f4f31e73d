use Rattle.gs_client_dialogue.proofs.Runs.{follows_run}
use Rattle.gs_client.specs.Sends.{Sends}
use Rattle.gs_client.specs.Serves.{served}
use Rattle.gs_client.proofs.Exact.{sends_exact}
use Rattle.gs_client.proofs.promises.a_call_is_what_is_served.Goals as goal

pub returns : goal.returns
returns g c = λ call old new result follows not_short.
    (follows_run (Sends g.L.Link.Carries) (served g.L.Serve.serve) (λ s. (s.0, g.L.Serve.world s.1)) (λ s. Unit {0})
    (λ from request reply to sends good. (tt, sends_exact g.L.Link.Carries g.L.Serve.serve g.L.Serve.world g.met.L.Serve.exact from request reply to sends))
    call old result new follows tt not_short).1
