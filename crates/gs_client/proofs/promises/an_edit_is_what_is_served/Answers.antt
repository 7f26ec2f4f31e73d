use Rattle.gs_client_dialogue.proofs.Runs.{follows_run}
use Rattle.gs_client.specs.Edits.{Edits}
use Rattle.gs_client.specs.Serves.{served_edits}
use Rattle.gs_client.proofs.Exact.{edits_exact}
use Rattle.gs_client.proofs.promises.an_edit_is_what_is_served.Goals as goal

pub returns : goal.returns
returns g c = λ call old new result follows not_short.
    (follows_run (Edits g.L.Link.Carries) (served_edits g.L.Serve.serve) (λ s. (s.0, s.1, g.L.Serve.world s.2)) (λ s. Unit {0})
    (λ from request reply to sends good. (tt, edits_exact g.L.Link.Carries g.L.Serve.serve g.L.Serve.world g.met.L.Serve.exact from request reply to sends))
    call old result new follows tt not_short).1
