use Rattle.gs_cluster_history.proofs.Gathered.{is_a_run}
use Rattle.gs_cluster_history.proofs.promises.matching_histories_are_a_run.Goals as goal

pub returns : goal.returns
returns g c = λ setting ks all matches. is_a_run g.C.Core.Does (g.C.Core.Starts setting) ks all matches
