use Rattle.gs_cluster_history.specs.Merging.{places_of}
use Rattle.gs_cluster_core.proofs.Starting.{is_store_run}
use Rattle.gs_cluster_core.proofs.promises.matching_histories_are_a_run_of_the_store.Goals as goal

pub returns : goal.returns
returns g c = λ armed setting ks all matches differ i k found master.
    let run = c.matching_histories_are_a_run.ensures setting ks all matches in
    is_store_run g.D.Disk.seen g.D.Disk.failures armed setting ks (places_of ks) run.0 run.1 run.2 differ i k found master
