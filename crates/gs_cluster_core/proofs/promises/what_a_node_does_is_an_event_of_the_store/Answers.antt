use Rattle.gs_cluster_core.proofs.Running.{comes_happens}
use Rattle.gs_cluster_core.proofs.promises.what_a_node_does_is_an_event_of_the_store.Goals as goal

pub returns : goal.returns
returns g c = λ seen failures armed p old new h differ comes are. comes_happens seen failures armed p old new h differ comes are
