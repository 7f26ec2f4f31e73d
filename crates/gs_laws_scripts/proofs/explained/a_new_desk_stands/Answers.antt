use Rattle.gs_laws_scripts.proofs.lemmas.explained.NewStores.{new_desks_stand}
use Rattle.gs_laws_scripts.proofs.explained.a_new_desk_stands.Goals as goal

pub returns : goal.returns
returns g c = new_desks_stand c.configurations_have_sizes.ensures
