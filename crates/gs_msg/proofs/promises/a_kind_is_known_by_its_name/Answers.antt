use Rattle.gs_msg.proofs.KindNames.{own_name, its_name}
use Rattle.gs_msg.proofs.promises.a_kind_is_known_by_its_name.Goals as goal

pub returns : goal.returns
returns c = record { own = own_name; alone = its_name }
