use Rattle.gs_laws_image.proofs.Stored.{of_their_store}
use Rattle.gs_laws_image.proofs.promises.servers_are_of_their_store.Goals as goal

pub returns : goal.returns
returns g c = of_their_store c.configurations_have_sizes.ensures
