use Rattle.gs_laws_chunk.proofs.lemmas.machine.Viewed.{lists_of_views}
use Rattle.gs_laws_chunk.proofs.machine.lists_are_of_views.Goals as goal

pub returns : goal.returns
returns c = lists_of_views
