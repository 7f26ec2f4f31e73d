use Rattle.std.proofs.Common.{refl}
use Rattle.gs_place.proofs.Most.{needed_more}
use Rattle.gs_place.proofs.need.Needed.offer.Goals as goal

pub returns : goal.returns
returns c = λ replicas needs h. needed_more replicas needs c.args.need c.args.self.now _ refl c.needier-self.ensures h
