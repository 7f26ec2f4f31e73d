use Rattle.gs_tree.specs.Find.{at}
use Rattle.gs_tree.proofs.Places.{place_out}
use Rattle.gs_tree.proofs.moving.give_up_place.Goals as goal

pub returns : goal.returns
returns c =
    place_out (at c.args.root.now) (at c.prune.new.self) c.args.path.now c.elements.result.now c.elements.ensures (λ z. let t = c.is_root.ensures.1 z in cc) c.prune.ensures.rest
