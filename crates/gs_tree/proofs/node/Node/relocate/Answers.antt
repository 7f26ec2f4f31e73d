use Rattle.gs_tree.specs.Find.{at}
use Rattle.gs_tree.proofs.Laws.{landed}
use Rattle.gs_tree.proofs.Moves.{put_there}
use Rattle.gs_tree.proofs.node.Node.relocate.Goals as goal

pub returns : goal.returns
returns c =
    let one = at c.args.self.now in
    let got = put_there one (at c.args.node) (at c.land.new.self) c.args.from.now c.args.to.now c.in_ok-land.field-0 c.if-not-branch.false c.in_ok-land.ensures in
    landed one (at c.args.node) (at c.land.new.self) (at c.prune.new.self) c.args.from.now c.args.to.now got.0 c.requires.stands c.requires.apart got.1 c.prune.ensures.rest
