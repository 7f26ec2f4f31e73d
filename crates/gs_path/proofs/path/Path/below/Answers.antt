use Rattle.gs_path.proofs.PathLemmas.{is_below}
use Rattle.gs_path.proofs.path.Path.below.Goals as goal

pub returns : goal.returns
returns c =
    is_below c.args.front.now c.args.self.now c.elements-2.result.now c.elements.result.now c.elements-2.ensures c.elements.ensures c.strip_prefix.result c.strip_prefix.ensures.cases
