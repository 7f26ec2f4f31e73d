use Rattle.gs_path.proofs.PathLemmas.{pointwise-begins}
use Rattle.gs_path.proofs.path.Path.starts_with.Goals as goal

pub returns : goal.returns
returns c = rw (c.starts_with.ensures.value, c.deref.ensures.value, c.deref-2.ensures.value, c.self.view_is, c.front.view_is) (pointwise-begins c.args.front.now c.args.self.now)
