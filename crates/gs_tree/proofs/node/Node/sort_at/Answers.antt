use Rattle.std.proofs.Common.{ap, sym, ◌∙◌, append-nil, []}
use Rattle.gs_tree.specs.Find.{at}
use Rattle.gs_tree.specs.inner.Sort.{sort_of}
use Rattle.gs_tree.proofs.node.Node.sort_at.Goals as goal

pub returns-in-None-clause-sort : goal.returns-in-None-clause-sort
returns-in-None-clause-sort c = sym (ap sort_of (ap (at c.args.self.now) (sym (append-nil c.args.path.now)) ∙ c.in-None.ensures.part []))

pub returns-in-Some-clause-free : goal.returns-in-Some-clause-free
returns-in-Some-clause-free c = λ e. absurd (c.sort.ensures.stands e)
