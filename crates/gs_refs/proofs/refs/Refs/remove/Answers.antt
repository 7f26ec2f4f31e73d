use Rattle.std.proofs.Common.{ap, ◌∙◌}
use Rattle.std.specs.FinMap as fin
use Rattle.gs_refs.proofs.CountLemmas.{remove_listed}
use Rattle.gs_refs.proofs.refs.Refs.remove.Goals as goal

pub returns : goal.returns
returns c = remove_listed c.self.inside.counts.entries c.remove.new.self.entries c.args.handle c.remove.ensures.updates.0 ∙ ap (λ m. fin.remove m c.args.handle) c.self.view_is
