use Rattle.std.proofs.Common.{ap, sym, ◌∙◌}
use Rattle.std.specs.FinMap as fin
use Rattle.gs_refs.proofs.CountLemmas.{get_listed}
use Rattle.gs_refs.proofs.refs.Refs.count.Goals as goal

pub returns : goal.returns
returns c = c.copied.ensures ∙ c.get.ensures.value ∙ sym (get_listed c.self.inside.counts.entries c.args.handle) ∙ ap (λ m. fin.get m c.args.handle) c.self.view_is
