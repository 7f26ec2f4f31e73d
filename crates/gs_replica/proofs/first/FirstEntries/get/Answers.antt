use Rattle.std.proofs.Common.{ap, sym, ◌∙◌}
use Rattle.std.specs.FinMap as fin
use Rattle.gs_replica.proofs.Tables.{get_table}
use Rattle.gs_replica.proofs.first.FirstEntries.get.Goals as goal

pub returns : goal.returns
returns c = c.copied.ensures ∙ c.get.ensures.value ∙ sym (get_table c.self.inside.entries.entries c.args.client.0) ∙ ap (λ m. fin.get m c.args.client.0) c.self.view_is
