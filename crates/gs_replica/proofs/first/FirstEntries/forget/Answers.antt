use Rattle.std.proofs.Common.{ap, ◌∙◌}
use Rattle.std.specs.FinMap as fin
use Rattle.gs_replica.proofs.Tables.{remove_table}
use Rattle.gs_replica.proofs.first.FirstEntries.forget.Goals as goal

pub returns : goal.returns
returns c = remove_table c.self.inside.entries.entries c.remove.new.self.entries c.args.client.0 c.remove.ensures.updates.0 ∙ ap (λ m. fin.remove m c.args.client.0) c.self.view_is
