use Rattle.std.proofs.Common.{ap, ◌∙◌}
use Rattle.std.specs.FinMap as fin
use Rattle.gs_replica.proofs.Tables.{insert_table}
use Rattle.gs_replica.proofs.first.FirstEntries.put.Goals as goal

pub returns-clause-ok : goal.returns-clause-ok
returns-clause-ok c = insert_table c.self.inside.entries.entries c.insert.new.self.entries c.args.client.0 c.args.before c.in-Ok.ensures.updates.0 ∙ ap (λ m. fin.insert m c.args.client.0 c.args.before) c.self.view_is
