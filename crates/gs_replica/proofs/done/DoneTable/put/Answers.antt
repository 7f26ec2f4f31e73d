use Rattle.std.proofs.Common.{ap, sym, ◌∙◌}
use Rattle.std.specs.FinMap as fin
use Rattle.gs_replica.proofs.Tables.{get_table, insert_table}
use Rattle.gs_replica.proofs.done.DoneTable.put.Goals as goal

pub returns-clause-ok : goal.returns-clause-ok
returns-clause-ok c = insert_table c.self.inside.entries.entries c.insert.new.self.entries c.args.client.0 c.args.done c.in-Ok.ensures.updates.0 ∙ ap (λ m. fin.insert m c.args.client.0 c.args.done) c.self.view_is

pub returns-in-Err-clause-absent : goal.returns-in-Err-clause-absent
returns-in-Err-clause-absent c = sym (ap (λ m. fin.get m c.args.client.0) c.self.view_is) ∙ get_table c.self.inside.entries.entries c.args.client.0 ∙ c.in-Err.ensures.absent
