use Rattle.std.proofs.Common.{Option, ap, ◌∙◌}
use Rattle.std.specs.FinMap as fin
use Rattle.std.specs.Ordering.{nat_cmp}
use Rattle.gs_replica.specs.declared.op.Done.{Done}
use Rattle.gs_replica.proofs.Tables.{listed_table}
use Rattle.gs_replica.proofs.first.FirstEntries.iter.Goals as goal

pub returns : goal.returns
returns c = c.iter.ensures.rest ∙ listed_table c.self.inside.entries.entries c.iter.ensures.ordered ∙ ap (λ (m : fin.FinMap nat_cmp (Option Done)). fin.entries m) c.self.view_is
