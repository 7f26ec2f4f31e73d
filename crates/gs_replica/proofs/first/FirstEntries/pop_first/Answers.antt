use Rattle.std.proofs.Common.{ap, sym, subst, ◌∙◌}
use Rattle.std.specs.Prelude.{◌<◌}
use Rattle.std.specs.FinMap as fin
use Rattle.gs_replica.proofs.Tables.{get_table, remove_table}
use Rattle.gs_replica.proofs.Firsts.{fewer}
use Rattle.gs_replica.proofs.first.FirstEntries.pop_first.Goals as goal

pub returns-clause-entry : goal.returns-clause-entry
returns-clause-entry c = sym (ap (λ m. fin.get m c.in_ok-client.client) c.self.view_is) ∙ get_table c.self.inside.entries.entries c.in_ok-client.client ∙ c.in_ok-client.ensures.value

pub returns-clause-left : goal.returns-clause-left
returns-clause-left c = remove_table c.self.inside.entries.entries c.pop_first.new.self.entries c.in_ok-client.client c.in_ok-client.ensures.updates.0 ∙ ap (λ m. fin.remove m c.in_ok-client.client) c.self.view_is

pub returns-clause-less : goal.returns-clause-less
returns-clause-less c = subst (λ m. fin.len m < fin.len c.args.self.now) (sym (returns-clause-left c)) (fewer c.args.self.now c.in_ok-client.client c.in_ok-client.before (returns-clause-entry c))
