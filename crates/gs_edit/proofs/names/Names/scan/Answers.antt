use Rattle.std.proofs.Common.{subst}
use Rattle.std.specs.FinMap.{entries}
use Rattle.gs_edit.specs.View.{NamesView}
use Rattle.gs_edit.specs.Scan.{Scans}
use Rattle.gs_edit.proofs.names.Names.scan.Goals as goal

pub returns : goal.returns
returns c = subst (λ (v : NamesView). Scans c.args.moment.0 (entries v.tree) v.refs c.what_goes.result) c.self.view_is c.what_goes.ensures
