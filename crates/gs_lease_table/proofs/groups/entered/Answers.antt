use Rattle.gs_lease_table.proofs.Bits.{entered_if}
use Rattle.gs_lease_table.proofs.groups.entered.Goals as goal

pub returns-then-is : goal.returns-then-is
returns-then-is c = entered_if c.args.groups c.args.group c.args.is c.if-is.true c.requires
