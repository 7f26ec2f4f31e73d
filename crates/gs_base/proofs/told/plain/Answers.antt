use Rattle.std.proofs.Common.{arith}
use Rattle.gs_base.proofs.Tells.{none_plain}
use Rattle.gs_base.proofs.told.plain.Goals as goal

pub returns-in_default : goal.returns-in_default
returns-in_default c = none_plain c.args.number (λ plain. omega arith) c.requires
