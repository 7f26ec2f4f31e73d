use Rattle.std.proofs.Common.{refl}
use Rattle.gs_base_table.specs.Slots.{live}
use Rattle.gs_base_table.proofs.table.Table.new.Goals as goal

pub returns : goal.returns
unfolding live
returns g c = rw c.new.ensures.empty refl
