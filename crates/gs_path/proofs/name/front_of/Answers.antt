use Rattle.std.proofs.Common.{arith, rules}
use Rattle.gs_path.specs.Front.{front_of}
use Rattle.gs_path.proofs.name.front_of.Goals as goal

pub returns : goal.returns
unfolding front_of
returns c = record { is = search rules; bytes = λ i. omega (arith, c.type_inv.bytes i) }
