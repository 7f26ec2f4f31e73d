-- Edits as messages tell them and as replicas apply them.
use Rattle.std.specs.Prelude.{◌≡◌, ℕ, refl}
use Rattle.gs_msg.specs.declared.op.Op.{Op}
use Rattle.gs_msg.specs.declared.op.Op.TheVariants.{Write, Append, Pad}
use Rattle.gs_replica.specs.declared.op.Op.{Op as Applied}
use Rattle.gs_replica.specs.declared.op.Op.TheVariants as applied

abbrev pub in_replica : Op → Applied
in_replica (Write offset length) = applied.Write offset
in_replica (Append length) = applied.Append
in_replica Pad = applied.Pad

-- a pad has no bytes of its own
abbrev pub length_of : Op → ℕ
length_of (Write offset length) = length
length_of (Append length) = length
length_of Pad = 0

a_write_of_two_bytes : in_replica (Write 7 2) ≡ applied.Write 7
a_write_of_two_bytes = refl

its_length : length_of (Write 7 2) ≡ 2
its_length = refl
