-- The order of stamps: by epoch first.
use Rattle.std.specs.Prelude.{◌==◌, ◌||◌, ◌&&◌, Bool, nat_lt}
use Rattle.gs_base.specs.declared.numbers.Stamp.{Stamp}

abbrev pub is_before : Stamp → Stamp → Bool
is_before a b = nat_lt a.epoch b.epoch || ((a.epoch == b.epoch) && nat_lt a.version b.version)

abbrev pub is_same : Stamp → Stamp → Bool
is_same a b = (a.epoch == b.epoch) && (a.version == b.version)
