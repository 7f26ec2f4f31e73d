-- The promise of what a rollback makes live.
use Rattle.std.specs.Prelude.{cond}
use Rattle.gs_base.specs.declared.numbers.Stamp.{Stamp}
use Rattle.gs_base.specs.Stamps.{is_before}

abbrev pub later : Stamp → Stamp → Stamp
later a b = cond (is_before a b) b a
