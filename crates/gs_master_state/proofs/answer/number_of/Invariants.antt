use Rattle.std.proofs.Common.{◌≡◌, ◌<◌, ◌^◌, drop}
use Rattle.std.specs.Str.Parse.{digits_value, digits_value_after}
use Rattle.gs_master_state.proofs.answer.number_of.Given as goal

abbrev pub invariant-loop-digit : goal.invariant-loop-digit
invariant-loop-digit l = record {
  read : digits_value_after 10 l.number (drop l.digit-index l.digit-items) ≡ digits_value 10 l.part;
  fits : l.number < 2 ^ 64;
}
