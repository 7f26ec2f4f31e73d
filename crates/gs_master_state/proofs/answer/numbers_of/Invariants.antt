use Rattle.std.proofs.Common.{◌≡◌, ◌++◌, true, drop, map}
use Rattle.std.specs.List.{list_all}
use Rattle.std.specs.Str.Parse.{digits_value}
use Rattle.gs_master_spec.specs.Replies.{numbers_in}
use Rattle.gs_master_state.specs.inner.ToldNumbers.{is_held}
use Rattle.gs_master_state.proofs.answer.numbers_of.Given as goal

abbrev pub invariant-loop-place : goal.invariant-loop-place
invariant-loop-place l = record {
  read : l.numbers.items ++ map (digits_value 10) (map (λ part. part.now) (drop l.place l.parts.items)) ≡ numbers_in l.text;
  held : list_all is_held l.numbers.items ≡ true;
}
