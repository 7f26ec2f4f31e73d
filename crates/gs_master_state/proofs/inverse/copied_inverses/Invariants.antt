use Rattle.std.proofs.Common.{◌≡◌, map, take}
use Rattle.gs_master_record.specs.Plain.{plain_inverse}
use Rattle.gs_master_state.proofs.inverse.copied_inverses.Given as goal

abbrev pub invariant-loop-inverse : goal.invariant-loop-inverse
invariant-loop-inverse l = map plain_inverse l.copies.items ≡ map plain_inverse (take l.inverse-index l.inverses)
