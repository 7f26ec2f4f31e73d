use Rattle.std.proofs.Common.{◌≡◌, drop}
use Rattle.gs_master_state.specs.Checkpoints.{all_told}
use Rattle.gs_master_state.proofs.restart.are_told.Given as goal

abbrev pub invariant-loop-reference : goal.invariant-loop-reference
invariant-loop-reference l = all_told l.refs (drop l.reference-index l.references) ≡ all_told l.refs l.references
