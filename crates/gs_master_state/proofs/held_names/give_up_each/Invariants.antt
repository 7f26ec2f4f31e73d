use Rattle.std.proofs.Common.{◌≡◌, take}
use Rattle.gs_master_state.specs.inner.Held.{without_kept}
use Rattle.gs_master_state.proofs.held_names.give_up_each.Given as goal

abbrev pub invariant-loop-place : goal.invariant-loop-place
invariant-loop-place l = l.names ≡ without_kept (take l.place-index l.places) l.fn.names
