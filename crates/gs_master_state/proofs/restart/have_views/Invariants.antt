use Rattle.std.proofs.Common.{◌≡◌, drop}
use Rattle.std.specs.Ordering.{nat_cmp}
use Rattle.gs_base_table.specs.Slots.{live}
use Rattle.gs_master_state.specs.Checkpoints.{have_views}
use Rattle.gs_master_state.specs.inner.Recorded.{chunks_of}
use Rattle.gs_master_state.proofs.restart.have_views.Given as goal

abbrev pub invariant-loop-reference : goal.invariant-loop-reference
invariant-loop-reference l = have_views (chunks_of (live nat_cmp l.leases)) (drop l.reference-index l.references) ≡ have_views (chunks_of (live nat_cmp l.leases)) l.references
