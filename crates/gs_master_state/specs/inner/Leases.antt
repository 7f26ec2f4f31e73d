-- How a chunk stands in the master's table of leases, from which its type tells what may be done with it.
use Rattle.std.specs.Prelude.{◌≡◌, ℕ, Bool, true, false, [], ◌∷◌, Option, Some, None, refl}
use Rattle.std.specs.Ordering.{nat_cmp}
use Rattle.std.specs.FinMap as fin
use Rattle.gs_base.specs.declared.numbers.Stamp.{Stamp}
use Rattle.gs_lease.specs.Transitions.{restored, lease_of, settled_on}
use Rattle.gs_lease.specs.declared.lease.Lease.{Lease}
use Rattle.gs_lease.specs.declared.lease.Lease.TheVariants as leases
use Rattle.gs_lease.specs.declared.view.View.{View}
use Rattle.gs_master_spec.specs.Chunks.{Chunk, chunk_at, proposed_in}
use Rattle.gs_master_spec.specs.Durable.{Settled}
use Rattle.gs_master_spec.specs.State.{State}
use Rattle.gs_master_spec.specs.declared.asking.Asking.{Asking}

-- A chunk for which a view was proposed before a restart moves under some stamp, with nobody asked; any other that is settled
-- stands as its view says.
abbrev pub IsRestored : Settled → Lease → Type 0
IsRestored settled lease = by_flag settled.is_moving
  where
    by_flag : Bool → Type 0
    by_flag true = (stamp : Stamp) × (lease ≡ restored settled.view (Some stamp))
    by_flag false = lease ≡ restored settled.view None

-- what is asked for it says how it moves
abbrev pub IsLease : Chunk → Option Asking → Option Settled → Lease → Type 0
IsLease c (Some asking) settled lease = lease ≡ leases.Moving (proposed_in c asking)
IsLease c None (Some settled) lease = IsRestored settled lease
IsLease c None None lease = ⊥

abbrev pub IsLeaseOf : Option Chunk → Option Lease → Type 0
IsLeaseOf None lease = lease ≡ None
IsLeaseOf (Some c) None = ⊥
IsLeaseOf (Some c) (Some lease) = IsLease c c.asking c.settled lease

-- the table has each chunk that the master knows, and no other
pub record AreLeases (s : State) (table : fin.FinMap nat_cmp Lease) : Type 0 where
  pub each : (chunk : ℕ) → IsLeaseOf (chunk_at s chunk) (fin.get table chunk)

abbrev a_view : View
a_view = record { stamp = record { epoch = 0; version = 5 }; count = 2; members = 0 ∷ 1 ∷ []; term = None }

abbrev at_rest : Settled
at_rest = record { view = a_view; is_moving = false }

quiet_at_rest : IsLeaseOf (Some (record { settled = Some at_rest; asking = None })) (Some (lease_of (settled_on a_view)))
quiet_at_rest = refl

nothing_of_what_is_not_known : IsLeaseOf None None
nothing_of_what_is_not_known = refl
