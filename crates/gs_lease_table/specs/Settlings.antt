-- Which leases a table holds: each tells a view that was settled.
use Rattle.std.specs.Prelude.{◌≡◌, ℕ, Bool, true, false, [], ◌∷◌, Option, Some, None, is_some, refl}
use Rattle.std.specs.Ordering.{nat_cmp}
use Rattle.std.specs.FinMap as fin
use Rattle.gs_lease.specs.Transitions.{begun_new}
use Rattle.gs_lease.specs.declared.lease.Lease.{Lease}
use Rattle.gs_lease.specs.declared.lease.Lease.TheVariants.{Quiet, Moving, Leased}

-- a view of the chunk was settled, and of one that is leased it has its term
abbrev pub tells_settled : Lease → Bool
tells_settled (Quiet view) = true
tells_settled (Moving proposed) = is_some proposed.settled
tells_settled (Leased view) = is_some view.term

-- so does the lease, if there is one
abbrev pub MayTellSettled : Option Lease → Type 0
MayTellSettled None = Unit {0}
MayTellSettled (Some lease) = tells_settled lease ≡ true

pub record EachTellsSettled (leases : fin.FinMap nat_cmp Lease) : Type 0 where
  pub each : (chunk : ℕ) (lease : Lease) → fin.get leases chunk ≡ Some lease → tells_settled lease ≡ true

-- ---- examples

a_quiet_one : tells_settled (Quiet (record { stamp = record { epoch = 0; version = 1 }; count = 4; members = 0 ∷ [] })) ≡ true
a_quiet_one = refl

a_new_chunk_is_asked_for : tells_settled (Moving (begun_new (record { epoch = 0; version = 4 }) (0 ∷ []))) ≡ false
a_new_chunk_is_asked_for = refl
