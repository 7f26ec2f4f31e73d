-- The state of a chunk at the master. A quiet one is seen as a view without a primary.
use Rattle.std.specs.Prelude.{◌≡◌, ℕ, ◌<◌, Bool, true, false, Some}
use Rattle.std.specs.Ordering.{nat_cmp}
use Rattle.std.specs.FinMap as fin
use Rattle.gs_base.specs.declared.refusal.Refusal.{Refusal}
use Rattle.gs_base.specs.declared.refusal.Refusal.TheVariants as refusals
use Rattle.gs_lease.specs.declared.lease.Lease.{Lease}
use Rattle.gs_lease.specs.declared.lease.Lease.TheVariants.{Quiet, Moving, Leased}

abbrev pub is_quiet : Lease → Bool
is_quiet (Quiet view) = true
is_quiet (Moving proposed) = false
is_quiet (Leased view) = false

-- every chunk is quiet
pub record IsAllQuiet (chunks : fin.FinMap nat_cmp Lease) : Type 0 where
  pub each : (handle : ℕ) (lease : Lease) → fin.get chunks handle ≡ Some lease → is_quiet lease ≡ true

-- the chunk isn't quiet, and every lower one is
pub record IsLowestNotQuiet (chunks : fin.FinMap nat_cmp Lease) (handle : ℕ) : Type 0 where
  pub lease : Lease
  pub stands : fin.get chunks handle ≡ Some lease
  pub not_quiet : is_quiet lease ≡ false
  pub lower : (other : ℕ) (lease' : Lease) → other < handle → fin.get chunks other ≡ Some lease' → is_quiet lease' ≡ true

-- the refusal names the lowest chunk that isn't quiet
abbrev pub RefusedFor : fin.FinMap nat_cmp Lease → Refusal → Type 0
RefusedFor chunks refusal = (handle : ℕ) × (refusal ≡ refusals.NotQuiet handle) × IsLowestNotQuiet chunks handle
