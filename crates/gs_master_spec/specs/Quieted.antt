-- Whose table of leases an `AllQuiet` is of, and what is told where there is none.
use Rattle.std.specs.Prelude.{◌≡◌, ◌<◌, ℕ, Bool, true, false, [], ◌∷◌, Option, Some, None, is_some, Result, Ok, Err, refl}
use Rattle.std.specs.Ordering.{nat_cmp}
use Rattle.std.specs.FinMap as fin
use Rattle.gs_base.specs.declared.refusal.Refusal.{Refusal}
use Rattle.gs_base.specs.declared.refusal.Refusal.TheVariants as refusals
use Rattle.gs_lease.specs.Told.{told_of}
use Rattle.gs_lease.specs.Transitions.{begun}
use Rattle.gs_lease.specs.declared.lease.Lease.{Lease}
use Rattle.gs_lease.specs.declared.lease.Lease.TheVariants as leases
use Rattle.gs_lease.specs.declared.view.Purpose.TheVariants as purposes
use Rattle.gs_lease.specs.declared.view.View.{View}
use Rattle.gs_master_spec.specs.Applied.{is_at_rest}
use Rattle.gs_master_spec.specs.Durable.{Settled}
use Rattle.gs_master_spec.specs.State.{State}

-- a lease tells the view of a chunk that was settled last, and whether another was proposed since
abbrev pub TellsChunk : Option Lease → Option Settled → Type 0
TellsChunk None None = Unit {0}
TellsChunk None (Some settled) = ⊥
TellsChunk (Some lease) None = ⊥
TellsChunk (Some lease) (Some settled) = ((told_of lease).settled ≡ Some settled.view) × (is_some (told_of lease).proposed ≡ settled.is_moving)

-- the table of a master as it stands: it tells each settled chunk, and no other
abbrev pub IsTableOf : fin.FinMap nat_cmp Lease → State → Type 0
IsTableOf table s = (chunk : ℕ) → TellsChunk (fin.get table chunk) (fin.get s.durable.chunks chunk)

-- each chunk is at rest
pub record IsEachAtRest (chunks : fin.FinMap nat_cmp Settled) : Type 0 where
  pub each : (chunk : ℕ) (settled : Settled) → fin.get chunks chunk ≡ Some settled → is_at_rest settled ≡ true

-- the chunk isn't at rest, and each lower one is
pub record IsLowestNotAtRest (chunks : fin.FinMap nat_cmp Settled) (chunk : ℕ) : Type 0 where
  pub settled : Settled
  pub stands : fin.get chunks chunk ≡ Some settled
  pub not_at_rest : is_at_rest settled ≡ false
  pub lower : (other : ℕ) (settled' : Settled) → other < chunk → fin.get chunks other ≡ Some settled' → is_at_rest settled' ≡ true

-- it is the master's table, of which each chunk is at rest; or the lowest settled chunk that isn't is named
abbrev pub TellsQuiet : State → Result (fin.FinMap nat_cmp Lease) Refusal → Type 0
TellsQuiet s (Ok quiet) = IsTableOf quiet s × IsEachAtRest s.durable.chunks
TellsQuiet s (Err refusal) = (chunk : ℕ) × (refusal ≡ refusals.NotQuiet chunk) × IsLowestNotAtRest s.durable.chunks chunk

-- ---- examples

abbrev a_view : View
a_view = record { stamp = record { epoch = 0; version = 7 }; count = 2; members = 0 ∷ 1 ∷ []; term = None }

a_quiet_chunk : TellsChunk (Some (leases.Quiet (record { stamp = record { epoch = 0; version = 7 }; count = 2; members = 0 ∷ 1 ∷ [] }))) (Some (record { view = a_view; is_moving = false }))
a_quiet_chunk = (refl, refl)

a_chunk_that_moves : TellsChunk (Some (leases.Moving (begun a_view (record { epoch = 0; version = 9 }) purposes.Quiet))) (Some (record { view = a_view; is_moving = true }))
a_chunk_that_moves = (refl, refl)
