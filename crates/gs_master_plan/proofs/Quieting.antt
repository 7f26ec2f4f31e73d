-- What a table of leases tells of the settled chunks, and of the lowest one that isn't at rest.
use Rattle.std.proofs.Common.{◌≡◌, ◌∙◌, ◌<◌, ℕ, Bool, true, false, refl, ap, subst, sym}
use Rattle.std.proofs.lemmas.Bool.{false≢true}
use Rattle.std.specs.Prelude.{Option, Some, None, is_some, is_none, option_and_then, unwrap_or, IfOk, MatchResult, Result, Ok, Err}
use Rattle.std.specs.Ordering.{nat_cmp}
use Rattle.std.specs.FinMap as fin
use Rattle.gs_base.specs.declared.refusal.Refusal.{Refusal}
use Rattle.gs_lease.specs.Chunks.{IsAllQuiet, RefusedFor, is_quiet}
use Rattle.gs_lease.specs.declared.lease.Lease.{Lease}
use Rattle.gs_lease.specs.declared.lease.Lease.TheVariants.{Quiet, Moving, Leased}
use Rattle.gs_lease.specs.declared.view.Proposed.{Proposed}
use Rattle.gs_lease.specs.declared.view.View.{View}
use Rattle.gs_lease_table.specs.Settlings.{EachTellsSettled, MayTellSettled, tells_settled}
use Rattle.gs_master_spec.specs.Applied.{is_at_rest}
use Rattle.gs_master_spec.specs.Durable.{Settled}
use Rattle.gs_master_spec.specs.Quieted.{IsEachAtRest, IsLowestNotAtRest, IsTableOf, TellsChunk, TellsQuiet}
use Rattle.gs_master_spec.specs.State.{State}
use Rattle.gs_master_state.proofs.Recording.{get_chunks}
use Rattle.gs_master_state.specs.inner.Recorded.{chunks_of, settled_as, settled_by}

-- ---- one lease

moving_tells : (proposed : Proposed) (settled : Option View) → proposed.settled ≡ settled → is_some settled ≡ true → TellsChunk (Some (Moving proposed)) (settled_as settled (Some proposed.stamp))
moving_tells proposed None is tells = absurd (false≢true tells)
moving_tells proposed (Some view) is tells = (is, refl)

tells_chunk : (lease : Option Lease) → MayTellSettled lease → TellsChunk lease (option_and_then settled_by lease)
tells_chunk None tells = tt
tells_chunk (Some (Quiet view)) tells = (refl, refl)
tells_chunk (Some (Moving proposed)) tells = moving_tells proposed proposed.settled refl tells
tells_chunk (Some (Leased view)) tells = (refl, refl)

-- what it tells
told : (lease : Lease) → tells_settled lease ≡ true → (settled : Settled) × (settled_by lease ≡ Some settled)
told (Quiet view) tells = (_, refl)
told (Moving proposed) tells = by_settled proposed.settled refl
  where
    by_settled : (settled : Option View) → proposed.settled ≡ settled → (s : Settled) × (settled_as proposed.settled (Some proposed.stamp) ≡ Some s)
    by_settled None is = absurd (false≢true (sym (ap is_some is) ∙ tells))
    by_settled (Some view) is = (record { view = view; is_moving = true }, ap (λ o. settled_as o (Some proposed.stamp)) is)
told (Leased view) tells = (_, refl)

same_settled : (s t : Settled) → Some s ≡ Some t → s ≡ t
same_settled s t is = ap (λ o. unwrap_or o t) is

rests : (lease : Lease) (settled : Settled) → settled_by lease ≡ Some settled → is_quiet lease ≡ true → is_at_rest settled ≡ true
rests (Quiet view) settled is quiet = subst (λ s. is_at_rest s ≡ true) (same_settled _ settled is) refl
rests (Moving proposed) settled is quiet = absurd (false≢true quiet)
rests (Leased view) settled is quiet = absurd (false≢true quiet)

some_not_none : {A : Type 0} (o : Option A) → is_some o ≡ true → is_none o ≡ false
some_not_none None is = absurd (false≢true is)
some_not_none (Some x) is = refl

works : (lease : Lease) (settled : Settled) → settled_by lease ≡ Some settled → tells_settled lease ≡ true → is_quiet lease ≡ false → is_at_rest settled ≡ false
works (Quiet view) settled is tells not_quiet = absurd (false≢true (sym not_quiet))
works (Moving proposed) settled is tells not_quiet = by_settled proposed.settled is tells
  where
    by_settled : (o : Option View) → settled_as o (Some proposed.stamp) ≡ Some settled → is_some o ≡ true → is_at_rest settled ≡ false
    by_settled None is tells = absurd (false≢true tells)
    by_settled (Some view) is tells = subst (λ s. is_at_rest s ≡ false) (same_settled _ settled is) refl
works (Leased view) settled is tells not_quiet = subst (λ s. is_at_rest s ≡ false) (same_settled _ settled is) (some_not_none view.term tells)

-- ---- the table

module _ (table : fin.FinMap nat_cmp Lease) (s : State) (own : chunks_of table ≡ s.durable.chunks) (tells : EachTellsSettled table) where
  gets : (chunk : ℕ) → fin.get s.durable.chunks chunk ≡ option_and_then settled_by (fin.get table chunk)
  gets chunk = ap (λ chunks. fin.get chunks chunk) (sym own) ∙ get_chunks table chunk

  may_tell : (chunk : ℕ) → MayTellSettled (fin.get table chunk)
  may_tell chunk = by_lease (fin.get table chunk) refl
    where
      by_lease : (lease : Option Lease) → fin.get table chunk ≡ lease → MayTellSettled lease
      by_lease None is = tt
      by_lease (Some lease) is = tells.each chunk lease is

  is_own : IsTableOf table s
  is_own chunk = subst (λ settled. TellsChunk (fin.get table chunk) settled) (sym (gets chunk)) (tells_chunk (fin.get table chunk) (may_tell chunk))

  -- a settled chunk is at rest where its lease is quiet
  is_resting : (chunk : ℕ) (settled : Settled) → ((lease : Lease) → fin.get table chunk ≡ Some lease → is_quiet lease ≡ true) → fin.get s.durable.chunks chunk ≡ Some settled → is_at_rest settled ≡ true
  is_resting chunk settled quiet found = by_lease (fin.get table chunk) refl
    where
      by_lease : (lease : Option Lease) → fin.get table chunk ≡ lease → is_at_rest settled ≡ true
      by_lease None is = absurd (false≢true (ap is_some (sym (gets chunk ∙ ap (option_and_then settled_by) is) ∙ found)))
      by_lease (Some lease) is = rests lease settled (sym (gets chunk ∙ ap (option_and_then settled_by) is) ∙ found) (quiet lease is)

  all_rest : IsAllQuiet table → IsEachAtRest s.durable.chunks
  all_rest all = record { each = λ chunk settled found. is_resting chunk settled (all.each chunk) found }

  lowest : (refusal : Refusal) → RefusedFor table refusal → TellsQuiet s (Err refusal)
  lowest refusal (chunk, is, low) =
      let tells_it = tells.each chunk low.lease low.stands in
      let it = told low.lease tells_it in (
        chunk,
        is,
        record {
          settled = it.0;
          stands = gets chunk ∙ ap (option_and_then settled_by) low.stands ∙ it.1;
          not_at_rest = works low.lease it.0 it.1 tells_it low.not_quiet;
          lower = λ other settled below found. is_resting other settled (λ lease is. low.lower other lease below is) found;
        },
      )

  pub tells_quiet : (result : Result (fin.FinMap nat_cmp Lease) Refusal) → IfOk result (λ quiet. quiet ≡ table) → MatchResult result (λ _. IsAllQuiet table) (RefusedFor table) → TellsQuiet s result
  tells_quiet (Ok quiet) same all = (subst (λ t. IsTableOf t s) (sym same) is_own, all_rest all)
  tells_quiet (Err refusal) same refused = lowest refusal refused
