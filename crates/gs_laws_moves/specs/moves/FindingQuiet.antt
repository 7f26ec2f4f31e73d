-- What a call finds that has waited for a chunk to become quiet.
use Rattle.std.specs.Prelude.{◌≡◌, ℕ, Bool, List, [], ◌∷◌, Some, refl}
use Rattle.std.specs.List.{AllByRecursion}
use Rattle.gs_lease.specs.declared.view.View.{View}
use Rattle.gs_laws_master.specs.Standing.{IsFirm, IsToldCount}
use Rattle.gs_master_spec.specs.Chunks.{settling}
use Rattle.gs_master_spec.specs.Durable.{prepared_view}
use Rattle.gs_master_spec.specs.Settling.{concerned, goes_on, quiet_view_at, settle_plan}
use Rattle.gs_master_spec.specs.State.{State, turned}
use Rattle.gs_master_spec.specs.declared.asking.Asking.{Asking}
use Rattle.gs_master_spec.specs.declared.pending.Pending.{Pending}
use Rattle.gs_master_spec.specs.declared.pending.Waiting.{Waiting}
use Rattle.gs_master_spec.specs.declared.pending.Waiting.TheVariants as waits
use Rattle.gs_laws_moves.specs.moves.Guards.{Heard, MaySettle}

-- one that waited to copy a chunk finds it quiet, on this view
abbrev pub FindsQuiet : State → View → Waiting → Type 0
FindsQuiet s view (waits.Quiet path index chunk) = quiet_view_at s chunk ≡ Some view
FindsQuiet s view waiting = Unit {0}

-- so do all of these, each in the state that those before it leave
abbrev pub AllFindQuiet : View → List Pending → State → Type 0
AllFindQuiet view [] s = Unit {0}
AllFindQuiet view (p ∷ ps) s = FindsQuiet s view p.waits × AllFindQuiet view ps (goes_on s p.req view p.waits).after

-- Wherever a firm master settles a chunk on a view, by answers whose counts are numbers of 64 bits, the calls that this concerns find it so. So no
-- copy on write is refused since its chunk isn't quiet.
abbrev pub CopiesFindQuiet : Type 0
CopiesFindQuiet = (heard : Heard) (s : State) (chunk : ℕ) (asking : Asking) (carried : Bool) (view : View) (may : MaySettle heard s chunk asking carried view) →
    IsFirm s → AllByRecursion IsToldCount may.by.counts →
    AllFindQuiet view (concerned s chunk asking.call) (turned s (settle_plan (settling s.durable.phase (prepared_view s.durable chunk) carried chunk asking view) chunk view)).after

-- ---- examples

another_call_looks_for_nothing : (s : State) (view : View) → FindsQuiet s view (waits.Replicate 7 0) ≡ Unit {0}
another_call_looks_for_nothing s view = refl

a_call_that_copies_looks_at_its_chunk : (s : State) (view : View) → FindsQuiet s view (waits.Quiet [] 0 7) ≡ (quiet_view_at s 7 ≡ Some view)
a_call_that_copies_looks_at_its_chunk s view = refl
