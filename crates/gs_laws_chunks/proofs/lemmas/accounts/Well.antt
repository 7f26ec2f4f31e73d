-- A store stays well: what is left of its master lasts, and all that is sent is within its types.
use Rattle.std.proofs.Common.{◌∙◌, ◌≡◌, ℕ, Bool, true, false, List, [], ◌∷◌, refl, ap, sym, subst}
use Rattle.std.specs.Prelude.{MatchBool}
use Rattle.gs_journal.specs.Records.{standing}
use Rattle.gs_master.specs.Journaled.{text_seen}
use Rattle.gs_master_spec.specs.Durable.{Durable}
use Rattle.gs_master_spec.specs.State.{is_failed}
use Rattle.gs_laws_chunks.proofs.lemmas.accounts.Through.{one_through}
use Rattle.gs_master.specs.Masters.{MasterOf, with_journal}
use Rattle.gs_laws_chunks.specs.accounts.Running.{IsArmed, IsGiven, IsToldAt, RunsBare, Setup, StepsWithin}
use Rattle.gs_world.specs.Histories.{Begins, History}
use Rattle.gs_laws_world.specs.lasting.Lasting.{IsToldIn, Lasts}
use Rattle.gs_world.specs.Runs.{Step}
use Rattle.gs_laws_world.proofs.lemmas.steady.Keeping.{begins_keeping, step_within as within_types}
use Rattle.gs_laws_world.proofs.lemmas.steady.Steady.{tells_one}
use Rattle.gs_laws_world.proofs.lemmas.steady.Through.{begins_through, sound_tells, tells_once}
use Rattle.gs_laws_world.specs.steady.Saying.{KeepsTypes}
use Rattle.gs_laws_world.specs.steady.Steady.{LastsSteady, StandsSteady, StepWithin, TellsSteady}
use Rattle.gs_laws_world.specs.steady.Through.{LastsThrough, TellsAt}
use Rattle.gs_laws_lift.specs.stores.Doing.{HasDurable}
use Rattle.gs_laws_lift.specs.stores.Left.{as_left, left_of}
use Rattle.gs_nodes.specs.declared.place.MasterPlace.{MasterPlace}
use Rattle.gs_nodes.specs.declared.place.MasterPlace.TheVariants.{Standing, Closed, Away}

-- ---- what is left of the master

module _ {D : Type 0} (seen : D → List ℕ) where
  pub lasts_left : (place : MasterPlace D) → LastsThrough seen place → Lasts seen (as_left place)
  lasts_left (Standing m) h = by_fault (is_failed m.state.fault) h
    where
      by_fault : (b : Bool) → MatchBool b (TellsSteady (text_seen seen m.journal)) (StandsSteady seen m) → Lasts seen (left_of b m)
      by_fault true told = tells_one (text_seen seen m.journal) told
      by_fault false steady = steady.firm
  lasts_left (Closed first second) h = tells_one (standing (seen first) (seen second)) h
  lasts_left Away h = absurd h

  -- as long as none has failed it is all there
  pub left_so : (place : MasterPlace D) → Lasts seen place → as_left place ≡ place
  left_so (Standing m) lasts = ap (λ b. left_of b m) lasts.sound
  left_so (Closed first second) lasts = refl
  left_so Away lasts = refl

  -- the same is told of it
  pub told_left : (place : MasterPlace D) (d : Durable) → IsToldAt seen place d → IsToldAt seen (as_left place) d
  told_left (Standing m) d told = by_fault (is_failed m.state.fault) refl told
    where
      by_fault : (b : Bool) → is_failed m.state.fault ≡ b → MatchBool b (IsToldIn (text_seen seen m.journal) d) (d ≡ m.state.durable) → IsToldAt seen (left_of b m) d
      by_fault true failed told = told
      by_fault false sound told = subst (λ b. MatchBool b (IsToldIn (text_seen seen m.journal) d) (d ≡ m.state.durable)) (sym sound) told
  told_left (Closed first second) d told = told
  told_left Away d told = told

  -- a failure that is arranged changes nothing that is seen of it
  pub armed_left : (place new : MasterPlace D) → IsArmed seen place new → IsArmed seen (as_left place) (as_left new)
  armed_left (Standing m) new (j, is, alike) = by_fault (is_failed m.state.fault) refl
    where
      by_fault : (b : Bool) → is_failed m.state.fault ≡ b → IsArmed seen (left_of b m) (as_left new)
      by_fault true failed = (j.first, j.second, ap as_left is ∙ ap (λ b. left_of b (with_journal m j)) failed, alike.first, alike.second)
      by_fault false sound = (j, ap as_left is ∙ ap (λ b. left_of b (with_journal m j)) sound, alike)
  armed_left (Closed first second) new (other, another, is, one, two) = (other, another, ap as_left is, one, two)
  armed_left Away new is = ap as_left is

  -- what lasts is steady as it is left
  pub steady_left : (place : MasterPlace D) → LastsThrough seen place → LastsSteady seen (as_left place)
  steady_left (Standing m) h = by_fault (is_failed m.state.fault) h
    where
      by_fault : (b : Bool) → MatchBool b (TellsSteady (text_seen seen m.journal)) (StandsSteady seen m) → LastsSteady seen (left_of b m)
      by_fault true told = told
      by_fault false steady = steady
  steady_left (Closed first second) h = h
  steady_left Away h = absurd h

  pub left_sound : (m : MasterOf D) → is_failed m.state.fault ≡ false → as_left (Standing m) ≡ Standing m
  left_sound m sound = ap (λ b. left_of b m) sound

  pub left_failed : (m : MasterOf D) → is_failed m.state.fault ≡ true → as_left (Standing m) ≡ Closed m.journal.first m.journal.second
  left_failed m failed = ap (λ b. left_of b m) failed

  -- who stands as it is left, stands
  pub stands_left : (place : MasterPlace D) (m : MasterOf D) → as_left place ≡ Standing m → place ≡ Standing m
  stands_left (Standing k) m is = by_fault (is_failed k.state.fault) is
    where
      closed_not : (first second : D) → ◌≡◌ {A = MasterPlace D} (Closed first second) (Standing m) → ⊥
      closed_not first second e = absurd (cc)

      by_fault : (b : Bool) → left_of b k ≡ Standing m → ◌≡◌ {A = MasterPlace D} (Standing k) (Standing m)
      by_fault true is = absurd (closed_not k.journal.first k.journal.second is)
      by_fault false is = is
  stands_left (Closed first second) m is = is
  stands_left Away m is = is

  -- what its disks tell is what it has
  pub tells_has : (failures : D → ℕ) (place : MasterPlace D) (d : Durable) → LastsThrough seen place → TellsAt seen place d → HasDurable seen (as_left place) d
  tells_has failures (Standing m) d h told = by_fault (is_failed m.state.fault) refl
    where
      by_fault : (b : Bool) → is_failed m.state.fault ≡ b → HasDurable seen (left_of b m) d
      by_fault true failed = told
      by_fault false sound = tells_once seen failures (Standing m) m.state.durable d (sound_tells seen failures m sound h) told
  tells_has failures (Closed first second) d h told = told
  tells_has failures Away d h told = absurd h

-- ---- a store

pub record IsWell {D : Type 0} (x : Setup D) (h : History D) : Type 0 where
  pub types : KeepsTypes h
  pub steady : LastsThrough x.seen h.nodes.master

module _ {D : Type 0} (x : Setup D) where
  -- where it is well what is left of the master lasts
  pub well_lasts : (h : History D) → IsWell x h → Lasts x.seen (as_left h.nodes.master)
  well_lasts h well = lasts_left x.seen h.nodes.master well.steady

  pub well_steady : (h : History D) → IsWell x h → LastsSteady x.seen (as_left h.nodes.master)
  well_steady h well = steady_left x.seen h.nodes.master well.steady

module _ {D : Type 0} (x : Setup D) (given : IsGiven x) where
  -- ---- a step

  pub step_within : (step : Step) (old new : History D) → IsWell x old → StepsWithin x step old new → StepWithin step old
  step_within step old new well one = within_types x.seen x.failures x.armed step old one.within well.types

  pub step_well : (step : Step) (old new : History D) → IsWell x old → StepsWithin x step old new → IsWell x new
  step_well step old new well one = let behind = one_through x given step old new well.steady well.types one in record { types = behind.1; steady = behind.0 }

  pub begins_well : (begun : History D) → Begins x.seen x.failures x.armed x.config x.clients x.disks begun → IsWell x begun
  begins_well begun begins = record {
    types = begins_keeping x.seen x.failures x.armed x.config x.clients x.disks begun given.few begins;
    steady = begins_through x.seen x.failures x.armed x.config x.clients x.disks begun given.new begins;
  }

  -- ---- steps

  pub bare_well : (steps : List Step) (old new : History D) → RunsBare x steps old new → IsWell x old → IsWell x new
  bare_well [] old new is well = subst (IsWell x) (sym is) well
  bare_well (step ∷ steps) old new (mid, one, rest) well = bare_well steps mid new rest (step_well step old mid well one)
