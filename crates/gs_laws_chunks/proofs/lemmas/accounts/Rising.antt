-- Epochs never fall.
use Rattle.std.proofs.Common.{◌≡◌, ◌∙◌, ◌⊎◌, inl, inr, true, List, [], ◌∷◌, Result, sym, ap, subst, arith}
use Rattle.std.proofs.lemmas.Bool.{false≢true}
use Rattle.gs_base.specs.declared.refusal.Refusal.{Refusal}
use Rattle.gs_laws_moves.proofs.lemmas.moves.Epochs.{epochs_go}
use Rattle.gs_laws_moves.proofs.lemmas.moves.Stands.{once_stands}
use Rattle.gs_laws_moves.specs.moves.Epochs.{Begun, Committed, EpochGoes, Finalized, Prepared, Stays as StaysSo}
use Rattle.gs_master_record.specs.declared.checkpoint.Phase.{Phase}
use Rattle.gs_master_record.specs.declared.checkpoint.Phase.TheVariants.{Ordinary, Upgrade, Rolling}
use Rattle.gs_master_spec.specs.Durable.{Durable, is_ordinary, is_rolling}
use Rattle.gs_master_spec.specs.State.{State}
use Rattle.gs_nodes.specs.declared.place.MasterPlace.{MasterPlace}
use Rattle.gs_world.specs.Histories.{History}
use Rattle.gs_world.specs.Runs.{Step}
use Rattle.gs_world.specs.Sent.{Sent}
use Rattle.gs_laws_chunks.specs.accounts.Accepting.{met_at}
use Rattle.gs_laws_chunks.specs.accounts.Rising.{EpochRises, EpochsNeverFall}
use Rattle.gs_laws_chunks.specs.accounts.Running.{IsGiven, IsToldAt, RunsBare, Setup, StepsWithin}
use Rattle.gs_laws_world.specs.steady.Steady.{LastsSteady}
use Rattle.gs_laws_lift.specs.stores.Doing.{HasDurable}
use Rattle.gs_laws_lift.specs.stores.Left.{as_left}
use Rattle.gs_laws_chunks.proofs.lemmas.accounts.Became.{Became, BecameAll, Cuts, Loses, Opened, Stays, Turns, Waits, Whole, became, has_one}
use Rattle.gs_laws_chunks.proofs.lemmas.accounts.Cutting.{part_stands}
use Rattle.gs_laws_chunks.proofs.lemmas.accounts.Leading.{has_at, steady_at}
use Rattle.gs_laws_chunks.proofs.lemmas.accounts.Once.{told_at_once}
use Rattle.gs_laws_chunks.proofs.lemmas.accounts.Telling.{told_has}
use Rattle.gs_laws_chunks.proofs.lemmas.accounts.Through.{told_there}
use Rattle.gs_laws_chunks.proofs.lemmas.accounts.Well.{IsWell, step_well, well_steady}

pub same_rising : (d e : Durable) → e ≡ d → EpochRises d e
same_rising d e same = (let epoch = ap (λ (x : Durable). x.epoch) same in record { rises = omega arith; stays = λ at. inl (ap (λ (x : Durable). x.phase) same) })

goes_rising : (d e : Durable) → EpochGoes d e → EpochRises d e
goes_rising d e (StaysSo epoch phase) = record { rises = omega arith; stays = λ at. inl phase }
goes_rising d e (Prepared epoch before phase unchanged none) = record { rises = omega arith; stays = λ at. absurd (omega arith) }
goes_rising d e (Finalized epoch before phase end) = record { rises = omega arith; stays = λ at. absurd (omega arith) }
goes_rising d e (Begun epoch before phase end) = record { rises = omega arith; stays = λ at. absurd (omega arith) }
goes_rising d e (Committed epoch before phase) = record { rises = omega arith; stays = λ at. inr (ap is_rolling before, ap is_ordinary phase) }

not_both : (phase : Phase) → is_rolling phase ≡ true → is_ordinary phase ≡ true → ⊥
not_both Ordinary rolling ordinary = false≢true rolling
not_both Upgrade rolling ordinary = false≢true rolling
not_both Rolling rolling ordinary = false≢true ordinary

then_rising : (d e f : Durable) → EpochRises d e → EpochRises e f → EpochRises d f
then_rising d e f a b = (let one = a.rises in let two = b.rises in record { rises = omega arith; stays = λ at. by (a.stays (omega arith)) (b.stays (omega arith)) })
  where
    by : (e.phase ≡ d.phase) ⊎ ((is_rolling d.phase ≡ true) × (is_ordinary e.phase ≡ true)) → (f.phase ≡ e.phase) ⊎ ((is_rolling e.phase ≡ true) × (is_ordinary f.phase ≡ true)) → (f.phase ≡ d.phase) ⊎ ((is_rolling d.phase ≡ true) × (is_ordinary f.phase ≡ true))
    by (inl p) (inl q) = inl (q ∙ p)
    by (inl p) (inr q) = inr (ap is_rolling (sym p) ∙ q.0, q.1)
    by (inr p) (inl q) = inr (p.0, ap is_ordinary q ∙ p.1)
    by (inr p) (inr q) = absurd (not_both e.phase q.0 p.1)

module _ {D : Type 0} (x : Setup D) where
  place_rising : (step : Step) (sent : Sent) (said : Result (Unit {0}) Refusal) (place new : MasterPlace D) (d e : Durable) → LastsSteady x.seen place → Became x.seen step sent said place new → HasDurable x.seen place d → HasDurable x.seen new e → EpochRises d e
  place_rising step sent said place new d e h (Stays m after at to is refused calm) dk ek = same_rising d e (has_at x new after e to ek ∙ ap (λ (z : State). z.durable) is ∙ sym (has_at x place m d at dk))
  place_rising step sent said place new d e h (Turns m after heard t at to turn written is hears calm) dk ek =
      let goes = epochs_go m.config heard m.state t (once_stands m.config heard m.state t turn written (steady_at x place m at h).steady.firm.stands.kept).turn in
      goes_rising d e (subst (λ z. EpochGoes z e) (sym (has_at x place m d at dk)) (subst (EpochGoes m.state.durable) (sym (has_at x new after e to ek ∙ ap (λ (z : State). z.durable) is)) goes))
  place_rising step sent said place new d e h (Opened after f log has to is none again) dk ek = same_rising d e (has_at x new after e to ek ∙ ap (λ (z : State). z.durable) is ∙ has_one x.seen place f d has dk)
  place_rising step sent said place new d e h (Waits none f unheard) dk ek = same_rising d e (has_one x.seen new e d ek (f d dk))

  place_rising_all : {Holds : Type 0} (step : Step) (sent : Sent) (said : Result (Unit {0}) Refusal) (place new : MasterPlace D) (d e : Durable) → LastsSteady x.seen place → BecameAll x.seen step sent said Holds place new → HasDurable x.seen place d → HasDurable x.seen new e → EpochRises d e
  place_rising_all step sent said place new d e h (Whole b) dk ek = place_rising step sent said place new d e h b dk ek
  place_rising_all step sent said place new d e h (Loses m at none fails f) dk ek = same_rising d e (has_one x.seen new e d ek (f d dk))
  place_rising_all step sent said place new d e h (Cuts m heard t many f at none fails turn written low stand has handles) dk ek = elim (part_stands m.config heard m.state t turn written many f stand) [
    | inl within ↦ subst (λ z. EpochRises z e) (sym dm) (subst (EpochRises m.state.durable) same (record { rises = within.rises; stays = λ at. inl (within.stays at) }))
    | inr whole ↦
        let goes = epochs_go m.config heard m.state t (once_stands m.config heard m.state t turn written (steady_at x place m at h).steady.firm.stands.kept).turn in
        goes_rising d e (subst (λ z. EpochGoes z e) (sym dm) (subst (EpochGoes m.state.durable) (sym whole ∙ same) goes))
  ]
    where
      dm : d ≡ m.state.durable
      dm = has_at x place m d at dk

      same : f ≡ e
      same = has_one x.seen new f e has ek

  module _ (given : IsGiven x) where
    step_rising : (step : Step) (old mid : History D) (d e : Durable) → IsWell x old → StepsWithin x step old mid → IsToldAt x.seen old.nodes.master d → IsToldAt x.seen mid.nodes.master e → EpochRises d e
    step_rising step old mid d e well one told then =
        place_rising_all step old.sent (met_at x step old mid one.goes) (as_left old.nodes.master) (as_left mid.nodes.master) d e (well_steady x old well) (became x given step old mid well one) (told_has x old d well told) (told_has x mid e (step_well x given step old mid well one) then)

    pub run_rising : (steps : List Step) (old new : History D) (d e : Durable) → RunsBare x steps old new → IsWell x old → IsToldAt x.seen old.nodes.master d → IsToldAt x.seen new.nodes.master e → EpochRises d e
    run_rising [] old new d e is well told then = same_rising d e (told_at_once x.seen old.nodes.master e d (subst (λ (h : History D). IsToldAt x.seen h.nodes.master e) is then) told)
    run_rising (step ∷ steps) old new d e (mid, one, rest) well told then =
        let next = step_well x given step old mid well one in
        let at = told_there x.seen mid.nodes.master next.steady in then_rising d at.0 e (step_rising step old mid d at.0 well one told at.1) (run_rising steps mid new at.0 e rest next at.1 then)

pub epochs_rise : {D : Type 0} (x : Setup D) → EpochsNeverFall x
epochs_rise x given steps old new d e runs types lasts told then = run_rising x given steps old new d e runs (record { types = types; steady = lasts }) told then
