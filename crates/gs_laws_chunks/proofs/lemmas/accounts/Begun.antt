-- Where an upgrade stands in a run, its prepare was accepted in it.
use Rattle.gs_laws_lift.specs.stores.Left.{as_left}
use Rattle.std.proofs.Common.{◌≡◌, ◌∙◌, ◌⊎◌, inl, inr, Bool, true, false, List, [], ◌∷◌, refl, sym, ap, subst}
use Rattle.std.proofs.lemmas.Bool.{and_from, and_parts, true≢false}
use Rattle.gs_master_record.specs.declared.checkpoint.Phase.{Phase}
use Rattle.gs_master_record.specs.declared.checkpoint.Phase.TheVariants.{Ordinary, Upgrade, Rolling}
use Rattle.gs_master_spec.specs.Durable.{Durable, is_ordinary, is_rolling, is_upgrade, start}
use Rattle.gs_master_spec.specs.State.{State}
use Rattle.gs_world.specs.Histories.{History}
use Rattle.gs_laws_world.specs.lasting.Lasting.{OpensAs}
use Rattle.gs_world.specs.Runs.{Step}
use Rattle.gs_laws_lift.proofs.lemmas.stores.Beginning.{begins_told}
use Rattle.gs_laws_lift.specs.stores.Doing.{HasDurable}
use Rattle.gs_laws_chunks.proofs.lemmas.accounts.Became.{became, has_one}
use Rattle.gs_laws_chunks.proofs.lemmas.accounts.Going.{upgrading_on}
use Rattle.gs_laws_chunks.proofs.lemmas.accounts.Holding.{reach_more}
use Rattle.gs_laws_chunks.proofs.lemmas.accounts.Leading.{begins_upgrade_all}
use Rattle.gs_laws_chunks.proofs.lemmas.accounts.Telling.{told_has}
use Rattle.gs_laws_chunks.proofs.lemmas.accounts.Well.{IsWell, begins_well, left_sound, step_well, well_steady}
use Rattle.gs_laws_chunks.specs.accounts.Accepting.{met_at}
use Rattle.gs_laws_chunks.specs.accounts.Accounts.{Account}
use Rattle.gs_laws_chunks.specs.accounts.Back.{EachIsOfAPrepare, HasRolledBack}
use Rattle.gs_laws_chunks.specs.accounts.Running.{IsGiven, IsNew, IsReached, Moves, Runs, Setup}
use Rattle.gs_laws_chunks.specs.accounts.Upgrading.{IsUpgrading}

rolling_stands : (phase : Phase) → is_rolling phase ≡ true → is_ordinary phase ≡ false
rolling_stands Ordinary rolling = absurd (true≢false (sym rolling))
rolling_stands Upgrade rolling = refl
rolling_stands Rolling rolling = refl

module _ {D : Type 0} (x : Setup D) where
  -- no upgrade stands, or one of which the prepare was accepted
  abbrev IsBegun : History D → Account → Type 0
  IsBegun h a = (is_ordinary a.durable.phase ≡ true) ⊎ ((prepared : History D) × (before : Account) × IsUpgrading x prepared before h a)

  record StandsBegun (h : History D) (a : Account) : Type 0 where
    reached : IsReached x h a
    well : IsWell x h
    has : HasDurable x.seen (as_left h.nodes.master) a.durable
    begun : IsBegun h a

  -- ---- a step

  begun_on : (given : IsGiven x) (step : Step) (old new : History D) (a b : Account) → Moves x step old a new b → StandsBegun old a → StandsBegun new b
  begun_on given step old new a b moves s = record {
    reached = reach_more x old new a b (step ∷ []) s.reached (new, b, moves, (refl, refl));
    well = well;
    has = has;
    begun = by_phase (is_ordinary b.durable.phase) refl;
  }
    where
      well : IsWell x new
      well = step_well x given step old new s.well moves.steps

      has : HasDurable x.seen (as_left new.nodes.master) b.durable
      has = told_has x new b.durable well moves.told

      prepared_now : is_ordinary a.durable.phase ≡ true → is_ordinary b.durable.phase ≡ false → IsUpgrading x new b new b
      prepared_now ordinary other = record {
        old = old;
        first = a;
        reached = s.reached;
        step = step;
        moves = moves;
        accepted = and_from (is_ordinary a.durable.phase) (is_upgrade b.durable.phase) ordinary
            (begins_upgrade_all x step old.sent (met_at x step old new moves.steps.goes) (as_left old.nodes.master) (as_left new.nodes.master) a.durable b.durable (well_steady x old s.well) (became x given step old new s.well moves.steps) s.has has ordinary other).0;
        steps = [];
        runs = (refl, refl);
      }

      by_begun : is_ordinary b.durable.phase ≡ false → IsBegun old a → IsBegun new b
      by_begun other (inl ordinary) = inr (new, b, prepared_now ordinary other)
      by_begun other (inr (prepared, before, up)) = inr (prepared, before, upgrading_on x prepared old new before a b step up moves other)

      by_phase : (ordinary : Bool) → is_ordinary b.durable.phase ≡ ordinary → IsBegun new b
      by_phase true ordinary = inl ordinary
      by_phase false other = by_begun other s.begun

  -- ---- steps

  run_begun : (given : IsGiven x) (steps : List Step) (old new : History D) (a b : Account) → Runs x steps old a new b → StandsBegun old a → StandsBegun new b
  run_begun given [] old new a b (is, same) s = subst (λ h. StandsBegun h b) (sym is) (subst (StandsBegun old) (sym same) s)
  run_begun given (step ∷ steps) old new a b (mid, c, moves, rest) s = run_begun given steps mid new c b rest (begun_on given step old mid a c moves s)

  -- a new store has no upgrade
  new_begun : (h : History D) (a : Account) → IsReached x h a → IsNew x h a → StandsBegun h a
  new_begun h a reached new = record { reached = reached; well = well; has = has; begun = inl (ap (λ (d : Durable). is_ordinary d.phase) (has_one x.seen (as_left h.nodes.master) a.durable start has starts)) }
    where
      well : IsWell x h
      well = begins_well x new.given h new.begins

      has : HasDurable x.seen (as_left h.nodes.master) a.durable
      has = told_has x h a.durable well new.told

      starts : HasDurable x.seen (as_left h.nodes.master) start
      starts = by_opens (begins_told x.seen x.failures x.armed x.config x.clients x.disks h new.given.new new.begins)
        where
          by_opens : OpensAs x.seen start h.nodes.master → HasDurable x.seen (as_left h.nodes.master) start
          by_opens (after, is, state, firm) = subst (λ p. HasDurable x.seen p start) (sym (ap as_left is ∙ left_sound x.seen after firm.sound)) (ap (λ (s : State). s.durable) state)

  each_begun : (now : History D) (after : Account) → IsReached x now after → StandsBegun now after
  each_begun now after r =
      run_begun r.begins.given r.steps r.begun now r.first after r.runs
      (new_begun r.begun r.first (record { apart = r.apart; begun = r.begun; first = r.first; steps = []; begins = r.begins; runs = (refl, refl) }) r.begins)

-- ---- a rollback

pub each_is_of_a_prepare : {D : Type 0} (x : Setup D) → EachIsOfAPrepare x
each_is_of_a_prepare {D = D} x now back after last step reached moves done = by_begun (each_begun x now after reached).begun
  where
    rolling : is_rolling after.durable.phase ≡ true
    rolling = (and_parts (is_rolling after.durable.phase) (is_ordinary last.durable.phase) done).0

    by_begun : IsBegun x now after → (prepared : History D) × (before : Account) × HasRolledBack x prepared before now after back last
    by_begun (inl ordinary) = absurd (true≢false (sym ordinary ∙ rolling_stands after.durable.phase rolling))
    by_begun (inr (prepared, before, up)) = (prepared, before, record { upgrade = up; step = step; moves = moves; accepted = done })
