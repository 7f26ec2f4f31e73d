-- What was prepared stands over each step, until its rollback has ended.
use Rattle.std.proofs.Common.{◌≡◌, ◌∙◌, ◌⊎◌, inl, inr, ◌<◌, ◌≤◌, ℕ, Bool, suc, zero, arith, length, true, false, List, [], ◌∷◌, Result, refl, ap, subst, sym}
use Rattle.std.proofs.lemmas.Bool.{false≢true, true≢false, and_parts}
use Rattle.gs_base.specs.declared.refusal.Refusal.{Refusal}
use Rattle.gs_master.specs.Masters.{MasterOf}
use Rattle.gs_master_spec.specs.Durable.{Durable, is_ordinary, is_rolling, is_upgrade}
use Rattle.gs_master_spec.specs.State.{State, is_failed}
use Rattle.gs_master_record.specs.declared.checkpoint.Phase.{Phase}
use Rattle.gs_master_record.specs.declared.checkpoint.Phase.TheVariants.{Ordinary, Upgrade, Rolling}
use Rattle.gs_laws_moves.proofs.lemmas.upgrades.Since.{cuts_lead, turns_begin, turns_lead}
use Rattle.gs_laws_moves.specs.upgrades.Since.{AreGiven, AreRestored, IsSince, GoesOnSince}
use Rattle.gs_nodes.specs.declared.place.MasterPlace.{MasterPlace}
use Rattle.gs_nodes.specs.declared.place.MasterPlace.TheVariants.{Standing, Closed, Away}
use Rattle.gs_world.specs.Histories.{History}
use Rattle.gs_world.specs.Runs.{Step}
use Rattle.gs_world.specs.Sent.{Sent}
use Rattle.gs_laws_chunks.specs.accounts.Running.{IsGiven, Setup, StepsWithin}
use Rattle.gs_laws_world.specs.steady.Steady.{LastsSteady, StandsSteady}
use Rattle.gs_laws_lift.specs.stores.Doing.{HasDurable}
use Rattle.gs_laws_lift.proofs.lemmas.stores.Durable.{has_durable}
use Rattle.gs_laws_chunks.proofs.lemmas.accounts.Became.{Became, BecameAll, Cuts, Loses, Opened, Stays, Turns, Waits, Whole, became, has_one}
use Rattle.gs_laws_chunks.proofs.lemmas.accounts.Cutting.{all_stand, part_stands}
use Rattle.gs_laws_lift.specs.stores.Left.{as_left, left_of}
use Rattle.gs_laws_chunks.proofs.lemmas.accounts.Well.{IsWell, bare_well, begins_well, left_sound, step_well, well_lasts, well_steady}
use Rattle.gs_laws_chunks.specs.accounts.Accepting.{met_at}
use Rattle.gs_laws_chunks.specs.accounts.Back.{GivesNamesBack, GoesBack, MasterKeeps, RunsWithin}

pub upgrade_stands : (phase : Phase) → is_upgrade phase ≡ true → is_ordinary phase ≡ false
upgrade_stands Ordinary h = absurd (false≢true h)
upgrade_stands Upgrade h = refl
upgrade_stands Rolling h = refl

low_or_all : (n m : ℕ) → (n < m) ⊎ (m ≤ n)
low_or_all n zero = inr (omega arith)
low_or_all zero (suc m) = inl (omega arith)
low_or_all (suc n) (suc m) = elim (low_or_all n m) [ inl below ↦ inl (omega arith) | inr all ↦ inr (omega arith) ]

-- So a step leads on what stood.
pub record PlaceLeads {D : Type 0} (place : MasterPlace D) (prepared d e : Durable) : Type 0 where
  pub since : is_ordinary e.phase ≡ false → IsSince prepared e
  pub names : is_rolling d.phase ≡ true → is_ordinary e.phase ≡ true → e.names ≡ prepared.names
  pub restored : is_rolling d.phase ≡ true → is_ordinary e.phase ≡ true → (m : MasterOf D) × (place ≡ Standing m) × AreRestored m.state prepared × AreGiven m.state prepared e

module _ {D : Type 0} (x : Setup D) where
  pub steady_at : (place : MasterPlace D) (m : MasterOf D) → place ≡ Standing m → LastsSteady x.seen place → StandsSteady x.seen m
  steady_at place m at h = subst (LastsSteady x.seen) at h

  pub has_at : (place : MasterPlace D) (m : MasterOf D) (d : Durable) → place ≡ Standing m → HasDurable x.seen place d → d ≡ m.state.durable
  has_at place m d at has = sym (subst (λ p. HasDurable x.seen p d) at has)

  stays_led : (place : MasterPlace D) (prepared d e : Durable) → IsSince prepared e → PlaceLeads place prepared d e
  stays_led place prepared d e k = record { since = λ off. k; names = λ r o. absurd (false≢true (sym k.stands ∙ o)); restored = λ r o. absurd (false≢true (sym k.stands ∙ o)) }

  led : (place : MasterPlace D) (m : MasterOf D) (prepared d e n : Durable) → place ≡ Standing m → d ≡ m.state.durable → e ≡ n → GoesOnSince m.state prepared n → PlaceLeads place prepared d e
  led place m prepared d e n at dm en lead = record {
    since = λ off. subst (IsSince prepared) (sym en) (lead.since (sym (ap (λ (z : Durable). is_ordinary z.phase) en) ∙ off));
    names = λ r o. ap (λ (z : Durable). z.names) en ∙ lead.names (rolling r) (ordinary o);
    restored = λ r o. (m, at, lead.restored (rolling r) (ordinary o), subst (AreGiven m.state prepared) (sym en) (lead.given (rolling r) (ordinary o)));
  }
    where
      rolling : is_rolling d.phase ≡ true → is_rolling m.state.durable.phase ≡ true
      rolling r = sym (ap (λ (z : Durable). is_rolling z.phase) dm) ∙ r

      ordinary : is_ordinary e.phase ≡ true → is_ordinary n.phase ≡ true
      ordinary o = sym (ap (λ (z : Durable). is_ordinary z.phase) en) ∙ o

  pub leads : (step : Step) (sent : Sent) (said : Result (Unit {0}) Refusal) (place new : MasterPlace D) (prepared d e : Durable) → Became x.seen step sent said place new → HasDurable x.seen place d → HasDurable x.seen new e → IsSince prepared d → PlaceLeads place prepared d e
  leads step sent said place new prepared d e (Stays m after at to is refused calm) dk ek s =
      stays_led place prepared d e (subst (IsSince prepared) (has_at place m d at dk ∙ sym (ap (λ (z : State). z.durable) is) ∙ sym (has_at new after e to ek)) s)
  leads step sent said place new prepared d e (Turns m after heard t at to turn written is hears calm) dk ek s =
      let dm = has_at place m d at dk in
      led place m prepared d e t.after.durable at dm (has_at new after e to ek ∙ ap (λ (z : State). z.durable) is) (turns_lead m.config heard m.state t prepared turn written (subst (IsSince prepared) dm s))
  leads step sent said place new prepared d e (Opened after f log has to is none again) dk ek s =
      stays_led place prepared d e (subst (IsSince prepared) (has_one x.seen place d f dk has ∙ sym (ap (λ (z : State). z.durable) is) ∙ sym (has_at new after e to ek)) s)
  leads step sent said place new prepared d e (Waits none f unheard) dk ek s = stays_led place prepared d e (subst (IsSince prepared) (has_one x.seen new d e (f d dk) ek) s)

  pub leads_all : {Holds : Type 0} (step : Step) (sent : Sent) (said : Result (Unit {0}) Refusal) (place new : MasterPlace D) (prepared d e : Durable) → BecameAll x.seen step sent said Holds place new → HasDurable x.seen place d → HasDurable x.seen new e → IsSince prepared d → PlaceLeads place prepared d e
  leads_all step sent said place new prepared d e (Whole b) dk ek s = leads step sent said place new prepared d e b dk ek s
  leads_all step sent said place new prepared d e (Loses m at none fails f) dk ek s = stays_led place prepared d e (subst (IsSince prepared) (has_one x.seen new d e (f d dk) ek) s)
  leads_all step sent said place new prepared d e (Cuts m heard t many f at none fails turn written low stand has handles) dk ek s = elim (low_or_all many (length t.records)) [
    | inl below ↦ stays_led place prepared d e (subst (IsSince prepared) same (cuts_lead m.config heard m.state t prepared many f turn written since below stand).since)
    | inr all ↦ led place m prepared d e t.after.durable at dm (sym same ∙ all_stand m.config heard m.state t turn written many f all stand) (turns_lead m.config heard m.state t prepared turn written since)
  ]
    where
      dm : d ≡ m.state.durable
      dm = has_at place m d at dk

      same : f ≡ e
      same = has_one x.seen new f e has ek

      since : IsSince prepared m.state.durable
      since = subst (IsSince prepared) dm s

  -- What is told keeps no upgrade, and no master stands that keeps it: so it is as long as none is opened.
  pub record IsOver (place : MasterPlace D) (e : Durable) : Type 0 where
    pub over : is_ordinary e.phase ≡ true
    pub none : (m : MasterOf D) → place ≡ Standing m → ⊥

  -- where no master stands behind it that keeps no upgrade, it stands on, or the upgrade is over
  stands_on : {Holds : Type 0} (step : Step) (sent : Sent) (said : Result (Unit {0}) Refusal) (place new : MasterPlace D) (prepared d e : Durable) → LastsSteady x.seen new → BecameAll x.seen step sent said Holds place new → HasDurable x.seen place d → HasDurable x.seen new e
      → IsSince prepared d → ((f : Durable) → MasterKeeps new f → is_ordinary f.phase ≡ false) → IsSince prepared e ⊎ IsOver new e
  stands_on {Holds} step sent said place new prepared d e h b dk ek s going = by_case b
    where
      since : is_ordinary e.phase ≡ false → IsSince prepared e
      since = (leads_all step sent said place new prepared d e b dk ek s).since

      at_master : (after : MasterOf D) → new ≡ Standing after → IsSince prepared e ⊎ IsOver new e
      at_master after to =
          let same = has_at new after e to ek in
          inl (since (ap (λ (z : Durable). is_ordinary z.phase) same ∙ going after.state.durable (subst (λ p. MasterKeeps p after.state.durable) (sym to) ((steady_at new after to h).firm.sound, refl))))

      by_phase : ((m : MasterOf D) → new ≡ Standing m → ⊥) → (o : Bool) → is_ordinary e.phase ≡ o → IsSince prepared e ⊎ IsOver new e
      by_phase none true over = inr (record { over = over; none = none })
      by_phase none false off = inl (since off)

      by_whole : Became x.seen step sent said place new → IsSince prepared e ⊎ IsOver new e
      by_whole (Stays m after at to is refused calm) = at_master after to
      by_whole (Turns m after heard t at to turn written is hears calm) = at_master after to
      by_whole (Opened after f log has to is none again) = at_master after to
      by_whole (Waits none f unheard) = by_phase none (is_ordinary e.phase) refl

      by_case : BecameAll x.seen step sent said Holds place new → IsSince prepared e ⊎ IsOver new e
      by_case (Whole b) = by_whole b
      by_case (Loses m at none fails f) = by_phase none (is_ordinary e.phase) refl
      by_case (Cuts m heard t many f at none fails turn written low stand has handles) = by_phase none (is_ordinary e.phase) refl

  -- and one that is over stays so
  over_on : {Holds : Type 0} (step : Step) (sent : Sent) (said : Result (Unit {0}) Refusal) (place new : MasterPlace D) (d e : Durable) → LastsSteady x.seen new → BecameAll x.seen step sent said Holds place new → HasDurable x.seen place d → HasDurable x.seen new e
      → IsOver place d → ((f : Durable) → MasterKeeps new f → is_ordinary f.phase ≡ false) → IsOver new e
  over_on step sent said place new d e h (Whole (Stays m after at to is refused calm)) dk ek o going = absurd (o.none m at)
  over_on step sent said place new d e h (Whole (Turns m after heard t at to turn written is hears calm)) dk ek o going = absurd (o.none m at)
  over_on step sent said place new d e h (Whole (Opened after f log has to is none again)) dk ek o going =
      let same : after.state.durable ≡ d = ap (λ (z : State). z.durable) is ∙ has_one x.seen place f d has dk in
      absurd (false≢true (sym (going after.state.durable (subst (λ p. MasterKeeps p after.state.durable) (sym to) ((steady_at new after to h).firm.sound, refl))) ∙ ap (λ (z : Durable). is_ordinary z.phase) same ∙ o.over))
  over_on step sent said place new d e h (Whole (Waits none f unheard)) dk ek o going = record { over = ap (λ (z : Durable). is_ordinary z.phase) (sym (has_one x.seen new d e (f d dk) ek)) ∙ o.over; none = none }
  over_on step sent said place new d e h (Loses m at none fails f) dk ek o going = absurd (o.none m at)
  over_on step sent said place new d e h (Cuts m heard t many f at none fails turn written low stand has handles) dk ek o going = absurd (o.none m at)

  -- what leads from an ordinary phase to another is a prepare
  pub begins_upgrade : (step : Step) (sent : Sent) (said : Result (Unit {0}) Refusal) (place new : MasterPlace D) (d e : Durable) → LastsSteady x.seen place → Became x.seen step sent said place new → HasDurable x.seen place d → HasDurable x.seen new e
      → is_ordinary d.phase ≡ true → is_ordinary e.phase ≡ false → (is_upgrade e.phase ≡ true) × IsSince e e
  begins_upgrade step sent said place new d e h b dk ek ordinary other = by_case b
    where
      not_same : e ≡ d → (is_upgrade e.phase ≡ true) × IsSince e e
      not_same same = absurd (true≢false (sym ordinary ∙ sym (ap (λ (z : Durable). is_ordinary z.phase) same) ∙ other))

      by_case : Became x.seen step sent said place new → (is_upgrade e.phase ≡ true) × IsSince e e
      by_case (Stays m after at to is refused calm) = not_same (has_at new after e to ek ∙ ap (λ (z : State). z.durable) is ∙ sym (has_at place m d at dk))
      by_case (Turns m after heard t at to turn written is hears calm) =
          let en : e ≡ t.after.durable = has_at new after e to ek ∙ ap (λ (z : State). z.durable) is in
          subst (λ (z : Durable). (is_upgrade z.phase ≡ true) × IsSince z z) (sym en)
          (turns_begin m.config heard m.state t turn written (steady_at place m at h).steady.firm.stands.kept (sym (ap (λ (z : Durable). is_ordinary z.phase) (has_at place m d at dk)) ∙ ordinary)
          (sym (ap (λ (z : Durable). is_ordinary z.phase) en) ∙ other))
      by_case (Opened after f log has to is none again) = not_same (has_at new after e to ek ∙ ap (λ (z : State). z.durable) is ∙ has_one x.seen place f d has dk)
      by_case (Waits none f unheard) = not_same (has_one x.seen new e d ek (f d dk))

  pub begins_upgrade_all : {Holds : Type 0} (step : Step) (sent : Sent) (said : Result (Unit {0}) Refusal) (place new : MasterPlace D) (d e : Durable) → LastsSteady x.seen place → BecameAll x.seen step sent said Holds place new → HasDurable x.seen place d → HasDurable x.seen new e
      → is_ordinary d.phase ≡ true → is_ordinary e.phase ≡ false → (is_upgrade e.phase ≡ true) × IsSince e e
  begins_upgrade_all step sent said place new d e h (Whole b) dk ek ordinary other = begins_upgrade step sent said place new d e h b dk ek ordinary other
  begins_upgrade_all step sent said place new d e h (Loses m at none fails f) dk ek ordinary other =
      absurd (true≢false (sym ordinary ∙ ap (λ (z : Durable). is_ordinary z.phase) (has_one x.seen new d e (f d dk) ek) ∙ other))
  begins_upgrade_all step sent said place new d e h (Cuts m heard t many f at none fails turn written low stand has handles) dk ek ordinary other = elim (part_stands m.config heard m.state t turn written many f stand) [
    | inl within ↦ absurd (true≢false (sym (within.ordinary was) ∙ ap (λ (z : Durable). is_ordinary z.phase) same ∙ other))
    | inr whole ↦ subst (λ (z : Durable). (is_upgrade z.phase ≡ true) × IsSince z z) (sym whole ∙ same)
        (turns_begin m.config heard m.state t turn written (steady_at place m at h).steady.firm.stands.kept was (ap (λ (z : Durable). is_ordinary z.phase) (sym whole ∙ same) ∙ other))
  ]
    where
      same : f ≡ e
      same = has_one x.seen new f e has ek

      was : is_ordinary m.state.durable.phase ≡ true
      was = sym (ap (λ (z : Durable). is_ordinary z.phase) (has_at place m d at dk)) ∙ ordinary

  pub begins : {Holds : Type 0} (step : Step) (sent : Sent) (said : Result (Unit {0}) Refusal) (place new : MasterPlace D) (d e : Durable) → LastsSteady x.seen place → BecameAll x.seen step sent said Holds place new → HasDurable x.seen place d → HasDurable x.seen new e
      → is_ordinary d.phase ≡ true → is_ordinary e.phase ≡ false → IsSince e e
  begins step sent said place new d e h b dk ek ordinary other = (begins_upgrade_all step sent said place new d e h b dk ek ordinary other).1

  -- a sound master has what it keeps
  pub keeps_has : (place : MasterPlace D) (d : Durable) → MasterKeeps place d → HasDurable x.seen (as_left place) d
  keeps_has (Standing m) d (sound, is) = subst (λ p. HasDurable x.seen p d) (sym (left_sound x.seen m sound)) is
  keeps_has (Closed first second) d k = absurd k
  keeps_has Away d k = absurd k

  -- and stands
  pub keeps_stands : (place : MasterPlace D) (d : Durable) → MasterKeeps place d → (m : MasterOf D) × (as_left place ≡ Standing m)
  keeps_stands (Standing m) d (sound, is) = (m, left_sound x.seen m sound)
  keeps_stands (Closed first second) d k = absurd k
  keeps_stands Away d k = absurd k

  -- what is left keeps what is kept
  pub left_keeps : (place : MasterPlace D) (d : Durable) → MasterKeeps (as_left place) d → MasterKeeps place d
  left_keeps (Standing m) d k = by_fault (is_failed m.state.fault) refl k
    where
      by_fault : (b : Bool) → is_failed m.state.fault ≡ b → MasterKeeps (left_of b m) d → MasterKeeps (Standing m) d
      by_fault true failed k = absurd k
      by_fault false sound k = k
  left_keeps (Closed first second) d k = k
  left_keeps Away d k = k

-- ---- over many steps

-- What a prepare left stands in a world.
pub record StandsSo {D : Type 0} (x : Setup D) (prepared : Durable) (h : History D) : Type 0 where
  pub well : IsWell x h
  pub since : (e : Durable) → HasDurable x.seen (as_left h.nodes.master) e → IsSince prepared e

-- Or what is told keeps no upgrade, and no master stands that keeps it.
pub record OverSo {D : Type 0} (x : Setup D) (h : History D) : Type 0 where
  pub well : IsWell x h
  pub durable : Durable
  pub has : HasDurable x.seen (as_left h.nodes.master) durable
  pub over : IsOver x (as_left h.nodes.master) durable

module _ {D : Type 0} (x : Setup D) (given : IsGiven x) where
  -- over a step behind which no master stands that keeps no upgrade
  step_so : (prepared : Durable) (step : Step) (old mid : History D) → StepsWithin x step old mid → ((d : Durable) → MasterKeeps mid.nodes.master d → is_ordinary d.phase ≡ false) → StandsSo x prepared old → StandsSo x prepared mid ⊎ OverSo x mid
  step_so prepared step old mid one going s =
      let well = step_well x given step old mid s.well one in
      let had = has_durable x.seen (as_left old.nodes.master) (well_lasts x old s.well) in
      let has = has_durable x.seen (as_left mid.nodes.master) (well_lasts x mid well) in
      elim (stands_on x step old.sent (met_at x step old mid one.goes) (as_left old.nodes.master) (as_left mid.nodes.master) prepared had.0 has.0 (well_steady x mid well) (became x given step old mid s.well one) had.1 has.1 (s.since had.0 had.1)
      (λ f k. going f (left_keeps x mid.nodes.master f k))) [
        | inl since ↦ inl (record { well = well; since = λ e ek. subst (IsSince prepared) (has_one x.seen (as_left mid.nodes.master) has.0 e has.1 ek) since })
        | inr over ↦ inr (record { well = well; durable = has.0; has = has.1; over = over })
      ]

  over_so : (steps : List Step) (old new : History D) → RunsWithin x steps old new → OverSo x old → OverSo x new
  over_so [] old new is s = subst (OverSo x) (sym is) s
  over_so (step ∷ steps) old new (mid, one, going, rest) s =
      let well = step_well x given step old mid s.well one in
      let has = has_durable x.seen (as_left mid.nodes.master) (well_lasts x mid well) in
      over_so steps mid new rest (record {
        well = well;
        durable = has.0;
        has = has.1;
        over = over_on x step old.sent (met_at x step old mid one.goes) (as_left old.nodes.master) (as_left mid.nodes.master) s.durable has.0 (well_steady x mid well) (became x given step old mid s.well one) s.has has.1 s.over
            (λ f k. going f (left_keeps x mid.nodes.master f k));
      })

  -- where a master stands at the end it isn't over
  pub not_over : (h : History D) (d : Durable) → MasterKeeps h.nodes.master d → OverSo x h → ⊥
  not_over h d keeps s = (let m = keeps_stands x h.nodes.master d keeps in s.over.none m.0 m.1)

  -- so it isn't on the way
  pub next_so : (prepared : Durable) (step : Step) (old mid : History D) → StepsWithin x step old mid → ((d : Durable) → MasterKeeps mid.nodes.master d → is_ordinary d.phase ≡ false)
      → (steps : List Step) (new : History D) (last : Durable) → RunsWithin x steps mid new → MasterKeeps new.nodes.master last → StandsSo x prepared old → StandsSo x prepared mid
  next_so prepared step old mid one going steps new last rest keeps s = elim (step_so prepared step old mid one going s) [
    | inl stands ↦ stands
    | inr over ↦ absurd (not_over new last keeps (over_so steps mid new rest over))
  ]

  -- over steps behind none of which a master stands that keeps no upgrade, up to one that stands
  pub within_so : (prepared : Durable) (steps : List Step) (old new : History D) (last : Durable) → RunsWithin x steps old new → MasterKeeps new.nodes.master last → StandsSo x prepared old → StandsSo x prepared new
  within_so prepared [] old new last is keeps s = subst (StandsSo x prepared) (sym is) s
  within_so prepared (step ∷ steps) old new last (mid, one, going, rest) keeps s = within_so prepared steps mid new last rest keeps (next_so prepared step old mid one going steps new last rest keeps s)

  -- and in any world on the way
  pub way_so : (prepared : Durable) (steps : List Step) (old mid : History D) (more : List Step) (new : History D) (last : Durable) → RunsWithin x steps old mid → RunsWithin x more mid new → MasterKeeps new.nodes.master last → StandsSo x prepared old → StandsSo x prepared mid
  way_so prepared [] old mid more new last is rest keeps s = subst (StandsSo x prepared) (sym is) s
  way_so prepared (step ∷ steps) old mid more new last (next, one, going, on) rest keeps s = elim (step_so prepared step old next one going s) [
    | inl stands ↦ way_so prepared steps next mid more new last on rest keeps stands
    | inr over ↦ absurd (not_over new last keeps (over_so more mid new rest (over_so steps next mid on over)))
  ]

-- right behind an accepted prepare
pub stands_prepared : {D : Type 0} (x : Setup D) (prepared back : History D) (before last : Durable) → GoesBack x prepared back before last → StandsSo x before prepared
stands_prepared x prepared back before last goes =
    let given = goes.given in
    let old_well = bare_well x given goes.first goes.begun goes.old goes.runs (begins_well x given goes.begun goes.begins) in
    let well = step_well x given goes.step goes.old prepared old_well goes.steps in
    let phases = and_parts (is_ordinary goes.ordinary.phase) (is_upgrade before.phase) goes.accepted in
    let had = keeps_has x prepared.nodes.master before goes.keeps in
    let first = begins x goes.step goes.old.sent (met_at x goes.step goes.old prepared goes.steps.goes) (as_left goes.old.nodes.master) (as_left prepared.nodes.master) goes.ordinary before (well_steady x goes.old old_well) (became x given goes.step goes.old prepared old_well goes.steps)
    (keeps_has x goes.old.nodes.master goes.ordinary goes.stood) had phases.0 (upgrade_stands before.phase phases.1) in
    record { well = well; since = λ e has. subst (IsSince before) (has_one x.seen (as_left prepared.nodes.master) before e had has) first }

pub gives_names_back : {D : Type 0} (x : Setup D) → GivesNamesBack x
gives_names_back x prepared back before last goes =
    let given = goes.given in
    let so = within_so x given before goes.between prepared goes.now goes.rolling goes.rest goes.rolls (stands_prepared x prepared back before last goes) in
    let has = keeps_has x goes.now.nodes.master goes.rolling goes.rolls in
    let ends = and_parts (is_rolling goes.rolling.phase) (is_ordinary last.phase) goes.done in
    (leads_all x goes.commit goes.now.sent (met_at x goes.commit goes.now back goes.commits.goes) (as_left goes.now.nodes.master) (as_left back.nodes.master) before goes.rolling last (became x given goes.commit goes.now back so.well goes.commits) has
    (keeps_has x back.nodes.master last goes.ended) (so.since goes.rolling has)).names ends.0 ends.1
