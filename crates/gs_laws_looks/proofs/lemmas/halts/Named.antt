-- What the master's disks tell of the names while a client only looks.
use Rattle.std.proofs.Common.{◌≡◌, ◌∙◌, ◌⊎◌, inl, inr, ◌<◌, ℕ, zero, suc, Bool, true, false, List, [], ◌∷◌, length, Option, Some, None, refl, sym, ap, subst, arith}
use Rattle.std.specs.Prelude.{MatchBool, fold, is_some, option_and_then, take, unwrap_or}
use Rattle.std.proofs.lemmas.Bool.{false≢true}
use Rattle.gs_base.specs.declared.numbers.ClientId.{ClientId}
use Rattle.gs_base.specs.declared.numbers.Moment.{Moment}
use Rattle.gs_master.specs.Journaled.{text_seen}
use Rattle.gs_master.specs.Masters.{MasterOf}
use Rattle.gs_master.specs.Ticking.{lacking, pressed_all}
use Rattle.gs_msg.specs.declared.event.Happening.{Happening}
use Rattle.gs_msg.specs.declared.event.Happening.TheVariants as happenings
use Rattle.gs_msg.specs.declared.node.StoreNode.TheVariants as keepers
use Rattle.gs_master_record.specs.Plain.{PlainEntry}
use Rattle.gs_master_spec.specs.Applied.{applied, replayed}
use Rattle.gs_master_spec.specs.Durable.{Durable}
use Rattle.gs_master_spec.specs.Handling.{handle, tick}
use Rattle.gs_master_spec.specs.State.{State, Turn, is_failed, with_record}
use Rattle.gs_laws_master.proofs.lemmas.standing.StandingRuns.{events_fit, steps_fit}
use Rattle.gs_laws_master.specs.Standing.{Comes as Comes_to, IsFirm, Ticks as Ticks_at}
use Rattle.gs_laws_moves.proofs.lemmas.answers.Concerning.{ticks_concerned}
use Rattle.gs_nodes.specs.declared.place.MasterPlace.TheVariants.{Standing}
use Rattle.gs_world.specs.Histories.{History}
use Rattle.gs_laws_world.specs.lasting.Lasting.{HearsNamed}
use Rattle.gs_world.specs.Runs.{Comes, Step, Takes}
use Rattle.gs_laws_chunks.specs.answers.Resting.{IsStill, StandsStill, StandsStillAt}
use Rattle.gs_laws_chunks.proofs.lemmas.answers.Asked.{lacking_only}
use Rattle.gs_laws_chunks.proofs.lemmas.answers.Resting.{TurnStill, heard_still, nobody_still}
use Rattle.gs_laws_world.proofs.lemmas.steady.Through.{sound_tells, tells_once}
use Rattle.gs_laws_world.specs.steady.Steady.{StandsSteady, StepWithin, TellsSteady}
use Rattle.gs_laws_world.specs.steady.Through.{LastsThrough, TellsAt, TellsOn, Turns, TurnsAt}
use Rattle.gs_laws_looks.specs.halts.Unled.{HasNames}

-- ---- a master that is firm

pub firm_at : {D : Type 0} (seen : D → List ℕ) (m : MasterOf D) → LastsThrough seen (Standing m) → is_failed m.state.fault ≡ false → IsFirm m.state
firm_at seen m lasts sound = by_fault (is_failed m.state.fault) sound lasts
  where
    by_fault : (b : Bool) → b ≡ false → MatchBool b (TellsSteady (text_seen seen m.journal)) (StandsSteady seen m) → IsFirm m.state
    by_fault true is lasts = absurd (false≢true (sym is))
    by_fault false is lasts = lasts.firm.firm

-- ---- what records lead to

durable_is : {a b : Durable} → ◌≡◌ {A = Option Durable} (Some a) (Some b) → a ≡ b
durable_is is = cc

never : {Z : Type 0} {e : Durable} → ◌≡◌ {A = Option Durable} None (Some e) → Z
never is = absurd (false≢true (ap is_some is))

-- whichever fit
fold_told : (xs : List PlainEntry) (s : State) (e : Durable) → replayed s.durable xs ≡ Some e → (fold with_record s xs).durable ≡ e
fold_told [] s e fit = durable_is fit
fold_told (x ∷ xs) s e fit = by_first (applied s.durable x) refl fit (fold_told xs (with_record s x) e)
  where
    by_first : (o : Option Durable) → applied s.durable x ≡ o → option_and_then (λ n. replayed n xs) o ≡ Some e → (replayed (with_record s x).durable xs ≡ Some e → (fold with_record (with_record s x) xs).durable ≡ e) → (fold with_record (with_record s x) xs).durable ≡ e
    by_first None was h further = never h
    by_first (Some n) was h further = further (subst (λ (k : Durable). replayed k xs ≡ Some e) (sym (ap (λ o. unwrap_or o s.durable) was)) h)

-- some of them, or all
part_or_all : (many : ℕ) (xs : List PlainEntry) → (many < length xs) ⊎ (take many xs ≡ xs)
part_or_all zero [] = inr refl
part_or_all (suc many) [] = inr refl
part_or_all zero (x ∷ xs) = inl (omega arith)
part_or_all (suc many) (x ∷ xs) = one_more (part_or_all many xs)
  where
    one_more : (many < length xs) ⊎ (take many xs ≡ xs) → (suc many < length (x ∷ xs)) ⊎ (take (suc many) (x ∷ xs) ≡ x ∷ xs)
    one_more (inl below) = inl (omega arith)
    one_more (inr is) = inr (ap (λ ys. x ∷ ys) is)

module _ (d : Durable) (client : ClientId) (number : ℕ) where
  -- so many records of a turn that leaves the names
  names_by : (s : State) (t : Turn) → TurnStill d client number s t → replayed s.durable t.records ≡ Some t.after.durable → (many : ℕ) (e : Durable) → replayed s.durable (take many t.records) ≡ Some e → HasNames d e
  names_by s t so fits many e stand = by_part (part_or_all many t.records)
    where
      by_part : (many < length t.records) ⊎ (take many t.records ≡ t.records) → HasNames d e
      by_part (inl below) = (let is = fold_told (take many t.records) s e stand in record { names = ap (λ (x : Durable). x.names) (sym is) ∙ (so.cuts many below).names; epoch = ap (λ (x : Durable). x.epoch) (sym is) ∙ (so.cuts many below).epoch })
      by_part (inr all) =
          let is = durable_is (sym fits ∙ sym (ap (replayed s.durable) all) ∙ stand) in record { names = ap (λ (x : Durable). x.names) (sym is) ∙ so.after.names; epoch = ap (λ (x : Durable). x.epoch) (sym is) ∙ so.after.epoch }

  module _ {D : Type 0} (seen : D → List ℕ) (failures : D → ℕ) where
    -- ---- a turn of a master

    turn_names : (moment : Moment) (happening : Happening) (old : History D) (m : MasterOf D) (t : Turn) → IsStill d client number old → HearsNamed moment happening old → StandsStill d client number m.state → IsFirm m.state → Turns moment happening old m t → (many : ℕ) (e : Durable)
        → replayed m.state.durable (take many t.records) ≡ Some e → HasNames d e
    turn_names moment (happenings.Deliver id) old m t f named so firm (message, was, to, is) many e =
        subst (λ (u : Turn). replayed m.state.durable (take many u.records) ≡ Some e → HasNames d e) (sym is)
        (names_by m.state (handle m.config m.state message moment) (heard_still d client number m.config m.state message moment message.body refl (f.sent id message was) so) (events_fit m.config m.state (Comes_to message moment) (named message was to) firm).fits many e)
    turn_names moment (happenings.Tick keepers.Master) old m t f named so firm (inl is) many e =
        subst (λ (u : Turn). replayed m.state.durable (take many u.records) ≡ Some e → HasNames d e) (sym is)
        (names_by m.state (tick m.state moment) (nobody_still d client number m.state (tick m.state moment) (ticks_concerned m.state moment) so) (events_fit m.config m.state (Ticks_at moment) tt firm).fits many e)
    turn_names moment (happenings.Tick keepers.Master) old m t f named so firm (inr is) many e =
        subst (λ (u : Turn). replayed m.state.durable (take many u.records) ≡ Some e → HasNames d e) (sym is)
        (names_by m.state (lacking (pressed_all m.state moment)) (nobody_still d client number m.state (lacking (pressed_all m.state moment)) (lacking_only seen failures (λ r. ⊥) m.state moment) so) (steps_fit m.state moment firm) many e)
    turn_names moment (happenings.Tick (keepers.Server id)) old m t f named so firm turns many e = absurd turns
    turn_names moment (happenings.Ask req request) old m t f named so firm turns many e = absurd turns
    turn_names moment (happenings.Beat id) old m t f named so firm turns many e = absurd turns
    turn_names moment (happenings.Restart node) old m t f named so firm turns many e = absurd turns
    turn_names moment (happenings.Lose id handle) old m t f named so firm turns many e = absurd turns
    turn_names moment (happenings.Damage id handle block) old m t f named so firm turns many e = absurd turns
    turn_names moment (happenings.FailDisk disk call) old m t f named so firm turns many e = absurd turns

    at_names : (step : Step) (old : History D) (m : MasterOf D) (t : Turn) → IsStill d client number old → StepWithin step old → StandsStill d client number m.state → IsFirm m.state → TurnsAt step old m t → (many : ℕ) (e : Durable)
        → replayed m.state.durable (take many t.records) ≡ Some e → HasNames d e
    at_names (Comes event) old m t f may so firm turns many e = turn_names event.moment event.happening old m t f may.0 so firm turns many e
    at_names (Takes other) old m t f may so firm turns many e = absurd turns

    -- what is told behind a step
    pub names_on : (step : Step) (old : History D) (was now : Durable) → IsStill d client number old → StepWithin step old → LastsThrough seen old.nodes.master → TellsAt seen old.nodes.master was → HasNames d was → TellsOn (TurnsAt step old) old.nodes.master was now → HasNames d now
    names_on step old was now f may lasts tells named (inl same) = subst (HasNames d) (sym same) named
    names_on step old was now f may lasts tells named (inr part) =
        let m = part.master in
        let stays = subst (LastsThrough seen) part.place lasts in
        let same = tells_once seen failures (Standing m) was m.state.durable (subst (λ p. TellsAt seen p was) part.place tells) (sound_tells seen failures m part.sound stays) in
        at_names step old m part.turn f may (subst (StandsStillAt d client number) part.place f.master) (firm_at seen m stays part.sound) part.made part.many now (subst (λ (x : Durable). replayed x (take part.many part.turn.records) ≡ Some now) same part.stand)
