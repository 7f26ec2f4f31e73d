-- How epochs go on within an upgrade, and how one is continued by a step.
use Rattle.std.proofs.Common.{◌≡◌, ◌∙◌, ◌++◌, ◌≤◌, ◌&&◌, ◌==◌, inl, inr, ℕ, true, false, List, [], ◌∷◌, Option, Some, None, Result, refl, sym, ap, subst, arith}
use Rattle.std.specs.Prelude.{is_some}
use Rattle.std.specs.FinMap as fin
use Rattle.std.proofs.lemmas.Bool.{false≢true, true≢false}
use Rattle.gs_base.specs.declared.refusal.Refusal.{Refusal}
use Rattle.gs_edit.specs.View.{NamesView}
use Rattle.gs_laws_master.proofs.lemmas.upgrades.Beginnings.{fits_gives}
use Rattle.gs_laws_moves.proofs.lemmas.moves.Epochs.{epochs_go}
use Rattle.gs_laws_moves.proofs.lemmas.moves.Stands.{once_stands}
use Rattle.gs_laws_moves.specs.moves.Epochs.{Begun, Committed, EpochGoes, Finalized, Prepared, Stays as StaysSo}
use Rattle.gs_master_record.specs.Plain.{RollbackCommit}
use Rattle.gs_master_record.specs.declared.entry.Answered.{Answered}
use Rattle.gs_master_spec.specs.Applied.{after_undoing, applied, are_answers, rolled_back}
use Rattle.gs_master_spec.specs.Durable.{Durable, is_ordinary, is_rolling, prepared_view}
use Rattle.gs_master_spec.specs.State.{State}
use Rattle.gs_master_spec.specs.Undoing.{all_undone}
use Rattle.gs_nodes.specs.declared.place.MasterPlace.{MasterPlace}
use Rattle.gs_world.specs.Histories.{History}
use Rattle.gs_world.specs.Runs.{Step}
use Rattle.gs_world.specs.Sent.{Sent}
use Rattle.gs_laws_chunks.specs.accounts.Accounts.{Account}
use Rattle.gs_laws_chunks.specs.accounts.Running.{Moves, Setup}
use Rattle.gs_laws_chunks.specs.accounts.Upgrading.{IsUpgrading, RunsUpgraded}
use Rattle.gs_laws_world.specs.steady.Steady.{LastsSteady}
use Rattle.gs_laws_lift.specs.stores.Doing.{HasDurable}
use Rattle.gs_laws_chunks.proofs.lemmas.accounts.Became.{Became, BecameAll, Cuts, Loses, Opened, Stays, Turns, Waits, Whole, has_one}
use Rattle.gs_laws_chunks.proofs.lemmas.accounts.Cutting.{part_stands}
use Rattle.gs_laws_chunks.proofs.lemmas.accounts.Leading.{has_at, steady_at}

-- ---- the commit of a rollback

commit_ordinary : (d next : Durable) (epoch : ℕ) (answers : List Answered) (names : Option NamesView) → after_undoing d epoch answers names ≡ Some next → is_ordinary next.phase ≡ true
commit_ordinary d next epoch answers None fit = absurd (false≢true (ap is_some fit))
commit_ordinary d next epoch answers (Some names) fit =
    ap (λ (x : Durable). is_ordinary x.phase) (sym (fits_gives (is_rolling d.phase && ((epoch == d.epoch) && are_answers (prepared_view d) (fin.entries names.refs) answers)) (rolled_back d answers names) next fit).1)

-- behind it no upgrade stands
pub committed_ordinary : (d next : Durable) (epoch : ℕ) (answers : List Answered) → applied d (RollbackCommit epoch answers) ≡ Some next → is_ordinary next.phase ≡ true
unfolding applied
committed_ordinary d next epoch answers fit = commit_ordinary d next epoch answers (all_undone d.inverses d.names) fit

-- ---- epochs

-- within an upgrade epochs rise, and where one stands, so does the phase
pub record RisesTo (d e : Durable) : Type 0 where
  pub rises : d.epoch ≤ e.epoch
  pub stays : d.epoch ≡ e.epoch → e.phase ≡ d.phase

pub same_rises : (d e : Durable) → e ≡ d → RisesTo d e
same_rises d e same = (let epoch = ap (λ (x : Durable). x.epoch) same in record { rises = omega arith; stays = λ at. ap (λ (x : Durable). x.phase) same })

rises : (d e : Durable) → EpochGoes d e → is_ordinary d.phase ≡ false → is_ordinary e.phase ≡ false → RisesTo d e
rises d e (StaysSo epoch phase) was is = record { rises = omega arith; stays = λ at. phase }
rises d e (Prepared epoch before phase unchanged none) was is = absurd (true≢false (sym (ap is_ordinary before) ∙ was))
rises d e (Finalized epoch before phase end) was is = absurd (true≢false (sym (ap is_ordinary phase) ∙ is))
rises d e (Begun epoch before phase end) was is = record { rises = omega arith; stays = λ at. absurd (omega arith) }
rises d e (Committed epoch before phase) was is = absurd (true≢false (sym (ap is_ordinary phase) ∙ is))

pub then_rises : (d e f : Durable) → RisesTo d e → RisesTo e f → RisesTo d f
then_rises d e f a b = (let one = a.rises in let two = b.rises in record { rises = omega arith; stays = λ at. b.stays (omega arith) ∙ a.stays (omega arith) })

module _ {D : Type 0} (x : Setup D) where
  pub place_rises : (step : Step) (sent : Sent) (said : Result (Unit {0}) Refusal) (place new : MasterPlace D) (d e : Durable) → LastsSteady x.seen place → Became x.seen step sent said place new → HasDurable x.seen place d → HasDurable x.seen new e
      → is_ordinary d.phase ≡ false → is_ordinary e.phase ≡ false → RisesTo d e
  place_rises step sent said place new d e h (Stays m after at to is refused calm) dk ek was next = same_rises d e (has_at x new after e to ek ∙ ap (λ (z : State). z.durable) is ∙ sym (has_at x place m d at dk))
  place_rises step sent said place new d e h (Turns m after heard t at to turn written is hears calm) dk ek was next =
      let goes = epochs_go m.config heard m.state t (once_stands m.config heard m.state t turn written (steady_at x place m at h).steady.firm.stands.kept).turn in
      rises d e (subst (λ z. EpochGoes z e) (sym (has_at x place m d at dk)) (subst (EpochGoes m.state.durable) (sym (has_at x new after e to ek ∙ ap (λ (z : State). z.durable) is)) goes)) was next
  place_rises step sent said place new d e h (Opened after f log has to is none again) dk ek was next = same_rises d e (has_at x new after e to ek ∙ ap (λ (z : State). z.durable) is ∙ has_one x.seen place f d has dk)
  place_rises step sent said place new d e h (Waits none f unheard) dk ek was next = same_rises d e (has_one x.seen new e d ek (f d dk))

  pub place_rises_all : {Holds : Type 0} (step : Step) (sent : Sent) (said : Result (Unit {0}) Refusal) (place new : MasterPlace D) (d e : Durable) → LastsSteady x.seen place → BecameAll x.seen step sent said Holds place new → HasDurable x.seen place d → HasDurable x.seen new e
      → is_ordinary d.phase ≡ false → is_ordinary e.phase ≡ false → RisesTo d e
  place_rises_all step sent said place new d e h (Whole b) dk ek was next = place_rises step sent said place new d e h b dk ek was next
  place_rises_all step sent said place new d e h (Loses m at none fails f) dk ek was next = same_rises d e (has_one x.seen new e d ek (f d dk))
  place_rises_all step sent said place new d e h (Cuts m heard t many f at none fails turn written low stand has handles) dk ek was next = elim (part_stands m.config heard m.state t turn written many f stand) [
    | inl within ↦ subst (λ z. RisesTo z e) (sym dm) (subst (RisesTo m.state.durable) same (record { rises = within.rises; stays = within.stays }))
    | inr whole ↦
        let goes = epochs_go m.config heard m.state t (once_stands m.config heard m.state t turn written (steady_at x place m at h).steady.firm.stands.kept).turn in
        rises d e (subst (λ z. EpochGoes z e) (sym dm) (subst (EpochGoes m.state.durable) (sym whole ∙ same) goes)) was next
  ]
    where
      dm : d ≡ m.state.durable
      dm = has_at x place m d at dk

      same : f ≡ e
      same = has_one x.seen new f e has ek

  -- ---- an upgrade and a step more

  upgraded_on : (steps : List Step) (old mid new : History D) (a b c : Account) (step : Step) → RunsUpgraded x steps old a mid b → Moves x step mid b new c → is_ordinary c.durable.phase ≡ false → RunsUpgraded x (steps ++ step ∷ []) old a new c
  upgraded_on [] old mid new a b c step (is, same) moves going =
      (new, c, subst (λ h. Moves x step h a new c) is (subst (λ k. Moves x step mid k new c) same moves), going, (refl, refl))
  upgraded_on (first ∷ steps) old mid new a b c step (next, k, one, stands, rest) moves going = (next, k, one, stands, upgraded_on steps next mid new k b c step rest moves going)

  pub upgrading_on : (prepared mid new : History D) (before b c : Account) (step : Step) → IsUpgrading x prepared before mid b → Moves x step mid b new c → is_ordinary c.durable.phase ≡ false → IsUpgrading x prepared before new c
  upgrading_on prepared mid new before b c step up moves going = record {
    old = up.old;
    first = up.first;
    reached = up.reached;
    step = up.step;
    moves = up.moves;
    accepted = up.accepted;
    steps = up.steps ++ step ∷ [];
    runs = upgraded_on up.steps prepared mid new before b c step up.runs moves going;
  }
