-- Epochs tell which upgrade stands.
use Rattle.std.proofs.Common.{◌≡◌, ◌∙◌, ◌≤◌, ◌⊎◌, inl, inr, ◌+◌, ◌==◌, ℕ, Bool, true, false, List, [], ◌∷◌, refl, sym, ap, arith}
use Rattle.std.proofs.lemmas.Bool.{false≢true}
use Rattle.std.proofs.lemmas.Bool.Decides.{nat_tests}
use Rattle.gs_master_record.specs.declared.checkpoint.Phase.{Phase}
use Rattle.gs_master_record.specs.declared.checkpoint.Phase.TheVariants.{Ordinary, Upgrade, Rolling}
use Rattle.gs_master_spec.specs.Durable.{Durable, is_ordinary, is_rolling, is_upgrade}
use Rattle.gs_world.specs.Histories.{History}
use Rattle.gs_world.specs.Runs.{Step}
use Rattle.gs_laws_chunks.specs.accounts.Back.{RunsWithinBy}
use Rattle.gs_laws_chunks.specs.accounts.Rising.{EpochRises, EpochsNeverFall}
use Rattle.gs_laws_chunks.specs.accounts.Running.{IsGiven, IsToldAt, RunsBare, Setup}
use Rattle.gs_laws_chunks.proofs.lemmas.accounts.Through.{told_there}
use Rattle.gs_laws_chunks.proofs.lemmas.accounts.Well.{IsWell, step_well}

not_both : (phase : Phase) → is_rolling phase ≡ true → is_ordinary phase ≡ true → ⊥
not_both Ordinary rolling ordinary = false≢true rolling
not_both Upgrade rolling ordinary = false≢true rolling
not_both Rolling rolling ordinary = false≢true ordinary

pub same_rising : (d : Durable) → EpochRises d d
same_rising d = record { rises = omega arith; stays = λ same. inl refl }

then_rising : (d e f : Durable) → EpochRises d e → EpochRises e f → EpochRises d f
then_rising d e f a b = (let one = a.rises in let two = b.rises in record { rises = omega arith; stays = λ at. by (a.stays (omega arith)) (b.stays (omega arith)) })
  where
    by : (e.phase ≡ d.phase) ⊎ ((is_rolling d.phase ≡ true) × (is_ordinary e.phase ≡ true)) → (f.phase ≡ e.phase) ⊎ ((is_rolling e.phase ≡ true) × (is_ordinary f.phase ≡ true)) → (f.phase ≡ d.phase) ⊎ ((is_rolling d.phase ≡ true) × (is_ordinary f.phase ≡ true))
    by (inl p) (inl q) = inl (q ∙ p)
    by (inl p) (inr q) = inr (ap is_rolling (sym p) ∙ q.0, q.1)
    by (inr p) (inl q) = inr (p.0, ap is_ordinary q ∙ p.1)
    by (inr p) (inr q) = absurd (not_both e.phase q.0 p.1)

-- Between a prepare, and its rollback that is begun in the next epoch, an upgrade stands.
pub stands_between : (before mid rolling : Durable) → is_upgrade before.phase ≡ true → is_rolling rolling.phase ≡ true → rolling.epoch ≡ before.epoch + 1 → EpochRises before mid → EpochRises mid rolling → is_ordinary mid.phase ≡ false
stands_between before mid rolling upgrade rolls next a b = by_epoch (mid.epoch == before.epoch) refl
  where
    off : (phase : Phase) → is_upgrade phase ≡ true → is_ordinary phase ≡ false
    off Ordinary is = absurd (false≢true is)
    off Upgrade is = refl
    off Rolling is = absurd (false≢true is)

    rolls_off : (phase : Phase) → is_rolling phase ≡ true → is_ordinary phase ≡ false
    rolls_off Ordinary is = absurd (false≢true is)
    rolls_off Upgrade is = absurd (false≢true is)
    rolls_off Rolling is = refl

    no_roll : (phase : Phase) → is_upgrade phase ≡ true → is_rolling phase ≡ true → ⊥
    no_roll Ordinary up rolls = false≢true up
    no_roll Upgrade up rolls = false≢true rolls
    no_roll Rolling up rolls = false≢true up

    first : (mid.phase ≡ before.phase) ⊎ ((is_rolling before.phase ≡ true) × (is_ordinary mid.phase ≡ true)) → is_ordinary mid.phase ≡ false
    first (inl p) = ap is_ordinary p ∙ off before.phase upgrade
    first (inr q) = absurd (no_roll before.phase upgrade q.0)

    second : (rolling.phase ≡ mid.phase) ⊎ ((is_rolling mid.phase ≡ true) × (is_ordinary rolling.phase ≡ true)) → is_ordinary mid.phase ≡ false
    second (inl p) = rolls_off mid.phase (ap is_rolling (sym p) ∙ rolls)
    second (inr q) = absurd (not_both rolling.phase rolls q.1)

    same : (m n : ℕ) → (m == n) ≡ true → n ≡ m
    same m n is = grind (arith, nat_tests)

    apart : (m n k : ℕ) → (m == n) ≡ false → n ≤ m → m ≤ k → k ≡ n + 1 → m ≡ k
    apart m n k other low high is = grind (arith, nat_tests)

    by_epoch : (b : Bool) → (mid.epoch == before.epoch) ≡ b → is_ordinary mid.phase ≡ false
    by_epoch true is = first (a.stays (same mid.epoch before.epoch is))
    by_epoch false is = second (b.stays (apart mid.epoch before.epoch rolling.epoch is a.rises b.rises next))

module _ {D : Type 0} (x : Setup D) (law : EpochsNeverFall x) (given : IsGiven x) (before rolling : Durable) (upgrade : is_upgrade before.phase ≡ true) (rolls : is_rolling rolling.phase ≡ true) (next : rolling.epoch ≡ before.epoch + 1) where
  -- So one stands behind each step.
  pub all_between : (steps : List Step) (old new : History D) (d : Durable) → RunsBare x steps old new → IsWell x old → IsToldAt x.seen old.nodes.master d → EpochRises before d → IsToldAt x.seen new.nodes.master rolling → RunsWithinBy x (IsToldAt x.seen) steps old new
  all_between [] old new d is well told so then = is
  all_between (step ∷ steps) old new d (mid, one, rest) well told so then =
      let behind = step_well x given step old mid well one in
      let at = told_there x.seen mid.nodes.master behind.steady in (
        mid,
        one,
        λ e there.
            stands_between before e rolling upgrade rolls next (then_rising before d e so (law given (step ∷ []) old mid d e (mid, one, refl) well.types well.steady told there)) (law given steps mid new e rolling rest behind.types behind.steady there then),
        all_between steps mid new at.0 rest behind at.1 (then_rising before d at.0 so (law given (step ∷ []) old mid d at.0 (mid, one, refl) well.types well.steady told at.1)) then,
      )
