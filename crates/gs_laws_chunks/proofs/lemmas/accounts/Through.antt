-- The disks of the master tell something in each world of a run, whatever disks fail, so there is an account.
use Rattle.std.proofs.Common.{◌≡◌, ◌∙◌, Bool, List, [], ◌∷◌, false, true, length, refl, ap, subst, sym}
use Rattle.std.specs.Prelude.{MatchBool, ℕ}
use Rattle.gs_journal.specs.Records.{Text, generation_of, standing}
use Rattle.gs_master.specs.Journaled.{text_seen}
use Rattle.gs_master.specs.Masters.{MasterOf, with_journal}
use Rattle.gs_journal.specs.Journal.{State as Journal, counting, text_size}
use Rattle.gs_master_spec.specs.Durable.{Durable}
use Rattle.gs_master_spec.specs.State.{is_failed}
use Rattle.gs_nodes.specs.declared.place.MasterPlace.{MasterPlace}
use Rattle.gs_nodes.specs.declared.place.MasterPlace.TheVariants.{Standing, Closed, Away}
use Rattle.gs_world.specs.Histories.{History}
use Rattle.gs_laws_world.specs.lasting.Lasting.{IsToldIn, StandsFirm}
use Rattle.gs_world.specs.Runs.{Step}
use Rattle.gs_laws_chunks.specs.accounts.Accounts.{Account, first_account}
use Rattle.gs_laws_chunks.specs.accounts.Moving.{account_behind}
use Rattle.gs_laws_chunks.specs.accounts.Running.{HaveAccounts, IsArmed, IsGiven, IsSeenAlike, IsToldAt, Runs, RunsBare, Setup, StepsWithin}
use Rattle.gs_laws_world.proofs.lemmas.steady.Keeping.{begins_keeping, step_keeps, step_within}
use Rattle.gs_laws_world.proofs.lemmas.steady.Through.{begins_through, step_on, tells_some}
use Rattle.gs_laws_world.specs.steady.Saying.{KeepsTypes}
use Rattle.gs_laws_world.specs.steady.Steady.{StandsSteady, TellsSteady}
use Rattle.gs_laws_world.specs.steady.Through.{LastsThrough, TellsAt}

module _ {D : Type 0} (seen : D → List ℕ) where
  abbrev By : MasterOf D → Bool → Type 0
  By m failed = MatchBool failed (TellsSteady (text_seen seen m.journal)) (StandsSteady seen m)

  -- the same is seen of the disks
  text_alike : (old new : Journal D) → IsSeenAlike seen old new → text_seen seen new ≡ text_seen seen old
  text_alike old new alike = ap (λ s. standing s (seen new.second)) alike.first ∙ ap (standing (seen old.first)) alike.second

  counts_alike : (old new : Journal D) → IsSeenAlike seen old new → counting (seen new.first) (seen new.second) ≡ counting (seen old.first) (seen old.second)
  counts_alike old new alike = ap (λ s. counting s (seen new.second)) alike.first ∙ ap (counting (seen old.first)) alike.second

  firm_alike : (m : MasterOf D) (j : Journal D) → IsSeenAlike seen m.journal j → StandsFirm seen m → StandsFirm seen (with_journal m j)
  firm_alike m j alike h = record {
    sound = h.sound;
    firm = h.firm;
    as_seen = record {
      text = text_alike m.journal j alike ∙ h.as_seen.text ∙ sym (ap (λ (k : Journal D). k.text) alike.others);
      size = ap length (counts_alike m.journal j alike) ∙ h.as_seen.size ∙ sym (ap (λ (k : Journal D). k.size) alike.others);
      generation = ap generation_of (counts_alike m.journal j alike) ∙ h.as_seen.generation ∙ sym (ap (λ (k : Journal D). k.generation) alike.others);
      whole = ap (λ (k : Journal D). k.size) alike.others ∙ h.as_seen.whole ∙ sym (ap (λ (k : Journal D). text_size k.text) alike.others);
    };
    known = record {
      is_open = ap (λ (k : Journal D). k.is_failed) alike.others ∙ h.known.is_open;
      size = h.known.size ∙ sym (ap (λ (k : Journal D). k.size) alike.others);
      limit = h.known.limit ∙ sym (ap (λ (k : Journal D). k.limit) alike.others);
      generation = h.known.generation ∙ sym (ap (λ (k : Journal D). k.generation) alike.others);
    };
    told = subst (λ (t : Text). IsToldIn t m.state.durable) (sym (ap (λ (k : Journal D). k.text) alike.others)) h.told;
  }

  both_alike : (first second other another : D) → seen other ≡ seen first → seen another ≡ seen second → standing (seen other) (seen another) ≡ standing (seen first) (seen second)
  both_alike first second other another one two = ap (λ s. standing s (seen another)) one ∙ ap (standing (seen first)) two

  -- a failure that is arranged changes nothing of what stands and is told
  pub arming_through : (place new : MasterPlace D) → IsArmed seen place new → LastsThrough seen place → LastsThrough seen new
  arming_through (Standing m) new (j, is, alike) h = subst (LastsThrough seen) (sym is) (by_fault (is_failed m.state.fault) h)
    where
      by_fault : (b : Bool) → By m b → By (with_journal m j) b
      by_fault true told = subst TellsSteady (sym (text_alike m.journal j alike)) told
      by_fault false steady = record { firm = firm_alike m j alike steady.firm; steady = steady.steady; bound = steady.bound }
  arming_through (Closed first second) new (other, another, is, one, two) h = subst (LastsThrough seen) (sym is) (subst TellsSteady (sym (both_alike first second other another one two)) h)
  arming_through Away new is h = absurd h

  pub telling_through : (d : Durable) (place new : MasterPlace D) → IsArmed seen place new → TellsAt seen place d → TellsAt seen new d
  telling_through d (Standing m) new (j, is, alike) h = subst (λ p. TellsAt seen p d) (sym is) (subst (λ (t : Text). IsToldIn t d) (sym (text_alike m.journal j alike)) h)
  telling_through d (Closed first second) new (other, another, is, one, two) h = subst (λ p. TellsAt seen p d) (sym is) (subst (λ (t : Text). IsToldIn t d) (sym (both_alike first second other another one two)) h)
  telling_through d Away new is h = absurd h

  -- what lasts tells something
  pub told_there : (place : MasterPlace D) → LastsThrough seen place → (d : Durable) × IsToldAt seen place d
  told_there (Standing m) h = by_fault (is_failed m.state.fault) h
    where
      by_fault : (b : Bool) → By m b → (d : Durable) × MatchBool b (IsToldIn (text_seen seen m.journal) d) (d ≡ m.state.durable)
      by_fault true told = (told.durable, told.told)
      by_fault false steady = (m.state.durable, refl)
  told_there (Closed first second) h = (h.durable, h.told)
  told_there Away h = absurd h

module _ {D : Type 0} (x : Setup D) (given : IsGiven x) where
  -- what stands behind a step
  pub one_through : (step : Step) (old mid : History D) → LastsThrough x.seen old.nodes.master → KeepsTypes old → StepsWithin x step old mid → LastsThrough x.seen mid.nodes.master × KeepsTypes mid
  one_through step old mid lasts types one =
      let t = tells_some x.seen x.failures old.nodes.master lasts in (
        (step_on x.seen x.failures x.armed (λ disk call place h. arming_through x.seen place (x.armed disk call place) (given.armed disk call place) h) (λ d disk call place h. telling_through x.seen d place (x.armed disk call place) (given.armed disk call place) h) step
            old mid t.0 one.goes (step_within x.seen x.failures x.armed step old one.within types) lasts t.1).lasts,
        step_keeps x.seen x.failures x.armed step old mid one.goes one.within types,
      )

  goes_through : (steps : List Step) (old new : History D) (a : Account) → LastsThrough x.seen old.nodes.master → KeepsTypes old → RunsBare x steps old new → (b : Account) × Runs x steps old a new b
  goes_through [] old new a lasts types is = (a, (is, refl))
  goes_through (step ∷ steps) old new a lasts types (mid, one, rest) =
      let behind = one_through step old mid lasts types one in
      let tells = told_there x.seen mid.nodes.master behind.0 in
      let c = account_behind step old a mid tells.0 in
      let more = goes_through steps mid new c behind.0 behind.1 rest in
      (more.0, (mid, c, record { steps = one; told = tells.1; account = refl }, more.1))

pub have_accounts : {D : Type 0} (x : Setup D) → HaveAccounts x
have_accounts x begun now steps given begins runs =
    let lasts = begins_through x.seen x.failures x.armed x.config x.clients x.disks begun given.new begins in
    let types = begins_keeping x.seen x.failures x.armed x.config x.clients x.disks begun given.few begins in
    let first = told_there x.seen begun.nodes.master lasts in
    let on = goes_through x given steps begun now (first_account first.0) lasts types runs in
    (first_account first.0, on.0, record { given = given; begins = begins; told = first.1; account = refl }, on.1)
