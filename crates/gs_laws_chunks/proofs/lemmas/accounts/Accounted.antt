-- What is said by the nodes alone, from what is said with accounts.
use Rattle.std.proofs.Common.{◌++◌, refl, sym, ap, subst, ◌∙◌, ◌≡◌, [], ◌∷◌, Bool, List, false, true}
use Rattle.std.specs.Prelude.{MatchBool, is_some}
use Rattle.std.specs.FinMap as fin
use Rattle.gs_block.specs.Written.{TellsApart}
use Rattle.gs_master.specs.Journaled.{text_seen}
use Rattle.gs_laws_moves.specs.moves.Epochs.{prepares, rolls_back}
use Rattle.gs_master_spec.specs.Durable.{Durable, is_listed}
use Rattle.gs_master_spec.specs.State.{is_failed}
use Rattle.gs_nodes.specs.declared.place.MasterPlace.{MasterPlace}
use Rattle.gs_nodes.specs.declared.place.MasterPlace.TheVariants.{Away, Closed, Standing}
use Rattle.gs_world.proofs.Reaching.{HaveSizes}
use Rattle.gs_world.specs.Histories.{History}
use Rattle.gs_laws_world.specs.lasting.Lasting.{IsToldIn}
use Rattle.gs_laws_lift.specs.stores.Left.{as_left, left_of}
use Rattle.gs_world.specs.Runs.{Step}
use Rattle.gs_laws_chunks.proofs.lemmas.accounts.Through.{have_accounts}
use Rattle.gs_laws_chunks.specs.accounts.Accounts.{Account}
use Rattle.gs_laws_chunks.specs.accounts.Moving.{account_behind}
use Rattle.gs_laws_chunks.specs.accounts.Running.{IsGiven, IsNew, IsToldAt, Moves, Runs, Setup, StepsWithin}
use Rattle.gs_laws_chunks.proofs.lemmas.accounts.Durables.{told_is_had}
use Rattle.gs_laws_chunks.proofs.lemmas.accounts.Edits.{AreNumbered}
use Rattle.gs_laws_chunks.proofs.lemmas.accounts.Holding.{runs_of}
use Rattle.gs_laws_chunks.specs.accounts.Upgrading.{RunsUpgraded}
use Rattle.gs_laws_lift.proofs.lemmas.stores.Durable.{has_durable}
use Rattle.gs_laws_lift.specs.stores.Doing.{HasDurable}
use Rattle.gs_laws_chunks.proofs.lemmas.accounts.BytesRuns.{bytes_back, listed_there}
use Rattle.gs_laws_chunks.proofs.lemmas.accounts.Leading.{StandsSo, gives_names_back, keeps_has, next_so, stands_prepared, within_so}
use Rattle.gs_laws_chunks.proofs.lemmas.accounts.Well.{IsWell, bare_well, begins_well, told_left, well_lasts}
use Rattle.gs_laws_chunks.specs.accounts.Back.{MasterKeeps, GivesBytesBack, GoesBack, IsMemberAt, HasRolledBack, RunsWithin}

module _ {D : Type 0} (x : Setup D) where
  -- what is left has is told
  pub has_told : (place : MasterPlace D) (d : Durable) → HasDurable x.seen (as_left place) d → IsToldAt x.seen place d
  has_told (Standing m) d has = by_fault (is_failed m.state.fault) has
    where
      by_fault : (failed : Bool) → HasDurable x.seen (left_of failed m) d → MatchBool failed (IsToldIn (text_seen x.seen m.journal) d) (d ≡ m.state.durable)
      by_fault true has = has
      by_fault false has = sym has
  has_told (Closed first second) d has = has
  has_told Away d has = absurd has

  pub runs_told : (steps : List Step) (old new : History D) (a b : Account) → IsToldAt x.seen old.nodes.master a.durable → Runs x steps old a new b → IsToldAt x.seen new.nodes.master b.durable
  runs_told [] old new a b told runs = subst (λ (h : History D). IsToldAt x.seen h.nodes.master b.durable) (sym runs.0) (subst (λ (c : Account). IsToldAt x.seen old.nodes.master c.durable) (sym runs.1) told)
  runs_told (step ∷ steps) old new a b told (mid, c, moves, rest) = runs_told steps mid new c b moves.told rest

  -- steps one behind the other
  within_then : (steps more : List Step) (old mid new : History D) → RunsWithin x steps old mid → RunsWithin x more mid new → RunsWithin x (steps ++ more) old new
  within_then [] more old mid new is rest = subst (λ h. RunsWithin x more h new) is rest
  within_then (step ∷ steps) more old mid new (next, one, going, on) rest = (next, one, going, within_then steps more next mid new on rest)

  -- what is told is what is kept
  pub told_kept : (h : History D) (d e : Durable) → IsWell x h → IsToldAt x.seen h.nodes.master d → MasterKeeps h.nodes.master e → e ≡ d
  told_kept h d e well told keeps = told_is_had x.seen (as_left h.nodes.master) d e (well_lasts x h well) (told_left x.seen h.nodes.master d told) (keeps_has x h.nodes.master e keeps)

  module _ (given : IsGiven x) where
    pub moves_on : (step : Step) (old new : History D) (a : Account) (d : Durable) → StepsWithin x step old new → HasDurable x.seen (as_left new.nodes.master) d → Moves x step old a new (account_behind step old a new d)
    moves_on step old new a d one has = record { steps = one; told = has_told new.nodes.master d has; account = refl }

    -- steps behind none of which a master stands that keeps no upgrade, up to one that stands, with their accounts
    pub within_accounts : (prepared : Durable) (steps : List Step) (old new : History D) (a : Account) → RunsWithin x steps old new → (more : List Step) (end : History D) (last : Durable) → RunsWithin x more new end → MasterKeeps end.nodes.master last → StandsSo x prepared old → (b : Account) × RunsUpgraded x steps old a new b
    within_accounts prepared [] old new a is more end last rest keeps s = (a, (is, refl))
    within_accounts prepared (step ∷ steps) old new a (mid, one, going, on) more end last rest keeps s =
        let there = next_so x given prepared step old mid one going (steps ++ more) end last (within_then steps more mid new end on rest) keeps s in
        let has = has_durable x.seen (as_left mid.nodes.master) (well_lasts x mid there.well) in
        let found = within_accounts prepared steps mid new (account_behind step old a mid has.0) on more end last rest keeps there in
        (found.0, (mid, account_behind step old a mid has.0, moves_on step old mid a has.0 one has.1, (there.since has.0 has.1).stands, found.1))

-- an accepted rollback has accounts
pub record RolledBackSo {D : Type 0} (x : Setup D) (prepared back : History D) (before last : Durable) (now : History D) : Type 0 where
  pub first : Account
  pub after : Account
  pub behind : Account
  pub is_first : first.durable ≡ before
  pub is_behind : behind.durable ≡ last
  pub rolled : HasRolledBack x prepared first now after back behind

pub rolled_back_so : {D : Type 0} (x : Setup D) (prepared back : History D) (before last : Durable) → TellsApart x.among → (goes : GoesBack x prepared back before last) → RolledBackSo x prepared back before last goes.now
rolled_back_so x prepared back before last apart goes =
    let given = goes.given in
    let old_well = bare_well x given goes.first goes.begun goes.old goes.runs (begins_well x given goes.begun goes.begins) in
    let accounts = have_accounts x goes.begun goes.old goes.first given goes.begins goes.runs in
    let a : Account = accounts.1 in
    let new : IsNew x goes.begun accounts.0 = accounts.2 in
    let runs : Runs x goes.first goes.begun accounts.0 goes.old a = accounts.3 in
    let was : goes.ordinary ≡ a.durable = told_kept x goes.old a.durable goes.ordinary old_well (runs_told x goes.first goes.begun goes.old accounts.0 a new.told runs) goes.stood in
    let first = account_behind goes.step goes.old a prepared before in
    let moves = moves_on x given goes.step goes.old prepared a before goes.steps (keeps_has x prepared.nodes.master before goes.keeps) in
    let begun = stands_prepared x prepared back before last goes in
    let on = within_accounts x given before goes.between prepared goes.now first goes.rest [] goes.now goes.rolling refl goes.rolls begun in
    let there = within_so x given before goes.between prepared goes.now goes.rolling goes.rest goes.rolls begun in
    let rolling : goes.rolling ≡ on.0.durable = told_kept x goes.now on.0.durable goes.rolling there.well (runs_told x goes.between prepared goes.now first on.0 moves.told (runs_of x goes.between prepared goes.now first on.0 on.1)) goes.rolls in
    record {
      first = first;
      after = on.0;
      behind = account_behind goes.commit goes.now on.0 back last;
      is_first = refl;
      is_behind = refl;
      rolled = record {
        upgrade = record {
          old = goes.old;
          first = a;
          reached = record { apart = apart; begun = goes.begun; first = accounts.0; steps = goes.first; begins = new; runs = runs };
          step = goes.step;
          moves = moves;
          accepted = ap (λ d. prepares d before) (sym was) ∙ goes.accepted;
          steps = goes.between;
          runs = on.1;
        };
        step = goes.commit;
        moves = moves_on x given goes.commit goes.now back on.0 last goes.commits (keeps_has x back.nodes.master last goes.ended);
        accepted = ap (λ d. rolls_back d last) (sym rolling) ∙ goes.done;
      };
    }

pub gives_bytes_back : HaveSizes → AreNumbered → {D : Type 0} (x : Setup D) → GivesBytesBack x
gives_bytes_back sizes law x prepared back before last chunk id other had has apart goes member old among new =
    let so = rolled_back_so x prepared back before last apart goes in
    let r = so.rolled in
    let row : is_some (fin.get so.behind.durable.chunks chunk) ≡ true = ap (λ (d : Durable). is_some (fin.get d.chunks chunk)) so.is_behind ∙ ap is_some among.told in
    let listed : is_listed so.first.durable chunk ≡ true =
    ap (λ (d : Durable). is_listed d chunk) so.is_first ∙ ap (λ names. is_some (fin.get names.refs chunk)) (sym (gives_names_back x prepared back before last goes))
    ∙ ap (λ (d : Durable). is_listed d chunk) (sym so.is_behind) ∙ listed_there sizes law x prepared goes.now back so.first so.after so.behind r.step r.upgrade r.moves r.accepted chunk row in
    bytes_back sizes law x prepared goes.now back so.first so.after so.behind r.step r.upgrade r.moves r.accepted chunk listed row id other had has
    (subst (λ d. IsMemberAt d chunk id) (sym so.is_first) member) old (subst (λ d. IsMemberAt d chunk other) (sym so.is_behind) among) new
