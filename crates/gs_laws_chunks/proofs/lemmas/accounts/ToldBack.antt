-- What an accepted rollback gives back, by what is told.
use Rattle.std.proofs.Common.{◌≡◌, ◌∙◌, true, List, [], ◌∷◌, refl, ap, subst, sym}
use Rattle.std.specs.Prelude.{is_some}
use Rattle.std.specs.FinMap as fin
use Rattle.std.proofs.lemmas.Bool.{and_parts}
use Rattle.gs_block.specs.Written.{TellsApart}
use Rattle.gs_laws_moves.specs.moves.Epochs.{prepares, rolls_back}
use Rattle.gs_master_spec.specs.Durable.{Durable, is_listed, is_ordinary, is_rolling, is_upgrade}
use Rattle.gs_world.proofs.Reaching.{HaveSizes}
use Rattle.gs_world.specs.Histories.{History}
use Rattle.gs_world.specs.Runs.{Step}
use Rattle.gs_laws_chunks.proofs.lemmas.accounts.Accounted.{RolledBackSo, runs_told}
use Rattle.gs_laws_chunks.proofs.lemmas.accounts.BytesRuns.{bytes_back, listed_there}
use Rattle.gs_laws_chunks.proofs.lemmas.accounts.Edits.{AreNumbered}
use Rattle.gs_laws_chunks.proofs.lemmas.accounts.Holding.{prepared_reached, reach_more, runs_of}
use Rattle.gs_laws_chunks.proofs.lemmas.accounts.KeepingBack.{bytes_there, servers_stay, whole_now, with_bytes}
use Rattle.gs_laws_chunks.proofs.lemmas.accounts.Once.{told_at_once}
use Rattle.gs_laws_chunks.proofs.lemmas.accounts.Telling.{told_has}
use Rattle.gs_laws_chunks.proofs.lemmas.accounts.Became.{became, has_one}
use Rattle.gs_laws_chunks.proofs.lemmas.accounts.Leading.{StandsSo, begins, leads_all, upgrade_stands}
use Rattle.gs_laws_chunks.specs.accounts.Accepting.{met_at}
use Rattle.gs_laws_moves.specs.upgrades.Since.{IsSince}
use Rattle.gs_laws_lift.proofs.lemmas.stores.Durable.{has_durable}
use Rattle.gs_laws_lift.specs.stores.Left.{as_left}
use Rattle.gs_laws_chunks.proofs.lemmas.accounts.Through.{have_accounts, told_there}
use Rattle.gs_laws_chunks.proofs.lemmas.accounts.Well.{IsWell, bare_well, begins_well, step_well, well_lasts, well_steady}
use Rattle.gs_laws_chunks.specs.accounts.Accounts.{Account}
use Rattle.gs_laws_chunks.specs.accounts.Back.{GoesBackBy, IsMemberAt, RunsWithinBy, ToldBytesBack, ToldKeepsBytes, ToldNamesBack}
use Rattle.gs_laws_chunks.specs.accounts.Moving.{account_behind}
use Rattle.gs_laws_chunks.specs.accounts.Running.{IsGiven, IsNew, IsToldAt, Moves, Runs, Setup}
use Rattle.gs_laws_chunks.specs.accounts.Upgrading.{RunsUpgraded}

module _ {D : Type 0} (x : Setup D) (given : IsGiven x) where
  told_well : (steps : List Step) (old new : History D) → RunsWithinBy x (IsToldAt x.seen) steps old new → IsWell x old → IsWell x new
  told_well [] old new is well = subst (IsWell x) (sym is) well
  told_well (step ∷ steps) old new (mid, one, going, rest) well = told_well steps mid new rest (step_well x given step old mid well one)

  -- what was prepared stands on, where an upgrade is told
  told_so : (prepared : Durable) (steps : List Step) (old new : History D) → RunsWithinBy x (IsToldAt x.seen) steps old new → StandsSo x prepared old → StandsSo x prepared new
  told_so prepared [] old new is s = subst (StandsSo x prepared) (sym is) s
  told_so prepared (step ∷ steps) old new (mid, one, going, rest) s =
      let well = step_well x given step old mid s.well one in
      let had = has_durable x.seen (as_left old.nodes.master) (well_lasts x old s.well) in
      let told = told_there x.seen mid.nodes.master well.steady in
      let has = told_has x mid told.0 well told.1 in
      let lead = leads_all x step old.sent (met_at x step old mid one.goes) (as_left old.nodes.master) (as_left mid.nodes.master) prepared had.0 told.0 (became x given step old mid s.well one) had.1 has (s.since had.0 had.1) in
      told_so prepared steps mid new rest (record { well = well; since = λ e ek. subst (IsSince prepared) (has_one x.seen (as_left mid.nodes.master) told.0 e has ek) (lead.since (going told.0 told.1)) })

  -- steps behind each of which an upgrade is told, with their accounts
  told_accounts : (steps : List Step) (old new : History D) (a : Account) → RunsWithinBy x (IsToldAt x.seen) steps old new → IsWell x old → (b : Account) × RunsUpgraded x steps old a new b
  told_accounts [] old new a is well = (a, (is, refl))
  told_accounts (step ∷ steps) old new a (mid, one, going, rest) well =
      let there = step_well x given step old mid well one in
      let told = told_there x.seen mid.nodes.master there.steady in
      let c = account_behind step old a mid told.0 in
      let more = told_accounts steps mid new c rest there in
      (more.0, (mid, c, record { steps = one; told = told.1; account = refl }, going told.0 told.1, more.1))

-- what is well on the way
record GoesWell {D : Type 0} (x : Setup D) (prepared back : History D) (before last : Durable) (goes : GoesBackBy x (IsToldAt x.seen) prepared back before last) : Type 0 where
  prepared_well : IsWell x prepared
  now_well : IsWell x goes.now
  back_well : IsWell x back

goes_well : {D : Type 0} (x : Setup D) (prepared back : History D) (before last : Durable) (goes : GoesBackBy x (IsToldAt x.seen) prepared back before last) → GoesWell x prepared back before last goes
goes_well x prepared back before last goes =
    let given = goes.given in
    let old = bare_well x given goes.first goes.begun goes.old goes.runs (begins_well x given goes.begun goes.begins) in
    let first = step_well x given goes.step goes.old prepared old goes.steps in
    let now = told_well x given goes.between prepared goes.now goes.rest first in
    record { prepared_well = first; now_well = now; back_well = step_well x given goes.commit goes.now back now goes.commits }

pub rolled_told : {D : Type 0} (x : Setup D) (prepared back : History D) (before last : Durable) → TellsApart x.among → (goes : GoesBackBy x (IsToldAt x.seen) prepared back before last) → RolledBackSo x prepared back before last goes.now
rolled_told x prepared back before last apart goes =
    let given = goes.given in
    let accounts = have_accounts x goes.begun goes.old goes.first given goes.begins goes.runs in
    let a : Account = accounts.1 in
    let new : IsNew x goes.begun accounts.0 = accounts.2 in
    let runs : Runs x goes.first goes.begun accounts.0 goes.old a = accounts.3 in
    let was : goes.ordinary ≡ a.durable = told_at_once x.seen goes.old.nodes.master goes.ordinary a.durable goes.stood (runs_told x goes.first goes.begun goes.old accounts.0 a new.told runs) in
    let first = account_behind goes.step goes.old a prepared before in
    let moves : Moves x goes.step goes.old a prepared first = record { steps = goes.steps; told = goes.keeps; account = refl } in
    let on = told_accounts x given goes.between prepared goes.now first goes.rest (goes_well x prepared back before last goes).prepared_well in
    let rolling : goes.rolling ≡ on.0.durable = told_at_once x.seen goes.now.nodes.master goes.rolling on.0.durable goes.rolls (runs_told x goes.between prepared goes.now first on.0 moves.told (runs_of x goes.between prepared goes.now first on.0 on.1)) in
    record {
      first = first;
      after = on.0;
      behind = account_behind goes.commit goes.now on.0 back last;
      is_first = refl;
      is_behind = refl;
      rolled = record {
        upgrade = record {
          old = goes.old;
          first = a;
          reached = record { apart = apart; begun = goes.begun; first = accounts.0; steps = goes.first; begins = new; runs = runs };
          step = goes.step;
          moves = moves;
          accepted = ap (λ d. prepares d before) (sym was) ∙ goes.accepted;
          steps = goes.between;
          runs = on.1;
        };
        step = goes.commit;
        moves = record { steps = goes.commits; told = goes.ended; account = refl };
        accepted = ap (λ d. rolls_back d last) (sym rolling) ∙ goes.done;
      };
    }

-- right behind a prepare
told_prepared : {D : Type 0} (x : Setup D) (prepared back : History D) (before last : Durable) → GoesBackBy x (IsToldAt x.seen) prepared back before last → StandsSo x before prepared
told_prepared x prepared back before last goes =
    let given = goes.given in
    let old_well = bare_well x given goes.first goes.begun goes.old goes.runs (begins_well x given goes.begun goes.begins) in
    let well = step_well x given goes.step goes.old prepared old_well goes.steps in
    let phases = and_parts (is_ordinary goes.ordinary.phase) (is_upgrade before.phase) goes.accepted in
    let has = told_has x prepared before well goes.keeps in
    let first = begins x goes.step goes.old.sent (met_at x goes.step goes.old prepared goes.steps.goes) (as_left goes.old.nodes.master) (as_left prepared.nodes.master) goes.ordinary before (well_steady x goes.old old_well) (became x given goes.step goes.old prepared old_well goes.steps)
    (told_has x goes.old goes.ordinary old_well goes.stood) has phases.0 (upgrade_stands before.phase phases.1) in
    record { well = well; since = λ e ek. subst (IsSince before) (has_one x.seen (as_left prepared.nodes.master) before e has ek) first }

pub told_names_back : {D : Type 0} (x : Setup D) → ToldNamesBack x
told_names_back x prepared back before last goes =
    let given = goes.given in
    let so = told_so x given before goes.between prepared goes.now goes.rest (told_prepared x prepared back before last goes) in
    let has = told_has x goes.now goes.rolling so.well goes.rolls in
    let ends = and_parts (is_rolling goes.rolling.phase) (is_ordinary last.phase) goes.done in
    (leads_all x goes.commit goes.now.sent (met_at x goes.commit goes.now back goes.commits.goes) (as_left goes.now.nodes.master) (as_left back.nodes.master) before goes.rolling last (became x given goes.commit goes.now back so.well goes.commits) has
    (told_has x back last (step_well x given goes.commit goes.now back so.well goes.commits) goes.ended) (so.since goes.rolling has)).names ends.0 ends.1

pub told_bytes_back : HaveSizes → AreNumbered → {D : Type 0} (x : Setup D) → ToldBytesBack x
told_bytes_back sizes law x prepared back before last chunk id other had has apart goes member old among new =
    let so = rolled_told x prepared back before last apart goes in
    let r = so.rolled in
    let row : is_some (fin.get so.behind.durable.chunks chunk) ≡ true = ap (λ (d : Durable). is_some (fin.get d.chunks chunk)) so.is_behind ∙ ap is_some among.told in
    let listed : is_listed so.first.durable chunk ≡ true =
    ap (λ (d : Durable). is_listed d chunk) so.is_first ∙ ap (λ names. is_some (fin.get names.refs chunk)) (sym (told_names_back x prepared back before last goes))
    ∙ ap (λ (d : Durable). is_listed d chunk) (sym so.is_behind) ∙ listed_there sizes law x prepared goes.now back so.first so.after so.behind r.step r.upgrade r.moves r.accepted chunk row in
    bytes_back sizes law x prepared goes.now back so.first so.after so.behind r.step r.upgrade r.moves r.accepted chunk listed row id other had has
    (subst (λ d. IsMemberAt d chunk id) (sym so.is_first) member) old (subst (λ d. IsMemberAt d chunk other) (sym so.is_behind) among) new

pub told_keeps_bytes : HaveSizes → AreNumbered → {D : Type 0} (x : Setup D) → ToldKeepsBytes x
told_keeps_bytes sizes law x prepared back before last chunk id other had apart goes member old among was =
    let given = goes.given in
    let so = rolled_told x prepared back before last apart goes in
    let well = goes_well x prepared back before last goes in
    let way = told_accounts x given was.first prepared was.mid so.first was.way well.prepared_well in
    let rest = told_accounts x given was.steps was.mid goes.now way.0 was.rest (told_well x given was.first prepared was.mid was.way well.prepared_well) in
    let reached = reach_more x prepared was.mid so.first way.0 was.first (prepared_reached sizes law x prepared goes.now so.first so.after so.rolled.upgrade) (runs_of x was.first prepared was.mid so.first way.0 way.1) in
    let rolling = (and_parts (is_rolling goes.rolling.phase) (is_ordinary last.phase) goes.done).0 in
    let has = told_has x goes.now goes.rolling well.now_well goes.rolls in
    let now = whole_now sizes law x was.mid goes.now way.0 rest.0 was.steps reached (runs_of x was.steps was.mid goes.now way.0 rest.0 rest.1) goes.rolling has rolling chunk other was.s was.there was.learned was.named was.spared in
    let servers = servers_stay x goes.commit goes.now back goes.rolling last well.now_well goes.commits has (told_has x back last well.back_well goes.ended) goes.done in
    with_bytes back other chunk had (bytes_there goes.now back other chunk goes.rolling.epoch servers now)
    (λ has new. told_bytes_back sizes law x prepared back before last chunk id other had has apart goes member old among new)
