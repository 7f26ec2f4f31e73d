-- What is settled behind the commit of a rollback.
use Rattle.gs_laws_lift.specs.stores.Left.{left_in}
use Rattle.std.proofs.Common.{◌≡◌, ◌∙◌, true, ℕ, Option, Some, None, ap, refl, sym}
use Rattle.std.specs.Prelude.{is_some}
use Rattle.std.proofs.lemmas.Bool.{false≢true}
use Rattle.std.specs.FinMap as fin
use Rattle.gs_lease.specs.declared.view.View.{View}
use Rattle.gs_master_spec.specs.Applied.{view_in}
use Rattle.gs_master_spec.specs.Durable.{Settled, is_listed}
use Rattle.gs_world.proofs.Reaching.{HaveSizes}
use Rattle.gs_world.specs.Histories.{History}
use Rattle.gs_laws_chunks.specs.accounts.Accounts.{Account}
use Rattle.gs_laws_chunks.specs.accounts.Running.{Setup}
use Rattle.gs_laws_chunks.proofs.lemmas.accounts.BytesRuns.{kept_back, listed_there, sees, settled_back}
use Rattle.gs_laws_chunks.proofs.lemmas.accounts.Edits.{AreNumbered}
use Rattle.gs_laws_chunks.proofs.lemmas.accounts.Runs.{keeps_told}
use Rattle.gs_laws_chunks.proofs.lemmas.accounts.Telling.{names_back}
use Rattle.gs_laws_chunks.specs.accounts.Back.{GivesNoOtherBack, GivesSettledBack, HasRolledBack}

view_there : (o : Option Settled) → is_some o ≡ true → (view : View) × (view_in o ≡ Some view)
view_there None some = absurd (false≢true some)
view_there (Some y) some = (y.view, refl)

module _ {D : Type 0} (x : Setup D) (prepared now back : History D) (before after last : Account) (r : HasRolledBack x prepared before now after back last) (chunk : ℕ) where
  -- a file has the same chunks as at the prepare
  listed_same : is_listed last.durable chunk ≡ is_listed before.durable chunk
  listed_same = ap (λ names. is_some (fin.get names.refs chunk)) (names_back x prepared now back before after last r.step r.upgrade r.moves r.accepted)

pub gives_settled_back : HaveSizes → AreNumbered → {D : Type 0} (x : Setup D) → GivesSettledBack x
gives_settled_back sizes law x prepared now back before after last chunk r listed =
    let s = sees sizes law x prepared now back before after last r.step r.upgrade r.moves r.accepted in
    let row = (kept_back sizes law x prepared now back before after last r.step r.upgrade r.moves r.accepted).settled chunk (listed_same x prepared now back before after last r chunk ∙ listed) in
    let view = view_there (fin.get last.durable.chunks chunk) row in
    let former = view_there (fin.get before.durable.chunks chunk) ((keeps_told x s.asked (left_in prepared) before s.first).settled chunk listed) in
    (row, settled_back sizes law x prepared now back before after last r.step r.upgrade r.moves r.accepted chunk listed row view.0 view.1 former.0 former.1)

pub gives_no_other_back : HaveSizes → AreNumbered → {D : Type 0} (x : Setup D) → GivesNoOtherBack x
gives_no_other_back sizes law x prepared now back before after last chunk r row =
    sym (listed_same x prepared now back before after last r chunk) ∙ listed_there sizes law x prepared now back before after last r.step r.upgrade r.moves r.accepted chunk row
