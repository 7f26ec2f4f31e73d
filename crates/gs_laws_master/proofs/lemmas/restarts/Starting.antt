-- A new store is kept and sane, and no call waits.
use Rattle.std.proofs.Common.{◌≡◌, ◌∙◌, ℕ, ap, refl, sym}
use Rattle.std.specs.Prelude.{is_some, Some}
use Rattle.std.specs.FinMap as fin
use Rattle.std.specs.Ordering.{nat_cmp}
use Rattle.std.proofs.lemmas.Bool.{false≢true}
use Rattle.gs_master_spec.specs.Handling.{fresh}
use Rattle.gs_master_spec.specs.State.{Log}
use Rattle.gs_master_spec.specs.declared.asking.Asking.{Asking}
use Rattle.gs_laws_master.specs.Promises.{StartsWell}
use Rattle.gs_laws_master.proofs.lemmas.keeping.KeptAll.{start_kept}

nothing_moves : {P : Type 0} (log : Log) (chunk : ℕ) (asking : Asking) → fin.get (fresh log).volatile.moving chunk ≡ Some asking → P
nothing_moves log chunk asking has = absurd (false≢true (sym (ap is_some (fin.get-empty nat_cmp chunk)) ∙ ap is_some has))

pub starts_well : StartsWell
starts_well log = (
  start_kept,
  record {
    asked = λ chunk asking has. nothing_moves log chunk asking has;
    unplaced = λ chunk here. absurd (false≢true here);
    apart = refl;
    rolling = λ h. refl;
    preparing = λ h. absurd (false≢true h);
  },
  record { visible = refl; since = λ chunk asking has. nothing_moves log chunk asking has },
)
