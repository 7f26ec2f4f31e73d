-- Right behind a prepare the settled views are the prepared ones.
use Rattle.std.proofs.Common.{◌≡◌, ◌∙◌, ℕ, Bool, true, false, [], None, Option, Some, refl, sym, ap}
use Rattle.std.specs.Prelude.{if◌then◌else◌, is_some, nat_lt}
use Rattle.std.specs.FinMap as fin
use Rattle.gs_lease.specs.declared.view.View.{View}
use Rattle.gs_laws_parts.proofs.lemmas.server.Stamps.{stamp_number}
use Rattle.gs_master_record.specs.declared.checkpoint.Phase.{Phase}
use Rattle.gs_master_record.specs.declared.checkpoint.Phase.TheVariants.{Ordinary, Upgrade, Rolling}
use Rattle.gs_master_spec.specs.Durable.{Settled, if_before, is_ordinary, is_upgrade, prepared_of, prepared_view, upgrade_epoch}
use Rattle.gs_master_spec.specs.Undoing.{all_undone}
use Rattle.gs_master_spec.specs.declared.asking.Prepared.{Prepared}
use Rattle.gs_laws_chunks.specs.accounts.Seen.{PreparesSettled}

not_ordinary : (phase : Phase) → is_upgrade phase ≡ true → is_ordinary phase ≡ false
not_ordinary Ordinary is = absurd (cc)
not_ordinary Upgrade is = refl
not_ordinary Rolling is = refl

stands_at : (phase : Phase) (epoch : ℕ) → is_upgrade phase ≡ true → upgrade_epoch phase epoch ≡ Some epoch
stands_at Ordinary epoch is = absurd (cc)
stands_at Upgrade epoch is = refl
stands_at Rolling epoch is = absurd (cc)

-- a view from before the upgrade is kept as it is settled
record IsBefore (settled : Option Settled) (o : Option Prepared) : Type 0 where
  pub found : Settled
  pub there : settled ≡ Some found
  pub prepared : Prepared
  pub kept : o ≡ Some prepared
  pub view : prepared.view ≡ found.view

is_before : (epoch : ℕ) (settled : Option Settled) → is_some (if_before epoch settled) ≡ true → IsBefore settled (if_before epoch settled)
is_before epoch None some = absurd (cc)
is_before epoch (Some y) some = by_case (nat_lt y.view.stamp.epoch epoch) refl some
  where
    own : Prepared
    own = record { view = y.view; holders = [] }

    by_case : (b : Bool) → nat_lt y.view.stamp.epoch epoch ≡ b → is_some (if b then Some own else None) ≡ true → IsBefore (Some y) (if b then Some own else None)
    by_case false is some = absurd (cc)
    by_case true is some = record { found = y; there = refl; prepared = own; kept = refl; view = refl }

pub prepares_settled : PreparesSettled
prepares_settled chunk d e shows kept upgrade none_changed none_kept listed =
    let ordinary = not_ordinary d.phase upgrade in
    let undone : all_undone d.inverses d.names ≡ Some d.names = ap (λ xs. all_undone xs d.names) none_changed in
    let was = shows.restores d.names ordinary undone listed in
    let view : prepared_view d chunk ≡ if_before d.epoch (fin.get d.chunks chunk) =
    ap (λ u. prepared_of u (fin.get d.prepared chunk) (fin.get d.chunks chunk)) (stands_at d.phase d.epoch upgrade) ∙ ap (λ o. prepared_of (Some d.epoch) o (fin.get d.chunks chunk)) none_kept in
    let before = is_before d.epoch (fin.get d.chunks chunk) (ap is_some (sym view) ∙ kept.restored d.names chunk undone ordinary listed) in
    let last = (shows.prepared before.prepared (view ∙ before.kept) was).view in
    let first = (shows.settled before.found before.there).view in
    (was, stamp_number e.prepared.stamp e.view.stamp (sym last.stamp ∙ ap (λ (v : View). v.stamp) before.view ∙ first.stamp))
