-- What a prepare begins with.
use Rattle.std.proofs.Common.{◌≡◌, ℕ, ◌+◌, ◌<◌, ◌&&◌, Bool, true, false, refl, ap, subst, arith}
use Rattle.std.specs.Prelude.{nat_lt, Option, Some, None, is_some, unwrap_or, option_map}
use Rattle.std.specs.FinMap as fin
use Rattle.std.specs.Ordering.{nat_cmp}
use Rattle.std.proofs.lemmas.Bool.{false≢true}
use Rattle.std.proofs.lemmas.Bool.Decides.{nat_tests}
use Rattle.gs_base.specs.declared.epoch.EpochEnd.TheVariants as ends
use Rattle.gs_master_record.specs.declared.checkpoint.Phase.TheVariants.{Upgrade}
use Rattle.gs_master_spec.specs.Applied.{applied, if_fits, is_next_epoch, are_at_rest, with_epoch, without_prepared}
use Rattle.gs_master_spec.specs.Durable.{Durable, Settled, is_ordinary, if_before, prepared_view}
use Rattle.gs_laws_master.specs.Promises.{IsKept, BeginsWithAll, prepared_from}
use Rattle.gs_master_spec.specs.Undoing.{all_undone}

pub fits_gives : (b : Bool) (n next : Durable) → if_fits b n ≡ Some next → (b ≡ true) × (n ≡ next)
fits_gives true n next e = (refl, ap (λ o. unwrap_or o n) e)
fits_gives false n next e = absurd (false≢true (ap is_some e))

abbrev upgraded : Durable → Durable
upgraded d = without_prepared (with_epoch d ends.Prepare Upgrade)

before_it : (upgrade : ℕ) (settled : Option Settled) → ((s : Settled) → settled ≡ Some s → s.view.stamp.epoch < upgrade) → if_before upgrade settled ≡ option_map prepared_from settled
before_it upgrade None below = refl
before_it upgrade (Some s) below =
    let is : nat_lt s.view.stamp.epoch upgrade ≡ true = (let h = below s refl in grind (arith, nat_tests)) in rw is refl

settled_before : (d : Durable) → IsKept d → (chunk : ℕ) → prepared_view (upgraded d) chunk ≡ option_map prepared_from (fin.get d.chunks chunk)
settled_before d kept chunk =
    let none : fin.get (upgraded d).prepared chunk ≡ None = fin.get-empty nat_cmp chunk in rw none (before_it (d.epoch + 1) (fin.get d.chunks chunk) (λ s is. let h = (kept.views chunk s is).epoch in omega arith))

pub begins_with_all : BeginsWithAll
unfolding applied
begins_with_all d next epoch moment chunks kept e =
    let is = (fits_gives (is_ordinary d.phase && (is_next_epoch d.epoch epoch && are_at_rest d)) (upgraded d) next e).1 in
    subst (λ (n : Durable). (all_undone n.inverses n.names ≡ Some d.names) × ((chunk : ℕ) → prepared_view n chunk ≡ option_map prepared_from (fin.get d.chunks chunk))) is
    (refl, λ chunk. settled_before d kept chunk)
