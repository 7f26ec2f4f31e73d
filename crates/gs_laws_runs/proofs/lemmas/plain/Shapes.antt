-- Which records a turn of the master has: those of an upgrade that stands or doesn't, or the one by which it begins or ends.
use Rattle.std.proofs.Common.{◌≡◌, ◌∙◌, inl, inr, ◌⊎◌, ◌&&◌, ◌||◌, ℕ, zero, suc, Bool, true, false, List, [], ◌∷◌, refl, ap, sym, subst}
use Rattle.std.specs.Prelude.{◌==◌, is_some, option_and_then, take, Option, Some, None}
use Rattle.std.specs.FinMap as fin
use Rattle.std.specs.List.{AllByRecursion, list_all}
use Rattle.std.proofs.lemmas.Bool.{and_parts, false≢true}
use Rattle.gs_base.specs.declared.epoch.EpochEnd.TheVariants as ends
use Rattle.gs_journal.specs.declared.version.Version.TheVariants.{Two}
use Rattle.gs_laws_master.proofs.lemmas.upgrades.Beginnings.{fits_gives}
use Rattle.gs_laws_master.specs.Promises.{IsKept, goes_on_within}
use Rattle.gs_laws_master.specs.Reached.{GoWithin}
use Rattle.gs_laws_moves.specs.moves.Epochs.{prepares, rolls_back}
use Rattle.gs_laws_plain.proofs.lemmas.commands.Records.{SamePhase, phase_whole, phase_within, stays_kept}
use Rattle.gs_laws_plain.specs.commands.Records.{IsOwn, KeepTexts, KeepsTexts, Telling}
use Rattle.gs_master_record.specs.Plain.{PlainEntry, Whole}
use Rattle.gs_master_record.specs.Plain as entries
use Rattle.gs_master_record.specs.Writable.{IsEntry}
use Rattle.gs_master_record.specs.declared.checkpoint.Phase.{Phase}
use Rattle.gs_master_record.specs.declared.checkpoint.Phase.TheVariants.{Ordinary, Rolling, Upgrade}
use Rattle.gs_master_record.specs.declared.entry.Answered.{Answered}
use Rattle.gs_master_spec.specs.Applied.{after_undoing, applied, are_answers, are_at_rest, is_next_epoch, is_whole_entry, replayed, rolled_back, with_epoch, without_prepared}
use Rattle.gs_master_spec.specs.Durable.{Durable, is_ordinary, is_rolling, is_upgrade, prepared_view}
use Rattle.gs_master_spec.specs.Whole.{checkpoint_of}
use Rattle.gs_laws_runs.proofs.lemmas.plain.Ending.{texts_stay}
use Rattle.gs_laws_runs.specs.plain.Stepping.{is_within}

durable_is : {a b : Durable} → ◌≡◌ {A = Option Durable} (Some a) (Some b) → a ≡ b
durable_is h = cc

-- what is replayed behind a first record
pub then_replays : (d next : Durable) (entry : PlainEntry) (records : List PlainEntry) → replayed d (entry ∷ records) ≡ Some next → (mid : Durable) × (applied d entry ≡ Some mid) × (replayed mid records ≡ Some next)
then_replays d next entry records is = by_first (applied d entry) refl is
  where
    by_first : (o : Option Durable) → applied d entry ≡ o → option_and_then (λ n. replayed n records) o ≡ Some next → (mid : Durable) × (applied d entry ≡ Some mid) × (replayed mid records ≡ Some next)
    by_first None at h = absurd (false≢true (ap is_some h))
    by_first (Some mid) at h = (mid, at, h)

-- ---- records within an epoch

-- one of them, where this is durable
abbrev IsWithin : Durable → PlainEntry → Type 0
IsWithin d entry = ((goes_on_within entry ≡ true) × IsEntry Two entry) ⊎ (entry ≡ Whole (checkpoint_of d))

or_whole : (b c : Bool) → b ≡ true → (b || c) ≡ true
or_whole true c h = refl
or_whole false c h = absurd (false≢true h)

within_so : (d : Durable) (entry : PlainEntry) → IsWithin d entry → is_within entry ≡ true
within_so d entry (inl both) = or_whole (goes_on_within entry) (is_whole_entry entry) both.0
within_so d entry (inr is) = ap is_within is

own_of : (d : Durable) (entry : PlainEntry) → goes_on_within entry ≡ true → IsOwn entry d
own_of d (entries.Edited by edit) h = tt
own_of d (entries.Said to refusal) h = tt
own_of d (entries.Propose chunk version) h = tt
own_of d (entries.Settle v) h = tt
own_of d (entries.Prepare epoch moment chunks) h = tt
own_of d (entries.Finalize epoch) h = tt
own_of d (entries.RollbackBegin epoch) h = tt
own_of d (entries.RollbackCommit epoch answers) h = tt
own_of d (entries.Whole c) h = absurd (false≢true h)
own_of d (entries.Holder chunk server) h = tt

own_so : (d : Durable) (entry : PlainEntry) → IsWithin d entry → IsOwn entry d
own_so d entry (inl both) = own_of d entry both.0
own_so d entry (inr is) = subst (λ e. IsOwn e d) (sym is) refl

phase_so : (d next : Durable) (entry : PlainEntry) → IsKept d → IsWithin d entry → applied d entry ≡ Some next → SamePhase d next
phase_so d next entry kept (inl both) is = phase_within entry d next both.0 is
phase_so d next entry kept (inr whole) is = phase_whole d next kept (ap (applied d) (sym whole) ∙ is)

pub all_within : (d next : Durable) (records : List PlainEntry) → GoWithin d records → replayed d records ≡ Some next → list_all is_within records ≡ true
all_within d next [] within is = refl
all_within d next (entry ∷ records) within is =
    let first = then_replays d next entry records is in
    ap (λ b. b && list_all is_within records) (within_so d entry within.0) ∙ all_within first.0 next records (within.1 first.0 first.1) first.2

-- so it is of the first of them
pub go_taken : (d : Durable) (records : List PlainEntry) (many : ℕ) → GoWithin d records → GoWithin d (take many records)
go_taken d records zero within = tt
go_taken d [] (suc many) within = tt
go_taken d (entry ∷ records) (suc many) within = (within.0, λ next is. go_taken next records many (within.1 next is))

pub all_keep_texts : (t : Telling) (d : Durable) (records : List PlainEntry) → GoWithin d records → AllByRecursion (KeepsTexts t) records → KeepTexts records t d
all_keep_texts t d [] within keep = tt
all_keep_texts t d (entry ∷ records) within keep =
    (own_so d entry within.0, keep.0, λ mid is. subst (λ s. KeepTexts records s mid) (sym (texts_stay entry t (within_so d entry within.0))) (all_keep_texts t mid records (within.1 mid is) keep.1))

pub same_phase_over : (d next : Durable) (records : List PlainEntry) → IsKept d → AllByRecursion (IsEntry Two) records → GoWithin d records → replayed d records ≡ Some next → SamePhase d next
same_phase_over d next [] kept written within is = ap (λ (e : Durable). is_ordinary e.phase) (sym (durable_is is))
same_phase_over d next (entry ∷ records) kept written within is =
    let first = then_replays d next entry records is in
    let own = own_so d entry within.0 in
    same_phase_over first.0 next records (stays_kept entry d first.0 own written.0 kept first.1) written.1 (within.1 first.0 first.1) first.2 ∙ phase_so d first.0 entry kept within.0 first.1

-- ---- so no upgrade begins or ends

no_prepare : (p q : Phase) → is_ordinary q ≡ is_ordinary p → (is_ordinary p && is_upgrade q) ≡ false
no_prepare Ordinary Ordinary h = refl
no_prepare Ordinary Upgrade h = absurd (false≢true h)
no_prepare Ordinary Rolling h = refl
no_prepare Upgrade q h = refl
no_prepare Rolling q h = refl

no_rollback : (p q : Phase) → is_ordinary q ≡ is_ordinary p → (is_rolling p && is_ordinary q) ≡ false
no_rollback Ordinary q h = refl
no_rollback Upgrade q h = refl
no_rollback Rolling Ordinary h = absurd (false≢true (sym h))
no_rollback Rolling Upgrade h = refl
no_rollback Rolling Rolling h = refl

pub none_begins : (d next : Durable) → SamePhase d next → prepares d next ≡ false
none_begins d next same = no_prepare d.phase next.phase same

pub none_is_back : (d next : Durable) → SamePhase d next → rolls_back d next ≡ false
none_is_back d next same = no_rollback d.phase next.phase same

-- ---- where one does

ordinary_stands : (phase : Phase) → is_ordinary phase ≡ true → is_rolling phase ≡ false
ordinary_stands Ordinary h = refl
ordinary_stands Upgrade h = refl
ordinary_stands Rolling h = absurd (false≢true h)

upgrade_goes_on : (phase : Phase) → is_upgrade phase ≡ true → (is_ordinary phase ≡ false) × (is_rolling phase ≡ false)
upgrade_goes_on Ordinary h = absurd (false≢true h)
upgrade_goes_on Upgrade h = (refl, refl)
upgrade_goes_on Rolling h = absurd (false≢true h)

pub prepare_begins : (d next : Durable) (epoch moment chunks : ℕ) → applied d (entries.Prepare epoch moment chunks) ≡ Some next → (prepares d next ≡ true) × (rolls_back d next ≡ false) × (next.names ≡ d.names)
unfolding applied
prepare_begins d next epoch moment chunks e =
    let is = fits_gives (is_ordinary d.phase && (is_next_epoch d.epoch epoch && are_at_rest d)) (without_prepared (with_epoch d ends.Prepare Upgrade)) next e in
    let ordinary = (and_parts (is_ordinary d.phase) (is_next_epoch d.epoch epoch && are_at_rest d) is.0).0 in (
      ap (λ (n : Durable). is_ordinary d.phase && is_upgrade n.phase) (sym is.1) ∙ ap (λ b. b && true) ordinary,
      ap (λ b. b && is_ordinary next.phase) (ordinary_stands d.phase ordinary),
      ap (λ (n : Durable). n.names) (sym is.1),
    )

pub finalize_ends : (d next : Durable) (epoch : ℕ) → applied d (entries.Finalize epoch) ≡ Some next → rolls_back d next ≡ false
unfolding applied
finalize_ends d next epoch e =
    let is = fits_gives (is_upgrade d.phase && is_next_epoch d.epoch epoch) (without_prepared (with_epoch d ends.Finalize Ordinary)) next e in
    ap (λ b. b && is_ordinary next.phase) (upgrade_goes_on d.phase (and_parts (is_upgrade d.phase) (is_next_epoch d.epoch epoch) is.0).0).1

pub commit_is_back : (d next : Durable) (epoch : ℕ) (answers : List Answered) → IsKept d → applied d (entries.RollbackCommit epoch answers) ≡ Some next → rolls_back d next ≡ true
unfolding applied
commit_is_back d next epoch answers kept e =
    let names = kept.back.0 in
    let tests = (epoch == d.epoch) && are_answers (prepared_view d) (fin.entries names.refs) answers in
    let is = fits_gives (is_rolling d.phase && tests) (rolled_back d answers names) next (ap (after_undoing d epoch answers) (sym kept.back.1) ∙ e) in
    ap (λ (n : Durable). is_rolling d.phase && is_ordinary n.phase) (sym is.1) ∙ ap (λ b. b && true) (and_parts (is_rolling d.phase) tests is.0).0
