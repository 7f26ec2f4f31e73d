-- Each record that isn't a checkpoint is its command, over texts that it doesn't change; and so are many.
use Rattle.std.proofs.Common.{◌≡◌, ◌∙◌, ◌&&◌, ℕ, true, false, List, [], ◌∷◌, refl, sym, ap, subst}
use Rattle.std.specs.Prelude.{◌==◌, filter_map, is_some, nat_lt, option_and_then, Option, Some, None, Result, Ok, Err}
use Rattle.std.specs.FinMap as fin
use Rattle.std.specs.List.{cons_option}
use Rattle.std.proofs.lemmas.Bool.{false≢true, and_parts}
use Rattle.gs_base.specs.declared.epoch.EpochEnd.TheVariants as ends
use Rattle.gs_base.specs.declared.numbers.ReqId.{ReqId}
use Rattle.gs_base.specs.declared.refusal.Refusal.{Refusal}
use Rattle.gs_edit.specs.Machine.{Plain as Machine}
use Rattle.gs_edit.specs.View.{NamesView}
use Rattle.gs_journal.specs.declared.version.Version.TheVariants.{Two}
use Rattle.gs_laws_master.specs.Promises.{IsKept, goes_on_within}
use Rattle.gs_laws_master.proofs.lemmas.upgrades.Beginnings.{fits_gives}
use Rattle.gs_laws_master.proofs.lemmas.keeping.KeptAll.{keeps_all, tidied_kept}
use Rattle.gs_laws_master.proofs.lemmas.telling.ToldAgain.{tells_all}
use Rattle.gs_master_spec.specs.Handling.{tidied}
use Rattle.gs_master_spec.specs.Whole.{checkpoint_of, whole_of}
use Rattle.gs_laws_master.proofs.lemmas.upgrades.LedBack.{leads_back}
use Rattle.gs_laws_plain.specs.commands.Commands.{all_commanded, command_of, command_of_edit, forgets, goes_back, keeps}
use Rattle.gs_laws_plain.proofs.lemmas.commands.Edits.{edits_lead}
use Rattle.gs_laws_plain.proofs.lemmas.commands.Leading.{one_more}
use Rattle.gs_laws_plain.specs.commands.Edits.{KeepsText, listed, shown}
use Rattle.gs_laws_plain.specs.commands.Records.{IsOwn, RecordIsCommand, RecordsAreCommands, Telling, kept_in, machine_of, texts_behind, texts_behind_all}
use Rattle.gs_master_record.specs.Plain.{PlainEdit, PlainEntry, Edited, Said, Propose, Settle, Prepare, Finalize, RollbackBegin, RollbackCommit, Whole, Holder}
use Rattle.gs_master_record.specs.Writable.{IsEntry}
use Rattle.gs_master_record.specs.declared.checkpoint.Phase.{Phase}
use Rattle.gs_master_record.specs.declared.checkpoint.Phase.TheVariants.{Ordinary, Upgrade, Rolling}
use Rattle.gs_master_record.specs.declared.entry.Answered.{Answered}
use Rattle.gs_replica.specs.Copies.{and_then}
use Rattle.gs_master_spec.specs.Applied.{after_edit, after_undoing, applied, are_answers, are_at_rest, forgotten_by, held_by, is_next_epoch, may_be_settled, may_edit, may_propose, proposed, replayed, rolled_back, with_edit, with_epoch, with_view, without_chunks, without_prepared}
use Rattle.gs_master_spec.specs.Durable.{Durable, is_ordinary, is_rolling, is_upgrade, kept_before, prepared_view, with_prepared}
use Rattle.gs_master_spec.specs.Undoing.{all_undone, edited_names}

-- ---- phases

ordinary_is : (phase : Phase) → is_ordinary phase ≡ true → phase ≡ Ordinary
ordinary_is Ordinary h = refl
ordinary_is Upgrade h = absurd (false≢true h)
ordinary_is Rolling h = absurd (false≢true h)

upgrade_is : (phase : Phase) → is_upgrade phase ≡ true → phase ≡ Upgrade
upgrade_is Ordinary h = absurd (false≢true h)
upgrade_is Upgrade h = refl
upgrade_is Rolling h = absurd (false≢true h)

rolling_is : (phase : Phase) → is_rolling phase ≡ true → phase ≡ Rolling
rolling_is Ordinary h = absurd (false≢true h)
rolling_is Upgrade h = absurd (false≢true h)
rolling_is Rolling h = refl

same_phase : (d : Durable) (chunks : List ℕ) → (without_chunks d chunks).phase ≡ d.phase
same_phase d [] = refl
same_phase d (chunk ∷ chunks) = same_phase (record d { chunks = fin.remove d.chunks chunk; prepared = kept_before d chunk }) chunks

kept_same : (before : ℕ → List ℕ) (phase : Phase) (a b : Option NamesView) → (is_ordinary phase ≡ false → a ≡ b) → kept_in before phase a ≡ kept_in before phase b
kept_same before Ordinary a b h = refl
kept_same before Upgrade a b h = ap (kept_in before Upgrade) (h refl)
kept_same before Rolling a b h = ap (kept_in before Rolling) (h refl)

-- ---- edits

edit_leads : (size : ℕ) (t : Telling) (d next : Durable) (by : ReqId) (edit : PlainEdit) (names : Result NamesView Refusal) → IsKept d → KeepsText t.now edit → edited_names edit d.names ≡ names → after_edit d by edit names ≡ Some next →
    applied d (Edited by edit) ≡ Some next → all_commanded size (listed (command_of_edit edit)) (machine_of t d) ≡ Ok (machine_of t next)
edit_leads size t d next by edit (Err refusal) kept texts named e whole = absurd (false≢true (ap is_some e))
edit_leads size t d next by edit (Ok names) kept texts named e whole =
    let is = fits_gives (may_edit d edit) (with_edit d by edit names) next e in
    let phase : next.phase ≡ d.phase = sym (ap (λ (x : Durable). x.phase) is.1) ∙ same_phase d (forgotten_by edit) in
    let stands : next.names ≡ names = sym (ap (λ (x : Durable). x.names) is.1) in
    let tree : kept_in t.before next.phase (all_undone next.inverses next.names) ≡ kept_in t.before d.phase (all_undone d.inverses d.names) =
    ap (λ p. kept_in t.before p (all_undone next.inverses next.names)) phase
    ∙ kept_same t.before d.phase (all_undone next.inverses next.names) (all_undone d.inverses d.names) (λ h. leads_back (Edited by edit) d next kept h refl whole) in
    edits_lead size t.now edit (kept_in t.before d.phase (all_undone d.inverses d.names)) d.names names texts named
    ∙ ap (λ k. Ok (shown t.now k names)) (sym tree) ∙ ap (λ (n : NamesView). Ok (shown t.now (kept_in t.before next.phase (all_undone next.inverses next.names)) n)) (sym stands)

-- ---- the ends of upgrades

abbrev then_ok : Result (Machine (List ℕ)) Refusal → Result (Machine (List ℕ)) Refusal
then_ok r = and_then r (λ next. Ok next)

prepare_leads : (t : Telling) (d next : Durable) (u : Option NamesView) → d.phase ≡ Ordinary → without_prepared (with_epoch d ends.Prepare Upgrade) ≡ next →
    then_ok (keeps (shown t.now (kept_in t.before d.phase u) d.names) (kept_in t.before d.phase u)) ≡ Ok (machine_of (record { now = t.now; before = t.now }) next)
prepare_leads t d next u phase is =
    ap (λ p. then_ok (keeps (shown t.now (kept_in t.before p u) d.names) (kept_in t.before p u))) phase ∙ ap (λ x. Ok (machine_of (record { now = t.now; before = t.now }) x)) is

finalize_leads : (t : Telling) (d next : Durable) (u : Option NamesView) (names : NamesView) → d.phase ≡ Upgrade → u ≡ Some names → without_prepared (with_epoch d ends.Finalize Ordinary) ≡ next →
    then_ok (forgets (shown t.now (kept_in t.before d.phase u) d.names) (kept_in t.before d.phase u)) ≡ Ok (machine_of t next)
finalize_leads t d next u names phase there is =
    ap (λ p. then_ok (forgets (shown t.now (kept_in t.before p u) d.names) (kept_in t.before p u))) phase
    ∙ ap (λ v. then_ok (forgets (shown t.now (kept_in t.before Upgrade v) d.names) (kept_in t.before Upgrade v))) there
    ∙ ap (λ x. Ok (machine_of t x)) is

rollback_leads : (t : Telling) (d next : Durable) (u : Option NamesView) (names : NamesView) (answers : List Answered) → d.phase ≡ Rolling → u ≡ Some names → rolled_back d answers names ≡ next →
    then_ok (goes_back (shown t.now (kept_in t.before d.phase u) d.names) (kept_in t.before d.phase u)) ≡ Ok (machine_of (record { now = t.before; before = t.before }) next)
rollback_leads t d next u names answers phase there is =
    ap (λ p. then_ok (goes_back (shown t.now (kept_in t.before p u) d.names) (kept_in t.before p u))) phase
    ∙ ap (λ v. then_ok (goes_back (shown t.now (kept_in t.before Rolling v) d.names) (kept_in t.before Rolling v))) there
    ∙ ap (λ x. Ok (machine_of (record { now = t.before; before = t.before }) x)) is

begins_back : (t : Telling) (d next : Durable) → d.phase ≡ Upgrade → with_epoch d ends.Rollback Rolling ≡ next → ◌≡◌ {A = Result (Machine (List ℕ)) Refusal} (Ok (machine_of t d)) (Ok (machine_of t next))
begins_back t d next phase is =
    ap (λ p. Ok (shown t.now (kept_in t.before p (all_undone d.inverses d.names)) d.names)) phase ∙ ap (λ x. Ok (machine_of t x)) is

-- ---- each record

durable_is : {a b : Durable} → ◌≡◌ {A = Option Durable} (Some a) (Some b) → a ≡ b
durable_is h = cc

stays : (t : Telling) (d n next : Durable) → n ≡ next → ◌≡◌ {A = Machine (List ℕ)} (machine_of t d) (machine_of t n) → ◌≡◌ {A = Result (Machine (List ℕ)) Refusal} (Ok (machine_of t d)) (Ok (machine_of t next))
stays t d n next is same = ap Ok (same ∙ ap (machine_of t) is)

pub each_record : (entry : PlainEntry) → RecordIsCommand entry
unfolding applied
each_record (Edited by edit) size t d next kept own texts e = edit_leads size t d next by edit (edited_names edit d.names) kept texts refl e e
each_record (Said to refusal) size t d next kept own texts e = stays t d _ next (fits_gives true _ next e).1 refl
each_record (Propose chunk version) size t d next kept own texts e =
    stays t d (proposed d chunk version) next (fits_gives (may_propose d.phase d.next_handle d.next_version chunk version (fin.get d.chunks chunk)) (proposed d chunk version) next e).1 refl
each_record (Settle v) size t d next kept own texts e = stays t d (with_view d v) next (fits_gives (may_be_settled d v) (with_view d v) next e).1 refl
each_record (Prepare epoch moment chunks) size t d next kept own texts e =
    let is = fits_gives (is_ordinary d.phase && (is_next_epoch d.epoch epoch && are_at_rest d)) (without_prepared (with_epoch d ends.Prepare Upgrade)) next e in
    prepare_leads t d next (all_undone d.inverses d.names) (ordinary_is d.phase (and_parts (is_ordinary d.phase) (is_next_epoch d.epoch epoch && are_at_rest d) is.0).0) is.1
each_record (Finalize epoch) size t d next kept own texts e =
    let is = fits_gives (is_upgrade d.phase && is_next_epoch d.epoch epoch) (without_prepared (with_epoch d ends.Finalize Ordinary)) next e in
    finalize_leads t d next (all_undone d.inverses d.names) kept.back.0 (upgrade_is d.phase (and_parts (is_upgrade d.phase) (is_next_epoch d.epoch epoch) is.0).0) kept.back.1 is.1
each_record (RollbackBegin epoch) size t d next kept own texts e =
    let is = fits_gives (is_upgrade d.phase && is_next_epoch d.epoch epoch) (with_epoch d ends.Rollback Rolling) next e in
    begins_back t d next (upgrade_is d.phase (and_parts (is_upgrade d.phase) (is_next_epoch d.epoch epoch) is.0).0) is.1
each_record (RollbackCommit epoch answers) size t d next kept own texts e =
    let is = fits_gives (is_rolling d.phase && ((epoch == d.epoch) && are_answers (prepared_view d) (fin.entries kept.back.0.refs) answers)) (rolled_back d answers kept.back.0) next (ap (after_undoing d epoch answers) (sym kept.back.1) ∙ e) in
    rollback_leads t d next (all_undone d.inverses d.names) kept.back.0 answers (rolling_is d.phase (and_parts (is_rolling d.phase) ((epoch == d.epoch) && are_answers (prepared_view d) (fin.entries kept.back.0.refs) answers) is.0).0) kept.back.1 is.1
each_record (Whole c) size t d next kept own texts e = stays t d (tidied d) next (durable_is (sym (ap whole_of own ∙ tells_all d kept) ∙ e)) refl
each_record (Holder chunk server) size t d next kept own texts e =
    stays t d (record d { prepared = with_prepared d chunk (held_by server (prepared_view d chunk)) }) next
    (fits_gives (is_upgrade d.phase && (nat_lt server 16 && is_some (prepared_view d chunk))) (record d { prepared = with_prepared d chunk (held_by server (prepared_view d chunk)) }) next e).1 refl

-- ---- what leaves the phase as it is

-- such a record ends no upgrade, and begins none
abbrev pub SamePhase : Durable → Durable → Type 0
SamePhase d next = is_ordinary next.phase ≡ is_ordinary d.phase

phase_as : (d n next : Durable) → n ≡ next → SamePhase d n → SamePhase d next
phase_as d n next is same = subst (SamePhase d) is same

edit_phase : (d next : Durable) (by : ReqId) (edit : PlainEdit) (names : Result NamesView Refusal) → after_edit d by edit names ≡ Some next → SamePhase d next
edit_phase d next by edit (Err refusal) e = absurd (false≢true (ap is_some e))
edit_phase d next by edit (Ok names) e = phase_as d (with_edit d by edit names) next (fits_gives (may_edit d edit) (with_edit d by edit names) next e).1 (ap is_ordinary (same_phase d (forgotten_by edit)))

not_ordinary : (phase : Phase) → is_upgrade phase ≡ true → false ≡ is_ordinary phase
not_ordinary Ordinary h = absurd (false≢true h)
not_ordinary Upgrade h = refl
not_ordinary Rolling h = refl

pub phase_within : (entry : PlainEntry) (d next : Durable) → goes_on_within entry ≡ true → applied d entry ≡ Some next → SamePhase d next
unfolding applied
phase_within (Edited by edit) d next within e = edit_phase d next by edit (edited_names edit d.names) e
phase_within (Said to refusal) d next within e = phase_as d _ next (fits_gives true _ next e).1 refl
phase_within (Propose chunk version) d next within e =
    phase_as d (proposed d chunk version) next (fits_gives (may_propose d.phase d.next_handle d.next_version chunk version (fin.get d.chunks chunk)) (proposed d chunk version) next e).1 refl
phase_within (Settle v) d next within e = phase_as d (with_view d v) next (fits_gives (may_be_settled d v) (with_view d v) next e).1 refl
phase_within (Prepare epoch moment chunks) d next within e = absurd (false≢true within)
phase_within (Finalize epoch) d next within e = absurd (false≢true within)
phase_within (RollbackBegin epoch) d next within e =
    let is = fits_gives (is_upgrade d.phase && is_next_epoch d.epoch epoch) (with_epoch d ends.Rollback Rolling) next e in
    phase_as d (with_epoch d ends.Rollback Rolling) next is.1 (not_ordinary d.phase (and_parts (is_upgrade d.phase) (is_next_epoch d.epoch epoch) is.0).0)
phase_within (RollbackCommit epoch answers) d next within e = absurd (false≢true within)
phase_within (Whole c) d next within e = absurd (false≢true within)
phase_within (Holder chunk server) d next within e =
    phase_as d (record d { prepared = with_prepared d chunk (held_by server (prepared_view d chunk)) }) next
    (fits_gives (is_upgrade d.phase && (nat_lt server 16 && is_some (prepared_view d chunk))) (record d { prepared = with_prepared d chunk (held_by server (prepared_view d chunk)) }) next e).1 refl

-- nor does a checkpoint that tells what it meets
pub phase_whole : (d next : Durable) → IsKept d → applied d (Whole (checkpoint_of d)) ≡ Some next → SamePhase d next
unfolding applied
phase_whole d next kept e = phase_as d (tidied d) next (durable_is (sym (tells_all d kept) ∙ e)) refl

-- ---- one after the other

pub stays_kept : (entry : PlainEntry) (d next : Durable) → IsOwn entry d → IsEntry Two entry → IsKept d → applied d entry ≡ Some next → IsKept next
unfolding applied
stays_kept (Whole c) d next own written kept e = subst IsKept (durable_is (sym (ap whole_of own ∙ tells_all d kept) ∙ e)) (tidied_kept d kept)
stays_kept (Edited by edit) d next own written kept e = keeps_all (Edited by edit) refl d next written kept e
stays_kept (Said to refusal) d next own written kept e = keeps_all (Said to refusal) refl d next written kept e
stays_kept (Propose chunk version) d next own written kept e = keeps_all (Propose chunk version) refl d next written kept e
stays_kept (Settle v) d next own written kept e = keeps_all (Settle v) refl d next written kept e
stays_kept (Prepare epoch moment chunks) d next own written kept e = keeps_all (Prepare epoch moment chunks) refl d next written kept e
stays_kept (Finalize epoch) d next own written kept e = keeps_all (Finalize epoch) refl d next written kept e
stays_kept (RollbackBegin epoch) d next own written kept e = keeps_all (RollbackBegin epoch) refl d next written kept e
stays_kept (RollbackCommit epoch answers) d next own written kept e = keeps_all (RollbackCommit epoch answers) refl d next written kept e
stays_kept (Holder chunk server) d next own written kept e = keeps_all (Holder chunk server) refl d next written kept e

pub records_lead : RecordsAreCommands
records_lead size t [] d next kept written texts e = ap (λ o. Ok (machine_of t (in_it o))) e
  where
    in_it : Option Durable → Durable
    in_it None = d
    in_it (Some x) = x
records_lead size t (entry ∷ records) d next kept written texts e =
    each (λ mid first rest. records_lead size (texts_behind entry t) records mid next (stays_kept entry d mid texts.0 written.0 kept first) written.1 (texts.2 mid first) rest) (applied d entry) refl e
  where
    each : ((mid : Durable) → applied d entry ≡ Some mid → replayed mid records ≡ Some next → all_commanded size (filter_map command_of records) (machine_of (texts_behind entry t) mid) ≡ Ok (machine_of (texts_behind_all records (texts_behind entry t)) next))
        → (o : Option Durable) → applied d entry ≡ o → option_and_then (λ n. replayed n records) o ≡ Some next
        → all_commanded size (cons_option (command_of entry) (filter_map command_of records)) (machine_of t d) ≡ Ok (machine_of (texts_behind_all records (texts_behind entry t)) next)
    each more None a r = absurd (cc)
    each more (Some mid) a r =
        one_more size (command_of entry) (filter_map command_of records) (machine_of t d) (machine_of (texts_behind entry t) mid) (each_record entry size t d mid kept texts.0 texts.1 a) ∙ more mid a r
