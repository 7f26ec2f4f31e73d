-- Counters never fall behind a value that was given.
use Rattle.std.proofs.Common.{◌≡◌, ◌≤◌, ◌+◌, ◌==◌, ◌&&◌, ◌||◌, ℕ, true, not, List, [], ◌∷◌, refl, ap, sym, subst, arith}
use Rattle.std.specs.Prelude.{nat_lt, Option, Some, None, is_some, is_none, Result, Ok, Err}
use Rattle.std.specs.FinMap as fin
use Rattle.std.proofs.lemmas.Bool.{false≢true, and_parts}
use Rattle.std.proofs.lemmas.Bool.Decides.{nat_tests}
use Rattle.gs_base.specs.declared.numbers.ReqId.{ReqId}
use Rattle.gs_base.specs.declared.refusal.Refusal.{Refusal}
use Rattle.gs_edit.specs.View.{NamesView}
use Rattle.gs_master_record.specs.Plain.{PlainEdit, PlainEntry, Edited, Said, Propose, Settle, Prepare, Finalize, RollbackBegin, RollbackCommit, Whole, Holder}
use Rattle.gs_base.specs.declared.epoch.EpochEnd.TheVariants as ends
use Rattle.gs_master_record.specs.declared.checkpoint.Phase.TheVariants.{Ordinary, Upgrade, Rolling}
use Rattle.gs_master_record.specs.declared.entry.Answered.{Answered}
use Rattle.gs_master_spec.specs.Applied.{applied, is_fresh, raised, may_edit, names_well, with_edit, after_edit, without_chunks, forgotten_by, number_of_edit, chunk_of_edit, view_for, is_fresh_if, after_if, may_propose, proposed, may_be_settled, with_view, is_next_epoch, are_at_rest, with_epoch, without_prepared, after_undoing, are_answers, rolled_back, held_by}
use Rattle.gs_master_spec.specs.Durable.{Durable, is_given, after_number, is_ordinary, is_upgrade, is_rolling, prepared_view, with_prepared, kept_before}
use Rattle.gs_laws_master.specs.Promises.{KeepsGiven}
use Rattle.gs_master_spec.specs.Undoing.{edited_names, all_undone}
use Rattle.gs_laws_master.proofs.lemmas.upgrades.Beginnings.{fits_gives}

pub given_behind : (next v n : ℕ) → is_fresh next v ≡ true → is_given next n ≡ true → is_given (after_number v) n ≡ true
given_behind next v n fresh given = grind (arith, nat_tests)

pub given_raised : (next v n : ℕ) → is_given next n ≡ true → is_given (raised next v) n ≡ true
given_raised next v n given = grind (arith, nat_tests)

given_if : (next n : ℕ) (number : Option ℕ) → is_fresh_if next number ≡ true → is_given next n ≡ true → is_given (after_if next number) n ≡ true
given_if next n None fresh given = given
given_if next n (Some v) fresh given = given_behind next v n fresh given

abbrev pub AllGiven : Durable → Durable → ℕ → Type 0
AllGiven d next n =
    (is_given d.next_handle n ≡ true → is_given next.next_handle n ≡ true) × (is_given d.next_version n ≡ true → is_given next.next_version n ≡ true)
    × (is_given d.next_hidden n ≡ true → is_given next.next_hidden n ≡ true) × (d.epoch ≤ next.epoch)

handle_stays : (d : Durable) (chunks : List ℕ) → (without_chunks d chunks).next_handle ≡ d.next_handle
handle_stays d [] = refl
handle_stays d (chunk ∷ chunks) = handle_stays (record d { chunks = fin.remove d.chunks chunk; prepared = kept_before d chunk }) chunks

version_stays : (d : Durable) (chunks : List ℕ) → (without_chunks d chunks).next_version ≡ d.next_version
version_stays d [] = refl
version_stays d (chunk ∷ chunks) = version_stays (record d { chunks = fin.remove d.chunks chunk; prepared = kept_before d chunk }) chunks

epoch_stays : (d : Durable) (chunks : List ℕ) → (without_chunks d chunks).epoch ≡ d.epoch
epoch_stays d [] = refl
epoch_stays d (chunk ∷ chunks) = epoch_stays (record d { chunks = fin.remove d.chunks chunk; prepared = kept_before d chunk }) chunks

same_given : (d : Durable) (n : ℕ) → AllGiven d d n
same_given d n = (λ g. g, λ g. g, λ g. g, omega arith)

later_given : (d : Durable) (n epoch : ℕ) → epoch ≡ d.epoch + 1 → AllGiven d (record d { epoch = epoch }) n
later_given d n epoch is = (λ g. g, λ g. g, λ g. g, omega arith)

edit_given : (d : Durable) (by : ReqId) (edit : PlainEdit) (names : NamesView) (n : ℕ) → may_edit d edit ≡ true → AllGiven d (with_edit d by edit names) n
edit_given d by edit names n may =
    let settled = is_none (chunk_of_edit edit) || is_some (view_for d (chunk_of_edit edit)) in
    let counted = is_fresh_if d.next_hidden (number_of_edit edit) in
    let fresh = (and_parts settled counted (and_parts (names_well edit) (settled && counted) (and_parts (not (is_rolling d.phase)) (names_well edit && (settled && counted)) may).1).1).1 in
    let epoch = epoch_stays d (forgotten_by edit) in
    (λ g. rw (handle_stays d (forgotten_by edit)) g, λ g. rw (version_stays d (forgotten_by edit)) g, λ g. given_if d.next_hidden n (number_of_edit edit) fresh g, omega arith)

edited_given : (d next : Durable) (by : ReqId) (edit : PlainEdit) (names : Result NamesView Refusal) (n : ℕ) → after_edit d by edit names ≡ Some next → AllGiven d next n
edited_given d next by edit (Ok names) n e =
    let is = fits_gives (may_edit d edit) (with_edit d by edit names) next e in subst (λ (x : Durable). AllGiven d x n) is.1 (edit_given d by edit names n is.0)
edited_given d next by edit (Err refusal) n e = absurd (false≢true (ap is_some e))

undone_given : (d next : Durable) (epoch n : ℕ) (answers : List Answered) (names : Option NamesView) → after_undoing d epoch answers names ≡ Some next → AllGiven d next n
undone_given d next epoch n answers None e = absurd (false≢true (ap is_some e))
undone_given d next epoch n answers (Some names) e =
    subst (λ (x : Durable). AllGiven d x n) (fits_gives (is_rolling d.phase && ((epoch == d.epoch) && are_answers (prepared_view d) (fin.entries names.refs) answers)) (rolled_back d answers names) next e).1 (same_given d n)

some_is : (d next : Durable) → Some d ≡ Some next → d ≡ next
some_is d next e = (fits_gives true d next e).1

pub keeps_given : (entry : PlainEntry) → KeepsGiven entry
unfolding applied
keeps_given (Edited by edit) d next n not_whole e = edited_given d next by edit (edited_names edit d.names) n e
keeps_given (Said to refusal) d next n not_whole e = subst (λ (x : Durable). AllGiven d x n) (some_is _ next e) (same_given d n)
keeps_given (Propose chunk version) d next n not_whole e =
    let is = fits_gives (may_propose d.phase d.next_handle d.next_version chunk version (fin.get d.chunks chunk)) (proposed d chunk version) next e in
    let fresh = (and_parts (is_fresh d.next_version version) (is_some (fin.get d.chunks chunk) || is_fresh d.next_handle chunk) (and_parts (not (is_rolling d.phase)) (is_fresh d.next_version version && (is_some (fin.get d.chunks chunk) || is_fresh d.next_handle chunk)) is.0).1).0 in
    subst (λ (x : Durable). AllGiven d x n) is.1 (λ g. given_raised d.next_handle chunk n g, λ g. given_behind d.next_version version n fresh g, λ g. g, omega arith)
keeps_given (Settle v) d next n not_whole e =
    subst (λ (x : Durable). AllGiven d x n) (fits_gives (may_be_settled d v) (with_view d v) next e).1 (same_given d n)
keeps_given (Prepare epoch moment chunks) d next n not_whole e =
    subst (λ (x : Durable). AllGiven d x n) (fits_gives (is_ordinary d.phase && (is_next_epoch d.epoch epoch && are_at_rest d)) (without_prepared (with_epoch d ends.Prepare Upgrade)) next e).1 (later_given d n (d.epoch + 1) refl)
keeps_given (Finalize epoch) d next n not_whole e =
    subst (λ (x : Durable). AllGiven d x n) (fits_gives (is_upgrade d.phase && is_next_epoch d.epoch epoch) (without_prepared (with_epoch d ends.Finalize Ordinary)) next e).1 (later_given d n (d.epoch + 1) refl)
keeps_given (RollbackBegin epoch) d next n not_whole e =
    subst (λ (x : Durable). AllGiven d x n) (fits_gives (is_upgrade d.phase && is_next_epoch d.epoch epoch) (with_epoch d ends.Rollback Rolling) next e).1 (later_given d n (d.epoch + 1) refl)
keeps_given (RollbackCommit epoch answers) d next n not_whole e = undone_given d next epoch n answers (all_undone d.inverses d.names) e
keeps_given (Whole c) d next n not_whole e = absurd (false≢true (sym not_whole))
keeps_given (Holder chunk server) d next n not_whole e =
    subst (λ (x : Durable). AllGiven d x n) (fits_gives (is_upgrade d.phase && (nat_lt server 16 && is_some (prepared_view d chunk))) (record d { prepared = with_prepared d chunk (held_by server (prepared_view d chunk)) }) next e).1 (same_given d n)
