-- From a prepare to the commit of its rollback.
use Rattle.std.proofs.Common.{arith, ◌≡◌, ◌⊎◌, inl, inr, ◌∙◌, ◌&&◌, ◌==◌, ℕ, Bool, true, false, cond, List, [], ◌∷◌, nat_lt, refl, sym, ap, subst}
use Rattle.std.specs.Prelude.{map, Option, Some, None, is_some, option_map, option_and_then, Result, Ok, Err, if◌then◌else◌}
use Rattle.std.specs.List.{AllByRecursion, cons_option, list_all}
use Rattle.std.specs.Cmp.{nat_cmp_total}
use Rattle.std.specs.FinMap as fin
use Rattle.std.specs.Ordering.{eq_by_cmp, nat_cmp}
use Rattle.std.proofs.lemmas.Bool.{false≢true, and_parts}
use Rattle.std.proofs.lemmas.Bool.Decides.{nat_tests}
use Rattle.gs_base.specs.declared.epoch.EpochEnd.TheVariants as ends
use Rattle.gs_base.specs.declared.numbers.ReqId.{ReqId}
use Rattle.gs_base.specs.declared.refusal.Refusal.{Refusal}
use Rattle.gs_edit.specs.View.{NamesView}
use Rattle.gs_journal.specs.declared.version.Version.TheVariants.{Two}
use Rattle.gs_lease.specs.declared.view.View.{View}
use Rattle.gs_master_record.specs.Plain.{PlainEdit, PlainEntry, Edited, Said, Propose, Settle, Prepare, Finalize, RollbackBegin, RollbackCommit, Whole, Holder}
use Rattle.gs_master_record.specs.Writable.{IsEntry}
use Rattle.gs_master_record.specs.declared.checkpoint.Phase.{Phase}
use Rattle.gs_master_record.specs.declared.checkpoint.Phase.TheVariants.{Ordinary, Upgrade, Rolling}
use Rattle.gs_master_record.specs.declared.entry.Answered.{Answered}
use Rattle.gs_master_spec.specs.Applied.{after_edit, after_undoing, applied, are_answers, are_at_rest, forgotten_by, held_by, is_next_epoch, is_whole_entry, may_be_settled, may_edit, may_propose, may_restore, proposed, replayed, restored_view, rolled_back, with_edit, with_epoch, with_view, without_prepared}
use Rattle.gs_master_spec.specs.Durable.{Durable, Settled, is_listed, is_ordinary, is_rolling, is_upgrade, prepared_of, prepared_view, upgrade_epoch, with_prepared}
use Rattle.gs_master_spec.specs.Handling.{tidied}
use Rattle.gs_master_spec.specs.Whole.{checkpoint_of}
use Rattle.gs_laws_master.specs.Reached.{GoWithin, RollsBackThrough}
use Rattle.gs_laws_master.specs.Promises.{IsKept, IsRolledBack, IsStillThere, RollsBack, goes_on_within, members_for, prepared_from, quiet_again}
use Rattle.gs_master_spec.specs.Undoing.{all_undone, edited_names}
use Rattle.gs_master_spec.specs.declared.asking.Prepared.{Prepared}
use Rattle.gs_laws_master.proofs.lemmas.upgrades.Beginnings.{begins_with_all, fits_gives}
use Rattle.gs_laws_master.proofs.lemmas.keeping.Kept.{is_tied, keeps_views, view_at_prepare}
use Rattle.gs_laws_master.proofs.lemmas.keeping.KeptAll.{keeps_all, tidied_kept}
use Rattle.gs_laws_master.proofs.lemmas.keeping.KeptEdits.{forgets_only}
use Rattle.gs_laws_master.proofs.lemmas.keeping.KeptEpochs.{prepare_kept, restored}
use Rattle.gs_laws_master.proofs.lemmas.keeping.KeptViews.{same_key}
use Rattle.gs_laws_master.proofs.lemmas.upgrades.LedBack.{leads_back}
use Rattle.gs_laws_master.proofs.lemmas.telling.ToldAgain.{get_tidied, tells_all}

-- ---- records within an upgrade

not_whole : (entry : PlainEntry) → goes_on_within entry ≡ true → is_whole_entry entry ≡ false
not_whole (Edited by edit) h = refl
not_whole (Said to refusal) h = refl
not_whole (Propose chunk version) h = refl
not_whole (Settle v) h = refl
not_whole (Prepare epoch moment chunks) h = refl
not_whole (Finalize epoch) h = refl
not_whole (RollbackBegin epoch) h = refl
not_whole (RollbackCommit epoch answers) h = refl
not_whole (Whole c) h = absurd (false≢true h)
not_whole (Holder chunk server) h = refl

abbrev SamePhase : Durable → Durable → Type 0
SamePhase d next = is_ordinary next.phase ≡ is_ordinary d.phase

as_phase : (d n next : Durable) → n ≡ next → SamePhase d n → SamePhase d next
as_phase d n next is same = subst (SamePhase d) is same

edited_phase : (d next : Durable) (by : ReqId) (edit : PlainEdit) (names : Result NamesView Refusal) → after_edit d by edit names ≡ Some next → SamePhase d next
edited_phase d next by edit (Ok names) e =
    as_phase d (with_edit d by edit names) next (fits_gives (may_edit d edit) (with_edit d by edit names) next e).1 (ap (λ (x : Durable). is_ordinary x.phase) (forgets_only d (forgotten_by edit)))
edited_phase d next by edit (Err refusal) e = absurd (false≢true (ap is_some e))

upgrade_stands : (phase : Phase) → is_upgrade phase ≡ true → false ≡ is_ordinary phase
upgrade_stands Ordinary h = absurd (false≢true h)
upgrade_stands Upgrade h = refl
upgrade_stands Rolling h = refl

-- the upgrade stands still
phase_within : (entry : PlainEntry) (d next : Durable) → goes_on_within entry ≡ true → applied d entry ≡ Some next → SamePhase d next
unfolding applied
phase_within (Edited by edit) d next within e = edited_phase d next by edit (edited_names edit d.names) e
phase_within (Said to refusal) d next within e = as_phase d _ next (fits_gives true _ next e).1 refl
phase_within (Propose chunk version) d next within e =
    as_phase d (proposed d chunk version) next (fits_gives (may_propose d.phase d.next_handle d.next_version chunk version (fin.get d.chunks chunk)) (proposed d chunk version) next e).1 refl
phase_within (Settle v) d next within e = as_phase d (with_view d v) next (fits_gives (may_be_settled d v) (with_view d v) next e).1 refl
phase_within (Prepare epoch moment chunks) d next within e = absurd (false≢true within)
phase_within (Finalize epoch) d next within e = absurd (false≢true within)
phase_within (RollbackBegin epoch) d next within e =
    let is = fits_gives (is_upgrade d.phase && is_next_epoch d.epoch epoch) (with_epoch d ends.Rollback Rolling) next e in
    as_phase d (with_epoch d ends.Rollback Rolling) next is.1 (upgrade_stands d.phase (and_parts (is_upgrade d.phase) (is_next_epoch d.epoch epoch) is.0).0)
phase_within (RollbackCommit epoch answers) d next within e = absurd (false≢true within)
phase_within (Whole c) d next within e = absurd (false≢true within)
phase_within (Holder chunk server) d next within e =
    as_phase d (record d { prepared = with_prepared d chunk (held_by server (prepared_view d chunk)) }) next
    (fits_gives (is_upgrade d.phase && (nat_lt server 16 && is_some (prepared_view d chunk))) (record d { prepared = with_prepared d chunk (held_by server (prepared_view d chunk)) }) next e).1 refl

-- ---- since a prepare

-- what stands since, and where it leads back to, of each chunk that was listed
record Since (d now : Durable) : Type 0 where
  kept : IsKept now
  stands : is_ordinary now.phase ≡ false
  names : all_undone now.inverses now.names ≡ Some d.names
  views : (chunk : ℕ) → is_listed d chunk ≡ true → view_at_prepare now chunk ≡ option_map (λ (s : Settled). s.view) (fin.get d.chunks chunk)

since_one : (d now next : Durable) (entry : PlainEntry) → Since d now → goes_on_within entry ≡ true → IsEntry Two entry → applied now entry ≡ Some next → Since d next
since_one d now next entry s within written e = record {
  kept = keeps_all entry (not_whole entry within) now next written s.kept e;
  stands = phase_within entry now next within e ∙ s.stands;
  names = leads_back entry now next s.kept s.stands within e ∙ s.names;
  views = λ chunk listed. keeps_views entry now next s.stands within e chunk ∙ s.views chunk listed;
}

durable_is : {a b : Durable} → ◌≡◌ {A = Option Durable} (Some a) (Some b) → a ≡ b
durable_is h = cc

-- a checkpoint of what stands leaves the prepared view of each chunk that is still there
tidied_view : (now : Durable) (chunk : ℕ) → IsStillThere now chunk → prepared_view (tidied now) chunk ≡ prepared_view now chunk
tidied_view now chunk (inl listed) = ap (prepared_of (upgrade_epoch now.phase now.epoch) (fin.get now.prepared chunk)) (get_tidied now chunk ∙ ap (λ b. cond b (fin.get now.chunks chunk) None) listed)
tidied_view now chunk (inr kept) = each (upgrade_epoch now.phase now.epoch) (fin.get now.prepared chunk) kept
  where
    each : (u : Option ℕ) (o : Option Prepared) → is_some o ≡ true → prepared_of u o (fin.get (tidied now).chunks chunk) ≡ prepared_of u o (fin.get now.chunks chunk)
    each None o some = refl
    each (Some up) None some = absurd (false≢true some)
    each (Some up) (Some p) some = refl

since_tidied : (d now : Durable) → Since d now → Since d (tidied now)
since_tidied d now s = record {
  kept = tidied_kept now s.kept;
  stands = s.stands;
  names = s.names;
  views = λ chunk listed. ap (option_map (λ (p : Prepared). p.view)) (tidied_view now chunk (s.kept.still d.names chunk s.names s.stands listed)) ∙ s.views chunk listed;
}

since_checkpoint : (d now next : Durable) (entry : PlainEntry) → Since d now → entry ≡ Whole (checkpoint_of now) → applied now entry ≡ Some next → Since d next
unfolding applied
since_checkpoint d now next entry s is e = subst (Since d) (durable_is (sym (tells_all now s.kept) ∙ ap (applied now) (sym is) ∙ e)) (since_tidied d now s)

since_any : (d now next : Durable) (entry : PlainEntry) → Since d now → ((goes_on_within entry ≡ true) × IsEntry Two entry) ⊎ (entry ≡ Whole (checkpoint_of now)) → applied now entry ≡ Some next → Since d next
since_any d now next entry s (inl within) e = since_one d now next entry s within.0 within.1 e
since_any d now next entry s (inr is) e = since_checkpoint d now next entry s is e

since_all : (d now last : Durable) (entries : List PlainEntry) → Since d now → GoWithin now entries → replayed now entries ≡ Some last → Since d last
since_all d now last [] s within e = subst (Since d) (durable_is e) s
since_all d now last (entry ∷ entries) s within e = each (applied now entry) refl (λ n is rest. since_all d n last entries (since_any d now n entry s within.0 is) (within.1 n is) rest) e
  where
    each : (o : Option Durable) → applied now entry ≡ o → ((n : Durable) → applied now entry ≡ Some n → replayed n entries ≡ Some last → Since d last) → option_and_then (λ n. replayed n entries) o ≡ Some last → Since d last
    each None is all h = absurd (false≢true (ap is_some h))
    each (Some n) is all h = all n is h

-- records without a checkpoint are such
go_within : (now : Durable) (entries : List PlainEntry) → list_all goes_on_within entries ≡ true → AllByRecursion (IsEntry Two) entries → GoWithin now entries
go_within now [] e written = tt
go_within now (entry ∷ entries) e written = let parts = and_parts (goes_on_within entry) (list_all goes_on_within entries) e in (inl (parts.0, written.0), λ next is. go_within next entries parts.1 written.1)

prepared_phase : (d next : Durable) (epoch moment chunks : ℕ) → applied d (Prepare epoch moment chunks) ≡ Some next → is_ordinary next.phase ≡ false
unfolding applied
prepared_phase d next epoch moment chunks e =
    ap (λ (x : Durable). is_ordinary x.phase) (sym (fits_gives (is_ordinary d.phase && (is_next_epoch d.epoch epoch && are_at_rest d)) (without_prepared (with_epoch d ends.Prepare Upgrade)) next e).1)

since_prepare : (d next : Durable) (epoch moment chunks : ℕ) → IsKept d → applied d (Prepare epoch moment chunks) ≡ Some next → Since d next
since_prepare d next epoch moment chunks k e =
    let all = begins_with_all d next epoch moment chunks k e in record { kept = prepare_kept d next epoch moment chunks k e; stands = prepared_phase d next epoch moment chunks e; names = all.0; views = λ chunk listed. ap (option_map (λ (p : Prepared). p.view)) (all.1 chunk) ∙ view_in (fin.get d.chunks chunk) }
  where
    view_in : (o : Option Settled) → option_map (λ (p : Prepared). p.view) (option_map prepared_from o) ≡ option_map (λ (s : Settled). s.view) o
    view_in None = refl
    view_in (Some s) = refl

-- ---- the commit

-- the handles of the answers are those that were listed
same_handles : (d : Durable) (refs : List (ℕ × ℕ)) (answers : List Answered) → are_answers (prepared_view d) refs answers ≡ true → map (λ (a : Answered). a.handle) answers ≡ map (λ (e : ℕ × ℕ). e.0) refs
same_handles d [] [] h = refl
same_handles d [] (answer ∷ answers) h = absurd (false≢true h)
same_handles d (r ∷ refs) [] h = absurd (false≢true h)
same_handles d (r ∷ refs) (answer ∷ answers) h =
    let one = and_parts (answer.handle == r.0) (may_restore (prepared_view d r.0) r.1 answer.members && are_answers (prepared_view d) refs answers) h in
    let same : answer.handle ≡ r.0 = (let t = one.0 in grind (arith, nat_tests)) in
    let rest = same_handles d refs answers (and_parts (may_restore (prepared_view d r.0) r.1 answer.members) (are_answers (prepared_view d) refs answers) one.1).1 in λ i. same i ∷ rest i

-- each chunk that was listed is restored from its prepared view, and no other is
abbrev restored_as : Durable → List Answered → ℕ → Bool → Option Settled
restored_as d answers q listed = if listed then option_map (λ (p : Prepared). restored_view d.epoch p (members_for answers q)) (prepared_view d q) else None

all_restored : (d : Durable) (refs : List (ℕ × ℕ)) (answers : List Answered) (q : ℕ) → are_answers (prepared_view d) refs answers ≡ true → fin.find nat_cmp q (restored d answers) ≡ restored_as d answers q (is_some (fin.find nat_cmp q refs))
all_restored d [] [] q h = refl
all_restored d [] (answer ∷ answers) q h = absurd (false≢true h)
all_restored d (r ∷ refs) [] q h = absurd (false≢true h)
all_restored d (r ∷ refs) (answer ∷ answers) q h =
    let one = and_parts (answer.handle == r.0) (may_restore (prepared_view d r.0) r.1 answer.members && are_answers (prepared_view d) refs answers) h in
    let two = and_parts (may_restore (prepared_view d r.0) r.1 answer.members) (are_answers (prepared_view d) refs answers) one.1 in
    let same : answer.handle ≡ r.0 = (let t = one.0 in grind (arith, nat_tests)) in
    by_prepared (all_restored d refs answers q two.1) (prepared_view d answer.handle) refl (ap (λ c. may_restore (prepared_view d c) r.1 answer.members) same ∙ two.0)
    ∙ ap (λ k. restored_as d (answer ∷ answers) q (is_some (cond (eq_by_cmp nat_cmp q k) (Some r.1) (fin.find nat_cmp q refs)))) same
  where
    by_key : (fin.find nat_cmp q (restored d answers) ≡ restored_as d answers q (is_some (fin.find nat_cmp q refs))) → (p : Prepared) → prepared_view d answer.handle ≡ Some p → (b : Bool) → eq_by_cmp nat_cmp q answer.handle ≡ b
        → cond b (Some (restored_view d.epoch p answer.members)) (fin.find nat_cmp q (restored d answers)) ≡ restored_as d (answer ∷ answers) q (is_some (cond b (Some r.1) (fin.find nat_cmp q refs)))
    by_key rest p is true key = sym
        (ap (λ b. option_map (λ (v : Prepared). restored_view d.epoch v (if b then answer.members else members_for answers q)) (prepared_view d q)) (sym (is_tied q answer.handle) ∙ key)
        ∙ ap (λ k. option_map (λ (v : Prepared). restored_view d.epoch v answer.members) (prepared_view d k)) (same_key q answer.handle key)
        ∙ ap (option_map (λ (v : Prepared). restored_view d.epoch v answer.members)) is)
    by_key rest p is false key = rest
        ∙ ap (λ b. if is_some (fin.find nat_cmp q refs) then option_map (λ (v : Prepared). restored_view d.epoch v (if b then answer.members else members_for answers q)) (prepared_view d q) else None) (sym (sym (is_tied q answer.handle) ∙ key))

    by_prepared : (fin.find nat_cmp q (restored d answers) ≡ restored_as d answers q (is_some (fin.find nat_cmp q refs))) → (o : Option Prepared) → prepared_view d answer.handle ≡ o → may_restore o r.1 answer.members ≡ true
        → fin.find nat_cmp q (cons_option (option_map (λ (p : Prepared). (answer.handle, restored_view d.epoch p answer.members)) o) (restored d answers)) ≡ restored_as d (answer ∷ answers) q (is_some (cond (eq_by_cmp nat_cmp q answer.handle) (Some r.1) (fin.find nat_cmp q refs)))
    by_prepared rest None is may = absurd (false≢true may)
    by_prepared rest (Some p) is may = by_key rest p is (eq_by_cmp nat_cmp q answer.handle) refl

-- a chunk's prepared view is the one that it had before the prepare
from_before : (d now : Durable) (answers : List Answered) (chunk : ℕ) (before : Settled) → Since d now → is_listed d chunk ≡ true → fin.get d.chunks chunk ≡ Some before →
    restored_as now answers chunk true ≡ Some (quiet_again now.epoch before.view.count (members_for answers chunk))
from_before d now answers chunk before s listed was = by_view (prepared_view now chunk) (s.views chunk listed ∙ ap (option_map (λ (x : Settled). x.view)) was)
  where
    by_view : (o : Option Prepared) → option_map (λ (p : Prepared). p.view) o ≡ Some before.view → option_map (λ (p : Prepared). restored_view now.epoch p (members_for answers chunk)) o ≡ Some (quiet_again now.epoch before.view.count (members_for answers chunk))
    by_view None h = absurd (false≢true (ap is_some h))
    by_view (Some p) h = ap (λ n. Some (quiet_again now.epoch n (members_for answers chunk))) (ap (λ (v : View). v.count) (view_is h))
      where
        view_is : {a b : View} → ◌≡◌ {A = Option View} (Some a) (Some b) → a ≡ b
        view_is e = cc

back_to : (d now : Durable) (last : ℕ) (answers : List Answered) → Since d now → last ≡ now.epoch → are_answers (prepared_view now) (fin.entries d.names.refs) answers ≡ true → IsRolledBack d (rolled_back now answers d.names) last answers
back_to d now last answers s same all = record {
  names = refl;
  phase = refl;
  answered = same_handles now (fin.entries d.names.refs) answers all;
  restored = λ chunk before listed was.
      found chunk ∙ ap (restored_as now answers chunk) listed ∙ from_before d now answers chunk before s listed was ∙ ap (λ e. Some (quiet_again e before.view.count (members_for answers chunk))) (sym same);
  others = λ chunk none. found chunk ∙ ap (restored_as now answers chunk) none;
}
  where
    found : (chunk : ℕ) → fin.get (rolled_back now answers d.names).chunks chunk ≡ restored_as now answers chunk (is_listed d chunk)
    found chunk = fin.get-from_entries nat_cmp_total (restored now answers) chunk ∙ all_restored now (fin.entries d.names.refs) answers chunk all ∙ ap (λ o. restored_as now answers chunk (is_some o)) (sym (fin.get-entries d.names.refs chunk))

commit_back : (d now next : Durable) (last : ℕ) (answers : List Answered) → Since d now → applied now (RollbackCommit last answers) ≡ Some next → IsRolledBack d next last answers
unfolding applied
commit_back d now next last answers s e =
    let is = fits_gives (is_rolling now.phase && ((last == now.epoch) && are_answers (prepared_view now) (fin.entries d.names.refs) answers)) (rolled_back now answers d.names) next (ap (after_undoing now last answers) (sym s.names) ∙ e) in
    let tests = and_parts (last == now.epoch) (are_answers (prepared_view now) (fin.entries d.names.refs) answers) (and_parts (is_rolling now.phase) ((last == now.epoch) && are_answers (prepared_view now) (fin.entries d.names.refs) answers) is.0).1 in
    let same : last ≡ now.epoch = (let t = tests.0 in grind (arith, nat_tests)) in
    subst (λ n. IsRolledBack d n last answers) is.1 (back_to d now last answers s same tests.1)

pub rolls_back_through : RollsBackThrough
rolls_back_through d prepared rolling next epoch moment chunks last entries answers k begun within between e =
    commit_back d rolling next last answers (since_all d prepared rolling entries (since_prepare d prepared epoch moment chunks k begun) within between) e

pub rolls_back : RollsBack
rolls_back d prepared rolling next epoch moment chunks last entries answers k begun within written between e =
    rolls_back_through d prepared rolling next epoch moment chunks last entries answers k begun (go_within prepared entries within written) between e
