-- The records that end an epoch keep what stands, and so does that of a rollback that is done.
use Rattle.std.proofs.Common.{◌≡◌, inl, ◌∙◌, ◌+◌, ◌==◌, ◌&&◌, ℕ, Bool, true, false, cond, List, [], ◌∷◌, nat_lt, filter_map, refl, sym, ap, subst, arith}
use Rattle.std.specs.Prelude.{Option, Some, None, is_some, option_map}
use Rattle.std.specs.List.{AllByRecursion, cons_option}
use Rattle.std.specs.Cmp.{nat_cmp_total}
use Rattle.std.specs.FinMap as fin
use Rattle.std.specs.Ordering.{eq_by_cmp, nat_cmp}
use Rattle.std.proofs.lemmas.Bool.{false≢true, and_parts}
use Rattle.std.proofs.lemmas.Bool.Decides.{nat_tests}
use Rattle.gs_base.specs.Numbers.{last_number}
use Rattle.gs_base.specs.Told.{IsNumber}
use Rattle.gs_base.specs.declared.epoch.EpochEnd.TheVariants as ends
use Rattle.gs_edit.specs.View.{NamesView}
use Rattle.gs_journal.specs.declared.version.Version.TheVariants.{Two}
use Rattle.gs_master_record.specs.Plain.{Prepare, Finalize, RollbackBegin, RollbackCommit}
use Rattle.gs_master_record.specs.Writable.{AreServers, IsAnswered, IsEntry}
use Rattle.gs_master_record.specs.declared.checkpoint.Phase.{Phase}
use Rattle.gs_master_record.specs.declared.checkpoint.Phase.TheVariants.{Ordinary, Upgrade, Rolling}
use Rattle.gs_master_record.specs.declared.entry.Answered.{Answered}
use Rattle.gs_master_spec.specs.Applied.{after_undoing, applied, are_answers, are_at_rest, is_next_epoch, may_restore, restored_chunk, restored_view, rolled_back, with_epoch, without_prepared}
use Rattle.gs_master_spec.specs.Durable.{Durable, Settled, is_given, is_listed, is_ordinary, is_rolling, is_upgrade, prepared_view, upgrade_epoch}
use Rattle.gs_laws_master.specs.Promises.{AreKept, IsGivenView, IsKept, prepared_from}
use Rattle.gs_master_spec.specs.Whole.{are_ends}
use Rattle.gs_master_spec.specs.declared.asking.Prepared.{Prepared}
use Rattle.gs_laws_master.proofs.lemmas.upgrades.Beginnings.{begins_with_all, fits_gives}
use Rattle.gs_laws_master.proofs.lemmas.keeping.KeptEnds.{ends_more, ends_rolled, may_end}
use Rattle.gs_laws_master.proofs.lemmas.keeping.KeptRecords.{Parts, as_next, no_inverses, settled_is, within_kept}
use Rattle.gs_laws_master.proofs.lemmas.keeping.KeptViews.{Onward, chunked_moves, chunked_of, prepared_given, same_key, view_stays}

is_that : (p q : Phase → Bool) (phase : Phase) → p phase ≡ true → ((x : Phase) → p x ≡ true → q x ≡ true) → q phase ≡ true
is_that p q phase h all = all phase h

names_is : {a b : NamesView} → ◌≡◌ {A = Option NamesView} (Some a) (Some b) → a ≡ b
names_is h = cc

-- ---- an epoch ends

number_more : (epoch next : ℕ) → is_next_epoch epoch next ≡ true → IsNumber (epoch + 1)
number_more epoch next h =
    let low = (and_parts (nat_lt epoch last_number) (next == epoch + 1) h).0 in grind (arith, nat_tests)

same_some : {A B : Type 0} (f : A → B) (o : Option A) → is_some (option_map f o) ≡ is_some o
same_some f None = refl
same_some f (Some x) = refl

pub prepare_kept : (d next : Durable) (epoch moment chunks : ℕ) → IsKept d → applied d (Prepare epoch moment chunks) ≡ Some next → IsKept next
unfolding applied
prepare_kept d next epoch moment chunks k e =
    let n = without_prepared (with_epoch d ends.Prepare Upgrade) in
    let is = fits_gives (is_ordinary d.phase && (is_next_epoch d.epoch epoch && are_at_rest d)) n next e in
    let one = and_parts (is_ordinary d.phase) (is_next_epoch d.epoch epoch && are_at_rest d) is.0 in
    let low = (and_parts (is_next_epoch d.epoch epoch) (are_at_rest d) one.1).0 in
    let all = begins_with_all d n epoch moment chunks k (e ∙ ap Some (sym is.1)) in
    as_next is.1 IsKept (record {
      names = k.names;
      settled = k.settled;
      handles = k.handles;
      views = λ q s has. view_stays d n s.view (λ x g. g) (omega arith) (k.views q s has);
      now = number_more d.epoch epoch low;
      ends = ends_more d.ends d.epoch d.phase Upgrade ends.Prepare k.ends (not_rolling d.phase one.0) (may_prepare d.phase one.0) refl;
      ordinary = λ u. absurd (false≢true (sym (ap is_some u)));
      prepared = λ q p has. absurd (false≢true (sym (ap is_some (fin.get-empty nat_cmp q)) ∙ ap is_some has));
      back = (d.names, refl, k.names);
      restored = λ names chunk undone stands some.
          (let listed : is_listed d chunk ≡ true = ap (λ (x : NamesView). is_some (fin.get x.refs chunk)) (names_is undone) ∙ some in
          ap is_some (all.1 chunk) ∙ same_some prepared_from (fin.get d.chunks chunk) ∙ k.settled chunk listed);
      still = λ names chunk undone stands some. inl (ap (λ (x : NamesView). is_some (fin.get x.refs chunk)) (names_is undone) ∙ some);
      replies = k.replies;
    })
  where
    not_rolling : (phase : Phase) → is_ordinary phase ≡ true → is_rolling phase ≡ false
    not_rolling Ordinary h = refl
    not_rolling Upgrade h = refl
    not_rolling Rolling h = absurd (false≢true h)

    may_prepare : (phase : Phase) → is_ordinary phase ≡ true → may_end (is_ordinary phase) ends.Prepare ≡ true
    may_prepare phase h = ap (λ b. may_end b ends.Prepare) h

pub finalize_kept : (d next : Durable) (epoch : ℕ) → IsKept d → applied d (Finalize epoch) ≡ Some next → IsKept next
unfolding applied
finalize_kept d next epoch k e =
    let n = without_prepared (with_epoch d ends.Finalize Ordinary) in
    let is = fits_gives (is_upgrade d.phase && is_next_epoch d.epoch epoch) n next e in
    let one = and_parts (is_upgrade d.phase) (is_next_epoch d.epoch epoch) is.0 in
    as_next is.1 IsKept (record {
      names = k.names;
      settled = k.settled;
      handles = k.handles;
      views = λ q s has. view_stays d n s.view (λ x g. g) (omega arith) (k.views q s has);
      now = number_more d.epoch epoch one.1;
      ends = ends_more d.ends d.epoch d.phase Ordinary ends.Finalize k.ends (not_rolling d.phase one.0) (ap (λ b. may_end b ends.Finalize) (not_ordinary d.phase one.0)) refl;
      ordinary = λ u. (refl, λ q. fin.get-empty nat_cmp q);
      prepared = λ q p has. absurd (false≢true (sym (ap is_some (fin.get-empty nat_cmp q)) ∙ ap is_some has));
      back = (d.names, refl, k.names);
      restored = λ names chunk undone stands some. absurd (false≢true (sym stands));
      still = λ names chunk undone stands some. absurd (false≢true (sym stands));
      replies = k.replies;
    })
  where
    not_rolling : (phase : Phase) → is_upgrade phase ≡ true → is_rolling phase ≡ false
    not_rolling Ordinary h = refl
    not_rolling Upgrade h = refl
    not_rolling Rolling h = absurd (false≢true h)

    not_ordinary : (phase : Phase) → is_upgrade phase ≡ true → is_ordinary phase ≡ false
    not_ordinary Ordinary h = absurd (false≢true h)
    not_ordinary Upgrade h = refl
    not_ordinary Rolling h = refl

-- ---- a rollback begins, and is done

pub begin_kept : (d next : Durable) (epoch : ℕ) → IsKept d → applied d (RollbackBegin epoch) ≡ Some next → IsKept next
unfolding applied
begin_kept d next epoch k e =
    let n = with_epoch d ends.Rollback Rolling in
    let is = fits_gives (is_upgrade d.phase && is_next_epoch d.epoch epoch) n next e in
    let one = and_parts (is_upgrade d.phase) (is_next_epoch d.epoch epoch) is.0 in
    let on : Onward d n = record { handles = λ v g. g; versions = λ v g. g; epoch = omega arith; upgrade = goes_on d.phase one.0 } in
    within_kept (RollbackBegin epoch) d next k refl e (as_next is.1 (Parts d) (record {
      names = k.names;
      settled = k.settled;
      chunked = chunked_moves d n (chunked_of d k) on refl (λ q. refl) (λ q s has. (s, (has, refl)));
      now = number_more d.epoch epoch one.1;
      ends = ends_more d.ends d.epoch d.phase Rolling ends.Rollback k.ends (not_rolling d.phase one.0) (ap (λ b. may_end b ends.Rollback) (not_ordinary d.phase one.0)) refl;
      none = no_inverses d k;
      phase = sym (not_ordinary d.phase one.0);
      still = λ q view there. there;
      replies = k.replies;
    }))
  where
    not_rolling : (phase : Phase) → is_upgrade phase ≡ true → is_rolling phase ≡ false
    not_rolling Ordinary h = refl
    not_rolling Upgrade h = refl
    not_rolling Rolling h = absurd (false≢true h)

    not_ordinary : (phase : Phase) → is_upgrade phase ≡ true → is_ordinary phase ≡ false
    not_ordinary Ordinary h = absurd (false≢true h)
    not_ordinary Upgrade h = refl
    not_ordinary Rolling h = refl

    goes_on : (phase : Phase) → is_upgrade phase ≡ true → upgrade_epoch Rolling (d.epoch + 1) ≡ upgrade_epoch phase d.epoch
    goes_on Ordinary h = absurd (false≢true h)
    goes_on Upgrade h = ap Some (omega arith)
    goes_on Rolling h = absurd (false≢true h)

abbrev pub Restored : Type 0
Restored = List (ℕ × Settled)

-- the chunks that a rollback restores
abbrev pub restored : Durable → List Answered → Restored
restored d answers = filter_map (restored_chunk d) answers

-- each that was listed at prepare is restored
all_restored : (d : Durable) (refs : List (ℕ × ℕ)) (answers : List Answered) (q : ℕ) → are_answers (prepared_view d) refs answers ≡ true → is_some (fin.find nat_cmp q refs) ≡ true → is_some (fin.find nat_cmp q (restored d answers)) ≡ true
all_restored d [] answers q h some = absurd (false≢true some)
all_restored d (r ∷ refs) [] q h some = absurd (false≢true h)
all_restored d (r ∷ refs) (answer ∷ answers) q h some =
    let one = and_parts (answer.handle == r.0) (may_restore (prepared_view d r.0) r.1 answer.members && are_answers (prepared_view d) refs answers) h in
    let two = and_parts (may_restore (prepared_view d r.0) r.1 answer.members) (are_answers (prepared_view d) refs answers) one.1 in
    let same : answer.handle ≡ r.0 = (let t = one.0 in grind (arith, nat_tests)) in
    by_prepared (prepared_view d answer.handle) refl (ap (λ c. may_restore (prepared_view d c) r.1 answer.members) same ∙ two.0) same (eq_by_cmp nat_cmp q r.0) refl some (all_restored d refs answers q two.1)
  where
    by_prepared : (o : Option Prepared) → prepared_view d answer.handle ≡ o → may_restore o r.1 answer.members ≡ true → answer.handle ≡ r.0 → (b : Bool) → eq_by_cmp nat_cmp q r.0 ≡ b → is_some (cond b (Some r.1) (fin.find nat_cmp q refs)) ≡ true
        → (is_some (fin.find nat_cmp q refs) ≡ true → is_some (fin.find nat_cmp q (restored d answers)) ≡ true)
        → is_some (fin.find nat_cmp q (cons_option (option_map (λ (p : Prepared). (answer.handle, restored_view d.epoch p answer.members)) o) (restored d answers))) ≡ true
    by_prepared None is may same b key here later = absurd (false≢true may)
    by_prepared (Some p) is may same true key here later = ap (λ c. is_some (cond (eq_by_cmp nat_cmp q c) (Some (restored_view d.epoch p answer.members)) (fin.find nat_cmp q (restored d answers)))) same ∙ ap (λ b. is_some (cond b (Some (restored_view d.epoch p answer.members)) (fin.find nat_cmp q (restored d answers)))) key
    by_prepared (Some p) is may same false key here later = ap (λ c. is_some (cond (eq_by_cmp nat_cmp q c) (Some (restored_view d.epoch p answer.members)) (fin.find nat_cmp q (restored d answers)))) same ∙ ap (λ b. is_some (cond b (Some (restored_view d.epoch p answer.members)) (fin.find nat_cmp q (restored d answers)))) key ∙ later here

-- who has answered are servers
abbrev pub IsFromServers : Answered → Type 0
IsFromServers answer = AreServers answer.members

from_servers : (answers : List Answered) → AllByRecursion IsAnswered answers → AllByRecursion IsFromServers answers
from_servers [] all = tt
from_servers (answer ∷ answers) all = (all.0.1, from_servers answers all.1)

-- what is restored was given, under a view of this epoch
record IsRestoredView (d : Durable) (q : ℕ) (s : Settled) : Type 0 where
  handle : is_given d.next_handle q ≡ true
  view : IsGivenView d s.view

restored_so : (d : Durable) (answers : List Answered) (q : ℕ) (s : Settled) → IsKept d → AllByRecursion IsFromServers answers → fin.find nat_cmp q (restored d answers) ≡ Some s → IsRestoredView d q s
restored_so d [] q s k all e = absurd (false≢true (ap is_some e))
restored_so d (answer ∷ answers) q s k all e = by_prepared (prepared_view d answer.handle) refl (restored_so d answers q s k all.1) e
  where
    new : Prepared → Settled
    new p = restored_view d.epoch p answer.members

    here : (p : Prepared) → prepared_view d answer.handle ≡ Some p → IsRestoredView d answer.handle (new p)
    here p is =
        let was = prepared_given d (chunked_of d k) answer.handle p is in
        record { handle = was.handle; view = record { epoch = omega arith; version = inl refl; primary = refl; told = (k.now, (omega arith, (was.view.told.1.1.0, (all.0, tt)))) } }

    by_key : (p : Prepared) → prepared_view d answer.handle ≡ Some p → (fin.find nat_cmp q (restored d answers) ≡ Some s → IsRestoredView d q s) → (b : Bool) → eq_by_cmp nat_cmp q answer.handle ≡ b → cond b (Some (new p)) (fin.find nat_cmp q (restored d answers)) ≡ Some s → IsRestoredView d q s
    by_key p is later true key h = subst (λ x. IsRestoredView d x s) (sym (same_key q answer.handle key)) (subst (IsRestoredView d answer.handle) (settled_is h) (here p is))
    by_key p is later false key h = later h

    by_prepared : (o : Option Prepared) → prepared_view d answer.handle ≡ o → (fin.find nat_cmp q (restored d answers) ≡ Some s → IsRestoredView d q s)
        → fin.find nat_cmp q (cons_option (option_map (λ (p : Prepared). (answer.handle, restored_view d.epoch p answer.members)) o) (restored d answers)) ≡ Some s → IsRestoredView d q s
    by_prepared None is later h = later h
    by_prepared (Some p) is later h = by_key p is later (eq_by_cmp nat_cmp q answer.handle) refl h

commit_of : (d next : Durable) (epoch : ℕ) (answers : List Answered) (names : NamesView) → IsKept d → AllByRecursion IsFromServers answers → AreKept names → after_undoing d epoch answers (Some names) ≡ Some next → IsKept next
commit_of d next epoch answers names k written kept e =
    let n = rolled_back d answers names in
    let tests = (epoch == d.epoch) && are_answers (prepared_view d) (fin.entries names.refs) answers in
    let is = fits_gives (is_rolling d.phase && tests) n next e in
    let one = and_parts (is_rolling d.phase) tests is.0 in
    let answered = (and_parts (epoch == d.epoch) (are_answers (prepared_view d) (fin.entries names.refs) answers) one.1).1 in
    as_next is.1 IsKept (record {
      names = kept;
      settled = λ q listed. ap is_some (fin.get-from_entries nat_cmp_total (restored d answers) q) ∙ all_restored d (fin.entries names.refs) answers q answered (ap is_some (sym (fin.get-entries names.refs q)) ∙ listed);
      handles = λ q some. some_handle q (fin.get n.chunks q) refl some;
      views = λ q s has. view_stays d n s.view (λ x g. g) (omega arith) (restored_so d answers q s k written (sym (fin.get-from_entries nat_cmp_total (restored d answers) q) ∙ has)).view;
      now = k.now;
      ends = ends_rolled d.ends d.epoch (rolling_ends d.phase one.0 k.ends);
      ordinary = λ u. (refl, λ q. fin.get-empty nat_cmp q);
      prepared = λ q p has. absurd (false≢true (sym (ap is_some (fin.get-empty nat_cmp q)) ∙ ap is_some has));
      back = (names, refl, kept);
      restored = λ others chunk undone stands some. absurd (false≢true (sym stands));
      still = λ others chunk undone stands some. absurd (false≢true (sym stands));
      replies = k.replies;
    })
  where
    rolling_ends : (phase : Phase) → is_rolling phase ≡ true → are_ends d.ends d.epoch phase ≡ true → are_ends d.ends d.epoch Rolling ≡ true
    rolling_ends Ordinary h g = absurd (false≢true h)
    rolling_ends Upgrade h g = absurd (false≢true h)
    rolling_ends Rolling h g = g

    some_handle : (q : ℕ) (o : Option Settled) → fin.get (rolled_back d answers names).chunks q ≡ o → is_some o ≡ true → is_given d.next_handle q ≡ true
    some_handle q None is h = absurd (false≢true h)
    some_handle q (Some s) is h = (restored_so d answers q s k written (sym (fin.get-from_entries nat_cmp_total (restored d answers) q) ∙ is)).handle

-- it is enough that servers have answered
pub commit_kept_by : (d next : Durable) (epoch : ℕ) (answers : List Answered) → AllByRecursion IsFromServers answers → IsKept d → applied d (RollbackCommit epoch answers) ≡ Some next → IsKept next
unfolding applied
commit_kept_by d next epoch answers written k e = commit_of d next epoch answers k.back.0 k written k.back.2 (ap (after_undoing d epoch answers) (sym k.back.1) ∙ e)

pub commit_kept : (d next : Durable) (epoch : ℕ) (answers : List Answered) → IsEntry Two (RollbackCommit epoch answers) → IsKept d → applied d (RollbackCommit epoch answers) ≡ Some next → IsKept next
commit_kept d next epoch answers written k e = commit_kept_by d next epoch answers (from_servers answers written.0.1.1) k e
