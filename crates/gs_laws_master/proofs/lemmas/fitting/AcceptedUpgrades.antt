-- The records of a call of an upgrade that is accepted fit what they meet, and keep what stands.
use Rattle.std.proofs.Common.{◌≡◌, ◌∙◌, ◌+◌, ◌&&◌, ◌||◌, ◌==◌, ℕ, Bool, true, false, not, cond, List, [], ◌∷◌, ◌++◌, map, filter, refl, ap, arith}
use Rattle.std.specs.Prelude.{nat_lt, is_none, is_some, Option, Some, None}
use Rattle.std.specs.Cmp.{nat_cmp_total}
use Rattle.std.specs.FinMap as fin
use Rattle.std.specs.FinMap.Entries.{find-put}
use Rattle.std.specs.List.{AllByRecursion, list_all}
use Rattle.std.specs.Ordering.{eq_by_cmp, nat_cmp}
use Rattle.std.proofs.lemmas.Bool.{false≢true, true≢false, and_parts}
use Rattle.std.proofs.lemmas.Bool.Decides.{nat_tests}
use Rattle.gs_base.specs.Members.{count_from, is_member, servers_where}
use Rattle.gs_base.specs.MemberLaws.{eqb_itself}
use Rattle.gs_base.specs.Numbers.{last_number}
use Rattle.gs_base.specs.Told.{IsNumber}
use Rattle.gs_base.specs.declared.config.Config.{Config}
use Rattle.gs_base.specs.declared.epoch.EpochEnd.TheVariants as ends
use Rattle.gs_base.specs.declared.numbers.Moment.{Moment}
use Rattle.gs_base.specs.declared.numbers.ReqId.{ReqId}
use Rattle.gs_base.specs.declared.refusal.Refusal.{Refusal}
use Rattle.gs_base.specs.declared.refusal.Refusal.TheVariants as refusals
use Rattle.gs_edit.specs.View.{NamesView}
use Rattle.gs_tree.proofs.Levels.{both_true}
use Rattle.gs_master_record.specs.Plain.{Prepare, Finalize, RollbackBegin, RollbackCommit}
use Rattle.gs_master_record.specs.Writable.{AreServers}
use Rattle.gs_master_record.specs.declared.checkpoint.Phase.{Phase}
use Rattle.gs_master_record.specs.declared.checkpoint.Phase.TheVariants.{Ordinary, Upgrade, Rolling}
use Rattle.gs_master_spec.specs.Applied.{after_undoing, applied, are_answers, are_at_rest, if_fits, is_at_rest, is_next_epoch, is_prepared_on, may_restore, rolled_back, with_epoch, without_prepared}
use Rattle.gs_master_spec.specs.Chunks.{chunk_at, has_entry}
use Rattle.gs_master_spec.specs.Durable.{Durable, Settled, is_listed, is_ordinary, is_rolling, is_upgrade, prepared_view}
use Rattle.gs_master_state.specs.Sane.{IsSane}
use Rattle.gs_master_spec.specs.Settling.{is_quiet_at, requests_of}
use Rattle.gs_master_spec.specs.State.{State, Plan, Turn, turned, and_then, refused, all_ended_by, first_of}
use Rattle.gs_master_spec.specs.Undoing.{all_undone}
use Rattle.gs_master_spec.specs.Upgrades.{accepted_plan, all_unquiet, answers_for, chunk_count, commit_if, commit_on, commit_tests, end_tests, finalize, first_in, if_unquiet, is_last_epoch, lacks_answer, prepare_abort, prepare_commit, restored_on, rollback_begin, rollback_commit, tell_all, told_of, unless, unrestored}
use Rattle.gs_master_spec.specs.Whole.{is_empty}
use Rattle.gs_master_spec.specs.Working.{put_handles}
use Rattle.gs_master_spec.specs.declared.asking.Prepared.{Prepared}
use Rattle.gs_master_spec.specs.declared.change.Change.TheVariants as changes
use Rattle.gs_laws_master.specs.Promises.{IsKept}
use Rattle.gs_laws_master.proofs.lemmas.fitting.Accepted.{Goes, all_ended_goes, none_goes, one_goes, refused_goes, room_goes, test_goes, then_goes}
use Rattle.gs_laws_master.proofs.lemmas.upgrades.Committing.{all_have}
use Rattle.gs_laws_master.proofs.lemmas.keeping.KeptEpochs.{IsFromServers, begin_kept, commit_kept_by, finalize_kept, prepare_kept}
use Rattle.gs_laws_master.proofs.lemmas.keeping.KeptViews.{same_key}
use Rattle.gs_laws_master.proofs.lemmas.spelling.Retold.{each_found}
use Rattle.gs_laws_master.proofs.lemmas.views.ServersTold.{servers_told}

-- ---- tests that passed

pub first_test : (b : Bool) (refusal : Refusal) (rest : List (Bool × Refusal)) → first_of ((b, refusal) ∷ rest) ≡ None → (b ≡ false) × (first_of rest ≡ None)
first_test true refusal rest e = absurd (true≢false (ap is_some e))
first_test false refusal rest e = (refl, e)

pub not_so : (b : Bool) → not b ≡ false → b ≡ true
not_so true e = refl
not_so false e = absurd (true≢false e)

pub unquiet_none : (chunks : List ℕ) (exhausted : Bool) → first_of (if_unquiet (first_in chunks) ++ (exhausted, refusals.Exhausted) ∷ []) ≡ None → (chunks ≡ []) × (exhausted ≡ false)
unquiet_none [] exhausted e = (refl, (first_test exhausted refusals.Exhausted [] e).0)
unquiet_none (chunk ∷ chunks) exhausted e = absurd (true≢false (ap is_some e))

next_epoch : (epoch : ℕ) → IsNumber epoch → (epoch == last_number) ≡ false → is_next_epoch epoch (epoch + 1) ≡ true
next_epoch epoch number more = both_true (nat_lt epoch last_number) ((epoch + 1) == (epoch + 1)) (grind (arith, nat_tests)) (eqb_itself (epoch + 1))

pub unless_goes : (T : Type 0) (s : State) (req : ReqId) (t : Turn) (refusal : Option Refusal) → (refusal ≡ None → Goes T s t) → Goes T s (unless refusal s req t)
unless_goes T s req t None a = room_goes T s req t (a refl)
unless_goes T s req t (Some refusal) a = refused_goes T s req refusal

-- ---- chunks that are quiet are at rest

found_handle : (es : List (ℕ × Settled)) (others : List ℕ) (k : ℕ) → is_some (fin.find nat_cmp k es) ≡ true → is_some (fin.find nat_cmp k (put_handles (map (λ e. e.0) es ++ others))) ≡ true
found_handle [] others k some = absurd (false≢true some)
found_handle (e ∷ es) others k some =
    ap is_some (find-put nat_cmp nat_cmp_total k e.0 true (put_handles (map (λ f. f.0) es ++ others))) ∙ by_key (eq_by_cmp nat_cmp k e.0) some (found_handle es others k)
  where
    by_key : (b : Bool) → is_some (cond b (Some e.1) (fin.find nat_cmp k es)) ≡ true → (is_some (fin.find nat_cmp k es) ≡ true → is_some (fin.find nat_cmp k (put_handles (map (λ f. f.0) es ++ others))) ≡ true)
        → is_some (cond b (Some true) (fin.find nat_cmp k (put_handles (map (λ f. f.0) es ++ others)))) ≡ true
    by_key true here rest = refl
    by_key false here rest = rest here

is_nothing : List ℕ → Bool
is_nothing [] = true
is_nothing (x ∷ xs) = false

pub none_passes : (f : ℕ → Bool) (es : List (ℕ × Bool)) (k : ℕ) → filter f (map (λ e. e.0) es) ≡ [] → is_some (fin.find nat_cmp k es) ≡ true → f k ≡ false
unfolding is_nothing
none_passes f [] k none some = absurd (false≢true some)
none_passes f (e ∷ es) k none some = by_test (f e.0) refl (eq_by_cmp nat_cmp k e.0) refl none some (none_passes f es k)
  where
    by_test : (b : Bool) → f e.0 ≡ b → (c : Bool) → eq_by_cmp nat_cmp k e.0 ≡ c → cond b (e.0 ∷ filter f (map (λ e. e.0) es)) (filter f (map (λ e. e.0) es)) ≡ [] → is_some (cond c (Some e.1) (fin.find nat_cmp k es)) ≡ true
        → (filter f (map (λ e. e.0) es) ≡ [] → is_some (fin.find nat_cmp k es) ≡ true → f k ≡ false) → f k ≡ false
    by_test true is c key h here rest = absurd (false≢true (ap is_nothing h))
    by_test false is true key h here rest = ap f (same_key k e.0 key) ∙ is
    by_test false is false key h here rest = rest h here

pub filtered_all : {A : Type 0} (f g : A → Bool) (xs : List A) → list_all (λ x. not (f x) || g x) xs ≡ true → list_all g (filter f xs) ≡ true
filtered_all f g [] all = refl
filtered_all f g (x ∷ xs) all = let parts = and_parts (not (f x) || g x) (list_all (λ y. not (f y) || g y) xs) all in by_test (f x) parts.0 (filtered_all f g xs parts.1)
  where
    by_test : (b : Bool) → (not b || g x) ≡ true → list_all g (filter f xs) ≡ true → list_all g (cond b (x ∷ filter f xs) (filter f xs)) ≡ true
    by_test true here rest = both_true (g x) (list_all g (filter f xs)) here rest
    by_test false here rest = rest

quiet_parts : (asked moving still : Bool) → not (not (asked || moving) && still) ≡ false → (not moving && still) ≡ true
quiet_parts true moving still h = absurd (true≢false h)
quiet_parts false true still h = absurd (true≢false h)
quiet_parts false false true h = refl
quiet_parts false false false h = absurd (true≢false h)

rests : (s : State) (k : ℕ) (settled : Settled) → is_listed s.durable k ≡ true → fin.get s.durable.chunks k ≡ Some settled → (has_entry s k && not (is_quiet_at s k)) ≡ false → is_at_rest settled ≡ true
unfolding chunk_at
rests s k settled listed has h = quiet_parts (is_some (fin.get s.volatile.moving k)) settled.is_moving (is_none settled.view.term) (rw (listed, has) at h)

all_rest : (s : State) → all_unquiet s ≡ [] → are_at_rest s.durable ≡ true
all_rest s none =
    filtered_all (λ e. is_listed s.durable e.0) (λ e. is_at_rest e.1) (fin.entries s.durable.chunks)
    (each_found nat_cmp nat_cmp_total fin.nat_cmp-IsAntisymmetric (λ e. not (is_listed s.durable e.0) || is_at_rest e.1) (fin.entries s.durable.chunks) (fin.entries_sorted s.durable.chunks)
    (λ k settled found. by_listed k settled found (is_listed s.durable k) refl))
  where
    by_listed : (k : ℕ) (settled : Settled) → fin.find nat_cmp k (fin.entries s.durable.chunks) ≡ Some settled → (b : Bool) → is_listed s.durable k ≡ b → (not b || is_at_rest settled) ≡ true
    by_listed k settled found true listed =
        rests s k settled listed (fin.get-entries s.durable.chunks k ∙ found)
        (none_passes (λ chunk. has_entry s chunk && not (is_quiet_at s chunk)) (put_handles (fin.keys s.durable.chunks ++ fin.keys s.volatile.moving)) k none
        (found_handle (fin.entries s.durable.chunks) (fin.keys s.volatile.moving) k (ap is_some found)))
    by_listed k settled found false listed = refl

-- ---- a prepare is committed, or given up

pub commit_fits : (s : State) (moment chunks : ℕ) → IsKept s.durable → (s.volatile.is_preparing ≡ true → is_ordinary s.durable.phase ≡ true) → first_of (commit_tests s.durable.phase s.volatile.is_preparing (all_unquiet s) (is_last_epoch s.durable)) ≡ None
    → applied s.durable (Prepare (s.durable.epoch + 1) moment chunks) ≡ Some (without_prepared (with_epoch s.durable ends.Prepare Upgrade))
unfolding applied
commit_fits s moment chunks k ordinary passed =
    let more = if_unquiet (first_in (all_unquiet s)) ++ (is_last_epoch s.durable, refusals.Exhausted) ∷ [] in
    let one = first_test (not s.volatile.is_preparing && not (is_ordinary s.durable.phase)) refusals.AlreadyUpgrading ((not s.volatile.is_preparing, refusals.NotUpgrading) ∷ more) passed in
    let two = first_test (not s.volatile.is_preparing) refusals.NotUpgrading more one.1 in
    let rest = unquiet_none (all_unquiet s) (is_last_epoch s.durable) two.1 in
    ap (λ b. if_fits b (without_prepared (with_epoch s.durable ends.Prepare Upgrade)))
    (both_true (is_ordinary s.durable.phase) (is_next_epoch s.durable.epoch (s.durable.epoch + 1) && are_at_rest s.durable) (ordinary (not_so s.volatile.is_preparing two.0))
    (both_true (is_next_epoch s.durable.epoch (s.durable.epoch + 1)) (are_at_rest s.durable) (next_epoch s.durable.epoch k.now rest.1) (all_rest s rest.0)))

ends_next : (d : Durable) → IsKept d → first_of (end_tests d.phase (is_last_epoch d)) ≡ None → (is_upgrade d.phase && is_next_epoch d.epoch (d.epoch + 1)) ≡ true
ends_next d k passed =
    let one = first_test (not (is_upgrade d.phase)) refusals.NotUpgrading ((is_last_epoch d, refusals.Exhausted) ∷ []) passed in
    let two = first_test (is_last_epoch d) refusals.Exhausted [] one.1 in
    both_true (is_upgrade d.phase) (is_next_epoch d.epoch (d.epoch + 1)) (not_so (is_upgrade d.phase) one.0) (next_epoch d.epoch k.now two.0)

pub finalize_fits : (d : Durable) → IsKept d → first_of (end_tests d.phase (is_last_epoch d)) ≡ None → applied d (Finalize (d.epoch + 1)) ≡ Some (without_prepared (with_epoch d ends.Finalize Ordinary))
unfolding applied
finalize_fits d k passed = ap (λ b. if_fits b (without_prepared (with_epoch d ends.Finalize Ordinary))) (ends_next d k passed)

pub begin_fits : (d : Durable) → IsKept d → first_of (end_tests d.phase (is_last_epoch d)) ≡ None → applied d (RollbackBegin (d.epoch + 1)) ≡ Some (with_epoch d ends.Rollback Rolling)
unfolding applied
begin_fits d k passed = ap (λ b. if_fits b (with_epoch d ends.Rollback Rolling)) (ends_next d k passed)

module _ (T : Type 0) where
  pub commit_goes : (config : Config) (s : State) (req : ReqId) (moment : Moment) → IsKept s.durable → IsSane s → Goes T s (prepare_commit config s req moment)
  commit_goes config s req moment k sane =
      let entry = Prepare (s.durable.epoch + 1) moment.0 (chunk_count s) in
      let plan = accepted_plan s req (entry ∷ []) (changes.Prepare false ∷ []) (tell_all config (s.durable.epoch + 1) ends.Prepare) (s.durable.epoch + 1) in
      let next = without_prepared (with_epoch s.durable ends.Prepare Upgrade) in
      let fit = commit_fits s moment.0 (chunk_count s) k (λ p. (sane.preparing p).0) in
      unless_goes T s req (turned s plan) (first_of (commit_tests s.durable.phase s.volatile.is_preparing (all_unquiet s) (is_last_epoch s.durable)))
      (λ passed. one_goes T s entry plan next (fit passed) (λ t kept. prepare_kept s.durable next (s.durable.epoch + 1) moment.0 (chunk_count s) kept (fit passed)))

  pub abort_goes : (s : State) (req : ReqId) → Goes T s (prepare_abort s req)
  abort_goes s req =
      let plan = accepted_plan s req [] (changes.Prepare false ∷ []) [] s.durable.epoch in
      test_goes T s s.volatile.is_preparing (turned s plan) (refused s req refusals.NotUpgrading) (λ _. none_goes T s plan) (λ _. refused_goes T s req refusals.NotUpgrading)

  -- ---- an upgrade ends

  pub finalize_goes : (config : Config) (s : State) (req : ReqId) → IsKept s.durable → Goes T s (finalize config s req)
  finalize_goes config s req k =
      let entry = Finalize (s.durable.epoch + 1) in
      let plan = accepted_plan s req (entry ∷ []) [] (tell_all config (s.durable.epoch + 1) ends.Finalize) (s.durable.epoch + 1) in
      let next = without_prepared (with_epoch s.durable ends.Finalize Ordinary) in
      unless_goes T s req (turned s plan) (first_of (end_tests s.durable.phase (is_last_epoch s.durable)))
      (λ passed. one_goes T s entry plan next (finalize_fits s.durable k passed) (λ t kept. finalize_kept s.durable next (s.durable.epoch + 1) kept (finalize_fits s.durable k passed)))

  pub begin_goes : (config : Config) (s : State) (req : ReqId) → IsKept s.durable → Goes T s (rollback_begin config s req)
  begin_goes config s req k =
      let entry = RollbackBegin (s.durable.epoch + 1) in
      let plan : Plan = record { records = entry ∷ []; changes = []; sent = []; said = None } in
      let next = with_epoch s.durable ends.Rollback Rolling in
      let begins = turned s plan in
      let ended : State → Turn = λ after. all_ended_by after (requests_of s.volatile.pending) refusals.RollingBack in
      let last : State → Plan = λ after. accepted_plan after req [] [] (tell_all config (s.durable.epoch + 1) ends.Rollback) (s.durable.epoch + 1) in
      let accept : State → Turn = λ after. turned after (last after) in
      unless_goes T s req (and_then (and_then begins ended) accept) (first_of (end_tests s.durable.phase (is_last_epoch s.durable)))
      (λ passed. then_goes T s (and_then begins ended) accept
      (then_goes T s begins ended
      (one_goes T s entry plan next (begin_fits s.durable k passed) (λ t kept. begin_kept s.durable next (s.durable.epoch + 1) kept (begin_fits s.durable k passed)))
      (all_ended_goes T (requests_of s.volatile.pending) refusals.RollingBack begins.after))
      (none_goes T (and_then begins ended).after (last (and_then begins ended).after)))

-- ---- a rollback is committed

where_all : (f g : ℕ → Bool) (xs : List ℕ) → list_all g (filter (λ x. f x && g x) xs) ≡ true
where_all f g [] = refl
where_all f g (x ∷ xs) = by_test (f x) (g x) refl (where_all f g xs)
  where
    by_test : (a b : Bool) → g x ≡ b → list_all g (filter (λ x. f x && g x) xs) ≡ true → list_all g (cond (a && b) (x ∷ filter (λ x. f x && g x) xs) (filter (λ x. f x && g x) xs)) ≡ true
    by_test true true is rest = both_true (g x) (list_all g (filter (λ x. f x && g x) xs)) is rest
    by_test true false is rest = rest
    by_test false b is rest = rest

servers_all : (f g : ℕ → Bool) → list_all g (servers_where (λ x. f x && g x)) ≡ true
unfolding servers_where
servers_all f g = where_all f g (count_from 0 16)

or_true : (b : Bool) → (b || true) ≡ true
or_true true = refl
or_true false = refl

no_need : (count : ℕ) → not (nat_lt 0 count && true) ≡ true → ((count == 0) || false) ≡ true
no_need count h = grind (arith, nat_tests)

may_be_restored : (o : Option Prepared) (told : List ℕ) (chunk count : ℕ) → is_some o ≡ true → not (lacks_answer (λ c. o) (λ c. told) (chunk, count)) ≡ true → may_restore o count (restored_on o told) ≡ true
may_be_restored None told chunk count some has = absurd (false≢true some)
may_be_restored (Some p) told chunk count some has =
    both_true (list_all (is_prepared_on p) (restored_on (Some p) told)) _ (servers_all (is_member told) (is_prepared_on p))
    (by_servers (servers_where (λ server. is_member told server && is_prepared_on p server)) refl)
  where
    by_servers : (servers : List ℕ) → servers_where (λ server. is_member told server && is_prepared_on p server) ≡ servers → ((count == 0) || not (is_empty servers)) ≡ true
    by_servers [] e = no_need count (rw e at has)
    by_servers (m ∷ ms) e = or_true (count == 0)

module _ (prepared : ℕ → Option Prepared) (told : ℕ → List ℕ) where
  answers_fit : (refs : List (ℕ × ℕ)) → list_all (λ e. is_some (prepared e.0)) refs ≡ true → list_all (λ e. not (lacks_answer prepared told e)) refs ≡ true → are_answers prepared refs (answers_for prepared told refs) ≡ true
  answers_fit [] some has = refl
  answers_fit (e ∷ refs) some has =
      let one = and_parts (is_some (prepared e.0)) (list_all (λ f. is_some (prepared f.0)) refs) some in
      let two = and_parts (not (lacks_answer prepared told e)) (list_all (λ f. not (lacks_answer prepared told f)) refs) has in
      both_true (e.0 == e.0) _ (eqb_itself e.0)
      (both_true (may_restore (prepared e.0) e.1 (restored_on (prepared e.0) (told e.0))) _ (may_be_restored (prepared e.0) (told e.0) e.0 e.1 one.0 two.0) (answers_fit refs one.1 two.1))

  pub answers_told : (refs : List (ℕ × ℕ)) → AllByRecursion IsFromServers (answers_for prepared told refs)
  unfolding servers_where
  answers_told [] = tt
  answers_told (e ∷ refs) = (by_prepared (prepared e.0), answers_told refs)
    where
      by_prepared : (o : Option Prepared) → AreServers (restored_on o (told e.0))
      by_prepared None = servers_told (λ server. false)
      by_prepared (Some p) = servers_told (λ server. is_member (told e.0) server && is_prepared_on p server)

rolls : (phase : Phase) → is_rolling phase ≡ true → is_ordinary phase ≡ false
rolls Ordinary h = absurd (false≢true h)
rolls Upgrade h = refl
rolls Rolling h = refl

module _ (T : Type 0) (s : State) (req : ReqId) (k : IsKept s.durable) (begun : is_rolling s.durable.phase ≡ true) where
  pub rolled_fits : (names : NamesView) → all_undone s.durable.inverses s.durable.names ≡ Some names → unrestored (prepared_view s.durable) (told_of s) (fin.entries names.refs) ≡ None
      → applied s.durable (RollbackCommit s.durable.epoch (answers_for (prepared_view s.durable) (told_of s) (fin.entries names.refs))) ≡ Some (rolled_back s.durable (answers_for (prepared_view s.durable) (told_of s) (fin.entries names.refs)) names)
  unfolding applied
  rolled_fits names back none =
      let answers = answers_for (prepared_view s.durable) (told_of s) (fin.entries names.refs) in
      ap (after_undoing s.durable s.durable.epoch answers) back
      ∙ ap (λ b. if_fits b (rolled_back s.durable answers names))
      (both_true (is_rolling s.durable.phase) _ begun
      (both_true (s.durable.epoch == s.durable.epoch) _ (eqb_itself s.durable.epoch)
      (answers_fit (prepared_view s.durable) (told_of s) (fin.entries names.refs)
      (each_found nat_cmp nat_cmp_total fin.nat_cmp-IsAntisymmetric (λ e. is_some (prepared_view s.durable e.0)) (fin.entries names.refs) (fin.entries_sorted names.refs)
      (λ chunk count found. k.restored names chunk back (rolls s.durable.phase begun) (ap is_some (fin.get-entries names.refs chunk ∙ found))))
      (all_have (prepared_view s.durable) (told_of s) (fin.entries names.refs) none))))

  if_goes : (names : NamesView) → all_undone s.durable.inverses s.durable.names ≡ Some names → (chunk : Option ℕ) → unrestored (prepared_view s.durable) (told_of s) (fin.entries names.refs) ≡ chunk → Goes T s (commit_if s req names chunk)
  if_goes names back (Some chunk) is = refused_goes T s req (refusals.Unrestored chunk)
  if_goes names back None is =
      let answers = answers_for (prepared_view s.durable) (told_of s) (fin.entries names.refs) in
      let next = rolled_back s.durable answers names in
      let plan = accepted_plan s req (RollbackCommit s.durable.epoch answers ∷ []) (changes.RolledBack ∷ []) [] s.durable.epoch in
      room_goes T s req (turned s plan)
      (one_goes T s (RollbackCommit s.durable.epoch answers) plan next (rolled_fits names back is)
      (λ t kept. commit_kept_by s.durable next s.durable.epoch answers (answers_told (prepared_view s.durable) (told_of s) (fin.entries names.refs)) kept (rolled_fits names back is)))

  on_goes : (names : Option NamesView) → all_undone s.durable.inverses s.durable.names ≡ names → Goes T s (commit_on s req names)
  on_goes None back = refused_goes T s req refusals.BadLine
  on_goes (Some names) back = if_goes names back (unrestored (prepared_view s.durable) (told_of s) (fin.entries names.refs)) refl

pub rolled_goes : (T : Type 0) (s : State) (req : ReqId) → IsKept s.durable → Goes T s (rollback_commit s req)
rolled_goes T s req k =
    test_goes T s (is_rolling s.durable.phase) (commit_on s req (all_undone s.durable.inverses s.durable.names)) (refused s req refusals.NotUpgrading)
    (λ begun. on_goes T s req k begun (all_undone s.durable.inverses s.durable.names) refl) (λ _. refused_goes T s req refusals.NotUpgrading)
