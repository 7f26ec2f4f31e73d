-- Behind the commit of a prepare, or of a rollback, no chunk of a file has a primary.
use Rattle.std.proofs.Common.{◌≡◌, ◌∙◌, ◌&&◌, ◌||◌, ◌++◌, ◌+◌, ◌==◌, ℕ, Bool, true, false, cond, not, List, [], ◌∷◌, map, filter, refl, ap, sym, subst}
use Rattle.std.specs.Prelude.{filter_map, is_none, is_some, option_and_then, option_map, unwrap_or, Option, Some, None, Ok, if◌then◌else◌}
use Rattle.std.specs.Cmp.{nat_cmp_total}
use Rattle.std.specs.FinMap as fin
use Rattle.std.specs.FinMap.Entries.{find-put}
use Rattle.std.specs.List.{cons_option}
use Rattle.std.specs.Ordering.{eq_by_cmp, nat_cmp}
use Rattle.std.proofs.lemmas.Bool.{false≢true, true≢false}
use Rattle.gs_base.specs.Members.{is_member}
use Rattle.gs_base.specs.declared.config.Config.{Config}
use Rattle.gs_base.specs.declared.epoch.EpochEnd.TheVariants as ends
use Rattle.gs_base.specs.declared.numbers.Moment.{Moment}
use Rattle.gs_base.specs.declared.numbers.ReqId.{ReqId}
use Rattle.gs_base.specs.declared.refusal.Refusal.{Refusal}
use Rattle.gs_base.specs.declared.refusal.Refusal.TheVariants as refusals
use Rattle.gs_edit.specs.View.{NamesView}
use Rattle.gs_lease.specs.Transitions.{is_for_lease}
use Rattle.gs_msg.specs.declared.answer.Answer.{Answer}
use Rattle.gs_msg.specs.declared.answer.Answer.TheVariants as answers
use Rattle.gs_msg.specs.declared.call.Call.TheVariants as calls
use Rattle.gs_master_record.specs.Plain.{PlainEntry, Prepare, RollbackCommit}
use Rattle.gs_master_record.specs.declared.checkpoint.Phase.TheVariants.{Upgrade}
use Rattle.gs_master_record.specs.declared.entry.Answered.{Answered}
use Rattle.gs_master_spec.specs.Applied.{after_undoing, applied, are_answers, are_at_rest, if_fits, is_next_epoch, replayed, restored_chunk, restored_view, rolled_back, with_epoch, without_prepared}
use Rattle.gs_master_spec.specs.Calls.{refused_before}
use Rattle.gs_master_spec.specs.Chunks.{chunk_at, has_entry, is_quiet, term_of, was_proposed}
use Rattle.gs_master_spec.specs.Durable.{Durable, Settled, is_listed, is_ordinary, is_rolling, prepared_view}
use Rattle.gs_master_spec.specs.Handling.{called_unless}
use Rattle.gs_master_spec.specs.Replies.{is_later}
use Rattle.gs_master_spec.specs.Settling.{is_quiet_at}
use Rattle.gs_master_spec.specs.State.{State, Turn, first_of, fits, kept_in_memory, last_reply, refused, turned}
use Rattle.gs_master_spec.specs.Undoing.{all_undone}
use Rattle.gs_master_spec.specs.Upgrades.{accepted_plan, all_unquiet, answers_for, chunk_count, commit_if, commit_on, first_in, if_unquiet, is_last_epoch, tell_all, told_of, unless, unrestored}
use Rattle.gs_master_spec.specs.Volatile.{Volatile, all_changed, is_pending}
use Rattle.gs_master_spec.specs.Working.{put_handles}
use Rattle.gs_master_spec.specs.declared.asking.Asking.{Asking}
use Rattle.gs_master_spec.specs.declared.asking.Prepared.{Prepared}
use Rattle.gs_master_spec.specs.declared.change.Change.TheVariants as changes
use Rattle.gs_laws_moves.specs.answers.AtOnce.{OneSays}
use Rattle.gs_laws_moves.proofs.lemmas.answers.Kept.{fits_gives}
use Rattle.gs_laws_moves.proofs.lemmas.looks.Looks.{no_answer}
use Rattle.gs_laws_moves.proofs.lemmas.looks.Records.{never, same_key, settled_is}
use Rattle.gs_laws_moves.specs.looks.Unled.{AreUnled, IsUnled, NoneWaits, PreparesLeaveUnled, RollbacksLeaveUnled}

-- ---- what is looked at

put_one : (chunk one : ℕ) (rest : List ℕ) → is_some (fin.find nat_cmp chunk (put_handles rest)) ≡ true → is_some (fin.find nat_cmp chunk (put_handles (one ∷ rest))) ≡ true
put_one chunk one rest there = ap is_some (find-put nat_cmp nat_cmp_total chunk one true (put_handles rest)) ∙ by_key (eq_by_cmp nat_cmp chunk one)
  where
    by_key : (b : Bool) → is_some (cond b (Some true) (fin.find nat_cmp chunk (put_handles rest))) ≡ true
    by_key true = refl
    by_key false = there

put_behind : (chunk : ℕ) (xs rest : List ℕ) → is_some (fin.find nat_cmp chunk (put_handles rest)) ≡ true → is_some (fin.find nat_cmp chunk (put_handles (xs ++ rest))) ≡ true
put_behind chunk [] rest there = there
put_behind chunk (x ∷ xs) rest there = put_one chunk x (xs ++ rest) (put_behind chunk xs rest there)

put_keys : {V : Type 0} (chunk : ℕ) (es : List (ℕ × V)) (rest : List ℕ) → is_some (fin.find nat_cmp chunk es) ≡ true → is_some (fin.find nat_cmp chunk (put_handles (map (λ e. e.0) es ++ rest))) ≡ true
put_keys chunk [] rest there = absurd (false≢true there)
put_keys chunk (e ∷ es) rest there = ap is_some (find-put nat_cmp nat_cmp_total chunk e.0 true (put_handles (map (λ e. e.0) es ++ rest))) ∙ by_key (eq_by_cmp nat_cmp chunk e.0) there (put_keys chunk es rest)
  where
    by_key : (b : Bool) → is_some (cond b (Some e.1) (fin.find nat_cmp chunk es)) ≡ true → (is_some (fin.find nat_cmp chunk es) ≡ true → is_some (fin.find nat_cmp chunk (put_handles (map (λ e. e.0) es ++ rest))) ≡ true)
        → is_some (cond b (Some true) (fin.find nat_cmp chunk (put_handles (map (λ e. e.0) es ++ rest)))) ≡ true
    by_key true h more = refl
    by_key false h more = more h

-- where none of some passes a test, one of them doesn't
none_passes : (f : ℕ → Bool) (es : List (ℕ × Bool)) (chunk : ℕ) → filter f (map (λ e. e.0) es) ≡ [] → is_some (fin.find nat_cmp chunk es) ≡ true → f chunk ≡ false
none_passes f [] chunk none there = absurd (false≢true there)
none_passes f (e ∷ es) chunk none there = by_test (f e.0) refl none (λ h. none_passes f es chunk h)
  where
    some_none : {x : ℕ} {xs : List ℕ} → x ∷ xs ≡ [] → ⊥
    some_none is = cc

    by_key : (b : Bool) → eq_by_cmp nat_cmp chunk e.0 ≡ b → f e.0 ≡ false → is_some (cond b (Some e.1) (fin.find nat_cmp chunk es)) ≡ true → (is_some (fin.find nat_cmp chunk es) ≡ true → f chunk ≡ false) → f chunk ≡ false
    by_key true same fails h more = ap f (same_key chunk e.0 same) ∙ fails
    by_key false apart fails h more = more h

    by_test : (b : Bool) → f e.0 ≡ b → cond b (e.0 ∷ filter f (map (λ e. e.0) es)) (filter f (map (λ e. e.0) es)) ≡ [] → (filter f (map (λ e. e.0) es) ≡ [] → is_some (fin.find nat_cmp chunk es) ≡ true → f chunk ≡ false) → f chunk ≡ false
    by_test true passes h more = absurd (some_none h)
    by_test false fails h more = by_key (eq_by_cmp nat_cmp chunk e.0) refl fails there (more h)

-- ---- a chunk that is quiet

not_not : (a b : Bool) → (a && not b) ≡ false → a ≡ true → b ≡ true
not_not true true e h = refl
not_not true false e h = absurd (true≢false e)
not_not false b e h = absurd (false≢true h)

is_nothing : {A : Type 0} (o : Option A) → is_none o ≡ true → o ≡ None
is_nothing None e = refl
is_nothing (Some x) e = absurd (false≢true e)

none_at : {A : Type 0} (o : Option A) → is_some o ≡ false → o ≡ None
none_at None e = refl
none_at (Some x) e = absurd (true≢false e)

quiet_parts : (asked moving still : Bool) → (not (asked || moving) && still) ≡ true → (asked ≡ false) × (still ≡ true)
quiet_parts true moving still h = absurd (false≢true h)
quiet_parts false true still h = absurd (false≢true h)
quiet_parts false false true h = (refl, refl)
quiet_parts false false false h = absurd (false≢true h)

module _ (s : State) (chunk : ℕ) (known : has_entry s chunk ≡ true) where
  quiet_unasked : is_quiet_at s chunk ≡ true → fin.get s.volatile.moving chunk ≡ None
  unfolding chunk_at
  quiet_unasked h = none_at (fin.get s.volatile.moving chunk) (parts (rw known at h)).0
    where
      parts : is_quiet (record { settled = fin.get s.durable.chunks chunk; asking = fin.get s.volatile.moving chunk }) ≡ true → (is_some (fin.get s.volatile.moving chunk) ≡ false) × (is_none (term_of (record { settled = fin.get s.durable.chunks chunk; asking = fin.get s.volatile.moving chunk })) ≡ true)
      parts h = quiet_parts (is_some (fin.get s.volatile.moving chunk)) (was_proposed (fin.get s.durable.chunks chunk)) (is_none (term_of (record { settled = fin.get s.durable.chunks chunk; asking = fin.get s.volatile.moving chunk }))) h

  quiet_unled : is_quiet_at s chunk ≡ true → (x : Settled) → fin.get s.durable.chunks chunk ≡ Some x → x.view.term ≡ None
  unfolding chunk_at
  quiet_unled h x has = is_nothing x.view.term (quiet_parts (is_some (fin.get s.volatile.moving chunk)) x.is_moving (is_none x.view.term) (subst (λ o. is_quiet (record { settled = o; asking = fin.get s.volatile.moving chunk }) ≡ true) has (rw known at h))).1

-- what a file has the master knows
known_entry : (s : State) (chunk : ℕ) → is_listed s.durable chunk ≡ true → has_entry s chunk ≡ true
known_entry s chunk known = ap (λ b. b || is_member s.volatile.unplaced chunk) known

module _ (s : State) (all : all_unquiet s ≡ []) where
  its_quiet : (chunk : ℕ) → is_listed s.durable chunk ≡ true → is_some (fin.find nat_cmp chunk (put_handles (fin.keys s.durable.chunks ++ fin.keys s.volatile.moving))) ≡ true → is_quiet_at s chunk ≡ true
  its_quiet chunk known there =
      not_not (has_entry s chunk) (is_quiet_at s chunk) (none_passes (λ c. has_entry s c && not (is_quiet_at s c)) (put_handles (fin.keys s.durable.chunks ++ fin.keys s.volatile.moving)) chunk all there) (known_entry s chunk known)

  views_unled : AreUnled s.durable
  views_unled chunk x known has =
      quiet_unled s chunk (known_entry s chunk known)
      (its_quiet chunk known (put_keys chunk (fin.entries s.durable.chunks) (fin.keys s.volatile.moving) (ap is_some (sym (fin.get-entries s.durable.chunks chunk) ∙ has)))) x has

  none_asked : (chunk : ℕ) (asking : Asking) → is_listed s.durable chunk ≡ true → fin.get s.volatile.moving chunk ≡ Some asking → is_for_lease asking.purpose ≡ false
  none_asked chunk asking known has =
      never (sym (quiet_unasked s chunk (known_entry s chunk known)
      (its_quiet chunk known (put_behind chunk (fin.keys s.durable.chunks) (fin.keys s.volatile.moving) (moves (put_keys chunk (fin.entries s.volatile.moving) [] (ap is_some (sym (fin.get-entries s.volatile.moving chunk) ∙ has)))))))
      ∙ has)
    where
      no_more : (xs : List ℕ) → xs ++ [] ≡ xs
      no_more [] = refl
      no_more (x ∷ xs) = ap (λ (ys : List ℕ). x ∷ ys) (no_more xs)

      moves : is_some (fin.find nat_cmp chunk (put_handles (fin.keys s.volatile.moving ++ []))) ≡ true → is_some (fin.find nat_cmp chunk (put_handles (fin.keys s.volatile.moving))) ≡ true
      moves h = subst (λ (xs : List ℕ). is_some (fin.find nat_cmp chunk (put_handles xs)) ≡ true) (no_more (fin.keys s.volatile.moving)) h

-- ---- what a call keeps

kept_moving : (v : Volatile) (req : ReqId) (answer : Answer) (b : Bool) → (all_changed v (if b then kept_in_memory req (Ok answer) ∷ [] else [])).moving ≡ v.moving
kept_moving v req answer true = refl
kept_moving v req answer false = refl

kept_pending : (v : Volatile) (req : ReqId) (answer : Answer) (b : Bool) → (all_changed v (if b then kept_in_memory req (Ok answer) ∷ [] else [])).pending ≡ v.pending
kept_pending v req answer true = refl
kept_pending v req answer false = refl

one_fits : (d e : Durable) (entry : PlainEntry) → replayed d (entry ∷ []) ≡ Some e → applied d entry ≡ Some e
one_fits d e entry fit = by_fit (applied d entry) fit
  where
    by_fit : (o : Option Durable) → option_and_then (λ (n : Durable). replayed n []) o ≡ Some e → o ≡ Some e
    by_fit None fit = never fit
    by_fit (Some n) fit = fit

pick : (S : Turn → Type 0) (b : Bool) (t u : Turn) → S t → S u → S (if b then t else u)
pick S true t u x y = x
pick S false t u x y = y

-- ---- the commit of a prepare

prepared_unled : (d : Durable) (epoch moment many : ℕ) → AreUnled d → AreUnled (unwrap_or (applied d (Prepare epoch moment many)) d)
unfolding applied
prepared_unled d epoch moment many are = by_fit (is_ordinary d.phase && (is_next_epoch d.epoch epoch && are_at_rest d))
  where
    by_fit : (b : Bool) → AreUnled (unwrap_or (if_fits b (without_prepared (with_epoch d ends.Prepare Upgrade))) d)
    by_fit true = are
    by_fit false = are

prepared_listed : (d : Durable) (epoch moment many chunk : ℕ) → is_listed (unwrap_or (applied d (Prepare epoch moment many)) d) chunk ≡ is_listed d chunk
unfolding applied
prepared_listed d epoch moment many chunk = by_fit (is_ordinary d.phase && (is_next_epoch d.epoch epoch && are_at_rest d))
  where
    by_fit : (b : Bool) → is_listed (unwrap_or (if_fits b (without_prepared (with_epoch d ends.Prepare Upgrade))) d) chunk ≡ is_listed d chunk
    by_fit true = refl
    by_fit false = refl

module _ (config : Config) (s : State) (req : ReqId) (moment : Moment) (answer : Answer) (none : NoneWaits s) where
  abbrev pub Says : Turn → Type 0
  Says t = OneSays req (Ok answer) t.sent

  abbrev prepare_turn : Turn
  prepare_turn = turned s (accepted_plan s req (Prepare (s.durable.epoch + 1) moment.0 (chunk_count s) ∷ []) (changes.Prepare false ∷ []) (tell_all config (s.durable.epoch + 1) ends.Prepare) (s.durable.epoch + 1))

  abbrev pub Left : Turn → Type 0
  Left t = Says t → IsUnled t.after

  prepare_made : all_unquiet s ≡ [] → IsUnled prepare_turn.after
  prepare_made all =
      let now = is_later (last_reply s req.client) req.number in
      let v = all_changed s.volatile (changes.Prepare false ∷ []) in record {
        views = prepared_unled s.durable (s.durable.epoch + 1) moment.0 (chunk_count s) (views_unled s all);
        asked = λ chunk asking known has. none_asked s all chunk asking (sym (prepared_listed s.durable (s.durable.epoch + 1) moment.0 (chunk_count s) chunk) ∙ known) (ap (λ m. fin.get m chunk) (sym (kept_moving v req (answers.Epoch (s.durable.epoch + 1)) now)) ∙ has);
        none = λ other there. none other (ap (λ ps. is_pending ps other) (sym (kept_pending v req (answers.Epoch (s.durable.epoch + 1)) now)) ∙ there);
      }

  prepare_tests : (begun ordinary : Bool) (unquiet : List ℕ) → all_unquiet s ≡ unquiet → (exhausted : Bool) → Left (unless (first_of ((not begun && not ordinary, refusals.AlreadyUpgrading) ∷ (not begun, refusals.NotUpgrading) ∷ (if_unquiet (first_in unquiet) ++ (exhausted, refusals.Exhausted) ∷ []))) s req prepare_turn)
  prepare_tests false false unquiet are exhausted says = no_answer req refusals.AlreadyUpgrading answer says
  prepare_tests false true unquiet are exhausted says = no_answer req refusals.NotUpgrading answer says
  prepare_tests true ordinary (chunk ∷ unquiet) are exhausted says = no_answer req (refusals.NotQuiet chunk) answer says
  prepare_tests true ordinary [] are true says = no_answer req refusals.Exhausted answer says
  prepare_tests true ordinary [] are false says = pick Left (fits s.log prepare_turn.records) prepare_turn (refused s req refusals.Full) (λ says. prepare_made are) (λ says. no_answer req refusals.Full answer says) says

  pub prepare_left : (o : Option Refusal) → Left (called_unless config s req moment calls.PrepareCommit o)
  prepare_left None says = prepare_tests s.volatile.is_preparing (is_ordinary s.durable.phase) (all_unquiet s) refl (is_last_epoch s.durable) says
  prepare_left (Some refusal) says = no_answer req refusal answer says

  -- ---- the commit of a rollback

  abbrev pub Fitting : Turn → Type 0
  Fitting t = Says t → replayed s.durable t.records ≡ Some t.after.durable → IsUnled t.after

  restored_unled : (d : Durable) (told : List Answered) (q : ℕ) (x : Settled) → fin.get (fin.from_entries {R = nat_cmp} (filter_map (restored_chunk d) told)) q ≡ Some x → x.view.term ≡ None
  restored_unled d [] q x has = never (sym (fin.get-empty nat_cmp q) ∙ has)
  restored_unled d (a ∷ told) q x has = by_prepared (prepared_view d a.handle) has (restored_unled d told q x)
    where
      rest : List (ℕ × Settled)
      rest = filter_map (restored_chunk d) told

      by_key : (p : Prepared) (b : Bool) → cond b (Some (restored_view d.epoch p a.members)) (fin.get (fin.from_entries {R = nat_cmp} rest) q) ≡ Some x → (fin.get (fin.from_entries {R = nat_cmp} rest) q ≡ Some x → x.view.term ≡ None) → x.view.term ≡ None
      by_key p true h more = sym (ap (λ (y : Settled). y.view.term) (settled_is h))
      by_key p false h more = more h

      by_prepared : (o : Option Prepared) → fin.get (fin.from_entries {R = nat_cmp} (cons_option (option_map (λ p. (a.handle, restored_view d.epoch p a.members)) o) rest)) q ≡ Some x → (fin.get (fin.from_entries {R = nat_cmp} rest) q ≡ Some x → x.view.term ≡ None)
          → x.view.term ≡ None
      by_prepared None h more = more h
      by_prepared (Some p) h more =
          by_key p (eq_by_cmp nat_cmp q a.handle) (sym (fin.get-insert nat_cmp_total (fin.from_entries {R = nat_cmp} rest) a.handle (restored_view d.epoch p a.members) q) ∙ h) more

  commit_unled : (d e : Durable) (told : List Answered) (names : Option NamesView) → after_undoing d d.epoch told names ≡ Some e → AreUnled e
  commit_unled d e told None fit = never fit
  commit_unled d e told (Some names) fit =
      subst AreUnled (fits_gives (is_rolling d.phase && ((d.epoch == d.epoch) && are_answers (prepared_view d) (fin.entries names.refs) told)) (rolled_back d told names) e fit) (λ q x known has. restored_unled d told q x has)

  committed_unled : (d e : Durable) (told : List Answered) → applied d (RollbackCommit d.epoch told) ≡ Some e → AreUnled e
  unfolding applied
  committed_unled d e told fit = commit_unled d e told (all_undone d.inverses d.names) fit

  abbrev told : NamesView → List Answered
  told names = answers_for (prepared_view s.durable) (told_of s) (fin.entries names.refs)

  abbrev commit_turn : NamesView → Turn
  commit_turn names = turned s (accepted_plan s req (RollbackCommit s.durable.epoch (told names) ∷ []) (changes.RolledBack ∷ []) [] s.durable.epoch)

  commit_made : (names : NamesView) → replayed s.durable (commit_turn names).records ≡ Some (commit_turn names).after.durable → IsUnled (commit_turn names).after
  commit_made names fit =
      let now = is_later (last_reply s req.client) req.number in
      let v = all_changed s.volatile (changes.RolledBack ∷ []) in record {
        views = committed_unled s.durable (commit_turn names).after.durable (told names) (one_fits s.durable (commit_turn names).after.durable (RollbackCommit s.durable.epoch (told names)) fit);
        asked = λ chunk asking known has. never (sym (fin.get-empty nat_cmp chunk) ∙ ap (λ m. fin.get m chunk) (sym (kept_moving v req (answers.Epoch s.durable.epoch) now)) ∙ has);
        none = λ other there. none other (ap (λ ps. is_pending ps other) (sym (kept_pending v req (answers.Epoch s.durable.epoch) now)) ∙ there);
      }

  commit_lacking : (names : NamesView) (lacking : Option ℕ) → Fitting (commit_if s req names lacking)
  commit_lacking names (Some chunk) = λ says fit. no_answer req (refusals.Unrestored chunk) answer says
  commit_lacking names None = pick Fitting (fits s.log (commit_turn names).records) (commit_turn names) (refused s req refusals.Full) (λ says fit. commit_made names fit) (λ says fit. no_answer req refusals.Full answer says)

  commit_names : (names : Option NamesView) → Fitting (commit_on s req names)
  commit_names None = λ says fit. no_answer req refusals.BadLine answer says
  commit_names (Some names) = commit_lacking names (unrestored (prepared_view s.durable) (told_of s) (fin.entries names.refs))

  pub commit_left : (o : Option Refusal) → Fitting (called_unless config s req moment calls.RollbackCommit o)
  commit_left None = pick Fitting (is_rolling s.durable.phase) (commit_on s req (all_undone s.durable.inverses s.durable.names)) (refused s req refusals.NotUpgrading) (commit_names (all_undone s.durable.inverses s.durable.names))
      (λ says fit. no_answer req refusals.NotUpgrading answer says)
  commit_left (Some refusal) = λ says fit. no_answer req refusal answer says

pub prepares_leave : PreparesLeaveUnled
prepares_leave config s req moment answer none says = prepare_left config s req moment answer none (refused_before s req calls.PrepareCommit) says

pub rollbacks_leave : RollbacksLeaveUnled
rollbacks_leave config s req moment answer none says fit = commit_left config s req moment answer none (refused_before s req calls.RollbackCommit) says fit
