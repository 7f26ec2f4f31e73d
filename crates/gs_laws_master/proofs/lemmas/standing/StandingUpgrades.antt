-- What stands is kept by each call of an upgrade, and by a scan.
use Rattle.std.proofs.Common.{◌≡◌, ◌∙◌, ◌+◌, ◌&&◌, ◌||◌, ◌==◌, inr, ℕ, Bool, true, false, not, cond, List, [], ◌∷◌, ◌++◌, map, length, refl, ap, subst, sym, arith}
use Rattle.std.specs.Prelude.{filter_map, fold, is_some, option_and_then, option_map, unwrap_or, Option, Some, None}
use Rattle.std.specs.Cmp.{nat_cmp_total}
use Rattle.std.specs.FinMap as fin
use Rattle.std.specs.FinMap.Entries.{find-put}
use Rattle.std.specs.List.{AllByRecursion, cons_option, list_all, list_any}
use Rattle.std.specs.Ordering.{eq_by_cmp, nat_cmp}
use Rattle.std.proofs.lemmas.Bool.{false≢true, true≢false, and_parts}
use Rattle.std.proofs.lemmas.List.Folds.{list_any-append}
use Rattle.gs_base.specs.Members.{is_member}
use Rattle.gs_base.specs.declared.config.Config.{Config}
use Rattle.gs_base.specs.declared.epoch.EpochEnd.TheVariants as ends
use Rattle.gs_base.specs.declared.numbers.Moment.{Moment}
use Rattle.gs_base.specs.declared.numbers.ReqId.{ReqId}
use Rattle.gs_base.specs.declared.refusal.Refusal.{Refusal}
use Rattle.gs_base.specs.declared.refusal.Refusal.TheVariants as refusals
use Rattle.gs_edit.proofs.References.{among}
use Rattle.gs_edit.specs.View.{NamesView}
use Rattle.gs_path.specs.Path.{Path}
use Rattle.gs_lease.specs.declared.view.Purpose.{Purpose}
use Rattle.gs_lease.specs.declared.view.Purpose.TheVariants as purposes
use Rattle.gs_msg.specs.declared.answer.Answer.TheVariants as answers
use Rattle.gs_master_record.specs.Plain.{PlainEdit, Edited, Propose, Prepare, Finalize, RollbackBegin, RollbackCommit}
use Rattle.gs_master_record.specs.declared.checkpoint.Phase.TheVariants.{Ordinary, Upgrade, Rolling}
use Rattle.gs_master_record.specs.declared.entry.Answered.{Answered}
use Rattle.gs_master_spec.specs.Applied.{applied, if_fits, may_propose, proposed, replayed, restored_chunk, restored_view, rolled_back, with_epoch, without_prepared}
use Rattle.gs_master_spec.specs.Beginning.{all_begun, begun, has_versions}
use Rattle.gs_master_spec.specs.Calls.{answered_with}
use Rattle.gs_master_spec.specs.Chunks.{chunk_at, has_entry}
use Rattle.gs_master_spec.specs.Durable.{Durable, Settled, is_listed, is_ordinary, is_rolling, prepared_view}
use Rattle.gs_master_state.specs.Sane.{is_waited_by, makes}
use Rattle.gs_master_spec.specs.Settling.{is_quiet_at, own_request, requests_of}
use Rattle.gs_master_spec.specs.State.{State, Plan, Turn, turned, and_then, with_record, refused, ended_by, all_ended_by, first_of}
use Rattle.gs_master_spec.specs.Undoing.{all_undone}
use Rattle.gs_master_spec.specs.Upgrades.{accepted_plan, all_unquiet, answers_for, begin_tests, chunk_count, commit_if, commit_on, commit_tests, end_tests, finalize, if_pending, if_unquiet, first_in, is_last_epoch, lowest_path, pending_paths, prepare_abort, prepare_begin, prepare_commit, restored_on, rollback_begin, rollback_commit, tell_all, told_of, unless, unrestored}
use Rattle.gs_master_spec.specs.Volatile.{Volatile, changed, is_call, without_pending}
use Rattle.gs_master_spec.specs.Working.{ascending, forgotten_chunks, put_handles, removed_paths, scan_edits, scan_plan, scans, waiting_for}
use Rattle.gs_master_spec.specs.declared.asking.Asking.{Asking}
use Rattle.gs_master_spec.specs.declared.asking.Prepared.{Prepared}
use Rattle.gs_master_spec.specs.declared.change.Change.TheVariants as changes
use Rattle.gs_master_spec.specs.declared.pending.Pending.{Pending}
use Rattle.gs_laws_master.specs.Promises.{IsKept}
use Rattle.gs_laws_master.specs.Standing.{Stands}
use Rattle.gs_laws_master.proofs.lemmas.fitting.AcceptedForgets.{folded, scan_fits}
use Rattle.gs_laws_master.proofs.lemmas.fitting.AcceptedScans.{own_edits}
use Rattle.gs_laws_master.proofs.lemmas.fitting.AcceptedUpgrades.{answers_told, begin_fits, commit_fits, finalize_fits, first_test, none_passes, rolled_fits, unquiet_none}
use Rattle.gs_laws_master.proofs.lemmas.fitting.AcceptedViews.{filter_holds, is_settled}
use Rattle.gs_laws_master.proofs.lemmas.fitting.AcceptedWork.{all_ended_same, no_makers, pending_none, unquiet_settled}
use Rattle.gs_laws_master.proofs.lemmas.versions.Fresh.{not_false}
use Rattle.gs_laws_master.proofs.lemmas.keeping.KeptEdits.{AnswersTold}
use Rattle.gs_laws_master.proofs.lemmas.keeping.KeptEpochs.{commit_kept_by}
use Rattle.gs_laws_master.proofs.lemmas.keeping.KeptRecords.{as_next}
use Rattle.gs_laws_master.specs.Numbered.{HasNumbers}
use Rattle.gs_laws_master.proofs.lemmas.names.Numbered.{keeps_numbers}
use Rattle.gs_laws_master.proofs.lemmas.standing.Standing.{Onto, fewer_out, prepare, recorded, rolled, forget, same_call, same_self}
use Rattle.gs_laws_master.proofs.lemmas.standing.StandingRecords.{MayStand, begin_onto, edit_onto, finalize_onto, prepare_onto}
use Rattle.gs_laws_master.proofs.lemmas.standing.StandingTurns.{Good, Holds, all_given_up, answered_good, answered_last, edited_phase, given_up, none_good, one_good, refused_good, room_good, test_good, then_good}
use Rattle.gs_laws_master.proofs.lemmas.standing.StandingViews.{all_begun_good, for_none}
use Rattle.gs_laws_master.proofs.lemmas.names.StillNamed.{IsTold}
use Rattle.gs_tree.proofs.Levels.{both_true}

-- ---- all calls that wait end

with_none : (ps : List Pending) (reqs : List ReqId) → list_all (λ (p : Pending). list_any (λ r. same_call r p.req) reqs) ps ≡ true → fold without_pending ps reqs ≡ []
with_none [] [] all = refl
with_none (p ∷ ps) [] all = absurd (false≢true all)
with_none ps (r ∷ reqs) all = with_none (without_pending ps r) reqs (less ps all)
  where
    less : (qs : List Pending) → list_all (λ (p : Pending). same_call r p.req || list_any (λ x. same_call x p.req) reqs) qs ≡ true → list_all (λ (p : Pending). list_any (λ x. same_call x p.req) reqs) (without_pending qs r) ≡ true
    less [] all = refl
    less (q ∷ qs) all = let parts = and_parts (same_call r q.req || list_any (λ x. same_call x q.req) reqs) (list_all (λ (p : Pending). same_call r p.req || list_any (λ x. same_call x p.req) reqs) qs) all in by_test (same_call r q.req) parts.0 (less qs parts.1)
      where
        by_test : (b : Bool) → (b || list_any (λ x. same_call x q.req) reqs) ≡ true → list_all (λ (p : Pending). list_any (λ x. same_call x p.req) reqs) (without_pending qs r) ≡ true
            → list_all (λ (p : Pending). list_any (λ x. same_call x p.req) reqs) (cond (not b) (q ∷ without_pending qs r) (without_pending qs r)) ≡ true
        by_test true here rest = rest
        by_test false here rest = both_true (list_any (λ x. same_call x q.req) reqs) _ here rest

or_any : (a b : Bool) → b ≡ true → (a || b) ≡ true
or_any true b h = refl
or_any false b h = h

all_their_own : (ps : List Pending) → list_all (λ (p : Pending). list_any (λ r. same_call r p.req) (requests_of ps)) ps ≡ true
all_their_own [] = refl
all_their_own (p ∷ ps) = both_true (same_call p.req p.req || list_any (λ r. same_call r p.req) (requests_of ps)) _ (ap (λ b. b || list_any (λ r. same_call r p.req) (requests_of ps)) (same_self p.req)) (more p.req ps (requests_of ps) (all_their_own ps))
  where
    more : (q : ReqId) (qs : List Pending) (reqs : List ReqId) → list_all (λ (x : Pending). list_any (λ r. same_call r x.req) reqs) qs ≡ true → list_all (λ (x : Pending). same_call q x.req || list_any (λ r. same_call r x.req) reqs) qs ≡ true
    more q [] reqs all = refl
    more q (x ∷ qs) reqs all =
        let parts = and_parts (list_any (λ r. same_call r x.req) reqs) (list_all (λ (y : Pending). list_any (λ r. same_call r y.req) reqs) qs) all in
        both_true (same_call q x.req || list_any (λ r. same_call r x.req) reqs) _ (or_any (same_call q x.req) (list_any (λ r. same_call r x.req) reqs) parts.0) (more q qs reqs parts.1)

pub none_waits : (ps : List Pending) → fold without_pending ps (requests_of ps) ≡ []
none_waits ps = with_none ps (requests_of ps) (all_their_own ps)

-- no call that waits makes a chunk
abbrev NoMakers : List Pending → Type 0
NoMakers ps = (chunk : ℕ) (call : Option ReqId) → is_waited_by call (makes chunk) ps ≡ false

fewer_makers : (ps : List Pending) (req : ReqId) → NoMakers ps → NoMakers (without_pending ps req)
fewer_makers ps req none chunk call = fewer ps (none chunk call)
  where
    either_none : (a b : Bool) → (a || b) ≡ false → (a ≡ false) × (b ≡ false)
    either_none true b h = absurd (true≢false h)
    either_none false b h = (refl, h)

    fewer : (qs : List Pending) → is_waited_by call (makes chunk) qs ≡ false → is_waited_by call (makes chunk) (without_pending qs req) ≡ false
    fewer [] h = refl
    fewer (q ∷ qs) h = let parts = either_none (is_call q.req call && makes chunk q.waits) (is_waited_by call (makes chunk) qs) h in by_test (not (same_call req q.req)) parts.0 (fewer qs parts.1)
      where
        by_test : (b : Bool) → (is_call q.req call && makes chunk q.waits) ≡ false → is_waited_by call (makes chunk) (without_pending qs req) ≡ false → is_waited_by call (makes chunk) (cond b (q ∷ without_pending qs req) (without_pending qs req)) ≡ false
        by_test true here rest = ap (λ x. x || is_waited_by call (makes chunk) (without_pending qs req)) here ∙ rest
        by_test false here rest = rest

module _ (b : Bool) where
  pub ended_pending : (reqs : List ReqId) (refusal : Refusal) (s : State) → Holds b s → (all_ended_by s reqs refusal).after.volatile.pending ≡ fold without_pending s.volatile.pending reqs
  ended_pending [] refusal s h = refl
  ended_pending (req ∷ reqs) refusal s h =
      let one = given_up b s req refusal h in ended_pending reqs refusal (ended_by s req refusal).after one.good.holds ∙ ap (λ ps. fold without_pending ps reqs) one.pending

  ended_placed : (reqs : List ReqId) (refusal : Refusal) (s : State) → Holds b s → NoMakers s.volatile.pending → (all_ended_by s reqs refusal).after.volatile.unplaced ≡ s.volatile.unplaced
  ended_placed [] refusal s h none = refl
  ended_placed (req ∷ reqs) refusal s h none =
      let one = given_up b s req refusal h in
      ended_placed reqs refusal (ended_by s req refusal).after one.good.holds (subst NoMakers (sym one.pending) (fewer_makers s.volatile.pending req none)) ∙ one.placed (λ c a has call. not_there c a has a.call refl call (is_member s.volatile.unplaced c) refl)
    where
      not_there : (c : ℕ) (a : Asking) → fin.get s.volatile.moving c ≡ Some a → (call : Option ReqId) → a.call ≡ call → is_call req a.call ≡ true → (m : Bool) → is_member s.volatile.unplaced c ≡ m → m ≡ false
      not_there c a has None is own m here = absurd (false≢true (sym (ap (is_call req) is) ∙ own))
      not_there c a has (Some r) is own true here = absurd (false≢true (sym (none c a.call) ∙ (h.stands.asked c a has).own r is here))
      not_there c a has (Some r) is own false here = refl

-- ---- what is begun leaves the calls and the phase

begun_pending : (many : List ℕ) (purpose : Purpose) (call : Option ReqId) (s : State) → (all_begun s many purpose call).after.volatile.pending ≡ s.volatile.pending
begun_pending [] purpose call s = refl
begun_pending (chunk ∷ many) purpose call s = begun_pending many purpose call (begun s chunk purpose call).after

begun_phase : (many : List ℕ) (purpose : Purpose) (call : Option ReqId) (s : State) → (all_begun s many purpose call).after.durable.phase ≡ s.durable.phase
unfolding applied
begun_phase [] purpose call s = refl
begun_phase (chunk ∷ many) purpose call s = begun_phase many purpose call (begun s chunk purpose call).after ∙ one
  where
    by_fit : (c : Bool) → (unwrap_or (if_fits c (proposed s.durable chunk s.durable.next_version)) s.durable).phase ≡ s.durable.phase
    by_fit true = refl
    by_fit false = refl

    one : (with_record s (Propose chunk s.durable.next_version)).durable.phase ≡ s.durable.phase
    one = by_fit (may_propose s.durable.phase s.durable.next_handle s.durable.next_version chunk s.durable.next_version (fin.get s.durable.chunks chunk))

-- ---- an upgrade is prepared

unless_good : (s : State) (req : ReqId) (t : Turn) (refusal : Option Refusal) → Holds true s → (refusal ≡ None → Good true s t) → Good true s (unless refusal s req t)
unless_good s req t None h a = room_good true s req t h (a refl)
unless_good s req t (Some refusal) h a = refused_good true s req refusal h

not_both : (a b : Bool) → (a || not b) ≡ false → (a ≡ false) × (b ≡ true)
not_both true b h = absurd (true≢false h)
not_both false true h = (refl, refl)
not_both false false h = absurd (true≢false h)

pub prepare_good : (s : State) (req : ReqId) → Holds true s → is_rolling s.durable.phase ≡ false → Good true s (prepare_begin s req)
prepare_good s req h rolling =
    let reqs = requests_of s.volatile.pending in
    let many = all_unquiet s in
    let ended = all_ended_by s reqs refusals.Preparing in
    let begin : State → Turn = λ next. all_begun next many purposes.Quiet None in
    let last : State → Plan = λ next. accepted_plan next req [] (changes.Prepare true ∷ []) [] s.durable.epoch in
    let accept : State → Turn = λ next. turned next (last next) in
    let exhausted = not (has_versions s.durable (length many)) in
    unless_good s req (and_then (and_then ended begin) accept) (first_of (begin_tests s.durable.phase s.volatile.is_preparing s.volatile.pending exhausted)) h
    (λ passed.
    let more = if_pending (lowest_path (pending_paths s.volatile.pending)) ++ (exhausted, refusals.Exhausted) ∷ [] in
    let one = first_test (s.volatile.is_preparing || not (is_ordinary s.durable.phase)) refusals.AlreadyUpgrading more passed in
    let rest = pending_none (lowest_path (pending_paths s.volatile.pending)) exhausted one.1 in
    let left = not_false (has_versions s.durable (length many)) rest.1 in
    let ordinary = (not_both s.volatile.is_preparing (is_ordinary s.durable.phase) one.0).1 in
    let known = filter_holds (λ c. is_settled s.durable c && has_entry s c) (λ chunk. has_entry s chunk && not (is_quiet_at s chunk)) (ascending (fin.keys s.durable.chunks ++ fin.keys s.volatile.moving))
    (λ chunk k. both_true (is_settled s.durable chunk) (has_entry s chunk) (unquiet_settled s chunk (λ c a has. (h.stands.asked c a has).made) rest.0 k) (and_parts (has_entry s chunk) (not (is_quiet_at s chunk)) k).0) in
    let first = all_given_up true reqs refusals.Preparing s h in
    let placed = ended_placed true reqs refusals.Preparing s h (λ chunk call. no_makers chunk call s.volatile.pending rest.0) in
    let second = all_begun_good true many purposes.Quiet None ended.after first.holds (record {
      rolling = all_ended_same (λ d. is_rolling d.phase) (λ d replies. refl) reqs refusals.Preparing s ∙ rolling;
      left = all_ended_same (λ d. has_versions d (length many)) (λ d replies. refl) reqs refusals.Preparing s ∙ left;
      known = ap (λ u. list_all (λ c. is_settled ended.after.durable c && (is_listed ended.after.durable c || is_member u c)) many) placed
          ∙ all_ended_same (λ d. list_all (λ c. is_settled d c && (is_listed d c || is_member s.volatile.unplaced c)) many) (λ d replies. refl) reqs refusals.Preparing s ∙ known;
      quiet = refl;
      owned = inr refl;
      for = λ c. for_none ended.after.durable ended.after.volatile c purposes.Quiet;
    }) in
    let two = then_good true s ended begin first second in
    let next = (and_then ended begin).after in
    let empty = begun_pending many purposes.Quiet None ended.after ∙ ended_pending true reqs refusals.Preparing s h ∙ none_waits s.volatile.pending in
    let still = ap is_ordinary (begun_phase many purposes.Quiet None ended.after) ∙ all_ended_same (λ d. is_ordinary d.phase) (λ d replies. refl) reqs refusals.Preparing s ∙ ordinary in
    let l = answered_last true next next.durable req (answers.Epoch s.durable.epoch) (changes.Prepare true ∷ []) refl refl (prepare next.durable next.volatile two.holds.stands true (λ _. (still, empty))) in
    then_good true s (and_then ended begin) accept two (none_good true next (last next) l.0 (λ c r. l.1 ∙ two.holds.rolling c r)))

-- ---- a prepare is committed, or given up

found_key : {A : Type 0} (es : List (ℕ × A)) (k : ℕ) → is_some (fin.find nat_cmp k es) ≡ true → is_some (fin.find nat_cmp k (put_handles (map (λ e. e.0) es))) ≡ true
found_key [] k some = absurd (false≢true some)
found_key (e ∷ es) k some = ap is_some (find-put nat_cmp nat_cmp_total k e.0 true (put_handles (map (λ f. f.0) es))) ∙ by_key (eq_by_cmp nat_cmp k e.0) some (found_key es k)
  where
    by_key : (c : Bool) → is_some (cond c (Some e.1) (fin.find nat_cmp k es)) ≡ true → (is_some (fin.find nat_cmp k es) ≡ true → is_some (fin.find nat_cmp k (put_handles (map (λ f. f.0) es))) ≡ true)
        → is_some (cond c (Some true) (fin.find nat_cmp k (put_handles (map (λ f. f.0) es)))) ≡ true
    by_key true here rest = refl
    by_key false here rest = rest here

found_later : (xs ys : List ℕ) (k : ℕ) → is_some (fin.find nat_cmp k (put_handles ys)) ≡ true → is_some (fin.find nat_cmp k (put_handles (xs ++ ys))) ≡ true
found_later [] ys k some = some
found_later (x ∷ xs) ys k some = ap is_some (find-put nat_cmp nat_cmp_total k x true (put_handles (xs ++ ys))) ∙ by_key (eq_by_cmp nat_cmp k x) (found_later xs ys k some)
  where
    by_key : (c : Bool) → is_some (fin.find nat_cmp k (put_handles (xs ++ ys))) ≡ true → is_some (cond c (Some true) (fin.find nat_cmp k (put_handles (xs ++ ys)))) ≡ true
    by_key true rest = refl
    by_key false rest = rest

loud : (s : State) (chunk : ℕ) (a : Asking) → has_entry s chunk ≡ true → fin.get s.volatile.moving chunk ≡ Some a → (has_entry s chunk && not (is_quiet_at s chunk)) ≡ false → ⊥
unfolding chunk_at
loud s chunk a entry has h = true≢false (rw (entry, has) at h)

none_moves : (s : State) → Stands s.durable s.volatile → all_unquiet s ≡ [] → (chunk : ℕ) → fin.get s.volatile.moving chunk ≡ None
none_moves s h none chunk = by_entry (fin.get s.volatile.moving chunk) refl
  where
    by_entry : (o : Option Asking) → fin.get s.volatile.moving chunk ≡ o → o ≡ None
    by_entry None is = refl
    by_entry (Some a) is =
        absurd (loud s chunk a (h.asked chunk a is).known is
        (none_passes (λ c. has_entry s c && not (is_quiet_at s c)) (put_handles (fin.keys s.durable.chunks ++ fin.keys s.volatile.moving)) chunk none
        (found_later (fin.keys s.durable.chunks) (fin.keys s.volatile.moving) chunk (found_key (fin.entries s.volatile.moving) chunk (ap is_some (sym (fin.get-entries s.volatile.moving chunk) ∙ is))))))

pub commit_good : (config : Config) (s : State) (req : ReqId) (moment : Moment) → Holds true s → Good true s (prepare_commit config s req moment)
commit_good config s req moment h =
    let entry = Prepare (s.durable.epoch + 1) moment.0 (chunk_count s) in
    let plan = accepted_plan s req (entry ∷ []) (changes.Prepare false ∷ []) (tell_all config (s.durable.epoch + 1) ends.Prepare) (s.durable.epoch + 1) in
    let e = without_prepared (with_epoch s.durable ends.Prepare Upgrade) in
    unless_good s req (turned s plan) (first_of (commit_tests s.durable.phase s.volatile.is_preparing (all_unquiet s) (is_last_epoch s.durable))) h
    (λ passed.
    let fit = commit_fits s moment.0 (chunk_count s) h.stands.kept (λ p. (h.stands.preparing p).0) passed in
    let more = if_unquiet (first_in (all_unquiet s)) ++ (is_last_epoch s.durable, refusals.Exhausted) ∷ [] in
    let one = first_test (not s.volatile.is_preparing && not (is_ordinary s.durable.phase)) refusals.AlreadyUpgrading ((not s.volatile.is_preparing, refusals.NotUpgrading) ∷ more) passed in
    let two = first_test (not s.volatile.is_preparing) refusals.NotUpgrading more one.1 in
    let quiet = (unquiet_none (all_unquiet s) (is_last_epoch s.durable) two.1).0 in
    let w = changed s.volatile (changes.Prepare false) in
    let over = prepare s.durable s.volatile h.stands false (λ p. absurd (false≢true p)) in
    let stands = recorded s.durable e w (prepare_onto s.durable e w (s.durable.epoch + 1) moment.0 (chunk_count s) over (none_moves s h.stands quiet) refl fit) over in
    let l = answered_last true s e req (answers.Epoch (s.durable.epoch + 1)) (changes.Prepare false ∷ []) refl refl stands in
    one_good true s entry plan e fit l.0 (λ c r. absurd (false≢true r)) (λ n. keeps_numbers entry refl s.durable e tt h.stands.kept n fit))

pub abort_good : (s : State) (req : ReqId) → Holds true s → Good true s (prepare_abort s req)
abort_good s req h =
    let plan = accepted_plan s req [] (changes.Prepare false ∷ []) [] s.durable.epoch in
    let l = answered_last true s s.durable req (answers.Epoch s.durable.epoch) (changes.Prepare false ∷ []) refl refl (prepare s.durable s.volatile h.stands false (λ p. absurd (false≢true p))) in
    test_good true s s.volatile.is_preparing (turned s plan) (refused s req refusals.NotUpgrading) (λ _. none_good true s plan l.0 (λ c r. l.1 ∙ h.rolling c r)) (λ _. refused_good true s req refusals.NotUpgrading h)

-- ---- an upgrade ends

pub finalize_good : (config : Config) (s : State) (req : ReqId) → Holds true s → Good true s (finalize config s req)
finalize_good config s req h =
    let entry = Finalize (s.durable.epoch + 1) in
    let plan = accepted_plan s req (entry ∷ []) [] (tell_all config (s.durable.epoch + 1) ends.Finalize) (s.durable.epoch + 1) in
    let e = without_prepared (with_epoch s.durable ends.Finalize Ordinary) in
    unless_good s req (turned s plan) (first_of (end_tests s.durable.phase (is_last_epoch s.durable))) h
    (λ passed.
    let fit = finalize_fits s.durable h.stands.kept passed in
    let l = answered_last true s e req (answers.Epoch (s.durable.epoch + 1)) [] refl refl (recorded s.durable e s.volatile (finalize_onto s.durable e s.volatile (s.durable.epoch + 1) h.stands fit) h.stands) in
    one_good true s entry plan e fit l.0 (λ c r. absurd (false≢true r)) (λ n. keeps_numbers entry refl s.durable e tt h.stands.kept n fit))

pub begin_good : (config : Config) (s : State) (req : ReqId) → Holds true s → Good true s (rollback_begin config s req)
begin_good config s req h =
    let entry = RollbackBegin (s.durable.epoch + 1) in
    let plan : Plan = record { records = entry ∷ []; changes = []; sent = []; said = None } in
    let e = with_epoch s.durable ends.Rollback Rolling in
    let reqs = requests_of s.volatile.pending in
    let begins = turned s plan in
    let ended : State → Turn = λ after. all_ended_by after reqs refusals.RollingBack in
    let last : State → Plan = λ after. accepted_plan after req [] [] (tell_all config (s.durable.epoch + 1) ends.Rollback) (s.durable.epoch + 1) in
    let accept : State → Turn = λ after. turned after (last after) in
    unless_good s req (and_then (and_then begins ended) accept) (first_of (end_tests s.durable.phase (is_last_epoch s.durable))) h
    (λ passed.
    let fit = begin_fits s.durable h.stands.kept passed in
    let first = one_good false s entry plan e fit (recorded s.durable e s.volatile (begin_onto s.durable e s.volatile (s.durable.epoch + 1) h.stands fit) h.stands) (λ c r. absurd (false≢true c)) (λ n. keeps_numbers entry refl s.durable e tt h.stands.kept n fit) in
    let second = all_given_up false reqs refusals.RollingBack begins.after first.holds in
    let two = then_good false s begins ended first second in
    let next = (and_then begins ended).after in
    let l = answered_last false next next.durable req (answers.Epoch (s.durable.epoch + 1)) [] refl refl two.holds.stands in
    let all = then_good false s (and_then begins ended) accept two (none_good false next (last next) l.0 (λ c r. absurd (false≢true c))) in
    record { numbers = all.numbers; fits = all.fits; holds = record { stands = all.holds.stands; rolling = λ c r. l.1 ∙ ended_pending false reqs refusals.RollingBack begins.after first.holds ∙ none_waits s.volatile.pending } })

-- ---- a rollback is committed

commit_onto : (d e : Durable) (v : Volatile) (epoch : ℕ) (answers : List Answered) (names : NamesView) → Stands d v → IsKept e → e ≡ rolled_back d answers names → ((chunk : ℕ) → fin.get v.moving chunk ≡ None) → v.unplaced ≡ [] → ((chunk : ℕ) → is_some (fin.get e.chunks chunk) ≡ true → is_listed e chunk ≡ true) → Onto d e v
commit_onto d e v epoch answers names h kept is still none all_listed =
    let n = rolled_back d answers names in
    as_next (sym is) (λ x. Onto d x v) (record {
      kept = subst IsKept is kept;
      counters = record { handle = h.counters.handle; version = h.counters.version; hidden = h.counters.hidden };
      handles = λ q g. g;
      versions = λ q g. g;
      epoch = omega arith;
      chunks = λ q some. absurd (false≢true (sym (ap is_some (still q)) ∙ some));
      settled = λ q some. inr (ap (λ b. b || is_member v.unplaced q) (subst (λ x. is_some (fin.get x.chunks q) ≡ true → is_listed x q ≡ true) is (all_listed q) some));
      unlisted = λ q here out. absurd (false≢true (ap (λ u. is_member u q) (sym none) ∙ here));
      answered = λ req was. was;
      ordinary = λ p o. refl;
    })

-- each chunk that is restored is listed
restored_listed : (d : Durable) (told : ℕ → List ℕ) (refs : List (ℕ × ℕ)) (q : ℕ) → is_some (fin.find nat_cmp q (filter_map (restored_chunk d) (answers_for (prepared_view d) told refs))) ≡ true → is_some (fin.find nat_cmp q refs) ≡ true
restored_listed d told [] q some = absurd (false≢true some)
restored_listed d told (r ∷ refs) q some = by_view (restored_listed d told refs q) (prepared_view d r.0) some
  where
    by_key : (b : Bool) → (is_some (fin.find nat_cmp q (filter_map (restored_chunk d) (answers_for (prepared_view d) told refs))) ≡ true → is_some (fin.find nat_cmp q refs) ≡ true) → (x : Settled)
        → is_some (cond b (Some x) (fin.find nat_cmp q (filter_map (restored_chunk d) (answers_for (prepared_view d) told refs)))) ≡ true → is_some (cond b (Some r.1) (fin.find nat_cmp q refs)) ≡ true
    by_key true rest x k = refl
    by_key false rest x k = rest k

    skipped : (b : Bool) → is_some (fin.find nat_cmp q refs) ≡ true → is_some (cond b (Some r.1) (fin.find nat_cmp q refs)) ≡ true
    skipped true k = refl
    skipped false k = k

    by_view : (is_some (fin.find nat_cmp q (filter_map (restored_chunk d) (answers_for (prepared_view d) told refs))) ≡ true → is_some (fin.find nat_cmp q refs) ≡ true) → (o : Option Prepared)
        → is_some (fin.find nat_cmp q (cons_option (option_map (λ (p : Prepared). (r.0, restored_view d.epoch p (restored_on (prepared_view d r.0) (told r.0)))) o) (filter_map (restored_chunk d) (answers_for (prepared_view d) told refs)))) ≡ true
        → is_some (cond (eq_by_cmp nat_cmp q r.0) (Some r.1) (fin.find nat_cmp q refs)) ≡ true
    by_view rest None k = skipped (eq_by_cmp nat_cmp q r.0) (rest k)
    by_view rest (Some p) k = by_key (eq_by_cmp nat_cmp q r.0) rest (restored_view d.epoch p (restored_on (prepared_view d r.0) (told r.0))) k

module _ (s : State) (req : ReqId) (h : Holds true s) (begun : is_rolling s.durable.phase ≡ true) where
  commit_if_good : (names : NamesView) → all_undone s.durable.inverses s.durable.names ≡ Some names → (chunk : Option ℕ) → unrestored (prepared_view s.durable) (told_of s) (fin.entries names.refs) ≡ chunk → Good true s (commit_if s req names chunk)
  commit_if_good names back (Some chunk) is = refused_good true s req (refusals.Unrestored chunk) h
  commit_if_good names back None is =
      let given = answers_for (prepared_view s.durable) (told_of s) (fin.entries names.refs) in
      let e = rolled_back s.durable given names in
      let entry = RollbackCommit s.durable.epoch given in
      let plan = accepted_plan s req (entry ∷ []) (changes.RolledBack ∷ []) [] s.durable.epoch in
      let fit = rolled_fits ⊥ s req h.stands.kept begun names back is in
      let w = changed s.volatile changes.RolledBack in
      let wide = record w { taken_out = s.volatile.unplaced ++ s.volatile.taken_out } in
      let over = rolled s.durable s.volatile h.stands in
      let listed : (q : ℕ) → is_some (fin.get e.chunks q) ≡ true → is_listed e q ≡ true = (λ q some. ap is_some (fin.get-entries names.refs q) ∙ restored_listed s.durable (told_of s) (fin.entries names.refs) q
      (sym (ap is_some (fin.get-from_entries nat_cmp_total (filter_map (restored_chunk s.durable) given) q)) ∙ some)) in
      let kept = commit_kept_by s.durable e s.durable.epoch given (answers_told (prepared_view s.durable) (told_of s) (fin.entries names.refs)) h.stands.kept fit in
      let on = recorded s.durable e wide (commit_onto s.durable e wide s.durable.epoch given names over kept refl (λ chunk. fin.get-empty nat_cmp chunk) refl listed) over in
      let stands = fewer_out e wide on s.volatile.taken_out (λ q here. list_any-append (λ m. m == q) s.volatile.unplaced s.volatile.taken_out ∙ or_any (is_member s.volatile.unplaced q) (is_member s.volatile.taken_out q) here)
      (λ q some. ap (λ b. b || (is_member w.unplaced q || is_member s.volatile.taken_out q)) (listed q some)) in
      let l = answered_last true s e req (answers.Epoch s.durable.epoch) (changes.RolledBack ∷ []) refl refl stands in
      room_good true s req (turned s plan) h (one_good true s entry plan e fit l.0 (λ c r. absurd (false≢true r)) (λ n. keeps_numbers entry refl s.durable e tt h.stands.kept n fit))

  commit_on_good : (names : Option NamesView) → all_undone s.durable.inverses s.durable.names ≡ names → Good true s (commit_on s req names)
  commit_on_good None back = refused_good true s req refusals.BadLine h
  commit_on_good (Some names) back = commit_if_good names back (unrestored (prepared_view s.durable) (told_of s) (fin.entries names.refs)) refl

pub rolled_good : (s : State) (req : ReqId) → Holds true s → Good true s (rollback_commit s req)
rolled_good s req h =
    test_good true s (is_rolling s.durable.phase) (commit_on s req (all_undone s.durable.inverses s.durable.names)) (refused s req refusals.NotUpgrading)
    (λ begun. commit_on_good s req h begun (all_undone s.durable.inverses s.durable.names) refl) (λ _. refused_good true s req refusals.NotUpgrading h)

-- ---- a scan

-- an edit of the master's own, that says nothing and puts no chunk into a file
record IsOwn (v : Volatile) (edit : PlainEdit) : Type 0 where
  told : IsTold edit
  silent : (d : Durable) → AnswersTold d edit
  may : MayStand edit v

own_stand : (edits : List PlainEdit) (d e : Durable) (v : Volatile) → Stands d v → AllByRecursion (IsOwn v) edits → replayed d (own_edits edits) ≡ Some e → Stands e v
own_stand [] d e v h all fit = subst (λ x. Stands x v) (some_is fit) h
  where
    some_is : {a c : Durable} → ◌≡◌ {A = Option Durable} (Some a) (Some c) → a ≡ c
    some_is k = cc
own_stand (edit ∷ edits) d e v h all fit = by_first (applied d (Edited own_request edit)) refl (λ n k r. own_stand edits n e v k all.1 r) fit
  where
    by_first : (o : Option Durable) → applied d (Edited own_request edit) ≡ o → ((n : Durable) → Stands n v → replayed n (own_edits edits) ≡ Some e → Stands e v) → option_and_then (λ n. replayed n (own_edits edits)) o ≡ Some e → Stands e v
    by_first None is rest r = absurd (false≢true (ap is_some r))
    by_first (Some n) is rest r = rest n (recorded d n v (edit_onto d n v own_request edit h all.0.told (all.0.silent d) all.0.may is) h) r

own_numbers : (edits : List PlainEdit) (d e : Durable) (v : Volatile) → Stands d v → AllByRecursion (IsOwn v) edits → replayed d (own_edits edits) ≡ Some e → HasNumbers d → HasNumbers e
own_numbers [] d e v h all fit numbers = subst HasNumbers (some_is fit) numbers
  where
    some_is : {a c : Durable} → ◌≡◌ {A = Option Durable} (Some a) (Some c) → a ≡ c
    some_is k = cc
own_numbers (edit ∷ edits) d e v h all fit numbers = by_first (applied d (Edited own_request edit)) refl (λ n k r m. own_numbers edits n e v k all.1 r m) fit
  where
    by_first : (o : Option Durable) → applied d (Edited own_request edit) ≡ o → ((n : Durable) → Stands n v → replayed n (own_edits edits) ≡ Some e → HasNumbers n → HasNumbers e) → option_and_then (λ n. replayed n (own_edits edits)) o ≡ Some e → HasNumbers e
    by_first None is rest r = absurd (false≢true (ap is_some r))
    by_first (Some n) is rest r = rest n (recorded d n v (edit_onto d n v own_request edit h all.0.told (all.0.silent d) all.0.may is) h) r (keeps_numbers (Edited own_request edit) refl d n all.0.told h.kept numbers is)

own_phase : (edits : List PlainEdit) (d e : Durable) → replayed d (own_edits edits) ≡ Some e → e.phase ≡ d.phase
own_phase [] d e fit = ap (λ (x : Durable). x.phase) (sym (some_is fit))
  where
    some_is : {a c : Durable} → ◌≡◌ {A = Option Durable} (Some a) (Some c) → a ≡ c
    some_is k = cc
own_phase (edit ∷ edits) d e fit = by_first (applied d (Edited own_request edit)) refl (λ n r. own_phase edits n e r) fit
  where
    by_first : (o : Option Durable) → applied d (Edited own_request edit) ≡ o → ((n : Durable) → replayed n (own_edits edits) ≡ Some e → e.phase ≡ n.phase) → option_and_then (λ n. replayed n (own_edits edits)) o ≡ Some e → e.phase ≡ d.phase
    by_first None is rest r = absurd (false≢true (ap is_some r))
    by_first (Some n) is rest r = rest n r ∙ edited_phase d n own_request edit is

pub kept_out : (chunks : List ℕ) (m : fin.FinMap nat_cmp Asking) (q : ℕ) → is_some (fin.get (fold fin.remove m chunks) q) ≡ true → (among q chunks ≡ false) × (is_some (fin.get m q) ≡ true)
kept_out [] m q some = (refl, some)
kept_out (c ∷ chunks) m q some = let rest = kept_out chunks (fin.remove m c) q some in by_key (eq_by_cmp nat_cmp q c) (sym (ap is_some (fin.get-remove nat_cmp_total m c q)) ∙ rest.1) rest.0
  where
    by_key : (b : Bool) → is_some (cond b None (fin.get m q)) ≡ true → among q chunks ≡ false → ((b || among q chunks) ≡ false) × (is_some (fin.get m q) ≡ true)
    by_key true k out = absurd (false≢true k)
    by_key false k out = (out, k)

scan_own : (removed : List Path) (forgotten : List ℕ) (v : Volatile) → ((chunk : ℕ) → is_some (fin.get v.moving chunk) ≡ true → among chunk forgotten ≡ false) → AllByRecursion (IsOwn v) (scan_edits removed forgotten)
scan_own [] [] v out = tt
scan_own [] (chunk ∷ chunks) v out = (record { told = tt; silent = λ d well a is. absurd (false≢true (ap is_some is)); may = record { asked = out; placed = λ q here e. false≢true (ap is_some e) } }, tt)
scan_own (path ∷ removed) forgotten v out = (record { told = tt; silent = λ d well a is. absurd (false≢true (ap is_some is)); may = record { asked = λ q some. refl; placed = λ q here e. false≢true (ap is_some e) } }, scan_own removed forgotten v out)

pub scans_good : (s : State) (req : ReqId) (moment : Moment) → Holds true s → is_rolling s.durable.phase ≡ false → Good true s (scans s req moment)
scans_good s req moment h rolling =
    let rows = fin.entries s.durable.names.tree in
    let removed = removed_paths moment.0 rows in
    let forgotten = forgotten_chunks moment.0 rows (fin.entries s.durable.names.refs) in
    let fit = scan_fits s.durable moment.0 h.stands.kept rolling in
    let same = folded (own_edits (scan_edits removed forgotten)) s fit.next fit.is in
    let plan = scan_plan removed forgotten in
    let w = changed s.volatile (changes.Forget forgotten) in
    let stands = own_stand (scan_edits removed forgotten) s.durable fit.next w (forget s.durable s.volatile h.stands forgotten) (scan_own removed forgotten w (λ q some. (kept_out forgotten s.volatile.moving q some).0)) fit.is in
    let first : Good true s (turned s plan) = record { numbers = λ n. subst HasNumbers (sym same) (own_numbers (scan_edits removed forgotten) s.durable fit.next w (forget s.durable s.volatile h.stands forgotten) (scan_own removed forgotten w (λ q some. (kept_out forgotten s.volatile.moving q some).0)) fit.is n); fits = fit.is ∙ ap Some (sym same); holds = record { stands = subst (λ d. Stands d w) (sym same) stands; rolling = λ c r. absurd (true≢false (sym r ∙ ap (λ (d : Durable). is_rolling d.phase) same ∙ ap is_rolling (own_phase (scan_edits removed forgotten) s.durable fit.next fit.is) ∙ rolling)) } } in
    let ended : State → Turn = λ next. all_ended_by next (waiting_for s forgotten) refusals.NoReplica in
    let answer : State → Turn = λ next. answered_with next req (answers.Scanned (length removed) (length forgotten)) in
    let second = all_given_up true (waiting_for s forgotten) refusals.NoReplica (turned s plan).after first.holds in
    let two = then_good true s (turned s plan) ended first second in
    room_good true s req (and_then (and_then (turned s plan) ended) answer) h (then_good true s (and_then (turned s plan) ended) answer two (answered_good true (and_then (turned s plan) ended).after req (answers.Scanned (length removed) (length forgotten)) two.holds))
