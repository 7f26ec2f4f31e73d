-- What the calls are answered by which an epoch ends, and what a scan removes.
use Rattle.std.proofs.Common.{◌≡◌, ◌∙◌, ◌⊎◌, inl, inr, ◌&&◌, ◌||◌, ◌+◌, ◌++◌, ℕ, Bool, true, false, cond, List, [], ◌∷◌, filter, length, map, refl, ap, sym, subst}
use Rattle.std.specs.Prelude.{Option, Some, None, Result, Ok, Err, if◌then◌else◌}
use Rattle.std.specs.FinMap as fin
use Rattle.std.specs.List.{AllByRecursion}
use Rattle.std.proofs.lemmas.Bool.{true≢false}
use Rattle.gs_base.specs.Members.{count_from}
use Rattle.gs_base.specs.declared.config.Config.{Config}
use Rattle.gs_base.specs.declared.epoch.EpochEnd.{EpochEnd}
use Rattle.gs_base.specs.declared.epoch.EpochEnd.TheVariants as ends
use Rattle.gs_base.specs.declared.numbers.Moment.{Moment}
use Rattle.gs_base.specs.declared.numbers.ReqId.{ReqId}
use Rattle.gs_base.specs.declared.refusal.Refusal.{Refusal}
use Rattle.gs_base.specs.declared.refusal.Refusal.TheVariants as refusals
use Rattle.gs_edit.specs.View.{NamesView}
use Rattle.gs_lock.specs.Operations.{same_op}
use Rattle.gs_msg.specs.declared.answer.Answer.{Answer}
use Rattle.gs_msg.specs.declared.answer.Answer.TheVariants as answers
use Rattle.gs_msg.specs.declared.body.Body.TheVariants as bodies
use Rattle.gs_msg.specs.declared.call.Call.{Call}
use Rattle.gs_msg.specs.declared.call.Call.TheVariants as calls
use Rattle.gs_msg.specs.declared.message.Message.{Message}
use Rattle.gs_msg.specs.declared.node.NodeId.TheVariants as nodes
use Rattle.gs_path.specs.Path.{Path}
use Rattle.gs_laws_master.proofs.lemmas.standing.Standing.{same_self}
use Rattle.gs_master_record.specs.Plain.{Edited, Finalize, PlainEntry, Prepare, Remove, RollbackBegin, RollbackCommit, Said}
use Rattle.gs_laws_moves.specs.answers.AtOnce.{OneSays}
use Rattle.gs_master_spec.specs.Calls.{answered_with, refused_before}
use Rattle.gs_master_spec.specs.Durable.{is_rolling, prepared_view}
use Rattle.gs_master_spec.specs.Handling.{Again, New, Numbered, Older, call_turn, called, called_unless, numbered, replied_again, taken_as, waits_still}
use Rattle.gs_master_spec.specs.Settling.{own_request, requests_of}
use Rattle.gs_master_spec.specs.State.{State, Turn, all_ended_by, and_then, ended_by, first_of, fits, is_failed, is_unopened, keeps_refusal, last_reply, post, refused, reply_to, said_records, to_each, turned, unmoved}
use Rattle.gs_master_spec.specs.Undoing.{all_undone}
use Rattle.gs_master_spec.specs.Upgrades.{accepted_plan, all_unquiet, answers_for, chunk_count, commit_if, commit_on, commit_tests, end_tests, is_last_epoch, tell_all, told_of, unless, unrestored}
use Rattle.gs_master_spec.specs.Volatile.{is_pending}
use Rattle.gs_master_spec.specs.Working.{scan_edits, scan_plan, scanned, waiting_for}
use Rattle.gs_master_spec.specs.declared.change.Change.TheVariants as changes
use Rattle.gs_master_spec.specs.declared.pending.Pending.{Pending}
use Rattle.gs_laws_lift.specs.copies.Held.{IsIn}
use Rattle.gs_laws_lift.specs.calls.Ended.{EndsAreAnswered, IsAnsweredOnly, SaysOnly, ScansAreExact, ScansSo, epoch_told, forgotten_at, is_of_scan, removed_at}

-- ---- choices

pick : (S : Turn → Type 0) (b : Bool) (t u : Turn) → (b ≡ true → S t) → (b ≡ false → S u) → S (if b then t else u)
pick S true t u x y = x refl
pick S false t u x y = y refl

some_is : {a b : ℕ} → ◌≡◌ {A = Option ℕ} (Some a) (Some b) → a ≡ b
some_is h = cc

none_some : {a : ℕ} → ◌≡◌ {A = Option ℕ} None (Some a) → ⊥
none_some h = absurd (cc)

-- ---- messages

one_says : (req : ReqId) (result : Result Answer Refusal) (messages : List Message) → OneSays req result (messages ++ reply_to req result ∷ [])
one_says req result [] = inl refl
one_says req result (m ∷ messages) = inr (one_says req result messages)

says_behind : (req : ReqId) (result : Result Answer Refusal) (first messages : List Message) → OneSays req result messages → OneSays req result (first ++ messages)
says_behind req result [] messages says = says
says_behind req result (m ∷ first) messages says = inr (says_behind req result first messages says)

module _ (req : ReqId) (result : Result Answer Refusal) where
  abbrev Only : List Message → Type 0
  Only messages = AllByRecursion (λ (m : Message). SaysOnly req result m.body) messages

  only_both : (xs ys : List Message) → Only xs → Only ys → Only (xs ++ ys)
  only_both [] ys a b = b
  only_both (x ∷ xs) ys a b = (a.0, only_both xs ys a.1 b)

  told_only : (config : Config) (epoch : ℕ) (end : EpochEnd) → Only (tell_all config epoch end)
  told_only config epoch end = each (count_from 0 config.servers)
    where
      each : (servers : List ℕ) → Only (to_each servers (λ server. post (nodes.Server server) (bodies.Epoch epoch end)))
      each [] = tt
      each (server ∷ servers) = (tt, each servers)

  -- it is told beside nothing but what servers are told
  accepted_only : (config : Config) (epoch : ℕ) (end : EpochEnd) → IsAnsweredOnly req result (tell_all config epoch end ++ reply_to req result ∷ [])
  accepted_only config epoch end = record { says = one_says req result (tell_all config epoch end); only = only_both (tell_all config epoch end) (reply_to req result ∷ []) (told_only config epoch end) ((λ _. refl), tt) }

  -- who waits is another
  others_only : (reqs : List ReqId) (refusal : Refusal) (s : State) → AllByRecursion (λ (r : ReqId). r ≡ req → ⊥) reqs → Only (all_ended_by s reqs refusal).sent
  others_only [] refusal s others = tt
  others_only (r ∷ reqs) refusal s others = ((λ same. absurd (others.0 same)), others_only reqs refusal (ended_by s r refusal).after others.1)

not_waiting : (req : ReqId) (ps : List Pending) → is_pending ps req ≡ false → AllByRecursion (λ (r : ReqId). r ≡ req → ⊥) (requests_of ps)
not_waiting req [] none = tt
not_waiting req (p ∷ ps) none = by_head (same_op req p.req) refl none (not_waiting req ps)
  where
    by_head : (b : Bool) → same_op req p.req ≡ b → (b || is_pending ps req) ≡ false → (is_pending ps req ≡ false → AllByRecursion (λ (r : ReqId). r ≡ req → ⊥) (requests_of ps)) → AllByRecursion (λ (r : ReqId). r ≡ req → ⊥) (p.req ∷ requests_of ps)
    by_head true is h rest = absurd (true≢false h)
    by_head false is h rest = ((λ same. true≢false (sym (same_self req) ∙ ap (same_op req) (sym same) ∙ is)), rest h)

-- ---- a turn, if it leaves the record, answers its epoch

abbrev Answers : ReqId → Call → Turn → Type 0
Answers req call t = (entry : PlainEntry) (epoch : ℕ) → IsIn entry t.records → epoch_told call entry ≡ Some epoch → IsAnsweredOnly req (Ok (answers.Epoch epoch)) t.sent

none_told : (call : Call) (to : ReqId) (refusal : Refusal) → epoch_told call (Said to refusal) ≡ None
none_told calls.PrepareCommit to refusal = refl
none_told calls.Finalize to refusal = refl
none_told calls.RollbackBegin to refusal = refl
none_told calls.RollbackCommit to refusal = refl
none_told call to refusal = refl

-- no record of some is such
abbrev AreNone : Call → List PlainEntry → Type 0
AreNone call records = AllByRecursion (λ entry. epoch_told call entry ≡ None) records

none_among : (call : Call) (records : List PlainEntry) (entry : PlainEntry) (epoch : ℕ) → AreNone call records → IsIn entry records → epoch_told call entry ≡ Some epoch → ⊥
none_among call [] entry epoch all here is = here
none_among call (x ∷ xs) entry epoch all (inl same) is = none_some (sym all.0 ∙ ap (epoch_told call) same ∙ is)
none_among call (x ∷ xs) entry epoch all (inr here) is = none_among call xs entry epoch all.1 here is

said_none : (call : Call) (s : State) (req : ReqId) (refusal : Refusal) → AreNone call (said_records (keeps_refusal s req refusal) s.log req refusal)
said_none call s req refusal = by_test (keeps_refusal s req refusal && fits s.log (Said req refusal ∷ []))
  where
    by_test : (b : Bool) → AreNone call (if b then Said req refusal ∷ [] else [])
    by_test true = (none_told call req refusal, tt)
    by_test false = tt

ended_none : (call : Call) (reqs : List ReqId) (refusal : Refusal) (s : State) → AreNone call (all_ended_by s reqs refusal).records
ended_none call [] refusal s = tt
ended_none call (r ∷ reqs) refusal s = both (said_records (keeps_refusal s r refusal) s.log r refusal) (all_ended_by (ended_by s r refusal).after reqs refusal).records (said_none call s r refusal) (ended_none call reqs refusal (ended_by s r refusal).after)
  where
    both : (xs ys : List PlainEntry) → AreNone call xs → AreNone call ys → AreNone call (xs ++ ys)
    both [] ys a b = b
    both (x ∷ xs) ys a b = (a.0, both xs ys a.1 b)

none_answers : (req : ReqId) (call : Call) (t : Turn) → AreNone call t.records → Answers req call t
none_answers req call t none entry epoch here is = absurd (none_among call t.records entry epoch none here is)

refused_answers : (s : State) (to req : ReqId) (call : Call) (refusal : Refusal) → Answers to call (refused s req refusal)
refused_answers s to req call refusal = none_answers to call (refused s req refusal) (said_none call s req refusal)

-- its first record is such, and it answers the epoch
first_answers : (req : ReqId) (call : Call) (t : Turn) (first : PlainEntry) (rest : List PlainEntry) (now : ℕ) → t.records ≡ first ∷ rest → epoch_told call first ≡ Some now → AreNone call rest → IsAnsweredOnly req (Ok (answers.Epoch now)) t.sent → Answers req call t
first_answers req call t first rest now records told none answered entry epoch here is = by_place (subst (IsIn entry) records here)
  where
    by_place : (first ≡ entry) ⊎ IsIn entry rest → IsAnsweredOnly req (Ok (answers.Epoch epoch)) t.sent
    by_place (inl same) = subst (λ n. IsAnsweredOnly req (Ok (answers.Epoch n)) t.sent) (some_is (sym told ∙ ap (epoch_told call) same ∙ is)) answered
    by_place (inr there) = absurd (none_among call rest entry epoch none there is)

module _ (config : Config) (s : State) (req : ReqId) where
  unless_answers : (call : Call) (t : Turn) (refusal : Option Refusal) → Answers req call t → Answers req call (unless refusal s req t)
  unless_answers call t None a = pick (Answers req call) (fits s.log t.records) t (refused s req refusals.Full) (λ _. a) (λ _. refused_answers s req req call refusals.Full)
  unless_answers call t (Some refusal) a = refused_answers s req req call refusal

  prepare_answers : (moment : Moment) → Answers req calls.PrepareCommit (called config s req moment calls.PrepareCommit)
  prepare_answers moment =
      let t = turned s (accepted_plan s req (Prepare (s.durable.epoch + 1) moment.0 (chunk_count s) ∷ []) (changes.Prepare false ∷ []) (tell_all config (s.durable.epoch + 1) ends.Prepare) (s.durable.epoch + 1)) in
      unless_answers calls.PrepareCommit t (first_of (commit_tests s.durable.phase s.volatile.is_preparing (all_unquiet s) (is_last_epoch s.durable)))
      (first_answers req calls.PrepareCommit t (Prepare (s.durable.epoch + 1) moment.0 (chunk_count s)) [] (s.durable.epoch + 1) refl refl tt (accepted_only req (Ok (answers.Epoch (s.durable.epoch + 1))) config (s.durable.epoch + 1) ends.Prepare))

  finalize_answers : (moment : Moment) → Answers req calls.Finalize (called config s req moment calls.Finalize)
  finalize_answers moment =
      let t = turned s (accepted_plan s req (Finalize (s.durable.epoch + 1) ∷ []) [] (tell_all config (s.durable.epoch + 1) ends.Finalize) (s.durable.epoch + 1)) in
      unless_answers calls.Finalize t (first_of (end_tests s.durable.phase (is_last_epoch s.durable)))
      (first_answers req calls.Finalize t (Finalize (s.durable.epoch + 1)) [] (s.durable.epoch + 1) refl refl tt (accepted_only req (Ok (answers.Epoch (s.durable.epoch + 1))) config (s.durable.epoch + 1) ends.Finalize))

  append_none : (xs : List PlainEntry) → xs ++ [] ≡ xs
  append_none [] = refl
  append_none (x ∷ xs) = ap (λ ys. x ∷ ys) (append_none xs)

  rollback_answers : (moment : Moment) → is_pending s.volatile.pending req ≡ false → Answers req calls.RollbackBegin (called config s req moment calls.RollbackBegin)
  rollback_answers moment new =
      let first = turned s (record { records = RollbackBegin (s.durable.epoch + 1) ∷ []; changes = []; sent = []; said = None }) in
      let reqs = requests_of s.volatile.pending in
      let ended = all_ended_by first.after reqs refusals.RollingBack in
      let accept = turned ended.after (accepted_plan ended.after req [] [] (tell_all config (s.durable.epoch + 1) ends.Rollback) (s.durable.epoch + 1)) in
      let t = and_then (and_then first (λ next. all_ended_by next reqs refusals.RollingBack)) (λ next. turned next (accepted_plan next req [] [] (tell_all config (s.durable.epoch + 1) ends.Rollback) (s.durable.epoch + 1))) in
      let result : Result Answer Refusal = Ok (answers.Epoch (s.durable.epoch + 1)) in
      let accepted = accepted_only req result config (s.durable.epoch + 1) ends.Rollback in
      unless_answers calls.RollbackBegin t (first_of (end_tests s.durable.phase (is_last_epoch s.durable)))
      (first_answers req calls.RollbackBegin t (RollbackBegin (s.durable.epoch + 1)) ended.records (s.durable.epoch + 1) (ap (λ xs. RollbackBegin (s.durable.epoch + 1) ∷ xs) (append_none ended.records)) refl (ended_none calls.RollbackBegin reqs refusals.RollingBack first.after)
      (record { says = says_behind req result ended.sent accept.sent accepted.says; only = only_both req result ended.sent accept.sent (others_only req result reqs refusals.RollingBack first.after (not_waiting req s.volatile.pending new)) accepted.only }))

  commit_answers : (moment : Moment) → Answers req calls.RollbackCommit (called config s req moment calls.RollbackCommit)
  commit_answers moment =
      pick (Answers req calls.RollbackCommit) (is_rolling s.durable.phase) (commit_on s req (all_undone s.durable.inverses s.durable.names)) (refused s req refusals.NotUpgrading) (λ _. on_names (all_undone s.durable.inverses s.durable.names)) (λ _. refused_answers s req req calls.RollbackCommit refusals.NotUpgrading)
    where
      if_restored : (names : NamesView) (lacking : Option ℕ) → Answers req calls.RollbackCommit (commit_if s req names lacking)
      if_restored names (Some chunk) = refused_answers s req req calls.RollbackCommit (refusals.Unrestored chunk)
      if_restored names None =
          let told = answers_for (prepared_view s.durable) (told_of s) (fin.entries names.refs) in
          let t = turned s (accepted_plan s req (RollbackCommit s.durable.epoch told ∷ []) (changes.RolledBack ∷ []) [] s.durable.epoch) in
          pick (Answers req calls.RollbackCommit) (fits s.log t.records) t (refused s req refusals.Full)
          (λ _. first_answers req calls.RollbackCommit t (RollbackCommit s.durable.epoch told) [] s.durable.epoch refl refl tt (record { says = inl refl; only = ((λ _. refl), tt) })) (λ _. refused_answers s req req calls.RollbackCommit refusals.Full)

      on_names : (names : Option NamesView) → Answers req calls.RollbackCommit (commit_on s req names)
      on_names None = refused_answers s req req calls.RollbackCommit refusals.BadLine
      on_names (Some names) = if_restored names (unrestored (prepared_view s.durable) (told_of s) (fin.entries names.refs))

  -- another call has no such record
  other_answers : (call : Call) (t : Turn) → ((entry : PlainEntry) → epoch_told call entry ≡ None) → Answers req call t
  other_answers call t none entry epoch here is = absurd (none_some (sym (none entry) ∙ is))

  called_answers : (moment : Moment) (call : Call) → is_pending s.volatile.pending req ≡ false → Answers req call (called config s req moment call)
  called_answers moment calls.PrepareCommit new = prepare_answers moment
  called_answers moment calls.Finalize new = finalize_answers moment
  called_answers moment calls.RollbackBegin new = rollback_answers moment new
  called_answers moment calls.RollbackCommit new = commit_answers moment
  called_answers moment call new = other_answers call (called config s req moment call) (λ entry. refl)

  unless_refused : (moment : Moment) (call : Call) (refusal : Option Refusal) → is_pending s.volatile.pending req ≡ false → Answers req call (called_unless config s req moment call refusal)
  unless_refused moment call None new = called_answers moment call new
  unless_refused moment call (Some refusal) new = refused_answers s req req call refusal

  taken_answers : (moment : Moment) (call : Call) (how : Numbered) → is_pending s.volatile.pending req ≡ false → Answers req call (taken_as config s req moment call how)
  taken_answers moment call New new = unless_refused moment call (refused_before s req call) new
  taken_answers moment call (Again result) new = none_answers req call (replied_again s req result) tt
  taken_answers moment call Older new = none_answers req call (replied_again s req (Err refusals.Old)) tt

  turn_answers : (moment : Moment) (call : Call) → is_pending s.volatile.pending req ≡ false → Answers req call (call_turn config s req moment call)
  turn_answers moment call new =
      let taken = taken_as config s req moment call (numbered (last_reply s req.client) req.number) in
      pick (Answers req call) (is_unopened s.fault) (replied_again s req (Err refusals.Device)) (if is_pending s.volatile.pending req then waits_still s req else taken) (λ _. none_answers req call (replied_again s req (Err refusals.Device)) tt)
      (λ _. pick (Answers req call) (is_pending s.volatile.pending req) (waits_still s req) taken (λ waits. absurd (true≢false (sym waits ∙ new))) (λ _. taken_answers moment call (numbered (last_reply s req.client) req.number) new))

pub ends_are_answered : EndsAreAnswered
ends_are_answered config s req moment call entry epoch new here is = turn_answers config s req moment call new entry epoch here is

-- ---- a scan

filter_both : (xs ys : List PlainEntry) → filter is_of_scan (xs ++ ys) ≡ filter is_of_scan xs ++ filter is_of_scan ys
filter_both [] ys = refl
filter_both (x ∷ xs) ys = by_test (is_of_scan x) (filter_both xs ys)
  where
    by_test : (b : Bool) → filter is_of_scan (xs ++ ys) ≡ filter is_of_scan xs ++ filter is_of_scan ys → cond b (x ∷ filter is_of_scan (xs ++ ys)) (filter is_of_scan (xs ++ ys)) ≡ cond b (x ∷ filter is_of_scan xs) (filter is_of_scan xs) ++ filter is_of_scan ys
    by_test true rest = ap (λ zs. x ∷ zs) rest
    by_test false rest = rest

said_scans : (s : State) (req : ReqId) (refusal : Refusal) → filter is_of_scan (said_records (keeps_refusal s req refusal) s.log req refusal) ≡ []
said_scans s req refusal = by_test (keeps_refusal s req refusal && fits s.log (Said req refusal ∷ []))
  where
    by_test : (b : Bool) → filter is_of_scan (if b then Said req refusal ∷ [] else []) ≡ []
    by_test true = refl
    by_test false = refl

ended_scans : (reqs : List ReqId) (refusal : Refusal) (s : State) → filter is_of_scan (all_ended_by s reqs refusal).records ≡ []
ended_scans [] refusal s = refl
ended_scans (r ∷ reqs) refusal s =
    filter_both (said_records (keeps_refusal s r refusal) s.log r refusal) (all_ended_by (ended_by s r refusal).after reqs refusal).records
    ∙ ap (λ xs. xs ++ filter is_of_scan (all_ended_by (ended_by s r refusal).after reqs refusal).records) (said_scans s r refusal) ∙ ended_scans reqs refusal (ended_by s r refusal).after

all_of_scan : (removed : List Path) (forgotten : List ℕ) → filter is_of_scan (map (Edited own_request) (scan_edits removed forgotten)) ≡ map (Edited own_request) (scan_edits removed forgotten)
all_of_scan [] [] = refl
all_of_scan [] (c ∷ forgotten) = refl
all_of_scan (p ∷ removed) forgotten = ap (λ xs. Edited own_request (Remove p) ∷ xs) (all_of_scan removed forgotten)

append_nothing : (xs : List PlainEntry) → xs ++ [] ≡ xs
append_nothing [] = refl
append_nothing (x ∷ xs) = ap (λ ys. x ∷ ys) (append_nothing xs)

module _ (config : Config) (s : State) (req : ReqId) (moment : Moment) where
  abbrev Exact : Turn → Type 0
  Exact t = (filter is_of_scan t.records ≡ []) ⊎ ScansSo s req moment t

  refused_exact : (refusal : Refusal) → Exact (refused s req refusal)
  refused_exact refusal = inl (said_scans s req refusal)

  scanned_exact : Exact (scanned s req (removed_at s moment) (forgotten_at s moment))
  scanned_exact =
      let removed = removed_at s moment in
      let forgotten = forgotten_at s moment in
      let scan = turned s (scan_plan removed forgotten) in
      let reqs = waiting_for s forgotten in
      let ended = all_ended_by scan.after reqs refusals.NoReplica in
      let t = and_then (and_then scan (λ next. all_ended_by next reqs refusals.NoReplica)) (λ next. answered_with next req (answers.Scanned (length removed) (length forgotten))) in
      let edits = map (Edited own_request) (scan_edits removed forgotten) in
      pick Exact (fits s.log t.records) t (refused s req refusals.Full)
      (λ _. inr (record {
        removes = ap (filter is_of_scan) (append_nothing (edits ++ ended.records)) ∙ filter_both edits ended.records ∙ ap (λ xs. filter is_of_scan edits ++ xs) (ended_scans reqs refusals.NoReplica scan.after) ∙ append_nothing (filter is_of_scan edits) ∙ all_of_scan removed forgotten;
        says = one_says req (Ok (answers.Scanned (length removed) (length forgotten))) ended.sent;
      }))
      (λ _. refused_exact refusals.Full)

  unless_exact : (refusal : Option Refusal) → Exact (called_unless config s req moment calls.Scan refusal)
  unless_exact None = scanned_exact
  unless_exact (Some refusal) = refused_exact refusal

  taken_exact : (how : Numbered) → Exact (taken_as config s req moment calls.Scan how)
  taken_exact New = unless_exact (refused_before s req calls.Scan)
  taken_exact (Again result) = inl refl
  taken_exact Older = inl refl

  turn_exact : Exact (call_turn config s req moment calls.Scan)
  turn_exact =
      let taken = taken_as config s req moment calls.Scan (numbered (last_reply s req.client) req.number) in
      pick Exact (is_unopened s.fault) (replied_again s req (Err refusals.Device)) (if is_pending s.volatile.pending req then waits_still s req else taken) (λ _. inl refl)
      (λ _. pick Exact (is_pending s.volatile.pending req) (waits_still s req) taken (λ _. pick Exact (is_failed s.fault) (replied_again s req (Err refusals.Device)) (unmoved s) (λ _. inl refl) (λ _. inl refl)) (λ _. taken_exact (numbered (last_reply s req.client) req.number)))

pub scans_are_exact : ScansAreExact
scans_are_exact config s req moment = turn_exact config s req moment
