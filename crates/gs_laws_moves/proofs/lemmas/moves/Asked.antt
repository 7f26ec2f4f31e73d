-- What is asked for a chunk, and what servers have said, through each move.
use Rattle.std.proofs.Common.{◌≡◌, arith, ◌∙◌, ◌==◌, ◌&&◌, ◌||◌, ◌+◌, ◌++◌, ◌⊎◌, inl, inr, ℕ, zero, suc, Bool, true, false, not, cond, List, [], ◌∷◌, filter, refl, ap, sym, subst}
use Rattle.std.specs.Prelude.{flat_map, fold, is_some, map, nat_lt, option_and_then, option_map, replicate, slice_get, slice_set, Option, Some, None, Result, Ok, Err, if◌then◌else◌}
use Rattle.std.specs.Cmp.{nat_cmp_total, tied_itself}
use Rattle.std.specs.FinMap as fin
use Rattle.std.specs.List.{list_all}
use Rattle.std.specs.Ordering.{eq_by_cmp, is_eq, nat_cmp}
use Rattle.std.proofs.lemmas.Bool.{false≢true, true≢false, and_parts}
use Rattle.std.proofs.lemmas.Bool.Decides.{nat_tests}
use Rattle.gs_base.specs.Members.{count_from, is_member, servers_where, with_member}
use Rattle.gs_base.specs.Stamps.{is_same}
use Rattle.gs_base.specs.declared.config.Config.{Config}
use Rattle.gs_base.specs.declared.numbers.ReqId.{ReqId}
use Rattle.gs_base.specs.declared.numbers.Stamp.{Stamp}
use Rattle.gs_base.specs.declared.refusal.Refusal.{Refusal}
use Rattle.gs_lease.specs.declared.view.Purpose.{Purpose}
use Rattle.gs_lease.specs.declared.view.Purpose.TheVariants as purposes
use Rattle.gs_lease.specs.declared.view.View.{View}
use Rattle.gs_msg.specs.declared.answer.Answer.{Answer}
use Rattle.gs_msg.specs.declared.answer.Answer.TheVariants as answers
use Rattle.gs_msg.specs.declared.body.Body.{Body}
use Rattle.gs_msg.specs.declared.body.Body.TheVariants as bodies
use Rattle.gs_msg.specs.declared.chunk.Chunk.TheVariants as abouts
use Rattle.gs_edit.specs.View.{NamesView}
use Rattle.gs_base.specs.declared.epoch.EpochEnd.TheVariants as ends
use Rattle.gs_master_record.specs.Plain.{PlainEdit, PlainEntry, AddChunk, Edited, Finalize, Holder, Prepare, Propose, RollbackBegin, RollbackCommit, Said, Settle, Snapshot, Whole}
use Rattle.gs_master_record.specs.declared.checkpoint.Phase.{Phase}
use Rattle.gs_master_record.specs.declared.checkpoint.Phase.TheVariants.{Ordinary, Upgrade, Rolling}
use Rattle.gs_laws_master.proofs.lemmas.upgrades.Beginnings.{fits_gives}
use Rattle.gs_laws_master.proofs.lemmas.keeping.KeptEdits.{forgets_only}
use Rattle.gs_master_spec.specs.Applied.{after_edit, applied, are_at_rest, forgotten_by, held_by, is_next_epoch, may_be_settled, may_edit, may_propose, proposed, replayed, view_in, with_edit, with_epoch, with_view, without_prepared}
use Rattle.gs_master_spec.specs.Undoing.{edited_names}
use Rattle.gs_master_spec.specs.Beginning.{begin_at, copy_plan, members_at, next_stamp}
use Rattle.gs_master_spec.specs.Chunks.{asking_for, chunk_at, has_entry, heard_no, heard_yes, holder_records, is_holder, is_target, members_in, settling, source_in, target_of, with_answers}
use Rattle.gs_master_spec.specs.Durable.{Durable, Settled, is_listed, is_ordinary, is_rolling, is_upgrade, prepared_view, with_prepared}
use Rattle.gs_master_spec.specs.Handling.{restarted, tidied, without_place}
use Rattle.gs_master_spec.specs.Calls.{accept_plan}
use Rattle.gs_master_spec.specs.Hearing.{ask_plan}
use Rattle.gs_master_spec.specs.Settling.{edit_plan, end_plan, own_request, replace_plan}
use Rattle.gs_master_spec.specs.Upgrades.{accepted_plan, chunk_count, tell_all}
use Rattle.gs_master_spec.specs.State.{State, Log, Plan, Turn, turned, answer_changes, answered, fits, keeps_refusal, kept_in_memory, last_reply, said_changes, said_records}
use Rattle.gs_master_spec.specs.Replies.{is_later}
use Rattle.gs_master_spec.specs.Volatile.{Volatile, all_changed, changed, is_call, let_go, let_go_of, servers_or_none, with_restored, without_call}
use Rattle.gs_master_spec.specs.Working.{begin_pending, scan_edits, scan_plan}
use Rattle.gs_master_spec.specs.declared.asking.Asking.{Asking}
use Rattle.gs_master_spec.specs.declared.change.Change.{Change}
use Rattle.gs_master_spec.specs.declared.change.Change.TheVariants as changes
use Rattle.gs_view.specs.Choice.{answer_of, answerers, greatest, is_count}
use Rattle.gs_view.specs.Spoken.{no_answers, with_yes}
use Rattle.gs_view.specs.declared.poll.Poll.{Poll}
use Rattle.gs_laws_master.specs.Promises.{AllFit}
use Rattle.gs_laws_master.proofs.lemmas.keeping.KeptViews.{same_key}
use Rattle.gs_laws_master.proofs.lemmas.standing.Standing.{changed_more}
use Rattle.gs_laws_moves.proofs.lemmas.moves.Events.{same_stamp}
use Rattle.gs_laws_moves.proofs.lemmas.moves.Leaving.{AskedFrom, IsSameFor, ViewFrom, all_removed, asks_of, change_asked, changes_asked, leaves_view, let_go_asked, records_view, same_asked, same_view}
use Rattle.gs_laws_master.specs.Standing.{Event, Comes, Ticks, Renews, Restarts, IsFirm, IsNamed, turn_of}
use Rattle.gs_laws_moves.proofs.lemmas.moves.Made.{events_are_chains}
use Rattle.gs_laws_moves.specs.moves.Asked.{EachMoveAsksSo, HasNamed, IsAnswer, IsAskedFor, IsAskedSo, StartsAskedSo, StaysAskedSo, WasHeard, WasIn}
use Rattle.gs_laws_moves.specs.moves.Laws.{heard_in, met_in}
use Rattle.gs_laws_moves.specs.moves.Guards.{ComesOf, Heard, IsElsewhere, IsMade, IsNext, IsYes, MayBegin, MayHear, MayRestore, MaySend}
use Rattle.gs_laws_moves.specs.moves.Moves.{Chain, Rests, Moves, Then, Alone, Beside, FromNow, Further, Move, Begins, Makes, Copies, Hears, Sends, Settles, Edits, Extends, CopiesTree, Replaces, Scans, Refuses, Answers as AnswersCall, Waits, Restores, Says, Flags, Prepares, Finalizes, BeginsRollback, TellsRollback, CommitsRollback, Checkpoints, move_turn, plan_of_make, plan_of_refusal, plan_of_rollback, plan_of_settle, with_beside}

pub asking_is : {a b : Asking} → ◌≡◌ {A = Option Asking} (Some a) (Some b) → a ≡ b
asking_is k = cc

number_is : {a b : ℕ} → ◌≡◌ {A = Option ℕ} (Some a) (Some b) → a ≡ b
number_is k = cc

same_number : (a b : ℕ) → (a == b) ≡ true → a ≡ b
same_number a b h = grind (arith, nat_tests)

pub got : (m : fin.FinMap nat_cmp Asking) (chunk : ℕ) (asking : Asking) → fin.get (fin.insert m chunk asking) chunk ≡ Some asking
got m chunk asking = fin.get-insert nat_cmp_total m chunk asking chunk ∙ ap (λ o. cond (is_eq o) (Some asking) (fin.get m chunk)) (tied_itself nat_cmp_total chunk)

-- ---- answers

none_replicated : (n i count : ℕ) → option_and_then (λ (a : Option ℕ). a) (slice_get (replicate n None) i) ≡ Some count → ⊥
none_replicated zero i count k = false≢true (ap is_some k)
none_replicated (suc n) zero count k = false≢true (ap is_some k)
none_replicated (suc n) (suc i) count k = none_replicated n i count k

nobody_answers : (server count : ℕ) → answer_of no_answers.counts server ≡ Some count → ⊥
nobody_answers server count e = none_replicated 16 server count e

pub set_answer : (xs : List (Option ℕ)) (i j count n : ℕ) → answer_of (slice_set xs i (Some count)) j ≡ Some n → ((j ≡ i) × (n ≡ count)) ⊎ (answer_of xs j ≡ Some n)
set_answer [] i j count n e = inr e
set_answer (x ∷ xs) zero zero count n e = inl (refl, sym (number_is e))
set_answer (x ∷ xs) zero (suc j) count n e = inr e
set_answer (x ∷ xs) (suc i) zero count n e = inr e
set_answer (x ∷ xs) (suc i) (suc j) count n e = by_rest (set_answer xs i j count n e)
  where
    by_rest : ((j ≡ i) × (n ≡ count)) ⊎ (answer_of xs j ≡ Some n) → ((suc j ≡ suc i) × (n ≡ count)) ⊎ (answer_of xs j ≡ Some n)
    by_rest (inl both) = inl (ap suc both.0, both.1)
    by_rest (inr k) = inr k

head_passes : (f : ℕ → Bool) (xs : List ℕ) (x : ℕ) → slice_get (filter f xs) 0 ≡ Some x → f x ≡ true
head_passes f [] x e = absurd (false≢true (ap is_some e))
head_passes f (y ∷ xs) x e = by_test (f y) refl (head_passes f xs x) e
  where
    by_test : (b : Bool) → f y ≡ b → (slice_get (filter f xs) 0 ≡ Some x → f x ≡ true) → slice_get (cond b (y ∷ filter f xs) (filter f xs)) 0 ≡ Some x → f x ≡ true
    by_test true is rest h = subst (λ z. f z ≡ true) (number_is h) is
    by_test false is rest h = rest h

pub count_is : (count : ℕ) (o : Option ℕ) → is_count count o ≡ true → o ≡ Some count
count_is count None e = absurd (false≢true e)
count_is count (Some n) e = ap Some (same_number n count e)

-- the source of a copy has answered
source_answers : (asking : Asking) (source : ℕ) → source_in asking ≡ Some source → (count : ℕ) × (answer_of asking.answers.counts source ≡ Some count)
unfolding servers_where
source_answers asking source e = by_most (greatest asking.answers.counts) e
  where
    by_most : (o : Option ℕ) → option_and_then (λ (choice : List ℕ × ℕ). slice_get choice.0 0) (option_map (λ count. (answerers asking.answers.counts count, count)) o) ≡ Some source → (count : ℕ) × (answer_of asking.answers.counts source ≡ Some count)
    by_most None k = absurd (false≢true (ap is_some k))
    by_most (Some count) k = (count, count_is count (answer_of asking.answers.counts source) (head_passes (λ server. is_count count (answer_of asking.answers.counts server)) (count_from 0 16) source k))

-- a server of those that pass a test passes it
pub where_passes : (f : ℕ → Bool) (server : ℕ) → is_member (servers_where f) server ≡ true → f server ≡ true
unfolding servers_where
where_passes f server e = among (count_from 0 16) e
  where
    among : (xs : List ℕ) → is_member (filter f xs) server ≡ true → f server ≡ true
    among [] k = absurd (false≢true k)
    among (x ∷ xs) k = by_test (f x) refl (among xs) k
      where
        by_here : (b : Bool) → (x == server) ≡ b → f x ≡ true → (is_member (filter f xs) server ≡ true → f server ≡ true) → (b || is_member (filter f xs) server) ≡ true → f server ≡ true
        by_here true same is rest h = subst (λ z. f z ≡ true) (same_number x server same) is
        by_here false other is rest h = rest h

        by_test : (b : Bool) → f x ≡ b → (is_member (filter f xs) server ≡ true → f server ≡ true) → is_member (cond b (x ∷ filter f xs) (filter f xs)) server ≡ true → f server ≡ true
        by_test true is rest h = by_here (x == server) refl is rest h
        by_test false is rest h = rest h

-- ---- epochs while it is rolled back

abbrev StillRolling : Durable → Durable → Type 0
StillRolling d e = is_rolling d.phase ≡ true → (e.epoch ≡ d.epoch) × (is_rolling e.phase ≡ true)

as_before : (d e : Durable) → e.epoch ≡ d.epoch → e.phase ≡ d.phase → StillRolling d e
as_before d e epoch phase rolling = (epoch, ap is_rolling phase ∙ rolling)

ordinary_not : (phase : Phase) → is_ordinary phase ≡ true → is_rolling phase ≡ true → ⊥
ordinary_not Ordinary e r = false≢true r
ordinary_not Upgrade e r = false≢true e
ordinary_not Rolling e r = false≢true e

upgrade_not : (phase : Phase) → is_upgrade phase ≡ true → is_rolling phase ≡ true → ⊥
upgrade_not Ordinary e r = false≢true e
upgrade_not Upgrade e r = false≢true r
upgrade_not Rolling e r = false≢true e

durable_is : {a b : Durable} → ◌≡◌ {A = Option Durable} (Some a) (Some b) → a ≡ b
durable_is k = cc

edited_rolling : (d e : Durable) (by : ReqId) (edit : PlainEdit) (names : Result NamesView Refusal) → after_edit d by edit names ≡ Some e → StillRolling d e
edited_rolling d e by edit (Ok names) fit =
    let gives = (fits_gives (may_edit d edit) (with_edit d by edit names) e fit).1 in
    as_before d e (ap (λ (x : Durable). x.epoch) (sym gives) ∙ ap (λ (x : Durable). x.epoch) (forgets_only d (forgotten_by edit))) (ap (λ (x : Durable). x.phase) (sym gives) ∙ ap (λ (x : Durable). x.phase) (forgets_only d (forgotten_by edit)))
edited_rolling d e by edit (Err refusal) fit = absurd (false≢true (ap is_some fit))

record_rolling : (chunk : ℕ) (d e : Durable) (entry : PlainEntry) → leaves_view chunk entry ≡ true → applied d entry ≡ Some e → StillRolling d e
unfolding applied
record_rolling chunk d e (Edited by edit) leaves fit = edited_rolling d e by edit (edited_names edit d.names) fit
record_rolling chunk d e (Said to refusal) leaves fit = (let is = durable_is fit in as_before d e (ap (λ (x : Durable). x.epoch) (sym is)) (ap (λ (x : Durable). x.phase) (sym is)))
record_rolling chunk d e (Propose q version) leaves fit =
    let is = (fits_gives (may_propose d.phase d.next_handle d.next_version q version (fin.get d.chunks q)) (proposed d q version) e fit).1 in as_before d e (ap (λ (x : Durable). x.epoch) (sym is)) (ap (λ (x : Durable). x.phase) (sym is))
record_rolling chunk d e (Settle v) leaves fit = (let is = (fits_gives (may_be_settled d v) (with_view d v) e fit).1 in as_before d e (ap (λ (x : Durable). x.epoch) (sym is)) (ap (λ (x : Durable). x.phase) (sym is)))
record_rolling chunk d e (Prepare epoch moment many) leaves fit =
    λ rolling. absurd (ordinary_not d.phase (and_parts (is_ordinary d.phase) _ (fits_gives (is_ordinary d.phase && (is_next_epoch d.epoch epoch && are_at_rest d)) (without_prepared (with_epoch d ends.Prepare Upgrade)) e fit).0).0 rolling)
record_rolling chunk d e (Finalize epoch) leaves fit =
    λ rolling. absurd (upgrade_not d.phase (and_parts (is_upgrade d.phase) _ (fits_gives (is_upgrade d.phase && is_next_epoch d.epoch epoch) (without_prepared (with_epoch d ends.Finalize Ordinary)) e fit).0).0 rolling)
record_rolling chunk d e (RollbackBegin epoch) leaves fit =
    λ rolling. absurd (upgrade_not d.phase (and_parts (is_upgrade d.phase) _ (fits_gives (is_upgrade d.phase && is_next_epoch d.epoch epoch) (with_epoch d ends.Rollback Rolling) e fit).0).0 rolling)
record_rolling chunk d e (RollbackCommit epoch answers) leaves fit = absurd (false≢true leaves)
record_rolling chunk d e (Whole c) leaves fit = absurd (false≢true leaves)
record_rolling chunk d e (Holder q server) leaves fit =
    let is = (fits_gives (is_upgrade d.phase && (nat_lt server 16 && is_some (prepared_view d q))) (record d { prepared = with_prepared d q (held_by server (prepared_view d q)) }) e fit).1 in as_before d e (ap (λ (x : Durable). x.epoch) (sym is)) (ap (λ (x : Durable). x.phase) (sym is))

records_rolling : (chunk : ℕ) (entries : List PlainEntry) (d e : Durable) → list_all (leaves_view chunk) entries ≡ true → replayed d entries ≡ Some e → StillRolling d e
records_rolling chunk [] d e all fit = (let is = durable_is fit in as_before d e (ap (λ (x : Durable). x.epoch) (sym is)) (ap (λ (x : Durable). x.phase) (sym is)))
records_rolling chunk (entry ∷ entries) d e all fit =
    let parts = and_parts (leaves_view chunk entry) (list_all (leaves_view chunk) entries) all in by_first (applied d entry) refl fit (λ n is h rolling. (let one = record_rolling chunk d n entry parts.0 is rolling in let more = records_rolling chunk entries n e parts.1 h one.1 in (more.0 ∙ one.0, more.1)))
  where
    by_first : (o : Option Durable) → applied d entry ≡ o → option_and_then (λ n. replayed n entries) o ≡ Some e → ((n : Durable) → applied d entry ≡ Some n → replayed n entries ≡ Some e → StillRolling d e) → StillRolling d e
    by_first None is h rest = absurd (false≢true (ap is_some h))
    by_first (Some n) is h rest = rest n is h

-- ---- what a move leaves of a chunk beside what is asked for it

record Around (chunk : ℕ) (s u : State) : Type 0 where
  view : ViewFrom chunk s.durable u.durable
  restored : u.volatile.restored ≡ s.volatile.restored
  rolling : StillRolling s.durable u.durable

plan_around : (chunk : ℕ) (s : State) (plan : Plan) → list_all (leaves_view chunk) plan.records ≡ true → (all_changed s.volatile plan.changes).restored ≡ s.volatile.restored → AllFit s (turned s plan) → Around chunk s (turned s plan).after
plan_around chunk s plan usual restored fit = record {
  view = records_view chunk plan.records s.durable (turned s plan).after.durable usual fit;
  restored = restored;
  rolling = records_rolling chunk plan.records s.durable (turned s plan).after.durable usual fit;
}

module _ (Was : ℕ → Body → Type 0) (chunk : ℕ) where
  -- the same is asked for it, in another state
  still_for : (s u : State) (a b : Asking) → ViewFrom chunk s.durable u.durable → IsSameFor a b → IsAskedFor Was s chunk a → IsAskedFor Was u chunk b
  still_for s u a b view same k =
      subst (IsAskedFor Was u chunk) (sym same) (record {
        members = λ x has. (let q = view x has in k.members q.0 q.1 ∙ ap (λ (v : View). v.members) q.2);
        elsewhere = k.elsewhere;
        answered = λ server count h. (let w = k.answered server count h in record { on = w.on; carried = w.carried; said = w.said });
        source = k.source;
      })

  still_named : (s u : State) → Around chunk s u → IsAskedSo Was s chunk → (server : ℕ) → is_member (servers_or_none (fin.get u.volatile.restored chunk)) server ≡ true → HasNamed Was u chunk server
  still_named s u a k server here =
      let was = k.restored server (ap (λ m. is_member (servers_or_none (fin.get m chunk)) server) (sym a.restored) ∙ here) in
      let now = a.rolling was.rolling in
      record { handles = was.handles; rolling = now.1; said = subst (λ e. Was server (bodies.Learned e was.handles)) (sym now.0) was.said; named = was.named }

  leaves_so : (s u : State) → Around chunk s u → AskedFrom chunk s.volatile.moving u.volatile.moving → IsAskedSo Was s chunk → IsAskedSo Was u chunk
  leaves_so s u a from k = record {
    asked = λ b has. (let p = from b has in still_for s u p.0 b a.view p.2 (k.asked p.0 p.1));
    restored = still_named s u a k;
  }

  -- and where this is asked for it now
  asks_so : (s u : State) (asking : Asking) → Around chunk s u → u.volatile.moving ≡ fin.insert s.volatile.moving chunk asking → IsAskedFor Was u chunk asking → IsAskedSo Was s chunk → IsAskedSo Was u chunk
  asks_so s u asking a moving one k = record {
    asked = λ b has. subst (IsAskedFor Was u chunk) (asking_is (sym (got s.volatile.moving chunk asking) ∙ ap (λ m. fin.get m chunk) (sym moving) ∙ has)) one;
    restored = still_named s u a k;
  }

-- ---- each kind of move

not_true : (b : Bool) → b ≡ false → not b ≡ true
not_true true e = absurd (true≢false e)
not_true false e = refl

-- what stands beside a plan that begins something
pub beside_asked : (s : State) (chunk : ℕ) (plan : Plan) (beside : Beside) → list_all (λ c. not (asks_of chunk c)) plan.changes ≡ true → AskedFrom chunk s.volatile.moving (all_changed s.volatile (with_beside beside plan).changes).moving
beside_asked s chunk plan Alone all = changes_asked chunk plan.changes s.volatile all
beside_asked s chunk plan (FromNow req waiting) all =
    subst (λ (v : Volatile). AskedFrom chunk s.volatile.moving v.moving) (sym (changed_more plan.changes (changes.Begin (record { req = req; waits = waiting }) ∷ []) s.volatile)) (changes_asked chunk plan.changes s.volatile all)
beside_asked s chunk plan (Further req waiting) all =
    subst (λ (v : Volatile). AskedFrom chunk s.volatile.moving v.moving) (sym (changed_more plan.changes (changes.Wait req waiting ∷ []) s.volatile)) (changes_asked chunk plan.changes s.volatile all)

pub beside_moving : (s : State) (plan : Plan) (beside : Beside) → (all_changed s.volatile (with_beside beside plan).changes).moving ≡ (all_changed s.volatile plan.changes).moving
beside_moving s plan Alone = refl
beside_moving s plan (FromNow req waiting) = ap (λ (v : Volatile). v.moving) (changed_more plan.changes (changes.Begin (record { req = req; waits = waiting }) ∷ []) s.volatile)
beside_moving s plan (Further req waiting) = ap (λ (v : Volatile). v.moving) (changed_more plan.changes (changes.Wait req waiting ∷ []) s.volatile)

beside_around : (chunk : ℕ) (s : State) (plan : Plan) (beside : Beside) → list_all (leaves_view chunk) plan.records ≡ true → (all_changed s.volatile plan.changes).restored ≡ s.volatile.restored → AllFit s (turned s (with_beside beside plan)) → Around chunk s (turned s (with_beside beside plan)).after
beside_around chunk s plan Alone usual restored fit = plan_around chunk s plan usual restored fit
beside_around chunk s plan (FromNow req waiting) usual restored fit =
    plan_around chunk s (with_beside (FromNow req waiting) plan) usual (ap (λ (v : Volatile). v.restored) (changed_more plan.changes (changes.Begin (record { req = req; waits = waiting }) ∷ []) s.volatile) ∙ restored) fit
beside_around chunk s plan (Further req waiting) usual restored fit =
    plan_around chunk s (with_beside (Further req waiting) plan) usual (ap (λ (v : Volatile). v.restored) (changed_more plan.changes (changes.Wait req waiting ∷ []) s.volatile) ∙ restored) fit

-- who has an entry is asked by its settled view
members_known : (s : State) (chunk : ℕ) → has_entry s chunk ≡ true → members_at (chunk_at s chunk) ≡ members_in (view_in (fin.get s.durable.chunks chunk))
unfolding chunk_at
members_known s chunk known = by_entry (has_entry s chunk) known
  where
    by_entry : (b : Bool) → b ≡ true → members_at (if b then Some (record { settled = fin.get s.durable.chunks chunk; asking = fin.get s.volatile.moving chunk }) else None) ≡ members_in (view_in (fin.get s.durable.chunks chunk))
    by_entry true e = refl
    by_entry false e = absurd (false≢true e)

module _ (Was : ℕ → Body → Type 0) (chunk : ℕ) where
  -- nobody has answered yet
  new_for : (u : State) (stamp : Stamp) (purpose : Purpose) (asked : List ℕ) (call : Option ReqId) → ((x : Settled) → fin.get u.durable.chunks chunk ≡ Some x → asked ≡ x.view.members) → IsElsewhere purpose asked → IsAskedFor Was u chunk (asking_for stamp purpose asked call)
  new_for u stamp purpose asked call members elsewhere = record {
    members = members;
    elsewhere = elsewhere;
    answered = λ server count e. absurd (nobody_answers server count e);
    source = λ server e. absurd (false≢true (ap is_some e));
  }

  begins_so : (config : Config) (heard : Heard) (s : State) (q : ℕ) (purpose : Purpose) (call : Option ReqId) (beside : Beside) → MayBegin heard s q purpose call beside → AllFit s (move_turn config s (Begins q purpose call beside)) → IsAskedSo Was s chunk → IsAskedSo Was (move_turn config s (Begins q purpose call beside)).after chunk
  begins_so config heard s q purpose call beside may fit k = by_key (q == chunk) refl
    where
      u : State
      u = (move_turn config s (Begins q purpose call beside)).after

      asking : Asking
      asking = asking_for (next_stamp s.durable) purpose (members_at (chunk_at s q)) call

      around : Around chunk s u
      around = beside_around chunk s (begin_at s q purpose call) beside refl refl fit

      moving : u.volatile.moving ≡ fin.insert s.volatile.moving q asking
      moving = beside_moving s (begin_at s q purpose call) beside

      here : q ≡ chunk → IsAskedFor Was u chunk asking
      here same =
          let known = members_known s q may.known in
          new_for u (next_stamp s.durable) purpose (members_at (chunk_at s q)) call
          (λ x has. (let p = around.view x has in known ∙ ap (λ c. members_in (view_in (fin.get s.durable.chunks c))) same ∙ ap (λ o. members_in (view_in o)) p.1 ∙ ap (λ (v : View). v.members) p.2))
          (subst (IsElsewhere purpose) (sym known) may.elsewhere)

      by_key : (b : Bool) → (q == chunk) ≡ b → IsAskedSo Was u chunk
      by_key true same = asks_so Was chunk s u asking around (moving ∙ ap (λ c. fin.insert s.volatile.moving c asking) (same_number q chunk same)) (here (same_number q chunk same)) k
      by_key false other = leaves_so Was chunk s u around (beside_asked s chunk (begin_at s q purpose call) beside (ap (λ b. not b && true) other)) k

  -- a new chunk, which isn't settled
  new_so : (s u : State) (asking : Asking) (asked : List ℕ) (req : ReqId) → asking ≡ asking_for (next_stamp s.durable) purposes.Quiet asked (Some req) → IsNext s → Around chunk s u → u.volatile.moving ≡ fin.insert s.volatile.moving s.durable.next_handle asking → IsAskedSo Was s chunk → IsAskedSo Was u chunk
  new_so s u asking asked req is next around moving k = by_key (s.durable.next_handle == chunk) refl
    where
      q : ℕ
      q = s.durable.next_handle

      here : q ≡ chunk → IsAskedFor Was u chunk asking
      here same =
          subst (IsAskedFor Was u chunk) (sym is)
          (new_for u (next_stamp s.durable) purposes.Quiet asked (Some req) (λ x has. (let p = around.view x has in absurd (false≢true (sym (ap is_some (ap (fin.get s.durable.chunks) (sym same) ∙ next)) ∙ ap is_some p.1)))) tt)

      by_key : (b : Bool) → (q == chunk) ≡ b → IsAskedSo Was u chunk
      by_key true same = asks_so Was chunk s u asking around (moving ∙ ap (λ c. fin.insert s.volatile.moving c asking) (same_number q chunk same)) (here (same_number q chunk same)) k
      by_key false other = leaves_so Was chunk s u around (subst (AskedFrom chunk s.volatile.moving) (sym moving) (change_asked chunk s.volatile (changes.Ask q asking) other)) k

  -- ---- answers

  yes_for : (heard : Heard) (s u : State) (old : Asking) (server count : ℕ) (carried : Bool) → WasHeard Was heard → IsYes heard chunk old server count carried → ViewFrom chunk s.durable u.durable → IsAskedFor Was s chunk old → IsAskedFor Was u chunk (heard_yes old server count)
  yes_for heard s u old server count carried was said view k = by_member (is_member old.asked server) refl
    where
      stamp_is : said.stamp ≡ old.stamp
      stamp_is = sym (same_stamp old.stamp said.stamp (and_parts (is_same old.stamp said.stamp) (is_member old.asked server || is_target old server) said.counts).0)

      heard_it : Was server (bodies.About chunk (abouts.Promised (old.stamp) count carried))
      heard_it = subst (λ st. Was server (bodies.About chunk (abouts.Promised st count carried))) stamp_is (was server (bodies.About chunk (abouts.Promised (said.stamp) count carried)) said.said)

      by_answer : (j n : ℕ) → is_member old.asked server ≡ true → ((j ≡ server) × (n ≡ count)) ⊎ (answer_of old.answers.counts j ≡ Some n) → IsAnswer Was chunk (with_answers old (with_yes old.answers server count)) j n
      by_answer j n on (inl both) = record {
        on = ap (is_member old.asked) both.0 ∙ on;
        carried = carried;
        said = subst (λ x. Was x (bodies.About chunk (abouts.Promised (old.stamp) n carried))) (sym both.0) (subst (λ x. Was server (bodies.About chunk (abouts.Promised (old.stamp) x carried))) (sym both.1) heard_it);
      }
      by_answer j n on (inr e) = (let w = k.answered j n e in record { on = w.on; carried = w.carried; said = w.said })

      same : IsAskedFor Was u chunk old
      same = still_for Was chunk s u old old view refl k

      by_member : (b : Bool) → is_member old.asked server ≡ b → IsAskedFor Was u chunk (if b then with_answers old (with_yes old.answers server count) else old)
      by_member true on = record { members = same.members; elsewhere = same.elsewhere; answered = λ j n e. by_answer j n on (set_answer old.answers.counts server j count n e); source = same.source }
      by_member false out = same

  no_for : (s u : State) (old : Asking) (server : ℕ) → ViewFrom chunk s.durable u.durable → IsAskedFor Was s chunk old → IsAskedFor Was u chunk (heard_no old server)
  no_for s u old server view k = by_member (is_member old.asked server) (is_some (answer_of old.answers.counts server))
    where
      same : IsAskedFor Was u chunk old
      same = still_for Was chunk s u old old view refl k

      counted : (a : Poll) → a.counts ≡ old.answers.counts → IsAskedFor Was u chunk (with_answers old a)
      counted a is = record {
        members = same.members;
        elsewhere = same.elsewhere;
        answered = λ j n e. (let w = k.answered j n (ap (λ c. answer_of c j) (sym is) ∙ e) in record { on = w.on; carried = w.carried; said = w.said });
        source = same.source;
      }

      by_member : (b c : Bool) → IsAskedFor Was u chunk (if b then with_answers old (if c then old.answers else (record { counts = old.answers.counts; refused = with_member old.answers.refused server })) else old)
      by_member true true = counted old.answers refl
      by_member true false = counted (record { counts = old.answers.counts; refused = with_member old.answers.refused server }) refl
      by_member false c = same

  comes_for : (heard : Heard) (s u : State) (old new : Asking) → WasHeard Was heard → ComesOf heard chunk old new → ViewFrom chunk s.durable u.durable → IsAskedFor Was s chunk old → IsAskedFor Was u chunk new
  comes_for heard s u old new was (inl yes_said) view k = subst (IsAskedFor Was u chunk) (sym yes_said.4) (yes_for heard s u old yes_said.0 yes_said.1 yes_said.2 was yes_said.3 view k)
  comes_for heard s u old new was (inr no_said) view k = subst (IsAskedFor Was u chunk) (sym no_said.2) (no_for s u old no_said.0 view k)

-- ---- moves that ask nothing

pub answer_moving : (s : State) (v : Volatile) (req : ReqId) (answer : Answer) → ((all_changed v (answer_changes s req answer)).moving ≡ v.moving) × ((all_changed v (answer_changes s req answer)).restored ≡ v.restored)
answer_moving s v req answer = by_test (is_later (last_reply s req.client) req.number)
  where
    by_test : (b : Bool) → let w = all_changed v (if b then kept_in_memory req (Ok answer) ∷ [] else []) in (w.moving ≡ v.moving) × (w.restored ≡ v.restored)
    by_test true = (refl, refl)
    by_test false = (refl, refl)

pub accepted_moving : (s : State) (before : List Change) (req : ReqId) (answer : Answer) → let w = all_changed s.volatile (before ++ answer_changes s req answer) in let v = all_changed s.volatile before in (w.moving ≡ v.moving) × (w.restored ≡ v.restored)
accepted_moving s before req answer =
    let v = all_changed s.volatile before in
    let more = changed_more before (answer_changes s req answer) s.volatile in
    let last = answer_moving s v req answer in (ap (λ (x : Volatile). x.moving) more ∙ last.0, ap (λ (x : Volatile). x.restored) more ∙ last.1)

-- a call that is refused
pub said_moving : (s : State) (req : ReqId) (refusal : Refusal) → let w = all_changed s.volatile (said_changes (keeps_refusal s req refusal) s.log req refusal) in (w.moving ≡ s.volatile.moving) × (w.restored ≡ s.volatile.restored)
said_moving s req refusal = by_test (keeps_refusal s req refusal && not (fits s.log (Said req refusal ∷ [])))
  where
    by_test : (b : Bool) → let w = all_changed s.volatile (if b then kept_in_memory req (Err refusal) ∷ [] else []) in (w.moving ≡ s.volatile.moving) × (w.restored ≡ s.volatile.restored)
    by_test true = (refl, refl)
    by_test false = (refl, refl)

pub said_usual : (chunk : ℕ) (s : State) (req : ReqId) (refusal : Refusal) → list_all (leaves_view chunk) (said_records (keeps_refusal s req refusal) s.log req refusal) ≡ true
said_usual chunk s req refusal = by_test (keeps_refusal s req refusal && fits s.log (Said req refusal ∷ []))
  where
    by_test : (b : Bool) → list_all (leaves_view chunk) (if b then Said req refusal ∷ [] else []) ≡ true
    by_test true = refl
    by_test false = refl

pub loosed_restored : (new : List ℕ) (req : ReqId) (es : List (ℕ × Asking)) (v : Volatile) → (all_changed v (flat_map (let_go_of new req) es)).restored ≡ v.restored
loosed_restored new req [] v = refl
loosed_restored new req (e ∷ es) v = by_call (λ w. loosed_restored new req es w) (is_call req e.1.call) (is_member new e.0)
  where
    by_call : ((w : Volatile) → (all_changed w (flat_map (let_go_of new req) es)).restored ≡ w.restored) → (c n : Bool)
        → (all_changed v ((if not c then [] else if n then changes.Lose e.0 ∷ [] else changes.Ask e.0 (without_call e.1) ∷ []) ++ flat_map (let_go_of new req) es)).restored ≡ v.restored
    by_call rest false n = rest v
    by_call rest true true = rest (changed v (changes.Lose (e.0)))
    by_call rest true false = rest (changed v (changes.Ask (e.0) (without_call e.1)))

pub ended_asked : (chunk : ℕ) (s : State) (req : ReqId) (refusal : Refusal) → let w = all_changed s.volatile (said_changes (keeps_refusal s req refusal) s.log req refusal ++ (let_go s.volatile req ++ changes.End req ∷ [])) in
    AskedFrom chunk s.volatile.moving w.moving × (w.restored ≡ s.volatile.restored)
ended_asked chunk s req refusal =
    let first = said_changes (keeps_refusal s req refusal) s.log req refusal in
    let v = all_changed s.volatile first in
    let said = said_moving s req refusal in
    let more = changed_more first (let_go s.volatile req ++ changes.End req ∷ []) s.volatile in
    let last = changed_more (let_go s.volatile req) (changes.End req ∷ []) v in
    let is = more ∙ last in (
      subst (λ (w : Volatile). AskedFrom chunk s.volatile.moving w.moving) (sym is) (let_go_asked chunk s.volatile v req said.0),
      ap (λ (w : Volatile). w.restored) is ∙ loosed_restored s.volatile.unplaced req (fin.entries s.volatile.moving) v ∙ said.1,
    )

-- the records of a scan
pub scan_usual : (chunk : ℕ) (req : ReqId) (edits : List PlainEdit) → list_all (leaves_view chunk) (map (Edited req) edits) ≡ true
scan_usual chunk req [] = refl
scan_usual chunk req (edit ∷ edits) = scan_usual chunk req edits

-- ---- who has named a chunk

module _ (chunk server : ℕ) where
  restored_in : (from : ℕ) (chunks : List ℕ) (m : fin.FinMap nat_cmp (List ℕ)) → is_member (servers_or_none (fin.get (fold (with_restored from) m chunks) chunk)) server ≡ true
      → ((server ≡ from) × (is_member chunks chunk ≡ true)) ⊎ (is_member (servers_or_none (fin.get m chunk)) server ≡ true)
  restored_in from [] m here = inr here
  restored_in from (c ∷ chunks) m here = by_rest (restored_in from chunks (with_restored from m c) here)
    where
      second : (a b : Bool) → b ≡ true → (a || b) ≡ true
      second true b e = refl
      second false b e = e

      itself : (n : ℕ) → (n == n) ≡ true
      itself n = grind (arith, nat_tests)

      by_same : (a b : Bool) → (server == from) ≡ a → is_member (servers_or_none (fin.get m c)) server ≡ b → (a || b) ≡ true → chunk ≡ c → ((server ≡ from) × ((c == chunk || is_member chunks chunk) ≡ true)) ⊎ (is_member (servers_or_none (fin.get m chunk)) server ≡ true)
      by_same true b is has e same = inl (same_number server from is, ap (λ x. (x == chunk) || is_member chunks chunk) (sym same) ∙ ap (λ x. x || is_member chunks chunk) (itself chunk))
      by_same false b is has e same = inr (ap (λ x. is_member (servers_or_none (fin.get m x)) server) same ∙ has ∙ e)

      by_key : (t : Bool) → eq_by_cmp nat_cmp chunk c ≡ t → is_member (servers_or_none (cond t (Some (with_member (servers_or_none (fin.get m c)) from)) (fin.get m chunk))) server ≡ true
          → ((server ≡ from) × ((c == chunk || is_member chunks chunk) ≡ true)) ⊎ (is_member (servers_or_none (fin.get m chunk)) server ≡ true)
      by_key true same e =
          by_same (server == from) (is_member (servers_or_none (fin.get m c)) server) refl refl (where_passes (λ x. (x == from) || is_member (servers_or_none (fin.get m c)) x) server e) (same_key chunk c same)
      by_key false other e = inr e

      by_rest : ((server ≡ from) × (is_member chunks chunk ≡ true)) ⊎ (is_member (servers_or_none (fin.get (with_restored from m c) chunk)) server ≡ true)
          → ((server ≡ from) × ((c == chunk || is_member chunks chunk) ≡ true)) ⊎ (is_member (servers_or_none (fin.get m chunk)) server ≡ true)
      by_rest (inl both) = inl (both.0, second (c == chunk) (is_member chunks chunk) both.1)
      by_rest (inr e) =
          by_key (eq_by_cmp nat_cmp chunk c) refl (ap (λ o. is_member (servers_or_none o) server) (sym (fin.get-insert nat_cmp_total m c (with_member (servers_or_none (fin.get m c)) from) chunk)) ∙ e)

-- ---- every move

pub tidied_view : (chunk : ℕ) (d : Durable) → ViewFrom chunk d (tidied d)
tidied_view chunk d x has = (x, kept (is_listed d chunk) (sym (fin.get-retain_keys d.chunks (is_listed d) chunk (λ y tied. ap (is_listed d) (sym (fin.nat_cmp-IsAntisymmetric chunk y tied)))) ∙ has), refl)
  where
    kept : (b : Bool) → cond b (fin.get d.chunks chunk) None ≡ Some x → fin.get d.chunks chunk ≡ Some x
    kept true e = e
    kept false e = absurd (false≢true (ap is_some e))

-- the records of a view that is settled: perhaps a holder first
settle_rolling : (s : State) (q : ℕ) (asking : Asking) (carried : Bool) (view : View) → AllFit s (turned s (plan_of_settle s q asking carried view)) → StillRolling s.durable (turned s (plan_of_settle s q asking carried view)).after.durable
settle_rolling s q asking carried view fit =
    records_rolling (suc q) (settling s.durable.phase (prepared_view s.durable q) carried q asking view) s.durable (turned s (plan_of_settle s q asking carried view)).after.durable
    (usual (is_holder s.durable.phase (prepared_view s.durable q) carried asking view) (target_of asking.purpose) (λ m. another q)) fit
  where
    another : (n : ℕ) → not (n == suc n) ≡ true
    another n = grind (arith, nat_tests)

    usual : (b : Bool) (target : Option ℕ) → (ℕ → not (q == suc q) ≡ true) → list_all (leaves_view (suc q)) (holder_records b q target ++ Settle (record { handle = q; view = view }) ∷ []) ≡ true
    usual b None other = ap (λ x. x && true) (other 0)
    usual true (Some target) other = ap (λ x. x && true) (other 0)
    usual false (Some target) other = ap (λ x. x && true) (other 0)

pub settle_view : (chunk : ℕ) (s : State) (q : ℕ) (asking : Asking) (carried : Bool) (view : View) → (q == chunk) ≡ false → AllFit s (turned s (plan_of_settle s q asking carried view)) → ViewFrom chunk s.durable (turned s (plan_of_settle s q asking carried view)).after.durable
settle_view chunk s q asking carried view other fit =
    records_view chunk (settling s.durable.phase (prepared_view s.durable q) carried q asking view) s.durable (turned s (plan_of_settle s q asking carried view)).after.durable
    (usual (is_holder s.durable.phase (prepared_view s.durable q) carried asking view) (target_of asking.purpose)) fit
  where
    usual : (b : Bool) (target : Option ℕ) → list_all (leaves_view chunk) (holder_records b q target ++ Settle (record { handle = q; view = view }) ∷ []) ≡ true
    usual b None = ap (λ x. not x && true) other
    usual true (Some target) = ap (λ x. not x && true) other
    usual false (Some target) = ap (λ x. not x && true) other

module _ (Was : ℕ → Body → Type 0) (chunk : ℕ) (config : Config) (heard : Heard) (was : WasHeard Was heard) (s : State) (k : IsAskedSo Was s chunk) where
  -- nothing is asked, and nothing is kept of who has named what
  plain_so : (plan : Plan) → list_all (leaves_view chunk) plan.records ≡ true → (all_changed s.volatile plan.changes).moving ≡ s.volatile.moving → (all_changed s.volatile plan.changes).restored ≡ s.volatile.restored → AllFit s (turned s plan) → IsAskedSo Was (turned s plan).after chunk
  plain_so plan usual moving restored fit = leaves_so Was chunk s (turned s plan).after (plan_around chunk s plan usual restored fit) (subst (AskedFrom chunk s.volatile.moving) (sym moving) (same_asked chunk s.volatile.moving)) k

  -- this is asked for a chunk now
  at_key : (u : State) (q : ℕ) (asking : Asking) → Around chunk s u → u.volatile.moving ≡ fin.insert s.volatile.moving q asking → (q ≡ chunk → IsAskedFor Was u chunk asking) → IsAskedSo Was u chunk
  at_key u q asking around moving here = by_key (q == chunk) refl
    where
      by_key : (b : Bool) → (q == chunk) ≡ b → IsAskedSo Was u chunk
      by_key true same = asks_so Was chunk s u asking around (moving ∙ ap (λ c. fin.insert s.volatile.moving c asking) (same_number q chunk same)) (here (same_number q chunk same)) k
      by_key false other = leaves_so Was chunk s u around (subst (AskedFrom chunk s.volatile.moving) (sym moving) (change_asked chunk s.volatile (changes.Ask q asking) other)) k

  hears_so : (q : ℕ) (new : Asking) → MayHear heard s q new → AllFit s (move_turn config s (Hears q new)) → IsAskedSo Was (move_turn config s (Hears q new)).after chunk
  hears_so q new may fit =
      let u = (move_turn config s (Hears q new)).after in
      let around = plan_around chunk s (ask_plan q new) refl refl fit in
      at_key u q new around refl (λ same. comes_for Was chunk heard s u may.old new was (subst (λ c. ComesOf heard c may.old new) same may.comes) around.view (k.asked may.old (ap (fin.get s.volatile.moving) (sym same) ∙ may.has)))

  sends_so : (q : ℕ) (asking : Asking) (source target : ℕ) → MaySend s q asking source target → AllFit s (move_turn config s (Sends q asking source target)) → IsAskedSo Was (move_turn config s (Sends q asking source target)).after chunk
  sends_so q asking source target may fit =
      let u = (move_turn config s (Sends q asking source target)).after in
      let around : Around chunk s u = record { view = same_view chunk s.durable u.durable refl; restored = refl; rolling = as_before s.durable u.durable refl refl } in
      at_key u q (record asking { source = Some source }) around refl
      (λ same. let old = k.asked asking (ap (fin.get s.volatile.moving) (sym same) ∙ may.has) in
      let one = source_answers asking source may.chosen in
      record {
        members = old.members;
        elsewhere = old.elsewhere;
        answered = λ server count e. (let w = old.answered server count e in record { on = w.on; carried = w.carried; said = w.said });
        source = λ server e. ap (is_member asking.asked) (sym (number_is e)) ∙ (old.answered source one.0 one.1).on;
      })

  settles_so : (q : ℕ) (asking : Asking) (carried : Bool) (view : View) → AllFit s (move_turn config s (Settles q asking carried view)) → IsAskedSo Was (move_turn config s (Settles q asking carried view)).after chunk
  settles_so q asking carried view fit = by_key (q == chunk) refl
    where
      u : State
      u = (move_turn config s (Settles q asking carried view)).after

      by_key : (b : Bool) → (q == chunk) ≡ b → IsAskedSo Was u chunk
      by_key true same = record {
        asked = λ b has. absurd (false≢true (sym (ap is_some removed) ∙ ap is_some has));
        restored = λ server here. (let old = k.restored server here in let now = settle_rolling s q asking carried view fit old.rolling in
            record { handles = old.handles; rolling = now.1; said = subst (λ e. Was server (bodies.Learned e old.handles)) (sym now.0) old.said; named = old.named });
      }
        where
          removed : fin.get (fin.remove s.volatile.moving q) chunk ≡ None
          removed = ap (λ c. fin.get (fin.remove s.volatile.moving c) chunk) (same_number q chunk same) ∙ fin.get-remove nat_cmp_total s.volatile.moving chunk chunk ∙ ap (λ o. cond (is_eq o) None (fin.get s.volatile.moving chunk)) (tied_itself nat_cmp_total chunk)
      by_key false other =
          leaves_so Was chunk s u (record { view = settle_view chunk s q asking carried view other fit; restored = refl; rolling = settle_rolling s q asking carried view fit }) (change_asked chunk s.volatile (changes.Settled q) refl) k

  answers_so : (req : ReqId) (answer : Answer) (over : Bool) → AllFit s (move_turn config s (AnswersCall req answer over)) → IsAskedSo Was (move_turn config s (AnswersCall req answer over)).after chunk
  answers_so req answer false fit = (let m = answer_moving s s.volatile req answer in plain_so (answered s req answer) refl m.0 m.1 fit)
  answers_so req answer true fit =
      let more = changed_more (answer_changes s req answer) (changes.End req ∷ []) s.volatile in
      let m = answer_moving s s.volatile req answer in
      plain_so (end_plan s req answer) refl (ap (λ (v : Volatile). v.moving) more ∙ m.0) (ap (λ (v : Volatile). v.restored) more ∙ m.1) fit

  refuses_so : (req : ReqId) (refusal : Refusal) (over : Bool) → AllFit s (move_turn config s (Refuses req refusal over)) → IsAskedSo Was (move_turn config s (Refuses req refusal over)).after chunk
  refuses_so req refusal true fit =
      let e = ended_asked chunk s req refusal in
      leaves_so Was chunk s (move_turn config s (Refuses req refusal true)).after (plan_around chunk s (plan_of_refusal s req refusal true) (said_usual chunk s req refusal) e.1 fit) e.0 k
  refuses_so req refusal false fit =
      let m = said_moving s req refusal in
      let more = changed_more (said_changes (keeps_refusal s req refusal) s.log req refusal) [] s.volatile in
      plain_so (plan_of_refusal s req refusal false) (said_usual chunk s req refusal) (ap (λ (v : Volatile). v.moving) more ∙ m.0) (ap (λ (v : Volatile). v.restored) more ∙ m.1) fit

  restores_so : (server : ℕ) (chunks : List ℕ) → MayRestore heard s server chunks → IsAskedSo Was (move_turn config s (Restores server chunks)).after chunk
  restores_so server chunks may = record {
    asked = λ b has. still_for Was chunk s u b b (same_view chunk s.durable u.durable refl) refl (k.asked b has);
    restored = λ j here. by_who j (restored_in chunk j server chunks s.volatile.restored here);
  }
    where
      u : State
      u = (move_turn config s (Restores server chunks)).after

      by_who : (j : ℕ) → ((j ≡ server) × (is_member chunks chunk ≡ true)) ⊎ (is_member (servers_or_none (fin.get s.volatile.restored chunk)) j ≡ true) → HasNamed Was u chunk j
      by_who j (inl both) = record { handles = chunks; rolling = may.rolling; said = subst (λ x. Was x (bodies.Learned (s.durable.epoch) chunks)) (sym both.0) (was server (bodies.Learned (s.durable.epoch) chunks) may.said); named = both.1 }
      by_who j (inr here) = (let old = k.restored j here in record { handles = old.handles; rolling = old.rolling; said = old.said; named = old.named })

  commits_so : (req : ReqId) (names : NamesView) → IsAskedSo Was (move_turn config s (CommitsRollback req names)).after chunk
  commits_so req names =
      let m = accepted_moving s (changes.RolledBack ∷ []) req (answers.Epoch s.durable.epoch) in
      record {
        asked = λ b has. absurd (false≢true (sym (ap is_some (ap (λ x. fin.get x chunk) m.0 ∙ fin.get-empty nat_cmp chunk)) ∙ ap is_some has));
        restored = λ j here. absurd (false≢true (sym (ap (λ o. is_member (servers_or_none o) j) (ap (λ x. fin.get x chunk) m.1 ∙ fin.get-empty nat_cmp chunk)) ∙ here));
      }

  pub move_so : (move : Move) → IsMade config heard s move → IsAskedSo Was (move_turn config s move).after chunk
  move_so (Begins q purpose call beside) made = begins_so Was chunk config heard s q purpose call beside made.may made.fits k
  move_so (Makes targets req path) made =
      let chunk_new = s.durable.next_handle in
      new_so Was chunk s (move_turn config s (Makes targets req path)).after (asking_for (next_stamp s.durable) purposes.Quiet targets (Some req)) targets req refl made.may.0
      (plan_around chunk s (plan_of_make s targets req path) refl refl made.fits) refl k
  move_so (Copies old view req beside) made =
      let plan = copy_plan (next_stamp s.durable) old view s.durable.next_handle req in
      new_so Was chunk s (move_turn config s (Copies old view req beside)).after (asking_for (next_stamp s.durable) purposes.Quiet view.members (Some req)) view.members req refl made.may.0.fresh
      (beside_around chunk s plan beside refl refl made.fits) (beside_moving s plan beside) k
  move_so (Hears q new) made = hears_so q new made.may made.fits
  move_so (Sends q asking source target) made = sends_so q asking source target made.may made.fits
  move_so (Settles q asking carried view) made = settles_so q asking carried view made.fits
  move_so (Edits req edit answer) made = plain_so (accept_plan req edit answer) refl refl refl made.fits
  move_so (Extends req path q view) made = plain_so (edit_plan req (AddChunk path q) (answers.Location q view s.durable.epoch) (changes.Place q ∷ [])) refl refl refl made.fits
  move_so (CopiesTree req from to) made = plain_so (edit_plan req (Snapshot from to) answers.Nothing []) refl refl refl made.fits
  move_so (Replaces path index old new) made = plain_so (replace_plan path index old new) refl refl refl made.fits
  move_so (Scans gone forgotten) made =
      leaves_so Was chunk s (move_turn config s (Scans gone forgotten)).after (plan_around chunk s (scan_plan gone forgotten) (scan_usual chunk own_request (scan_edits gone forgotten)) refl made.fits) (change_asked chunk s.volatile (changes.Forget forgotten) refl) k
  move_so (Refuses req refusal over) made = refuses_so req refusal over made.fits
  move_so (AnswersCall req answer over) made = answers_so req answer over made.fits
  move_so (Waits req waiting) made = plain_so (begin_pending req waiting) refl refl refl made.fits
  move_so (Restores server chunks) made = restores_so server chunks made.may
  move_so (Says messages) made = k
  move_so (Flags req preparing epoch) made =
      let m = accepted_moving s (changes.Prepare preparing ∷ []) req (answers.Epoch epoch) in plain_so (accepted_plan s req [] (changes.Prepare preparing ∷ []) [] epoch) refl m.0 m.1 made.fits
  move_so (Prepares req moment) made =
      let m = accepted_moving s (changes.Prepare false ∷ []) req (answers.Epoch (s.durable.epoch + 1)) in
      plain_so (accepted_plan s req (Prepare (s.durable.epoch + 1) moment.0 (chunk_count s) ∷ []) (changes.Prepare false ∷ []) (tell_all config (s.durable.epoch + 1) ends.Prepare) (s.durable.epoch + 1)) refl m.0 m.1 made.fits
  move_so (Finalizes req) made =
      let m = accepted_moving s [] req (answers.Epoch (s.durable.epoch + 1)) in
      plain_so (accepted_plan s req (Finalize (s.durable.epoch + 1) ∷ []) [] (tell_all config (s.durable.epoch + 1) ends.Finalize) (s.durable.epoch + 1)) refl m.0 m.1 made.fits
  move_so BeginsRollback made = plain_so (plan_of_rollback s) refl refl refl made.fits
  move_so (TellsRollback req epoch) made = (let m = accepted_moving s [] req (answers.Epoch epoch) in plain_so (accepted_plan s req [] [] (tell_all config epoch ends.Rollback) epoch) refl m.0 m.1 made.fits)
  move_so (CommitsRollback req names) made = commits_so req names
  move_so Checkpoints made =
      leaves_so Was chunk s (move_turn config s Checkpoints).after (record { view = tidied_view chunk s.durable; restored = refl; rolling = as_before s.durable (tidied s.durable) refl refl })
      (λ b has. (b, all_removed chunk (without_place s) s.volatile.moving b has, refl)) k

-- ---- every event

pub chain_so : (Was : ℕ → Body → Type 0) (chunk : ℕ) (config : Config) (heard : Heard) → WasHeard Was heard → (s : State) (t : Turn) → Chain config (IsMade config heard) s t → IsAskedSo Was s chunk → IsAskedSo Was t.after chunk
chain_so Was chunk config heard was s t (Rests u said) k = k
chain_so Was chunk config heard was s t (Moves u move said made) k = move_so Was chunk config heard was u k move made
chain_so Was chunk config heard was s t (Then u first next a b) k = chain_so Was chunk config heard was first.after next b (chain_so Was chunk config heard was u first a k)

-- a restart drops what is asked
pub starts_so : (Was : ℕ → Body → Type 0) (d : Durable) (log : Log) (chunk : ℕ) → IsAskedSo Was (restarted d log) chunk
starts_so Was d log chunk = record {
  asked = λ b has. absurd (false≢true (sym (ap is_some (fin.get-empty nat_cmp chunk)) ∙ ap is_some has));
  restored = λ j here. absurd (false≢true (sym (ap (λ o. is_member (servers_or_none o) j) (fin.get-empty nat_cmp chunk)) ∙ here));
}

met_so : (Was : ℕ → Body → Type 0) (chunk : ℕ) (s : State) (event : Event) → IsAskedSo Was s chunk → IsAskedSo Was (met_in s event) chunk
met_so Was chunk s (Comes message moment) k = k
met_so Was chunk s (Ticks moment) k = k
met_so Was chunk s Renews k = k
met_so Was chunk s Restarts k = starts_so Was s.durable s.log chunk

-- more has been said
pub more_so : (Was Now : ℕ → Body → Type 0) → ((server : ℕ) (body : Body) → Was server body → Now server body) → (s : State) (chunk : ℕ) → IsAskedSo Was s chunk → IsAskedSo Now s chunk
more_so Was Now f s chunk k = record {
  asked = λ b has. (let old = k.asked b has in record {
    members = old.members;
    elsewhere = old.elsewhere;
    answered = λ server count e. (let w = old.answered server count e in record { on = w.on; carried = w.carried; said = f server (bodies.About chunk (abouts.Promised (b.stamp) count w.carried)) w.said });
    source = old.source;
  });
  restored = λ j here. (let old = k.restored j here in record { handles = old.handles; rolling = old.rolling; said = f j (bodies.Learned (s.durable.epoch) old.handles) old.said; named = old.named });
}

pub event_so : (Was : ℕ → Body → Type 0) (config : Config) (s : State) (event : Event) (chunk : ℕ) → IsNamed event → IsFirm s → WasHeard Was (heard_in event) → IsAskedSo Was s chunk → IsAskedSo Was (turn_of config s event).after chunk
event_so Was config s event chunk named firm was k =
    chain_so Was chunk config (heard_in event) was (met_in s event) (turn_of config s event) (events_are_chains config s event named firm) (met_so Was chunk s event k)

pub stays_asked_so : StaysAskedSo
stays_asked_so said more within config s event chunk named firm was k = event_so (WasIn more) config s event chunk named firm was (more_so (WasIn said) (WasIn more) (λ server body here. within (server, body) here) s chunk k)

pub starts_asked_so : StartsAskedSo
starts_asked_so said d log chunk = starts_so (WasIn said) d log chunk

pub each_move_asks_so : EachMoveAsksSo
each_move_asks_so said config heard s move chunk was made k = move_so (WasIn said) chunk config heard was s k move made
