-- A new chunk that isn't settled is asked for, through each move.
use Rattle.std.proofs.Common.{◌≡◌, arith, ◌∙◌, ◌==◌, ◌&&◌, ◌||◌, ◌+◌, ◌++◌, ℕ, Bool, true, false, not, cond, List, [], ◌∷◌, filter, refl, ap, sym, subst}
use Rattle.std.specs.Prelude.{flat_map, fold, is_none, is_some, map, nat_lt, option_and_then, Option, Some, None, Result, Ok, Err, if◌then◌else◌}
use Rattle.std.specs.Cmp.{nat_cmp_total}
use Rattle.std.specs.FinMap as fin
use Rattle.std.specs.List.{list_all}
use Rattle.std.specs.Ordering.{eq_by_cmp, nat_cmp}
use Rattle.std.proofs.lemmas.Bool.{false≢true, true≢false, and_parts}
use Rattle.std.proofs.lemmas.Bool.Decides.{nat_tests}
use Rattle.gs_base.specs.Members.{is_member}
use Rattle.gs_base.specs.declared.epoch.EpochEnd.TheVariants as ends
use Rattle.gs_base.specs.declared.numbers.ReqId.{ReqId}
use Rattle.gs_base.specs.declared.refusal.Refusal.{Refusal}
use Rattle.gs_edit.specs.View.{NamesView}
use Rattle.gs_master_record.specs.Plain.{AddChunk, Create, Hide, Mkdirs, PlainEdit, PlainEntry, Remove, Rename, Snapshot, Unhide, Edited, Finalize, Holder, Prepare, Propose, RollbackBegin, RollbackCommit, Said, Settle, Whole}
use Rattle.gs_master_record.specs.declared.checkpoint.Phase.TheVariants.{Ordinary, Upgrade, Rolling}
use Rattle.gs_master_spec.specs.Applied.{after_edit, applied, are_at_rest, forgotten_by, held_by, is_next_epoch, may_be_settled, may_edit, may_propose, proposed, replayed, with_edit, with_epoch, with_proposal, with_view, without_chunks, without_prepared}
use Rattle.gs_master_spec.specs.Durable.{Durable, Settled, is_ordinary, is_upgrade, kept_before, prepared_view, with_prepared}
use Rattle.gs_master_spec.specs.Undoing.{edited_names}
use Rattle.gs_master_spec.specs.Volatile.{Volatile, all_changed, changed, is_call, let_go, let_go_of, without_call}
use Rattle.gs_master_spec.specs.declared.asking.Asking.{Asking}
use Rattle.gs_master_spec.specs.declared.change.Change.{Change}
use Rattle.gs_master_spec.specs.declared.change.Change.TheVariants as changes
use Rattle.gs_laws_master.proofs.lemmas.upgrades.Beginnings.{fits_gives}
use Rattle.gs_laws_master.proofs.lemmas.keeping.KeptViews.{same_key}
use Rattle.gs_laws_master.proofs.lemmas.standing.StandingCheckpoints.{member_was}
use Rattle.gs_lease.specs.declared.view.Purpose.TheVariants as purposes
use Rattle.gs_lease.specs.declared.view.View.{View}
use Rattle.gs_base.specs.declared.config.Config.{Config}
use Rattle.gs_msg.specs.declared.answer.Answer.{Answer}
use Rattle.gs_msg.specs.declared.answer.Answer.TheVariants as answers
use Rattle.gs_path.specs.Path.{Path}
use Rattle.gs_master_spec.specs.Beginning.{begin_at, copy_plan, next_stamp}
use Rattle.gs_master_spec.specs.Calls.{accept_plan}
use Rattle.gs_master_spec.specs.Chunks.{asking_for, holder_records, is_holder, target_of}
use Rattle.gs_master_spec.specs.Handling.{awaits_first, without_place}
use Rattle.gs_master_spec.specs.Hearing.{ask_plan, is_with_sealed, send_plan}
use Rattle.gs_master_spec.specs.Replies.{is_later}
use Rattle.gs_master_spec.specs.Settling.{edit_plan, end_plan, own_request, replace_plan}
use Rattle.gs_master_spec.specs.State.{State, Plan, Turn, answer_changes, answered, fits, keeps_refusal, kept_in_memory, last_reply, said_changes, said_records, turned}
use Rattle.gs_master_spec.specs.Upgrades.{accepted_plan, chunk_count, tell_all}
use Rattle.gs_master_spec.specs.Working.{begin_pending, forget_if, scan_plan}
use Rattle.gs_laws_master.specs.Promises.{AllFit}
use Rattle.gs_laws_master.specs.Standing.{Event, Comes, Ticks, Renews, Restarts, turn_of}
use Rattle.gs_laws_master.proofs.lemmas.standing.Standing.{changed_more}
use Rattle.gs_laws_moves.proofs.lemmas.moves.Asked.{got}
use Rattle.gs_laws_moves.proofs.lemmas.moves.Fitting.{split}
use Rattle.gs_laws_moves.proofs.lemmas.moves.Made.{events_are_chains}
use Rattle.gs_laws_moves.proofs.lemmas.moves.Right.{one_fits, settled_gives}
use Rattle.gs_laws_moves.specs.moves.Guards.{Heard, IsMade, is_of_tree}
use Rattle.gs_laws_moves.specs.moves.Laws.{heard_in, met_in}
use Rattle.gs_laws_moves.specs.moves.Moved.{EachMoveAwaits, IsAwaited, KnownAreSought, StartsAwaited, StaysAwaited}
use Rattle.gs_laws_moves.specs.moves.Moves.{Chain, Rests, Moves, Then, Alone, Beside, FromNow, Further, Move, Begins, Makes, Copies, Hears, Sends, Settles, Edits, Extends, CopiesTree, Replaces, Scans, Refuses, Answers as AnswersCall, Waits, Restores, Says, Flags, Prepares, Finalizes, BeginsRollback, TellsRollback, CommitsRollback, Checkpoints, move_turn, plan_of_begin, plan_of_copy, plan_of_make, plan_of_refusal, plan_of_restore, plan_of_rollback, plan_of_settle, with_beside}

durable_is : {a b : Durable} → ◌≡◌ {A = Option Durable} (Some a) (Some b) → a ≡ b
durable_is k = cc

same_number : (a b : ℕ) → (a == b) ≡ true → a ≡ b
same_number a b h = grind (arith, nat_tests)

itself : (n : ℕ) → (n == n) ≡ true
itself n = grind (arith, nat_tests)

-- ---- a chunk that is settled stays so

-- a record that doesn't forget the chunk, and no rollback or checkpoint
spares : ℕ → PlainEntry → Bool
spares chunk (Edited by edit) = not (is_member (forgotten_by edit) chunk)
spares chunk (RollbackCommit epoch answers) = false
spares chunk (Whole c) = false
spares chunk entry = true

module _ (chunk : ℕ) where
  abbrev StillSettled : Durable → Durable → Type 0
  StillSettled d e = is_some (fin.get d.chunks chunk) ≡ true → is_some (fin.get e.chunks chunk) ≡ true

  same_chunks : (d e : Durable) → e.chunks ≡ d.chunks → StillSettled d e
  same_chunks d e same some = ap (λ m. is_some (fin.get m chunk)) same ∙ some

  put_in : {A : Type 0} (m : fin.FinMap nat_cmp A) (q : ℕ) (x : A) → is_some (fin.get m chunk) ≡ true → is_some (fin.get (fin.insert m q x) chunk) ≡ true
  put_in m q x some = ap is_some (fin.get-insert nat_cmp_total m q x chunk) ∙ by_key (eq_by_cmp nat_cmp chunk q)
    where
      by_key : (b : Bool) → is_some (cond b (Some x) (fin.get m chunk)) ≡ true
      by_key true = refl
      by_key false = some

  taken_out : {A : Type 0} (m : fin.FinMap nat_cmp A) (q : ℕ) → (q == chunk) ≡ false → is_some (fin.get m chunk) ≡ true → is_some (fin.get (fin.remove m q) chunk) ≡ true
  taken_out m q other some = ap is_some (fin.get-remove nat_cmp_total m q chunk) ∙ by_key (eq_by_cmp nat_cmp chunk q) refl
    where
      by_key : (b : Bool) → eq_by_cmp nat_cmp chunk q ≡ b → is_some (cond b None (fin.get m chunk)) ≡ true
      by_key true same = absurd (true≢false (sym (itself q) ∙ ap (λ x. q == x) (sym (same_key chunk q same)) ∙ other))
      by_key false is = some

  either_none : (a b : Bool) → (a || b) ≡ false → (a ≡ false) × (b ≡ false)
  either_none true b h = absurd (true≢false h)
  either_none false b h = (refl, h)

  all_taken : {A : Type 0} (qs : List ℕ) (m : fin.FinMap nat_cmp A) → is_member qs chunk ≡ false → is_some (fin.get m chunk) ≡ true → is_some (fin.get (fold fin.remove m qs) chunk) ≡ true
  all_taken [] m out some = some
  all_taken (q ∷ qs) m out some = (let parts = either_none (q == chunk) (is_member qs chunk) out in all_taken qs (fin.remove m q) parts.1 (taken_out m q parts.0 some))

  forgets_others : (qs : List ℕ) (d : Durable) → is_member qs chunk ≡ false → StillSettled d (without_chunks d qs)
  forgets_others [] d out some = some
  forgets_others (q ∷ qs) d out some =
      let parts = either_none (q == chunk) (is_member qs chunk) out in forgets_others qs (record d { chunks = fin.remove d.chunks q; prepared = kept_before d q }) parts.1 (taken_out d.chunks q parts.0 some)

  not_true : (b : Bool) → not b ≡ true → b ≡ false
  not_true true h = absurd (false≢true h)
  not_true false h = refl

  proposed_settled : (d : Durable) (q version : ℕ) → StillSettled d (proposed d q version)
  proposed_settled d q version some = by_settled (fin.get d.chunks q)
    where
      by_settled : (o : Option Settled) → is_some (fin.get (with_proposal d q o) chunk) ≡ true
      by_settled None = some
      by_settled (Some y) = put_in d.chunks q (record y { is_moving = true }) some

  edited_settled : (d e : Durable) (by : ReqId) (edit : PlainEdit) → is_member (forgotten_by edit) chunk ≡ false → (names : Result NamesView Refusal) → after_edit d by edit names ≡ Some e → StillSettled d e
  edited_settled d e by edit out (Ok names) fit = subst (StillSettled d) (fits_gives (may_edit d edit) (with_edit d by edit names) e fit).1 (forgets_others (forgotten_by edit) d out)
  edited_settled d e by edit out (Err refusal) fit = absurd (false≢true (ap is_some fit))

  record_settled : (d e : Durable) (entry : PlainEntry) → spares chunk entry ≡ true → applied d entry ≡ Some e → StillSettled d e
  unfolding applied spares
  record_settled d e (Edited by edit) out fit = edited_settled d e by edit (not_true (is_member (forgotten_by edit) chunk) out) (edited_names edit d.names) fit
  record_settled d e (Said to refusal) out fit = same_chunks d e (ap (λ (x : Durable). x.chunks) (sym (durable_is fit)))
  record_settled d e (Propose q version) out fit =
      subst (StillSettled d) (fits_gives (may_propose d.phase d.next_handle d.next_version q version (fin.get d.chunks q)) (proposed d q version) e fit).1 (proposed_settled d q version)
  record_settled d e (Settle v) out fit = subst (StillSettled d) (fits_gives (may_be_settled d v) (with_view d v) e fit).1 (put_in d.chunks v.handle (record { view = v.view; is_moving = false }))
  record_settled d e (Prepare epoch moment many) out fit =
      same_chunks d e (ap (λ (x : Durable). x.chunks) (sym (fits_gives (is_ordinary d.phase && (is_next_epoch d.epoch epoch && are_at_rest d)) (without_prepared (with_epoch d ends.Prepare Upgrade)) e fit).1))
  record_settled d e (Finalize epoch) out fit = same_chunks d e (ap (λ (x : Durable). x.chunks) (sym (fits_gives (is_upgrade d.phase && is_next_epoch d.epoch epoch) (without_prepared (with_epoch d ends.Finalize Ordinary)) e fit).1))
  record_settled d e (RollbackBegin epoch) out fit = same_chunks d e (ap (λ (x : Durable). x.chunks) (sym (fits_gives (is_upgrade d.phase && is_next_epoch d.epoch epoch) (with_epoch d ends.Rollback Rolling) e fit).1))
  record_settled d e (RollbackCommit epoch answers) out fit = absurd (false≢true out)
  record_settled d e (Whole c) out fit = absurd (false≢true out)
  record_settled d e (Holder q server) out fit =
      same_chunks d e (ap (λ (x : Durable). x.chunks) (sym (fits_gives (is_upgrade d.phase && (nat_lt server 16 && is_some (prepared_view d q))) (record d { prepared = with_prepared d q (held_by server (prepared_view d q)) }) e fit).1))

  records_settled : (entries : List PlainEntry) (d e : Durable) → list_all (spares chunk) entries ≡ true → replayed d entries ≡ Some e → StillSettled d e
  records_settled [] d e all fit = same_chunks d e (ap (λ (x : Durable). x.chunks) (sym (durable_is fit)))
  records_settled (entry ∷ entries) d e all fit =
      let parts = and_parts (spares chunk entry) (list_all (spares chunk) entries) all in
      by_first (applied d entry) refl fit (λ n is h some. records_settled entries n e parts.1 h (record_settled d n entry parts.0 is some))
    where
      by_first : (o : Option Durable) → applied d entry ≡ o → option_and_then (λ n. replayed n entries) o ≡ Some e → ((n : Durable) → applied d entry ≡ Some n → replayed n entries ≡ Some e → StillSettled d e) → StillSettled d e
      by_first None is h rest = absurd (false≢true (ap is_some h))
      by_first (Some n) is h rest = rest n is h

  -- ---- what is asked for it stays asked, or it is new no more

  abbrev IsSought : Volatile → Type 0
  IsSought v = is_member v.unplaced chunk ≡ true → is_some (fin.get v.moving chunk) ≡ true

  -- a change that could leave a new chunk unasked
  bares : Change → Bool
  bares (changes.Settled q) = q == chunk
  bares (changes.Enter q) = q == chunk
  bares (changes.Forget qs) = is_member qs chunk
  bares change = false

  entered : (xs : List ℕ) (q : ℕ) → (q == chunk) ≡ false → is_member (xs ++ q ∷ []) chunk ≡ true → is_member xs chunk ≡ true
  entered [] q other here = absurd (true≢false (sym here ∙ ap (λ b. b || false) other))
  entered (x ∷ xs) q other here = by_head (x == chunk) here (entered xs q other)
    where
      by_head : (b : Bool) → (b || is_member (xs ++ q ∷ []) chunk) ≡ true → (is_member (xs ++ q ∷ []) chunk ≡ true → is_member xs chunk ≡ true) → (b || is_member xs chunk) ≡ true
      by_head true k rest = refl
      by_head false k rest = rest k

  -- a chunk that is taken out of a list is in it no more
  gone_from : (xs : List ℕ) → is_member (filter (λ c. not (c == chunk)) xs) chunk ≡ false
  gone_from [] = refl
  gone_from (x ∷ xs) = by_test (x == chunk) refl (gone_from xs)
    where
      by_test : (b : Bool) → (x == chunk) ≡ b → is_member (filter (λ c. not (c == chunk)) xs) chunk ≡ false → is_member (cond (not b) (x ∷ filter (λ c. not (c == chunk)) xs) (filter (λ c. not (c == chunk)) xs)) chunk ≡ false
      by_test true is rest = rest
      by_test false is rest = ap (λ b. b || is_member (filter (λ c. not (c == chunk)) xs) chunk) is ∙ rest

  lost_sought : (v : Volatile) (q : ℕ) → IsSought v → IsSought (changed v (changes.Lose q))
  lost_sought v q k = by_key (q == chunk) refl
    where
      by_key : (b : Bool) → (q == chunk) ≡ b → IsSought (changed v (changes.Lose q))
      by_key true same here = absurd (true≢false (sym here ∙ ap (λ x. is_member (filter (λ c. not (c == x)) v.unplaced) chunk) (same_number q chunk same) ∙ gone_from v.unplaced))
      by_key false other here = taken_out v.moving q other (k (member_was (λ c. not (c == q)) v.unplaced chunk here))

  change_sought : (v : Volatile) (change : Change) → bares change ≡ false → IsSought v → IsSought (changed v change)
  unfolding bares
  change_sought v (changes.Ask q asking) other k here = put_in v.moving q asking (k here)
  change_sought v (changes.Settled q) other k here = taken_out v.moving q other (k here)
  change_sought v (changes.Enter q) other k here = k (entered v.unplaced q other here)
  change_sought v (changes.Place q) other k here = k (member_was (λ c. not (c == q)) v.unplaced chunk here)
  change_sought v (changes.Lose q) other k here = lost_sought v q k here
  change_sought v (changes.Forget qs) other k here = all_taken qs v.moving other (k here)
  change_sought v changes.RolledBack other k here = absurd (false≢true here)
  change_sought v change other k here = k here

  changes_sought : (all : List Change) (v : Volatile) → list_all (λ c. not (bares c)) all ≡ true → IsSought v → IsSought (all_changed v all)
  changes_sought [] v none k = k
  changes_sought (change ∷ all) v none k =
      let parts = and_parts (not (bares change)) (list_all (λ c. not (bares c)) all) none in changes_sought all (changed v change) parts.1 (change_sought v change (not_true (bares change) parts.0) k)

  loosed_sought : (new : List ℕ) (req : ReqId) (es : List (ℕ × Asking)) (v : Volatile) → IsSought v → IsSought (all_changed v (flat_map (let_go_of new req) es))
  loosed_sought new req [] v k = k
  loosed_sought new req (e ∷ es) v k = by_call (λ w. loosed_sought new req es w) (is_call req e.1.call) (is_member new e.0)
    where
      by_call : ((w : Volatile) → IsSought w → IsSought (all_changed w (flat_map (let_go_of new req) es))) → (c n : Bool)
          → IsSought (all_changed v ((if not c then [] else if n then changes.Lose e.0 ∷ [] else changes.Ask e.0 (without_call e.1) ∷ []) ++ flat_map (let_go_of new req) es))
      by_call rest false n = rest v k
      by_call rest true true = rest (changed v (changes.Lose (e.0))) (lost_sought v e.0 k)
      by_call rest true false = rest (changed v (changes.Ask (e.0) (without_call e.1))) (λ here. put_in v.moving e.0 (without_call e.1) (k here))

  -- ---- each move

  more_sought : (xs ys : List Change) (v : Volatile) → (IsSought v → IsSought (all_changed v xs)) → (IsSought (all_changed v xs) → IsSought (all_changed (all_changed v xs) ys)) → IsSought v → IsSought (all_changed v (xs ++ ys))
  more_sought xs ys v a b k = subst IsSought (sym (changed_more xs ys v)) (b (a k))

  answer_sought : (s : State) (v : Volatile) (req : ReqId) (answer : Answer) → IsSought v → IsSought (all_changed v (answer_changes s req answer))
  answer_sought s v req answer k = by_test (is_later (last_reply s req.client) req.number)
    where
      by_test : (b : Bool) → IsSought (all_changed v (if b then kept_in_memory req (Ok answer) ∷ [] else []))
      by_test true = k
      by_test false = k

  said_sought : (s : State) (v : Volatile) (req : ReqId) (refusal : Refusal) → IsSought v → IsSought (all_changed v (said_changes (keeps_refusal s req refusal) s.log req refusal))
  said_sought s v req refusal k = by_test (keeps_refusal s req refusal && not (fits s.log (Said req refusal ∷ [])))
    where
      by_test : (b : Bool) → IsSought (all_changed v (if b then kept_in_memory req (Err refusal) ∷ [] else []))
      by_test true = k
      by_test false = k

  beside_sought : (s : State) (plan : Plan) (beside : Beside) → (IsSought s.volatile → IsSought (all_changed s.volatile plan.changes)) → IsSought s.volatile → IsSought (all_changed s.volatile (with_beside beside plan).changes)
  beside_sought s plan Alone a = a
  beside_sought s plan (FromNow req waiting) a = more_sought plan.changes (changes.Begin (record { req = req; waits = waiting }) ∷ []) s.volatile a (λ k. k)
  beside_sought s plan (Further req waiting) a = more_sought plan.changes (changes.Wait req waiting ∷ []) s.volatile a (λ k. k)

  -- where the records leave a settled chunk settled, and the changes one that is new asked for
  plan_awaited : (s : State) (plan : Plan) → list_all (spares chunk) plan.records ≡ true → (IsSought s.volatile → IsSought (all_changed s.volatile plan.changes)) → AllFit s (turned s plan) → IsAwaited s chunk → IsAwaited (turned s plan).after chunk
  plan_awaited s plan spare sought fit k here none =
      sought (λ was. k was (by_settled (fin.get s.durable.chunks chunk) refl)) here
    where
      u : State
      u = (turned s plan).after

      by_settled : (o : Option Settled) → fin.get s.durable.chunks chunk ≡ o → o ≡ None
      by_settled None is = refl
      by_settled (Some x) is = absurd (false≢true (sym (ap is_some none) ∙ records_settled plan.records s.durable u.durable spare fit (ap is_some is)))

  -- a new chunk is entered and asked for
  entered_sought : (v : Volatile) (q : ℕ) (asking : Asking) → IsSought v → IsSought (changed (changed v (changes.Enter q)) (changes.Ask q asking))
  entered_sought v q asking k here = by_key (q == chunk) refl
    where
      by_key : (b : Bool) → (q == chunk) ≡ b → is_some (fin.get (fin.insert v.moving q asking) chunk) ≡ true
      by_key true same = ap (λ c. is_some (fin.get (fin.insert v.moving c asking) chunk)) (same_number q chunk same) ∙ ap is_some (got v.moving chunk asking)
      by_key false other = put_in v.moving q asking (k (entered v.unplaced q other here))

  beside_records : (plan : Plan) (beside : Beside) → list_all (spares chunk) (with_beside beside plan).records ≡ list_all (spares chunk) plan.records
  beside_records plan Alone = refl
  beside_records plan (FromNow req waiting) = refl
  beside_records plan (Further req waiting) = refl

  said_spares : (s : State) (req : ReqId) (refusal : Refusal) → list_all (spares chunk) (said_records (keeps_refusal s req refusal) s.log req refusal) ≡ true
  unfolding spares
  said_spares s req refusal = by_test (keeps_refusal s req refusal && fits s.log (Said req refusal ∷ []))
    where
      by_test : (b : Bool) → list_all (spares chunk) (if b then Said req refusal ∷ [] else []) ≡ true
      by_test true = refl
      by_test false = refl

  settle_spares : (b : Bool) (q : ℕ) (target : Option ℕ) (view : View) → list_all (spares chunk) (holder_records b q target ++ Settle (record { handle = q; view = view }) ∷ []) ≡ true
  unfolding spares
  settle_spares b q None view = refl
  settle_spares true q (Some target) view = refl
  settle_spares false q (Some target) view = refl

  tree_spares : (edit : PlainEdit) → is_of_tree edit ≡ true → (not (is_member (forgotten_by edit) chunk) && true) ≡ true
  tree_spares (Mkdirs path) tree = refl
  tree_spares (Create path) tree = refl
  tree_spares (Rename from to) tree = refl
  tree_spares (Hide path moment number) tree = refl
  tree_spares (Unhide path) tree = refl
  tree_spares (Snapshot from to) tree = refl
  tree_spares edit tree = absurd (false≢true tree)

  scan_spares : (removed : List Path) (forgotten : List ℕ) → is_member forgotten chunk ≡ false → list_all (spares chunk) (map (Edited own_request) (map (λ path. Remove path) removed ++ forget_if forgotten)) ≡ true
  unfolding spares
  scan_spares [] [] out = refl
  scan_spares [] (c ∷ forgotten) out = ap (λ b. not b && true) out
  scan_spares (path ∷ removed) forgotten out = scan_spares removed forgotten out

  -- what a scan forgets isn't new
  scanned_awaited : (s : State) (removed : List Path) (forgotten : List ℕ) → (is_member s.volatile.unplaced chunk ≡ true → is_member forgotten chunk ≡ false) → AllFit s (turned s (scan_plan removed forgotten)) → IsAwaited s chunk → IsAwaited (turned s (scan_plan removed forgotten)).after chunk
  unfolding bares
  scanned_awaited s removed forgotten placed fit k here none =
      let out = placed here in plan_awaited s (scan_plan removed forgotten) (scan_spares removed forgotten out) (changes_sought (changes.Forget forgotten ∷ []) s.volatile (ap (λ b. not b && true) out)) fit k here none

  -- a checkpoint leaves those that wait for their first view
  passes : (f : ℕ → Bool) (xs : List ℕ) → is_member (filter f xs) chunk ≡ true → f chunk ≡ true
  passes f [] here = absurd (false≢true here)
  passes f (x ∷ xs) here = by_test (f x) refl here (passes f xs)
    where
      by_head : (b : Bool) → (x == chunk) ≡ b → f x ≡ true → (b || is_member (filter f xs) chunk) ≡ true → (is_member (filter f xs) chunk ≡ true → f chunk ≡ true) → f chunk ≡ true
      by_head true is pass k rest = subst (λ c. f c ≡ true) (same_number x chunk is) pass
      by_head false is pass k rest = rest k

      by_test : (b : Bool) → f x ≡ b → is_member (cond b (x ∷ filter f xs) (filter f xs)) chunk ≡ true → (is_member (filter f xs) chunk ≡ true → f chunk ≡ true) → f chunk ≡ true
      by_test true is k rest = by_head (x == chunk) refl is k rest
      by_test false is k rest = rest k

  checkpoint_awaited : (s : State) → is_member (filter (awaits_first s) s.volatile.unplaced) chunk ≡ true → is_some (fin.get (fold fin.remove s.volatile.moving (without_place s)) chunk) ≡ true
  checkpoint_awaited s here =
      let both = and_parts (is_none (fin.get s.durable.chunks chunk)) (is_some (fin.get s.volatile.moving chunk)) (passes (awaits_first s) s.volatile.unplaced here) in all_taken (without_place s) s.volatile.moving (stays (is_member (without_place s) chunk) refl both.0) both.1
    where
      clash : (o : Option Settled) → is_none o ≡ true → is_some o ≡ true → ⊥
      clash None a b = false≢true b
      clash (Some x) a b = false≢true a

      stays : (b : Bool) → is_member (without_place s) chunk ≡ b → is_none (fin.get s.durable.chunks chunk) ≡ true → b ≡ false
      stays true is bare = absurd (clash (fin.get s.durable.chunks chunk) bare (passes (λ c. is_some (fin.get s.durable.chunks c)) s.volatile.unplaced is))
      stays false is bare = refl

  module _ (config : Config) (heard : Heard) (s : State) (k : IsAwaited s chunk) where
    move_awaited : (move : Move) → IsMade config heard s move → IsAwaited (move_turn config s move).after chunk
    unfolding spares bares
    move_awaited (Begins q purpose call beside) made =
        plan_awaited s (plan_of_begin s q purpose call beside) (beside_records (begin_at s q purpose call) beside) (beside_sought s (begin_at s q purpose call) beside (changes_sought (begin_at s q purpose call).changes s.volatile refl)) made.fits k
    move_awaited (Makes targets req path) made =
        let asking = asking_for (next_stamp s.durable) purposes.Quiet targets (Some req) in
        plan_awaited s (plan_of_make s targets req path) refl (entered_sought s.volatile s.durable.next_handle asking) made.fits k
    move_awaited (Copies old view req beside) made =
        let plan = copy_plan (next_stamp s.durable) old view s.durable.next_handle req in
        let asking = asking_for (next_stamp s.durable) purposes.Quiet view.members (Some req) in
        plan_awaited s (plan_of_copy s old view req beside) (beside_records plan beside) (beside_sought s plan beside (entered_sought s.volatile s.durable.next_handle asking)) made.fits k
    move_awaited (Hears q new) made = plan_awaited s (ask_plan q new) refl (changes_sought (ask_plan q new).changes s.volatile refl) made.fits k
    move_awaited (Sends q asking source target) made =
        plan_awaited s (send_plan q asking source target (is_with_sealed s.durable.phase (prepared_view s.durable q) source)) refl (changes_sought (changes.Ask q (record asking { source = Some source }) ∷ []) s.volatile refl) made.fits k
    move_awaited (Settles q asking carried view) made = by_key (q == chunk) refl
      where
        u : State
        u = (move_turn config s (Settles q asking carried view)).after

        holds : List PlainEntry
        holds = holder_records (is_holder s.durable.phase (prepared_view s.durable q) carried asking view) q (target_of asking.purpose)

        settled_here : (q == chunk) ≡ true → fin.get u.durable.chunks chunk ≡ None → ⊥
        settled_here same none =
            let parts = split holds (Settle (record { handle = q; view = view }) ∷ []) s.durable u.durable made.fits in
            let has = settled_gives parts.mid u.durable q view (one_fits parts.mid u.durable (Settle (record { handle = q; view = view })) parts.then) in
            false≢true (sym (ap is_some none) ∙ ap (λ c. is_some (fin.get u.durable.chunks c)) (sym (same_number q chunk same)) ∙ ap is_some has)

        by_key : (b : Bool) → (q == chunk) ≡ b → IsAwaited u chunk
        by_key true same = λ here none. absurd (settled_here same none)
        by_key false other =
            plan_awaited s (plan_of_settle s q asking carried view) (settle_spares (is_holder s.durable.phase (prepared_view s.durable q) carried asking view) q (target_of asking.purpose) view)
            (changes_sought (changes.Settled q ∷ []) s.volatile (ap (λ b. not b && true) other)) made.fits k
    move_awaited (Edits req edit answer) made = plan_awaited s (accept_plan req edit answer) (tree_spares edit made.may.tree) (λ j. j) made.fits k
    move_awaited (Extends req path q view) made =
        let plan = edit_plan req (AddChunk path q) (answers.Location q view s.durable.epoch) (changes.Place q ∷ []) in plan_awaited s plan refl (changes_sought plan.changes s.volatile refl) made.fits k
    move_awaited (CopiesTree req from to) made = plan_awaited s (edit_plan req (Snapshot from to) answers.Nothing []) refl (λ j. j) made.fits k
    move_awaited (Replaces path index old new) made = plan_awaited s (replace_plan path index old new) refl (changes_sought (changes.Place new ∷ []) s.volatile refl) made.fits k
    move_awaited (Scans removed forgotten) made = scanned_awaited s removed forgotten (made.may.placed chunk) made.fits k
    move_awaited (Refuses req refusal true) made =
        let first = said_changes (keeps_refusal s req refusal) s.log req refusal in
        let v = all_changed s.volatile first in
        plan_awaited s (plan_of_refusal s req refusal true) (said_spares s req refusal)
        (more_sought first (let_go s.volatile req ++ changes.End req ∷ []) s.volatile (said_sought s s.volatile req refusal) (more_sought (let_go s.volatile req) (changes.End req ∷ []) v (loosed_sought s.volatile.unplaced req (fin.entries s.volatile.moving) v) (λ j. j))) made.fits k
    move_awaited (Refuses req refusal false) made =
        plan_awaited s (plan_of_refusal s req refusal false) (said_spares s req refusal) (more_sought (said_changes (keeps_refusal s req refusal) s.log req refusal) [] s.volatile (said_sought s s.volatile req refusal) (λ j. j)) made.fits k
    move_awaited (AnswersCall req answer true) made = plan_awaited s (end_plan s req answer) refl (more_sought (answer_changes s req answer) (changes.End req ∷ []) s.volatile (answer_sought s s.volatile req answer) (λ j. j)) made.fits k
    move_awaited (AnswersCall req answer false) made = plan_awaited s (answered s req answer) refl (answer_sought s s.volatile req answer) made.fits k
    move_awaited (Waits req waiting) made = plan_awaited s (begin_pending req waiting) refl (λ j. j) made.fits k
    move_awaited (Restores server chunks) made = plan_awaited s (plan_of_restore server chunks) refl (λ j. j) made.fits k
    move_awaited (Says messages) made = k
    move_awaited (Flags req preparing epoch) made =
        plan_awaited s (accepted_plan s req [] (changes.Prepare preparing ∷ []) [] epoch) refl (more_sought (changes.Prepare preparing ∷ []) (answer_changes s req (answers.Epoch epoch)) s.volatile (λ j. j) (answer_sought s _ req (answers.Epoch epoch))) made.fits k
    move_awaited (Prepares req moment) made =
        let epoch = s.durable.epoch + 1 in
        plan_awaited s (accepted_plan s req (Prepare epoch moment.0 (chunk_count s) ∷ []) (changes.Prepare false ∷ []) (tell_all config epoch ends.Prepare) epoch) refl
        (more_sought (changes.Prepare false ∷ []) (answer_changes s req (answers.Epoch epoch)) s.volatile (λ j. j) (answer_sought s _ req (answers.Epoch epoch))) made.fits k
    move_awaited (Finalizes req) made =
        let epoch = s.durable.epoch + 1 in plan_awaited s (accepted_plan s req (Finalize epoch ∷ []) [] (tell_all config epoch ends.Finalize) epoch) refl (answer_sought s s.volatile req (answers.Epoch epoch)) made.fits k
    move_awaited BeginsRollback made = plan_awaited s (plan_of_rollback s) refl (λ j. j) made.fits k
    move_awaited (TellsRollback req epoch) made = plan_awaited s (accepted_plan s req [] [] (tell_all config epoch ends.Rollback) epoch) refl (answer_sought s s.volatile req (answers.Epoch epoch)) made.fits k
    move_awaited (CommitsRollback req names) made =
        λ here none. more_sought (changes.RolledBack ∷ []) (answer_changes s req (answers.Epoch s.durable.epoch)) (record (s.volatile) { unplaced = [] }) (λ j is. absurd (false≢true is)) (answer_sought s _ req (answers.Epoch s.durable.epoch)) (λ is. absurd (false≢true is)) here
    move_awaited Checkpoints made = λ here none. checkpoint_awaited s here

chain_awaited : (chunk : ℕ) (config : Config) (heard : Heard) (s : State) (t : Turn) → Chain config (IsMade config heard) s t → IsAwaited s chunk → IsAwaited t.after chunk
chain_awaited chunk config heard s t (Rests u said) k = k
chain_awaited chunk config heard s t (Moves u move said made) k = move_awaited chunk config heard u k move made
chain_awaited chunk config heard s t (Then u first next a b) k = chain_awaited chunk config heard first.after next b (chain_awaited chunk config heard u first a k)

pub starts_awaited : StartsAwaited
starts_awaited d log chunk here none = absurd (false≢true here)

met_awaited : (chunk : ℕ) (s : State) (event : Event) → IsAwaited s chunk → IsAwaited (met_in s event) chunk
met_awaited chunk s (Comes message moment) k = k
met_awaited chunk s (Ticks moment) k = k
met_awaited chunk s Renews k = k
met_awaited chunk s Restarts k = starts_awaited s.durable s.log chunk

pub stays_awaited : StaysAwaited
stays_awaited config s event chunk named firm k = chain_awaited chunk config (heard_in event) (met_in s event) (turn_of config s event) (events_are_chains config s event named firm) (met_awaited chunk s event k)

pub each_move_awaits : EachMoveAwaits
each_move_awaits config heard s move chunk made k = move_awaited chunk config heard s k move made

-- one that stands in a file is settled
pub known_are_sought : KnownAreSought
known_are_sought s chunk kept k known none = by_listed (is_some (fin.get s.durable.names.refs chunk)) refl known
  where
    by_listed : (b : Bool) → is_some (fin.get s.durable.names.refs chunk) ≡ b → (b || is_member s.volatile.unplaced chunk) ≡ true → is_some (fin.get s.volatile.moving chunk) ≡ true
    by_listed true listed h = absurd (false≢true (sym (ap is_some none) ∙ kept.settled chunk listed))
    by_listed false listed h = k h none
