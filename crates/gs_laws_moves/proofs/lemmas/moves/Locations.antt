-- Where a client is told that a chunk is, it was told before, or a move of the chain looks it up.
use Rattle.std.proofs.Common.{arith, ◌≡◌, ◌⊎◌, inl, inr, ◌∙◌, ◌==◌, ◌&&◌, ◌+◌, ◌-◌, ◌≤◌, ◌++◌, ℕ, zero, suc, Bool, true, false, not, cond, List, [], ◌∷◌, refl, ap, sym, subst}
use Rattle.std.specs.Prelude.{flat_map, is_some, length, map, nat_lt, take, Option, Some, None, Result, Ok, Err, if◌then◌else◌}
use Rattle.std.specs.FinMap as fin
use Rattle.std.specs.List.{AllByRecursion, list_all}
use Rattle.std.specs.Ordering.{eq_by_cmp}
use Rattle.std.proofs.lemmas.Bool.Decides.{nat_tests}
use Rattle.std.proofs.lemmas.Bool.{false≢true, true≢false, and_parts}
use Rattle.gs_base.specs.Members.{count_from, is_member}
use Rattle.gs_base.specs.declared.config.Config.{Config}
use Rattle.gs_base.specs.declared.epoch.EpochEnd.{EpochEnd}
use Rattle.gs_base.specs.declared.epoch.EpochEnd.TheVariants as ends
use Rattle.gs_base.specs.declared.numbers.ClientId.{ClientId}
use Rattle.gs_base.specs.declared.numbers.ReqId.{ReqId}
use Rattle.gs_base.specs.declared.refusal.Refusal.{Refusal}
use Rattle.gs_edit.specs.View.{NamesView}
use Rattle.gs_lease.specs.declared.view.Term.{Term}
use Rattle.gs_lease.specs.declared.view.View.{View}
use Rattle.gs_msg.specs.declared.answer.Answer.{Answer}
use Rattle.gs_msg.specs.declared.answer.Answer.TheVariants as answers
use Rattle.gs_msg.specs.declared.body.Body.{Body}
use Rattle.gs_msg.specs.declared.body.Body.TheVariants as bodies
use Rattle.gs_msg.specs.declared.message.Message.{Message}
use Rattle.gs_msg.specs.declared.node.NodeId.TheVariants as nodes
use Rattle.gs_path.specs.Path.{Path}
use Rattle.gs_master_record.specs.Plain.{AddChunk, Cow, Create, Edited, Finalize, Forget, Hide, Holder, Mkdirs, PlainEdit, PlainEntry, Prepare, Propose, Remove, Rename, RollbackBegin, RollbackCommit, Said, Settle, Snapshot, Unhide, Whole}
use Rattle.gs_master_record.specs.declared.checkpoint.Phase.TheVariants.{Ordinary, Rolling, Upgrade}
use Rattle.gs_master_record.specs.declared.entry.Answered.{Answered}
use Rattle.std.proofs.Math.Seq.{take-append-add}
use Rattle.std.proofs.lemmas.List.{append-nil, append_assoc, take-append-le}
use Rattle.gs_master_spec.specs.Applied.{replayed, after_edit, after_undoing, applied, are_answers, are_at_rest, chunk_of_edit, held_by, is_next_epoch, may_be_settled, may_edit, may_propose, proposed, rolled_back, view_for, view_in, with_answer, with_edit, with_epoch, with_reply, with_view, without_prepared}
use Rattle.gs_master_spec.specs.Chunks.{holder_records, is_holder, target_of}
use Rattle.gs_master_spec.specs.Durable.{Durable, is_ordinary, is_rolling, is_upgrade, prepared_view, with_prepared}
use Rattle.gs_master_spec.specs.Replies.{answer_to, client_cmp, is_later, later}
use Rattle.gs_master_spec.specs.Settling.{grant_of, own_request}
use Rattle.gs_master_spec.specs.State.{State, Turn, joined, answer_changes, end_changes, fits, keeps_refusal, kept_in_memory, last_reply, post, reply_to, said_changes, said_records, to_each}
use Rattle.gs_master_spec.specs.Undoing.{all_undone, edited_names}
use Rattle.gs_master_spec.specs.Upgrades.{tell_all}
use Rattle.gs_master_spec.specs.Volatile.{Volatile, all_changed, changed, is_call, let_go, let_go_of, without_call}
use Rattle.gs_master_spec.specs.Whole.{checkpoint_of}
use Rattle.gs_master_spec.specs.Working.{forget_if}
use Rattle.gs_master_spec.specs.declared.asking.Asking.{Asking}
use Rattle.gs_master_spec.specs.declared.change.Change.{Change}
use Rattle.gs_master_spec.specs.declared.change.Change.TheVariants as changes
use Rattle.gs_master_spec.specs.declared.reply.KeptReply.{KeptReply}
use Rattle.gs_master_state.proofs.Tracking.{client_total}
use Rattle.gs_laws_master.proofs.lemmas.upgrades.Beginnings.{fits_gives}
use Rattle.gs_laws_master.proofs.lemmas.keeping.KeptViews.{same_key}
use Rattle.gs_laws_master.proofs.lemmas.standing.Standing.{changed_more}
use Rattle.gs_laws_moves.proofs.lemmas.moves.Chains.{is_located}
use Rattle.gs_laws_moves.proofs.lemmas.moves.Fitting.{chain_leaves, split}
use Rattle.gs_laws_moves.proofs.lemmas.moves.Listed.{over_records}
use Rattle.gs_laws_moves.proofs.lemmas.moves.Right.{added_right, each_of, one_fits}
use Rattle.gs_laws_moves.specs.moves.Guards.{AreSaidAgain, Heard, IsLocatedBy, IsMade, IsRightAnswer, IsSaidAgain, WasReplied, is_location, is_of_tree}
use Rattle.gs_laws_moves.specs.moves.Locations.{IsLocatedWithin, IsToldIn, IsToldOnlyIf, KeepsLocation, KeptWereLocated, LocatedAreRight, Locates, SentWereLocated, WasLocated}
use Rattle.gs_laws_moves.specs.moves.Moves.{Alone, Chain, FromNow, Further, Move, Moves, Rests, Then, Begins, Makes, Copies, Hears, Sends, Settles, Edits, Extends, CopiesTree, Replaces, Scans, Refuses, Answers as AnswersCall, Waits, Restores, Says, Flags, Prepares, Finalizes, BeginsRollback, TellsRollback, CommitsRollback, Checkpoints, move_turn}

some_is : {a b : KeptReply} → ◌≡◌ {A = Option KeptReply} (Some a) (Some b) → a ≡ b
some_is h = cc

-- ---- what can tell where a chunk is

abbrev is_place : Option Answer → Bool
is_place None = false
is_place (Some answer) = is_location answer

-- of edits only one that puts a chunk into a file is answered so
abbrev is_addition : PlainEdit → Bool
is_addition (AddChunk path chunk) = true
is_addition edit = false

abbrev tells_no_place : PlainEntry → Bool
tells_no_place (Edited by edit) = not (is_addition edit)
tells_no_place (Whole c) = false
tells_no_place entry = true

abbrev keeps_no_place : Change → Bool
keeps_no_place (changes.Keep client reply) = not (is_located reply.result)
keeps_no_place change = true

not_true : (b : Bool) → not b ≡ true → b ≡ false
not_true true h = absurd (false≢true h)
not_true false h = refl

no_place_of : (edit : PlainEdit) (view : Option View) (epoch : ℕ) → is_addition edit ≡ false → is_place (answer_to edit view epoch) ≡ false
no_place_of (AddChunk path chunk) view epoch e = absurd (true≢false e)
no_place_of (Mkdirs path) view epoch e = refl
no_place_of (Create path) view epoch e = refl
no_place_of (Rename from to) view epoch e = refl
no_place_of (Hide path moment number) view epoch e = refl
no_place_of (Unhide path) view epoch e = refl
no_place_of (Remove path) view epoch e = refl
no_place_of (Cow path index old new) view epoch e = refl
no_place_of (Snapshot from to) view epoch e = refl
no_place_of (Forget chunks) view epoch e = refl

of_tree : (edit : PlainEdit) → is_of_tree edit ≡ true → (not (is_addition edit) && true) ≡ true
of_tree (AddChunk path chunk) tree = absurd (false≢true tree)
of_tree edit tree = refl

same_client : (a b : ClientId) → eq_by_cmp client_cmp a b ≡ true → a ≡ b
same_client a b h = (let e : a.0 ≡ b.0 = same_key a.0 b.0 h in (λ i. record { 0 = e i }))

call_is : (a b : ReqId) → a.client ≡ b.client → a.number ≡ b.number → a ≡ b
call_is a b client number = λ i. record { client = client i; number = number i }

same_number : (a b : ℕ) → (a == b) ≡ true → a ≡ b
same_number a b is = grind (arith, nat_tests)

-- a call, a chunk, its view, and an epoch
module _ (caller : ReqId) (chunk : ℕ) (view : View) (epoch : ℕ) where
  abbrev place : Result Answer Refusal
  place = Ok (answers.Location chunk view epoch)

  -- ---- replies that are kept

  inserted : (m : fin.FinMap client_cmp KeptReply) (client : ClientId) (reply : KeptReply) → IsToldIn (fin.insert m client reply) caller chunk view epoch → IsToldIn m caller chunk view epoch ⊎ ((reply.result ≡ place) × ((client ≡ caller.client) × (reply.number ≡ caller.number)))
  inserted m client reply k = by_key (eq_by_cmp client_cmp caller.client client) refl (sym (fin.get-insert client_total m client reply caller.client) ∙ k.has)
    where
      by_key : (b : Bool) → eq_by_cmp client_cmp caller.client client ≡ b → cond b (Some reply) (fin.get m caller.client) ≡ Some k.reply → IsToldIn m caller chunk view epoch ⊎ ((reply.result ≡ place) × ((client ≡ caller.client) × (reply.number ≡ caller.number)))
      by_key true same h = inr (ap (λ (r : KeptReply). r.result) (some_is h) ∙ k.is, (sym (same_client caller.client client same), ap (λ (r : KeptReply). r.number) (some_is h) ∙ k.number))
      by_key false other h = inl (record { reply = k.reply; has = h; number = k.number; is = k.is })

  replied : (m : fin.FinMap client_cmp KeptReply) (to : ReqId) (result : Result Answer Refusal) → IsToldIn (with_reply m to result) caller chunk view epoch → IsToldIn m caller chunk view epoch ⊎ ((result ≡ place) × (to ≡ caller))
  replied m to result k = by_test (is_later (fin.get m to.client) to.number) k
    where
      for_call : IsToldIn m caller chunk view epoch ⊎ ((result ≡ place) × ((to.client ≡ caller.client) × (to.number ≡ caller.number))) → IsToldIn m caller chunk view epoch ⊎ ((result ≡ place) × (to ≡ caller))
      for_call (inl k) = inl k
      for_call (inr (is, (client, number))) = inr (is, call_is to caller client number)

      by_test : (b : Bool) → IsToldIn (if b then fin.insert m to.client (record { number = to.number; result = result }) else m) caller chunk view epoch → IsToldIn m caller chunk view epoch ⊎ ((result ≡ place) × (to ≡ caller))
      by_test true k = for_call (inserted m to.client (record { number = to.number; result = result }) k)
      by_test false k = inl k

  -- another result tells no place
  unlocated : {A B : Type 0} (result : Result Answer Refusal) → is_located result ≡ false → A ⊎ ((result ≡ place) × B) → A
  unlocated result plain (inl a) = a
  unlocated result plain (inr is) = absurd (true≢false (sym (ap is_located is.0) ∙ plain))

  answered_so : (m : fin.FinMap client_cmp KeptReply) (to : ReqId) (answer : Option Answer) → is_place answer ≡ false → IsToldIn (with_answer m to answer) caller chunk view epoch → IsToldIn m caller chunk view epoch
  answered_so m to None plain k = k
  answered_so m to (Some answer) plain k = unlocated (Ok answer) plain (replied m to (Ok answer) k)

  -- ---- records

  abbrev Before : Durable → Durable → Type 0
  Before d e = IsToldIn e.replies caller chunk view epoch → IsToldIn d.replies caller chunk view epoch

  same_replies : (d e : Durable) → e.replies ≡ d.replies → Before d e
  same_replies d e is k = subst (λ m. IsToldIn m caller chunk view epoch) is k

  edited_before : (d e : Durable) (by : ReqId) (edit : PlainEdit) (names : Result NamesView Refusal) → is_addition edit ≡ false → after_edit d by edit names ≡ Some e → Before d e
  edited_before d e by edit (Ok names) plain fit k =
      answered_so d.replies by (answer_to edit (view_for d (chunk_of_edit edit)) d.epoch) (no_place_of edit (view_for d (chunk_of_edit edit)) d.epoch plain)
      (subst (λ m. IsToldIn m caller chunk view epoch) (ap (λ (x : Durable). x.replies) (sym (fits_gives (may_edit d edit) (with_edit d by edit names) e fit).1)) k)
  edited_before d e by edit (Err refusal) plain fit k = absurd (false≢true (ap is_some fit))

  undone_before : (d e : Durable) (now : ℕ) (told : List Answered) (names : Option NamesView) → after_undoing d now told names ≡ Some e → Before d e
  undone_before d e now told None fit = absurd (false≢true (ap is_some fit))
  undone_before d e now told (Some names) fit =
      same_replies d e (ap (λ (x : Durable). x.replies) (sym (fits_gives (is_rolling d.phase && ((now == d.epoch) && are_answers (prepared_view d) (fin.entries names.refs) told)) (rolled_back d told names) e fit).1))

  said_before : (d e : Durable) (to : ReqId) (refusal : Refusal) → ◌≡◌ {A = Option Durable} (Some (record d { replies = with_reply d.replies to (Err refusal) })) (Some e) → Before d e
  said_before d e to refusal fit k = unlocated (Err refusal) refl (replied d.replies to (Err refusal) (subst (λ m. IsToldIn m caller chunk view epoch) (ap (λ (x : Durable). x.replies) (sym (durable_is fit))) k))
    where
      durable_is : {a b : Durable} → ◌≡◌ {A = Option Durable} (Some a) (Some b) → a ≡ b
      durable_is h = cc

  record_before : (d e : Durable) (entry : PlainEntry) → tells_no_place entry ≡ true → applied d entry ≡ Some e → Before d e
  unfolding applied
  record_before d e (Edited by edit) plain fit = edited_before d e by edit (edited_names edit d.names) (not_true (is_addition edit) plain) fit
  record_before d e (Said to refusal) plain fit = said_before d e to refusal fit
  record_before d e (Propose q version) plain fit = same_replies d e (ap (λ (x : Durable). x.replies) (sym (fits_gives (may_propose d.phase d.next_handle d.next_version q version (fin.get d.chunks q)) (proposed d q version) e fit).1))
  record_before d e (Settle v) plain fit = same_replies d e (ap (λ (x : Durable). x.replies) (sym (fits_gives (may_be_settled d v) (with_view d v) e fit).1))
  record_before d e (Holder q server) plain fit =
      same_replies d e (ap (λ (x : Durable). x.replies) (sym (fits_gives (is_upgrade d.phase && (nat_lt server 16 && is_some (prepared_view d q))) (record d { prepared = with_prepared d q (held_by server (prepared_view d q)) }) e fit).1))
  record_before d e (Prepare now moment chunks) plain fit = same_replies d e (ap (λ (x : Durable). x.replies) (sym (fits_gives (is_ordinary d.phase && (is_next_epoch d.epoch now && are_at_rest d)) (without_prepared (with_epoch d ends.Prepare Upgrade)) e fit).1))
  record_before d e (Finalize now) plain fit = same_replies d e (ap (λ (x : Durable). x.replies) (sym (fits_gives (is_upgrade d.phase && is_next_epoch d.epoch now) (without_prepared (with_epoch d ends.Finalize Ordinary)) e fit).1))
  record_before d e (RollbackBegin now) plain fit = same_replies d e (ap (λ (x : Durable). x.replies) (sym (fits_gives (is_upgrade d.phase && is_next_epoch d.epoch now) (with_epoch d ends.Rollback Rolling) e fit).1))
  record_before d e (RollbackCommit now told) plain fit = undone_before d e now told (all_undone d.inverses d.names) fit
  record_before d e (Whole c) plain fit = absurd (false≢true plain)

  -- ---- what is kept in memory

  change_before : (v : Volatile) (change : Change) → keeps_no_place change ≡ true → IsToldIn (changed v change).replies caller chunk view epoch → IsToldIn v.replies caller chunk view epoch
  change_before v (changes.Keep client reply) plain k = unlocated reply.result (not_true (is_located reply.result) plain) (inserted v.replies client reply k)
  change_before v (changes.Ask q asking) plain k = k
  change_before v (changes.Settled q) plain k = k
  change_before v (changes.Enter q) plain k = k
  change_before v (changes.Place q) plain k = k
  change_before v (changes.Lose q) plain k = k
  change_before v (changes.Forget chunks) plain k = k
  change_before v (changes.Begin p) plain k = k
  change_before v (changes.Wait req waiting) plain k = k
  change_before v (changes.End req) plain k = k
  change_before v (changes.Prepare is_preparing) plain k = k
  change_before v (changes.Restored server chunks) plain k = k
  change_before v changes.RolledBack plain k = k

  changes_before : (cs : List Change) (v : Volatile) → list_all keeps_no_place cs ≡ true → IsToldIn (all_changed v cs).replies caller chunk view epoch → IsToldIn v.replies caller chunk view epoch
  changes_before [] v all k = k
  changes_before (c ∷ cs) v all k = (let parts = and_parts (keeps_no_place c) (list_all keeps_no_place cs) all in change_before v c parts.0 (changes_before cs (changed v c) parts.1 k))

  -- ---- an answer

  -- an answer without a record
  answer_before : (s : State) (req : ReqId) (answer : Answer) → IsToldIn (all_changed s.volatile (answer_changes s req answer)).replies caller chunk view epoch → IsToldIn s.volatile.replies caller chunk view epoch ⊎ ((answer ≡ answers.Location chunk view epoch) × (req ≡ caller))
  answer_before s req answer k = by_test (is_later (last_reply s req.client) req.number) k
    where
      same : Ok answer ≡ place → answer ≡ answers.Location chunk view epoch
      same h = cc

      told : IsToldIn s.volatile.replies caller chunk view epoch ⊎ ((Ok answer ≡ place) × ((req.client ≡ caller.client) × (req.number ≡ caller.number))) → IsToldIn s.volatile.replies caller chunk view epoch ⊎ ((answer ≡ answers.Location chunk view epoch) × (req ≡ caller))
      told (inl k) = inl k
      told (inr (is, (client, number))) = inr (same is, call_is req caller client number)

      by_test : (b : Bool) → IsToldIn (all_changed s.volatile (if b then kept_in_memory req (Ok answer) ∷ [] else [])).replies caller chunk view epoch → IsToldIn s.volatile.replies caller chunk view epoch ⊎ ((answer ≡ answers.Location chunk view epoch) × (req ≡ caller))
      by_test true k = told (inserted s.volatile.replies req.client (record { number = req.number; result = Ok answer }) k)
      by_test false k = inl k

  -- the last reply to a client is kept
  pub replied_before : (s : State) → WasReplied s caller place → KeepsLocation s caller chunk view epoch
  replied_before s was = by_replies (fin.get s.durable.replies caller.client) (fin.get s.volatile.replies caller.client) refl refl was.has
    where
      durable : fin.get s.durable.replies caller.client ≡ Some was.reply → KeepsLocation s caller chunk view epoch
      durable has = inl (record { reply = was.reply; has = has; number = same_number was.reply.number caller.number was.number; is = was.is })

      volatile : fin.get s.volatile.replies caller.client ≡ Some was.reply → KeepsLocation s caller chunk view epoch
      volatile has = inr (record { reply = was.reply; has = has; number = same_number was.reply.number caller.number was.number; is = was.is })

      by_number : (b : Bool) (a o : KeptReply) → fin.get s.durable.replies caller.client ≡ Some a → fin.get s.volatile.replies caller.client ≡ Some o → (if b then Some o else Some a) ≡ Some was.reply → KeepsLocation s caller chunk view epoch
      by_number true a o in_durable in_volatile h = volatile (in_volatile ∙ h)
      by_number false a o in_durable in_volatile h = durable (in_durable ∙ h)

      by_replies : (a o : Option KeptReply) → fin.get s.durable.replies caller.client ≡ a → fin.get s.volatile.replies caller.client ≡ o → later a o ≡ Some was.reply → KeepsLocation s caller chunk view epoch
      by_replies None o in_durable in_volatile h = volatile (in_volatile ∙ h)
      by_replies (Some a) None in_durable in_volatile h = durable (in_durable ∙ h)
      by_replies (Some a) (Some o) in_durable in_volatile h = by_number (nat_lt a.number o.number) a o in_durable in_volatile h

-- ---- the records and the changes of moves

both_all : {A : Type 0} (f : A → Bool) (xs ys : List A) → list_all f xs ≡ true → list_all f ys ≡ true → list_all f (xs ++ ys) ≡ true
both_all f [] ys a b = b
both_all f (x ∷ xs) ys a b = (let parts = and_parts (f x) (list_all f xs) a in ap (λ t. t && list_all f (xs ++ ys)) parts.0 ∙ both_all f xs ys parts.1 b)

said_tells : (s : State) (req : ReqId) (refusal : Refusal) → list_all tells_no_place (said_records (keeps_refusal s req refusal) s.log req refusal) ≡ true
said_tells s req refusal = by_test (keeps_refusal s req refusal && fits s.log (Said req refusal ∷ []))
  where
    by_test : (b : Bool) → list_all tells_no_place (if b then Said req refusal ∷ [] else []) ≡ true
    by_test true = refl
    by_test false = refl

said_keeps : (s : State) (req : ReqId) (refusal : Refusal) → list_all keeps_no_place (said_changes (keeps_refusal s req refusal) s.log req refusal) ≡ true
said_keeps s req refusal = by_test (keeps_refusal s req refusal && not (fits s.log (Said req refusal ∷ [])))
  where
    by_test : (b : Bool) → list_all keeps_no_place (if b then kept_in_memory req (Err refusal) ∷ [] else []) ≡ true
    by_test true = refl
    by_test false = refl

let_go_keeps : (new : List ℕ) (req : ReqId) (es : List (ℕ × Asking)) → list_all keeps_no_place (flat_map (let_go_of new req) es) ≡ true
let_go_keeps new req [] = refl
let_go_keeps new req (e ∷ es) = both_all keeps_no_place (let_go_of new req e) (flat_map (let_go_of new req) es) (by_tests (is_call req e.1.call) (is_member new e.0)) (let_go_keeps new req es)
  where
    by_tests : (c n : Bool) → list_all keeps_no_place (if not c then [] else if n then changes.Lose e.0 ∷ [] else changes.Ask e.0 (without_call e.1) ∷ []) ≡ true
    by_tests false n = refl
    by_tests true true = refl
    by_tests true false = refl

refused_keeps : (s : State) (req : ReqId) (refusal : Refusal) (over : Bool) → list_all keeps_no_place (said_changes (keeps_refusal s req refusal) s.log req refusal ++ (if over then end_changes s req else [])) ≡ true
refused_keeps s req refusal over = both_all keeps_no_place (said_changes (keeps_refusal s req refusal) s.log req refusal) (if over then end_changes s req else []) (said_keeps s req refusal) (further over)
  where
    further : (b : Bool) → list_all keeps_no_place (if b then end_changes s req else []) ≡ true
    further true = both_all keeps_no_place (let_go s.volatile req) (changes.End req ∷ []) (let_go_keeps s.volatile.unplaced req (fin.entries s.volatile.moving)) refl
    further false = refl

settle_tells : (b : Bool) (q : ℕ) (target : Option ℕ) (view : View) → list_all tells_no_place (holder_records b q target ++ Settle (record { handle = q; view = view }) ∷ []) ≡ true
settle_tells b q None view = refl
settle_tells true q (Some target) view = refl
settle_tells false q (Some target) view = refl

scan_tells : (removed : List Path) (forgotten : List ℕ) → list_all tells_no_place (map (Edited own_request) (map (λ path. Remove path) removed ++ forget_if forgotten)) ≡ true
scan_tells [] [] = refl
scan_tells [] (c ∷ forgotten) = refl
scan_tells (path ∷ removed) forgotten = scan_tells removed forgotten

-- a call of an upgrade answers its epoch
accepted_keeps : (s : State) (req : ReqId) (before : List Change) (epoch : ℕ) → list_all keeps_no_place before ≡ true → list_all keeps_no_place (before ++ answer_changes s req (answers.Epoch epoch)) ≡ true
accepted_keeps s req before epoch plain = both_all keeps_no_place before (answer_changes s req (answers.Epoch epoch)) plain (by_test (is_later (last_reply s req.client) req.number))
  where
    by_test : (b : Bool) → list_all keeps_no_place (if b then kept_in_memory req (Ok (answers.Epoch epoch)) ∷ [] else []) ≡ true
    by_test true = refl
    by_test false = refl

-- ---- what is kept behind a move

module _ (config : Config) (heard : Heard) (s : State) (caller : ReqId) (chunk : ℕ) (view : View) (epoch : ℕ) where
  abbrev WasBy : Move → Type 0
  WasBy move = KeepsLocation s caller chunk view epoch ⊎ Locates s move caller chunk view epoch

  added_by : (req : ReqId) (path : Path) (new : ℕ) (at : View) → IsMade config heard s (Extends req path new at) → KeepsLocation (move_turn config s (Extends req path new at)).after caller chunk view epoch → WasBy (Extends req path new at)
  unfolding applied
  added_by req path new at made (inl k) =
      let after = (move_turn config s (Extends req path new at)).after.durable in
      let edit = AddChunk path new in
      let fit = one_fits s.durable after (Edited req edit) made.fits in
      let gives = fits_gives (may_edit s.durable edit) (with_edit s.durable req edit made.may.0.0) after (ap (after_edit s.durable req edit) (sym made.may.0.1) ∙ fit) in
      told (replied caller chunk view epoch s.durable.replies req (Ok (answers.Location new at s.durable.epoch))
      (subst (λ m. IsToldIn m caller chunk view epoch) (ap (λ (x : Durable). x.replies) (sym gives.1) ∙ ap (λ o. with_answer s.durable.replies req (answer_to edit o s.durable.epoch)) (ap view_in made.may.1.has)) k))
    where
      new_is : {a b : ℕ} {x y : View} {m n : ℕ} → ◌≡◌ {A = Result Answer Refusal} (Ok (answers.Location a x m)) (Ok (answers.Location b y n)) → (a ≡ b) × (x ≡ y) × (m ≡ n)
      new_is h = (cc, cc, cc)

      told : IsToldIn s.durable.replies caller chunk view epoch ⊎ ((◌≡◌ {A = Result Answer Refusal} (Ok (answers.Location new at s.durable.epoch)) (Ok (answers.Location chunk view epoch))) × (req ≡ caller)) → WasBy (Extends req path new at)
      told (inl k) = inl (inl k)
      told (inr (is, own)) = (let parts = new_is is in inr (parts.0, parts.1, parts.2, own))
  added_by req path new at made (inr k) = inl (inr (changes_before caller chunk view epoch (changes.Place new ∷ changes.End req ∷ []) s.volatile refl k))

  answered_by : (req : ReqId) (answer : Answer) (over : Bool) → KeepsLocation (move_turn config s (AnswersCall req answer over)).after caller chunk view epoch → WasBy (AnswersCall req answer over)
  answered_by req answer true (inl k) = inl (inl k)
  answered_by req answer false (inl k) = inl (inl k)
  answered_by req answer true (inr k) = told (answer_before caller chunk view epoch s req answer (subst (λ (v : Volatile). IsToldIn v.replies caller chunk view epoch) (changed_more (answer_changes s req answer) (changes.End req ∷ []) s.volatile) k))
    where
      told : IsToldIn s.volatile.replies caller chunk view epoch ⊎ ((answer ≡ answers.Location chunk view epoch) × (req ≡ caller)) → WasBy (AnswersCall req answer true)
      told (inl k) = inl (inr k)
      told (inr is) = inr is
  answered_by req answer false (inr k) = told (answer_before caller chunk view epoch s req answer k)
    where
      told : IsToldIn s.volatile.replies caller chunk view epoch ⊎ ((answer ≡ answers.Location chunk view epoch) × (req ≡ caller)) → WasBy (AnswersCall req answer false)
      told (inl k) = inl (inr k)
      told (inr is) = inr is

  -- what tells no place
  plain_by : (move : Move) (cs : List Change) → IsMade config heard s move → list_all tells_no_place (move_turn config s move).records ≡ true → list_all keeps_no_place cs ≡ true → (move_turn config s move).after.volatile.replies ≡ (all_changed s.volatile cs).replies
      → KeepsLocation (move_turn config s move).after caller chunk view epoch → WasBy move
  plain_by move cs made records_so changes_so same (inl k) =
      inl (inl (over_records (Before caller chunk view epoch) (λ d k. k) (λ d n e a b k. a (b k)) tells_no_place (record_before caller chunk view epoch) (move_turn config s move).records s.durable (move_turn config s move).after.durable records_so made.fits k))
  plain_by move cs made records_so changes_so same (inr k) = inl (inr (changes_before caller chunk view epoch cs s.volatile changes_so (subst (λ m. IsToldIn m caller chunk view epoch) same k)))

  kept_by : (move : Move) → IsMade config heard s move → KeepsLocation (move_turn config s move).after caller chunk view epoch → WasBy move
  kept_by (Begins q purpose call Alone) made k = plain_by (Begins q purpose call Alone) [] made refl refl refl k
  kept_by (Begins q purpose call (FromNow req waiting)) made k = plain_by (Begins q purpose call (FromNow req waiting)) [] made refl refl refl k
  kept_by (Begins q purpose call (Further req waiting)) made k = plain_by (Begins q purpose call (Further req waiting)) [] made refl refl refl k
  kept_by (Makes targets req path) made k = plain_by (Makes targets req path) [] made refl refl refl k
  kept_by (Copies old at req Alone) made k = plain_by (Copies old at req Alone) [] made refl refl refl k
  kept_by (Copies old at req (FromNow by waiting)) made k = plain_by (Copies old at req (FromNow by waiting)) [] made refl refl refl k
  kept_by (Copies old at req (Further by waiting)) made k = plain_by (Copies old at req (Further by waiting)) [] made refl refl refl k
  kept_by (Hears q asking) made k = plain_by (Hears q asking) [] made refl refl refl k
  kept_by (Sends q asking source target) made k = plain_by (Sends q asking source target) [] made refl refl refl k
  kept_by (Settles q asking carried at) made k = plain_by (Settles q asking carried at) [] made (settle_tells (is_holder s.durable.phase (prepared_view s.durable q) carried asking at) q (target_of asking.purpose) at) refl refl k
  kept_by (Edits req edit answer) made k = plain_by (Edits req edit answer) [] made (of_tree edit made.may.tree) refl refl k
  kept_by (CopiesTree req from to) made k = plain_by (CopiesTree req from to) [] made refl refl refl k
  kept_by (Replaces path index old new) made k = plain_by (Replaces path index old new) [] made refl refl refl k
  kept_by (Scans removed forgotten) made k = plain_by (Scans removed forgotten) [] made (scan_tells removed forgotten) refl refl k
  kept_by (Waits req waiting) made k = plain_by (Waits req waiting) [] made refl refl refl k
  kept_by (Restores server chunks) made k = plain_by (Restores server chunks) [] made refl refl refl k
  kept_by BeginsRollback made k = plain_by BeginsRollback [] made refl refl refl k
  kept_by (Extends req path new at) made k = added_by req path new at made k
  kept_by (Refuses req refusal over) made k =
      plain_by (Refuses req refusal over) (said_changes (keeps_refusal s req refusal) s.log req refusal ++ (if over then end_changes s req else [])) made (said_tells s req refusal) (refused_keeps s req refusal over) refl k
  kept_by (AnswersCall req answer over) made k = answered_by req answer over k
  kept_by (Says messages) made k = inl k
  kept_by (Flags req preparing now) made k = plain_by (Flags req preparing now) (changes.Prepare preparing ∷ answer_changes s req (answers.Epoch now)) made refl (accepted_keeps s req (changes.Prepare preparing ∷ []) now refl) refl k
  kept_by (Prepares req moment) made k = plain_by (Prepares req moment) (changes.Prepare false ∷ answer_changes s req (answers.Epoch (s.durable.epoch + 1))) made refl (accepted_keeps s req (changes.Prepare false ∷ []) (s.durable.epoch + 1) refl) refl k
  kept_by (Finalizes req) made k = plain_by (Finalizes req) (answer_changes s req (answers.Epoch (s.durable.epoch + 1))) made refl (accepted_keeps s req [] (s.durable.epoch + 1) refl) refl k
  kept_by (TellsRollback req now) made k = plain_by (TellsRollback req now) (answer_changes s req (answers.Epoch now)) made refl (accepted_keeps s req [] now refl) refl k
  kept_by (CommitsRollback req names) made k = plain_by (CommitsRollback req names) (changes.RolledBack ∷ answer_changes s req (answers.Epoch s.durable.epoch)) made refl (accepted_keeps s req (changes.RolledBack ∷ []) s.durable.epoch refl) refl k
  kept_by Checkpoints made k = inl k

  -- ---- where some of its records stand

  -- they are all, or none of them tells a place
  abbrev Part : ℕ → Move → Type 0
  Part many move = (take many (move_turn config s move).records ≡ (move_turn config s move).records) ⊎ (list_all tells_no_place (take many (move_turn config s move).records) ≡ true)

  one_or_none : (entry : PlainEntry) (many : ℕ) → (take many (entry ∷ []) ≡ entry ∷ []) ⊎ (list_all tells_no_place (take many (entry ∷ [])) ≡ true)
  one_or_none entry zero = inr refl
  one_or_none entry (suc zero) = inl refl
  one_or_none entry (suc (suc many)) = inl refl

  some_plain : (many : ℕ) (xs : List PlainEntry) → list_all tells_no_place xs ≡ true → list_all tells_no_place (take many xs) ≡ true
  some_plain zero xs all = refl
  some_plain (suc many) [] all = refl
  some_plain (suc many) (x ∷ xs) all = (let parts = and_parts (tells_no_place x) (list_all tells_no_place xs) all in ap (λ b. b && list_all tells_no_place (take many xs)) parts.0 ∙ some_plain many xs parts.1)

  plain_part : (many : ℕ) (move : Move) → list_all tells_no_place (move_turn config s move).records ≡ true → Part many move
  plain_part many move all = inr (some_plain many (move_turn config s move).records all)

  part_by : (many : ℕ) (move : Move) → IsMade config heard s move → Part many move
  part_by many (Begins q purpose call Alone) made = plain_part many (Begins q purpose call Alone) refl
  part_by many (Begins q purpose call (FromNow req waiting)) made = plain_part many (Begins q purpose call (FromNow req waiting)) refl
  part_by many (Begins q purpose call (Further req waiting)) made = plain_part many (Begins q purpose call (Further req waiting)) refl
  part_by many (Makes targets req path) made = plain_part many (Makes targets req path) refl
  part_by many (Copies old at req Alone) made = plain_part many (Copies old at req Alone) refl
  part_by many (Copies old at req (FromNow by waiting)) made = plain_part many (Copies old at req (FromNow by waiting)) refl
  part_by many (Copies old at req (Further by waiting)) made = plain_part many (Copies old at req (Further by waiting)) refl
  part_by many (Hears q asking) made = plain_part many (Hears q asking) refl
  part_by many (Sends q asking source target) made = plain_part many (Sends q asking source target) refl
  part_by many (Settles q asking carried at) made = plain_part many (Settles q asking carried at) (settle_tells (is_holder s.durable.phase (prepared_view s.durable q) carried asking at) q (target_of asking.purpose) at)
  part_by many (Edits req edit answer) made = plain_part many (Edits req edit answer) (of_tree edit made.may.tree)
  part_by many (Extends req path new at) made = one_or_none (Edited req (AddChunk path new)) many
  part_by many (CopiesTree req from to) made = plain_part many (CopiesTree req from to) refl
  part_by many (Replaces path index old new) made = plain_part many (Replaces path index old new) refl
  part_by many (Scans removed forgotten) made = plain_part many (Scans removed forgotten) (scan_tells removed forgotten)
  part_by many (Refuses req refusal over) made = plain_part many (Refuses req refusal over) (said_tells s req refusal)
  part_by many (AnswersCall req answer true) made = plain_part many (AnswersCall req answer true) refl
  part_by many (AnswersCall req answer false) made = plain_part many (AnswersCall req answer false) refl
  part_by many (Waits req waiting) made = plain_part many (Waits req waiting) refl
  part_by many (Restores server chunks) made = plain_part many (Restores server chunks) refl
  part_by many (Says messages) made = plain_part many (Says messages) refl
  part_by many (Flags req preparing now) made = plain_part many (Flags req preparing now) refl
  part_by many (Prepares req moment) made = plain_part many (Prepares req moment) refl
  part_by many (Finalizes req) made = plain_part many (Finalizes req) refl
  part_by many BeginsRollback made = plain_part many BeginsRollback refl
  part_by many (TellsRollback req now) made = plain_part many (TellsRollback req now) refl
  part_by many (CommitsRollback req names) made = plain_part many (CommitsRollback req names) refl
  part_by many Checkpoints made = one_or_none (Whole (checkpoint_of s.durable)) many

  part_kept : (move : Move) (many : ℕ) (e : Durable) → IsMade config heard s move → replayed s.durable (take many (move_turn config s move).records) ≡ Some e → IsToldIn e.replies caller chunk view epoch → WasBy move
  part_kept move many e made fit k = by_part (part_by many move made)
    where
      durable_is : {a b : Durable} → ◌≡◌ {A = Option Durable} (Some a) (Some b) → a ≡ b
      durable_is h = cc

      by_part : Part many move → WasBy move
      by_part (inl all) = kept_by move made (inl (subst (λ (d : Durable). IsToldIn d.replies caller chunk view epoch) (durable_is (sym fit ∙ ap (replayed s.durable) all ∙ made.fits)) k))
      by_part (inr plain) =
          inl (inl (over_records (Before caller chunk view epoch) (λ d k. k) (λ d n e a b k. a (b k)) tells_no_place (record_before caller chunk view epoch) (take many (move_turn config s move).records) s.durable e plain fit k))

-- ---- what a move sends

module _ (config : Config) (heard : Heard) (s : State) where
  abbrev SentBy : Move → Message → Type 0
  SentBy move m = IsToldOnlyIf (λ caller chunk view epoch. WasBy config heard s caller chunk view epoch move) m.body

  plain_sent : (move : Move) (req : ReqId) (answer : Answer) → is_location answer ≡ false → SentBy move (reply_to req (Ok answer))
  plain_sent move req (answers.Location chunk view epoch) plain = absurd (true≢false plain)
  plain_sent move req answer plain = tt

  answer_sent : (req : ReqId) (answer : Answer) (over : Bool) → SentBy (AnswersCall req answer over) (reply_to req (Ok answer))
  answer_sent req (answers.Location chunk view epoch) over = inr (refl, refl)
  answer_sent req answer over = tt

  again_sent : (move : Move) (body : Body) → IsSaidAgain heard s body → IsToldOnlyIf (λ caller chunk view epoch. WasBy config heard s caller chunk view epoch move) body
  again_sent move (bodies.Reply req (Ok (answers.Location chunk view epoch))) was = inl (replied_before req chunk view epoch s was)
  again_sent move body was = tt

  all_again : (move : Move) (messages : List Message) → AreSaidAgain heard s messages → AllByRecursion (SentBy move) messages
  all_again move [] all = tt
  all_again move (m ∷ messages) all = (again_sent move m.body all.0, all_again move messages all.1)

  grant_sent : (move : Move) (q : ℕ) (view : View) (term : Option Term) → AllByRecursion (SentBy move) (grant_of q view term)
  grant_sent move q view None = tt
  grant_sent move q view (Some term) = (tt, tt)

  both_sent : (move : Move) (xs ys : List Message) → AllByRecursion (SentBy move) xs → AllByRecursion (SentBy move) ys → AllByRecursion (SentBy move) (xs ++ ys)
  both_sent move [] ys a b = b
  both_sent move (x ∷ xs) ys a b = (a.0, both_sent move xs ys a.1 b)

  to_servers : (move : Move) (message : ℕ → Message) (servers : List ℕ) → ((server : ℕ) → SentBy move (message server)) → AllByRecursion (SentBy move) (to_each servers message)
  to_servers move message servers each = each_of (SentBy move) message servers (λ server on. each server)

  -- each server is told of an epoch, and the call is answered
  accepted_sent : (move : Move) (req : ReqId) (now answered : ℕ) (end : EpochEnd) → AllByRecursion (SentBy move) (tell_all config now end ++ reply_to req (Ok (answers.Epoch answered)) ∷ [])
  accepted_sent move req now answered end = both_sent move (tell_all config now end) (reply_to req (Ok (answers.Epoch answered)) ∷ []) (to_servers move (λ server. post (nodes.Server server) (bodies.Epoch now end)) (count_from 0 config.servers) (λ server. tt)) (tt, tt)

  sent_by : (move : Move) → IsMade config heard s move → AllByRecursion (SentBy move) (move_turn config s move).sent
  sent_by (Begins q purpose call Alone) made = to_servers (Begins q purpose call Alone) _ _ (λ server. tt)
  sent_by (Begins q purpose call (FromNow req waiting)) made = to_servers (Begins q purpose call (FromNow req waiting)) _ _ (λ server. tt)
  sent_by (Begins q purpose call (Further req waiting)) made = to_servers (Begins q purpose call (Further req waiting)) _ _ (λ server. tt)
  sent_by (Makes targets req path) made = to_servers (Makes targets req path) _ _ (λ server. tt)
  sent_by (Copies old at req Alone) made = to_servers (Copies old at req Alone) _ _ (λ server. tt)
  sent_by (Copies old at req (FromNow by waiting)) made = to_servers (Copies old at req (FromNow by waiting)) _ _ (λ server. tt)
  sent_by (Copies old at req (Further by waiting)) made = to_servers (Copies old at req (Further by waiting)) _ _ (λ server. tt)
  sent_by (Hears q asking) made = tt
  sent_by (Sends q asking source target) made = (tt, tt)
  sent_by (Settles q asking carried at) made = grant_sent (Settles q asking carried at) q at at.term
  sent_by (Edits req edit answer) made = (plain_sent (Edits req edit answer) req answer made.may.answers, tt)
  sent_by (Extends req path new at) made = (inr (refl, refl, refl, refl), tt)
  sent_by (CopiesTree req from to) made = (tt, tt)
  sent_by (Replaces path index old new) made = tt
  sent_by (Scans removed forgotten) made = tt
  sent_by (Refuses req refusal over) made = (tt, tt)
  sent_by (AnswersCall req answer true) made = (answer_sent req answer true, tt)
  sent_by (AnswersCall req answer false) made = (answer_sent req answer false, tt)
  sent_by (Waits req waiting) made = tt
  sent_by (Restores server chunks) made = tt
  sent_by (Says messages) made = all_again (Says messages) messages made.may.2
  sent_by (Flags req preparing now) made = (tt, tt)
  sent_by (Prepares req moment) made = accepted_sent (Prepares req moment) req (s.durable.epoch + 1) (s.durable.epoch + 1) ends.Prepare
  sent_by (Finalizes req) made = accepted_sent (Finalizes req) req (s.durable.epoch + 1) (s.durable.epoch + 1) ends.Finalize
  sent_by BeginsRollback made = tt
  sent_by (TellsRollback req now) made = accepted_sent (TellsRollback req now) req now now ends.Rollback
  sent_by (CommitsRollback req names) made = (tt, tt)
  sent_by Checkpoints made = tt

-- ---- what a move tells is so behind it

located_right : (config : Config) (heard : Heard) (s : State) (move : Move) (caller : ReqId) (chunk : ℕ) (view : View) (epoch : ℕ) → IsMade config heard s move → Locates s move caller chunk view epoch → IsLocatedBy (move_turn config s move).after chunk view epoch
located_right config heard s (AnswersCall req answer over) caller chunk view epoch made is = by_over over (subst (λ a. IsRightAnswer s a) is.0 made.may.0)
  where
    by_over : (b : Bool) → IsLocatedBy s chunk view epoch → IsLocatedBy (move_turn config s (AnswersCall req answer b)).after chunk view epoch
    by_over true k = record { settled = k.settled; now = k.now; listed = k.listed; calm = k.calm }
    by_over false k = record { settled = k.settled; now = k.now; listed = k.listed; calm = k.calm }
located_right config heard s (Extends req path new at) caller chunk view epoch made is =
    let after = (move_turn config s (Extends req path new at)).after in
    let k = added_right config heard s req path new at made.may.0 made.may.1 made.fits in
    subst (λ c. IsLocatedBy after c view epoch) is.0 (subst (λ v. IsLocatedBy after new v epoch) is.1 (subst (λ e. IsLocatedBy after new at e) is.2 k))
located_right config heard s move caller chunk view epoch made is = absurd is

pub located_are_right : LocatedAreRight
located_are_right config heard s move caller chunk view epoch made is = located_right config heard s move caller chunk view epoch made is

-- ---- chains

-- So it is of each chain of moves that are made, whatever else holds of them.
module _ (config : Config) (heard : Heard) (Holds : State → Move → Type 0) (made : (s : State) (move : Move) → Holds s move → IsMade config heard s move) where
  abbrev Was : State → Turn → ReqId → ℕ → View → ℕ → Type 0
  Was s t caller chunk view epoch = WasLocated config Holds s t caller chunk view epoch

  -- by one move
  one_located : (s : State) (move : Move) (said : Option Refusal) (caller : ReqId) (chunk : ℕ) (view : View) (epoch : ℕ) → Holds s move → KeepsLocation s caller chunk view epoch ⊎ Locates s move caller chunk view epoch → Was s (record (move_turn config s move) { said = said }) caller chunk view epoch
  one_located s move said caller chunk view epoch holds (inl k) = inl k
  one_located s move said caller chunk view epoch holds (inr is) =
      inr (record { before = record { after = s; records = []; sent = []; said = None }; first = Rests s None; move = move; holds = holds; locates = is; next = record { after = (move_turn config s move).after; records = []; sent = []; said = None }; rest = Rests (move_turn config s move).after None; last = refl; records = sym (append-nil (move_turn config s move).records) })

  -- and so where others follow, or were made before
  then_located : (s : State) (t next u : Turn) (caller : ReqId) (chunk : ℕ) (view : View) (epoch : ℕ) → Chain config Holds t.after next → u.after ≡ next.after → u.records ≡ t.records ++ next.records → Was s t caller chunk view epoch → Was s u caller chunk view epoch
  then_located s t next u caller chunk view epoch chain last are (inl k) = inl k
  then_located s t next u caller chunk view epoch chain last are (inr w) =
      inr (record { before = w.before; first = w.first; move = w.move; holds = w.holds; locates = w.locates; next = joined w.next next; rest = Then (move_turn config w.before.after w.move).after w.next next w.rest (subst (λ x. Chain config Holds x next) w.last chain); last = last; records = are ∙ ap (λ rs. rs ++ next.records) w.records ∙ append_assoc w.before.records ((move_turn config w.before.after w.move).records ++ w.next.records) next.records ∙ ap (λ rs. w.before.records ++ rs) (append_assoc (move_turn config w.before.after w.move).records w.next.records next.records) })

  located_then : (s : State) (t next u : Turn) (caller : ReqId) (chunk : ℕ) (view : View) (epoch : ℕ) → Chain config Holds s t → u.after ≡ next.after → u.records ≡ t.records ++ next.records → IsLocatedWithin config Holds t.after next caller chunk view epoch → Was s u caller chunk view epoch
  located_then s t next u caller chunk view epoch chain last are w =
      inr (record { before = joined t w.before; first = Then s t w.before chain w.first; move = w.move; holds = w.holds; locates = w.locates; next = w.next; rest = w.rest; last = last ∙ w.last; records = are ∙ ap (λ rs. t.records ++ rs) w.records ∙ sym (append_assoc t.records w.before.records ((move_turn config w.before.after w.move).records ++ w.next.records)) })

  pub chain_keeps : (s : State) (t : Turn) (caller : ReqId) (chunk : ℕ) (view : View) (epoch : ℕ) → Chain config Holds s t → KeepsLocation t.after caller chunk view epoch → Was s t caller chunk view epoch
  chain_keeps s t caller chunk view epoch (Rests u said) k = inl k
  chain_keeps s t caller chunk view epoch (Moves u move said holds) k = one_located s move said caller chunk view epoch holds (kept_by config heard s caller chunk view epoch move (made s move holds) k)
  chain_keeps s t caller chunk view epoch (Then u first next a b) k = by_next (chain_keeps first.after next caller chunk view epoch b k) (λ here. chain_keeps s first caller chunk view epoch a here)
    where
      by_next : Was first.after next caller chunk view epoch → (KeepsLocation first.after caller chunk view epoch → Was s first caller chunk view epoch) → Was s t caller chunk view epoch
      by_next (inl here) earlier = then_located s first next t caller chunk view epoch b refl refl (earlier here)
      by_next (inr w) earlier = located_then s first next t caller chunk view epoch a refl refl w

  -- So it is of each reply that some of its records tell, where a disk fails behind these.
  pub chain_tells : (s : State) (t : Turn) (caller : ReqId) (chunk : ℕ) (view : View) (epoch many : ℕ) (e : Durable) → Chain config Holds s t → replayed s.durable (take many t.records) ≡ Some e → IsToldIn e.replies caller chunk view epoch → Was s t caller chunk view epoch
  chain_tells s t caller chunk view epoch many e (Rests u said) fit k = inl (inl (subst (λ (d : Durable). IsToldIn d.replies caller chunk view epoch) (durable_is (sym fit ∙ ap (replayed s.durable) (none_taken many))) k))
    where
      none_taken : (many : ℕ) → ◌≡◌ {A = List PlainEntry} (take many []) []
      none_taken zero = refl
      none_taken (suc many) = refl

      durable_is : {a b : Durable} → ◌≡◌ {A = Option Durable} (Some a) (Some b) → a ≡ b
      durable_is h = cc
  chain_tells s t caller chunk view epoch many e (Moves u move said holds) fit k = one_located s move said caller chunk view epoch holds (part_kept config heard s caller chunk view epoch move many e (made s move holds) fit k)
  chain_tells s t caller chunk view epoch many e (Then u first next a b) fit k =
      by_place (λ here. chain_tells s first caller chunk view epoch many e a here k) (λ rest there. chain_tells first.after next caller chunk view epoch rest e b there k) (nat_lt many (length first.records)) refl
    where
      by_first : many ≤ length first.records → (replayed s.durable (take many first.records) ≡ Some e → Was s first caller chunk view epoch) → Was s t caller chunk view epoch
      by_first within told = then_located s first next t caller chunk view epoch b refl refl (told (ap (replayed s.durable) (sym (take-append-le many first.records next.records within)) ∙ fit))

      by_was : Was first.after next caller chunk view epoch → Was s t caller chunk view epoch
      by_was (inl here) = then_located s first next t caller chunk view epoch b refl refl (chain_keeps s first caller chunk view epoch a here)
      by_was (inr w) = located_then s first next t caller chunk view epoch a refl refl w

      by_next : (rest : ℕ) → many ≡ length first.records + rest → (replayed first.after.durable (take rest next.records) ≡ Some e → Was first.after next caller chunk view epoch) → Was s t caller chunk view epoch
      by_next rest is told =
          let parts = split first.records (take rest next.records) s.durable e (ap (replayed s.durable) (sym (ap (λ n. take n (first.records ++ next.records)) is ∙ take-append-add first.records next.records rest)) ∙ fit) in
          let left : first.after.durable ≡ parts.mid = chain_leaves config heard Holds (λ u move held. (made u move held).may) s first parts.mid a parts.first in
          by_was (told (subst (λ (d : Durable). replayed d (take rest next.records) ≡ Some e) (sym left) parts.then))

      by_place : (replayed s.durable (take many first.records) ≡ Some e → Was s first caller chunk view epoch) → ((rest : ℕ) → replayed first.after.durable (take rest next.records) ≡ Some e → Was first.after next caller chunk view epoch) → (c : Bool) → nat_lt many (length first.records) ≡ c → Was s t caller chunk view epoch
      by_place told after true is = by_first (grind (arith, nat_tests)) told
      by_place told after false is = by_next (many - length first.records) (grind (arith, nat_tests)) (after (many - length first.records))

  abbrev AreSent : (ReqId → ℕ → View → ℕ → Type 0) → List Message → Type 0
  AreSent P messages = AllByRecursion (λ (m : Message). IsToldOnlyIf P m.body) messages

  sent_further : (P Q : ReqId → ℕ → View → ℕ → Type 0) → ((caller : ReqId) (chunk : ℕ) (view : View) (epoch : ℕ) → P caller chunk view epoch → Q caller chunk view epoch) → (body : Body) → IsToldOnlyIf P body → IsToldOnlyIf Q body
  sent_further P Q more (bodies.Reply req (Ok (answers.Location chunk view epoch))) was = more req chunk view epoch was
  sent_further P Q more body was = tt

  all_further : (P Q : ReqId → ℕ → View → ℕ → Type 0) → ((caller : ReqId) (chunk : ℕ) (view : View) (epoch : ℕ) → P caller chunk view epoch → Q caller chunk view epoch) → (messages : List Message) → AreSent P messages → AreSent Q messages
  all_further P Q more [] all = tt
  all_further P Q more (m ∷ messages) all = (sent_further P Q more m.body all.0, all_further P Q more messages all.1)

  all_both : (P : ReqId → ℕ → View → ℕ → Type 0) (xs ys : List Message) → AreSent P xs → AreSent P ys → AreSent P (xs ++ ys)
  all_both P [] ys a b = b
  all_both P (x ∷ xs) ys a b = (a.0, all_both P xs ys a.1 b)

  pub chain_sends : (s : State) (t : Turn) → Chain config Holds s t → AreSent (Was s t) t.sent
  chain_sends s t (Rests u said) = tt
  chain_sends s t (Moves u move said holds) =
      all_further (λ caller chunk view epoch. KeepsLocation s caller chunk view epoch ⊎ Locates s move caller chunk view epoch) (Was s t) (λ caller chunk view epoch was. one_located s move said caller chunk view epoch holds was) (move_turn config s move).sent (sent_by config heard s move (made s move holds))
  chain_sends s t (Then u first next a b) =
      all_both (Was s t) first.sent next.sent (all_further (Was s first) (Was s t) (λ caller chunk view epoch was. then_located s first next t caller chunk view epoch b refl refl was) first.sent (chain_sends s first a))
      (all_further (Was first.after next) (Was s t) later_on next.sent (chain_sends first.after next b))
    where
      later_on : (caller : ReqId) (chunk : ℕ) (view : View) (epoch : ℕ) → Was first.after next caller chunk view epoch → Was s t caller chunk view epoch
      later_on caller chunk view epoch (inl here) = then_located s first next t caller chunk view epoch b refl refl (chain_keeps s first caller chunk view epoch a here)
      later_on caller chunk view epoch (inr w) = located_then s first next t caller chunk view epoch a refl refl w

pub kept_were_located : KeptWereLocated
kept_were_located config heard s t caller chunk view epoch chain k = chain_keeps config heard (IsMade config heard) (λ u move made. made) s t caller chunk view epoch chain k

pub sent_were_located : SentWereLocated
sent_were_located config heard s t chain = chain_sends config heard (IsMade config heard) (λ u move made. made) s t chain
