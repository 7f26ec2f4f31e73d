-- A request that is over makes no edit any more, and stays over: move by move, and so over each event and each list of events.
use Rattle.std.proofs.Common.{◌≡◌, ◌⊎◌, inl, inr, ◌∙◌, ◌&&◌, ◌||◌, ◌++◌, ◌+◌, ◌==◌, ℕ, Bool, true, false, not, List, [], ◌∷◌, map, refl, ap, sym, subst}
use Rattle.std.specs.Prelude.{flat_map, nat_lt, is_some, Option, Some, None, Result, Ok, Err, if◌then◌else◌}
use Rattle.std.specs.FinMap as fin
use Rattle.std.specs.List.{AllByRecursion, list_all, list_any}
use Rattle.std.proofs.lemmas.Bool.{false≢true, true≢false, and_parts}
use Rattle.gs_base.specs.declared.config.Config.{Config}
use Rattle.gs_base.specs.declared.numbers.ReqId.{ReqId}
use Rattle.gs_base.specs.declared.refusal.Refusal.{Refusal}
use Rattle.gs_base.specs.Members.{is_member}
use Rattle.gs_lease.specs.declared.view.View.{View}
use Rattle.gs_lock.specs.Operations.{same_op}
use Rattle.gs_edit.specs.View.{NamesView}
use Rattle.gs_msg.specs.declared.answer.Answer.{Answer}
use Rattle.gs_msg.specs.declared.answer.Answer.TheVariants as answers
use Rattle.gs_base.specs.declared.epoch.EpochEnd.TheVariants as ends
use Rattle.gs_master_record.specs.Plain.{AddChunk, Edited, Finalize, Holder, PlainEdit, PlainEntry, Prepare, Propose, Remove, RollbackBegin, RollbackCommit, Said, Settle, Snapshot, Whole}
use Rattle.gs_master_record.specs.declared.checkpoint.Phase.TheVariants.{Ordinary, Upgrade, Rolling}
use Rattle.gs_master_record.specs.declared.entry.Answered.{Answered}
use Rattle.gs_master_spec.specs.Applied.{after_edit, after_undoing, applied, are_answers, are_at_rest, held_by, is_next_epoch, may_be_settled, may_edit, may_propose, proposed, rolled_back, with_edit, with_epoch, with_reply, with_view, without_prepared, view_for, chunk_of_edit, with_answer, replayed}
use Rattle.gs_master_spec.specs.Chunks.{holder_records, is_holder, target_of}
use Rattle.gs_master_spec.specs.Durable.{Durable, start, is_ordinary, is_rolling, is_upgrade, prepared_view, with_prepared}
use Rattle.gs_master_spec.specs.Handling.{call_turn, unlisted}
use Rattle.gs_master_spec.specs.Replies.{answer_to, client_cmp, is_later, later}
use Rattle.gs_master_spec.specs.Settling.{own_request}
use Rattle.gs_master_spec.specs.State.{State, Turn, answer_changes, end_changes, fits, is_kept, keeps_refusal, kept_in_memory, last_reply, said_changes, said_records}
use Rattle.gs_master_spec.specs.Undoing.{all_undone, edited_names}
use Rattle.gs_master_spec.specs.Volatile.{Volatile, all_changed, behind_restart, changed, is_call, is_pending, let_go, let_go_of, without_call}
use Rattle.gs_master_spec.specs.Working.{forget_if}
use Rattle.gs_master_spec.specs.declared.asking.Asking.{Asking}
use Rattle.gs_master_spec.specs.declared.change.Change.{Change}
use Rattle.gs_master_spec.specs.declared.change.Change.TheVariants as changes
use Rattle.gs_master_spec.specs.declared.pending.Pending.{Pending}
use Rattle.gs_master_spec.specs.declared.reply.KeptReply.{KeptReply}
use Rattle.gs_laws_master.proofs.lemmas.upgrades.Beginnings.{fits_gives}
use Rattle.gs_laws_master.proofs.lemmas.refusals.Refusing.{refused_leaves_all}
use Rattle.gs_laws_master.specs.Promises.{with_kept, with_said}
use Rattle.gs_laws_master.proofs.lemmas.standing.Standing.{StaysAnswered, changed_more, kept_answers, now_answered, same_parts, told_answers}
use Rattle.gs_laws_master.proofs.lemmas.standing.StandingRuns.{events_fit}
use Rattle.gs_laws_master.specs.Standing.{Comes, Event, IsFirm, IsNamed, IsOver, Renews, Restarts, Ticks, run_of, turn_of, was_answered}
use Rattle.gs_laws_moves.proofs.lemmas.moves.Called.{move_waits}
use Rattle.gs_laws_moves.proofs.lemmas.moves.Listed.{over_records}
use Rattle.gs_laws_moves.proofs.lemmas.moves.Made.{events_are_chains}
use Rattle.gs_laws_moves.proofs.lemmas.moves.Stands.{plain, plain_records}
use Rattle.gs_laws_moves.specs.moves.Guards.{Heard, IsCalled, IsMade}
use Rattle.gs_laws_moves.specs.moves.Laws.{heard_in, met_in}
use Rattle.gs_laws_moves.specs.moves.Moves.{Alone, Chain, FromNow, Further, Move, Moves, Rests, Then, Begins, Makes, Copies, Hears, Sends, Settles, Edits, Extends, CopiesTree, Replaces, Scans, Refuses, Answers as AnswersCall, Waits, Restores, Says, Flags, Prepares, Finalizes, BeginsRollback, TellsRollback, CommitsRollback, Checkpoints, move_turn}
use Rattle.gs_laws_moves.specs.moves.Over.{IsOverBy, OverMakesNoEdit, OverMakesNoEditLater, RefusedAreTold, is_restart, tells_edit_of, was_told}

-- ---- what holds of the replies that records tell, and of more of them, holds over what becomes durable

module _ (Q : fin.FinMap client_cmp KeptReply → Type 0) (told : (m : fin.FinMap client_cmp KeptReply) (to : ReqId) (result : Result Answer Refusal) → Q m → Q (with_reply m to result)) where
  abbrev RepliesOver : Durable → Durable → Type 0
  RepliesOver d e = Q d.replies → Q e.replies

  same_replies : (d e : Durable) → e.replies ≡ d.replies → RepliesOver d e
  same_replies d e same q = subst Q (sym same) q

  replied_over : (d e : Durable) (to : ReqId) (result : Result Answer Refusal) → e.replies ≡ with_reply d.replies to result → RepliesOver d e
  replied_over d e to result same q = subst Q (sym same) (told d.replies to result q)

  answered_over : (d e : Durable) (by : ReqId) (answer : Option Answer) → e.replies ≡ with_answer d.replies by answer → RepliesOver d e
  answered_over d e by None same = same_replies d e same
  answered_over d e by (Some answer) same = replied_over d e by (Ok answer) same

  edited_over : (d e : Durable) (by : ReqId) (edit : PlainEdit) (names : Result NamesView Refusal) → after_edit d by edit names ≡ Some e → RepliesOver d e
  edited_over d e by edit (Ok names) fit =
      answered_over d e by (answer_to edit (view_for d (chunk_of_edit edit)) d.epoch) (ap (λ (x : Durable). x.replies) (sym (fits_gives (may_edit d edit) (with_edit d by edit names) e fit).1))
  edited_over d e by edit (Err refusal) fit = absurd (false≢true (ap is_there fit))
    where
      is_there : Option Durable → Bool
      is_there None = false
      is_there (Some x) = true

  undone_over : (d e : Durable) (now : ℕ) (told : List Answered) (names : Option NamesView) → after_undoing d now told names ≡ Some e → RepliesOver d e
  undone_over d e now told None fit = absurd (false≢true (ap is_there fit))
    where
      is_there : Option Durable → Bool
      is_there None = false
      is_there (Some x) = true
  undone_over d e now told (Some names) fit =
      same_replies d e (ap (λ (x : Durable). x.replies) (sym (fits_gives (is_rolling d.phase && ((now == d.epoch) && are_answers (prepared_view d) (fin.entries names.refs) told)) (rolled_back d told names) e fit).1))

  record_keeps : (d e : Durable) (entry : PlainEntry) → plain entry ≡ true → applied d entry ≡ Some e → RepliesOver d e
  unfolding applied
  record_keeps d e (Edited by edit) usual fit = edited_over d e by edit (edited_names edit d.names) fit
  record_keeps d e (Said to refusal) usual fit = replied_over d e to (Err refusal) (ap (λ (x : Durable). x.replies) (sym (durable_is fit)))
    where
      durable_is : {a b : Durable} → ◌≡◌ {A = Option Durable} (Some a) (Some b) → a ≡ b
      durable_is h = cc
  record_keeps d e (Propose q version) usual fit = same_replies d e (ap (λ (x : Durable). x.replies) (sym (fits_gives (may_propose d.phase d.next_handle d.next_version q version (fin.get d.chunks q)) (proposed d q version) e fit).1))
  record_keeps d e (Settle v) usual fit = same_replies d e (ap (λ (x : Durable). x.replies) (sym (fits_gives (may_be_settled d v) (with_view d v) e fit).1))
  record_keeps d e (Holder q server) usual fit =
      same_replies d e (ap (λ (x : Durable). x.replies) (sym (fits_gives (is_upgrade d.phase && (nat_lt server 16 && is_some (prepared_view d q))) (record d { prepared = with_prepared d q (held_by server (prepared_view d q)) }) e fit).1))
  record_keeps d e (Prepare now moment chunks) usual fit = same_replies d e (ap (λ (x : Durable). x.replies) (sym (fits_gives (is_ordinary d.phase && (is_next_epoch d.epoch now && are_at_rest d)) (without_prepared (with_epoch d ends.Prepare Upgrade)) e fit).1))
  record_keeps d e (Finalize now) usual fit = same_replies d e (ap (λ (x : Durable). x.replies) (sym (fits_gives (is_upgrade d.phase && is_next_epoch d.epoch now) (without_prepared (with_epoch d ends.Finalize Ordinary)) e fit).1))
  record_keeps d e (RollbackBegin now) usual fit = same_replies d e (ap (λ (x : Durable). x.replies) (sym (fits_gives (is_upgrade d.phase && is_next_epoch d.epoch now) (with_epoch d ends.Rollback Rolling) e fit).1))
  record_keeps d e (RollbackCommit now told) usual fit = undone_over d e now told (all_undone d.inverses d.names) fit
  record_keeps d e (Whole c) usual fit = absurd (false≢true usual)

  pub replies_over : (config : Config) (heard : Heard) (s : State) (move : Move) → IsMade config heard s move → RepliesOver s.durable (move_turn config s move).after.durable
  replies_over config heard s Checkpoints made = same_replies s.durable (move_turn config s Checkpoints).after.durable refl
  replies_over config heard s move made =
      over_records RepliesOver (λ d q. q) (λ d n e a b q. b (a q)) plain record_keeps (move_turn config s move).records s.durable (move_turn config s move).after.durable (plain_records config heard s move refl) made.fits

-- ---- what was answered stays so, over what becomes durable

-- whatever is in memory
abbrev pub AnsweredOver : Durable → Durable → Type 0
AnsweredOver d e = (v : Volatile) → StaysAnswered d v e v

-- by these replies, beside those in memory
abbrev IsAnsweredBy : Volatile → ReqId → fin.FinMap client_cmp KeptReply → Type 0
IsAnsweredBy v req m = not (is_later (later (fin.get m req.client) (fin.get v.replies req.client)) req.number) ≡ true

more_told : (v : Volatile) (req : ReqId) (m : fin.FinMap client_cmp KeptReply) (to : ReqId) (result : Result Answer Refusal) → IsAnsweredBy v req m → IsAnsweredBy v req (with_reply m to result)
more_told v req m to result was = told_answers (record start { replies = m }) v to result req was

record_over : (d e : Durable) (entry : PlainEntry) → plain entry ≡ true → applied d entry ≡ Some e → AnsweredOver d e
record_over d e entry usual fit v req was = record_keeps (IsAnsweredBy v req) (more_told v req) d e entry usual fit was

pub durable_over : (config : Config) (heard : Heard) (s : State) (move : Move) → IsMade config heard s move → AnsweredOver s.durable (move_turn config s move).after.durable
durable_over config heard s move made v req was = replies_over (IsAnsweredBy v req) (more_told v req) config heard s move made was

-- ---- and over what is kept in memory

abbrev pub AnsweredIn : Durable → Volatile → Volatile → Type 0
AnsweredIn d v w = StaysAnswered d v d w

pub same_in : (d : Durable) (v w : Volatile) → w.replies ≡ v.replies → AnsweredIn d v w
same_in d v w same req was = ap (λ m. not (is_later (later (fin.get d.replies req.client) (fin.get m req.client)) req.number)) same ∙ was

-- a change that keeps no reply
abbrev pub keeps_none : Change → Bool
keeps_none (changes.Keep client reply) = false
keeps_none change = true

change_keeps : (v : Volatile) (change : Change) → keeps_none change ≡ true → (changed v change).replies ≡ v.replies
change_keeps v (changes.Keep client reply) none = absurd (false≢true none)
change_keeps v (changes.Ask q asking) none = refl
change_keeps v (changes.Settled q) none = refl
change_keeps v (changes.Enter q) none = refl
change_keeps v (changes.Place q) none = refl
change_keeps v (changes.Lose q) none = refl
change_keeps v (changes.Forget chunks) none = refl
change_keeps v (changes.Begin p) none = refl
change_keeps v (changes.Wait req waiting) none = refl
change_keeps v (changes.End req) none = refl
change_keeps v (changes.Prepare is_preparing) none = refl
change_keeps v (changes.Restored server chunks) none = refl
change_keeps v changes.RolledBack none = refl

pub changes_keep : (cs : List Change) (v : Volatile) → list_all keeps_none cs ≡ true → (all_changed v cs).replies ≡ v.replies
changes_keep [] v none = refl
changes_keep (c ∷ cs) v none = (let parts = and_parts (keeps_none c) (list_all keeps_none cs) none in changes_keep cs (changed v c) parts.1 ∙ change_keeps v c parts.0)

let_go_keeps : (new : List ℕ) (req : ReqId) (es : List (ℕ × Asking)) → list_all keeps_none (flat_map (let_go_of new req) es) ≡ true
let_go_keeps new req [] = refl
let_go_keeps new req (e ∷ es) = both_all (let_go_of new req e) (flat_map (let_go_of new req) es) (by_tests (is_call req e.1.call) (is_member new e.0)) (let_go_keeps new req es)
  where
    by_tests : (c n : Bool) → list_all keeps_none (if not c then [] else if n then changes.Lose e.0 ∷ [] else changes.Ask e.0 (without_call e.1) ∷ []) ≡ true
    by_tests false n = refl
    by_tests true true = refl
    by_tests true false = refl

    both_all : (xs ys : List Change) → list_all keeps_none xs ≡ true → list_all keeps_none ys ≡ true → list_all keeps_none (xs ++ ys) ≡ true
    both_all [] ys a b = b
    both_all (x ∷ xs) ys a b = (let parts = and_parts (keeps_none x) (list_all keeps_none xs) a in ap (λ t. t && list_all keeps_none (xs ++ ys)) parts.0 ∙ both_all xs ys parts.1 b)

pub end_keeps : (s : State) (req : ReqId) (over : Bool) → list_all keeps_none (if over then end_changes s req else []) ≡ true
end_keeps s req true = ended (let_go s.volatile req) (let_go_keeps s.volatile.unplaced req (fin.entries s.volatile.moving))
  where
    ended : (xs : List Change) → list_all keeps_none xs ≡ true → list_all keeps_none (xs ++ changes.End req ∷ []) ≡ true
    ended [] all = refl
    ended (x ∷ xs) all = (let parts = and_parts (keeps_none x) (list_all keeps_none xs) all in ap (λ t. t && list_all keeps_none (xs ++ changes.End req ∷ [])) parts.0 ∙ ended xs parts.1)
end_keeps s req false = refl

-- behind changes that keep none, a reply is kept that is later than the last one
kept_in : (s : State) (u : Volatile) (req : ReqId) (result : Result Answer Refusal) → u.replies ≡ s.volatile.replies → is_later (last_reply s req.client) req.number ≡ true → AnsweredIn s.durable s.volatile (all_changed u (kept_in_memory req result ∷ []))
kept_in s u req result same new q was =
    let reply : KeptReply = record { number = req.number; result = result } in
    same_in s.durable (record (s.volatile) { replies = fin.insert s.volatile.replies req.client reply }) (all_changed u (kept_in_memory req result ∷ [])) (ap (λ m. fin.insert m req.client reply) same) q
    (kept_answers s.durable s.volatile req.client reply new q was)

answer_in : (s : State) (u : Volatile) (req : ReqId) (answer : Answer) → u.replies ≡ s.volatile.replies → AnsweredIn s.durable s.volatile (all_changed u (answer_changes s req answer))
answer_in s u req answer same = by_test (is_later (last_reply s req.client) req.number) refl
  where
    by_test : (b : Bool) → is_later (last_reply s req.client) req.number ≡ b → AnsweredIn s.durable s.volatile (all_changed u (if b then kept_in_memory req (Ok answer) ∷ [] else []))
    by_test true new = kept_in s u req (Ok answer) same new
    by_test false old = same_in s.durable s.volatile u same

said_in : (s : State) (req : ReqId) (refusal : Refusal) → AnsweredIn s.durable s.volatile (all_changed s.volatile (said_changes (keeps_refusal s req refusal) s.log req refusal))
said_in s req refusal = by_tests (is_kept refusal) (is_later (last_reply s req.client) req.number) refl (fits s.log (Said req refusal ∷ []))
  where
    by_tests : (kept new : Bool) → is_later (last_reply s req.client) req.number ≡ new → (room : Bool) → AnsweredIn s.durable s.volatile (all_changed s.volatile (if (kept && new) && not room then kept_in_memory req (Err refusal) ∷ [] else []))
    by_tests true true is false = kept_in s s.volatile req (Err refusal) refl is
    by_tests true true is true = same_in s.durable s.volatile s.volatile refl
    by_tests true false is room = same_in s.durable s.volatile s.volatile refl
    by_tests false new is room = same_in s.durable s.volatile s.volatile refl

-- behind it others that keep none
pub then_keeps : (d : Durable) (v : Volatile) (xs ys : List Change) → AnsweredIn d v (all_changed v xs) → list_all keeps_none ys ≡ true → AnsweredIn d v (all_changed v (xs ++ ys))
then_keeps d v xs ys a none req was =
    same_in d (all_changed v xs) (all_changed v (xs ++ ys)) (ap (λ (w : Volatile). w.replies) (changed_more xs ys v) ∙ changes_keep ys (all_changed v xs) none) req (a req was)

pub memory_over : (config : Config) (s : State) (move : Move) → AnsweredIn s.durable s.volatile (move_turn config s move).after.volatile
memory_over config s (Begins q purpose call Alone) = same_in s.durable s.volatile (move_turn config s (Begins q purpose call Alone)).after.volatile refl
memory_over config s (Begins q purpose call (FromNow req waiting)) = same_in s.durable s.volatile (move_turn config s (Begins q purpose call (FromNow req waiting))).after.volatile refl
memory_over config s (Begins q purpose call (Further req waiting)) = same_in s.durable s.volatile (move_turn config s (Begins q purpose call (Further req waiting))).after.volatile refl
memory_over config s (Makes targets req path) = same_in s.durable s.volatile (move_turn config s (Makes targets req path)).after.volatile refl
memory_over config s (Copies old at req Alone) = same_in s.durable s.volatile (move_turn config s (Copies old at req Alone)).after.volatile refl
memory_over config s (Copies old at req (FromNow by waiting)) = same_in s.durable s.volatile (move_turn config s (Copies old at req (FromNow by waiting))).after.volatile refl
memory_over config s (Copies old at req (Further by waiting)) = same_in s.durable s.volatile (move_turn config s (Copies old at req (Further by waiting))).after.volatile refl
memory_over config s (Hears q asking) = same_in s.durable s.volatile (move_turn config s (Hears q asking)).after.volatile refl
memory_over config s (Sends q asking source target) = same_in s.durable s.volatile (move_turn config s (Sends q asking source target)).after.volatile refl
memory_over config s (Settles q asking carried at) = same_in s.durable s.volatile (move_turn config s (Settles q asking carried at)).after.volatile refl
memory_over config s (Edits req edit answer) = same_in s.durable s.volatile (move_turn config s (Edits req edit answer)).after.volatile refl
memory_over config s (Extends req path new at) = same_in s.durable s.volatile (move_turn config s (Extends req path new at)).after.volatile refl
memory_over config s (CopiesTree req from to) = same_in s.durable s.volatile (move_turn config s (CopiesTree req from to)).after.volatile refl
memory_over config s (Replaces path index old new) = same_in s.durable s.volatile (move_turn config s (Replaces path index old new)).after.volatile refl
memory_over config s (Scans removed forgotten) = same_in s.durable s.volatile (move_turn config s (Scans removed forgotten)).after.volatile refl
memory_over config s (Refuses req refusal over) = then_keeps s.durable s.volatile (said_changes (keeps_refusal s req refusal) s.log req refusal) (if over then end_changes s req else []) (said_in s req refusal) (end_keeps s req over)
memory_over config s (AnswersCall req answer true) = then_keeps s.durable s.volatile (answer_changes s req answer) (changes.End req ∷ []) (answer_in s s.volatile req answer refl) refl
memory_over config s (AnswersCall req answer false) = answer_in s s.volatile req answer refl
memory_over config s (Waits req waiting) = same_in s.durable s.volatile (move_turn config s (Waits req waiting)).after.volatile refl
memory_over config s (Restores server chunks) = same_in s.durable s.volatile (move_turn config s (Restores server chunks)).after.volatile refl
memory_over config s (Says messages) = same_in s.durable s.volatile (move_turn config s (Says messages)).after.volatile refl
memory_over config s (Flags req preparing now) = answer_in s (changed s.volatile (changes.Prepare preparing)) req (answers.Epoch now) refl
memory_over config s (Prepares req moment) = answer_in s (changed s.volatile (changes.Prepare false)) req (answers.Epoch (s.durable.epoch + 1)) refl
memory_over config s (Finalizes req) = answer_in s s.volatile req (answers.Epoch (s.durable.epoch + 1)) refl
memory_over config s BeginsRollback = same_in s.durable s.volatile (move_turn config s BeginsRollback).after.volatile refl
memory_over config s (TellsRollback req now) = answer_in s s.volatile req (answers.Epoch now) refl
memory_over config s (CommitsRollback req names) = answer_in s (changed s.volatile changes.RolledBack) req (answers.Epoch s.durable.epoch) refl
memory_over config s Checkpoints = same_in s.durable s.volatile (move_turn config s Checkpoints).after.volatile refl

-- ---- what a record has told

later_none : (o : Option KeptReply) → later o None ≡ o
later_none None = refl
later_none (Some reply) = refl

-- where a record has told the answer, nothing that is kept in memory is needed
pub told_is : (d : Durable) (out : List ℕ) (req : ReqId) → was_answered d (behind_restart out) req ≡ was_told d req
told_is d out req = ap (λ o. not (is_later (later (fin.get d.replies req.client) o) req.number)) (fin.get-empty client_cmp req.client) ∙ ap (λ o. not (is_later o req.number)) (later_none (fin.get d.replies req.client))

told_on : (d e : Durable) (req : ReqId) → AnsweredOver d e → was_told d req ≡ true → was_told e req ≡ true
told_on d e req on told = sym (told_is e [] req) ∙ on (behind_restart []) req (told_is d [] req ∙ told)

-- records of which none is a checkpoint leave it told
pub records_told : (entries : List PlainEntry) (d e : Durable) (req : ReqId) → list_all plain entries ≡ true → replayed d entries ≡ Some e → was_told d req ≡ true → was_told e req ≡ true
records_told entries d e req usual fit = told_on d e req (over_records AnsweredOver (λ d v req was. was) (λ d n e a b v req was. b v req (a v req was)) plain record_over entries d e usual fit)

-- ---- which edits are told

pub any_both : {A : Type 0} (p : A → Bool) (xs ys : List A) → list_any p xs ≡ false → list_any p ys ≡ false → list_any p (xs ++ ys) ≡ false
any_both p [] ys a b = b
any_both p (x ∷ xs) ys a b = by_head (p x) a (λ rest. any_both p xs ys rest b)
  where
    by_head : (c : Bool) → (c || list_any p xs) ≡ false → (list_any p xs ≡ false → list_any p (xs ++ ys) ≡ false) → (c || list_any p (xs ++ ys)) ≡ false
    by_head true h rest = absurd (true≢false h)
    by_head false h rest = rest h

call_is : {a b : ReqId} → ◌≡◌ {A = Option ReqId} (Some a) (Some b) → a ≡ b
call_is h = cc

and_none : (b : Bool) → ((b && false) || false) ≡ false
and_none true = refl
and_none false = refl

-- whose edit a move makes: those of the master's own are nobody's
abbrev pub editor : Move → Option ReqId
editor (Edits by edit answer) = Some by
editor (Extends by path new at) = Some by
editor (CopiesTree by from to) = Some by
editor move = None

module _ (req : ReqId) where
  abbrev pub IsOther : ReqId → Type 0
  IsOther by = is_call req (Some by) ≡ false

  abbrev pub tells : PlainEntry → Bool
  tells = tells_edit_of req

  -- an edit of another request
  pub others_edit : (by : ReqId) (edit : PlainEdit) → IsOther by → list_any tells (Edited by edit ∷ []) ≡ false
  others_edit by edit other = ap (λ b. (b && not (is_call by (Some own_request))) || false) other

  settle_tells : (b : Bool) (q : ℕ) (target : Option ℕ) (view : View) → list_any tells (holder_records b q target ++ Settle (record { handle = q; view = view }) ∷ []) ≡ false
  settle_tells b q None view = refl
  settle_tells true q (Some target) view = refl
  settle_tells false q (Some target) view = refl

  own_tells : (edits : List PlainEdit) → list_any tells (map (Edited own_request) edits) ≡ false
  own_tells [] = refl
  own_tells (edit ∷ edits) = by_test (is_call req (Some own_request)) (own_tells edits)
    where
      by_test : (b : Bool) → list_any tells (map (Edited own_request) edits) ≡ false → ((b && false) || list_any tells (map (Edited own_request) edits)) ≡ false
      by_test true rest = rest
      by_test false rest = rest

  pub said_tells : (s : State) (by : ReqId) (refusal : Refusal) → list_any tells (said_records (keeps_refusal s by refusal) s.log by refusal) ≡ false
  said_tells s by refusal = by_test (keeps_refusal s by refusal && fits s.log (Said by refusal ∷ []))
    where
      by_test : (b : Bool) → list_any tells (if b then Said by refusal ∷ [] else []) ≡ false
      by_test true = refl
      by_test false = refl

  -- ---- calls that wait

  rest_others : (ps : List Pending) → is_pending ps req ≡ false → AllByRecursion (λ (p : Pending). IsOther p.req) ps
  rest_others [] none = tt
  rest_others (p ∷ ps) none = by_test (same_op req p.req) refl none (rest_others ps)
    where
      by_test : (b : Bool) → same_op req p.req ≡ b → (b || is_pending ps req) ≡ false → (is_pending ps req ≡ false → AllByRecursion (λ (q : Pending). IsOther q.req) ps) → AllByRecursion (λ (q : Pending). IsOther q.req) (p ∷ ps)
      by_test true is none rest = absurd (true≢false none)
      by_test false is none rest = (is, rest none)

  others_rest : (ps : List Pending) → AllByRecursion (λ (p : Pending). IsOther p.req) ps → is_pending ps req ≡ false
  others_rest [] all = refl
  others_rest (p ∷ ps) all = ap (λ b. b || is_pending ps req) all.0 ∙ others_rest ps all.1

  -- a call of which a move can be isn't one that is over
  pub called_other : (heard : Heard) (s : State) → IsOver s.durable s.volatile req → (by : ReqId) → IsCalled heard s by → IsOther by
  called_other heard s over by called = by_same (is_call req (Some by)) refl
    where
      later : is_later (last_reply s by.client) by.number ≡ true → req ≡ by → ⊥
      later new same = true≢false (sym (subst (λ r. not (is_later (last_reply s r.client) r.number) ≡ true) same over.answered) ∙ ap not new)

      waits : is_pending s.volatile.pending by ≡ true → req ≡ by → ⊥
      waits there same = true≢false (sym there ∙ subst (λ r. is_pending s.volatile.pending r ≡ false) same over.rests)

      none : IsCalled heard s by → req ≡ by → ⊥
      none (inl (call, new)) same = later new same
      none (inr there) same = waits there same

      by_same : (b : Bool) → is_call req (Some by) ≡ b → b ≡ false
      by_same true is = absurd (none called (same_parts req by is))
      by_same false is = refl

  module _ (config : Config) (heard : Heard) where
    pub editor_tells : (s : State) (move : Move) → ((by : ReqId) → editor move ≡ Some by → IsOther by) → list_any tells (move_turn config s move).records ≡ false
    editor_tells s (Begins q purpose call Alone) other = refl
    editor_tells s (Begins q purpose call (FromNow by waiting)) other = refl
    editor_tells s (Begins q purpose call (Further by waiting)) other = refl
    editor_tells s (Makes targets by path) other = refl
    editor_tells s (Copies old at by Alone) other = refl
    editor_tells s (Copies old at by (FromNow mine waiting)) other = refl
    editor_tells s (Copies old at by (Further mine waiting)) other = refl
    editor_tells s (Hears q asking) other = refl
    editor_tells s (Sends q asking source target) other = refl
    editor_tells s (Settles q asking carried at) other = settle_tells (is_holder s.durable.phase (prepared_view s.durable q) carried asking at) q (target_of asking.purpose) at
    editor_tells s (Edits by edit answer) other = others_edit by edit (other by refl)
    editor_tells s (Extends by path new at) other = others_edit by (AddChunk path new) (other by refl)
    editor_tells s (CopiesTree by from to) other = others_edit by (Snapshot from to) (other by refl)
    editor_tells s (Replaces path index old new) other = and_none (is_call req (Some own_request))
    editor_tells s (Scans removed forgotten) other = own_tells (map (λ path. Remove path) removed ++ forget_if forgotten)
    editor_tells s (Refuses by refusal over) other = said_tells s by refusal
    editor_tells s (AnswersCall by answer true) other = refl
    editor_tells s (AnswersCall by answer false) other = refl
    editor_tells s (Waits by waiting) other = refl
    editor_tells s (Restores server chunks) other = refl
    editor_tells s (Says messages) other = refl
    editor_tells s (Flags by preparing now) other = refl
    editor_tells s (Prepares by moment) other = refl
    editor_tells s (Finalizes by) other = refl
    editor_tells s BeginsRollback other = refl
    editor_tells s (TellsRollback by now) other = refl
    editor_tells s (CommitsRollback by names) other = refl
    editor_tells s Checkpoints other = refl

    editor_called : (s : State) (move : Move) (by : ReqId) → editor move ≡ Some by → IsMade config heard s move → IsCalled heard s by
    editor_called s (Edits mine edit answer) by is made = subst (IsCalled heard s) (call_is is) made.may.called
    editor_called s (Extends mine path new at) by is made = subst (IsCalled heard s) (call_is is) made.may.3
    editor_called s (CopiesTree mine from to) by is made = subst (IsCalled heard s) (call_is is) (inr made.may.2)
    editor_called s move by is made = absurd (false≢true (ap is_some is))

    move_tells : (s : State) (move : Move) → ((by : ReqId) → IsCalled heard s by → IsOther by) → IsMade config heard s move → list_any tells (move_turn config s move).records ≡ false
    move_tells s move other made = editor_tells s move (λ by is. other by (editor_called s move by is made))

    pub move_over : (s : State) (move : Move) → IsMade config heard s move → IsOver s.durable s.volatile req → IsOver (move_turn config s move).after.durable (move_turn config s move).after.volatile req
    move_over s move made over = record {
      answered = durable_over config heard s move made (move_turn config s move).after.volatile req (memory_over config s move req over.answered);
      rests = others_rest (move_turn config s move).after.volatile.pending (move_waits IsOther config heard s move (called_other heard s over) made (rest_others s.volatile.pending over.rests));
    }

    -- So it is over each chain, whoever calls.
    pub chained_over : (s : State) (t : Turn) → Chain config (IsMade config heard) s t → IsOver s.durable s.volatile req → IsOverBy req s t
    chained_over s t (Rests u said) over = record { edits = refl; over = over; told = λ told. told }
    chained_over s t (Moves u move said made) over =
        record { edits = move_tells u move (called_other heard u over) made; over = move_over u move made over; told = told_on u.durable (move_turn config u move).after.durable req (durable_over config heard u move made) }
    chained_over s t (Then u first next a b) over =
        let x = chained_over u first a over in
        let y = chained_over first.after next b x.over in
        record { edits = any_both tells first.records next.records x.edits y.edits; over = y.over; told = λ told. y.told (x.told told) }

-- a restart leaves what is durable
met_durable : (s : State) (event : Event) → (met_in s event).durable ≡ s.durable
met_durable s (Comes message moment) = refl
met_durable s (Ticks moment) = refl
met_durable s Renews = refl
met_durable s Restarts = refl

pub over_makes_no_edit : OverMakesNoEdit
over_makes_no_edit config s event req named firm over =
    let k = chained_over req config (heard_in event) (met_in s event) (turn_of config s event) (events_are_chains config s event named firm) over in
    record { edits = k.edits; over = k.over; told = λ told. k.told (ap (λ (d : Durable). was_told d req) (met_durable s event) ∙ told) }

-- ---- a list of events

module _ (config : Config) (req : ReqId) where
  abbrev MayGo : List Event → State → Type 0
  MayGo events s = (list_any is_restart events ≡ false) ⊎ (was_told s.durable req ≡ true)

  meets_over : (s : State) (event : Event) (events : List Event) → IsOver s.durable s.volatile req → MayGo (event ∷ events) s → IsOver (met_in s event).durable (met_in s event).volatile req
  meets_over s (Comes message moment) events over may = over
  meets_over s (Ticks moment) events over may = over
  meets_over s Renews events over may = over
  meets_over s Restarts events over (inl none) = absurd (true≢false none)
  meets_over s Restarts events over (inr told) = record { answered = told_is s.durable (unlisted s.durable) req ∙ told; rests = refl }

  goes_on : (s : State) (event : Event) (events : List Event) → IsOverBy req s (turn_of config s event) → MayGo (event ∷ events) s → MayGo events (turn_of config s event).after
  goes_on s event events one (inl none) = inl (second (is_restart event) (list_any is_restart events) none)
    where
      second : (a b : Bool) → (a || b) ≡ false → b ≡ false
      second true b h = absurd (true≢false h)
      second false b h = h
  goes_on s event events one (inr told) = inr (one.told told)

  run_over : (events : List Event) (s : State) → AllByRecursion IsNamed events → IsFirm s → IsOver s.durable s.volatile req → MayGo events s → IsOverBy req s (run_of config s events)
  run_over [] s named firm over may = record { edits = refl; over = over; told = λ told. told }
  run_over (event ∷ events) s named firm over may =
      let one = over_makes_no_edit config s event req named.0 firm (meets_over s event events over may) in
      let rest = run_over events (turn_of config s event).after named.1 (events_fit config s event named.0 firm).firm one.over (goes_on s event events one may) in
      record { edits = any_both (tells_edit_of req) (turn_of config s event).records (run_of config (turn_of config s event).after events).records one.edits rest.edits; over = rest.over; told = λ told. rest.told (one.told told) }

pub over_makes_no_edit_later : OverMakesNoEditLater
over_makes_no_edit_later config s events req named firm over may = run_over config req events s named firm over may

-- ---- a refusal that is recorded

pub refused_are_told : RefusedAreTold
refused_are_told config s req moment call refusal some recorded = by_left (refused_leaves_all config s req moment call refusal some).left
  where
    t : Turn
    t = call_turn config s req moment call

    none : (call_turn config s req moment call).records ≡ [] → ⊥
    none empty = false≢true (ap is_some_record (sym empty ∙ recorded))
      where
        is_some_record : List PlainEntry → Bool
        is_some_record [] = false
        is_some_record (entry ∷ entries) = true

    by_left : (((call_turn config s req moment call).after ≡ s) × ((call_turn config s req moment call).records ≡ [])) ⊎ ((((call_turn config s req moment call).after ≡ with_said s req refusal) × ((call_turn config s req moment call).records ≡ Said req refusal ∷ []))
        ⊎ (((call_turn config s req moment call).after ≡ with_kept s req refusal) × ((call_turn config s req moment call).records ≡ []))) → was_told (call_turn config s req moment call).after.durable req ≡ true
    by_left (inl same) = absurd (none same.1)
    by_left (inr (inl said)) = subst (λ (x : State). was_told x.durable req ≡ true) (sym said.0) (sym (told_is (with_said s req refusal).durable [] req) ∙ now_answered s.durable (behind_restart []) req (Err refusal))
    by_left (inr (inr kept)) = absurd (none kept.1)
