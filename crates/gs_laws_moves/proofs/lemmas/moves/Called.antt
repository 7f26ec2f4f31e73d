-- What waits was heard, and so was what is told where a chunk is.
use Rattle.std.proofs.Common.{◌≡◌, inl, inr, ◌∙◌, ◌&&◌, ◌||◌, ◌++◌, ◌+◌, ℕ, Bool, true, false, not, cond, List, [], ◌∷◌, refl, ap, sym, subst}
use Rattle.std.specs.Prelude.{Contains, flat_map, Ok, Err, if◌then◌else◌}
use Rattle.std.specs.FinMap as fin
use Rattle.std.specs.List.{AllByRecursion, list_all}
use Rattle.std.proofs.lemmas.Bool.{false≢true, and_parts}
use Rattle.gs_base.specs.Members.{is_member}
use Rattle.gs_base.specs.declared.config.Config.{Config}
use Rattle.gs_base.specs.declared.numbers.ReqId.{ReqId}
use Rattle.gs_base.specs.declared.refusal.Refusal.{Refusal}
use Rattle.gs_lease.specs.declared.view.View.{View}
use Rattle.gs_msg.specs.declared.answer.Answer.{Answer}
use Rattle.gs_msg.specs.declared.answer.Answer.TheVariants as answers
use Rattle.gs_master_record.specs.Plain.{Said}
use Rattle.gs_master_spec.specs.Replies.{is_later}
use Rattle.gs_master_spec.specs.State.{State, Turn, answer_changes, end_changes, fits, keeps_refusal, kept_in_memory, last_reply, said_changes}
use Rattle.gs_master_spec.specs.Volatile.{Volatile, all_changed, changed, is_call, is_pending, let_go, let_go_of, without_call, without_pending}
use Rattle.gs_master_spec.specs.declared.asking.Asking.{Asking}
use Rattle.gs_master_spec.specs.declared.change.Change.{Change}
use Rattle.gs_master_spec.specs.declared.change.Change.TheVariants as changes
use Rattle.gs_master_spec.specs.declared.pending.Pending.{Pending}
use Rattle.gs_master_spec.specs.declared.pending.Waiting.{Waiting}
use Rattle.gs_laws_master.proofs.lemmas.standing.Standing.{same_call, same_parts, set_so, set_waiting}
use Rattle.gs_laws_moves.specs.moves.Called.{AllWait, HearsFor, LocatedWereCalled, LocatesFor, WaitingWereHeard}
use Rattle.gs_laws_moves.specs.moves.Guards.{Heard, IsCalled, IsCalledFor, IsMade}
use Rattle.gs_laws_moves.specs.moves.Locations.{Locates}
use Rattle.gs_laws_moves.specs.moves.Moves.{Alone, Chain, FromNow, Further, Move, Moves, Rests, Then, Begins, Makes, Copies, Hears, Sends, Settles, Edits, Extends, CopiesTree, Replaces, Scans, Refuses, Answers as AnswersCall, Waits, Restores, Says, Flags, Prepares, Finalizes, BeginsRollback, TellsRollback, CommitsRollback, Checkpoints, move_turn}

-- a change by which no call waits from now on
abbrev begins_none : Change → Bool
begins_none (changes.Begin p) = false
begins_none change = true

both_all : (xs ys : List Change) → list_all begins_none xs ≡ true → list_all begins_none ys ≡ true → list_all begins_none (xs ++ ys) ≡ true
both_all [] ys a b = b
both_all (x ∷ xs) ys a b = (let parts = and_parts (begins_none x) (list_all begins_none xs) a in ap (λ t. t && list_all begins_none (xs ++ ys)) parts.0 ∙ both_all xs ys parts.1 b)

let_go_begins : (new : List ℕ) (req : ReqId) (es : List (ℕ × Asking)) → list_all begins_none (flat_map (let_go_of new req) es) ≡ true
let_go_begins new req [] = refl
let_go_begins new req (e ∷ es) = both_all (let_go_of new req e) (flat_map (let_go_of new req) es) (by_tests (is_call req e.1.call) (is_member new e.0)) (let_go_begins new req es)
  where
    by_tests : (c n : Bool) → list_all begins_none (if not c then [] else if n then changes.Lose e.0 ∷ [] else changes.Ask e.0 (without_call e.1) ∷ []) ≡ true
    by_tests false n = refl
    by_tests true true = refl
    by_tests true false = refl

said_begins : (s : State) (req : ReqId) (refusal : Refusal) → list_all begins_none (said_changes (keeps_refusal s req refusal) s.log req refusal) ≡ true
said_begins s req refusal = by_test (keeps_refusal s req refusal && not (fits s.log (Said req refusal ∷ [])))
  where
    by_test : (b : Bool) → list_all begins_none (if b then kept_in_memory req (Err refusal) ∷ [] else []) ≡ true
    by_test true = refl
    by_test false = refl

answer_begins : (s : State) (req : ReqId) (answer : Answer) → list_all begins_none (answer_changes s req answer) ≡ true
answer_begins s req answer = by_test (is_later (last_reply s req.client) req.number)
  where
    by_test : (b : Bool) → list_all begins_none (if b then kept_in_memory req (Ok answer) ∷ [] else []) ≡ true
    by_test true = refl
    by_test false = refl

refused_begins : (s : State) (req : ReqId) (refusal : Refusal) (over : Bool) → list_all begins_none (said_changes (keeps_refusal s req refusal) s.log req refusal ++ (if over then end_changes s req else [])) ≡ true
refused_begins s req refusal over = both_all (said_changes (keeps_refusal s req refusal) s.log req refusal) (if over then end_changes s req else []) (said_begins s req refusal) (further over)
  where
    further : (b : Bool) → list_all begins_none (if b then end_changes s req else []) ≡ true
    further true = both_all (let_go s.volatile req) (changes.End req ∷ []) (let_go_begins s.volatile.unplaced req (fin.entries s.volatile.moving)) refl
    further false = refl

module _ (P : ReqId → Type 0) where
  abbrev AllIn : List Pending → Type 0
  AllIn ps = AllByRecursion (λ (p : Pending). P p.req) ps

  one_more : (ps : List Pending) (p : Pending) → AllIn ps → P p.req → AllIn (ps ++ p ∷ [])
  one_more [] p all is = (is, tt)
  one_more (q ∷ ps) p all is = (all.0, one_more ps p all.1 is)

  set_all : (ps : List Pending) (req : ReqId) (waiting : Waiting) → AllIn ps → AllIn (set_waiting ps req waiting)
  set_all [] req waiting all = tt
  set_all (p ∷ ps) req waiting all = by_test (same_call p.req req) refl (set_all ps req waiting all.1)
    where
      by_test : (b : Bool) → same_call p.req req ≡ b → AllIn (set_waiting ps req waiting) → AllIn (cond b ((record { req = req; waits = waiting }) ∷ ps) (p ∷ set_waiting ps req waiting))
      by_test true same rest = (subst P (same_parts p.req req same) all.0, all.1)
      by_test false other rest = (all.0, rest)

  fewer_all : (ps : List Pending) (req : ReqId) → AllIn ps → AllIn (without_pending ps req)
  fewer_all [] req all = tt
  fewer_all (p ∷ ps) req all = by_test (not (same_call req p.req)) (fewer_all ps req all.1)
    where
      by_test : (b : Bool) → AllIn (without_pending ps req) → AllIn (cond b (p ∷ without_pending ps req) (without_pending ps req))
      by_test true rest = (all.0, rest)
      by_test false rest = rest

  one_of : (ps : List Pending) (req : ReqId) → AllIn ps → is_pending ps req ≡ true → P req
  one_of [] req all there = absurd (false≢true there)
  one_of (p ∷ ps) req all there = by_test (same_call req p.req) refl there (one_of ps req all.1)
    where
      by_test : (b : Bool) → same_call req p.req ≡ b → (b || is_pending ps req) ≡ true → (is_pending ps req ≡ true → P req) → P req
      by_test true same some rest = subst P (sym (same_parts req p.req same)) all.0
      by_test false other some rest = rest some

  change_waits : (v : Volatile) (change : Change) → begins_none change ≡ true → AllIn v.pending → AllIn (changed v change).pending
  change_waits v (changes.Begin p) none all = absurd (false≢true none)
  change_waits v (changes.Wait req waiting) none all = subst AllIn (sym (set_so v.pending req waiting)) (set_all v.pending req waiting all)
  change_waits v (changes.End req) none all = fewer_all v.pending req all
  change_waits v (changes.Keep client reply) none all = all
  change_waits v (changes.Ask q asking) none all = all
  change_waits v (changes.Settled q) none all = all
  change_waits v (changes.Enter q) none all = all
  change_waits v (changes.Place q) none all = all
  change_waits v (changes.Lose q) none all = all
  change_waits v (changes.Forget chunks) none all = all
  change_waits v (changes.Prepare is_preparing) none all = all
  change_waits v (changes.Restored server chunks) none all = all
  change_waits v changes.RolledBack none all = all

  changes_wait : (cs : List Change) (v : Volatile) → list_all begins_none cs ≡ true → AllIn v.pending → AllIn (all_changed v cs).pending
  changes_wait [] v none all = all
  changes_wait (c ∷ cs) v none all = (let parts = and_parts (begins_none c) (list_all begins_none cs) none in changes_wait cs (changed v c) parts.1 (change_waits v c parts.0 all))

  -- where each call of which a move can be is one of these
  module _ (config : Config) (heard : Heard) where
    pub move_waits : (s : State) (move : Move) → ((by : ReqId) → IsCalled heard s by → P by) → IsMade config heard s move → AllWait P s → AllWait P (move_turn config s move).after
    move_waits s (Begins q purpose call Alone) called made all = all
    move_waits s (Begins q purpose call (FromNow req waiting)) called made all = one_more s.volatile.pending (record { req = req; waits = waiting }) all (called req made.may.called)
    move_waits s (Begins q purpose call (Further req waiting)) called made all = change_waits s.volatile (changes.Wait req waiting) refl all
    move_waits s (Makes targets req path) called made all = one_more s.volatile.pending _ all (called req made.may.1)
    move_waits s (Copies old at req Alone) called made all = all
    move_waits s (Copies old at req (FromNow by waiting)) called made all = one_more s.volatile.pending (record { req = by; waits = waiting }) all (called by made.may.1)
    move_waits s (Copies old at req (Further by waiting)) called made all = change_waits s.volatile (changes.Wait by waiting) refl all
    move_waits s (Hears q asking) called made all = all
    move_waits s (Sends q asking source target) called made all = all
    move_waits s (Settles q asking carried at) called made all = all
    move_waits s (Edits req edit answer) called made all = all
    move_waits s (Extends req path new at) called made all = fewer_all s.volatile.pending req all
    move_waits s (CopiesTree req from to) called made all = fewer_all s.volatile.pending req all
    move_waits s (Replaces path index old new) called made all = all
    move_waits s (Scans removed forgotten) called made all = all
    move_waits s (Refuses req refusal over) called made all = changes_wait (said_changes (keeps_refusal s req refusal) s.log req refusal ++ (if over then end_changes s req else [])) s.volatile (refused_begins s req refusal over) all
    move_waits s (AnswersCall req answer true) called made all = changes_wait (answer_changes s req answer ++ changes.End req ∷ []) s.volatile (both_all (answer_changes s req answer) (changes.End req ∷ []) (answer_begins s req answer) refl) all
    move_waits s (AnswersCall req answer false) called made all = changes_wait (answer_changes s req answer) s.volatile (answer_begins s req answer) all
    move_waits s (Waits req waiting) called made all = one_more s.volatile.pending (record { req = req; waits = waiting }) all (called req made.may.0)
    move_waits s (Restores server chunks) called made all = all
    move_waits s (Says messages) called made all = all
    move_waits s (Flags req preparing now) called made all = changes_wait (answer_changes s req (answers.Epoch now)) (changed s.volatile (changes.Prepare preparing)) (answer_begins s req (answers.Epoch now)) all
    move_waits s (Prepares req moment) called made all = changes_wait (answer_changes s req (answers.Epoch (s.durable.epoch + 1))) (changed s.volatile (changes.Prepare false)) (answer_begins s req (answers.Epoch (s.durable.epoch + 1))) all
    move_waits s (Finalizes req) called made all = changes_wait (answer_changes s req (answers.Epoch (s.durable.epoch + 1))) s.volatile (answer_begins s req (answers.Epoch (s.durable.epoch + 1))) all
    move_waits s BeginsRollback called made all = all
    move_waits s (TellsRollback req now) called made all = changes_wait (answer_changes s req (answers.Epoch now)) s.volatile (answer_begins s req (answers.Epoch now)) all
    move_waits s (CommitsRollback req names) called made all = changes_wait (answer_changes s req (answers.Epoch s.durable.epoch)) (changed s.volatile changes.RolledBack) (answer_begins s req (answers.Epoch s.durable.epoch)) all
    move_waits s Checkpoints called made all = all

  module _ (config : Config) (heard : Heard) (hears : HearsFor P heard) where
    pub called_is : (s : State) (req : ReqId) → AllWait P s → IsCalled heard s req → P req
    called_is s req all (inl ((from, call, is), later)) = hears from req call is
    called_is s req all (inr waits) = one_of s.volatile.pending req all waits

    pub chain_waits : (s : State) (t : Turn) → Chain config (IsMade config heard) s t → AllWait P s → AllWait P t.after
    chain_waits s t (Rests u said) all = all
    chain_waits s t (Moves u move said made) all = move_waits config heard u move (λ by. called_is u by all) made all
    chain_waits s t (Then u first next a b) all = chain_waits first.after next b (chain_waits s first a all)

    located_called : (s : State) (move : Move) (caller : ReqId) (chunk : ℕ) (view : View) (epoch : ℕ) → IsMade config heard s move → AllWait P s → Locates s move caller chunk view epoch → P caller
    located_called s (AnswersCall req answer over) caller chunk view epoch made all is = subst P is.1 (called_is s req all (subst (IsCalledFor heard s req) is.0 made.may.2))
    located_called s (Extends req path new at) caller chunk view epoch made all is = subst P is.3 (called_is s req all made.may.3)
    located_called s move caller chunk view epoch made all is = absurd is

pub waiting_were_heard : WaitingWereHeard
waiting_were_heard calls config heard s t hears chain all = chain_waits (Contains calls) config heard hears s t chain all

pub within_called : (P : ReqId → Type 0) → LocatesFor P
within_called P config heard s t caller chunk view epoch hears all w = located_called P config heard hears w.before.after w.move caller chunk view epoch w.holds (chain_waits P config heard hears s w.before w.first all) w.locates

pub located_were_called : LocatedWereCalled
located_were_called calls = within_called (Contains calls)
