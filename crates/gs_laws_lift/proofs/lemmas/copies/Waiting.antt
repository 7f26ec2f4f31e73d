-- What holds of each call that waits goes on through a move, where it holds of the calls that wait from then on.
use Rattle.std.proofs.Common.{◌≡◌, ◌∙◌, ◌&&◌, ◌||◌, ◌++◌, ◌+◌, ℕ, Bool, true, false, not, cond, List, [], ◌∷◌, refl, ap, sym, subst}
use Rattle.std.specs.Prelude.{flat_map, Ok, Err, Some, if◌then◌else◌}
use Rattle.std.specs.FinMap as fin
use Rattle.std.specs.List.{AllByRecursion, list_all}
use Rattle.std.proofs.lemmas.Bool.{false≢true, and_parts}
use Rattle.gs_base.specs.Members.{is_member}
use Rattle.gs_base.specs.declared.config.Config.{Config}
use Rattle.gs_base.specs.declared.numbers.ReqId.{ReqId}
use Rattle.gs_base.specs.declared.refusal.Refusal.{Refusal}
use Rattle.gs_msg.specs.declared.answer.Answer.{Answer}
use Rattle.gs_msg.specs.declared.answer.Answer.TheVariants as answers
use Rattle.gs_master_record.specs.Plain.{Said}
use Rattle.gs_master_spec.specs.Replies.{is_later}
use Rattle.gs_master_spec.specs.State.{State, answer_changes, end_changes, fits, keeps_refusal, kept_in_memory, last_reply, said_changes}
use Rattle.gs_master_spec.specs.Volatile.{Volatile, all_changed, changed, is_call, let_go, let_go_of, without_call, without_pending}
use Rattle.gs_master_spec.specs.declared.asking.Asking.{Asking}
use Rattle.gs_master_spec.specs.declared.change.Change.{Change}
use Rattle.gs_master_spec.specs.declared.change.Change.TheVariants as changes
use Rattle.gs_master_spec.specs.declared.pending.Pending.{Pending}
use Rattle.gs_master_spec.specs.declared.pending.Waiting.{Waiting}
use Rattle.gs_master_spec.specs.declared.pending.Waiting.TheVariants as waits
use Rattle.gs_master_state.specs.Sane.{is_waited_by}
use Rattle.gs_laws_master.proofs.lemmas.standing.Standing.{same_call, same_parts, set_so, set_waiting}
use Rattle.gs_laws_moves.specs.moves.Moves.{Alone, FromNow, Further, Move, Begins, Makes, Copies, Hears, Sends, Settles, Edits, Extends, CopiesTree, Replaces, Scans, Refuses, Answers as AnswersCall, Waits, Restores, Says, Flags, Prepares, Finalizes, BeginsRollback, TellsRollback, CommitsRollback, Checkpoints, move_turn}

-- a change by which no call waits from now on, nor for something else
abbrev pub begins_none : Change → Bool
begins_none (changes.Begin p) = false
begins_none (changes.Wait req waiting) = false
begins_none change = true

pub both_all : (xs ys : List Change) → list_all begins_none xs ≡ true → list_all begins_none ys ≡ true → list_all begins_none (xs ++ ys) ≡ true
both_all [] ys a b = b
both_all (x ∷ xs) ys a b = (let parts = and_parts (begins_none x) (list_all begins_none xs) a in ap (λ t. t && list_all begins_none (xs ++ ys)) parts.0 ∙ both_all xs ys parts.1 b)

let_go_begins : (new : List ℕ) (req : ReqId) (es : List (ℕ × Asking)) → list_all begins_none (flat_map (let_go_of new req) es) ≡ true
let_go_begins new req [] = refl
let_go_begins new req (e ∷ es) = both_all (let_go_of new req e) (flat_map (let_go_of new req) es) (by_tests (is_call req e.1.call) (is_member new e.0)) (let_go_begins new req es)
  where
    by_tests : (c n : Bool) → list_all begins_none (if not c then [] else if n then changes.Lose e.0 ∷ [] else changes.Ask e.0 (without_call e.1) ∷ []) ≡ true
    by_tests false n = refl
    by_tests true true = refl
    by_tests true false = refl

pub said_begins : (s : State) (req : ReqId) (refusal : Refusal) → list_all begins_none (said_changes (keeps_refusal s req refusal) s.log req refusal) ≡ true
said_begins s req refusal = by_test (keeps_refusal s req refusal && not (fits s.log (Said req refusal ∷ [])))
  where
    by_test : (b : Bool) → list_all begins_none (if b then kept_in_memory req (Err refusal) ∷ [] else []) ≡ true
    by_test true = refl
    by_test false = refl

pub answer_begins : (s : State) (req : ReqId) (answer : Answer) → list_all begins_none (answer_changes s req answer) ≡ true
answer_begins s req answer = by_test (is_later (last_reply s req.client) req.number)
  where
    by_test : (b : Bool) → list_all begins_none (if b then kept_in_memory req (Ok answer) ∷ [] else []) ≡ true
    by_test true = refl
    by_test false = refl

pub refused_begins : (s : State) (req : ReqId) (refusal : Refusal) (over : Bool) → list_all begins_none (said_changes (keeps_refusal s req refusal) s.log req refusal ++ (if over then end_changes s req else [])) ≡ true
refused_begins s req refusal over = both_all (said_changes (keeps_refusal s req refusal) s.log req refusal) (if over then end_changes s req else []) (said_begins s req refusal) (further over)
  where
    further : (b : Bool) → list_all begins_none (if b then end_changes s req else []) ≡ true
    further true = both_all (let_go s.volatile req) (changes.End req ∷ []) (let_go_begins s.volatile.unplaced req (fin.entries s.volatile.moving)) refl
    further false = refl

-- whom a move makes wait, for whatever it is from now on
abbrev pub BegunIn : (Pending → Type 0) → State → Move → Type 0
BegunIn P s (Begins q purpose call (FromNow req waiting)) = P (record { req = req; waits = waiting })
BegunIn P s (Begins q purpose call (Further req waiting)) = P (record { req = req; waits = waiting })
BegunIn P s (Makes targets req path) = P (record { req = req; waits = waits.Extend path s.durable.next_handle })
BegunIn P s (Copies old at req (FromNow by waiting)) = P (record { req = by; waits = waiting })
BegunIn P s (Copies old at req (Further by waiting)) = P (record { req = by; waits = waiting })
BegunIn P s (Waits req waiting) = P (record { req = req; waits = waiting })
BegunIn P s move = Unit {0}

module _ (P : Pending → Type 0) where
  abbrev pub AllIn : List Pending → Type 0
  AllIn ps = AllByRecursion P ps

  one_more : (ps : List Pending) (p : Pending) → AllIn ps → P p → AllIn (ps ++ p ∷ [])
  one_more [] p all is = (is, tt)
  one_more (q ∷ ps) p all is = (all.0, one_more ps p all.1 is)

  set_all : (ps : List Pending) (req : ReqId) (waiting : Waiting) → AllIn ps → P (record { req = req; waits = waiting }) → AllIn (set_waiting ps req waiting)
  set_all [] req waiting all is = tt
  set_all (p ∷ ps) req waiting all is = by_test (same_call p.req req) (set_all ps req waiting all.1 is)
    where
      by_test : (b : Bool) → AllIn (set_waiting ps req waiting) → AllIn (cond b ((record { req = req; waits = waiting }) ∷ ps) (p ∷ set_waiting ps req waiting))
      by_test true rest = (is, all.1)
      by_test false rest = (all.0, rest)

  fewer_all : (ps : List Pending) (req : ReqId) → AllIn ps → AllIn (without_pending ps req)
  fewer_all [] req all = tt
  fewer_all (p ∷ ps) req all = by_test (not (same_call req p.req)) (fewer_all ps req all.1)
    where
      by_test : (b : Bool) → AllIn (without_pending ps req) → AllIn (cond b (p ∷ without_pending ps req) (without_pending ps req))
      by_test true rest = (all.0, rest)
      by_test false rest = rest

  change_waits : (v : Volatile) (change : Change) → begins_none change ≡ true → AllIn v.pending → AllIn (changed v change).pending
  change_waits v (changes.Begin p) none all = absurd (false≢true none)
  change_waits v (changes.Wait req waiting) none all = absurd (false≢true none)
  change_waits v (changes.End req) none all = fewer_all v.pending req all
  change_waits v (changes.Keep client reply) none all = all
  change_waits v (changes.Ask q asking) none all = all
  change_waits v (changes.Settled q) none all = all
  change_waits v (changes.Enter q) none all = all
  change_waits v (changes.Place q) none all = all
  change_waits v (changes.Lose q) none all = all
  change_waits v (changes.Forget chunks) none all = all
  change_waits v (changes.Prepare is_preparing) none all = all
  change_waits v (changes.Restored server chunks) none all = all
  change_waits v changes.RolledBack none all = all

  changes_wait : (cs : List Change) (v : Volatile) → list_all begins_none cs ≡ true → AllIn v.pending → AllIn (all_changed v cs).pending
  changes_wait [] v none all = all
  changes_wait (c ∷ cs) v none all = (let parts = and_parts (begins_none c) (list_all begins_none cs) none in changes_wait cs (changed v c) parts.1 (change_waits v c parts.0 all))

  waits_so : (v : Volatile) (req : ReqId) (waiting : Waiting) → AllIn v.pending → P (record { req = req; waits = waiting }) → AllIn (changed v (changes.Wait req waiting)).pending
  waits_so v req waiting all is = subst AllIn (sym (set_so v.pending req waiting)) (set_all v.pending req waiting all is)

  module _ (config : Config) (s : State) where
    pub move_waits : (move : Move) → AllIn s.volatile.pending → BegunIn P s move → AllIn (move_turn config s move).after.volatile.pending
    move_waits (Begins q purpose call Alone) all is = all
    move_waits (Begins q purpose call (FromNow req waiting)) all is = one_more s.volatile.pending (record { req = req; waits = waiting }) all is
    move_waits (Begins q purpose call (Further req waiting)) all is = waits_so s.volatile req waiting all is
    move_waits (Makes targets req path) all is = one_more s.volatile.pending _ all is
    move_waits (Copies old at req Alone) all is = all
    move_waits (Copies old at req (FromNow by waiting)) all is = one_more s.volatile.pending (record { req = by; waits = waiting }) all is
    move_waits (Copies old at req (Further by waiting)) all is = waits_so s.volatile by waiting all is
    move_waits (Hears q asking) all is = all
    move_waits (Sends q asking source target) all is = all
    move_waits (Settles q asking carried at) all is = all
    move_waits (Edits req edit answer) all is = all
    move_waits (Extends req path new at) all is = fewer_all s.volatile.pending req all
    move_waits (CopiesTree req from to) all is = fewer_all s.volatile.pending req all
    move_waits (Replaces path index old new) all is = all
    move_waits (Scans removed forgotten) all is = all
    move_waits (Refuses req refusal over) all is = changes_wait (said_changes (keeps_refusal s req refusal) s.log req refusal ++ (if over then end_changes s req else [])) s.volatile (refused_begins s req refusal over) all
    move_waits (AnswersCall req answer true) all is = changes_wait (answer_changes s req answer ++ changes.End req ∷ []) s.volatile (both_all (answer_changes s req answer) (changes.End req ∷ []) (answer_begins s req answer) refl) all
    move_waits (AnswersCall req answer false) all is = changes_wait (answer_changes s req answer) s.volatile (answer_begins s req answer) all
    move_waits (Waits req waiting) all is = one_more s.volatile.pending (record { req = req; waits = waiting }) all is
    move_waits (Restores server chunks) all is = all
    move_waits (Says messages) all is = all
    move_waits (Flags req preparing now) all is = changes_wait (answer_changes s req (answers.Epoch now)) (changed s.volatile (changes.Prepare preparing)) (answer_begins s req (answers.Epoch now)) all
    move_waits (Prepares req moment) all is = changes_wait (answer_changes s req (answers.Epoch (s.durable.epoch + 1))) (changed s.volatile (changes.Prepare false)) (answer_begins s req (answers.Epoch (s.durable.epoch + 1))) all
    move_waits (Finalizes req) all is = changes_wait (answer_changes s req (answers.Epoch (s.durable.epoch + 1))) s.volatile (answer_begins s req (answers.Epoch (s.durable.epoch + 1))) all
    move_waits BeginsRollback all is = all
    move_waits (TellsRollback req now) all is = changes_wait (answer_changes s req (answers.Epoch now)) s.volatile (answer_begins s req (answers.Epoch now)) all
    move_waits (CommitsRollback req names) all is = changes_wait (answer_changes s req (answers.Epoch s.durable.epoch)) (changed s.volatile changes.RolledBack) (answer_begins s req (answers.Epoch s.durable.epoch)) all
    move_waits Checkpoints all is = all

-- all is weakened
pub all_in_weaker : (P Q : Pending → Type 0) → ((p : Pending) → P p → Q p) → (ps : List Pending) → AllIn P ps → AllIn Q ps
all_in_weaker P Q f [] all = tt
all_in_weaker P Q f (p ∷ ps) all = (f p all.0, all_in_weaker P Q f ps all.1)

-- of one that waits so it holds
pub one_waiting : (P : Pending → Type 0) (Q : Type 0) (req : ReqId) (f : Waiting → Bool) → ((p : Pending) → p.req ≡ req → f p.waits ≡ true → P p → Q) → (ps : List Pending) → is_waited_by (Some req) f ps ≡ true → AllIn P ps → Q
one_waiting P Q req f so [] some all = absurd (false≢true some)
one_waiting P Q req f so (p ∷ ps) some all = by_test (same_call p.req req && f p.waits) refl some (λ rest. one_waiting P Q req f so ps rest all.1)
  where
    by_test : (b : Bool) → (same_call p.req req && f p.waits) ≡ b → (b || is_waited_by (Some req) f ps) ≡ true → (is_waited_by (Some req) f ps ≡ true → Q) → Q
    by_test true is some rest = (let parts = and_parts (same_call p.req req) (f p.waits) is in so p (same_parts p.req req parts.0) parts.1 all.0)
    by_test false is some rest = rest some
