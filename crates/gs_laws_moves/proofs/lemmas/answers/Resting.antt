-- What a look-up leaves, and what is known of the last reply behind a commit.
use Rattle.gs_base.specs.declared.numbers.ClientId.{ClientId}
use Rattle.std.proofs.Common.{◌≡◌, ◌≤◌, ◌<◌, ◌⊎◌, inl, inr, ◌∙◌, ◌&&◌, ◌++◌, ◌+◌, ◌==◌, ℕ, Bool, true, false, cond, not, List, [], ◌∷◌, refl, ap, sym, subst, arith}
use Rattle.std.specs.Prelude.{fold, nat_lt, Option, Some, None, Result, Ok, Err, if◌then◌else◌, unwrap_or}
use Rattle.std.specs.FinMap as fin
use Rattle.std.specs.Cmp.{tied_itself}
use Rattle.std.specs.Ordering.{eq_by_cmp, is_eq}
use Rattle.std.proofs.lemmas.Bool.{false≢true}
use Rattle.std.proofs.lemmas.Bool.Decides.{nat_tests}
use Rattle.gs_base.specs.declared.config.Config.{Config}
use Rattle.gs_base.specs.declared.epoch.EpochEnd.TheVariants as ends
use Rattle.gs_base.specs.declared.numbers.Moment.{Moment}
use Rattle.gs_base.specs.declared.numbers.ReqId.{ReqId}
use Rattle.gs_base.specs.declared.refusal.Refusal.{Refusal}
use Rattle.gs_base.specs.declared.refusal.Refusal.TheVariants as refusals
use Rattle.gs_edit.specs.View.{NamesView}
use Rattle.gs_msg.specs.declared.answer.Answer.{Answer}
use Rattle.gs_msg.specs.declared.answer.Answer.TheVariants as answers
use Rattle.gs_msg.specs.declared.body.Body.TheVariants as bodies
use Rattle.gs_msg.specs.declared.call.Call.{Call}
use Rattle.gs_msg.specs.declared.call.Call.TheVariants as calls
use Rattle.gs_msg.specs.declared.message.Message.{Message}
use Rattle.gs_master_record.specs.Plain.{Finalize, PlainEntry, Prepare, RollbackCommit, Said}
use Rattle.gs_master_spec.specs.Applied.{applied, with_reply}
use Rattle.gs_master_spec.specs.Calls.{answered_with, is_locked, ordered, found_chunk, listing, location, looked_up, refused_before, status, told_phase}
use Rattle.gs_master_spec.specs.Durable.{is_ordinary, is_rolling, prepared_view}
use Rattle.gs_master_spec.specs.Handling.{Again, New, Numbered, Older, called_unless, numbered}
use Rattle.gs_master_spec.specs.Replies.{client_cmp, is_later, later}
use Rattle.gs_master_spec.specs.State.{Plan, State, Turn, is_failed, refusal_plan, with_record, answer_changes, first_of, fits, if_room, is_kept, kept_in_memory, last_reply, refused, reply_to, turned}
use Rattle.gs_master_spec.specs.Undoing.{all_undone}
use Rattle.gs_master_spec.specs.Upgrades.{accepted_plan, first_in, if_unquiet, all_unquiet, answers_for, chunk_count, commit_if, commit_on, commit_tests, end_tests, is_last_epoch, tell_all, told_of, unless, unrestored}
use Rattle.gs_master_spec.specs.Volatile.{Volatile, all_changed}
use Rattle.gs_master_spec.specs.declared.change.Change.{Change}
use Rattle.gs_master_spec.specs.declared.change.Change.TheVariants as changes
use Rattle.gs_master_spec.specs.declared.reply.KeptReply.{KeptReply}
use Rattle.gs_laws_moves.specs.answers.AtOnce.{OneSays}
use Rattle.gs_laws_moves.specs.answers.Resting.{CommitsAreHad, Commits, HasHad, IsFrom, LeavesNames, ListsAreAnswered, LooksLeaveNames, WasBegun, is_commit, is_look}
use Rattle.gs_laws_moves.proofs.lemmas.answers.Kept.{client_total, some_is}

-- ---- of two replies the later

lower : (a b : ℕ) → nat_lt a b ≡ true → a < b
lower a b is = grind (arith, nat_tests)

not_lower : (a b : ℕ) → nat_lt a b ≡ false → b ≤ a
not_lower a b is = grind (arith, nat_tests)

none_from : {T : Type 0} (number : ℕ) → IsFrom number None → T
none_from number f = absurd (none_some f.has)
  where
    none_some : {r : KeptReply} → ◌≡◌ {A = Option KeptReply} None (Some r) → ⊥
    none_some is = cc

late_in : (number : ℕ) (r : KeptReply) → IsFrom number (Some r) → number ≤ r.number
late_in number r f = subst (λ (x : KeptReply). number ≤ x.number) (sym (some_is f.has)) f.late

pub from_first : (number : ℕ) (a o : Option KeptReply) → IsFrom number a → IsFrom number (later a o)
from_first number None o f = none_from number f
from_first number (Some r) None f = f
from_first number (Some r) (Some q) f = by_test (nat_lt r.number q.number) refl
  where
    by_test : (b : Bool) → nat_lt r.number q.number ≡ b → IsFrom number (if b then Some q else Some r)
    by_test true test = (let low = lower r.number q.number test in let late = late_in number r f in record { reply = q; has = refl; late = omega arith })
    by_test false test = f

pub from_second : (number : ℕ) (a o : Option KeptReply) → IsFrom number o → IsFrom number (later a o)
from_second number None o f = f
from_second number (Some r) None f = none_from number f
from_second number (Some r) (Some q) f = by_test (nat_lt r.number q.number) refl
  where
    by_test : (b : Bool) → nat_lt r.number q.number ≡ b → IsFrom number (if b then Some q else Some r)
    by_test true test = f
    by_test false test = (let low = not_lower r.number q.number test in let late = late_in number q f in record { reply = r; has = refl; late = omega arith })

from_one : (number : ℕ) (a o : Option KeptReply) → IsFrom number (later a o) → IsFrom number a ⊎ IsFrom number o
from_one number None o f = inr f
from_one number (Some r) None f = inl f
from_one number (Some r) (Some q) f = by_test (nat_lt r.number q.number) f
  where
    by_test : (b : Bool) → IsFrom number (if b then Some q else Some r) → IsFrom number (Some r) ⊎ IsFrom number (Some q)
    by_test true f = inr f
    by_test false f = inl f

-- behind the last reply comes one that is later
before_later : (number later_one : ℕ) (last : Option KeptReply) → is_later last later_one ≡ true → IsFrom number last → number ≤ later_one
before_later number later_one None test f = none_from number f
before_later number later_one (Some r) test f = (let low = lower r.number later_one test in let late = late_in number r f in omega arith)

-- ---- a reply that is put where its client's stands

module _ (req : ReqId) (result : Result Answer Refusal) where
  abbrev pub its_own : KeptReply
  its_own = record { number = req.number; result = result }

  pub own_there : (m : fin.FinMap client_cmp KeptReply) → fin.get (fin.insert m req.client its_own) req.client ≡ Some its_own
  own_there m = fin.get-insert client_total m req.client its_own req.client ∙ by_key (eq_by_cmp client_cmp req.client req.client) (ap is_eq (tied_itself client_total req.client))
    where
      by_key : (b : Bool) → b ≡ true → cond b (Some its_own) (fin.get m req.client) ≡ Some its_own
      by_key true is = refl
      by_key false is = absurd (false≢true is)

  -- one that is kept in memory is had, if it is later
  pub kept_had : (s : State) → IsFrom req.number (later (fin.get s.durable.replies req.client) (fin.get (fin.insert s.volatile.replies req.client its_own) req.client))
  kept_had s = from_second req.number (fin.get s.durable.replies req.client) (fin.get (fin.insert s.volatile.replies req.client its_own) req.client) (record { reply = its_own; has = own_there s.volatile.replies; late = omega arith })

  -- what its client has had before
  more_had : (number : ℕ) (last after : Option KeptReply) → is_later last req.number ≡ true → IsFrom number last → IsFrom req.number after → IsFrom number after
  more_had number last after test had now = (let low = before_later number req.number last test had in let late = now.late in record { reply = now.reply; has = now.has; late = omega arith })

  -- in memory, or not
  memory_had : (s : State) (b : Bool) (number : ℕ) → (b ≡ true → is_later (last_reply s req.client) req.number ≡ true) → HasHad s req.client number
      → IsFrom number (later (fin.get s.durable.replies req.client) (fin.get (all_changed s.volatile (if b then kept_in_memory req result ∷ [] else [])).replies req.client))
  memory_had s true number test had = more_had number (last_reply s req.client) _ (test refl) had (kept_had s)
  memory_had s false number test had = had

  -- on record
  replied_from : (m : fin.FinMap client_cmp KeptReply) (number : ℕ) → IsFrom number (fin.get m req.client) → IsFrom number (fin.get (with_reply m req result) req.client)
  replied_from m number had = by_test (is_later (fin.get m req.client) req.number) refl
    where
      by_test : (b : Bool) → is_later (fin.get m req.client) req.number ≡ b → IsFrom number (fin.get (if b then fin.insert m req.client its_own else m) req.client)
      by_test true test = (let low = before_later number req.number (fin.get m req.client) test had in record { reply = its_own; has = own_there m; late = low })
      by_test false test = had

  record_had : (s : State) (number : ℕ) → HasHad s req.client number → IsFrom number (later (fin.get (with_reply s.durable.replies req result) req.client) (fin.get s.volatile.replies req.client))
  record_had s number had = by (from_one number (fin.get s.durable.replies req.client) (fin.get s.volatile.replies req.client) had)
    where
      by : IsFrom number (fin.get s.durable.replies req.client) ⊎ IsFrom number (fin.get s.volatile.replies req.client) → IsFrom number (later (fin.get (with_reply s.durable.replies req result) req.client) (fin.get s.volatile.replies req.client))
      by (inl first) = from_first number (fin.get (with_reply s.durable.replies req result) req.client) (fin.get s.volatile.replies req.client) (replied_from s.durable.replies number first)
      by (inr second) = from_second number (fin.get (with_reply s.durable.replies req result) req.client) (fin.get s.volatile.replies req.client) second

-- ---- turns

pub answered_leaves : (s : State) (req : ReqId) (answer : Answer) → LeavesNames s req (answered_with s req answer)
answered_leaves s req answer = record {
  names = refl;
  hidden = refl;
  phase = refl;
  epoch = refl;
  had = λ number had. memory_had req (Ok answer) s (is_later (last_reply s req.client) req.number) number (λ is. is) had;
}

said_replies : (req : ReqId) (refusal : Refusal) (s : State) → (number : ℕ) → HasHad s req.client number → IsFrom number (later (fin.get (unwrap_or (applied s.durable (Said req refusal)) s.durable).replies req.client) (fin.get s.volatile.replies req.client))
unfolding applied
said_replies req refusal s number had = record_had req (Err refusal) s number had

said_names : (req : ReqId) (refusal : Refusal) (s : State) → (unwrap_or (applied s.durable (Said req refusal)) s.durable).names ≡ s.durable.names
unfolding applied
said_names req refusal s = refl

said_hidden : (req : ReqId) (refusal : Refusal) (s : State) → (unwrap_or (applied s.durable (Said req refusal)) s.durable).next_hidden ≡ s.durable.next_hidden
unfolding applied
said_hidden req refusal s = refl

said_phase : (req : ReqId) (refusal : Refusal) (s : State) → (unwrap_or (applied s.durable (Said req refusal)) s.durable).phase ≡ s.durable.phase
unfolding applied
said_phase req refusal s = refl

said_epoch : (req : ReqId) (refusal : Refusal) (s : State) → (unwrap_or (applied s.durable (Said req refusal)) s.durable).epoch ≡ s.durable.epoch
unfolding applied
said_epoch req refusal s = refl

-- a refusal is kept on record, in memory, or not at all
pub refused_leaves : (s : State) (req : ReqId) (refusal : Refusal) → LeavesNames s req (refused s req refusal)
refused_leaves s req refusal = by_tests (is_kept refusal) (is_later (last_reply s req.client) req.number) refl (fits s.log (Said req refusal ∷ []))
  where
    Kept : Bool → Bool → Turn
    Kept keeps room = turned s (record { records = if keeps && room then Said req refusal ∷ [] else []; changes = (if keeps && not room then kept_in_memory req (Err refusal) ∷ [] else []) ++ []; sent = reply_to req (Err refusal) ∷ []; said = Some refusal })

    by_tests : (keep late : Bool) → is_later (last_reply s req.client) req.number ≡ late → (room : Bool) → LeavesNames s req (Kept (keep && late) room)
    by_tests false late test room = record { names = refl; hidden = refl; phase = refl; epoch = refl; had = λ number had. had }
    by_tests true false test room = record { names = refl; hidden = refl; phase = refl; epoch = refl; had = λ number had. had }
    by_tests true true test true = record { names = said_names req refusal s; hidden = said_hidden req refusal s; phase = said_phase req refusal s; epoch = said_epoch req refusal s; had = λ number had. said_replies req refusal s number had }
    by_tests true true test false = record { names = refl; hidden = refl; phase = refl; epoch = refl; had = λ number had. memory_had req (Err refusal) s true number (λ is. test) had }

looked_leaves : (s : State) (req : ReqId) (result : Result Answer Refusal) → LeavesNames s req (looked_up s req result)
looked_leaves s req (Ok answer) = answered_leaves s req answer
looked_leaves s req (Err refusal) = refused_leaves s req refusal

pub looks_leave : LooksLeaveNames
looks_leave config s req moment call is = by_refusal (refused_before s req call)
  where
    by_call : (call : Call) → is_look call ≡ true → LeavesNames s req (called_unless config s req moment call None)
    by_call (calls.List path) is = looked_leaves s req (listing (fin.entries s.durable.names.tree) path (fin.get s.durable.names.tree path))
    by_call (calls.Status path) is = looked_leaves s req (status s.durable (fin.get s.durable.names.tree path))
    by_call (calls.FindForReading path index) is = looked_leaves s req (location s.durable (found_chunk (fin.get s.durable.names.tree path) index))
    by_call calls.Query is = answered_leaves s req (answers.Phase (told_phase s.volatile.is_preparing s.durable.phase) s.durable.epoch)
    by_call call is = absurd (false≢true is)

    by_refusal : (o : Option Refusal) → LeavesNames s req (called_unless config s req moment call o)
    by_refusal None = by_call call is
    by_refusal (Some refusal) = refused_leaves s req refusal

-- ---- what is said

pub no_answer : {T : Type 0} (req : ReqId) (refusal : Refusal) (answer : Answer) (more : List Message) → OneSays req (Ok answer) (reply_to req (Err refusal) ∷ []) → T
no_answer req refusal answer more (inl is) = absurd (other_result is)
  where
    other_result : bodies.Reply req (Err refusal) ≡ bodies.Reply req (Ok answer) → ⊥
    other_result is = cc
no_answer req refusal answer more (inr none) = absurd none

answer_said : (req : ReqId) (given answer : Answer) → OneSays req (Ok answer) (reply_to req (Ok given) ∷ []) → given ≡ answer
answer_said req given answer (inl is) = same is
  where
    same : bodies.Reply req (Ok given) ≡ bodies.Reply req (Ok answer) → given ≡ answer
    same is = cc
answer_said req given answer (inr none) = absurd none

pub lists_answered : ListsAreAnswered
lists_answered config s req moment path answer says = by_refusal (refused_before s req (calls.List path)) says
  where
    by_result : (r : Result Answer Refusal) → OneSays req (Ok answer) (looked_up s req r).sent → r ≡ Ok answer
    by_result (Ok given) says = ap Ok (answer_said req given answer says)
    by_result (Err refusal) says = no_answer req refusal answer [] says

    by_refusal : (o : Option Refusal) → OneSays req (Ok answer) (called_unless config s req moment (calls.List path) o).sent → listing (fin.entries s.durable.names.tree) path (fin.get s.durable.names.tree path) ≡ Ok answer
    by_refusal None says = by_result (listing (fin.entries s.durable.names.tree) path (fin.get s.durable.names.tree path)) says
    by_refusal (Some refusal) says = no_answer req refusal answer [] says

-- ---- commits

pub new_later : (o : Option KeptReply) (n : ℕ) → numbered o n ≡ New → is_later o n ≡ true
new_later None n e = refl
new_later (Some reply) n e = by_tests (reply.number == n) refl (nat_lt n reply.number) refl e
  where
    is_new : Numbered → Bool
    is_new New = true
    is_new (Again result) = false
    is_new Older = false

    by_tests : (b : Bool) → (reply.number == n) ≡ b → (c : Bool) → nat_lt n reply.number ≡ c → (if b then Again reply.result else if c then Older else New) ≡ New → nat_lt reply.number n ≡ true
    by_tests true is c less k = absurd (false≢true (ap is_new k))
    by_tests false is true less k = absurd (false≢true (ap is_new k))
    by_tests false is false less k = grind (arith, nat_tests)

module _ (s : State) (req : ReqId) (answer : Answer) (new : numbered (last_reply s req.client) req.number ≡ New) where
  abbrev Had : Turn → Type 0
  Had t = OneSays req (Ok answer) t.sent → HasHad t.after req.client req.number

  refusal_had : (refusal : Refusal) → Had (refused s req refusal)
  refusal_had refusal says = no_answer req refusal answer [] says

  pick_had : (b : Bool) (t u : Turn) → Had t → Had u → Had (if b then t else u)
  pick_had true t u x y = x
  pick_had false t u x y = y

  -- the answer is kept in memory, whatever is on record
  kept_now : (given : Answer) (a : Option KeptReply) (v : Volatile) → IsFrom req.number (later a (fin.get (all_changed v (answer_changes s req given)).replies req.client))
  kept_now given a v = by_test (is_later (last_reply s req.client) req.number) (new_later (last_reply s req.client) req.number new)
    where
      by_test : (b : Bool) → b ≡ true → IsFrom req.number (later a (fin.get (all_changed v (if b then kept_in_memory req (Ok given) ∷ [] else [])).replies req.client))
      by_test true is =
          from_second req.number a (fin.get (fin.insert v.replies req.client (its_own req (Ok given))) req.client) (record { reply = its_own req (Ok given); has = own_there req (Ok given) v.replies; late = omega arith })
      by_test false is = absurd (false≢true is)

  one_had : (records : List PlainEntry) (change : Change) (messages : List Message) (epoch : ℕ) → Had (turned s (accepted_plan s req records (change ∷ []) messages epoch))
  one_had records change messages epoch says = kept_now (answers.Epoch epoch) _ (all_changed s.volatile (change ∷ []))

  none_had : (records : List PlainEntry) (messages : List Message) (epoch : ℕ) → Had (turned s (accepted_plan s req records [] messages epoch))
  none_had records messages epoch says = kept_now (answers.Epoch epoch) _ s.volatile

  room_had : (t : Turn) → Had t → Had (if_room s t (refused s req refusals.Full))
  room_had t had = pick_had (fits s.log t.records) t (refused s req refusals.Full) had (refusal_had refusals.Full)

  unless_had : (refusal : Option Refusal) (t : Turn) → Had t → Had (unless refusal s req t)
  unless_had None t had = room_had t had
  unless_had (Some refusal) t had = refusal_had refusal

  lacking_had : (names : NamesView) (lacking : Option ℕ) → Had (commit_if s req names lacking)
  lacking_had names (Some chunk) = refusal_had (refusals.Unrestored chunk)
  lacking_had names None =
      let records = RollbackCommit s.durable.epoch (answers_for (prepared_view s.durable) (told_of s) (fin.entries names.refs)) ∷ [] in
      room_had (turned s (accepted_plan s req records (changes.RolledBack ∷ []) [] s.durable.epoch)) (one_had records changes.RolledBack [] s.durable.epoch)

  commit_had : (names : Option NamesView) → Had (commit_on s req names)
  commit_had None = refusal_had refusals.BadLine
  commit_had (Some names) = lacking_had names (unrestored (prepared_view s.durable) (told_of s) (fin.entries names.refs))

  called_had : (config : Config) (moment : Moment) (call : Call) → is_commit call ≡ true → Had (called_unless config s req moment call None)
  called_had config moment calls.PrepareCommit is =
      unless_had (first_of (commit_tests s.durable.phase s.volatile.is_preparing (all_unquiet s) (is_last_epoch s.durable)))
      (turned s (accepted_plan s req (Prepare (s.durable.epoch + 1) moment.0 (chunk_count s) ∷ []) (changes.Prepare false ∷ []) (tell_all config (s.durable.epoch + 1) ends.Prepare) (s.durable.epoch + 1)))
      (one_had (Prepare (s.durable.epoch + 1) moment.0 (chunk_count s) ∷ []) (changes.Prepare false) (tell_all config (s.durable.epoch + 1) ends.Prepare) (s.durable.epoch + 1))
  called_had config moment calls.PrepareAbort is = pick_had s.volatile.is_preparing (turned s (accepted_plan s req [] (changes.Prepare false ∷ []) [] s.durable.epoch)) (refused s req refusals.NotUpgrading) (one_had [] (changes.Prepare false) [] s.durable.epoch)
      (refusal_had refusals.NotUpgrading)
  called_had config moment calls.Finalize is =
      unless_had (first_of (end_tests s.durable.phase (is_last_epoch s.durable)))
      (turned s (accepted_plan s req (Finalize (s.durable.epoch + 1) ∷ []) [] (tell_all config (s.durable.epoch + 1) ends.Finalize) (s.durable.epoch + 1))) (none_had (Finalize (s.durable.epoch + 1) ∷ []) (tell_all config (s.durable.epoch + 1) ends.Finalize) (s.durable.epoch + 1))
  called_had config moment calls.RollbackCommit is =
      pick_had (is_rolling s.durable.phase) (commit_on s req (all_undone s.durable.inverses s.durable.names)) (refused s req refusals.NotUpgrading) (commit_had (all_undone s.durable.inverses s.durable.names)) (refusal_had refusals.NotUpgrading)
  called_had config moment call is = absurd (false≢true is)

  new_had : (config : Config) (moment : Moment) (call : Call) → is_commit call ≡ true → (refusal : Option Refusal) → Had (called_unless config s req moment call refusal)
  new_had config moment call is None = called_had config moment call is
  new_had config moment call is (Some refusal) = refusal_had refusal

  -- ---- no disk fails by it

  abbrev Same : Turn → Type 0
  Same t = t.after.fault ≡ s.fault

  records_same : (xs : List PlainEntry) (u : State) → (fold with_record u xs).fault ≡ u.fault
  records_same [] u = refl
  records_same (x ∷ xs) u = records_same xs (with_record u x)

  turned_same : (plan : Plan) → Same (turned s plan)
  turned_same plan = records_same plan.records s

  pick_same : (b : Bool) (t u : Turn) → Same t → Same u → Same (if b then t else u)
  pick_same true t u x y = x
  pick_same false t u x y = y

  refused_same : (refusal : Refusal) → Same (refused s req refusal)
  refused_same refusal = turned_same (refusal_plan s req refusal [] (Some refusal))

  room_same : (plan : Plan) → Same (if_room s (turned s plan) (refused s req refusals.Full))
  room_same plan = pick_same (fits s.log plan.records) (turned s plan) (refused s req refusals.Full) (turned_same plan) (refused_same refusals.Full)

  unless_same : (refusal : Option Refusal) (plan : Plan) → Same (unless refusal s req (turned s plan))
  unless_same None plan = room_same plan
  unless_same (Some refusal) plan = refused_same refusal

  lacking_same : (names : NamesView) (lacking : Option ℕ) → Same (commit_if s req names lacking)
  lacking_same names (Some chunk) = refused_same (refusals.Unrestored chunk)
  lacking_same names None = room_same (accepted_plan s req (RollbackCommit s.durable.epoch (answers_for (prepared_view s.durable) (told_of s) (fin.entries names.refs)) ∷ []) (changes.RolledBack ∷ []) [] s.durable.epoch)

  commit_same : (names : Option NamesView) → Same (commit_on s req names)
  commit_same None = refused_same refusals.BadLine
  commit_same (Some names) = lacking_same names (unrestored (prepared_view s.durable) (told_of s) (fin.entries names.refs))

  called_same : (config : Config) (moment : Moment) (call : Call) → is_commit call ≡ true → Same (called_unless config s req moment call None)
  called_same config moment calls.PrepareCommit is =
      unless_same (first_of (commit_tests s.durable.phase s.volatile.is_preparing (all_unquiet s) (is_last_epoch s.durable)))
      (accepted_plan s req (Prepare (s.durable.epoch + 1) moment.0 (chunk_count s) ∷ []) (changes.Prepare false ∷ []) (tell_all config (s.durable.epoch + 1) ends.Prepare) (s.durable.epoch + 1))
  called_same config moment calls.PrepareAbort is = pick_same s.volatile.is_preparing (turned s (accepted_plan s req [] (changes.Prepare false ∷ []) [] s.durable.epoch)) (refused s req refusals.NotUpgrading) refl (refused_same refusals.NotUpgrading)
  called_same config moment calls.Finalize is =
      unless_same (first_of (end_tests s.durable.phase (is_last_epoch s.durable))) (accepted_plan s req (Finalize (s.durable.epoch + 1) ∷ []) [] (tell_all config (s.durable.epoch + 1) ends.Finalize) (s.durable.epoch + 1))
  called_same config moment calls.RollbackCommit is =
      pick_same (is_rolling s.durable.phase) (commit_on s req (all_undone s.durable.inverses s.durable.names)) (refused s req refusals.NotUpgrading) (commit_same (all_undone s.durable.inverses s.durable.names)) (refused_same refusals.NotUpgrading)
  called_same config moment call is = absurd (false≢true is)

  new_same : (config : Config) (moment : Moment) (call : Call) → is_commit call ≡ true → (refusal : Option Refusal) → Same (called_unless config s req moment call refusal)
  new_same config moment call is None = called_same config moment call is
  new_same config moment call is (Some refusal) = refused_same refusal

  -- ---- it was begun

  prepare_begun : (b o : Bool) (unquiet : List ℕ) (exhausted : Bool) (config : Config) (t : Turn) → OneSays req (Ok answer) (unless (first_of ((not b && not o, refusals.AlreadyUpgrading) ∷ (not b, refusals.NotUpgrading) ∷ (if_unquiet (first_in unquiet) ++ (exhausted, refusals.Exhausted) ∷ []))) s req t).sent → b ≡ true
  prepare_begun true o unquiet exhausted config t says = refl
  prepare_begun false true unquiet exhausted config t says = no_answer req refusals.NotUpgrading answer [] says
  prepare_begun false false unquiet exhausted config t says = no_answer req refusals.AlreadyUpgrading answer [] says

  if_begun : (b : Bool) (t : Turn) → OneSays req (Ok answer) (if b then t else refused s req refusals.NotUpgrading).sent → b ≡ true
  if_begun true t says = refl
  if_begun false t says = no_answer req refusals.NotUpgrading answer [] says

  called_begun : (config : Config) (moment : Moment) (call : Call) → is_commit call ≡ true → OneSays req (Ok answer) (called_unless config s req moment call None).sent → WasBegun s call
  called_begun config moment calls.PrepareCommit is says =
      prepare_begun s.volatile.is_preparing (is_ordinary s.durable.phase) (all_unquiet s) (is_last_epoch s.durable) config
      (turned s (accepted_plan s req (Prepare (s.durable.epoch + 1) moment.0 (chunk_count s) ∷ []) (changes.Prepare false ∷ []) (tell_all config (s.durable.epoch + 1) ends.Prepare) (s.durable.epoch + 1))) says
  called_begun config moment calls.PrepareAbort is says = if_begun s.volatile.is_preparing (turned s (accepted_plan s req [] (changes.Prepare false ∷ []) [] s.durable.epoch)) says
  called_begun config moment calls.Finalize is says = tt
  called_begun config moment calls.RollbackCommit is says = if_begun (is_rolling s.durable.phase) (commit_on s req (all_undone s.durable.inverses s.durable.names)) says
  called_begun config moment call is says = absurd (false≢true is)

-- what is answered by an answer isn't refused beforehand, so no disk has failed
pub sound_so : (s : State) (req : ReqId) (call : Call) → refused_before s req call ≡ None → is_failed s.fault ≡ false
sound_so s req call none = by_case (is_failed s.fault) none
  where
    by_case : (b : Bool) → first_of (ordered b (is_rolling s.durable.phase) s.volatile.is_preparing (is_locked s req call) call) ≡ None → b ≡ false
    by_case false passes = refl
    by_case true refused = absurd cc

pub commits_had : CommitsAreHad
commits_had config s req moment call answer is new says = by_refusal (refused_before s req call) refl says
  where
    by_refusal : (o : Option Refusal) → refused_before s req call ≡ o → OneSays req (Ok answer) (called_unless config s req moment call o).sent → Commits s req call (called_unless config s req moment call o)
    by_refusal None none says = record { had = called_had s req answer new config moment call is says; sound = sound_so s req call none; fault = called_same s req answer new config moment call is; begun = called_begun s req answer new config moment call is says }
    by_refusal (Some refusal) none says = no_answer req refusal answer [] says

-- none of a number that its client has had is new
pub had_not_new : (s : State) (client : ClientId) (number other : ℕ) → HasHad s client number → other ≤ number → numbered (last_reply s client) other ≡ New → ⊥
had_not_new s client number other had low new = by_last (last_reply s client) had (new_later (last_reply s client) other new)
  where
    by_last : (o : Option KeptReply) → IsFrom number o → is_later o other ≡ true → ⊥
    by_last None f test = none_from number f
    by_last (Some r) f test = (let below = lower r.number other test in let late = late_in number r f in omega arith)
