-- What a look-up, or a commit, is answered.
use Rattle.std.proofs.Common.{◌≡◌, ◌≤◌, ◌⊎◌, inl, inr, ◌∙◌, ◌&&◌, ◌++◌, ◌+◌, ℕ, Bool, true, false, cond, not, List, [], ◌∷◌, length, refl, ap, sym, subst, arith}
use Rattle.std.specs.Prelude.{Option, Some, None, Result, Ok, Err, if◌then◌else◌, unwrap_or}
use Rattle.std.specs.FinMap as fin
use Rattle.std.specs.List.{AllByRecursion}
use Rattle.std.specs.Ordering.{eq_by_cmp}
use Rattle.std.proofs.lemmas.Bool.{false≢true}
use Rattle.gs_base.specs.Members.{count_from}
use Rattle.gs_base.specs.declared.config.Config.{Config}
use Rattle.gs_base.specs.declared.epoch.EpochEnd.{EpochEnd}
use Rattle.gs_base.specs.declared.epoch.EpochEnd.TheVariants as ends
use Rattle.gs_base.specs.declared.numbers.Moment.{Moment}
use Rattle.gs_base.specs.declared.numbers.ReqId.{ReqId}
use Rattle.gs_base.specs.declared.refusal.Refusal.{Refusal}
use Rattle.gs_base.specs.declared.refusal.Refusal.TheVariants as refusals
use Rattle.gs_edit.specs.View.{NamesView}
use Rattle.gs_msg.specs.declared.answer.Answer.{Answer}
use Rattle.gs_msg.specs.declared.answer.Answer.TheVariants as answers
use Rattle.gs_msg.specs.declared.body.Body.TheVariants as bodies
use Rattle.gs_msg.specs.declared.call.Call.{Call}
use Rattle.gs_msg.specs.declared.call.Call.TheVariants as calls
use Rattle.gs_msg.specs.declared.message.Message.{Message}
use Rattle.gs_msg.specs.declared.node.NodeId.TheVariants as nodes
use Rattle.gs_master_record.specs.Plain.{Finalize, PlainEntry, Prepare, RollbackCommit, Said}
use Rattle.gs_master_spec.specs.Applied.{after_undoing, applied, if_fits, rolled_back, with_epoch, with_reply, without_prepared}
use Rattle.gs_master_spec.specs.Calls.{answered_with, found_chunk, listing, location, looked_up, refused_before, status, told_phase}
use Rattle.gs_master_spec.specs.Durable.{Durable, is_rolling, prepared_view}
use Rattle.gs_master_spec.specs.Handling.{called_unless}
use Rattle.gs_master_spec.specs.Replies.{client_cmp, is_later}
use Rattle.gs_master_spec.specs.State.{State, Turn, answer_changes, fits, first_of, if_room, keeps_refusal, kept_in_memory, last_reply, post, refused, reply_to, said_changes, to_each, turned}
use Rattle.gs_master_spec.specs.Undoing.{all_undone}
use Rattle.gs_master_spec.specs.Upgrades.{accepted_plan, all_unquiet, answers_for, chunk_count, commit_if, commit_on, commit_tests, end_tests, is_last_epoch, tell_all, told_of, unless, unrestored}
use Rattle.gs_master_spec.specs.Volatile.{Volatile, all_changed, is_pending}
use Rattle.gs_master_spec.specs.declared.change.Change.{Change}
use Rattle.gs_master_spec.specs.declared.change.Change.TheVariants as changes
use Rattle.gs_master_spec.specs.declared.reply.KeptReply.{KeptReply}
use Rattle.gs_laws_moves.specs.answers.AtOnce.{AnswersAlone, AnswersAtOnce, KeepsBut, OneSays, SaysAlone, is_answered_at_once}
use Rattle.gs_laws_moves.specs.answers.Concerned.{answered_by}
use Rattle.gs_laws_moves.proofs.lemmas.answers.Kept.{client_total, same_client, some_is}

-- the last of some messages says so
one_says : (req : ReqId) (result : Result Answer Refusal) (messages : List Message) → OneSays req result (messages ++ reply_to req result ∷ [])
one_says req result [] = inl refl
one_says req result (m ∷ messages) = inr (one_says req result messages)

module _ (req : ReqId) (result : Result Answer Refusal) where
  abbrev But : fin.FinMap client_cmp KeptReply → fin.FinMap client_cmp KeptReply → Type 0
  But old new = KeepsBut req result old new

  abbrev So : State → Turn → Type 0
  So s t = AnswersAlone req result s t

  pub but_still : (m n : fin.FinMap client_cmp KeptReply) → n ≡ m → But m n
  but_still m n is client reply has = inl (ap (λ x. fin.get x client) (sym is) ∙ has)

  abbrev its_own : KeptReply
  its_own = record { number = req.number; result = result }

  but_one : (m : fin.FinMap client_cmp KeptReply) → But m (fin.insert m req.client its_own)
  but_one m client other has = by_key (eq_by_cmp client_cmp client req.client) refl (sym (fin.get-insert client_total m req.client its_own client) ∙ has)
    where
      by_key : (b : Bool) → eq_by_cmp client_cmp client req.client ≡ b → cond b (Some its_own) (fin.get m client) ≡ Some other → (fin.get m client ≡ Some other) ⊎ ((answered_by client other ≡ req) × (other.result ≡ result))
      by_key true same h = (let c = same_client client req.client same in let r = some_is h in inr ((λ i. record { client = c i; number = (sym r i).number }), ap (λ (x : KeptReply). x.result) (sym r)))
      by_key false apart h = inl h

  pub but_replied : (m : fin.FinMap client_cmp KeptReply) → But m (with_reply m req result)
  but_replied m = by_test (is_later (fin.get m req.client) req.number)
    where
      by_test : (b : Bool) → But m (if b then fin.insert m req.client its_own else m)
      by_test true = but_one m
      by_test false = but_still m m refl

  -- what is kept in memory is its reply, if anything is
  kept_but : (v : Volatile) (b : Bool) → But v.replies (all_changed v (if b then kept_in_memory req result ∷ [] else [])).replies
  kept_but v true = but_one v.replies
  kept_but v false = but_still v.replies v.replies refl

  kept_waits : (v : Volatile) (b : Bool) → (all_changed v (if b then kept_in_memory req result ∷ [] else [])).pending ≡ v.pending
  kept_waits v true = refl
  kept_waits v false = refl

-- ---- a refusal

said_left : (req : ReqId) (refusal : Refusal) (s : State) → KeepsBut req (Err refusal) s.durable.replies (unwrap_or (applied s.durable (Said req refusal)) s.durable).replies
unfolding applied
said_left req refusal s = but_replied req (Err refusal) s.durable.replies

no_more : (xs : List Change) → xs ++ [] ≡ xs
no_more [] = refl
no_more (x ∷ xs) = ap (λ (ys : List Change). x ∷ ys) (no_more xs)

pub refused_alone : (s : State) (req : ReqId) (refusal : Refusal) → AnswersAlone req (Err refusal) s (refused s req refusal)
refused_alone s req refusal = record {
  sent = ((refl, refl), tt);
  says = inl refl;
  durable = by_record (keeps_refusal s req refusal && fits s.log (Said req refusal ∷ []));
  memory = subst (λ (cs : List Change). KeepsBut req (Err refusal) s.volatile.replies (all_changed s.volatile cs).replies) (sym (no_more (said_changes (keeps_refusal s req refusal) s.log req refusal)))
      (kept_but req (Err refusal) s.volatile (keeps_refusal s req refusal && not (fits s.log (Said req refusal ∷ []))));
  waits = λ other there. ap (λ ps. is_pending ps other) (sym (kept_waits req (Err refusal) s.volatile (keeps_refusal s req refusal && not (fits s.log (Said req refusal ∷ []))))
      ∙ sym (ap (λ (cs : List Change). (all_changed s.volatile cs).pending) (no_more (said_changes (keeps_refusal s req refusal) s.log req refusal)))) ∙ there;
  few = by_few (keeps_refusal s req refusal && fits s.log (Said req refusal ∷ []));
}
  where
    by_record : (b : Bool) → KeepsBut req (Err refusal) s.durable.replies (turned s (record { records = if b then Said req refusal ∷ [] else []; changes = []; sent = []; said = None })).after.durable.replies
    by_record true = said_left req refusal s
    by_record false = but_still req (Err refusal) s.durable.replies s.durable.replies refl

    by_few : (b : Bool) → length (if b then Said req refusal ∷ [] else []) ≤ 1
    by_few true = omega arith
    by_few false = omega arith

-- ---- an answer without a record

abbrev pub Alone : State → ReqId → Turn → Type 0
Alone s req t = (result : Result Answer Refusal) × AnswersAlone req result s t

pub answered_alone : (s : State) (req : ReqId) (answer : Answer) → AnswersAlone req (Ok answer) s (answered_with s req answer)
answered_alone s req answer = record {
  sent = ((refl, refl), tt);
  says = inl refl;
  durable = but_still req (Ok answer) s.durable.replies s.durable.replies refl;
  memory = kept_but req (Ok answer) s.volatile (is_later (last_reply s req.client) req.number);
  waits = λ other there. ap (λ ps. is_pending ps other) (sym (kept_waits req (Ok answer) s.volatile (is_later (last_reply s req.client) req.number))) ∙ there;
  few = omega arith;
}

looked_alone : (s : State) (req : ReqId) (result : Result Answer Refusal) → Alone s req (looked_up s req result)
looked_alone s req (Ok answer) = (Ok answer, answered_alone s req answer)
looked_alone s req (Err refusal) = (Err refusal, refused_alone s req refusal)

-- ---- a step of an upgrade

pub pick : (S : Turn → Type 0) (b : Bool) (t u : Turn) → S t → S u → S (if b then t else u)
pick S true t u x y = x
pick S false t u x y = y

-- records that leave the replies
module _ (s : State) (req : ReqId) where
  abbrev Leaves : List PlainEntry → Type 0
  Leaves records = (turned s (record { records = records; changes = []; sent = []; said = None })).after.durable.replies ≡ s.durable.replies

  none_told : (config : Config) (epoch : ℕ) (end : EpochEnd) (result : Result Answer Refusal) → AllByRecursion (λ (m : Message). SaysAlone req result m.body) (tell_all config epoch end)
  none_told config epoch end result = each (count_from 0 config.servers)
    where
      each : (servers : List ℕ) → AllByRecursion (λ (m : Message). SaysAlone req result m.body) (to_each servers (λ server. post (nodes.Server server) (bodies.Epoch epoch end)))
      each [] = tt
      each (server ∷ servers) = (tt, each servers)

  both : (result : Result Answer Refusal) (xs ys : List Message) → AllByRecursion (λ (m : Message). SaysAlone req result m.body) xs → AllByRecursion (λ (m : Message). SaysAlone req result m.body) ys → AllByRecursion (λ (m : Message). SaysAlone req result m.body) (xs ++ ys)
  both result [] ys first second = second
  both result (x ∷ xs) ys first second = (first.0, both result xs ys first.1 second)

  accepted_alone : (records : List PlainEntry) (change : Change) (messages : List Message) (epoch : ℕ) → Leaves records → length records ≤ 1 → ((v : Volatile) → (all_changed v (change ∷ [])).replies ≡ v.replies) → ((v : Volatile) → (all_changed v (change ∷ [])).pending ≡ v.pending)
      → AllByRecursion (λ (m : Message). SaysAlone req (Ok (answers.Epoch epoch)) m.body) messages → AnswersAlone req (Ok (answers.Epoch epoch)) s (turned s (accepted_plan s req records (change ∷ []) messages epoch))
  accepted_alone records change messages epoch leaves few same_replies same_pending said =
      let later = is_later (last_reply s req.client) req.number in
      let v = all_changed s.volatile (change ∷ []) in record {
        sent = both (Ok (answers.Epoch epoch)) messages (reply_to req (Ok (answers.Epoch epoch)) ∷ []) said ((refl, refl), tt);
        says = one_says req (Ok (answers.Epoch epoch)) messages;
        durable = but_still req (Ok (answers.Epoch epoch)) s.durable.replies _ leaves;
        memory = subst (λ m. KeepsBut req (Ok (answers.Epoch epoch)) m (all_changed v (answer_changes s req (answers.Epoch epoch))).replies) (same_replies s.volatile) (kept_but req (Ok (answers.Epoch epoch)) v later);
        waits = λ other there. ap (λ ps. is_pending ps other) (sym (kept_waits req (Ok (answers.Epoch epoch)) v later ∙ same_pending s.volatile)) ∙ there;
        few = few;
      }

  finalized_alone : (messages : List Message) (epoch : ℕ) → Leaves (Finalize (s.durable.epoch + 1) ∷ []) → AllByRecursion (λ (m : Message). SaysAlone req (Ok (answers.Epoch epoch)) m.body) messages
      → AnswersAlone req (Ok (answers.Epoch epoch)) s (turned s (accepted_plan s req (Finalize (s.durable.epoch + 1) ∷ []) [] messages epoch))
  finalized_alone messages epoch leaves said =
      let later = is_later (last_reply s req.client) req.number in record {
        sent = both (Ok (answers.Epoch epoch)) messages (reply_to req (Ok (answers.Epoch epoch)) ∷ []) said ((refl, refl), tt);
        says = one_says req (Ok (answers.Epoch epoch)) messages;
        durable = but_still req (Ok (answers.Epoch epoch)) s.durable.replies _ leaves;
        memory = kept_but req (Ok (answers.Epoch epoch)) s.volatile later;
        waits = λ other there. ap (λ ps. is_pending ps other) (sym (kept_waits req (Ok (answers.Epoch epoch)) s.volatile later)) ∙ there;
        few = omega arith;
      }

  pub room_alone : (t : Turn) → Alone s req t → Alone s req (if_room s t (refused s req refusals.Full))
  room_alone t a = pick (Alone s req) (fits s.log t.records) t (refused s req refusals.Full) a (Err refusals.Full, refused_alone s req refusals.Full)

  unless_alone : (refusal : Option Refusal) (t : Turn) → Alone s req t → Alone s req (unless refusal s req t)
  unless_alone None t a = room_alone t a
  unless_alone (Some refusal) t a = (Err refusal, refused_alone s req refusal)

  -- a record that fits or doesn't leaves them
  given_or : (b : Bool) (d n : Durable) → n.replies ≡ d.replies → (unwrap_or (if_fits b n) d).replies ≡ d.replies
  given_or true d n is = is
  given_or false d n is = refl

  prepare_leaves : (moment many : ℕ) → Leaves (Prepare (s.durable.epoch + 1) moment many ∷ [])
  unfolding applied
  prepare_leaves moment many = given_or _ s.durable (without_prepared (with_epoch s.durable ends.Prepare _)) refl

  finalize_leaves : Leaves (Finalize (s.durable.epoch + 1) ∷ [])
  unfolding applied
  finalize_leaves = given_or _ s.durable (without_prepared (with_epoch s.durable ends.Finalize _)) refl

  commit_leaves : (told : List _) → Leaves (RollbackCommit s.durable.epoch told ∷ [])
  unfolding applied
  commit_leaves told = by_names (all_undone s.durable.inverses s.durable.names)
    where
      by_names : (names : Option NamesView) → (unwrap_or (after_undoing s.durable s.durable.epoch told names) s.durable).replies ≡ s.durable.replies
      by_names None = refl
      by_names (Some names) = given_or _ s.durable (rolled_back s.durable told names) refl

  commit_if_alone : (names : NamesView) (lacking : Option ℕ) → Alone s req (commit_if s req names lacking)
  commit_if_alone names (Some chunk) = (Err (refusals.Unrestored chunk), refused_alone s req (refusals.Unrestored chunk))
  commit_if_alone names None =
      let told = answers_for (prepared_view s.durable) (told_of s) (fin.entries names.refs) in
      room_alone _ (Ok (answers.Epoch s.durable.epoch), accepted_alone (RollbackCommit s.durable.epoch told ∷ []) changes.RolledBack [] s.durable.epoch (commit_leaves told) (omega arith) (λ v. refl) (λ v. refl) tt)

  commit_on_alone : (names : Option NamesView) → Alone s req (commit_on s req names)
  commit_on_alone None = (Err refusals.BadLine, refused_alone s req refusals.BadLine)
  commit_on_alone (Some names) = commit_if_alone names (unrestored (prepared_view s.durable) (told_of s) (fin.entries names.refs))

-- ---- all such calls

called_alone : (config : Config) (s : State) (req : ReqId) (moment : Moment) (call : Call) → is_answered_at_once call ≡ true → Alone s req (called_unless config s req moment call None)
called_alone config s req moment (calls.List path) is = looked_alone s req (listing (fin.entries s.durable.names.tree) path (fin.get s.durable.names.tree path))
called_alone config s req moment (calls.Status path) is = looked_alone s req (status s.durable (fin.get s.durable.names.tree path))
called_alone config s req moment (calls.FindForReading path index) is = looked_alone s req (location s.durable (found_chunk (fin.get s.durable.names.tree path) index))
called_alone config s req moment calls.Query is = (_, answered_alone s req (answers.Phase (told_phase s.volatile.is_preparing s.durable.phase) s.durable.epoch))
called_alone config s req moment calls.PrepareCommit is =
    unless_alone s req (first_of (commit_tests s.durable.phase s.volatile.is_preparing (all_unquiet s) (is_last_epoch s.durable))) _ (
      _,
      accepted_alone s req (Prepare (s.durable.epoch + 1) moment.0 (chunk_count s) ∷ []) (changes.Prepare false) (tell_all config (s.durable.epoch + 1) ends.Prepare) (s.durable.epoch + 1) (prepare_leaves s req moment.0 (chunk_count s)) (omega arith) (λ v. refl) (λ v. refl)
          (none_told s req config (s.durable.epoch + 1) ends.Prepare (Ok (answers.Epoch (s.durable.epoch + 1)))),
    )
called_alone config s req moment calls.PrepareAbort is =
    pick (Alone s req) s.volatile.is_preparing (turned s (accepted_plan s req [] (changes.Prepare false ∷ []) [] s.durable.epoch)) (refused s req refusals.NotUpgrading)
    (_, accepted_alone s req [] (changes.Prepare false) [] s.durable.epoch refl (omega arith) (λ v. refl) (λ v. refl) tt) (Err refusals.NotUpgrading, refused_alone s req refusals.NotUpgrading)
called_alone config s req moment calls.Finalize is =
    unless_alone s req (first_of (end_tests s.durable.phase (is_last_epoch s.durable))) _
    (_, finalized_alone s req (tell_all config (s.durable.epoch + 1) ends.Finalize) (s.durable.epoch + 1) (finalize_leaves s req) (none_told s req config (s.durable.epoch + 1) ends.Finalize (Ok (answers.Epoch (s.durable.epoch + 1)))))
called_alone config s req moment calls.RollbackCommit is =
    pick (Alone s req) (is_rolling s.durable.phase) (commit_on s req (all_undone s.durable.inverses s.durable.names)) (refused s req refusals.NotUpgrading)
    (commit_on_alone s req (all_undone s.durable.inverses s.durable.names)) (Err refusals.NotUpgrading, refused_alone s req refusals.NotUpgrading)
called_alone config s req moment call is = absurd (false≢true is)

unless_refused : (config : Config) (s : State) (req : ReqId) (moment : Moment) (call : Call) → is_answered_at_once call ≡ true → (refusal : Option Refusal) → Alone s req (called_unless config s req moment call refusal)
unless_refused config s req moment call is None = called_alone config s req moment call is
unless_refused config s req moment call is (Some refusal) = (Err refusal, refused_alone s req refusal)

pub at_once : AnswersAtOnce
at_once config s req moment call is = unless_refused config s req moment call is (refused_before s req call)
