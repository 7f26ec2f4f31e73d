-- Each event: what it says to each snapshot that has waited.
use Rattle.std.proofs.Common.{◌≡◌, ◌⊎◌, inl, inr, Bool, true, false, List, [], ◌∷◌, refl, sym, ap, subst}
use Rattle.std.specs.Prelude.{is_some, Option, Some, None, Result, Err, if◌then◌else◌}
use Rattle.std.specs.List.{AllByRecursion}
use Rattle.std.proofs.lemmas.Bool.{false≢true}
use Rattle.gs_base.specs.declared.config.Config.{Config}
use Rattle.gs_base.specs.declared.numbers.Moment.{Moment}
use Rattle.gs_base.specs.declared.numbers.ReqId.{ReqId}
use Rattle.gs_base.specs.declared.refusal.Refusal.{Refusal}
use Rattle.gs_base.specs.declared.refusal.Refusal.TheVariants as refusals
use Rattle.gs_lock.specs.Operations.{same_op}
use Rattle.gs_msg.specs.declared.answer.Answer.{Answer}
use Rattle.gs_msg.specs.declared.body.Body.{Body}
use Rattle.gs_msg.specs.declared.body.Body.TheVariants as bodies
use Rattle.gs_msg.specs.declared.call.Call.{Call}
use Rattle.gs_msg.specs.declared.message.Message.{Message}
use Rattle.gs_msg.specs.declared.node.NodeId.{NodeId}
use Rattle.gs_msg.specs.declared.node.NodeId.TheVariants as nodes
use Rattle.gs_path.specs.Path.{Path}
use Rattle.gs_laws_moves.proofs.lemmas.answers.Answering.{pick}
use Rattle.gs_laws_moves.proofs.lemmas.answers.Kept.{same_calls}
use Rattle.gs_laws_moves.proofs.lemmas.answers.Plans.{SaidSo, both_so}
use Rattle.gs_laws_moves.specs.answers.Concerned.{RepliesTo}
use Rattle.gs_master_spec.specs.Handling.{call_turn, checkpoint, checkpoint_body, checkpoint_tests, due, from_node, granted, handle, numbered, pressed, proposals, replied_again, server_turn, taken_as, tick, waits_still, written_if_due, written_unless}
use Rattle.gs_master_spec.specs.State.{State, Turn, and_then, first_of, for_each, is_failed, is_unopened, last_reply, met_by, unmoved}
use Rattle.gs_master_spec.specs.Volatile.{is_pending}
use Rattle.gs_master_spec.specs.declared.pending.Waiting.TheVariants as waits
use Rattle.gs_master_state.specs.Sane.{are_apart}
use Rattle.gs_laws_plain.proofs.lemmas.replies.Going.{node_so, steps_so}
use Rattle.gs_laws_plain.proofs.lemmas.replies.Plainly.{refused_plainly}
use Rattle.gs_laws_plain.proofs.lemmas.replies.Waiting as turns
use Rattle.gs_laws_plain.proofs.lemmas.replies.Waiting.{Here, OnlySays, Others, answered_then, here_once, is_here, is_other}
use Rattle.gs_laws_plain.specs.replies.Waited.{AnswersWaited, TellsNone, GoesOnPlainly, MessagesAnswerWaited, RepliesSo, TicksAnswerWaited, WaitsSo}

-- ---- lists

abbrev pub In : {A : Type 0} → A → List A → Type 0
In x [] = ⊥
In x (y ∷ ys) = (y ≡ x) ⊎ In x ys

pub all_from : {A : Type 0} (S : A → Type 0) (xs : List A) → ((x : A) → In x xs → S x) → AllByRecursion S xs
all_from S [] each = tt
all_from S (x ∷ xs) each = (each x (inl refl), all_from S xs (λ y there. each y (inr there)))

pub one_from : {A : Type 0} (S : A → Type 0) (xs : List A) (x : A) → AllByRecursion S xs → In x xs → S x
one_from S [] x all there = absurd there
one_from S (y ∷ xs) x all (inl first) = subst S first all.0
one_from S (y ∷ xs) x all (inr rest) = one_from S xs x all.1 rest

-- ---- one that waits

module _ (own : ReqId) (source place : Path) where
  -- it is told nothing, or answered
  abbrev pub Outcome : State → Turn → Type 0
  Outcome s t = SaidSo (Others own) t.sent ⊎ turns.Answered own source place s t

  outcome_of : (s : State) (t : Turn) → turns.Comes own source place s t → Outcome s t
  outcome_of s t (inl waited) = inl waited.0.sent
  outcome_of s t (inr ends) = inr ends.0

  -- it comes once more
  device : (s : State) → Outcome s (replied_again s own (Err refusals.Device))
  device s = inr (record {
    result = Err refusals.Device;
    goes = record { before = []; behind = []; made = []; is_made = inl refl; parts = refl; none_before = refl; none_behind = refl; plainly = refused_plainly source place s.durable.names refusals.Device refl };
    sent = ((λ same. refl), tt);
  })

  comes_again : (config : Config) (s : State) (moment : Moment) (call : Call) → Here own source place s.volatile.pending → Outcome s (call_turn config s own moment call)
  comes_again config s moment call here =
      let taken = taken_as config s own moment call (numbered (last_reply s own.client) own.number) in
      pick (Outcome s) (is_unopened s.fault) (replied_again s own (Err refusals.Device)) (if is_pending s.volatile.pending own then waits_still s own else taken) (device s)
      (subst (λ b. Outcome s (if b then waits_still s own else taken)) (sym (is_here own source place s.volatile.pending here))
      (pick (Outcome s) (is_failed s.fault) (replied_again s own (Err refusals.Device)) (unmoved s) (device s) (inl tt)))

  own_call : (config : Config) (s : State) (moment : Moment) (call : Call) (from : NodeId) → Here own source place s.volatile.pending → Outcome s (from_node config s moment (bodies.Call own call) from)
  own_call config s moment call nodes.Master here = inl tt
  own_call config s moment call (nodes.Server server) here = pick (Outcome s) (is_failed s.fault) (met_by s refusals.Device) (server_turn s server moment (bodies.Call own call)) (inl tt) (inl tt)
  own_call config s moment call (nodes.Client client) here = comes_again config s moment call here

  hears : (config : Config) (s : State) (moment : Moment) (body : Body) (from : NodeId) → Here own source place s.volatile.pending → Outcome s (from_node config s moment body from)
  hears config s moment (bodies.Call req call) from here = by_same (same_op own req) refl
    where
      call_is : {a b : ReqId} → ◌≡◌ {A = Option ReqId} (Some a) (Some b) → a ≡ b
      call_is h = cc

      by_same : (b : Bool) → same_op own req ≡ b → Outcome s (from_node config s moment (bodies.Call req call) from)
      by_same true same = subst (λ r. Outcome s (from_node config s moment (bodies.Call r call) from)) (same_calls own req same) (own_call config s moment call from here)
      by_same false apart = outcome_of s _ ((node_so own source place config s moment (bodies.Call req call) from (λ r is. subst (Others own) (call_is is) (is_other own req apart))).here here)
  hears config s moment body from here = outcome_of s _ ((node_so own source place config s moment body from (λ r is. absurd (false≢true (ap is_some is)))).here here)

  pub message_said : (config : Config) (s : State) (message : Message) (moment : Moment) → Here own source place s.volatile.pending → Outcome s (handle config s message moment)
  unfolding handle
  message_said config s message moment here = hears config s moment message.body message.from here

  -- a checkpoint says nothing, and edits nothing
  record Quiet (t : Turn) : Type 0 where
    pub sent : SaidSo (Others own) t.sent
    pub none : TellsNone own t.records

  written_quiet : (u : State) (refusal : Option Refusal) → Quiet (record (written_unless u refusal) { said = None })
  written_quiet u None = record { sent = tt; none = refl }
  written_quiet u (Some refusal) = record { sent = tt; none = refl }

  due_quiet : (u : State) → Quiet (written_if_due u)
  unfolding checkpoint
  due_quiet u =
      pick Quiet (due u) (record (checkpoint u) { said = None }) (unmoved u)
      (written_quiet u (first_of (checkpoint_tests (is_failed u.fault) u.volatile.is_preparing u.log (checkpoint_body u.durable)))) (record { sent = tt; none = refl })

  ticks : (s : State) (t : Turn) → Outcome s t → Outcome s (and_then t written_if_due)
  ticks s t (inl said) = inl (both_so _ t.sent (written_if_due t.after).sent said (due_quiet t.after).sent)
  ticks s t (inr answered) = inr (answered_then own source place s t written_if_due answered (due_quiet t.after).sent (due_quiet t.after).none)

  pub tick_said : (s : State) (moment : Moment) → Here own source place s.volatile.pending → Outcome s (tick s moment)
  unfolding tick
  tick_said s moment here =
      let steps = and_then (for_each s (proposals s) (pressed moment)) granted in
      pick (Outcome s) (is_failed s.fault) (met_by s refusals.Device) (and_then steps written_if_due) (inl tt) (ticks s steps (outcome_of s steps ((steps_so own source place s moment).here here)))

-- ---- each that waits

module _ (s : State) (t : Turn) (apart : are_apart s.volatile.pending ≡ true) (out : (own : ReqId) (source place : Path) → Here own source place s.volatile.pending → Outcome own source place s t) where
  abbrev Goes : ReqId → Result Answer Refusal → Type 0
  Goes req result = (from to : Path) → WaitsSo s req (waits.Snapshot from to) → GoesOnPlainly s t req from to result

  by_body : (m : Message) → In m t.sent → (body : Body) → m.body ≡ body → RepliesSo Goes body
  by_body m there (bodies.Reply req result) is = λ from to waiting. by from to (out req from to (here_once req from to s.volatile.pending apart waiting))
    where
      by : (from to : Path) → Outcome req from to s t → GoesOnPlainly s t req from to result
      by from to (inl silent) = absurd (subst (RepliesTo (Others req)) is (one_from (λ (n : Message). RepliesTo (Others req) n.body) t.sent m silent there) refl)
      by from to (inr answered) =
          let says = subst (RepliesSo (λ other said. other ≡ req → said ≡ answered.result)) is (one_from (λ (n : Message). RepliesSo (λ other said. other ≡ req → said ≡ answered.result) n.body) t.sent m answered.sent there) in
          subst (GoesOnPlainly s t req from to) (sym (says refl)) answered.goes
  by_body m there body is = tt

  pub each_waited : AnswersWaited s t
  each_waited = all_from (λ (m : Message). RepliesSo Goes m.body) t.sent (λ m there. by_body m there m.body refl)

pub messages_answer : MessagesAnswerWaited
messages_answer config s message moment apart = each_waited s (handle config s message moment) apart (λ own source place here. message_said own source place config s message moment here)

pub ticks_answer : TicksAnswerWaited
ticks_answer s moment apart = each_waited s (tick s moment) apart (λ own source place here. tick_said own source place s moment here)
