-- Each reply of an event: to the call that comes, or to one that waits.
use Rattle.std.proofs.Common.{◌≡◌, ◌⊎◌, inl, inr, ◌||◌, Bool, true, false, List, [], ◌∷◌, refl, sym, ap, subst}
use Rattle.std.specs.Prelude.{is_some, Option, Some, None, Result}
use Rattle.std.specs.List.{AllByRecursion}
use Rattle.std.proofs.lemmas.Bool.{false≢true}
use Rattle.gs_base.specs.declared.config.Config.{Config}
use Rattle.gs_base.specs.declared.numbers.Moment.{Moment}
use Rattle.gs_base.specs.declared.numbers.ReqId.{ReqId}
use Rattle.gs_base.specs.declared.refusal.Refusal.{Refusal}
use Rattle.gs_base.specs.declared.refusal.Refusal.TheVariants as refusals
use Rattle.gs_lock.specs.Operations.{same_op}
use Rattle.gs_msg.specs.declared.answer.Answer.{Answer}
use Rattle.gs_msg.specs.declared.body.Body.{Body}
use Rattle.gs_msg.specs.declared.body.Body.TheVariants as bodies
use Rattle.gs_msg.specs.declared.call.Call.{Call}
use Rattle.gs_msg.specs.declared.message.Message.{Message}
use Rattle.gs_msg.specs.declared.node.NodeId.{NodeId}
use Rattle.gs_msg.specs.declared.node.NodeId.TheVariants as nodes
use Rattle.gs_path.specs.Path.{Path}
use Rattle.gs_laws_moves.proofs.lemmas.answers.Answering.{pick}
use Rattle.gs_laws_moves.proofs.lemmas.answers.Concerning.{messages_concerned, ticks_concerned}
use Rattle.gs_laws_moves.proofs.lemmas.answers.Kept.{same_calls}
use Rattle.gs_laws_moves.specs.answers.Concerned.{IsConcerned, RepliesTo}
use Rattle.gs_laws_plain.specs.commands.Doing.{NewCallsDoAsAnswered, is_of_tree}
use Rattle.gs_master_spec.specs.Handling.{call_turn, from_node, handle, server_turn, tick}
use Rattle.gs_master_spec.specs.Outcomes.{caller_of}
use Rattle.gs_master_spec.specs.State.{State, Turn, is_failed, met_by}
use Rattle.gs_master_spec.specs.Volatile.{is_pending}
use Rattle.gs_master_spec.specs.declared.pending.Pending.{Pending}
use Rattle.gs_master_spec.specs.declared.pending.Waiting.{Waiting}
use Rattle.gs_master_spec.specs.declared.pending.Waiting.TheVariants as waits
use Rattle.gs_laws_plain.proofs.lemmas.replies.Coming.{call_its}
use Rattle.gs_laws_plain.proofs.lemmas.replies.Events.{messages_answer, ticks_answer}
use Rattle.gs_laws_plain.specs.replies.Replies.{Again, Came, ComesPlainly, HadWaited, IsAsPlain, MessagesReplyAsPlain, OtherCame, OtherWaited, RepliesAsPlain, TicksReplyAsPlain, WasKept}
use Rattle.gs_laws_plain.specs.replies.Waited.{AnswersWaited, GoesOnPlainly, IsAmong, RepliesSo, WaitsSo}

-- ---- what a call that waits waits for

waiting_of : (ps : List Pending) (req : ReqId) → is_pending ps req ≡ true → (waiting : Waiting) × IsAmong (record { req = req; waits = waiting }) ps
waiting_of [] req there = absurd (false≢true there)
waiting_of (p ∷ ps) req there = by_test (same_op req p.req) refl there (waiting_of ps req)
  where
    by_test : (b : Bool) → same_op req p.req ≡ b → (b || is_pending ps req) ≡ true → (is_pending ps req ≡ true → (waiting : Waiting) × IsAmong (record { req = req; waits = waiting }) ps) → (waiting : Waiting) × IsAmong (record { req = req; waits = waiting }) (p ∷ ps)
    by_test true same h rest = (p.waits, inl (λ i. record { req = sym (same_calls req p.req same) i; waits = p.waits }))
    by_test false apart h rest = (let more = rest h in (more.0, inr more.1))

module _ (s : State) (t : Turn) (moment : Moment) (heard : Option Body) where
  waited : (req : ReqId) (result : Result Answer Refusal) → ((from to : Path) → WaitsSo s req (waits.Snapshot from to) → GoesOnPlainly s t req from to result) → (waiting : Waiting) → WaitsSo s req waiting → IsAsPlain s t moment heard req result
  waited req result goes (waits.Snapshot from to) is = HadWaited from to is (goes from to is)
  waited req result goes waiting is = OtherWaited waiting is refl

  -- where a call that comes isn't of the tree
  module _ (caller : Option ReqId) (came : (req : ReqId) (result : Result Answer Refusal) → caller ≡ Some req → IsAsPlain s t moment heard req result) where
    one : (body : Body) → RepliesTo (IsConcerned s caller) body → RepliesSo (λ req result. (from to : Path) → WaitsSo s req (waits.Snapshot from to) → GoesOnPlainly s t req from to result) body → RepliesSo (IsAsPlain s t moment heard) body
    one (bodies.Reply req result) concerned goes = by concerned
      where
        by : IsConcerned s caller req → IsAsPlain s t moment heard req result
        by (inl is) = came req result is
        by (inr there) = (let some = waiting_of s.volatile.pending req there in waited req result goes some.0 some.1)
    one body concerned goes = tt

    each : (ms : List Message) → AllByRecursion (λ (m : Message). RepliesTo (IsConcerned s caller) m.body) ms
        → AllByRecursion (λ (m : Message). RepliesSo (λ req result. (from to : Path) → WaitsSo s req (waits.Snapshot from to) → GoesOnPlainly s t req from to result) m.body) ms → AllByRecursion (λ (m : Message). RepliesSo (IsAsPlain s t moment heard) m.body) ms
    each [] concerned goes = tt
    each (m ∷ ms) concerned goes = (one m.body concerned.0 goes.0, each ms concerned.1 goes.1)

-- ---- a message

-- the call that comes is of the tree
its_plain : (s : State) (t : Turn) (moment : Moment) (req : ReqId) (call : Call) → AllByRecursion (λ (m : Message). RepliesSo (λ other result. (other ≡ req) × (ComesPlainly s t moment req call result ⊎ WasKept s req result)) m.body) t.sent → RepliesAsPlain s t moment (Some (bodies.Call req call))
its_plain s t moment req call all = each_of t.sent all
  where
    by : (result : Result Answer Refusal) → ComesPlainly s t moment req call result ⊎ WasKept s req result → IsAsPlain s t moment (Some (bodies.Call req call)) req result
    by result (inl comes) = Came call refl comes
    by result (inr kept) = Again call refl kept

    one_of : (body : Body) → RepliesSo (λ other result. (other ≡ req) × (ComesPlainly s t moment req call result ⊎ WasKept s req result)) body → RepliesSo (IsAsPlain s t moment (Some (bodies.Call req call))) body
    one_of (bodies.Reply other result) is = subst (λ r. IsAsPlain s t moment (Some (bodies.Call req call)) r result) (sym is.0) (by result is.1)
    one_of body is = tt

    each_of : (ms : List Message) → AllByRecursion (λ (m : Message). RepliesSo (λ other result. (other ≡ req) × (ComesPlainly s t moment req call result ⊎ WasKept s req result)) m.body) ms → AllByRecursion (λ (m : Message). RepliesSo (IsAsPlain s t moment (Some (bodies.Call req call))) m.body) ms
    each_of [] all = tt
    each_of (m ∷ ms) all = (one_of m.body all.0, each_of ms all.1)

module _ (law : NewCallsDoAsAnswered) (config : Config) (s : State) (moment : Moment) where
  call_is : {a b : ReqId} → ◌≡◌ {A = Option ReqId} (Some a) (Some b) → a ≡ b
  call_is h = cc

  abbrev Plain : Body → NodeId → Type 0
  Plain body from = RepliesAsPlain s (from_node config s moment body from) moment (Some body)

  -- what is known of each reply of it
  abbrev Known : Body → NodeId → Type 0
  Known body from = AllByRecursion (λ (m : Message). RepliesTo (IsConcerned s (caller_of body)) m.body) (from_node config s moment body from).sent × AnswersWaited s (from_node config s moment body from)

  by_call : (req : ReqId) (call : Call) (from : NodeId) → Known (bodies.Call req call) from → Plain (bodies.Call req call) from
  by_call req call nodes.Master known = tt
  by_call req call (nodes.Server server) known = pick (λ t. RepliesAsPlain s t moment (Some (bodies.Call req call))) (is_failed s.fault) (met_by s refusals.Device) (server_turn s server moment (bodies.Call req call)) tt tt
  by_call req call (nodes.Client client) known = by_kind (is_of_tree call) refl
    where
      by_kind : (b : Bool) → is_of_tree call ≡ b → Plain (bodies.Call req call) (nodes.Client client)
      by_kind true tree = its_plain s (call_turn config s req moment call) moment req call (call_its law config s req moment call tree)
      by_kind false other =
          each s (call_turn config s req moment call) moment (Some (bodies.Call req call)) (Some req) (λ r result is. OtherCame call (ap (λ (x : ReqId). Some (bodies.Call x call)) (call_is is)) other) (call_turn config s req moment call).sent known.0 known.1

  by_body : (body : Body) (from : NodeId) → Known body from → Plain body from
  by_body (bodies.Call req call) from known = by_call req call from known
  by_body body from known = each s (from_node config s moment body from) moment (Some body) None (λ r result is. absurd (false≢true (ap is_some is))) (from_node config s moment body from).sent known.0 known.1

pub messages_reply : NewCallsDoAsAnswered → MessagesReplyAsPlain
unfolding handle
messages_reply law config s message moment apart = by_body law config s moment message.body message.from ((messages_concerned config s message moment).sent, messages_answer config s message moment apart)

pub ticks_reply : TicksReplyAsPlain
ticks_reply s moment apart = each s (tick s moment) moment None None (λ r result is. absurd (false≢true (ap is_some is))) (tick s moment).sent (ticks_concerned s moment).sent (ticks_answer s moment apart)
