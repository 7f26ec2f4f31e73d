-- One request of a run is one call: a client that asks takes a number that it hasn't had, and nobody else calls.
use Rattle.std.proofs.Common.{◌≡◌, ◌∙◌, ◌⊎◌, ◌++◌, ◌≤◌, inl, inr, ℕ, Bool, true, false, List, [], ◌∷◌, Option, Some, None, Ok, refl, sym, ap, subst, arith, nat_le}
use Rattle.std.specs.List.{AllByRecursion}
use Rattle.std.proofs.lemmas.Bool.Decides.{nat_tests}
use Rattle.gs_base.specs.declared.numbers.Moment.{Moment}
use Rattle.gs_base.specs.declared.numbers.ReqId.{ReqId}
use Rattle.gs_client.specs.Nodes.{Node, messages_of, pushes, request_of, with_bytes}
use Rattle.gs_master.specs.Masters.{MasterAnswers, MasterOf}
use Rattle.gs_master.specs.Ticking.{AnswersAs, AnswersTick, lacking, pressed_all, writes_one}
use Rattle.gs_master.specs.declared.turn.Turn.{Turn as Told_turn}
use Rattle.gs_master_spec.specs.Handling.{handle, tick}
use Rattle.gs_master_spec.specs.Outcomes.{caller_of, unsure}
use Rattle.gs_master_spec.specs.State.{Turn}
use Rattle.gs_msg.specs.declared.body.Body.{Body}
use Rattle.gs_msg.specs.declared.body.Body.TheVariants as bodies
use Rattle.gs_msg.specs.declared.call.Call.{Call}
use Rattle.gs_msg.specs.declared.event.DiskId.{DiskId}
use Rattle.gs_msg.specs.declared.event.Happening.{Happening}
use Rattle.gs_msg.specs.declared.event.Happening.TheVariants as happenings
use Rattle.gs_msg.specs.declared.event.Request.{Request}
use Rattle.gs_msg.specs.declared.event.Request.TheVariants as requests
use Rattle.gs_msg.specs.declared.message.Message.{Message}
use Rattle.gs_nodes.specs.Happenings.{MasterHears, MasterTicks, client_in, refusal_of_call}
use Rattle.gs_nodes.specs.Nodes.{Nodes}
use Rattle.gs_nodes.specs.declared.place.MasterPlace.{MasterPlace}
use Rattle.gs_nodes.specs.declared.place.MasterPlace.TheVariants.{Away, Closed, Standing}
use Rattle.gs_world.proofs.Reaching.{HaveSizes}
use Rattle.gs_world.specs.Histories.{History, Upshot, told}
use Rattle.gs_world.specs.Runs.{Comes, Goes, RunsTo, Step, Takes}
use Rattle.gs_world.specs.Sent.{Sent}
use Rattle.gs_laws_chunks.proofs.lemmas.answers.Asked.{own_id, reopens_said, servers_said}
use Rattle.gs_laws_chunks.proofs.lemmas.answers.Parts.{Armed, Asked, Heard, Opened, Part, Rested, Served, Ticked, Told, part_of}
use Rattle.gs_laws_chunks.specs.answers.Answered.{sent_by}
use Rattle.gs_laws_chunks.specs.answers.Asked.{AreAsked, HasAsked, SaysOf}
use Rattle.gs_laws_world.proofs.lemmas.steady.MasterSays.{EachKind, message_said, steps_said, tick_said}
use Rattle.gs_laws_world.specs.steady.Saying.{IsStepWithin}
use Rattle.gs_laws_lift.proofs.lemmas.stores.Beginning.{begins_none}
use Rattle.gs_laws_lift.proofs.lemmas.stores.Posting.{posted_all}
use Rattle.gs_laws_lift.specs.stores.Going.{AllSent}
use Rattle.gs_laws_chunks.proofs.lemmas.calls.Runs.{StandsAsked, Tellings, begins, posts, step_asks}
use Rattle.gs_laws_chunks.specs.calls.Asked.{ArmsAlone}
use Rattle.gs_laws_chunks.specs.calls.One.{AreOneCall, IsCalledIn, RequestsAreOneCall}

-- ---- who doesn't call

abbrev NoCall : Body → Type 0
NoCall (bodies.Call req call) = ⊥
NoCall body = Unit {0}

abbrev NoCalls : List Message → Type 0
NoCalls messages = AllByRecursion (λ (m : Message). NoCall m.body) messages

kinds : EachKind (λ (m : Message). NoCall m.body)
kinds = record {
  reply = λ req result. tt;
  create = λ chunk stamp server. tt;
  advance = λ chunk stamp server. tt;
  grant = λ chunk given server. tt;
  renewed = λ chunk stamp end server. tt;
  copy_out = λ chunk stamp target with_sealed server. tt;
  drop = λ chunk epoch promise server. tt;
  make_copy = λ server old stamp new next. tt;
  epoch = λ server epoch end. tt;
}

of_nobody : (messages : List Message) → AllByRecursion (λ (m : Message). SaysOf (λ req. ⊥) m.from m.body) messages → NoCalls messages
of_nobody [] all = tt
of_nobody (m ∷ messages) all = (one m.body all.0, of_nobody messages all.1)
  where
    one : (body : Body) → SaysOf (λ req. ⊥) m.from body → NoCall body
    one (bodies.Call req call) said = said.1
    one body said = tt

unsure_none : (caller : Option ReqId) → NoCalls (unsure caller)
unsure_none None = tt
unsure_none (Some req) = (tt, tt)

refusal_none : (caller : Option ReqId) → NoCalls (refusal_of_call caller)
refusal_none None = tt
refusal_none (Some req) = (tt, tt)

module _ {D : Type 0} (seen : D → List ℕ) (failures : D → ℕ) where
  answers_none : (caller : Option ReqId) (t : Turn) (m after : MasterOf D) (turn : Told_turn) → NoCalls t.sent → MasterAnswers seen failures caller t m (Ok turn) after → NoCalls turn.sent.items
  answers_none caller t m after turn none (inl is) = subst NoCalls (sym is.done.sends) none
  answers_none caller t m after turn none (inr (place, is)) = subst NoCalls (sym is.cut.sends) (unsure_none caller)

  as_none : (b : Bool) (t steps : Turn) (m after : MasterOf D) (turn : Told_turn) → NoCalls t.sent → AnswersAs seen failures b t steps m turn after → NoCalls turn.sent.items
  as_none true t steps m after turn none (inl is) = subst NoCalls (sym is.done.sends) none
  as_none true t steps m after turn none (inr (place, is)) = subst NoCalls (sym is.cut.sends) tt
  as_none false t steps m after turn none (inl is) = subst NoCalls (sym is.done.sends) none
  as_none false t steps m after turn none (inr (place, is)) = subst NoCalls (sym is.cut.sends) tt

  hears_none : (message : Message) (moment : Moment) (place next : MasterPlace D) (turn : Told_turn) → MasterHears seen failures message moment place (Ok turn) next → NoCalls turn.sent.items
  hears_none message moment (Standing m) next turn (after, is, done) = answers_none (caller_of message.body) (handle m.config m.state message moment) m after turn (message_said (λ (n : Message). NoCall n.body) kinds m.config m.state message moment) done
  hears_none message moment (Closed first second) next turn meets = subst NoCalls (sym meets.1) (refusal_none (caller_of message.body))
  hears_none message moment Away next turn meets = subst NoCalls (sym meets.1) (refusal_none (caller_of message.body))

  tick_none : (moment : Moment) (m after : MasterOf D) (turn : Told_turn) → AnswersTick seen failures moment m (Ok turn) after → NoCalls turn.sent.items
  tick_none moment m after turn (inl whole) = as_none (writes_one m.state (pressed_all m.state moment)) (tick m.state moment) (pressed_all m.state moment) m after turn (tick_said (λ (n : Message). NoCall n.body) kinds m.state moment) whole
  tick_none moment m after turn (inr (sound, is_due, none, done)) = answers_none None (lacking (pressed_all m.state moment)) m after turn (steps_said (λ (n : Message). NoCall n.body) kinds m.state moment) done

  ticks_none : (moment : Moment) (place next : MasterPlace D) (turn : Told_turn) → MasterTicks seen failures moment place (Ok turn) next → NoCalls turn.sent.items
  ticks_none moment (Standing m) next turn (after, is, done) = tick_none moment m after turn done
  ticks_none moment (Closed first second) next turn meets = subst NoCalls (sym meets.1) tt
  ticks_none moment Away next turn meets = subst NoCalls (sym meets.1) tt

-- ---- who calls

module _ {D : Type 0} (old : History D) (happening : Happening) where
  -- a client asks this under a number that it hasn't had
  record NewCall (r : ReqId) (c : Call) : Type 0 where
    pub req : ReqId
    pub n : Node
    pub it : happening ≡ happenings.Ask req (requests.Call c)
    pub found : client_in old.nodes.clients req.client ≡ Some n
    pub is : r ≡ request_of n req.number
    pub fresh : nat_le req.number n.last ≡ false

  abbrev CallsNew : Body → Type 0
  CallsNew (bodies.Call req call) = NewCall req call
  CallsNew body = Unit {0}

  abbrev AllNew : List Message → Type 0
  AllNew messages = AllByRecursion (λ (m : Message). CallsNew m.body) messages

  none_new : (messages : List Message) → NoCalls messages → AllNew messages
  none_new [] all = tt
  none_new (m ∷ messages) all = (one m.body all.0, none_new messages all.1)
    where
      one : (body : Body) → NoCall body → CallsNew body
      one (bodies.Call req call) none = absurd none
      one body none = tt

  pushes_new : (req : ReqId) (members bytes : List ℕ) (more : List Message) → AllNew more → AllNew (pushes req members bytes ++ more)
  pushes_new req [] bytes more rest = rest
  pushes_new req (member ∷ members) bytes more rest = (tt, pushes_new req members bytes more rest)

  asked_new : (req : ReqId) (request : Request) (n : Node) → happening ≡ happenings.Ask req request → client_in old.nodes.clients req.client ≡ Some n → nat_le req.number n.last ≡ false → AllNew (messages_of (request_of n req.number) request)
  asked_new req (requests.Call call) n it found fresh = (record { req = req; n = n; it = it; found = found; is = refl; fresh = fresh }, tt)
  asked_new req (requests.Write handle members primary stamp op bytes) n it found fresh = pushes_new (request_of n req.number) (with_bytes members op) bytes _ (tt, tt)
  asked_new req (requests.Fetch to handle stamp epoch asked) n it found fresh = (tt, tt)

  part_new : (seen : D → List ℕ) (failures : D → ℕ) (armed : DiskId → ℕ → MasterPlace D → MasterPlace D) (moment : Moment) (outcome : Upshot) (new : Nodes D) → Part seen failures armed old moment happening outcome new → AllNew (sent_by outcome)
  part_new seen failures armed moment outcome new (Heard id message turn place is found to hears tells same) = subst AllNew (sym (ap sent_by tells)) (none_new turn.sent.items (hears_none seen failures message moment old.nodes.master place turn hears))
  part_new seen failures armed moment outcome new (Ticked turn place is ticks tells same) = subst AllNew (sym (ap sent_by tells)) (none_new turn.sent.items (ticks_none seen failures moment old.nodes.master place turn ticks))
  part_new seen failures armed moment outcome new (Opened turn place is opens tells same) =
      subst AllNew (sym (ap sent_by tells)) (none_new (sent_by (told turn)) (of_nobody (sent_by (told turn)) (reopens_said seen failures (λ req. ⊥) old.nodes.config old.nodes.master turn place opens)))
  part_new seen failures armed moment outcome new (Armed disk call is none same) = subst AllNew (sym none) tt
  part_new seen failures armed moment outcome new (Served by clients master) = none_new (sent_by outcome) (of_nobody (sent_by outcome) (servers_said (λ req. ⊥) (sent_by outcome) by))
  part_new seen failures armed moment outcome new (Asked req request n is there fresh sends same) = subst AllNew (sym sends) (asked_new req request n is there fresh)
  part_new seen failures armed moment outcome new (Told id message client n is found there none same) = subst AllNew (sym none) tt
  part_new seen failures armed moment outcome new (Rested none same) = subst AllNew (sym none) tt

  -- ---- what was called, and is called now

  call_is : {a b : ReqId} {x y : Call} → happenings.Ask a (requests.Call x) ≡ happenings.Ask b (requests.Call y) → x ≡ y
  call_is h = cc

  node_is : {a b : Node} → ◌≡◌ {A = Option Node} (Some a) (Some b) → a ≡ b
  node_is h = cc

  not_above : (number last : ℕ) → nat_le number last ≡ false → number ≤ last → ⊥
  not_above number last test below = absurd (grind (arith, nat_tests))

  module _ (seen : D → List ℕ) (asked : AreAsked seen old) where
    not_before : (r : ReqId) (c : Call) → NewCall r c → HasAsked old.nodes.clients r → ⊥
    not_before r c new has =
        let own = own_id old.nodes.clients asked.numbered new.req.client new.n new.found in
        let client : r.client ≡ new.req.client = ap (λ (q : ReqId). q.client) new.is ∙ own in
        let same : has.node ≡ new.n = node_is (sym has.there ∙ ap (client_in old.nodes.clients) client ∙ new.found) in
        not_above new.req.number new.n.last new.fresh (subst (λ k. k ≤ new.n.last) (ap (λ (q : ReqId). q.number) new.is) (subst (λ (n : Node). r.number ≤ n.last) same has.number))

    was_asked : (r : ReqId) (c : Call) → IsCalledIn old.sent r c → HasAsked old.nodes.clients r
    was_asked r c (message, there, is) = (subst (SaysOf (HasAsked old.nodes.clients) message.from) is (asked.sent there.0 message there.1)).1

    abbrev Now : ReqId → Call → Type 0
    Now r c = IsCalledIn old.sent r c ⊎ NewCall r c

    one_now : AreOneCall old.sent → (r : ReqId) (a b : Call) → Now r a → Now r b → a ≡ b
    one_now one r a b (inl x) (inl y) = one r a b x y
    one_now one r a b (inl x) (inr y) = absurd (not_before r b y (was_asked r a x))
    one_now one r a b (inr x) (inl y) = absurd (not_before r a x (was_asked r b y))
    one_now one r a b (inr x) (inr y) = call_is (sym x.it ∙ y.it)

    abbrev NowBy : Body → Type 0
    NowBy (bodies.Call req call) = Now req call
    NowBy body = Unit {0}

    new_now : (messages : List Message) → AllNew messages → AllByRecursion (λ (m : Message). NowBy m.body) messages
    new_now [] all = tt
    new_now (m ∷ messages) all = (one m.body all.0, new_now messages all.1)
      where
        one : (body : Body) → CallsNew body → NowBy body
        one (bodies.Call req call) new = inr new
        one body new = tt

    old_now : AllSent (λ (m : Message). NowBy m.body) old.sent
    old_now id message found = by_body message.body refl
      where
        by_body : (body : Body) → message.body ≡ body → NowBy body
        by_body (bodies.Call req call) is = inl (message, (id, found), is)
        by_body body is = tt

    one_then : (sent : Sent) → AllSent (λ (m : Message). NowBy m.body) sent → AreOneCall old.sent → AreOneCall sent
    one_then sent all one r a b x y = one_now one r a b (now a x) (now b y)
      where
        now : (c : Call) → IsCalledIn sent r c → Now r c
        now c (message, there, is) = subst NowBy is (all there.0 message there.1)

-- ---- a run

module _ {D : Type 0} (seen : D → List ℕ) (failures : D → ℕ) (armed : DiskId → ℕ → MasterPlace D → MasterPlace D) where
  step_one : (old new : History D) (step : Step) → Goes seen failures armed step old new → AreAsked seen old → AreOneCall old.sent → AreOneCall new.sent
  step_one old new (Comes event) (said, h) asked one =
      let calls = part_new old event.happening seen failures armed event.moment h.outcome new.nodes (part_of seen failures armed old event.moment event.happening h.by h.outcome new.nodes h.at) in
      one_then old event.happening seen asked new.sent
      (posted_all (λ (m : Message). NowBy old event.happening seen asked m.body) event.moment h.by (sent_by h.outcome) old.sent new.sent (posts seen failures armed event.moment h.by h.outcome old.sent said new.sent h.tells)
      (old_now old event.happening seen asked) (new_now old event.happening seen asked (sent_by h.outcome) calls)) one
  step_one old new (Takes client) (found, takes, same) asked one = subst AreOneCall (sym same) one

  -- whatever is told
  abbrev Anything : Tellings
  Anything req chunk view epoch = Unit {0}

  run_one : (arms : ArmsAlone seen failures armed) (steps : List Step) (old new : History D) → RunsTo seen failures armed steps old new → AllByRecursion IsStepWithin steps → StandsAsked seen failures armed Anything old → AreOneCall old.sent → AreOneCall new.sent
  run_one arms [] old new same within k one = subst (λ (h : History D). AreOneCall h.sent) (sym same) one
  run_one arms (step ∷ steps) old new (mid, goes, rest) within k one =
      run_one arms steps mid new rest within.1 (step_asks seen failures armed arms Anything old mid step goes within.0 (λ req chunk view epoch told. tt) k) (step_one old mid step goes k.asked one)

  pub requests_are_one : HaveSizes → RequestsAreOneCall seen failures armed
  requests_are_one sizes now r =
      run_one r.arms r.steps r.begun now r.runs r.within (begins seen failures armed sizes now r Anything)
      (λ req a b x y. absurd (begins_none seen failures armed sizes r.config (λ q. []) r.clients r.disks r.begun r.new r.begins (λ m. ⊥) x.1.0 x.0 x.1.1))
