-- Behind the commit of a prepare, or of a rollback, no chunk of a file has a primary.
use Rattle.std.proofs.Common.{◌≡◌, ◌∙◌, inl, ◌≤◌, ◌++◌, ℕ, suc, ◌<◌, true, false, List, [], ◌∷◌, Option, Some, Result, Ok, refl, sym, ap, subst, arith}
use Rattle.std.specs.List.{AllByRecursion}
use Rattle.std.proofs.lemmas.Bool.{false≢true}
use Rattle.gs_base.specs.declared.config.Config.{Config}
use Rattle.gs_base.specs.declared.numbers.ClientId.{ClientId}
use Rattle.gs_base.specs.declared.numbers.Moment.{Moment}
use Rattle.gs_base.specs.declared.numbers.ReqId.{ReqId}
use Rattle.gs_base.specs.declared.refusal.Refusal.{Refusal}
use Rattle.gs_client.specs.Nodes.{Node}
use Rattle.gs_msg.specs.declared.answer.Answer.{Answer}
use Rattle.gs_msg.specs.declared.body.Body.{Body}
use Rattle.gs_msg.specs.declared.body.Body.TheVariants as bodies
use Rattle.gs_msg.specs.declared.call.Call.{Call}
use Rattle.gs_msg.specs.declared.call.Call.TheVariants as calls
use Rattle.gs_msg.specs.declared.event.DiskId.{DiskId}
use Rattle.gs_msg.specs.declared.event.Event.{Event}
use Rattle.gs_msg.specs.declared.event.Happening.TheVariants as happenings
use Rattle.gs_msg.specs.declared.message.Message.{Message}
use Rattle.gs_msg.specs.declared.message.MsgId.{MsgId}
use Rattle.gs_msg.specs.declared.node.NodeId.{NodeId}
use Rattle.gs_msg.specs.declared.node.NodeId.TheVariants as nodes
use Rattle.gs_master_spec.specs.Applied.{replayed}
use Rattle.gs_master_spec.specs.Durable.{Durable}
use Rattle.gs_master_spec.specs.Handling.{call_turn, handle, new_call}
use Rattle.gs_master_spec.specs.State.{Failed, Fault, Sound, State, Turn, Unopened, is_failed, is_unopened}
use Rattle.gs_master_spec.specs.Volatile.{is_pending}
use Rattle.gs_master_spec.specs.declared.pending.Pending.{Pending}
use Rattle.gs_laws_master.proofs.lemmas.standing.StandingRuns.{events_fit}
use Rattle.gs_laws_master.specs.Standing.{Comes as Comes_to, IsFirm, IsNamedCall}
use Rattle.gs_laws_moves.specs.answers.AtOnce.{OneSays}
use Rattle.gs_laws_moves.specs.answers.Resting.{Commits, HasHad, WasBegun}
use Rattle.gs_laws_moves.proofs.lemmas.answers.Resting.{commits_had}
use Rattle.gs_laws_moves.specs.looks.Unled.{AreUnled, IsUnled, NoneWaits}
use Rattle.gs_laws_moves.proofs.lemmas.looks.Commits.{prepares_leave, rollbacks_leave}
use Rattle.gs_nodes.specs.Happenings.{client_in}
use Rattle.gs_nodes.specs.declared.place.MasterPlace.{MasterPlace}
use Rattle.gs_nodes.specs.declared.place.MasterPlace.TheVariants.{Standing}
use Rattle.gs_world.specs.Histories.{Happens, History}
use Rattle.gs_world.specs.Runs.{Comes, RunsTo, StaySent, Step}
use Rattle.gs_world.proofs.Sending.{run_stays}
use Rattle.gs_laws_chunks.specs.answers.Answered.{AnswersNow, GoesBy, Passes, WasAnswered, spares_master}
use Rattle.gs_laws_chunks.specs.answers.Asked.{AreAsked, HasAsked, SaysOf}
use Rattle.gs_laws_chunks.specs.answers.Behind.{HasAnswer, IsOnly, asks_call, is_halt}
use Rattle.gs_laws_chunks.specs.answers.Resting.{IsLooking, IsOldOrLooks, IsStill, StandsStillAt}
use Rattle.gs_laws_chunks.proofs.lemmas.answers.Answered.{answers_are_made}
use Rattle.gs_laws_chunks.proofs.lemmas.answers.Behind.{MadeThere, all_back, all_front, all_one_more, all_spare, halt_at_once, halt_commits, made_there, run_more, turn_is}
use Rattle.gs_laws_chunks.proofs.lemmas.answers.Resting.{stays_still}
use Rattle.gs_laws_chunks.proofs.lemmas.answers.Sparing.{AllSpare, asked_spared, lasts_spared}
use Rattle.gs_laws_world.proofs.lemmas.steady.Keeping.{run_keeps}
use Rattle.gs_laws_world.proofs.lemmas.steady.Through.{sound_tells, tells_once}
use Rattle.gs_laws_world.specs.steady.Saying.{IsStepWithin, KeepsTypes}
use Rattle.gs_laws_world.specs.steady.Through.{LastsThrough, TellsAt}
use Rattle.gs_laws_looks.specs.halts.Unled.{CommitsHalt, CommitsLeaveUnled, HaltsBy, HasNames, IsUnledAt, StaysQuiet}
use Rattle.gs_laws_looks.proofs.lemmas.halts.Named.{firm_at}
use Rattle.gs_laws_looks.proofs.lemmas.halts.Unled.{run_named, run_quiet}

-- ---- a master that is firm

opened : (f : Fault) → is_failed f ≡ false → is_unopened f ≡ false
opened Sound is = refl
opened (Failed doubt) is = refl
opened (Unopened doubt) is = absurd (false≢true (sym is))

halt_named : (call : Call) → is_halt call ≡ true → IsNamedCall call
halt_named calls.PrepareCommit is = tt
halt_named calls.RollbackCommit is = tt
halt_named call is = absurd (false≢true is)

-- ---- a delivery spares the master

delivery_spares : (event : Event) (id : MsgId) → event.happening ≡ happenings.Deliver id → spares_master (Comes event) ≡ true
delivery_spares event id comes = ap (λ h. spares_master (Comes (record { moment = event.moment; happening = h }))) comes

-- ---- no call waits where a prepare or a rollback was begun

nobody_waits : (s : State) (call : Call) → is_halt call ≡ true → IsFirm s → WasBegun s call → s.volatile.pending ≡ []
nobody_waits s calls.PrepareCommit is firm begun = (firm.stands.preparing begun).1
nobody_waits s calls.RollbackCommit is firm begun = firm.rolling begun
nobody_waits s call is firm begun = absurd (false≢true is)

none_in : (ps : List Pending) → ps ≡ [] → (req : ReqId) → is_pending ps req ≡ true → ⊥
none_in ps is req there = false≢true (subst (λ (xs : List Pending). is_pending xs req ≡ true) is there)

-- behind either no chunk of a file has a primary
unled_by : (config : Config) (s : State) (req : ReqId) (moment : Moment) (call : Call) (answer : Answer) → is_halt call ≡ true → NoneWaits s → OneSays req (Ok answer) (new_call config s req moment call).sent
    → replayed s.durable (new_call config s req moment call).records ≡ Some (new_call config s req moment call).after.durable → IsUnled (new_call config s req moment call).after
unled_by config s req moment calls.PrepareCommit answer is none says fits = prepares_leave config s req moment answer none says
unled_by config s req moment calls.RollbackCommit answer is none says fits = rollbacks_leave config s req moment answer none says fits
unled_by config s req moment call answer is none says fits = absurd (false≢true is)

module _ {D : Type 0} (seen : D → List ℕ) (failures : D → ℕ) (armed : DiskId → ℕ → MasterPlace D → MasterPlace D) where
  -- ---- the event

  module _ (now next : History D) (event : Event) (said : Result (Unit {0}) Refusal) (h : Happens seen failures armed event now said next) (req : ReqId) (call : Call) (answer : Answer) (halt : is_halt call ≡ true) (within : IsStepWithin (Comes event)) (keeps : KeepsTypes now)
      (lasts : LastsThrough seen now.nodes.master) (a : AnswersNow now event h.outcome req call answer) where
    abbrev s : State
    s = a.master.state

    abbrev t : Turn
    t = new_call a.master.config a.master.state req event.moment call

    abbrev pub there : MadeThere seen failures armed now event.moment a.master req call answer next.nodes
    there = made_there seen failures armed now event said next h req call answer a

    pub commits : Commits s req call t
    commits = commits_had a.master.config s req event.moment call answer (halt_commits call halt) a.new there.says

    firm : IsFirm s
    firm = firm_at seen a.master (subst (LastsThrough seen) a.stands lasts) commits.sound

    none : NoneWaits s
    none = none_in s.volatile.pending (nobody_waits s call halt firm commits.begun)

    abbrev its_message : Message
    its_message = record { from = nodes.Client req.client; to = nodes.Master; body = bodies.Call req call }

    handles : (config : Config) (u : State) (moment : Moment) → handle config u its_message moment ≡ call_turn config u req moment call
    unfolding handle
    handles config u moment = refl

    pub fits : replayed s.durable t.records ≡ Some t.after.durable
    fits = subst (λ (u : Turn). replayed s.durable u.records ≡ Some u.after.durable)
        (handles a.master.config s event.moment ∙ turn_is a.master.config s req event.moment call (opened s.fault commits.sound) a.apart a.new)
        (events_fit a.master.config s (Comes_to its_message event.moment) (halt_named call halt, within.0) firm).fits

    unled : IsUnled there.after.state
    unled = subst IsUnled (sym there.is) (unled_by a.master.config s req event.moment call answer halt none there.says fits)

    pub none_behind : NoneWaits there.after.state
    none_behind = unled.none

    pub sound_behind : is_failed there.after.state.fault ≡ false
    sound_behind = ap (λ (u : State). is_failed u.fault) there.is ∙ ap is_failed commits.fault ∙ commits.sound

    lasts_next : LastsThrough seen next.nodes.master
    lasts_next = lasts_spared seen failures armed (Comes event ∷ []) now next (next, (said, h), refl) (delivery_spares event a.id a.comes, tt) (within, tt) keeps lasts

    pub quiet_behind : StaysQuiet seen next
    quiet_behind = record { master = subst IsUnledAt (sym there.stands) unled; told = told }
      where
        told : (e : Durable) → TellsAt seen next.nodes.master e → AreUnled e
        told e tells =
            subst AreUnled (tells_once seen failures (Standing there.after) there.after.state.durable e (sound_tells seen failures there.after sound_behind (subst (LastsThrough seen) there.stands lasts_next)) (subst (λ p. TellsAt seen p e) there.stands tells)) unled.views

  -- ---- a client that has the answer

  module _ (client : ClientId) (old mid : History D) (call : Call) (answer : Answer) (are : AreAsked seen old) (keeps : KeepsTypes old) (lasts : LastsThrough seen old.nodes.master) (halt : is_halt call ≡ true) (c : HasAnswer seen failures armed client old call answer mid)
      (only : IsOnly client mid) where
    was : (made : WasAnswered seen failures armed c.steps c.asked mid c.req call answer) × GoesBy seen failures armed (λ h. Passes seen failures armed h c.steps c.asked mid c.runs) c.steps c.asked mid c.req call answer made
    was = answers_are_made seen failures armed old c.asked mid c.moment c.req call c.steps c.node answer are c.asks (halt_at_once call halt) c.runs (all_spare client c.steps c.looking) (subst (λ k. client_in mid.nodes.clients k ≡ Some c.node) (sym c.own) c.there) c.last c.reply

    made : WasAnswered seen failures armed c.steps c.asked mid c.req call answer
    made = was.0

    goes_by : GoesBy seen failures armed (λ h. Passes seen failures armed h c.steps c.asked mid c.runs) c.steps c.asked mid c.req call answer made
    unfolding made
    goes_by = was.1

    abbrev ask : Step
    ask = asks_call c.moment c.req call

    parts_within : AllByRecursion IsStepWithin (made.before ++ Comes made.event ∷ made.after)
    parts_within = subst (AllByRecursion IsStepWithin) made.parts c.within.1

    here_within : AllByRecursion IsStepWithin (Comes made.event ∷ made.after)
    here_within = all_back IsStepWithin made.before (Comes made.event ∷ made.after) parts_within

    parts_look : AllByRecursion (IsLooking client) (made.before ++ Comes made.event ∷ made.after)
    parts_look = subst (AllByRecursion (IsLooking client)) made.parts c.looking

    here_look : AllByRecursion (IsLooking client) (Comes made.event ∷ made.after)
    here_look = all_back (IsLooking client) made.before (Comes made.event ∷ made.after) parts_look

    to_now : RunsTo seen failures armed (ask ∷ made.before) old made.now
    to_now = (c.asked, (Ok tt, c.asks.happens), made.first)

    within_now : AllByRecursion IsStepWithin (ask ∷ made.before)
    within_now = (c.within.0, all_front IsStepWithin made.before (Comes made.event ∷ made.after) parts_within)

    ask_spares : AllSpare (ask ∷ c.steps)
    ask_spares = (refl, all_spare client c.steps c.looking)

    before_spare : AllSpare (ask ∷ made.before)
    before_spare = (refl, all_spare client made.before (all_front (IsLooking client) made.before (Comes made.event ∷ made.after) parts_look))

    types_now : KeepsTypes made.now
    types_now = run_keeps seen failures armed (ask ∷ made.before) old made.now to_now within_now keeps

    lasts_now : LastsThrough seen made.now.nodes.master
    lasts_now = lasts_spared seen failures armed (ask ∷ made.before) old made.now to_now before_spare within_now keeps lasts

    to_next : RunsTo seen failures armed ((ask ∷ made.before) ++ Comes made.event ∷ []) old made.next
    to_next = run_more seen failures armed (ask ∷ made.before) (Comes made.event) old made.now made.next to_now (made.said, made.happens)

    within_next : AllByRecursion IsStepWithin ((ask ∷ made.before) ++ Comes made.event ∷ [])
    within_next = (c.within.0, all_one_more IsStepWithin made.before (Comes made.event) within_now.1 here_within.0)

    next_spare : AllSpare ((ask ∷ made.before) ++ Comes made.event ∷ [])
    next_spare = (refl, all_one_more (λ step. spares_master step ≡ true) made.before (Comes made.event) before_spare.1 here_look.0.0)

    are_next : AreAsked seen made.next
    are_next = asked_spared seen failures armed ((ask ∷ made.before) ++ Comes made.event ∷ []) old made.next to_next next_spare within_next keeps lasts are

    to_mid : RunsTo seen failures armed (ask ∷ c.steps) old mid
    to_mid = (c.asked, (Ok tt, c.asks.happens), c.runs)

    are_mid : AreAsked seen mid
    are_mid = asked_spared seen failures armed (ask ∷ c.steps) old mid to_mid ask_spares c.within keeps lasts are

    abbrev its_there : MadeThere seen failures armed made.now made.event.moment made.answers.master c.req call answer made.next.nodes
    its_there = there made.now made.next made.event made.said made.happens c.req call answer halt here_within.0 types_now lasts_now made.answers

    its_commits : Commits made.answers.master.state c.req call (new_call made.answers.master.config made.answers.master.state c.req made.event.moment call)
    its_commits = commits made.now made.next made.event made.said made.happens c.req call answer halt here_within.0 types_now lasts_now made.answers

    -- what was called before has a number that the client has had
    node_is : {a b : Node} → ◌≡◌ {A = Option Node} (Some a) (Some b) → a ≡ b
    node_is is = cc

    old_calls : (from : NodeId) (body : Body) → SaysOf (HasAsked mid.nodes.clients) from body → IsOldOrLooks client (suc c.req.number) body
    old_calls from (bodies.Call req other) of = (only req.client of.1.node of.1.there, inl (low req of.1))
      where
        low : (req : ReqId) → HasAsked mid.nodes.clients req → req.number < suc c.req.number
        low req has = up_to req.number has.node.last c.req.number has.number (ap (λ (n : Node). n.last) (node_is (sym (subst (λ k. client_in mid.nodes.clients k ≡ Some has.node) (only req.client has.node has.there) has.there) ∙ c.there)) ∙ c.last)
          where
            up_to : (a b k : ℕ) → a ≤ b → b ≡ k → a < suc k
            up_to a b k first is = omega arith
    old_calls from body of = tt

    sent_stays : StaySent made.next.sent mid.sent
    sent_stays = run_stays seen failures armed made.after made.next mid made.rest

    abbrev d : Durable
    d = its_there.after.state.durable

    still_next : IsStill d client (suc c.req.number) made.next
    still_next = record {
      sent = λ id message was. old_calls message.from message.body (are_mid.sent id message (sent_stays id message was));
      master = subst (StandsStillAt d client (suc c.req.number)) (sym its_there.stands) (record {
        names = refl;
        hidden = refl;
        phase = refl;
        epoch = refl;
        none = none_behind made.now made.next made.event made.said made.happens c.req call answer halt here_within.0 types_now lasts_now made.answers;
        had = subst (λ k. HasHad its_there.after.state k c.req.number) c.own (subst (λ (u : State). HasHad u c.req.client c.req.number) (sym its_there.is) its_commits.had);
      });
      numbered = are_next.numbered;
    }

    quiet_next : StaysQuiet seen made.next
    quiet_next = quiet_behind made.now made.next made.event made.said made.happens c.req call answer halt here_within.0 types_now lasts_now made.answers

    types_next : KeepsTypes made.next
    types_next = run_keeps seen failures armed ((ask ∷ made.before) ++ Comes made.event ∷ []) old made.next to_next within_next keeps

    lasts_at_next : LastsThrough seen made.next.nodes.master
    lasts_at_next = lasts_spared seen failures armed ((ask ∷ made.before) ++ Comes made.event ∷ []) old made.next to_next next_spare within_next keeps lasts

    named_next : (e : Durable) → TellsAt seen made.next.nodes.master e → HasNames d e
    named_next e tells =
        let sound = sound_behind made.now made.next made.event made.said made.happens c.req call answer halt here_within.0 types_now lasts_now made.answers in
        subst (HasNames d) (tells_once seen failures (Standing its_there.after) d e (sound_tells seen failures its_there.after sound (subst (LastsThrough seen) its_there.stands lasts_at_next)) (subst (λ p. TellsAt seen p e) its_there.stands tells)) (record { names = refl; epoch = refl })

    pub halts : HaltsBy seen failures armed client old call answer mid c
    halts = record {
      made = made;
      on_the_way = goes_by;
      durable = d;
      stands = record { master = its_there.after; stands = its_there.stands; sound = sound_behind made.now made.next made.event made.said made.happens c.req call answer halt here_within.0 types_now lasts_now made.answers; keeps = refl };
      begun = record { still = still_next; quiet = quiet_next; named = named_next; asked = are_next; types = types_next; lasts = lasts_at_next };
      halted = record {
        still = stays_still seen failures armed d client (suc c.req.number) made.after made.next mid made.rest here_look.1 still_next;
        quiet = run_quiet seen failures d client (suc c.req.number) armed made.after made.next mid made.rest here_within.1 here_look.1 types_next lasts_at_next still_next quiet_next;
        named = run_named seen failures d client (suc c.req.number) armed made.after made.next mid made.rest here_within.1 here_look.1 types_next lasts_at_next still_next named_next;
        asked = are_mid;
        types = run_keeps seen failures armed (ask ∷ c.steps) old mid to_mid c.within keeps;
        lasts = lasts_spared seen failures armed (ask ∷ c.steps) old mid to_mid ask_spares c.within keeps lasts;
      };
    }

pub commits_unled : {D : Type 0} (seen : D → List ℕ) (failures : D → ℕ) (armed : DiskId → ℕ → MasterPlace D → MasterPlace D) → CommitsLeaveUnled seen failures armed
commits_unled seen failures armed now next event said h req call answer halt within keeps lasts a = quiet_behind seen failures armed now next event said h req call answer halt within keeps lasts a

pub commits_halt : {D : Type 0} (seen : D → List ℕ) (failures : D → ℕ) (armed : DiskId → ℕ → MasterPlace D → MasterPlace D) → CommitsHalt seen failures armed
commits_halt seen failures armed client old mid call answer are keeps lasts halt c only = halts seen failures armed client old mid call answer are keeps lasts halt c only
