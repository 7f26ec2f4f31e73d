-- What a client lists behind a commit that was answered to it.
use Rattle.std.proofs.Common.{if◌then◌else◌, ◌≡◌, ◌∙◌, ◌⊎◌, inl, inr, ◌≤◌, ◌++◌, ℕ, ◌<◌, zero, suc, Bool, true, false, List, [], ◌∷◌, Option, Some, Result, Ok, Err, refl, sym, ap, subst, arith}
use Rattle.std.specs.Prelude.{Contains, MatchBool}
use Rattle.std.specs.FinMap as fin
use Rattle.std.specs.List.{AllByRecursion}
use Rattle.std.proofs.lemmas.Bool.{false≢true}
use Rattle.gs_base.specs.declared.config.Config.{Config}
use Rattle.gs_base.specs.declared.numbers.ClientId.{ClientId}
use Rattle.gs_base.specs.declared.numbers.Moment.{Moment}
use Rattle.gs_base.specs.declared.numbers.ReqId.{ReqId}
use Rattle.gs_base.specs.declared.refusal.Refusal.{Refusal}
use Rattle.gs_base.specs.declared.refusal.Refusal.TheVariants as refusals
use Rattle.gs_client.specs.Nodes.{Node}
use Rattle.gs_master.specs.Journaled.{text_seen}
use Rattle.gs_master.specs.Masters.{MasterAnswers, MasterOf}
use Rattle.gs_master.specs.declared.turn.Turn.{Turn as Told_turn}
use Rattle.gs_msg.specs.declared.answer.Answer.{Answer}
use Rattle.gs_msg.specs.declared.body.Body.{Body}
use Rattle.gs_msg.specs.declared.body.Body.TheVariants as bodies
use Rattle.gs_msg.specs.declared.call.Call.{Call}
use Rattle.gs_msg.specs.declared.call.Call.TheVariants as calls
use Rattle.gs_msg.specs.declared.event.DiskId.{DiskId}
use Rattle.gs_msg.specs.declared.event.Event.{Event}
use Rattle.gs_msg.specs.declared.event.Happening.TheVariants as happenings
use Rattle.gs_msg.specs.declared.message.Message.{Message}
use Rattle.gs_msg.specs.declared.message.MsgId.{MsgId}
use Rattle.gs_msg.specs.declared.node.NodeId.{NodeId}
use Rattle.gs_msg.specs.declared.node.NodeId.TheVariants as nodes
use Rattle.gs_msg.specs.declared.node.StoreNode.TheVariants as keepers
use Rattle.gs_master_spec.specs.Durable.{Durable}
use Rattle.gs_master_spec.specs.Handling.{New, call_turn, from_node, handle, new_call, numbered, replied_again, taken_as, waits_still}
use Rattle.gs_master_spec.specs.Outcomes.{caller_of}
use Rattle.gs_master_spec.specs.State.{State, Turn, is_failed, is_unopened, last_reply, reply_to}
use Rattle.gs_master_spec.specs.Volatile.{is_pending}
use Rattle.gs_laws_moves.specs.answers.AtOnce.{OneSays}
use Rattle.gs_nodes.specs.Happenings.{MasterHears, client_in}
use Rattle.gs_nodes.specs.Nodes.{Nodes}
use Rattle.gs_nodes.specs.declared.place.MasterPlace.{MasterPlace}
use Rattle.gs_nodes.specs.declared.place.MasterPlace.TheVariants.{Standing}
use Rattle.gs_laws_parts.proofs.lemmas.server.Elsewhere.{ByServer}
use Rattle.gs_laws_parts.specs.server.Answering.{IsByServer}
use Rattle.gs_world.specs.Histories.{Happens, History, Upshot}
use Rattle.gs_world.specs.Sent.{message_of}
use Rattle.gs_edit.specs.View.{NamesView}
use Rattle.gs_laws_master.specs.Standing.{IsFirm}
use Rattle.gs_laws_moves.specs.answers.AtOnce.{is_answered_at_once}
use Rattle.gs_laws_moves.proofs.lemmas.answers.AtOnce.{at_once}
use Rattle.gs_laws_moves.specs.answers.Resting.{Commits, HasHad, WasBegun, is_commit}
use Rattle.gs_laws_moves.proofs.lemmas.answers.Resting.{commits_had, lists_answered}
use Rattle.gs_master_spec.specs.Calls.{listing}
use Rattle.gs_path.specs.Path.{Path}
use Rattle.gs_world.proofs.Sending.{run_stays}
use Rattle.gs_world.specs.Runs.{Comes, Goes, RunsTo, StaySent, Step}
use Rattle.gs_laws_chunks.specs.answers.Answered.{WasAnswered, spares_master}
use Rattle.gs_laws_chunks.specs.answers.Asked.{AreAsked, HasAsked, SaysOf}
use Rattle.gs_laws_chunks.specs.answers.Behind.{HasAnswer, IsOnly, ListsAreByCommits, ListsByCommit, asks_call, is_halt}
use Rattle.gs_laws_chunks.specs.answers.Resting.{IsLooking, IsOldOrLooks, IsStill, StandsStill, StandsStillAt}
use Rattle.gs_laws_chunks.proofs.lemmas.answers.Answered.{answers_are_made}
use Rattle.gs_laws_chunks.proofs.lemmas.answers.Resting.{stays_still}
use Rattle.gs_laws_chunks.proofs.lemmas.answers.Sparing.{AllSpare, asked_spared, lasts_spared}
use Rattle.gs_laws_world.proofs.lemmas.steady.Keeping.{run_keeps}
use Rattle.gs_laws_world.specs.steady.Saying.{IsStepWithin, KeepsTypes}
use Rattle.gs_laws_world.specs.steady.Steady.{StandsSteady, TellsSteady}
use Rattle.gs_laws_world.specs.steady.Through.{LastsThrough}
use Rattle.gs_laws_chunks.specs.answers.Answered.{AnswersNow, SaysNow, sent_by}
use Rattle.gs_laws_chunks.proofs.lemmas.answers.Parts.{Armed, Asked, Heard, Opened, Part, Rested, Served, Ticked, Told, part_of}

-- ---- lists

one_is : (x m : Message) → Contains (x ∷ []) m → m ≡ x
one_is x m (zero, within, is) = cc
one_is x m (suc k, within, is) = absurd (omega arith)

none_there : {Z : Type 0} (m : Message) → Contains [] m → Z
none_there m (k, within, is) = absurd (omega arith)

says_one : (req : ReqId) (result : Result Answer Refusal) (messages : List Message) (m : Message) → Contains messages m → m.body ≡ bodies.Reply req result → OneSays req result messages
says_one req result [] m there says = none_there m there
says_one req result (x ∷ messages) m (zero, within, is) says = inl (ap (λ (n : Message). n.body) is ∙ says)
says_one req result (x ∷ messages) m (suc k, within, is) says = inr (says_one req result messages m (k, (omega arith), is) says)

by_one : (messages : List Message) (m : Message) → ByServer messages → Contains messages m → IsByServer m.body
by_one [] m by there = none_there m there
by_one (x ∷ messages) m by (zero, within, is) = subst (λ (n : Message). IsByServer n.body) is by.0
by_one (x ∷ messages) m by (suc k, within, is) = by_one messages m by.1 (k, (omega arith), is)

-- the one reply is told
refused_is : (req : ReqId) (e : Refusal) (result : Result Answer Refusal) (messages : List Message) (m : Message) → messages ≡ reply_to req (Err e) ∷ [] → Contains messages m → m.body ≡ bodies.Reply req result → result ≡ Err e
refused_is req e result messages m are there says = is (sym (ap (λ (n : Message). n.body) (one_is (reply_to req (Err e)) m (subst (λ (ms : List Message). Contains ms m) are there))) ∙ says)
  where
    is : bodies.Reply req (Err e) ≡ bodies.Reply req result → result ≡ Err e
    is same = cc

-- ---- a call that is new, and answered

module _ (config : Config) (s : State) (req : ReqId) (moment : Moment) (call : Call) where
  pub turn_is : is_unopened s.fault ≡ false → is_pending s.volatile.pending req ≡ false → numbered (last_reply s req.client) req.number ≡ New → call_turn config s req moment call ≡ new_call config s req moment call
  turn_is opened apart new =
      ap (λ (b : Bool). if b then replied_again s req (Err refusals.Device) else if is_pending s.volatile.pending req then waits_still s req else taken_as config s req moment call (numbered (last_reply s req.client) req.number)) opened
      ∙ (ap (λ (b : Bool). if b then waits_still s req else taken_as config s req moment call (numbered (last_reply s req.client) req.number)) apart
      ∙ ap (taken_as config s req moment call) new)

  is_opened : (result : Result Answer Refusal) (m : Message) → Contains (call_turn config s req moment call).sent m → m.body ≡ bodies.Reply req result → (is_unopened s.fault ≡ false) ⊎ (result ≡ Err refusals.Device)
  is_opened result m there says = by_test (is_unopened s.fault) refl there
    where
      by_test : (b : Bool) → is_unopened s.fault ≡ b
          → Contains (if b then replied_again s req (Err refusals.Device) else if is_pending s.volatile.pending req then waits_still s req else taken_as config s req moment call (numbered (last_reply s req.client) req.number)).sent m → (is_unopened s.fault ≡ false) ⊎ (result ≡ Err refusals.Device)
      by_test true is there = inr (refused_is req refusals.Device result (reply_to req (Err refusals.Device) ∷ []) m refl there says)
      by_test false is there = inl is

-- ---- the event

module _ {D : Type 0} (seen : D → List ℕ) (failures : D → ℕ) (armed : DiskId → ℕ → MasterPlace D → MasterPlace D) where
  -- the master has made the turn of this call
  pub record SaidThere (now : History D) (moment : Moment) (m : MasterOf D) (req : ReqId) (call : Call) (result : Result Answer Refusal) (new : Nodes D) : Type 0 where
    pub after : MasterOf D
    pub stands : new.master ≡ Standing after
    pub is : after.state ≡ (new_call m.config m.state req moment call).after
    pub says : OneSays req result (new_call m.config m.state req moment call).sent

  abbrev pub MadeThere : History D → Moment → MasterOf D → ReqId → Call → Answer → Nodes D → Type 0
  MadeThere now moment m req call answer new = SaidThere now moment m req call (Ok answer) new

  -- Or a disk fails at the record of that turn, or had failed when the journal was to be opened.
  abbrev pub SaidOrFailed : History D → Moment → MasterOf D → ReqId → Call → Result Answer Refusal → Nodes D → Type 0
  SaidOrFailed now moment m req call result new = (result ≡ Err refusals.Unsure) ⊎ ((result ≡ Err refusals.Device) ⊎ SaidThere now moment m req call result new)

  module _ (now : History D) (event : Event) (outcome : Upshot) (req : ReqId) (call : Call) (result : Result Answer Refusal) (a : SaysNow now event outcome req call result) (new : Nodes D) where
    m : MasterOf D
    m = a.master

    abbrev Made : Type 0
    Made = SaidOrFailed now event.moment a.master req call result new

    there_by : (answers_turn : Turn) (after : MasterOf D) (turn : Told_turn) → answers_turn ≡ call_turn a.master.config a.master.state req event.moment call → new.master ≡ Standing after → Contains turn.sent.items a.reply
        → MasterAnswers seen failures (Some req) answers_turn a.master (Ok turn) after → Made
    there_by t after turn same stands there (inl is) =
        let sent : Contains (call_turn a.master.config a.master.state req event.moment call).sent a.reply = subst (λ (u : Turn). Contains u.sent a.reply) same (subst (λ (ms : List Message). Contains ms a.reply) is.done.sends there) in
        by_opened sent (is_opened a.master.config a.master.state req event.moment call result a.reply sent a.says)
      where
        by_opened : Contains (call_turn a.master.config a.master.state req event.moment call).sent a.reply → (is_unopened a.master.state.fault ≡ false) ⊎ (result ≡ Err refusals.Device) → Made
        by_opened sent (inr failed) = inr (inl failed)
        by_opened sent (inl opened) = (let made = turn_is a.master.config a.master.state req event.moment call opened a.apart a.new in inr (inr (record {
          after = after;
          stands = stands;
          is = is.done.after ∙ ap (λ (u : Turn). u.after) (same ∙ made);
          says = subst (λ (u : Turn). OneSays req result u.sent) made (says_one req result (call_turn a.master.config a.master.state req event.moment call).sent a.reply sent a.says);
        })))
    there_by t after turn same stands there (inr (place, is)) = inl (refused_is req refusals.Unsure result turn.sent.items a.reply is.cut.sends there a.says)

    is_call_turn : (config : Config) (s : State) (message : Message) → message.body ≡ bodies.Call req call → message.from ≡ nodes.Client req.client → handle config s message event.moment ≡ call_turn config s req event.moment call
    unfolding handle
    is_call_turn config s message asks from = ap (λ (b : Body). from_node config s event.moment b message.from) asks ∙ ap (λ (n : NodeId). from_node config s event.moment (bodies.Call req call) n) from

    by_place : (message : Message) (place : MasterPlace D) (turn : Told_turn) → message ≡ a.message → new.master ≡ place → Contains turn.sent.items a.reply → MasterHears seen failures message event.moment (Standing a.master) (Ok turn) place → Made
    by_place message place turn same put there (after, is, answers) =
        let asks : message.body ≡ bodies.Call req call = ap (λ (x : Message). x.body) same ∙ a.asks in
        let from : message.from ≡ nodes.Client req.client = ap (λ (x : Message). x.from) same ∙ a.from in
        there_by (handle a.master.config a.master.state message event.moment) after turn (is_call_turn a.master.config a.master.state message asks from) (put ∙ is) there
        (subst (λ (b : Body). MasterAnswers seen failures (caller_of b) (handle a.master.config a.master.state message event.moment) a.master (Ok turn) after) asks answers)

    message_is : {x y : Message} → ◌≡◌ {A = Option Message} (Some x) (Some y) → x ≡ y
    message_is is = cc

    id_is : {x y : MsgId} → happenings.Deliver x ≡ happenings.Deliver y → x ≡ y
    id_is is = cc

    pub by_part : Part seen failures armed now event.moment event.happening outcome new → Made
    by_part (Heard id message turn place it was to hears is same) =
        let which : id ≡ a.id = id_is (sym it ∙ a.comes) in
        by_place message place turn (message_is (sym was ∙ ap (message_of now.sent) which ∙ a.was)) (ap (λ (n : Nodes D). n.master) same) (subst (λ o. Contains (sent_by o) a.reply) is a.sent)
        (subst (λ p. MasterHears seen failures message event.moment p (Ok turn) place) a.stands hears)
    by_part (Ticked turn place it ticks is same) = absurd (never (sym it ∙ a.comes))
      where
        never : happenings.Tick keepers.Master ≡ happenings.Deliver a.id → ⊥
        never is = cc
    by_part (Opened turn place it opens is same) = absurd (never (sym it ∙ a.comes))
      where
        never : happenings.Restart keepers.Master ≡ happenings.Deliver a.id → ⊥
        never is = cc
    by_part (Armed disk number it none same) = none_there a.reply (subst (λ (ms : List Message). Contains ms a.reply) none a.sent)
    by_part (Served by clients master) = absurd (subst IsByServer a.says (by_one (sent_by outcome) a.reply by a.sent))
    by_part (Asked other request n it found low sends same) = absurd (never (sym it ∙ a.comes))
      where
        never : happenings.Ask other request ≡ happenings.Deliver a.id → ⊥
        never is = cc
    by_part (Told id message client n it was found none same) = none_there a.reply (subst (λ (ms : List Message). Contains ms a.reply) none a.sent)
    by_part (Rested none same) = none_there a.reply (subst (λ (ms : List Message). Contains ms a.reply) none a.sent)

  pub said_there : (now : History D) (event : Event) (said : Result (Unit {0}) Refusal) (next : History D) (h : Happens seen failures armed event now said next) (req : ReqId) (call : Call) (result : Result Answer Refusal) (a : SaysNow now event h.outcome req call result)
      → SaidOrFailed now event.moment a.master req call result next.nodes
  said_there now event said next h req call result a = by_part now event h.outcome req call result a next.nodes (part_of seen failures armed now event.moment event.happening h.by h.outcome next.nodes h.at)

  pub made_there : (now : History D) (event : Event) (said : Result (Unit {0}) Refusal) (next : History D) (h : Happens seen failures armed event now said next) (req : ReqId) (call : Call) (answer : Answer) (a : AnswersNow now event h.outcome req call answer)
      → MadeThere now event.moment a.master req call answer next.nodes
  made_there now event said next h req call answer a = by_said (said_there now event said next h req call (Ok answer) a)
    where
      never : (e : Refusal) → ◌≡◌ {A = Result Answer Refusal} (Ok answer) (Err e) → ⊥
      never e is = cc

      by_said : SaidOrFailed now event.moment a.master req call (Ok answer) next.nodes → MadeThere now event.moment a.master req call answer next.nodes
      by_said (inl unsure) = absurd (never refusals.Unsure unsure)
      by_said (inr (inl failed)) = absurd (never refusals.Device failed)
      by_said (inr (inr made)) = made

-- ---- runs

pub run_more : {D : Type 0} (seen : D → List ℕ) (failures : D → ℕ) (armed : DiskId → ℕ → MasterPlace D → MasterPlace D) (steps : List Step) (step : Step) (old mid new : History D) → RunsTo seen failures armed steps old mid → Goes seen failures armed step mid new
    → RunsTo seen failures armed (steps ++ step ∷ []) old new
run_more seen failures armed [] step old mid new same goes = (new, subst (λ (h : History _). Goes seen failures armed step h new) same goes, refl)
run_more seen failures armed (one ∷ steps) step old mid new (h, first, rest) goes = (h, first, run_more seen failures armed steps step h mid new rest goes)

pub all_front : {A : Type 0} (S : A → Type 0) (xs ys : List A) → AllByRecursion S (xs ++ ys) → AllByRecursion S xs
all_front S [] ys all = tt
all_front S (x ∷ xs) ys all = (all.0, all_front S xs ys all.1)

pub all_back : {A : Type 0} (S : A → Type 0) (xs ys : List A) → AllByRecursion S (xs ++ ys) → AllByRecursion S ys
all_back S [] ys all = all
all_back S (x ∷ xs) ys all = all_back S xs ys all.1

pub all_one_more : {A : Type 0} (S : A → Type 0) (xs : List A) (x : A) → AllByRecursion S xs → S x → AllByRecursion S (xs ++ x ∷ [])
all_one_more S [] x all one = (one, tt)
all_one_more S (y ∷ xs) x all one = (all.0, all_one_more S xs x all.1 one)

pub all_spare : (client : ClientId) (steps : List Step) → AllByRecursion (IsLooking client) steps → AllByRecursion (λ step. spares_master step ≡ true) steps
all_spare client [] all = tt
all_spare client (step ∷ steps) all = (all.0.0, all_spare client steps all.1)

pub halt_commits : (call : Call) → is_halt call ≡ true → is_commit call ≡ true
halt_commits calls.PrepareCommit is = refl
halt_commits calls.RollbackCommit is = refl
halt_commits call is = absurd (false≢true is)

pub halt_at_once : (call : Call) → is_halt call ≡ true → is_answered_at_once call ≡ true
halt_at_once calls.PrepareCommit is = refl
halt_at_once calls.RollbackCommit is = refl
halt_at_once call is = absurd (false≢true is)

-- ---- no call waits where a prepare or a rollback was begun

none_waits : (s : State) (call : Call) → is_halt call ≡ true → IsFirm s → WasBegun s call → s.volatile.pending ≡ []
none_waits s calls.PrepareCommit is firm begun = (firm.stands.preparing begun).1
none_waits s calls.RollbackCommit is firm begun = firm.rolling begun
none_waits s call is firm begun = absurd (false≢true is)

module _ {D : Type 0} (seen : D → List ℕ) (failures : D → ℕ) (armed : DiskId → ℕ → MasterPlace D → MasterPlace D) where
  pub firm_so : (m : MasterOf D) → LastsThrough seen (Standing m) → is_failed m.state.fault ≡ false → IsFirm m.state
  firm_so m lasts sound = by_fault (is_failed m.state.fault) sound lasts
    where
      by_fault : (b : Bool) → b ≡ false → MatchBool b (TellsSteady (text_seen seen m.journal)) (StandsSteady seen m) → IsFirm m.state
      by_fault true is lasts = absurd (false≢true (sym is))
      by_fault false is lasts = lasts.firm.firm

  module _ (client : ClientId) (old mid : History D) (call : Call) (answer : Answer) (are : AreAsked seen old) (keeps : KeepsTypes old) (lasts : LastsThrough seen old.nodes.master) (halt : is_halt call ≡ true) (c : HasAnswer seen failures armed client old call answer mid)
      (only : IsOnly client mid) where
    made : WasAnswered seen failures armed c.steps c.asked mid c.req call answer
    made = (answers_are_made seen failures armed old c.asked mid c.moment c.req call c.steps c.node answer are c.asks (halt_at_once call halt) c.runs (all_spare client c.steps c.looking) (subst (λ k. client_in mid.nodes.clients k ≡ Some c.node) (sym c.own) c.there) c.last c.reply).0

    abbrev ask : Step
    ask = asks_call c.moment c.req call

    parts_within : AllByRecursion IsStepWithin (made.before ++ Comes made.event ∷ made.after)
    parts_within = subst (AllByRecursion IsStepWithin) made.parts c.within.1

    parts_look : AllByRecursion (IsLooking client) (made.before ++ Comes made.event ∷ made.after)
    parts_look = subst (AllByRecursion (IsLooking client)) made.parts c.looking

    ask_spares : AllSpare (ask ∷ c.steps)
    ask_spares = (refl, all_spare client c.steps c.looking)

    before_spare : AllSpare (ask ∷ made.before)
    before_spare = (refl, all_spare client made.before (all_front (IsLooking client) made.before (Comes made.event ∷ made.after) parts_look))

    to_now : RunsTo seen failures armed (ask ∷ made.before) old made.now
    to_now = (c.asked, (Ok tt, c.asks.happens), made.first)

    lasts_now : LastsThrough seen made.now.nodes.master
    lasts_now = lasts_spared seen failures armed (ask ∷ made.before) old made.now to_now before_spare (c.within.0, all_front IsStepWithin made.before (Comes made.event ∷ made.after) parts_within) keeps lasts

    are_next : AreAsked seen made.next
    are_next = asked_spared seen failures armed ((ask ∷ made.before) ++ Comes made.event ∷ []) old made.next (run_more seen failures armed (ask ∷ made.before) (Comes made.event) old made.now made.next to_now (made.said, made.happens))
        (refl, all_one_more (λ step. spares_master step ≡ true) made.before (Comes made.event) before_spare.1 (all_back (IsLooking client) made.before (Comes made.event ∷ made.after) parts_look).0.0)
        (c.within.0, all_one_more IsStepWithin made.before (Comes made.event) (all_front IsStepWithin made.before (Comes made.event ∷ made.after) parts_within) (all_back IsStepWithin made.before (Comes made.event ∷ made.after) parts_within).0) keeps lasts are

    pub are_mid : AreAsked seen mid
    are_mid = asked_spared seen failures armed (ask ∷ c.steps) old mid (c.asked, (Ok tt, c.asks.happens), c.runs) ask_spares c.within keeps lasts are

    there : MadeThere seen failures armed made.now made.event.moment made.answers.master c.req call answer made.next.nodes
    there = made_there seen failures armed made.now made.event made.said made.next made.happens c.req call answer made.answers

    abbrev s : State
    s = made.answers.master.state

    commits : Commits s c.req call (new_call made.answers.master.config s c.req made.event.moment call)
    commits = commits_had made.answers.master.config s c.req made.event.moment call answer (halt_commits call halt) made.answers.new there.says

    nobody : s.volatile.pending ≡ []
    nobody = none_waits s call halt (firm_so made.answers.master (subst (LastsThrough seen) made.answers.stands lasts_now) commits.sound) commits.begun

    none : (req : ReqId) → is_pending there.after.state.volatile.pending req ≡ true → ⊥
    none req is =
        let alone = at_once made.answers.master.config s c.req made.event.moment call (halt_at_once call halt) in
        let before = alone.1.waits req (subst (λ (u : State). is_pending u.volatile.pending req ≡ true) there.is is) in false≢true (subst (λ ps. is_pending ps req ≡ true) nobody before)

    -- what was called before has a number that the client has had
    node_is : {a b : Node} → ◌≡◌ {A = Option Node} (Some a) (Some b) → a ≡ b
    node_is is = cc

    old_calls : (from : NodeId) (body : Body) → SaysOf (HasAsked mid.nodes.clients) from body → IsOldOrLooks client (suc c.req.number) body
    old_calls from (bodies.Call req other) of = (only req.client of.1.node of.1.there, inl (low req of.1))
      where
        low : (req : ReqId) → HasAsked mid.nodes.clients req → req.number < suc c.req.number
        low req has = up_to req.number has.node.last c.req.number has.number (ap (λ (n : Node). n.last) (node_is (sym (subst (λ k. client_in mid.nodes.clients k ≡ Some has.node) (only req.client has.node has.there) has.there) ∙ c.there)) ∙ c.last)
          where
            up_to : (a b k : ℕ) → a ≤ b → b ≡ k → a < suc k
            up_to a b k first is = omega arith
    old_calls from (bodies.Reply req result) of = tt
    old_calls from (bodies.About chunk said) of = tt
    old_calls from (bodies.Push req bytes) of = tt
    old_calls from (bodies.Done req result) of = tt
    old_calls from (bodies.Bytes req result) of = tt
    old_calls from (bodies.MakeCopy chunk at new_chunk stamp) of = tt
    old_calls from (bodies.Report epoch replicas) of = tt
    old_calls from (bodies.Epoch epoch end) of = tt
    old_calls from (bodies.Learned epoch handles) of = tt
    old_calls from (bodies.Behind epoch) of = tt

    stays : StaySent made.next.sent mid.sent
    stays = run_stays seen failures armed made.after made.next mid made.rest

    abbrev d : Durable
    d = there.after.state.durable

    still_next : IsStill d client (suc c.req.number) made.next
    still_next = record {
      sent = λ id message was. old_calls message.from message.body (are_mid.sent id message (stays id message was));
      master = subst (StandsStillAt d client (suc c.req.number)) (sym there.stands) (record {
        names = refl;
        hidden = refl;
        phase = refl;
        epoch = refl;
        none = none;
        had = subst (λ k. HasHad there.after.state k c.req.number) c.own (subst (λ (u : State). HasHad u c.req.client c.req.number) (sym there.is) commits.had);
      });
      numbered = are_next.numbered;
    }

    still_mid : IsStill d client (suc c.req.number) mid
    still_mid = stays_still seen failures armed d client (suc c.req.number) made.after made.next mid made.rest (all_back (IsLooking client) made.before (Comes made.event ∷ made.after) parts_look).1 still_next

    sound : is_failed there.after.state.fault ≡ false
    sound = ap (λ (u : State). is_failed u.fault) there.is ∙ ap is_failed commits.fault ∙ commits.sound

    lasts_mid : LastsThrough seen mid.nodes.master
    lasts_mid = lasts_spared seen failures armed (ask ∷ c.steps) old mid (c.asked, (Ok tt, c.asks.happens), c.runs) ask_spares c.within keeps lasts

    types_mid : KeepsTypes mid
    types_mid = run_keeps seen failures armed (ask ∷ c.steps) old mid (c.asked, (Ok tt, c.asks.happens), c.runs) c.within keeps

    module _ (new : History D) (path : Path) (listed : Answer) (way : List Step) (start : History D) (leads : RunsTo seen failures armed way mid start) (way_within : AllByRecursion IsStepWithin way) (way_looks : AllByRecursion (IsLooking client) way)
        (l : HasAnswer seen failures armed client start (calls.List path) listed new) where
      are_start : AreAsked seen start
      are_start = asked_spared seen failures armed way mid start leads (all_spare client way way_looks) way_within types_mid lasts_mid are_mid

      still_start : IsStill d client (suc c.req.number) start
      still_start = stays_still seen failures armed d client (suc c.req.number) way mid start leads way_looks still_mid

      told : WasAnswered seen failures armed l.steps l.asked new l.req (calls.List path) listed
      told = (answers_are_made seen failures armed start l.asked new l.moment l.req (calls.List path) l.steps l.node listed are_start l.asks refl l.runs (all_spare client l.steps l.looking) (subst (λ k. client_in new.nodes.clients k ≡ Some l.node) (sym l.own) l.there) l.last l.reply).0

      looks_before : AllByRecursion (IsLooking client) told.before
      looks_before = all_front (IsLooking client) told.before (Comes told.event ∷ told.after) (subst (AllByRecursion (IsLooking client)) told.parts l.looking)

      still_now : IsStill d client (suc c.req.number) told.now
      still_now = stays_still seen failures armed d client (suc c.req.number) (asks_call l.moment l.req (calls.List path) ∷ told.before) start told.now (l.asked, (Ok tt, l.asks.happens), told.first) ((refl, (l.own, refl)), looks_before) still_start

      there_then : MadeThere seen failures armed told.now told.event.moment told.answers.master l.req (calls.List path) listed told.next.nodes
      there_then = made_there seen failures armed told.now told.event told.said told.next told.happens l.req (calls.List path) listed told.answers

      stands_then : StandsStill d client (suc c.req.number) told.answers.master.state
      stands_then = subst (StandsStillAt d client (suc c.req.number)) told.answers.stands still_now.master

      pub lists_by : ListsByCommit seen failures armed client old call answer mid path listed c
      lists_by = record {
        made = made;
        durable = d;
        stands = record { master = there.after; stands = there.stands; sound = sound; keeps = refl };
        lists = ap (λ (n : NamesView). listing (fin.entries n.tree) path (fin.get n.tree path)) (sym stands_then.names) ∙ lists_answered told.answers.master.config told.answers.master.state l.req told.event.moment path listed there_then.says;
      }

pub lists_are_by_commits : {D : Type 0} (seen : D → List ℕ) (failures : D → ℕ) (armed : DiskId → ℕ → MasterPlace D → MasterPlace D) → ListsAreByCommits seen failures armed
lists_are_by_commits seen failures armed client old mid new call answer listed path are keeps lasts halt c only way start leads way_within way_looks l = lists_by seen failures armed client old mid call answer are keeps lasts halt c only new path listed way start leads way_within way_looks l
