-- What is listed, by the master that is asked.
use Rattle.std.proofs.Common.{◌≡◌, ◌∙◌, inl, inr, zero, suc, Bool, true, false, List, [], ◌∷◌, Option, Some, None, MatchOption, Result, Ok, Err, refl, sym, ap, subst, arith}
use Rattle.std.specs.Prelude.{Contains, MatchBool, if◌then◌else◌}
use Rattle.std.specs.FinMap as fin
use Rattle.std.proofs.lemmas.Bool.{false≢true}
use Rattle.gs_base.specs.declared.config.Config.{Config}
use Rattle.gs_base.specs.declared.numbers.Moment.{Moment}
use Rattle.gs_base.specs.declared.numbers.ReqId.{ReqId}
use Rattle.gs_base.specs.declared.refusal.Refusal.{Refusal}
use Rattle.gs_base.specs.declared.refusal.Refusal.TheVariants as refusals
use Rattle.gs_edit.specs.View.{NamesView}
use Rattle.gs_master.specs.Journaled.{text_seen}
use Rattle.gs_master.specs.Masters.{MasterAnswers, MasterOf}
use Rattle.gs_master.specs.declared.turn.Turn.{Turn as Told}
use Rattle.gs_master_spec.specs.Calls.{is_locked, listing, looked_up, ordered, refused_before}
use Rattle.gs_master_spec.specs.Durable.{Durable, is_rolling}
use Rattle.gs_master_spec.specs.Handling.{Numbered, New, call_turn, called_unless, from_node, handle, numbered, replied_again, taken_as, waits_still}
use Rattle.gs_master_spec.specs.Outcomes.{caller_of, unsure}
use Rattle.gs_master_spec.specs.State.{State, first_of, is_failed, is_unopened, last_reply, reply_to, unmoved}
use Rattle.gs_master_spec.specs.Volatile.{is_pending}
use Rattle.gs_msg.specs.declared.answer.Answer.{Answer}
use Rattle.gs_msg.specs.declared.body.Body.{Body}
use Rattle.gs_msg.specs.declared.body.Body.TheVariants as bodies
use Rattle.gs_msg.specs.declared.call.Call.{Call}
use Rattle.gs_msg.specs.declared.call.Call.TheVariants as calls
use Rattle.gs_msg.specs.declared.message.Message.{Message}
use Rattle.gs_msg.specs.declared.node.NodeId.{NodeId}
use Rattle.gs_msg.specs.declared.node.NodeId.TheVariants as nodes
use Rattle.gs_nodes.specs.Happenings.{Delivers, Hears, MasterHears, refusal_of_call}
use Rattle.gs_nodes.specs.declared.place.MasterPlace.{MasterPlace}
use Rattle.gs_nodes.specs.declared.place.MasterPlace.TheVariants.{Standing, Closed, Away}
use Rattle.gs_path.specs.Path.{Path}
use Rattle.gs_world.specs.Histories.{AtNode, ComesTo, History, told}
use Rattle.gs_laws_world.specs.lasting.Lasting.{IsToldIn}
use Rattle.gs_world.specs.Runs.{Step}
use Rattle.gs_laws_chunks.specs.accounts.Accounts.{Account}
use Rattle.gs_laws_chunks.specs.accounts.Back.{GivesNamesTold, HasRolledBack}
use Rattle.gs_laws_chunks.specs.accounts.Reading.{sent_at}
use Rattle.gs_laws_chunks.specs.accounts.Running.{IsReached, IsToldAt, Runs, Setup}
use Rattle.gs_laws_chunks.specs.accounts.Upgrading.{RunsUpgraded}
use Rattle.gs_laws_looks.specs.rollbacks.Looking.{AnswersList, ListsAreOfNames, ListsGoBack, ListsStill}

-- ---- messages

one_is : {X : Type 0} (x y : X) → Contains (x ∷ []) y → x ≡ y
one_is x y (zero, within, is) = is
one_is x y (suc k, within, is) = absurd (omega arith)

none_is : {X Z : Type 0} (y : X) → Contains [] y → Z
none_is y (k, within, is) = absurd (omega arith)

abbrev is_ok : Body → Bool
is_ok (bodies.Reply req (Ok answer)) = true
is_ok body = false

abbrev result_in : Answer → Body → Result Answer Refusal
result_in other (bodies.Reply req (Ok answer)) = Ok answer
result_in other body = Ok other

-- a refusal answers nothing
refused_none : {Z : Type 0} (req : ReqId) (e : Refusal) (answer : Answer) (m : Message) → Contains (reply_to req (Err e) ∷ []) m → m.body ≡ bodies.Reply req (Ok answer) → Z
refused_none req e answer m there is = absurd (false≢true (ap (λ (n : Message). is_ok n.body) (one_is (reply_to req (Err e)) m there) ∙ ap is_ok is))

-- ---- the master

-- the names' list
abbrev list_of : Durable → Path → Result Answer Refusal
list_of d p = listing (fin.entries d.names.tree) p (fin.get d.names.tree p)

record Lists (s : State) (p : Path) (answer : Answer) : Type 0 where
  sound : is_failed s.fault ≡ false
  is : list_of s.durable p ≡ Ok answer

module _ (config : Config) (s : State) (req : ReqId) (moment : Moment) (p : Path) (answer : Answer) (m : Message) (says : m.body ≡ bodies.Reply req (Ok answer)) where
  abbrev call : Call
  call = calls.List p

  sound_so : refused_before s req call ≡ None → is_failed s.fault ≡ false
  sound_so none = by_case (is_failed s.fault) none
    where
      by_case : (b : Bool) → first_of (ordered b (is_rolling s.durable.phase) s.volatile.is_preparing (is_locked s req call) call) ≡ None → b ≡ false
      by_case false passes = refl
      by_case true refused = absurd (cc)

  by_list : is_failed s.fault ≡ false → (r : Result Answer Refusal) → list_of s.durable p ≡ r → Contains (looked_up s req r).sent m → Lists s p answer
  by_list sound (Ok other) is there = record { sound = sound; is = is ∙ ap (result_in other) (ap (λ (n : Message). n.body) (one_is (reply_to req (Ok other)) m there) ∙ says) }
  by_list sound (Err e) is there = refused_none req e answer m there says

  by_test : (o : Option Refusal) → refused_before s req call ≡ o → Contains (called_unless config s req moment call o).sent m → Lists s p answer
  by_test (Some e) is there = refused_none req e answer m there says
  by_test None is there = by_list (sound_so is) (list_of s.durable p) refl there

  waits_none : {Z : Type 0} → Contains (waits_still s req).sent m → Z
  waits_none {Z} there = by_fault (is_failed s.fault) there
    where
      by_fault : (b : Bool) → Contains (if b then replied_again s req (Err refusals.Device) else unmoved s).sent m → Z
      by_fault true there = refused_none req refusals.Device answer m there says
      by_fault false there = none_is m there

  lists : numbered (last_reply s req.client) req.number ≡ New → Contains (call_turn config s req moment call).sent m → Lists s p answer
  lists new there = by_tests (is_unopened s.fault) (is_pending s.volatile.pending req) there
    where
      by_tests : (a b : Bool)
          → Contains (if a then replied_again s req (Err refusals.Device) else if b then waits_still s req else taken_as config s req moment call (numbered (last_reply s req.client) req.number)).sent m → Lists s p answer
      by_tests true b there = refused_none req refusals.Device answer m there says
      by_tests false true there = waits_none there
      by_tests false false there = by_test (refused_before s req call) refl (subst (λ (n : Numbered). Contains (taken_as config s req moment call n).sent m) new there)

-- ---- what the records tell

module _ {D : Type 0} (x : Setup D) where
  told_on : (steps : List Step) (old new : History D) (a b : Account) → IsToldAt x.seen old.nodes.master a.durable → Runs x steps old a new b → IsToldAt x.seen new.nodes.master b.durable
  told_on [] old new a b tells runs = subst (λ (h : History D). IsToldAt x.seen h.nodes.master b.durable) (sym runs.0) (subst (λ (c : Account). IsToldAt x.seen old.nodes.master c.durable) (sym runs.1) tells)
  told_on (step ∷ steps) old new a b tells (mid, c, moves, rest) = told_on steps mid new c b moves.told rest

  told_there : (now : History D) (a : Account) → IsReached x now a → IsToldAt x.seen now.nodes.master a.durable
  told_there now a r = told_on r.steps r.begun now r.first a r.begins.told r.runs

-- ---- an event

module _ {D : Type 0} (x : Setup D) (h : History D) (a : Account) (reached : IsReached x h a) (p : Path) (answer : Answer) (r : ListsStill x h a p answer) where
  abbrev q : AnswersList r.now r.event r.happens.outcome p answer
  q = r.answers

  abbrev Is : Type 0
  Is = list_of r.b.durable p ≡ Ok answer

  tells : IsToldAt x.seen r.now.nodes.master r.b.durable
  tells = told_on x r.steps h r.now a r.b (told_there x h a reached) r.runs

  caller : caller_of q.message.body ≡ Some q.req
  caller = ap caller_of q.asks

  refused : {Z : Type 0} (e : Refusal) (sent : List Message) → sent ≡ reply_to q.req (Err e) ∷ [] → Contains sent q.reply → Z
  refused e sent is there = refused_none q.req e answer q.reply (subst (λ (ms : List Message). Contains ms q.reply) is there) q.says

  by_answer : (m after : MasterOf D) (turn : Told) → r.now.nodes.master ≡ Standing m → MasterAnswers x.seen x.failures (caller_of q.message.body) (handle m.config m.state q.message r.event.moment) m (Ok turn) after → Contains turn.sent.items q.reply → Is
  unfolding handle
  by_answer m after turn at (inl done) there =
      let sent : Contains (from_node m.config m.state r.event.moment q.message.body q.message.from).sent q.reply = subst (λ (ms : List Message). Contains ms q.reply) done.done.sends there in
      let whose = subst (λ (n : NodeId). Contains (from_node m.config m.state r.event.moment q.message.body n).sent q.reply) q.from sent in
      let which = subst (λ (b : Body). Contains (from_node m.config m.state r.event.moment b (nodes.Client q.client)).sent q.reply) q.asks whose in
      let l = lists m.config m.state q.req r.event.moment p answer q.reply q.says (q.new m at) which in
      let is : r.b.durable ≡ m.state.durable = told_so m l.sound (subst (λ (place : MasterPlace D). IsToldAt x.seen place r.b.durable) at tells) in
      ap (λ (d : Durable). list_of d p) is ∙ l.is
    where
      told_so : (m : MasterOf D) → is_failed m.state.fault ≡ false → IsToldAt x.seen (Standing m) r.b.durable → r.b.durable ≡ m.state.durable
      told_so m sound tells = subst (λ (b : Bool). MatchBool b (IsToldIn (text_seen x.seen m.journal) r.b.durable) (r.b.durable ≡ m.state.durable)) sound tells
  by_answer m after turn at (inr (place, cut)) there = refused refusals.Unsure turn.sent.items (cut.cut.sends ∙ ap unsure caller) there

  by_place : (place new : MasterPlace D) (turn : Told) → r.now.nodes.master ≡ place → MasterHears x.seen x.failures q.message r.event.moment place (Ok turn) new → Contains turn.sent.items q.reply → Is
  by_place (Standing m) new turn at (after, is, answers) there = by_answer m after turn at answers there
  by_place (Closed first second) new turn at met there = refused refusals.Device turn.sent.items (met.1 ∙ ap refusal_of_call caller) there
  by_place Away new turn at met there = refused refusals.Device turn.sent.items (met.1 ∙ ap refusal_of_call caller) there

  by_turn : (turn : Result Told Refusal) → Hears x.seen x.failures q.message r.event.moment nodes.Master r.now.nodes turn r.next.nodes → r.happens.outcome ≡ told turn → Is
  by_turn (Ok turn) (place, is, hears) out = by_place r.now.nodes.master place turn refl hears (subst (λ o. Contains (sent_at o) q.reply) out q.sent)
  by_turn (Err e) (place, is, hears) out = none_is q.reply (subst (λ o. Contains (sent_at o) q.reply) out q.sent)

  by_delivery : (turn : Result Told Refusal) → Delivers x.seen x.failures q.message r.event.moment r.now.nodes turn r.next.nodes → r.happens.outcome ≡ told turn → Is
  unfolding Delivers
  by_delivery turn delivers out = by_turn turn (subst (λ (n : NodeId). Hears x.seen x.failures q.message r.event.moment n r.now.nodes turn r.next.nodes) q.to delivers) out

  by_coming : ComesTo x.seen x.failures x.armed q.id.sender q.message r.event.moment r.now.nodes r.happens.by r.happens.outcome r.next.nodes → Is
  by_coming (inl (by, turn, delivers, out)) = by_delivery turn delivers out
  by_coming (inr (out, same, by)) = none_is q.reply (subst (λ o. Contains (sent_at o) q.reply) out q.sent)

  pub of_names : list_of a.durable p ≡ Ok answer
  of_names =
      ap (λ (n : NamesView). listing (fin.entries n.tree) p (fin.get n.tree p)) (sym r.still)
      ∙ by_coming
      (subst (λ (o : Option Message). MatchOption o ((r.happens.outcome ≡ Err refusals.Range) × (r.next.nodes ≡ r.now.nodes) × (r.happens.by ≡ q.id.sender)) (λ message. ComesTo x.seen x.failures x.armed q.id.sender message r.event.moment r.now.nodes r.happens.by r.happens.outcome r.next.nodes)) q.was
      (subst (λ happening. AtNode x.seen x.failures x.armed r.event.moment happening r.now r.happens.by r.happens.outcome r.next.nodes) q.comes r.happens.at))

pub lists_are_of_names : {D : Type 0} (x : Setup D) → ListsAreOfNames x
lists_are_of_names x h a p answer reached r = of_names x h a reached p answer r

-- ---- behind a prepare and behind its rollback

answer_is : {a b : Answer} → ◌≡◌ {A = Result Answer Refusal} (Ok a) (Ok b) → a ≡ b
answer_is is = cc

module _ {D : Type 0} (x : Setup D) where
  joined : (xs ys : List Step) (old mid new : History D) (a b c : Account) → Runs x xs old a mid b → Runs x ys mid b new c → (all : List Step) × Runs x all old a new c
  joined [] ys old mid new a b c same rest = (ys, subst (λ (h : History D). Runs x ys h a new c) same.0 (subst (λ (d : Account). Runs x ys mid d new c) same.1 rest))
  joined (step ∷ xs) ys old mid new a b c (next, d, moves, more) rest = (let j = joined xs ys next mid new d b c more rest in (step ∷ j.0, (next, d, moves, j.1)))

  bare : (steps : List Step) (old : History D) (a : Account) (new : History D) (b : Account) → RunsUpgraded x steps old a new b → Runs x steps old a new b
  bare [] old a new b runs = runs
  bare (step ∷ steps) old a new b (mid, c, moves, going, rest) = (mid, c, moves, bare steps mid c new b rest)

  reach : (old new : History D) (a b : Account) (steps : List Step) → IsReached x old a → Runs x steps old a new b → IsReached x new b
  reach old new a b steps r runs = (let j = joined r.steps steps r.begun old new r.first a b r.runs runs in record { apart = r.apart; begun = r.begun; first = r.first; steps = j.0; begins = r.begins; runs = j.1 })

  -- the worlds right behind a prepare and right behind its rollback are reached
  pub both_reached : (prepared now back : History D) (before after last : Account) → HasRolledBack x prepared before now after back last → IsReached x prepared before × IsReached x back last
  both_reached prepared now back before after last rolled =
      let up = rolled.upgrade in
      let there = reach up.old prepared up.first before (up.step ∷ []) up.reached (prepared, before, up.moves, (refl, refl)) in
      let rolling = reach prepared now before after up.steps there (bare up.steps prepared before now after up.runs) in
      (there, reach now back after last (rolled.step ∷ []) rolling (back, last, rolled.moves, (refl, refl)))

pub lists_go_back : {D : Type 0} (x : Setup D) → GivesNamesTold x → ListsGoBack x
lists_go_back x names_back prepared now back before after last p had has rolled old new =
    let both = both_reached x prepared now back before after last rolled in
    answer_is (sym (of_names x back last both.1 p has new) ∙ ap (λ (n : NamesView). listing (fin.entries n.tree) p (fin.get n.tree p)) (names_back prepared now back before after last rolled) ∙ of_names x prepared before both.0 p had old)
