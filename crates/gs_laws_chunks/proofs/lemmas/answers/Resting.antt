-- What stands while a client only looks.
use Rattle.std.proofs.Common.{if◌then◌else◌, ◌≡◌, ◌∙◌, ◌⊎◌, inl, inr, ◌<◌, ◌≤◌, ◌++◌, ℕ, zero, suc, Bool, true, false, List, [], ◌∷◌, length, Option, Some, None, MatchOption, Result, Ok, Err, refl, sym, ap, subst, arith}
use Rattle.std.specs.Prelude.{take}
use Rattle.std.specs.FinMap as fin
use Rattle.std.specs.List.{AllByRecursion}
use Rattle.std.proofs.lemmas.Bool.{false≢true}
use Rattle.gs_base.specs.declared.config.Config.{Config}
use Rattle.gs_base.specs.declared.numbers.ClientId.{ClientId}
use Rattle.gs_base.specs.declared.numbers.Moment.{Moment}
use Rattle.gs_base.specs.declared.numbers.ReqId.{ReqId}
use Rattle.gs_base.specs.declared.refusal.Refusal.{Refusal}
use Rattle.gs_base.specs.declared.refusal.Refusal.TheVariants as refusals
use Rattle.gs_client.specs.Nodes.{Node, given_up, hears, messages_of, pushes, request_of, with_bytes}
use Rattle.gs_master.specs.Masters.{MasterAnswers, MasterOf}
use Rattle.gs_master.specs.Ticking.{AnswersAs, AnswersTick, lacking, pressed_all, writes_one}
use Rattle.gs_master.specs.declared.turn.Turn.{Turn as Told_turn}
use Rattle.gs_msg.specs.declared.answer.Answer.{Answer}
use Rattle.gs_msg.specs.declared.body.Body.{Body}
use Rattle.gs_msg.specs.declared.body.Body.TheVariants as bodies
use Rattle.gs_msg.specs.declared.call.Call.{Call}
use Rattle.gs_msg.specs.declared.call.Call.TheVariants as calls
use Rattle.gs_msg.specs.declared.event.DiskId.{DiskId}
use Rattle.gs_msg.specs.declared.event.Happening.{Happening}
use Rattle.gs_msg.specs.declared.event.Happening.TheVariants as happenings
use Rattle.gs_msg.specs.declared.event.Request.{Request}
use Rattle.gs_msg.specs.declared.event.Request.TheVariants as requests
use Rattle.gs_msg.specs.declared.message.Message.{Message}
use Rattle.gs_msg.specs.declared.node.NodeId.{NodeId}
use Rattle.gs_msg.specs.declared.node.NodeId.TheVariants as nodes
use Rattle.gs_master_spec.specs.Durable.{Durable}
use Rattle.gs_master_spec.specs.Handling.{Again, New, Numbered, Older, call_turn, from_node, handle, new_call, numbered, refusal_in, replied_again, taken_as, tick, waits_still}
use Rattle.gs_master_spec.specs.Outcomes.{IsCut, IsDone, caller_of, cut, unsure}
use Rattle.gs_master_spec.specs.Replies.{client_cmp, later}
use Rattle.gs_master_spec.specs.State.{State, Turn, is_failed, is_unopened, last_reply, reply_to, unmoved}
use Rattle.gs_master_spec.specs.Volatile.{Volatile, is_pending}
use Rattle.gs_master_spec.specs.declared.reply.KeptReply.{KeptReply}
use Rattle.gs_laws_moves.specs.answers.AtOnce.{AnswersAlone, is_answered_at_once}
use Rattle.gs_laws_moves.proofs.lemmas.answers.AtOnce.{at_once}
use Rattle.gs_laws_moves.specs.answers.Concerned.{AnswersOnly, IsConcerned, RepliesTo, StaysAtRest}
use Rattle.gs_laws_moves.proofs.lemmas.answers.Concerning.{messages_concerned, ticks_concerned}
use Rattle.gs_laws_moves.proofs.lemmas.answers.Plans.{volatile_still}
use Rattle.gs_laws_moves.specs.answers.Resting.{HasHad, IsFrom, LeavesNames, is_look}
use Rattle.gs_laws_moves.proofs.lemmas.answers.Resting.{had_not_new, looks_leave}
use Rattle.gs_nodes.specs.Happenings.{MasterHears, MasterTicks, client_in, refusal_of_call}
use Rattle.gs_nodes.specs.Nodes.{Nodes, with_master}
use Rattle.gs_nodes.specs.declared.place.MasterPlace.{MasterPlace}
use Rattle.gs_nodes.specs.declared.place.MasterPlace.TheVariants.{Standing, Closed, Away}
use Rattle.gs_laws_parts.proofs.lemmas.server.Elsewhere.{ByServer}
use Rattle.gs_laws_parts.specs.server.Answering.{IsByServer}
use Rattle.gs_world.specs.Histories.{History, Tells, Upshot}
use Rattle.gs_world.specs.Runs.{Comes, Goes, Step, Takes}
use Rattle.gs_world.specs.Sent.{Sent}
use Rattle.gs_laws_lift.proofs.lemmas.stores.Posting.{posted_all}
use Rattle.gs_laws_lift.specs.stores.Going.{AllSent, Posts}
use Rattle.gs_laws_chunks.specs.answers.Answered.{sent_by, spares_master}
use Rattle.gs_laws_chunks.specs.answers.Resting.{AsksLooks, HasHadBelow, IsLooking, IsOldOrLooks, IsStill, StandsStill, StandsStillAt, StaysStill}
use Rattle.gs_laws_chunks.proofs.lemmas.answers.Asked.{Numbered_all, Waits, hearing_same, lacking_only, own_id, still_numbered}
use Rattle.gs_laws_chunks.proofs.lemmas.answers.Parts.{Armed, Asked, Heard, Opened, Part, Rested, Served, Ticked, Told, asking, hearing, part_of, with_client}

look_at_once : (call : Call) → is_look call ≡ true → is_answered_at_once call ≡ true
look_at_once (calls.List path) is = refl
look_at_once (calls.Status path) is = refl
look_at_once (calls.FindForReading path index) is = refl
look_at_once calls.Query is = refl
look_at_once call is = absurd (false≢true is)

none_called : {T : Type 0} (req : ReqId) → ◌≡◌ {A = Option ReqId} None (Some req) → T
none_called req is = absurd cc

-- ---- what its client has had

pub below_more : (s u : State) (client : ClientId) → ((low : ℕ) → HasHad s client low → HasHad u client low) → (number : ℕ) → HasHadBelow s client number → HasHadBelow u client number
below_more s u client more zero had = tt
below_more s u client more (suc number) had = more number had

pub had_below : (s : State) (client : ClientId) (number low : ℕ) → low < number → HasHadBelow s client number → HasHad s client low
had_below s client zero low less had = absurd (omega arith)
had_below s client (suc number) low less had = record { reply = had.reply; has = had.has; late = up_to low number had.reply.number less had.late }
  where
    up_to : (a b c : ℕ) → a < suc b → b ≤ c → a ≤ c
    up_to a b c first second = omega arith

pub no_less : (n : ℕ) → n ≤ n
no_less n = omega arith

module _ (d : Durable) (client : ClientId) (number : ℕ) where
  abbrev Still : State → Type 0
  Still s = StandsStill d client number s

  abbrev SaysSo : Body → Type 0
  SaysSo body = IsOldOrLooks client number body

  abbrev AllSo : List Message → Type 0
  AllSo messages = AllByRecursion (λ (m : Message). SaysSo m.body) messages

  -- ---- turns

  pub record TurnStill (s : State) (t : Turn) : Type 0 where
    pub after : Still t.after
    pub cuts : (place : ℕ) → place < length t.records → Still (cut s t.records place)

  quiet : (s : State) (messages : List Message) (said : Option Refusal) → Still s → TurnStill s (record { after = s; records = []; sent = messages; said = said })
  quiet s messages said so = record { after = so; cuts = λ place within. absurd (omega arith) }

  had_same : (s u : State) → u.durable.replies ≡ s.durable.replies → u.volatile.replies ≡ s.volatile.replies → (low : ℕ) → HasHad s client low → HasHad u client low
  had_same s u durable memory low had =
      subst (λ (m : fin.FinMap client_cmp KeptReply). IsFrom low (later (fin.get m client) (fin.get u.volatile.replies client))) (sym durable)
      (subst (λ (m : fin.FinMap client_cmp KeptReply). IsFrom low (later (fin.get s.durable.replies client) (fin.get m client))) (sym memory) had)

  rests_still : (s u : State) → StaysAtRest s u → ((req : ReqId) → is_pending u.volatile.pending req ≡ true → ⊥) → Still s → Still u
  rests_still s u rests none so =
      record { names = rests.0.names ∙ so.names; hidden = rests.0.hidden ∙ so.hidden; phase = rests.0.phase ∙ so.phase; epoch = rests.0.epoch ∙ so.epoch; none = none; had = below_more s u client (had_same s u rests.0.replies rests.1) number so.had }

  -- nobody is concerned
  pub nobody_still : (s : State) (t : Turn) → AnswersOnly (IsConcerned s None) s t → Still s → TurnStill s t
  nobody_still s t only so = record {
    after = rests_still s t.after (only.rests none) (λ req there. none req (only.waits req there)) so;
    cuts = λ place within. rests_still s (cut s t.records place) (only.cut_rests none place within) (λ req there. so.none req (subst (λ (v : Volatile). is_pending v.pending req ≡ true) (volatile_still (take place t.records) s) there)) so;
  }
    where
      none : (req : ReqId) → IsConcerned s None req → ⊥
      none req (inl is) = none_called req is
      none req (inr there) = so.none req there

  -- ---- calls

  module _ (config : Config) (s : State) (req : ReqId) (moment : Moment) (call : Call) (same : req.client ≡ client) (so : Still s) where
    again : (result : Result Answer Refusal) → TurnStill s (replied_again s req result)
    again result = quiet s (reply_to req result ∷ []) (refusal_in result) so

    waiting : TurnStill s (waits_still s req)
    waiting = by_fault (is_failed s.fault)
      where
        by_fault : (b : Bool) → TurnStill s (if b then replied_again s req (Err refusals.Device) else unmoved s)
        by_fault true = again (Err refusals.Device)
        by_fault false = quiet s [] None so

    -- however it is taken
    taken : (numbered (last_reply s req.client) req.number ≡ New → TurnStill s (new_call config s req moment call)) → TurnStill s (call_turn config s req moment call)
    taken new = by_opened (is_unopened s.fault)
      where
        by_how : (how : Numbered) → numbered (last_reply s req.client) req.number ≡ how → TurnStill s (taken_as config s req moment call how)
        by_how New is = new is
        by_how (Again result) is = again result
        by_how Older is = again (Err refusals.Old)

        by_waits : (b : Bool) → TurnStill s (if b then waits_still s req else taken_as config s req moment call (numbered (last_reply s req.client) req.number))
        by_waits true = waiting
        by_waits false = by_how (numbered (last_reply s req.client) req.number) refl

        by_opened : (b : Bool) → TurnStill s (if b then replied_again s req (Err refusals.Device) else if is_pending s.volatile.pending req then waits_still s req else taken_as config s req moment call (numbered (last_reply s req.client) req.number))
        by_opened true = again (Err refusals.Device)
        by_opened false = by_waits (is_pending s.volatile.pending req)

    -- one that its client has had
    old_turn : req.number < number → TurnStill s (call_turn config s req moment call)
    old_turn low = taken (λ new. absurd (had_not_new s req.client req.number req.number (subst (λ c. HasHad s c req.number) (sym same) (had_below s client number req.number low so.had)) (no_less req.number) new))

    -- one that looks
    look_turn : is_look call ≡ true → TurnStill s (call_turn config s req moment call)
    look_turn is = taken (λ new. record { after = after; cuts = λ place within. no_cut place (nought few within) })
      where
        t : Turn
        t = new_call config s req moment call

        leaves : LeavesNames s req t
        leaves = looks_leave config s req moment call is

        alone : (result : Result Answer Refusal) × AnswersAlone req result s t
        alone = at_once config s req moment call (look_at_once call is)

        few : length t.records ≤ 1
        few = alone.1.few

        nought : {n m : ℕ} → m ≤ 1 → n < m → n ≡ 0
        nought few within = omega arith

        after : Still t.after
        after = record {
          names = leaves.names ∙ so.names;
          hidden = leaves.hidden ∙ so.hidden;
          phase = leaves.phase ∙ so.phase;
          epoch = leaves.epoch ∙ so.epoch;
          none = λ other there. so.none other (alone.1.waits other there);
          had = below_more s t.after client (λ low had. subst (λ c. HasHad t.after c low) same (leaves.had low (subst (λ c. HasHad s c low) (sym same) had))) number so.had;
        }

        no_cut : (place : ℕ) → place ≡ 0 → Still (cut s t.records place)
        no_cut place is = subst (λ k. Still (cut s t.records k)) (sym is) (record { names = so.names; hidden = so.hidden; phase = so.phase; epoch = so.epoch; none = so.none; had = so.had })

    called : (req.number < number) ⊎ (is_look call ≡ true) → TurnStill s (call_turn config s req moment call)
    called (inl low) = old_turn low
    called (inr is) = look_turn is

    by_fault : (b : Bool) (first second : Option Refusal) → TurnStill s (if b then record { after = s; records = []; sent = []; said = first } else record { after = s; records = []; sent = []; said = second })
    by_fault true first second = quiet s [] first so
    by_fault false first second = quiet s [] second so

    from_any : (from : NodeId) → (req.number < number) ⊎ (is_look call ≡ true) → TurnStill s (from_node config s moment (bodies.Call req call) from)
    from_any nodes.Master how = quiet s [] (Some refusals.Stray) so
    from_any (nodes.Server server) how = by_fault (is_failed s.fault) (Some refusals.Device) (Some refusals.Stray)
    from_any (nodes.Client other) how = called how

  call_still : (config : Config) (s : State) (message : Message) (moment : Moment) (req : ReqId) (call : Call) → message.body ≡ bodies.Call req call → SaysSo (bodies.Call req call) → Still s → TurnStill s (handle config s message moment)
  unfolding handle
  call_still config s message moment req call is says so = subst (λ (b : Body). TurnStill s (from_node config s moment b message.from)) (sym is) (from_any config s req moment call says.0 so message.from says.1)

  -- what it hears
  other_still : (config : Config) (s : State) (message : Message) (moment : Moment) → caller_of message.body ≡ None → Still s → TurnStill s (handle config s message moment)
  other_still config s message moment none so = nobody_still s (handle config s message moment) (subst (λ caller. AnswersOnly (IsConcerned s caller) s (handle config s message moment)) none (messages_concerned config s message moment)) so

  pub heard_still : (config : Config) (s : State) (message : Message) (moment : Moment) (body : Body) → message.body ≡ body → SaysSo body → Still s → TurnStill s (handle config s message moment)
  heard_still config s message moment (bodies.Call req call) is says so = call_still config s message moment req call is says so
  heard_still config s message moment (bodies.Reply req result) is says so = other_still config s message moment (ap caller_of is) so
  heard_still config s message moment (bodies.About chunk said) is says so = other_still config s message moment (ap caller_of is) so
  heard_still config s message moment (bodies.Push req bytes) is says so = other_still config s message moment (ap caller_of is) so
  heard_still config s message moment (bodies.Done req result) is says so = other_still config s message moment (ap caller_of is) so
  heard_still config s message moment (bodies.Bytes req result) is says so = other_still config s message moment (ap caller_of is) so
  heard_still config s message moment (bodies.MakeCopy chunk at new_chunk stamp) is says so = other_still config s message moment (ap caller_of is) so
  heard_still config s message moment (bodies.Report epoch replicas) is says so = other_still config s message moment (ap caller_of is) so
  heard_still config s message moment (bodies.Epoch epoch end) is says so = other_still config s message moment (ap caller_of is) so
  heard_still config s message moment (bodies.Learned epoch handles) is says so = other_still config s message moment (ap caller_of is) so
  heard_still config s message moment (bodies.Behind epoch) is says so = other_still config s message moment (ap caller_of is) so

  -- ---- what is sent

  reply_so : (P : ReqId → Type 0) (body : Body) → RepliesTo P body → SaysSo body
  reply_so P (bodies.Call req call) is = absurd is
  reply_so P (bodies.Reply req result) is = tt
  reply_so P (bodies.About chunk said) is = tt
  reply_so P (bodies.Push req bytes) is = tt
  reply_so P (bodies.Done req result) is = tt
  reply_so P (bodies.Bytes req result) is = tt
  reply_so P (bodies.MakeCopy chunk at new_chunk stamp) is = tt
  reply_so P (bodies.Report epoch replicas) is = tt
  reply_so P (bodies.Epoch epoch end) is = tt
  reply_so P (bodies.Learned epoch handles) is = tt
  reply_so P (bodies.Behind epoch) is = tt

  replies_so : (P : ReqId → Type 0) (messages : List Message) → AllByRecursion (λ (m : Message). RepliesTo P m.body) messages → AllSo messages
  replies_so P [] all = tt
  replies_so P (m ∷ messages) all = (reply_so P m.body all.0, replies_so P messages all.1)

  unsure_so : (caller : Option ReqId) → AllSo (unsure caller)
  unsure_so None = tt
  unsure_so (Some req) = (tt, tt)

  refusal_so : (caller : Option ReqId) → AllSo (refusal_of_call caller)
  refusal_so None = tt
  refusal_so (Some req) = (tt, tt)

  by_server : (body : Body) → IsByServer body → SaysSo body
  by_server (bodies.Call req call) by = absurd by
  by_server (bodies.Reply req result) by = tt
  by_server (bodies.About chunk said) by = tt
  by_server (bodies.Push req bytes) by = tt
  by_server (bodies.Done req result) by = tt
  by_server (bodies.Bytes req result) by = tt
  by_server (bodies.MakeCopy chunk at new_chunk stamp) by = tt
  by_server (bodies.Report epoch replicas) by = tt
  by_server (bodies.Epoch epoch end) by = tt
  by_server (bodies.Learned epoch handles) by = tt
  by_server (bodies.Behind epoch) by = tt

  servers_so : (messages : List Message) → ByServer messages → AllSo messages
  servers_so [] by = tt
  servers_so (m ∷ messages) by = (by_server m.body by.0, servers_so messages by.1)

  pushed_so : (req : ReqId) (members bytes : List ℕ) → AllSo (pushes req members bytes)
  pushed_so req [] bytes = tt
  pushed_so req (member ∷ members) bytes = (tt, pushed_so req members bytes)

  both_so : (xs ys : List Message) → AllSo xs → AllSo ys → AllSo (xs ++ ys)
  both_so [] ys first second = second
  both_so (x ∷ xs) ys first second = (first.0, both_so xs ys first.1 second)

  request_so : (req : ReqId) (request : Request) → ((call : Call) → request ≡ requests.Call call → (req.client ≡ client) × (is_look call ≡ true)) → AllSo (messages_of req request)
  request_so req (requests.Call call) looks = (((looks call refl).0, inr (looks call refl).1), tt)
  request_so req (requests.Write handle members primary stamp op bytes) looks = both_so (pushes req (with_bytes members op) bytes) _ (pushed_so req (with_bytes members op) bytes) (tt, tt)
  request_so req (requests.Fetch to handle stamp epoch asked) looks = (tt, tt)

  -- ---- the master in its place

  module _ {D : Type 0} (seen : D → List ℕ) (failures : D → ℕ) where
    abbrev Left : MasterPlace D → List Message → Type 0
    Left place messages = StandsStillAt d client number place × AllSo messages

    done_still : (P : ReqId → Type 0) (t : Turn) (m after : MasterOf D) (turn : Told_turn) → AllByRecursion (λ (x : Message). RepliesTo P x.body) t.sent → TurnStill m.state t → IsDone t turn.sent.items turn.said after.state → Left (Standing after) turn.sent.items
    done_still P t m after turn sent so is = (subst Still (sym is.after) so.after, subst AllSo (sym is.sends) (replies_so P t.sent sent))

    cut_still : (caller : Option ReqId) (t : Turn) (m after : MasterOf D) (turn : Told_turn) (place : ℕ) → TurnStill m.state t → IsCut m.state caller t place turn.sent.items turn.said after.state → Left (Standing after) turn.sent.items
    cut_still caller t m after turn place so is = (subst Still (sym is.after) (so.cuts place is.within), subst AllSo (sym is.sends) (unsure_so caller))

    answers_still : (P : ReqId → Type 0) (caller : Option ReqId) (t : Turn) (m after : MasterOf D) (turn : Told_turn) → AllByRecursion (λ (x : Message). RepliesTo P x.body) t.sent → TurnStill m.state t → MasterAnswers seen failures caller t m (Ok turn) after → Left (Standing after) turn.sent.items
    answers_still P caller t m after turn sent so (inl is) = done_still P t m after turn sent so is.done
    answers_still P caller t m after turn sent so (inr (place, is)) = cut_still caller t m after turn place so is.cut

    as_still : (P : ReqId → Type 0) (b : Bool) (t steps : Turn) (m after : MasterOf D) (turn : Told_turn) → AllByRecursion (λ (x : Message). RepliesTo P x.body) t.sent → TurnStill m.state t → AnswersAs seen failures b t steps m turn after → Left (Standing after) turn.sent.items
    as_still P true t steps m after turn sent so (inl is) = done_still P t m after turn sent so is.done
    as_still P true t steps m after turn sent so (inr (place, is)) = cut_still None t m after turn place so is.cut
    as_still P false t steps m after turn sent so (inl is) = done_still P t m after turn sent so is.done
    as_still P false t steps m after turn sent so (inr (place, is)) = cut_still None t m after turn place so is.cut

    tick_still : (moment : Moment) (m after : MasterOf D) (turn : Told_turn) → Still m.state → AnswersTick seen failures moment m (Ok turn) after → Left (Standing after) turn.sent.items
    tick_still moment m after turn so (inl whole) =
        let only = ticks_concerned m.state moment in as_still (IsConcerned m.state None) (writes_one m.state (pressed_all m.state moment)) (tick m.state moment) (pressed_all m.state moment) m after turn only.sent (nobody_still m.state (tick m.state moment) only so) whole
    tick_still moment m after turn so (inr (sound, is_due, none, done)) =
        let only = lacking_only seen failures (λ r. ⊥) m.state moment in
        answers_still (IsConcerned m.state None) None (lacking (pressed_all m.state moment)) m after turn only.sent (nobody_still m.state (lacking (pressed_all m.state moment)) only so) done

    ticks_still : (moment : Moment) (old new : MasterPlace D) (turn : Told_turn) → StandsStillAt d client number old → MasterTicks seen failures moment old (Ok turn) new → Left new turn.sent.items
    ticks_still moment (Standing m) new turn so (after, is, answers) = (let left = tick_still moment m after turn so answers in (subst (StandsStillAt d client number) (sym is) left.0, left.1))
    ticks_still moment (Closed first second) new turn so meets = (subst (StandsStillAt d client number) (sym meets.0) tt, subst AllSo (sym meets.1) tt)
    ticks_still moment Away new turn so meets = (subst (StandsStillAt d client number) (sym meets.0) tt, subst AllSo (sym meets.1) tt)

    hears_still : (message : Message) (moment : Moment) (old new : MasterPlace D) (turn : Told_turn) → SaysSo message.body → StandsStillAt d client number old → MasterHears seen failures message moment old (Ok turn) new → Left new turn.sent.items
    hears_still message moment (Standing m) new turn says so (after, is, answers) =
        let only = messages_concerned m.config m.state message moment in
        let left = answers_still (IsConcerned m.state (caller_of message.body)) (caller_of message.body) (handle m.config m.state message moment) m after turn only.sent (heard_still m.config m.state message moment message.body refl says so) answers in
        (subst (StandsStillAt d client number) (sym is) left.0, left.1)
    hears_still message moment (Closed first second) new turn says so meets = (subst (StandsStillAt d client number) (sym meets.0) tt, subst AllSo (sym meets.1) (refusal_so (caller_of message.body)))
    hears_still message moment Away new turn says so meets = (subst (StandsStillAt d client number) (sym meets.0) tt, subst AllSo (sym meets.1) (refusal_so (caller_of message.body)))

    -- ---- an event

    module _ (armed : DiskId → ℕ → MasterPlace D → MasterPlace D) where
      abbrev Sent_so : Sent → Type 0
      Sent_so sent = AllSent (λ (m : Message). SaysSo m.body) sent

      record Leaves (outcome : Upshot) (new : Nodes D) : Type 0 where
        said : AllSo (sent_by outcome)
        master : StandsStillAt d client number new.master
        numbered : Numbered_all new.clients

      posts : (moment : Moment) (by : NodeId) (outcome : Upshot) (old : Sent) (result : Result (Unit {0}) Refusal) (new : Sent) → Tells seen failures armed moment by outcome old result new → Posts moment by (sent_by outcome) old new
      posts moment by (Ok (messages, said)) old result new (posted, is) = inl posted
      posts moment by (Err refusal) old result new (same, is) = inr same

      module _ (old : History D) (f : IsStill d client number old) (moment : Moment) (happening : Happening) (outcome : Upshot) where
        at_master : (place : MasterPlace D) (new : Nodes D) (messages : List Message) → new ≡ with_master place old.nodes → sent_by outcome ≡ messages → Left place messages → Leaves outcome new
        at_master place new messages same is left = subst (Leaves outcome) (sym same) (record { said = subst AllSo (sym is) left.1; master = left.0; numbered = f.numbered })

        elsewhere : (new : Nodes D) → new.clients ≡ old.nodes.clients → new.master ≡ old.nodes.master → AllSo (sent_by outcome) → Leaves outcome new
        elsewhere new clients master said = record { said = said; master = subst (StandsStillAt d client number) (sym master) f.master; numbered = subst Numbered_all (sym clients) f.numbered }

        at_client : (id : ClientId) (n after : Node) (new : Nodes D) → client_in old.nodes.clients id ≡ Some n → after.id ≡ n.id → (Waits n → Waits after) → new ≡ with_client id after old.nodes → AllSo (sent_by outcome) → Leaves outcome new
        at_client id n after new found own waits same said = subst (Leaves outcome) (sym same) (record { said = said; master = f.master; numbered = still_numbered old.nodes.clients id n after found own waits f.numbered })

        none_said : sent_by outcome ≡ [] → AllSo (sent_by outcome)
        none_said none = subst AllSo (sym none) tt

        leaves : (new : Nodes D) → IsLooking client (Comes (record { moment = moment; happening = happening })) → Part seen failures armed old moment happening outcome new → Leaves outcome new
        leaves new looking (Heard id message turn place it was to hears is same) = at_master place new turn.sent.items same (ap sent_by is) (hears_still message moment old.nodes.master place turn (f.sent id message was) f.master hears)
        leaves new looking (Ticked turn place it ticks is same) = at_master place new turn.sent.items same (ap sent_by is) (ticks_still moment old.nodes.master place turn f.master ticks)
        leaves new looking (Opened turn place it opens is same) = absurd (false≢true (sym (ap (λ h. spares_master (Comes (record { moment = moment; happening = h }))) it) ∙ looking.0))
        leaves new looking (Armed disk call it none same) = absurd (false≢true (sym (ap (λ h. spares_master (Comes (record { moment = moment; happening = h }))) it) ∙ looking.0))
        leaves new looking (Served by clients master) = elsewhere new clients master (servers_so (sent_by outcome) by)
        leaves new looking (Asked req request n it found low sends same) =
            at_client req.client n (asking n req.number) new found refl (λ waits k is. its_last is) same
            (subst AllSo (sym sends) (request_so (request_of n req.number) request (λ call is. looks call is (subst (λ h. AsksLooks client (Comes (record { moment = moment; happening = h }))) it looking.1))))
          where
            its_last : {a b : ℕ} → ◌≡◌ {A = Option ℕ} (Some a) (Some b) → b ≡ a
            its_last is = cc

            looks : (call : Call) → request ≡ requests.Call call → AsksLooks client (Comes (record { moment = moment; happening = happenings.Ask req request })) → ((request_of n req.number).client ≡ client) × (is_look call ≡ true)
            looks call is asks = (let so = subst (λ r. AsksLooks client (Comes (record { moment = moment; happening = happenings.Ask req r }))) is asks in (own_id old.nodes.clients f.numbered req.client n found ∙ so.0, so.1))
        leaves new looking (Told id message other n it was found none same) = (let kept = hearing_same message.body n in at_client other n (hearing (hears message.body n) n) new found kept.0 kept.2 same (none_said none))
        leaves new looking (Rested none same) = elsewhere new (ap (λ (n : Nodes D). n.clients) same) (ap (λ (n : Nodes D). n.master) same) (none_said none)

      step_still : (step : Step) (old new : History D) → Goes seen failures armed step old new → IsLooking client step → IsStill d client number old → IsStill d client number new
      step_still (Comes event) old new (said, h) looking f =
          let left = leaves old f event.moment event.happening h.outcome new.nodes looking (part_of seen failures armed old event.moment event.happening h.by h.outcome new.nodes h.at) in record {
            sent = posted_all (λ (m : Message). SaysSo m.body) event.moment h.by (sent_by h.outcome) old.sent new.sent (posts event.moment h.by h.outcome old.sent said new.sent h.tells) f.sent left.said;
            master = left.master;
            numbered = left.numbered;
          }
      step_still (Takes other) old new (found, taken, same) looking f = by_client (client_in old.nodes.clients other) refl taken
        where
          sent_so : Sent_so new.sent
          sent_so = subst Sent_so (sym same) f.sent

          by_found : (n after : Node) → client_in old.nodes.clients other ≡ Some n → after ≡ given_up n → new.nodes ≡ with_client other after old.nodes → IsStill d client number new
          by_found n after was gives there = record {
            sent = sent_so;
            master = subst (StandsStillAt d client number) (sym (ap (λ (x : Nodes D). x.master) there)) f.master;
            numbered = subst Numbered_all (sym (ap (λ (x : Nodes D). x.clients) there)) (still_numbered old.nodes.clients other n after was (ap (λ (x : Node). x.id) gives) (λ waits. subst Waits (sym gives) waits) f.numbered);
          }

          by_client : (o : Option Node) → client_in old.nodes.clients other ≡ o → MatchOption o ((new.nodes ≡ old.nodes) × (found ≡ None)) (λ n. (after : Node) × (new.nodes ≡ with_client other after old.nodes) × ((found ≡ n.reply) × (after ≡ given_up n))) → IsStill d client number new
          by_client None was (none, is) = record {
            sent = sent_so;
            master = subst (StandsStillAt d client number) (sym (ap (λ (x : Nodes D). x.master) none)) f.master;
            numbered = subst Numbered_all (sym (ap (λ (x : Nodes D). x.clients) none)) f.numbered;
          }
          by_client (Some n) was (after, there, did) = by_found n after was did.1 there

pub stays_still : {D : Type 0} (seen : D → List ℕ) (failures : D → ℕ) (armed : DiskId → ℕ → MasterPlace D → MasterPlace D) → StaysStill seen failures armed
stays_still {D} seen failures armed d client number [] old new same looking f = subst (IsStill d client number) (sym same) f
stays_still {D} seen failures armed d client number (step ∷ steps) old new (h, goes, rest) looking f =
    stays_still seen failures armed d client number steps h new rest looking.1 (step_still d client number seen failures armed step old h goes looking.0 f)
