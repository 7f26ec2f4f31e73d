-- What stays over steps: of each call that was sent, and of the state of a master that stands.
use Rattle.std.proofs.Common.{◌≡◌, ◌∙◌, inl, inr, ◌<◌, ◌++◌, ℕ, Bool, true, false, List, [], ◌∷◌, length, Option, Some, None, MatchOption, Result, Ok, Err, refl, sym, ap, subst}
use Rattle.std.specs.List.{AllByRecursion}
use Rattle.std.proofs.lemmas.Bool.{false≢true}
use Rattle.gs_base.specs.declared.numbers.ClientId.{ClientId}
use Rattle.gs_base.specs.declared.numbers.Moment.{Moment}
use Rattle.gs_base.specs.declared.numbers.ReqId.{ReqId}
use Rattle.gs_base.specs.declared.refusal.Refusal.{Refusal}
use Rattle.gs_client.specs.Nodes.{Node, given_up, hears, messages_of, pushes, request_of, with_bytes}
use Rattle.gs_master.specs.Masters.{MasterAnswers, MasterOf}
use Rattle.gs_master.specs.Ticking.{AnswersAs, AnswersTick, lacking, pressed_all, writes_one}
use Rattle.gs_master.specs.declared.turn.Turn.{Turn as Told_turn}
use Rattle.gs_msg.specs.declared.body.Body.{Body}
use Rattle.gs_msg.specs.declared.body.Body.TheVariants as bodies
use Rattle.gs_msg.specs.declared.call.Call.{Call}
use Rattle.gs_msg.specs.declared.event.DiskId.{DiskId}
use Rattle.gs_msg.specs.declared.event.Happening.{Happening}
use Rattle.gs_msg.specs.declared.event.Happening.TheVariants as happenings
use Rattle.gs_msg.specs.declared.event.Request.{Request}
use Rattle.gs_msg.specs.declared.event.Request.TheVariants as requests
use Rattle.gs_msg.specs.declared.message.Message.{Message}
use Rattle.gs_msg.specs.declared.message.MsgId.{MsgId}
use Rattle.gs_msg.specs.declared.node.NodeId.{NodeId}
use Rattle.gs_msg.specs.declared.node.NodeId.TheVariants as nodes
use Rattle.gs_master_spec.specs.Handling.{handle, tick}
use Rattle.gs_master_spec.specs.Outcomes.{IsCut, IsDone, caller_of, cut, unsure}
use Rattle.gs_master_spec.specs.State.{State, Turn, is_failed}
use Rattle.gs_laws_moves.specs.answers.Concerned.{IsConcerned, RepliesTo}
use Rattle.gs_laws_moves.proofs.lemmas.answers.Concerning.{messages_concerned, ticks_concerned}
use Rattle.gs_nodes.specs.Happenings.{MasterHears, MasterTicks, client_in, refusal_of_call}
use Rattle.gs_nodes.specs.Nodes.{Nodes, with_master}
use Rattle.gs_nodes.specs.declared.place.MasterPlace.{MasterPlace}
use Rattle.gs_nodes.specs.declared.place.MasterPlace.TheVariants.{Standing, Closed, Away}
use Rattle.gs_laws_parts.proofs.lemmas.server.Elsewhere.{ByServer}
use Rattle.gs_laws_parts.specs.server.Answering.{IsByServer}
use Rattle.gs_world.specs.Histories.{History, Tells, Upshot}
use Rattle.gs_world.specs.Runs.{Comes, Goes, Step, Takes}
use Rattle.gs_world.specs.Sent.{Sent, message_of}
use Rattle.gs_laws_lift.proofs.lemmas.stores.Posting.{posted_all}
use Rattle.gs_laws_lift.specs.stores.Going.{AllSent, Posts}
use Rattle.gs_laws_chunks.specs.answers.Answered.{sent_by, spares_master}
use Rattle.gs_laws_chunks.specs.answers.Changed.{CallsSo, IsSo, StandsSo}
use Rattle.gs_laws_chunks.proofs.lemmas.answers.Asked.{Numbered_all, Waits, hearing_same, lacking_only, own_id, still_numbered}
use Rattle.gs_laws_chunks.proofs.lemmas.answers.Parts.{Armed, Asked, Heard, Opened, Part, Rested, Served, Ticked, Told, asking, hearing, part_of, with_client}

-- Behind a turn the state is such, and so it is where a disk fails at one of its records.
pub record TurnSo (Such : State → Type 0) (s : State) (t : Turn) : Type 0 where
  pub after : Such t.after
  pub cuts : (place : ℕ) → place < length t.records → Such (cut s t.records place)

-- Such is what the master does with a message that was sent to it, and at a tick; and so is each call that a client asks.
pub record HappensSo {D : Type 0} (So : ReqId → Call → Type 0) (Such : State → Type 0) (old : History D) (moment : Moment) (happening : Happening) : Type 0 where
  pub hears : (id : MsgId) (message : Message) → message_of old.sent id ≡ Some message → message.to ≡ nodes.Master → (m : MasterOf D) → old.nodes.master ≡ Standing m → Such m.state → TurnSo Such m.state (handle m.config m.state message moment)
  pub ticks : (m : MasterOf D) → old.nodes.master ≡ Standing m → Such m.state → TurnSo Such m.state (tick m.state moment)
  pub lacks : (m : MasterOf D) → old.nodes.master ≡ Standing m → is_failed m.state.fault ≡ false → Such m.state → TurnSo Such m.state (lacking (pressed_all m.state moment))
  pub asks : (req : ReqId) (call : Call) (n : Node) → happening ≡ happenings.Ask req (requests.Call call) → n.id ≡ req.client → So (request_of n req.number) call

-- so it is of a step, and the master isn't started again
abbrev pub GoesSo : {D : Type 0} → (ReqId → Call → Type 0) → (State → Type 0) → History D → Step → Type 0
GoesSo So Such old (Comes event) = (spares_master (Comes event) ≡ true) × HappensSo So Such old event.moment event.happening
GoesSo So Such old (Takes client) = Unit {0}

module _ (So : ReqId → Call → Type 0) where
  abbrev AllSo : List Message → Type 0
  AllSo messages = AllByRecursion (λ (m : Message). CallsSo So m.body) messages

  -- ---- what is sent

  reply_so : (P : ReqId → Type 0) (body : Body) → RepliesTo P body → CallsSo So body
  reply_so P (bodies.Call req call) is = absurd is
  reply_so P body is = tt

  replies_so : (P : ReqId → Type 0) (messages : List Message) → AllByRecursion (λ (m : Message). RepliesTo P m.body) messages → AllSo messages
  replies_so P [] all = tt
  replies_so P (m ∷ messages) all = (reply_so P m.body all.0, replies_so P messages all.1)

  unsure_so : (caller : Option ReqId) → AllSo (unsure caller)
  unsure_so None = tt
  unsure_so (Some req) = (tt, tt)

  refusal_so : (caller : Option ReqId) → AllSo (refusal_of_call caller)
  refusal_so None = tt
  refusal_so (Some req) = (tt, tt)

  server_so : (body : Body) → IsByServer body → CallsSo So body
  server_so (bodies.Call req call) by = absurd by
  server_so body by = tt

  servers_so : (messages : List Message) → ByServer messages → AllSo messages
  servers_so [] by = tt
  servers_so (m ∷ messages) by = (server_so m.body by.0, servers_so messages by.1)

  pushed_so : (req : ReqId) (members bytes : List ℕ) → AllSo (pushes req members bytes)
  pushed_so req [] bytes = tt
  pushed_so req (member ∷ members) bytes = (tt, pushed_so req members bytes)

  both_so : (xs ys : List Message) → AllSo xs → AllSo ys → AllSo (xs ++ ys)
  both_so [] ys first second = second
  both_so (x ∷ xs) ys first second = (first.0, both_so xs ys first.1 second)

  request_so : (req : ReqId) (request : Request) → ((call : Call) → request ≡ requests.Call call → So req call) → AllSo (messages_of req request)
  request_so req (requests.Call call) calls = (calls call refl, tt)
  request_so req (requests.Write handle members primary stamp op bytes) calls = both_so (pushes req (with_bytes members op) bytes) _ (pushed_so req (with_bytes members op) bytes) (tt, tt)
  request_so req (requests.Fetch to handle stamp epoch asked) calls = (tt, tt)

  -- ---- the master in its place

  module _ (Such : State → Type 0) where
    module _ {D : Type 0} (seen : D → List ℕ) (failures : D → ℕ) where
      abbrev Left : MasterPlace D → List Message → Type 0
      Left place messages = StandsSo Such place × AllSo messages

      done_left : (P : ReqId → Type 0) (t : Turn) (m after : MasterOf D) (turn : Told_turn) → AllByRecursion (λ (x : Message). RepliesTo P x.body) t.sent → TurnSo Such m.state t → IsDone t turn.sent.items turn.said after.state → Left (Standing after) turn.sent.items
      done_left P t m after turn sent so is = (subst Such (sym is.after) so.after, subst AllSo (sym is.sends) (replies_so P t.sent sent))

      cut_left : (caller : Option ReqId) (t : Turn) (m after : MasterOf D) (turn : Told_turn) (place : ℕ) → TurnSo Such m.state t → IsCut m.state caller t place turn.sent.items turn.said after.state → Left (Standing after) turn.sent.items
      cut_left caller t m after turn place so is = (subst Such (sym is.after) (so.cuts place is.within), subst AllSo (sym is.sends) (unsure_so caller))

      answers_left : (P : ReqId → Type 0) (caller : Option ReqId) (t : Turn) (m after : MasterOf D) (turn : Told_turn) → AllByRecursion (λ (x : Message). RepliesTo P x.body) t.sent → TurnSo Such m.state t → MasterAnswers seen failures caller t m (Ok turn) after
          → Left (Standing after) turn.sent.items
      answers_left P caller t m after turn sent so (inl is) = done_left P t m after turn sent so is.done
      answers_left P caller t m after turn sent so (inr (place, is)) = cut_left caller t m after turn place so is.cut

      as_left : (P : ReqId → Type 0) (b : Bool) (t steps : Turn) (m after : MasterOf D) (turn : Told_turn) → AllByRecursion (λ (x : Message). RepliesTo P x.body) t.sent → TurnSo Such m.state t → AnswersAs seen failures b t steps m turn after → Left (Standing after) turn.sent.items
      as_left P true t steps m after turn sent so (inl is) = done_left P t m after turn sent so is.done
      as_left P true t steps m after turn sent so (inr (place, is)) = cut_left None t m after turn place so is.cut
      as_left P false t steps m after turn sent so (inl is) = done_left P t m after turn sent so is.done
      as_left P false t steps m after turn sent so (inr (place, is)) = cut_left None t m after turn place so is.cut

      tick_left : (moment : Moment) (m after : MasterOf D) (turn : Told_turn) → TurnSo Such m.state (tick m.state moment) → (is_failed m.state.fault ≡ false → TurnSo Such m.state (lacking (pressed_all m.state moment))) → AnswersTick seen failures moment m (Ok turn) after → Left (Standing after) turn.sent.items
      tick_left moment m after turn ticks lacks (inl whole) =
          let only = ticks_concerned m.state moment in as_left (IsConcerned m.state None) (writes_one m.state (pressed_all m.state moment)) (tick m.state moment) (pressed_all m.state moment) m after turn only.sent ticks whole
      tick_left moment m after turn ticks lacks (inr (sound, is_due, none, done)) =
          let only = lacking_only seen failures (λ r. ⊥) m.state moment in answers_left (IsConcerned m.state None) None (lacking (pressed_all m.state moment)) m after turn only.sent (lacks sound) done

      ticks_left : (moment : Moment) (old new : MasterPlace D) (turn : Told_turn) → ((m : MasterOf D) → old ≡ Standing m → Such m.state → TurnSo Such m.state (tick m.state moment))
          → ((m : MasterOf D) → old ≡ Standing m → is_failed m.state.fault ≡ false → Such m.state → TurnSo Such m.state (lacking (pressed_all m.state moment))) → StandsSo Such old → MasterTicks seen failures moment old (Ok turn) new → Left new turn.sent.items
      ticks_left moment (Standing m) new turn ticks lacks so (after, is, answers) = (let left = tick_left moment m after turn (ticks m refl so) (λ sound. lacks m refl sound so) answers in (subst (StandsSo Such) (sym is) left.0, left.1))
      ticks_left moment (Closed first second) new turn ticks lacks so meets = (subst (StandsSo Such) (sym meets.0) tt, subst AllSo (sym meets.1) tt)
      ticks_left moment Away new turn ticks lacks so meets = (subst (StandsSo Such) (sym meets.0) tt, subst AllSo (sym meets.1) tt)

      hears_left : (message : Message) (moment : Moment) (old new : MasterPlace D) (turn : Told_turn) → ((m : MasterOf D) → old ≡ Standing m → Such m.state → TurnSo Such m.state (handle m.config m.state message moment)) → StandsSo Such old
          → MasterHears seen failures message moment old (Ok turn) new → Left new turn.sent.items
      hears_left message moment (Standing m) new turn heard so (after, is, answers) =
          let only = messages_concerned m.config m.state message moment in
          let left = answers_left (IsConcerned m.state (caller_of message.body)) (caller_of message.body) (handle m.config m.state message moment) m after turn only.sent (heard m refl so) answers in (subst (StandsSo Such) (sym is) left.0, left.1)
      hears_left message moment (Closed first second) new turn heard so meets = (subst (StandsSo Such) (sym meets.0) tt, subst AllSo (sym meets.1) (refusal_so (caller_of message.body)))
      hears_left message moment Away new turn heard so meets = (subst (StandsSo Such) (sym meets.0) tt, subst AllSo (sym meets.1) (refusal_so (caller_of message.body)))

      -- ---- an event

      module _ (armed : DiskId → ℕ → MasterPlace D → MasterPlace D) where
        record Leaves (outcome : Upshot) (new : Nodes D) : Type 0 where
          said : AllSo (sent_by outcome)
          master : StandsSo Such new.master
          numbered : Numbered_all new.clients

        posts : (moment : Moment) (by : NodeId) (outcome : Upshot) (old : Sent) (result : Result (Unit {0}) Refusal) (new : Sent) → Tells seen failures armed moment by outcome old result new → Posts moment by (sent_by outcome) old new
        posts moment by (Ok (messages, said)) old result new (posted, is) = inl posted
        posts moment by (Err refusal) old result new (same, is) = inr same

        module _ (old : History D) (f : IsSo So Such old) (moment : Moment) (happening : Happening) (outcome : Upshot) where
          at_master : (place : MasterPlace D) (new : Nodes D) (messages : List Message) → new ≡ with_master place old.nodes → sent_by outcome ≡ messages → Left place messages → Leaves outcome new
          at_master place new messages same is left = subst (Leaves outcome) (sym same) (record { said = subst AllSo (sym is) left.1; master = left.0; numbered = f.numbered })

          elsewhere : (new : Nodes D) → new.clients ≡ old.nodes.clients → new.master ≡ old.nodes.master → AllSo (sent_by outcome) → Leaves outcome new
          elsewhere new clients master said = record { said = said; master = subst (StandsSo Such) (sym master) f.master; numbered = subst Numbered_all (sym clients) f.numbered }

          at_client : (id : ClientId) (n after : Node) (new : Nodes D) → client_in old.nodes.clients id ≡ Some n → after.id ≡ n.id → (Waits n → Waits after) → new ≡ with_client id after old.nodes → AllSo (sent_by outcome) → Leaves outcome new
          at_client id n after new found own waits same said = subst (Leaves outcome) (sym same) (record { said = said; master = f.master; numbered = still_numbered old.nodes.clients id n after found own waits f.numbered })

          none_said : sent_by outcome ≡ [] → AllSo (sent_by outcome)
          none_said none = subst AllSo (sym none) tt

          leaves : (new : Nodes D) → spares_master (Comes (record { moment = moment; happening = happening })) ≡ true → HappensSo So Such old moment happening → Part seen failures armed old moment happening outcome new → Leaves outcome new
          leaves new spares so (Heard id message turn place it was to hears is same) = at_master place new turn.sent.items same (ap sent_by is) (hears_left message moment old.nodes.master place turn (so.hears id message was to) f.master hears)
          leaves new spares so (Ticked turn place it ticks is same) = at_master place new turn.sent.items same (ap sent_by is) (ticks_left moment old.nodes.master place turn so.ticks so.lacks f.master ticks)
          leaves new spares so (Opened turn place it opens is same) = absurd (false≢true (sym (ap (λ h. spares_master (Comes (record { moment = moment; happening = h }))) it) ∙ spares))
          leaves new spares so (Armed disk call it none same) = absurd (false≢true (sym (ap (λ h. spares_master (Comes (record { moment = moment; happening = h }))) it) ∙ spares))
          leaves new spares so (Served by clients master) = elsewhere new clients master (servers_so (sent_by outcome) by)
          leaves new spares so (Asked req request n it found low sends same) =
              at_client req.client n (asking n req.number) new found refl (λ waits k is. its_last is) same
              (subst AllSo (sym sends) (request_so (request_of n req.number) request (λ call is. so.asks req call n (it ∙ ap (λ r. happenings.Ask req r) is) (own_id old.nodes.clients f.numbered req.client n found))))
            where
              its_last : {a b : ℕ} → ◌≡◌ {A = Option ℕ} (Some a) (Some b) → b ≡ a
              its_last is = cc
          leaves new spares so (Told id message other n it was found none same) = (let kept = hearing_same message.body n in at_client other n (hearing (hears message.body n) n) new found kept.0 kept.2 same (none_said none))
          leaves new spares so (Rested none same) = elsewhere new (ap (λ (n : Nodes D). n.clients) same) (ap (λ (n : Nodes D). n.master) same) (none_said none)

        -- So it is over each step.
        pub step_so : (step : Step) (old new : History D) → Goes seen failures armed step old new → GoesSo So Such old step → IsSo So Such old → IsSo So Such new
        step_so (Comes event) old new (said, h) so f =
            let left = leaves old f event.moment event.happening h.outcome new.nodes so.0 so.1 (part_of seen failures armed old event.moment event.happening h.by h.outcome new.nodes h.at) in record {
              sent = posted_all (λ (m : Message). CallsSo So m.body) event.moment h.by (sent_by h.outcome) old.sent new.sent (posts event.moment h.by h.outcome old.sent said new.sent h.tells) f.sent left.said;
              master = left.master;
              numbered = left.numbered;
            }
        step_so (Takes other) old new (found, taken, same) so f = by_client (client_in old.nodes.clients other) refl taken
          where
            sent_so : AllSent (λ (m : Message). CallsSo So m.body) new.sent
            sent_so = subst (AllSent (λ (m : Message). CallsSo So m.body)) (sym same) f.sent

            by_found : (n after : Node) → client_in old.nodes.clients other ≡ Some n → after ≡ given_up n → new.nodes ≡ with_client other after old.nodes → IsSo So Such new
            by_found n after was gives there = record {
              sent = sent_so;
              master = subst (StandsSo Such) (sym (ap (λ (x : Nodes D). x.master) there)) f.master;
              numbered = subst Numbered_all (sym (ap (λ (x : Nodes D). x.clients) there)) (still_numbered old.nodes.clients other n after was (ap (λ (x : Node). x.id) gives) (λ waits. subst Waits (sym gives) waits) f.numbered);
            }

            by_client : (o : Option Node) → client_in old.nodes.clients other ≡ o → MatchOption o ((new.nodes ≡ old.nodes) × (found ≡ None)) (λ n. (after : Node) × (new.nodes ≡ with_client other after old.nodes) × ((found ≡ n.reply) × (after ≡ given_up n))) → IsSo So Such new
            by_client None was (none, is) = record {
              sent = sent_so;
              master = subst (StandsSo Such) (sym (ap (λ (x : Nodes D). x.master) none)) f.master;
              numbered = subst Numbered_all (sym (ap (λ (x : Nodes D). x.clients) none)) f.numbered;
            }
            by_client (Some n) was (after, there, did) = by_found n after was did.1 there
