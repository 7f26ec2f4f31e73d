-- A change of the tree that is under way, and what stands once its client has a reply.
use Rattle.std.proofs.Common.{◌≡◌, ◌∙◌, inl, inr, ◌<◌, ◌≤◌, ◌++◌, ℕ, suc, Bool, true, false, List, [], ◌∷◌, Option, Some, Result, Ok, Err, refl, sym, ap, subst, arith}
use Rattle.std.specs.List.{AllByRecursion}
use Rattle.std.proofs.lemmas.Bool.{false≢true}
use Rattle.gs_base.specs.Told.{IsNumber}
use Rattle.gs_base.specs.declared.numbers.ClientId.{ClientId}
use Rattle.gs_base.specs.declared.numbers.Moment.{Moment}
use Rattle.gs_base.specs.declared.numbers.ReqId.{ReqId}
use Rattle.gs_base.specs.declared.refusal.Refusal.{Refusal}
use Rattle.gs_base.specs.declared.refusal.Refusal.TheVariants as refusals
use Rattle.gs_client.specs.Nodes.{Node, request_of}
use Rattle.gs_master.specs.Masters.{MasterOf}
use Rattle.gs_master.specs.Ticking.{lacking, pressed_all}
use Rattle.gs_msg.specs.declared.answer.Answer.{Answer}
use Rattle.gs_msg.specs.declared.body.Body.{Body}
use Rattle.gs_msg.specs.declared.body.Body.TheVariants as bodies
use Rattle.gs_msg.specs.declared.call.Call.{Call}
use Rattle.gs_msg.specs.declared.call.Call.TheVariants as calls
use Rattle.gs_msg.specs.declared.event.DiskId.{DiskId}
use Rattle.gs_msg.specs.declared.event.Happening.{Happening}
use Rattle.gs_msg.specs.declared.event.Happening.TheVariants as happenings
use Rattle.gs_msg.specs.declared.event.Request.TheVariants as requests
use Rattle.gs_msg.specs.declared.message.Message.{Message}
use Rattle.gs_msg.specs.declared.message.MsgId.{MsgId}
use Rattle.gs_msg.specs.declared.node.NodeId.{NodeId}
use Rattle.gs_msg.specs.declared.node.NodeId.TheVariants as nodes
use Rattle.gs_master_spec.specs.Durable.{Durable}
use Rattle.gs_master_spec.specs.Handling.{handle, new_call, tick}
use Rattle.gs_master_spec.specs.State.{State, Turn, is_failed, is_kept}
use Rattle.gs_master_spec.specs.Volatile.{is_pending}
use Rattle.gs_laws_master.specs.Standing.{Comes as HearsAt, IsFirm, IsNamedBody, IsNamedCall}
use Rattle.gs_laws_master.specs.Written.{IsSteady}
use Rattle.gs_laws_moves.specs.answers.Changes.{Changes, edit_for, is_change}
use Rattle.gs_laws_moves.specs.answers.Resting.{HasHad, LeavesNames}
use Rattle.gs_laws_moves.specs.moves.Epochs.{EndsOnce}
use Rattle.gs_laws_moves.specs.moves.ForCalls.{IsMadeWellFor}
use Rattle.gs_laws_moves.specs.moves.Laws.{said_from}
use Rattle.gs_laws_moves.proofs.lemmas.answers.Changes.{changes_are_not_old, changes_at_once, refused_changes_leave}
use Rattle.gs_laws_moves.proofs.lemmas.answers.Concerning.{ticks_concerned}
use Rattle.gs_laws_moves.proofs.lemmas.answers.Resting.{had_not_new}
use Rattle.gs_laws_moves.proofs.lemmas.moves.Stands.{events_stand_for}
use Rattle.gs_nodes.specs.Happenings.{client_in}
use Rattle.gs_nodes.specs.declared.place.MasterPlace.{MasterPlace}
use Rattle.gs_nodes.specs.declared.place.MasterPlace.TheVariants.{Standing, Closed, Away}
use Rattle.gs_world.specs.Histories.{History}
use Rattle.gs_world.specs.Runs.{Comes, Goes, RunsTo, Step, Takes}
use Rattle.gs_world.specs.Sent.{message_of}
use Rattle.gs_laws_lift.specs.stores.Going.{AllSent}
use Rattle.gs_laws_chunks.specs.answers.Alone.{IsAnsweredAlone}
use Rattle.gs_laws_chunks.specs.answers.Answered.{AsksFresh, WasSaid}
use Rattle.gs_laws_chunks.specs.answers.Asked.{AreAsked, HasAsked, SaysOf}
use Rattle.gs_laws_chunks.specs.answers.Behind.{HasAnswer, asks_call}
use Rattle.gs_laws_chunks.specs.answers.Calm.{IsCalm, IsCalmAt}
use Rattle.gs_laws_chunks.specs.answers.Changed.{CallsSo, ChangesAreNeverOld, ChangesLeaveStill, ChangesStayCalm, ChangesStayUnderWay, HasRefusal, IsAt, IsChanged, IsEdited, IsLeft, IsOwnLooksOrOld, IsSo, IsUnderWay, RefusedChangesLeaveStill, StandsEither, StandsSo}
use Rattle.gs_laws_chunks.specs.answers.Resting.{AsksLooks, IsLooking, IsOldOrLooks, IsStill, StandsStill, StandsStillAt}
use Rattle.gs_laws_chunks.specs.answers.Served.{AreServed, IsUnjudged}
use Rattle.gs_laws_chunks.proofs.lemmas.answers.Answered.{lone_answers_are_made}
use Rattle.gs_laws_chunks.proofs.lemmas.answers.Asked.{lacking_only}
use Rattle.gs_laws_chunks.proofs.lemmas.answers.Behind.{SaidOrFailed, SaidThere, all_back, all_front, all_one_more, all_spare, firm_so, made_there, run_more, said_there}
use Rattle.gs_laws_chunks.proofs.lemmas.answers.Calm.{begin_is, handle_calm, is_begin, lacking_calm, tick_calm, unbegun_calm}
use Rattle.gs_laws_chunks.proofs.lemmas.answers.Changing.{as_old, edited_then, firm_changes, heard_either, nobody_either, refused_changes_had}
use Rattle.gs_laws_chunks.proofs.lemmas.answers.Resting.{stays_still}
use Rattle.gs_laws_chunks.proofs.lemmas.answers.Served.{lone_refusals_are_made}
use Rattle.gs_laws_chunks.proofs.lemmas.answers.Sparing.{AllSpare, lasts_spared}
use Rattle.gs_laws_chunks.proofs.lemmas.answers.Staying.{GoesSo, HappensSo, TurnSo, step_so}
use Rattle.gs_laws_chunks.proofs.lemmas.calls.Turns.{steady_there}
use Rattle.gs_laws_world.proofs.lemmas.steady.Keeping.{run_keeps, step_keeps}
use Rattle.gs_laws_world.specs.steady.Saying.{IsStepWithin, KeepsTypes, MayBeHeard, MayBeSaid}
use Rattle.gs_laws_world.specs.steady.Through.{LastsThrough}

below_itself : (n : ℕ) → n ≤ n
below_itself n = omega arith

node_is : {a b : Node} → ◌≡◌ {A = Option Node} (Some a) (Some b) → a ≡ b
node_is is = cc

change_alone : (call : Call) → is_change call ≡ true → IsAnsweredAlone call
change_alone call is config s req moment = changes_at_once config s req moment call is

module _ {D : Type 0} (seen : D → List ℕ) (failures : D → ℕ) (armed : DiskId → ℕ → MasterPlace D → MasterPlace D) where
  -- ---- over steps, whatever stays over each

  module _ (client : ClientId) (So : ReqId → Call → Type 0) (Such : State → Type 0)
      (goes_so : (step : Step) (old : History D) → IsLooking client step → IsStepWithin step → KeepsTypes old → LastsThrough seen old.nodes.master → IsSo So Such old → GoesSo So Such old step) where
    run_so : (steps : List Step) (old new : History D) → RunsTo seen failures armed steps old new → AllByRecursion IsStepWithin steps → AllByRecursion (IsLooking client) steps → KeepsTypes old → LastsThrough seen old.nodes.master → IsSo So Such old → IsSo So Such new
    run_so [] old new same within looking types lasts so = subst (λ (h : History D). IsSo So Such h) (sym same) so
    run_so (step ∷ steps) old new (mid, goes, rest) within looking types lasts so =
        run_so steps mid new rest within.1 looking.1 (step_keeps seen failures armed step old mid goes within.0 types) (lasts_spared seen failures armed (step ∷ []) old mid (mid, goes, refl) (looking.0.0, tt) (within.0, tt) types lasts)
        (step_so So Such seen failures armed step old mid goes (goes_so step old looking.0 within.0 types lasts so) so)

    -- from where a call is asked
    asked_so : (old asked new : History D) (moment : Moment) (req : ReqId) (call : Call) (steps : List Step) → KeepsTypes old → LastsThrough seen old.nodes.master → AsksFresh seen failures armed old moment req call asked → RunsTo seen failures armed steps asked new
        → AllByRecursion IsStepWithin (asks_call moment req call ∷ steps) → AllByRecursion (IsLooking client) steps → GoesSo So Such old (asks_call moment req call) → IsSo So Such old → IsSo So Such new
    asked_so old asked new moment req call steps types lasts x runs within looking goes so =
        let first : Goes seen failures armed (asks_call moment req call) old asked = (Ok tt, x.happens) in
        run_so steps asked new runs within.1 looking (step_keeps seen failures armed (asks_call moment req call) old asked first within.0 types)
        (lasts_spared seen failures armed (asks_call moment req call ∷ []) old asked (asked, first, refl) (refl, tt) (within.0, tt) types lasts) (step_so So Such seen failures armed (asks_call moment req call) old asked first goes so)

  -- ---- under way

  module _ (d : Durable) (client : ClientId) (number : ℕ) (req : ReqId) (call : Call) (is : is_change call ≡ true) (mine : req.client ≡ client) where
    abbrev So : ReqId → Call → Type 0
    So = IsOwnLooksOrOld client number req call

    abbrev Either : State → Type 0
    Either = StandsEither d client number req call

    abbrev Way : History D → Type 0
    Way h = IsUnderWay d client number req call h

    -- what may be heard there
    said_at : (old : History D) → KeepsTypes old → (id : MsgId) (message : Message) → message_of old.sent id ≡ Some message → message.to ≡ nodes.Master → MayBeHeard message.body
    said_at old types id message was to = subst (λ (n : NodeId). MayBeSaid n message.body) to (types.sent id message was)

    -- what the master does
    hears_so : (old : History D) (moment : Moment) → IsNumber moment.0 → KeepsTypes old → LastsThrough seen old.nodes.master → AllSent (λ (m : Message). CallsSo So m.body) old.sent
        → (id : MsgId) (message : Message) → message_of old.sent id ≡ Some message → message.to ≡ nodes.Master → (m : MasterOf D) → old.nodes.master ≡ Standing m → Either m.state → TurnSo Either m.state (handle m.config m.state message moment)
    hears_so old moment bound types lasts sent id message was to m at so =
        heard_either d client number req call is mine m.config m.state message moment (said_at old types id message was to).named bound (firm_so seen failures armed m (subst (LastsThrough seen) at lasts)) (sent id message was) so

    abbrev AsksSo : Happening → Type 0
    AsksSo happening = (other : ReqId) (said : Call) (n : Node) → happening ≡ happenings.Ask other (requests.Call said) → n.id ≡ other.client → So (request_of n other.number) said

    happens_so : (old : History D) (moment : Moment) (happening : Happening) → IsNumber moment.0 → KeepsTypes old → LastsThrough seen old.nodes.master → AllSent (λ (m : Message). CallsSo So m.body) old.sent → AsksSo happening → HappensSo So Either old moment happening
    happens_so old moment happening bound types lasts sent asks = record {
      hears = hears_so old moment bound types lasts sent;
      ticks = λ m at so. nobody_either d client number req call is mine m.state (tick m.state moment) (ticks_concerned m.state moment) so;
      lacks = λ m at sound so. nobody_either d client number req call is mine m.state (lacking (pressed_all m.state moment)) (lacking_only seen failures (λ r. ⊥) m.state moment) so;
      asks = asks;
    }

    -- while the client looks
    asks_looking : (moment : Moment) (happening : Happening) → AsksLooks client (Comes (record { moment = moment; happening = happening })) → AsksSo happening
    asks_looking moment happening looking other said n it own = (let looks = subst (λ h. AsksLooks client (Comes (record { moment = moment; happening = h }))) it looking in (own ∙ looks.0, inr (inl looks.1)))

    goes_looking : (step : Step) (old : History D) → IsLooking client step → IsStepWithin step → KeepsTypes old → LastsThrough seen old.nodes.master → Way old → GoesSo So Either old step
    goes_looking (Comes event) old looking within types lasts way = (looking.0, happens_so old event.moment event.happening within.0 types lasts way.sent (asks_looking event.moment event.happening looking.1))
    goes_looking (Takes other) old looking within types lasts way = tt

    -- where it asks
    ask_is : {a b : ReqId} {c e : Call} → happenings.Ask a (requests.Call c) ≡ happenings.Ask b (requests.Call e) → (a ≡ b) × (c ≡ e)
    ask_is it = (cc, cc)

    own_request : (n : Node) (other : ReqId) → n.id ≡ other.client → other ≡ req → request_of n other.number ≡ req
    own_request n other own same = (let c : n.id ≡ req.client = own ∙ ap (λ (r : ReqId). r.client) same in let k : other.number ≡ req.number = ap (λ (r : ReqId). r.number) same in λ i. record { client = c i; number = k i })

    asks_own : AsksSo (happenings.Ask req (requests.Call call))
    asks_own other said n it own = (let same = ask_is it in (own ∙ (ap (λ (r : ReqId). r.client) (sym same.0) ∙ mine), inr (inr (own_request n other own (sym same.0), sym same.1))))

    goes_asking : (old : History D) (moment : Moment) → IsStepWithin (asks_call moment req call) → KeepsTypes old → LastsThrough seen old.nodes.master → Way old → GoesSo So Either old (asks_call moment req call)
    goes_asking old moment within types lasts way = (refl, happens_so old moment (happenings.Ask req (requests.Call call)) within.0 types lasts way.sent asks_own)

    -- what was called before
    sent_before : (old : History D) → AreAsked seen old → IsStill d client number old → (node : Node) → client_in old.nodes.clients req.client ≡ Some node → node.last < req.number → AllSent (λ (m : Message). CallsSo So m.body) old.sent
    sent_before old are still node there fresh id message was = old_so message.from message.body (are.sent id message was) (still.sent id message was)
      where
        up_to : (a b c e : ℕ) → a ≤ b → b ≡ c → c < e → a ≤ e
        up_to a b c e first same less = omega arith

        below : (other : ReqId) → HasAsked old.nodes.clients other → other.client ≡ req.client → other.number ≤ req.number
        below other has same = up_to other.number has.node.last node.last req.number has.number (ap (λ (n : Node). n.last) (node_is (sym (subst (λ c. client_in old.nodes.clients c ≡ Some has.node) same has.there) ∙ there))) fresh

        old_so : (from : NodeId) (body : Body) → SaysOf (HasAsked old.nodes.clients) from body → IsOldOrLooks client number body → CallsSo So body
        old_so from (bodies.Call other said) of (same, inl low) = (same, inl (low, below other of.1 (same ∙ sym mine)))
        old_so from (bodies.Call other said) of (same, inr looks) = (same, inr (inl looks))
        old_so from body of says = tt

    at_first : (place : MasterPlace D) → StandsStillAt d client number place → StandsSo Either place
    at_first (Standing m) so = inl so
    at_first (Closed first second) so = tt
    at_first Away so = tt

    begins : (old : History D) → AreAsked seen old → IsStill d client number old → (node : Node) → client_in old.nodes.clients req.client ≡ Some node → node.last < req.number → Way old
    begins old are still node there fresh = record { sent = sent_before old are still node there fresh; master = at_first old.nodes.master still.master; numbered = still.numbered }

    pub from_ask : (old asked new : History D) (moment : Moment) (steps : List Step) → AreAsked seen old → KeepsTypes old → LastsThrough seen old.nodes.master → IsStill d client number old → AsksFresh seen failures armed old moment req call asked → RunsTo seen failures armed steps asked new
        → AllByRecursion IsStepWithin (asks_call moment req call ∷ steps) → AllByRecursion (IsLooking client) steps → Way new
    from_ask old asked new moment steps are types lasts still x runs within looking =
        let begun : Way old = begins old are still x.node x.there x.fresh in asked_so client So Either goes_looking old asked new moment req call steps types lasts x runs within looking (goes_asking old moment within.0 types lasts begun) begun

    -- ---- no prepare is begun meanwhile

    abbrev Calmly : State → Type 0
    Calmly s = Either s × IsCalm s

    both_so : (s : State) (t : Turn) → TurnSo Either s t → IsCalm t.after → TurnSo Calmly s t
    both_so s t so calm = record { after = (so.after, calm); cuts = λ place within. (so.cuts place within, inl refl) }

    no_begin : is_change calls.PrepareBegin ≡ true → ⊥
    no_begin same = false≢true same

    -- what begins one is old there
    begin_old : (body : Body) → CallsSo So body → is_begin body ≡ true → IsOldOrLooks client number body
    begin_old body says begin = (let found = begin_is body begin in subst (IsOldOrLooks client number) (sym found.1) (by_says found.0 (subst (CallsSo So) found.1 says)))
      where
        by_says : (other : ReqId) → CallsSo So (bodies.Call other calls.PrepareBegin) → IsOldOrLooks client number (bodies.Call other calls.PrepareBegin)
        by_says other (same, inl low) = (same, inl low.0)
        by_says other (same, inr (inl looks)) = (same, inr looks)
        by_says other (same, inr (inr own)) = absurd (no_begin (subst (λ c. is_change c ≡ true) (sym own.1) is))

    heard_calm : (m : MasterOf D) (message : Message) (moment : Moment) → CallsSo So message.body → (is_failed m.state.fault ≡ false → EndsOnce m.config (IsMadeWellFor m.config (said_from message.from message.body)) m.state (handle m.config m.state message moment)) → Either m.state → IsCalm m.state
        → IsCalm (handle m.config m.state message moment).after
    heard_calm m message moment says once (inr new) calm = handle_calm new.durable client (suc req.number) m.config m.state new.still message moment (as_old d client number req call is mine message.body says) once calm
    heard_calm m message moment says once (inl so) calm = by_begin (is_begin message.body) refl
      where
        by_begin : (b : Bool) → is_begin message.body ≡ b → IsCalm (handle m.config m.state message moment).after
        by_begin true begin = handle_calm d client number m.config m.state so message moment (begin_old message.body says begin) once calm
        by_begin false none = unbegun_calm m.config m.state message moment none once calm

    steady_at : (old : History D) → LastsThrough seen old.nodes.master → (m : MasterOf D) → old.nodes.master ≡ Standing m → is_failed m.state.fault ≡ false → IsSteady m.state
    steady_at old lasts m at sound = steady_there seen old.nodes.master m at sound lasts

    calmly_so : (old : History D) (moment : Moment) (happening : Happening) → IsNumber moment.0 → KeepsTypes old → LastsThrough seen old.nodes.master → AllSent (λ (m : Message). CallsSo So m.body) old.sent → AsksSo happening → HappensSo So Calmly old moment happening
    calmly_so old moment happening bound types lasts sent asks = (let so = happens_so old moment happening bound types lasts sent asks in record {
      hears = λ id message was to m at both.
          both_so m.state (handle m.config m.state message moment) (so.hears id message was to m at both.0)
          (heard_calm m message moment (sent id message was)
          (λ sound. events_stand_for m.config m.state (HearsAt message moment) ((said_at old types id message was to).named, bound) ((said_at old types id message was to).heard m.state.durable.names) (steady_at old lasts m at sound)) both.0 both.1);
      ticks = λ m at both. both_so m.state (tick m.state moment) (so.ticks m at both.0) (tick_calm m.config m.state moment (steady_at old lasts m at) both.1);
      lacks = λ m at sound both. both_so m.state (lacking (pressed_all m.state moment)) (so.lacks m at sound both.0) (lacking_calm m.config m.state moment sound (steady_at old lasts m at) both.1);
      asks = asks;
    })

    calmly_looking : (step : Step) (old : History D) → IsLooking client step → IsStepWithin step → KeepsTypes old → LastsThrough seen old.nodes.master → IsSo So Calmly old → GoesSo So Calmly old step
    calmly_looking (Comes event) old looking within types lasts way = (looking.0, calmly_so old event.moment event.happening within.0 types lasts way.sent (asks_looking event.moment event.happening looking.1))
    calmly_looking (Takes other) old looking within types lasts way = tt

    calm_first : (place : MasterPlace D) → StandsStillAt d client number place → IsCalmAt place → StandsSo Calmly place
    calm_first (Standing m) so calm = (inl so, calm)
    calm_first (Closed first second) so calm = tt
    calm_first Away so calm = tt

    calm_last : (place : MasterPlace D) → StandsSo Calmly place → IsCalmAt place
    calm_last (Standing m) so = so.1
    calm_last (Closed first second) so = tt
    calm_last Away so = tt

    pub calm_from_ask : (old asked new : History D) (moment : Moment) (steps : List Step) → AreAsked seen old → KeepsTypes old → LastsThrough seen old.nodes.master → IsStill d client number old → IsCalmAt old.nodes.master → AsksFresh seen failures armed old moment req call asked
        → RunsTo seen failures armed steps asked new → AllByRecursion IsStepWithin (asks_call moment req call ∷ steps) → AllByRecursion (IsLooking client) steps → IsCalmAt new.nodes.master
    calm_from_ask old asked new moment steps are types lasts still calm x runs within looking =
        let begun : IsSo So Calmly old = record { sent = sent_before old are still x.node x.there x.fresh; master = calm_first old.nodes.master still.master calm; numbered = still.numbered } in
        calm_last new.nodes.master
        (asked_so client So Calmly calmly_looking old asked new moment req call steps types lasts x runs within looking (refl, calmly_so old moment (happenings.Ask req (requests.Call call)) within.0.0 types lasts begun.sent asks_own) begun).master

  -- ---- the turn of the call, of which its client has a reply

  module _ (d : Durable) (client : ClientId) (number : ℕ) (req : ReqId) (call : Call) (is : is_change call ≡ true) (mine : req.client ≡ client) (old asked mid : History D) (moment : Moment) (steps : List Step) (are : AreAsked seen old) (types : KeepsTypes old)
      (lasts : LastsThrough seen old.nodes.master) (still : IsStill d client number old) (x : AsksFresh seen failures armed old moment req call asked) (all_within : AllByRecursion IsStepWithin (asks_call moment req call ∷ steps)) (looking : AllByRecursion (IsLooking client) steps)
      (result : Result Answer Refusal) (made : WasSaid seen failures armed steps asked mid req call result) where
    abbrev ask : Step
    ask = asks_call moment req call

    parts_within : AllByRecursion IsStepWithin (made.before ++ Comes made.event ∷ made.after)
    parts_within = subst (AllByRecursion IsStepWithin) made.parts all_within.1

    here_within : AllByRecursion IsStepWithin (Comes made.event ∷ made.after)
    here_within = all_back IsStepWithin made.before (Comes made.event ∷ made.after) parts_within

    before_within : AllByRecursion IsStepWithin made.before
    before_within = all_front IsStepWithin made.before (Comes made.event ∷ made.after) parts_within

    parts_look : AllByRecursion (IsLooking client) (made.before ++ Comes made.event ∷ made.after)
    parts_look = subst (AllByRecursion (IsLooking client)) made.parts looking

    here_look : AllByRecursion (IsLooking client) (Comes made.event ∷ made.after)
    here_look = all_back (IsLooking client) made.before (Comes made.event ∷ made.after) parts_look

    before_look : AllByRecursion (IsLooking client) made.before
    before_look = all_front (IsLooking client) made.before (Comes made.event ∷ made.after) parts_look

    way_now : IsUnderWay d client number req call made.now
    way_now = from_ask d client number req call is mine old asked made.now moment made.before are types lasts still x made.first (all_within.0, before_within) before_look

    way_next : IsUnderWay d client number req call made.next
    way_next =
        from_ask d client number req call is mine old asked made.next moment (made.before ++ Comes made.event ∷ []) are types lasts still x (run_more seen failures armed made.before (Comes made.event) asked made.now made.next made.first (made.said, made.happens))
        (all_within.0, all_one_more IsStepWithin made.before (Comes made.event) before_within here_within.0) (all_one_more (IsLooking client) made.before (Comes made.event) before_look here_look.0)

    to_now : RunsTo seen failures armed (ask ∷ made.before) old made.now
    to_now = (asked, (Ok tt, x.happens), made.first)

    types_now : KeepsTypes made.now
    types_now = run_keeps seen failures armed (ask ∷ made.before) old made.now to_now (all_within.0, before_within) types

    before_spare : AllSpare (ask ∷ made.before)
    before_spare = (refl, all_spare client made.before before_look)

    lasts_now : LastsThrough seen made.now.nodes.master
    lasts_now = lasts_spared seen failures armed (ask ∷ made.before) old made.now to_now before_spare (all_within.0, before_within) types lasts

    abbrev s : State
    s = made.answers.master.state

    abbrev t : Turn
    t = new_call made.answers.master.config made.answers.master.state req made.event.moment call

    firm : is_failed s.fault ≡ false → IsFirm s
    firm = firm_so seen failures armed made.answers.master (subst (LastsThrough seen) made.answers.stands lasts_now)

    named : IsNamedCall call
    named =
        let said : MayBeHeard made.answers.message.body = subst (λ (n : NodeId). MayBeSaid n made.answers.message.body) made.answers.to (types_now.sent made.answers.id made.answers.message made.answers.was) in
        subst IsNamedBody made.answers.asks said.named

    -- its moment is that of a step since the call was asked
    since_asked : (now : Moment) → AllByRecursion (IsAt now) steps → made.event.moment ≡ now
    since_asked now all = (all_back (IsAt now) made.before (Comes made.event ∷ made.after) (subst (AllByRecursion (IsAt now)) made.parts all)).0

    -- the call was new, so the old names stood
    stood : StandsStill d client number s
    stood = by_either (subst (StandsSo (StandsEither d client number req call)) made.answers.stands way_now.master)
      where
        by_either : StandsEither d client number req call s → StandsStill d client number s
        by_either (inl so) = so
        by_either (inr new) = absurd (had_not_new s req.client req.number req.number (subst (λ k. HasHad s k req.number) (sym mine) new.still.had) (below_itself req.number) made.answers.new)

    none_waits : (other : ReqId) → is_pending t.after.volatile.pending other ≡ true → ⊥
    none_waits other waits = stood.none other ((change_alone call is made.answers.master.config s req made.event.moment).1.waits other waits)

    -- behind it
    module _ (there : SaidThere seen failures armed made.now made.event.moment made.answers.master req call result made.next.nodes) where
      still_next : (e : Durable) → t.after.durable.names ≡ e.names → t.after.durable.next_hidden ≡ e.next_hidden → t.after.durable.phase ≡ e.phase → t.after.durable.epoch ≡ e.epoch → HasHad t.after req.client req.number → IsStill e client (suc req.number) made.next
      still_next e names hidden phase epoch had = record {
        sent = λ id message was. as_old d client number req call is mine message.body (way_next.sent id message was);
        master = subst (StandsStillAt e client (suc req.number)) (sym there.stands)
            (subst (StandsStill e client (suc req.number)) (sym there.is) (record { names = names; hidden = hidden; phase = phase; epoch = epoch; none = none_waits; had = subst (λ k. HasHad t.after k req.number) mine had }));
        numbered = way_next.numbered;
      }

      still_mid : (e : Durable) → IsStill e client (suc req.number) made.next → IsStill e client (suc req.number) mid
      still_mid e next = stays_still seen failures armed e client (suc req.number) made.after made.next mid made.rest here_look.1 next

  -- ---- an answer

  module _ (d : Durable) (client : ClientId) (number : ℕ) (old mid : History D) (call : Call) (answer : Answer) (is : is_change call ≡ true) (are : AreAsked seen old) (types : KeepsTypes old) (lasts : LastsThrough seen old.nodes.master) (still : IsStill d client number old)
      (c : HasAnswer seen failures armed client old call answer mid) where
    made : WasSaid seen failures armed c.steps c.asked mid c.req call (Ok answer)
    made = (lone_answers_are_made seen failures armed old c.asked mid c.moment c.req call c.steps c.node answer are c.asks (change_alone call is) c.runs (all_spare client c.steps c.looking)
        (subst (λ k. client_in mid.nodes.clients k ≡ Some c.node) (sym c.own) c.there) c.last c.reply).0

    there : SaidThere seen failures armed made.now made.event.moment made.answers.master c.req call (Ok answer) made.next.nodes
    there = made_there seen failures armed made.now made.event made.said made.next made.happens c.req call answer made.answers

    abbrev its : State
    its = made.answers.master.state

    abbrev its_turn : Turn
    its_turn = new_call made.answers.master.config made.answers.master.state c.req made.event.moment call

    changes : Changes its c.req (edit_for its.durable made.event.moment call) its_turn
    changes =
        firm_changes made.answers.master.config its c.req made.event.moment call answer is (named d client number c.req call is c.own old c.asked mid c.moment c.steps are types lasts still c.asks c.within c.looking (Ok answer) made)
        (here_within d client number c.req call is c.own old c.asked mid c.moment c.steps are types lasts still c.asks c.within c.looking (Ok answer) made).0.0
        (firm d client number c.req call is c.own old c.asked mid c.moment c.steps are types lasts still c.asks c.within c.looking (Ok answer) made) made.answers.apart made.answers.new there.says

    before : StandsStill d client number its
    before = stood d client number c.req call is c.own old c.asked mid c.moment c.steps are types lasts still c.asks c.within c.looking (Ok answer) made

    edited : IsEdited made.event.moment call d its_turn.after.durable
    edited = edited_then d client number c.req call is c.own its.durable before.names before.hidden before.phase before.epoch made.event.moment its_turn.after.durable changes.names changes.hidden changes.phase changes.epoch

    changed : IsChanged d client number c.req call answer c.steps mid
    changed = record {
      turn = record { config = made.answers.master.config; state = made.answers.master.state; moment = made.event.moment; stood = before; says = there.says; since = since_asked d client number c.req call is c.own old c.asked mid c.moment c.steps are types lasts still c.asks c.within c.looking (Ok answer) made };
      changes = changes;
      edited = edited;
      still = still_mid d client number c.req call is c.own old c.asked mid c.moment c.steps are types lasts still c.asks c.within c.looking (Ok answer) made there its_turn.after.durable
          (still_next d client number c.req call is c.own old c.asked mid c.moment c.steps are types lasts still c.asks c.within c.looking (Ok answer) made there its_turn.after.durable refl refl refl refl changes.had);
    }

  -- ---- a refusal

  module _ (d : Durable) (client : ClientId) (number : ℕ) (old mid : History D) (call : Call) (refusal : Refusal) (is : is_change call ≡ true) (are : AreAsked seen old) (served : AreServed old) (types : KeepsTypes old) (lasts : LastsThrough seen old.nodes.master)
      (still : IsStill d client number old) (c : HasRefusal seen failures armed client old call refusal mid) (kept : is_kept refusal ≡ true) (sure : refusal ≡ refusals.Unsure → ⊥) where
    refusal_is : {a b : Refusal} → ◌≡◌ {A = Result Answer Refusal} (Err a) (Err b) → a ≡ b
    refusal_is same = cc

    not_kept : (other : Refusal) → is_kept other ≡ false → refusal ≡ other → ⊥
    not_kept other none same = false≢true (sym none ∙ (ap is_kept (sym same) ∙ kept))

    by_turn : (was : WasSaid seen failures armed c.steps c.asked mid c.req call (Err refusal)) → SaidThere seen failures armed was.now was.event.moment was.answers.master c.req call (Err refusal) was.next.nodes → IsLeft d client number c.req call refusal c.steps mid
    by_turn was there =
        let before = stood d client number c.req call is c.own old c.asked mid c.moment c.steps are types lasts still c.asks c.within c.looking (Err refusal) was in
        let leaves : LeavesNames was.answers.master.state c.req (new_call was.answers.master.config was.answers.master.state c.req was.event.moment call) =
        refused_changes_leave was.answers.master.config was.answers.master.state c.req was.event.moment call refusal is there.says in
        record {
          turn = record { config = was.answers.master.config; state = was.answers.master.state; moment = was.event.moment; stood = before; says = there.says; since = since_asked d client number c.req call is c.own old c.asked mid c.moment c.steps are types lasts still c.asks c.within c.looking (Err refusal) was };
          still = still_mid d client number c.req call is c.own old c.asked mid c.moment c.steps are types lasts still c.asks c.within c.looking (Err refusal) was there d
              (still_next d client number c.req call is c.own old c.asked mid c.moment c.steps are types lasts still c.asks c.within c.looking (Err refusal) was there d (leaves.names ∙ before.names) (leaves.hidden ∙ before.hidden) (leaves.phase ∙ before.phase) (leaves.epoch ∙ before.epoch)
              (refused_changes_had was.answers.master.config was.answers.master.state c.req was.event.moment call refusal is kept there.says));
        }

    by_said : (was : WasSaid seen failures armed c.steps c.asked mid c.req call (Err refusal)) → SaidOrFailed seen failures armed was.now was.event.moment was.answers.master c.req call (Err refusal) was.next.nodes → IsLeft d client number c.req call refusal c.steps mid
    by_said was (inl unsure) = absurd (sure (refusal_is unsure))
    by_said was (inr (inl failed)) = absurd (not_kept refusals.Device refl (refusal_is failed))
    by_said was (inr (inr there)) = by_turn was there

    left : IsLeft d client number c.req call refusal c.steps mid
    left = elim (lone_refusals_are_made seen failures armed old c.asked mid c.moment c.req call c.steps c.node refusal are served types lasts c.asks (change_alone call is) c.runs (all_spare client c.steps c.looking) c.within
        (subst (λ k. client_in mid.nodes.clients k ≡ Some c.node) (sym c.own) c.there) c.last c.reply) [
          | inl unjudged ↦ absurd (judged unjudged)
          | inr made ↦ by_said made.0 (said_there seen failures armed made.0.now made.0.event made.0.said made.0.next made.0.happens c.req call (Err refusal) made.0.answers)
        ]
      where
        judged : IsUnjudged refusal → ⊥
        judged (inl same) = not_kept refusals.Device refl same
        judged (inr same) = sure same

  -- it isn't told to be an old one
  module _ (client : ClientId) (old mid : History D) (call : Call) (is : is_change call ≡ true) (are : AreAsked seen old) (served : AreServed old) (types : KeepsTypes old) (lasts : LastsThrough seen old.nodes.master) (c : HasRefusal seen failures armed client old call refusals.Old mid) where
    other_refusal : {a b : Refusal} → ◌≡◌ {A = Result Answer Refusal} (Err a) (Err b) → a ≡ b
    other_refusal same = cc

    judged_old : IsUnjudged refusals.Old → ⊥
    judged_old (inl same) = absurd (cc)
    judged_old (inr same) = absurd (cc)

    said_old : (was : WasSaid seen failures armed c.steps c.asked mid c.req call (Err refusals.Old)) → SaidOrFailed seen failures armed was.now was.event.moment was.answers.master c.req call (Err refusals.Old) was.next.nodes → ⊥
    said_old was (inl unsure) = judged_old (inr (other_refusal unsure))
    said_old was (inr (inl failed)) = judged_old (inl (other_refusal failed))
    said_old was (inr (inr there)) = changes_are_not_old was.answers.master.config was.answers.master.state c.req was.event.moment call is there.says

    never_old : ⊥
    never_old = elim (lone_refusals_are_made seen failures armed old c.asked mid c.moment c.req call c.steps c.node refusals.Old are served types lasts c.asks (change_alone call is) c.runs (all_spare client c.steps c.looking) c.within
        (subst (λ k. client_in mid.nodes.clients k ≡ Some c.node) (sym c.own) c.there) c.last c.reply) [
          | inl unjudged ↦ judged_old unjudged
          | inr made ↦ said_old made.0 (said_there seen failures armed made.0.now made.0.event made.0.said made.0.next made.0.happens c.req call (Err refusals.Old) made.0.answers)
        ]

pub changes_are_never_old : {D : Type 0} (seen : D → List ℕ) (failures : D → ℕ) (armed : DiskId → ℕ → MasterPlace D → MasterPlace D) → ChangesAreNeverOld seen failures armed
changes_are_never_old seen failures armed client old mid call is are served types lasts c = never_old seen failures armed client old mid call is are served types lasts c

pub changes_stay_under_way : {D : Type 0} (seen : D → List ℕ) (failures : D → ℕ) (armed : DiskId → ℕ → MasterPlace D → MasterPlace D) → ChangesStayUnderWay seen failures armed
changes_stay_under_way seen failures armed d client number old asked new moment req call steps is are types lasts still mine x runs within looking =
    from_ask seen failures armed d client number req call is mine old asked new moment steps are types lasts still x runs within looking

pub changes_leave_still : {D : Type 0} (seen : D → List ℕ) (failures : D → ℕ) (armed : DiskId → ℕ → MasterPlace D → MasterPlace D) → ChangesLeaveStill seen failures armed
changes_leave_still seen failures armed d client number old mid call answer is are types lasts still c = changed seen failures armed d client number old mid call answer is are types lasts still c

pub refused_changes_leave_still : {D : Type 0} (seen : D → List ℕ) (failures : D → ℕ) (armed : DiskId → ℕ → MasterPlace D → MasterPlace D) → RefusedChangesLeaveStill seen failures armed
refused_changes_leave_still seen failures armed d client number old mid call refusal is are served types lasts still c kept sure = left seen failures armed d client number old mid call refusal is are served types lasts still c kept sure

pub changes_stay_calm : {D : Type 0} (seen : D → List ℕ) (failures : D → ℕ) (armed : DiskId → ℕ → MasterPlace D → MasterPlace D) → ChangesStayCalm seen failures armed
changes_stay_calm seen failures armed d client number old asked new moment req call steps is are types lasts still calm mine x runs within looking =
    calm_from_ask seen failures armed d client number req call is mine old asked new moment steps are types lasts still calm x runs within looking
