-- What a step leaves of a master whose calls wait as they were sent, and tells of where chunks are.
use Rattle.std.proofs.Common.{◌≡◌, ◌∙◌, ◌⊎◌, ◌<◌, ◌++◌, ◌==◌, inl, inr, ℕ, zero, suc, Bool, true, false, List, [], ◌∷◌, length, Option, Some, None, Contains, Result, Ok, Err, refl, sym, ap, subst, arith}
use Rattle.std.specs.Prelude.{is_some, take}
use Rattle.std.specs.FinMap as fin
use Rattle.std.specs.List.{AllByRecursion}
use Rattle.std.proofs.lemmas.Bool.Decides.{nat_tests}
use Rattle.std.proofs.lemmas.Bool.{false≢true}
use Rattle.gs_base.specs.declared.config.Config.{Config}
use Rattle.gs_base.specs.declared.numbers.Moment.{Moment}
use Rattle.gs_base.specs.declared.numbers.ReqId.{ReqId}
use Rattle.gs_base.specs.declared.refusal.Refusal.{Refusal}
use Rattle.gs_client.specs.Nodes.{messages_of, pushes, request_of, with_bytes}
use Rattle.gs_lease.specs.declared.view.View.{View}
use Rattle.gs_master.proofs.Renewed.{failed_tick}
use Rattle.gs_master.specs.Masters.{MasterAnswers, MasterOf}
use Rattle.gs_master.specs.Ticking.{AnswersAs, AnswersTick, lacking, pressed_all, writes_one}
use Rattle.gs_master.specs.declared.turn.Turn.{Turn as Told_turn}
use Rattle.gs_laws_moves.proofs.lemmas.answers.Plans.{volatile_still}
use Rattle.gs_laws_lift.proofs.lemmas.calls.Told.{kept_are_for, parts_tell_for, sent_are_for}
use Rattle.gs_laws_lift.proofs.lemmas.calls.Waits.{asked_start, asked_stay}
use Rattle.gs_laws_lift.specs.calls.Told.{WasToldFor}
use Rattle.gs_laws_lift.specs.calls.Waits.{AreAskedFor}
use Rattle.gs_laws_moves.proofs.lemmas.moves.Locations.{replied_before}
use Rattle.gs_laws_moves.specs.moves.Locations.{IsToldIn, IsToldOnlyIf, KeepsLocation}
use Rattle.gs_master_record.specs.Plain.{PlainEntry}
use Rattle.gs_master_spec.specs.Applied.{replayed}
use Rattle.gs_master_spec.specs.Durable.{Durable}
use Rattle.gs_master_spec.specs.Handling.{handle, restarted, tick}
use Rattle.gs_master_spec.specs.Outcomes.{IsCut, IsDone, caller_of, unsure}
use Rattle.gs_master_spec.specs.Replies.{client_cmp}
use Rattle.gs_master_spec.specs.State.{Log, State, Turn, is_failed}
use Rattle.gs_master_spec.specs.Volatile.{Volatile}
use Rattle.gs_laws_plain.proofs.lemmas.replies.Steady.{message_meek}
use Rattle.gs_laws_plain.specs.replies.Steady.{IsMeekReply}
use Rattle.gs_laws_plain.specs.replies.Waited.{RepliesSo}
use Rattle.gs_msg.specs.declared.answer.Answer.TheVariants as answers
use Rattle.gs_msg.specs.declared.body.Body.{Body}
use Rattle.gs_msg.specs.declared.body.Body.TheVariants as bodies
use Rattle.gs_msg.specs.declared.call.Call.{Call}
use Rattle.gs_msg.specs.declared.event.DiskId.{DiskId}
use Rattle.gs_msg.specs.declared.event.Happening.{Happening}
use Rattle.gs_msg.specs.declared.event.Happening.TheVariants as happenings
use Rattle.gs_msg.specs.declared.event.Request.{Request}
use Rattle.gs_msg.specs.declared.event.Request.TheVariants as requests
use Rattle.gs_msg.specs.declared.message.Message.{Message}
use Rattle.gs_msg.specs.declared.message.MsgId.{MsgId}
use Rattle.gs_msg.specs.declared.node.NodeId.TheVariants as nodes
use Rattle.gs_msg.specs.declared.node.StoreNode.TheVariants as keepers
use Rattle.gs_nodes.specs.Happenings.{MasterHears, MasterTicks, Reopens, refusal_of_call}
use Rattle.gs_nodes.specs.Nodes.{Nodes}
use Rattle.gs_nodes.specs.declared.place.MasterPlace.{MasterPlace}
use Rattle.gs_nodes.specs.declared.place.MasterPlace.TheVariants.{Away, Closed, Standing}
use Rattle.gs_world.proofs.Sending.{sent_still, step_stays}
use Rattle.gs_world.specs.Histories.{History, Upshot, told}
use Rattle.gs_world.specs.Runs.{Comes, Goes, StaySent, Step}
use Rattle.gs_world.specs.Sent.{message_of}
use Rattle.gs_laws_chunks.proofs.lemmas.answers.Asked.{reopens_said, servers_said}
use Rattle.gs_laws_chunks.proofs.lemmas.answers.Parts.{Armed, Asked, Heard, Opened, Part, Rested, Served, Ticked, Told}
use Rattle.gs_laws_chunks.specs.answers.Answered.{sent_by}
use Rattle.gs_laws_chunks.specs.answers.Asked.{AreAsked, SaysOf}
use Rattle.gs_laws_world.proofs.lemmas.steady.Through.{reopens_as, sound_tells, step_on, tells_once, tells_some, waits_as}
use Rattle.gs_laws_world.specs.steady.Steady.{StepWithin}
use Rattle.gs_laws_world.specs.steady.Through.{LastsThrough, TellsAt, TellsOn, Turns, TurnsAt}
use Rattle.gs_laws_lift.proofs.lemmas.stores.DoingAll.{failed_answers}
use Rattle.gs_laws_lift.proofs.lemmas.stores.Reopening.{standing_is}
use Rattle.gs_laws_chunks.proofs.lemmas.calls.Turns.{IsTurnFor, for_calls, turn_for}
use Rattle.gs_laws_chunks.specs.calls.Asked.{ArmsAlone, StandForCalls, WaitAsSent, WaitAt, WereSent, heard_at}
use Rattle.gs_laws_chunks.specs.calls.Told.{IsToldAt}

-- ---- messages

abbrev SaySo : (ReqId → ℕ → View → ℕ → Type 0) → List Message → Type 0
SaySo P messages = AllByRecursion (λ (m : Message). IsToldOnlyIf P m.body) messages

pub further : (P Q : ReqId → ℕ → View → ℕ → Type 0) → ((req : ReqId) (chunk : ℕ) (view : View) (epoch : ℕ) → P req chunk view epoch → Q req chunk view epoch) → (body : Body) → IsToldOnlyIf P body → IsToldOnlyIf Q body
further P Q more (bodies.Reply req (Ok (answers.Location chunk view epoch))) was = more req chunk view epoch was
further P Q more body was = tt

all_further : (P Q : ReqId → ℕ → View → ℕ → Type 0) → ((req : ReqId) (chunk : ℕ) (view : View) (epoch : ℕ) → P req chunk view epoch → Q req chunk view epoch) → (messages : List Message) → SaySo P messages → SaySo Q messages
all_further P Q more [] all = tt
all_further P Q more (m ∷ messages) all = (further P Q more m.body all.0, all_further P Q more messages all.1)

-- where no reply is among them
no_reply : (P : ReqId → ℕ → View → ℕ → Type 0) (messages : List Message) → AllByRecursion (λ (m : Message). SaysOf (λ req. ⊥) m.from m.body) messages → SaySo P messages
no_reply P [] all = tt
no_reply P (m ∷ messages) all = (one m.body all.0, no_reply P messages all.1)
  where
    one : (body : Body) → SaysOf (λ req. ⊥) m.from body → IsToldOnlyIf P body
    one (bodies.Reply req (Ok (answers.Location chunk view epoch))) said = absurd said
    one body said = tt

pushes_say : (P : ReqId → ℕ → View → ℕ → Type 0) (req : ReqId) (members bytes : List ℕ) (more : List Message) → SaySo P more → SaySo P (pushes req members bytes ++ more)
pushes_say P req [] bytes more rest = rest
pushes_say P req (member ∷ members) bytes more rest = (tt, pushes_say P req members bytes more rest)

request_says : (P : ReqId → ℕ → View → ℕ → Type 0) (req : ReqId) (request : Request) → SaySo P (messages_of req request)
request_says P req (requests.Call call) = (tt, tt)
request_says P req (requests.Write handle members primary stamp op bytes) = pushes_say P req (with_bytes members op) bytes _ (tt, tt)
request_says P req (requests.Fetch to handle stamp epoch asked) = (tt, tt)

unsure_says : (P : ReqId → ℕ → View → ℕ → Type 0) (caller : Option ReqId) → SaySo P (unsure caller)
unsure_says P None = tt
unsure_says P (Some req) = (tt, tt)

refusal_says : (P : ReqId → ℕ → View → ℕ → Type 0) (caller : Option ReqId) → SaySo P (refusal_of_call caller)
refusal_says P None = tt
refusal_says P (Some req) = (tt, tt)

-- ---- a master of which a disk has failed

record IsIdle (s : State) (t : Turn) : Type 0 where
  pub after : t.after ≡ s
  pub none : t.records ≡ []
  pub said : SaySo (KeepsLocation s) t.sent

same_test : (a b : ℕ) → a ≡ b → (a == b) ≡ true
same_test a b is = grind (arith, nat_tests)

meek_say : (s : State) (heard : Option Body) (messages : List Message) → AllByRecursion (λ (m : Message). RepliesSo (IsMeekReply s heard) m.body) messages → SaySo (KeepsLocation s) messages
meek_say s heard [] all = tt
meek_say s heard (m ∷ messages) all = (one m.body all.0, meek_say s heard messages all.1)
  where
    one : (body : Body) → RepliesSo (IsMeekReply s heard) body → IsToldOnlyIf (KeepsLocation s) body
    one (bodies.Reply req (Ok (answers.Location chunk view epoch))) (call, is, inl refused) = absurd (false≢true refused)
    one (bodies.Reply req (Ok (answers.Location chunk view epoch))) (call, is, inr kept) =
        replied_before req chunk view epoch s (record { reply = kept.reply; has = kept.has; number = same_test kept.reply.number req.number kept.number; is = kept.is })
    one body was = tt

idle_message : (config : Config) (s : State) (message : Message) (moment : Moment) → is_failed s.fault ≡ true → IsIdle s (handle config s message moment)
idle_message config s message moment failed = (let meek = message_meek config s message moment failed in record {
  after = (failed_answers config s message moment failed).0;
  none = meek.none;
  said = meek_say s (Some message.body) (handle config s message moment).sent meek.sent;
})

idle_tick : (s : State) (moment : Moment) → is_failed s.fault ≡ true → IsIdle s (tick s moment)
idle_tick s moment failed = subst (IsIdle s) (sym (failed_tick s moment failed)) (record { after = refl; none = refl; said = tt })

-- ---- a run with one step more

none_below : (place : ℕ) (records : List PlainEntry) → place < length records → records ≡ [] → ⊥
none_below place records below none = (let less = ap (λ (xs : List PlainEntry). length xs) none in omega arith)

pub none_told : (req : ReqId) (chunk : ℕ) (view : View) (epoch : ℕ) → IsToldIn fin.empty req chunk view epoch → ⊥
none_told req chunk view epoch k = false≢true (ap is_some (sym (fin.get-empty client_cmp req.client) ∙ k.has))

module _ {D : Type 0} (seen : D → List ℕ) (failures : D → ℕ) (armed : DiskId → ℕ → MasterPlace D → MasterPlace D) (W : ReqId → ℕ → View → ℕ → Type 0) where
  abbrev pub KeptAt : History D → Type 0
  KeptAt h = (m : MasterOf D) → h.nodes.master ≡ Standing m → (req : ReqId) (chunk : ℕ) (view : View) (epoch : ℕ) → KeepsLocation m.state req chunk view epoch → W req chunk view epoch

  abbrev pub ToldAt : History D → Type 0
  ToldAt h = (d : Durable) → TellsAt seen h.nodes.master d → (req : ReqId) (chunk : ℕ) (view : View) (epoch : ℕ) → IsToldIn d.replies req chunk view epoch → W req chunk view epoch

  module _ (arms : ArmsAlone seen failures armed) (old new : History D) (step : Step) (goes : Goes seen failures armed step old new) (here : (req : ReqId) (chunk : ℕ) (view : View) (epoch : ℕ) → IsToldAt step old req chunk view epoch → W req chunk view epoch)
      (within : StepWithin step old) (asked : AreAsked seen old) (lasts : LastsThrough seen old.nodes.master) (waits : WaitAt old.sent old.nodes.master) (kept : KeptAt old) (disks : ToldAt old) where
    stay : StaySent old.sent new.sent
    stay = step_stays seen failures armed step old new goes

    were_still : (all : List (ReqId × Call)) → WereSent old.sent all → WereSent new.sent all
    were_still all were req call there = (let w = were req call there in record { message = w.message; there = sent_still w.message old.sent new.sent stay w.there; to = w.to; from = w.from; is = w.is })

    -- what is left of the master, and what is sent
    pub record LeavesTold (place : MasterPlace D) (messages : List Message) : Type 0 where
      pub waiting : WaitAt new.sent place
      pub keeping : (m : MasterOf D) → place ≡ Standing m → (req : ReqId) (chunk : ℕ) (view : View) (epoch : ℕ) → KeepsLocation m.state req chunk view epoch → W req chunk view epoch
      pub said : SaySo W messages

    -- ---- where it stands

    module _ (m : MasterOf D) (at : old.nodes.master ≡ Standing m) where
      kept_before : (req : ReqId) (chunk : ℕ) (view : View) (epoch : ℕ) → KeepsLocation m.state req chunk view epoch → W req chunk view epoch
      kept_before req chunk view epoch k = kept m at req chunk view epoch k

      waits_there : is_failed m.state.fault ≡ false → WaitAsSent old.sent m.state ⊎ (is_failed m.state.fault ≡ true) → WaitAsSent old.sent m.state
      waits_there sound (inl w) = w
      waits_there sound (inr failed) = absurd (false≢true (sym sound ∙ failed))

      pub turn : (t : Turn) → TurnsAt step old m t → is_failed m.state.fault ≡ false → IsTurnFor step old m t
      turn t made sound = turn_for seen step old m t within asked lasts at sound (waits_there sound (subst (WaitAt old.sent) at waits)) made

      of_turn : (t : Turn) → TurnsAt step old m t → is_failed m.state.fault ≡ false → (f : IsTurnFor step old m t) → (req : ReqId) (chunk : ℕ) (view : View) (epoch : ℕ) → WasToldFor f.all m.config (heard_at step old.sent) m.state t req chunk view epoch → W req chunk view epoch
      of_turn t made sound f req chunk view epoch (inl k) = kept_before req chunk view epoch k
      of_turn t made sound f req chunk view epoch (inr is) = here req chunk view epoch (record { m = m; t = t; at = at; sound = sound; turns = made; all = f.all; were = f.were; told = is })

      part_told : (t : Turn) → TurnsAt step old m t → is_failed m.state.fault ≡ false → (many : ℕ) (e : Durable) → replayed m.state.durable (take many t.records) ≡ Some e → (req : ReqId) (chunk : ℕ) (view : View) (epoch : ℕ) → IsToldIn e.replies req chunk view epoch → W req chunk view epoch
      part_told t made sound many e fit req chunk view epoch k =
          let f = turn t made sound in
          of_turn t made sound f req chunk view epoch (parts_tell_for f.all m.config (heard_at step old.sent) m.state t many e req chunk view epoch f.once f.hears f.asked fit k)

      done_left : (t : Turn) → TurnsAt step old m t → (is_failed m.state.fault ≡ true → IsIdle m.state t) → (after : MasterOf D) (sent : List Message) (said : Option Refusal) → IsDone t sent said after.state → after.state.fault ≡ m.state.fault → LeavesTold (Standing after) sent
      done_left t made idle after sent said done fault = by_fault (is_failed m.state.fault) refl
        where
          same : (k : MasterOf D) → ◌≡◌ {A = MasterPlace D} (Standing after) (Standing k) → k.state ≡ t.after
          same k is = ap (λ (x : MasterOf D). x.state) (sym (standing_is after k is)) ∙ done.after

          by_fault : (b : Bool) → is_failed m.state.fault ≡ b → LeavesTold (Standing after) sent
          by_fault true failed = (let i = idle failed in record {
            waiting = inr (ap is_failed fault ∙ failed);
            keeping = λ k is req chunk view epoch had. kept_before req chunk view epoch (subst (λ (s : State). KeepsLocation s req chunk view epoch) (same k is ∙ i.after) had);
            said = subst (SaySo W) (sym done.sends) (all_further (KeepsLocation m.state) W kept_before t.sent i.said);
          })
          by_fault false sound = (let f = turn t made sound in record {
            waiting = inl (record { all = f.all; were = were_still f.all f.were; asked = subst (AreAskedFor f.all) (sym done.after) (asked_stay f.all m.config (heard_at step old.sent) m.state t f.once f.hears f.calm f.asked) });
            keeping = λ k is req chunk view epoch had.
                of_turn t made sound f req chunk view epoch (kept_are_for f.all m.config (heard_at step old.sent) m.state t req chunk view epoch f.once f.hears f.asked (subst (λ (s : State). KeepsLocation s req chunk view epoch) (same k is) had));
            said = subst (SaySo W) (sym done.sends) (all_further (WasToldFor f.all m.config (heard_at step old.sent) m.state t) W (of_turn t made sound f) t.sent (sent_are_for f.all m.config (heard_at step old.sent) m.state t f.once f.hears f.asked));
          })

      cut_left : (t : Turn) → TurnsAt step old m t → (is_failed m.state.fault ≡ true → IsIdle m.state t) → (after : MasterOf D) (caller : Option ReqId) (place : ℕ) (sent : List Message) (said : Option Refusal) → IsCut m.state caller t place sent said after.state
          → replayed m.state.durable (take place t.records) ≡ Some after.state.durable → LeavesTold (Standing after) sent
      cut_left t made idle after caller place sent said cut fit = record {
        waiting = inr (ap (λ (s : State). is_failed s.fault) cut.after);
        keeping = λ k is req chunk view epoch had. by_kept req chunk view epoch (subst (λ (x : MasterOf D). KeepsLocation x.state req chunk view epoch) (sym (standing_is after k is)) had);
        said = subst (SaySo W) (sym cut.sends) (unsure_says W caller);
      }
        where
          still : after.state.volatile ≡ m.state.volatile
          still = ap (λ (s : State). s.volatile) cut.after ∙ volatile_still (take place t.records) m.state

          by_fault : (b : Bool) → is_failed m.state.fault ≡ b → (req : ReqId) (chunk : ℕ) (view : View) (epoch : ℕ) → IsToldIn after.state.durable.replies req chunk view epoch → W req chunk view epoch
          by_fault true failed req chunk view epoch k = absurd (none_below place t.records cut.within (idle failed).none)
          by_fault false sound req chunk view epoch k = part_told t made sound place after.state.durable fit req chunk view epoch k

          by_kept : (req : ReqId) (chunk : ℕ) (view : View) (epoch : ℕ) → KeepsLocation after.state req chunk view epoch → W req chunk view epoch
          by_kept req chunk view epoch (inl k) = by_fault (is_failed m.state.fault) refl req chunk view epoch k
          by_kept req chunk view epoch (inr k) = kept_before req chunk view epoch (inr (subst (λ (v : Volatile). IsToldIn v.replies req chunk view epoch) still k))

      answers_left : (t : Turn) → TurnsAt step old m t → (is_failed m.state.fault ≡ true → IsIdle m.state t) → (after : MasterOf D) (caller : Option ReqId) (told : Told_turn) → MasterAnswers seen failures caller t m (Ok told) after → LeavesTold (Standing after) told.sent.items
      answers_left t made idle after caller told (inl is) = done_left t made idle after told.sent.items told.said is.done is.fault
      answers_left t made idle after caller told (inr (place, is)) = cut_left t made idle after caller place told.sent.items told.said is.cut is.fit

      as_left : (b : Bool) (t steps : Turn) → TurnsAt step old m t → (is_failed m.state.fault ≡ true → IsIdle m.state t) → (after : MasterOf D) (told : Told_turn) → AnswersAs seen failures b t steps m told after → LeavesTold (Standing after) told.sent.items
      as_left true t steps made idle after told (inl is) = done_left t made idle after told.sent.items told.said is.done is.fault
      as_left true t steps made idle after told (inr (place, is)) = cut_left t made idle after None place told.sent.items told.said is.cut is.fit
      as_left false t steps made idle after told (inl is) = done_left t made idle after told.sent.items told.said is.done is.fault
      as_left false t steps made idle after told (inr (place, is)) = cut_left t made idle after None place told.sent.items told.said is.cut is.fit

    -- ---- where it stays

    stays_at : (place : MasterPlace D) → old.nodes.master ≡ place → (next : MasterPlace D) → ((m : MasterOf D) → next ≡ Standing m → (was : MasterOf D) × (place ≡ Standing was) × (m.state ≡ was.state)) → (messages : List Message) → SaySo W messages → LeavesTold next messages
    stays_at place at next memory messages says = record { waiting = by_place next refl; keeping = λ m is req chunk view epoch k. (let x = memory m is in kept_before x.0 (at ∙ x.1) req chunk view epoch (subst (λ (s : State). KeepsLocation s req chunk view epoch) x.2 k)); said = says }
      where
        still : (s : State) → WaitAsSent old.sent s ⊎ (is_failed s.fault ≡ true) → WaitAsSent new.sent s ⊎ (is_failed s.fault ≡ true)
        still s (inl w) = inl (record { all = w.all; were = were_still w.all w.were; asked = w.asked })
        still s (inr failed) = inr failed

        by_place : (p : MasterPlace D) → next ≡ p → WaitAt new.sent p
        by_place (Standing m) is =
            let x = memory m is in
            still m.state (subst (λ (s : State). WaitAsSent old.sent s ⊎ (is_failed s.fault ≡ true)) (sym x.2) (subst (WaitAt old.sent) (at ∙ x.1) waits))
        by_place (Closed first second) is = tt
        by_place Away is = tt

    same_there : (place : MasterPlace D) → old.nodes.master ≡ place → (messages : List Message) → SaySo W messages → LeavesTold place messages
    same_there place at messages says = stays_at place at place (λ m is. (m, is, refl)) messages says

    -- ---- what its disks tell then

    pub told_new : ToldAt new
    told_new e tells req chunk view epoch k =
        let d = tells_some seen failures old.nodes.master lasts in
        let on = step_on seen failures armed arms.lasts arms.told step old new d.0 goes within lasts d.1 in
        by_on d.0 d.1 on.durable on.on (subst (λ (x : Durable). IsToldIn x.replies req chunk view epoch) (tells_once seen failures new.nodes.master e on.durable tells on.tells) k)
      where
        by_on : (d : Durable) → TellsAt seen old.nodes.master d → (f : Durable) → TellsOn (TurnsAt step old) old.nodes.master d f → IsToldIn f.replies req chunk view epoch → W req chunk view epoch
        by_on d was f (inl same) k = disks d was req chunk view epoch (subst (λ (x : Durable). IsToldIn x.replies req chunk view epoch) same k)
        by_on d was f (inr part) k =
            let m = part.master in
            let state = sound_tells seen failures m part.sound (subst (LastsThrough seen) part.place lasts) in
            let same = tells_once seen failures (Standing m) d m.state.durable (subst (λ p. TellsAt seen p d) part.place was) state in
            part_told m part.place part.turn part.made part.sound part.many f (subst (λ (x : Durable). replayed x (take part.many part.turn.records) ≡ Some f) same part.stand) req chunk view epoch k

    -- which records stand
    pub records_stand : (d e : Durable) → TellsAt seen old.nodes.master d → TellsAt seen new.nodes.master e → (e ≡ d) ⊎ StandForCalls step old d e
    records_stand d e was tells =
        let on = step_on seen failures armed arms.lasts arms.told step old new d goes within lasts was in
        subst (λ (f : Durable). (f ≡ d) ⊎ StandForCalls step old d f) (tells_once seen failures new.nodes.master on.durable e on.tells tells) (by_on on.durable on.on)
      where
        some_first : (P : PlainEntry → Type 0) (n : ℕ) (xs : List PlainEntry) → AllByRecursion P xs → AllByRecursion P (take n xs)
        some_first P zero xs all = tt
        some_first P (suc n) [] all = tt
        some_first P (suc n) (x ∷ xs) all = (all.0, some_first P n xs all.1)

        by_on : (f : Durable) → TellsOn (TurnsAt step old) old.nodes.master d f → (f ≡ d) ⊎ StandForCalls step old d f
        by_on f (inl same) = inl same
        by_on f (inr part) =
            let calls = for_calls step old part.master part.turn (turn part.master part.place part.turn part.made part.sound) in
            inr (record { m = part.master; t = part.turn; at = part.place; turns = part.made; many = part.many; stand = part.stand; calls = calls; records = some_first _ part.many part.turn.records calls.turn.records })

    -- ---- an event

    module _ (moment : Moment) (happening : Happening) (outcome : Upshot) (it : step ≡ Comes (record { moment = moment; happening = happening })) where
      turns_at : (m : MasterOf D) (t : Turn) (other : Happening) → happening ≡ other → Turns moment other old m t → TurnsAt step old m t
      turns_at m t other is made = subst (λ (s : Step). TurnsAt s old m t) (sym it) (subst (λ h. Turns moment h old m t) (sym is) made)

      hears_left : (id : MsgId) (message : Message) → happening ≡ happenings.Deliver id → message_of old.sent id ≡ Some message → message.to ≡ nodes.Master → (place next : MasterPlace D) (turn : Told_turn) → old.nodes.master ≡ place → MasterHears seen failures message moment place (Ok turn) next → LeavesTold next turn.sent.items
      hears_left id message is found to (Standing m) next turn at (after, there, done) =
          let t = handle m.config m.state message moment in
          subst (λ p. LeavesTold p turn.sent.items) (sym there) (answers_left m at t (turns_at m t (happenings.Deliver id) is (message, found, to, refl)) (idle_message m.config m.state message moment) after (caller_of message.body) turn done)
      hears_left id message is found to (Closed first second) next turn at meets = subst (λ p. LeavesTold p turn.sent.items) (sym meets.0) (same_there (Closed first second) at turn.sent.items (subst (SaySo W) (sym meets.1) (refusal_says W (caller_of message.body))))
      hears_left id message is found to Away next turn at meets = subst (λ p. LeavesTold p turn.sent.items) (sym meets.0) (same_there Away at turn.sent.items (subst (SaySo W) (sym meets.1) (refusal_says W (caller_of message.body))))

      tick_left : (m : MasterOf D) → old.nodes.master ≡ Standing m → happening ≡ happenings.Tick keepers.Master → (after : MasterOf D) (turn : Told_turn) → AnswersTick seen failures moment m (Ok turn) after → LeavesTold (Standing after) turn.sent.items
      tick_left m at is after turn (inl whole) =
          as_left m at (writes_one m.state (pressed_all m.state moment)) (tick m.state moment) (pressed_all m.state moment) (turns_at m (tick m.state moment) (happenings.Tick keepers.Master) is (inl refl)) (idle_tick m.state moment) after turn whole
      tick_left m at is after turn (inr (sound, is_due, none, done)) =
          answers_left m at (lacking (pressed_all m.state moment)) (turns_at m (lacking (pressed_all m.state moment)) (happenings.Tick keepers.Master) is (inr refl)) (λ failed. absurd (false≢true (sym sound ∙ failed))) after None turn done

      ticks_left : happening ≡ happenings.Tick keepers.Master → (place next : MasterPlace D) (turn : Told_turn) → old.nodes.master ≡ place → MasterTicks seen failures moment place (Ok turn) next → LeavesTold next turn.sent.items
      ticks_left is (Standing m) next turn at (after, there, done) = subst (λ p. LeavesTold p turn.sent.items) (sym there) (tick_left m at is after turn done)
      ticks_left is (Closed first second) next turn at meets = subst (λ p. LeavesTold p turn.sent.items) (sym meets.0) (same_there (Closed first second) at turn.sent.items (subst (SaySo W) (sym meets.1) tt))
      ticks_left is Away next turn at meets = subst (λ p. LeavesTold p turn.sent.items) (sym meets.0) (same_there Away at turn.sent.items (subst (SaySo W) (sym meets.1) tt))

      -- started again it has nothing in memory
      restarted_left : (d : Durable) → TellsAt seen old.nodes.master d → (log : Log) (after : MasterOf D) → after.state ≡ restarted d log → (messages : List Message) → SaySo W messages → LeavesTold (Standing after) messages
      restarted_left d tells log after state messages says = record {
        waiting = inl (record { all = []; were = λ req call there. absurd (nowhere there); asked = subst (AreAskedFor []) (sym state) (asked_start [] d log) });
        keeping = λ k is req chunk view epoch had. by_kept req chunk view epoch (subst (λ (s : State). KeepsLocation s req chunk view epoch) (ap (λ (x : MasterOf D). x.state) (sym (standing_is after k is)) ∙ state) had);
        said = says;
      }
        where
          nowhere : {x : ReqId × Call} → Contains [] x → ⊥
          nowhere there = below there.0 there.1
            where
              below : (k : ℕ) → k < 0 → ⊥
              below k less = omega arith

          by_kept : (req : ReqId) (chunk : ℕ) (view : View) (epoch : ℕ) → KeepsLocation (restarted d log) req chunk view epoch → W req chunk view epoch
          by_kept req chunk view epoch (inl k) = disks d tells req chunk view epoch k
          by_kept req chunk view epoch (inr k) = absurd (none_told req chunk view epoch k)

      closed_left : (first second : D) → LeavesTold (Closed first second) []
      closed_left first second = record { waiting = tt; keeping = λ m is. absurd (never m is); said = tt }
        where
          never : (m : MasterOf D) → ◌≡◌ {A = MasterPlace D} (Closed first second) (Standing m) → ⊥
          never m is = absurd (cc)

      opens_left : (turn : Result Told_turn Refusal) (next : MasterPlace D) → Reopens seen failures old.nodes.config old.nodes.master turn next → LeavesTold next (sent_by (told turn))
      opens_left (Ok turn) next opens =
          let d = tells_some seen failures old.nodes.master lasts in
          let o = reopens_as seen failures old.nodes.config old.nodes.master d.0 turn next lasts d.1 opens in
          subst (λ p. LeavesTold p turn.sent.items) (sym o.1) (restarted_left d.0 d.1 o.0.state.log o.0 o.2 turn.sent.items (no_reply W turn.sent.items (reopens_said seen failures (λ req. ⊥) old.nodes.config old.nodes.master (Ok turn) next opens)))
      opens_left (Err refusal) next opens =
          let d = tells_some seen failures old.nodes.master lasts in
          let w = waits_as seen failures old.nodes.config old.nodes.master d.0 refusal next lasts d.1 opens in
          subst (λ p. LeavesTold p []) (sym w.2) (closed_left w.0 w.1)

      moved : (place : MasterPlace D) (messages : List Message) → new.nodes.master ≡ place → sent_by outcome ≡ messages → LeavesTold place messages → LeavesTold new.nodes.master (sent_by outcome)
      moved place messages there sends left = subst (λ p. LeavesTold p (sent_by outcome)) (sym there) (subst (LeavesTold place) (sym sends) left)

      rests : (messages : List Message) → new.nodes.master ≡ old.nodes.master → sent_by outcome ≡ messages → SaySo W messages → LeavesTold new.nodes.master (sent_by outcome)
      rests messages there sends says = moved old.nodes.master messages there sends (same_there old.nodes.master refl messages says)

      pub part_left : Part seen failures armed old moment happening outcome new.nodes → LeavesTold new.nodes.master (sent_by outcome)
      part_left (Heard id message turn place is found to hears tells same) = moved place turn.sent.items (ap (λ (n : Nodes D). n.master) same) (ap sent_by tells) (hears_left id message is found to old.nodes.master place turn refl hears)
      part_left (Ticked turn place is ticks tells same) = moved place turn.sent.items (ap (λ (n : Nodes D). n.master) same) (ap sent_by tells) (ticks_left is old.nodes.master place turn refl ticks)
      part_left (Opened turn place is opens tells same) = moved place (sent_by (told turn)) (ap (λ (n : Nodes D). n.master) same) (ap sent_by tells) (opens_left turn place opens)
      part_left (Armed disk call is none same) =
          moved (armed disk call old.nodes.master) [] (ap (λ (n : Nodes D). n.master) same) none (stays_at old.nodes.master refl (armed disk call old.nodes.master) (arms.memory disk call old.nodes.master) [] tt)
      part_left (Served by clients master) = rests (sent_by outcome) master refl (no_reply W (sent_by outcome) (servers_said (λ req. ⊥) (sent_by outcome) by))
      part_left (Asked req request n is there fresh sends same) = rests (messages_of (request_of n req.number) request) (ap (λ (x : Nodes D). x.master) same) sends (request_says W (request_of n req.number) request)
      part_left (Told id message client n is found there none same) = rests [] (ap (λ (x : Nodes D). x.master) same) none tt
      part_left (Rested none same) = rests [] (ap (λ (x : Nodes D). x.master) same) none tt

    -- a client takes its answer
    pub taken_left : new.nodes.master ≡ old.nodes.master → LeavesTold new.nodes.master []
    taken_left master = subst (λ p. LeavesTold p []) (sym master) (same_there old.nodes.master refl [] tt)
