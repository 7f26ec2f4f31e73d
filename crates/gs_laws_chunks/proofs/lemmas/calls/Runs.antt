-- So it is in each world of a run.
use Rattle.std.proofs.Common.{◌≡◌, ◌∙◌, ◌⊎◌, ◌<◌, inl, inr, ℕ, true, false, List, [], ◌∷◌, Option, Some, None, MatchOption, Result, Ok, Err, refl, sym, ap, subst, arith}
use Rattle.std.specs.List.{AllByRecursion}
use Rattle.gs_base.specs.declared.numbers.Moment.{Moment}
use Rattle.gs_base.specs.declared.numbers.ReqId.{ReqId}
use Rattle.gs_base.specs.declared.refusal.Refusal.{Refusal}
use Rattle.gs_client.specs.Nodes.{Node, given_up}
use Rattle.gs_lease.specs.declared.view.View.{View}
use Rattle.gs_master.specs.Masters.{MasterOf}
use Rattle.gs_laws_lift.proofs.lemmas.calls.Waits.{asked_start}
use Rattle.gs_laws_lift.specs.calls.Waits.{AreAskedFor}
use Rattle.gs_laws_moves.specs.moves.Locations.{IsToldIn, IsToldOnlyIf, KeepsLocation}
use Rattle.gs_master_spec.specs.Durable.{Durable, start}
use Rattle.gs_master_spec.specs.Handling.{restarted}
use Rattle.gs_master_spec.specs.State.{Log, State, is_failed}
use Rattle.gs_msg.specs.declared.call.Call.{Call}
use Rattle.gs_msg.specs.declared.event.DiskId.{DiskId}
use Rattle.gs_msg.specs.declared.message.Message.{Message}
use Rattle.gs_msg.specs.declared.node.NodeId.{NodeId}
use Rattle.gs_nodes.specs.Happenings.{client_in}
use Rattle.gs_nodes.specs.Nodes.{Nodes}
use Rattle.gs_nodes.specs.declared.place.MasterPlace.{MasterPlace}
use Rattle.gs_nodes.specs.declared.place.MasterPlace.TheVariants.{Away, Closed, Standing}
use Rattle.gs_world.proofs.Reaching.{HaveSizes}
use Rattle.gs_world.proofs.Sending.{run_stays, sent_still}
use Rattle.gs_world.specs.Histories.{History, Tells, Upshot}
use Rattle.gs_world.specs.Runs.{Comes, Goes, RunsTo, Step, Takes}
use Rattle.gs_world.specs.Sent.{Sent}
use Rattle.gs_laws_chunks.proofs.lemmas.answers.Asked.{begins_asked, step_asked}
use Rattle.gs_laws_chunks.proofs.lemmas.answers.Parts.{part_of, with_client}
use Rattle.gs_laws_chunks.specs.answers.Answered.{sent_by}
use Rattle.gs_laws_chunks.specs.answers.Asked.{AreAsked, KeepsOf, KeepsOfAt}
use Rattle.gs_laws_world.proofs.lemmas.steady.Keeping.{begins_keeping, step_keeps, step_within}
use Rattle.gs_laws_world.proofs.lemmas.steady.Through.{begins_through, sound_tells, step_on, tells_once, tells_some}
use Rattle.gs_laws_world.specs.steady.Saying.{IsStepWithin, KeepsTypes}
use Rattle.gs_laws_world.specs.steady.Through.{LastsThrough, TellsAt}
use Rattle.gs_laws_lift.proofs.lemmas.stores.Beginning.{begins_none, begins_restarted}
use Rattle.gs_laws_lift.proofs.lemmas.stores.Posting.{posted_all}
use Rattle.gs_laws_lift.specs.stores.Going.{AllSent, Posts}
use Rattle.gs_laws_lift.proofs.lemmas.stores.Reopening.{standing_is}
use Rattle.gs_laws_chunks.proofs.lemmas.calls.Stepping.{KeptAt, LeavesTold, ToldAt, further, none_told, part_left, records_stand, taken_left, told_new}
use Rattle.gs_laws_chunks.proofs.lemmas.calls.Turns.{for_calls, turn_for}
use Rattle.gs_laws_chunks.specs.calls.Asked.{ArmsAlone, CallsWaitAsSent, HasRun, IsCallSent, RecordsAreForCalls, TurnsAreForCalls, WaitAsSent, WaitAt}
use Rattle.gs_laws_chunks.specs.calls.Told.{DisksWereTold, IsToldAt, KeptWereTold, NewWereToldSince, RepliesWereTold, WasTold}

pub posts : {D : Type 0} (seen : D → List ℕ) (failures : D → ℕ) (armed : DiskId → ℕ → MasterPlace D → MasterPlace D) (moment : Moment) (by : NodeId) (outcome : Upshot) (old : Sent) (result : Result (Unit {0}) Refusal) (new : Sent) → Tells seen failures armed moment by outcome old result new → Posts moment by (sent_by outcome) old new
posts seen failures armed moment by (Ok (messages, said)) old result new (posted, is) = inl posted
posts seen failures armed moment by (Err refusal) old result new (same, is) = inr same

-- what a request is told
abbrev pub Tellings : Type 1
Tellings = ReqId → ℕ → View → ℕ → Type 0

module _ {D : Type 0} (seen : D → List ℕ) (failures : D → ℕ) (armed : DiskId → ℕ → MasterPlace D → MasterPlace D) where
  -- in this world only what is so is told
  pub record StandsAsked (X : Tellings) (h : History D) : Type 0 where
    pub types : KeepsTypes h
    pub lasts : LastsThrough seen h.nodes.master
    pub asked : AreAsked seen h
    pub waits : WaitAt h.sent h.nodes.master
    pub kept : KeptAt seen failures armed X h
    pub disks : ToldAt seen failures armed X h
    pub sent : AllSent (λ (m : Message). IsToldOnlyIf X m.body) h.sent

  module _ (arms : ArmsAlone seen failures armed) where
    pub arming : (P : ReqId → Type 0) (disk : DiskId) (call : ℕ) (place : MasterPlace D) → KeepsOfAt P place → KeepsOfAt P (armed disk call place)
    arming P disk call place keeps = by_place (armed disk call place) refl
      where
        by_place : (p : MasterPlace D) → armed disk call place ≡ p → KeepsOfAt P p
        by_place (Standing m) is = (let x = arms.memory disk call place m is in subst (KeepsOf P) (sym x.2) (subst (KeepsOfAt P) x.1 keeps))
        by_place (Closed first second) is = tt
        by_place Away is = tt

    -- ---- a step

    module _ (X : Tellings) (old new : History D) (step : Step) (goes : Goes seen failures armed step old new) (is : IsStepWithin step) (here : (req : ReqId) (chunk : ℕ) (view : View) (epoch : ℕ) → IsToldAt step old req chunk view epoch → X req chunk view epoch) (k : StandsAsked X old) where
      lasts_new : LastsThrough seen new.nodes.master
      lasts_new = (let d = tells_some seen failures old.nodes.master k.lasts in (step_on seen failures armed arms.lasts arms.told step old new d.0 goes (step_within seen failures armed step old is k.types) k.lasts d.1).lasts)

      abbrev Left : List Message → Type 0
      Left messages = LeavesTold seen failures armed X arms old new step goes here (step_within seen failures armed step old is k.types) k.asked k.lasts k.waits k.kept k.disks new.nodes.master messages

      stands_new : (messages : List Message) → Left messages → AllSent (λ (m : Message). IsToldOnlyIf X m.body) new.sent → StandsAsked X new
      stands_new messages left sent = record {
        types = step_keeps seen failures armed step old new goes is k.types;
        lasts = lasts_new;
        asked = step_asked seen failures armed arming arms.lasts arms.told step old new goes is k.types k.lasts k.asked;
        waits = left.waiting;
        kept = left.keeping;
        disks = told_new seen failures armed X arms old new step goes here (step_within seen failures armed step old is k.types) k.asked k.lasts k.waits k.kept k.disks;
        sent = sent;
      }

    pub step_asks : (X : Tellings) (old new : History D) (step : Step) → Goes seen failures armed step old new → IsStepWithin step → ((req : ReqId) (chunk : ℕ) (view : View) (epoch : ℕ) → IsToldAt step old req chunk view epoch → X req chunk view epoch) → StandsAsked X old → StandsAsked X new
    step_asks X old new (Comes event) (said, h) is here k =
        let left = part_left seen failures armed X arms old new (Comes event) (said, h) here (step_within seen failures armed (Comes event) old is k.types) k.asked k.lasts k.waits k.kept k.disks event.moment event.happening h.outcome refl
        (part_of seen failures armed old event.moment event.happening h.by h.outcome new.nodes h.at) in
        stands_new X old new (Comes event) (said, h) is here k (sent_by h.outcome) left
        (posted_all (λ (m : Message). IsToldOnlyIf X m.body) event.moment h.by (sent_by h.outcome) old.sent new.sent (posts seen failures armed event.moment h.by h.outcome old.sent said new.sent h.tells) k.sent left.said)
    step_asks X old new (Takes client) (found, takes, same) is here k =
        stands_new X old new (Takes client) (found, takes, same) is here k []
        (taken_left seen failures armed X arms old new (Takes client) (found, takes, same) here (step_within seen failures armed (Takes client) old is k.types) k.asked k.lasts k.waits k.kept k.disks (by_client (client_in old.nodes.clients client) takes))
        (subst (AllSent (λ (m : Message). IsToldOnlyIf X m.body)) (sym same) k.sent)
      where
        by_client : (o : Option Node) → MatchOption o ((new.nodes ≡ old.nodes) × (found ≡ None)) (λ n. (after : Node) × (new.nodes ≡ with_client client after old.nodes) × ((found ≡ n.reply) × (after ≡ given_up n))) → new.nodes.master ≡ old.nodes.master
        by_client None (still, none) = ap (λ (n : Nodes D). n.master) still
        by_client (Some n) (after, there, did) = ap (λ (n : Nodes D). n.master) there

    -- over a run, of which each step at which it is told so is one that counts
    run_asks : (X : Tellings) (steps : List Step) (old new : History D) (runs : RunsTo seen failures armed steps old new) → AllByRecursion IsStepWithin steps → ((req : ReqId) (chunk : ℕ) (view : View) (epoch : ℕ) → WasTold seen failures armed steps old new runs req chunk view epoch → X req chunk view epoch)
        → StandsAsked X old → StandsAsked X new
    run_asks X [] old new same within into k = subst (StandsAsked X) (sym same) k
    run_asks X (step ∷ steps) old new (mid, goes, rest) within into k =
        run_asks X steps mid new rest within.1 (λ req chunk view epoch w. into req chunk view epoch (inr w)) (step_asks X old mid step goes within.0 (λ req chunk view epoch w. into req chunk view epoch (inl w)) k)

  -- ---- the beginning

  module _ (sizes : HaveSizes) (now : History D) (r : HasRun seen failures armed now) where
    pub begins : (X : Tellings) → StandsAsked X r.begun
    begins X =
        let found = begins_restarted seen failures armed r.config r.clients r.disks r.begun r.new r.begins in record {
          types = begins_keeping seen failures armed r.config r.clients r.disks r.begun r.few r.begins;
          lasts = lasts;
          asked = begins_asked sizes seen failures armed r.config r.clients r.disks r.begun r.new r.begins;
          waits = subst (WaitAt r.begun.sent) (sym found.2) (inl (record { all = []; were = λ req call there. absurd (nowhere there.0 there.1); asked = subst (AreAskedFor []) (sym found.3) (asked_start [] start found.0) }));
          kept = λ m is req chunk view epoch k. absurd (none_kept req chunk view epoch found.0 (subst (λ (s : State). KeepsLocation s req chunk view epoch) (ap (λ (x : MasterOf D). x.state) (sym (standing_is found.1 m (sym found.2 ∙ is))) ∙ found.3) k));
          disks = λ d tells req chunk view epoch k. absurd (none_on_disks found.1 found.0 found.2 found.3 d tells req chunk view epoch k);
          sent = begins_none seen failures armed sizes r.config (λ req. []) r.clients r.disks r.begun r.new r.begins (λ (m : Message). IsToldOnlyIf X m.body);
        }
      where
        lasts : LastsThrough seen r.begun.nodes.master
        lasts = begins_through seen failures armed r.config r.clients r.disks r.begun r.new r.begins

        nowhere : (k : ℕ) → k < 0 → ⊥
        nowhere k less = omega arith

        none_kept : (req : ReqId) (chunk : ℕ) (view : View) (epoch : ℕ) (log : Log) → KeepsLocation (restarted start log) req chunk view epoch → ⊥
        none_kept req chunk view epoch log (inl k) = none_told req chunk view epoch k
        none_kept req chunk view epoch log (inr k) = none_told req chunk view epoch k

        none_on_disks : (m : MasterOf D) (log : Log) → r.begun.nodes.master ≡ Standing m → m.state ≡ restarted start log → (d : Durable) → TellsAt seen r.begun.nodes.master d → (req : ReqId) (chunk : ℕ) (view : View) (epoch : ℕ) → IsToldIn d.replies req chunk view epoch → ⊥
        none_on_disks m log there is d tells req chunk view epoch k =
            let sound = sound_tells seen failures m (ap (λ (s : State). is_failed s.fault) is) (subst (LastsThrough seen) there lasts) in
            let same : d ≡ m.state.durable = tells_once seen failures (Standing m) d m.state.durable (subst (λ p. TellsAt seen p d) there tells) sound in
            none_told req chunk view epoch (subst (λ (x : Durable). IsToldIn x.replies req chunk view epoch) (same ∙ ap (λ (s : State). s.durable) is) k)

    -- it was told so in this run
    abbrev InRun : Tellings
    InRun req chunk view epoch = WasTold seen failures armed r.steps r.begun now r.runs req chunk view epoch

    pub of_run : StandsAsked InRun now
    of_run = run_asks r.arms InRun r.steps r.begun now r.runs r.within (λ req chunk view epoch w. w) (begins InRun)

  -- ---- what holds

  module _ (sizes : HaveSizes) where
    pub calls_wait : CallsWaitAsSent seen failures armed
    calls_wait now r = (of_run sizes now r).waits

    pub turns_for : TurnsAreForCalls seen failures armed
    turns_for now step m t r is at sound made =
        let k = of_run sizes now r in
        for_calls step now m t (turn_for seen step now m t (step_within seen failures armed step now is k.types) k.asked k.lasts at sound (waits_there m sound (subst (WaitAt now.sent) at k.waits)) made)
      where
        waits_there : (m : MasterOf D) → is_failed m.state.fault ≡ false → WaitAsSent now.sent m.state ⊎ (is_failed m.state.fault ≡ true) → WaitAsSent now.sent m.state
        waits_there m sound (inl w) = w
        waits_there m sound (inr failed) = absurd (never (sym sound ∙ failed))
          where
            never : false ≡ true → ⊥
            never h = absurd (cc)

    pub records_for : RecordsAreForCalls seen failures armed
    records_for now next step d e r is goes was tells =
        let k = of_run sizes now r in
        records_stand seen failures armed (λ req chunk view epoch. Unit {0}) r.arms now next step goes (λ req chunk view epoch w. tt) (step_within seen failures armed step now is k.types) k.asked k.lasts k.waits (λ m at req chunk view epoch w. tt) (λ e told req chunk view epoch w. tt) d e was tells

    pub replies_told : RepliesWereTold seen failures armed
    replies_told now r message there = (of_run sizes now r).sent there.0 message there.1

    pub kept_told : KeptWereTold seen failures armed
    kept_told now r m req chunk view epoch at k = (of_run sizes now r).kept m at req chunk view epoch k

    pub disks_told : DisksWereTold seen failures armed
    disks_told now r d req chunk view epoch tells k = (of_run sizes now r).disks d tells req chunk view epoch k

    -- what was told at a step of a run was called before its end
    told_called : (steps : List Step) (old new : History D) (runs : RunsTo seen failures armed steps old new) (req : ReqId) (chunk : ℕ) (view : View) (epoch : ℕ) → WasTold seen failures armed steps old new runs req chunk view epoch → (call : Call) × IsCallSent new.sent req call
    told_called [] old new runs req chunk view epoch w = absurd w
    told_called (step ∷ steps) old new (mid, goes, rest) req chunk view epoch (inl told) =
        let stays = run_stays seen failures armed (step ∷ steps) old new (mid, goes, rest) in
        let c = told.were req told.told.call told.told.was in
        (told.told.call, record { message = c.message; there = sent_still c.message old.sent new.sent stays c.there; to = c.to; from = c.from; is = c.is })
    told_called (step ∷ steps) old new (mid, goes, rest) req chunk view epoch (inr w) = told_called steps mid new rest req chunk view epoch w

    pub told_since : NewWereToldSince seen failures armed
    told_since mid now r steps runs message within there = further Either Since (λ req chunk view epoch w. by_part req chunk view epoch w) message.body (ends.sent there.0 message there.1)
      where
        Either : Tellings
        Either req chunk view epoch = WasTold seen failures armed r.steps r.begun mid r.runs req chunk view epoch ⊎ WasTold seen failures armed steps mid now runs req chunk view epoch

        Since : Tellings
        Since req chunk view epoch = ((call : Call) → IsCallSent mid.sent req call → ⊥) → WasTold seen failures armed steps mid now runs req chunk view epoch

        ends : StandsAsked Either now
        ends = run_asks r.arms Either steps mid now runs within (λ req chunk view epoch w. inr w) (run_asks r.arms Either r.steps r.begun mid r.runs r.within (λ req chunk view epoch w. inl w) (begins sizes mid r Either))

        by_part : (req : ReqId) (chunk : ℕ) (view : View) (epoch : ℕ) → Either req chunk view epoch → Since req chunk view epoch
        by_part req chunk view epoch (inl before) none = absurd (let c = told_called r.steps r.begun mid r.runs req chunk view epoch before in none c.0 c.1)
        by_part req chunk view epoch (inr since) none = since
