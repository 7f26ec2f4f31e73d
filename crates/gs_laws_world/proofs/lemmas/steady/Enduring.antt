-- That the master of a store which is asked within its types lasts steady while no disk fails, and refuses for want of memory alone.
use Rattle.std.proofs.Common.{◌≡◌, ◌∙◌, ℕ, List, [], ◌∷◌, Option, MatchOption, Result, Ok, Err, refl, sym, ap, subst, inl, inr}
use Rattle.std.specs.List.{AllByRecursion}
use Rattle.gs_base.specs.Told.{IsNumber}
use Rattle.gs_base.specs.declared.numbers.Moment.{Moment}
use Rattle.gs_base.specs.declared.refusal.Refusal.{Refusal}
use Rattle.gs_base.specs.declared.refusal.Refusal.TheVariants as refusals
use Rattle.gs_journal.specs.Faults.{Failing}
use Rattle.gs_msg.specs.declared.event.DiskId.{DiskId}
use Rattle.gs_master.specs.declared.turn.Turn.{Turn}
use Rattle.gs_msg.specs.declared.event.Happening.{Happening}
use Rattle.gs_msg.specs.declared.event.Happening.TheVariants as happenings
use Rattle.gs_msg.specs.declared.message.Message.{Message}
use Rattle.gs_msg.specs.declared.node.NodeId.{NodeId}
use Rattle.gs_msg.specs.declared.node.StoreNode.TheVariants as keepers
use Rattle.gs_msg.specs.declared.node.NodeId.TheVariants as nodes
use Rattle.gs_world.specs.Histories.{AtMaster, AtNode, ComesTo, History, Upshot, arms, failures_of, seen_of, told}
use Rattle.gs_world.specs.Runs.{Goes, Step, Comes, Takes}
use Rattle.gs_world.specs.Sent.{IsSent}
use Rattle.gs_nodes.specs.Happenings.{Delivers, Hears, MasterHears, MasterTicks}
use Rattle.gs_nodes.specs.Nodes.{Nodes}
use Rattle.gs_nodes.specs.declared.place.MasterPlace.{MasterPlace}
use Rattle.gs_nodes.specs.declared.place.MasterPlace.TheVariants.{Standing, Closed, Away}
use Rattle.gs_laws_world.specs.steady.Enduring.{GoesForMemory, IsForMemory, RunsForMemory}
use Rattle.gs_laws_world.specs.steady.Unarmed.{unarmed}
use Rattle.gs_laws_world.specs.steady.Saying.{IsStepWithin, KeepsTypes, MayBeHeard, RunsQuietly}
use Rattle.gs_laws_world.specs.steady.Steady.{LastsSteady}
use Rattle.gs_laws_world.proofs.lemmas.steady.Keeping.{runs_steadily, step_keeps, to_master}
use Rattle.gs_laws_world.proofs.lemmas.steady.Refusing.{message_refused_for_memory, tick_refused_for_memory}
use Rattle.gs_laws_world.proofs.lemmas.steady.Steady.{faulty_run_steady, unarmed_run_steady}

module _ {D : Type 0} (seen : D → List ℕ) (failures : D → ℕ) where
  pub lasts_unarmed : (armed : DiskId → ℕ → MasterPlace D → MasterPlace D) (steps : List Step) (old new : History D) → ((disk : DiskId) (call : ℕ) (place : MasterPlace D) → armed disk call place ≡ place)
      → RunsQuietly seen failures armed steps old new → AllByRecursion IsStepWithin steps → KeepsTypes old → LastsSteady seen old.nodes.master → LastsSteady seen new.nodes.master
  lasts_unarmed armed steps old new leaves quiet within keeps h =
      unarmed_run_steady seen failures armed steps old new leaves (runs_steadily seen failures armed steps old new quiet within keeps) h

  pub lasts_armed : (steps : List Step) (old new : History (Failing D)) → RunsQuietly (seen_of seen) (failures_of failures) arms steps old new → AllByRecursion IsStepWithin steps → KeepsTypes old
      → LastsSteady (seen_of seen) old.nodes.master → LastsSteady (seen_of seen) new.nodes.master
  lasts_armed steps old new quiet within keeps h = faulty_run_steady seen failures steps old new (runs_steadily (seen_of seen) (failures_of failures) arms steps old new quiet within keeps) h

  -- ---- what is refused

  hears_at : (message : Message) (moment : Moment) (place : MasterPlace D) (e : Refusal) (new : MasterPlace D) → IsNumber moment.0 → MayBeHeard message.body → LastsSteady seen place
      → MasterHears seen failures message moment place (Err e) new → e ≡ refusals.Memory
  hears_at message moment (Standing m) e new small may h hears =
      message_refused_for_memory seen failures moment m e new h.firm h.steady message (may.named, small) (may.heard m.state.durable.names) hears
  hears_at message moment (Closed first second) e new small may h meets = meets.1
  hears_at message moment Away e new small may h meets = absurd h

  pub hears_for_memory : (h : History D) (message : Message) (moment : Moment) (e : Refusal) (new : MasterPlace D) → KeepsTypes h → LastsSteady seen h.nodes.master → IsSent message h.sent → message.to ≡ nodes.Master → IsNumber moment.0
      → MasterHears seen failures message moment h.nodes.master (Err e) new → e ≡ refusals.Memory
  hears_for_memory h message moment e new keeps steady (id, found) to small hears =
      hears_at message moment h.nodes.master e new small (to_master seen failures unarmed h keeps id message found to) steady hears

  ticks_at : (moment : Moment) (place : MasterPlace D) (e : Refusal) (new : MasterPlace D) → LastsSteady seen place → MasterTicks seen failures moment place (Err e) new → e ≡ refusals.Memory
  ticks_at moment (Standing m) e new h ticks = tick_refused_for_memory seen failures moment m e new h.firm h.steady ticks
  ticks_at moment (Closed first second) e new h meets = meets.1
  ticks_at moment Away e new h meets = absurd h

  pub ticks_for_memory : (h : History D) (moment : Moment) (e : Refusal) (new : MasterPlace D) → LastsSteady seen h.nodes.master → MasterTicks seen failures moment h.nodes.master (Err e) new → e ≡ refusals.Memory
  ticks_for_memory h moment e new steady ticks = ticks_at moment h.nodes.master e new steady ticks

  -- ---- each step of a run

  told_err : (turn : Result Turn Refusal) (e : Refusal) → told turn ≡ Err e → turn ≡ Err e
  told_err (Ok turn) e is = absurd cc
  told_err (Err refusal) e is = let same : refusal ≡ e = cc in ap (λ (x : Refusal). Err x) same

  heard_by : (message : Message) (moment : Moment) (to : NodeId) (old new : Nodes D) (e : Refusal) → to ≡ nodes.Master → IsNumber moment.0 → MayBeHeard message.body → LastsSteady seen old.master
      → Hears seen failures message moment to old (Err e) new → e ≡ refusals.Memory
  heard_by message moment nodes.Master old new e to small may h (place, is, hears) = hears_at message moment old.master e place small may h hears
  heard_by message moment (nodes.Server id) old new e to small may h at = absurd cc
  heard_by message moment (nodes.Client id) old new e to small may h at = absurd cc

  delivered_by : (message : Message) (moment : Moment) (old new : Nodes D) (e : Refusal) → message.to ≡ nodes.Master → IsNumber moment.0 → MayBeHeard message.body → LastsSteady seen old.master
      → Delivers seen failures message moment old (Err e) new → e ≡ refusals.Memory
  unfolding Delivers
  delivered_by message moment old new e to small may h hears = heard_by message moment message.to old new e to small may h hears

  module _ (armed : DiskId → ℕ → MasterPlace D → MasterPlace D) where
    came_by : (sender : NodeId) (message : Message) (moment : Moment) (old : Nodes D) (by : NodeId) (outcome : Upshot) (new : Nodes D) (e : Refusal) → outcome ≡ Err e → message.to ≡ nodes.Master → IsNumber moment.0 → MayBeHeard message.body
        → LastsSteady seen old.master → ComesTo seen failures armed sender message moment old by outcome new → e ≡ refusals.Memory
    came_by sender message moment old by outcome new e is to small may h comes = elim comes [
      | inl (at, turn, delivers, tells) ↦
          delivered_by message moment old new e to small may h (subst (λ (r : Result Turn Refusal). Delivers seen failures message moment old r new) (told_err turn e (sym tells ∙ is)) delivers)
      | inr (refused, same, from) ↦ for_memory outcome e is refused
    ]
      where
        for_memory : (outcome : Upshot) (e : Refusal) → outcome ≡ Err e → outcome ≡ Err refusals.Memory → e ≡ refusals.Memory
        for_memory outcome e is refused = cc

    ticked_by : (moment : Moment) (old : Nodes D) (outcome : Upshot) (new : Nodes D) (e : Refusal) → outcome ≡ Err e → LastsSteady seen old.master → AtMaster (MasterTicks seen failures moment) old outcome new → e ≡ refusals.Memory
    ticked_by moment old outcome new e is h (place, turn, does, same, tells) =
        ticks_at moment old.master e place h (subst (λ (r : Result Turn Refusal). MasterTicks seen failures moment old.master r place) (told_err turn e (sym tells ∙ is)) does)

    happens_for_memory : (moment : Moment) (happening : Happening) (old : History D) (by : NodeId) (outcome : Upshot) (new : Nodes D) → AtNode seen failures armed moment happening old by outcome new → IsNumber moment.0
        → KeepsTypes old → LastsSteady seen old.nodes.master → IsForMemory happening old outcome
    happens_for_memory moment (happenings.Ask req request) old by outcome new at small keeps h = tt
    happens_for_memory moment (happenings.Deliver id) old by outcome new at small keeps h =
        λ message e found to is. came_by id.sender message moment old.nodes by outcome new e is to small (to_master seen failures armed old keeps id message found to) h (subst
        (λ (o : Option Message). MatchOption o ((outcome ≡ Err refusals.Range) × (new ≡ old.nodes) × (by ≡ id.sender)) (λ m. ComesTo seen failures armed id.sender m moment old.nodes by outcome new)) found at)
    happens_for_memory moment (happenings.Tick keepers.Master) old by outcome new at small keeps h = λ e is. ticked_by moment old.nodes outcome new e is h at.1
    happens_for_memory moment (happenings.Tick (keepers.Server id)) old by outcome new at small keeps h = tt
    happens_for_memory moment (happenings.Beat id) old by outcome new at small keeps h = tt
    happens_for_memory moment (happenings.Restart node) old by outcome new at small keeps h = tt
    happens_for_memory moment (happenings.Lose id handle) old by outcome new at small keeps h = tt
    happens_for_memory moment (happenings.Damage id handle block) old by outcome new at small keeps h = tt
    happens_for_memory moment (happenings.FailDisk disk call) old by outcome new at small keeps h = tt

    step_for_memory : (step : Step) (old new : History D) (goes : Goes seen failures armed step old new) → IsStepWithin step → KeepsTypes old → LastsSteady seen old.nodes.master → GoesForMemory seen failures armed step old new goes
    step_for_memory (Comes event) old new (said, happens) within keeps h = happens_for_memory event.moment event.happening old happens.by happens.outcome new.nodes happens.at within.0 keeps h
    step_for_memory (Takes client) old new goes within keeps h = tt

    -- where what stands at the master lasts
    pub run_for_memory : ((steps : List Step) (old new : History D) → RunsQuietly seen failures armed steps old new → AllByRecursion IsStepWithin steps → KeepsTypes old → LastsSteady seen old.nodes.master → LastsSteady seen new.nodes.master)
        → (steps : List Step) (old new : History D) (runs : RunsQuietly seen failures armed steps old new) → AllByRecursion IsStepWithin steps → KeepsTypes old → LastsSteady seen old.nodes.master → RunsForMemory seen failures armed steps old new runs
    run_for_memory lasting [] old new runs within keeps h = tt
    run_for_memory lasting (step ∷ steps) old new (mid, goes, quiet, rest) within keeps h = (
      step_for_memory step old mid goes within.0 keeps h,
      run_for_memory lasting steps mid new rest within.1 (step_keeps seen failures armed step old mid goes within.0 keeps) (lasting (step ∷ []) old mid (mid, goes, quiet, refl) (within.0, tt) keeps h),
    )
