-- What spares the master happens whatever failures of disks are arranged, and also where none are.
use Rattle.std.proofs.Common.{◌≡◌, ℕ, true, List, [], ◌∷◌, Result, Ok, Err, refl}
use Rattle.std.specs.List.{AllByRecursion}
use Rattle.std.proofs.lemmas.Bool.{false≢true}
use Rattle.gs_base.specs.declared.numbers.Moment.{Moment}
use Rattle.gs_base.specs.declared.refusal.Refusal.{Refusal}
use Rattle.gs_msg.specs.declared.event.DiskId.{DiskId}
use Rattle.gs_msg.specs.declared.event.Happening.{Happening}
use Rattle.gs_msg.specs.declared.event.Happening.TheVariants as happenings
use Rattle.gs_msg.specs.declared.node.NodeId.{NodeId}
use Rattle.gs_msg.specs.declared.node.StoreNode.TheVariants as keepers
use Rattle.gs_nodes.specs.Nodes.{Nodes}
use Rattle.gs_nodes.specs.declared.place.MasterPlace.{MasterPlace}
use Rattle.gs_world.specs.Histories.{AtNode, History, Tells, Upshot}
use Rattle.gs_world.specs.Runs.{Comes, Goes, RunsTo, Step, Takes}
use Rattle.gs_world.specs.Sent.{Sent}
use Rattle.gs_laws_chunks.proofs.lemmas.answers.Asked.{stays_unarmed}
use Rattle.gs_laws_chunks.specs.answers.Answered.{spares_master}
use Rattle.gs_laws_chunks.specs.answers.Asked.{AreAsked}
use Rattle.gs_laws_world.proofs.lemmas.steady.Through.{run_through}
use Rattle.gs_laws_world.specs.steady.Unarmed.{unarmed}
use Rattle.gs_laws_world.specs.steady.Saying.{IsStepWithin, KeepsTypes}
use Rattle.gs_laws_world.specs.steady.Through.{LastsThrough}

-- all of some steps spare the master
abbrev pub AllSpare : List Step → Type 0
AllSpare steps = AllByRecursion (λ step. spares_master step ≡ true) steps

module _ {D : Type 0} (seen : D → List ℕ) (failures : D → ℕ) (armed : DiskId → ℕ → MasterPlace D → MasterPlace D) where
  at_spared : (moment : Moment) (happening : Happening) (old : History D) (by : NodeId) (outcome : Upshot) (new : Nodes D) → spares_master (Comes (record { moment = moment; happening = happening })) ≡ true → AtNode seen failures armed moment happening old by outcome new
      → AtNode seen failures unarmed moment happening old by outcome new
  at_spared moment (happenings.Ask req request) old by outcome new spares at = at
  at_spared moment (happenings.Deliver id) old by outcome new spares at = at
  at_spared moment (happenings.Tick keepers.Master) old by outcome new spares at = at
  at_spared moment (happenings.Tick (keepers.Server id)) old by outcome new spares at = at
  at_spared moment (happenings.Beat id) old by outcome new spares at = at
  at_spared moment (happenings.Restart keepers.Master) old by outcome new spares at = absurd (false≢true spares)
  at_spared moment (happenings.Restart (keepers.Server id)) old by outcome new spares at = at
  at_spared moment (happenings.Lose id handle) old by outcome new spares at = at
  at_spared moment (happenings.Damage id handle block) old by outcome new spares at = at
  at_spared moment (happenings.FailDisk disk call) old by outcome new spares at = absurd (false≢true spares)

  tells_spared : (moment : Moment) (by : NodeId) (outcome : Upshot) (old : Sent) (result : Result (Unit {0}) Refusal) (new : Sent) → Tells seen failures armed moment by outcome old result new → Tells seen failures unarmed moment by outcome old result new
  tells_spared moment by (Ok (messages, said)) old result new tells = tells
  tells_spared moment by (Err refusal) old result new tells = tells

  pub goes_spared : (step : Step) (old new : History D) → spares_master step ≡ true → Goes seen failures armed step old new → Goes seen failures unarmed step old new
  goes_spared (Comes event) old new spares (said, h) = (
    said,
    record {
      by = h.by;
      outcome = h.outcome;
      at = at_spared event.moment event.happening old h.by h.outcome new.nodes spares h.at;
      tells = tells_spared event.moment h.by h.outcome old.sent said new.sent h.tells;
    },
  )
  goes_spared (Takes client) old new spares goes = goes

  pub run_spared : (steps : List Step) (old new : History D) → AllSpare steps → RunsTo seen failures armed steps old new → RunsTo seen failures unarmed steps old new
  run_spared [] old new spare same = same
  run_spared (step ∷ steps) old new spare (mid, goes, rest) = (mid, goes_spared step old mid spare.0 goes, run_spared steps mid new spare.1 rest)

  -- ---- so what stands where no failure is arranged stands here

  pub lasts_spared : (steps : List Step) (old new : History D) → RunsTo seen failures armed steps old new → AllSpare steps → AllByRecursion IsStepWithin steps → KeepsTypes old → LastsThrough seen old.nodes.master → LastsThrough seen new.nodes.master
  lasts_spared steps old new runs spare within keeps lasts = run_through seen failures unarmed (λ disk call place lasts. lasts) (λ d disk call place told. told) steps old new (run_spared steps old new spare runs) within keeps lasts

  pub asked_spared : (steps : List Step) (old new : History D) → RunsTo seen failures armed steps old new → AllSpare steps → AllByRecursion IsStepWithin steps → KeepsTypes old → LastsThrough seen old.nodes.master → AreAsked seen old → AreAsked seen new
  asked_spared steps old new runs spare within keeps lasts are = stays_unarmed seen failures unarmed steps old new (λ disk call place. refl) (run_spared steps old new spare runs) within keeps lasts are
