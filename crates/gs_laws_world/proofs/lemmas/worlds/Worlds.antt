-- What is done with a store of `World` is a run.
use Rattle.std.proofs.Common.{◌≡◌, ◌++◌, ℕ, List, [], ◌∷◌, IfErr, IfOk, Result, Ok, Err, refl, subst, sym}
use Rattle.std.specs.Prelude.{Vec}
use Rattle.std.specs.declared.alloc.Global.{Global}
use Rattle.std.specs.List.{AllByRecursion}
use Rattle.gs_base.specs.declared.config.Config.{Config}
use Rattle.gs_msg.specs.declared.event.DiskId.{DiskId}
use Rattle.gs_msg.specs.declared.event.Event.{Event}
use Rattle.gs_msg.specs.declared.event.Happening.{Happening}
use Rattle.gs_msg.specs.declared.event.Happening.TheVariants as happenings
use Rattle.gs_nodes.specs.declared.place.MasterPlace.{MasterPlace}
use Rattle.gs_base.specs.declared.refusal.Refusal.{Refusal}
use Rattle.gs_journal.specs.Faults.{Failing}
use Rattle.gs_journal.specs.Memory.{bytes_of, times_failed}
use Rattle.gs_journal.specs.declared.memory.MemoryDisk.{MemoryDisk}
use Rattle.gs_nodes.specs.NewDisks.{OverEmpty}
use Rattle.gs_world.specs.Beginning.{new_disks}
use Rattle.gs_world.specs.Histories.{Begins, History, arms, failures_of, history_of, seen_of}
use Rattle.gs_world.specs.declared.outcome.Outcome.{Outcome}
use Rattle.gs_world.specs.declared.world.World.{World}
use Rattle.gs_world.specs.Runs.{AreOutcomes, Comes, Goes, RunsTo, Step, Takes}
use Rattle.gs_laws_world.specs.steady.Saying.{IsAskedWithin, IsStepWithin}
use Rattle.gs_laws_world.specs.worlds.Worlds.{AsksByTheRules, AsksUnderANumber, BeginsSo, GoesOnSo, HasNumbers, IsReachedSo, IsWithin, MayHappen, RepliesSo, StepsSo}

module _ {D : Type 0} (seen : D → List ℕ) (failures : D → ℕ) (armed : DiskId → ℕ → MasterPlace D → MasterPlace D) where
  -- one more step
  step_after : (steps : List Step) (step : Step) (old mid new : History D) → RunsTo seen failures armed steps old mid → Goes seen failures armed step mid new → RunsTo seen failures armed (steps ++ step ∷ []) old new
  step_after [] step old mid new same goes = (new, subst (λ h. Goes seen failures armed step h new) same goes, refl)
  step_after (first ∷ steps) step old mid new (next, one, rest) goes = (next, one, step_after steps step next mid new rest goes)

  all_within : (steps : List Step) (step : Step) → AllByRecursion IsStepWithin steps → IsStepWithin step → AllByRecursion IsStepWithin (steps ++ step ∷ [])
  all_within [] step all one = (one, tt)
  all_within (first ∷ steps) step all one = (all.0, all_within steps step all.1 one)

  module _ (config : Config) (clients : ℕ) (disks : D × D) where
    pub begins_so : BeginsSo seen failures armed config clients disks
    begins_so new begins = record { reached = record { begun = new; steps = []; begins = begins; runs = refl }; within = tt }

    goes_on : (step : Step) (old new : History D) → IsReachedSo seen failures armed config clients disks old → Goes seen failures armed step old new → IsStepWithin step → IsReachedSo seen failures armed config clients disks new
    goes_on step old new r goes within = record {
      reached = record { begun = r.reached.begun; steps = r.reached.steps ++ step ∷ []; begins = r.reached.begins; runs = step_after r.reached.steps step r.reached.begun old new r.reached.runs goes };
      within = all_within r.reached.steps step r.within within;
    }

    pub steps_so : StepsSo seen failures armed config clients disks
    steps_so event outcome old new r told within = goes_on (Comes event) old new r (outcome.said, told.happens) within

    pub goes_on_so : GoesOnSo seen failures armed config clients disks
    goes_on_so [] outcomes old new r (none, same) within = subst (λ h. IsReachedSo seen failures armed config clients disks h) (sym same) r
    goes_on_so (event ∷ events) outcomes old new r (one, others, mid, are, told, rest) within =
        goes_on_so events others mid new (steps_so event one old mid r told within.0) rest within.1

    pub replies_so : RepliesSo seen failures armed config clients disks
    replies_so client found old new r takes same = goes_on (Takes client) old new r (found, takes, same) tt

-- what the Rust types say, with the rules
asks_within : (happening : Happening) → AsksUnderANumber happening → MayHappen happening → IsAskedWithin happening
asks_within (happenings.Ask req request) number may = (number, may)
asks_within happening number may = tt

pub are_within : (events : List Event) → AllByRecursion HasNumbers events → AllByRecursion AsksByTheRules events → AllByRecursion IsWithin events
are_within [] numbers rules = tt
are_within (event ∷ events) numbers rules = ((numbers.0.0, asks_within event.happening numbers.0.1 rules.0), are_within events numbers.1 rules.1)

-- ---- a store of its Rust type

pub begins_so_of : (config : Config) (r : Result (World MemoryDisk) Refusal) → IfOk r (λ world. OverEmpty (λ disks. Begins (seen_of bytes_of) (failures_of times_failed) arms config 1 (new_disks disks) (history_of world)))
    → IfOk r (λ world. OverEmpty (λ disks. IsReachedSo (seen_of bytes_of) (failures_of times_failed) arms config 1 (new_disks disks) (history_of world)))
begins_so_of config (Ok world) (disks, empty, begins) = (disks, empty, begins_so (seen_of bytes_of) (failures_of times_failed) arms config 1 (new_disks disks) (history_of world) begins)
begins_so_of config (Err refusal) none = tt

pub runs_so : {D E : Type 0} (seen : D → List ℕ) (failures : D → ℕ) (config : Config) (clients : ℕ) (disks : Failing D × Failing D) (r : Result (Vec Outcome Global) E) (events : List Event) (old new : World D)
    → IfOk r (λ outcomes. AreOutcomes (seen_of seen) (failures_of failures) arms events outcomes.items (history_of old) (history_of new)) → IfErr r (λ e. new ≡ old) → AllByRecursion HasNumbers events
    → IsReachedSo (seen_of seen) (failures_of failures) arms config clients disks (history_of old) → AllByRecursion AsksByTheRules events → IsReachedSo (seen_of seen) (failures_of failures) arms config clients disks (history_of new)
runs_so seen failures config clients disks (Ok outcomes) events old new told kept numbers reached rules =
    goes_on_so (seen_of seen) (failures_of failures) arms config clients disks events outcomes.items (history_of old) (history_of new) reached told (are_within events numbers rules)
runs_so seen failures config clients disks (Err e) events old new told kept numbers reached rules = subst (λ w. IsReachedSo (seen_of seen) (failures_of failures) arms config clients disks (history_of w)) (sym kept) reached
