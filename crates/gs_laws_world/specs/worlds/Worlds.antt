-- What is done with a store of `World` is a run that the laws of runs speak of.
use Rattle.std.specs.Prelude.{◌≡◌, List, Option, ℕ}
use Rattle.std.specs.List.{AllByRecursion}
use Rattle.gs_base.specs.Told.{IsNumber}
use Rattle.gs_base.specs.declared.config.Config.{Config}
use Rattle.gs_base.specs.declared.numbers.ClientId.{ClientId}
use Rattle.gs_client.specs.declared.link.Reply.{Reply}
use Rattle.gs_msg.specs.declared.event.DiskId.{DiskId}
use Rattle.gs_msg.specs.declared.event.Event.{Event}
use Rattle.gs_msg.specs.declared.event.Happening.{Happening}
use Rattle.gs_msg.specs.declared.event.Happening.TheVariants as happenings
use Rattle.gs_nodes.specs.declared.place.MasterPlace.{MasterPlace}
use Rattle.gs_world.specs.Histories.{Begins, History, IsOutcome}
use Rattle.gs_world.specs.Runs.{AreOutcomes, Comes, IsReached, TakesReply}
use Rattle.gs_world.specs.declared.outcome.Outcome.{Outcome}
use Rattle.gs_laws_world.specs.steady.Asking.{MayBeAsked}
use Rattle.gs_laws_world.specs.steady.Saying.{IsStepWithin}

-- the number under which a client asks has 64 bits
abbrev pub AsksUnderANumber : Happening → Type 0
AsksUnderANumber (happenings.Ask req request) = IsNumber req.number
AsksUnderANumber happening = Unit {0}

-- and so has the moment: each event of its Rust type is so
abbrev pub HasNumbers : Event → Type 0
HasNumbers event = IsNumber event.moment.0 × AsksUnderANumber event.happening

abbrev pub MayHappen : Happening → Type 0
MayHappen (happenings.Ask req request) = MayBeAsked request
MayHappen happening = Unit {0}

-- what a client asks may be asked: the paths of a call are by the rules, and so on, which no Rust type says
abbrev pub AsksByTheRules : Event → Type 0
AsksByTheRules event = MayHappen event.happening

abbrev pub IsWithin : Event → Type 0
IsWithin event = IsStepWithin (Comes event)

-- For what is seen of a disk, how often one has failed, and how failures are arranged; and with what a store begins.
module _ {D : Type 0} (seen : D → List ℕ) (failures : D → ℕ) (armed : DiskId → ℕ → MasterPlace D → MasterPlace D) (config : Config) (clients : ℕ) (disks : D × D) where
  -- a store that has begun over these disks, after steps each of which is within its types
  pub record IsReachedSo (now : History D) : Type 0 where
    pub reached : IsReached seen failures armed config clients disks now
    pub within : AllByRecursion IsStepWithin reached.steps

  -- ---- what is to hold

  -- so is one that begins
  abbrev pub BeginsSo : Type 0
  BeginsSo = (new : History D) → Begins seen failures armed config clients disks new → IsReachedSo new

  -- and one after events of which this is told, each within its types
  abbrev pub GoesOnSo : Type 0
  GoesOnSo = (events : List Event) (outcomes : List Outcome) (old new : History D) → IsReachedSo old → AreOutcomes seen failures armed events outcomes old new → AllByRecursion IsWithin events → IsReachedSo new

  -- and after one
  abbrev pub StepsSo : Type 0
  StepsSo = (event : Event) (outcome : Outcome) (old new : History D) → IsReachedSo old → IsOutcome seen failures armed event old outcome new → IsWithin event → IsReachedSo new

  -- and where a client's reply is taken out
  abbrev pub RepliesSo : Type 0
  RepliesSo = (client : ClientId) (found : Option Reply) (old new : History D) → IsReachedSo old → TakesReply client old.nodes found new.nodes → new.sent ≡ old.sent → IsReachedSo new

-- ---- the same, whatever is seen of the disks, however failures are arranged, and with whatever a store begins

abbrev pub EachBegins : Type 0 → Type 0
EachBegins D =
    (seen : D → List ℕ) (failures : D → ℕ) (armed : DiskId → ℕ → MasterPlace D → MasterPlace D) (config : Config) (clients : ℕ) (disks : D × D)
    → BeginsSo seen failures armed config clients disks

abbrev pub EachGoesOn : Type 0 → Type 0
EachGoesOn D =
    (seen : D → List ℕ) (failures : D → ℕ) (armed : DiskId → ℕ → MasterPlace D → MasterPlace D) (config : Config) (clients : ℕ) (disks : D × D)
    → GoesOnSo seen failures armed config clients disks

abbrev pub EachSteps : Type 0 → Type 0
EachSteps D =
    (seen : D → List ℕ) (failures : D → ℕ) (armed : DiskId → ℕ → MasterPlace D → MasterPlace D) (config : Config) (clients : ℕ) (disks : D × D)
    → StepsSo seen failures armed config clients disks

abbrev pub EachReplies : Type 0 → Type 0
EachReplies D =
    (seen : D → List ℕ) (failures : D → ℕ) (armed : DiskId → ℕ → MasterPlace D → MasterPlace D) (config : Config) (clients : ℕ) (disks : D × D)
    → RepliesSo seen failures armed config clients disks
