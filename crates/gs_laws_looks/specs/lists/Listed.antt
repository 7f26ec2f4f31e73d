-- What a client lists behind a prepare, and behind its rollback.
use Rattle.std.specs.Prelude.{◌+◌, ◌≡◌, ◌<◌, List, true, ℕ}
use Rattle.std.proofs.Common.{◌^◌}
use Rattle.std.specs.List.{AllByRecursion}
use Rattle.gs_base.specs.Told.{IsNumber}
use Rattle.gs_base.specs.declared.config.Config.{Config}
use Rattle.gs_base.specs.declared.numbers.ClientId.{ClientId}
use Rattle.gs_journal.specs.Records.{fresh, standing}
use Rattle.gs_msg.specs.declared.answer.Answer.{Answer}
use Rattle.gs_msg.specs.declared.answer.Answer.TheVariants as answers
use Rattle.gs_msg.specs.declared.call.Call.{Call}
use Rattle.gs_msg.specs.declared.call.Call.TheVariants as calls
use Rattle.gs_path.specs.Path.{Path}
use Rattle.gs_world.specs.Histories.{Begins, History}
use Rattle.gs_world.specs.Runs.{RunsTo, Step}
use Rattle.gs_laws_chunks.specs.answers.Behind.{HasAnswer, IsOnly, is_halt}
use Rattle.gs_laws_chunks.specs.answers.Resting.{IsLooking}
use Rattle.gs_laws_world.specs.steady.Unarmed.{unarmed}
use Rattle.gs_laws_world.specs.steady.Saying.{IsStepWithin}

module _ {D : Type 0} (seen : D → List ℕ) (failures : D → ℕ) (config : Config) (clients : ℕ) (disks : D × D) where
  -- steps at which nothing is asked of the master but look-ups of this client, and it isn't started again
  pub record Way (client : ClientId) (old : History D) : Type 0 where
    pub steps : List Step
    pub end : History D
    pub runs : RunsTo seen failures unarmed steps old end
    pub within : AllByRecursion IsStepWithin steps
    pub looking : AllByRecursion (IsLooking client) steps

  -- A store has begun over disks that said nothing. Behind some steps a client, the only one, has the answer to its commit of a prepare, by which an epoch begins, and lists a path. Then there are any steps; and then it has the answer
  -- to its commit of a rollback, in the epoch next to that one, and lists the path again. Neither between a commit and its answer, nor between that and the list, it asks anything of the master but look-ups, and there the master isn't started again.
  pub record ListsTwice (client : ClientId) (path : Path) (epoch : ℕ) (had has : Answer) : Type 0 where
    pub new : standing (seen disks.0) (seen disks.1) ≡ fresh
    pub few : clients < 2 ^ 32
    pub begun : History D
    pub begins : Begins seen failures unarmed config clients disks begun
    pub first : List Step
    pub old : History D
    pub runs : RunsTo seen failures unarmed first begun old
    pub within : AllByRecursion IsStepWithin first
    pub prepared : History D
    pub prepares : HasAnswer seen failures unarmed client old calls.PrepareCommit (answers.Epoch epoch) prepared
    pub only : IsOnly client prepared
    pub way : Way client prepared
    pub listed : History D
    pub lists : HasAnswer seen failures unarmed client way.end (calls.List path) had listed
    pub between : List Step
    pub later : History D
    pub passes : RunsTo seen failures unarmed between listed later
    pub within_between : AllByRecursion IsStepWithin between
    pub back : History D
    pub commits : HasAnswer seen failures unarmed client later calls.RollbackCommit (answers.Epoch (epoch + 1)) back
    pub only_then : IsOnly client back
    pub way_then : Way client back
    pub last : History D
    pub again : HasAnswer seen failures unarmed client way_then.end (calls.List path) has last

  -- Then it lists the same: the rollback is of that prepare, whatever has come between, and whatever disks fail.
  abbrev pub ListsComeBack : Type 0
  ListsComeBack = (client : ClientId) (path : Path) (epoch : ℕ) (had has : Answer) → ListsTwice client path epoch had has → has ≡ had

  -- An epoch that is answered to the commit of a prepare, or of a rollback, is a number of 64 bits.
  abbrev pub EpochsAreNumbers : Type 0
  EpochsAreNumbers = (client : ClientId) (call : Call) (epoch : ℕ) → standing (seen disks.0) (seen disks.1) ≡ fresh → clients < 2 ^ 32 → (begun old mid : History D) (first : List Step) → Begins seen failures unarmed config clients disks begun → RunsTo seen failures unarmed first begun old →
      AllByRecursion IsStepWithin first → is_halt call ≡ true → HasAnswer seen failures unarmed client old call (answers.Epoch epoch) mid → IsNumber epoch
