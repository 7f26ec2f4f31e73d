-- What a run of the shell writes.
use Rattle.std.specs.Prelude.{◌≡◌, ℕ, List, Option}
use Rattle.gs_base.specs.declared.config.Config.{Config}
use Rattle.gs_base.specs.declared.refusal.Refusal.{Refusal}
use Rattle.gs_shell_desk.specs.Answering.{AnswersText}
use Rattle.gs_shell_desk.specs.Starting.{Starts}
use Rattle.gs_shell_desk.specs.declared.desk.Desk.{Desk}
use Rattle.gs_journal.specs.declared.journal.Unopened.{Unopened}
use Rattle.gs_shell_script.specs.Run.{RunFails, Writes}
use Rattle.gs_shell_script.specs.declared.RunFault.{RunFault}
use Rattle.gs_shell_script.specs.declared.RunFault.TheVariants as fault
use Rattle.gs_nodes.specs.Happenings.{WhyNotBegun}

-- For what is seen of a disk, how often one has failed, the configuration, and the disks of the master's journal.
module _ {D : Type 0} (seen : D → List ℕ) (failures : D → ℕ) (config : Config) (disks : D × D) where
  -- a store begins over the disks, and what is written answers the input line for line
  pub record Serves (input : List ℕ) (old new : Option (List ℕ)) : Type 0 where
    pub begun : Desk D
    pub ended : Desk D
    pub starts : Starts seen failures config disks begun
    pub writes : Writes (AnswersText seen failures) begun input old new ended

  -- a store begins over the disks, and a read or a write fails
  pub record StopsServing (fault : RunFault) (before left old new : Option (List ℕ)) : Type 0 where
    pub begun : Desk D
    pub ended : Desk D
    pub starts : Starts seen failures config disks begun
    pub fails : RunFails (AnswersText seen failures) fault begun before left old new ended

  -- no store begins, and nothing is read or written
  pub record NotBegun (refusal : Refusal) (before left old new : Option (List ℕ)) : Type 0 where
    pub unopened : Unopened D
    pub why : WhyNotBegun seen failures config disks unopened
    pub refused : refusal ≡ unopened.refusal
    pub unread : left ≡ before
    pub unwritten : new ≡ old

  abbrev pub ServeFails : RunFault → Option (List ℕ) → Option (List ℕ) → Option (List ℕ) → Option (List ℕ) → Type 0
  ServeFails (fault.Refused refusal) before left old new = NotBegun refusal before left old new
  ServeFails fault before left old new = StopsServing fault before left old new
