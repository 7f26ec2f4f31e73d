-- What a run of the shell writes where the nodes run in threads.
use Rattle.std.specs.Prelude.{◌≡◌, ◌⊎◌, ℕ, List, [], ◌∷◌, Option, IfSome, Result, Ok, Err}
use Rattle.gs_base.specs.declared.config.Config.{Config}
use Rattle.gs_base.specs.declared.refusal.Refusal.{Refusal}
use Rattle.gs_base.specs.declared.refusal.Refusal.TheVariants as refusals
use Rattle.gs_cluster.specs.Calling.{fresh_clients}
use Rattle.gs_cluster.specs.Finished.{HasRun}
use Rattle.gs_cluster_history.specs.Setting.{Setting}
use Rattle.gs_journal.specs.declared.journal.Unopened.{Unopened}
use Rattle.gs_nodes.specs.Happenings.{WhyNotBegun}
use Rattle.gs_nodes.specs.declared.nodes.Nodes.{Nodes}
use Rattle.gs_shell_script.specs.Run.{RunFails, Writes}
use Rattle.gs_shell_script.specs.declared.RunFault.{RunFault}
use Rattle.gs_shell_script.specs.declared.RunFault.TheVariants as fault
use Rattle.gs_shell_threads.specs.Answering.{AnswersText}
use Rattle.gs_shell_threads.specs.declared.desk.Desk.{Desk}

-- Why none is begun over these disks: memory is wanting, or they can't be opened.
abbrev pub WhyNoStore : {D : Type 0} → (D → List ℕ) → (D → ℕ) → Config → D × D → Refusal → Type 0
WhyNoStore {D} seen failures config disks refusal = (u : Unopened D) × (refusal ≡ u.refusal) × WhyNotBegun seen failures config disks u

-- For the types of the desk, what is seen of a disk, how often one has failed, and with what the store begins.
module _ (N T : Type 0) {D : Type 0} (seen : D → List ℕ) (failures : D → ℕ) (setting : Setting) where
  -- A client that has asked nothing, at moment 0, asks what lines say, and comes to this; what it writes is so.
  pub record Asks (Written : Desk N D T → Desk N D T → Type 0) (ended : Desk N D T) : Type 0 where
    pub begun : Desk N D T
    pub client : begun.caller.client ≡ record { last = record { client = record { 0 = 1 }; number = 0 }; chunk = setting.config.chunk }
    pub node : begun.link.node ∷ [] ≡ fresh_clients 1
    pub moment : begun.link.moment ≡ record { 0 = 0 }
    pub written : Written begun ended

  -- All that its node took and did stands, with what the other nodes did, in one run of a store that has begun new.
  pub record AsksInARun (Written : Desk N D T → Desk N D T → Type 0) : Type 0 where
    pub ended : Desk N D T
    pub asks : Asks Written ended
    pub nodes : Nodes D
    pub run : HasRun seen failures setting (ended.link.node ∷ []) nodes

  -- what is written answers the input line for line
  abbrev pub Serves : List ℕ → Option (List ℕ) → Option (List ℕ) → Type 0
  Serves input old new = AsksInARun (λ (begun : Desk N D T) (ended : Desk N D T). Writes (AnswersText seen failures) begun input old new ended)

  -- what is written where the lines end so, the input's end or a read or a write that fails
  abbrev pub Ends : Result (Unit {0}) RunFault → Option (List ℕ) → Option (List ℕ) → Option (List ℕ) → Option (List ℕ) → Desk N D T → Desk N D T → Type 0
  Ends (Ok x) before left old new begun ended = IfSome before (λ input. Writes (AnswersText seen failures) begun input old new ended)
  Ends (Err fault) before left old new begun ended = RunFails (AnswersText seen failures) fault begun before left old new ended

  -- A store was begun, and lines were answered to their end; then memory was wanting to end it.
  pub record NotEnded (refusal : Refusal) (before left old new : Option (List ℕ)) : Type 0 where
    pub end : Result (Unit {0}) RunFault
    pub ended : Desk N D T
    pub asks : Asks (Ends end before left old new) ended
    pub refused : refusal ≡ refusals.Memory

  -- for why none can be begun
  module _ (Why : Refusal → Type 0) where
    -- none is begun, and nothing is read or written
    pub record NotBegun (refusal : Refusal) (before left old new : Option (List ℕ)) : Type 0 where
      pub why : Why refusal
      pub unread : left ≡ before
      pub unwritten : new ≡ old

    -- what is written where a run doesn't end well
    abbrev pub ServeFails : RunFault → Option (List ℕ) → Option (List ℕ) → Option (List ℕ) → Option (List ℕ) → Type 0
    ServeFails (fault.Refused refusal) before left old new = NotBegun refusal before left old new ⊎ NotEnded refusal before left old new
    ServeFails fault before left old new = AsksInARun (Ends (Err fault) before left old new)
