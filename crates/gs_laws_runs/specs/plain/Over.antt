-- A request that is over makes no edit in a run, whatever happens in it.
use Rattle.std.specs.Prelude.{[], ◌∷◌, ◌≡◌, List, Some, false, refl, take, true, ℕ}
use Rattle.std.specs.List.{list_any}
use Rattle.gs_base.specs.declared.numbers.ClientId.{ClientId}
use Rattle.gs_base.specs.declared.numbers.ReqId.{ReqId}
use Rattle.gs_master.specs.Masters.{MasterOf}
use Rattle.gs_laws_master.specs.Standing.{IsOver}
use Rattle.gs_laws_moves.specs.moves.Over.{refuses, tells_edit_of, was_told}
use Rattle.gs_master_spec.specs.Applied.{replayed}
use Rattle.gs_msg.specs.declared.message.Message.{Message}
use Rattle.gs_nodes.specs.declared.place.MasterPlace.TheVariants.{Standing}
use Rattle.gs_world.specs.Histories.{History}
use Rattle.gs_world.specs.Runs.{Step, Takes}
use Rattle.gs_laws_chunks.specs.accounts.Accounts.{Account}
use Rattle.gs_laws_chunks.specs.accounts.Running.{IsReached, Moves, Runs, Setup}
use Rattle.gs_laws_lift.specs.stores.Left.{as_left}
use Rattle.gs_laws_runs.specs.plain.Written.{messages_at, records_at}

-- so many of the records of a step are written, and none of these tells an edit of the request
pub record WritesNoEdit {D : Type 0} (req : ReqId) (step : Step) (old : History D) (a b : Account) : Type 0 where
  pub written : ℕ
  pub records : replayed a.durable (take written (records_at step old)) ≡ Some b.durable
  pub none : list_any (tells_edit_of req) (take written (records_at step old)) ≡ false

module _ {D : Type 0} (x : Setup D) where
  -- so of each step of a run
  abbrev pub EachWritesNoEdit : ReqId → (steps : List Step) (old : History D) (a : Account) (new : History D) (b : Account) → Runs x steps old a new b → Type 0
  EachWritesNoEdit req [] old a new b runs = Unit {0}
  EachWritesNoEdit req (step ∷ steps) old a new b (mid, c, one, rest) = WritesNoEdit req step old a c × EachWritesNoEdit req steps mid c new b rest

  -- Whatever happens, restarts of the master and failures of its disks among it: once a request is over at a master of which no disk has failed, and a record has told so, no step makes an edit for it.
  abbrev pub OverMakesNoEdits : Type 0
  OverMakesNoEdits = (old new : History D) (a b : Account) (steps : List Step) (m : MasterOf D) (req : ReqId) → IsReached x old a → as_left old.nodes.master ≡ Standing m →
      IsOver m.state.durable m.state.volatile req → was_told m.state.durable req ≡ true → (runs : Runs x steps old a new b) → EachWritesNoEdit req steps old a new b runs

  -- A step at which the master refuses a request, whether it hears it then or the request has waited, writes no edit of it.
  abbrev pub RefusedMakeNoEdits : Type 0
  RefusedMakeNoEdits = (old new : History D) (a b : Account) (step : Step) (req : ReqId) → IsReached x old a → Moves x step old a new b → list_any (λ (m : Message). refuses req m.body) (messages_at step old) ≡ true → WritesNoEdit req step old a b

-- ---- Worked: where a client takes its answer nothing is written
nothing_is_told : {D : Type 0} (req : ReqId) (client : ClientId) (old : History D) (a : Account) → WritesNoEdit req (Takes client) old a a
nothing_is_told req client old a = record { written = 0; records = refl; none = refl }
