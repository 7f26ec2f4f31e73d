-- For whom servers work: what asks a server for an edit, or for a part of a chunk, and what a server tells of it, is of a request that its client has asked. So no server answers a call.
use Rattle.std.specs.Prelude.{[], ◌∷◌, ◌≡◌, ◌⊎◌, Err, List, None, Ok, Some, refl, true, ℕ}
use Rattle.std.proofs.Common.{arith, inl, inr}
use Rattle.std.specs.List.{AllByRecursion}
use Rattle.gs_base.specs.declared.config.Config.{Config}
use Rattle.gs_base.specs.declared.numbers.Moment.{Moment}
use Rattle.gs_base.specs.declared.numbers.ReqId.{ReqId}
use Rattle.gs_base.specs.declared.refusal.Refusal.{Refusal}
use Rattle.gs_base.specs.declared.refusal.Refusal.TheVariants as refusals
use Rattle.gs_client.specs.Nodes.{Node}
use Rattle.gs_client.specs.declared.link.Reply.{Reply}
use Rattle.gs_client.specs.declared.link.Reply.TheVariants as replies
use Rattle.gs_journal.specs.Records.{fresh, standing}
use Rattle.gs_laws_lift.specs.stores.Waiting.{AllWaitFor}
use Rattle.gs_laws_moves.specs.answers.AtOnce.{is_answered_at_once}
use Rattle.gs_msg.specs.declared.answer.Answer.TheVariants as answers
use Rattle.gs_msg.specs.declared.body.Body.{Body}
use Rattle.gs_msg.specs.declared.body.Body.TheVariants as bodies
use Rattle.gs_msg.specs.declared.body.Given.TheVariants as givens
use Rattle.gs_msg.specs.declared.call.Call.{Call}
use Rattle.gs_msg.specs.declared.chunk.Chunk.TheVariants as chunks
use Rattle.gs_msg.specs.declared.event.DiskId.{DiskId}
use Rattle.gs_msg.specs.declared.message.Message.{Message}
use Rattle.gs_msg.specs.declared.message.MsgId.{MsgId}
use Rattle.gs_nodes.specs.Happenings.{client_in}
use Rattle.gs_nodes.specs.declared.place.MasterPlace.{MasterPlace}
use Rattle.gs_shell_desk.specs.Ways.{way_of}
use Rattle.gs_shell_desk.specs.declared.desk.Desk.{Desk}
use Rattle.gs_world.specs.Histories.{Begins, History}
use Rattle.gs_world.specs.Runs.{RunsTo, Step}
use Rattle.gs_world.specs.Sent.{message_of}
use Rattle.gs_laws_chunks.specs.answers.Answered.{AsksFresh, Passes, SaidBy, WasSaid, spares_master}
use Rattle.gs_laws_chunks.specs.answers.Asked.{AreAsked, HasAsked}
use Rattle.gs_laws_chunks.specs.answers.Behind.{asks_call}
use Rattle.gs_laws_chunks.specs.answers.Replied.{AreReplied}
use Rattle.gs_laws_chunks.specs.calls.Asked.{ArmsAlone}
use Rattle.gs_laws_chunks.specs.desks.Reached.{history}
use Rattle.gs_laws_chunks.specs.desks.Within.{IsReachedWithin}
use Rattle.gs_laws_world.specs.steady.Saying.{IsStepWithin, KeepsTypes}
use Rattle.gs_laws_world.specs.steady.Through.{LastsThrough}

-- a server is asked for an edit or for a part of a chunk under such a request, or tells what the edit came to, or what the part is
abbrev pub ServesOf : (ReqId → Type 0) → Body → Type 0
ServesOf P (bodies.About chunk (chunks.Edit req stamp op)) = P req
ServesOf P (bodies.About chunk (chunks.Fetch req stamp epoch asked)) = P req
ServesOf P (bodies.Done req result) = P req
ServesOf P (bodies.Bytes req result) = P req
ServesOf P body = Unit {0}

-- So it is of each message that was ever sent, and of each edit that waits at a server for the members of its chunk: its client has asked.
pub record AreServed {D : Type 0} (h : History D) : Type 0 where
  pub sent : (id : MsgId) (message : Message) → message_of h.sent id ≡ Some message → ServesOf (HasAsked h.nodes.clients) message.body
  pub waits : AllWaitFor (λ chunk. HasAsked h.nodes.clients) h

-- what an edit came to, or a part of a chunk: such a reply only a server tells
abbrev pub IsOfServer : Reply → Type 0
IsOfServer (replies.Outcome outcome) = Unit {0}
IsOfServer (replies.Given given) = Unit {0}
IsOfServer reply = ⊥

-- The master tells these without judging the call: that a disk has failed, or that one fails at its record.
abbrev pub IsUnjudged : Refusal → Type 0
IsUnjudged refusal = (refusal ≡ refusals.Device) ⊎ (refusal ≡ refusals.Unsure)

-- ---- what is to hold

module _ {D : Type 0} (seen : D → List ℕ) (failures : D → ℕ) (armed : DiskId → ℕ → MasterPlace D → MasterPlace D) where
  -- A new store has said nothing.
  abbrev pub BeginsServed : Type 0
  BeginsServed = (config : Config) (clients : ℕ) (disks : D × D) (new : History D) → standing (seen disks.0) (seen disks.1) ≡ fresh → Begins seen failures armed config clients disks new → AreServed new

  -- So it stays over each run in which all that is asked is within its types, whatever disks of the master fail.
  abbrev pub StaysServed : Type 0
  StaysServed = ArmsAlone seen failures armed → (steps : List Step) (old new : History D) → RunsTo seen failures armed steps old new → AllByRecursion IsStepWithin steps → KeepsTypes old → LastsThrough seen old.nodes.master → AreAsked seen old → AreServed old → AreServed new

  -- A client that has a refusal as its reply, to a call that is answered at once, and has asked nothing else since, was refused so in the turn of that call at an event since. Or the master tells that without judging the call.
  -- Each world on the way is one that the run passes.
  abbrev pub RefusalsAreMade : Type 0
  RefusalsAreMade = (old asked new : History D) (moment : Moment) (req : ReqId) (call : Call) (steps : List Step) (node : Node) (refusal : Refusal) → AreAsked seen old → AreServed old → KeepsTypes old → LastsThrough seen old.nodes.master →
      AsksFresh seen failures armed old moment req call asked → is_answered_at_once call ≡ true → (runs : RunsTo seen failures armed steps asked new) → AllByRecursion (λ step. spares_master step ≡ true) steps → AllByRecursion IsStepWithin (asks_call moment req call ∷ steps) →
      client_in new.nodes.clients req.client ≡ Some node → node.last ≡ req.number → node.reply ≡ Some (replies.Refused refusal) →
      IsUnjudged refusal ⊎ ((made : WasSaid seen failures armed steps asked new req call (Err refusal)) × SaidBy seen failures armed (λ h. Passes seen failures armed h steps asked new runs) steps asked new req call (Err refusal) made)

  -- A client that has a reply to such a call, and has asked nothing else since, has none of a server.
  abbrev pub CallsAreForTheMaster : Type 0
  CallsAreForTheMaster = (old asked new : History D) (moment : Moment) (req : ReqId) (call : Call) (steps : List Step) (node : Node) (reply : Reply) → AreAsked seen old → AreServed old → AreReplied old → KeepsTypes old → LastsThrough seen old.nodes.master →
      AsksFresh seen failures armed old moment req call asked → is_answered_at_once call ≡ true → RunsTo seen failures armed steps asked new → AllByRecursion (λ step. spares_master step ≡ true) steps → AllByRecursion IsStepWithin (asks_call moment req call ∷ steps) →
      client_in new.nodes.clients req.client ≡ Some node → node.last ≡ req.number → node.reply ≡ Some reply → IsOfServer reply → ⊥

-- So it is of the store that a script leaves.
abbrev pub ScriptsServed : Type 0 → Type 0
ScriptsServed D = (seen : D → List ℕ) (failures : D → ℕ) (config : Config) (disks : D × D) (desk : Desk D) (r : IsReachedWithin seen failures config disks desk) → standing (seen disks.0) (seen disks.1) ≡ fresh → AreServed (history r.sent (way_of desk.wire))

-- ---- Worked: a client that has asked under number 7 last may be refused a part by a server to that number, and not to the next

abbrev a_client : Node
a_client = record { id = record { 0 = 1 }; last = 7; waiting = Some 7; reply = None }

abbrev a_request : ℕ → ReqId
a_request number = record { client = record { 0 = 1 }; number = number }

a_part_of_it : ServesOf (HasAsked (a_client ∷ [])) (bodies.Bytes (a_request 7) (Err refusals.NoReplica))
a_part_of_it = record { node = a_client; there = refl; number = omega arith }

an_answer_of_the_master_is_no_part : ServesOf (λ req. ⊥) (bodies.Reply (a_request 8) (Ok answers.Nothing))
an_answer_of_the_master_is_no_part = tt

a_part_is_told_by_a_server : (bytes : List ℕ) → IsOfServer (replies.Given (givens.Bytes bytes))
a_part_is_told_by_a_server bytes = tt

a_failed_disk_is_told_at_once : IsUnjudged refusals.Device
a_failed_disk_is_told_at_once = inl refl
