-- A master of which no file has a chunk, for which no call waits: what its calls make of it.
use Rattle.std.specs.Prelude.{[], ◌∷◌, ◌+◌, ◌++◌, ◌≡◌, ◌⊎◌, ◌<◌, ◌≤◌, Bool, Err, List, None, Ok, Option, Result, Some, false, true, ℕ}
use Rattle.std.specs.FinMap as fin
use Rattle.gs_base.specs.Told.{IsNumber}
use Rattle.gs_base.specs.declared.config.Config.{Config}
use Rattle.gs_base.specs.declared.epoch.EpochEnd.TheVariants as ends
use Rattle.gs_base.specs.declared.numbers.ClientId.{ClientId}
use Rattle.gs_base.specs.declared.numbers.Moment.{Moment}
use Rattle.gs_base.specs.declared.numbers.ReqId.{ReqId}
use Rattle.gs_base.specs.declared.refusal.Refusal.{Refusal}
use Rattle.gs_base.specs.declared.refusal.Refusal.TheVariants as refusals
use Rattle.gs_edit.specs.Machine.{Plain, prepared, finalized, restored}
use Rattle.gs_msg.specs.declared.answer.Answer.{Answer}
use Rattle.gs_msg.specs.declared.answer.Answer.TheVariants as answers
use Rattle.gs_msg.specs.declared.answer.Phase.{Phase as Told_phase}
use Rattle.gs_msg.specs.declared.answer.Phase.TheVariants as told_phases
use Rattle.gs_msg.specs.declared.body.Body.TheVariants as bodies
use Rattle.gs_msg.specs.declared.call.Call.{Call}
use Rattle.gs_msg.specs.declared.call.Call.TheVariants as calls
use Rattle.gs_msg.specs.declared.message.Message.{Message}
use Rattle.gs_msg.specs.declared.node.NodeId.{NodeId}
use Rattle.gs_msg.specs.declared.node.NodeId.TheVariants as nodes
use Rattle.gs_laws_master.specs.Standing.{IsFirm, IsNamedCall}
use Rattle.gs_laws_plain.specs.commands.Answers.{plain_answer}
use Rattle.gs_laws_plain.specs.commands.Commands.{Command, Texts, commanded}
use Rattle.gs_laws_plain.specs.commands.Commands as commands
use Rattle.gs_laws_plain.specs.commands.Records.{Telling, machine_of}
use Rattle.gs_master_spec.specs.Durable.{is_rolling}
use Rattle.gs_master_spec.specs.Handling.{call_turn, handle}
use Rattle.gs_master_spec.specs.State.{Sound, State, Turn, reply_to}
use Rattle.gs_master_spec.specs.Upgrades.{tell_all}
use Rattle.gs_master_spec.specs.declared.reply.KeptReply.{KeptReply}

-- ---- what stands

-- no chunk is settled, asked for or prepared, and no call waits
pub record IsStill (s : State) : Type 0 where
  pub sound : s.fault ≡ Sound
  pub moving : s.volatile.moving ≡ fin.empty
  pub pending : s.volatile.pending ≡ []
  pub locks : s.volatile.locks ≡ []
  pub chunks : s.durable.chunks ≡ fin.empty
  pub prepared : s.durable.prepared ≡ fin.empty
  pub firm : IsFirm s

-- no chunk has a text
abbrev pub bare : Telling
bare = record { now = λ chunk. []; before = λ chunk. [] }

-- The plain machine that such a master shows; of the number of the next deletion, none where none is left.
pub record Shows (s : State) (m : Plain (List ℕ)) (now next : ℕ) : Type 0 where
  pub plain : machine_of bare s.durable ≡ m
  pub epoch : s.durable.epoch ≡ now
  pub hidden : (s.durable.next_hidden ≡ next) ⊎ (s.durable.next_hidden ≡ 0)

-- a reply that is kept is to a request of at most this number
abbrev pub IsUpTo : ℕ → Option KeptReply → Type 0
IsUpTo last None = Unit {0}
IsUpTo last (Some reply) = reply.number ≤ last

-- so are the last ones to a client: its requests above that are new
pub record AnsweredUpTo (s : State) (client : ClientId) (last : ℕ) : Type 0 where
  pub recorded : IsUpTo last (fin.get s.durable.replies client)
  pub remembered : IsUpTo last (fin.get s.volatile.replies client)

-- ---- commands

-- the command that a call of the tree is, where it is answered so at this moment, with this number of a deletion
abbrev pub command_of_call : ℕ → ℕ → Call → Answer → Option Command
command_of_call moment number (calls.Mkdirs p) said = Some (commands.Mkdirs p)
command_of_call moment number (calls.Create p) said = Some (commands.Create p)
command_of_call moment number (calls.Rename from to) said = Some (commands.Rename from to)
command_of_call moment number (calls.Delete p recursive) (answers.Path hidden) = Some (commands.Hide p moment number)
command_of_call moment number (calls.Undelete p) said = Some (commands.Unhide p)
command_of_call moment number (calls.Snapshot from to) said = Some (commands.Snapshot from to)
command_of_call moment number call said = None

-- a deletion gives a number
abbrev pub hidden_behind : Option Command → ℕ → ℕ
hidden_behind (Some (commands.Hide p moment number)) next = next + 1
hidden_behind command next = next

abbrev pub plain_behind : Result (Plain (List ℕ)) Refusal → Plain (List ℕ) → Plain (List ℕ)
plain_behind (Ok next) plain = next
plain_behind (Err refusal) plain = plain

-- no command of these edits a text, so the size of a chunk doesn't matter
abbrev pub plain_by : Option Command → Plain (List ℕ) → Plain (List ℕ)
plain_by None plain = plain
plain_by (Some command) plain = plain_behind (commanded 0 command plain) plain

-- what a call that was answered so makes of the plain machine
abbrev pub plain_after : ℕ → ℕ → Call → Result Answer Refusal → Plain (List ℕ) → Plain (List ℕ)
plain_after moment number call (Ok said) plain = plain_by (command_of_call moment number call said) plain
plain_after moment number call (Err refusal) plain = plain

abbrev pub hidden_after : ℕ → ℕ → Call → Result Answer Refusal → ℕ
hidden_after moment number call (Ok said) = hidden_behind (command_of_call moment number call said) number
hidden_after moment number call (Err refusal) = number

-- ---- what is to hold

-- there is no room, or a counter has no value left
abbrev pub IsShort : Result Answer Refusal → Type 0
IsShort result = (result ≡ Err refusals.Full) ⊎ (result ≡ Err refusals.Exhausted)

-- A turn of a call sends these messages and then one reply. Behind it no chunk is settled, whether a prepare or a rollback is begun is so, and this machine is shown; and the client's next
-- requests are new.
pub record WentTo (preparing rolling : Bool) (req : ReqId) (t : Turn) (before : List Message) (result : Result Answer Refusal) (m : Plain (List ℕ)) (now next : ℕ) : Type 0 where
  pub sent : t.sent ≡ before ++ reply_to req result ∷ []
  pub still : IsStill t.after
  pub begun : t.after.volatile.is_preparing ≡ preparing
  pub rolled : is_rolling t.after.durable.phase ≡ rolling
  pub shows : Shows t.after m now next
  pub answered : AnsweredUpTo t.after req.client req.number

-- It is refused for want of room or of counters.
pub record WasShort (req : ReqId) (t : Turn) : Type 0 where
  pub result : Result Answer Refusal
  pub short : IsShort result
  pub sent : t.sent ≡ reply_to req result ∷ []

-- what is to be had of the state that a request meets
pub record Asked (preparing rolling : Bool) (s : State) (req : ReqId) (m : Plain (List ℕ)) (now next : ℕ) : Type 0 where
  pub still : IsStill s
  pub begun : s.volatile.is_preparing ≡ preparing
  pub rolled : is_rolling s.durable.phase ≡ rolling
  pub shows : Shows s m now next
  pub last : ℕ
  pub answered : AnsweredUpTo s req.client last
  pub above : last < req.number

-- A call of the tree is answered as the plain machine answers it, which goes on by its command.
abbrev pub TreeCallsGo : Type 0
TreeCallsGo = (config : Config) (s : State) (req : ReqId) (moment : Moment) (call : Call) (m : Plain (List ℕ)) (now next : ℕ) (plain : Result Answer Refusal) → Asked false false s req m now next →
    IsNamedCall call → IsNumber moment.0 → plain_answer m.tree moment.0 next call ≡ Some plain →
    WasShort req (call_turn config s req moment call) ⊎ WentTo false false req (call_turn config s req moment call) [] plain (plain_after moment.0 next call plain m) now (hidden_after moment.0 next call plain)

-- ---- upgrades

-- the phase that is told: whether a copy is kept
abbrev pub phase_of : Option Texts → Told_phase
phase_of None = told_phases.Ordinary
phase_of (Some kept) = told_phases.Upgrade

-- a turn of this call
abbrev pub turn_for : Config → State → ReqId → Moment → Call → Turn
turn_for config s req moment call = call_turn config s req moment call

abbrev pub QueriesGo : Type 0
QueriesGo = (config : Config) (s : State) (req : ReqId) (moment : Moment) (m : Plain (List ℕ)) (now next : ℕ) → Asked false false s req m now next → IsNumber moment.0 →
    WentTo false false req (turn_for config s req moment calls.Query) [] (Ok (answers.Phase (phase_of m.kept) now)) m now next

-- A prepare is begun where no copy is kept, and then committed: a copy is kept, and every server is told the next epoch.
abbrev pub PreparesBegin : Type 0
PreparesBegin = (config : Config) (s : State) (req : ReqId) (moment : Moment) (m : Plain (List ℕ)) (now next : ℕ) → Asked false false s req m now next → IsNumber moment.0 →
    (m.kept ≡ None → WasShort req (turn_for config s req moment calls.PrepareBegin) ⊎ WentTo true false req (turn_for config s req moment calls.PrepareBegin) [] (Ok (answers.Epoch now)) m now next)
    × ((kept : Texts) → m.kept ≡ Some kept → WentTo false false req (turn_for config s req moment calls.PrepareBegin) [] (Err refusals.AlreadyUpgrading) m now next)

abbrev pub PreparesCommit : Type 0
PreparesCommit = (config : Config) (s : State) (req : ReqId) (moment : Moment) (m : Plain (List ℕ)) (now next : ℕ) → Asked true false s req m now next → IsNumber moment.0 →
    WasShort req (turn_for config s req moment calls.PrepareCommit) ⊎ WentTo false false req (turn_for config s req moment calls.PrepareCommit) (tell_all config (now + 1) ends.Prepare) (Ok (answers.Epoch (now + 1))) (prepared m) (now + 1) next

-- A finalize forgets the copy, if there is one.
abbrev pub FinalizesGo : Type 0
FinalizesGo = (config : Config) (s : State) (req : ReqId) (moment : Moment) (m : Plain (List ℕ)) (now next : ℕ) → Asked false false s req m now next → IsNumber moment.0 →
    (m.kept ≡ None → WentTo false false req (turn_for config s req moment calls.Finalize) [] (Err refusals.NotUpgrading) m now next)
    × ((kept : Texts) → m.kept ≡ Some kept → WasShort req (turn_for config s req moment calls.Finalize) ⊎ WentTo false false req (turn_for config s req moment calls.Finalize) (tell_all config (now + 1) ends.Finalize) (Ok (answers.Epoch (now + 1))) (finalized m) (now + 1) next)

-- A rollback is begun where a copy is kept, and then committed: the copy stands in the tree's place.
abbrev pub RollbacksBegin : Type 0
RollbacksBegin = (config : Config) (s : State) (req : ReqId) (moment : Moment) (m : Plain (List ℕ)) (now next : ℕ) → Asked false false s req m now next → IsNumber moment.0 →
    (m.kept ≡ None → WentTo false false req (turn_for config s req moment calls.RollbackBegin) [] (Err refusals.NotUpgrading) m now next)
    × ((kept : Texts) → m.kept ≡ Some kept → WasShort req (turn_for config s req moment calls.RollbackBegin) ⊎ WentTo false true req (turn_for config s req moment calls.RollbackBegin) (tell_all config (now + 1) ends.Rollback) (Ok (answers.Epoch (now + 1))) m (now + 1) next)

abbrev pub RollbacksCommit : Type 0
RollbacksCommit = (config : Config) (s : State) (req : ReqId) (moment : Moment) (m : Plain (List ℕ)) (now next : ℕ) (kept : Texts) → Asked false true s req m now next → IsNumber moment.0 → m.kept ≡ Some kept →
    WasShort req (turn_for config s req moment calls.RollbackCommit) ⊎ WentTo false false req (turn_for config s req moment calls.RollbackCommit) [] (Ok (answers.Epoch now)) (restored m kept) now next

-- A server that has learned the epoch that stands, and names nothing, changes nothing.
abbrev pub LearnedLeaves : Type 0
LearnedLeaves = (config : Config) (s : State) (moment : Moment) (server : ℕ) (to : NodeId) → IsStill s → let t = handle config s (record { from = nodes.Server server; to = to; body = bodies.Learned s.durable.epoch [] }) moment in (t.after ≡ s) × (t.sent ≡ [])
