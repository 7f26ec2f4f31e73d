-- What the tree refuses by is the master's: no server refuses an edit, or a fetch, so, and who has asked for one has no such reply of the master.
use Rattle.std.specs.Prelude.{◌<◌, ◌==◌, ◌||◌, ◌∷◌, ◌≡◌, Bool, Err, List, Ok, Some, false, nat_le, refl, slice_get, true, ℕ}
use Rattle.std.specs.FinMap as fin
use Rattle.std.specs.List.{AllByRecursion}
use Rattle.gs_base.specs.Refusals.{number_of}
use Rattle.gs_base.specs.declared.config.Config.{Config}
use Rattle.gs_base.specs.declared.numbers.ClientId.{ClientId}
use Rattle.gs_base.specs.declared.numbers.Moment.{Moment}
use Rattle.gs_base.specs.declared.numbers.ReqId.{ReqId}
use Rattle.gs_base.specs.declared.refusal.Refusal.{Refusal}
use Rattle.gs_base.specs.declared.refusal.Refusal.TheVariants as refusals
use Rattle.gs_client.specs.Nodes.{Node}
use Rattle.gs_client.specs.declared.link.Reply.{Reply}
use Rattle.gs_client.specs.declared.link.Reply.TheVariants as replies
use Rattle.gs_journal.specs.Records.{fresh, standing}
use Rattle.gs_msg.specs.declared.body.Body.{Body}
use Rattle.gs_msg.specs.declared.body.Body.TheVariants as bodies
use Rattle.gs_msg.specs.declared.event.DiskId.{DiskId}
use Rattle.gs_msg.specs.declared.event.Request.{Request}
use Rattle.gs_msg.specs.declared.event.Request.TheVariants as requests
use Rattle.gs_msg.specs.declared.message.Message.{Message}
use Rattle.gs_msg.specs.declared.message.MsgId.{MsgId}
use Rattle.gs_nodes.specs.Happenings.{client_in}
use Rattle.gs_nodes.specs.declared.place.MasterPlace.{MasterPlace}
use Rattle.gs_server.specs.Servers.{Server}
use Rattle.gs_server.specs.declared.turn.KeptRefusal.{KeptRefusal}
use Rattle.gs_shell_desk.specs.Ways.{way_of}
use Rattle.gs_shell_desk.specs.declared.desk.Desk.{Desk}
use Rattle.gs_world.specs.Histories.{Begins, Happens, History}
use Rattle.gs_world.specs.Runs.{Comes, RunsTo, Step}
use Rattle.gs_world.specs.Sent.{message_of}
use Rattle.gs_laws_chunks.specs.answers.Answered.{spares_master}
use Rattle.gs_laws_chunks.specs.answers.Asked.{AreAsked}
use Rattle.gs_laws_chunks.specs.answers.Replied.{AreReplied}
use Rattle.gs_laws_chunks.specs.calls.Asked.{ArmsAlone}
use Rattle.gs_laws_chunks.specs.desks.Reached.{history}
use Rattle.gs_laws_chunks.specs.desks.Within.{IsReachedWithin}
use Rattle.gs_laws_world.specs.steady.Asking.{asks_at}
use Rattle.gs_laws_world.specs.steady.Saying.{IsStepWithin, KeepsTypes}
use Rattle.gs_laws_world.specs.steady.Through.{LastsThrough}

-- ---- refusals

-- the tree refuses by what a path is, and by what stands at it (1 to 9), or since that isn't hidden (38)
abbrev pub is_of_tree : Refusal → Bool
is_of_tree refusal = nat_le (number_of refusal) 9 || (number_of refusal == 38)

-- what is told of an edit, or of a part of a chunk, isn't refused so
abbrev pub SparesTree : Body → Type 0
SparesTree (bodies.Done req (Err refusal)) = is_of_tree refusal ≡ false
SparesTree (bodies.Bytes req (Err refusal)) = is_of_tree refusal ≡ false
SparesTree body = Unit {0}

-- nor is an edit whose refusal a server keeps
abbrev pub KeepsSparing : Server → Type 0
KeepsSparing s = (client : ClientId) (kept : KeptRefusal) → fin.get s.kept.refused client ≡ Some kept → is_of_tree kept.refusal ≡ false

-- So it is of each message that was ever sent, and at each server.
pub record AreSparing {D : Type 0} (h : History D) : Type 0 where
  pub sent : (id : MsgId) (message : Message) → message_of h.sent id ≡ Some message → SparesTree message.body
  pub kept : (id : ℕ) (s : Server) → slice_get h.nodes.servers id ≡ Some s → KeepsSparing s

-- ---- requests to servers

-- an edit, or a fetch
abbrev pub is_for_server : Request → Bool
is_for_server (requests.Call call) = false
is_for_server request = true

-- a reply is no answer of the master, and no refusal by the tree
abbrev pub SparesReply : Reply → Type 0
SparesReply (replies.Answer answer) = ⊥
SparesReply (replies.Refused refusal) = is_of_tree refusal ≡ false
SparesReply reply = Unit {0}

-- ---- what is to hold

module _ {D : Type 0} (seen : D → List ℕ) (failures : D → ℕ) (armed : DiskId → ℕ → MasterPlace D → MasterPlace D) where
  -- A new store has said nothing, and its servers keep nothing.
  abbrev pub BeginsSparing : Type 0
  BeginsSparing = (config : Config) (clients : ℕ) (disks : D × D) (new : History D) → standing (seen disks.0) (seen disks.1) ≡ fresh → Begins seen failures armed config clients disks new → AreSparing new

  -- So it stays over each run in which all that is asked is within its types, whatever disks of the master fail.
  abbrev pub StaysSparing : Type 0
  StaysSparing = ArmsAlone seen failures armed → (steps : List Step) (old new : History D) → RunsTo seen failures armed steps old new → AllByRecursion IsStepWithin steps → KeepsTypes old → LastsThrough seen old.nodes.master → AreSparing old → AreSparing new

  -- A client asks under a number that is fresh, and is taken.
  pub record AsksAnew (old : History D) (moment : Moment) (req : ReqId) (request : Request) (asked : History D) : Type 0 where
    pub node : Node
    pub there : client_in old.nodes.clients req.client ≡ Some node
    pub fresh : node.last < req.number
    pub happens : Happens seen failures armed (asks_at moment req request) old (Ok tt) asked

  -- Where it has asked a server, and nothing else since, no answer of the master is its reply, and no refusal by the tree.
  abbrev pub RequestsAreForServers : Type 0
  RequestsAreForServers = (old asked new : History D) (moment : Moment) (req : ReqId) (request : Request) (steps : List Step) (node : Node) (reply : Reply) → AreAsked seen old → AreReplied old → AreSparing old → KeepsTypes old → LastsThrough seen old.nodes.master →
      AsksAnew old moment req request asked → is_for_server request ≡ true → RunsTo seen failures armed steps asked new → AllByRecursion (λ step. spares_master step ≡ true) steps → AllByRecursion IsStepWithin (Comes (asks_at moment req request) ∷ steps) →
      client_in new.nodes.clients req.client ≡ Some node → node.last ≡ req.number → node.reply ≡ Some reply → SparesReply reply

-- So it is of the store that a script leaves.
abbrev pub ScriptsSparing : Type 0 → Type 0
ScriptsSparing D = (seen : D → List ℕ) (failures : D → ℕ) (config : Config) (disks : D × D) (desk : Desk D) (r : IsReachedWithin seen failures config disks desk) → standing (seen disks.0) (seen disks.1) ≡ fresh → AreSparing (history r.sent (way_of desk.wire))

-- ---- Worked
nothing_stands_there : is_of_tree refusals.NotFound ≡ true
nothing_stands_there = refl

it_is_not_hidden : is_of_tree refusals.NotHidden ≡ true
it_is_not_hidden = refl

a_lock_is_of_the_store : is_of_tree refusals.Locked ≡ false
a_lock_is_of_the_store = refl

a_damaged_block_may_be_told : (req : ReqId) (block : ℕ) → SparesTree (bodies.Bytes req (Err (refusals.Damaged block)))
a_damaged_block_may_be_told req block = refl

that_nothing_is_found_is_not_told : (req : ReqId) → SparesTree (bodies.Done req (Err refusals.NotFound)) → ⊥
that_nothing_is_found_is_not_told req told = absurd (cc)

a_full_disk_may_be_the_reply : SparesReply (replies.Refused refusals.Full)
a_full_disk_may_be_the_reply = refl
