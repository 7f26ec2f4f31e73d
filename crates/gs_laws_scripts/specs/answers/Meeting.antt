-- What a script meets: a store without its disks as it is seen of a way, the ways that are met, and what is taken of them: that their masters are
-- steady, and what they hear is within its types.
use Rattle.std.specs.Prelude.{◌≡◌, ◌≢◌, ◌⊎◌, ◌≤◌, ◌+◌, ℕ, true, false, List, [], ◌∷◌, map, Some}
use Rattle.std.specs.List.{AllByRecursion}
use Rattle.gs_base.specs.Told.{IsNumber}
use Rattle.gs_base.specs.declared.config.Config.{Config}
use Rattle.gs_shell_calls.specs.Asked.{asked_by}
use Rattle.gs_shell_calls.specs.declared.answer.Answer.{Answer}
use Rattle.gs_client.specs.Sends.{last_number}
use Rattle.gs_client.specs.Trees.{Call}
use Rattle.gs_client.specs.declared.client.Client.{Client}
use Rattle.gs_shell_desk.specs.Ways.{Way, way_of}
use Rattle.gs_shell_desk.specs.declared.desk.Desk.{Desk}
use Rattle.gs_client_dialogue.specs.Dialogues.{Ask, Dialogue, Grow, Say}
use Rattle.gs_journal.specs.Forms.{is_text}
use Rattle.gs_journal.specs.Records.{generation_standing}
use Rattle.gs_journal.specs.declared.version.Version.TheVariants.{Two}
use Rattle.gs_laws_master.specs.Standing.{IsNamedBody}
use Rattle.gs_laws_master.specs.Written.{IsHeardBody, IsSteady}
use Rattle.gs_shell_line.specs.Line.{content}
use Rattle.gs_shell_grammar.specs.Grammar.{Request, line_request}
use Rattle.gs_shell_grammar.specs.Grammar as lines
use Rattle.gs_shell_grammar.specs.declared.command.Restarted.TheVariants as restarted
use Rattle.gs_master.specs.Masters.{MasterOf}
use Rattle.gs_msg.specs.declared.event.Happening.{Happening}
use Rattle.gs_msg.specs.declared.event.Happening.TheVariants as happenings
use Rattle.gs_msg.specs.declared.event.Request.{Request as Asked}
use Rattle.gs_msg.specs.declared.message.Message.{Message}
use Rattle.gs_msg.specs.declared.node.NodeId.TheVariants as ids
use Rattle.gs_master_record.specs.Encoding.{encoded}
use Rattle.gs_master_record.specs.Plain.{PlainEntry}
use Rattle.gs_master_record.specs.Writable.{IsEntry}
use Rattle.gs_world.specs.Histories.{Begins, History}
use Rattle.gs_laws_world.specs.lasting.Lasting.{StandsFirm, failures_at}
use Rattle.gs_world.specs.Runs.{Goes, Step, Comes, Takes}
use Rattle.gs_world.specs.Sent.{IsSent, Sent}
use Rattle.gs_shell_script.specs.Run.{memory_text}
use Rattle.gs_master_spec.specs.Applied.{records_behind}
use Rattle.gs_master_spec.specs.State.{State}
use Rattle.gs_nodes.specs.Nodes.{Nodes}
use Rattle.gs_nodes.specs.declared.place.MasterPlace.TheVariants.{Standing}
use Rattle.gs_laws_scripts.specs.answers.Plain.{Plain, PlainDesk}
use Rattle.gs_laws_chunks.specs.desks.Reached.{Covers, history}
use Rattle.gs_laws_world.specs.steady.Unarmed.{unarmed}

-- ---- what is seen of a way

-- a way without its disks, where the master's state is this
abbrev pub plain_of : {D : Type 0} → State → Way D → Plain
plain_of s w = record {
  config = w.nodes.config;
  master = s;
  servers = w.nodes.servers;
  clients = w.nodes.clients;
  moment = w.moment;
  queue = w.queue;
  kind = w.kind;
  held = w.held;
  drops = w.drops;
}

-- this master stands there
pub record Stands {D : Type 0} (w : Way D) (m : MasterOf D) : Type 0 where
  pub place : w.nodes.master ≡ Standing m
  pub config : m.config ≡ w.nodes.config

-- some master stands there
abbrev pub HasMaster : {D : Type 0} → Nodes D → Type 0
HasMaster {D} nodes = (m : MasterOf D) × (nodes.master ≡ Standing m)

-- a master stands, and this is the store without its disks
pub record IsPlain {D : Type 0} (w : Way D) (p : Plain) : Type 0 where
  pub master : MasterOf D
  pub stands : Stands w master
  pub plain : p ≡ plain_of master.state w

-- the desk has noted no want of memory, and no disk of the master has failed on the way
pub record IsCalm {D : Type 0} (failures : D → ℕ) (old new : Way D) : Type 0 where
  pub enough : new.is_short ≡ false
  pub sound : failures_at failures new.nodes.master ≡ failures_at failures old.nodes.master

-- What a restart of a master goes by: its log counts the records behind its last checkpoint, its journal is of its form, and of the generation that
-- its disks tell.
pub record IsAsWritten {D : Type 0} (seen : D → List ℕ) (m : MasterOf D) : Type 0 where
  pub counted : (entries : List PlainEntry) → AllByRecursion (IsEntry Two) entries → m.journal.text ≡ (Two, map (encoded Two) entries) → records_behind entries ≡ m.state.log.records
  pub form : is_text m.journal.text ≡ true
  pub generation : generation_standing (seen m.journal.first) (seen m.journal.second) ≡ m.journal.generation

-- the one client of a script's store
abbrev pub IsClientOf : Config → Client → Type 0
IsClientOf config client = (client.last.client ≡ record { 0 = 1 }) × (client.chunk ≡ config.chunk)

-- a line restarts the master
abbrev pub RestartsMaster : List ℕ → Type 0
RestartsMaster whole = line_request (content whole) ≡ Some (lines.Restart restarted.Master)

-- ---- what a script makes happen

-- something that a call asks, after some answers
abbrev pub Occurs : {Q R A : Type 0} → Q → Dialogue Q R A → Type 0
Occurs asked (Say said) = ⊥
Occurs {Q} {R} asked (Ask first more) = (asked ≡ first) ⊎ ((reply : R) × Occurs asked (more reply))
Occurs asked (Grow rest) = Occurs asked rest

-- what some line asks of a store with chunks of this size
pub record IsAskedByLine (chunk : ℕ) (asked : Asked) : Type 0 where
  pub line : List ℕ
  pub request : Request
  pub call : Call Answer
  pub reads : line_request line ≡ Some request
  pub asks : asked_by chunk request ≡ Some call
  pub occurs : Occurs asked call

-- the one client of a script asks what a line may ask, under a number that there is
abbrev pub IsAskedSo : Config → Happening → Type 0
IsAskedSo config (happenings.Ask req asked) = (req.client ≡ record { 0 = 1 }) × (req.number ≤ last_number) × IsAskedByLine config.chunk asked
IsAskedSo config happening = Unit {0}

-- and each moment is a number
abbrev pub IsOfScript : Config → Step → Type 0
IsOfScript config (Comes event) = IsNumber event.moment.0 × IsAskedSo config event.happening
IsOfScript config (Takes client) = Unit {0}

module _ {D : Type 0} (seen : D → List ℕ) (failures : D → ℕ) (config : Config) (disks : D × D) where
  -- such steps one after the other, in none of which a disk of the master fails, and behind each of which it stands
  abbrev pub RunsSo : List Step → History D → History D → Type 0
  RunsSo [] old new = new ≡ old
  RunsSo (step ∷ steps) old new =
      (mid : History D) × Goes seen failures unarmed step old mid × IsOfScript config step × (failures_at failures mid.nodes.master ≡ failures_at failures old.nodes.master) × HasMaster mid.nodes × RunsSo steps mid new

  -- a new store with one client, behind such steps
  pub record IsMet (now : History D) : Type 0 where
    pub begun : History D
    pub steps : List Step
    pub begins : Begins seen failures unarmed config 1 disks begun
    pub runs : RunsSo steps begun now

  -- The master there stands firm and within its types, and what was sent to it is named, and within its types.
  pub record IsMetSteady (now : History D) (m : MasterOf D) : Type 0 where
    pub firm : StandsFirm seen m
    pub steady : IsSteady m.state
    pub hears : (message : Message) → IsSent message now.sent → message.to ≡ ids.Master → IsNamedBody message.body × IsHeardBody m.state.durable.names message.body

  -- every store that is met so is steady
  abbrev pub AllSteady : Type 0
  AllSteady = (now : History D) (m : MasterOf D) → IsMet now → now.nodes.master ≡ Standing m → IsMetSteady now m

  -- every master that is met is as it is written
  abbrev pub AllWritten : Type 0
  AllWritten = (now : History D) (m : MasterOf D) → IsMet now → now.nodes.master ≡ Standing m → IsAsWritten seen m

  -- ---- a script

  -- a way that is met, where all that is under way was sent
  pub record IsMetWay (w : Way D) : Type 0 where
    pub sent : Sent
    pub covers : Covers sent w
    pub met : IsMet (history sent w)
    pub moment : IsNumber w.moment.0

  -- a desk that is met, of client 1; its client and the store without its disks are these
  pub record Reaches (desk : Desk D) (w : PlainDesk) : Type 0 where
    pub client : desk.caller.client ≡ w.0
    pub ours : IsClientOf config desk.caller.client
    pub plain : IsPlain (way_of desk.wire) w.1
    pub met : IsMetWay (way_of desk.wire)

-- Lines that have led to this desk were answered over empty disks, and memory wasn't wanting: the desk has noted no want of it, and no line is answered by one. No disk has failed more often than at the start.
pub record WentWell {D : Type 0} (seen : D → List ℕ) (failures : D → ℕ) (disks : D × D) (texts : List (List ℕ)) (desk : Desk D) : Type 0 where
  pub empty : (seen disks.0 ≡ []) × (seen disks.1 ≡ [])
  pub enough : (way_of desk.wire).is_short ≡ false
  pub answered : AllByRecursion (λ text. text ≢ memory_text) texts
  pub sound : failures_at failures desk.wire.nodes.master ≡ failures disks.0 + failures disks.1
