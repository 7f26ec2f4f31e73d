-- What the laws of a script over a store say.
use Rattle.std.specs.Prelude.{◌≡◌, ◌+◌, ℕ, List, Option, Some, slice_get}
use Rattle.std.specs.List.{AllByRecursion}
use Rattle.gs_base.specs.declared.config.Config.{Config}
use Rattle.gs_shell_calls.specs.Asked.{asked_by}
use Rattle.gs_shell_calls.specs.declared.answer.Answer.{Answer}
use Rattle.gs_client.specs.declared.link.Reply.{Reply}
use Rattle.gs_client_dialogue.specs.Dialogues.{Call}
use Rattle.gs_shell_desk.specs.Answering.{AnswersText}
use Rattle.gs_shell_desk.specs.Starting.{Starts}
use Rattle.gs_shell_desk.specs.declared.desk.Desk.{Desk}
use Rattle.gs_journal.specs.Records.{fresh, standing}
use Rattle.gs_shell_grammar.specs.Grammar.{Request, line_request}
use Rattle.gs_server.specs.Runs.{IsReached}
use Rattle.gs_server.specs.Servers.{Server}
use Rattle.gs_shell.specs.Serving.{Serves}
use Rattle.gs_shell_desk.specs.Ways.{way_of}
use Rattle.gs_msg.specs.declared.event.Request.{Request as Req}
use Rattle.gs_world.specs.Histories.{History}
use Rattle.gs_laws_world.specs.lasting.Lasting.{failures_at}
use Rattle.gs_world.specs.Runs.{RunsTo, Step}
use Rattle.gs_world.specs.Sent.{Sent}
use Rattle.gs_laws_world.specs.steady.Asking.{AllAsked, MayBeAsked}
use Rattle.gs_laws_world.specs.steady.Enduring.{RunsForMemory}
use Rattle.gs_laws_chunks.specs.desks.Reached.{Covers, IsReachedDesk, LeadsBySteps, history}
use Rattle.gs_laws_world.specs.steady.Unarmed.{unarmed}
use Rattle.gs_laws_world.specs.steady.Saying.{KeepsTypes, MayBeSaid, RunsQuietly}
use Rattle.gs_laws_world.specs.steady.Steady.{LastsSteady, RunsSteadily}
use Rattle.gs_laws_chunks.specs.desks.Within.{IsReachedWithin}

-- ---- a script as a run
-- A desk that begins is at a store that has begun over the same disks.
abbrev pub DesksBeginReached : Type 0 → Type 0
DesksBeginReached D = (seen : D → List ℕ) (failures : D → ℕ) (config : Config) (disks : D × D) (desk : Desk D) → Starts seen failures config disks desk
    → IsReachedDesk seen failures config disks desk

-- Each line leads on by steps of that store, and all that is under way then was sent.
abbrev pub LinesLeadBySteps : Type 0 → Type 0
LinesLeadBySteps D = (seen : D → List ℕ) (failures : D → ℕ) (old new : Desk D) (line text : List ℕ) (sent : Sent) → AnswersText seen failures old line text new
    → Covers sent (way_of old.wire) → LeadsBySteps seen failures (way_of old.wire) (way_of new.wire) sent

-- What a script leaves is a desk at a store behind such steps.
abbrev pub ScriptsEndReached : Type 0 → Type 0
ScriptsEndReached D = (seen : D → List ℕ) (failures : D → ℕ) (config : Config) (disks : D × D) (input : List ℕ) (old new : Option (List ℕ)) (s : Serves seen failures config disks input old new)
    → IsReachedDesk seen failures config disks s.ended

-- Each server of it has begun with nothing, and is behind events of its own.
abbrev pub ServersOfDesksAreReached : Type 0 → Type 0
ServersOfDesksAreReached D = (seen : D → List ℕ) (failures : D → ℕ) (config : Config) (disks : D × D) (desk : Desk D) (id : ℕ) (s : Server)
    → IsReachedDesk seen failures config disks desk → slice_get desk.wire.nodes.servers.items id ≡ Some s → IsReached s

-- ---- what a script asks
-- All that a line asks is within its types, whatever is answered on the way.
abbrev pub LinesAskWithinTypes : Type 0
LinesAskWithinTypes = (size : ℕ) (line : List ℕ) (request : Request) (call : Call Req Reply Answer) → line_request line ≡ Some request → asked_by size request ≡ Some call
    → AllAsked MayBeAsked call

-- A desk that begins is reached within the types of the store.
abbrev pub DesksBeginWithin : Type 0 → Type 0
DesksBeginWithin D = (seen : D → List ℕ) (failures : D → ℕ) (config : Config) (disks : D × D) (desk : Desk D) → Starts seen failures config disks desk
    → IsReachedWithin seen failures config disks desk

-- So is what a line leaves.
abbrev pub LinesStayWithin : Type 0 → Type 0
LinesStayWithin D = (seen : D → List ℕ) (failures : D → ℕ) (config : Config) (disks : D × D) (old new : Desk D) (line text : List ℕ)
    → AnswersText seen failures old line text new → IsReachedWithin seen failures config disks old → IsReachedWithin seen failures config disks new

-- So is what a whole script leaves.
abbrev pub ScriptsEndWithin : Type 0 → Type 0
ScriptsEndWithin D = (seen : D → List ℕ) (failures : D → ℕ) (config : Config) (disks : D × D) (input : List ℕ) (old new : Option (List ℕ)) (s : Serves seen failures config disks input old new)
    → IsReachedWithin seen failures config disks s.ended

-- The store of such a desk keeps its types.
abbrev pub DesksWithinKeepTypes : Type 0 → Type 0
DesksWithinKeepTypes D = (seen : D → List ℕ) (failures : D → ℕ) (config : Config) (disks : D × D) (desk : Desk D) (r : IsReachedWithin seen failures config disks desk)
    → KeepsTypes (history r.sent (way_of desk.wire))

-- All messages that are under way or held back there may be said.
abbrev pub WhatWaitsMayBeSaid : Type 0 → Type 0
WhatWaitsMayBeSaid D = (seen : D → List ℕ) (failures : D → ℕ) (config : Config) (disks : D × D) (desk : Desk D) → IsReachedWithin seen failures config disks desk
    → AllByRecursion (λ message. MayBeSaid message.to message.body) desk.wire.queue.items × AllByRecursion (λ message. MayBeSaid message.to message.body) desk.wire.held.items

-- If no disk failed on the way to such a desk, the master heard all within its types.
abbrev pub DesksQuietRunsHearWithinTypes : Type 0 → Type 0
DesksQuietRunsHearWithinTypes D = (seen : D → List ℕ) (failures : D → ℕ) (config : Config) (disks : D × D) (desk : Desk D) (r : IsReachedWithin seen failures config disks desk)
    → RunsQuietly seen failures unarmed r.reached.steps r.reached.begun (history r.sent (way_of desk.wire))
    → RunsSteadily seen failures unarmed r.reached.steps r.reached.begun (history r.sent (way_of desk.wire))

-- If the disks said nothing at first besides, the master is steady.
abbrev pub DesksQuietRunsEndSteady : Type 0 → Type 0
DesksQuietRunsEndSteady D = (seen : D → List ℕ) (failures : D → ℕ) (config : Config) (disks : D × D) (desk : Desk D) (r : IsReachedWithin seen failures config disks desk)
    → standing (seen disks.0) (seen disks.1) ≡ fresh → RunsQuietly seen failures unarmed r.reached.steps r.reached.begun (history r.sent (way_of desk.wire))
    → LastsSteady seen desk.wire.nodes.master

-- And what was refused at a step on the way was refused for memory alone.
abbrev pub DesksQuietRunsRefuseForMemory : Type 0 → Type 0
DesksQuietRunsRefuseForMemory D = (seen : D → List ℕ) (failures : D → ℕ) (config : Config) (disks : D × D) (desk : Desk D) (r : IsReachedWithin seen failures config disks desk)
    → standing (seen disks.0) (seen disks.1) ≡ fresh → (runs : RunsQuietly seen failures unarmed r.reached.steps r.reached.begun (history r.sent (way_of desk.wire)))
    → RunsForMemory seen failures unarmed r.reached.steps r.reached.begun (history r.sent (way_of desk.wire)) runs

-- ---- disks that have not failed
-- A run behind which disks have failed no more often than before has no step in which one failed.
abbrev pub UnfailedRunsAreQuiet : Type 0 → Type 0
UnfailedRunsAreQuiet D = (seen : D → List ℕ) (failures : D → ℕ) (steps : List Step) (old new : History D) → RunsTo seen failures unarmed steps old new
    → failures_at failures new.nodes.master ≡ failures_at failures old.nodes.master → RunsQuietly seen failures unarmed steps old new

-- So a desk over disks that said nothing has a steady master, if they failed no more often since.
abbrev pub UnfailedDesksAreSteady : Type 0 → Type 0
UnfailedDesksAreSteady D = (seen : D → List ℕ) (failures : D → ℕ) (config : Config) (disks : D × D) (desk : Desk D) → IsReachedWithin seen failures config disks desk
    → standing (seen disks.0) (seen disks.1) ≡ fresh → failures_at failures desk.wire.nodes.master ≡ failures disks.0 + failures disks.1
    → LastsSteady seen desk.wire.nodes.master
