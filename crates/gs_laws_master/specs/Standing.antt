-- What stands of a whole master: of what it keeps, of what it asks for chunks, and of the calls that wait. So it is over every run.
use Rattle.std.specs.Prelude.{◌≡◌, ◌≤◌, ◌||◌, ℕ, Bool, true, false, not, nat_lt, is_some, List, [], Option, Some, None, Ok}
use Rattle.std.specs.FinMap as fin
use Rattle.std.specs.List.{list_all, AllByRecursion}
use Rattle.gs_base.specs.Members.{is_member}
use Rattle.gs_base.specs.Told.{IsNumber}
use Rattle.gs_base.specs.declared.config.Config.{Config}
use Rattle.gs_base.specs.declared.numbers.Moment.{Moment}
use Rattle.gs_base.specs.declared.numbers.ReqId.{ReqId}
use Rattle.gs_base.specs.declared.refusal.Refusal.{Refusal}
use Rattle.gs_base.specs.declared.refusal.Refusal.TheVariants as refusals
use Rattle.gs_lease.specs.Transitions.{is_for_lease}
use Rattle.gs_lease.specs.declared.view.Purpose.{Purpose}
use Rattle.gs_lease.specs.declared.view.Purpose.TheVariants as purposes
use Rattle.gs_msg.specs.declared.body.Body.{Body}
use Rattle.gs_msg.specs.declared.body.Body.TheVariants as bodies
use Rattle.gs_msg.specs.declared.call.Call.{Call}
use Rattle.gs_msg.specs.declared.call.Call.TheVariants as calls
use Rattle.gs_msg.specs.declared.chunk.Chunk.{Chunk as About}
use Rattle.gs_msg.specs.declared.chunk.Chunk.TheVariants as abouts
use Rattle.gs_msg.specs.declared.message.Message.{Message}
use Rattle.gs_master_record.specs.Writable.{IsHandle, IsPath}
use Rattle.gs_journal.specs.declared.version.Version.TheVariants.{Two}
use Rattle.gs_master_spec.specs.Applied.{records_behind, follows_view, is_since, is_visible}
use Rattle.gs_master_spec.specs.Durable.{Durable, is_given, is_listed, is_ordinary, is_rolling, upgrade_epoch}
use Rattle.gs_master_spec.specs.Replies.{is_later, later}
use Rattle.gs_master_state.specs.Sane.{are_apart, is_waited_by, makes, may_wait_for}
use Rattle.gs_master_spec.specs.Handling.{call_turn, checkpoint, fresh, handle, recover, reopened, restarted, tick}
use Rattle.gs_master_spec.specs.State.{State, Log, Turn, for_each, is_kept, is_unopened, last_reply}
use Rattle.gs_master_spec.specs.Volatile.{Volatile, is_call, is_pending, paths_of}
use Rattle.gs_master_spec.specs.declared.asking.Asking.{Asking}
use Rattle.gs_master_spec.specs.declared.pending.Pending.{Pending}
use Rattle.gs_master_spec.specs.declared.reply.KeptReply.{KeptReply}
use Rattle.gs_master_spec.specs.declared.pending.Waiting.{Waiting}
use Rattle.gs_master_spec.specs.declared.pending.Waiting.TheVariants as waits
use Rattle.gs_laws_master.specs.Promises.{AllFit, CanGoOn, IsKept}

-- the counters can be told
pub record AreCounters (d : Durable) : Type 0 where
  pub handle : IsNumber d.next_handle
  pub version : IsNumber d.next_version
  pub hidden : IsNumber d.next_hidden

-- ---- calls that wait

-- a record of its edit can tell what a call that waits says
abbrev pub IsToldWaiting : Waiting → Type 0
IsToldWaiting (waits.Extend path new) = IsPath path × IsHandle new
IsToldWaiting (waits.Lease path index leased) = IsPath path
IsToldWaiting (waits.Quiet path index quiet) = IsPath path
IsToldWaiting (waits.Copy path index old new) = IsPath path
IsToldWaiting (waits.Snapshot from to) = IsPath from × IsPath to
IsToldWaiting (waits.Replicate copied target) = Unit {0}

-- and its paths are as calls may name them
abbrev pub CanWait : Pending → Type 0
CanWait p = (list_all is_visible (paths_of p.waits) ≡ true) × IsToldWaiting p.waits

-- a request, or a later one of its client, has been answered
abbrev pub was_answered : Durable → Volatile → ReqId → Bool
was_answered d v req = not (is_later (later (fin.get d.replies req.client) (fin.get v.replies req.client)) req.number)

-- it is over: it doesn't wait, either
pub record IsOver (d : Durable) (v : Volatile) (req : ReqId) : Type 0 where
  pub answered : was_answered d v req ≡ true
  pub rests : is_pending v.pending req ≡ false

-- So it is behind the event that refuses a call, but for a disk that has failed, for a number that is too old, and for want of memory.
abbrev pub RefusedAreOver : Type 0
RefusedAreOver = (config : Config) (s : State) (req : ReqId) (moment : Moment) (call : Call) (refusal : Refusal) → (call_turn config s req moment call).said ≡ Some refusal → is_kept refusal ≡ true →
    IsOver (call_turn config s req moment call).after.durable (call_turn config s req moment call).after.volatile req

-- A call whose number is below that of the last reply to its client is refused so, where the journal was opened and it doesn't wait; and it is over.
pub record IsOlder (config : Config) (s : State) (req : ReqId) (moment : Moment) (call : Call) : Type 0 where
  pub said : (call_turn config s req moment call).said ≡ Some refusals.Old
  pub over : IsOver (call_turn config s req moment call).after.durable (call_turn config s req moment call).after.volatile req

abbrev pub OlderAreOver : Type 0
OlderAreOver = (config : Config) (s : State) (req : ReqId) (moment : Moment) (call : Call) (reply : KeptReply) → is_unopened s.fault ≡ false → is_pending s.volatile.pending req ≡ false → last_reply s req.client ≡ Some reply → nat_lt req.number reply.number ≡ true → IsOlder config s req moment call

-- A call that comes again once it is over changes nothing: it has no record.
abbrev pub OverMakeNothing : Type 0
OverMakeNothing = (config : Config) (s : State) (req : ReqId) (moment : Moment) (call : Call) → IsOver s.durable s.volatile req → ((call_turn config s req moment call).records ≡ []) × ((call_turn config s req moment call).after ≡ s)

-- ---- what is asked for a chunk

-- a lease is asked for a call just where it waits for one
abbrev pub may_ask : Purpose → Waiting → Bool
may_ask purposes.Lease (waits.Lease path index chunk) = true
may_ask purposes.Lease waiting = false
may_ask purpose (waits.Lease path index chunk) = false
may_ask purpose waiting = true

abbrev pub IsToldCount : Option ℕ → Type 0
IsToldCount None = Unit {0}
IsToldCount (Some count) = IsNumber count

-- The master knows the chunk; its handle and the version were given, in an epoch that there was; a view that was settled is moving,
-- under a smaller stamp, and one that never was belongs to the upgrade that stands. A call for which the chunk moves waits for it, and for
-- such a view, or was answered. A chunk without a settled view is made by a call that waits, and so is one without a place that moves for a call, which
-- has no settled view then. A lease is asked for a chunk that a file has. What was answered can be told.
pub record IsSought (d : Durable) (v : Volatile) (chunk : ℕ) (asking : Asking) : Type 0 where
  pub known : (is_listed d chunk || is_member v.unplaced chunk) ≡ true
  pub handle : is_given d.next_handle chunk ≡ true
  pub version : is_given d.next_version asking.stamp.version ≡ true
  pub number : IsNumber asking.stamp.version
  pub epoch : asking.stamp.epoch ≤ d.epoch
  pub follows : follows_view (fin.get d.chunks chunk) asking.stamp ≡ true
  pub since : is_since (upgrade_epoch d.phase d.epoch) (fin.get d.chunks chunk) asking.stamp ≡ true
  pub told : AllByRecursion IsToldCount asking.answers.counts
  pub wanted : list_all (λ (p : Pending). not (is_call p.req asking.call) || may_wait_for chunk p.waits) v.pending ≡ true
  pub leased : is_for_lease asking.purpose ≡ true → is_listed d chunk ≡ true
  pub purposed : list_all (λ (p : Pending). not (is_call p.req asking.call) || may_ask asking.purpose p.waits) v.pending ≡ true
  pub made : fin.get d.chunks chunk ≡ None → is_waited_by asking.call (makes chunk) v.pending ≡ true
  pub own : (req : ReqId) → asking.call ≡ Some req → is_member v.unplaced chunk ≡ true → is_waited_by asking.call (makes chunk) v.pending ≡ true
  pub first : (req : ReqId) → asking.call ≡ Some req → is_member v.unplaced chunk ≡ true → fin.get d.chunks chunk ≡ None
  pub past : (req : ReqId) → asking.call ≡ Some req → (is_pending v.pending req || was_answered d v req) ≡ true

-- ---- all of it

-- What is kept stands, and the counters can be told. So is all that is asked for chunks. A new chunk was given, and stands in no
-- file. A settled chunk that stands in none, and never did, is new, or a restart took it out, and never both. Each call waits once, and can,
-- and none while an upgrade is prepared.
pub record Stands (d : Durable) (v : Volatile) : Type 0 where
  pub kept : IsKept d
  pub counters : AreCounters d
  pub asked : (chunk : ℕ) (asking : Asking) → fin.get v.moving chunk ≡ Some asking → IsSought d v chunk asking
  pub unplaced : (chunk : ℕ) → is_member v.unplaced chunk ≡ true → (is_given d.next_handle chunk ≡ true) × (is_listed d chunk ≡ false)
  pub counted : (chunk : ℕ) → is_some (fin.get d.chunks chunk) ≡ true → (is_listed d chunk || (is_member v.unplaced chunk || is_member v.taken_out chunk)) ≡ true
  pub out : (chunk : ℕ) → is_member v.taken_out chunk ≡ true → (is_given d.next_handle chunk ≡ true) × (is_member v.unplaced chunk ≡ false)
  pub apart : are_apart v.pending ≡ true
  pub calls : AllByRecursion CanWait v.pending
  pub preparing : v.is_preparing ≡ true → (is_ordinary d.phase ≡ true) × (v.pending ≡ [])

-- And while it is rolled back none waits either.
pub record IsFirm (s : State) : Type 0 where
  pub stands : Stands s.durable s.volatile
  pub rolling : is_rolling s.durable.phase ≡ true → s.volatile.pending ≡ []

-- A new store is firm.
abbrev pub StartsFirm : Type 0
StartsFirm = (log : Log) → IsFirm (fresh log)

-- Its calls may go on.
abbrev pub FirmGoesOn : Type 0
FirmGoesOn = (s : State) → IsFirm s → CanGoOn s

-- ---- what comes

-- the paths that a call names are paths
abbrev pub IsNamedCall : Call → Type 0
IsNamedCall (calls.Mkdirs path) = IsPath path
IsNamedCall (calls.Create path) = IsPath path
IsNamedCall (calls.Rename from to) = IsPath from × IsPath to
IsNamedCall (calls.Delete path recursive) = IsPath path
IsNamedCall (calls.Undelete path) = IsPath path
IsNamedCall (calls.Snapshot from to) = IsPath from × IsPath to
IsNamedCall (calls.FindForWriting path index stamp) = IsPath path
IsNamedCall (calls.Extend path index) = IsPath path
IsNamedCall call = Unit {0}

-- and the count that a server promises is a number
abbrev pub IsNamedAbout : About → Type 0
IsNamedAbout (abouts.Promised stamp count carried) = IsNumber count
IsNamedAbout said = Unit {0}

abbrev pub IsNamedBody : Body → Type 0
IsNamedBody (bodies.Call req call) = IsNamedCall call
IsNamedBody (bodies.About chunk said) = IsNamedAbout said
IsNamedBody said = Unit {0}

-- A message comes at a moment, from anybody and with any content that a message can have; or a tick; or a checkpoint is asked for; or the
-- master is started again on the records of its journal.
pub data Event : Type 0 where
  Comes : Message → Moment → Event
  Ticks : Moment → Event
  Renews : Event
  Restarts : Event

abbrev pub IsNamed : Event → Type 0
IsNamed (Comes message moment) = IsNamedBody message.body × IsNumber moment.0
IsNamed (Ticks moment) = Unit {0}
IsNamed Renews = Unit {0}
IsNamed Restarts = Unit {0}

-- what becomes of it
abbrev pub turn_of : Config → State → Event → Turn
turn_of config s (Comes message moment) = handle config s message moment
turn_of config s (Ticks moment) = tick s moment
turn_of config s Renews = checkpoint s
turn_of config s Restarts = reopened config (restarted s.durable s.log)

-- each in the state that the one before leaves
abbrev pub run_of : Config → State → List Event → Turn
run_of config s events = for_each s events (λ event next. turn_of config next event)

-- ---- what is to hold

-- its records fit what they meet and give what is durable afterwards, and what stands goes on so
pub record FitsAndStands (s : State) (t : Turn) : Type 0 where
  pub fits : AllFit s t
  pub firm : IsFirm t.after

-- So it is of every event.
abbrev pub EventsFit : Type 0
EventsFit = (config : Config) (s : State) (event : Event) → IsNamed event → IsFirm s → FitsAndStands s (turn_of config s event)

-- So it is of each event of every run from a new store, and all records of the run together lead from a new store to what is durable.
abbrev pub RunsFit : Type 0
RunsFit = (config : Config) (log : Log) (events : List Event) → AllByRecursion IsNamed events → FitsAndStands (fresh log) (run_of config (fresh log) events)

-- A restart on these records opens the master with what was durable.
abbrev pub RunsRecover : Type 0
RunsRecover = (config : Config) (log now : Log) (events : List Event) → AllByRecursion IsNamed events → let t = run_of config (fresh log) events in
    recover config Two t.records now ≡ Ok (reopened config (restarted t.after.durable (record now { records = records_behind t.records })))
