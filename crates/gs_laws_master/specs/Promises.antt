-- What is to hold of the definitions: of each record, of each turn, and of whatever stands.
use Rattle.std.specs.Prelude.{◌≡◌, ◌⊎◌, ◌≤◌, ◌<◌, ◌↔◌, ◌+◌, ◌==◌, ◌&&◌, ℕ, Bool, true, false, not, List, [], ◌∷◌, map, Contains, Option, Some, None, option_map, is_some, Ok, Err, if◌then◌else◌, Result}
use Rattle.std.specs.FinMap as fin
use Rattle.std.specs.List.{list_any, list_all, AllByRecursion}
use Rattle.gs_base.specs.declared.config.Config.{Config}
use Rattle.gs_base.specs.declared.numbers.Moment.{Moment}
use Rattle.gs_base.specs.declared.numbers.ClientId.{ClientId}
use Rattle.gs_base.specs.declared.numbers.ReqId.{ReqId}
use Rattle.gs_base.specs.declared.numbers.Stamp.{Stamp}
use Rattle.gs_base.specs.declared.refusal.Refusal.{Refusal}
use Rattle.gs_base.specs.declared.refusal.Refusal.TheVariants as refusals
use Rattle.gs_base.specs.Members.{is_member}
use Rattle.gs_edit.specs.Names.{IsCounted}
use Rattle.gs_refs.specs.Counts.{last_count}
use Rattle.gs_edit.specs.Scan.{is_without_slashes}
use Rattle.gs_tree.specs.Entry.{Dir}
use Rattle.gs_tree.specs.Build.{is_tree, below_root}
use Rattle.gs_edit.specs.View.{NamesView}
use Rattle.gs_journal.specs.declared.version.Version.TheVariants.{Two}
use Rattle.gs_master_record.specs.declared.checkpoint.Phase.TheVariants.{Ordinary}
use Rattle.gs_master_record.specs.declared.entry.Answered.{Answered}
use Rattle.gs_master_record.specs.Writable.{AreServers, IsEntry, IsPath, IsTerm}
use Rattle.gs_base.specs.Told.{IsNumber}
use Rattle.gs_master_spec.specs.Replies.{outcome_of, told_result}
use Rattle.gs_master_spec.specs.declared.reply.KeptReply.{KeptReply}
use Rattle.gs_lease.specs.declared.view.View.{View}
use Rattle.gs_msg.specs.Bodies.{kind_of}
use Rattle.gs_msg.specs.declared.body.Body.{Body}
use Rattle.gs_msg.specs.declared.body.Body.TheVariants as bodies
use Rattle.gs_msg.specs.declared.call.Call.{Call}
use Rattle.gs_msg.specs.declared.call.Call.TheVariants as calls
use Rattle.gs_msg.specs.declared.chunk.Chunk.{Chunk as About}
use Rattle.gs_msg.specs.declared.chunk.Chunk.TheVariants as abouts
use Rattle.gs_msg.specs.declared.kind.Kind.{Kind}
use Rattle.gs_msg.specs.declared.kind.Kind.TheVariants as kinds
use Rattle.gs_msg.specs.declared.message.Message.{Message}
use Rattle.gs_master_record.specs.Plain.{PlainEntry, Edited, Said, Propose, Settle, Prepare, Finalize, RollbackBegin, RollbackCommit, Whole, Holder, Rename}
use Rattle.gs_view.specs.Choice.{Chooses}
use Rattle.gs_view.specs.declared.poll.Poll.{Poll}
use Rattle.gs_master_spec.specs.Calls.{found_chunk, is_always_taken, is_any_deep, is_locked, is_work, refused_before, renames}
use Rattle.gs_master_spec.specs.Applied.{applied, held_by, replayed, is_fresh, is_prepared_on, is_since, is_visible, is_whole_entry, with_reply}
use Rattle.gs_master_spec.specs.Chunks.{Chunk, view_by, may_settle}
use Rattle.gs_master_spec.specs.Durable.{Durable, Settled, start, is_given, is_ordinary, is_rolling, upgrade_epoch, has_its_primary, prepared_view, is_listed}
use Rattle.gs_master_spec.specs.Handling.{handle, call_turn, checkpoint, fresh, new_call, pressed, tidied, tick}
use Rattle.gs_master_state.specs.Sane.{IsSane}
use Rattle.gs_master_spec.specs.State.{State, Log, Turn, fits, is_failed, refused, reply_to, size_of, size_of_all}
use Rattle.gs_master_spec.specs.Upgrades.{answers_for, chunk_count, rollback_commit, told_of}
use Rattle.gs_master_spec.specs.Volatile.{paths_of}
use Rattle.gs_master_spec.specs.Working.{is_wanted_at, needs_of, unquiet}
use Rattle.gs_place.specs.Needs.{most_needed_of}
use Rattle.gs_master_spec.specs.Undoing.{all_undone, edited_names, inverse_of}
use Rattle.gs_master_spec.specs.Whole.{whole_of, checkpoint_of, are_ends, are_hidden_once, is_prepared_before}
use Rattle.gs_master_spec.specs.declared.asking.Asking.{Asking}
use Rattle.gs_master_spec.specs.declared.asking.Prepared.{Prepared}
use Rattle.gs_master_spec.specs.declared.pending.Pending.{Pending}
use Rattle.gs_tree.specs.Edits.{target_of}
use Rattle.gs_path.specs.Path.{Path}

-- ---- what stands

-- each part of a view is one that a record can tell
abbrev pub IsToldView : View → Type 0
IsToldView view = IsNumber view.stamp.epoch × (IsNumber view.stamp.version × (IsNumber view.count × (AreServers view.members × IsTerm view.term)))

-- A view is of an epoch that there was, and its version was given; that of a view which a rollback gave is 0. Its primary is a
-- member, and a record can tell it.
pub record IsGivenView (d : Durable) (view : View) : Type 0 where
  pub epoch : view.stamp.epoch ≤ d.epoch
  pub version : (view.stamp.version ≡ 0) ⊎ (is_given d.next_version view.stamp.version ≡ true)
  pub primary : has_its_primary view ≡ true
  pub told : IsToldView view

-- Names as they stand: the root is a directory, and the rows below it are a tree's, in which no element has a slash, so that texts
-- tell paths apart, and nothing is hidden twice. The counts are the tree's, and each can be told.
pub record AreKept (names : NamesView) : Type 0 where
  pub root : fin.get names.tree [] ≡ Some Dir
  pub tree : is_tree (below_root (fin.entries names.tree)) ≡ true
  pub plain : list_all (λ r. is_without_slashes r.0) (fin.entries names.tree) ≡ true
  pub hidden : are_hidden_once (fin.entries names.tree) ≡ true
  pub counted : IsCounted names
  pub counts : (chunk count : ℕ) → fin.get names.refs chunk ≡ Some count → count ≤ last_count

-- a chunk is listed, or its prepared view is kept
abbrev pub IsStillThere : Durable → ℕ → Type 0
IsStillThere d chunk = (is_listed d chunk ≡ true) ⊎ (is_some (fin.get d.prepared chunk) ≡ true)

-- The names are kept. Each listed chunk is settled, and each settled chunk was given. The epoch is a number, and the ends of those
-- before it fit the phase. What takes edits back can be undone, and leads to names that are kept too, whose chunks each have a
-- prepared view, of a stamp before the upgrade, and are still there. A checkpoint can tell each reply.
pub record IsKept (d : Durable) : Type 0 where
  pub names : AreKept d.names
  pub settled : (chunk : ℕ) → is_listed d chunk ≡ true → is_some (fin.get d.chunks chunk) ≡ true
  pub handles : (chunk : ℕ) → is_some (fin.get d.chunks chunk) ≡ true → is_given d.next_handle chunk ≡ true
  pub views : (chunk : ℕ) (s : Settled) → fin.get d.chunks chunk ≡ Some s → IsGivenView d s.view
  pub now : IsNumber d.epoch
  pub ends : are_ends d.ends d.epoch d.phase ≡ true
  pub ordinary : upgrade_epoch d.phase d.epoch ≡ None → (d.inverses ≡ []) × ((chunk : ℕ) → fin.get d.prepared chunk ≡ None)
  pub prepared : (chunk : ℕ) (p : Prepared) → fin.get d.prepared chunk ≡ Some p → (is_given d.next_handle chunk ≡ true) × IsGivenView d p.view × (is_prepared_before (upgrade_epoch d.phase d.epoch) p.view ≡ true)
  pub back : (names : NamesView) × (all_undone d.inverses d.names ≡ Some names) × AreKept names
  pub restored : (names : NamesView) (chunk : ℕ) → all_undone d.inverses d.names ≡ Some names → is_ordinary d.phase ≡ false → is_some (fin.get names.refs chunk) ≡ true → is_some (prepared_view d chunk) ≡ true
  pub still : (names : NamesView) (chunk : ℕ) → all_undone d.inverses d.names ≡ Some names → is_ordinary d.phase ≡ false → is_some (fin.get names.refs chunk) ≡ true → IsStillThere d chunk
  pub replies : (client : ClientId) (reply : KeptReply) → fin.get d.replies client ≡ Some reply → told_result (outcome_of reply.result) ≡ Some reply.result

-- ---- records

-- a record that can be written keeps what stands
abbrev pub KeepsAll : PlainEntry → Type 0
KeepsAll entry = (d next : Durable) → IsEntry Two entry → IsKept d → applied d entry ≡ Some next → IsKept next

-- a checkpoint among records is that of something that stood
abbrev pub IsOfKept : PlainEntry → Type 0
IsOfKept (Whole c) = (d : Durable) × (IsKept d × (c ≡ checkpoint_of d))
IsOfKept entry = Unit {0}

-- So records lead from a new store to what stands, where their checkpoints are such.
abbrev pub LeadsToKept : Type 0
LeadsToKept = (entries : List PlainEntry) (d : Durable) → AllByRecursion IsOfKept entries → AllByRecursion (IsEntry Two) entries → replayed start entries ≡ Some d → IsKept d

-- Counters never fall behind a value that was given, and the epoch never falls. A checkpoint tells its own, which are those of
-- what it was made of.
abbrev pub KeepsGiven : PlainEntry → Type 0
KeepsGiven entry = (d next : Durable) (n : ℕ) → is_whole_entry entry ≡ false → applied d entry ≡ Some next →
    (is_given d.next_handle n ≡ true → is_given next.next_handle n ≡ true) × (is_given d.next_version n ≡ true → is_given next.next_version n ≡ true)
    × (is_given d.next_hidden n ≡ true → is_given next.next_hidden n ≡ true) × (d.epoch ≤ next.epoch)

-- a checkpoint of what stands tells its counters and its epoch
pub record SameCounters (d next : Durable) : Type 0 where
  pub handle : next.next_handle ≡ d.next_handle
  pub version : next.next_version ≡ d.next_version
  pub hidden : next.next_hidden ≡ d.next_hidden
  pub epoch : next.epoch ≡ d.epoch

abbrev pub TellsCounters : Type 0
TellsCounters = (d next : Durable) → applied d (Whole (checkpoint_of d)) ≡ Some next → SameCounters d next

-- records that go on within an upgrade
abbrev pub goes_on_within : PlainEntry → Bool
goes_on_within (Edited by edit) = true
goes_on_within (Said to refusal) = true
goes_on_within (Propose chunk version) = true
goes_on_within (Settle v) = true
goes_on_within (Prepare epoch moment chunks) = false
goes_on_within (Finalize epoch) = false
goes_on_within (RollbackBegin epoch) = true
goes_on_within (RollbackCommit epoch answers) = false
goes_on_within (Whole c) = false
goes_on_within (Holder chunk server) = true

-- while an upgrade stands, what takes edits back leads to the names of the prepare
abbrev pub LeadsBack : PlainEntry → Type 0
LeadsBack entry = (d next : Durable) → IsKept d → is_ordinary d.phase ≡ false → goes_on_within entry ≡ true → applied d entry ≡ Some next →
    all_undone next.inverses next.names ≡ all_undone d.inverses d.names

-- a record that a server holds a chunk as it stood adds this server
abbrev pub prepared_behind : PlainEntry → ℕ → Option Prepared → Option Prepared
prepared_behind (Holder held server) chunk prepared = if held == chunk then held_by server prepared else prepared
prepared_behind entry chunk prepared = prepared

-- and each chunk's prepared view stays, with those who hold it, also that of a chunk which was forgotten; one that had none gets none
abbrev pub KeepsPrepared : PlainEntry → Type 0
KeepsPrepared entry = (d next : Durable) → is_ordinary d.phase ≡ false → goes_on_within entry ≡ true → applied d entry ≡ Some next →
    (chunk : ℕ) → prepared_view next chunk ≡ prepared_behind entry chunk (prepared_view d chunk)

-- a chunk as it is settled, which its members alone hold
abbrev pub prepared_from : Settled → Prepared
prepared_from settled = record { view = settled.view; holders = [] }

-- what a prepare begins with
abbrev pub BeginsWithAll : Type 0
BeginsWithAll = (d next : Durable) (epoch moment chunks : ℕ) → IsKept d → applied d (Prepare epoch moment chunks) ≡ Some next →
    (all_undone next.inverses next.names ≡ Some d.names) × ((chunk : ℕ) → prepared_view next chunk ≡ option_map prepared_from (fin.get d.chunks chunk))

-- who has answered of a chunk
abbrev pub members_for : List Answered → ℕ → List ℕ
members_for [] chunk = []
members_for (answer ∷ answers) chunk = if answer.handle == chunk then answer.members else members_for answers chunk

-- a chunk without a primary, of which nothing is asked: under version 0 of this epoch, with so many edits, on these servers
abbrev pub quiet_again : ℕ → ℕ → List ℕ → Settled
quiet_again epoch count members = record { view = record { stamp = record { epoch = epoch; version = 0 }; count = count; members = members; term = None }; is_moving = false }

-- The names are those of the prepare again. Each chunk that was listed then was answered once; it is quiet, with the count of edits that
-- it had then, on exactly those servers that have answered; and no other chunk is settled.
pub record IsRolledBack (d next : Durable) (epoch : ℕ) (answers : List Answered) : Type 0 where
  pub names : next.names ≡ d.names
  pub phase : next.phase ≡ Ordinary
  pub answered : map (λ (a : Answered). a.handle) answers ≡ fin.keys d.names.refs
  pub restored : (chunk : ℕ) (before : Settled) → is_listed d chunk ≡ true → fin.get d.chunks chunk ≡ Some before →
      fin.get next.chunks chunk ≡ Some (quiet_again epoch before.view.count (members_for answers chunk))
  pub others : (chunk : ℕ) → is_listed d chunk ≡ false → fin.get next.chunks chunk ≡ None

-- A rollback leads back to what was prepared, whatever goes on between.
abbrev pub RollsBack : Type 0
RollsBack = (d prepared rolling next : Durable) (epoch moment chunks last : ℕ) (entries : List PlainEntry) (answers : List Answered) → IsKept d → applied d (Prepare epoch moment chunks) ≡ Some prepared
    → list_all goes_on_within entries ≡ true → AllByRecursion (IsEntry Two) entries → replayed prepared entries ≡ Some rolling → applied rolling (RollbackCommit last answers) ≡ Some next →
    IsRolledBack d next last answers

-- the checkpoint of what stands tells it, but for chunks that stand in no file and never did
abbrev pub TellsAll : Type 0
TellsAll = (d : Durable) → IsKept d → whole_of (checkpoint_of d) ≡ Some (tidied d)

-- What such records lead to can be told by a checkpoint, and read from it again.
abbrev pub IsToldAgain : Type 0
IsToldAgain = (entries : List PlainEntry) (d : Durable) → AllByRecursion IsOfKept entries → AllByRecursion (IsEntry Two) entries → replayed start entries ≡ Some d →
    whole_of (checkpoint_of d) ≡ Some (tidied d)

-- ---- turns

-- each record of a turn can be written
abbrev pub IsWritten : Turn → Type 0
IsWritten t = AllByRecursion (IsEntry Two) t.records

-- each record of a turn fits what it meets, and together they give what is durable after it
abbrev pub AllFit : State → Turn → Type 0
AllFit s t = replayed s.durable t.records ≡ Some t.after.durable

-- the record of a refusal is written, and with it the reply that it tells
abbrev pub with_said : State → ReqId → Refusal → State
with_said s req refusal = record s {
  durable = record (s.durable) { replies = with_reply s.durable.replies req (Err refusal) };
  log = record (s.log) { records = s.log.records + 1; size = s.log.size + size_of (Said req refusal) };
}

-- the reply is kept in memory alone
abbrev pub with_kept : State → ReqId → Refusal → State
with_kept s req refusal =
    record s { volatile = record (s.volatile) { replies = fin.insert s.volatile.replies req.client (record { number = req.number; result = Err refusal }) } }

-- A refused call leaves all as it was, or all but the kept reply; and its client alone is told.
pub record LeavesAll (s : State) (req : ReqId) (refusal : Refusal) (t : Turn) : Type 0 where
  pub left : ((t.after ≡ s) × (t.records ≡ [])) ⊎ (((t.after ≡ with_said s req refusal) × (t.records ≡ Said req refusal ∷ [])) ⊎ ((t.after ≡ with_kept s req refusal) × (t.records ≡ [])))
  pub sent : t.sent ≡ reply_to req (Err refusal) ∷ []

abbrev pub RefusedLeavesAll : Type 0
RefusedLeavesAll = (config : Config) (s : State) (req : ReqId) (moment : Moment) (call : Call) (refusal : Refusal) → (call_turn config s req moment call).said ≡ Some refusal →
    LeavesAll s req refusal (call_turn config s req moment call)

-- its records fit what they meet, and what stands is kept
pub record FitsAndKeeps (s : State) (t : Turn) : Type 0 where
  pub fits : AllFit s t
  pub kept : IsKept s.durable → IsKept t.after.durable

abbrev pub RefusedFits : Type 0
RefusedFits = (config : Config) (s : State) (req : ReqId) (moment : Moment) (call : Call) → is_some (call_turn config s req moment call).said ≡ true →
    FitsAndKeeps s (call_turn config s req moment call)

-- The records of each call fit what they meet and give what is durable afterwards, whether it is accepted or refused.
abbrev pub CallsFit : Type 0
CallsFit = (config : Config) (s : State) (req : ReqId) (moment : Moment) (call : Call) → IsKept s.durable → IsSane s → AllFit s (call_turn config s req moment call)

-- what a record of a call's edit tells: its paths, and of a deletion the moment and the number
abbrev pub IsToldCall : Durable → Moment → Call → Type 0
IsToldCall d moment (calls.Mkdirs path) = IsPath path
IsToldCall d moment (calls.Create path) = IsPath path
IsToldCall d moment (calls.Rename from to) = IsPath from × IsPath to
IsToldCall d moment (calls.Delete path recursive) = IsPath path × (IsNumber moment.0 × IsNumber d.next_hidden)
IsToldCall d moment (calls.Undelete path) = IsPath path
IsToldCall d moment (calls.Snapshot from to) = IsPath from × IsPath to
IsToldCall d moment call = Unit {0}

-- And what stands is kept, where the edit's record can tell its paths and numbers.
abbrev pub CallsKeep : Type 0
CallsKeep = (config : Config) (s : State) (req : ReqId) (moment : Moment) (call : Call) → IsKept s.durable → IsSane s → IsToldCall s.durable moment call →
    IsKept (call_turn config s req moment call).after.durable

-- the answers to a proposal, by which a view is settled
abbrev pub is_answer_of : About → Bool
is_answer_of (abouts.Promised stamp count carried) = true
is_answer_of (abouts.Unpromised stamp refusal) = true
is_answer_of said = false

abbrev pub is_answer : Body → Bool
is_answer (bodies.About chunk said) = is_answer_of said
is_answer said = false

abbrev pub IsToldBody : Durable → Moment → Body → Type 0
IsToldBody d moment (bodies.Call req call) = IsToldCall d moment call
IsToldBody d moment said = Unit {0}

-- So it is of each message but an answer to a proposal.
abbrev pub MessagesFit : Type 0
MessagesFit = (config : Config) (s : State) (message : Message) (moment : Moment) → is_answer message.body ≡ false → IsKept s.durable → IsSane s →
    AllFit s (handle config s message moment)

abbrev pub MessagesKeep : Type 0
MessagesKeep = (config : Config) (s : State) (message : Message) (moment : Moment) → is_answer message.body ≡ false → IsKept s.durable → IsSane s → IsToldBody s.durable moment message.body →
    IsKept (handle config s message moment).after.durable

-- Beside what is sane: the paths of the calls that wait are as calls may name them, and no chunk that was never settled is asked for
-- under a stamp of before the upgrade that stands.
pub record CanGoOn (s : State) : Type 0 where
  pub visible : list_all (λ (p : Pending). list_all is_visible (paths_of p.waits)) s.volatile.pending ≡ true
  pub since : (chunk : ℕ) (asking : Asking) → fin.get s.volatile.moving chunk ≡ Some asking →
      is_since (upgrade_epoch s.durable.phase s.durable.epoch) (fin.get s.durable.chunks chunk) asking.stamp ≡ true

-- Then it is so of every message.
abbrev pub AllMessagesFit : Type 0
AllMessagesFit = (config : Config) (s : State) (message : Message) (moment : Moment) → IsKept s.durable → IsSane s → CanGoOn s → AllFit s (handle config s message moment)

-- and of each step of a tick, in the state that it meets
abbrev pub StepsAtTicksFit : Type 0
StepsAtTicksFit = (s : State) (moment : Moment) (proposal : ℕ × Stamp) → IsSane s → CanGoOn s → AllFit s (pressed moment proposal s)

-- A new store is such.
abbrev pub StartsWell : Type 0
StartsWell = (log : Log) → IsKept (fresh log).durable × IsSane (fresh log) × CanGoOn (fresh log)

-- It is so of a checkpoint that is asked for.
abbrev pub CheckpointFits : Type 0
CheckpointFits = (s : State) → IsKept s.durable → FitsAndKeeps s (checkpoint s)

abbrev pub is_proposal : PlainEntry → Bool
is_proposal (Propose chunk version) = true
is_proposal entry = false

abbrev pub is_drop : Kind → Bool
is_drop kinds.Drop = true
is_drop kind = false

abbrev pub is_drop_message : Message → Bool
is_drop_message m = is_drop (kind_of m.body)

-- nothing is begun, and nothing dropped
pub record IsStill (t : Turn) : Type 0 where
  pub records : list_any is_proposal t.records ≡ false
  pub sent : list_any is_drop_message t.sent ≡ false

-- so it is while rolling back, whatever comes
abbrev pub NothingWhileRolling : Type 0
NothingWhileRolling = (config : Config) (s : State) (message : Message) (moment : Moment) → is_rolling s.durable.phase ≡ true → IsStill (handle config s message moment)

-- and at each tick
abbrev pub NothingAtTicks : Type 0
NothingAtTicks = (s : State) (moment : Moment) → is_rolling s.durable.phase ≡ true → IsStill (tick s moment)

-- ---- locks

-- what comes before locks doesn't refuse the call: a disk that has failed, a rollback, a prepare, a path of more than 64 elements
abbrev pub comes_to_locks : State → Call → Bool
comes_to_locks s call = not (is_failed s.fault) && (not (is_rolling s.durable.phase && not (is_always_taken call)) && (not (s.volatile.is_preparing && is_work call) && not (is_any_deep call)))

-- A new call is refused for its locks exactly where it comes to them, and one of a call that waits is in the way.
abbrev pub LockedExactly : Type 0
LockedExactly = (s : State) (req : ReqId) (call : Call) →
    (refused_before s req call ≡ Some refusals.Locked) ↔ ((comes_to_locks s call ≡ true) × (is_locked s req call ≡ true))

abbrev pub RefusedAtLocks : Type 0
RefusedAtLocks = (config : Config) (s : State) (req : ReqId) (moment : Moment) (call : Call) → comes_to_locks s call ≡ true → is_locked s req call ≡ true →
    new_call config s req moment call ≡ refused s req refusals.Locked

-- the chunks of which a call begins a view at once
abbrev pub MayBegin : Config → State → Call → ℕ → Type 0
MayBegin config s (calls.FindForWriting path index stamp) chunk = found_chunk (fin.get s.durable.names.tree path) index ≡ Ok chunk
MayBegin config s (calls.Snapshot from to) chunk = is_member (unquiet s from) chunk ≡ true
MayBegin config s calls.Replicate chunk = most_needed_of config.replicas (needs_of s) ≡ Some chunk
MayBegin config s call chunk = ⊥

-- Else only what would begin a view of a chunk that moves for another call is refused so.
abbrev pub LockedElse : Type 0
LockedElse = (config : Config) (s : State) (req : ReqId) (moment : Moment) (call : Call) → (new_call config s req moment call).said ≡ Some refusals.Locked →
    ((comes_to_locks s call ≡ true) × (is_locked s req call ≡ true)) ⊎ ((chunk : ℕ) × (MayBegin config s call chunk × (is_wanted_at s chunk ≡ true)))

-- ---- the commit of a rollback

-- a server, of which there are 16 at most, that has the chunk as it stood at prepare has told so
pub record HasTold (s : State) (chunk server : ℕ) : Type 0 where
  pub is_server : server < 16
  pub prepared : Prepared
  pub kept : prepared_view s.durable chunk ≡ Some prepared
  pub has_it : is_prepared_on prepared server ≡ true
  pub told : is_member (told_of s chunk) server ≡ true

abbrev pub IsRestored : State → ℕ → Type 0
IsRestored s chunk = (server : ℕ) × HasTold s chunk server

-- A rollback can be committed: one was begun, its edits can be taken back, and each chunk that had a reference at prepare is
-- restored.
pub record CanCommit (s : State) : Type 0 where
  pub begun : is_rolling s.durable.phase ≡ true
  pub names : NamesView
  pub back : all_undone s.durable.inverses s.durable.names ≡ Some names
  pub restored : (chunk count : ℕ) → fin.get names.refs chunk ≡ Some count → 0 < count → IsRestored s chunk

-- it is accepted exactly then, but for want of room
abbrev pub CommitsExactly : Type 0
CommitsExactly = (s : State) (req : ReqId) →
    (((rollback_commit s req).said ≡ None) ⊎ ((rollback_commit s req).said ≡ Some refusals.Full)) ↔ CanCommit s

-- the lowest chunk that isn't restored, of those that had a reference at prepare
pub record IsFirstUnrestored (s : State) (chunk : ℕ) : Type 0 where
  pub begun : is_rolling s.durable.phase ≡ true
  pub names : NamesView
  pub back : all_undone s.durable.inverses s.durable.names ≡ Some names
  pub count : ℕ
  pub found : fin.get names.refs chunk ≡ Some count
  pub referred : 0 < count
  pub lacks : IsRestored s chunk → ⊥
  pub lower : (other many : ℕ) → other < chunk → fin.get names.refs other ≡ Some many → 0 < many → IsRestored s other

-- its record tells who has answered of each chunk that was listed at prepare
abbrev pub answers_of : State → NamesView → List Answered
answers_of s names = answers_for (prepared_view s.durable) (told_of s) (fin.entries names.refs)

abbrev pub commit_record : State → NamesView → PlainEntry
commit_record s names = RollbackCommit s.durable.epoch (answers_of s names)

-- those are exactly the servers that have told of it
abbrev pub AnswersExactly : Type 0
AnswersExactly = (s : State) (names : NamesView) (chunk server : ℕ) → is_some (fin.get names.refs chunk) ≡ true →
    (is_member (members_for (answers_of s names) chunk) server ≡ true) ↔ HasTold s chunk server

-- Which refusal comes, and when none does: no rollback was begun; its edits can't be taken back; a chunk isn't restored, the lowest of
-- such; its record has no room. Behind its record nothing is asked for any chunk, and none is without a place.
pub record CommitsInOrder (s : State) (t : Turn) : Type 0 where
  pub unbegun : (t.said ≡ Some refusals.NotUpgrading) ↔ (is_rolling s.durable.phase ≡ false)
  pub stuck : (t.said ≡ Some refusals.BadLine) ↔ ((is_rolling s.durable.phase ≡ true) × (all_undone s.durable.inverses s.durable.names ≡ None))
  pub unrestored : (chunk : ℕ) → (t.said ≡ Some (refusals.Unrestored chunk)) ↔ IsFirstUnrestored s chunk
  pub full : (t.said ≡ Some refusals.Full) ↔ ((can : CanCommit s) × (fits s.log (commit_record s can.names ∷ []) ≡ false))
  pub done : (t.said ≡ None) ↔ ((can : CanCommit s) × (fits s.log (commit_record s can.names ∷ []) ≡ true))
  pub records : (can : CanCommit s) → t.said ≡ None → t.records ≡ commit_record s can.names ∷ []
  pub quiet : t.said ≡ None → (t.after.volatile.moving ≡ fin.empty) × (t.after.volatile.unplaced ≡ [])

abbrev pub RefusesInOrder : Type 0
RefusesInOrder = (s : State) (req : ReqId) → CommitsInOrder s (rollback_commit s req)

-- of what may stand before a new call, a disk that has failed alone stands before this one: no lock and no upgrade that is prepared
abbrev pub IsTakenUnlessFailed : Type 0
IsTakenUnlessFailed = (config : Config) (s : State) (req : ReqId) (moment : Moment) →
    new_call config s req moment calls.RollbackCommit ≡ (if is_failed s.fault then refused s req refusals.Device else rollback_commit s req)

-- a version that is proposed is above all before it
abbrev pub ProposesFresh : Type 0
ProposesFresh = (config : Config) (s : State) (message : Message) (moment : Moment) (chunk version : ℕ) →
    Contains (handle config s message moment).records (Propose chunk version) → is_fresh s.durable.next_version version ≡ true

-- and at each tick
abbrev pub ProposesFreshAtTicks : Type 0
ProposesFreshAtTicks = (s : State) (moment : Moment) (chunk version : ℕ) →
    Contains (tick s moment).records (Propose chunk version) → is_fresh s.durable.next_version version ≡ true

-- a view is made of those that answered the most edits, one of whom was asked
abbrev pub MadeOfTheMost : Type 0
MadeOfTheMost = (c : Chunk) (asking : Asking) (answers : Poll) (moment : Moment) (view : View) → view_by c asking answers moment ≡ Some view →
    Chooses answers.counts view.members view.count × (may_settle asking.asked view.members ≡ true)

-- an accepted prepare adds its record alone, of 26 bytes: the next epoch, the moment, and how many chunks the master knows; a refused
-- one at most its refusal
pub record AddsOne (s : State) (req : ReqId) (moment : Moment) (t : Turn) : Type 0 where
  pub accepted : t.said ≡ None → (t.records ≡ Prepare (s.durable.epoch + 1) moment.0 (chunk_count s) ∷ []) × (size_of_all t.records ≡ 26)
  pub refused : (refusal : Refusal) → t.said ≡ Some refusal → (t.records ≡ []) ⊎ (t.records ≡ Said req refusal ∷ [])

abbrev pub PreparesByOneRecord : Type 0
PreparesByOneRecord = (config : Config) (s : State) (req : ReqId) (moment : Moment) → AddsOne s req moment (new_call config s req moment calls.PrepareCommit)

-- ---- a rename

-- Where a rename is accepted, nothing stands at its resolved target; so to resolve that again changes nothing.
abbrev pub ResolvesOnce : Type 0
ResolvesOnce = (names after : NamesView) (from to : Path) → edited_names (Rename from to) names ≡ Ok after →
    (fin.get names.tree (target_of (fin.get names.tree) from to) ≡ None) × (target_of (fin.get names.tree) from (target_of (fin.get names.tree) from to) ≡ target_of (fin.get names.tree) from to)

-- A rename to the resolved target is accepted where the one that was asked is, and makes the same names.
abbrev pub ResolvedMakesTheSame : Type 0
ResolvedMakesTheSame = (names after : NamesView) (from to : Path) → edited_names (Rename from to) names ≡ Ok after → edited_names (Rename from (target_of (fin.get names.tree) from to)) names ≡ Ok after

-- It is taken back alike.
abbrev pub ResolvedGoesBackAlike : Type 0
ResolvedGoesBackAlike = (names after : NamesView) (from to : Path) → edited_names (Rename from to) names ≡ Ok after →
    inverse_of (Rename from (target_of (fin.get names.tree) from to)) (fin.entries names.tree) ≡ inverse_of (Rename from to) (fin.entries names.tree)

-- The one record of an accepted rename holds the resolved target. A refused one is refused as it was asked, or has no room for that record.
abbrev pub RenameRecordsResolved : Type 0
RenameRecordsResolved = (s : State) (req : ReqId) (from to : Path) → (renames s req from to).said ≡ None → (renames s req from to).records ≡ Edited req (Rename from (target_of (fin.get s.durable.names.tree) from to)) ∷ []
