-- The machine that explains a store's answers: a tree of texts, perhaps a kept one, and what is owed. Where nobody is sure of what a line asked for, it may still be done.
-- The machine knows no handle, replica, stamp, lease, journal or message.
use Rattle.std.specs.Prelude.{[], ◌&&◌, ◌+◌, ◌++◌, ◌==◌, ◌∷◌, Bool, Err, List, None, Ok, Option, Result, Some, drop, false, filter, if◌then◌else◌, length, map, nat_le, nat_lt, not, remove, slice_get, suc, true, unwrap_or, ℕ}
use Rattle.std.specs.List.{list_any}
use Rattle.std.specs.Result.{result_unwrap_or}
use Rattle.gs_base.specs.declared.refusal.Refusal.{Refusal}
use Rattle.gs_base.specs.declared.refusal.Refusal.TheVariants as refusals
use Rattle.gs_block.specs.Chunk.{appended, padded, written}
use Rattle.gs_client_part.specs.Writing.{most_chunks}
use Rattle.gs_edit.specs.Machine.{Plain, finalized, first, prepared, restored, with_tree}
use Rattle.gs_edit.specs.Mapped.{mapped_rows}
use Rattle.gs_edit.specs.Plain.{add_chunk_rows, create_rows, hide_rows, mkdirs_rows, remove_rows, rename_rows, set_chunk_rows, snapshot_rows, unhide_rows}
use Rattle.gs_edit.specs.Scan.{is_removed, left}
use Rattle.gs_laws_plain.specs.calm.Calm.{hidden_after}
use Rattle.gs_laws_plain.specs.commands.Answers.{plain_answer}
use Rattle.gs_master_spec.specs.Calls.{is_always_taken, is_work}
use Rattle.gs_msg.specs.declared.answer.Answer.{Answer as Said}
use Rattle.gs_msg.specs.declared.answer.Answer.TheVariants as says
use Rattle.gs_msg.specs.declared.answer.Phase.{Phase}
use Rattle.gs_msg.specs.declared.answer.Phase.TheVariants as phases
use Rattle.gs_msg.specs.declared.call.Call.{Call}
use Rattle.gs_msg.specs.declared.call.Call.TheVariants as calls
use Rattle.gs_path.specs.Element.{is_hidden}
use Rattle.gs_path.specs.Path.{Path, begins}
use Rattle.gs_tree.specs.Edits.{chunks_in}
use Rattle.gs_tree.specs.Find.{Rows, at}
use Rattle.gs_tree.specs.Mapped.{mapped_entry}
use Rattle.gs_tree.specs.Plain.{after}

-- ---- texts

-- an edit of a text: bytes from an offset on, or bytes after all others
pub data Edit : Type 0 where
  Write : ℕ → List ℕ → Edit
  Append : List ℕ → Edit

-- The bytes of a chunk, and the edits that are owed to it, in the order in which they were asked. Each may be made once, or never. One that is made overtakes those that were asked before it.
pub record Text : Type 0 where
  pub bytes : List ℕ
  pub owed : List Edit

-- a chunk that is added
abbrev pub new_text : Text
new_text = record { bytes = []; owed = [] }

-- bytes have room after a text
abbrev pub fits : ℕ → List ℕ → List ℕ → Bool
fits size bytes text = nat_le (length text + length bytes) size

-- What an edit makes of a text. Where a write begins past the end, zeros stand between. Bytes that don't fit after the text fill it up with zeros instead.
abbrev pub edited : ℕ → Edit → List ℕ → List ℕ
edited size (Write offset bytes) text = written offset bytes text
edited size (Append bytes) text = if fits size bytes text then appended bytes text else padded size text

-- a record passes a text that is full
abbrev pub passes : ℕ → Edit → List ℕ → Bool
passes size (Write offset bytes) text = false
passes size (Append bytes) text = length text == size

-- an edit is made, and after it these are owed
abbrev pub with_edit : ℕ → Edit → List Edit → Text → Text
with_edit size edit owed text = if passes size edit text.bytes then text else record { bytes = edited size edit text.bytes; owed = owed }

-- one of the edits that are owed is made, if there is one; those that were asked before it aren't owed any more
abbrev pub settled_by : ℕ → Option Edit → ℕ → Text → Text
settled_by size None k text = text
settled_by size (Some edit) k text = with_edit size edit (drop (suc k) text.owed) text

-- the edit of this place among them
abbrev pub settled : ℕ → ℕ → Text → Text
settled size k text = settled_by size (slice_get text.owed k) k text

-- some are made, one after the other
abbrev pub settled_each : ℕ → List ℕ → Text → Text
settled_each size [] text = text
settled_each size (k ∷ ks) text = settled_each size ks (settled size k text)

-- nothing is owed to it
abbrev pub quiet : Text → Text
quiet text = record text { owed = [] }

-- ---- the machine

-- A tree, and perhaps a kept one. The calls that are late, in the order in which they were asked: they may come to the master when what was held back is delivered, or never.
-- The calls that wait at the master: each may be done once, at any line, or never. The phase of an upgrade, and the epoch. The number of the next deletion. The moment.
pub record Machine : Type 0 where
  pub plain : Plain Text
  pub late : List Call
  pub waiting : List Call
  pub phase : Phase
  pub epoch : ℕ
  pub next_hidden : ℕ
  pub moment : ℕ

-- an empty store
abbrev pub new_machine : Machine
new_machine = record { plain = first; late = []; waiting = []; phase = phases.Ordinary; epoch = 0; next_hidden = 1; moment = 0 }

-- with another tree
abbrev pub with_rows : Rows Text → Machine → Machine
with_rows rows m = record m { plain = with_tree m.plain rows }

-- the text at a place of a file
abbrev pub text_at : Path → ℕ → Machine → Text
text_at p index m = unwrap_or (slice_get (chunks_in (at m.plain.tree p)) index) new_text

-- it becomes another, if there is one
abbrev pub at_place : Path → ℕ → (Text → Text) → Machine → Machine
at_place p index make m = with_rows (result_unwrap_or (set_chunk_rows m.plain.tree p index (make (text_at p index m))) m.plain.tree) m

-- ---- calls of the tree

-- what a snapshot of a path copies: what stands at it and under it, without what is hidden there
abbrev pub is_copied : Path → Path → Bool
is_copied from p = begins from p && not (list_any is_hidden (after from p))

-- Nothing is owed to what a snapshot copies: an edit that isn't made by then never is.
abbrev pub quiet_under : Path → Rows Text → Rows Text
quiet_under from rows = map (λ row. (row.0, (if is_copied from row.0 then mapped_entry quiet row.1 else row.1))) rows

-- a file gets one text more, right after its last, while it may have another
abbrev pub with_chunk : Path → ℕ → Rows Text → Result (Rows Text) Refusal
with_chunk p index rows = if (index == length (chunks_in (at rows p))) && nat_lt index most_chunks then add_chunk_rows rows p new_text else Ok rows

-- the tree after a call
abbrev pub tree_after : Call → Machine → Result (Rows Text) Refusal
tree_after (calls.Mkdirs p) m = mkdirs_rows m.plain.tree p
tree_after (calls.Create p) m = create_rows m.plain.tree p
tree_after (calls.Rename from to) m = rename_rows m.plain.tree from to
tree_after (calls.Delete p recursive) m = hide_rows m.plain.tree p m.moment m.next_hidden
tree_after (calls.Undelete p) m = unhide_rows m.plain.tree p
tree_after (calls.Snapshot from to) m = snapshot_rows (quiet_under from m.plain.tree) from to
tree_after (calls.Extend p index) m = with_chunk p index m.plain.tree
tree_after call m = Ok m.plain.tree

-- what the plain tree answers; the others are accepted
abbrev pub tree_said : Call → Machine → Result Said Refusal
tree_said call m = unwrap_or (plain_answer (mapped_rows (λ text. text.bytes) m.plain.tree) m.moment m.next_hidden call) (Ok says.Nothing)

-- what is answered, and the machine after it: a deletion takes a number
abbrev pub tree_called : Call → Result Said Refusal → Machine → Result Said Refusal × Machine
tree_called call (Err refusal) m = (Err refusal, m)
tree_called call (Ok said) m =
    (Ok said, record m { plain = with_tree m.plain (result_unwrap_or (tree_after call m) m.plain.tree); next_hidden = hidden_after m.moment m.next_hidden call (Ok said) })

-- ---- upgrades

-- A prepare keeps a copy of the tree, and a rollback puts that back. After either no call waits, and no edit is owed to a text: one that isn't made by then never is.
abbrev pub prepared_machine : Machine → Machine
prepared_machine m = record m { plain = prepared (with_tree m.plain (mapped_rows quiet m.plain.tree)); waiting = []; phase = phases.Upgrade; epoch = m.epoch + 1 }

-- the kept tree in the place of the tree
abbrev pub rolled_back : Machine → Machine
rolled_back m = record m { plain = restored m.plain (unwrap_or m.plain.kept m.plain.tree); waiting = []; phase = phases.Ordinary }

-- ordinary, then preparing, then an upgrade, under the next epoch; or it is given up
abbrev pub begins_prepare : Phase → Machine → Result Said Refusal × Machine
begins_prepare phases.Ordinary m = (Ok (says.Epoch m.epoch), record m { phase = phases.Preparing })
begins_prepare phase m = (Err refusals.AlreadyUpgrading, m)

abbrev pub commits_prepare : Phase → Machine → Result Said Refusal × Machine
commits_prepare phases.Preparing m = (Ok (says.Epoch (m.epoch + 1)), prepared_machine m)
commits_prepare phases.Upgrade m = (Err refusals.AlreadyUpgrading, m)
commits_prepare phase m = (Err refusals.NotUpgrading, m)

abbrev pub gives_up : Phase → Machine → Result Said Refusal × Machine
gives_up phases.Preparing m = (Ok (says.Epoch m.epoch), record m { phase = phases.Ordinary })
gives_up phase m = (Err refusals.NotUpgrading, m)

-- an upgrade, then ordinary, under the next epoch, and nothing is kept; or rolling, under the next epoch, and then ordinary
abbrev pub finalizes : Phase → Machine → Result Said Refusal × Machine
finalizes phases.Upgrade m = (Ok (says.Epoch (m.epoch + 1)), record m { plain = finalized m.plain; phase = phases.Ordinary; epoch = m.epoch + 1 })
finalizes phase m = (Err refusals.NotUpgrading, m)

abbrev pub begins_rollback : Phase → Machine → Result Said Refusal × Machine
begins_rollback phases.Upgrade m = (Ok (says.Epoch (m.epoch + 1)), record m { phase = phases.Rolling; epoch = m.epoch + 1 })
begins_rollback phase m = (Err refusals.NotUpgrading, m)

abbrev pub commits_rollback : Phase → Machine → Result Said Refusal × Machine
commits_rollback phases.Rolling m = (Ok (says.Epoch m.epoch), rolled_back m)
commits_rollback phase m = (Err refusals.NotUpgrading, m)

-- ---- any call

-- a rollback is begun
abbrev pub is_rolling : Phase → Bool
is_rolling phases.Rolling = true
is_rolling phase = false

-- a prepare is under way
abbrev pub is_preparing : Phase → Bool
is_preparing phases.Preparing = true
is_preparing phase = false

-- the hidden entries that a scan removes at a moment; what lies under one isn't counted
abbrev pub removed : Machine → Rows Text
removed m = filter (λ row. is_removed m.moment (at m.plain.tree) row.0) m.plain.tree

-- What a call is answered, and the machine after it. How many chunks a scan forgets isn't known here.
abbrev pub taken : Call → Machine → Result Said Refusal × Machine
taken calls.Query m = (Ok (says.Phase m.phase m.epoch), m)
taken calls.PrepareBegin m = begins_prepare m.phase m
taken calls.PrepareCommit m = commits_prepare m.phase m
taken calls.PrepareAbort m = gives_up m.phase m
taken calls.Finalize m = finalizes m.phase m
taken calls.RollbackBegin m = begins_rollback m.phase m
taken calls.RollbackCommit m = commits_rollback m.phase m
taken calls.Scan m = (Ok (says.Scanned (length (removed m)) 0), with_rows (left m.moment m.plain.tree) m)
taken call m = tree_called call (tree_said call m) m

-- While a rollback is begun each call is refused but a query and its commit. While a prepare is under way each call is refused that works on the tree.
abbrev pub called : Call → Machine → Result Said Refusal × Machine
called call m =
    if is_rolling m.phase && not (is_always_taken call) then (Err refusals.RollingBack, m)
    else if is_preparing m.phase && is_work call then (Err refusals.Preparing, m)
    else taken call m

-- ---- what is owed

-- a call that may wait at the master for chunks to be quiet
abbrev pub may_wait : Call → Bool
may_wait (calls.Snapshot from to) = true
may_wait (calls.Extend p index) = true
may_wait call = false

-- a call whose number a record keeps: of any other a master that begins again doesn't know that it came
abbrev pub is_remembered : Call → Bool
is_remembered calls.Scan = false
is_remembered calls.PrepareBegin = false
is_remembered calls.PrepareCommit = false
is_remembered calls.PrepareAbort = false
is_remembered calls.Finalize = false
is_remembered calls.RollbackBegin = false
is_remembered calls.RollbackCommit = false
is_remembered call = true

-- A change of the tree that is accepted overtakes the late calls that were asked before it: they are old when they come. Only what was asked after it may still come.
abbrev pub overtaking : Call → List Call → Result Said Refusal × Machine → Machine
overtaking call later (Ok says.Absent, m) = m
overtaking call later (Ok said, m) = if is_remembered call then record m { late = later } else m
overtaking call later (Err refusal, m) = m

-- What is owed is paid so: an edit that is owed to the text at a place is made; a waiting call is done; a late call comes and is done; or it comes and waits.
-- Where a disk fails in a scan that comes, one of the entries goes that it removes.
pub data Payment : Type 0 where
  Settles : Path → ℕ → ℕ → Payment
  Ends : ℕ → Payment
  Comes : ℕ → Payment
  Waits : ℕ → Payment
  Sweeps : Path → Payment

-- what may happen though nothing that was held back is delivered
abbrev pub is_undelivered : Payment → Bool
is_undelivered (Settles p index k) = true
is_undelivered (Ends k) = true
is_undelivered payment = false

-- the owed edit is made, the waiting call is done, the late call comes, if there is one: only a call that may wait goes to wait
abbrev pub settles : ℕ → Option Edit → Path → ℕ → ℕ → Machine → Machine
settles size None p index k m = m
settles size edit p index k m = at_place p index (settled_by size edit k) m

abbrev pub ends : Option Call → ℕ → Machine → Machine
ends None k m = m
ends (Some call) k m = (called call (record m { waiting = remove m.waiting k })).1

abbrev pub comes : Option Call → ℕ → Machine → Machine
comes None k m = m
comes (Some call) k m = overtaking call (drop (suc k) m.late) (called call m)

abbrev pub waits : Option Call → ℕ → Machine → Machine
waits None k m = m
waits (Some call) k m = if may_wait call then record m { late = remove m.late k; waiting = m.waiting ++ call ∷ [] } else m

-- one of the entries that a scan removes goes, with all under it
abbrev pub swept : Path → Machine → Machine
swept p m = if is_removed m.moment (at m.plain.tree) p then with_rows (result_unwrap_or (remove_rows m.plain.tree p) m.plain.tree) m else m

-- a scan, as it may be late
abbrev pub is_scan : Call → Bool
is_scan calls.Scan = true
is_scan call = false

-- one of these, by its place among the edits that are owed there, the calls that wait, or the late ones
abbrev pub paid : ℕ → Payment → Machine → Machine
paid size (Settles p index k) m = settles size (slice_get (text_at p index m).owed k) p index k m
paid size (Ends k) m = ends (slice_get m.waiting k) k m
paid size (Comes k) m = comes (slice_get m.late k) k m
paid size (Waits k) m = waits (slice_get m.late k) k m
paid size (Sweeps p) m = if list_any is_scan m.late then swept p m else m

-- one after the other
abbrev pub paid_each : ℕ → List Payment → Machine → Machine
paid_each size [] m = m
paid_each size (payment ∷ payments) m = paid_each size payments (paid size payment m)

-- the same where nothing that was held back is delivered
abbrev pub paid_now : ℕ → List Payment → Machine → Machine
paid_now size payments m = paid_each size (filter is_undelivered payments) m
