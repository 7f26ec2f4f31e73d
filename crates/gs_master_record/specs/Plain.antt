-- Entries of a journal without where they lie in memory.
use Rattle.std.specs.Prelude.{ℕ, List, Option, Some, None, map, string_bytes}
use Rattle.gs_base.specs.declared.epoch.EpochEnd.{EpochEnd}
use Rattle.gs_base.specs.declared.numbers.ReqId.{ReqId}
use Rattle.gs_base.specs.declared.refusal.Refusal.{Refusal}
use Rattle.gs_path.specs.Path.{Path}
use Rattle.gs_edit.specs.declared.edit.Edit.{Edit}
use Rattle.gs_edit.specs.declared.edit.Edit.TheVariants as edits
use Rattle.gs_edit.specs.declared.listed.ListedInverse.{ListedInverse}
use Rattle.gs_edit.specs.declared.listed.ListedInverse.TheVariants as inverses
use Rattle.gs_tree.specs.declared.entry.TreeEntry.{TreeEntry}
use Rattle.gs_tree.specs.declared.entry.TreeEntry.TheVariants as nodes
use Rattle.gs_master_record.specs.declared.checkpoint.Checkpoint.{Checkpoint}
use Rattle.gs_master_record.specs.declared.checkpoint.KeptOutcome.{KeptOutcome}
use Rattle.gs_master_record.specs.declared.checkpoint.KeptOutcome.TheVariants as outcomes
use Rattle.gs_master_record.specs.declared.checkpoint.Phase.{Phase}
use Rattle.gs_master_record.specs.declared.checkpoint.PreparedView.{PreparedView}
use Rattle.gs_master_record.specs.declared.checkpoint.Reference.{Reference}
use Rattle.gs_master_record.specs.declared.checkpoint.Reply.{Reply}
use Rattle.gs_master_record.specs.declared.checkpoint.SettledEntry.{SettledEntry}
use Rattle.gs_master_record.specs.declared.entry.Entry.{Entry}
use Rattle.gs_master_record.specs.declared.entry.Entry.TheVariants as entries
use Rattle.gs_master_record.specs.declared.entry.Answered.{Answered}
use Rattle.gs_master_record.specs.declared.entry.SettledView.{SettledView}

-- an edit: a moment, a number, an index and handles are numbers
pub data PlainEdit : Type 0 where
  Mkdirs : Path → PlainEdit
  Create : Path → PlainEdit
  Rename : Path → Path → PlainEdit
  Hide : Path → ℕ → ℕ → PlainEdit
  Unhide : Path → PlainEdit
  Remove : Path → PlainEdit
  AddChunk : Path → ℕ → PlainEdit
  Cow : Path → ℕ → ℕ → ℕ → PlainEdit
  Snapshot : Path → Path → PlainEdit
  Forget : List ℕ → PlainEdit

abbrev pub plain_edit : Edit → PlainEdit
plain_edit (edits.Mkdirs p) = Mkdirs p
plain_edit (edits.Create p) = Create p
plain_edit (edits.Rename from to) = Rename from to
plain_edit (edits.Hide p moment number) = Hide p moment.0 number
plain_edit (edits.Unhide p) = Unhide p
plain_edit (edits.Remove p) = Remove p
plain_edit (edits.AddChunk p chunk) = AddChunk p chunk
plain_edit (edits.Cow p index old new) = Cow p index old new
plain_edit (edits.Snapshot from to) = Snapshot from to
plain_edit (edits.Forget chunks) = Forget chunks.items

-- an entry of the tree: its path, and the chunks of a file; a directory has none
abbrev pub PlainNode : Type 0
PlainNode = Path × Option (List ℕ)

abbrev pub plain_node : TreeEntry → PlainNode
plain_node (nodes.Dir p) = (p, None)
plain_node (nodes.File p chunks) = (p, Some chunks.items)

pub data PlainInverse : Type 0 where
  UndoMkdirs : List Path → PlainInverse
  UndoCreate : List Path → PlainInverse
  UndoRename : Path → Path → PlainInverse
  UndoHide : Path → Path → PlainInverse
  UndoUnhide : Path → Path → PlainInverse
  UndoRemove : List PlainNode → PlainInverse
  UndoAddChunk : Path → PlainInverse
  UndoCow : Path → ℕ → ℕ → PlainInverse
  UndoSnapshot : Path → PlainInverse
  UndoForget : List ℕ → PlainInverse

abbrev pub plain_inverse : ListedInverse → PlainInverse
plain_inverse (inverses.Mkdirs ps) = UndoMkdirs ps.items
plain_inverse (inverses.Create ps) = UndoCreate ps.items
plain_inverse (inverses.Rename now before) = UndoRename now before
plain_inverse (inverses.Hide now before) = UndoHide now before
plain_inverse (inverses.Unhide now before) = UndoUnhide now before
plain_inverse (inverses.Remove es) = UndoRemove (map plain_node es.items)
plain_inverse (inverses.AddChunk p) = UndoAddChunk p
plain_inverse (inverses.Cow p index old) = UndoCow p index old
plain_inverse (inverses.Snapshot p) = UndoSnapshot p
plain_inverse (inverses.Forget chunks) = UndoForget chunks.items

pub data PlainOutcome : Type 0 where
  Accepted : List ℕ → PlainOutcome
  Refused : Refusal → PlainOutcome

abbrev pub plain_outcome : KeptOutcome → PlainOutcome
plain_outcome (outcomes.Accepted answer) = Accepted (string_bytes answer)
plain_outcome (outcomes.Refused refusal) = Refused refusal

pub record PlainReply : Type 0 where
  pub to : ReqId
  pub outcome : PlainOutcome

abbrev pub plain_reply : Reply → PlainReply
plain_reply r = record { to = r.to; outcome = plain_outcome r.outcome }

pub record PlainCheckpoint : Type 0 where
  pub next_handle : ℕ
  pub next_version : ℕ
  pub next_hidden : ℕ
  pub epoch : ℕ
  pub phase : Phase
  pub ends : List EpochEnd
  pub tree : List PlainNode
  pub references : List Reference
  pub settled : List SettledEntry
  pub replies : List PlainReply
  pub prepared : List PreparedView
  pub inverses : List PlainInverse

abbrev pub plain_checkpoint : Checkpoint → PlainCheckpoint
plain_checkpoint c = record {
  next_handle = c.next_handle;
  next_version = c.next_version;
  next_hidden = c.next_hidden;
  epoch = c.epoch;
  phase = c.phase;
  ends = c.ends.items;
  tree = map plain_node c.tree.items;
  references = c.references.items;
  settled = c.settled.items;
  replies = map plain_reply c.replies.items;
  prepared = c.prepared.items;
  inverses = map plain_inverse c.inverses.items;
}

pub data PlainEntry : Type 0 where
  Edited : ReqId → PlainEdit → PlainEntry
  Said : ReqId → Refusal → PlainEntry
  Propose : ℕ → ℕ → PlainEntry
  Settle : SettledView → PlainEntry
  Prepare : ℕ → ℕ → ℕ → PlainEntry
  Finalize : ℕ → PlainEntry
  RollbackBegin : ℕ → PlainEntry
  RollbackCommit : ℕ → List Answered → PlainEntry
  Whole : PlainCheckpoint → PlainEntry
  Holder : ℕ → ℕ → PlainEntry

abbrev pub plain : Entry → PlainEntry
plain (entries.Edit by edit) = Edited by (plain_edit edit)
plain (entries.Said to refusal) = Said to refusal
plain (entries.Propose handle version) = Propose handle version
plain (entries.Settle settled) = Settle settled
plain (entries.Prepare epoch moment chunks) = Prepare epoch moment.0 chunks
plain (entries.Finalize epoch) = Finalize epoch
plain (entries.RollbackBegin epoch) = RollbackBegin epoch
plain (entries.RollbackCommit epoch answered) = RollbackCommit epoch answered.items
plain (entries.Checkpoint c) = Whole (plain_checkpoint c)
plain (entries.Holder handle server) = Holder handle server
