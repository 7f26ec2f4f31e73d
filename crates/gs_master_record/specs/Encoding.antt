-- How an entry is written. Numbers are big-endian.
use Rattle.std.specs.Prelude.{◌≡◌, ℕ, Bool, true, false, Option, Some, None, List, [], ◌∷◌, ◌++◌, length, codes, refl}
use Rattle.std.specs.List.{flat_map}
use Rattle.byteorder.specs.Endian.{big_bytes}
use Rattle.gs_base.specs.Members.{bits_of}
use Rattle.gs_base.specs.Refusals.{number_of}
use Rattle.gs_base.specs.Told.{detail_text}
use Rattle.gs_base.specs.declared.epoch.EpochEnd.{EpochEnd}
use Rattle.gs_base.specs.declared.epoch.EpochEnd.TheVariants as epoch_ends
use Rattle.gs_base.specs.declared.numbers.ReqId.{ReqId}
use Rattle.gs_base.specs.declared.refusal.Refusal.{Refusal}
use Rattle.gs_path.specs.Path.{Path, path_text}
use Rattle.gs_journal.specs.Bodies.{empty_checkpoint}
use Rattle.gs_journal.specs.Records.{opened}
use Rattle.gs_journal.specs.declared.version.Version.{Version}
use Rattle.gs_journal.specs.declared.version.Version.TheVariants.{One, Two}
use Rattle.gs_lease.specs.declared.view.Term.{Term}
use Rattle.gs_master_record.specs.declared.checkpoint.Phase.{Phase}
use Rattle.gs_master_record.specs.declared.checkpoint.Phase.TheVariants as phases
use Rattle.gs_master_record.specs.declared.checkpoint.PreparedView.{PreparedView}
use Rattle.gs_master_record.specs.declared.checkpoint.Reference.{Reference}
use Rattle.gs_master_record.specs.declared.checkpoint.SettledEntry.{SettledEntry}
use Rattle.gs_master_record.specs.declared.entry.Answered.{Answered}
use Rattle.gs_master_record.specs.declared.entry.SettledView.{SettledView}
use Rattle.gs_master_record.specs.Plain.{PlainEdit, Mkdirs, Create, Rename, Hide, Unhide, Remove, AddChunk, Cow, Snapshot, Forget, PlainEntry, Edited, Said, Propose, Settle, Prepare, Finalize, RollbackBegin, RollbackCommit, Whole, Holder, PlainNode, PlainInverse, UndoMkdirs, UndoCreate, UndoRename, UndoHide, UndoUnhide, UndoRemove, UndoAddChunk, UndoCow, UndoSnapshot, UndoForget, PlainOutcome, Accepted, Refused, PlainReply, PlainCheckpoint}

-- ---- fields

abbrev pub number : ℕ → List ℕ
number n = big_bytes 8 n

-- two bytes of length, and the bytes
abbrev pub text : List ℕ → List ℕ
text bytes = big_bytes 2 (length bytes) ++ bytes

abbrev pub path : Path → List ℕ
path p = text (path_text p)

-- four bytes with the number of items, and the items
abbrev pub list : {A : Type 0} → (A → List ℕ) → List A → List ℕ
list item items = big_bytes 4 (length items) ++ flat_map item items

-- bit i is server i
abbrev pub members : List ℕ → List ℕ
members servers = big_bytes 2 (bits_of servers)

abbrev pub request : ReqId → List ℕ
request r = big_bytes 4 r.client.0 ++ number r.number

-- the number, and the detail as its line has it
abbrev pub refusal : Refusal → List ℕ
refusal r = number_of r ∷ text (detail_text r)

-- primary and end; 255 and 0 where there is none
abbrev pub term : Option Term → List ℕ
term None = 255 ∷ number 0
term (Some t) = t.primary ∷ number t.end.0

-- handle, epoch, version, count, members, primary, end
abbrev pub settled : SettledView → List ℕ
settled v = number v.handle ++ number v.view.stamp.epoch ++ number v.view.stamp.version ++ number v.view.count ++ members v.view.members ++ term v.view.term

abbrev pub answered : Answered → List ℕ
answered a = number a.handle ++ members a.members

-- ---- edits

abbrev pub edit_tag : PlainEdit → ℕ
edit_tag (Mkdirs p) = 1
edit_tag (Create p) = 2
edit_tag (Rename from to) = 3
edit_tag (Hide p moment n) = 4
edit_tag (Unhide p) = 5
edit_tag (Remove p) = 6
edit_tag (AddChunk p chunk) = 7
edit_tag (Cow p index old new) = 8
edit_tag (Snapshot from to) = 9
edit_tag (Forget chunks) = 10

abbrev pub edit_fields : PlainEdit → List ℕ
edit_fields (Mkdirs p) = path p
edit_fields (Create p) = path p
edit_fields (Rename from to) = path from ++ path to
edit_fields (Hide p moment n) = path p ++ (number moment ++ number n)
edit_fields (Unhide p) = path p
edit_fields (Remove p) = path p
edit_fields (AddChunk p chunk) = path p ++ number chunk
edit_fields (Cow p index old new) = path p ++ (big_bytes 4 index ++ (number old ++ number new))
edit_fields (Snapshot from to) = path from ++ path to
edit_fields (Forget chunks) = list number chunks

abbrev pub edit : PlainEdit → List ℕ
edit e = edit_tag e ∷ edit_fields e

-- ---- checkpoints

-- 0 for a directory, or 1 and the chunks of a file
abbrev pub node : Option (List ℕ) → List ℕ
node None = 0 ∷ []
node (Some chunks) = 1 ∷ list number chunks

abbrev pub tree_entry : PlainNode → List ℕ
tree_entry e = path e.0 ++ node e.1

abbrev pub inverse_tag : PlainInverse → ℕ
inverse_tag (UndoMkdirs ps) = 1
inverse_tag (UndoCreate ps) = 2
inverse_tag (UndoRename now before) = 3
inverse_tag (UndoHide now before) = 4
inverse_tag (UndoUnhide now before) = 5
inverse_tag (UndoRemove es) = 6
inverse_tag (UndoAddChunk p) = 7
inverse_tag (UndoCow p index old) = 8
inverse_tag (UndoSnapshot p) = 9
inverse_tag (UndoForget chunks) = 10

abbrev pub inverse_fields : PlainInverse → List ℕ
inverse_fields (UndoMkdirs ps) = list path ps
inverse_fields (UndoCreate ps) = list path ps
inverse_fields (UndoRename now before) = path now ++ path before
inverse_fields (UndoHide now before) = path now ++ path before
inverse_fields (UndoUnhide now before) = path now ++ path before
inverse_fields (UndoRemove es) = list tree_entry es
inverse_fields (UndoAddChunk p) = path p
inverse_fields (UndoCow p index old) = path p ++ (big_bytes 4 index ++ number old)
inverse_fields (UndoSnapshot p) = path p
inverse_fields (UndoForget chunks) = list number chunks

abbrev pub inverse : PlainInverse → List ℕ
inverse i = inverse_tag i ∷ inverse_fields i

abbrev pub phase_number : Phase → ℕ
phase_number phases.Ordinary = 0
phase_number phases.Upgrade = 2
phase_number phases.Rolling = 3

abbrev pub phase : Phase → List ℕ
phase p = phase_number p ∷ []

abbrev pub end_number : EpochEnd → ℕ
end_number epoch_ends.Prepare = 1
end_number epoch_ends.Finalize = 2
end_number epoch_ends.Rollback = 3

abbrev pub epoch_end : EpochEnd → List ℕ
epoch_end e = end_number e ∷ []

abbrev pub flag_number : Bool → ℕ
flag_number false = 0
flag_number true = 1

abbrev pub flag : Bool → List ℕ
flag b = flag_number b ∷ []

abbrev pub reference : Reference → List ℕ
reference r = number r.handle ++ big_bytes 4 r.count

abbrev pub settled_entry : SettledEntry → List ℕ
settled_entry s = settled s.settled ++ flag s.is_moving

-- 0 and the answer, or the refusal
abbrev pub outcome : PlainOutcome → List ℕ
outcome (Accepted answer) = 0 ∷ text answer
outcome (Refused r) = refusal r

abbrev pub reply : PlainReply → List ℕ
reply r = request r.to ++ outcome r.outcome

-- holders are told from version 2 on
abbrev pub prepared_view : Version → PreparedView → List ℕ
prepared_view One v = settled v.settled
prepared_view Two v = settled v.settled ++ members v.holders

abbrev pub checkpoint : Version → PlainCheckpoint → List ℕ
checkpoint version c =
    number c.next_handle ++ (number c.next_version ++ (number c.next_hidden ++ (number c.epoch ++ (phase c.phase
    ++ (list epoch_end c.ends ++ (list tree_entry c.tree ++ (list reference c.references ++ (list settled_entry c.settled
    ++ (list reply c.replies ++ (list (prepared_view version) c.prepared ++ list inverse c.inverses))))))))))

-- ---- entries

abbrev pub kind : PlainEntry → ℕ
kind (Edited by e) = 1
kind (Said to r) = 2
kind (Propose chunk version) = 3
kind (Settle v) = 4
kind (Prepare epoch moment chunks) = 5
kind (Finalize epoch) = 6
kind (RollbackBegin epoch) = 7
kind (RollbackCommit epoch answers) = 8
kind (Whole c) = 9
kind (Holder chunk server) = 10

abbrev pub body : Version → PlainEntry → List ℕ
body version (Edited by e) = request by ++ edit e
body version (Said to r) = request to ++ refusal r
body version (Propose chunk n) = number chunk ++ number n
body version (Settle v) = settled v
body version (Prepare epoch moment chunks) = number epoch ++ number moment ++ big_bytes 4 chunks
body version (Finalize epoch) = number epoch
body version (RollbackBegin epoch) = number epoch
body version (RollbackCommit epoch answers) = number epoch ++ list answered answers
body version (Whole c) = checkpoint version c
body version (Holder chunk server) = number chunk ++ server ∷ []

-- the record of an entry in a journal of this version: its kind and its body
abbrev pub encoded : Version → PlainEntry → ℕ × List ℕ
encoded version e = (kind e, body version e)

-- the 26 bytes of a prepare of epoch 1 at moment 0 with no chunks
opened-prepare : opened (encoded Two (Prepare 1 0 0)) ≡
    1 ∷ 0 ∷ 0 ∷ 0 ∷ 20 ∷ 5 ∷ 0 ∷ 0 ∷ 0 ∷ 0 ∷ 0 ∷ 0 ∷ 0 ∷ 1 ∷ 0 ∷ 0 ∷ 0 ∷ 0 ∷ 0 ∷ 0 ∷ 0 ∷ 0 ∷ 0 ∷ 0 ∷ 0 ∷ 0 ∷ []
opened-prepare = refl

-- the 23 bytes of mkdirs of /a by client 1 under number 1
opened-mkdirs : opened (encoded Two (Edited (record { client = record { 0 = 1 }; number = 1 }) (Mkdirs (codes "a" ∷ [])))) ≡
    1 ∷ 0 ∷ 0 ∷ 0 ∷ 17 ∷ 1 ∷ 0 ∷ 0 ∷ 0 ∷ 1 ∷ 0 ∷ 0 ∷ 0 ∷ 0 ∷ 0 ∷ 0 ∷ 0 ∷ 1 ∷ 1 ∷ 0 ∷ 2 ∷ 47 ∷ 97 ∷ []
opened-mkdirs = refl

-- the 15 bytes of server 0 as a holder of chunk 2
opened-holder : opened (encoded Two (Holder 2 0)) ≡ 1 ∷ 0 ∷ 0 ∷ 0 ∷ 9 ∷ 10 ∷ 0 ∷ 0 ∷ 0 ∷ 0 ∷ 0 ∷ 0 ∷ 0 ∷ 2 ∷ 0 ∷ []
opened-holder = refl

-- the 61 bytes of a new store's body: the counters begin at 1, all else is 0 or empty
abbrev pub new_store : PlainCheckpoint
new_store = record {
  next_handle = 1;
  next_version = 1;
  next_hidden = 1;
  epoch = 0;
  phase = phases.Ordinary;
  ends = [];
  tree = [];
  references = [];
  settled = [];
  replies = [];
  prepared = [];
  inverses = [];
}

encoded-new_store : encoded Two (Whole new_store) ≡ (9, empty_checkpoint)
encoded-new_store = refl

length-new_store : length (body Two (Whole new_store)) ≡ 61
length-new_store = refl

-- a prepared view has its holders in two bytes more
length-prepared_view : length (prepared_view Two (record { settled = record { handle = 1; view = record { stamp = record { epoch = 0; version = 1 }; count = 0; members = 0 ∷ []; term = None } }; holders = 1 ∷ [] })) ≡ 45
length-prepared_view = refl
