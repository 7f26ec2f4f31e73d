-- How the parts of a message stand in its line: single spaces between them, a dash where there is nothing.
use Rattle.std.specs.Prelude.{◌++◌, ℕ, Bool, true, false, List, [], ◌∷◌, Option, Some, None, Result, Ok, Err, codes, decimal, if◌then◌else◌}
use Rattle.hex.specs.Hex.{encode_lower}
use Rattle.gs_base.specs.Numbers.{stamp_text}
use Rattle.gs_base.specs.Refusals.{refusal_text}
use Rattle.gs_base.specs.Texts.{list_text, members_text}
use Rattle.gs_base.specs.declared.numbers.Stamp.{Stamp}
use Rattle.gs_base.specs.declared.refusal.Refusal.{Refusal}
use Rattle.gs_lease.specs.declared.view.Term.{Term}
use Rattle.gs_lease.specs.declared.view.View.{View}
use Rattle.gs_path.specs.Path.{path_text}
use Rattle.gs_replica.specs.Copies.{Image, SealedImage}
use Rattle.gs_replica.specs.declared.op.EditOutcome.{EditOutcome}
use Rattle.gs_replica.specs.declared.op.EditOutcome.TheVariants as outcomes
use Rattle.gs_msg.specs.declared.answer.ChunkStatus.{ChunkStatus}
use Rattle.gs_msg.specs.declared.answer.Copied.{Copied}
use Rattle.gs_msg.specs.declared.answer.Phase.{Phase}
use Rattle.gs_msg.specs.declared.answer.Phase.TheVariants as phases
use Rattle.gs_msg.specs.declared.answer.Status.{Status}
use Rattle.gs_msg.specs.declared.answer.Status.TheVariants as statuses
use Rattle.gs_msg.specs.declared.answer.Answer.{Answer}
use Rattle.gs_msg.specs.declared.answer.Answer.TheVariants as answers
use Rattle.gs_msg.specs.declared.body.Given.{Given}
use Rattle.gs_msg.specs.declared.body.Given.TheVariants as given
use Rattle.gs_msg.specs.declared.body.Reported.{Reported}
use Rattle.gs_msg.specs.declared.call.Call.{Call}
use Rattle.gs_msg.specs.declared.call.Call.TheVariants as calls
use Rattle.gs_msg.specs.declared.chunk.Asked.{Asked}
use Rattle.gs_msg.specs.declared.chunk.Asked.TheVariants as asked
use Rattle.gs_msg.specs.declared.lists.ListedName.{ListedName}
use Rattle.gs_msg.specs.declared.op.Op.{Op}
use Rattle.gs_msg.specs.declared.op.Op.TheVariants as ops

abbrev pub flag_text : Bool → List ℕ
flag_text b = if b then codes "true" else codes "false"

-- in hex, in lower case
abbrev pub bytes_text : List ℕ → List ℕ
bytes_text [] = codes "-"
bytes_text (b ∷ bs) = encode_lower (b ∷ bs)

abbrev pub carried_bytes_text : Option (List ℕ) → List ℕ
carried_bytes_text None = codes "-"
carried_bytes_text (Some bytes) = bytes_text bytes

abbrev pub op_text : Op → List ℕ
op_text (ops.Write offset length) = codes "write " ++ (decimal offset ++ (codes " " ++ decimal length))
op_text (ops.Append length) = codes "append " ++ decimal length
op_text ops.Pad = codes "pad"

abbrev pub asked_text : Asked → List ℕ
asked_text (asked.Bytes offset length) = codes "bytes " ++ (decimal offset ++ (codes " " ++ decimal length))
asked_text asked.Length = codes "length"
asked_text (asked.Digest block) = codes "digest " ++ decimal block

abbrev pub outcome_text : EditOutcome → List ℕ
outcome_text outcomes.Written = codes "written"
outcome_text (outcomes.Appended offset) = codes "appended " ++ decimal offset
outcome_text outcomes.Padded = codes "padded"

abbrev pub given_text : Given → List ℕ
given_text (given.Bytes bytes) = codes "bytes " ++ bytes_text bytes
given_text (given.Length length) = codes "length " ++ decimal length
given_text (given.Digest digest) = codes "digest " ++ bytes_text digest

-- bytes and count; the done table stays out of a line
abbrev pub image_text : Image → List ℕ
image_text image = bytes_text image.bytes ++ (codes " " ++ decimal image.count)

-- the stamp that was promised at the seal, and the image
abbrev pub sealed_text : Option SealedImage → List ℕ
sealed_text None = codes "-"
sealed_text (Some sealed) = stamp_text sealed.stamp ++ (codes " " ++ image_text sealed.image)

-- a handle, its promise and whether it is bad
abbrev pub reported_text : Reported → List ℕ
reported_text r = decimal r.handle ++ (codes "/" ++ (stamp_text r.promise ++ (codes "/" ++ flag_text r.is_bad)))

-- the primary and the end
abbrev pub term_text : Option Term → List ℕ
term_text None = codes "-"
term_text (Some term) = decimal term.primary ++ (codes "/" ++ decimal term.end.0)

abbrev pub view_text : View → List ℕ
view_text v = stamp_text v.stamp ++ (codes " " ++ (decimal v.count ++ (codes " " ++ (members_text v.members ++ (codes " " ++ term_text v.term)))))

-- a directory's name has a slash behind it
abbrev pub mark_text : Bool → List ℕ
mark_text true = codes "/"
mark_text false = []

abbrev pub name_text : ListedName → List ℕ
name_text n = n.name ++ mark_text n.is_directory

abbrev pub chunk_status_text : ChunkStatus → List ℕ
chunk_status_text c = decimal c.handle ++ (codes "/" ++ (decimal c.references ++ (codes "/" ++ members_text c.members)))

abbrev pub status_text : Status → List ℕ
status_text statuses.Directory = codes "dir"
status_text (statuses.File chunks) = codes "file " ++ list_text chunk_status_text chunks

abbrev pub phase_text : Phase → List ℕ
phase_text phases.Ordinary = codes "ordinary"
phase_text phases.Preparing = codes "preparing"
phase_text phases.Upgrade = codes "upgrade"
phase_text phases.Rolling = codes "rolling"

abbrev pub copied_text : Option Copied → List ℕ
copied_text None = codes "none"
copied_text (Some copied) = codes "copied " ++ (decimal copied.handle ++ (codes " " ++ decimal copied.server))

-- the stamp under which the client was refused
abbrev pub refused_text : Option Stamp → List ℕ
refused_text None = codes "-"
refused_text (Some stamp) = stamp_text stamp

abbrev pub call_text : Call → List ℕ
call_text (calls.Mkdirs path) = codes "mkdirs " ++ path_text path
call_text (calls.Create path) = codes "create " ++ path_text path
call_text (calls.Rename from to) = codes "rename " ++ (path_text from ++ (codes " " ++ path_text to))
call_text (calls.Delete path recursive) = codes "delete " ++ (path_text path ++ (codes " " ++ flag_text recursive))
call_text (calls.Undelete path) = codes "undelete " ++ path_text path
call_text (calls.Snapshot from to) = codes "snapshot " ++ (path_text from ++ (codes " " ++ path_text to))
call_text (calls.List path) = codes "list " ++ path_text path
call_text (calls.Status path) = codes "status " ++ path_text path
call_text (calls.FindForReading path index) = codes "find-for-reading " ++ (path_text path ++ (codes " " ++ decimal index))
call_text (calls.FindForWriting path index refused) = codes "find-for-writing " ++ (path_text path ++ (codes " " ++ (decimal index ++ (codes " " ++ refused_text refused))))
call_text (calls.Extend path index) = codes "extend " ++ (path_text path ++ (codes " " ++ decimal index))
call_text calls.Scan = codes "scan"
call_text calls.Replicate = codes "replicate"
call_text calls.Query = codes "query"
call_text calls.PrepareBegin = codes "prepare-begin"
call_text calls.PrepareCommit = codes "prepare-commit"
call_text calls.PrepareAbort = codes "prepare-abort"
call_text calls.Finalize = codes "finalize"
call_text calls.RollbackBegin = codes "rollback-begin"
call_text calls.RollbackCommit = codes "rollback-commit"

abbrev pub answer_text : Answer → List ℕ
answer_text answers.Nothing = codes "ok"
answer_text (answers.Path path) = codes "path " ++ path_text path
answer_text answers.Absent = codes "absent"
answer_text (answers.Names names) = codes "names " ++ list_text name_text names
answer_text (answers.Status status) = status_text status
answer_text (answers.Location handle view epoch) = codes "location " ++ (decimal handle ++ (codes " " ++ (view_text view ++ (codes " " ++ decimal epoch))))
answer_text (answers.Scanned removed forgotten) = codes "scanned " ++ (decimal removed ++ (codes " " ++ decimal forgotten))
answer_text (answers.Copied copied) = copied_text copied
answer_text (answers.Epoch epoch) = codes "epoch " ++ decimal epoch
answer_text (answers.Phase phase epoch) = phase_text phase ++ (codes " " ++ decimal epoch)

-- what was accepted, or the line of the refusal
abbrev pub result_text : {A : Type 0} → (A → List ℕ) → Result A Refusal → List ℕ
result_text text (Ok accepted) = text accepted
result_text text (Err refusal) = refusal_text refusal
