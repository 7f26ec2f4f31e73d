-- How bytes are read: a reader gives a value and the bytes behind it, or nothing.
use Rattle.std.specs.Prelude.{ℕ, zero, suc, ◌==◌, nat_le, nat_lt, if◌then◌else◌, List, [], ◌∷◌, length, take, drop, Option, Some, None, Result, Ok, Err, Bool, true, false}
use Rattle.std.specs.Int.{Width, w16, w32, w64, byte_len, from_be_bytes}
use Rattle.std.specs.Str.{is_utf8}
use Rattle.gs_base.specs.Members.{servers_where, has_bit}
use Rattle.gs_base.specs.declared.epoch.EpochEnd.{EpochEnd}
use Rattle.gs_base.specs.declared.epoch.EpochEnd.TheVariants as epoch_ends
use Rattle.gs_base.specs.declared.numbers.ReqId.{ReqId}
use Rattle.gs_base.specs.declared.refusal.Refusal.{Refusal}
use Rattle.gs_path.specs.Path.{Path}
use Rattle.gs_path.specs.Rules.{parse_hidden}
use Rattle.gs_lease.specs.declared.view.Term.{Term}
use Rattle.gs_master_record.specs.declared.checkpoint.Phase.{Phase}
use Rattle.gs_master_record.specs.declared.checkpoint.Phase.TheVariants as phases
use Rattle.gs_master_record.specs.declared.checkpoint.PreparedView.{PreparedView}
use Rattle.gs_master_record.specs.declared.checkpoint.Reference.{Reference}
use Rattle.gs_master_record.specs.declared.checkpoint.SettledEntry.{SettledEntry}
use Rattle.gs_master_record.specs.declared.entry.Answered.{Answered}
use Rattle.gs_master_record.specs.declared.entry.SettledView.{SettledView}
use Rattle.gs_master_record.specs.Order.{is_in_order}
use Rattle.gs_master_record.specs.Plain.{PlainEdit, Mkdirs, Create, Rename, Hide, Unhide, Remove, AddChunk, Cow, Snapshot, Forget, PlainEntry, Edited, Said, Propose, Settle, Prepare, Finalize, RollbackBegin, RollbackCommit, Whole, Holder, PlainNode, PlainInverse, UndoMkdirs, UndoCreate, UndoRename, UndoHide, UndoUnhide, UndoRemove, UndoAddChunk, UndoCow, UndoSnapshot, UndoForget, PlainOutcome, Accepted, Refused, PlainReply, PlainCheckpoint}
use Rattle.gs_master_record.specs.inner.Told.{told}
use Rattle.gs_journal.specs.declared.version.Version.{Version}
use Rattle.gs_journal.specs.declared.version.Version.TheVariants.{One, Two}

abbrev pub Reader : Type 0 → Type 0
Reader A = List ℕ → Option (A × List ℕ)

infixl 10 ◌>>=◌
abbrev pub ◌>>=◌ : {A B : Type 0} → Option A → (A → Option B) → Option B
(Some x) >>= f = f x
None >>= f = None

-- one value behind another
abbrev pub both : {A B : Type 0} → Reader A → Reader B → Reader (A × B)
both first second bytes = first bytes >>= λ x. second x.1 >>= λ y. Some ((x.0, y.0), y.1)

-- a value that is made of another, if one is
abbrev pub made : {A B : Type 0} → (A → Option B) → Reader A → Reader B
made of reader bytes = reader bytes >>= λ x. of x.0 >>= λ y. Some (y, x.1)

-- as many values
abbrev pub times : {A : Type 0} → Reader A → ℕ → Reader (List A)
times item zero bytes = Some ([], bytes)
times item (suc n) bytes = item bytes >>= λ x. times item n x.1 >>= λ xs. Some (x.0 ∷ xs.0, xs.1)

-- ---- fields

unfoldable pub byte_at : Reader ℕ
byte_at [] = None
byte_at (b ∷ bytes) = Some (b, bytes)

unfoldable pub number_at : Width → Reader ℕ
number_at w bytes = if nat_lt (length bytes) (byte_len w) then None else Some (from_be_bytes w (take (byte_len w) bytes), drop (byte_len w) bytes)

-- as many bytes
unfoldable pub bytes_at : ℕ → Reader (List ℕ)
bytes_at n bytes = if nat_lt (length bytes) n then None else Some (take n bytes, drop n bytes)

unfoldable pub text_at : Reader (List ℕ)
text_at bytes = number_at w16 bytes >>= λ n. bytes_at n.0 n.1 >>= λ t. (if is_utf8 t.0 then Some t else None)

unfoldable pub list_at : {A : Type 0} → Reader A → Reader (List A)
list_at item bytes = number_at w32 bytes >>= λ n. times item n.0 n.1

abbrev pub handle_of : ℕ → Option ℕ
handle_of n = if nat_le 1 n then Some n else None

unfoldable pub handle_at : Reader ℕ
handle_at = made handle_of (number_at w64)

abbrev pub server_of : ℕ → Option ℕ
server_of n = if nat_lt n 16 then Some n else None

unfoldable pub server_at : Reader ℕ
server_at = made server_of byte_at

abbrev pub members_of : ℕ → Option (List ℕ)
members_of bits = Some (servers_where (has_bit bits))

unfoldable pub members_at : Reader (List ℕ)
members_at = made members_of (number_at w16)

abbrev pub path_in : Result Path Refusal → Option Path
path_in (Ok p) = Some p
path_in (Err e) = None

unfoldable pub path_at : Reader Path
path_at = made (λ text. path_in (parse_hidden text)) text_at

abbrev pub refusal_of : ℕ × List ℕ → Option Refusal
refusal_of x = told x.0 x.1

unfoldable pub refusal_at : Reader Refusal
refusal_at = made refusal_of (both byte_at text_at)

abbrev pub request_of : ℕ × ℕ → Option ReqId
request_of x = Some (record { client = record { 0 = x.0 }; number = x.1 })

unfoldable pub request_at : Reader ReqId
request_at = made request_of (both (number_at w32) (number_at w64))

-- 255 with the end 0 is none
abbrev pub term_of : ℕ × ℕ → Option (Option Term)
term_of x =
    if x.0 == 255 then (if x.1 == 0 then Some None else None) else
    if nat_lt x.0 16 then Some (Some (record { primary = x.0; end = record { 0 = x.1 } })) else None

unfoldable pub term_at : Reader (Option Term)
term_at = made term_of (both byte_at (number_at w64))

abbrev pub settled_of : ℕ × (ℕ × (ℕ × (ℕ × (List ℕ × Option Term)))) → Option SettledView
settled_of x =
    Some (record { handle = x.0; view = record { stamp = record { epoch = x.1.0; version = x.1.1.0 }; count = x.1.1.1.0; members = x.1.1.1.1.0; term = x.1.1.1.1.1 } })

unfoldable pub settled_at : Reader SettledView
settled_at = made settled_of (both handle_at (both (number_at w64) (both (number_at w64) (both (number_at w64) (both members_at term_at)))))

abbrev pub answered_of : ℕ × List ℕ → Option Answered
answered_of x = Some (record { handle = x.0; members = x.1 })

unfoldable pub answered_at : Reader Answered
answered_at = made answered_of (both handle_at members_at)

-- ---- edits, by their tags

unfoldable pub edit_of_chunks_at : ℕ → Reader PlainEdit
edit_of_chunks_at tag bytes =
    if tag == 4 then made (λ x. Some (Hide x.0 x.1.0 x.1.1)) (both path_at (both (number_at w64) (number_at w64))) bytes else
    if tag == 7 then made (λ x. Some (AddChunk x.0 x.1)) (both path_at handle_at) bytes else
    if tag == 8 then made (λ x. Some (Cow x.0 x.1.0 x.1.1.0 x.1.1.1)) (both path_at (both (number_at w32) (both handle_at handle_at))) bytes else
    if tag == 10 then made (λ x. Some (Forget x)) (list_at handle_at) bytes else None

unfoldable pub edit_fields_at : ℕ → Reader PlainEdit
edit_fields_at tag bytes =
    if tag == 1 then made (λ x. Some (Mkdirs x)) path_at bytes else
    if tag == 2 then made (λ x. Some (Create x)) path_at bytes else
    if tag == 3 then made (λ x. Some (Rename x.0 x.1)) (both path_at path_at) bytes else
    if tag == 5 then made (λ x. Some (Unhide x)) path_at bytes else
    if tag == 6 then made (λ x. Some (Remove x)) path_at bytes else
    if tag == 9 then made (λ x. Some (Snapshot x.0 x.1)) (both path_at path_at) bytes else edit_of_chunks_at tag bytes

unfoldable pub edit_at : Reader PlainEdit
edit_at bytes = byte_at bytes >>= λ t. edit_fields_at t.0 t.1

-- ---- checkpoints

abbrev pub node_behind : ℕ → Reader (Option (List ℕ))
node_behind tag bytes = if tag == 0 then Some (None, bytes) else if tag == 1 then made (λ x. Some (Some x)) (list_at handle_at) bytes else None

unfoldable pub node_at : Reader (Option (List ℕ))
node_at bytes = byte_at bytes >>= λ t. node_behind t.0 t.1

unfoldable pub tree_entry_at : Reader PlainNode
tree_entry_at = both path_at node_at

unfoldable pub inverse_of_chunks_at : ℕ → Reader PlainInverse
inverse_of_chunks_at tag bytes =
    if tag == 6 then made (λ x. Some (UndoRemove x)) (list_at tree_entry_at) bytes else
    if tag == 7 then made (λ x. Some (UndoAddChunk x)) path_at bytes else
    if tag == 8 then made (λ x. Some (UndoCow x.0 x.1.0 x.1.1)) (both path_at (both (number_at w32) handle_at)) bytes else
    if tag == 9 then made (λ x. Some (UndoSnapshot x)) path_at bytes else
    if tag == 10 then made (λ x. Some (UndoForget x)) (list_at handle_at) bytes else None

unfoldable pub inverse_fields_at : ℕ → Reader PlainInverse
inverse_fields_at tag bytes =
    if tag == 1 then made (λ x. Some (UndoMkdirs x)) (list_at path_at) bytes else
    if tag == 2 then made (λ x. Some (UndoCreate x)) (list_at path_at) bytes else
    if tag == 3 then made (λ x. Some (UndoRename x.0 x.1)) (both path_at path_at) bytes else
    if tag == 4 then made (λ x. Some (UndoHide x.0 x.1)) (both path_at path_at) bytes else
    if tag == 5 then made (λ x. Some (UndoUnhide x.0 x.1)) (both path_at path_at) bytes else inverse_of_chunks_at tag bytes

unfoldable pub inverse_at : Reader PlainInverse
inverse_at bytes = byte_at bytes >>= λ t. inverse_fields_at t.0 t.1

abbrev pub phase_of : ℕ → Option Phase
phase_of n = if n == 0 then Some phases.Ordinary else if n == 2 then Some phases.Upgrade else if n == 3 then Some phases.Rolling else None

unfoldable pub phase_at : Reader Phase
phase_at = made phase_of byte_at

abbrev pub end_of : ℕ → Option EpochEnd
end_of n = if n == 1 then Some epoch_ends.Prepare else if n == 2 then Some epoch_ends.Finalize else if n == 3 then Some epoch_ends.Rollback else None

unfoldable pub end_at : Reader EpochEnd
end_at = made end_of byte_at

abbrev pub flag_of : ℕ → Option Bool
flag_of n = if n == 0 then Some false else if n == 1 then Some true else None

unfoldable pub flag_at : Reader Bool
flag_at = made flag_of byte_at

abbrev pub reference_of : ℕ × ℕ → Option Reference
reference_of x = Some (record { handle = x.0; count = x.1 })

unfoldable pub reference_at : Reader Reference
reference_at = made reference_of (both handle_at (number_at w32))

abbrev pub settled_entry_of : SettledView × Bool → Option SettledEntry
settled_entry_of x = Some (record { settled = x.0; is_moving = x.1 })

unfoldable pub settled_entry_at : Reader SettledEntry
settled_entry_at = made settled_entry_of (both settled_at flag_at)

abbrev pub outcome_of : ℕ × List ℕ → Option PlainOutcome
outcome_of x = if x.0 == 0 then Some (Accepted x.1) else (told x.0 x.1 >>= λ r. Some (Refused r))

unfoldable pub outcome_at : Reader PlainOutcome
outcome_at = made outcome_of (both byte_at text_at)

abbrev pub reply_of : ReqId × PlainOutcome → Option PlainReply
reply_of x = Some (record { to = x.0; outcome = x.1 })

unfoldable pub reply_at : Reader PlainReply
reply_at = made reply_of (both request_at outcome_at)

abbrev pub unheld : SettledView → Option PreparedView
unheld v = Some (record { settled = v; holders = [] })

abbrev pub held : SettledView × List ℕ → Option PreparedView
held x = Some (record { settled = x.0; holders = x.1 })

unfoldable pub unheld_at : Reader PreparedView
unheld_at = made unheld settled_at

unfoldable pub held_at : Reader PreparedView
held_at = made held (both settled_at members_at)

abbrev pub prepared_at : Version → Reader PreparedView
prepared_at One = unheld_at
prepared_at Two = held_at

unfoldable pub prepared_list_at : Version → Reader (List PreparedView)
prepared_list_at version = list_at (prepared_at version)

abbrev pub Fields : Type 0
Fields = ℕ × (ℕ × (ℕ × (ℕ × (Phase × (List EpochEnd × (List PlainNode × (List Reference × (List SettledEntry × (List PlainReply × (List PreparedView × List PlainInverse))))))))))

abbrev pub checkpoint_of : Fields → Option PlainCheckpoint
checkpoint_of x =
    Some (record {
      next_handle = x.0;
      next_version = x.1.0;
      next_hidden = x.1.1.0;
      epoch = x.1.1.1.0;
      phase = x.1.1.1.1.0;
      ends = x.1.1.1.1.1.0;
      tree = x.1.1.1.1.1.1.0;
      references = x.1.1.1.1.1.1.1.0;
      settled = x.1.1.1.1.1.1.1.1.0;
      replies = x.1.1.1.1.1.1.1.1.1.0;
      prepared = x.1.1.1.1.1.1.1.1.1.1.0;
      inverses = x.1.1.1.1.1.1.1.1.1.1.1;
    })

unfoldable pub parts_at : Version → Reader PlainCheckpoint
parts_at version =
    made checkpoint_of (both (number_at w64) (both (number_at w64) (both (number_at w64) (both (number_at w64) (both phase_at
    (both (list_at end_at) (both (list_at tree_entry_at) (both (list_at reference_at) (both (list_at settled_entry_at)
    (both (list_at reply_at) (both (prepared_list_at version) (list_at inverse_at))))))))))))

abbrev pub ordered : PlainCheckpoint → Option PlainCheckpoint
ordered c = if is_in_order c then Some c else None

unfoldable pub checkpoint_at : Version → Reader PlainCheckpoint
checkpoint_at version = made ordered (parts_at version)

-- ---- entries, by their kinds

unfoldable pub holder_at : Version → Reader PlainEntry
holder_at One bytes = None
holder_at Two bytes = made (λ x. Some (Holder x.0 x.1)) (both handle_at server_at) bytes

-- of the kinds that tell of epochs, checkpoints and holders
unfoldable pub later_entry_at : Version → ℕ → Reader PlainEntry
later_entry_at version kind bytes =
    if kind == 5 then made (λ x. Some (Prepare x.0 x.1.0 x.1.1)) (both (number_at w64) (both (number_at w64) (number_at w32))) bytes else
    if kind == 6 then made (λ x. Some (Finalize x)) (number_at w64) bytes else
    if kind == 7 then made (λ x. Some (RollbackBegin x)) (number_at w64) bytes else
    if kind == 8 then made (λ x. Some (RollbackCommit x.0 x.1)) (both (number_at w64) (list_at answered_at)) bytes else
    if kind == 9 then made (λ x. Some (Whole x)) (checkpoint_at version) bytes else
    if kind == 10 then holder_at version bytes else None

unfoldable pub entry_at : Version → ℕ → Reader PlainEntry
entry_at version kind bytes =
    if kind == 1 then made (λ x. Some (Edited x.0 x.1)) (both request_at edit_at) bytes else
    if kind == 2 then made (λ x. Some (Said x.0 x.1)) (both request_at refusal_at) bytes else
    if kind == 3 then made (λ x. Some (Propose x.0 x.1)) (both handle_at (number_at w64)) bytes else
    if kind == 4 then made (λ x. Some (Settle x)) settled_at bytes else later_entry_at version kind bytes

-- all of the bytes, of which a length of four bytes can tell
abbrev pub whole : {A : Type 0} → Option (A × List ℕ) → Option A
whole None = None
whole (Some x) = if length x.1 == 0 then Some x.0 else None

unfoldable pub entry_of : Version → ℕ → List ℕ → Option PlainEntry
entry_of version kind body = if nat_lt 4294967295 (length body) then None else whole (entry_at version kind body)
