-- The plain machine over texts: a tree whose files are lists of texts, and perhaps a copy of such a tree, which a rollback puts in its place.
use Rattle.std.specs.Prelude.{[], ◌&&◌, ◌++◌, ◌==◌, ◌∷◌, ◌≡◌, Err, List, None, Ok, Option, Result, Some, codes, if◌then◌else◌, refl, slice_get, unwrap_or, ℕ}
use Rattle.gs_base.specs.declared.refusal.Refusal.{Refusal}
use Rattle.gs_edit.specs.Plain.{add_chunk_rows, create_rows, hide_rows, mkdirs_rows, remove_rows, rename_rows, set_chunk_rows, snapshot_rows, unhide_rows}
use Rattle.gs_path.specs.Path.{Path}
use Rattle.gs_master_record.specs.Plain.{PlainEdit, PlainEntry}
use Rattle.gs_replica.specs.Stands.{edited_bytes}
use Rattle.gs_tree.specs.Entry.{Dir, File}
use Rattle.gs_tree.specs.Find.{Rows, at}
use Rattle.gs_tree.specs.Edits.{chunks_in, same_path}
use Rattle.gs_edit.specs.Machine.{Plain, first, with_tree, prepared, finalized, restored}
use Rattle.gs_replica.specs.declared.op.Op.{Op}
use Rattle.gs_replica.specs.Copies.{and_then}
use Rattle.gs_block.specs.Chunk.{padded, written}
use Rattle.gs_replica.specs.declared.op.Op.TheVariants as ops
use Rattle.gs_base.specs.declared.refusal.Refusal.TheVariants as refusals
use Rattle.gs_master_record.specs.Plain as entries

-- What may be asked of it. Something is hidden under the name of a moment and a number; a file gets an empty text more; the text at a place of a file
-- is edited.
pub data Command : Type 0 where
  Mkdirs : Path → Command
  Create : Path → Command
  Rename : Path → Path → Command
  Hide : Path → ℕ → ℕ → Command
  Unhide : Path → Command
  Remove : Path → Command
  Snapshot : Path → Path → Command
  AddChunk : Path → Command
  EditChunk : Path → ℕ → Op → List ℕ → Command
  Prepare : Command
  Finalize : Command
  Rollback : Command

-- a tree whose files are lists of texts
abbrev pub Texts : Type 0
Texts = Rows (List ℕ)

-- ---- files

abbrev pub texts_at : Texts → Path → List (List ℕ)
texts_at rows p = chunks_in (at rows p)

abbrev pub text_at : Texts → Path → ℕ → List ℕ
text_at rows p index = unwrap_or (slice_get (texts_at rows p) index) []

-- the bytes of a file: its texts one behind the other, each but the last filled with zeros to the size of a chunk
abbrev pub joined : ℕ → List (List ℕ) → List ℕ
joined size [] = []
joined size (text ∷ []) = text
joined size (text ∷ next ∷ texts) = padded size text ++ joined size (next ∷ texts)

abbrev pub file_bytes : ℕ → Texts → Path → List ℕ
file_bytes size rows p = joined size (texts_at rows p)

-- ---- what a command makes

abbrev pub with_rows : Plain (List ℕ) → Result Texts Refusal → Result (Plain (List ℕ)) Refusal
with_rows m (Ok rows) = Ok (with_tree m rows)
with_rows m (Err refusal) = Err refusal

-- a copy is kept where none is
abbrev pub keeps : Plain (List ℕ) → Option Texts → Result (Plain (List ℕ)) Refusal
keeps m None = Ok (prepared m)
keeps m (Some kept) = Err refusals.AlreadyUpgrading

abbrev pub forgets : Plain (List ℕ) → Option Texts → Result (Plain (List ℕ)) Refusal
forgets m None = Err refusals.NotUpgrading
forgets m (Some kept) = Ok (finalized m)

abbrev pub goes_back : Plain (List ℕ) → Option Texts → Result (Plain (List ℕ)) Refusal
goes_back m None = Err refusals.NotUpgrading
goes_back m (Some kept) = Ok (restored m kept)

-- with chunks of this size
abbrev pub commanded : ℕ → Command → Plain (List ℕ) → Result (Plain (List ℕ)) Refusal
commanded size (Mkdirs p) m = with_rows m (mkdirs_rows m.tree p)
commanded size (Create p) m = with_rows m (create_rows m.tree p)
commanded size (Rename from to) m = with_rows m (rename_rows m.tree from to)
commanded size (Hide p moment number) m = with_rows m (hide_rows m.tree p moment number)
commanded size (Unhide p) m = with_rows m (unhide_rows m.tree p)
commanded size (Remove p) m = with_rows m (remove_rows m.tree p)
commanded size (Snapshot from to) m = with_rows m (snapshot_rows m.tree from to)
commanded size (AddChunk p) m = with_rows m (add_chunk_rows m.tree p [])
commanded size (EditChunk p index op bytes) m = with_rows m (set_chunk_rows m.tree p index (edited_bytes size op bytes (text_at m.tree p index)))
commanded size Prepare m = keeps m m.kept
commanded size Finalize m = forgets m m.kept
commanded size Rollback m = goes_back m m.kept

-- one after the other, up to one that is refused
abbrev pub all_commanded : ℕ → List Command → Plain (List ℕ) → Result (Plain (List ℕ)) Refusal
all_commanded size [] m = Ok m
all_commanded size (command ∷ commands) m = and_then (commanded size command m) (λ next. all_commanded size commands next)

-- ---- what the records of a store say of it

-- A chunk that takes another's place has its text, and what is forgotten stands nowhere: neither is a command.
abbrev pub command_of_edit : PlainEdit → Option Command
command_of_edit (entries.Mkdirs p) = Some (Mkdirs p)
command_of_edit (entries.Create p) = Some (Create p)
command_of_edit (entries.Rename from to) = Some (Rename from to)
command_of_edit (entries.Hide p moment number) = Some (Hide p moment number)
command_of_edit (entries.Unhide p) = Some (Unhide p)
command_of_edit (entries.Remove p) = Some (Remove p)
command_of_edit (entries.AddChunk p chunk) = Some (AddChunk p)
command_of_edit (entries.Cow p index old new) = None
command_of_edit (entries.Snapshot from to) = Some (Snapshot from to)
command_of_edit (entries.Forget chunks) = None

abbrev pub command_of : PlainEntry → Option Command
command_of (entries.Edited by edit) = command_of_edit edit
command_of (entries.Prepare epoch moment chunks) = Some Prepare
command_of (entries.Finalize epoch) = Some Finalize
command_of (entries.RollbackCommit epoch answers) = Some Rollback
command_of entry = None

-- all but the edits of texts
abbrev pub but_edit : Command → Option Command
but_edit (EditChunk p index op bytes) = None
but_edit command = Some command

-- an edit of the text at this place
abbrev pub edit_at : Path → ℕ → Command → Option (Op × List ℕ)
edit_at p index (EditChunk q place op bytes) = if same_path p q && (index == place) then Some (op, bytes) else None
edit_at p index command = None

-- ---- Worked, with chunks of 4 bytes

abbrev f : Path
f = codes "f" ∷ []

abbrev d : Path
d = codes "d" ∷ []

-- a file is made and written, an upgrade begins, the file is edited, padded and moved, and all is as it was
abbrev an_upgrade : List Command
an_upgrade =
    Create f ∷ AddChunk f ∷ EditChunk f 0 (ops.Write 1) (7 ∷ 8 ∷ []) ∷ Prepare
    ∷ EditChunk f 0 ops.Append (9 ∷ []) ∷ AddChunk f ∷ Mkdirs d ∷ Rename f d ∷ Rollback ∷ []

what_it_leaves : all_commanded 4 an_upgrade first ≡ Ok (record { tree = ([], Dir) ∷ (f, File ((0 ∷ 7 ∷ 8 ∷ []) ∷ [])) ∷ []; kept = None })
unfolding written
what_it_leaves = refl

-- a snapshot is a copy: what is edited later stays on its side
a_snapshot_is_a_copy :
    all_commanded 4 (Create f ∷ AddChunk f ∷ EditChunk f 0 ops.Append (7 ∷ []) ∷ Snapshot f d ∷ EditChunk f 0 ops.Append (8 ∷ []) ∷ []) first
    ≡ Ok (record { tree = ([], Dir) ∷ (d, File ((7 ∷ []) ∷ [])) ∷ (f, File ((7 ∷ 8 ∷ []) ∷ [])) ∷ []; kept = None })
unfolding written
a_snapshot_is_a_copy = refl

nothing_to_roll_back : commanded 4 Rollback first ≡ Err refusals.NotUpgrading
nothing_to_roll_back = refl

no_place_to_edit : commanded 4 (EditChunk f 0 ops.Pad []) first ≡ Err refusals.NotFound
no_place_to_edit = refl

bytes_of_three_chunks : joined 4 ((1 ∷ 2 ∷ []) ∷ [] ∷ (3 ∷ []) ∷ []) ≡ 1 ∷ 2 ∷ 0 ∷ 0 ∷ 0 ∷ 0 ∷ 0 ∷ 0 ∷ 3 ∷ []
bytes_of_three_chunks = refl
