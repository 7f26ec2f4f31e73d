-- The calls of clients: in which order they are refused, which paths they lock, and the calls of the tree.
use Rattle.std.specs.Prelude.{◌≡◌, ◌&&◌, ◌==◌, ◌++◌, ℕ, Bool, true, false, not, nat_lt, List, [], ◌∷◌, map, filter, length, replicate, slice_get, codes, Option, Some, None, is_none, Result, Ok, Err, if◌then◌else◌, refl}
use Rattle.std.specs.List.{list_any}
use Rattle.std.specs.FinMap as fin
use Rattle.gs_base.specs.declared.numbers.Moment.{Moment}
use Rattle.gs_base.specs.declared.numbers.ReqId.{ReqId}
use Rattle.gs_base.specs.declared.refusal.Refusal.{Refusal}
use Rattle.gs_base.specs.declared.refusal.Refusal.TheVariants as refusals
use Rattle.gs_path.specs.Element.{is_hidden}
use Rattle.gs_path.specs.Path.{Path}
use Rattle.gs_path.specs.Rules.{is_within_depth}
use Rattle.gs_refs.specs.Counts.{count_or_zero}
use Rattle.gs_tree.specs.Entry.{Entry, Dir, File}
use Rattle.gs_tree.specs.Find.{Rows, at}
use Rattle.gs_tree.specs.Lists.{made_paths, is_child}
use Rattle.gs_tree.specs.Edits.{same_path, stood, target_of, hidden_path, old_name, chunks_in, last, is_dir}
use Rattle.gs_edit.specs.Plain.{rename_rows, unhide_target}
use Rattle.gs_edit.specs.View.{NamesView}
use Rattle.gs_lease.specs.declared.view.View.{View}
use Rattle.gs_lock.specs.Locks.{stands_in_the_way}
use Rattle.gs_msg.specs.declared.answer.Answer.{Answer}
use Rattle.gs_msg.specs.declared.answer.Answer.TheVariants as answers
use Rattle.gs_msg.specs.declared.answer.ChunkStatus.{ChunkStatus}
use Rattle.gs_msg.specs.declared.answer.Phase.{Phase as Told_phase}
use Rattle.gs_msg.specs.declared.answer.Phase.TheVariants as told_phases
use Rattle.gs_msg.specs.declared.answer.Status.TheVariants as statuses
use Rattle.gs_msg.specs.declared.call.Call.{Call}
use Rattle.gs_msg.specs.declared.call.Call.TheVariants as calls
use Rattle.gs_msg.specs.declared.lists.ListedName.{ListedName}
use Rattle.gs_master_record.specs.Plain.{PlainEdit, Hide, Rename, Edited}
use Rattle.gs_master_record.specs.declared.checkpoint.Phase.{Phase}
use Rattle.gs_master_record.specs.declared.checkpoint.Phase.TheVariants.{Ordinary, Upgrade, Rolling}
use Rattle.gs_master_spec.specs.Chunks.{members_in}
use Rattle.gs_master_spec.specs.Durable.{Durable, is_rolling}
use Rattle.gs_master_spec.specs.State.{State, Plan, Turn, turned, if_room, reply_to, refused, answered, first_of, is_failed}
use Rattle.gs_master_spec.specs.Applied.{view_in}
use Rattle.gs_master_spec.specs.Undoing.{edited_names}

-- ---- the paths of a call, none of which may have more elements than one that is read

abbrev pub paths_of_call : Call → List Path
paths_of_call (calls.Mkdirs path) = path ∷ []
paths_of_call (calls.Create path) = path ∷ []
paths_of_call (calls.Rename from to) = from ∷ to ∷ []
paths_of_call (calls.Delete path recursive) = path ∷ []
paths_of_call (calls.Undelete path) = path ∷ []
paths_of_call (calls.Snapshot from to) = from ∷ to ∷ []
paths_of_call (calls.List path) = path ∷ []
paths_of_call (calls.Status path) = path ∷ []
paths_of_call (calls.FindForReading path index) = path ∷ []
paths_of_call (calls.FindForWriting path index stamp) = path ∷ []
paths_of_call (calls.Extend path index) = path ∷ []
paths_of_call call = []

abbrev pub is_any_deep : Call → Bool
is_any_deep call = list_any (λ path. not (is_within_depth path)) (paths_of_call call)

-- ---- the paths of a call that mustn't be hidden; look-ups for reading and undelete take hidden ones

abbrev pub visible_paths : Call → List Path
visible_paths (calls.Mkdirs path) = path ∷ []
visible_paths (calls.Create path) = path ∷ []
visible_paths (calls.Rename from to) = from ∷ to ∷ []
visible_paths (calls.Delete path recursive) = path ∷ []
visible_paths (calls.Snapshot from to) = from ∷ to ∷ []
visible_paths (calls.FindForWriting path index stamp) = path ∷ []
visible_paths (calls.Extend path index) = path ∷ []
visible_paths call = []

abbrev pub is_any_hidden : Call → Bool
is_any_hidden call = list_any (list_any is_hidden) (visible_paths call)

-- ---- locks: who reads or writes a path reads what is above it

abbrev pub chunks_at : NamesView → Path → List ℕ
chunks_at names path = chunks_in (fin.get names.tree path)

abbrev pub references : NamesView → ℕ → ℕ
references names chunk = count_or_zero (fin.get names.refs chunk)

-- a chunk with two references or more
abbrev pub is_shared : NamesView → ℕ → Bool
is_shared names chunk = nat_lt 1 (references names chunk)

abbrev pub is_shared_in : NamesView → Option ℕ → Bool
is_shared_in names None = false
is_shared_in names (Some chunk) = is_shared names chunk

-- the most chunks of a file
abbrev pub most_chunks : ℕ
most_chunks = 4096

-- a file gets one chunk more at the place behind its last, while it may have another
abbrev pub gets_chunk : Option (Entry ℕ) → ℕ → Bool
gets_chunk None index = false
gets_chunk (Some Dir) index = false
gets_chunk (Some (File chunks)) index = nat_lt index most_chunks && index == length chunks

-- the paths that would be made
abbrev pub missing : NamesView → Path → List Path
missing names path = made_paths path (stood (fin.get names.tree) path)

-- a path is written if it is made, moved, hidden, gets a chunk more or another one, or is the source or the target of a snapshot
abbrev pub writes_of_call : NamesView → Call → List Path
writes_of_call names (calls.Mkdirs path) = missing names path
writes_of_call names (calls.Create path) = path ∷ missing names path
writes_of_call names (calls.Rename from to) = from ∷ target_of (fin.get names.tree) from to ∷ []
writes_of_call names (calls.Delete path recursive) = path ∷ []
writes_of_call names (calls.Undelete path) = path ∷ unhide_target path (old_name path) ∷ []
writes_of_call names (calls.Snapshot from to) = from ∷ to ∷ []
writes_of_call names (calls.FindForWriting path index stamp) = if is_shared_in names (slice_get (chunks_at names path) index) then path ∷ [] else []
writes_of_call names (calls.Extend path index) = if gets_chunk (fin.get names.tree path) index then path ∷ [] else []
writes_of_call names call = []

abbrev pub reads_of_call : Call → List Path
reads_of_call (calls.Mkdirs path) = path ∷ []
reads_of_call (calls.Rename from to) = to ∷ []
reads_of_call (calls.List path) = path ∷ []
reads_of_call (calls.Status path) = path ∷ []
reads_of_call (calls.FindForReading path index) = path ∷ []
reads_of_call (calls.FindForWriting path index stamp) = path ∷ []
reads_of_call (calls.Extend path index) = path ∷ []
reads_of_call call = []

abbrev pub is_locked : State → ReqId → Call → Bool
is_locked s req call = stands_in_the_way s.volatile.locks req (reads_of_call call) (writes_of_call s.durable.names call)

-- ---- the tests that come before a call's own, in their order

-- what is taken while rolling back
abbrev pub is_always_taken : Call → Bool
is_always_taken calls.Query = true
is_always_taken calls.RollbackCommit = true
is_always_taken call = false

-- what isn't taken while an upgrade is prepared: edits, and what begins views
abbrev pub is_work : Call → Bool
is_work (calls.Mkdirs path) = true
is_work (calls.Create path) = true
is_work (calls.Rename from to) = true
is_work (calls.Delete path recursive) = true
is_work (calls.Undelete path) = true
is_work (calls.Snapshot from to) = true
is_work (calls.FindForWriting path index stamp) = true
is_work (calls.Extend path index) = true
is_work calls.Scan = true
is_work calls.Replicate = true
is_work call = false

abbrev pub ordered : Bool → Bool → Bool → Bool → Call → List (Bool × Refusal)
ordered failed rolling preparing locked call =
    (failed, refusals.Device) ∷ (rolling && not (is_always_taken call), refusals.RollingBack) ∷ (preparing && is_work call, refusals.Preparing) ∷ (is_any_deep call, refusals.BadPath) ∷ (locked, refusals.Locked) ∷ (is_any_hidden call, refusals.HiddenName) ∷ []

abbrev pub refused_before : State → ReqId → Call → Option Refusal
refused_before s req call = first_of (ordered (is_failed s.fault) (is_rolling s.durable.phase) s.volatile.is_preparing (is_locked s req call) call)

-- ---- edits of the tree

abbrev pub accept_plan : ReqId → PlainEdit → Answer → Plan
accept_plan req edit answer = record { records = Edited req edit ∷ []; changes = []; sent = reply_to req (Ok answer) ∷ []; said = None }

abbrev pub edit_if : State → ReqId → PlainEdit → Answer → Result NamesView Refusal → Turn
edit_if s req edit answer (Ok names) = if_room s (turned s (accept_plan req edit answer)) (refused s req refusals.Full)
edit_if s req edit answer (Err refusal) = refused s req refusal

abbrev pub edited_by : State → ReqId → PlainEdit → Answer → Turn
edited_by s req edit answer = edit_if s req edit answer (edited_names edit s.durable.names)

-- A rename's record holds the target as it was resolved. It is refused as it was asked: where a directory stands at the target too,
-- resolving that again would lead into it.
abbrev pub renames : State → ReqId → Path → Path → Turn
renames s req from to = edit_if s req (Rename from (target_of (fin.get s.durable.names.tree) from to)) answers.Nothing (edited_names (Rename from to) s.durable.names)

-- an answer without a record
abbrev pub answered_with : State → ReqId → Answer → Turn
answered_with s req answer = turned s (answered s req answer)

abbrev pub is_hidden_at : Path → Bool
is_hidden_at path = list_any is_hidden (last path)

-- a directory has a child whose name isn't hidden
abbrev pub has_visible_child : Rows ℕ → Path → Bool
has_visible_child rows path = list_any (λ r. is_child path r.0 && not (is_hidden_at r.0)) rows

abbrev pub deleted : State → ReqId → Path → Bool → Moment → Turn
deleted s req path recursive moment =
    if same_path path [] then refused s req refusals.IsRoot
    else if is_none (fin.get s.durable.names.tree path) then answered_with s req answers.Absent
    else if not recursive && has_visible_child (fin.entries s.durable.names.tree) path then refused s req refusals.NotEmpty
    else if s.durable.next_hidden == 0 then refused s req refusals.Exhausted
    else edited_by s req (Hide path moment.0 s.durable.next_hidden) (answers.Path (hidden_path path moment.0 s.durable.next_hidden))

-- ---- look-ups

abbrev pub name_of_row : Path × Entry ℕ → List ListedName
name_of_row r = map (λ name. record { name = name; is_directory = is_dir (Some r.1) }) (last r.0)

-- the visible children of a directory
abbrev pub children : Rows ℕ → Path → List (Path × Entry ℕ)
children rows path = filter (λ r. is_child path r.0 && not (is_hidden_at r.0)) rows

abbrev pub names_of_rows : List (Path × Entry ℕ) → List ListedName
names_of_rows [] = []
names_of_rows (r ∷ rows) = name_of_row r ++ names_of_rows rows

abbrev pub listing : Rows ℕ → Path → Option (Entry ℕ) → Result Answer Refusal
listing rows path None = Err refusals.NotFound
listing rows path (Some Dir) = Ok (answers.Names (names_of_rows (children rows path)))
listing rows path (Some (File chunks)) = Ok (answers.Names (name_of_row (path, File chunks)))

abbrev pub chunk_status : Durable → ℕ → ChunkStatus
chunk_status d chunk = record { handle = chunk; references = references d.names chunk; members = members_in (view_in (fin.get d.chunks chunk)) }

abbrev pub status : Durable → Option (Entry ℕ) → Result Answer Refusal
status d None = Err refusals.NotFound
status d (Some Dir) = Ok (answers.Status statuses.Directory)
status d (Some (File chunks)) = Ok (answers.Status (statuses.File (map (chunk_status d) chunks)))

-- the chunk at a place of a file
abbrev pub found_chunk : Option (Entry ℕ) → ℕ → Result ℕ Refusal
found_chunk None index = Err refusals.NotFound
found_chunk (Some Dir) index = Err refusals.IsADirectory
found_chunk (Some (File chunks)) index = chunk_or_range (slice_get chunks index)
  where
    chunk_or_range : Option ℕ → Result ℕ Refusal
    chunk_or_range None = Err refusals.Range
    chunk_or_range (Some chunk) = Ok chunk

abbrev pub location_on : ℕ → ℕ → Option View → Result Answer Refusal
location_on chunk epoch None = Err refusals.NoReplica
location_on chunk epoch (Some view) = Ok (answers.Location chunk view epoch)

-- where a chunk is, by its settled view
abbrev pub location : Durable → Result ℕ Refusal → Result Answer Refusal
location d (Err refusal) = Err refusal
location d (Ok chunk) = location_on chunk d.epoch (view_in (fin.get d.chunks chunk))

abbrev pub looked_up : State → ReqId → Result Answer Refusal → Turn
looked_up s req (Ok answer) = answered_with s req answer
looked_up s req (Err refusal) = refused s req refusal

-- ---- the phase

abbrev pub told_phase : Bool → Phase → Told_phase
told_phase true phase = told_phases.Preparing
told_phase false Ordinary = told_phases.Ordinary
told_phase false Upgrade = told_phases.Upgrade
told_phase false Rolling = told_phases.Rolling

abbrev pub queried : State → ReqId → Turn
queried s req = answered_with s req (answers.Phase (told_phase s.volatile.is_preparing s.durable.phase) s.durable.epoch)

-- ---- examples

abbrev f : Path
f = codes "f" ∷ []

-- the disk's failure first, then the rollback, the prepare, a lock
device_first : first_of (ordered true true true true (calls.Create f)) ≡ Some refusals.Device
device_first = refl

then_rolling_back : first_of (ordered false true true true (calls.Create f)) ≡ Some refusals.RollingBack
then_rolling_back = refl

then_preparing : first_of (ordered false false true true (calls.Create f)) ≡ Some refusals.Preparing
then_preparing = refl

-- of so many elements
abbrev deep : ℕ → Path
deep count = replicate count (codes "f")

then_deep : first_of (ordered false false false true (calls.Create (codes ".deleted.x" ∷ deep 64))) ≡ Some refusals.BadPath
then_deep = refl

then_locked : first_of (ordered false false false true (calls.Create (codes ".deleted.x" ∷ []))) ≡ Some refusals.Locked
then_locked = refl

of_64_it_is_taken : first_of (ordered false false false false (calls.Create (deep 64))) ≡ None
of_64_it_is_taken = refl

a_deep_source : first_of (ordered false false false false (calls.Rename (deep 65) f)) ≡ Some refusals.BadPath
a_deep_source = refl

a_deep_target : first_of (ordered false false false false (calls.Snapshot f (deep 65))) ≡ Some refusals.BadPath
a_deep_target = refl

a_deep_path_is_not_undeleted : first_of (ordered false false false false (calls.Undelete (deep 65))) ≡ Some refusals.BadPath
a_deep_path_is_not_undeleted = refl

nor_looked_up : first_of (ordered false false false false (calls.Status (deep 65))) ≡ Some refusals.BadPath
nor_looked_up = refl

nor_read : first_of (ordered false false false false (calls.FindForReading (deep 65) 0)) ≡ Some refusals.BadPath
nor_read = refl

then_hidden : first_of (ordered false false false false (calls.Create (codes ".deleted.x" ∷ []))) ≡ Some refusals.HiddenName
then_hidden = refl

a_hidden_name_is_looked_up : first_of (ordered false false false false (calls.List (codes ".deleted.x" ∷ []))) ≡ None
a_hidden_name_is_looked_up = refl

look_ups_while_preparing : first_of (ordered false false true false (calls.Status f)) ≡ None
look_ups_while_preparing = refl

no_look_ups_while_rolling_back : first_of (ordered false true false false (calls.Status f)) ≡ Some refusals.RollingBack
no_look_ups_while_rolling_back = refl

a_commit_while_rolling_back : first_of (ordered false true false false calls.RollbackCommit) ≡ None
a_commit_while_rolling_back = refl

abbrev some_rows : Rows ℕ
some_rows = ([], Dir) ∷ (codes ".deleted.x" ∷ [], Dir) ∷ (codes "a" ∷ [], Dir) ∷ (codes "a" ∷ f, File []) ∷ (f, File (7 ∷ [])) ∷ []

visible_children : listing some_rows [] (Some Dir) ≡ Ok (answers.Names (record { name = codes "a"; is_directory = true } ∷ record { name = codes "f"; is_directory = false } ∷ []))
visible_children = refl

a_file_lists_itself : listing some_rows f (Some (File (7 ∷ []))) ≡ Ok (answers.Names (record { name = codes "f"; is_directory = false } ∷ []))
a_file_lists_itself = refl

behind_the_last_chunk : found_chunk (Some (File (7 ∷ []))) 1 ≡ Err refusals.Range
behind_the_last_chunk = refl

no_chunk_of_a_directory : found_chunk (Some Dir) 0 ≡ Err refusals.IsADirectory
no_chunk_of_a_directory = refl

a_chunk_behind_the_last : gets_chunk (Some (File (7 ∷ []))) 1 ≡ true
a_chunk_behind_the_last = refl

none_where_one_stands : gets_chunk (Some (File (7 ∷ []))) 0 ≡ false
none_where_one_stands = refl

a_directory_gets_no_chunk : gets_chunk (Some Dir) 0 ≡ false
a_directory_gets_no_chunk = refl

where_nothing_stands_neither : gets_chunk None 0 ≡ false
where_nothing_stands_neither = refl

a_full_file_neither : (chunks : List ℕ) → gets_chunk (Some (File chunks)) 4096 ≡ false
a_full_file_neither chunks = refl

-- /f goes into the directory /a, where a file of its name stands in these rows and not without that one
into_a_directory : target_of (at some_rows) f (codes "a" ∷ []) ≡ codes "a" ∷ f
into_a_directory = refl

abbrev fewer_rows : Rows ℕ
fewer_rows = ([], Dir) ∷ (codes "a" ∷ [], Dir) ∷ (f, File (7 ∷ [])) ∷ []

resolved_or_not : rename_rows fewer_rows f (codes "a" ∷ []) ≡ rename_rows fewer_rows f (codes "a" ∷ f)
resolved_or_not = refl

refused_as_asked : rename_rows some_rows f (codes "a" ∷ []) ≡ Err refusals.Exists
refused_as_asked = refl
