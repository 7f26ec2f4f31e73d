-- What an edit that a record tells makes of the names, the list of what takes it back, and what undoing that gives.
use Rattle.std.specs.Prelude.{◌≡◌, ◌&&◌, ◌||◌, ◌++◌, ℕ, Bool, true, false, not, nat_le, nat_lt, List, [], ◌∷◌, map, length, codes, Option, Some, None, option_map, option_and_then, is_some, Result, Ok, Err, if◌then◌else◌, refl}
use Rattle.std.specs.Fmt.{digits}
use Rattle.std.specs.List.{list_any}
use Rattle.std.specs.FinMap as fin
use Rattle.gs_base.specs.declared.refusal.Refusal.{Refusal}
use Rattle.gs_path.specs.Path.{Path, begins}
use Rattle.gs_path.specs.Element.{twenty_digits}
use Rattle.gs_refs.specs.Counts.{Counts, taken_each, put_each}
use Rattle.gs_tree.specs.Entry.{Entry, Dir, File, entry_of}
use Rattle.gs_tree.specs.Plain.{after}
use Rattle.gs_tree.specs.Find.{Rows, at}
use Rattle.gs_tree.specs.Edits.{same_path, parent, is_dir, stood, target_of, hidden_path, old_name, chunks_in}
use Rattle.gs_tree.specs.Chunks.{rows_under}
use Rattle.gs_tree.specs.Lists.{made_paths, made_inverse, top_path, is_made, is_removed}
use Rattle.gs_tree.specs.Inverses.{after_undo, first_made}
use Rattle.gs_tree.specs.declared.inverse.TreeInverse.{TreeInverse}
use Rattle.gs_tree.specs.declared.inverse.TreeInverse.TheVariants.{Made, Moved, Removed, Added, Changed, Copied}
use Rattle.gs_edit.specs.Table.{table, paths_of, moved_path}
use Rattle.gs_edit.specs.Plain.{unhide_target}
use Rattle.gs_edit.specs.Edits.{named, with_counts}
use Rattle.gs_edit.specs.Names.{accepted, counts_back}
use Rattle.gs_edit.specs.View.{NamesView, names_of}
use Rattle.gs_edit.specs.declared.edit.Edit.TheVariants as edits
use Rattle.gs_master_order.specs.Order.{by_text}
use Rattle.gs_master_record.specs.Plain.{PlainEdit, Mkdirs, Create, Rename, Hide, Unhide, Remove, AddChunk, Cow, Snapshot, Forget, PlainNode, PlainInverse, UndoMkdirs, UndoCreate, UndoRename, UndoHide, UndoUnhide, UndoRemove, UndoAddChunk, UndoCow, UndoSnapshot, UndoForget, plain_edit}
use Rattle.gs_edit.specs.declared.edit.Edit.{Edit}

-- ---- edits

-- the edit of the names that a record tells
abbrev pub named_plain : PlainEdit → Rows ℕ → Counts → Result (Rows ℕ × Counts) Refusal
named_plain (Mkdirs p) rows refs = named (edits.Mkdirs p) rows refs
named_plain (Create p) rows refs = named (edits.Create p) rows refs
named_plain (Rename from to) rows refs = named (edits.Rename from to) rows refs
named_plain (Hide p moment number) rows refs = named (edits.Hide p (record { 0 = moment }) number) rows refs
named_plain (Unhide p) rows refs = named (edits.Unhide p) rows refs
named_plain (Remove p) rows refs = named (edits.Remove p) rows refs
named_plain (AddChunk p chunk) rows refs = named (edits.AddChunk p chunk) rows refs
named_plain (Cow p index old new) rows refs = named (edits.Cow p index old new) rows refs
named_plain (Snapshot from to) rows refs = named (edits.Snapshot from to) rows refs
named_plain (Forget chunks) rows refs = with_counts (Ok rows) (taken_each refs chunks)

abbrev pub names_from : Result (Rows ℕ × Counts) Refusal → Result NamesView Refusal
names_from (Ok new) = Ok (names_of (fin.from_entries new.0) new.1)
names_from (Err refusal) = Err refusal

-- the names after an edit, or why it is refused
unfoldable pub edited_names : PlainEdit → NamesView → Result NamesView Refusal
edited_names edit names = names_from (named_plain edit (fin.entries names.tree) names.refs)

-- ---- what takes an edit back

-- the inverse of an edit of these rows, as a list
abbrev pub inverse_of : PlainEdit → Rows ℕ → PlainInverse
inverse_of (Mkdirs p) rows = UndoMkdirs (made_paths p (stood (at rows) p))
inverse_of (Create p) rows = UndoCreate (made_paths p (stood (at rows) p))
inverse_of (Rename from to) rows = UndoRename (target_of (at rows) from to) from
inverse_of (Hide p moment number) rows = UndoHide (hidden_path p moment number) p
inverse_of (Unhide p) rows = UndoUnhide (unhide_target p (old_name p)) p
inverse_of (Remove p) rows = UndoRemove (by_text (rows_under p rows))
inverse_of (AddChunk p chunk) rows = UndoAddChunk p
inverse_of (Cow p index old new) rows = UndoCow p index old
inverse_of (Snapshot from to) rows = UndoSnapshot to
inverse_of (Forget chunks) rows = UndoForget chunks

-- ---- undoing

abbrev pub rows_of_nodes : List PlainNode → Rows ℕ
rows_of_nodes nodes = map (λ n. (n.0, entry_of n.1)) nodes

-- rows at and under a path, seen from there
abbrev pub seen_from : Path → Rows ℕ → Rows ℕ
seen_from p rows = map (λ r. (after p r.0, r.1)) rows

abbrev pub planted : Rows ℕ → TreeInverse
planted rows = Removed (top_path rows) (seen_from (top_path rows) rows)

-- what it does to the tree; listing chunks again does nothing there
abbrev pub tree_part : PlainInverse → Option TreeInverse
tree_part (UndoMkdirs paths) = Some (made_inverse paths)
tree_part (UndoCreate paths) = Some (made_inverse paths)
tree_part (UndoRename now before) = Some (Moved before now)
tree_part (UndoHide now before) = Some (Moved before now)
tree_part (UndoUnhide now before) = Some (Moved before now)
tree_part (UndoRemove nodes) = Some (planted (rows_of_nodes nodes))
tree_part (UndoAddChunk p) = Some (Added p)
tree_part (UndoCow p index old) = Some (Changed p index old)
tree_part (UndoSnapshot p) = Some (Copied p)
tree_part (UndoForget chunks) = None

abbrev pub is_blank : Entry ℕ → Bool
is_blank Dir = true
is_blank (File []) = true
is_blank (File (chunk ∷ chunks)) = false

-- these paths and no others stand there, one under the other: directories, and at the end one or a file without chunks
abbrev pub are_blank : Rows ℕ → List Path → Bool
are_blank [] [] = true
are_blank [] (p ∷ paths) = false
are_blank (r ∷ rows) [] = false
are_blank (r ∷ []) (p ∷ []) = same_path r.0 p && is_blank r.1
are_blank (r ∷ []) (p ∷ q ∷ paths) = false
are_blank (r ∷ s ∷ rows) (p ∷ paths) = same_path r.0 p && (is_dir (Some r.1) && are_blank (s ∷ rows) paths)

-- nothing stands at a path or under it, and a directory above it
abbrev pub is_place : Rows ℕ → Path → Bool
is_place rows p = not (list_any (λ r. begins p r.0) rows) && is_dir (at rows (parent p))

-- whether an inverse fits the tree: what it takes out, moves or shortens stands as the edit left it, and its old place is free
abbrev pub fits_rows : TreeInverse → Rows ℕ → Bool
fits_rows (Made path above) rows = nat_le (length path) above || are_blank (rows_under (first_made path above) rows) (made_paths path above)
fits_rows (Moved from to) rows = is_some (at rows to) && (not (begins to from) && is_place rows from)
fits_rows (Removed path node) rows = is_place rows path
fits_rows (Added path) rows = nat_lt 0 (length (chunks_in (at rows path)))
fits_rows (Changed path index chunk) rows = nat_lt index (length (chunks_in (at rows path)))
fits_rows (Copied path) rows = not (same_path path []) && is_some (at rows path)

-- the paths at which something may stand once it is undone
abbrev pub paths_back : TreeInverse → Rows ℕ → List Path
paths_back (Made path above) rows = paths_of rows
paths_back (Moved from to) rows = paths_of rows ++ map (moved_path to from) (paths_of rows)
paths_back (Removed path node) rows = paths_of rows ++ map (λ r. path ++ r.0) node
paths_back (Added path) rows = paths_of rows
paths_back (Changed path index chunk) rows = paths_of rows
paths_back (Copied path) rows = paths_of rows

abbrev pub rows_back : TreeInverse → Rows ℕ → Rows ℕ
rows_back inverse rows = table (paths_back inverse rows) (after_undo inverse (at rows))

-- the tree's part is undone where it fits the tree and the counts
abbrev pub tree_undone : TreeInverse → NamesView → Option NamesView
tree_undone inverse names =
    if fits_rows inverse (fin.entries names.tree)
    then option_map (λ refs. names_of (fin.from_entries (rows_back inverse (fin.entries names.tree))) refs) (counts_back inverse names.tree names.refs)
    else None

abbrev pub part_undone : PlainInverse → Option TreeInverse → NamesView → Option NamesView
part_undone (UndoForget chunks) part names = option_map (names_of names.tree) (accepted (put_each names.refs chunks))
part_undone inverse None names = None
part_undone inverse (Some part) names = tree_undone part names

-- A list is one of an inverse: the paths that an edit makes are each the parent of the next, and what a removal takes out is a
-- first entry and what stands below its path.
abbrev pub is_of_one : PlainInverse → Bool
is_of_one (UndoMkdirs paths) = is_made paths
is_of_one (UndoCreate paths) = is_made paths
is_of_one (UndoRename now before) = true
is_of_one (UndoHide now before) = true
is_of_one (UndoUnhide now before) = true
is_of_one (UndoRemove nodes) = is_removed (rows_of_nodes nodes)
is_of_one (UndoAddChunk p) = true
is_of_one (UndoCow p index old) = true
is_of_one (UndoSnapshot p) = true
is_of_one (UndoForget chunks) = true

abbrev pub undone_if_it_fits : PlainInverse → NamesView → Option NamesView
undone_if_it_fits inverse names = part_undone inverse (tree_part inverse) names

-- the names once an inverse is undone, if it is one and fits them
unfoldable pub undone : PlainInverse → NamesView → Option NamesView
undone inverse names = if is_of_one inverse then undone_if_it_fits inverse names else None

-- the last inverse first
abbrev pub all_undone : List PlainInverse → NamesView → Option NamesView
all_undone [] names = Some names
all_undone (inverse ∷ inverses) names = option_and_then (undone inverse) (all_undone inverses names)

-- ---- examples: a directory a with the file f of two chunks, and an empty file g

abbrev a : Path
a = codes "a" ∷ []

abbrev f : Path
f = codes "a" ∷ codes "f" ∷ []

abbrev g : Path
g = codes "g" ∷ []

abbrev hidden_a : Path
hidden_a = codes ".deleted.00000000000000000005.00000000000000000012.a" ∷ []

abbrev some_rows : Rows ℕ
some_rows = ([], Dir) ∷ (a, Dir) ∷ (f, File (7 ∷ 8 ∷ [])) ∷ (g, File []) ∷ []

abbrev with_hidden : Rows ℕ
with_hidden = ([], Dir) ∷ (hidden_a, Dir) ∷ (codes ".deleted.00000000000000000005.00000000000000000012.a" ∷ codes "f" ∷ [], File (7 ∷ 8 ∷ [])) ∷ (g, File []) ∷ []

two_made : inverse_of (Create (codes "a" ∷ codes "b" ∷ codes "c" ∷ [])) some_rows ≡ UndoCreate ((codes "a" ∷ codes "b" ∷ []) ∷ (codes "a" ∷ codes "b" ∷ codes "c" ∷ []) ∷ [])
two_made = refl

none_made : inverse_of (Mkdirs a) some_rows ≡ UndoMkdirs []
none_made = refl

renamed_into_a_directory : inverse_of (Rename g a) some_rows ≡ UndoRename (codes "a" ∷ codes "g" ∷ []) g
renamed_into_a_directory = refl

hidden : inverse_of (Hide a 5 12) some_rows ≡ UndoHide hidden_a a
unfolding twenty_digits digits
hidden = refl

removed : inverse_of (Remove a) some_rows ≡ UndoRemove ((a, None) ∷ (f, Some (7 ∷ 8 ∷ [])) ∷ [])
removed = refl

hidden_fits : fits_rows (Moved a hidden_a) with_hidden ≡ true
hidden_fits = refl

back_from_hidden : rows_back (Moved a hidden_a) with_hidden ≡ some_rows
back_from_hidden = refl

-- its old place is taken
hidden_no_more : fits_rows (Moved a hidden_a) (with_hidden ++ (a, Dir) ∷ []) ≡ false
hidden_no_more = refl

back_from_removed : rows_back (planted (rows_of_nodes ((a, None) ∷ (f, Some (7 ∷ 8 ∷ [])) ∷ []))) (([], Dir) ∷ (g, File []) ∷ []) ≡ some_rows
back_from_removed = refl

made_fits : fits_rows (Made g 0) some_rows ≡ true
made_fits = refl

-- chunks have come since
made_no_more : fits_rows (Made f 1) some_rows ≡ false
made_no_more = refl

back_from_made : rows_back (Made g 0) some_rows ≡ ([], Dir) ∷ (a, Dir) ∷ (f, File (7 ∷ 8 ∷ [])) ∷ []
back_from_made = refl

back_from_added : rows_back (Added f) some_rows ≡ ([], Dir) ∷ (a, Dir) ∷ (f, File (7 ∷ [])) ∷ (g, File []) ∷ []
back_from_added = refl

-- /c/d doesn't stand in /a
no_edit_makes_these : is_of_one (UndoMkdirs ((codes "a" ∷ []) ∷ (codes "c" ∷ codes "d" ∷ []) ∷ [])) ≡ false
no_edit_makes_these = refl

-- nothing stood at /a/b
no_removal_takes_these_out : is_of_one (UndoRemove ((codes "a" ∷ [], None) ∷ (codes "a" ∷ codes "b" ∷ codes "c" ∷ [], None) ∷ [])) ≡ false
no_removal_takes_these_out = refl

-- the edit that a record tells of names is the edit itself
abbrev pub EditsAsTold : Type 0
EditsAsTold = (edit : Edit) (rows : Rows ℕ) (refs : Counts) → named_plain (plain_edit edit) rows refs ≡ named edit rows refs

pub edits_as_told : EditsAsTold
edits_as_told (edits.Mkdirs p) rows refs = refl
edits_as_told (edits.Create p) rows refs = refl
edits_as_told (edits.Rename from to) rows refs = refl
edits_as_told (edits.Hide p moment number) rows refs = refl
edits_as_told (edits.Unhide p) rows refs = refl
edits_as_told (edits.Remove p) rows refs = refl
edits_as_told (edits.AddChunk p chunk) rows refs = refl
edits_as_told (edits.Cow p index old new) rows refs = refl
edits_as_told (edits.Snapshot from to) rows refs = refl
edits_as_told (edits.Forget chunks) rows refs = refl
