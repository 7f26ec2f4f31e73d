-- Small examples of the edits of rows.
use Rattle.std.specs.Prelude.{◌≡◌, ℕ, [], ◌∷◌, codes, Some, false, Ok, Err, refl}
use Rattle.std.specs.Fmt.{digits}
use Rattle.gs_base.specs.declared.refusal.Refusal.TheVariants.{Exists, NotADirectory, IntoItself, IsRoot, NotHidden, Range}
use Rattle.gs_path.specs.Path.{Name}
use Rattle.gs_path.specs.Element.{twenty_digits}
use Rattle.gs_tree.specs.Entry.{Dir, File}
use Rattle.gs_tree.specs.Find.{Rows, at}
use Rattle.gs_tree.specs.Chunks.{chunks_under, visible_chunks_under}
use Rattle.gs_edit.specs.Table.{table, fronts, moved_path, root_rows}
use Rattle.gs_edit.specs.Edits.{edited, holds_chunk, has_reference}
use Rattle.gs_edit.specs.Names.{is_one}
use Rattle.gs_edit.specs.declared.edit.Edit.TheVariants.{Mkdirs, Create, Rename, Hide, Unhide, Remove, AddChunk, Cow, Snapshot}

abbrev a : Name
a = codes "a"

abbrev b : Name
b = codes "b"

abbrev f : Name
f = codes "f"

-- a/b and the file f
abbrev small : Rows ℕ
small = ([], Dir) ∷ (a ∷ [], Dir) ∷ (a ∷ b ∷ [], Dir) ∷ (f ∷ [], File (7 ∷ [])) ∷ []

fronts_of_two : fronts (a ∷ b ∷ []) ≡ [] ∷ (a ∷ []) ∷ (a ∷ b ∷ []) ∷ []
fronts_of_two = refl

moved_with_its_parent : moved_path (a ∷ []) (f ∷ b ∷ []) (a ∷ b ∷ []) ≡ f ∷ b ∷ b ∷ []
moved_with_its_parent = refl

rows_in_order : table ((f ∷ []) ∷ (b ∷ []) ∷ (a ∷ b ∷ []) ∷ (a ∷ []) ∷ (f ∷ []) ∷ [] ∷ []) (at small) ≡ small
rows_in_order = refl

mkdirs_makes_parents : edited (Mkdirs (b ∷ a ∷ [])) small ≡ Ok (([], Dir) ∷ (a ∷ [], Dir) ∷ (a ∷ b ∷ [], Dir) ∷ (b ∷ [], Dir) ∷ (b ∷ a ∷ [], Dir) ∷ (f ∷ [], File (7 ∷ [])) ∷ [])
mkdirs_makes_parents = refl

create_in_the_root : edited (Create (f ∷ [])) root_rows ≡ Ok (([], Dir) ∷ (f ∷ [], File []) ∷ [])
create_in_the_root = refl

create_below_a_file : edited (Create (f ∷ a ∷ [])) small ≡ Err NotADirectory
create_below_a_file = refl

rename_takes_what_is_under : edited (Rename (a ∷ []) (b ∷ [])) small ≡ Ok (([], Dir) ∷ (b ∷ [], Dir) ∷ (b ∷ b ∷ [], Dir) ∷ (f ∷ [], File (7 ∷ [])) ∷ [])
rename_takes_what_is_under = refl

rename_into_a_directory : edited (Rename (f ∷ []) (a ∷ b ∷ [])) small ≡ Ok (([], Dir) ∷ (a ∷ [], Dir) ∷ (a ∷ b ∷ [], Dir) ∷ (a ∷ b ∷ f ∷ [], File (7 ∷ [])) ∷ [])
rename_into_a_directory = refl

rename_into_itself : edited (Rename (a ∷ []) (a ∷ b ∷ [])) small ≡ Err IntoItself
rename_into_itself = refl

rename_over_a_file : edited (Rename (a ∷ []) (f ∷ [])) small ≡ Err Exists
rename_over_a_file = refl

hide_moves_what_is_under : edited (Hide (a ∷ []) (record { 0 = 5 }) 12) small ≡ Ok (([], Dir) ∷ (codes ".deleted.00000000000000000005.00000000000000000012.a" ∷ [], Dir) ∷ (codes ".deleted.00000000000000000005.00000000000000000012.a" ∷ b ∷ [], Dir) ∷ (f ∷ [], File (7 ∷ [])) ∷ [])
unfolding twenty_digits digits
hide_moves_what_is_under = refl

abbrev hidden_a : Name
hidden_a = codes ".deleted.00000000000000000005.00000000000000000012.a"

unhide_moves_back : edited (Unhide (hidden_a ∷ [])) (([], Dir) ∷ (hidden_a ∷ [], Dir) ∷ (hidden_a ∷ b ∷ [], Dir) ∷ []) ≡ Ok (([], Dir) ∷ (a ∷ [], Dir) ∷ (a ∷ b ∷ [], Dir) ∷ [])
unhide_moves_back = refl

unhide_of_a_plain_name : edited (Unhide (a ∷ [])) small ≡ Err NotHidden
unhide_of_a_plain_name = refl

-- the file f beside a deleted directory with a file of two chunks, one of them twice
abbrev with_hidden : Rows ℕ
with_hidden = ([], Dir) ∷ (hidden_a ∷ [], Dir) ∷ (hidden_a ∷ f ∷ [], File (7 ∷ 8 ∷ 7 ∷ [])) ∷ (f ∷ [], File (7 ∷ [])) ∷ []

remove_takes_what_is_under : edited (Remove (hidden_a ∷ [])) with_hidden ≡ Ok (([], Dir) ∷ (f ∷ [], File (7 ∷ [])) ∷ [])
remove_takes_what_is_under = refl

remove_of_a_plain_name : edited (Remove (f ∷ [])) with_hidden ≡ Err NotHidden
remove_of_a_plain_name = refl

-- each chunk as often as it stood there
removed_references : chunks_under (hidden_a ∷ []) with_hidden ≡ 7 ∷ 8 ∷ 7 ∷ []
removed_references = refl

snapshot_of_a_file : edited (Snapshot (f ∷ []) (b ∷ [])) small ≡ Ok (([], Dir) ∷ (a ∷ [], Dir) ∷ (a ∷ b ∷ [], Dir) ∷ (b ∷ [], File (7 ∷ [])) ∷ (f ∷ [], File (7 ∷ [])) ∷ [])
snapshot_of_a_file = refl

snapshot_of_the_root : edited (Snapshot [] (b ∷ [])) small ≡ Err IsRoot
snapshot_of_the_root = refl

-- a directory with a file, and a deleted one
abbrev half_hidden : Rows ℕ
half_hidden = ([], Dir) ∷ (a ∷ [], Dir) ∷ (a ∷ hidden_a ∷ [], File (8 ∷ [])) ∷ (a ∷ f ∷ [], File (7 ∷ [])) ∷ []

snapshot_leaves_out_what_is_hidden : edited (Snapshot (a ∷ []) (b ∷ [])) half_hidden ≡ Ok (([], Dir) ∷ (a ∷ [], Dir) ∷ (a ∷ hidden_a ∷ [], File (8 ∷ [])) ∷ (a ∷ f ∷ [], File (7 ∷ [])) ∷ (b ∷ [], Dir) ∷ (b ∷ f ∷ [], File (7 ∷ [])) ∷ [])
snapshot_leaves_out_what_is_hidden = refl

copied_references : visible_chunks_under (a ∷ []) half_hidden ≡ 7 ∷ []
copied_references = refl

a_chunk_at_the_end : edited (AddChunk (f ∷ []) 9) small ≡ Ok (([], Dir) ∷ (a ∷ [], Dir) ∷ (a ∷ b ∷ [], Dir) ∷ (f ∷ [], File (7 ∷ 9 ∷ [])) ∷ [])
a_chunk_at_the_end = refl

a_chunk_in_the_place_of_another : edited (Cow (f ∷ []) 0 7 9) small ≡ Ok (([], Dir) ∷ (a ∷ [], Dir) ∷ (a ∷ b ∷ [], Dir) ∷ (f ∷ [], File (9 ∷ [])) ∷ [])
a_chunk_in_the_place_of_another = refl

no_chunk_at_a_place : edited (Cow (f ∷ []) 1 7 9) small ≡ Err Range
no_chunk_at_a_place = refl

another_chunk_at_a_place : holds_chunk (Some 7) 8 ≡ false
another_chunk_at_a_place = refl

a_chunk_without_references : has_reference (Some 0) ≡ false
a_chunk_without_references = refl

one_reference_is_the_last : is_one (Some 2) ≡ false
one_reference_is_the_last = refl
