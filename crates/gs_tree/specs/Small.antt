-- Small examples of the edits.
use Rattle.std.specs.Prelude.{◌≡◌, ℕ, List, [], ◌∷◌, map, replicate, codes, Option, Some, None, Ok, Err, Result, true, false, refl}
use Rattle.std.specs.Fmt.{digits}
use Rattle.gs_base.specs.declared.refusal.Refusal.{Refusal}
use Rattle.gs_base.specs.declared.refusal.Refusal.TheVariants.{NotFound, Exists, NotADirectory, IsADirectory, IntoItself, IsRoot, BadPath, NotHidden, Range}
use Rattle.gs_path.specs.Path.{Name, Path}
use Rattle.gs_path.specs.Element.{twenty_digits}
use Rattle.gs_tree.specs.Entry.{Entry, Dir, File}
use Rattle.gs_tree.specs.Plain.{Plain}
use Rattle.gs_tree.specs.Find.{Rows, at, is_too_deep, is_copied_too_deep}
use Rattle.gs_tree.specs.Edits.{mkdirs, create, rename, hide, unhide, remove, add_chunk, set_chunk, snapshot, stood}
use Rattle.gs_tree.specs.Inverses.{after_undo}
use Rattle.gs_tree.specs.Listing.{shown, is_visible_but}
use Rattle.gs_tree.specs.Places.{given_up, returned, without_place}
use Rattle.gs_tree.specs.declared.inverse.TreeInverse.TheVariants.{Made, Moved, Removed, Added}

-- what an edit leaves at these paths
abbrev look : Result (Plain ℕ) Refusal → List Path → Result (List (Option (Entry ℕ))) Refusal
look (Ok m) paths = Ok (map m paths)
look (Err e) paths = Err e

abbrev a : Name
a = codes "a"

abbrev b : Name
b = codes "b"

abbrev f : Name
f = codes "f"

-- a/b and the file f
abbrev small_rows : Rows ℕ
small_rows = ([], Dir) ∷ (a ∷ [], Dir) ∷ (a ∷ b ∷ [], Dir) ∷ (f ∷ [], File (7 ∷ [])) ∷ []

abbrev small : Plain ℕ
small = at small_rows

abbrev renamed : Path → Path → Result (Plain ℕ) Refusal
renamed from to = rename (is_too_deep small_rows from) small from to

mkdirs_makes_parents : look (mkdirs small (a ∷ f ∷ b ∷ [])) ((a ∷ f ∷ []) ∷ (a ∷ f ∷ b ∷ []) ∷ (a ∷ b ∷ []) ∷ (b ∷ []) ∷ []) ≡ Ok (Some Dir ∷ Some Dir ∷ Some Dir ∷ None ∷ [])
mkdirs_makes_parents = refl

mkdirs_of_a_directory : look (mkdirs small (a ∷ [])) ((a ∷ []) ∷ (a ∷ b ∷ []) ∷ []) ≡ Ok (Some Dir ∷ Some Dir ∷ [])
mkdirs_of_a_directory = refl

mkdirs_of_a_file : look (mkdirs small (f ∷ [])) [] ≡ Err Exists
mkdirs_of_a_file = refl

create_makes_parents : look (create small (b ∷ f ∷ [])) ((b ∷ []) ∷ (b ∷ f ∷ []) ∷ []) ≡ Ok (Some Dir ∷ Some (File []) ∷ [])
create_makes_parents = refl

create_below_a_file : look (create small (f ∷ b ∷ [])) [] ≡ Err NotADirectory
create_below_a_file = refl

create_of_a_directory : look (create small (a ∷ [])) [] ≡ Err Exists
create_of_a_directory = refl

rename_takes_what_is_under : look (renamed (a ∷ []) (b ∷ [])) ((a ∷ []) ∷ (a ∷ b ∷ []) ∷ (b ∷ []) ∷ (b ∷ b ∷ []) ∷ []) ≡ Ok (None ∷ None ∷ Some Dir ∷ Some Dir ∷ [])
rename_takes_what_is_under = refl

rename_into_a_directory : look (renamed (f ∷ []) (a ∷ [])) ((f ∷ []) ∷ (a ∷ f ∷ []) ∷ (a ∷ []) ∷ []) ≡ Ok (None ∷ Some (File (7 ∷ [])) ∷ Some Dir ∷ [])
rename_into_a_directory = refl

rename_into_itself : look (renamed (a ∷ []) (a ∷ b ∷ [])) [] ≡ Err IntoItself
rename_into_itself = refl

rename_of_the_root : look (renamed [] (b ∷ [])) [] ≡ Err IsRoot
rename_of_the_root = refl

rename_of_nothing : look (renamed (b ∷ []) (a ∷ [])) [] ≡ Err NotFound
rename_of_nothing = refl

rename_below_a_file : look (renamed (a ∷ []) (f ∷ b ∷ [])) [] ≡ Err NotADirectory
rename_below_a_file = refl

-- the file f, a directory with a file in it, and a directory of 63 elements
abbrev deep_rows : Rows ℕ
deep_rows =
    ([], Dir) ∷ (replicate 63 a, Dir) ∷ (b ∷ [], Dir) ∷ (b ∷ f ∷ [], File []) ∷ (f ∷ [], File []) ∷ []

rename_to_64_elements : look (rename (is_too_deep deep_rows (f ∷ [])) (at deep_rows) (f ∷ []) (replicate 64 a)) (replicate 64 a ∷ []) ≡ Ok (Some (File []) ∷ [])
rename_to_64_elements = refl

rename_to_65_elements : look (rename (is_too_deep deep_rows (b ∷ [])) (at deep_rows) (b ∷ []) (replicate 64 a)) [] ≡ Err BadPath
rename_to_65_elements = refl

hide_moves_beside : look (hide small (a ∷ b ∷ []) 5 12) ((a ∷ b ∷ []) ∷ (a ∷ codes ".deleted.00000000000000000005.00000000000000000012.b" ∷ []) ∷ []) ≡ Ok (None ∷ Some Dir ∷ [])
unfolding twenty_digits digits
hide_moves_beside = refl

hide_of_the_root : look (hide small [] 0 0) [] ≡ Err IsRoot
hide_of_the_root = refl

stood_of_two : stood small (a ∷ f ∷ b ∷ []) ≡ 1
stood_of_two = refl

stood_of_all : stood small (a ∷ b ∷ []) ≡ 2
stood_of_all = refl

-- of a/b, the first element stood
made_taken_back : map (after_undo (Made (a ∷ b ∷ []) 1) small) ((a ∷ []) ∷ (a ∷ b ∷ []) ∷ (f ∷ []) ∷ []) ≡ Some Dir ∷ None ∷ Some (File (7 ∷ [])) ∷ []
made_taken_back = refl

moved_taken_back : map (after_undo (Moved (b ∷ []) (a ∷ [])) small) ((b ∷ []) ∷ (b ∷ b ∷ []) ∷ (a ∷ []) ∷ []) ≡ Some Dir ∷ Some Dir ∷ None ∷ []
moved_taken_back = refl

hidden_names_are_not_shown : shown {A = ℕ} (codes ".deleted.x") (Some Dir) ≡ None
hidden_names_are_not_shown = refl

files_are_shown : shown f (small (f ∷ [])) ≡ Some false
files_are_shown = refl

-- a file with two chunks in a directory beside what was deleted there, and a deleted directory
abbrev hidden_f : Name
hidden_f = codes ".deleted.00000000000000000005.00000000000000000012.f"

abbrev full_rows : Rows ℕ
full_rows =
    ([], Dir) ∷ (a ∷ [], Dir) ∷ (a ∷ hidden_f ∷ [], File (9 ∷ [])) ∷ (a ∷ b ∷ [], File (7 ∷ 8 ∷ [])) ∷ (hidden_f ∷ [], Dir)
    ∷ (hidden_f ∷ a ∷ [], File []) ∷ []

abbrev full : Plain ℕ
full = at full_rows

unhide_moves_back : look (unhide full (a ∷ hidden_f ∷ [])) ((a ∷ hidden_f ∷ []) ∷ (a ∷ f ∷ []) ∷ []) ≡ Ok (None ∷ Some (File (9 ∷ [])) ∷ [])
unhide_moves_back = refl

unhide_takes_what_is_under : look (unhide full (hidden_f ∷ [])) ((hidden_f ∷ a ∷ []) ∷ (f ∷ a ∷ []) ∷ []) ≡ Ok (None ∷ Some (File []) ∷ [])
unhide_takes_what_is_under = refl

unhide_of_a_plain_name : look (unhide full (a ∷ b ∷ [])) [] ≡ Err NotHidden
unhide_of_a_plain_name = refl

unhide_of_nothing : look (unhide small (hidden_f ∷ [])) [] ≡ Err NotFound
unhide_of_nothing = refl

unhide_over_a_file : look (unhide (at ((hidden_f ∷ [], Dir) ∷ small_rows)) (hidden_f ∷ [])) [] ≡ Err Exists
unhide_over_a_file = refl

remove_takes_what_is_under : look (remove full (hidden_f ∷ [])) ((hidden_f ∷ []) ∷ (hidden_f ∷ a ∷ []) ∷ (a ∷ []) ∷ []) ≡ Ok (None ∷ None ∷ Some Dir ∷ [])
remove_takes_what_is_under = refl

remove_of_a_plain_name : look (remove full (a ∷ [])) [] ≡ Err NotHidden
remove_of_a_plain_name = refl

removed_put_back : map (after_undo (Removed (b ∷ []) (([], Dir) ∷ (f ∷ [], File (3 ∷ [])) ∷ [])) small) ((b ∷ []) ∷ (b ∷ f ∷ []) ∷ (f ∷ []) ∷ []) ≡ Some Dir ∷ Some (File (3 ∷ [])) ∷ Some (File (7 ∷ [])) ∷ []
removed_put_back = refl

add_chunk_at_the_end : look (add_chunk full (a ∷ b ∷ []) 3) ((a ∷ b ∷ []) ∷ (a ∷ []) ∷ []) ≡ Ok (Some (File (7 ∷ 8 ∷ 3 ∷ [])) ∷ Some Dir ∷ [])
add_chunk_at_the_end = refl

add_chunk_to_a_directory : look (add_chunk full (a ∷ []) 3) [] ≡ Err IsADirectory
add_chunk_to_a_directory = refl

set_chunk_in_the_middle : look (set_chunk full (a ∷ b ∷ []) 0 3) ((a ∷ b ∷ []) ∷ []) ≡ Ok (Some (File (3 ∷ 8 ∷ [])) ∷ [])
set_chunk_in_the_middle = refl

set_chunk_past_the_end : look (set_chunk full (a ∷ b ∷ []) 2 3) [] ≡ Err Range
set_chunk_past_the_end = refl

added_taken_back : map (after_undo (Added (a ∷ b ∷ [])) full) ((a ∷ b ∷ []) ∷ []) ≡ Some (File (7 ∷ [])) ∷ []
added_taken_back = refl

abbrev snapped : Path → Path → Result (Plain ℕ) Refusal
snapped from to = snapshot (is_copied_too_deep full_rows from) full from to

snapshot_leaves_out_what_is_hidden : look (snapped (a ∷ []) (b ∷ [])) ((b ∷ []) ∷ (b ∷ b ∷ []) ∷ (b ∷ hidden_f ∷ []) ∷ (a ∷ b ∷ []) ∷ []) ≡ Ok (Some Dir ∷ Some (File (7 ∷ 8 ∷ [])) ∷ None ∷ Some (File (7 ∷ 8 ∷ [])) ∷ [])
snapshot_leaves_out_what_is_hidden = refl

snapshot_onto_itself : look (snapped (a ∷ []) (a ∷ [])) [] ≡ Err Exists
snapshot_onto_itself = refl

snapshot_under_itself : look (snapped (a ∷ []) (a ∷ f ∷ f ∷ [])) [] ≡ Err IntoItself
snapshot_under_itself = refl

snapshot_without_a_parent : look (snapped (a ∷ []) (f ∷ f ∷ [])) [] ≡ Err NotFound
snapshot_without_a_parent = refl

snapshot_below_a_file : look (snapped (hidden_f ∷ []) (a ∷ b ∷ f ∷ [])) [] ≡ Err NotADirectory
snapshot_below_a_file = refl

-- what is hidden is not too deep, as it isn't copied
snapshot_to_64_elements : is_copied_too_deep {A = ℕ} ((f ∷ [], Dir) ∷ (f ∷ hidden_f ∷ [], Dir) ∷ []) (f ∷ []) (replicate 64 a) ≡ false
snapshot_to_64_elements = refl

snapshot_to_65_elements : is_copied_too_deep {A = ℕ} ((f ∷ [], Dir) ∷ (f ∷ a ∷ [], Dir) ∷ []) (f ∷ []) (replicate 64 a) ≡ true
snapshot_to_65_elements = refl

-- b with a file in it, which stood at a, and the empty directory that keeps its place
abbrev placed : Plain ℕ
placed = at (([], Dir) ∷ (a ∷ [], Dir) ∷ (b ∷ [], Dir) ∷ (b ∷ f ∷ [], File (7 ∷ [])) ∷ [])

the_place_is_given_up : map (given_up (Ok (Moved (a ∷ []) (b ∷ []))) placed) ((a ∷ []) ∷ (b ∷ []) ∷ (b ∷ f ∷ []) ∷ []) ≡ None ∷ Some Dir ∷ Some (File (7 ∷ [])) ∷ []
the_place_is_given_up = refl

no_place_of_a_refusal : map (given_up (Err NotFound) placed) ((a ∷ []) ∷ []) ≡ Some Dir ∷ []
no_place_of_a_refusal = refl

place_taken_out : map (without_place (b ∷ []) placed) ((a ∷ []) ∷ (b ∷ []) ∷ (b ∷ f ∷ []) ∷ []) ≡ Some Dir ∷ None ∷ None ∷ []
place_taken_out = refl

place_of_the_root : map (without_place [] placed) ([] ∷ (b ∷ f ∷ []) ∷ []) ≡ Some Dir ∷ Some (File (7 ∷ [])) ∷ []
place_of_the_root = refl

returned_to_its_place : map (returned (a ∷ []) (b ∷ []) placed) ((a ∷ []) ∷ (a ∷ f ∷ []) ∷ (b ∷ []) ∷ (b ∷ f ∷ []) ∷ []) ≡ Some Dir ∷ Some (File (7 ∷ [])) ∷ None ∷ None ∷ []
returned_to_its_place = refl

returned_to_no_place : map (returned (f ∷ []) (b ∷ []) placed) ((f ∷ []) ∷ (b ∷ f ∷ []) ∷ []) ≡ None ∷ Some (File (7 ∷ [])) ∷ []
returned_to_no_place = refl

returned_above_itself : map (returned (b ∷ []) (b ∷ f ∷ []) placed) ((b ∷ []) ∷ (b ∷ f ∷ []) ∷ []) ≡ Some Dir ∷ Some (File (7 ∷ [])) ∷ []
returned_above_itself = refl

other_names_are_visible : map (is_visible_but a) (a ∷ b ∷ hidden_f ∷ []) ≡ false ∷ true ∷ false ∷ []
other_names_are_visible = refl
