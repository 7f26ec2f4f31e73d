-- The commands of a plain tree, by cases on what stands at a path, with the refusals in their order, and what takes each
-- back. A refused command leaves the tree.
use Rattle.std.specs.Prelude.{ℕ, ◌+◌, Bool, true, false, cond, ◌&&◌, ◌||◌, if◌then◌else◌, [], ◌∷◌, ◌++◌, List, map, length, not, nat_lt, slice_set, Option, Some, None, Result, Ok, Err, is_some, is_none}
use Rattle.std.specs.List.{list_any}
use Rattle.std.specs.Option.{option_map}
use Rattle.std.specs.Ordering.{eq_by_cmp}
use Rattle.gs_path.specs.Path.{Name, Path, path_cmp, begins}
use Rattle.gs_path.specs.Element.{hidden_name, hidden_parts, is_hidden}
use Rattle.gs_base.specs.declared.refusal.Refusal.{Refusal}
use Rattle.gs_base.specs.declared.refusal.Refusal.TheVariants.{BadPath, NotFound, Exists, NotADirectory, IsADirectory, IntoItself, IsRoot, NotHidden, Range}
use Rattle.gs_tree.specs.Entry.{Entry, Dir, File}
use Rattle.gs_tree.specs.Plain.{Plain, with_at, without, part_at}

abbrev pub is_dir : {A : Type 0} → Option (Entry A) → Bool
is_dir None = false
is_dir (Some Dir) = true
is_dir (Some (File chunks)) = false

abbrev pub is_file : {A : Type 0} → Option (Entry A) → Bool
is_file None = false
is_file (Some Dir) = false
is_file (Some (File chunks)) = true

abbrev pub same_path : Path → Path → Bool
same_path p q = eq_by_cmp path_cmp p q

abbrev pub parent : Path → Path
parent [] = []
parent (x ∷ []) = []
parent (x ∷ y ∷ p) = x ∷ parent (y ∷ p)

-- the last element, as a path
abbrev pub last : Path → Path
last [] = []
last (x ∷ []) = x ∷ []
last (x ∷ y ∷ p) = last (y ∷ p)

-- whether a file stands at a proper ancestor
abbrev pub file_above : {A : Type 0} → Plain A → Path → Bool
file_above m [] = false
file_above m (x ∷ p) = is_file (m []) || file_above (λ q. m (x ∷ q)) p

-- a directory at p and at each ancestor where nothing stands
abbrev pub with_dirs : {A : Type 0} → Path → Plain A → Plain A
with_dirs p m q = cond (begins q p && is_none (m q)) (Some Dir) (m q)

abbrev pub with_entry : {A : Type 0} → Path → Entry A → Plain A → Plain A
with_entry p e m q = cond (same_path p q) (Some e) (m q)

abbrev pub mkdirs : {A : Type 0} → Plain A → Path → Result (Plain A) Refusal
mkdirs m p =
    if is_file (m p) then Err Exists
    else if file_above m p then Err NotADirectory
    else Ok (with_dirs p m)

-- an entry where nothing stands, with the directories above it that are missing
abbrev pub made : {A : Type 0} → Plain A → Path → Entry A → Result (Plain A) Refusal
made m p e = if file_above m p then Err NotADirectory else Ok (with_entry p e (with_dirs p m))

abbrev pub create : {A : Type 0} → Plain A → Path → Result (Plain A) Refusal
create m p = if is_some (m p) then Err Exists else made m p (File [])

-- each path that begins with `from` has that front replaced
abbrev pub moved : {A : Type 0} → Path → Path → Plain A → Plain A
moved from to m = with_at to (part_at from m) (without from m)

abbrev pub target_of : {A : Type 0} → Plain A → Path → Path → Path
target_of m from to = if is_dir (m to) then to ++ last from else to

-- The tests on a place to which something is moved or copied, and the tree if they pass. `deep` says whether something
-- would have too long a path there.
abbrev pub placed : {A : Type 0} → Bool → Plain A → Path → Path → Plain A → Result (Plain A) Refusal
placed deep m from to new =
    if same_path to from then Err Exists
    else if begins from to then Err IntoItself
    else if is_some (m to) then Err Exists
    else if is_none (m (parent to)) then Err NotFound
    else if is_file (m (parent to)) then Err NotADirectory
    else if deep then Err BadPath
    else Ok new

-- `deep` says whether something would have too long a path after the move
abbrev pub move_to : {A : Type 0} → Bool → Plain A → Path → Path → Result (Plain A) Refusal
move_to deep m from to = placed deep m from to (moved from to m)

-- `is_deep` says of each target whether something would have too long a path under it
abbrev pub rename : {A : Type 0} → (Path → Bool) → Plain A → Path → Path → Result (Plain A) Refusal
rename is_deep m from to =
    if same_path from [] then Err IsRoot
    else if is_none (m from) then Err NotFound
    else move_to (is_deep (target_of m from to)) m from (target_of m from to)

-- where a path is hidden: beside it, under its hidden name
abbrev pub hidden_path : Path → ℕ → ℕ → Path
hidden_path p moment number = parent p ++ map (λ name. hidden_name moment number name) (last p)

abbrev pub hide : {A : Type 0} → Plain A → Path → ℕ → ℕ → Result (Plain A) Refusal
hide m p moment number =
    if same_path p [] then Err IsRoot
    else if is_none (m p) then Err NotFound
    else if is_some (m (hidden_path p moment number)) then Err Exists
    else Ok (moved p (hidden_path p moment number) m)

-- of how many elements the longest front of p is at which something stands, where something stands at the root
abbrev pub stood : {A : Type 0} → Plain A → Path → ℕ
stood m [] = 0
stood m (x ∷ p) = cond (is_none (m (x ∷ []))) 0 (stood (λ q. m (x ∷ q)) p + 1)

-- what stands at a path takes another name in its directory
abbrev pub beside : Path → Name → Path
beside p name = parent p ++ name ∷ []

abbrev pub renamed_beside : {A : Type 0} → Plain A → Path → Name → Result (Plain A) Refusal
renamed_beside m p name =
    if is_none (m p) then Err NotFound
    else if is_some (m (beside p name)) then Err Exists
    else Ok (moved p (beside p name) m)

-- the old name that a hidden name holds
abbrev pub old_name : Path → Option Name
old_name [] = None
old_name (x ∷ []) = option_map (λ parts. parts.2) (hidden_parts x)
old_name (x ∷ y ∷ p) = old_name (y ∷ p)

abbrev pub unhidden : {A : Type 0} → Plain A → Path → Option Name → Result (Plain A) Refusal
unhidden m p None = Err NotHidden
unhidden m p (Some name) = renamed_beside m p name

-- what was hidden goes back to its old name
abbrev pub unhide : {A : Type 0} → Plain A → Path → Result (Plain A) Refusal
unhide m p = unhidden m p (old_name p)

-- what was hidden goes, with all under it
abbrev pub remove : {A : Type 0} → Plain A → Path → Result (Plain A) Refusal
remove m p =
    if is_none (old_name p) then Err NotHidden
    else if is_none (m p) then Err NotFound
    else Ok (without p m)

-- the chunks of a file, and none of anything else
abbrev pub chunks_in : {A : Type 0} → Option (Entry A) → List A
chunks_in None = []
chunks_in (Some Dir) = []
chunks_in (Some (File chunks)) = chunks

abbrev pub with_chunks : {A : Type 0} → Path → List A → Plain A → Plain A
with_chunks p chunks m = with_entry p (File chunks) m

-- one more chunk at the end of a file
abbrev pub add_chunk : {A : Type 0} → Plain A → Path → A → Result (Plain A) Refusal
add_chunk m p chunk =
    if is_none (m p) then Err NotFound
    else if is_dir (m p) then Err IsADirectory
    else Ok (with_chunks p (chunks_in (m p) ++ chunk ∷ []) m)

-- another chunk in the place of one of a file's
abbrev pub set_chunk : {A : Type 0} → Plain A → Path → ℕ → A → Result (Plain A) Refusal
set_chunk m p index chunk =
    if is_none (m p) then Err NotFound
    else if is_dir (m p) then Err IsADirectory
    else if not (nat_lt index (length (chunks_in (m p)))) then Err Range
    else Ok (with_chunks p (slice_set (chunks_in (m p)) index chunk) m)

-- all but what has a hidden element in its path
abbrev pub visible : {A : Type 0} → Plain A → Plain A
visible m q = if list_any is_hidden q then None else m q

-- a copy of what is visible at and under `from`
abbrev pub copied : {A : Type 0} → Path → Path → Plain A → Plain A
copied from to m = with_at to (visible (part_at from m)) m

-- `is_deep` says of the target whether something that is copied would have too long a path under it
abbrev pub snapshot : {A : Type 0} → (Path → Bool) → Plain A → Path → Path → Result (Plain A) Refusal
snapshot is_deep m from to =
    if same_path from [] then Err IsRoot
    else if is_none (m from) then Err NotFound
    else placed (is_deep to) m from to (copied from to m)
