-- Inverses of edits as plain lists.
use Rattle.std.specs.Prelude.{◌≡◌, ◌⊎◌, ℕ, Bool, true, false, List, [], ◌∷◌, drop, codes, Vec, Result, Ok, Err, is_some, refl}
use Rattle.std.specs.List.{list_all}
use Rattle.std.specs.declared.alloc.Global.{Global}
use Rattle.gs_base.specs.declared.refusal.Refusal.{Refusal}
use Rattle.gs_base.specs.declared.refusal.Refusal.TheVariants.{Memory, BadLine}
use Rattle.std.specs.List.Sorted.{IsSortedByKey}
use Rattle.gs_path.specs.Path.{Path, text_cmp}
use Rattle.gs_tree.specs.Plain.{Same}
use Rattle.gs_tree.specs.Find.{Rows, at}
use Rattle.gs_tree.specs.Build.{rows_of_entries, path_of_entry, is_short, goes_deeper, IsSound}
use Rattle.gs_tree.specs.Lists.{made_paths, is_made, is_some_made, made_inverse, is_removed, PutsBack, IsPartList, top_path}
use Rattle.gs_tree.specs.declared.inverse.TreeInverse.{TreeInverse}
use Rattle.gs_tree.specs.declared.inverse.TreeInverse.TheVariants.{Made, Moved, Removed, Added, Changed, Copied}
use Rattle.gs_edit.specs.View.{NamesView}
use Rattle.gs_edit.specs.Names.{FitsTree, tree_after, counts_after}
use Rattle.gs_edit.specs.declared.edit.Edit.{Edit}
use Rattle.gs_edit.specs.declared.edit.Edit.TheVariants as edits
use Rattle.gs_edit.specs.declared.edit.Inverse.{Inverse}
use Rattle.gs_edit.specs.declared.edit.Inverse.TheVariants as inverses
use Rattle.gs_edit.specs.declared.listed.EditKind.{EditKind}
use Rattle.gs_edit.specs.declared.listed.EditKind.TheVariants as kinds
use Rattle.gs_edit.specs.declared.listed.ListedInverse.{ListedInverse}
use Rattle.gs_edit.specs.declared.listed.ListedInverse.TheVariants as lists

abbrev pub kind_of : Edit → EditKind
kind_of (edits.Mkdirs p) = kinds.Mkdirs
kind_of (edits.Create p) = kinds.Create
kind_of (edits.Rename from to) = kinds.Rename
kind_of (edits.Hide p moment number) = kinds.Hide
kind_of (edits.Unhide p) = kinds.Unhide
kind_of (edits.Remove p) = kinds.Remove
kind_of (edits.AddChunk p chunk) = kinds.AddChunk
kind_of (edits.Cow p index old new) = kinds.Cow
kind_of (edits.Snapshot from to) = kinds.Snapshot
kind_of (edits.Forget chunks) = kinds.Forget

abbrev pub kind_of_list : ListedInverse → EditKind
kind_of_list (lists.Mkdirs paths) = kinds.Mkdirs
kind_of_list (lists.Create paths) = kinds.Create
kind_of_list (lists.Rename to from) = kinds.Rename
kind_of_list (lists.Hide to from) = kinds.Hide
kind_of_list (lists.Unhide to from) = kinds.Unhide
kind_of_list (lists.Remove entries) = kinds.Remove
kind_of_list (lists.AddChunk p) = kinds.AddChunk
kind_of_list (lists.Cow p index chunk) = kinds.Cow
kind_of_list (lists.Snapshot p) = kinds.Snapshot
kind_of_list (lists.Forget chunks) = kinds.Forget

-- what takes an edit of the tree back, by the edit's kind
abbrev pub is_of_tree : EditKind → TreeInverse → Bool
is_of_tree kinds.Mkdirs (Made path above) = true
is_of_tree kinds.Create (Made path above) = true
is_of_tree kinds.Rename (Moved from to) = true
is_of_tree kinds.Hide (Moved from to) = true
is_of_tree kinds.Unhide (Moved from to) = true
is_of_tree kinds.Remove (Removed path node) = true
is_of_tree kinds.AddChunk (Added path) = true
is_of_tree kinds.Cow (Changed path index chunk) = true
is_of_tree kinds.Snapshot (Copied path) = true
is_of_tree kind i = false

abbrev pub is_forget : EditKind → Bool
is_forget kinds.Forget = true
is_forget kind = false

-- an inverse is one of an edit of this kind
abbrev pub is_of_kind : EditKind → Inverse → Bool
is_of_kind kind (inverses.Tree i) = is_of_tree kind i
is_of_kind kind (inverses.Remember chunks) = is_forget kind

-- these chunks are listed again
abbrev pub Remembers : List ℕ → Inverse → Type 0
Remembers chunks i = (kept : Vec ℕ Global) × ((i ≡ inverses.Remember kept) × (chunks ≡ kept.items))

abbrev pub IsListOfMade : Inverse → List Path → Type 0
IsListOfMade i paths = (path : Path) × ((above : ℕ) × ((i ≡ inverses.Tree (Made path above)) × (paths ≡ made_paths path above)))

-- rows that rise from a first one on, with directories above each
pub record IsOneNode (node : Rows ℕ) : Type 0 where
  pub sound : IsSound node
  pub top : top_path node ≡ []
  pub stands : is_some (at node []) ≡ true

abbrev pub IsListOfRemoved : Inverse → Rows ℕ → Type 0
IsListOfRemoved i rows =
    (path : Path) × ((node : Rows ℕ) × ((i ≡ inverses.Tree (Removed path node)) × (IsOneNode node × IsPartList path node rows)))

-- The list of an inverse: the paths that were made; where something stands and came from; what stood at a path and, by the
-- bytes of their paths' texts, below it; the file of a chunk; where a copy stands; the chunks that were listed.
abbrev pub IsListOf : Inverse → ListedInverse → Type 0
IsListOf i (lists.Mkdirs paths) = IsListOfMade i paths.items
IsListOf i (lists.Create paths) = IsListOfMade i paths.items
IsListOf i (lists.Rename to from) = i ≡ inverses.Tree (Moved from to)
IsListOf i (lists.Hide to from) = i ≡ inverses.Tree (Moved from to)
IsListOf i (lists.Unhide to from) = i ≡ inverses.Tree (Moved from to)
IsListOf i (lists.Remove entries) =
    IsListOfRemoved i (rows_of_entries entries.items) × IsSortedByKey path_of_entry text_cmp (drop 1 entries.items)
IsListOf i (lists.AddChunk path) = i ≡ inverses.Tree (Added path)
IsListOf i (lists.Cow path index chunk) = i ≡ inverses.Tree (Changed path index chunk)
IsListOf i (lists.Snapshot path) = i ≡ inverses.Tree (Copied path)
IsListOf i (lists.Forget chunks) = Remembers chunks.items i

-- the list of an inverse as one of an edit of this kind; BadLine where it is none, whatever memory there is
abbrev pub ListsAs : EditKind → Inverse → Result ListedInverse Refusal → Type 0
ListsAs kind i (Ok list) = (is_of_kind kind i ≡ true) × (kind_of_list list ≡ kind) × IsListOf i list
ListsAs kind i (Err e) = ((e ≡ Memory) × (is_of_kind kind i ≡ true)) ⊎ ((e ≡ BadLine) × (is_of_kind kind i ≡ false))

-- a list is one of an inverse
abbrev pub is_listed : ListedInverse → Bool
is_listed (lists.Mkdirs paths) = is_made paths.items
is_listed (lists.Create paths) = is_made paths.items
is_listed (lists.Rename to from) = true
is_listed (lists.Hide to from) = true
is_listed (lists.Unhide to from) = true
is_listed (lists.Remove entries) = is_removed (rows_of_entries entries.items)
is_listed (lists.AddChunk path) = true
is_listed (lists.Cow path index chunk) = true
is_listed (lists.Snapshot path) = true
is_listed (lists.Forget chunks) = true

-- no path that was removed has more than 64 elements
abbrev pub has_short_paths : ListedInverse → Bool
has_short_paths (lists.Mkdirs paths) = true
has_short_paths (lists.Create paths) = true
has_short_paths (lists.Rename to from) = true
has_short_paths (lists.Hide to from) = true
has_short_paths (lists.Unhide to from) = true
has_short_paths (lists.Remove entries) = list_all (λ r. is_short r.0) (rows_of_entries entries.items)
has_short_paths (lists.AddChunk path) = true
has_short_paths (lists.Cow path index chunk) = true
has_short_paths (lists.Snapshot path) = true
has_short_paths (lists.Forget chunks) = true

-- the inverse that a list is one of
abbrev pub IsMadeOfList : ListedInverse → Inverse → Type 0
IsMadeOfList (lists.Mkdirs paths) i = i ≡ inverses.Tree (made_inverse paths.items)
IsMadeOfList (lists.Create paths) i = i ≡ inverses.Tree (made_inverse paths.items)
IsMadeOfList (lists.Rename to from) i = i ≡ inverses.Tree (Moved from to)
IsMadeOfList (lists.Hide to from) i = i ≡ inverses.Tree (Moved from to)
IsMadeOfList (lists.Unhide to from) i = i ≡ inverses.Tree (Moved from to)
IsMadeOfList (lists.Remove entries) i = (t : TreeInverse) × (PutsBack (rows_of_entries entries.items) t × (i ≡ inverses.Tree t))
IsMadeOfList (lists.AddChunk path) i = i ≡ inverses.Tree (Added path)
IsMadeOfList (lists.Cow path index chunk) i = i ≡ inverses.Tree (Changed path index chunk)
IsMadeOfList (lists.Snapshot path) i = i ≡ inverses.Tree (Copied path)
IsMadeOfList (lists.Forget chunks) i = Remembers chunks.items i

-- Memory may be wanted for a list of an inverse, but not for paths of which none was made. Of what was removed the lengths
-- of the paths alone are judged before.
abbrev pub may_want_memory : ListedInverse → Bool
may_want_memory (lists.Mkdirs paths) = is_some_made paths.items
may_want_memory (lists.Create paths) = is_some_made paths.items
may_want_memory (lists.Remove entries) = goes_deeper (rows_of_entries entries.items)
may_want_memory list = true

abbrev pub GivesInverse : ListedInverse → Result Inverse Refusal → Type 0
GivesInverse list (Ok i) = (is_listed list ≡ true) × IsMadeOfList list i
GivesInverse list (Err e) = ((e ≡ Memory) × (may_want_memory list ≡ true)) ⊎ ((e ≡ BadLine) × (is_listed list ≡ false))

-- two inverses that fit the same names and lead to the same
pub record DoesTheSame (i j : Inverse) : Type 0 where
  pub fits : (names : NamesView) → FitsTree i names → FitsTree j names
  pub back : (names : NamesView) → FitsTree j names → FitsTree i names
  pub tree : (names : NamesView) → Same (tree_after i names) (tree_after j names)
  pub counts : (names : NamesView) → counts_after i names ≡ counts_after j names

made_by_two : is_of_kind kinds.Create (inverses.Tree (Made (codes "a" ∷ []) 0)) ≡ true
made_by_two = refl

moved_by_no_mkdirs : is_of_kind kinds.Mkdirs (inverses.Tree (Moved (codes "a" ∷ []) (codes "b" ∷ []))) ≡ false
moved_by_no_mkdirs = refl
