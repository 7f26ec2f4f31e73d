-- A node as the list of its paths, from itself down, each with what stands there.
use Rattle.std.specs.Prelude.{◌≡◌, ℕ, ◌<◌, List, [], ◌∷◌, ◌++◌, true, Some, is_some}
use Rattle.std.specs.BTreeMap.{is_at}
use Rattle.std.specs.List.Sorted.{IsStrictlySortedBy}
use Rattle.std.specs.Map.{keys_of, lookup}
use Rattle.gs_path.specs.Path.{Name, name_cmp}
use Rattle.gs_tree.specs.Entry.{Dir, File}
use Rattle.gs_tree.specs.Plain.{Plain}
use Rattle.gs_tree.specs.Find.{Rows, IsWithin, at}
use Rattle.gs_tree.specs.declared.node.Kind.{Kind}
use Rattle.gs_tree.specs.declared.node.Kind.TheVariants as kinds

-- each path with one more element in front
abbrev pub under : List ℕ → Rows ℕ → Rows ℕ
under name [] = []
under name (r ∷ rs) = (name ∷ r.0, r.1) ∷ under name rs

abbrev pub joined : List (List ℕ × Rows ℕ) → Rows ℕ
joined [] = []
joined (c ∷ cs) = under c.0 c.1 ++ joined cs

abbrev pub rows_of : Kind → Rows ℕ
rows_of (kinds.File handles) = ([], File handles.items) ∷ []
rows_of (kinds.Dir children) = ([], Dir) ∷ joined children.entries

-- the paths of a node are no longer than this number says, below 255; from there on it says nothing
abbrev pub Reaches : ℕ → Plain ℕ → Type 0
Reaches n m = n < 255 → IsWithin n m

-- the names rise
abbrev pub IsLevel : Kind → Type 0
IsLevel (kinds.File handles) = Unit {0}
IsLevel (kinds.Dir children) = IsStrictlySortedBy name_cmp (keys_of children.entries)

-- something stands at the root of each child
abbrev pub IsRooted : Kind → Type 0
IsRooted (kinds.File handles) = Unit {0}
IsRooted (kinds.Dir children) =
    (name : Name) (child : Rows ℕ) → lookup (is_at (name_cmp name)) children.entries ≡ Some child → is_some (at child []) ≡ true

-- what holds of the fields of each node
pub record IsNode (reach : ℕ) (kind : Kind) : Type 0 where
  pub level : IsLevel kind
  pub rooted : IsRooted kind
  pub reaches : Reaches reach (at (rows_of kind))
