-- What kind of thing an entry is.
use Rattle.std.specs.Prelude.{[], Option, Some, None}
use Rattle.gs_tree.specs.Entry.{Entry}
use Rattle.gs_tree.specs.Entry as entry
use Rattle.gs_tree.specs.declared.node.Leaf.{Leaf}
use Rattle.gs_tree.specs.declared.node.Leaf.TheVariants as leaves
use Rattle.gs_tree.specs.declared.node.Sort.{Sort}
use Rattle.gs_tree.specs.declared.node.Sort.TheVariants as sorts

abbrev pub sort_of : {A : Type 0} → Option (Entry A) → Sort
sort_of None = sorts.Missing
sort_of (Some entry.Dir) = sorts.Dir
sort_of (Some (entry.File chunks)) = sorts.File

-- what is made of a leaf
abbrev pub entry_of_leaf : {A : Type 0} → Leaf → Entry A
entry_of_leaf leaves.Dir = entry.Dir
entry_of_leaf leaves.File = entry.File []
