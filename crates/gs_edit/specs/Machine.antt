-- The plain machine: a plain tree, and perhaps one that is kept. It copies whole trees and has no inverses.
use Rattle.std.specs.Prelude.{Option, Some, None}
use Rattle.gs_tree.specs.Find.{Rows}
use Rattle.gs_edit.specs.Table.{root_rows}

pub record Plain (A : Type 0) : Type 0 where
  pub tree : Rows A
  pub kept : Option (Rows A)

abbrev pub first : {A : Type 0} → Plain A
first = record { tree = root_rows; kept = None }

-- the tree after an edit of it
abbrev pub with_tree : {A : Type 0} → Plain A → Rows A → Plain A
with_tree m rows = record m { tree = rows }

-- keeps a copy of the whole tree
abbrev pub prepared : {A : Type 0} → Plain A → Plain A
prepared m = record m { kept = Some m.tree }

-- forgets the copy
abbrev pub finalized : {A : Type 0} → Plain A → Plain A
finalized m = record m { kept = None }

-- puts the copy in the tree's place and forgets it
abbrev pub restored : {A : Type 0} → Plain A → Rows A → Plain A
restored m kept = record { tree = kept; kept = None }
