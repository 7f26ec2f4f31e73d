-- What is listed of a directory.
use Rattle.std.specs.Prelude.{◌≡◌, ◌⊎◌, ℕ, Result, Ok, Err, Bool, true, false, List, [], ◌∷◌, map, Option, Some, None, IsTrue, is_some, not, ◌&&◌, if◌then◌else◌}
use Rattle.std.specs.Option.{option_map}
use Rattle.std.specs.FinMap.{find, is_sorted}
use Rattle.gs_path.specs.Path.{Name, Path, name_cmp, same_name}
use Rattle.gs_path.specs.Element.{is_hidden}
use Rattle.gs_tree.specs.Entry.{Entry, Dir, File}
use Rattle.gs_tree.specs.Plain.{Plain, part_at}
use Rattle.gs_tree.specs.Edits.{last}
use Rattle.gs_base.specs.declared.refusal.Refusal.{Refusal}
use Rattle.gs_base.specs.declared.refusal.Refusal.TheVariants.{NotFound, Memory}
use Rattle.gs_tree.specs.declared.node.Listed.{Listed}
use Rattle.gs_tree.specs.declared.tree.Status.{Status}
use Rattle.gs_tree.specs.declared.tree.Status.TheVariants as status
use Rattle.std.specs.Prelude.{Vec}
use Rattle.std.specs.declared.alloc.Global.{Global}

abbrev pub is_dir_entry : {A : Type 0} → Entry A → Bool
is_dir_entry Dir = true
is_dir_entry (File chunks) = false

-- a visible child with whether it is a directory, as the listing gives it
abbrev pub shown : {A : Type 0} → Name → Option (Entry A) → Option Bool
shown name entry = if is_hidden name then None else option_map is_dir_entry entry

abbrev pub pairs_of : List Listed → List (Name × Bool)
pairs_of listed = map (λ l. (l.name, l.is_dir)) listed

-- the names rise, and just the visible children are there
pub record IsListing {A : Type 0} (m : Plain A) (listed : List Listed) : Type 0 where
  pub rise : IsTrue (is_sorted name_cmp (pairs_of listed))
  pub each : (name : Name) → find name_cmp name (pairs_of listed) ≡ shown name (m (name ∷ []))

-- some child is visible
abbrev pub HasVisible : {A : Type 0} → Plain A → Type 0
HasVisible m = (name : Name) × ((is_hidden name ≡ false) × (is_some (m (name ∷ [])) ≡ true))

-- a name that is visible and isn't this one
abbrev pub is_visible_but : Name → Name → Bool
is_visible_but this name = not (same_name name this) && not (is_hidden name)

-- something visible stands below the root under another name than this
abbrev pub HasVisibleBut : {A : Type 0} → Name → Plain A → Type 0
HasVisibleBut this m = (name : Name) × ((is_visible_but this name ≡ true) × (is_some (m (name ∷ [])) ≡ true))

-- what a look-up of a path lists: the visible children of a directory, a file's own name
abbrev pub IsListingOf : {A : Type 0} → Option (Entry A) → Plain A → Path → List Listed → Type 0
IsListingOf None m p listed = ⊥
IsListingOf (Some Dir) m p listed = IsListing (part_at p m) listed
IsListingOf (Some (File chunks)) m p listed = pairs_of listed ≡ map (λ name. (name, false)) (last p)

abbrev pub Lists : {A : Type 0} → Plain A → Path → Result (Vec Listed Global) Refusal → Type 0
Lists m p (Ok listed) = IsListingOf (m p) m p listed.items
Lists m p (Err e) = ((e ≡ NotFound) × (m p ≡ None)) ⊎ (e ≡ Memory)

abbrev pub StandsAs : Option (Entry ℕ) → Result Status Refusal → Type 0
StandsAs entry (Ok status.Dir) = entry ≡ Some Dir
StandsAs entry (Ok (status.File chunks)) = entry ≡ Some (File chunks.now)
StandsAs entry (Err e) = (e ≡ NotFound) × (entry ≡ None)
