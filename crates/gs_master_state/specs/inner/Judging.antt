-- What the code judges of a call.
use Rattle.std.specs.Prelude.{◌≡◌, ◌+◌, ℕ, Bool, List, [], ◌∷◌, Option, Some, None, is_none, length, Result, Ok, Err, cond, codes, if◌then◌else◌, refl}
use Rattle.std.specs.declared.cmp.Ordering.{Ordering}
use Rattle.std.specs.declared.cmp.Ordering.TheVariants.{Less, Equal, Greater}
use Rattle.std.specs.Cmp.Lexicographic.{slice_cmp}
use Rattle.std.specs.Ordering.{nat_cmp}
use Rattle.gs_base.specs.declared.refusal.Refusal.{Refusal}
use Rattle.gs_base.specs.declared.refusal.Refusal.TheVariants as refusals
use Rattle.gs_tree.specs.Edits.{is_dir, target_of}
use Rattle.gs_tree.specs.Entry.{Entry, Dir, File}
use Rattle.gs_msg.specs.declared.lists.ListedName.{ListedName}
use Rattle.gs_path.specs.Path.{Name, Path, path_text}
use Rattle.gs_tree.specs.Plain.{Plain}

-- a name as it is told, with whether a directory stands there
abbrev pub listed_name : Name × Bool → ListedName
listed_name pair = record { name = pair.0; is_directory = pair.1 }

-- how many chunks a file has
abbrev pub length_at : Option (Entry ℕ) → Result ℕ Refusal
length_at None = Err refusals.NotFound
length_at (Some Dir) = Err refusals.IsADirectory
length_at (Some (File chunks)) = Ok (length chunks)

-- the lower of two texts
abbrev pub lower_text : List ℕ → Option (List ℕ) → List ℕ
lower_text text None = text
lower_text text (Some other) = lower_by (slice_cmp nat_cmp text other)
  where
    lower_by : Ordering → List ℕ
    lower_by Less = text
    lower_by Equal = other
    lower_by Greater = other

-- the lowest text of these paths, and another
abbrev pub lower_each : List Path → Option (List ℕ) → Option (List ℕ)
lower_each [] lowest = lowest
lower_each (path ∷ paths) lowest = Some (lower_text (path_text path) (lower_each paths lowest))

-- of how many paths something stands at each before the first of which nothing does
abbrev pub leading : Plain ℕ → List Path → ℕ
leading m [] = 0
leading m (path ∷ paths) = cond (is_none (m path)) 0 (leading m paths + 1)

-- The target that the edit of a rename says: where that puts what it moves. Where a directory stands there too the edit is refused,
-- and says its target as it was asked.
abbrev pub said_target : Plain ℕ → Path → Path → Path
said_target m from to = if is_dir (m (target_of m from to)) then to else target_of m from to

a_point_before_a_slash : lower_text (codes "/a/b") (Some (codes "/a.b")) ≡ codes "/a.b"
a_point_before_a_slash = refl
