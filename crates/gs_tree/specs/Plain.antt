-- A tree as what stands at each path.
use Rattle.std.specs.Prelude.{◌≡◌, ◌&&◌, Bool, not, cond, if◌then◌else◌, [], ◌∷◌, ◌++◌, Option, Some, None}
use Rattle.std.specs.List.{list_any}
use Rattle.gs_path.specs.Element.{is_hidden}
use Rattle.gs_path.specs.Path.{Path, begins}
use Rattle.gs_tree.specs.Entry.{Entry, Dir}

abbrev pub Plain : Type 0 → Type 0
Plain A = Path → Option (Entry A)

-- q without the front p
abbrev pub after : Path → Path → Path
after [] q = q
after (x ∷ p) [] = []
after (x ∷ p) (y ∷ q) = after p q

-- another tree in the place of all at p and under it
abbrev pub with_at : {A : Type 0} → Path → Plain A → Plain A → Plain A
with_at p part whole q = cond (begins p q) (part (after p q)) (whole q)

-- nothing at p and under it
abbrev pub without : {A : Type 0} → Path → Plain A → Plain A
without p whole q = cond (begins p q) None (whole q)

-- all at p and under it, seen from there
abbrev pub part_at : {A : Type 0} → Path → Plain A → Plain A
part_at p whole q = whole (p ++ q)

-- all, or all but what has a hidden element in its path
abbrev pub kept : {A : Type 0} → Bool → Plain A → Plain A
kept all m q = if not all && list_any is_hidden q then None else m q

-- nothing stands at p or under it
abbrev pub IsFree : {A : Type 0} → Plain A → Path → Type 0
IsFree m p = (r : Path) → m (p ++ r) ≡ None

-- the root alone
abbrev pub rooted : {A : Type 0} → Plain A
rooted [] = Some Dir
rooted (x ∷ p) = None

-- the same at each path
abbrev pub Same : {A : Type 0} → Plain A → Plain A → Type 0
Same m n = (q : Path) → m q ≡ n q
