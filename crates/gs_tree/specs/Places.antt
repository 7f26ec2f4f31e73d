-- An empty directory that keeps the place of what was moved or taken out, until that stands or is taken back.
use Rattle.std.specs.Prelude.{◌≡◌, ◌≢◌, ◌&&◌, ℕ, Bool, false, not, cond, [], Result, Ok, Err, is_some, is_none}
use Rattle.gs_base.specs.declared.refusal.Refusal.{Refusal}
use Rattle.gs_path.specs.Path.{Path, begins}
use Rattle.gs_tree.specs.Plain.{Plain, Same, rooted, part_at, with_at, without}
use Rattle.gs_tree.specs.Edits.{moved, old_name, remove, same_path}
use Rattle.gs_tree.specs.Follows.{FollowsPlain}
use Rattle.gs_tree.specs.declared.inverse.TreeInverse.{TreeInverse}
use Rattle.gs_tree.specs.declared.inverse.TreeInverse.TheVariants.{Made, Moved, Removed, Added, Changed, Copied}

-- what was moved has left an empty directory, which isn't the root
abbrev pub KeepsPlace : TreeInverse → Plain ℕ → Type 0
KeepsPlace (Made path above) m = ⊥
KeepsPlace (Moved from to) m = (from ≢ []) × Same (part_at from m) rooted
KeepsPlace (Removed path node) m = ⊥
KeepsPlace (Added path) m = ⊥
KeepsPlace (Changed path index chunk) m = ⊥
KeepsPlace (Copied path) m = ⊥

-- without the place from which something was moved
abbrev pub place_given_up : TreeInverse → Plain ℕ → Plain ℕ
place_given_up (Made path above) m = m
place_given_up (Moved from to) m = without from m
place_given_up (Removed path node) m = m
place_given_up (Added path) m = m
place_given_up (Changed path index chunk) m = m
place_given_up (Copied path) m = m

-- the same where something was moved
abbrev pub given_up : Result TreeInverse Refusal → Plain ℕ → Plain ℕ
given_up (Ok i) m = place_given_up i m
given_up (Err e) m = m

-- the tree follows what is to be done, but for the place that is to be given up
abbrev pub FollowsButPlace : Result (Plain ℕ) Refusal → Result TreeInverse Refusal → Plain ℕ → Plain ℕ → Type 0
FollowsButPlace wanted result old new = FollowsPlain wanted result old (given_up result new)

-- all but what stands at and under a path that isn't the root
abbrev pub without_place : Path → Plain ℕ → Plain ℕ
without_place p m q = cond (same_path p []) (m q) (without p m q)

-- something stands at both paths, and neither begins with the other
abbrev pub can_return : Path → Path → Plain ℕ → Bool
can_return from to m = not (begins to from) && (not (begins from to) && (is_some (m from) && is_some (m to)))

-- what was moved goes back to the place that was kept, if it can
abbrev pub returned : Path → Path → Plain ℕ → Plain ℕ
returned from to m q = cond (can_return from to m) (moved to from (without from m) q) (m q)

-- What is hidden at a path was taken out, with all under it, and an empty directory stands in its place.
pub record IsTakenOut (p : Path) (node old new : Plain ℕ) : Type 0 where
  pub hidden : is_none (old_name p) ≡ false
  pub stood : is_none (old p) ≡ false
  pub part : Same (part_at p old) node
  pub now : Same new (with_at p rooted old)

-- or it wasn't, with the refusal of a removal, and nothing has changed
abbrev pub IsNotTakenOut : Path → Plain ℕ → Refusal → Plain ℕ → Type 0
IsNotTakenOut p old e new = FollowsPlain {I = Unit {0}} (remove old p) (Err e) old new

-- what was taken out stands again at a path that isn't the root, if its place was kept there
abbrev pub put_back : Path → Plain ℕ → Plain ℕ → Plain ℕ
put_back p part m q = cond (not (same_path p []) && is_some (m p)) (with_at p part m q) (m q)
