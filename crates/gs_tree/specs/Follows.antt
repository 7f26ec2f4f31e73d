-- What a call has to do with what the plain tree does: the same, or it has no memory and changes nothing.
use Rattle.std.specs.Prelude.{◌≡◌, ◌≢◌, ◌⊎◌, Result, Ok, Err, Some, ℕ, [], true, is_some}
use Rattle.gs_path.specs.Path.{Path}
use Rattle.gs_base.specs.declared.refusal.Refusal.{Refusal}
use Rattle.gs_base.specs.declared.refusal.Refusal.TheVariants.{Memory, BadLine}
use Rattle.gs_tree.specs.Entry.{Dir}
use Rattle.gs_tree.specs.Edits.{moved, parent}
use Rattle.gs_tree.specs.Plain.{Plain, Same, without}
use Rattle.gs_tree.specs.Inverses.{Fits, after_undo}
use Rattle.gs_tree.specs.declared.inverse.TreeInverse.{TreeInverse}

abbrev pub FollowsPlain : {A I : Type 0} → Result (Plain A) Refusal → Result I Refusal → Plain A → Plain A → Type 0
FollowsPlain (Ok m) (Ok i) old new = Same new m
FollowsPlain (Err e) (Ok i) old new = ⊥
FollowsPlain (Ok m) (Err f) old new = (f ≡ Memory) × Same new old
FollowsPlain (Err e) (Err f) old new = ((f ≡ e) ⊎ (f ≡ Memory)) × Same new old

-- something stands there that isn't the root, and its new place is under a directory that isn't taken out with it
abbrev pub CanMove : Path → Path → Plain ℕ → Type 0
CanMove from to m = (from ≢ []) × (to ≢ []) × (is_some (m from) ≡ true) × (without from m (parent to) ≡ Some Dir)

-- what stands at a path is moved exactly where it can be, memory aside, in the place of what stands there
abbrev pub Moves : {T : Type 0} → Path → Path → Plain ℕ → Result T Refusal → (T → Plain ℕ) → Type 0
Moves from to m (Ok t) seen = CanMove from to m × Same (seen t) (moved from to m)
Moves from to m (Err f) seen = (f ≡ Memory) ⊎ ((f ≡ BadLine) × (CanMove from to m → ⊥))

-- an inverse is undone exactly where it fits, memory aside
abbrev pub Undoes : TreeInverse → Plain ℕ → Result (Unit {0}) Refusal → Plain ℕ → Type 0
Undoes i old (Ok _) new = Fits i old × Same new (after_undo i old)
Undoes i old (Err f) new = ((f ≡ Memory) ⊎ ((f ≡ BadLine) × (Fits i old → ⊥))) × Same new old
