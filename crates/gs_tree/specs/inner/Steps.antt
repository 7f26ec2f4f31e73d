-- What the steps of the edits say of one another's work: making an entry, testing a place, putting a chunk.
use Rattle.std.specs.Prelude.{◌≡◌, ◌⊎◌, ◌<◌, ◌+◌, Result, Ok, Err, Option, Some, None, ℕ, zero, suc, Bool, true, false, cond, if◌then◌else◌, is_none, is_some, length, nat_lt, slice_get, slice_set, [], ◌∷◌, ◌++◌}
use Rattle.std.specs.declared.alloc.AllocError.{AllocError}
use Rattle.gs_base.specs.declared.refusal.Refusal.{Refusal}
use Rattle.gs_base.specs.declared.refusal.Refusal.TheVariants.{Memory, Exists, NotADirectory, BadPath, Range}
use Rattle.gs_path.specs.Path.{Name, Path, begins}
use Rattle.gs_tree.specs.Entry.{Entry, Dir}
use Rattle.gs_tree.specs.Plain.{Plain, Same, IsFree, with_at, part_at}
use Rattle.gs_tree.specs.Find.{IsDepthTest}
use Rattle.gs_tree.specs.Inverses.{first_made, TakesBack, IsMade, LeavesChunks}
use Rattle.gs_tree.specs.Follows.{FollowsPlain}
use Rattle.gs_tree.specs.declared.inverse.TreeInverse.{TreeInverse}
use Rattle.gs_tree.specs.declared.node.Sort.{Sort}
use Rattle.gs_tree.specs.declared.node.Sort.TheVariants as sorts
use Rattle.gs_tree.specs.Edits.{with_entry, with_dirs, with_chunks, chunks_in, file_above, stood, made, placed, moved, move_to, target_of, rename, snapshot, visible, parent, same_path}

-- an entry was made where nothing stood, with the directories above it that were missing: so many paths in all
pub record IsSown {A : Type 0} (m : Plain A) (path : Path) (e : Entry A) (made : ℕ) (left : Plain A) : Type 0 where
  pub tree : Same left (with_entry path e (with_dirs path m))
  pub no_file : file_above m path ≡ false
  pub stands : stood m path + made ≡ length path
  pub some : 0 < made
  pub free : IsFree m (first_made path (stood m path))
  pub root : is_none (m []) ≡ false

-- what making an entry answers and leaves: no path is made where something stands already
abbrev pub Sown : {A : Type 0} → Plain A → Path → Entry A → Result ℕ Refusal → Plain A → Type 0
Sown m path e (Ok zero) left = (is_some (m path) ≡ true) × Same left m
Sown m path e (Ok (suc made)) left = (m path ≡ None) × IsSown m path e (suc made) left
Sown m path e (Err f) left = (((f ≡ NotADirectory) × (file_above m path ≡ true) × (m path ≡ None)) ⊎ (f ≡ Memory)) × Same left m

-- something is made where nothing stands, and taken back by what is answered; where something stands that is told
abbrev pub MakesLeaf : Plain ℕ → Path → Entry ℕ → Result (Option TreeInverse) Refusal → Plain ℕ → Type 0
MakesLeaf m path e (Ok (Some i)) left = (m path ≡ None) × FollowsPlain (made m path e) (Ok i) m left × TakesBack i m left × IsMade i × LeavesChunks i
MakesLeaf m path e (Ok None) left = (is_some (m path) ≡ true) × Same left m
MakesLeaf m path e (Err f) left = ((f ≡ Memory) ⊎ ((f ≡ NotADirectory) × (file_above m path ≡ true) × (m path ≡ None))) × Same left m

-- a place is free under a directory and not under the source: what is put there has only to be short enough
pub record IsPlace (m : Plain ℕ) (from to : Path) : Type 0 where
  pub apart : begins from to ≡ false
  pub free : IsFree m to
  pub dir : m (parent to) ≡ Some Dir
  pub answer : (deep : Bool) (new : Plain ℕ) → placed deep m from to new ≡ cond deep (Err BadPath) (Ok new)

-- the tests on a place to which something is moved or copied
abbrev pub TestsPlace : Plain ℕ → Path → Path → Result (Unit {0}) Refusal → Type 0
TestsPlace m from to (Ok _) = IsPlace m from to
TestsPlace m from to (Err e) = (deep : Bool) (new : Plain ℕ) → placed deep m from to new ≡ Err e

-- a target is neither the source nor under it
abbrev pub TestsApart : Path → Path → Result (Unit {0}) Refusal → Type 0
TestsApart from to (Ok _) = (same_path to from ≡ false) × (begins from to ≡ false)
TestsApart from to (Err e) = (deep : Bool) (m new : Plain ℕ) → placed deep m from to new ≡ Err e

-- a target is under a directory, or what isn't there refuses it in each tree that has the same there and nothing at the target
abbrev pub TestsParent : Plain ℕ → Path → Result (Unit {0}) Refusal → Type 0
TestsParent one to (Ok _) = one (parent to) ≡ Some Dir
TestsParent one to (Err e) = (deep : Bool) (from : Path) (m new : Plain ℕ) → one (parent to) ≡ m (parent to) → same_path to from ≡ false → begins from to ≡ false → m to ≡ None → placed deep m from to new ≡ Err e

-- the same stands at each path that isn't at or under another
abbrev pub IsElsewhere : Path → Plain ℕ → Plain ℕ → Type 0
IsElsewhere from m one = (q r : Path) → begins from (q ++ r) ≡ false → one q ≡ m q

-- what is known of a target: that nothing stands there or something does, or that it is under a directory
abbrev pub IsKnown : Plain ℕ → Path → Sort → Type 0
IsKnown m to sorts.Missing = m to ≡ None
IsKnown m to sorts.File = is_some (m to) ≡ true
IsKnown m to sorts.Dir = m (parent to) ≡ Some Dir

-- a target is under a directory and not under the source: it has only to be free, and what is put there short enough
pub record IsTarget (m : Plain ℕ) (from to : Path) : Type 0 where
  pub apart : begins from to ≡ false
  pub dir : m (parent to) ≡ Some Dir
  pub answer : (deep : Bool) (new : Plain ℕ) → placed deep m from to new ≡ cond (is_some (m to)) (Err Exists) (cond deep (Err BadPath) (Ok new))

-- the tests on such a target
abbrev pub TestsTarget : Plain ℕ → Path → Path → Result (Unit {0}) Refusal → Type 0
TestsTarget m from to (Ok _) = IsTarget m from to
TestsTarget m from to (Err e) = (deep : Bool) (new : Plain ℕ) → placed deep m from to new ≡ Err e

-- a node that was replaced is put at a place under a directory where that is free, which is the answer, and goes back where it isn't
abbrev pub Lands : Plain ℕ → Plain ℕ → Path → Path → Result Bool AllocError → Plain ℕ → Type 0
Lands one node from to (Ok true) new = IsFree one to × Same new (with_at to node one)
Lands one node from to (Ok false) new = (is_some (one to) ≡ true) × Same new (with_at from node one)
Lands one node from to (Err f) new = Same new (with_at from node one)

-- something is moved to a place under a directory where that is free, which is the answer
abbrev pub Relocates : Plain ℕ → Path → Path → Result Bool AllocError → Plain ℕ → Type 0
Relocates old from to (Ok true) new = IsFree old to × Same new (moved from to old)
Relocates old from to (Ok false) new = (is_some (old to) ≡ true) × Same new old
Relocates old from to (Err f) new = Same new old

-- a move that goes through where its target is free
pub record IsAim (m : Plain ℕ) (from source to : Path) (name : Name) : Type 0 where
  pub same : source ≡ from
  pub ends : to ≡ parent to ++ name ∷ []
  pub apart : begins from to ≡ false
  pub dir : m (parent to) ≡ Some Dir

-- what is to be done is such a move, or is refused
abbrev pub Aims : {T : Type 0} → Plain ℕ → Path → Result (Plain ℕ) Refusal → Result T Refusal → (T → Path) → Type 0
Aims m from wanted (Ok aim) target = wanted ≡ cond (is_some (m (target aim))) (Err Exists) (Ok (moved from (target aim) m))
Aims m from wanted (Err e) target = (e ≡ Memory) ⊎ (wanted ≡ Err e)

-- a chunk is put in the place of another, which is the answer
abbrev pub SwapsChunk : Path → ℕ → ℕ → Plain ℕ → Result ℕ Refusal → Plain ℕ → Type 0
SwapsChunk path index chunk old (Ok had) new =
    (nat_lt index (length (chunks_in (old path))) ≡ true) × (slice_set (slice_set (chunks_in (old path)) index chunk) index had ≡ chunks_in (old path))
    × Same new (with_chunks path (slice_set (chunks_in (old path)) index chunk) old) × (slice_get (chunks_in (old path)) index ≡ Some had)
SwapsChunk path index chunk old (Err e) new = (e ≡ Range) × (nat_lt index (length (chunks_in (old path))) ≡ false) × Same new old

-- the tree follows what is to be done of such a move, whatever that is
abbrev pub FollowsAim : {T I : Type 0} → Plain ℕ → Path → Result T Refusal → (T → Path) → Result I Refusal → Plain ℕ → Type 0
FollowsAim m from aim target result left = (wanted : Result (Plain ℕ) Refusal) → Aims m from wanted aim target → FollowsPlain wanted result m left

-- what is answered is the move to a target, or what refuses it, whichever test on the depth says how deep it leads
abbrev pub AimsAtTarget : {T : Type 0} → Plain ℕ → Path → Path → Result T Refusal → (T → Path) → Type 0
AimsAtTarget m from to result target = (deep : Bool) → IsDepthTest deep m from (target_of m from to) → Aims m from (move_to deep m from (target_of m from to)) result target

-- the tree follows a rename, whichever test on the depth says how deep it leads
abbrev pub FollowsRename : {I : Type 0} → Path → Path → Result I Refusal → Plain ℕ → Plain ℕ → Type 0
FollowsRename from to result old left = (deep : Bool) → IsDepthTest deep old from (target_of old from to) → FollowsPlain (rename (λ _. deep) old from to) result old left

-- so of a snapshot
abbrev pub FollowsSnapshot : {I : Type 0} → Path → Path → Result I Refusal → Plain ℕ → Plain ℕ → Type 0
FollowsSnapshot from to result old new = (deep : Bool) → IsDepthTest deep (visible (part_at from old)) [] to → FollowsPlain (snapshot (λ _. deep) old from to) result old new

-- a copy is put to a free place, unless it leads too deep there
abbrev pub PutsCopy : {I : Type 0} → Plain ℕ → Path → Result I Refusal → Plain ℕ → Plain ℕ → Type 0
PutsCopy copy to result old new = (deep : Bool) → IsDepthTest deep copy [] to → FollowsPlain (if deep then Err BadPath else Ok (with_at to copy old)) result old new
