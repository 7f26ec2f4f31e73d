-- The commands of a plain tree as values, and the paths at and under which each may change what stands.
use Rattle.std.specs.Prelude.{◌≡◌, ◌++◌, ℕ, Bool, List, [], ◌∷◌, Option, Some, None, Result}
use Rattle.gs_base.specs.declared.refusal.Refusal.{Refusal}
use Rattle.gs_path.specs.Path.{Name, Path}
use Rattle.gs_tree.specs.Plain.{Plain, part_at}
use Rattle.gs_tree.specs.Find.{IsDepthTest}
use Rattle.gs_tree.specs.Edits.{mkdirs, create, rename, hide, unhide, remove, add_chunk, set_chunk, snapshot, target_of, hidden_path, beside, old_name, visible}

-- `is_deep` as `rename` and `snapshot` take it
pub data Command (A : Type 0) : Type 0 where
  Mkdirs : Path → Command A
  Create : Path → Command A
  Rename : (Path → Bool) → Path → Path → Command A
  Hide : Path → ℕ → ℕ → Command A
  Unhide : Path → Command A
  Remove : Path → Command A
  AddChunk : Path → A → Command A
  SetChunk : Path → ℕ → A → Command A
  Snapshot : (Path → Bool) → Path → Path → Command A

abbrev pub done : {A : Type 0} → Command A → Plain A → Result (Plain A) Refusal
done (Mkdirs p) m = mkdirs m p
done (Create p) m = create m p
done (Rename is_deep from to) m = rename is_deep m from to
done (Hide p moment number) m = hide m p moment number
done (Unhide p) m = unhide m p
done (Remove p) m = remove m p
done (AddChunk p chunk) m = add_chunk m p chunk
done (SetChunk p index chunk) m = set_chunk m p index chunk
done (Snapshot is_deep from to) m = snapshot is_deep m from to

abbrev pub unhidden_path : Path → Option Name → Path
unhidden_path p None = p
unhidden_path p (Some name) = beside p name

abbrev pub touched : {A : Type 0} → Command A → Plain A → List Path
touched (Mkdirs p) m = p ∷ []
touched (Create p) m = p ∷ []
touched (Rename is_deep from to) m = from ∷ target_of m from to ∷ []
touched (Hide p moment number) m = p ∷ hidden_path p moment number ∷ []
touched (Unhide p) m = p ∷ unhidden_path p (old_name p) ∷ []
touched (Remove p) m = p ∷ []
touched (AddChunk p chunk) m = p ∷ []
touched (SetChunk p index chunk) m = p ∷ []
touched (Snapshot is_deep from to) m = to ∷ []

-- below what doesn't stand nothing stands
abbrev pub IsClosed : {A : Type 0} → Plain A → Type 0
IsClosed m = (q r : Path) → m q ≡ None → m (q ++ r) ≡ None

-- the path that a command makes, which it doesn't test; the root where it makes none
abbrev pub made_path : {A : Type 0} → Command A → Path
made_path (Mkdirs p) = p
made_path (Create p) = p
made_path (Rename is_deep from to) = []
made_path (Hide p moment number) = []
made_path (Unhide p) = []
made_path (Remove p) = []
made_path (AddChunk p chunk) = []
made_path (SetChunk p index chunk) = []
made_path (Snapshot is_deep from to) = []

-- `is_deep` says whether something would have too long a path
abbrev pub TestsDepth : {A : Type 0} → Command A → Plain A → Type 0
TestsDepth (Mkdirs p) m = Unit {0}
TestsDepth (Create p) m = Unit {0}
TestsDepth (Rename is_deep from to) m = IsDepthTest (is_deep (target_of m from to)) m from (target_of m from to)
TestsDepth (Hide p moment number) m = Unit {0}
TestsDepth (Unhide p) m = Unit {0}
TestsDepth (Remove p) m = Unit {0}
TestsDepth (AddChunk p chunk) m = Unit {0}
TestsDepth (SetChunk p index chunk) m = Unit {0}
TestsDepth (Snapshot is_deep from to) m = IsDepthTest (is_deep to) (visible (part_at from m)) [] to
