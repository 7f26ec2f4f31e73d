-- The root is a directory, and stays one.
use Rattle.std.proofs.Common.{◌≡◌, ◌≢◌, ℕ, Bool, true, false, cond, [], ◌∷◌, length, take, add-one, arith, nat_lt, refl, sym, ap, ◌∙◌}
use Rattle.std.specs.Prelude.{Option, Some, None, Result, Ok, Err, IfErr, IfOk, is_some, is_none}
use Rattle.std.proofs.lemmas.Bool.{ltb-true}
use Rattle.gs_base.specs.declared.refusal.Refusal.{Refusal}
use Rattle.gs_base.specs.declared.refusal.Refusal.TheVariants.{BadPath, NotFound, Exists, NotADirectory, IntoItself, IsRoot, NotHidden}
use Rattle.gs_path.specs.Path.{Name, Path, begins}
use Rattle.gs_tree.specs.Entry.{Dir, File}
use Rattle.gs_tree.specs.Plain.{Plain, without}
use Rattle.gs_tree.specs.Edits.{mkdirs, create, made, rename, placed, moved, hide, hidden_path, unhide, unhidden, beside, old_name, remove, snapshot, copied, with_dirs, with_entry, chunks_in, is_file, file_above, same_path, target_of, parent}
use Rattle.gs_tree.specs.Inverses.{Fits, after_undo, first_made}
use Rattle.gs_tree.specs.Find.{Rows, at}
use Rattle.gs_tree.specs.Follows.{FollowsPlain, Undoes}
use Rattle.gs_tree.specs.Places.{IsNotTakenOut, IsTakenOut}
use Rattle.gs_tree.specs.declared.inverse.TreeInverse.{TreeInverse}
use Rattle.gs_tree.specs.declared.inverse.TreeInverse.TheVariants.{Made, Moved, Removed, Added, Changed, Copied}

-- an answer in which the root is a directory, if it is one
abbrev pub KeepsRoot : Result (Plain ℕ) Refusal → Type 0
KeepsRoot (Ok m) = m [] ≡ Some Dir
KeepsRoot (Err e) = Unit {0}

pub root_follows : {I : Type 0} (res : Result (Plain ℕ) Refusal) (r : Result I Refusal) (old new : Plain ℕ) → KeepsRoot res → FollowsPlain res r old new → old [] ≡ Some Dir → new [] ≡ Some Dir
root_follows (Ok m) (Ok i) old new keeps h root = h [] ∙ keeps
root_follows (Err e) (Ok i) old new keeps h root = absurd h
root_follows (Ok m) (Err f) old new keeps h root = h.1 [] ∙ root
root_follows (Err e) (Err f) old new keeps h root = h.1 [] ∙ root

tested : (b : Bool) (e : Refusal) (rest : Result (Plain ℕ) Refusal) → (b ≡ false → KeepsRoot rest) → KeepsRoot (cond b (Err e) rest)
tested true e rest h = tt
tested false e rest h = h refl

dirs_root : (m : Plain ℕ) (p : Path) → m [] ≡ Some Dir → with_dirs p m [] ≡ Some Dir
dirs_root m p root = ap (λ v. cond (is_none v) (Some Dir) v) root

pub mkdirs-root : (m : Plain ℕ) (p : Path) → m [] ≡ Some Dir → KeepsRoot (mkdirs m p)
mkdirs-root m p root = tested (is_file (m p)) Exists _ (λ _. tested (file_above m p) NotADirectory (Ok (with_dirs p m)) (λ _. dirs_root m p root))

pub create-root : (m : Plain ℕ) (p : Path) → m [] ≡ Some Dir → KeepsRoot (create m p)
create-root m [] root = tested (is_some (m [])) Exists (made m [] (File [])) (λ out. absurd (let k : is_some (m []) ≡ true = ap is_some root in cc))
create-root m (x ∷ p) root = tested (is_some (m (x ∷ p))) Exists _ (λ _. tested (file_above m (x ∷ p)) NotADirectory (Ok (with_entry (x ∷ p) (File []) (with_dirs (x ∷ p) m))) (λ _. dirs_root m (x ∷ p) root))

pub moved-root : (m : Plain ℕ) (from to : Path) → from ≢ [] → to ≢ [] → moved from to m [] ≡ m []
moved-root m [] to f t = absurd (f refl)
moved-root m (x ∷ from) [] f t = absurd (t refl)
moved-root m (x ∷ from) (y ∷ to) f t = refl

some_path : (m : Plain ℕ) (p : Path) → m [] ≡ Some Dir → is_some (m p) ≡ false → p ≢ []
some_path m p root free is = let k : is_some (m p) ≡ true = ap (λ q. is_some (m q)) is ∙ ap is_some root in cc

not_root : (p : Path) → same_path p [] ≡ false → p ≢ []
not_root p h is = let k : same_path p [] ≡ true = ap (λ q. same_path q []) is in cc

placed-root : (deep : Bool) (m : Plain ℕ) (from to : Path) (new : Plain ℕ) → m [] ≡ Some Dir → (to ≢ [] → new [] ≡ Some Dir) → KeepsRoot (placed deep m from to new)
placed-root deep m from to new root h =
    tested (same_path to from) Exists _ (λ _. tested (begins from to) IntoItself _ (λ _. tested (is_some (m to)) Exists _ (λ free. tested (is_none (m (parent to))) NotFound _ (λ _. tested (is_file (m (parent to))) NotADirectory _ (λ _. tested deep BadPath (Ok new) (λ _. h (some_path m to root free)))))))

pub rename-root : (is_deep : Path → Bool) (m : Plain ℕ) (from to : Path) → m [] ≡ Some Dir → KeepsRoot (rename is_deep m from to)
rename-root is_deep m from to root =
    let target = target_of m from to in
    tested (same_path from []) IsRoot _ (λ some. tested (is_none (m from)) NotFound _ (λ _. placed-root (is_deep target) m from target (moved from target m) root (λ t. moved-root m from target (not_root from some) t ∙ root)))

pub hide-root : (m : Plain ℕ) (p : Path) (moment number : ℕ) → m [] ≡ Some Dir → KeepsRoot (hide m p moment number)
hide-root m p moment number root =
    let target = hidden_path p moment number in
    tested (same_path p []) IsRoot _ (λ some. tested (is_none (m p)) NotFound _ (λ _. tested (is_some (m target)) Exists (Ok (moved p target m)) (λ free. moved-root m p target (not_root p some) (some_path m target root free) ∙ root)))

pub unhide-root : (m : Plain ℕ) (p : Path) → m [] ≡ Some Dir → KeepsRoot (unhide m p)
unhide-root m [] root = tt
unhide-root m (x ∷ p) root = named (old_name (x ∷ p))
  where
    named : (name : Option Name) → KeepsRoot (unhidden m (x ∷ p) name)
    named None = tt
    named (Some name) =
        let target = beside (x ∷ p) name in
        tested (is_none (m (x ∷ p))) NotFound _ (λ _. tested (is_some (m target)) Exists (Ok (moved (x ∷ p) target m)) (λ free. moved-root m (x ∷ p) target (λ e. cc) (some_path m target root free) ∙ root))

pub remove-root : (m : Plain ℕ) (p : Path) → m [] ≡ Some Dir → KeepsRoot (remove m p)
remove-root m [] root = tt
remove-root m (x ∷ p) root = tested (is_none (old_name (x ∷ p))) NotHidden _ (λ _. tested (is_none (m (x ∷ p))) NotFound (Ok (without (x ∷ p) m)) (λ _. root))

pub root_taken : (r : Result (Rows ℕ) Refusal) (p : Path) (old new : Plain ℕ) → IfOk r (λ node. IsTakenOut p (at node) old new) → IfErr r (λ e. IsNotTakenOut p old e new) → old [] ≡ Some Dir → new [] ≡ Some Dir
root_taken (Err e) p old new made refused root = root_follows {I = Unit {0}} (remove old p) (Err e) old new (remove-root old p root) refused root
root_taken (Ok node) [] old new made refused root = absurd (let k : true ≡ false = made.hidden in cc)
root_taken (Ok node) (x ∷ p) old new made refused root = made.now [] ∙ root

copied-root : (m : Plain ℕ) (from to : Path) → to ≢ [] → copied from to m [] ≡ m []
copied-root m from [] ne = absurd (ne refl)
copied-root m from (y ∷ to) ne = refl

pub snapshot-root : (is_deep : Path → Bool) (m : Plain ℕ) (from to : Path) → m [] ≡ Some Dir → KeepsRoot (snapshot is_deep m from to)
snapshot-root is_deep m from to root =
    tested (same_path from []) IsRoot _ (λ _. tested (is_none (m from)) NotFound _ (λ _. placed-root (is_deep to) m from to (copied from to m) root (λ t. copied-root m from to t ∙ root)))

no_less : (n : ℕ) → nat_lt n 0 ≡ true → ⊥
no_less n h = let l = ltb-true n 0 h in omega arith

-- what takes an edit back leaves the root
after-root : (i : TreeInverse) (m : Plain ℕ) → Fits i m → m [] ≡ Some Dir → after_undo i m [] ≡ Some Dir
after-root (Made [] above) m fits root = elim (nat_lt above 0) as (λ b. nat_lt above 0 ≡ b → cond b (without (first_made [] above) m) m [] ≡ Some Dir) [
  | true ↦ λ b. absurd (no_less above b)
  | false ↦ λ b. root
] refl
after-root (Made (x ∷ path) above) m fits root = elim (nat_lt above (length (x ∷ path))) as (λ b. cond b (without (first_made (x ∷ path) above) m) m [] ≡ Some Dir) [
  | true ↦ ap (λ p. without p m []) first ∙ root
  | false ↦ root
]
  where
    first : first_made (x ∷ path) above ≡ x ∷ take above path
    first = rw (add-one above) refl
after-root (Moved [] to) m fits root = absurd (let none : m [] ≡ None = fits.2 [] in cc)
after-root (Moved (x ∷ from) []) m fits root = absurd (let out : true ≡ false = fits.1 in cc)
after-root (Moved (x ∷ from) (y ∷ to)) m fits root = root
after-root (Removed [] node) m fits root = absurd (let none : m [] ≡ None = fits.0 [] in cc)
after-root (Removed (x ∷ path) node) m fits root = root
after-root (Added []) m fits root = absurd (let out : nat_lt 0 0 ≡ true = sym (ap (λ v. nat_lt 0 (length (chunks_in v))) root) ∙ fits in cc)
after-root (Added (x ∷ path)) m fits root = root
after-root (Changed [] index chunk) m fits root = absurd (let out : nat_lt index 0 ≡ true = sym (ap (λ v. nat_lt index (length (chunks_in v))) root) ∙ fits in no_less index out)
after-root (Changed (x ∷ path) index chunk) m fits root = root
after-root (Copied []) m fits root = absurd (fits.0 refl)
after-root (Copied (x ∷ path)) m fits root = root

pub root_undone : (i : TreeInverse) (r : Result (Unit {0}) Refusal) (old new : Plain ℕ) → Undoes i old r new → old [] ≡ Some Dir → new [] ≡ Some Dir
root_undone i (Ok u) old new h root = h.1 [] ∙ after-root i old h.0 root
root_undone i (Err e) old new h root = h.1 [] ∙ root
