-- Each command of a tree is taken back by its inverse.
use Rattle.std.proofs.Common.{◌≡◌, ◌≢◌, ◌∙◌, ◌+◌, ◌-◌, ◌<◌, ◌++◌, ℕ, Bool, true, false, cond, not, [], ◌∷◌, map, length, length-append, get_or, slice_set, nat_lt, append-nil, refl, sym, ap, subst, arith}
use Rattle.std.specs.Prelude.{Option, Some, None, Result, Ok, Err, is_some, is_none, slice_get}
use Rattle.std.proofs.lemmas.Bool.{false≢true}
use Rattle.std.proofs.lemmas.List.{set-set, set-get_or}
use Rattle.std.proofs.lemmas.Option.{get_or_from_slice_get}
use Rattle.gs_base.specs.declared.refusal.Refusal.{Refusal}
use Rattle.gs_base.specs.declared.refusal.Refusal.TheVariants.{NotFound, Exists, NotADirectory, IsADirectory, IntoItself, IsRoot, NotHidden, Range}
use Rattle.gs_path.specs.Element.{hidden_name}
use Rattle.gs_path.specs.Path.{Name, Path, begins}
use Rattle.gs_tree.specs.Entry.{Entry, Dir, File}
use Rattle.gs_tree.specs.Plain.{Plain, IsFree, Same, after, without, part_at}
use Rattle.gs_tree.specs.Find.{Rows, at, DirsAbove}
use Rattle.gs_tree.specs.Follows.{FollowsPlain}
use Rattle.gs_tree.specs.Edits.{placed, moved, copied, visible, hidden_path, hide, unhidden, beside, old_name, rename, snapshot, remove, mkdirs, create, made, with_dirs, with_entry, with_chunks, chunks_in, add_chunk, set_chunk, is_dir, is_file, file_above, same_path, target_of, parent, last, stood}
use Rattle.gs_tree.specs.Inverses.{TakesBack, first_made}
use Rattle.gs_tree.specs.declared.inverse.TreeInverse.TheVariants.{Made, Moved, Removed, Added, Changed, Copied}
use Rattle.gs_tree.specs.declared.node.Leaf.{Leaf}
use Rattle.gs_tree.specs.declared.node.Leaf.TheVariants as leaves
use Rattle.gs_tree.specs.inner.Sort.{entry_of_leaf}
use Rattle.gs_tree.specs.inner.Steps.{IsSown}
use Rattle.gs_tree.proofs.Apart.{past, through, placed_answer, same_answer}
use Rattle.gs_tree.proofs.Chunks.{same_itself, takes_added, takes_changed}
use Rattle.gs_tree.proofs.Makes.{mkdirs_missing, mkdirs_there, takes_made, takes_nothing}
use Rattle.gs_tree.proofs.Moves.{takes_moved}
use Rattle.gs_tree.proofs.Removals.{named, takes_copied, takes_removed}
use Rattle.gs_tree.proofs.Sowing.{first_made-below}
use Rattle.gs_tree.proofs.Splice.{begins_parts}

-- ---- a tree: a directory at the root, and above all that stands

pub record Grown (m : Plain ℕ) : Type 0 where
  pub root : m [] ≡ Some Dir
  pub above : (q : Path) → is_some (m q) ≡ true → DirsAbove m q

dirs_front : (m : Plain ℕ) (q : Path) (x : Name) (r : Path) → DirsAbove m (q ++ x ∷ r) → m q ≡ Some Dir
dirs_front m [] x r h = h.0
dirs_front m (y ∷ q) x r h = dirs_front (λ s. m (y ∷ s)) q x r h.1

-- nothing stands under what doesn't stand
pub nothing_under : (m : Plain ℕ) → Grown m → (p : Path) → m p ≡ None → IsFree m p
nothing_under m t p none [] = ap m (append-nil p) ∙ none
nothing_under m t p none (x ∷ r) = by_value (m (p ++ x ∷ r)) refl
  where
    by_value : (v : Option (Entry ℕ)) → m (p ++ x ∷ r) ≡ v → v ≡ None
    by_value None is = refl
    by_value (Some e) is = absurd (false≢true (ap is_some (sym none ∙ dirs_front m p x r (t.above (p ++ x ∷ r) (ap is_some is)))))

-- ---- what is moved

pub is_not : {A : Type 0} (v : Option A) → is_some v ≡ false → v ≡ None
is_not None e = refl
is_not (Some x) e = absurd (false≢true (sym e))

pub not_root : (p : Path) → same_path p [] ≡ false → p ≢ []
not_root p h e = false≢true (sym h ∙ ap (λ q. same_path q []) e ∙ same_itself [])

record IsPlaced (m : Plain ℕ) (from to : Path) : Type 0 where
  apart : begins from to ≡ false
  none : m to ≡ None

placed_so : (deep : Bool) (m : Plain ℕ) (from to : Path) (new n : Plain ℕ) → placed deep m from to new ≡ Ok n → IsPlaced m from to
placed_so deep m from to new n h =
    let h1 = past (same_path to from) Exists _ n h in
    let h2 = past (begins from to) IntoItself _ n h1 in
    record { apart = through (begins from to) IntoItself _ n h1; none = is_not (m to) (through (is_some (m to)) Exists _ n h2) }

pub takes_rename : (is_deep : Path → Bool) (m n : Plain ℕ) (from to : Path) → Grown m → rename is_deep m from to ≡ Ok n → TakesBack (Moved from (target_of m from to)) m n
takes_rename is_deep m n from to t e =
    let target = target_of m from to in
    let e1 = past (same_path from []) IsRoot _ n e in
    let e2 = past (is_none (m from)) NotFound _ n e1 in
    let some : is_some (m from) ≡ true = named (m from) (through (is_none (m from)) NotFound _ n e1) in
    let place = placed_so (is_deep target) m from target (moved from target m) n e2 in
    takes_moved m n from target (λ q. same_answer (moved from target m) n q (placed_answer (is_deep target) m from target (moved from target m) n e2))
    (not_root from (through (same_path from []) IsRoot _ n e)) (nothing_under m t target place.none) some place.apart (t.above from some)

-- of two paths of one length, one begins with the other only where they are the same
as_long : (p q : Path) → begins p q ≡ true → length q ≡ length p → q ≡ p
as_long p q b len = begins_parts p q b ∙ ap (λ r. p ++ r) (none (after p q) (let l = length-append p (after p q) in let k = ap (λ (s : Path). length s) (begins_parts p q b) in omega arith)) ∙ append-nil p
  where
    none : (r : Path) → length r ≡ 0 → r ≡ []
    none [] e = refl
    none (x ∷ r) e = absurd (omega arith)

pub beside_apart : (m : Plain ℕ) (p q : Path) → is_some (m p) ≡ true → m q ≡ None → length q ≡ length p → begins p q ≡ false
beside_apart m p q some none len = by_test (begins p q) refl
  where
    by_test : (b : Bool) → begins p q ≡ b → b ≡ false
    by_test false is = refl
    by_test true is = absurd (false≢true (sym (ap is_some none) ∙ ap (λ s. is_some (m s)) (as_long p q is len) ∙ some))

one_last : (x : Name) (p : Path) → length (parent (x ∷ p)) ≡ length p
one_last x [] = refl
one_last x (y ∷ p) = let k = one_last y p in omega arith

pub beside_long : (p : Path) (name : Name) → p ≢ [] → length (beside p name) ≡ length p
beside_long [] name ne = absurd (ne refl)
beside_long (x ∷ p) name ne = let k = one_last x p in let l = length-append (parent (x ∷ p)) (name ∷ []) in omega arith

last_long : (x : Name) (p : Path) (f : Name → Name) → length (map f (last (x ∷ p))) ≡ 1
last_long x [] f = refl
last_long x (y ∷ p) f = last_long y p f

pub hidden_long : (p : Path) (moment number : ℕ) → p ≢ [] → length (hidden_path p moment number) ≡ length p
hidden_long [] moment number ne = absurd (ne refl)
hidden_long (x ∷ p) moment number ne =
    let k = one_last x p in let l = length-append (parent (x ∷ p)) (map (λ name. hidden_name moment number name) (last (x ∷ p))) in let o = last_long x p (λ name. hidden_name moment number name) in omega arith

pub takes_hide : (m n : Plain ℕ) (p : Path) (moment number : ℕ) → Grown m → hide m p moment number ≡ Ok n → TakesBack (Moved p (hidden_path p moment number)) m n
takes_hide m n p moment number t e =
    let target = hidden_path p moment number in
    let e1 = past (same_path p []) IsRoot _ n e in
    let e2 = past (is_none (m p)) NotFound _ n e1 in
    let e3 = past (is_some (m target)) Exists (Ok (moved p target m)) n e2 in
    let some : is_some (m p) ≡ true = named (m p) (through (is_none (m p)) NotFound _ n e1) in
    let none : m target ≡ None = is_not (m target) (through (is_some (m target)) Exists (Ok (moved p target m)) n e2) in
    let ne = not_root p (through (same_path p []) IsRoot _ n e) in
    takes_moved m n p target (λ q. same_answer (moved p target m) n q e3) ne (nothing_under m t target none) some (beside_apart m p target some none (hidden_long p moment number ne)) (t.above p some)

pub has_name : (p : Path) (name : Name) → old_name p ≡ Some name → p ≢ []
has_name p name e root = false≢true (ap (λ q. is_some (old_name q)) (sym root) ∙ ap is_some e)

pub takes_unhide : (m n : Plain ℕ) (p : Path) (name : Name) → Grown m → old_name p ≡ Some name → unhidden m p (Some name) ≡ Ok n → TakesBack (Moved p (beside p name)) m n
takes_unhide m n p name t old e =
    let target = beside p name in
    let e2 = past (is_none (m p)) NotFound _ n e in
    let e3 = past (is_some (m target)) Exists (Ok (moved p target m)) n e2 in
    let some : is_some (m p) ≡ true = named (m p) (through (is_none (m p)) NotFound _ n e) in
    let none : m target ≡ None = is_not (m target) (through (is_some (m target)) Exists (Ok (moved p target m)) n e2) in
    let ne = has_name p name old in
    takes_moved m n p target (λ q. same_answer (moved p target m) n q e3) ne (nothing_under m t target none) some (beside_apart m p target some none (beside_long p name ne)) (t.above p some)

-- ---- what is removed, and what is copied

pub takes_remove : (m n : Plain ℕ) (p : Path) (node : Rows ℕ) → Grown m → remove m p ≡ Ok n → ((q : Path) → m (p ++ q) ≡ at node q) → TakesBack (Removed p node) m n
takes_remove m n p node t e part =
    let e1 = past (is_none (old_name p)) NotHidden _ n e in
    let e2 = past (is_none (m p)) NotFound (Ok (without p m)) n e1 in
    let some : is_some (m p) ≡ true = named (m p) (through (is_none (m p)) NotFound (Ok (without p m)) n e1) in
    takes_removed m n p node (hidden_one p (named (old_name p) (through (is_none (old_name p)) NotHidden _ n e))) (t.above p some) (λ q. same_answer (without p m) n q e2) part
  where
    hidden_one : (q : Path) → is_some (old_name q) ≡ true → q ≢ []
    hidden_one q h root = false≢true (ap (λ r. is_some (old_name r)) (sym root) ∙ h)

pub takes_snapshot : (is_deep : Path → Bool) (m n : Plain ℕ) (from to : Path) → Grown m → snapshot is_deep m from to ≡ Ok n → TakesBack (Copied to) m n
takes_snapshot is_deep m n from to t e =
    let e1 = past (same_path from []) IsRoot _ n e in
    let e2 = past (is_none (m from)) NotFound _ n e1 in
    let some : is_some (m from) ≡ true = named (m from) (through (is_none (m from)) NotFound _ n e1) in
    let place = placed_so (is_deep to) m from to (copied from to m) n e2 in
    takes_copied m n (visible (part_at from m)) to (λ root. false≢true (sym (ap is_some place.none) ∙ ap (λ q. is_some (m q)) root ∙ ap is_some t.root)) (nothing_under m t to place.none)
    (ap (λ q. is_some (m q)) (append-nil from) ∙ some) (λ q. same_answer (copied from to m) n q (placed_answer (is_deep to) m from to (copied from to m) n e2))

pub copy_stands : (is_deep : Path → Bool) (m n : Plain ℕ) (from to : Path) → snapshot is_deep m from to ≡ Ok n → Same n (copied from to m)
copy_stands is_deep m n from to e =
    let e1 = past (same_path from []) IsRoot _ n e in
    let e2 = past (is_none (m from)) NotFound _ n e1 in λ q. same_answer (copied from to m) n q (placed_answer (is_deep to) m from to (copied from to m) n e2)

-- ---- what is made

all_stood : (m : Plain ℕ) (p : Path) → is_some (m p) ≡ true → DirsAbove m p → stood m p ≡ length p
all_stood m [] some above = refl
all_stood m (x ∷ []) some above = ap (λ b. cond b 0 1) (not_none (m (x ∷ [])) some)
  where
    not_none : (v : Option (Entry ℕ)) → is_some v ≡ true → is_none v ≡ false
    not_none None h = absurd (false≢true h)
    not_none (Some e) h = refl
all_stood m (x ∷ y ∷ p) some above =
    ap (λ v. cond (is_none v) 0 (stood (λ q. m (x ∷ q)) (y ∷ p) + 1)) above.1.0 ∙ ap (λ k. k + 1) (all_stood (λ q. m (x ∷ q)) (y ∷ p) some above.1) ∙ omega arith

record FirstMade (m : Plain ℕ) (p : Path) : Type 0 where
  short : stood m p < length p
  none : m (first_made p (stood m p)) ≡ None

first_is_free : (m : Plain ℕ) (p : Path) → is_none (m []) ≡ false → m p ≡ None → FirstMade m p
first_is_free m [] root none = absurd (false≢true (sym root ∙ ap is_none none))
first_is_free m (x ∷ p) root none = by_child (λ stands. first_is_free (λ q. m (x ∷ q)) p stands none) (is_none (m (x ∷ []))) refl
  where
    missing : (v : Option (Entry ℕ)) → is_none v ≡ true → v ≡ None
    missing None h = refl
    missing (Some e) h = absurd (false≢true h)

    by_child : (is_none (m (x ∷ [])) ≡ false → FirstMade (λ q. m (x ∷ q)) p) → (b : Bool) → is_none (m (x ∷ [])) ≡ b → FirstMade m (x ∷ p)
    by_child below true is =
        let zero_stood : stood m (x ∷ p) ≡ 0 = ap (λ b. cond b 0 (stood (λ q. m (x ∷ q)) p + 1)) is in
        record { short = omega arith; none = ap (λ k. m (first_made (x ∷ p) k)) zero_stood ∙ missing (m (x ∷ [])) is }
    by_child below false is =
        let more : stood m (x ∷ p) ≡ stood (λ q. m (x ∷ q)) p + 1 = ap (λ b. cond b 0 (stood (λ q. m (x ∷ q)) p + 1)) is in
        let rest = below is in
        let low = rest.short in
        record { short = omega arith; none = ap (λ k. m (first_made (x ∷ p) k)) more ∙ ap m (first_made-below x p (stood (λ q. m (x ∷ q)) p)) ∙ rest.none }

made_sown : (m n : Plain ℕ) (p : Path) (e : Entry ℕ) → Grown m → m p ≡ None → made m p e ≡ Ok n → IsSown m p e (length p - stood m p) n
made_sown m n p e t none h =
    let root : is_none (m []) ≡ false = ap is_none t.root in
    let first = first_is_free m p root none in
    let low = first.short in record {
      tree = λ q. same_answer (with_entry p e (with_dirs p m)) n q (past (file_above m p) NotADirectory (Ok (with_entry p e (with_dirs p m))) n h);
      no_file = through (file_above m p) NotADirectory (Ok (with_entry p e (with_dirs p m))) n h;
      stands = omega arith;
      some = omega arith;
      free = nothing_under m t (first_made p (stood m p)) first.none;
      root = root;
    }

takes_leaf : (m n : Plain ℕ) (p : Path) (leaf : Leaf) → Grown m → m p ≡ None → made m p (entry_of_leaf leaf) ≡ Ok n → TakesBack (Made p (stood m p)) m n
takes_leaf m n p leaf t none h =
    let first = first_is_free m p (ap is_none t.root) none in
    let low = first.short in
    let same : length p - (length p - stood m p) ≡ stood m p = omega arith in
    subst (λ k. TakesBack (Made p k) m n) same (takes_made m n p leaf (length p) (length p - stood m p) refl (made_sown m n p (entry_of_leaf leaf) t none h))

pub takes_create : (m n : Plain ℕ) (p : Path) → Grown m → create m p ≡ Ok n → TakesBack (Made p (stood m p)) m n
takes_create m n p t e =
    takes_leaf m n p leaves.File t (is_not (m p) (through (is_some (m p)) Exists _ n e)) (past (is_some (m p)) Exists (made m p (File [])) n e)

stands_so : (m n : Plain ℕ) (p : Path) → Grown m → m p ≡ Some Dir → mkdirs m p ≡ Ok n → Same n m
stands_so m n p t dir e q = by_answer (mkdirs m p) (mkdirs_there tt m p dir (t.above p (ap is_some dir))) e
  where
    by_answer : (r : Result (Plain ℕ) Refusal) → FollowsPlain {I = Unit {0}} r (Ok tt) m m → r ≡ Ok n → n q ≡ m q
    by_answer (Ok other) same is = same_answer other n q is ∙ sym (same q)
    by_answer (Err refusal) same is = absurd same

pub takes_mkdirs : (m n : Plain ℕ) (p : Path) → Grown m → mkdirs m p ≡ Ok n → TakesBack (Made p (stood m p)) m n
takes_mkdirs m n p t e = by_value (m p) refl
  where
    by_value : (v : Option (Entry ℕ)) → m p ≡ v → TakesBack (Made p (stood m p)) m n
    by_value None is = takes_leaf m n p leaves.Dir t is (mkdirs_missing m p is ∙ e)
    by_value (Some (File chunks)) is = absurd (false≢true (sym (through (is_file (m p)) Exists _ n e) ∙ ap is_file is))
    by_value (Some Dir) is =
        let all = all_stood m p (ap is_some is) (t.above p (ap is_some is)) in
        let same : m ≡ n = λ i q. sym (stands_so m n p t is e q) i in
        subst (λ (x : Plain ℕ). TakesBack (Made p (stood m p)) m x) same (takes_nothing m p (stood m p) all)

-- ---- the chunks of a file

pub is_a_file : (v : Option (Entry ℕ)) → is_none v ≡ false → is_dir v ≡ false → is_file v ≡ true
is_a_file None some dir = absurd (false≢true (sym some))
is_a_file (Some Dir) some dir = absurd (false≢true (sym dir))
is_a_file (Some (File chunks)) some dir = refl

pub takes_add : (m n : Plain ℕ) (p : Path) (chunk : ℕ) → add_chunk m p chunk ≡ Ok n → TakesBack (Added p) m n
takes_add m n p chunk e =
    let e1 = past (is_none (m p)) NotFound _ n e in
    let e2 = past (is_dir (m p)) IsADirectory (Ok (with_chunks p (chunks_in (m p) ++ chunk ∷ []) m)) n e1 in
    takes_added p chunk m n (is_a_file (m p) (through (is_none (m p)) NotFound _ n e) (through (is_dir (m p)) IsADirectory (Ok (with_chunks p (chunks_in (m p) ++ chunk ∷ []) m)) n e1))
    (λ q. same_answer (with_chunks p (chunks_in (m p) ++ chunk ∷ []) m) n q e2)

not_not : (b : Bool) → not b ≡ false → b ≡ true
not_not true h = refl
not_not false h = absurd (false≢true (sym h))

pub takes_set : (m n : Plain ℕ) (p : Path) (index chunk had : ℕ) → set_chunk m p index chunk ≡ Ok n → slice_get (chunks_in (m p)) index ≡ Some had → TakesBack (Changed p index had) m n
takes_set m n p index chunk had e own =
    let new = with_chunks p (slice_set (chunks_in (m p)) index chunk) m in
    let e1 = past (is_none (m p)) NotFound _ n e in
    let e2 = past (is_dir (m p)) IsADirectory _ n e1 in
    let e3 = past (not (nat_lt index (length (chunks_in (m p))))) Range (Ok new) n e2 in
    let chunks = chunks_in (m p) in
    let is : had ≡ get_or chunks index had = sym (get_or_from_slice_get chunks index had had own) in
    let again : slice_set (slice_set chunks index chunk) index had ≡ chunks = ap (slice_set (slice_set chunks index chunk) index) is ∙ set-set chunks index chunk (get_or chunks index had) ∙ set-get_or chunks index had in
    let inside = not_not (nat_lt index (length (chunks_in (m p)))) (through (not (nat_lt index (length (chunks_in (m p))))) Range (Ok new) n e2) in
    takes_changed p index chunk had m n (is_a_file (m p) (through (is_none (m p)) NotFound _ n e) (through (is_dir (m p)) IsADirectory _ n e1))
    (inside, again, (λ q. same_answer new n q e3), own)
