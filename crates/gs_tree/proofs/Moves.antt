-- Which answer a move has once the tests on its target are made, and what takes it back.
use Rattle.std.specs.FinMap.{get, from_entries, get-from_entries}
use Rattle.std.proofs.Common.{length, ℕ, ◌≢◌, ◌≡◌, inl, ◌<◌, ◌+◌, ◌-◌, Bool, true, false, cond, ◌&&◌, [], ◌∷◌, ◌++◌, refl, sym, ap, ◌∙◌, subst, arith, append-nil, List, map}
use Rattle.std.specs.Prelude.{Option, Some, None, Result, Ok, Err, is_some, is_none, ◌==◌, take, MatchBool}
use Rattle.gs_base.specs.declared.refusal.Refusal.{Refusal}
use Rattle.gs_base.specs.declared.refusal.Refusal.TheVariants.{NotFound, NotADirectory, Exists, IntoItself, BadPath}
use Rattle.gs_path.specs.Path.{Name, Path, path_cmp, path_total, begins, same_name, parent_of}
use Rattle.gs_path.specs.Element.{hidden_name, hidden_parts}
use Rattle.std.specs.Option.{option_map}
use Rattle.gs_tree.specs.Entry.{Entry, Dir}
use Rattle.gs_tree.specs.Entry as entry
use Rattle.gs_tree.specs.declared.node.Sort.{Sort}
use Rattle.gs_tree.specs.declared.node.Sort.TheVariants as sorts
use Rattle.gs_tree.specs.inner.Sort.{sort_of}
use Rattle.gs_tree.specs.Plain.{Plain, after, rooted, with_at, without, part_at, IsFree}
use Rattle.gs_tree.specs.Find.{Rows, at, DirsAbove, IsBelow, IsDepthTest}
use Rattle.gs_tree.specs.Edits.{rename, move_to, placed, moved, hide, renamed_beside, beside, old_name, snapshot, copied, parent, last, target_of, same_path, is_file, is_dir}
use Rattle.gs_tree.specs.Listing.{IsListingOf, pairs_of}
use Rattle.gs_tree.specs.declared.node.Listed.{Listed}
use Rattle.gs_tree.specs.Inverses.{TakesBack}
use Rattle.gs_tree.specs.Follows.{FollowsPlain}
use Rattle.gs_tree.specs.inner.Steps.{Lands, Relocates, TestsPlace, TestsParent, TestsTarget, IsElsewhere, IsKnown}
use Rattle.gs_tree.specs.declared.inverse.TreeInverse.TheVariants.{Moved}
use Rattle.std.proofs.lemmas.Bool.{false≢true}
use Rattle.gs_tree.proofs.Rows.{names_equiv}
use Rattle.gs_tree.proofs.Splice.{one_name}
use Rattle.gs_tree.proofs.Laws.{begins_append, with_at-append, free_at, moved-moved, not_above, restored, there, elsewhere}
use Rattle.gs_tree.proofs.Reaching.{begins-length}

-- what a tree's map has is what its rows have
pub seen : (rows : Rows ℕ) → get (from_entries {R = path_cmp} rows) ≡ at rows
seen rows = λ i q. get-from_entries path_total rows q i

pub parent-append : (p : Path) (x : Name) → parent (p ++ x ∷ []) ≡ p
parent-append [] x = refl
parent-append (y ∷ []) x = refl
parent-append (y ∷ z ∷ p) x = ap (λ r. y ∷ r) (parent-append (z ∷ p) x)

pub last-append : (p : Path) (x : Name) → last (p ++ x ∷ []) ≡ x ∷ []
last-append [] x = refl
last-append (y ∷ []) x = refl
last-append (y ∷ z ∷ p) x = last-append (z ∷ p) x

-- the answer by what the target's parent is
abbrev pub by_parent : Bool → Sort → Plain ℕ → Result (Plain ℕ) Refusal
by_parent deep sorts.Missing n = Err NotFound
by_parent deep sorts.File n = Err NotADirectory
by_parent deep sorts.Dir n = cond deep (Err BadPath) (Ok n)

by_sort : (deep : Bool) (v : Option (Entry ℕ)) (n : Plain ℕ) → cond (is_none v) (Err NotFound) (cond (is_file v) (Err NotADirectory) (cond deep (Err BadPath) (Ok n))) ≡ by_parent deep (sort_of v) n
by_sort deep None n = refl
by_sort deep (Some entry.Dir) n = refl
by_sort deep (Some (entry.File handles)) n = refl

pub nothing : (v : Option (Entry ℕ)) → sorts.Missing ≡ sort_of v → is_some v ≡ false
nothing None e = refl
nothing (Some entry.Dir) e = absurd (cc)
nothing (Some (entry.File handles)) e = absurd (cc)

pub stands_is : (v : Option (Entry ℕ)) → (sorts.Missing ≡ sort_of v → ⊥) → is_some v ≡ true
stands_is None h = absurd (h refl)
stands_is (Some e) h = refl

pub some_is : (v : Option (Entry ℕ)) → is_some v ≡ true → is_none v ≡ false
some_is None h = absurd (cc)
some_is (Some e) h = refl

pub none_is : (v : Option (Entry ℕ)) → sorts.Missing ≡ sort_of v → v ≡ None
none_is None e = refl
none_is (Some entry.Dir) e = absurd (cc)
none_is (Some (entry.File handles)) e = absurd (cc)

pub dir_is : (v : Option (Entry ℕ)) → sorts.Dir ≡ sort_of v → v ≡ Some Dir
dir_is None h = absurd (cc)
dir_is (Some entry.Dir) h = refl
dir_is (Some (entry.File handles)) h = absurd (cc)

placed-is : (deep : Bool) (m : Plain ℕ) (from to : Path) (new : Plain ℕ) → same_path to from ≡ false → begins from to ≡ false → is_some (m to) ≡ false → placed deep m from to new ≡ by_parent deep (sort_of (m (parent to))) new
placed-is deep m from to new e1 e2 e3 =
    ap (λ b. cond b (Err Exists) rest1) e1 ∙ ap (λ b. cond b (Err IntoItself) rest2) e2 ∙ ap (λ b. cond b (Err Exists) rest3) e3 ∙ by_sort deep (m (parent to)) new
  where
    rest3 : Result (Plain ℕ) Refusal
    rest3 = cond (is_none (m (parent to))) (Err NotFound) (cond (is_file (m (parent to))) (Err NotADirectory) (cond deep (Err BadPath) (Ok new)))

    rest2 : Result (Plain ℕ) Refusal
    rest2 = cond (is_some (m to)) (Err Exists) rest3

    rest1 : Result (Plain ℕ) Refusal
    rest1 = cond (begins from to) (Err IntoItself) rest2

-- the same with what the code tested: s is the sort of the target's parent
pub answer : (deep : Bool) (m : Plain ℕ) (from to par : Path) (x : Name) (s : Sort) (new : Plain ℕ) → same_path to from ≡ false → begins from to ≡ false → sorts.Missing ≡ sort_of (m to) → to ≡ par ++ x ∷ [] → s ≡ sort_of (m par) → placed deep m from to new ≡ by_parent deep s new
answer deep m from to par x s new e1 e2 e3 split is =
    placed-is deep m from to new e1 e2 (nothing (m to) e3) ∙ ap (λ v. by_parent deep v new) (ap (λ p. sort_of (m p)) (ap parent split ∙ parent-append par x) ∙ sym is)

-- the same where what stands at the parent was seen in another tree
pub told : (deep : Bool) (one m : Plain ℕ) (from to par : Path) (x : Name) (s : Sort) (new : Plain ℕ) → to ≡ par ++ x ∷ [] → s ≡ sort_of (one par) → one (parent to) ≡ m (parent to) → same_path to from ≡ false → begins from to ≡ false → m to ≡ None → placed deep m from to new ≡ by_parent deep s new
told deep one m from to par x s new split is same e1 e2 e3 =
    let up : parent to ≡ par = ap parent split ∙ parent-append par x in
    answer deep m from to par x s new e1 e2 (ap sort_of (sym e3)) split (is ∙ ap sort_of (ap one (sym up) ∙ same ∙ ap m up))

-- a target under a directory has to be free, and short enough
pub open_answer : (deep : Bool) (m : Plain ℕ) (from to : Path) (new : Plain ℕ) → same_path to from ≡ false → begins from to ≡ false → m (parent to) ≡ Some Dir → placed deep m from to new ≡ cond (is_some (m to)) (Err Exists) (cond deep (Err BadPath) (Ok new))
open_answer deep m from to new e1 e2 dir =
    ap (λ b. cond b (Err Exists) rest1) e1 ∙ ap (λ b. cond b (Err IntoItself) (rest2 (m (parent to)))) e2 ∙ ap rest2 dir
  where
    rest2 : Option (Entry ℕ) → Result (Plain ℕ) Refusal
    rest2 v = cond (is_some (m to)) (Err Exists) (cond (is_none v) (Err NotFound) (cond (is_file v) (Err NotADirectory) (cond deep (Err BadPath) (Ok new))))

    rest1 : Result (Plain ℕ) Refusal
    rest1 = cond (begins from to) (Err IntoItself) (rest2 (m (parent to)))

pub parent_last : (p : Path) → parent p ++ last p ≡ p
parent_last [] = refl
parent_last (x ∷ []) = refl
parent_last (x ∷ y ∷ p) = ap (λ r. x ∷ r) (parent_last (y ∷ p))

pub above_apart : (from to : Path) → begins from to ≡ false → begins from (parent to ++ last to) ≡ false
above_apart from to apart = ap (begins from) (parent_last to) ∙ apart

-- the test of the parent is the last one of a free target
pub parent_target : (r : Result (Unit {0}) Refusal) (m one : Plain ℕ) (from to : Path) → IsElsewhere from m one → same_path to from ≡ false → begins from to ≡ false → m to ≡ None → TestsParent one to r → TestsTarget m from to r
parent_target (Ok u) m one from to same e1 e2 none h =
    let dir = sym (same (parent to) (last to) (above_apart from to e2)) ∙ h in record { apart = e2; dir = dir; answer = λ deep new. open_answer deep m from to new e1 e2 dir }
parent_target (Err e) m one from to same e1 e2 none h = λ deep new. h deep from m new (same (parent to) (last to) (above_apart from to e2)) e1 e2 none

pub parent_place : (r : Result (Unit {0}) Refusal) (m : Plain ℕ) (from to : Path) → same_path to from ≡ false → begins from to ≡ false → IsFree m to → TestsParent m to r → TestsPlace m from to r
parent_place (Ok u) m from to e1 e2 free h =
    let none : m to ≡ None = ap m (sym (append-nil to)) ∙ free [] in record {
      apart = e2;
      free = free;
      dir = h;
      answer = λ deep new. open_answer deep m from to new e1 e2 h ∙ ap (λ v. cond (is_some v) (Err Exists) (cond deep (Err BadPath) (Ok new))) none;
    }
parent_place (Err e) m from to e1 e2 free h = λ deep new. h deep from m new refl e1 e2 (ap m (sym (append-nil to)) ∙ free [])

pub into_dir : (m : Plain ℕ) (from to par : Path) (x : Name) → sorts.Dir ≡ sort_of (m to) → from ≡ par ++ x ∷ [] → to ++ x ∷ [] ≡ target_of m from to
into_dir m from to par x e split = sym (ap (λ b. cond b (to ++ last from) to) (ap is_dir (dir_is (m to) e)) ∙ ap (λ l. to ++ l) (ap last split ∙ last-append par x))

parent_into : (to from : Path) → from ≢ [] → parent (to ++ last from) ≡ to
parent_into to [] ne = absurd (ne refl)
parent_into to (x ∷ []) ne = parent-append to x
parent_into to (x ∷ y ∷ p) ne = parent_into to (y ∷ p) (λ e. cc)

file_is : (v : Option (Entry ℕ)) → sorts.File ≡ sort_of v → is_dir v ≡ false
file_is None e = absurd (cc)
file_is (Some entry.Dir) e = absurd (cc)
file_is (Some (entry.File handles)) e = refl

-- what is known of a rename's target by what was found where it leads
pub known_of : (m : Plain ℕ) (from to : Path) (found : Sort) → from ≢ [] → found ≡ sort_of (m to) → IsKnown m (target_of m from to) found
known_of m from to sorts.Missing ne e = let none = none_is (m to) e in ap m (ap (λ v. cond (is_dir v) (to ++ last from) to) none) ∙ none
known_of m from to sorts.File ne e =
    ap (λ p. is_some (m p)) (ap (λ b. cond b (to ++ last from) to) (file_is (m to) e)) ∙ stands_is (m to) (λ z. let k : sorts.File ≡ sorts.Missing = e ∙ sym z in cc)
known_of m from to sorts.Dir ne e =
    let dir = dir_is (m to) e in ap m (ap (λ v. parent (cond (is_dir v) (to ++ last from) to)) dir ∙ parent_into to from ne) ∙ dir

pub rename-is : (deep : Bool) (m : Plain ℕ) (from to : Path) → (from ≢ []) → is_some (m from) ≡ true → rename (λ _. deep) m from to ≡ move_to deep m from (target_of m from to)
rename-is deep m [] to h g = absurd (h refl)
rename-is deep m (x ∷ from) to h g = ap (λ b. cond b (Err NotFound) (move_to deep m (x ∷ from) (target_of m (x ∷ from) to))) (some_is (m (x ∷ from)) g)

pub missing-is : (deep : Bool) (m : Plain ℕ) (from to : Path) → (from ≢ []) → m from ≡ None → rename (λ _. deep) m from to ≡ Err NotFound
missing-is deep m [] to h e = absurd (h refl)
missing-is deep m (x ∷ from) to h e = ap (λ v. cond (is_none v) (Err NotFound) (move_to deep m (x ∷ from) (target_of m (x ∷ from) to))) e

pub not_empty : (p p' : Path) (b : Bool) → p' ≡ p → b ≡ (length p' == 0) → b ≡ false → p ≢ []
not_empty p p' b e h f z = let k : p' ≡ [] = e ∙ z in let m : (length p' == 0) ≡ true = ap (λ (q : Path). length q == 0) k in cc

pub append_some : (par : Path) (x : Name) → par ++ x ∷ [] ≢ []
append_some [] x e = cc
append_some (y ∷ par) x e = cc

-- a directory stands at the parent of what stands
pub dir_above : (m : Plain ℕ) (p : Path) → p ≢ [] → DirsAbove m p → m (parent p) ≡ Some Dir
dir_above m [] ne h = absurd (ne refl)
dir_above m (x ∷ []) ne h = h.0
dir_above m (x ∷ y ∷ p) ne h = dir_above (λ q. m (x ∷ q)) (y ∷ p) (λ e. cc) h.1

pub parent-shorter : (p : Path) → p ≢ [] → length (parent p) < length p
parent-shorter [] ne = absurd (ne refl)
parent-shorter (x ∷ []) ne = omega arith
parent-shorter (x ∷ y ∷ p) ne = let l = parent-shorter (y ∷ p) (λ e. cc) in omega arith

pub not_itself : (p : Path) → p ≢ [] → begins p (parent p) ≡ false
not_itself p ne = elim (begins p (parent p)) as (λ b. begins p (parent p) ≡ b → b ≡ false) [
  | true ↦ λ b. let l = begins-length p (parent p) b in let k = parent-shorter p ne in absurd (omega arith)
  | false ↦ λ b. refl
] refl

-- what is free isn't a front of what stands
pub not_front : (m : Plain ℕ) (to p : Path) → IsFree m to → is_some (m p) ≡ true → begins to p ≡ false
not_front m to p free some = elim (begins to p) as (λ b. begins to p ≡ b → b ≡ false) [
  | true ↦ λ b. let n : is_some (m p) ≡ false = ap is_some (free_at m to p free b) in absurd (cc)
  | false ↦ λ b. refl
] refl

-- a move is taken back by the move the other way
pub takes_moved : (m new : Plain ℕ) (from to : Path) → ((q : Path) → new q ≡ moved from to m q) → from ≢ [] → IsFree m to → is_some (m from) ≡ true → begins from to ≡ false → DirsAbove m from → TakesBack (Moved from to) m new
takes_moved m new from to is ne free some apart above =
    let dir = dir_above m from ne above in
    let seen_to : new to ≡ m from = ap new (sym (append-nil to)) ∙ is (to ++ []) ∙ with_at-append to (part_at from m) (without from m) [] ∙ ap m (append-nil from) in
    let gone = λ (r : Path). is (from ++ r) ∙ ap (λ b. cond b (m (from ++ after to (from ++ r))) (without from m (from ++ r))) (not_above m from to free some apart r) ∙ ap (λ b. cond b None (m (from ++ r))) (begins_append from r) in
    let stays = is (parent from) ∙ ap (λ b. cond b (m (from ++ after to (parent from))) (without from m (parent from))) (not_front m to (parent from) free (ap is_some dir)) ∙ ap (λ b. cond b None (m (parent from))) (not_itself from ne) ∙ dir in
    let now : new ≡ moved from to m = λ i q. is q i in record {
      fits = (ap is_some seen_to ∙ some, not_front m to from free some, gone, stays);
      back = λ q. ap (λ (n : Plain ℕ). moved to from n q) now ∙ moved-moved m from to free q;
    }

-- what a test of depth says where all is short enough, and where it isn't
pub deep_false : (deep : Bool) (m : Plain ℕ) (from to : Path) → IsDepthTest deep m from to → IsBelow (65 - length to) (part_at from m) → deep ≡ false
deep_false true m from to h below = let l = below h.0 h.1.0 in let k = h.1.1 in absurd (omega arith)
deep_false false m from to h below = refl

within : (to q : Path) → (64 < length to + length q → ⊥) → length q < 65 - length to
within to q k = omega (arith, k)

pub deep_true : (deep : Bool) (m : Plain ℕ) (from to : Path) → IsDepthTest deep m from to → (IsBelow (65 - length to) (part_at from m) → ⊥) → deep ≡ true
deep_true true m from to h never = refl
deep_true false m from to h never = absurd (never (λ q some. within to q (λ l. h (q, (some, l)))))

-- a test of a node's depth is one of what stands at the source
pub depth_of : (b : Bool) (limit n : ℕ) (m node : Plain ℕ) (from : Path) → limit ≡ 65 - n → ((q : Path) → m (from ++ q) ≡ node q) → MatchBool b (IsBelow limit node) (IsBelow limit node → ⊥) → MatchBool b (IsBelow (65 - n) (part_at from m)) (IsBelow (65 - n) (part_at from m) → ⊥)
depth_of b limit n m node from e part h =
    let is : node ≡ part_at from m = λ i q. sym (part q) i in
    subst (λ l. MatchBool b (IsBelow l (part_at from m)) (IsBelow l (part_at from m) → ⊥)) e (subst (λ (k : Plain ℕ). MatchBool b (IsBelow limit k) (IsBelow limit k → ⊥)) is h)

-- of two names in a directory, one begins with the other only where they are the same
beside_begins : (par : Path) (x y : Name) → begins (par ++ x ∷ []) (par ++ y ∷ []) ≡ same_name x y
beside_begins [] x y = elim (same_name x y) as (λ b. (b && true) ≡ b) [ true ↦ refl | false ↦ refl ]
beside_begins (z ∷ par) x y = ap (λ b. b && begins (par ++ x ∷ []) (par ++ y ∷ [])) (names_equiv.refl z) ∙ beside_begins par x y

parent_taken : (x : Name) (p : Path) → parent (x ∷ p) ≡ take (length p) (x ∷ p)
parent_taken x [] = refl
parent_taken x (y ∷ p) = ap (λ r. x ∷ r) (parent_taken y p)

pub parent_is : (p par : Path) → parent_of p ≡ Some par → par ≡ parent p
parent_is [] par e = absurd (cc)
parent_is (x ∷ p) par e = let k : take (length p) (x ∷ p) ≡ par = cc in sym (parent_taken x p ∙ k)

-- what stands at p takes another name in its directory
pub beside_is : (m : Plain ℕ) (p : Path) (name : Name) → is_some (m p) ≡ true → renamed_beside m p name ≡ cond (is_some (m (beside p name))) (Err Exists) (Ok (moved p (beside p name) m))
beside_is m p name stands = ap (λ b. cond b (Err NotFound) (cond (is_some (m (beside p name))) (Err Exists) (Ok (moved p (beside p name) m)))) (some_is (m p) stands)

pub beside_taken : (m : Plain ℕ) (p : Path) (name : Name) → is_some (m p) ≡ true → beside p name ≡ p → renamed_beside m p name ≡ Err Exists
beside_taken m p name stands e = beside_is m p name stands ∙ ap (λ b. cond b (Err Exists) (Ok (moved p (beside p name) m))) (ap (λ q. is_some (m q)) e ∙ stands)

-- another name
pub beside_apart : (p par : Path) (x name : Name) → p ≡ par ++ x ∷ [] → same_name x name ≡ false → begins p (beside p name) ≡ false
beside_apart p par x name split other =
    ap (λ q. begins q (beside q name)) split ∙ ap (λ q. begins (par ++ x ∷ []) (q ++ name ∷ [])) (parent-append par x) ∙ beside_begins par x name ∙ other

-- the same name
pub beside_same : (p par : Path) (x name : Name) → p ≡ par ++ x ∷ [] → same_name x name ≡ true → beside p name ≡ p
beside_same p par x name split same =
    ap (λ q. parent q ++ name ∷ []) split ∙ ap (λ q. q ++ name ∷ []) (parent-append par x) ∙ ap (λ n. par ++ n ∷ []) (sym (one_name x name same)) ∙ sym split

pub root_alone : (q : Path) → at {A = ℕ} (([], Dir) ∷ []) q ≡ rooted q
root_alone [] = refl
root_alone (x ∷ q) = refl

-- a node was taken from p, where an empty directory stands in its place now
pub record Lifted (m node one : Plain ℕ) (p : Path) : Type 0 where
  pub back : with_at p node one ≡ m
  pub holds : is_some (one p) ≡ true
  pub place : (q : Path) → one (p ++ q) ≡ rooted q
  pub stands : is_some (m p) ≡ true
  pub above : DirsAbove m p
  pub others : (q r : Path) → begins p (q ++ r) ≡ false → one q ≡ m q

pub lifted : (m node one : Plain ℕ) (new : Rows ℕ) (p p' : Path) → p' ≡ p → new ≡ ([], Dir) ∷ [] → true ≡ is_some (m p') → DirsAbove m p' → ((q : Path) → m (p' ++ q) ≡ node q) → ((q : Path) → one q ≡ with_at p' (at new) m q) → Lifted m node one p
lifted m node one new p p' e is some above part now =
    subst (Lifted m node one) e (record {
      back = restored m p' (at new) node one now part;
      holds = ap is_some (there m (at new) one p' now ∙ ap (λ r. at r []) is);
      place = λ q. now (p' ++ q) ∙ with_at-append p' (at new) m q ∙ ap (λ r. at r q) is ∙ root_alone q;
      stands = sym some;
      above = above;
      others = λ q r apart. elsewhere m (at new) one p' q r now apart;
    })

-- to hide is to rename beside
pub hide-beside : (m : Plain ℕ) (p par : Path) (x : Name) (moment number : ℕ) → p ≡ par ++ x ∷ [] → hide m p moment number ≡ renamed_beside m p (hidden_name moment number x)
hide-beside m [] par x moment number e = absurd (append_some par x (sym e))
hide-beside m (y ∷ p) par x moment number e =
    ap (λ l. cond (is_none (m (y ∷ p))) (Err NotFound) (cond (is_some (m (parent (y ∷ p) ++ map (λ n. hidden_name moment number n) l))) (Err Exists) (Ok (moved (y ∷ p) (parent (y ∷ p) ++ map (λ n. hidden_name moment number n) l) m))))
    (ap last e ∙ last-append par x)

pub old_name-append : (par : Path) (x : Name) → old_name (par ++ x ∷ []) ≡ option_map (λ parts. parts.2) (hidden_parts x)
old_name-append [] x = refl
old_name-append (y ∷ []) x = refl
old_name-append (y ∷ z ∷ p) x = old_name-append (z ∷ p) x

-- a refusal that the plain tree gives
pub refused : (I : Type 0) {r : Result (Plain ℕ) Refusal} (f : Refusal) (old : Plain ℕ) → r ≡ Err f → FollowsPlain {I = I} r (Err f) old old
refused I f old e = subst (λ (s : Result (Plain ℕ) Refusal). FollowsPlain {I = I} s (Err f) old old) (sym e) (inl refl, λ q. refl)

pub snapshot-is : (deep : Bool) (m : Plain ℕ) (from to : Path) → (from ≢ []) → is_some (m from) ≡ true → snapshot (λ _. deep) m from to ≡ placed deep m from to (copied from to m)
snapshot-is deep m [] to h g = absurd (h refl)
snapshot-is deep m (x ∷ from) to h g = ap (λ b. cond b (Err NotFound) (placed deep m (x ∷ from) to (copied (x ∷ from) to m))) (some_is (m (x ∷ from)) g)

pub snapshot-missing : (deep : Bool) (m : Plain ℕ) (from to : Path) → (from ≢ []) → m from ≡ None → snapshot (λ _. deep) m from to ≡ Err NotFound
snapshot-missing deep m [] to h e = absurd (h refl)
snapshot-missing deep m (x ∷ from) to h e = ap (λ v. cond (is_none v) (Err NotFound) (placed deep m (x ∷ from) to (copied (x ∷ from) to m))) e

pub is_dir_some : (v : Option (Entry ℕ)) → is_dir v ≡ true → v ≡ Some Dir
is_dir_some None e = absurd (cc)
is_dir_some (Some entry.Dir) e = refl
is_dir_some (Some (entry.File chunks)) e = absurd (cc)

pub file_listing : (v : Option (Entry ℕ)) (m : Plain ℕ) (p : Path) (listed : List Listed) → is_some v ≡ true → is_dir v ≡ false → pairs_of listed ≡ map (λ name. (name, false)) (last p) → IsListingOf v m p listed
file_listing None m p listed some dir h = absurd (cc)
file_listing (Some entry.Dir) m p listed some dir h = absurd (cc)
file_listing (Some (entry.File chunks)) m p listed some dir h = h

-- a move that found its place free
pub relocated : (m n : Plain ℕ) (from to : Path) (b : Bool) → b ≡ true → Relocates m from to (Ok b) n → IsFree m to × ((q : Path) → n q ≡ moved from to m q)
relocated m n from to true is h = h
relocated m n from to false is h = absurd (false≢true is)

-- one that didn't
pub taken : (m n : Plain ℕ) (from to : Path) (b : Bool) → b ≡ false → Relocates m from to (Ok b) n → (is_some (m to) ≡ true) × ((q : Path) → n q ≡ m q)
taken m n from to true is h = absurd (false≢true (sym is))
taken m n from to false is h = h

-- a node that was put at its place
pub put_there : (m node n : Plain ℕ) (from to : Path) (b : Bool) → b ≡ true → Lands m node from to (Ok b) n → IsFree m to × ((q : Path) → n q ≡ with_at to node m q)
put_there m node n from to true is h = h
put_there m node n from to false is h = absurd (false≢true is)
