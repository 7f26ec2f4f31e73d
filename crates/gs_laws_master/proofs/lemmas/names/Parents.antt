-- Each command of a tree leaves a tree: above all that stands are directories.
use Rattle.std.proofs.Common.{◌≡◌, ◌≢◌, ◌∙◌, ◌≤◌, ◌&&◌, ◌||◌, ◌++◌, ℕ, Bool, true, false, cond, [], ◌∷◌, length, append_assoc, append-nil, zero, suc, refl, sym, ap, arith}
use Rattle.std.specs.Prelude.{Option, Some, None, is_some, is_none}
use Rattle.std.specs.List.{list_any}
use Rattle.std.proofs.lemmas.Bool.{false≢true}
use Rattle.gs_path.specs.Element.{is_hidden}
use Rattle.gs_path.specs.Path.{Name, Path, begins}
use Rattle.gs_tree.specs.Edits.{copied, file_above, is_file, moved, parent, same_path, visible, with_dirs, with_entry}
use Rattle.gs_tree.specs.Entry.{Entry, Dir, File}
use Rattle.gs_tree.specs.Find.{DirsAbove}
use Rattle.gs_tree.specs.Plain.{Plain, after, part_at, with_at, without}
use Rattle.gs_tree.proofs.Laws.{begins_append, with_at-append}
use Rattle.gs_tree.proofs.Moves.{dir_above, not_itself}
use Rattle.gs_tree.proofs.Reaching.{same_path-is}
use Rattle.gs_tree.proofs.Splice.{begins_parts}
use Rattle.gs_laws_master.proofs.lemmas.names.Grown.{Grown}

-- ---- parents

-- above what has a directory above it are directories
dirs_up : (m : Plain ℕ) (x : Name) (p : Path) → DirsAbove m (parent (x ∷ p)) → m (parent (x ∷ p)) ≡ Some Dir → DirsAbove m (x ∷ p)
dirs_up m x [] above dir = (dir, tt)
dirs_up m x (y ∷ p) above dir = (above.0, dirs_up (λ q. m (x ∷ q)) y p above.1 dir)

shorter : (x : Name) (p : Path) → length (parent (x ∷ p)) ≡ length p
shorter x [] = refl
shorter x (y ∷ p) = let k = shorter y p in omega arith

-- each parent of what stands is a directory
abbrev pub HasParents : Plain ℕ → Type 0
HasParents m = (x : Name) (p : Path) → is_some (m (x ∷ p)) ≡ true → m (parent (x ∷ p)) ≡ Some Dir

dirs_by : (n : ℕ) (m : Plain ℕ) (q : Path) → HasParents m → length q ≤ n → is_some (m q) ≡ true → DirsAbove m q
dirs_by n m [] up low some = tt
dirs_by zero m (x ∷ p) up low some = absurd (omega arith)
dirs_by (suc n) m (x ∷ p) up low some =
    let dir = up x p some in let k = shorter x p in dirs_up m x p (dirs_by n m (parent (x ∷ p)) up (omega arith) (ap is_some dir)) dir

pub grown_by : (m : Plain ℕ) → m [] ≡ Some Dir → HasParents m → Grown m
grown_by m root up = record { root = root; above = λ q some. dirs_by (length q) m q up (omega arith) some }

some_path : (x : Name) (p : Path) → x ∷ p ≢ []
some_path x p e = cc

pub grown_up : (m : Plain ℕ) → Grown m → HasParents m
grown_up m t x p some = dir_above m (x ∷ p) (some_path x p) (t.above (x ∷ p) some)

record Split (x : Name) (p : Path) : Type 0 where
  name : Name
  is : x ∷ p ≡ parent (x ∷ p) ++ name ∷ []

split : (x : Name) (p : Path) → Split x p
split x [] = record { name = x; is = refl }
split x (y ∷ p) = let s = split y p in record { name = s.name; is = ap (λ q. x ∷ q) s.is }

-- what begins a path's parent begins the path
under_parent : (a : Path) (x : Name) (p : Path) → begins a (parent (x ∷ p)) ≡ true → begins a (x ∷ p) ≡ true
under_parent a x p b =
    let s = split x p in
    ap (begins a) (s.is ∙ ap (λ q. q ++ s.name ∷ []) (begins_parts a (parent (x ∷ p)) b) ∙ append_assoc a (after a (parent (x ∷ p))) (s.name ∷ [])) ∙ begins_append a (after a (parent (x ∷ p)) ++ s.name ∷ [])

pub not_parent : (a : Path) (x : Name) (p : Path) → begins a (x ∷ p) ≡ false → begins a (parent (x ∷ p)) ≡ false
not_parent a x p out = by_test (begins a (parent (x ∷ p))) refl
  where
    by_test : (b : Bool) → begins a (parent (x ∷ p)) ≡ b → b ≡ false
    by_test true is = absurd (false≢true (sym out ∙ under_parent a x p is))
    by_test false is = refl

parent_behind : (p : Path) (x : Name) (r : Path) → parent (p ++ x ∷ r) ≡ p ++ parent (x ∷ r)
parent_behind [] x r = refl
parent_behind (y ∷ []) x [] = refl
parent_behind (y ∷ []) x (z ∷ r) = refl
parent_behind (y ∷ z ∷ p) x r = ap (λ q. y ∷ q) (parent_behind (z ∷ p) x r)

-- a path behind another has its parent there
abbrev UpAt : Plain ℕ → Path → Type 0
UpAt m q = is_some (m q) ≡ true → m (parent q) ≡ Some Dir

up_at : (m : Plain ℕ) → HasParents m → (p : Path) (x : Name) (r : Path) → UpAt m (p ++ x ∷ r)
up_at m up [] x r some = up x r some
up_at m up (y ∷ p) x r some = up y (p ++ x ∷ r) some

not_in : (p : Path) → p ≢ [] → begins p [] ≡ false
not_in [] ne = absurd (ne refl)
not_in (x ∷ p) ne = refl

-- ---- what is made

no_file_at : (m : Plain ℕ) (r : Path) (x : Name) (s : Path) → file_above m (r ++ x ∷ s) ≡ false → is_file (m r) ≡ false
no_file_at m [] x s h = left (is_file (m [])) (file_above (λ q. m (x ∷ q)) s) h
  where
    left : (a b : Bool) → (a || b) ≡ false → a ≡ false
    left true b e = absurd (false≢true (sym e))
    left false b e = refl
no_file_at m (y ∷ r) x s h = no_file_at (λ q. m (y ∷ q)) r x s (right (is_file (m [])) (file_above (λ q. m (y ∷ q)) (r ++ x ∷ s)) h)
  where
    right : (a b : Bool) → (a || b) ≡ false → b ≡ false
    right true b e = absurd (false≢true (sym e))
    right false b e = e

dir_or_none : (b : Bool) (v : Option (Entry ℕ)) → b ≡ true → is_file v ≡ false → cond (b && is_none v) (Some Dir) v ≡ Some Dir
dir_or_none b None is file = ap (λ c. cond (c && true) (Some Dir) None) is
dir_or_none b (Some Dir) is file = ap (λ c. cond (c && false) (Some Dir) (Some Dir)) is
dir_or_none b (Some (File chunks)) is file = absurd (false≢true (sym file))

dir_stays : (b : Bool) (v : Option (Entry ℕ)) → v ≡ Some Dir → cond (b && is_none v) (Some Dir) v ≡ Some Dir
dir_stays true v dir = ap (λ w. cond (true && is_none w) (Some Dir) w) dir
dir_stays false v dir = dir

pub grown_dirs : (m : Plain ℕ) (p : Path) → Grown m → file_above m p ≡ false → Grown (with_dirs p m)
grown_dirs m p t file = grown_by (with_dirs p m) (dir_stays (begins [] p) (m []) t.root) up
  where
    from_none : (b : Bool) (v : Option (Entry ℕ)) → is_none v ≡ true → is_some (cond (b && is_none v) (Some Dir) v) ≡ true → b ≡ true
    from_none true v none some = refl
    from_none false None none some = absurd (false≢true some)
    from_none false (Some e) none some = absurd (false≢true none)

    up : HasParents (with_dirs p m)
    up x q some = by_value (is_none (m (x ∷ q))) refl
      where
        is_there : (v : Option (Entry ℕ)) → is_none v ≡ false → is_some v ≡ true
        is_there None h = absurd (false≢true (sym h))
        is_there (Some e) h = refl

        by_value : (b : Bool) → is_none (m (x ∷ q)) ≡ b → with_dirs p m (parent (x ∷ q)) ≡ Some Dir
        by_value false is = dir_stays (begins (parent (x ∷ q)) p) (m (parent (x ∷ q))) (grown_up m t x q (is_there (m (x ∷ q)) is))
        by_value true is =
            let on = from_none (begins (x ∷ q) p) (m (x ∷ q)) is some in
            let s = split x q in
            let whole : p ≡ parent (x ∷ q) ++ (s.name ∷ after (x ∷ q) p) = begins_parts (x ∷ q) p on ∙ ap (λ r. r ++ after (x ∷ q) p) s.is ∙ append_assoc (parent (x ∷ q)) (s.name ∷ []) (after (x ∷ q) p) in
            dir_or_none (begins (parent (x ∷ q)) p) (m (parent (x ∷ q))) (ap (begins (parent (x ∷ q))) whole ∙ begins_append (parent (x ∷ q)) (s.name ∷ after (x ∷ q) p))
            (no_file_at m (parent (x ∷ q)) s.name (after (x ∷ q) p) (ap (file_above m) (sym whole) ∙ file))

longer_parent : (x : Name) (p : Path) → same_path (x ∷ p) (parent (x ∷ p)) ≡ false
longer_parent x p = by_test (same_path (x ∷ p) (parent (x ∷ p))) refl
  where
    by_test : (b : Bool) → same_path (x ∷ p) (parent (x ∷ p)) ≡ b → b ≡ false
    by_test false is = refl
    by_test true is = let k = ap (λ (q : Path). length q) (same_path-is (x ∷ p) (parent (x ∷ p)) is) in let l = shorter x p in absurd (omega arith)

-- another entry in the place of one, below which nothing stands unless it is a directory
pub grown_entry : (m : Plain ℕ) (y : Name) (p : Path) (e : Entry ℕ) → Grown m → is_some (m (y ∷ p)) ≡ true → ((x : Name) (q : Path) → is_some (m (x ∷ q)) ≡ true → parent (x ∷ q) ≡ y ∷ p → e ≡ Dir) → Grown (with_entry (y ∷ p) e m)
grown_entry m y p e t some leaf = grown_by (with_entry (y ∷ p) e m) t.root up
  where
    up : HasParents (with_entry (y ∷ p) e m)
    up x q stands = by_test (same_path (y ∷ p) (x ∷ q)) refl stands
      where
        at_parent : is_some (m (x ∷ q)) ≡ true → (c : Bool) → same_path (y ∷ p) (parent (x ∷ q)) ≡ c → cond c (Some e) (m (parent (x ∷ q))) ≡ Some Dir
        at_parent there true is = ap Some (leaf x q there (sym (same_path-is (y ∷ p) (parent (x ∷ q)) is)))
        at_parent there false is = grown_up m t x q there

        by_test : (b : Bool) → same_path (y ∷ p) (x ∷ q) ≡ b → is_some (cond b (Some e) (m (x ∷ q))) ≡ true → with_entry (y ∷ p) e m (parent (x ∷ q)) ≡ Some Dir
        by_test true is h = let same = same_path-is (y ∷ p) (x ∷ q) is in at_parent (ap (λ r. is_some (m r)) (sym same) ∙ some) (same_path (y ∷ p) (parent (x ∷ q))) refl
        by_test false is h = at_parent h (same_path (y ∷ p) (parent (x ∷ q))) refl

-- ---- what is moved, removed, and copied

pub grown_without : (m : Plain ℕ) (p : Path) → Grown m → p ≢ [] → Grown (without p m)
grown_without m p t ne = grown_by (without p m) (ap (λ b. cond b None (m [])) (not_in p ne) ∙ t.root) up
  where
    up : HasParents (without p m)
    up x q some = by_test (begins p (x ∷ q)) refl some
      where
        by_test : (b : Bool) → begins p (x ∷ q) ≡ b → is_some (cond b None (m (x ∷ q))) ≡ true → without p m (parent (x ∷ q)) ≡ Some Dir
        by_test true is h = absurd (false≢true h)
        by_test false is h = ap (λ b. cond b None (m (parent (x ∷ q)))) (not_parent p x q is) ∙ grown_up m t x q h

-- a part of which all parents stand takes a free place under a directory
pub grown_with : (m part : Plain ℕ) (y : Name) (to : Path) → Grown m → ((z : Name) (s : Path) → is_some (part (z ∷ s)) ≡ true → part (parent (z ∷ s)) ≡ Some Dir) → m (parent (y ∷ to)) ≡ Some Dir → Grown (with_at (y ∷ to) part m)
grown_with m part y to t parts dir = grown_by (with_at (y ∷ to) part m) t.root up
  where
    up : HasParents (with_at (y ∷ to) part m)
    up x q some = by_test (begins (y ∷ to) (x ∷ q)) refl some
      where
        behind : (r : Path) → x ∷ q ≡ (y ∷ to) ++ r → is_some (part r) ≡ true → with_at (y ∷ to) part m (parent (x ∷ q)) ≡ Some Dir
        behind [] is h =
            let same : x ∷ q ≡ y ∷ to = is ∙ append-nil (y ∷ to) in
            ap (λ r. with_at (y ∷ to) part m (parent r)) same ∙ ap (λ b. cond b (part (after (y ∷ to) (parent (y ∷ to)))) (m (parent (y ∷ to)))) (not_itself (y ∷ to) (some_path y to)) ∙ dir
        behind (z ∷ s) is h = ap (λ r. with_at (y ∷ to) part m (parent r)) is ∙ ap (with_at (y ∷ to) part m) (parent_behind (y ∷ to) z s) ∙ with_at-append (y ∷ to) part m (parent (z ∷ s)) ∙ parts z s h

        by_test : (b : Bool) → begins (y ∷ to) (x ∷ q) ≡ b → is_some (cond b (part (after (y ∷ to) (x ∷ q))) (m (x ∷ q))) ≡ true → with_at (y ∷ to) part m (parent (x ∷ q)) ≡ Some Dir
        by_test true is h = behind (after (y ∷ to) (x ∷ q)) (begins_parts (y ∷ to) (x ∷ q) is) h
        by_test false is h = ap (λ b. cond b (part (after (y ∷ to) (parent (x ∷ q)))) (m (parent (x ∷ q)))) (not_parent (y ∷ to) x q is) ∙ grown_up m t x q h

part_up : (m : Plain ℕ) (p : Path) → Grown m → (z : Name) (s : Path) → is_some (part_at p m (z ∷ s)) ≡ true → part_at p m (parent (z ∷ s)) ≡ Some Dir
part_up m p t z s some = ap m (sym (parent_behind p z s)) ∙ up_at m (grown_up m t) p z s some

pub grown_moved : (m : Plain ℕ) (from : Path) (y : Name) (to : Path) → Grown m → from ≢ [] → begins from (parent (y ∷ to)) ≡ false → m (parent (y ∷ to)) ≡ Some Dir → Grown (moved from (y ∷ to) m)
grown_moved m from y to t ne apart dir =
    grown_with (without from m) (part_at from m) y to (grown_without m from t ne) (part_up m from t) (ap (λ b. cond b None (m (parent (y ∷ to)))) apart ∙ dir)

pub grown_copied : (m : Plain ℕ) (from : Path) (y : Name) (to : Path) → Grown m → m (parent (y ∷ to)) ≡ Some Dir → Grown (copied from (y ∷ to) m)
grown_copied m from y to t dir = grown_with m (visible (part_at from m)) y to t up dir
  where
    up : (z : Name) (s : Path) → is_some (visible (part_at from m) (z ∷ s)) ≡ true → visible (part_at from m) (parent (z ∷ s)) ≡ Some Dir
    up z s some = by_test (list_any is_hidden (z ∷ s)) refl some
      where
        any_front : (a b : Path) → list_any is_hidden (a ++ b) ≡ false → list_any is_hidden a ≡ false
        any_front [] b h = refl
        any_front (x ∷ a) b h = each (is_hidden x) h (any_front a b)
          where
            each : (c : Bool) → (c || list_any is_hidden (a ++ b)) ≡ false → (list_any is_hidden (a ++ b) ≡ false → list_any is_hidden a ≡ false) → (c || list_any is_hidden a) ≡ false
            each true g rest = absurd (false≢true (sym g))
            each false g rest = rest g

        by_test : (b : Bool) → list_any is_hidden (z ∷ s) ≡ b → is_some (cond b None (m (from ++ z ∷ s))) ≡ true → visible (part_at from m) (parent (z ∷ s)) ≡ Some Dir
        by_test true is h = absurd (false≢true h)
        by_test false is h =
            let k = split z s in
            ap (λ b. cond b None (m (from ++ parent (z ∷ s)))) (any_front (parent (z ∷ s)) (k.name ∷ []) (ap (list_any is_hidden) (sym k.is) ∙ is)) ∙ part_up m from t z s h
