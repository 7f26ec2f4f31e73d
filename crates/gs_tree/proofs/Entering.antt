-- The rows of a node listed child by child.
use Rattle.std.proofs.Common.{◌≡◌, ◌&&◌, ◌++◌, ℕ, Bool, true, false, cond, T, List, [], ◌∷◌, refl, sym, ap, ◌∙◌, subst, append_assoc}
use Rattle.std.specs.Prelude.{Option, Some, None, is_some, is_none}
use Rattle.std.specs.List.{list_all}
use Rattle.std.specs.List.Sorted.{IsStrictlySortedBy}
use Rattle.std.specs.Map.{keys_of, lookup}
use Rattle.std.specs.BTreeMap.{is_at}
use Rattle.std.specs.declared.cmp.Ordering.TheVariants.{Less}
use Rattle.std.specs.Ordering.{is_lt, is_eq}
use Rattle.std.proofs.lemmas.Cmp.{tied_itself}
use Rattle.std.specs.FinMap.{is_sorted, entries, entries_sorted, from_entries, get-entries, get-from_entries}
use Rattle.std.specs.FinMap.Entries.{below_all, same_entries}
use Rattle.gs_path.specs.Path.{Name, Path, path_cmp, path_total, name_cmp, same_name}
use Rattle.gs_tree.specs.Entry.{Dir, File}
use Rattle.gs_tree.specs.Plain.{Plain}
use Rattle.gs_tree.specs.Find.{Rows, at, DirsAbove}
use Rattle.gs_tree.specs.Rows.{under, joined}
use Rattle.gs_tree.specs.Edits.{is_dir, parent, same_path}
use Rattle.gs_tree.specs.Build.{prefixed, below_root, rooted_rows, all_apart, is_short, has_place, is_tree, IsSound}
use Rattle.gs_tree.proofs.Rows.{at_child, at-joined}
use Rattle.gs_tree.proofs.Moves.{dir_above}
use Rattle.gs_tree.proofs.Depths.{paths_antisymmetric}
use Rattle.gs_tree.proofs.Levels.{less, behind_some}
use Rattle.gs_tree.proofs.Gathering.{EachRises, kept-all, rows-rise, is_true, from_true, first, second}

-- what holds of each child
abbrev pub EachChild : (Rows ℕ → Type 0) → List (Name × Rows ℕ) → Type 0
EachChild P [] = Unit {0}
EachChild P (e ∷ es) = P e.1 × EachChild P es

child-of : (P : Rows ℕ → Type 0) (es : List (Name × Rows ℕ)) (n : Name) (child : Rows ℕ) → EachChild P es → lookup (is_at (name_cmp n)) es ≡ Some child → P child
child-of P [] n child each is = absurd (cc)
child-of P (e ∷ es) n child each is =
    elim (same_name n e.0) as (λ b. cond b (Some e.1) (lookup (is_at (name_cmp n)) es) ≡ Some child → P child) [
      | true ↦ λ h. let k : e.1 ≡ child = cc in subst P k each.0
      | false ↦ λ h. child-of P es n child each.1 h
    ] is

rises-of : (es : List (Name × Rows ℕ)) → EachChild IsSound es → EachRises true es
rises-of [] each = tt
rises-of (e ∷ es) each = ((λ _. ap (is_sorted path_cmp) (kept-all e.1) ∙ each.0.rise), rises-of es each.1)

pub sound-dir : (es : List (Name × Rows ℕ)) → IsStrictlySortedBy name_cmp (keys_of es) → EachChild IsSound es → IsSound (([], Dir) ∷ joined es)
sound-dir es sorted each = record {
  rise = ap (is_sorted path_cmp) (sym (kept-all (([], Dir) ∷ joined es))) ∙ rows-rise true es sorted (rises-of es each);
  above = all;
}
  where
    below : (n : Name) (p : Path) (v : Option (Rows ℕ)) → lookup (is_at (name_cmp n)) es ≡ v → is_some (at_child v p) ≡ true → DirsAbove (λ q. at (([], Dir) ∷ joined es) (n ∷ q)) p
    below n p None is some = absurd (cc)
    below n p (Some child) is some =
        let same : (λ (q : Path). at (([], Dir) ∷ joined es) (n ∷ q)) ≡ at child = λ i q. (at-joined n q es sorted ∙ ap (λ v. at_child v q) is) i in
        let sound : IsSound child = child-of IsSound es n child each is in
        subst (λ (k : Plain ℕ). DirsAbove k p) (sym same) (sound.above p some)

    all : (q : Path) → is_some (at (([], Dir) ∷ joined es) q) ≡ true → DirsAbove (at (([], Dir) ∷ joined es)) q
    all [] some = tt
    all (n ∷ p) some = (refl, below n p (lookup (is_at (name_cmp n)) es) refl (ap is_some (sym (at-joined n p es sorted)) ∙ some))

pub sound-file : (chunks : List ℕ) → IsSound (([], File chunks) ∷ [])
sound-file chunks = record { rise = refl; above = all }
  where
    all : (q : Path) → is_some (at (([], File chunks) ∷ []) q) ≡ true → DirsAbove (at (([], File chunks) ∷ [])) q
    all [] some = tt
    all (n ∷ p) some = absurd (cc)

pub prefixed-nil : (rows : Rows ℕ) → prefixed [] rows ≡ rows
prefixed-nil [] = refl
prefixed-nil (r ∷ rows) = ap (λ l. r ∷ l) (prefixed-nil rows)

prefixed-append : (p : Path) (a b : Rows ℕ) → prefixed p (a ++ b) ≡ prefixed p a ++ prefixed p b
prefixed-append p [] b = refl
prefixed-append p (r ∷ a) b = ap (λ l. (p ++ r.0, r.1) ∷ l) (prefixed-append p a b)

prefixed-under : (p : Path) (n : Name) (rows : Rows ℕ) → prefixed p (under n rows) ≡ prefixed (p ++ n ∷ []) rows
prefixed-under p n [] = refl
prefixed-under p n (r ∷ rows) = ap (λ l. (p ++ n ∷ r.0, r.1) ∷ l) (prefixed-under p n rows) ∙ ap (λ q. (q, r.1) ∷ prefixed (p ++ n ∷ []) rows) (sym (append_assoc p (n ∷ []) r.0))

-- the loop over the children
pub record Entered (p : Path) (all left : List (Name × Rows ℕ)) (before found : Rows ℕ) : Type 0 where
  pub rows : found ++ prefixed p (joined left) ≡ before ++ prefixed p (joined all)
  pub sound : EachChild IsSound left → EachChild IsSound all

pub entered-more : (p : Path) (all : List (Name × Rows ℕ)) (e : Name × Rows ℕ) (left : List (Name × Rows ℕ)) (before found new : Rows ℕ) → new ≡ found ++ prefixed (p ++ e.0 ∷ []) e.1 → IsSound e.1 → Entered p all (e ∷ left) before found → Entered p all left before new
entered-more p all e left before found new is sound h = record {
  rows = ap (λ l. l ++ prefixed p (joined left)) is ∙ append_assoc found (prefixed (p ++ e.0 ∷ []) e.1) (prefixed p (joined left))
      ∙ ap (λ l. found ++ (l ++ prefixed p (joined left))) (sym (prefixed-under p e.0 e.1)) ∙ ap (λ l. found ++ l) (sym (prefixed-append p (under e.0 e.1) (joined left))) ∙ h.rows;
  sound = λ each. h.sound (sound, each);
}

-- paths that are sorted are apart
none_below : (p : Path) (rows : Rows ℕ) → T (below_all path_cmp p rows) → at rows p ≡ None
none_below p [] below = refl
none_below p (r ∷ rows) below =
    let behind = is_true (is_lt (path_cmp p r.0)) (first (is_lt (path_cmp p r.0)) (below_all path_cmp p rows) below) in
    ap (λ o. cond (is_eq o) (Some r.1) (at rows p)) (less (path_cmp p r.0) behind) ∙ none_below p rows (second (is_lt (path_cmp p r.0)) (below_all path_cmp p rows) below)

pub apart-of : (rows : Rows ℕ) → T (is_sorted path_cmp rows) → all_apart rows ≡ true
apart-of [] sorted = refl
apart-of (r ∷ rows) sorted =
    ap (λ v. is_none v && all_apart rows) (none_below r.0 rows (first (below_all path_cmp r.0 rows) (is_sorted path_cmp rows) sorted))
    ∙ apart-of rows (second (below_all path_cmp r.0 rows) (is_sorted path_cmp rows) sorted)

places : (m : Plain ℕ) (l : Rows ℕ) → ((q : Path) → is_some (m q) ≡ true → DirsAbove m q) → ((q : Path) → is_some (at l q) ≡ true → is_some (m q) ≡ true) → T (below_all path_cmp [] l) → list_all (λ r. has_place m r.0) l ≡ list_all (λ r. is_short r.0) l
places m [] above stands below = refl
places m (r ∷ l) above stands below =
    ap (λ b. (is_short r.0 && b) && list_all (λ s. has_place m s.0) l) (ap is_dir dir) ∙ ap (λ b. b && list_all (λ s. has_place m s.0) l) (with_true (is_short r.0))
    ∙ ap (λ b. is_short r.0 && b) (places m l above (λ q some. stands q (later q (same_path q r.0) some)) (second (is_lt (path_cmp [] r.0)) (below_all path_cmp [] l) below))
  where
    with_true : (b : Bool) → (b && true) ≡ b
    with_true true = refl
    with_true false = refl

    later : (q : Path) (b : Bool) → is_some (at l q) ≡ true → is_some (cond b (Some r.1) (at l q)) ≡ true
    later q true some = refl
    later q false some = some

    here : is_some (m r.0) ≡ true
    here = stands r.0 (ap (λ o. is_some (cond (is_eq o) (Some r.1) (at l r.0))) (tied_itself path_total r.0))

    behind : path_cmp [] r.0 ≡ Less
    behind = less (path_cmp [] r.0) (is_true (is_lt (path_cmp [] r.0)) (first (is_lt (path_cmp [] r.0)) (below_all path_cmp [] l) below))

    dir : m (parent r.0) ≡ Some Dir
    dir = dir_above m r.0 (behind_some [] r.0 behind) (above r.0 here)

-- the rows of a sound node whose root is a directory are a tree's, if they are short enough
pub sound-tree : (rows : Rows ℕ) → IsSound (rooted_rows rows) → list_all (λ r. is_short r.0) (rooted_rows rows) ≡ is_tree rows
sound-tree rows sound =
    sym (ap (λ b. b && list_all (λ r. has_place (at (rooted_rows rows)) r.0) rows) (apart-of (rooted_rows rows) (from_true (is_sorted path_cmp (rooted_rows rows)) sound.rise))
    ∙ places (at (rooted_rows rows)) rows sound.above (λ q some. root (same_path q []) q some) (first (below_all path_cmp [] rows) (is_sorted path_cmp rows) (from_true (is_sorted path_cmp (rooted_rows rows)) sound.rise)))
  where
    root : (b : Bool) (q : Path) → is_some (at rows q) ≡ true → is_some (cond b (Some Dir) (at rows q)) ≡ true
    root true q some = refl
    root false q some = some

no_root : (x : Name) (p : Path) (rows : Rows ℕ) → T (below_all path_cmp (x ∷ p) rows) → at rows [] ≡ None
no_root x p [] below = refl
no_root x p (([], e) ∷ rows) below = absurd below
no_root x p ((y ∷ q, e) ∷ rows) below = no_root x p rows (second (is_lt (path_cmp (x ∷ p) (y ∷ q))) (below_all path_cmp (x ∷ p) rows) below)

-- sound rows whose root is a directory, by those below
pub whole_rows : (rows : Rows ℕ) → IsSound rows → at rows [] ≡ Some Dir → rooted_rows (below_root rows) ≡ rows
whole_rows [] sound h = absurd (cc)
whole_rows (([], e) ∷ rows) sound h = let k : e ≡ Dir = cc in ap (λ d. ([], d) ∷ rows) (sym k)
whole_rows ((x ∷ p, e) ∷ rows) sound h =
    let sorted : T (below_all path_cmp (x ∷ p) rows && is_sorted path_cmp rows) = from_true (is_sorted path_cmp ((x ∷ p, e) ∷ rows)) sound.rise in
    let gone : at rows [] ≡ None = no_root x p rows (first (below_all path_cmp (x ∷ p) rows) (is_sorted path_cmp rows) sorted) in absurd (cc)

-- the rows of a map of sound rows
pub sound_entries : (rows : Rows ℕ) → IsSound rows → entries (from_entries {R = path_cmp} rows) ≡ rows
sound_entries rows sound =
    same_entries path_cmp path_total paths_antisymmetric (entries (from_entries rows)) rows (entries_sorted (from_entries rows)) (from_true (is_sorted path_cmp rows) sound.rise)
    (λ q. sym (get-entries (from_entries rows) q) ∙ get-from_entries path_total rows q)
