-- What each command leaves of a tree: a tree, whose paths have the elements of the old ones and of the command's.
use Rattle.std.proofs.Common.{◌≡◌, ◌≢◌, ◌∙◌, ◌&&◌, ◌++◌, ℕ, Bool, true, false, cond, not, List, [], ◌∷◌, map, length, nat_lt, slice_set, append-nil, refl, sym, ap, subst}
use Rattle.std.specs.Prelude.{Option, Some, None, Result, Ok, is_some, is_none}
use Rattle.std.specs.List.{list_all, list_any}
use Rattle.std.proofs.lemmas.Bool.{false≢true, and_parts}
use Rattle.gs_base.specs.declared.refusal.Refusal.{Refusal}
use Rattle.gs_base.specs.declared.refusal.Refusal.TheVariants.{Exists, IntoItself, IsADirectory, IsRoot, NotADirectory, NotFound, NotHidden, Range}
use Rattle.gs_path.specs.Element.{hidden_name, is_hidden}
use Rattle.gs_path.specs.Path.{Name, Path, begins}
use Rattle.gs_tree.specs.Edits.{add_chunk, beside, chunks_in, copied, create, file_above, hidden_path, hide, is_dir, is_file, last, made, mkdirs, moved, old_name, parent, placed, remove, rename, same_path, set_chunk, snapshot, target_of, unhidden, visible, with_chunks, with_dirs, with_entry}
use Rattle.gs_tree.specs.Entry.{Entry, Dir, File}
use Rattle.gs_tree.specs.Plain.{Plain, after, part_at, with_at, without}
use Rattle.gs_tree.proofs.Apart.{past, placed_answer, through}
use Rattle.gs_tree.proofs.Laws.{begins_append}
use Rattle.gs_tree.proofs.Levels.{both_true}
use Rattle.gs_tree.proofs.Moves.{dir_above, not_itself}
use Rattle.gs_tree.proofs.Reaching.{same_path-is}
use Rattle.gs_tree.proofs.Removals.{named}
use Rattle.gs_tree.proofs.Splice.{begins_parts}
use Rattle.gs_laws_master.proofs.lemmas.names.Grown.{Grown, beside_apart, beside_long, has_name, hidden_long, is_a_file, is_not, not_root}
use Rattle.gs_laws_master.proofs.lemmas.names.Parents.{grown_copied, grown_dirs, grown_entry, grown_moved, grown_up, grown_without, not_parent}

-- ---- what a command gives

ok_plain : {a b : Plain ℕ} → ◌≡◌ {A = Result (Plain ℕ) Refusal} (Ok a) (Ok b) → b ≡ a
ok_plain e = sym (let k = e in cc)

pub record IsMade (m : Plain ℕ) (p : Path) (n : Plain ℕ) : Type 0 where
  pub no_file : file_above m p ≡ false
  pub none : m p ≡ None
  pub is : n ≡ with_entry p (File []) (with_dirs p m)

pub record AreDirs (m : Plain ℕ) (p : Path) (n : Plain ℕ) : Type 0 where
  pub no_file : file_above m p ≡ false
  pub is : n ≡ with_dirs p m

-- something stands at a path below the root, and moves to a free place under a directory
pub record IsMoved (m : Plain ℕ) (from to : Path) (n : Plain ℕ) : Type 0 where
  pub below : from ≢ []
  pub stands : is_some (m from) ≡ true
  pub apart : begins from to ≡ false
  pub none : m to ≡ None
  pub dir : m (parent to) ≡ Some Dir
  pub is : n ≡ moved from to m

pub record IsGone (m : Plain ℕ) (p : Path) (n : Plain ℕ) : Type 0 where
  pub below : p ≢ []
  pub is : n ≡ without p m

pub record HasChunks (m : Plain ℕ) (p : Path) (n : Plain ℕ) : Type 0 where
  pub file : is_file (m p) ≡ true
  pub chunks : List ℕ
  pub is : n ≡ with_entry p (File chunks) m

pub record IsCopied (m : Plain ℕ) (from to : Path) (n : Plain ℕ) : Type 0 where
  pub stands : is_some (m from) ≡ true
  pub none : m to ≡ None
  pub dir : m (parent to) ≡ Some Dir
  pub is : n ≡ copied from to m

pub mkdirs_gives : (m n : Plain ℕ) (p : Path) → mkdirs m p ≡ Ok n → AreDirs m p n
mkdirs_gives m n p e =
    let e1 = past (file_above m p) NotADirectory (Ok (with_dirs p m)) n (past (is_file (m p)) Exists _ n e) in
    record { no_file = through (file_above m p) NotADirectory (Ok (with_dirs p m)) n (past (is_file (m p)) Exists _ n e); is = ok_plain e1 }

pub create_gives : (m n : Plain ℕ) (p : Path) → create m p ≡ Ok n → IsMade m p n
create_gives m n p e =
    let new = with_entry p (File []) (with_dirs p m) in
    let e1 = past (is_some (m p)) Exists (made m p (File [])) n e in
    record { no_file = through (file_above m p) NotADirectory (Ok new) n e1; none = is_not (m p) (through (is_some (m p)) Exists _ n e); is = ok_plain (past (file_above m p) NotADirectory (Ok new) n e1) }

dir_of : (v : Option (Entry ℕ)) → is_none v ≡ false → is_file v ≡ false → v ≡ Some Dir
dir_of None some file = absurd (false≢true (sym some))
dir_of (Some Dir) some file = refl
dir_of (Some (File chunks)) some file = absurd (false≢true (sym file))

record IsPlaced (m : Plain ℕ) (from to : Path) (new n : Plain ℕ) : Type 0 where
  apart : begins from to ≡ false
  none : m to ≡ None
  dir : m (parent to) ≡ Some Dir
  is : n ≡ new

placed_gives : (deep : Bool) (m : Plain ℕ) (from to : Path) (new n : Plain ℕ) → placed deep m from to new ≡ Ok n → IsPlaced m from to new n
placed_gives deep m from to new n h =
    let h1 = past (same_path to from) Exists _ n h in
    let h2 = past (begins from to) IntoItself _ n h1 in
    let h3 = past (is_some (m to)) Exists _ n h2 in
    let h4 = past (is_none (m (parent to))) NotFound _ n h3 in
    record {
      apart = through (begins from to) IntoItself _ n h1;
      none = is_not (m to) (through (is_some (m to)) Exists _ n h2);
      dir = dir_of (m (parent to)) (through (is_none (m (parent to))) NotFound _ n h3) (through (is_file (m (parent to))) NotADirectory _ n h4);
      is = ok_plain (placed_answer deep m from to new n h);
    }

pub rename_gives : (is_deep : Path → Bool) (m n : Plain ℕ) (from to : Path) → rename is_deep m from to ≡ Ok n → IsMoved m from (target_of m from to) n
rename_gives is_deep m n from to e =
    let target = target_of m from to in
    let e1 = past (same_path from []) IsRoot _ n e in
    let p = placed_gives (is_deep target) m from target (moved from target m) n (past (is_none (m from)) NotFound _ n e1) in
    record {
      below = not_root from (through (same_path from []) IsRoot _ n e);
      stands = named (m from) (through (is_none (m from)) NotFound _ n e1);
      apart = p.apart;
      none = p.none;
      dir = p.dir;
      is = p.is;
    }

append_parent : (p : Path) (x : Name) → parent (p ++ x ∷ []) ≡ p
append_parent [] x = refl
append_parent (y ∷ []) x = refl
append_parent (y ∷ z ∷ p) x = ap (λ q. y ∷ q) (append_parent (z ∷ p) x)

hidden_parent : (x : Name) (p : Path) (moment number : ℕ) → parent (hidden_path (x ∷ p) moment number) ≡ parent (x ∷ p)
hidden_parent x p moment number = one (last (x ∷ p)) (has_last x p)
  where
    has_last : (y : Name) (q : Path) → (z : Name) × (last (y ∷ q) ≡ z ∷ [])
    has_last y [] = (y, refl)
    has_last y (w ∷ q) = has_last w q

    one : (l : Path) → (z : Name) × (l ≡ z ∷ []) → parent (parent (x ∷ p) ++ map (λ name. hidden_name moment number name) l) ≡ parent (x ∷ p)
    one l (z, is) = ap (λ (k : Path). parent (parent (x ∷ p) ++ map (λ name. hidden_name moment number name) k)) is ∙ append_parent (parent (x ∷ p)) (hidden_name moment number z)

aside_gives : (m n : Plain ℕ) (p target : Path) → Grown m → p ≢ [] → is_some (m p) ≡ true → m target ≡ None → begins p target ≡ false → parent target ≡ parent p → n ≡ moved p target m → IsMoved m p target n
aside_gives m n p target t ne some none apart same is =
    record { below = ne; stands = some; apart = apart; none = none; dir = ap m same ∙ dir_above m p ne (t.above p some); is = is }

pub hide_gives : (m n : Plain ℕ) (p : Path) (moment number : ℕ) → Grown m → hide m p moment number ≡ Ok n → IsMoved m p (hidden_path p moment number) n
hide_gives m n [] moment number t e = absurd (let h = e in cc)
hide_gives m n (x ∷ p) moment number t e =
    let target = hidden_path (x ∷ p) moment number in
    let ne = not_root (x ∷ p) (through (same_path (x ∷ p) []) IsRoot _ n e) in
    let e1 = past (same_path (x ∷ p) []) IsRoot _ n e in
    let e2 = past (is_none (m (x ∷ p))) NotFound _ n e1 in
    let some = named (m (x ∷ p)) (through (is_none (m (x ∷ p))) NotFound _ n e1) in
    let none = is_not (m target) (through (is_some (m target)) Exists (Ok (moved (x ∷ p) target m)) n e2) in
    aside_gives m n (x ∷ p) target t ne some none (beside_apart m (x ∷ p) target some none (hidden_long (x ∷ p) moment number ne)) (hidden_parent x p moment number)
    (ok_plain (past (is_some (m target)) Exists (Ok (moved (x ∷ p) target m)) n e2))

pub unhide_gives : (m n : Plain ℕ) (p : Path) (name : Name) → Grown m → old_name p ≡ Some name → unhidden m p (Some name) ≡ Ok n → IsMoved m p (beside p name) n
unhide_gives m n p name t old e =
    let target = beside p name in
    let ne = has_name p name old in
    let e2 = past (is_none (m p)) NotFound _ n e in
    let some = named (m p) (through (is_none (m p)) NotFound _ n e) in
    let none = is_not (m target) (through (is_some (m target)) Exists (Ok (moved p target m)) n e2) in
    aside_gives m n p target t ne some none (beside_apart m p target some none (beside_long p name ne)) (append_parent (parent p) name) (ok_plain (past (is_some (m target)) Exists (Ok (moved p target m)) n e2))

pub remove_gives : (m n : Plain ℕ) (p : Path) → remove m p ≡ Ok n → IsGone m p n
remove_gives m n p e =
    let e1 = past (is_none (old_name p)) NotHidden _ n e in
    record { below = hidden_one p (named (old_name p) (through (is_none (old_name p)) NotHidden _ n e)); is = ok_plain (past (is_none (m p)) NotFound (Ok (without p m)) n e1) }
  where
    hidden_one : (q : Path) → is_some (old_name q) ≡ true → q ≢ []
    hidden_one q h root = false≢true (ap (λ r. is_some (old_name r)) (sym root) ∙ h)

pub add_gives : (m n : Plain ℕ) (p : Path) (chunk : ℕ) → add_chunk m p chunk ≡ Ok n → HasChunks m p n
add_gives m n p chunk e =
    let new = with_chunks p (chunks_in (m p) ++ chunk ∷ []) m in
    let e1 = past (is_none (m p)) NotFound _ n e in
    record {
      file = is_a_file (m p) (through (is_none (m p)) NotFound _ n e) (through (is_dir (m p)) IsADirectory (Ok new) n e1);
      chunks = chunks_in (m p) ++ chunk ∷ [];
      is = ok_plain (past (is_dir (m p)) IsADirectory (Ok new) n e1);
    }

pub set_gives : (m n : Plain ℕ) (p : Path) (index chunk : ℕ) → set_chunk m p index chunk ≡ Ok n → HasChunks m p n
set_gives m n p index chunk e =
    let new = with_chunks p (slice_set (chunks_in (m p)) index chunk) m in
    let e1 = past (is_none (m p)) NotFound _ n e in
    let e2 = past (is_dir (m p)) IsADirectory _ n e1 in
    record {
      file = is_a_file (m p) (through (is_none (m p)) NotFound _ n e) (through (is_dir (m p)) IsADirectory _ n e1);
      chunks = slice_set (chunks_in (m p)) index chunk;
      is = ok_plain (past (not (nat_lt index (length (chunks_in (m p))))) Range (Ok new) n e2);
    }

pub snapshot_gives : (is_deep : Path → Bool) (m n : Plain ℕ) (from to : Path) → snapshot is_deep m from to ≡ Ok n → IsCopied m from to n
snapshot_gives is_deep m n from to e =
    let e1 = past (same_path from []) IsRoot _ n e in
    let p = placed_gives (is_deep to) m from to (copied from to m) n (past (is_none (m from)) NotFound _ n e1) in
    record { stands = named (m from) (through (is_none (m from)) NotFound _ n e1); none = p.none; dir = p.dir; is = p.is }

-- ---- it is a tree

as_grown : {m n : Plain ℕ} → n ≡ m → Grown m → Grown n
as_grown is t = subst (λ (x : Plain ℕ). Grown x) (sym is) t

none_at_root : (m : Plain ℕ) (p : Path) → Grown m → m p ≡ None → p ≢ []
none_at_root m p t none root = false≢true (sym (ap is_some none) ∙ ap (λ q. is_some (m q)) root ∙ ap is_some t.root)

pub tree_dirs : (m n : Plain ℕ) (p : Path) → Grown m → AreDirs m p n → Grown n
tree_dirs m n p t d = as_grown d.is (grown_dirs m p t d.no_file)

pub tree_made : (m n : Plain ℕ) (p : Path) → Grown m → IsMade m p n → Grown n
tree_made m n [] t d = absurd (none_at_root m [] t d.none refl)
tree_made m n (y ∷ p) t d = as_grown d.is (grown_entry (with_dirs (y ∷ p) m) y p (File []) (grown_dirs m (y ∷ p) t d.no_file) stands leaf)
  where
    stands : is_some (with_dirs (y ∷ p) m (y ∷ p)) ≡ true
    stands = ap (λ b. is_some (cond (b && is_none (m (y ∷ p))) (Some Dir) (m (y ∷ p)))) (itself (y ∷ p)) ∙ ap (λ v. is_some (cond (true && is_none v) (Some Dir) v)) d.none
      where
        itself : (q : Path) → begins q q ≡ true
        itself q = ap (begins q) (sym (append-nil q)) ∙ begins_append q []

    leaf : (x : Name) (q : Path) → is_some (with_dirs (y ∷ p) m (x ∷ q)) ≡ true → parent (x ∷ q) ≡ y ∷ p → ◌≡◌ {A = Entry ℕ} (File []) Dir
    leaf x q some up = by_test (begins (x ∷ q) (y ∷ p)) refl some
      where
        by_test : (b : Bool) → begins (x ∷ q) (y ∷ p) ≡ b → is_some (cond (b && is_none (m (x ∷ q))) (Some Dir) (m (x ∷ q))) ≡ true → ◌≡◌ {A = Entry ℕ} (File []) Dir
        by_test true is h = absurd (false≢true (sym (not_itself (x ∷ q) (λ k. cc)) ∙ ap (begins (x ∷ q)) up ∙ is))
        by_test false is h = absurd (false≢true (sym (ap is_some d.none) ∙ ap (λ r. is_some (m r)) (sym up) ∙ ap is_some (grown_up m t x q h)))

pub tree_moved : (m n : Plain ℕ) (from to : Path) → Grown m → IsMoved m from to n → Grown n
tree_moved m n from [] t d = absurd (none_at_root m [] t d.none refl)
tree_moved m n from (y ∷ to) t d = as_grown d.is (grown_moved m from y to t d.below apart d.dir)
  where
    apart : begins from (parent (y ∷ to)) ≡ false
    apart = not_parent from y to d.apart

pub tree_gone : (m n : Plain ℕ) (p : Path) → Grown m → IsGone m p n → Grown n
tree_gone m n p t d = as_grown d.is (grown_without m p t d.below)

pub tree_chunks : (m n : Plain ℕ) (p : Path) → Grown m → HasChunks m p n → Grown n
tree_chunks m n [] t d = absurd (false≢true (ap is_file (sym t.root) ∙ d.file))
tree_chunks m n (y ∷ p) t d = as_grown d.is (grown_entry m y p (File d.chunks) t (some_file (m (y ∷ p)) d.file) (λ x q some up. absurd (false≢true (ap is_file (sym (sym (ap m up) ∙ grown_up m t x q some)) ∙ d.file))))
  where
    some_file : (v : Option (Entry ℕ)) → is_file v ≡ true → is_some v ≡ true
    some_file None h = absurd (false≢true h)
    some_file (Some e) h = refl

pub tree_copied : (m n : Plain ℕ) (from to : Path) → Grown m → IsCopied m from to n → Grown n
tree_copied m n from [] t d = absurd (none_at_root m [] t d.none refl)
tree_copied m n from (y ∷ to) t d = as_grown d.is (grown_copied m from y to t d.dir)

-- ---- what holds of each element of each path

abbrev pub EachName : (Name → Bool) → Plain ℕ → Type 0
EachName f m = (q : Path) → is_some (m q) ≡ true → list_all f q ≡ true

all_parts : (f : Name → Bool) (a b : Path) → list_all f (a ++ b) ≡ true → (list_all f a ≡ true) × (list_all f b ≡ true)
all_parts f [] b h = (refl, h)
all_parts f (x ∷ a) b h =
    let parts = and_parts (f x) (list_all f (a ++ b)) h in
    let rest = all_parts f a b parts.1 in (both_true (f x) (list_all f a) parts.0 rest.0, rest.1)

pub all_join : (f : Name → Bool) (a b : Path) → list_all f a ≡ true → list_all f b ≡ true → list_all f (a ++ b) ≡ true
all_join f [] b h g = g
all_join f (x ∷ a) b h g = let parts = and_parts (f x) (list_all f a) h in both_true (f x) (list_all f (a ++ b)) parts.0 (all_join f a b parts.1 g)

pub all_parent : (f : Name → Bool) (p : Path) → list_all f p ≡ true → list_all f (parent p) ≡ true
all_parent f [] h = refl
all_parent f (x ∷ []) h = refl
all_parent f (x ∷ y ∷ p) h = let parts = and_parts (f x) (list_all f (y ∷ p)) h in both_true (f x) (list_all f (parent (y ∷ p))) parts.0 (all_parent f (y ∷ p) parts.1)

pub all_last : (f : Name → Bool) (p : Path) → list_all f p ≡ true → list_all f (last p) ≡ true
all_last f [] h = refl
all_last f (x ∷ []) h = h
all_last f (x ∷ y ∷ p) h = all_last f (y ∷ p) (and_parts (f x) (list_all f (y ∷ p)) h).1

-- hidden beside it, under a name that holds it too
pub all_hidden : (f g : Name → Bool) (p : Path) (moment number : ℕ) → list_all f p ≡ true → list_all g p ≡ true → ((x : Name) → g x ≡ true → f (hidden_name moment number x) ≡ true) → list_all f (hidden_path p moment number) ≡ true
all_hidden f g p moment number h k holds = all_join f (parent p) (map (λ name. hidden_name moment number name) (last p)) (all_parent f p h) (each (last p) (all_last g p k))
  where
    each : (q : Path) → list_all g q ≡ true → list_all f (map (λ name. hidden_name moment number name) q) ≡ true
    each [] h = refl
    each (x ∷ q) h = let parts = and_parts (g x) (list_all g q) h in both_true (f (hidden_name moment number x)) (list_all f (map (λ name. hidden_name moment number name) q)) (holds x parts.0) (each q parts.1)

pub all_beside : (f : Name → Bool) (p : Path) (name : Name) → list_all f p ≡ true → f name ≡ true → list_all f (beside p name) ≡ true
all_beside f p name h k = all_join f (parent p) (name ∷ []) (all_parent f p h) (both_true (f name) true k refl)

pub all_target : (f : Name → Bool) (m : Plain ℕ) (from to : Path) → EachName f m → is_some (m from) ≡ true → list_all f to ≡ true → list_all f (target_of m from to) ≡ true
all_target f m from to all some h = by_test (is_dir (m to))
  where
    by_test : (b : Bool) → list_all f (cond b (to ++ last from) to) ≡ true
    by_test true = all_join f to (last from) h (all_last f from (all from some))
    by_test false = h

as_each : (f : Name → Bool) {m n : Plain ℕ} → n ≡ m → EachName f m → EachName f n
as_each f is all = subst (λ (x : Plain ℕ). EachName f x) (sym is) all

names_dirs : (f : Name → Bool) (m : Plain ℕ) (p : Path) → EachName f m → list_all f p ≡ true → EachName f (with_dirs p m)
names_dirs f m p all h q some = by_test (begins q p) refl some
  where
    value : (v : Option (Entry ℕ)) → m q ≡ v → begins q p ≡ true → list_all f q ≡ true
    value v is on = (all_parts f q (after q p) (ap (list_all f) (sym (begins_parts q p on)) ∙ h)).0

    by_test : (b : Bool) → begins q p ≡ b → is_some (cond (b && is_none (m q)) (Some Dir) (m q)) ≡ true → list_all f q ≡ true
    by_test true is k = value (m q) refl is
    by_test false is k = all q k

names_entry : (f : Name → Bool) (m : Plain ℕ) (p : Path) (e : Entry ℕ) → EachName f m → list_all f p ≡ true → EachName f (with_entry p e m)
names_entry f m p e all h q some = by_test (same_path p q) refl some
  where
    by_test : (b : Bool) → same_path p q ≡ b → is_some (cond b (Some e) (m q)) ≡ true → list_all f q ≡ true
    by_test true is k = ap (list_all f) (sym (same_path-is p q is)) ∙ h
    by_test false is k = all q k

names_without : (f : Name → Bool) (m : Plain ℕ) (p : Path) → EachName f m → EachName f (without p m)
names_without f m p all q some = by_test (begins p q) some
  where
    by_test : (b : Bool) → is_some (cond b None (m q)) ≡ true → list_all f q ≡ true
    by_test true k = absurd (false≢true k)
    by_test false k = all q k

names_with : (f : Name → Bool) (m part : Plain ℕ) (to : Path) → EachName f m → EachName f part → list_all f to ≡ true → EachName f (with_at to part m)
names_with f m part to all parts h q some = by_test (begins to q) refl some
  where
    by_test : (b : Bool) → begins to q ≡ b → is_some (cond b (part (after to q)) (m q)) ≡ true → list_all f q ≡ true
    by_test true is k = ap (list_all f) (begins_parts to q is) ∙ all_join f to (after to q) h (parts (after to q) k)
    by_test false is k = all q k

names_part : (f : Name → Bool) (m : Plain ℕ) (p : Path) → EachName f m → EachName f (part_at p m)
names_part f m p all q some = (all_parts f p q (all (p ++ q) some)).1

names_visible : (f : Name → Bool) (m : Plain ℕ) → EachName f m → EachName f (visible m)
names_visible f m all q some = by_test (list_any is_hidden q) some
  where
    by_test : (b : Bool) → is_some (cond b None (m q)) ≡ true → list_all f q ≡ true
    by_test true k = absurd (false≢true k)
    by_test false k = all q k

pub each_dirs : (f : Name → Bool) (m n : Plain ℕ) (p : Path) → EachName f m → AreDirs m p n → list_all f p ≡ true → EachName f n
each_dirs f m n p all d h = as_each f d.is (names_dirs f m p all h)

pub each_made : (f : Name → Bool) (m n : Plain ℕ) (p : Path) → EachName f m → IsMade m p n → list_all f p ≡ true → EachName f n
each_made f m n p all d h = as_each f d.is (names_entry f (with_dirs p m) p (File []) (names_dirs f m p all h) h)

pub each_moved : (f : Name → Bool) (m n : Plain ℕ) (from to : Path) → EachName f m → IsMoved m from to n → list_all f to ≡ true → EachName f n
each_moved f m n from to all d h = as_each f d.is (names_with f (without from m) (part_at from m) to (names_without f m from all) (names_part f m from all) h)

pub each_gone : (f : Name → Bool) (m n : Plain ℕ) (p : Path) → EachName f m → IsGone m p n → EachName f n
each_gone f m n p all d = as_each f d.is (names_without f m p all)

pub each_chunks : (f : Name → Bool) (m n : Plain ℕ) (p : Path) → EachName f m → HasChunks m p n → EachName f n
each_chunks f m n p all d = as_each f d.is (names_entry f m p (File d.chunks) all (all p (some_file (m p) d.file)))
  where
    some_file : (v : Option (Entry ℕ)) → is_file v ≡ true → is_some v ≡ true
    some_file None h = absurd (false≢true h)
    some_file (Some e) h = refl

pub each_copied : (f : Name → Bool) (m n : Plain ℕ) (from to : Path) → EachName f m → IsCopied m from to n → list_all f to ≡ true → EachName f n
each_copied f m n from to all d h = as_each f d.is (names_with f m (visible (part_at from m)) to all (names_visible f (part_at from m) (names_part f m from all)) h)
