-- How long the paths below a node are.
use Rattle.std.proofs.Common.{◌≡◌, ◌+◌, ◌<◌, ◌≤◌, ℕ, true, false, cond, ◌&&◌, ◌⊎◌, inl, inr, List, [], ◌∷◌, length, max, min, refl, sym, ap, ◌∙◌, subst, arith}
use Rattle.std.specs.Prelude.{Option, Some, None, is_none, is_some}
use Rattle.std.specs.Cmp.{Equal-is}
use Rattle.std.specs.FinMap.{slice_cmp-IsAntisymmetric, nat_cmp-IsAntisymmetric}
use Rattle.gs_path.specs.Path.{Name, Path, same_name, begins, path_cmp, name_cmp}
use Rattle.gs_tree.specs.Entry.{Entry, Dir, File}
use Rattle.gs_tree.specs.Plain.{Plain, without}
use Rattle.gs_tree.specs.Find.{Rows, at}
use Rattle.std.specs.BTreeMap.{BTreeMap, IsOrdered, is_at}
use Rattle.std.specs.Map.{lookup}
use Rattle.std.specs.Prelude.{Vec}
use Rattle.std.specs.declared.alloc.Global.{Global}
use Rattle.gs_tree.specs.Rows.{Reaches, IsNode, IsRooted, rows_of, joined}
use Rattle.gs_tree.specs.Inverses.{row_of}
use Rattle.gs_tree.specs.declared.node.Kind.{Kind}
use Rattle.gs_tree.specs.declared.node.Kind.TheVariants as kinds
use Rattle.gs_tree.specs.Edits.{same_path}
use Rattle.gs_tree.proofs.Splice.{splice, Updates, at-updated}
use Rattle.gs_tree.proofs.Sowing.{leafed}

-- a directory with one child changed
pub reaches_splice : (x : Name) (child : Rows ℕ) (f new : Plain ℕ) (r s c n : ℕ) → ((q : Path) → new q ≡ splice x (Some child) f q) → Reaches r f → Reaches c (at child) → s ≡ min (c + 1) 255 → n ≡ max r s → Reaches n new
reaches_splice x child f new r s c n is old below e1 e2 small [] some = omega arith
reaches_splice x child f new r s c n is old below e1 e2 small (y ∷ p) some =
    elim (same_name x y) as (λ b. is_some (cond b (at child p) (f (y ∷ p))) ≡ true → length (y ∷ p) ≤ n) [
      | true ↦ λ h. let c_small : c < 255 = omega arith in let k = below c_small p h in omega arith
      | false ↦ λ h. let r_small : r < 255 = omega arith in let k = old r_small (y ∷ p) h in omega arith
    ] (ap is_some (sym (is (y ∷ p))) ∙ some)

pub reaches_less : (f new : Plain ℕ) (n : ℕ) → ((q : Path) → is_some (new q) ≡ true → is_some (f q) ≡ true) → Reaches n f → Reaches n new
reaches_less f new n h old small q some = old small q (h q some)

pub reaches_without : (p : Path) (f new : Plain ℕ) (n : ℕ) → ((q : Path) → new q ≡ without p f q) → Reaches n f → Reaches n new
reaches_without p f new n is = reaches_less f new n (λ q some.
    elim (begins p q) as (λ b. is_some (cond b None (f q)) ≡ true → is_some (f q) ≡ true) [
      | true ↦ λ h. cc
      | false ↦ λ h. h
    ] (ap is_some (sym (is q)) ∙ some))

pub same_path-is : (p q : Path) → same_path p q ≡ true → p ≡ q
same_path-is p q e = slice_cmp-IsAntisymmetric (slice_cmp-IsAntisymmetric nat_cmp-IsAntisymmetric) p q ((Equal-is (path_cmp p q)).0 e)

pub begins-length : (p q : Path) → begins p q ≡ true → length p ≤ length q
begins-length [] q h = omega arith
begins-length (x ∷ p) [] h = absurd (cc)
begins-length (x ∷ p) (y ∷ q) h =
    elim (same_name x y) as (λ b. (b && begins p q) ≡ true → length (x ∷ p) ≤ length (y ∷ q)) [
      | true ↦ λ k. let l = begins-length p q k in omega arith
      | false ↦ λ k. absurd (cc)
    ] h

-- something made at a path, with what is above it
pub leafed-stands : (p : Path) (e : Entry ℕ) (f : Plain ℕ) (q : Path) → is_some (leafed p e f q) ≡ true → (length q ≤ length p) ⊎ (is_some (f q) ≡ true)
leafed-stands p e f q some =
    elim (same_path p q) as (λ b. same_path p q ≡ b → is_some (cond b (Some e) (cond (begins q p && is_none (f q)) (Some Dir) (f q))) ≡ true → (length q ≤ length p) ⊎ (is_some (f q) ≡ true)) [
      | true ↦ λ b h. let l : length p ≡ length q = ap length (same_path-is p q b) in inl (omega arith)
      | false ↦ λ b h. elim (begins q p) as (λ d. begins q p ≡ d → is_some (cond (d && is_none (f q)) (Some Dir) (f q)) ≡ true → (length q ≤ length p) ⊎ (is_some (f q) ≡ true)) [
        | true ↦ λ d k. inl (begins-length q p d)
        | false ↦ λ d k. inr k
      ] refl h
    ] refl some

pub reaches_leafed : (p : Path) (e : Entry ℕ) (f new : Plain ℕ) (r s n : ℕ) → ((q : Path) → new q ≡ leafed p e f q) → Reaches r f → (s < 255 → length p ≤ s) → n ≡ max r s → Reaches n new
reaches_leafed p e f new r s n is old long e2 small q some =
    elim (leafed-stands p e f q (ap is_some (sym (is q)) ∙ some)) [
      | inl h ↦ let s_small : s < 255 = omega arith in let k = long s_small in omega arith
      | inr h ↦ let r_small : r < 255 = omega arith in let k = old r_small q h in omega arith
    ]

-- a file, or an empty directory
pub reaches_leaf : (e : Entry ℕ) (n : ℕ) → Reaches n (at (([], e) ∷ []))
reaches_leaf e n small [] some = omega arith
reaches_leaf e n small (y ∷ p) some = absurd (cc)

reaches_seen : {m : Rows ℕ} (k : Kind) (n : ℕ) → rows_of k ≡ m → Reaches n (at (rows_of k)) → Reaches n (at m)
reaches_seen k n view h = subst (λ r. Reaches n (at r)) view h

-- a child that changes stands still
pub rooted_updated : {m : Rows ℕ} {old new : BTreeMap Name (Rows ℕ)} {x : Name} (w : Option (Rows ℕ)) → Updates m old new x w → IsRooted (kinds.Dir old) → ((child : Rows ℕ) → w ≡ Some child → is_some (at child []) ≡ true) → IsRooted (kinds.Dir new)
rooted_updated {old = old} {x = x} w u h stands n child is =
    elim (same_name x n) as (λ b. cond b w (lookup (is_at (name_cmp n)) old.entries) ≡ Some child → is_some (at child []) ≡ true) [
      | true ↦ λ e. stands child e
      | false ↦ λ e. h n child e
    ] (sym (u.lookups n) ∙ is)

pub one_child : (a child : Rows ℕ) → is_some (at a []) ≡ true → Some a ≡ Some child → is_some (at child []) ≡ true
one_child a child h e = let k : a ≡ child = cc in subst (λ r. is_some (at r []) ≡ true) k h

-- a node whose one child has changed
pub node_spliced : {m : Rows ℕ} {old new : BTreeMap Name (Rows ℕ)} {x : Name} {child : Rows ℕ} (k : Kind) (r s c n : ℕ) → Updates m old new x (Some child) → rows_of k ≡ m → IsNode r k → k ≡ kinds.Dir old → Reaches c (at child) → is_some (at child []) ≡ true → s ≡ min (c + 1) 255 → n ≡ max r s → IsNode n (kinds.Dir new)
node_spliced {m = m} {new = new} {x = x} {child = child} k r s c n u view node is below stands e1 e2 = record {
  level = u.ordered;
  rooted = rooted_updated (Some child) u (subst IsRooted is node.rooted) (λ a e. one_child child a stands e);
  reaches = reaches_splice x child (at m) (at (rows_of (kinds.Dir new))) r s c n (at-updated u) (reaches_seen k r view node.reaches) below e1 e2;
}

-- a node that lost what stood at a path
pub node_without : {m : Rows ℕ} {old new : BTreeMap Name (Rows ℕ)} {x : Name} {w : Option (Rows ℕ)} (k : Kind) (n : ℕ) (p : Path) → Updates m old new x w → rows_of k ≡ m → IsNode n k → k ≡ kinds.Dir old → ((child : Rows ℕ) → w ≡ Some child → is_some (at child []) ≡ true) → ((q : Path) → at (rows_of (kinds.Dir new)) q ≡ without p (at m) q) → IsNode n (kinds.Dir new)
node_without {m = m} {new = new} {w = w} k n p u view node dir stands is = record {
  level = u.ordered;
  rooted = rooted_updated w u (subst IsRooted dir node.rooted) stands;
  reaches = reaches_without p (at m) (at (rows_of (kinds.Dir new))) n is (reaches_seen k n view node.reaches);
}

-- a node with something made below
pub node_leafed : {m : Rows ℕ} {old new : BTreeMap Name (Rows ℕ)} {x : Name} {w : Option (Rows ℕ)} (k : Kind) (r s n : ℕ) (p : Path) (e : Entry ℕ) → Updates m old new x w → rows_of k ≡ m → IsNode r k → k ≡ kinds.Dir old → ((child : Rows ℕ) → w ≡ Some child → is_some (at child []) ≡ true) → ((q : Path) → at (rows_of (kinds.Dir new)) q ≡ leafed p e (at m) q) → (s < 255 → length p ≤ s) → n ≡ max r s → IsNode n (kinds.Dir new)
node_leafed {m = m} {new = new} {w = w} k r s n p e u view node dir stands is long e2 = record {
  level = u.ordered;
  rooted = rooted_updated w u (subst IsRooted dir node.rooted) stands;
  reaches = reaches_leafed p e (at m) (at (rows_of (kinds.Dir new))) r s n is (reaches_seen k r view node.reaches) long e2;
}

pub node_blank_dir : (children : BTreeMap Name (Rows ℕ)) → children.entries ≡ [] → IsOrdered name_cmp children → IsNode 0 (kinds.Dir children)
node_blank_dir children empty ordered = record {
  level = ordered;
  rooted = λ n child is. let none : lookup (is_at (name_cmp n)) children.entries ≡ None = ap (lookup (is_at (name_cmp n))) empty in cc;
  reaches = subst (λ (es : List (Name × Rows ℕ)). Reaches 0 (at (([], Dir) ∷ joined es))) (sym empty) (reaches_leaf Dir 0);
}

pub node_blank_file : (handles : Vec ℕ Global) → IsNode 0 (kinds.File handles)
node_blank_file handles = record { level = tt; rooted = tt; reaches = reaches_leaf (File handles.items) 0 }

-- directories in a row
pub node_row : (children : BTreeMap Name (Rows ℕ)) (p : Path) (e : Entry ℕ) (n : ℕ) → IsOrdered name_cmp children → IsRooted (kinds.Dir children) → ((q : Path) → at (rows_of (kinds.Dir children)) q ≡ row_of p e q) → (n < 255 → length p ≤ n) → IsNode n (kinds.Dir children)
node_row children p e n ordered rooted is long = record { level = ordered; rooted = rooted; reaches = λ small q some. row_within q small (ap is_some (sym (is q)) ∙ some) }
  where
    dir : Option (Entry ℕ)
    dir = Some Dir

    row_within : (q : Path) → n < 255 → is_some (row_of p e q) ≡ true → length q ≤ n
    row_within q small some = elim (same_path p q) as (λ b. same_path p q ≡ b → is_some (cond b (Some e) (cond (begins q p) (Some Dir) None)) ≡ true → length q ≤ n) [
      | true ↦ λ b h. let k = long small in let l : length p ≡ length q = ap length (same_path-is p q b) in omega arith
      | false ↦ λ b h. elim (begins q p) as (λ d. begins q p ≡ d → is_some (cond d dir None) ≡ true → length q ≤ n) [
        | true ↦ λ d h2. let k = long small in let l = begins-length q p d in omega arith
        | false ↦ λ d h2. absurd (cc)
      ] refl h
    ] refl some

-- what is made in a row stands at its root
pub row_stands : (below : Rows ℕ) (p : Path) (e : Entry ℕ) → ((q : Path) → at below q ≡ row_of p e q) → is_some (at below []) ≡ true
row_stands below [] e is = ap is_some (is [])
row_stands below (x ∷ p) e is = ap is_some (is [])

-- a node of one child
pub rooted_one : (old new : BTreeMap Name (Rows ℕ)) (x : Name) (below : Rows ℕ) → old.entries ≡ [] → ((n : Name) → lookup (is_at (name_cmp n)) new.entries ≡ cond (same_name x n) (Some below) (lookup (is_at (name_cmp n)) old.entries)) → is_some (at below []) ≡ true → IsRooted (kinds.Dir new)
rooted_one old new x below empty lookups stands n child is =
    elim (same_name x n) as (λ b. cond b (Some below) (lookup (is_at (name_cmp n)) old.entries) ≡ Some child → is_some (at child []) ≡ true) [
      | true ↦ λ e. one_child below child stands e
      | false ↦ λ e. let none : lookup (is_at (name_cmp n)) old.entries ≡ None = ap (lookup (is_at (name_cmp n))) empty in absurd (cc)
    ] (sym (lookups n) ∙ is)

pub pruned_stands : (p : Path) (f new : Plain ℕ) → (p ≡ [] → ⊥) → ((q : Path) → new q ≡ without p f q) → is_some (f []) ≡ true → is_some (new []) ≡ true
pruned_stands [] f new ne is some = absurd (ne refl)
pruned_stands (x ∷ p) f new ne is some = ap is_some (is []) ∙ some

pub node_entries : (old new : BTreeMap Name (Rows ℕ)) (n : ℕ) → new.entries ≡ old.entries → IsOrdered name_cmp new → IsNode n (kinds.Dir old) → IsNode n (kinds.Dir new)
node_entries old new n same ordered node = record {
  level = ordered;
  rooted = λ x child is. node.rooted x child (ap (lookup (is_at (name_cmp x))) (sym same) ∙ is);
  reaches = subst (λ (es : List (Name × Rows ℕ)). Reaches n (at (([], Dir) ∷ joined es))) (sym same) node.reaches;
}
