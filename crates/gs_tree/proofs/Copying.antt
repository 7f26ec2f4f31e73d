-- A directory copied child by child.
use Rattle.std.proofs.Common.{◌≡◌, ℕ, Bool, true, false, not, ◌&&◌, ◌||◌, cond, List, [], ◌∷◌, refl, sym, ap, ◌∙◌}
use Rattle.std.specs.Prelude.{Option, Some, None, is_some}
use Rattle.std.specs.List.Sorted.{IsStrictlySortedBy}
use Rattle.std.specs.Map.{lookup, keys_of}
use Rattle.std.specs.BTreeMap.{BTreeMap, is_at, IsOrdered}
use Rattle.gs_path.specs.Path.{Name, Path, same_name, name_cmp}
use Rattle.std.specs.List.{list_any}
use Rattle.gs_path.specs.Element.{is_hidden}
use Rattle.gs_tree.specs.Entry.{Entry, Dir, File}
use Rattle.gs_tree.specs.Find.{Rows, at}
use Rattle.gs_tree.specs.Rows.{rows_of, IsNode, IsRooted}
use Rattle.gs_tree.specs.declared.node.Kind.TheVariants as kinds
use Rattle.gs_tree.proofs.Rows.{at-joined, at_child, sorted_tail, none_after, names_equiv}
use Rattle.gs_tree.proofs.Splice.{one_name}
use Rattle.gs_tree.proofs.Reaching.{one_child}

-- what is kept at a path of what stands there
abbrev pub seen : Bool → Path → Option (Entry ℕ) → Option (Entry ℕ)
seen keep q v = cond (not keep && list_any is_hidden q) None v

seen_none : (keep : Bool) (q : Path) → seen keep q None ≡ None
seen_none keep q = each (not keep && list_any is_hidden q)
  where
    each : (b : Bool) → ◌≡◌ {A = Option (Entry ℕ)} (cond b None None) None
    each true = refl
    each false = refl

seen_root : (keep : Bool) (v : Option (Entry ℕ)) → seen keep [] v ≡ v
seen_root true v = refl
seen_root false v = refl

pub seen_some : (keep : Bool) (q : Path) (v : Option (Entry ℕ)) → is_some (seen keep q v) ≡ true → is_some v ≡ true
seen_some keep q v h = each (not keep && list_any is_hidden q) h
  where
    each : (b : Bool) → is_some (cond b None v) ≡ true → is_some v ≡ true
    each true k = absurd (cc)
    each false k = k

-- a child that isn't hidden, or of which all is kept
seen_below : (keep : Bool) (n : Name) (p : Path) (v : Option (Entry ℕ)) → (not keep && is_hidden n) ≡ false → seen keep (n ∷ p) v ≡ seen keep p v
seen_below true n p v h = refl
seen_below false n p v h = ap (λ b. cond (b || list_any is_hidden p) None v) h

seen_hidden : (keep : Bool) (n : Name) (p : Path) (v : Option (Entry ℕ)) → (not keep && is_hidden n) ≡ true → seen keep (n ∷ p) v ≡ None
seen_hidden true n p v h = absurd (cc)
seen_hidden false n p v h = ap (λ b. cond (b || list_any is_hidden p) None v) h

-- what a name's child has at a path: as long as it isn't copied that of what is left, else that of the copies
abbrev pub so_far : Bool → Name → Option (Rows ℕ) → Option (Rows ℕ) → Path → Option (Entry ℕ)
so_far keep n None copy p = at_child copy p
so_far keep n (Some rows) copy p = seen keep (n ∷ p) (at rows p)

pub record CopiedFrom (keep : Bool) (all left : List (Name × Rows ℕ)) (copies : BTreeMap Name (Rows ℕ)) : Type 0 where
  pub sorted : IsStrictlySortedBy name_cmp (keys_of left)
  pub ordered : IsOrdered name_cmp copies
  pub rooted : IsRooted (kinds.Dir copies)
  pub none : (n : Name) → (not keep && is_hidden n) ≡ true → lookup (is_at (name_cmp n)) copies.entries ≡ None
  pub same : (n : Name) (p : Path) → seen keep (n ∷ p) (at_child (lookup (is_at (name_cmp n)) all) p) ≡ so_far keep n (lookup (is_at (name_cmp n)) left) (lookup (is_at (name_cmp n)) copies.entries) p

pub copied_none : (keep : Bool) (all : List (Name × Rows ℕ)) (copies : BTreeMap Name (Rows ℕ)) → IsStrictlySortedBy name_cmp (keys_of all) → IsOrdered name_cmp copies → copies.entries ≡ [] → CopiedFrom keep all all copies
copied_none keep all copies sorted ordered empty = record {
  sorted = sorted;
  ordered = ordered;
  rooted = λ n child is. let none : lookup (is_at (name_cmp n)) copies.entries ≡ None = ap (lookup (is_at (name_cmp n))) empty in absurd (cc);
  none = λ n h. ap (lookup (is_at (name_cmp n))) empty;
  same = λ n p. start n p (lookup (is_at (name_cmp n)) all) refl;
}
  where
    start : (n : Name) (p : Path) (v : Option (Rows ℕ)) → lookup (is_at (name_cmp n)) all ≡ v → seen keep (n ∷ p) (at_child v p) ≡ so_far keep n v (lookup (is_at (name_cmp n)) copies.entries) p
    start n p None is = seen_none keep (n ∷ p) ∙ sym (ap (λ es. at_child (lookup (is_at (name_cmp n)) es) p) empty)
    start n p (Some rows) is = refl

-- a child is copied
pub copied_more : (keep : Bool) (all : List (Name × Rows ℕ)) (e : Name × Rows ℕ) (left : List (Name × Rows ℕ)) (old new : BTreeMap Name (Rows ℕ)) (copy : Rows ℕ) → (not keep && is_hidden e.0) ≡ false → CopiedFrom keep all (e ∷ left) old → IsOrdered name_cmp new
    → ((n : Name) → lookup (is_at (name_cmp n)) new.entries ≡ cond (same_name e.0 n) (Some copy) (lookup (is_at (name_cmp n)) old.entries)) → ((p : Path) → at copy p ≡ seen keep p (at e.1 p)) → is_some (at copy []) ≡ true → CopiedFrom keep all left new
copied_more keep all e left old new copy plain h ordered lookups alike stands = record {
  sorted = sorted_tail e left h.sorted;
  ordered = ordered;
  rooted = λ n child is. root n child (same_name e.0 n) (sym (lookups n) ∙ is);
  none = λ n hid. lookups n ∙ hidden n hid (same_name e.0 n) refl;
  same = λ n p. h.same n p ∙ step n p ∙ ap (λ v. so_far keep n (lookup (is_at (name_cmp n)) left) v p) (sym (lookups n));
}
  where
    root : (n : Name) (child : Rows ℕ) (b : Bool) → cond b (Some copy) (lookup (is_at (name_cmp n)) old.entries) ≡ Some child → is_some (at child []) ≡ true
    root n child true is = one_child copy child stands is
    root n child false is = h.rooted n child is

    hidden : (n : Name) → (not keep && is_hidden n) ≡ true → (b : Bool) → same_name e.0 n ≡ b → cond b (Some copy) (lookup (is_at (name_cmp n)) old.entries) ≡ None
    hidden n hid true is = absurd (let k : (not keep && is_hidden n) ≡ false = ap (λ m. not keep && is_hidden m) (sym (one_name e.0 n is)) ∙ plain in cc)
    hidden n hid false is = h.none n hid

    step : (n : Name) (p : Path) → so_far keep n (cond (same_name n e.0) (Some e.1) (lookup (is_at (name_cmp n)) left)) (lookup (is_at (name_cmp n)) old.entries) p ≡ so_far keep n (lookup (is_at (name_cmp n)) left) (cond (same_name e.0 n) (Some copy) (lookup (is_at (name_cmp n)) old.entries)) p
    step n p = elim (same_name n e.0) as (λ b. same_name n e.0 ≡ b → so_far keep n (cond b (Some e.1) (lookup (is_at (name_cmp n)) left)) (lookup (is_at (name_cmp n)) old.entries) p ≡ so_far keep n (lookup (is_at (name_cmp n)) left) (cond (same_name e.0 n) (Some copy) (lookup (is_at (name_cmp n)) old.entries)) p) [
      | true ↦ λ b. ap (λ m. seen keep (m ∷ p) (at e.1 p)) (one_name n e.0 b) ∙ seen_below keep e.0 p (at e.1 p) plain ∙ sym (alike p) ∙ sym (ap (λ v. so_far keep n v (cond (same_name e.0 n) (Some copy) (lookup (is_at (name_cmp n)) old.entries)) p) (none_after n e left h.sorted b) ∙ ap (λ d. at_child (cond d (Some copy) (lookup (is_at (name_cmp n)) old.entries)) p) (names_equiv.symm e.0 n ∙ b))
      | false ↦ λ b. sym (ap (λ d. so_far keep n (lookup (is_at (name_cmp n)) left) (cond d (Some copy) (lookup (is_at (name_cmp n)) old.entries)) p) (names_equiv.symm e.0 n ∙ b))
    ] refl

-- a hidden child is left out
pub copied_less : (keep : Bool) (all : List (Name × Rows ℕ)) (e : Name × Rows ℕ) (left : List (Name × Rows ℕ)) (copies : BTreeMap Name (Rows ℕ)) → (not keep && is_hidden e.0) ≡ true → CopiedFrom keep all (e ∷ left) copies → CopiedFrom keep all left copies
copied_less keep all e left copies hid h = record {
  sorted = sorted_tail e left h.sorted;
  ordered = h.ordered;
  rooted = h.rooted;
  none = h.none;
  same = λ n p. h.same n p ∙ step n p;
}
  where
    step : (n : Name) (p : Path) → so_far keep n (cond (same_name n e.0) (Some e.1) (lookup (is_at (name_cmp n)) left)) (lookup (is_at (name_cmp n)) copies.entries) p ≡ so_far keep n (lookup (is_at (name_cmp n)) left) (lookup (is_at (name_cmp n)) copies.entries) p
    step n p = elim (same_name n e.0) as (λ b. same_name n e.0 ≡ b → so_far keep n (cond b (Some e.1) (lookup (is_at (name_cmp n)) left)) (lookup (is_at (name_cmp n)) copies.entries) p ≡ so_far keep n (lookup (is_at (name_cmp n)) left) (lookup (is_at (name_cmp n)) copies.entries) p) [
      | true ↦ λ b. let out : (not keep && is_hidden n) ≡ true = ap (λ m. not keep && is_hidden m) (one_name n e.0 b) ∙ hid in
          seen_hidden keep n p (at e.1 p) out ∙ sym (ap (λ v. so_far keep n v (lookup (is_at (name_cmp n)) copies.entries) p) (none_after n e left h.sorted b) ∙ ap (λ v. at_child v p) (h.none n out))
      | false ↦ λ b. refl
    ] refl

-- all copied
pub copied_all : (keep : Bool) (all : BTreeMap Name (Rows ℕ)) (copies : BTreeMap Name (Rows ℕ)) → IsOrdered name_cmp all → CopiedFrom keep all.entries [] copies → (q : Path) → at (rows_of (kinds.Dir copies)) q ≡ seen keep q (at (rows_of (kinds.Dir all)) q)
copied_all keep all copies sorted h [] = sym (seen_root keep (Some Dir))
copied_all keep all copies sorted h (n ∷ p) = at-joined n p copies.entries h.ordered ∙ sym (h.same n p) ∙ sym (ap (seen keep (n ∷ p)) (at-joined n p all.entries sorted))

pub copied_node : (keep : Bool) (all copies : BTreeMap Name (Rows ℕ)) (n : ℕ) → IsNode n (kinds.Dir all) → CopiedFrom keep all.entries [] copies → IsNode n (kinds.Dir copies)
copied_node keep all copies n node h = record {
  level = h.ordered;
  rooted = h.rooted;
  reaches = λ small q some. node.reaches small q (seen_some keep q (at (rows_of (kinds.Dir all)) q) (ap is_some (sym (copied_all keep all copies node.level h q)) ∙ some));
}

-- a file
pub copied_file : (keep : Bool) (chunks : List ℕ) (q : Path) → at (([], File chunks) ∷ []) q ≡ seen keep q (at (([], File chunks) ∷ []) q)
copied_file keep chunks [] = sym (seen_root keep (Some (File chunks)))
copied_file keep chunks (n ∷ p) = sym (seen_none keep (n ∷ p))
