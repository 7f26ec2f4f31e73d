-- What rows have at a path, child by child.
use Rattle.std.proofs.Common.{ℕ, append-nil, is_some, ◌≢◌, ◌<◌, take, drop, length, get_or, arith, ◌-◌, ◌≤◌, ◌≡◌, true, false, cond, List, [], ◌∷◌, ◌++◌, refl, sym, ap, ◌∙◌, subst}
use Rattle.std.specs.Prelude.{Option, Some, None}
use Rattle.std.specs.declared.cmp.Ordering.TheVariants.{Less, Equal, Greater}
use Rattle.std.specs.Option.{option_or}
use Rattle.std.specs.Ordering.{is_eq, ordering_then, eq_by_cmp}
use Rattle.std.specs.Cmp.{IsEquivalence, eq_by_cmp_equiv}
use Rattle.std.specs.Cmp.Lexicographic.{nat_list_cmp_total}
use Rattle.std.specs.BTreeMap.{is_at}
use Rattle.std.specs.List.Sorted.{IsStrictlySortedBy}
use Rattle.std.specs.Map.{keys_of, lookup}
use Rattle.std.proofs.lemmas.Map.{lookup-none}
use Rattle.std.proofs.lemmas.Map.Entries.{none_past_head}
use Rattle.std.proofs.lemmas.Map.Keys.{IsDistinct-from_sorted}
use Rattle.std.proofs.Math.Seq.{take-length}
use Rattle.gs_path.specs.Path.{Name, Path, path_cmp, name_cmp, same_name}
use Rattle.gs_tree.specs.Entry.{Entry}
use Rattle.gs_tree.specs.Plain.{Plain}
use Rattle.gs_tree.specs.Find.{Rows, at, IsPartAt, DirsAbove}
use Rattle.std.specs.BTreeMap.{BTreeMap}
use Rattle.gs_tree.specs.declared.node.Kind.{Kind}
use Rattle.gs_tree.specs.declared.node.Kind.TheVariants as kinds
use Rattle.gs_tree.specs.Rows.{under, joined, rows_of, IsLevel}

pub names_equiv : IsEquivalence same_name
names_equiv = eq_by_cmp_equiv nat_list_cmp_total

-- what a child has, or nothing where there is no child
abbrev pub at_child : Option (Rows ℕ) → Path → Option (Entry ℕ)
at_child None p = None
at_child (Some rs) p = at rs p

pub at-append : (q : Path) (a b : Rows ℕ) → at (a ++ b) q ≡ option_or (at a q) (at b q)
at-append q [] b = refl
at-append q (r ∷ rs) b =
    elim (eq_by_cmp path_cmp q r.0) as (λ t. cond t (Some r.1) (at (rs ++ b) q) ≡ option_or (cond t (Some r.1) (at rs q)) (at b q)) [
      | true ↦ refl
      | false ↦ at-append q rs b
    ]

pub at-under : (m n : Name) (p : Path) (rs : Rows ℕ) → at (under n rs) (m ∷ p) ≡ cond (same_name m n) (at rs p) None
at-under m n p [] = let none : Option (Entry ℕ) = None in elim (same_name m n) as (λ t. none ≡ cond t none none) [ true ↦ refl | false ↦ refl ]
at-under m n p (r ∷ rs) = ap (λ v. cond (is_eq (ordering_then (name_cmp m n) (path_cmp p r.0))) (Some r.1) v) (at-under m n p rs)
    ∙ elim (name_cmp m n) as (λ o. cond (is_eq (ordering_then o (path_cmp p r.0))) (Some r.1) (cond (is_eq o) (at rs p) None) ≡ cond (is_eq o) (cond (is_eq (path_cmp p r.0)) (Some r.1) (at rs p)) None) [
      | Less ↦ refl
      | Equal ↦ refl
      | Greater ↦ refl
    ]

pub at-under_root : (n : Name) (rs : Rows ℕ) → at (under n rs) [] ≡ None
at-under_root n [] = refl
at-under_root n (r ∷ rs) = at-under_root n rs

pub at-joined_root : (es : List (Name × Rows ℕ)) → at (joined es) [] ≡ None
at-joined_root [] = refl
at-joined_root (e ∷ es) = at-append [] (under e.0 e.1) (joined es) ∙ ap (λ v. option_or v (at (joined es) [])) (at-under_root e.0 e.1) ∙ at-joined_root es

or_none : {A : Type 0} (v : Option A) → option_or v None ≡ v
or_none None = refl
or_none (Some x) = refl

pub sorted_tail : (e : Name × Rows ℕ) (es : List (Name × Rows ℕ)) → IsStrictlySortedBy name_cmp (keys_of (e ∷ es)) → IsStrictlySortedBy name_cmp (keys_of es)
unfolding IsStrictlySortedBy
sorted_tail e es h = h.1

pub none_after : (m : Name) (e : Name × Rows ℕ) (es : List (Name × Rows ℕ)) → IsStrictlySortedBy name_cmp (keys_of (e ∷ es)) → same_name m e.0 ≡ true → lookup (is_at (name_cmp m)) es ≡ None
none_after m e es h t = lookup-none _ es (none_past_head names_equiv m e es (IsDistinct-from_sorted name_cmp _ h) t)

pub at-joined : (m : Name) (p : Path) (es : List (Name × Rows ℕ)) → IsStrictlySortedBy name_cmp (keys_of es) → at (joined es) (m ∷ p) ≡ at_child (lookup (is_at (name_cmp m)) es) p
at-joined m p [] h = refl
at-joined m p (e ∷ es) h =
    at-append (m ∷ p) (under e.0 e.1) (joined es)
    ∙ ap (λ v. option_or v (at (joined es) (m ∷ p))) (at-under m e.0 p e.1)
    ∙ ap (option_or (cond (same_name m e.0) (at e.1 p) None)) (at-joined m p es (sorted_tail e es h))
    ∙ elim (same_name m e.0) as (λ t. same_name m e.0 ≡ t → option_or (cond t (at e.1 p) None) (at_child (lookup (is_at (name_cmp m)) es) p) ≡ at_child (cond t (Some e.1) (lookup (is_at (name_cmp m)) es)) p) [
      | true ↦ λ t. ap (λ v. option_or (at e.1 p) (at_child v p)) (none_after m e es h t) ∙ or_none (at e.1 p)
      | false ↦ λ _. refl
    ] refl

-- all but the first element, as a slice pattern gives it
abbrev pub rest_of : Path → Path
rest_of path = take (length path - 1) (drop 1 path)

rest-cons : (y : Name) (ys : Path) → rest_of (y ∷ ys) ≡ ys
rest-cons y ys = let n : length (y ∷ ys) - 1 ≡ length ys = omega arith in rw n (take-length ys)

pub path_parts : (path : Path) (x : Name) → 1 ≤ length path → x ≡ get_or path 0 x → path ≡ x ∷ rest_of path
path_parts [] x h e = absurd (omega arith)
path_parts (y ∷ ys) x h e = ap (λ z. z ∷ ys) (sym e) ∙ ap (λ zs. x ∷ zs) (sym (rest-cons y ys))

-- m is a directory with these children, and the path goes to x first
pub record GoesTo (m : Rows ℕ) (children : BTreeMap Name (Rows ℕ)) (path : Path) (x : Name) : Type 0 where
  pub rows : m ≡ rows_of (kinds.Dir children)
  pub ordered : IsLevel (kinds.Dir children)
  pub parts : path ≡ x ∷ rest_of path

pub goes_to : {m : Rows ℕ} {k : Kind} {children : BTreeMap Name (Rows ℕ)} {path : Path} {x : Name} → rows_of k ≡ m → IsLevel k → k ≡ kinds.Dir children → 1 ≤ length path → x ≡ get_or path 0 x → GoesTo m children path x
goes_to {path = path} {x = x} view level is h e = record { rows = sym view ∙ ap rows_of is; ordered = subst IsLevel is level; parts = path_parts path x h e }

pub at-child : {m : Rows ℕ} (children : BTreeMap Name (Rows ℕ)) → m ≡ rows_of (kinds.Dir children) → IsLevel (kinds.Dir children) → (n : Name) (p : Path) → at m (n ∷ p) ≡ at_child (lookup (is_at (name_cmp n)) children.entries) p
at-child children rows ordered n p = ap (λ r. at r (n ∷ p)) rows ∙ at-joined n p children.entries ordered

pub at-path : {m : Rows ℕ} {children : BTreeMap Name (Rows ℕ)} {path : Path} {x : Name} → GoesTo m children path x → at m path ≡ at_child (lookup (is_at (name_cmp x)) children.entries) (rest_of path)
at-path {m = m} {children = children} {path = path} {x = x} g = ap (at m) g.parts ∙ at-child children g.rows g.ordered x (rest_of path)

pub at-below : {m : Rows ℕ} {children : BTreeMap Name (Rows ℕ)} {path : Path} {x : Name} → GoesTo m children path x → (q : Path) → at m (path ++ q) ≡ at_child (lookup (is_at (name_cmp x)) children.entries) (rest_of path ++ q)
at-below {m = m} {children = children} {path = path} {x = x} g q = ap (λ p. at m (p ++ q)) g.parts ∙ at-child children g.rows g.ordered x (rest_of path ++ q)

-- no child: nothing below
pub part_none : {m : Rows ℕ} {children : BTreeMap Name (Rows ℕ)} {path : Path} {x : Name} → GoesTo m children path x → None ≡ lookup (is_at (name_cmp x)) children.entries → IsPartAt (at m) path None
part_none {path = path} g is = λ q. at-below g q ∙ ap (λ v. at_child v (rest_of path ++ q)) (sym is)

pub part_below : {m : Rows ℕ} {children : BTreeMap Name (Rows ℕ)} {path : Path} {x : Name} → GoesTo m children path x → (child : Rows ℕ) (part : Option (Rows ℕ)) → Some child ≡ lookup (is_at (name_cmp x)) children.entries → IsPartAt (at child) (rest_of path) part → IsPartAt (at m) path part
part_below {path = path} g child None is h = λ q. at-below g q ∙ ap (λ v. at_child v (rest_of path ++ q)) (sym is) ∙ h q
part_below {path = path} g child (Some rows) is h = λ q. at-below g q ∙ ap (λ v. at_child v (rest_of path ++ q)) (sym is) ∙ h q

-- the same of a name behind the path
pub part_on : {m : Rows ℕ} {children : BTreeMap Name (Rows ℕ)} {path : Path} {x : Name} → GoesTo m children path x → (name : Name) (child : Rows ℕ) (part : Option (Rows ℕ)) → Some child ≡ lookup (is_at (name_cmp x)) children.entries
    → IsPartAt (at child) (rest_of path ++ name ∷ []) part → IsPartAt (at m) (path ++ name ∷ []) part
part_on {m = m} {children = children} {path = path} {x = x} g name child part is h =
    let on : GoesTo m children (x ∷ (rest_of path ++ name ∷ [])) x = record { rows = g.rows; ordered = g.ordered; parts = ap (λ p. x ∷ p) (sym (rest-cons x (rest_of path ++ name ∷ []))) } in
    subst (λ (p : Path). IsPartAt (at m) p part) (ap (λ p. p ++ name ∷ []) (sym g.parts)) (part_below on child part is (subst (λ (p : Path). IsPartAt (at child) p part) (sym (rest-cons x (rest_of path ++ name ∷ []))) h))

-- directories above a place in a child are directories above it here
pub dirs_above : {m : Rows ℕ} {children : BTreeMap Name (Rows ℕ)} {path : Path} {x : Name} → GoesTo m children path x → (child : Rows ℕ) → Some child ≡ lookup (is_at (name_cmp x)) children.entries → DirsAbove (at child) (rest_of path) → DirsAbove (at m) path
dirs_above {m = m} {children = children} {path = path} {x = x} g child is h =
    let below : (λ (q : Path). at m (x ∷ q)) ≡ at child = λ i q. (at-child children g.rows g.ordered x q ∙ ap (λ v. at_child v q) (sym is)) i in
    let rest : DirsAbove (λ q. at m (x ∷ q)) (rest_of path) = subst (λ (k : Plain ℕ). DirsAbove k (rest_of path)) (sym below) h in
    subst (DirsAbove (at m)) (sym g.parts) (ap (λ r. at r []) g.rows, rest)

-- a path of one element
pub part_here : {m : Rows ℕ} {children : BTreeMap Name (Rows ℕ)} {path : Path} {x : Name} → GoesTo m children path x → rest_of path ≡ [] → (part : Option (Rows ℕ)) → part ≡ lookup (is_at (name_cmp x)) children.entries → IsPartAt (at m) path part
part_here g end None is = part_none g is
part_here {children = children} {x = x} g end (Some rows) is = λ q. at-below g q ∙ ap (λ t. at_child (lookup (is_at (name_cmp x)) children.entries) (t ++ q)) end ∙ ap (λ v. at_child v q) (sym is)

-- a name in a directory itself
pub part_of_name : {m : Rows ℕ} {k : Kind} {children : BTreeMap Name (Rows ℕ)} (name : Name) → rows_of k ≡ m → IsLevel k → k ≡ kinds.Dir children → (part : Option (Rows ℕ)) → part ≡ lookup (is_at (name_cmp name)) children.entries → IsPartAt (at m) (name ∷ []) part
part_of_name {m = m} {k = k} {children = children} name view level is part found =
    part_here {children = children} (record { rows = sym view ∙ ap rows_of is; ordered = subst IsLevel is level; parts = ap (λ p. name ∷ p) (sym (rest-cons name [])) }) (rest-cons name []) part found

-- something stands at the top of what stands
pub stands_top : (k : Kind) → is_some (at (rows_of k) []) ≡ true
stands_top (kinds.File chunks) = refl
stands_top (kinds.Dir children) = refl

-- where a part that stands has something at its top, there is a part exactly where something stands
pub found_part : (m : Plain ℕ) (p : Path) (part : Option (Rows ℕ)) → IsPartAt m p part → ((rows : Rows ℕ) → part ≡ Some rows → is_some (at rows []) ≡ true) → is_some part ≡ is_some (m p)
found_part m p None h r = sym (ap is_some (ap m (sym (append-nil p)) ∙ h []))
found_part m p (Some rows) h r = sym (ap is_some (ap m (sym (append-nil p)) ∙ h []) ∙ r rows refl)

-- a file has nothing below it
pub part_of_file : (m : Rows ℕ) (k : Kind) (path : Path) → rows_of k ≡ m → ((c : BTreeMap Name (Rows ℕ)) → k ≢ kinds.Dir c) → path ≢ [] → IsPartAt (at m) path None
part_of_file m k [] view nodir ne = absurd (ne refl)
part_of_file m (kinds.Dir c) (y ∷ ys) view nodir ne = absurd (nodir c refl)
part_of_file m (kinds.File hs) (y ∷ ys) view nodir ne = λ q. ap (λ r. at r (y ∷ (ys ++ q))) (sym view)

pub empty_path : (path : Path) → length path < 1 → path ≡ []
empty_path [] h = refl
empty_path (y ∷ ys) h = absurd (omega arith)
