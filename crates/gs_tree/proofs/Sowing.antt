-- What is made on the way down.
use Rattle.std.proofs.Common.{◌≡◌, ◌+◌, ℕ, Bool, true, false, cond, ◌&&◌, ◌||◌, List, [], ◌∷◌, ◌++◌, refl, sym, ap, ◌∙◌, add-one}
use Rattle.std.specs.Prelude.{Option, Some, None, is_none}
use Rattle.std.specs.declared.cmp.Ordering.{Ordering}
use Rattle.std.specs.declared.cmp.Ordering.TheVariants.{Less, Equal, Greater}
use Rattle.std.specs.Ordering.{is_eq, ordering_then}
use Rattle.std.specs.BTreeMap.{BTreeMap}
use Rattle.gs_path.specs.Path.{Name, Path, same_name, begins, name_cmp, path_cmp}
use Rattle.gs_tree.specs.Entry.{Entry, Dir, File}
use Rattle.gs_tree.specs.declared.node.Kind.{Kind}
use Rattle.gs_tree.specs.declared.node.Kind.TheVariants as kinds
use Rattle.gs_tree.specs.Plain.{Plain, IsFree}
use Rattle.gs_tree.specs.Find.{Rows, at}
use Rattle.gs_tree.specs.Rows.{rows_of, joined}
use Rattle.gs_tree.specs.Edits.{with_dirs, with_entry, file_above, is_file, stood, same_path}
use Rattle.gs_tree.specs.Inverses.{row_of, first_made}
use Rattle.gs_tree.proofs.Rows.{names_equiv, GoesTo}
use Rattle.gs_tree.proofs.Splice.{splice, one_name}

abbrev pub leafed : {A : Type 0} → Path → Entry A → Plain A → Plain A
leafed p e m = with_entry p e (with_dirs p m)

row_then : (o c : Ordering) (b : Bool) (e : Entry ℕ) → cond (is_eq (ordering_then o c)) (Some e) (cond (is_eq o && b) (Some Dir) None) ≡ cond (is_eq o) (cond (is_eq c) (Some e) (cond b (Some Dir) None)) None
row_then Less c b e = refl
row_then Equal c b e = refl
row_then Greater c b e = refl

pub row_of-cons : (x y : Name) (t r : Path) (e : Entry ℕ) → row_of (x ∷ t) e (y ∷ r) ≡ cond (same_name x y) (row_of t e r) None
row_of-cons x y t r e =
    ap (λ b. cond (is_eq (ordering_then (name_cmp x y) (path_cmp t r))) (Some e) (cond (b && begins r t) (Some Dir) None)) (names_equiv.symm y x)
    ∙ row_then (name_cmp x y) (path_cmp t r) (begins r t) e

pub row_step : (x : Name) (t : Path) (e : Entry ℕ) (below : Rows ℕ) (f : Plain ℕ) → f [] ≡ Some Dir → ((n : Name) (r : Path) → f (n ∷ r) ≡ None) → ((r : Path) → at below r ≡ row_of t e r) → (q : Path) → splice x (Some below) f q ≡ row_of (x ∷ t) e q
row_step x t e below f h g is [] = h
row_step x t e below f h g is (y ∷ r) =
    ap (λ v. cond (same_name x y) v (f (y ∷ r))) (is r) ∙ ap (λ v. cond (same_name x y) (row_of t e r) v) (g y r) ∙ sym (row_of-cons x y t r e)

pub row_empty : (q : Path) (e : Entry ℕ) → at (([], e) ∷ []) q ≡ row_of [] e q
row_empty [] e = refl
row_empty (y ∷ r) e = refl

pub empty_below : (n : Name) (r : Path) (es : List (Name × Rows ℕ)) → es ≡ [] → at (([], Dir) ∷ joined es) (n ∷ r) ≡ None
empty_below n r es e = ap (λ fs. at (([], Dir) ∷ joined fs) (n ∷ r)) e

leaf_then : (o c : Ordering) (b : Bool) (e : Entry ℕ) (v : Option (Entry ℕ)) → cond (is_eq (ordering_then o c)) (Some e) (cond ((is_eq o && b) && is_none v) (Some Dir) v) ≡ cond (is_eq o) (cond (is_eq c) (Some e) (cond (b && is_none v) (Some Dir) v)) v
leaf_then Less c b e v = refl
leaf_then Equal c b e v = refl
leaf_then Greater c b e v = refl

renamed : (x y : Name) (r : Path) (f : Plain ℕ) (g : Option (Entry ℕ) → Option (Entry ℕ)) (w : Option (Entry ℕ)) → cond (same_name x y) (g (f (y ∷ r))) w ≡ cond (same_name x y) (g (f (x ∷ r))) w
renamed x y r f g w =
    elim (same_name x y) as (λ b. same_name x y ≡ b → cond b (g (f (y ∷ r))) w ≡ cond b (g (f (x ∷ r))) w) [
      | true ↦ λ b. ap (λ z. g (f (z ∷ r))) (sym (one_name x y b))
      | false ↦ λ _. refl
    ] refl

pub leafed-cons : (x y : Name) (t r : Path) (e : Entry ℕ) (f : Plain ℕ) → leafed (x ∷ t) e f (y ∷ r) ≡ cond (same_name x y) (leafed t e (λ q. f (x ∷ q)) r) (f (y ∷ r))
leafed-cons x y t r e f =
    ap (λ b. cond (is_eq (ordering_then (name_cmp x y) (path_cmp t r))) (Some e) (cond ((b && begins r t) && is_none (f (y ∷ r))) (Some Dir) (f (y ∷ r)))) (names_equiv.symm y x)
    ∙ leaf_then (name_cmp x y) (path_cmp t r) (begins r t) e (f (y ∷ r))
    ∙ renamed x y r f (λ v. cond (same_path t r) (Some e) (cond (begins r t && is_none v) (Some Dir) v)) (f (y ∷ r))

pub leafed-root : (x : Name) (t : Path) (e : Entry ℕ) (f : Plain ℕ) → f [] ≡ Some Dir → leafed (x ∷ t) e f [] ≡ f []
leafed-root x t e f h = ap (λ v. cond (is_none v) (Some Dir) v) h ∙ sym h

pub leafed-nothing : (t r : Path) (e : Entry ℕ) (f : Plain ℕ) → f r ≡ None → leafed t e f r ≡ row_of t e r
leafed-nothing t r e f h = ap (λ v. cond (same_path t r) (Some e) (cond (begins r t && is_none v) (Some Dir) v)) h
    ∙ ap (λ (v : Option (Entry ℕ)). cond (same_path t r) (Some e) v) (both (begins r t) (Some Dir))
  where
    both : (b : Bool) (d : Option (Entry ℕ)) → cond (b && true) d None ≡ cond b d None
    both true d = refl
    both false d = refl

-- a child that is made
pub sown_here : (x : Name) (t : Path) (e : Entry ℕ) (below : Rows ℕ) (f : Plain ℕ) → f [] ≡ Some Dir → ((r : Path) → f (x ∷ r) ≡ None) → ((r : Path) → at below r ≡ row_of t e r) → (q : Path) → splice x (Some below) f q ≡ leafed (x ∷ t) e f q
sown_here x t e below f h g is [] = sym (leafed-root x t e f h)
sown_here x t e below f h g is (y ∷ r) =
    ap (λ v. cond (same_name x y) v (f (y ∷ r))) (is r ∙ sym (leafed-nothing t r e (λ q. f (x ∷ q)) (g r))) ∙ sym (leafed-cons x y t r e f)

-- a child in which something is made
pub sown_below : (x : Name) (t : Path) (e : Entry ℕ) (child child' : Rows ℕ) (f : Plain ℕ) → f [] ≡ Some Dir → ((r : Path) → f (x ∷ r) ≡ at child r) → ((r : Path) → at child' r ≡ leafed t e (at child) r) → (q : Path) → splice x (Some child') f q ≡ leafed (x ∷ t) e f q
sown_below x t e child child' f h g is [] = sym (leafed-root x t e f h)
sown_below x t e child child' f h g is (y ∷ r) =
    ap (λ v. cond (same_name x y) v (f (y ∷ r))) (is r ∙ sym (ap (λ (k : Plain ℕ). leafed t e k r) (λ i q. g q i))) ∙ sym (leafed-cons x y t r e f)

file_above_none : (t : Path) → file_above {A = ℕ} (λ _. None) t ≡ false
file_above_none [] = refl
file_above_none (x ∷ t) = file_above_none t

pub no_file_above : (x : Name) (t : Path) (f : Plain ℕ) → f [] ≡ Some Dir → ((r : Path) → f (x ∷ r) ≡ None) → file_above f (x ∷ t) ≡ false
no_file_above x t f h g = ap (λ v. is_file v || file_above (λ q. f (x ∷ q)) t) h ∙ ap (λ (k : Plain ℕ). file_above k t) (λ i q. g q i) ∙ file_above_none t

pub file_above_below : (x : Name) (t : Path) (f child : Plain ℕ) (b : Bool) → f [] ≡ Some Dir → ((r : Path) → f (x ∷ r) ≡ child r) → file_above child t ≡ b → file_above f (x ∷ t) ≡ b
file_above_below x t f child b h g e = ap (λ v. is_file v || file_above (λ q. f (x ∷ q)) t) h ∙ ap (λ (k : Plain ℕ). file_above k t) (λ i q. g q i) ∙ e

pub file_stops : (m : Rows ℕ) (k : Kind) (path : Path) → rows_of k ≡ m → ((c : BTreeMap Name (Rows ℕ)) → k ≡ kinds.Dir c → ⊥) → at m path ≡ None → file_above (at m) path ≡ true
file_stops m (kinds.Dir c) path view nodir e = absurd (nodir c refl)
file_stops m (kinds.File hs) [] view nodir e = let k : Some (File hs.items) ≡ None = ap (λ r. at r []) view ∙ e in cc
file_stops m (kinds.File hs) (x ∷ p) view nodir e = ap (λ r. is_file (at r []) || file_above (λ q. at r (x ∷ q)) p) (sym view)

pub root_dir : {m : Rows ℕ} {children : BTreeMap Name (Rows ℕ)} {path : Path} {x : Name} → GoesTo m children path x → at m [] ≡ Some Dir
root_dir g = ap (λ r. at r []) g.rows

-- how much of a path stood
pub stood_here : (x : Name) (t : Path) (f : Plain ℕ) → ((r : Path) → f (x ∷ r) ≡ None) → stood f (x ∷ t) ≡ 0
stood_here x t f g = ap (λ v. cond (is_none v) 0 (stood (λ q. f (x ∷ q)) t + 1)) (g [])

pub stood_below : (x : Name) (t : Path) (f child : Plain ℕ) → ((r : Path) → f (x ∷ r) ≡ child r) → is_none (child []) ≡ false → stood f (x ∷ t) ≡ stood child t + 1
stood_below x t f child g some = ap (λ (k : Plain ℕ). cond (is_none (k [])) 0 (stood k t + 1)) (λ i q. g q i) ∙ ap (λ b. cond b 0 (stood child t + 1)) some

pub first_made-below : (x : Name) (t : Path) (n : ℕ) → first_made (x ∷ t) (n + 1) ≡ x ∷ first_made t n
first_made-below x t n = rw (add-one (n + 1)) refl

pub free_here : (x : Name) (t : Path) (f : Plain ℕ) → ((r : Path) → f (x ∷ r) ≡ None) → IsFree f (first_made (x ∷ t) 0)
free_here x t f g = g

pub free_below : (x : Name) (t : Path) (n : ℕ) (f child : Plain ℕ) → ((r : Path) → f (x ∷ r) ≡ child r) → IsFree child (first_made t n) → IsFree f (first_made (x ∷ t) (n + 1))
free_below x t n f child g free r = ap (λ (p : Path). f (p ++ r)) (first_made-below x t n) ∙ g (first_made t n ++ r) ∙ free r
