-- A directory whose one child changes.
use Rattle.std.proofs.lemmas.Bool.Decides.{nat_tests}
use Rattle.std.proofs.Common.{ℕ, arith, ◌≡◌, Bool, true, false, cond, ◌&&◌, [], ◌∷◌, ◌++◌, refl, sym, ap, ◌∙◌, subst}
use Rattle.std.specs.Prelude.{Option, Some, None, length, ◌==◌}
use Rattle.std.specs.Cmp.{Equal-is}
use Rattle.std.specs.BTreeMap.{BTreeMap, is_at, IsOrdered}
use Rattle.std.specs.Map.{lookup}
use Rattle.std.specs.FinMap.{slice_cmp-IsAntisymmetric, nat_cmp-IsAntisymmetric}
use Rattle.gs_path.specs.Path.{Name, Path, name_cmp, same_name, begins}
use Rattle.gs_tree.specs.Plain.{Plain, after, with_at, without}
use Rattle.gs_tree.specs.Find.{Rows, at}
use Rattle.gs_tree.specs.declared.node.Kind.{Kind}
use Rattle.gs_tree.specs.declared.node.Kind.TheVariants as kinds
use Rattle.gs_tree.specs.Rows.{rows_of, IsLevel}
use Rattle.gs_tree.proofs.Rows.{at_child, at-joined, at-child, GoesTo}

abbrev pub splice : Name → Option (Rows ℕ) → Plain ℕ → Plain ℕ
splice x w f [] = f []
splice x w f (m ∷ p) = cond (same_name x m) (at_child w p) (f (m ∷ p))

pub one_name : (x y : Name) → same_name x y ≡ true → x ≡ y
one_name x y t = slice_cmp-IsAntisymmetric nat_cmp-IsAntisymmetric x y ((Equal-is (name_cmp x y)).0 t)

child_cond : (b : Bool) (v w : Option (Rows ℕ)) (p : Path) → at_child (cond b v w) p ≡ cond b (at_child v p) (at_child w p)
child_cond true v w p = refl
child_cond false v w p = refl

-- a map that differs from the directory's at one name
pub record Updates (m : Rows ℕ) (old new : BTreeMap Name (Rows ℕ)) (x : Name) (w : Option (Rows ℕ)) : Type 0 where
  pub rows : m ≡ rows_of (kinds.Dir old)
  pub was_ordered : IsLevel (kinds.Dir old)
  pub ordered : IsOrdered name_cmp new
  pub lookups : (n : Name) → lookup (is_at (name_cmp n)) new.entries ≡ cond (same_name x n) w (lookup (is_at (name_cmp n)) old.entries)

pub at-updated : {m : Rows ℕ} {old new : BTreeMap Name (Rows ℕ)} {x : Name} {w : Option (Rows ℕ)} → Updates m old new x w → (q : Path) → at (rows_of (kinds.Dir new)) q ≡ splice x w (at m) q
at-updated u [] = ap (λ r. at r []) (sym u.rows)
at-updated {m = m} {old = old} {new = new} {x = x} {w = w} u (n ∷ p) =
    at-joined n p new.entries u.ordered
    ∙ ap (λ v. at_child v p) (u.lookups n)
    ∙ child_cond (same_name x n) w (lookup (is_at (name_cmp n)) old.entries) p
    ∙ ap (cond (same_name x n) (at_child w p)) (sym (at-child old u.rows u.was_ordered n p))

pub splice-here : (x : Name) (w : Option (Rows ℕ)) (f : Plain ℕ) (q : Path) → splice x w f q ≡ with_at (x ∷ []) (at_child w) f q
splice-here x w f [] = refl
splice-here x w f (m ∷ p) = elim (same_name x m) as (λ b. cond b (at_child w p) (f (m ∷ p)) ≡ cond (b && true) (at_child w p) (f (m ∷ p))) [ true ↦ refl | false ↦ refl ]

pub splice-below : (x : Name) (t : Path) (child : Rows ℕ) (child' : Rows ℕ) (part f : Plain ℕ) → ((p : Path) → at child' p ≡ with_at t part (at child) p) → ((p : Path) → f (x ∷ p) ≡ at child p) → (q : Path) → splice x (Some child') f q ≡ with_at (x ∷ t) part f q
splice-below x t child child' part f h g [] = refl
splice-below x t child child' part f h g (m ∷ p) =
    elim (same_name x m) as (λ b. same_name x m ≡ b → cond b (at child' p) (f (m ∷ p)) ≡ cond (b && begins t p) (part (after t p)) (f (m ∷ p))) [
      | true ↦ λ b. h p ∙ ap (cond (begins t p) (part (after t p))) (sym (g p) ∙ ap (λ y. f (y ∷ p)) (one_name x m b))
      | false ↦ λ _. refl
    ] refl

pub splice-same : (x : Name) (child child' : Rows ℕ) (f : Plain ℕ) → ((p : Path) → at child' p ≡ at child p) → ((p : Path) → f (x ∷ p) ≡ at child p) → (q : Path) → splice x (Some child') f q ≡ f q
splice-same x child child' f h g [] = refl
splice-same x child child' f h g (m ∷ p) =
    elim (same_name x m) as (λ b. same_name x m ≡ b → cond b (at child' p) (f (m ∷ p)) ≡ f (m ∷ p)) [
      | true ↦ λ b. h p ∙ sym (g p) ∙ ap (λ y. f (y ∷ p)) (one_name x m b)
      | false ↦ λ _. refl
    ] refl

pub splice-below_if : (b : Bool) (x : Name) (t : Path) (child child' : Rows ℕ) (part f : Plain ℕ) → ((p : Path) → at child' p ≡ cond b (with_at t part (at child) p) (at child p)) → ((p : Path) → f (x ∷ p) ≡ at child p) → (q : Path) → splice x (Some child') f q ≡ cond b (with_at (x ∷ t) part f q) (f q)
splice-below_if true x t child child' part f h g q = splice-below x t child child' part f h g q
splice-below_if false x t child child' part f h g q = splice-same x child child' f h g q

pub updates : {m : Rows ℕ} {old : BTreeMap Name (Rows ℕ)} {path : Path} {x : Name} (new : BTreeMap Name (Rows ℕ)) (w : Option (Rows ℕ)) → GoesTo m old path x → IsOrdered name_cmp new → ((n : Name) → lookup (is_at (name_cmp n)) new.entries ≡ cond (same_name x n) w (lookup (is_at (name_cmp n)) old.entries)) → Updates m old new x w
updates new w g o l = record { rows = g.rows; was_ordered = g.ordered; ordered = o; lookups = l }

pub child_at : {m : Rows ℕ} {old : BTreeMap Name (Rows ℕ)} {path : Path} {x : Name} → GoesTo m old path x → (child : Rows ℕ) → Some child ≡ lookup (is_at (name_cmp x)) old.entries → (p : Path) → at m (x ∷ p) ≡ at child p
child_at {old = old} g child is p = at-child old g.rows g.ordered _ p ∙ ap (λ v. at_child v p) (sym is)

pub updated : {m : Rows ℕ} {k : Kind} {old : BTreeMap Name (Rows ℕ)} {x : Name} (new : BTreeMap Name (Rows ℕ)) (w : Option (Rows ℕ)) → rows_of k ≡ m → IsLevel k → k ≡ kinds.Dir old → IsOrdered name_cmp new → ((n : Name) → lookup (is_at (name_cmp n)) new.entries ≡ cond (same_name x n) w (lookup (is_at (name_cmp n)) old.entries)) → Updates m old new x w
updated new w view level is o l = record { rows = sym view ∙ ap rows_of is; was_ordered = subst IsLevel is level; ordered = o; lookups = l }

pub begins_parts : (p q : Path) → begins p q ≡ true → q ≡ p ++ after p q
begins_parts [] q h = refl
begins_parts (x ∷ p) [] h = cc
begins_parts (x ∷ p) (y ∷ q) h =
    elim (same_name x y) as (λ b. same_name x y ≡ b → (b && begins p q) ≡ true → y ∷ q ≡ x ∷ (p ++ after p q)) [
      | true ↦ λ b g. ap (λ z. z ∷ q) (sym (one_name x y b)) ∙ ap (λ z. x ∷ z) (begins_parts p q g)
      | false ↦ λ b g. cc
    ] refl h

-- where nothing stands, there is nothing to take out
pub without_none : (p : Path) (f : Plain ℕ) → ((q : Path) → f (p ++ q) ≡ None) → (q : Path) → f q ≡ without p f q
without_none p f h q =
    elim (begins p q) as (λ b. begins p q ≡ b → f q ≡ cond b None (f q)) [
      | true ↦ λ b. ap f (begins_parts p q b) ∙ h (after p q)
      | false ↦ λ _. refl
    ] refl

nil_of_length : (t : Path) → length t ≡ 0 → t ≡ []
nil_of_length [] e = refl
nil_of_length (y ∷ ys) e = absurd (omega arith)

pub no_rest : (t : Path) (b : Bool) → b ≡ (length t == 0) → b ≡ true → t ≡ []
no_rest t b e h = let z : length t ≡ 0 = grind (arith, nat_tests) in nil_of_length t z

pub some_rest : (t : Path) (b : Bool) → b ≡ (length t == 0) → b ≡ false → t ≡ [] → ⊥
some_rest t b e h z = let m : (length t == 0) ≡ true = ap (λ (q : Path). length q == 0) z in cc
