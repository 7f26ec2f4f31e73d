-- What a directory lists.
use Rattle.std.proofs.Common.{◌≡◌, ℕ, Bool, true, false, cond, ◌&&◌, List, [], ◌∷◌, refl, sym, ap, ◌∙◌}
use Rattle.std.specs.Prelude.{Option, Some, None, is_some, IsTrue}
use Rattle.std.specs.declared.cmp.Ordering.TheVariants.{Less}
use Rattle.std.specs.Ordering.{is_lt}
use Rattle.std.specs.List.{AllByRecursion}
use Rattle.std.specs.List.Sorted.{IsStrictlySortedBy}
use Rattle.std.specs.Map.{lookup, keys_of}
use Rattle.std.specs.BTreeMap.{is_at}
use Rattle.std.specs.FinMap.{find, is_sorted}
use Rattle.std.specs.FinMap.Entries.{below_all}
use Rattle.gs_path.specs.Path.{Name, same_name, name_cmp}
use Rattle.gs_path.specs.Element.{is_hidden}
use Rattle.gs_tree.specs.Entry.{Entry, Dir, File}
use Rattle.gs_tree.specs.Entry as entry
use Rattle.gs_tree.specs.Find.{Rows, at}
use Rattle.gs_tree.specs.Rows.{joined}
use Rattle.gs_tree.specs.Edits.{is_dir}
use Rattle.gs_tree.specs.Listing.{shown, pairs_of, IsListing}
use Rattle.gs_tree.specs.declared.node.Listed.{Listed}
use Rattle.gs_tree.proofs.Rows.{at-joined, at_child, sorted_tail}
use Rattle.gs_tree.proofs.Splice.{one_name}

-- the visible children of a directory, one after another
abbrev pub shown_children : List (Name × Rows ℕ) → List (Name × Bool)
shown_children [] = []
shown_children (e ∷ es) = cond (is_hidden e.0) (shown_children es) ((e.0, is_dir (at e.1 [])) ∷ shown_children es)

both : (a b : Bool) → IsTrue a → IsTrue b → IsTrue (a && b)
both true b p q = q
both false b p q = p

below_shown : (x : Name) (es : List (Name × Rows ℕ)) → AllByRecursion (λ y. name_cmp x y ≡ Less) (keys_of es) → IsTrue (below_all name_cmp x (shown_children es))
below_shown x [] h = refl
below_shown x (e ∷ es) h =
    let rest = below_shown x es h.1 in
    elim (is_hidden e.0) as (λ b. IsTrue (below_all name_cmp x (cond b (shown_children es) ((e.0, is_dir (at e.1 [])) ∷ shown_children es)))) [
      | true ↦ rest
      | false ↦ both (is_lt (name_cmp x e.0)) (below_all name_cmp x (shown_children es)) (ap is_lt h.0) rest
    ]

pub shown_rise : (es : List (Name × Rows ℕ)) → IsStrictlySortedBy name_cmp (keys_of es) → IsTrue (is_sorted name_cmp (shown_children es))
unfolding IsStrictlySortedBy
shown_rise [] h = refl
shown_rise (e ∷ es) h =
    let rest = shown_rise es h.1 in
    elim (is_hidden e.0) as (λ b. IsTrue (is_sorted name_cmp (cond b (shown_children es) ((e.0, is_dir (at e.1 [])) ∷ shown_children es)))) [
      | true ↦ rest
      | false ↦ both (below_all name_cmp e.0 (shown_children es)) (is_sorted name_cmp (shown_children es)) (below_shown e.0 es h.0) rest
    ]

-- what is listed under a name, by the child of that name
abbrev pub of_child : Name → Option (Rows ℕ) → Option Bool
of_child n None = None
of_child n (Some rows) = cond (is_hidden n) None (Some (is_dir (at rows [])))

of_none : (n : Name) (v : Option (Rows ℕ)) → is_hidden n ≡ true → of_child n v ≡ None
of_none n None h = refl
of_none n (Some rows) h = ap (λ b. cond b None (Some (is_dir (at rows [])))) h

pub find_shown : (es : List (Name × Rows ℕ)) (n : Name) → IsStrictlySortedBy name_cmp (keys_of es) → find name_cmp n (shown_children es) ≡ of_child n (lookup (is_at (name_cmp n)) es)
find_shown [] n h = refl
find_shown (e ∷ es) n h =
    let rest = find_shown es n (sorted_tail e es h) in
    elim (same_name n e.0) as (λ b. same_name n e.0 ≡ b → find name_cmp n (shown_children (e ∷ es)) ≡ of_child n (cond b (Some e.1) (lookup (is_at (name_cmp n)) es))) [
      | true ↦ λ b. here (one_name n e.0 b) b rest
      | false ↦ λ b. elim (is_hidden e.0) as (λ d. find name_cmp n (cond d (shown_children es) ((e.0, is_dir (at e.1 [])) ∷ shown_children es)) ≡ of_child n (lookup (is_at (name_cmp n)) es)) [
        | true ↦ rest
        | false ↦ ap (λ d. cond d (Some (is_dir (at e.1 []))) (find name_cmp n (shown_children es))) b ∙ rest
      ]
    ] refl
  where
    here : n ≡ e.0 → same_name n e.0 ≡ true → find name_cmp n (shown_children es) ≡ of_child n (lookup (is_at (name_cmp n)) es) → find name_cmp n (shown_children (e ∷ es)) ≡ of_child n (Some e.1)
    here same b rest = elim (is_hidden e.0) as (λ d. is_hidden e.0 ≡ d → find name_cmp n (cond d (shown_children es) ((e.0, is_dir (at e.1 [])) ∷ shown_children es)) ≡ cond (is_hidden n) None (Some (is_dir (at e.1 [])))) [
      | true ↦ λ d. let hid : is_hidden n ≡ true = ap is_hidden same ∙ d in
          rest ∙ of_none n (lookup (is_at (name_cmp n)) es) hid ∙ sym (ap (λ k. cond k None (Some (is_dir (at e.1 [])))) hid)
      | false ↦ λ d. ap (λ k. cond k (Some (is_dir (at e.1 []))) (find name_cmp n (shown_children es))) b ∙ sym (ap (λ k. cond k None (Some (is_dir (at e.1 [])))) (ap is_hidden same ∙ d))
    ] refl

pub of_child-shown : (n : Name) (v : Option (Rows ℕ)) → ((rows : Rows ℕ) → v ≡ Some rows → is_some (at rows []) ≡ true) → of_child n v ≡ shown n (at_child v [])
of_child-shown n None stands = let none : Option Bool = None in elim (is_hidden n) as (λ b. none ≡ cond b none none) [ true ↦ refl | false ↦ refl ]
of_child-shown n (Some rows) stands = kind (at rows []) (stands rows refl)
  where
    kind : (e : Option (Entry ℕ)) → is_some e ≡ true → cond (is_hidden n) None (Some (is_dir e)) ≡ shown n e
    kind None h = absurd (cc)
    kind (Some entry.Dir) h = refl
    kind (Some (entry.File chunks)) h = refl

pub shown_nothing : (n : Name) → None ≡ shown {A = ℕ} n None
shown_nothing n = let none : Option Bool = None in elim (is_hidden n) as (λ b. none ≡ cond b none none) [ true ↦ refl | false ↦ refl ]

pub shown-hidden : (e : Name × Rows ℕ) (es : List (Name × Rows ℕ)) → is_hidden e.0 ≡ true → shown_children (e ∷ es) ≡ shown_children es
shown-hidden e es h = ap (λ b. cond b (shown_children es) ((e.0, is_dir (at e.1 [])) ∷ shown_children es)) h

pub shown-visible : (e : Name × Rows ℕ) (es : List (Name × Rows ℕ)) → is_hidden e.0 ≡ false → shown_children (e ∷ es) ≡ (e.0, is_dir (at e.1 [])) ∷ shown_children es
shown-visible e es h = ap (λ b. cond b (shown_children es) ((e.0, is_dir (at e.1 [])) ∷ shown_children es)) h

-- the pairs of a directory's listing are its visible children
pub listing : (listed : List Listed) (es : List (Name × Rows ℕ)) → pairs_of listed ≡ shown_children es → IsStrictlySortedBy name_cmp (keys_of es) → ((n : Name) (child : Rows ℕ) → lookup (is_at (name_cmp n)) es ≡ Some child → is_some (at child []) ≡ true) → IsListing (at (([], Dir) ∷ joined es)) listed
listing listed es is sorted rooted = record {
  rise = ap (is_sorted name_cmp) is ∙ shown_rise es sorted;
  each = λ n. ap (find name_cmp n) is ∙ find_shown es n sorted ∙ of_child-shown n (lookup (is_at (name_cmp n)) es) (λ rows e. rooted n rows e) ∙ ap (shown n) (sym (at-joined n [] es sorted));
}
