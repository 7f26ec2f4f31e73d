-- Where a path is once it is deleted, or renamed.
use Rattle.std.proofs.Common.{◌≡◌, ◌∙◌, ℕ, [], ◌∷◌, ◌++◌, map, refl, ap, sym}
use Rattle.std.specs.Prelude.{None, Some, Result, Ok, Err, IfOk, is_some, if◌then◌else◌}
use Rattle.std.specs.FinMap as fin
use Rattle.gs_path.specs.Path.{path_cmp, Name, Path, parent_of}
use Rattle.gs_tree.specs.Entry.{Entry, Dir}
use Rattle.gs_tree.specs.Find.{at}
use Rattle.gs_tree.specs.Plain.{Plain}
use Rattle.std.proofs.lemmas.Bool.{false≢true}
use Rattle.gs_path.specs.Element.{hidden_name}
use Rattle.gs_tree.proofs.Moves.{last-append}
use Rattle.gs_tree.specs.Edits.{beside, hidden_path, is_dir, last, parent, target_of}

pub parent_none : (p : Path) → parent_of p ≡ None → parent p ≡ []
parent_none [] e = refl
parent_none (x ∷ p) e = absurd (false≢true (sym (ap is_some e)))

beside_hidden : (p front : Path) (x : Name) (moment number : ℕ) → p ≡ front ++ x ∷ [] → beside p (hidden_name moment number x) ≡ hidden_path p moment number
beside_hidden p front x moment number is = ap (λ names. parent p ++ map (λ name. hidden_name moment number name) names) (sym (ap last is ∙ last-append front x))

pub hidden_beside : {E : Type 0} (r : Result Path E) (p front : Path) (x name : Name) (moment number : ℕ) → p ≡ front ++ x ∷ [] → name ≡ hidden_name moment number x →
    IfOk r (λ other. other ≡ beside p name) → IfOk r (λ hidden. hidden ≡ hidden_path p moment number)
hidden_beside (Ok other) p front x name moment number is named made = made ∙ ap (beside p) named ∙ beside_hidden p front x moment number is
hidden_beside (Err e) p front x name moment number is named made = tt

pub target_dir : (m : Plain ℕ) (from to front : Path) (x : Name) (target new : Path) (name : Name) → m to ≡ Some Dir → from ≡ front ++ x ∷ [] → target ≡ to → name ≡ x → new ≡ target ++ name ∷ [] → new ≡ target_of m from to
target_dir m from to front x target new name stands split copied same is =
    is ∙ (λ i. copied i ++ same i ∷ []) ∙ ap (λ rest. to ++ rest) (sym (ap last split ∙ last-append front x))
    ∙ sym (ap (λ o. if is_dir o then to ++ last from else to) stands)

pub seen : (t : fin.FinMap path_cmp (Entry ℕ)) → fin.get t ≡ at (fin.entries t)
seen t = λ i q. fin.get-entries t q i
