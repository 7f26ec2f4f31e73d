-- Lists are written item by item.
use Rattle.std.proofs.Common.{◌≡◌, ℕ, List, [], ◌∷◌, ◌++◌, sym, ap, ◌∙◌, append_assoc}
use Rattle.std.proofs.lemmas.List.{append-nil}
use Rattle.std.specs.Prelude.{codes}
use Rattle.gs_base.specs.Texts.{behind_commas, list_text}

-- an item written, and the rest still to be
pub one_more : {A : Type 0} (text : A → List ℕ) (written : List ℕ) (x : A) (items rest : List A) → items ≡ x ∷ rest
    → (written ++ (codes "," ++ text x)) ++ behind_commas text rest ≡ written ++ behind_commas text items
one_more text written x items rest e =
    append_assoc written (codes "," ++ text x) (behind_commas text rest) ∙ ap (λ l. written ++ behind_commas text l) (sym e)

-- the first item written, and all behind it
pub all_written : {A : Type 0} (text : A → List ℕ) (written : List ℕ) (x : A) (items rest left : List A) → items ≡ x ∷ rest → left ≡ []
    → written ++ behind_commas text left ≡ behind_commas text rest → text x ++ written ≡ list_text text items
all_written text written x items rest left e none is =
    ap (λ l. text x ++ l) (sym (append-nil written) ∙ ap (λ l. written ++ behind_commas text l) (sym none) ∙ is) ∙ ap (list_text text) (sym e)
