-- Rows with another payload, and rows that have what a plain tree has.
use Rattle.std.specs.Prelude.{◌≡◌, ◌+◌, ◌∷◌, [], ℕ, List, true, map, Result, Ok, Err, codes, refl}
use Rattle.std.specs.FinMap.Entries.{is_sorted}
use Rattle.gs_base.specs.declared.refusal.Refusal.{Refusal}
use Rattle.gs_path.specs.Path.{path_cmp}
use Rattle.gs_tree.specs.Entry.{Dir, File}
use Rattle.gs_tree.specs.Plain.{Plain, Same}
use Rattle.gs_tree.specs.Find.{Rows, at}
use Rattle.gs_tree.specs.Mapped.{mapped_entry}
use Rattle.gs_edit.specs.Plain.{rename_rows}

-- each chunk as a function gives it
abbrev pub mapped_rows : {A B : Type 0} → (A → B) → Rows A → Rows B
mapped_rows f rows = map (λ r. (r.0, mapped_entry f r.1)) rows

abbrev pub mapped_edit : {A B : Type 0} → (A → B) → Result (Rows A) Refusal → Result (Rows B) Refusal
mapped_edit f (Ok rows) = Ok (mapped_rows f rows)
mapped_edit f (Err e) = Err e

-- the rows rise and have at each path what a plain command leaves there, or both are the same refusal
abbrev pub Tables : {A : Type 0} → Result (Plain A) Refusal → Result (Rows A) Refusal → Type 0
Tables (Ok m) (Ok rows) = (is_sorted path_cmp rows ≡ true) × Same (at rows) m
Tables (Ok m) (Err e) = ⊥
Tables (Err e) (Ok rows) = ⊥
Tables (Err e) (Err f) = f ≡ e

with_one_more : mapped_rows (λ n. n + 1) (([], Dir) ∷ (codes "f" ∷ [], File (7 ∷ 8 ∷ [])) ∷ []) ≡ ([], Dir) ∷ (codes "f" ∷ [], File (8 ∷ 9 ∷ [])) ∷ []
with_one_more = refl

-- a rename of handles and of texts
abbrev handles : Rows ℕ
handles = ([], Dir) ∷ (codes "d" ∷ [], Dir) ∷ (codes "f" ∷ [], File (7 ∷ 8 ∷ [])) ∷ []

abbrev text_of : ℕ → List ℕ
text_of chunk = (chunk + 90) ∷ []

a_rename_of_handles : rename_rows handles (codes "f" ∷ []) (codes "d" ∷ []) ≡ Ok (([], Dir) ∷ (codes "d" ∷ [], Dir) ∷ (codes "d" ∷ codes "f" ∷ [], File (7 ∷ 8 ∷ [])) ∷ [])
a_rename_of_handles = refl

a_rename_of_texts : rename_rows (mapped_rows text_of handles) (codes "f" ∷ []) (codes "d" ∷ []) ≡ Ok (([], Dir) ∷ (codes "d" ∷ [], Dir) ∷ (codes "d" ∷ codes "f" ∷ [], File (codes "a" ∷ codes "b" ∷ [])) ∷ [])
a_rename_of_texts = refl
