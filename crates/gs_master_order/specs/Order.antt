-- Rows of a tree in the order of the bytes of their paths' texts.
use Rattle.std.specs.Prelude.{◌≡◌, ℕ, List, [], ◌∷◌, codes, Some, None, refl}
use Rattle.std.specs.FinMap as fin
use Rattle.gs_path.specs.Path.{text_cmp}
use Rattle.gs_tree.specs.Entry.{Dir, File, chunks_of}
use Rattle.gs_tree.specs.Find.{Rows}
use Rattle.gs_master_record.specs.Plain.{PlainNode}

-- rows by the bytes of their paths' texts, so that a path stands before those under it
abbrev pub by_text : Rows ℕ → List PlainNode
by_text [] = []
by_text (r ∷ rows) = fin.put text_cmp r.0 (chunks_of r.1) (by_text rows)

-- `/a.b` stands between `/a` and `/a/b`
between : by_text ((codes "a" ∷ codes "b" ∷ [], Dir) ∷ (codes "a" ∷ [], Dir) ∷ (codes "a.b" ∷ [], File (7 ∷ [])) ∷ [])
    ≡ (codes "a" ∷ [], None) ∷ (codes "a.b" ∷ [], Some (7 ∷ [])) ∷ (codes "a" ∷ codes "b" ∷ [], None) ∷ []
between = refl

-- of two rows of one path the first counts
twice : by_text ((codes "a" ∷ [], File (7 ∷ [])) ∷ (codes "a" ∷ [], Dir) ∷ []) ≡ (codes "a" ∷ [], Some (7 ∷ [])) ∷ []
twice = refl
