-- What an edit of names leaves where it stands.
use Rattle.std.specs.Prelude.{◌≡◌, Bool, true, false, not, [], ◌∷◌, codes, is_some, Ok, refl}
use Rattle.std.specs.FinMap as fin
use Rattle.gs_edit.specs.View.{NamesView}
use Rattle.gs_path.specs.Path.{Path, begins}
use Rattle.gs_master_record.specs.Plain.{PlainEdit, AddChunk, Cow, Create, Forget, Hide, Mkdirs, Remove, Rename, Snapshot, Unhide}
use Rattle.gs_master_spec.specs.Undoing.{edited_names}
use Rattle.gs_tree.specs.Edits.{same_path}
use Rattle.gs_laws_master.specs.Promises.{AreKept}

-- Nothing that stands at the path or above it is moved, hidden or removed by the edit, and no chunk of the path's is added or replaced.
abbrev pub spares_path : PlainEdit → Path → Bool
spares_path (Mkdirs p) q = true
spares_path (Create p) q = true
spares_path (Rename from to) q = not (begins from q)
spares_path (Hide p moment number) q = not (begins p q)
spares_path (Unhide p) q = not (begins p q)
spares_path (Remove p) q = not (begins p q)
spares_path (AddChunk p chunk) q = not (same_path p q)
spares_path (Cow p index old new) q = not (same_path p q)
spares_path (Snapshot from to) q = true
spares_path (Forget chunks) q = true

-- So what stands there stays, with all its chunks.
abbrev pub EditsSpare : Type 0
EditsSpare = (edit : PlainEdit) (old new : NamesView) (q : Path) → AreKept old → edited_names edit old ≡ Ok new → spares_path edit q ≡ true → is_some (fin.get old.tree q) ≡ true → fin.get new.tree q ≡ fin.get old.tree q

-- ---- examples

abbrev a : Path
a = codes "a" ∷ []

abbrev f : Path
f = codes "a" ∷ codes "f" ∷ []

what_is_above_is_moved : spares_path (Rename a (codes "b" ∷ [])) f ≡ false
what_is_above_is_moved = refl

another_chunk_of_another : spares_path (Cow a 0 7 8) f ≡ true
another_chunk_of_another = refl
