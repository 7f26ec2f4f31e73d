-- An edit of the tree and of the counts, as the names see it.
use Rattle.std.proofs.Common.{◌≡◌, ℕ, ◌-◌, inl, inr, ◌&&◌, Bool, true, false, not, cond, List, [], ◌∷◌, ◌++◌, length, set, nat_lt, refl, sym, ap, ◌∙◌, subst, arith}
use Rattle.std.specs.Prelude.{Option, Some, None, Result, Ok, Err, IfOk, is_none, slice_get}
use Rattle.std.proofs.lemmas.Bool.{ltb-true}
use Rattle.std.proofs.lemmas.List.{get_or_push, length_push, length-set, get_or-set_same}
use Rattle.std.proofs.lemmas.Option.{slice_get_read}
use Rattle.std.specs.FinMap.{FinMap, get, insert, entries, get-entries, find, same_map}
use Rattle.gs_base.specs.declared.refusal.Refusal.{Refusal}
use Rattle.gs_base.specs.declared.refusal.Refusal.TheVariants.{BadLine, NotFound, IsADirectory, Range}
use Rattle.gs_refs.specs.Counts.{Counts}
use Rattle.gs_path.specs.Path.{Path, path_cmp, path_total}
use Rattle.gs_tree.specs.Entry.{Entry, Dir, File}
use Rattle.gs_tree.specs.Entry as entry
use Rattle.gs_tree.specs.Plain.{Plain, Same}
use Rattle.gs_tree.specs.Find.{Rows}
use Rattle.gs_tree.specs.Edits.{add_chunk, set_chunk, with_chunks, chunks_in, is_dir}
use Rattle.gs_tree.specs.Follows as tree
use Rattle.gs_tree.specs.Inverses.{LeavesChunks, IsMoved, TakesBack}
use Rattle.gs_tree.specs.Places.{given_up}
use Rattle.gs_tree.specs.declared.inverse.TreeInverse.{TreeInverse}
use Rattle.gs_tree.specs.declared.inverse.TreeInverse.TheVariants.{Made, Moved, Removed, Added, Changed, Copied}
use Rattle.gs_tree.proofs.Chunks.{chunks_now}
use Rattle.gs_edit.specs.View.{NamesView, names_of}
use Rattle.gs_edit.specs.Edits.{Applies, AppliesRows, KeepsRefs, edited, renamed, admits, counted, handed_over, holds_chunk, has_reference, with_counts}
use Rattle.gs_edit.specs.Names.{NamesTakenBack, Undoes, last_chunk, kept_of}
use Rattle.gs_edit.specs.Places.{IsClosed, is_move}
use Rattle.gs_edit.specs.declared.edit.Edit.{Edit}
use Rattle.gs_edit.specs.declared.edit.Edit.TheVariants as edits
use Rattle.gs_edit.proofs.Covers.{applies-add, applies-set}
use Rattle.std.proofs.lemmas.Bool.Decides.{nat_tests}
use Rattle.gs_edit.specs.declared.edit.Inverse.TheVariants as inverses
use Rattle.gs_edit.proofs.Tables.{paths_antisymmetric}

pub same_names : (t u : FinMap path_cmp (Entry ℕ)) (m n : Counts) → t ≡ u → m ≡ n → names_of t m ≡ names_of u n
same_names t u m n e f = λ i. names_of (e i) (f i)

pub same_tree : (t u : FinMap path_cmp (Entry ℕ)) → Same (get t) (get u) → t ≡ u
same_tree t u h = same_map path_total paths_antisymmetric t u h

pub tree_of_rows : (t u : FinMap path_cmp (Entry ℕ)) → entries t ≡ entries u → t ≡ u
tree_of_rows t u e = same_tree t u (λ q. get-entries t q ∙ ap (λ (rows : Rows ℕ). find path_cmp q rows) e ∙ sym (get-entries u q))

-- an edit that leaves the counts
pub kept_applies : (edit : Edit) → KeepsRefs edit → (r : Result TreeInverse Refusal) (t u : FinMap path_cmp (Entry ℕ)) (m : Counts) → AppliesRows edit (entries t) r (entries u) → Applies edit (names_of t m) (kept_of r) (names_of u m)
kept_applies edit keeps (Ok i) t u m h = keeps (entries t) m ∙ ap (λ rows. with_counts rows (Ok m)) h
kept_applies edit keeps (Err e) t u m (inl same, left) = (inl (keeps (entries t) m ∙ ap (λ rows. with_counts rows (Ok m)) same), same_names u t m m (tree_of_rows u t left) refl)
kept_applies edit keeps (Err e) t u m (inr memory, left) = (inr memory, same_names u t m m (tree_of_rows u t left) refl)

-- an inverse of the tree's that doesn't fit, or finds no memory
pub undo_refused : (i : TreeInverse) (t u : FinMap path_cmp (Entry ℕ)) (m : Counts) (e : Refusal) → tree.Undoes i (get t) (Err e) (get u) → Undoes (inverses.Tree i) (names_of t m) (Err e) (names_of u m)
undo_refused i t u m e h = (
  elim h.0 [
    | inl memory ↦ inl memory
    | inr b ↦ inr (b.0, λ fits some. b.1 fits)
  ],
  same_names u t m m (same_tree u t h.1) refl,
)

pub undo_kept : (i : TreeInverse) → LeavesChunks i → (r : Result (Unit {0}) Refusal) (t u : FinMap path_cmp (Entry ℕ)) (m : Counts) → tree.Undoes i (get t) r (get u) → Undoes (inverses.Tree i) (names_of t m) r (names_of u m)
undo_kept i leaves (Err e) t u m h = undo_refused i t u m e h
undo_kept (Made path above) leaves (Ok _) t u m h = (h.0, h.1, refl)
undo_kept (Moved from to) leaves (Ok _) t u m h = (h.0, h.1, refl)
undo_kept (Removed path node) leaves (Ok _) t u m h = absurd leaves
undo_kept (Added path) leaves (Ok _) t u m h = absurd leaves
undo_kept (Changed path index chunk) leaves (Ok _) t u m h = absurd leaves
undo_kept (Copied path) leaves (Ok _) t u m h = absurd leaves

last_appended : (cs : List ℕ) (c : ℕ) → last_chunk (cs ++ c ∷ []) ≡ Some c
last_appended cs c =
    let len = length_push cs c in
    let at_end : length cs ≡ length (cs ++ c ∷ []) - 1 = omega arith in
    slice_get_read (cs ++ c ∷ []) (length (cs ++ c ∷ [])) (length (cs ++ c ∷ []) - 1) c refl (omega arith) (sym (get_or_push cs c c (length (cs ++ c ∷ []) - 1) at_end))

-- the last chunk once one was added
pub added_last : (m new : Plain ℕ) (p : Path) (c : ℕ) (i : TreeInverse) → tree.FollowsPlain (add_chunk m p c) (Ok i) m new → last_chunk (chunks_in (new p)) ≡ Some c
added_last m new p c i h = each (m p) h
  where
    each : (v : Option (Entry ℕ)) → tree.FollowsPlain {I = TreeInverse} (cond (is_none v) (Err NotFound) (cond (is_dir v) (Err IsADirectory) (Ok (with_chunks p (chunks_in v ++ c ∷ []) m)))) (Ok i) m new → last_chunk (chunks_in (new p)) ≡ Some c
    each None k = absurd k
    each (Some entry.Dir) k = absurd k
    each (Some (entry.File cs)) k = ap last_chunk (chunks_now p (cs ++ c ∷ []) m new k) ∙ last_appended cs c

-- the chunk at a place once it was changed
pub changed_at : (m new : Plain ℕ) (p : Path) (index c : ℕ) (i : TreeInverse) → tree.FollowsPlain (set_chunk m p index c) (Ok i) m new → slice_get (chunks_in (new p)) index ≡ Some c
changed_at m new p index c i h = each (m p) h
  where
    inside : (cs : List ℕ) (b : Bool) → nat_lt index (length cs) ≡ b → tree.FollowsPlain {I = TreeInverse} (cond (not b) (Err Range) (Ok (with_chunks p (set cs index c) m))) (Ok i) m new → slice_get (chunks_in (new p)) index ≡ Some c
    inside cs false e k = absurd k
    inside cs true e k =
        let below = ltb-true index (length cs) e in
        let len = length-set cs index c in
        ap (λ l. slice_get l index) (chunks_now p (set cs index c) m new k) ∙ slice_get_read (set cs index c) (length (set cs index c)) index c refl (omega arith) (sym (get_or-set_same cs index c c below))

    each : (v : Option (Entry ℕ)) → tree.FollowsPlain {I = TreeInverse} (cond (is_none v) (Err NotFound) (cond (is_dir v) (Err IsADirectory) (cond (not (nat_lt index (length (chunks_in v)))) (Err Range) (Ok (with_chunks p (set (chunks_in v) index c) m))))) (Ok i) m new → slice_get (chunks_in (new p)) index ≡ Some c
    each None k = absurd k
    each (Some entry.Dir) k = absurd k
    each (Some (entry.File cs)) k = inside cs (nat_lt index (length cs)) refl k

-- a chunk that is added
pub add_applies : (p : Path) (c : ℕ) (i : TreeInverse) (t u : FinMap path_cmp (Entry ℕ)) (m n : Counts) → is_none (get m c) ≡ true → n ≡ insert m c 1 → tree.FollowsPlain (add_chunk (get t) p c) (Ok i) (get t) (get u) → renamed (edits.AddChunk p c) (names_of t m) ≡ Ok (entries u, n)
add_applies p c i t u m n none is h =
    ap (λ b. cond b (with_counts (edited (edits.AddChunk p c) (entries t)) (Ok (insert m c 1))) (Err BadLine)) none
    ∙ ap (λ rows. with_counts rows (Ok (insert m c 1))) (applies-add p c (Ok i) t u h) ∙ ap (λ (k : Counts). Ok (entries u, k)) (sym is)

pub add_refused : (p : Path) (c : ℕ) (e : Refusal) (t u : FinMap path_cmp (Entry ℕ)) (m n : Counts) → is_none (get m c) ≡ true → n ≡ m → tree.FollowsPlain {I = TreeInverse} (add_chunk (get t) p c) (Err e) (get t) (get u) → Applies {I = TreeInverse} (edits.AddChunk p c) (names_of t m) (Err e) (names_of u n)
add_refused p c e t u m n none is h =
    let rows = applies-add {I = TreeInverse} p c (Err e) t u h in (
      elim rows.0 [
        | inl same ↦ inl (ap (λ b. cond b (with_counts (edited (edits.AddChunk p c) (entries t)) (Ok (insert m c 1))) (Err BadLine)) none ∙ ap (λ r. with_counts r (Ok (insert m c 1))) same)
        | inr memory ↦ inr memory
      ],
      same_names u t n m (tree_of_rows u t rows.1) is,
    )

-- a chunk that is changed
pub set_applies : (p : Path) (index old c : ℕ) (i : TreeInverse) (t u : FinMap path_cmp (Entry ℕ)) (m n : Counts) → admits (edits.Cow p index old c) (entries t) m ≡ true → n ≡ handed_over m old c → tree.FollowsPlain (set_chunk (get t) p index c) (Ok i) (get t) (get u) → renamed (edits.Cow p index old c) (names_of t m) ≡ Ok (entries u, n)
set_applies p index old c i t u m n admitted is h =
    ap (λ b. cond b (with_counts (edited (edits.Cow p index old c) (entries t)) (Ok (handed_over m old c))) (Err BadLine)) admitted
    ∙ ap (λ rows. with_counts rows (Ok (handed_over m old c))) (applies-set p index old c (Ok i) t u h) ∙ ap (λ (k : Counts). Ok (entries u, k)) (sym is)

pub set_refused : (p : Path) (index old c : ℕ) (e : Refusal) (t u : FinMap path_cmp (Entry ℕ)) (m n : Counts) → admits (edits.Cow p index old c) (entries t) m ≡ true → n ≡ m → tree.FollowsPlain {I = TreeInverse} (set_chunk (get t) p index c) (Err e) (get t) (get u) → Applies {I = TreeInverse} (edits.Cow p index old c) (names_of t m) (Err e) (names_of u n)
set_refused p index old c e t u m n admitted is h =
    let rows = applies-set {I = TreeInverse} p index old c (Err e) t u h in (
      elim rows.0 [
        | inl same ↦ inl (ap (λ b. cond b (with_counts (edited (edits.Cow p index old c) (entries t)) (Ok (handed_over m old c))) (Err BadLine)) admitted ∙ ap (λ r. with_counts r (Ok (handed_over m old c))) same)
        | inr memory ↦ inr memory
      ],
      same_names u t n m (tree_of_rows u t rows.1) is,
    )

-- what a chunk's change asks for, of the tree instead of its rows
pub admits_seen : (p : Path) (index old c : ℕ) (t : FinMap path_cmp (Entry ℕ)) (m : Counts) (b : Bool) → (is_none (get m c) && (holds_chunk (slice_get (chunks_in (get t p)) index) old && has_reference (get m old))) ≡ b → admits (edits.Cow p index old c) (entries t) m ≡ b
admits_seen p index old c t m b h = ap (λ v. is_none (get m c) && (holds_chunk (slice_get (chunks_in v) index) old && has_reference (get m old))) (sym (get-entries t p)) ∙ h

-- the chunk of a place is the one that a change was told
pub held : (v : Option ℕ) (had old : ℕ) → v ≡ Some had → holds_chunk v old ≡ true → had ≡ old
held None had old e h = absurd (cc)
held (Some own) had old e h = let k : own ≡ had = cc in let o : own ≡ old = grind (arith, nat_tests) in sym k ∙ o

-- an edit that isn't given what it asks for
pub not_admitted : (edit : Edit) (t : FinMap path_cmp (Entry ℕ)) (m : Counts) → admits edit (entries t) m ≡ false → renamed edit (names_of t m) ≡ Err BadLine
not_admitted edit t m h = ap (λ b. cond b (with_counts (edited edit (entries t)) (counted edit (entries t) m)) (Err BadLine)) h

-- what the names' edit says of the tree, where the counts stay
pub rows_applied : {I : Type 0} (edit : Edit) → KeepsRefs edit → (r : Result I Refusal) (old new : NamesView) → Applies edit old r new → AppliesRows edit (entries old.tree) r (entries new.tree)
rows_applied edit keeps (Ok i) old new h = each (edited edit (entries old.tree)) (sym (keeps (entries old.tree) old.refs) ∙ h)
  where
    each : (rows : Result (Rows ℕ) Refusal) → with_counts rows (Ok old.refs) ≡ Ok (entries new.tree, new.refs) → rows ≡ Ok (entries new.tree)
    each (Ok rows) e = let one : Rows ℕ × Counts = (rows, old.refs) in let two : Rows ℕ × Counts = (entries new.tree, new.refs) in let k : one ≡ two = cc in ap (λ (p : Rows ℕ × Counts). Ok p.0) k
    each (Err f) e = absurd (cc)
rows_applied edit keeps (Err e) old new (inl same, left) = (inl (each (edited edit (entries old.tree)) (sym (keeps (entries old.tree) old.refs) ∙ same)), ap (λ v. entries v.tree) left)
  where
    each : (rows : Result (Rows ℕ) Refusal) → with_counts rows (Ok old.refs) ≡ Err e → rows ≡ Err e
    each (Ok rows) k = absurd (cc)
    each (Err f) k = let m : f ≡ e = cc in ap Err m
rows_applied edit keeps (Err e) old new (inr memory, left) = (inr memory, ap (λ v. entries v.tree) left)

-- an edit that moves something leaves the counts
move_keeps : (edit : Edit) → is_move edit ≡ true → KeepsRefs edit
move_keeps (edits.Mkdirs p) is = absurd (cc)
move_keeps (edits.Create p) is = absurd (cc)
move_keeps (edits.Rename from to) is = λ rows refs. refl
move_keeps (edits.Hide p moment number) is = λ rows refs. refl
move_keeps (edits.Unhide p) is = λ rows refs. refl
move_keeps (edits.Remove p) is = absurd (cc)
move_keeps (edits.AddChunk p chunk) is = absurd (cc)
move_keeps (edits.Cow p index old new) is = absurd (cc)
move_keeps (edits.Snapshot from to) is = absurd (cc)
move_keeps (edits.Forget chunks) is = absurd (cc)

pub moved_applies : (edit : Edit) → is_move edit ≡ true → (r : Result TreeInverse Refusal) (t u : FinMap path_cmp (Entry ℕ)) (m : Counts) → AppliesRows edit (entries t) r (entries u) → Applies edit (names_of t m) r (names_of u m)
moved_applies edit is (Ok i) t u m h = move_keeps edit is (entries t) m ∙ ap (λ rows. with_counts rows (Ok m)) h
moved_applies edit is (Err e) t u m (inl same, left) = (inl (move_keeps edit is (entries t) m ∙ ap (λ rows. with_counts rows (Ok m)) same), same_names u t m m (tree_of_rows u t left) refl)
moved_applies edit is (Err e) t u m (inr memory, left) = (inr memory, same_names u t m m (tree_of_rows u t left) refl)

-- a move is taken back as the tree's
pub moved_back : (i : TreeInverse) (t u : FinMap path_cmp (Entry ℕ)) (m : Counts) → IsMoved i → TakesBack i (get t) (get u) → NamesTakenBack (inverses.Tree i) (names_of t m) (names_of u m)
moved_back (Made path above) t u m is h = absurd is
moved_back (Moved from to) t u m is h = record { fits = h.fits; tree = h.back; refs = refl }
moved_back (Removed path node) t u m is h = absurd is
moved_back (Added path) t u m is h = absurd is
moved_back (Changed path index chunk) t u m is h = absurd is
moved_back (Copied path) t u m is h = absurd is

pub each_moved_back : (made : Result TreeInverse Refusal) (t n : FinMap path_cmp (Entry ℕ)) (m : Counts) → IfOk made (λ i. IsMoved i) → IfOk made (λ i. TakesBack i (get t) (given_up made (get n)))
    → IfOk made (λ i. (after : NamesView) → IsClosed made (names_of n m) after → NamesTakenBack (inverses.Tree i) (names_of t m) after)
each_moved_back (Err e) t n m is h = tt
each_moved_back (Ok i) t n m is h = λ after closed.
    subst (λ (c : Counts). NamesTakenBack (inverses.Tree i) (names_of t m) (names_of after.tree c)) (sym closed.1)
    (moved_back i t after.tree m is (subst (λ (p : Plain ℕ). TakesBack i (get t) p) (λ j q. sym (closed.0 q) j) h))
