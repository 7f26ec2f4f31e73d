-- A file with other chunks.
use Rattle.std.proofs.Common.{◌≡◌, ◌-◌, ℕ, Bool, true, false, cond, List, [], ◌∷◌, ◌++◌, length, take, set, refl, sym, ap, ◌∙◌, arith, nat_lt}
use Rattle.std.specs.Prelude.{Option, Some, None, Result, Ok, Err, is_none}
use Rattle.std.specs.declared.cmp.Ordering.{Ordering}
use Rattle.std.specs.declared.cmp.Ordering.TheVariants.{Less, Equal, Greater}
use Rattle.std.specs.Ordering.{is_eq, ordering_then}
use Rattle.gs_base.specs.declared.refusal.Refusal.{Refusal}
use Rattle.gs_base.specs.declared.refusal.Refusal.TheVariants.{NotFound, IsADirectory}
use Rattle.gs_path.specs.Path.{Name, Path, same_name, name_cmp, path_cmp}
use Rattle.gs_tree.specs.Entry.{Entry, Dir, File}
use Rattle.gs_tree.specs.Entry as entry
use Rattle.gs_tree.specs.Plain.{Plain, Same}
use Rattle.gs_tree.specs.Find.{Rows, at}
use Rattle.gs_tree.specs.Edits.{with_entry, with_chunks, chunks_in, is_file, is_dir, same_path, add_chunk}
use Rattle.gs_tree.specs.inner.Sort.{sort_of}
use Rattle.gs_tree.specs.declared.node.Sort.TheVariants as sorts
use Rattle.gs_tree.proofs.Splice.{splice, one_name}
use Rattle.gs_tree.proofs.Reaching.{same_path-is}
use Rattle.std.specs.Cmp.{eq_by_cmp_equiv}
use Rattle.std.proofs.Common.{length-append, length-set}
use Rattle.std.proofs.Math.Seq.{take-append_seam}
use Rattle.std.proofs.lemmas.Bool.{lt-ltb}
use Rattle.gs_tree.specs.Inverses.{TakesBack, all_but_last}
use Rattle.gs_tree.specs.inner.Steps.{SwapsChunk}
use Rattle.gs_tree.specs.declared.inverse.TreeInverse.TheVariants.{Added, Changed}
use Rattle.gs_path.specs.Path.{path_total}

chunks_then : (o c : Ordering) (e : Entry ℕ) (v : Option (Entry ℕ)) → cond (is_eq (ordering_then o c)) (Some e) v ≡ cond (is_eq o) (cond (is_eq c) (Some e) v) v
chunks_then Less c e v = refl
chunks_then Equal c e v = refl
chunks_then Greater c e v = refl

entry-cons : (x y : Name) (t r : Path) (e : Entry ℕ) (f : Plain ℕ) → with_entry (x ∷ t) e f (y ∷ r) ≡ cond (same_name x y) (cond (same_path t r) (Some e) (f (y ∷ r))) (f (y ∷ r))
entry-cons x y t r e f = chunks_then (name_cmp x y) (path_cmp t r) e (f (y ∷ r))

-- a child that has other chunks
pub chunks_below : (x : Name) (t : Path) (chunks : List ℕ) (child child' : Rows ℕ) (f : Plain ℕ) → ((r : Path) → f (x ∷ r) ≡ at child r) → ((r : Path) → at child' r ≡ with_chunks t chunks (at child) r) → (q : Path) → splice x (Some child') f q ≡ with_chunks (x ∷ t) chunks f q
chunks_below x t chunks child child' f g is [] = refl
chunks_below x t chunks child child' f g is (y ∷ r) =
    elim (same_name x y) as (λ b. same_name x y ≡ b → cond b (at child' r) (f (y ∷ r)) ≡ cond b (cond (same_path t r) (Some (File chunks)) (f (y ∷ r))) (f (y ∷ r))) [
      | true ↦ λ b. is r ∙ ap (cond (same_path t r) (Some (File chunks))) (sym (g r) ∙ ap (λ z. f (z ∷ r)) (one_name x y b))
      | false ↦ λ b. refl
    ] refl
    ∙ sym (entry-cons x y t r (File chunks) f)

pub file_is : (v : Option (Entry ℕ)) → sorts.File ≡ sort_of v → is_file v ≡ true
file_is None e = absurd (cc)
file_is (Some entry.Dir) e = absurd (cc)
file_is (Some (entry.File chunks)) e = refl

pub same_itself : (p : Path) → same_path p p ≡ true
same_itself p = (eq_by_cmp_equiv path_total).refl p

-- the file has the chunks that it was given
pub chunks_at : (p : Path) (chunks : List ℕ) (m : Plain ℕ) → with_chunks p chunks m p ≡ Some (File chunks)
chunks_at p chunks m = ap (λ b. cond b (Some (File chunks)) (m p)) (same_itself p)

twice : (b : Bool) (e d v : Option (Entry ℕ)) → cond b e (cond b d v) ≡ cond b e v
twice true e d v = refl
twice false e d v = refl

-- the last chunks that are given count
pub chunks_twice : (p : Path) (first second : List ℕ) (m one two : Plain ℕ) → Same one (with_chunks p first m) → Same two (with_chunks p second one) → Same two (with_chunks p second m)
chunks_twice p first second m one two h g q = g q ∙ ap (λ v. cond (same_path p q) (Some (File second)) v) (h q) ∙ twice (same_path p q) (Some (File second)) (Some (File first)) (m q)

-- its own chunks change nothing
pub chunks_same : (p : Path) (m : Plain ℕ) → is_file (m p) ≡ true → (q : Path) → with_chunks p (chunks_in (m p)) m q ≡ m q
chunks_same p m file q =
    elim (same_path p q) as (λ b. same_path p q ≡ b → cond b (Some (File (chunks_in (m p)))) (m q) ≡ m q) [
      | true ↦ λ b. own (m p) file ∙ ap m (same_path-is p q b)
      | false ↦ λ b. refl
    ] refl
  where
    own : (v : Option (Entry ℕ)) → is_file v ≡ true → Some (File (chunks_in v)) ≡ v
    own None h = absurd (cc)
    own (Some entry.Dir) h = absurd (cc)
    own (Some (entry.File chunks)) h = refl

-- other chunks are taken back by the old ones
pub chunks_back : (p : Path) (chunks : List ℕ) (m new : Plain ℕ) → is_file (m p) ≡ true → Same new (with_chunks p chunks m) → (old : List ℕ) → old ≡ chunks_in (m p) → Same (with_chunks p old new) m
chunks_back p chunks m new file is old e q =
    ap (λ (l : List ℕ). with_chunks p l new q) e ∙ chunks_twice p chunks (chunks_in (m p)) m new (with_chunks p (chunks_in (m p)) new) is (λ r. refl) q ∙ chunks_same p m file q

file_tests : (v : Option (Entry ℕ)) (r : Result (Plain ℕ) Refusal) → is_file v ≡ true → cond (is_none v) (Err NotFound) (cond (is_dir v) (Err IsADirectory) r) ≡ r
file_tests None r h = absurd (cc)
file_tests (Some entry.Dir) r h = absurd (cc)
file_tests (Some (entry.File chunks)) r h = refl

pub add-is : (m : Plain ℕ) (p : Path) (chunk : ℕ) → is_file (m p) ≡ true → add_chunk m p chunk ≡ Ok (with_chunks p (chunks_in (m p) ++ chunk ∷ []) m)
add-is m p chunk file = file_tests (m p) (Ok (with_chunks p (chunks_in (m p) ++ chunk ∷ []) m)) file

pub all_but_appended : (xs : List ℕ) (x : ℕ) → take (length (xs ++ x ∷ []) - 1) (xs ++ x ∷ []) ≡ xs
all_but_appended xs x = let n : length (xs ++ x ∷ []) - 1 ≡ length xs = omega (arith, length-append xs (x ∷ [])) in ap (λ k. take k (xs ++ x ∷ [])) n ∙ take-append_seam xs (x ∷ [])

pub some_appended : (xs : List ℕ) (x : ℕ) → nat_lt 0 (length (xs ++ x ∷ [])) ≡ true
some_appended xs x = lt-ltb 0 (length (xs ++ x ∷ [])) (omega (arith, length-append xs (x ∷ [])))

-- chunks that are taken out and the same put back
pub chunks_restored : (p : Path) (first second : List ℕ) (m one two : Plain ℕ) → is_file (m p) ≡ true → Same one (with_chunks p first m) → Same two (with_chunks p second one) → second ≡ chunks_in (m p) → Same two m
chunks_restored p first second m one two file h g e q = chunks_twice p first second m one two h g q ∙ ap (λ (l : List ℕ). with_chunks p l m q) e ∙ chunks_same p m file q

-- what the file has once it was given chunks
pub chunks_now : (p : Path) (chunks : List ℕ) (m new : Plain ℕ) → Same new (with_chunks p chunks m) → chunks_in (new p) ≡ chunks
chunks_now p chunks m new is = ap chunks_in (is p ∙ chunks_at p chunks m)

pub takes_added : (p : Path) (chunk : ℕ) (m new : Plain ℕ) → is_file (m p) ≡ true → Same new (with_chunks p (chunks_in (m p) ++ chunk ∷ []) m) → TakesBack (Added p) m new
takes_added p chunk m new file is =
    let now = chunks_now p (chunks_in (m p) ++ chunk ∷ []) m new is in record {
      fits = ap (λ l. nat_lt 0 (length l)) now ∙ some_appended (chunks_in (m p)) chunk;
      back = chunks_back p (chunks_in (m p) ++ chunk ∷ []) m new file is (all_but_last (chunks_in (new p))) (ap all_but_last now ∙ all_but_appended (chunks_in (m p)) chunk);
    }

pub takes_changed : (p : Path) (index chunk had : ℕ) (m new : Plain ℕ) → is_file (m p) ≡ true → SwapsChunk p index chunk m (Ok had) new → TakesBack (Changed p index had) m new
takes_changed p index chunk had m new file (inside, again, is, own) =
    let now = chunks_now p (set (chunks_in (m p)) index chunk) m new is in record {
      fits = ap (λ l. nat_lt index (length l)) now ∙ ap (nat_lt index) (length-set (chunks_in (m p)) index chunk) ∙ inside;
      back = chunks_back p (set (chunks_in (m p)) index chunk) m new file is (set (chunks_in (new p)) index had) (ap (λ (l : List ℕ). set l index had) now ∙ again);
    }
