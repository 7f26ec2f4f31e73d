-- One text changes, at the one place of its chunk.
use Rattle.std.proofs.Common.{◌≡◌, ◌≢◌, ◌∙◌, ◌++◌, ℕ, zero, suc, Bool, true, false, not, cond, T, List, [], ◌∷◌, length, map, nat_lt, append-nil, append_assoc, refl, sym, ap, subst, arith}
use Rattle.std.specs.Prelude.{Option, Some, None, Result, Ok, Err, if◌then◌else◌, is_none, option_map, slice_get, slice_set, unwrap_or, ◌==◌}
use Rattle.std.specs.FinMap as fin
use Rattle.std.specs.FinMap.Entries.{is_sorted, same_entries}
use Rattle.std.proofs.lemmas.Bool.{false≢true}
use Rattle.std.proofs.lemmas.Bool.Decides.{nat_tests}
use Rattle.std.proofs.lemmas.Option.{slice_get-map, slice_get_within}
use Rattle.gs_base.specs.declared.refusal.Refusal.{Refusal}
use Rattle.gs_base.specs.declared.refusal.Refusal.TheVariants.{NotFound, IsADirectory, Range}
use Rattle.gs_path.specs.Path.{Path, path_cmp, path_total}
use Rattle.gs_tree.specs.Edits.{chunks_in, is_dir, same_path, set_chunk, with_chunks}
use Rattle.gs_tree.specs.Entry.{Dir, Entry, File}
use Rattle.gs_tree.specs.Find.{Rows, at}
use Rattle.gs_tree.specs.Mapped.{mapped_at}
use Rattle.gs_tree.specs.Plain.{Plain, Same}
use Rattle.gs_edit.proofs.Payloads.{set_chunk-tables}
use Rattle.gs_edit.proofs.Tables.{paths_antisymmetric, same_itself, same_path-is, seen}
use Rattle.gs_edit.specs.Mapped.{Tables, mapped_rows}
use Rattle.gs_edit.specs.Plain.{set_chunk_rows}
use Rattle.gs_edit.specs.View.{NamesView}
use Rattle.gs_laws_plain.specs.commands.Commands.{EditChunk, with_rows}
use Rattle.gs_laws_plain.proofs.lemmas.commands.Leading.{one_more}
use Rattle.gs_laws_plain.proofs.lemmas.commands.Rows.{at_mapped, sorted_mapped, within}
use Rattle.gs_laws_plain.specs.commands.Edits.{shown}
use Rattle.gs_laws_plain.specs.commands.OnePlace.{EditsOfAPlaceAreCommands, KeepOthers, OneEditIsACommand, StandsAlone, edits_of_place}
use Rattle.gs_replica.proofs.Listing.{after_more}
use Rattle.gs_replica.specs.Copies.{Image, and_then}
use Rattle.gs_replica.specs.Stands.{Edit, edited_bytes, no_edits, replica_of}

-- ---- lists of chunks

-- a chunk that isn't among them
same_map : (text next : ℕ → List ℕ) (chunk : ℕ) (chunks : List ℕ) → KeepOthers text next chunk → ((place : ℕ) → slice_get chunks place ≢ Some chunk) → map next chunks ≡ map text chunks
same_map text next chunk [] keep no_place = refl
same_map text next chunk (c ∷ chunks) keep no_place =
    ap (λ t. t ∷ map next chunks) (keep c (λ is. no_place 0 (ap Some is))) ∙ ap (λ ts. text c ∷ ts) (same_map text next chunk chunks keep (λ place. no_place (suc place)))

-- one that is among them once
one_set : (text next : ℕ → List ℕ) (chunk : ℕ) (chunks : List ℕ) (index : ℕ) → KeepOthers text next chunk → slice_get chunks index ≡ Some chunk → ((place : ℕ) → slice_get chunks place ≡ Some chunk → place ≡ index) →
    map next chunks ≡ slice_set (map text chunks) index (next chunk)
one_set text next chunk [] index keep here alone = let w = slice_get_within [] index chunk here in absurd (omega arith)
one_set text next chunk (c ∷ chunks) zero keep here alone =
    let is : c ≡ chunk = (let h = here in cc) in
    ap (λ d. next d ∷ map next chunks) is
    ∙ ap (λ ts. next chunk ∷ ts) (same_map text next chunk chunks keep (λ place there. let k = alone (suc place) there in absurd (omega arith)))
one_set text next chunk (c ∷ chunks) (suc index) keep here alone =
    ap (λ t. t ∷ map next chunks) (keep c (λ is. let k = alone 0 (ap Some is) in absurd (omega arith)))
    ∙ ap (λ ts. text c ∷ ts) (one_set text next chunk chunks index keep here (λ place there. let k = alone (suc place) there in omega arith))

-- ---- rows

tables_ok : {A : Type 0} (m : Plain A) (r : Result (Rows A) Refusal) (rows : Rows A) → Tables (Ok m) r → T (is_sorted path_cmp rows) → Same (at rows) m → r ≡ Ok rows
tables_ok m (Ok own) rows t sorted same = ap Ok (same_entries path_cmp path_total paths_antisymmetric own rows (true_t (is_sorted path_cmp own) t.0) sorted (λ q. t.1 q ∙ sym (same q)))
  where
    true_t : (b : Bool) → b ≡ true → T b
    true_t true h = tt
    true_t false h = absurd (false≢true h)
tables_ok m (Err x) rows t sorted same = absurd t

-- what becomes of a tree where this stands at the path
set_done : {A : Type 0} (m : Plain A) (p : Path) (index : ℕ) (x : A) (chunks : List A) → m p ≡ Some (File chunks) → nat_lt index (length chunks) ≡ true → set_chunk m p index x ≡ Ok (with_chunks p (slice_set chunks index x) m)
set_done {A} m p index x chunks is inside =
    ap (λ v. set_in v) is ∙ ap (λ b. if not b then Err Range else Ok (with_chunks p (slice_set chunks index x) m)) inside
  where
    set_in : Option (Entry A) → Result (Plain A) Refusal
    set_in v =
        if is_none v then Err NotFound
        else if is_dir v then Err IsADirectory
        else if not (nat_lt index (length (chunks_in v))) then Err Range
        else Ok (with_chunks p (slice_set (chunks_in v) index x) m)

-- a chunk stands in a file
in_file : (v : Option (Entry ℕ)) (index chunk : ℕ) → slice_get (chunks_in v) index ≡ Some chunk → v ≡ Some (File (chunks_in v))
in_file None index chunk here = let w = slice_get_within [] index chunk here in absurd (omega arith)
in_file (Some Dir) index chunk here = let w = slice_get_within [] index chunk here in absurd (omega arith)
in_file (Some (File chunks)) index chunk here = refl

module _ (text next : ℕ → List ℕ) (names : NamesView) (chunk : ℕ) (p : Path) (index : ℕ) (keep : KeepOthers text next chunk) (stands : StandsAlone names chunk p index) where
  abbrev rows : Rows ℕ
  rows = fin.entries names.tree

  abbrev texts : Rows (List ℕ)
  texts = mapped_rows text rows

  abbrev chunks : List ℕ
  chunks = chunks_in (at rows p)

  here : slice_get chunks index ≡ Some chunk
  here = ap (λ m. slice_get (chunks_in (m p)) index) (sym (seen names.tree)) ∙ stands.here

  alone : (q : Path) (place : ℕ) → slice_get (chunks_in (at rows q)) place ≡ Some chunk → (q ≡ p) × (place ≡ index)
  alone q place is = stands.alone q place (ap (λ m. slice_get (chunks_in (m q)) place) (seen names.tree) ∙ is)

  file : at rows p ≡ Some (File chunks)
  file = in_file (at rows p) index chunk here

  text_file : at texts p ≡ Some (File (map text chunks))
  text_file = at_mapped text rows p ∙ ap (mapped_at text) file

  text_here : slice_get (chunks_in (at texts p)) index ≡ Some (text chunk)
  text_here = ap (λ v. slice_get (chunks_in v) index) text_file ∙ slice_get-map text chunks index ∙ ap (option_map text) here

  elsewhere : (q : Path) (v : Option (Entry ℕ)) → at rows q ≡ v → same_path p q ≡ false → mapped_at next v ≡ mapped_at text v
  elsewhere q None is apart = refl
  elsewhere q (Some Dir) is apart = refl
  elsewhere q (Some (File others)) is apart =
      ap (λ ts. Some (File ts)) (same_map text next chunk others keep (λ place there.
      let one = alone q place (ap (λ v. slice_get (chunks_in v) place) is ∙ there) in absurd (false≢true (sym apart ∙ ap (same_path p) one.0 ∙ same_itself p))))

  same_rows : Same (at (mapped_rows next rows)) (with_chunks p (slice_set (map text chunks) index (next chunk)) (at texts))
  same_rows q = at_mapped next rows q ∙ each (same_path p q) refl
    where
      each : (b : Bool) → same_path p q ≡ b → mapped_at next (at rows q) ≡ cond b (Some (File (slice_set (map text chunks) index (next chunk)))) (at texts q)
      each true same =
          ap (λ r. mapped_at next (at rows r)) (sym (same_path-is p q same)) ∙ ap (mapped_at next) file
          ∙ ap (λ ts. Some (File ts)) (one_set text next chunk chunks index keep here (λ place there. (alone p place there).1))
      each false apart = elsewhere q (at rows q) refl apart ∙ sym (at_mapped text rows q)

  pub set_text : set_chunk_rows texts p index (next chunk) ≡ Ok (mapped_rows next rows)
  set_text =
      tables_ok (with_chunks p (slice_set (map text chunks) index (next chunk)) (at texts)) (set_chunk_rows texts p index (next chunk)) (mapped_rows next rows)
      (subst (λ r. Tables r (set_chunk_rows texts p index (next chunk))) (set_done (at texts) p index (next chunk) (map text chunks) text_file (within (map text chunks) index (text chunk) (slice_get-map text chunks index ∙ ap (option_map text) here))) (set_chunk-tables texts p index (next chunk)))
      (subst T (sym (sorted_mapped next rows)) (fin.entries_sorted names.tree)) same_rows

pub one_edit : OneEditIsACommand
one_edit size text next names kept chunk p index op bytes stands edited keep =
    let rows = fin.entries names.tree in
    let own : unwrap_or (slice_get (chunks_in (at (mapped_rows text rows) p)) index) [] ≡ text chunk = ap (λ o. unwrap_or o []) (text_here text next names chunk p index keep stands) in
    ap (λ t. and_then (with_rows (shown text kept names) (set_chunk_rows (mapped_rows text rows) p index (edited_bytes size op bytes t))) (λ m. Ok m)) own
    ∙ ap (λ t. and_then (with_rows (shown text kept names) (set_chunk_rows (mapped_rows text rows) p index t)) (λ m. Ok m)) (sym edited)
    ∙ ap (λ r. and_then (with_rows (shown text kept names) r) (λ m. Ok m)) (set_text text next names chunk p index keep stands)

-- ---- many edits of one text

unfoldable with_text : (ℕ → List ℕ) → ℕ → List ℕ → ℕ → List ℕ
with_text text chunk new other = cond (other == chunk) new (text other)

text_there : (text : ℕ → List ℕ) (chunk : ℕ) (new : List ℕ) → with_text text chunk new chunk ≡ new
unfolding with_text
text_there text chunk new = ap (λ b. cond b new (text chunk)) (is_itself chunk)
  where
    is_itself : (c : ℕ) → (c == c) ≡ true
    is_itself c = grind (arith, nat_tests)

text_elsewhere : (text : ℕ → List ℕ) (chunk : ℕ) (new : List ℕ) (other : ℕ) → other ≢ chunk → with_text text chunk new other ≡ text other
unfolding with_text
text_elsewhere text chunk new other apart = ap (λ b. cond b new (text other)) (is_other (other == chunk) refl)
  where
    is_other : (b : Bool) → (other == chunk) ≡ b → (other == chunk) ≡ false
    is_other false h = h
    is_other true h = absurd (apart (grind (arith, nat_tests)))

all_alike : (text next : ℕ → List ℕ) (chunk : ℕ) → next chunk ≡ text chunk → KeepOthers text next chunk → next ≡ text
all_alike text next chunk here others = λ i c. each c (c == chunk) refl i
  where
    each : (c : ℕ) (b : Bool) → (c == chunk) ≡ b → next c ≡ text c
    each c true h = let is : c ≡ chunk = grind (arith, nat_tests) in ap next is ∙ here ∙ ap text (sym is)
    each c false h = others c (λ is. absurd (false≢true (sym h ∙ ap (λ k. k == chunk) is ∙ itself chunk)))
      where
        itself : (k : ℕ) → (k == k) ≡ true
        itself k = grind (arith, nat_tests)

one_more_edit : (size : ℕ) (settled : List Edit) (e : Edit) → (replica_of size (settled ++ e ∷ [])).bytes ≡ edited_bytes size e.op e.bytes (replica_of size settled).bytes
unfolding replica_of
one_more_edit size settled e = ap (λ (i : Image). i.bytes) (after_more size no_edits settled (e ∷ []))

pub many_edits : EditsOfAPlaceAreCommands
many_edits size text next names kept chunk p index settled [] stands had has keep =
    ap (λ (t : ℕ → List ℕ). Ok (shown t kept names)) (sym (all_alike text next chunk (has ∙ ap (λ (es : List Edit). (replica_of size es).bytes) (append-nil settled) ∙ sym had) keep))
many_edits size text next names kept chunk p index settled (e ∷ edits) stands had has keep =
    let new = (replica_of size (settled ++ e ∷ [])).bytes in
    let first = one_edit size text (with_text text chunk new) names kept chunk p index e.op e.bytes stands (text_there text chunk new ∙ one_more_edit size settled e ∙ ap (edited_bytes size e.op e.bytes) (sym had)) (text_elsewhere text chunk new) in
    one_more size (Some (EditChunk p index e.op e.bytes)) (edits_of_place p index edits) (shown text kept names) (shown (with_text text chunk new) kept names) first
    ∙ many_edits size (with_text text chunk new) next names kept chunk p index (settled ++ e ∷ []) edits stands (text_there text chunk new)
    (has ∙ ap (λ (es : List Edit). (replica_of size es).bytes) (sym (append_assoc settled (e ∷ []) edits))) (λ other apart. keep other apart ∙ sym (text_elsewhere text chunk new other apart))
