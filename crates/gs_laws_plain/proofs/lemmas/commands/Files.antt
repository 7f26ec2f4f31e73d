-- The bytes of a text stand in its file.
use Rattle.std.proofs.Common.{◌≡◌, ◌∙◌, ◌*◌, ◌+◌, ◌-◌, ◌++◌, ◌<◌, ◌≤◌, ℕ, zero, suc, Bool, true, false, not, cond, List, [], ◌∷◌, length, nat_lt, take, drop, replicate, refl, sym, ap, subst, arith}
use Rattle.std.specs.Prelude.{Option, Some, None, Result, Ok, Err, if◌then◌else◌, is_none, slice_get, slice_set}
use Rattle.std.proofs.Math.Seq.{drop-append-add, drop-append_seam}
use Rattle.std.proofs.lemmas.Bool.Decides.{nat_tests}
use Rattle.std.proofs.lemmas.List.{drop-append-le, length-append, length-drop, length-replicate, take-append-le, take_all}
use Rattle.std.proofs.lemmas.Option.{slice_get_within}
use Rattle.gs_base.specs.declared.refusal.Refusal.{Refusal}
use Rattle.gs_base.specs.declared.refusal.Refusal.TheVariants as refusals
use Rattle.gs_block.specs.Chunk.{padded}
use Rattle.gs_client_part.specs.Writing.{placed}
use Rattle.gs_edit.proofs.Payloads.{set_chunk-tables}
use Rattle.gs_edit.proofs.Tables.{same_itself}
use Rattle.gs_edit.specs.Machine.{Plain}
use Rattle.gs_edit.specs.Mapped.{Tables}
use Rattle.gs_edit.specs.Plain.{set_chunk_rows}
use Rattle.gs_path.specs.Path.{Path}
use Rattle.gs_tree.specs.Edits.{chunks_in, is_dir, set_chunk, with_chunks}
use Rattle.gs_tree.specs.Entry.{Dir, Entry, File}
use Rattle.gs_tree.specs.Find.{at}
use Rattle.gs_tree.specs.Plain.{Plain as Tree}
use Rattle.gs_laws_plain.specs.commands.Commands.{Texts, file_bytes, joined, text_at, texts_at, with_rows}
use Rattle.gs_laws_plain.specs.commands.Files.{RecordsStandInFiles, TextsStandInFiles}

-- ---- a list behind another

-- what stands in the first of two lists
cut_first : (xs ys : List ℕ) (offset many : ℕ) → offset + many ≤ length xs → take many (drop offset (xs ++ ys)) ≡ take many (drop offset xs)
cut_first xs ys offset many within =
    let left = length-drop offset xs in
    ap (take many) (drop-append-le offset xs ys (omega arith)) ∙ take-append-le many (drop offset xs) ys (omega arith)

-- a chunk that is filled up is as long as the size
padded_long : (size : ℕ) (text : List ℕ) → length text ≤ size → length (padded size text) ≡ size
padded_long size text within =
    let zeros : length (replicate {A = ℕ} (size - length text) 0) ≡ size - length text = length-replicate (size - length text) 0 in
    let all : length (padded size text) ≡ length text + length (replicate {A = ℕ} (size - length text) 0) = length-append text (replicate (size - length text) 0) in
    omega arith

-- no chunk comes before the first
none_before : (size offset : ℕ) → 0 * size + offset ≡ offset
none_before size offset = grind arith

one_text : (a b : List ℕ) → ◌≡◌ {A = Option (List ℕ)} (Some a) (Some b) → a ≡ b
one_text a b is = cc

-- ---- in a file

pub texts_stand : TextsStandInFiles
texts_stand size [] index offset many text within here inside = absurd (let w = slice_get_within [] index text here in omega arith)
texts_stand size (t ∷ []) zero offset many text within here inside = ap (λ n. take many (drop n t)) (none_before size offset) ∙ ap (λ xs. take many (drop offset xs)) (one_text t text here)
texts_stand size (t ∷ []) (suc index) offset many text within here inside = absurd (let w = slice_get_within [] index text here in omega arith)
texts_stand size (t ∷ next ∷ texts) zero offset many text within here inside =
    let is : t ≡ text = one_text t text here in
    let long : length t ≡ length text = ap (λ (xs : List ℕ). length xs) is in
    let all : length (padded size t) ≡ length t + length (replicate {A = ℕ} (size - length t) 0) = length-append t (replicate (size - length t) 0) in
    ap (λ n. take many (drop n (padded size t ++ joined size (next ∷ texts)))) (none_before size offset) ∙ cut_first (padded size t) (joined size (next ∷ texts)) offset many (omega arith)
    ∙ cut_first t (replicate (size - length t) 0) offset many (omega arith) ∙ ap (λ xs. take many (drop offset xs)) is
texts_stand size (t ∷ next ∷ texts) (suc index) offset many text within here inside =
    let long = padded_long size t within.0 in
    ap (λ n. take many (drop n (padded size t ++ joined size (next ∷ texts)))) (further (length (padded size t)) long)
    ∙ ap (take many) (drop-append-add (padded size t) (joined size (next ∷ texts)) (index * size + offset)) ∙ texts_stand size (next ∷ texts) index offset many text within.1 here inside
  where
    further : (n : ℕ) → n ≡ size → suc index * size + offset ≡ n + (index * size + offset)
    further n is = subst (λ k. suc index * size + offset ≡ k + (index * size + offset)) (sym is) (grind arith)

-- ---- a record that is appended

set_here : {X : Type 0} (xs : List X) (index : ℕ) (y : X) → index < length xs → slice_get (slice_set xs index y) index ≡ Some y
set_here [] index y less = absurd (omega arith)
set_here (x ∷ xs) zero y less = refl
set_here (x ∷ xs) (suc index) y less = set_here xs index y (omega arith)

-- where a text is set there is a file with that many texts, and it has the new one there
set_texts : (m : Tree (List ℕ)) (p : Path) (index : ℕ) (new : List ℕ) (made : Tree (List ℕ)) → set_chunk m p index new ≡ Ok made → slice_get (chunks_in (made p)) index ≡ Some new
set_texts m p index new made is = by_entry (m p) refl is
  where
    set_in : Option (Entry (List ℕ)) → Result (Tree (List ℕ)) Refusal
    set_in v =
        if is_none v then Err refusals.NotFound
        else if is_dir v then Err refusals.IsADirectory
        else if not (nat_lt index (length (chunks_in v))) then Err refusals.Range
        else Ok (with_chunks p (slice_set (chunks_in v) index new) m)

    ok_is : (a b : Tree (List ℕ)) → ◌≡◌ {A = Result (Tree (List ℕ)) Refusal} (Ok a) (Ok b) → b ≡ a
    ok_is a b is = cc

    by_test : (texts : List (List ℕ)) (b : Bool) → nat_lt index (length texts) ≡ b → ◌≡◌ {A = Result (Tree (List ℕ)) Refusal} (if not b then Err refusals.Range else Ok (with_chunks p (slice_set texts index new) m)) (Ok made) → slice_get (chunks_in (made p)) index ≡ Some new
    by_test texts false test is = absurd (cc)
    by_test texts true test is =
        ap (λ (t : Tree (List ℕ)). slice_get (chunks_in (t p)) index) (ok_is _ _ is) ∙ ap (λ b. slice_get (chunks_in (cond b (Some (File (slice_set texts index new))) (m p))) index) (same_itself p)
        ∙ set_here texts index new (grind (arith, nat_tests))

    by_entry : (v : Option (Entry (List ℕ))) → m p ≡ v → set_in (m p) ≡ Ok made → slice_get (chunks_in (made p)) index ≡ Some new
    by_entry None there is = absurd (let none : ◌≡◌ {A = Result (Tree (List ℕ)) Refusal} (Err refusals.NotFound) (Ok made) = sym (ap set_in there) ∙ is in cc)
    by_entry (Some Dir) there is = absurd (let none : ◌≡◌ {A = Result (Tree (List ℕ)) Refusal} (Err refusals.IsADirectory) (Ok made) = sym (ap set_in there) ∙ is in cc)
    by_entry (Some (File texts)) there is = by_test texts (nat_lt index (length texts)) refl (sym (ap set_in there) ∙ is)

set_rows : (rows made : Texts) (p : Path) (index : ℕ) (new : List ℕ) → set_chunk_rows rows p index new ≡ Ok made → slice_get (texts_at made p) index ≡ Some new
set_rows rows made p index new is = by_tree (set_chunk (at rows) p index new) refl (subst (Tables (set_chunk (at rows) p index new)) is (set_chunk-tables rows p index new))
  where
    by_tree : (r : Result (Tree (List ℕ)) Refusal) → set_chunk (at rows) p index new ≡ r → Tables r (Ok made) → slice_get (texts_at made p) index ≡ Some new
    by_tree (Ok tree) makes tables = ap (λ v. slice_get (chunks_in v) index) (tables.1 p) ∙ set_texts (at rows) p index new tree makes
    by_tree (Err e) makes tables = absurd tables

-- what is behind a list
ends_with : (xs ys : List ℕ) → take (length ys) (drop (length xs) (xs ++ ys)) ≡ ys
ends_with xs ys = ap (take (length ys)) (drop-append_seam xs ys) ∙ take_all (length ys) ys (omega arith)

place_is : (size index offset place : ℕ) → placed size index offset ≡ Ok place → place ≡ index * size + offset
place_is size index offset place is = by_test (nat_lt offset size) is
  where
    ok_is : (a b : ℕ) → ◌≡◌ {A = Result ℕ Refusal} (Ok a) (Ok b) → b ≡ a
    ok_is a b is = cc

    by_test : (b : Bool) → ◌≡◌ {A = Result ℕ Refusal} (if b then Ok (index * size + offset) else Err refusals.Stray) (Ok place) → place ≡ index * size + offset
    by_test true is = ok_is (index * size + offset) place is
    by_test false is = absurd (cc)

pub records_stand : RecordsStandInFiles
records_stand size m n p index place bytes is within told = by_rows (set_chunk_rows m.tree p index (text_at m.tree p index ++ bytes)) refl is
  where
    text : List ℕ
    text = text_at m.tree p index

    tree_is : (rows : Texts) → ◌≡◌ {A = Result (Plain (List ℕ)) Refusal} (Ok (record m { tree = rows })) (Ok n) → n.tree ≡ rows
    tree_is rows is = ap (λ (k : Plain (List ℕ)). k.tree) (same (record m { tree = rows }) n is)
      where
        same : (a b : Plain (List ℕ)) → ◌≡◌ {A = Result (Plain (List ℕ)) Refusal} (Ok a) (Ok b) → b ≡ a
        same a b is = cc

    by_rows : (r : Result Texts Refusal) → set_chunk_rows m.tree p index (text ++ bytes) ≡ r → with_rows m r ≡ Ok n → take (length bytes) (drop place (file_bytes size n.tree p)) ≡ bytes
    by_rows (Err e) made is = absurd (cc)
    by_rows (Ok rows) made is =
        let there : slice_get (texts_at n.tree p) index ≡ Some (text ++ bytes) = ap (λ rs. slice_get (texts_at rs p) index) (tree_is rows is) ∙ set_rows m.tree rows p index (text ++ bytes) made in
        let long = length-append text bytes in
        ap (λ k. take (length bytes) (drop k (file_bytes size n.tree p))) (place_is size index (length text) place told)
        ∙ texts_stand size (texts_at n.tree p) index (length text) (length bytes) (text ++ bytes) within there (omega arith) ∙ ends_with text bytes
