-- What stands at the path of a file through a scan, and after a chunk is added.
use Rattle.std.proofs.Common.{◌≡◌, ◌∙◌, ◌||◌, ◌++◌, ℕ, Bool, true, false, not, cond, List, [], ◌∷◌, map, length, refl, ap, sym}
use Rattle.std.specs.Prelude.{is_none, slice_get, Some, None, Result, Ok}
use Rattle.std.specs.FinMap as fin
use Rattle.std.specs.List.{list_all, list_any}
use Rattle.std.proofs.lemmas.Bool.{false≢true, true≢false}
use Rattle.gs_base.specs.declared.refusal.Refusal.{Refusal}
use Rattle.gs_base.specs.declared.refusal.Refusal.TheVariants.{IsADirectory, NotFound, NotHidden}
use Rattle.gs_edit.proofs.Covers.{covered-add, covered-remove}
use Rattle.gs_edit.proofs.Tables.{same_itself}
use Rattle.gs_edit.specs.View.{NamesView}
use Rattle.gs_edit.specs.declared.edit.Edit.TheVariants as edits
use Rattle.gs_path.specs.Element.{is_hidden}
use Rattle.gs_path.specs.Path.{Path, begins, path_cmp, path_total}
use Rattle.gs_refs.specs.Counts.{taken_each}
use Rattle.gs_tree.proofs.Apart.{past, same_answer, through}
use Rattle.gs_tree.proofs.Splice.{begins_parts}
use Rattle.gs_tree.specs.Edits.{add_chunk, chunks_in, is_dir, old_name, remove, with_chunks}
use Rattle.gs_tree.specs.Entry.{File}
use Rattle.gs_tree.specs.Find.{Rows}
use Rattle.gs_tree.specs.Plain.{Plain, after, without}
use Rattle.gs_laws_moves.proofs.lemmas.moves.GivenNames.{names_given}
use Rattle.gs_laws_master.proofs.lemmas.names.EditsBack.{admitted, done_of, with_parts}
use Rattle.gs_laws_master.proofs.lemmas.names.Undone.{was_named}
use Rattle.gs_master_record.specs.Plain.{AddChunk, Edited, Forget, PlainEntry, Remove}
use Rattle.gs_master_spec.specs.Applied.{applied, is_visible, replayed}
use Rattle.gs_master_spec.specs.Durable.{Durable}
use Rattle.gs_master_spec.specs.Settling.{own_request}
use Rattle.gs_master_spec.specs.Undoing.{edited_names}
use Rattle.gs_master_spec.specs.Working.{scan_edits}
use Rattle.gs_laws_moves.proofs.lemmas.moves.Listed.{over_records}
use Rattle.gs_laws_moves.specs.moves.ForCalls.{HasChunks, StandsAt}

-- ---- a chunk that is added stands after the others

last_get : (xs : List ℕ) (c : ℕ) → slice_get (xs ++ c ∷ []) (length xs) ≡ Some c
last_get [] c = refl
last_get (x ∷ xs) c = last_get xs c

pub added_stands : (path : Path) (chunk : ℕ) (names next : NamesView) (index : ℕ) → edited_names (AddChunk path chunk) names ≡ Ok next → HasChunks names path index → StandsAt next path index chunk
added_stands path chunk names next index e has =
    let n = was_named (AddChunk path chunk) names next e in
    let done = done_of _ (λ m. add_chunk m path chunk) names.tree n.rows (covered-add (fin.entries names.tree) path chunk) (admitted (edits.AddChunk path chunk) (fin.entries names.tree) names.refs (n.rows, n.refs) n.made).rows in
    ap (λ (x : NamesView). slice_get (chunks_in (fin.get x.tree path)) index) (sym n.is) ∙ ap (λ (f : Plain ℕ). slice_get (chunks_in (f path)) index) done.same ∙ add_in (fin.get names.tree) done.plain done.is (ap chunks_in has.file)
  where
    add_in : (m n : Plain ℕ) → add_chunk m path chunk ≡ Ok n → chunks_in (m path) ≡ has.chunks → slice_get (chunks_in (n path)) index ≡ Some chunk
    add_in m n h was =
        let one = past (is_none (m path)) NotFound _ n h in
        let same = same_answer (with_chunks path (chunks_in (m path) ++ chunk ∷ []) m) n path (past (is_dir (m path)) IsADirectory _ n one) in
        ap (λ o. slice_get (chunks_in o) index) (same ∙ ap (λ b. cond b (Some (File (chunks_in (m path) ++ chunk ∷ []))) (m path)) (same_itself path))
        ∙ ap (λ xs. slice_get (xs ++ chunk ∷ []) index) was ∙ ap (slice_get (has.chunks ++ chunk ∷ [])) (sym has.count) ∙ last_get has.chunks chunk

-- ---- a scan leaves what is visible

any_back : (p r : Path) → list_any is_hidden p ≡ true → list_any is_hidden (p ++ r) ≡ true
any_back [] r some = absurd (false≢true some)
any_back (n ∷ p) r some = by_head (is_hidden n) some (any_back p r)
  where
    by_head : (b : Bool) → (b || list_any is_hidden p) ≡ true → (list_any is_hidden p ≡ true → list_any is_hidden (p ++ r) ≡ true) → (b || list_any is_hidden (p ++ r)) ≡ true
    by_head true h rest = refl
    by_head false h rest = rest h

old_hidden : (p : Path) → is_none (old_name p) ≡ false → list_any is_hidden p ≡ true
old_hidden [] h = absurd (true≢false h)
old_hidden (x ∷ []) h = by_test (is_hidden x) refl
  where
    by_test : (b : Bool) → is_hidden x ≡ b → (is_hidden x || false) ≡ true
    by_test true is = ap (λ b. b || false) is
    by_test false is = absurd (true≢false (rw is at h))
old_hidden (x ∷ y ∷ p) h = by_head (is_hidden x) (old_hidden (y ∷ p) h)
  where
    by_head : (b : Bool) → list_any is_hidden (y ∷ p) ≡ true → (b || list_any is_hidden (y ∷ p)) ≡ true
    by_head true g = refl
    by_head false g = g

not_below : (p path : Path) → is_none (old_name p) ≡ false → is_visible path ≡ true → begins p path ≡ false
not_below p path hidden visible = by_test (begins p path) refl
  where
    clash : (b : Bool) → b ≡ true → not b ≡ true → ⊥
    clash true a b = false≢true b
    clash false a b = false≢true a

    by_test : (b : Bool) → begins p path ≡ b → b ≡ false
    by_test true is = absurd (clash (list_any is_hidden path) (ap (list_any is_hidden) (begins_parts p path is) ∙ any_back p (after p path) (old_hidden p hidden)) visible)
    by_test false is = refl

rows_is : {a b : Rows ℕ} → ◌≡◌ {A = Result (Rows ℕ) Refusal} (Ok a) (Ok b) → a ≡ b
rows_is h = cc

module _ (path : Path) (visible : is_visible path ≡ true) where
  abbrev SameAt : NamesView → NamesView → Type 0
  SameAt old new = fin.get new.tree path ≡ fin.get old.tree path

  remove_same : (p : Path) (old new : NamesView) → edited_names (Remove p) old ≡ Ok new → SameAt old new
  remove_same p old new e =
      let n = was_named (Remove p) old new e in
      let done = done_of _ (λ m. remove m p) old.tree n.rows (covered-remove (fin.entries old.tree) p) (admitted (edits.Remove p) (fin.entries old.tree) old.refs (n.rows, n.refs) n.made).rows in
      ap (λ (x : NamesView). fin.get x.tree path) (sym n.is) ∙ ap (λ (f : Plain ℕ). f path) done.same ∙ removed (fin.get old.tree) done.plain done.is
    where
      removed : (m n : Plain ℕ) → remove m p ≡ Ok n → n path ≡ m path
      removed m n h =
          let hidden = through (is_none (old_name p)) NotHidden _ n h in
          let one = past (is_none (old_name p)) NotHidden _ n h in
          same_answer (without p m) n path (past (is_none (m p)) NotFound _ n one) ∙ ap (λ b. cond b None (m path)) (not_below p path hidden visible)

  forget_same : (chunks : List ℕ) (old new : NamesView) → edited_names (Forget chunks) old ≡ Ok new → SameAt old new
  forget_same chunks old new e =
      let n = was_named (Forget chunks) old new e in
      let same = (with_parts (Ok (fin.entries old.tree)) (taken_each old.refs chunks) (n.rows, n.refs) n.made).0 in
      ap (λ (x : NamesView). fin.get x.tree path) (sym n.is)
      ∙ ap (λ (r : Rows ℕ). fin.get (fin.from_entries {R = path_cmp} r) path) (sym (rows_is same)) ∙ fin.get-from_entries path_total (fin.entries old.tree) path ∙ sym (fin.get-entries old.tree path)

  abbrev is_scan : PlainEntry → Bool
  is_scan (Edited by (Remove p)) = true
  is_scan (Edited by (Forget chunks)) = true
  is_scan entry = false

  abbrev SameOn : Durable → Durable → Type 0
  SameOn d e = SameAt d.names e.names

  scan_record : (d e : Durable) (entry : PlainEntry) → is_scan entry ≡ true → applied d entry ≡ Some e → SameOn d e
  scan_record d e (Edited by (Remove p)) is fit = remove_same p d.names e.names (names_given d e by (Remove p) fit)
  scan_record d e (Edited by (Forget chunks)) is fit = forget_same chunks d.names e.names (names_given d e by (Forget chunks) fit)
  scan_record d e entry is fit = absurd (false≢true is)

  scan_all : (removed : List Path) (forgotten : List ℕ) → list_all is_scan (map (Edited own_request) (scan_edits removed forgotten)) ≡ true
  scan_all [] [] = refl
  scan_all [] (f ∷ forgotten) = refl
  scan_all (p ∷ removed) forgotten = scan_all removed forgotten

  pub scan_same : (removed : List Path) (forgotten : List ℕ) (d e : Durable) → replayed d (map (Edited own_request) (scan_edits removed forgotten)) ≡ Some e → SameOn d e
  scan_same removed forgotten d e fit = over_records SameOn (λ x. refl) (λ x n y a b. b ∙ a) is_scan scan_record (map (Edited own_request) (scan_edits removed forgotten)) d e (scan_all removed forgotten) fit
