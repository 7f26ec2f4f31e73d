-- The rows of an edit of names, with texts in place of chunks, are what its command makes.
use Rattle.std.proofs.Common.{◌≡◌, ◌&&◌, ℕ, Bool, true, false, cond, T, List, [], refl, sym, ap, ◌∙◌, subst, arith}
use Rattle.std.specs.Prelude.{Option, Some, Result, Ok, Err, ◌==◌, is_none, option_map, slice_get}
use Rattle.std.specs.FinMap as fin
use Rattle.std.specs.FinMap.Entries.{is_sorted}
use Rattle.std.proofs.lemmas.Bool.{and_parts}
use Rattle.std.proofs.lemmas.Bool.Decides.{nat_tests}
use Rattle.std.proofs.lemmas.Option.{slice_get-map}
use Rattle.gs_base.specs.declared.refusal.Refusal.{Refusal}
use Rattle.gs_base.specs.declared.refusal.Refusal.TheVariants.{BadLine}
use Rattle.gs_path.specs.Path.{Path, path_cmp}
use Rattle.gs_refs.specs.Counts.{Counts, taken_each}
use Rattle.gs_replica.specs.Copies.{and_then}
use Rattle.gs_tree.specs.Edits.{add_chunk, chunks_in, create, hide, mkdirs, remove, rename, set_chunk, snapshot, unhide}
use Rattle.gs_tree.specs.Entry.{Entry}
use Rattle.gs_tree.specs.Find.{Rows, at, is_copied_too_deep, is_too_deep}
use Rattle.gs_tree.specs.Plain.{Plain}
use Rattle.gs_edit.specs.Edits.{admits, counted, has_reference, holds_chunk, with_counts}
use Rattle.gs_edit.specs.Machine.{Plain as Machine}
use Rattle.gs_edit.specs.Mapped.{Tables, mapped_edit, mapped_rows}
use Rattle.gs_edit.specs.Plain.{add_chunk_rows, create_rows, hide_rows, mkdirs_rows, remove_rows, rename_rows, set_chunk_rows, snapshot_rows, unhide_rows}
use Rattle.gs_edit.specs.View.{NamesView}
use Rattle.gs_edit.specs.declared.edit.Edit.TheVariants as edits
use Rattle.gs_edit.proofs.Payloads.{mkdirs-tables, create-tables, rename-tables, hide-tables, unhide-tables, remove-tables, add_chunk-tables, set_chunk-tables, snapshot-tables, mkdirs_rows-map, create_rows-map, rename_rows-map, hide_rows-map, unhide_rows-map, remove_rows-map, add_chunk_rows-map, set_chunk_rows-map, snapshot_rows-map}
use Rattle.gs_laws_plain.specs.commands.Commands.{Texts, with_rows}
use Rattle.gs_laws_plain.proofs.lemmas.commands.Rows.{at_mapped, chunks_mapped, from_itself, set_at_itself, set_at_one, sorted_mapped}
use Rattle.gs_laws_plain.specs.commands.Edits.{EditsAreCommands, shown}
use Rattle.gs_master_record.specs.Plain as entries
use Rattle.gs_master_spec.specs.Undoing.{edited_names, named_plain, names_from}

true_t : (b : Bool) → b ≡ true → T b
true_t true h = tt
true_t false h = absurd (cc)

sorted_of : (m : Result (Plain ℕ) Refusal) (r : Result (Rows ℕ) Refusal) (rows : Rows ℕ) → Tables m r → r ≡ Ok rows → T (is_sorted path_cmp rows)
sorted_of (Ok m) (Ok own) rows t e = let same : own ≡ rows = (let h = e in cc) in true_t (is_sorted path_cmp rows) (subst (λ (rs : Rows ℕ). is_sorted path_cmp rs ≡ true) same t.0)
sorted_of (Ok m) (Err x) rows t e = absurd t
sorted_of (Err x) (Ok own) rows t e = absurd t
sorted_of (Err x) (Err y) rows t e = absurd (cc)

-- names that an edit makes: it is given what it asks for, and they have its rows
abbrev AreMade : Bool → Result (Rows ℕ) Refusal → NamesView → Type 0
AreMade given r new = (given ≡ true) × (rows : Rows ℕ) × (r ≡ Ok rows) × (new.tree ≡ fin.from_entries rows)

made_of : (given : Bool) (r : Result (Rows ℕ) Refusal) (refs : Result Counts Refusal) (new : NamesView) → names_from (cond given (with_counts r refs) (Err BadLine)) ≡ Ok new → AreMade given r new
made_of false r refs new e = absurd (cc)
made_of true (Err x) refs new e = absurd (cc)
made_of true (Ok rows) (Err x) new e = absurd (cc)
made_of true (Ok rows) (Ok counts) new e = (refl, rows, refl, sym (ap (λ (n : Result NamesView Refusal). tree_in n) e))
  where
    tree_in : Result NamesView Refusal → fin.FinMap path_cmp (Entry ℕ)
    tree_in (Ok n) = n.tree
    tree_in (Err x) = fin.empty

module _ (text : ℕ → List ℕ) (kept : Option Texts) (old new : NamesView) where
  abbrev rows : Rows ℕ
  rows = fin.entries old.tree

  -- the new names have these rows
  read_rows : (m : Result (Plain ℕ) Refusal) (r : Result (Rows ℕ) Refusal) (given : Bool) → Tables m r → AreMade given r new → (rows : Rows ℕ) × (r ≡ Ok rows) × (fin.entries new.tree ≡ rows)
  read_rows m r given t made = (made.1, made.2, ap fin.entries made.3 ∙ from_itself made.1 (sorted_of m r made.1 t made.2))

  leads : (m : Result (Plain ℕ) Refusal) (r : Result (Rows ℕ) Refusal) (given : Bool) (refs : Result Counts Refusal) (texts : Result Texts Refusal) → Tables m r → texts ≡ mapped_edit text r → names_from (cond given (with_counts r refs) (Err BadLine)) ≡ Ok new →
      and_then (with_rows (shown text kept old) texts) (λ next. Ok next) ≡ Ok (shown text kept new)
  leads m r given refs texts t follows e =
      let read = read_rows m r given t (made_of given r refs new e) in
      ap (λ ts. and_then (with_rows (shown text kept old) ts) (λ next. Ok next)) (follows ∙ ap (mapped_edit text) read.1)
      ∙ ap (λ (rs : Rows ℕ). Ok (record { tree = mapped_rows text rs; kept = kept })) (sym read.2)

  -- a chunk is put in the place of another with its text
  same_texts : (p : Path) (index before chunk : ℕ) → text chunk ≡ text before → names_from (named_plain (entries.Cow p index before chunk) rows old.refs) ≡ Ok new → ◌≡◌ {A = Result (Machine (List ℕ)) Refusal} (Ok (shown text kept old)) (Ok (shown text kept new))
  same_texts p index before chunk keeps e =
      let made = made_of (admits (edits.Cow p index before chunk) rows old.refs) (set_chunk_rows rows p index chunk) (counted (edits.Cow p index before chunk) rows old.refs) new e in
      let read = read_rows (set_chunk (at rows) p index chunk) (set_chunk_rows rows p index chunk) (admits (edits.Cow p index before chunk) rows old.refs) (set_chunk-tables rows p index chunk) made in
      let own = set_at_one rows read.0 p index chunk read.1 in
      let holds = (and_parts (holds_chunk (slice_get (chunks_in (at rows p)) index) before) (has_reference (fin.get old.refs before)) (and_parts (is_none (fin.get old.refs chunk)) (holds_chunk (slice_get (chunks_in (at rows p)) index) before && has_reference (fin.get old.refs before)) made.0).1).0 in
      let is : own.0 ≡ before = same_chunk own.0 before (ap (λ v. holds_chunk v before) (sym own.1) ∙ holds) in
      let there : slice_get (chunks_in (at (mapped_rows text rows) p)) index ≡ Some (text chunk) =
      ap (λ v. slice_get (chunks_in v) index) (at_mapped text rows p) ∙ ap (λ cs. slice_get cs index) (chunks_mapped text (at rows p)) ∙ slice_get-map text (chunks_in (at rows p)) index
      ∙ ap (option_map text) own.1 ∙ ap (λ c. Some (text c)) is ∙ ap Some (sym keeps) in
      let both : Ok (mapped_rows text rows) ≡ mapped_edit text (Ok read.0) =
      sym (set_at_itself (mapped_rows text rows) p index (text chunk) (subst T (sym (sorted_mapped text rows)) (fin.entries_sorted old.tree)) there) ∙ set_chunk_rows-map text rows p index chunk ∙ ap (mapped_edit text) read.1 in
      ap (λ ts. and_then (with_rows (shown text kept old) ts) (λ next. Ok next)) both ∙ ap (λ (rs : Rows ℕ). Ok (record { tree = mapped_rows text rs; kept = kept })) (sym read.2)
    where
      same_chunk : (a b : ℕ) → (a == b) ≡ true → a ≡ b
      same_chunk a b h = grind (arith, nat_tests)

  -- what is forgotten stands in no row
  same_rows : (chunks : List ℕ) → names_from (with_counts (Ok rows) (taken_each old.refs chunks)) ≡ Ok new → ◌≡◌ {A = Result (Machine (List ℕ)) Refusal} (Ok (shown text kept old)) (Ok (shown text kept new))
  same_rows chunks e =
      let made = made_of true (Ok rows) (taken_each old.refs chunks) new e in
      let same : fin.entries new.tree ≡ rows = ap fin.entries made.3 ∙ from_itself made.1 (subst (λ (rs : Rows ℕ). T (is_sorted path_cmp rs)) (own_rows made.1 made.2) (fin.entries_sorted old.tree)) ∙ sym (own_rows made.1 made.2) in
      ap (λ (rs : Rows ℕ). Ok (record { tree = mapped_rows text rs; kept = kept })) (sym same)
    where
      own_rows : (rs : Rows ℕ) → ◌≡◌ {A = Result (Rows ℕ) Refusal} (Ok rows) (Ok rs) → rows ≡ rs
      own_rows rs h = cc

pub edits_lead : EditsAreCommands
unfolding edited_names
edits_lead size text (entries.Mkdirs p) kept old new keeps e =
    let rows = fin.entries old.tree in leads text kept old new (mkdirs (at rows) p) (mkdirs_rows rows p) true (Ok old.refs) (mkdirs_rows (mapped_rows text rows) p) (mkdirs-tables rows p) (mkdirs_rows-map text rows p) e
edits_lead size text (entries.Create p) kept old new keeps e =
    let rows = fin.entries old.tree in leads text kept old new (create (at rows) p) (create_rows rows p) true (Ok old.refs) (create_rows (mapped_rows text rows) p) (create-tables rows p) (create_rows-map text rows p) e
edits_lead size text (entries.Rename from to) kept old new keeps e =
    let rows = fin.entries old.tree in leads text kept old new (rename (is_too_deep rows from) (at rows) from to) (rename_rows rows from to) true (Ok old.refs) (rename_rows (mapped_rows text rows) from to) (rename-tables rows from to) (rename_rows-map text rows from to) e
edits_lead size text (entries.Hide p moment number) kept old new keeps e =
    let rows = fin.entries old.tree in leads text kept old new (hide (at rows) p moment number) (hide_rows rows p moment number) true (Ok old.refs) (hide_rows (mapped_rows text rows) p moment number) (hide-tables rows p moment number) (hide_rows-map text rows p moment number) e
edits_lead size text (entries.Unhide p) kept old new keeps e =
    let rows = fin.entries old.tree in leads text kept old new (unhide (at rows) p) (unhide_rows rows p) true (Ok old.refs) (unhide_rows (mapped_rows text rows) p) (unhide-tables rows p) (unhide_rows-map text rows p) e
edits_lead size text (entries.Remove p) kept old new keeps e =
    let rows = fin.entries old.tree in leads text kept old new (remove (at rows) p) (remove_rows rows p) (admits (edits.Remove p) rows old.refs) (counted (edits.Remove p) rows old.refs) (remove_rows (mapped_rows text rows) p) (remove-tables rows p) (remove_rows-map text rows p) e
edits_lead size text (entries.AddChunk p chunk) kept old new keeps e =
    let rows = fin.entries old.tree in
    leads text kept old new (add_chunk (at rows) p chunk) (add_chunk_rows rows p chunk) (admits (edits.AddChunk p chunk) rows old.refs) (counted (edits.AddChunk p chunk) rows old.refs) (add_chunk_rows (mapped_rows text rows) p [])
    (add_chunk-tables rows p chunk) (ap (add_chunk_rows (mapped_rows text rows) p) (sym keeps) ∙ add_chunk_rows-map text rows p chunk) e
edits_lead size text (entries.Cow p index before chunk) kept old new keeps e = same_texts text kept old new p index before chunk keeps e
edits_lead size text (entries.Snapshot from to) kept old new keeps e =
    let rows = fin.entries old.tree in leads text kept old new (snapshot (is_copied_too_deep rows from) (at rows) from to) (snapshot_rows rows from to) true (counted (edits.Snapshot from to) rows old.refs) (snapshot_rows (mapped_rows text rows) from to) (snapshot-tables rows from to) (snapshot_rows-map text rows from to) e
edits_lead size text (entries.Forget chunks) kept old new keeps e = same_rows text kept old new chunks e
