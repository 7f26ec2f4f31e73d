-- Once an edit was made, its inverse leads back to the names before it.
use Rattle.std.proofs.Common.{◌≡◌, ◌≢◌, ◌∙◌, ℕ, true, List, [], ◌∷◌, refl, sym, ap, subst}
use Rattle.std.specs.Prelude.{Some, None, Result, Ok, Err, is_some, is_none, option_map, if◌then◌else◌}
use Rattle.std.specs.FinMap as fin
use Rattle.std.proofs.lemmas.Bool.{false≢true}
use Rattle.gs_base.specs.declared.refusal.Refusal.{Refusal}
use Rattle.gs_base.specs.declared.refusal.Refusal.TheVariants.{NotFound, NotHidden}
use Rattle.gs_path.specs.Path.{Path, path_cmp, path_total}
use Rattle.gs_refs.specs.Counts.{Counts, taken_each}
use Rattle.gs_tree.specs.Chunks.{chunks_under, rows_under}
use Rattle.gs_tree.specs.Edits.{hidden_path, old_name, remove, stood, target_of}
use Rattle.gs_tree.specs.Entry.{Entry}
use Rattle.gs_tree.specs.Find.{Rows, at}
use Rattle.gs_tree.specs.Inverses.{Fits}
use Rattle.gs_tree.specs.Lists.{made_inverse, made_paths, top_path}
use Rattle.gs_tree.specs.Plain.{Plain, without}
use Rattle.gs_tree.specs.declared.inverse.TreeInverse.{TreeInverse}
use Rattle.gs_tree.specs.declared.inverse.TreeInverse.TheVariants.{Made, Moved, Removed, Added, Changed, Copied}
use Rattle.gs_tree.proofs.Apart.{past, through}
use Rattle.gs_tree.proofs.Parts.{made_same}
use Rattle.gs_tree.proofs.Removals.{named}
use Rattle.gs_edit.specs.Names.{NamesTakenBack, counts_back}
use Rattle.gs_edit.specs.Plain.{unhide_target}
use Rattle.gs_edit.specs.Table.{tabled}
use Rattle.gs_edit.specs.View.{NamesView, names_of}
use Rattle.gs_edit.specs.declared.edit.Edit.TheVariants as edits
use Rattle.gs_edit.specs.declared.edit.Inverse.TheVariants as inverses
use Rattle.gs_edit.proofs.Applied.{same_tree}
use Rattle.gs_edit.proofs.References.{forgotten_back}
use Rattle.gs_edit.proofs.Tables.{seen}
use Rattle.gs_master_record.specs.Plain.{PlainEdit, Mkdirs, Create, Rename, Hide, Unhide, Remove, AddChunk, Cow, Snapshot, Forget}
use Rattle.gs_master_spec.specs.Undoing.{edited_names, fits_rows, inverse_of, named_plain, names_from, planted, rows_of_nodes, seen_from, tree_undone, undone}
use Rattle.gs_master_order.specs.Order.{by_text}
use Rattle.gs_master_state.proofs.Blanks.{made_holds}
use Rattle.gs_laws_master.proofs.lemmas.names.EditsBack.{FitCounts, admitted, back_add, back_cow, back_create, back_hide, back_mkdirs, back_remove, back_rename, back_snapshot, back_unhide, with_parts}
use Rattle.gs_laws_master.proofs.lemmas.names.Planted.{IsPlainTree, fits_all, listed_headed, listed_removed, planted_at}
use Rattle.gs_master_state.proofs.Reversals.{added_test, changed_test, copied_test, moved_test, removed_test, tree_given}

-- what the names have, so that what takes an edit back can be told
pub record IsSoundNames (names : NamesView) : Type 0 where
  pub tree : IsPlainTree names.tree
  pub counts : FitCounts names.refs

-- ---- what fits, fits the rows

rows_fit : (i : TreeInverse) (t : fin.FinMap path_cmp (Entry ℕ)) → Fits i (fin.get t) → fits_rows i (fin.entries t) ≡ true
rows_fit i t fits = each i (subst (λ (m : Plain ℕ). Fits i m) (seen t) fits)
  where
    each : (i : TreeInverse) → Fits i (at (fin.entries t)) → fits_rows i (fin.entries t) ≡ true
    each (Made path above) h = made_holds path above t h
    each (Moved from to) h = (moved_test from to (fin.entries t)).holds h
    each (Removed path node) h = (removed_test path node (fin.entries t)).holds h
    each (Added path) h = (added_test path (fin.entries t)).holds h
    each (Changed path index chunk) h = (changed_test path index chunk (fin.entries t)).holds h
    each (Copied path) h = (copied_test path (fin.entries t)).holds h

tree_back : (i : TreeInverse) (old new : NamesView) → NamesTakenBack (inverses.Tree i) old new → tree_undone i new ≡ Some old
tree_back i old new back = tree_given i new old (rows_fit i new.tree back.fits) (λ q. sym (back.tree q)) back.refs

-- so does an inverse that does the same, as a list of made paths
made_back : (p : Path) (n : ℕ) (old new : NamesView) → NamesTakenBack (inverses.Tree (Made p n)) old new → tree_undone (made_inverse (made_paths p n)) new ≡ Some old
made_back p n old new back =
    let same = (made_same p n).1 in
    tree_back (made_inverse (made_paths p n)) old new
    (record { fits = same.fits (fin.get new.tree) back.fits; tree = λ q. sym (same.tree (fin.get new.tree) q) ∙ back.tree q; refs = counts_stay (made_paths p n) ∙ back.refs })
  where
    counts_stay : (paths : List Path) → counts_back (made_inverse paths) new.tree new.refs ≡ Some new.refs
    counts_stay [] = refl
    counts_stay (q ∷ paths) = refl

-- ---- what was edited

-- what an edit gives is taken back by its inverse
abbrev LeadsOn : PlainEdit → NamesView → Type 0
LeadsOn edit old = (new : Rows ℕ × Counts) → named_plain edit (fin.entries old.tree) old.refs ≡ Ok new → undone (inverse_of edit (fin.entries old.tree)) (names_of (fin.from_entries new.0) new.1) ≡ Some old

on_mkdirs : (p : Path) (old : NamesView) → IsSoundNames old → LeadsOn (Mkdirs p) old
unfolding undone
on_mkdirs p old is new e =
    let n = stood (at (fin.entries old.tree)) p in
    let back = subst (λ (m : Plain ℕ). NamesTakenBack (inverses.Tree (Made p (stood m p))) old (names_of (fin.from_entries new.0) new.1)) (seen old.tree) (back_mkdirs p old is.tree.grown new e) in
    ap (λ b. if b then tree_undone (made_inverse (made_paths p n)) (names_of (fin.from_entries new.0) new.1) else None) (made_same p n).0 ∙ made_back p n old (names_of (fin.from_entries new.0) new.1) back

on_create : (p : Path) (old : NamesView) → IsSoundNames old → LeadsOn (Create p) old
unfolding undone
on_create p old is new e =
    let n = stood (at (fin.entries old.tree)) p in
    let back = subst (λ (m : Plain ℕ). NamesTakenBack (inverses.Tree (Made p (stood m p))) old (names_of (fin.from_entries new.0) new.1)) (seen old.tree) (back_create p old is.tree.grown new e) in
    ap (λ b. if b then tree_undone (made_inverse (made_paths p n)) (names_of (fin.from_entries new.0) new.1) else None) (made_same p n).0 ∙ made_back p n old (names_of (fin.from_entries new.0) new.1) back

on_rename : (from to : Path) (old : NamesView) → IsSoundNames old → LeadsOn (Rename from to) old
unfolding undone
on_rename from to old is new e =
    let names = names_of (fin.from_entries {R = path_cmp} new.0) new.1 in
    let back = subst (λ (m : Plain ℕ). NamesTakenBack (inverses.Tree (Moved from (target_of m from to))) old names) (seen old.tree) (back_rename from to old is.tree.grown new e) in
    tree_back (Moved from (target_of (at (fin.entries old.tree)) from to)) old names back

on_hide : (p : Path) (moment number : ℕ) (old : NamesView) → IsSoundNames old → LeadsOn (Hide p moment number) old
unfolding undone
on_hide p moment number old is new e = tree_back (Moved p (hidden_path p moment number)) old (names_of (fin.from_entries new.0) new.1) (back_hide p (record { 0 = moment }) number old is.tree.grown new e)

on_unhide : (p : Path) (old : NamesView) → IsSoundNames old → LeadsOn (Unhide p) old
unfolding undone
on_unhide p old is new e = tree_back (Moved p (unhide_target p (old_name p))) old (names_of (fin.from_entries new.0) new.1) (back_unhide p old is.tree.grown new e)

on_add : (p : Path) (chunk : ℕ) (old : NamesView) → LeadsOn (AddChunk p chunk) old
unfolding undone
on_add p chunk old new e = tree_back (Added p) old (names_of (fin.from_entries new.0) new.1) (back_add p chunk old new e)

on_cow : (p : Path) (index before chunk : ℕ) (old : NamesView) → LeadsOn (Cow p index before chunk) old
unfolding undone
on_cow p index before chunk old new e = tree_back (Changed p index before) old (names_of (fin.from_entries new.0) new.1) (back_cow p index before chunk old new e)

on_snapshot : (from to : Path) (old : NamesView) → IsSoundNames old → LeadsOn (Snapshot from to) old
unfolding undone
on_snapshot from to old is new e = tree_back (Copied to) old (names_of (fin.from_entries new.0) new.1) (back_snapshot from to old is.tree.grown new e)

-- ---- what was removed, and what was forgotten

record WasRemoved (m : Plain ℕ) (p : Path) : Type 0 where
  below : p ≢ []
  stands : is_some (m p) ≡ true

tabled_ok : (ps : List Path) (r : Result (Plain ℕ) Refusal) (new : Rows ℕ) → tabled ps r ≡ Ok new → (n : Plain ℕ) × (r ≡ Ok n)
tabled_ok ps (Ok n) new e = (n, refl)
tabled_ok ps (Err f) new e = absurd (let h = e in cc)

was_removed : (m n : Plain ℕ) (p : Path) → remove m p ≡ Ok n → WasRemoved m p
was_removed m n p e =
    let e1 = past (is_none (old_name p)) NotHidden _ n e in record {
      below = hidden_one p (named (old_name p) (through (is_none (old_name p)) NotHidden _ n e));
      stands = named (m p) (through (is_none (m p)) NotFound (Ok (without p m)) n e1);
    }
  where
    hidden_one : (q : Path) → is_some (old_name q) ≡ true → q ≢ []
    hidden_one q h root = false≢true (ap (λ r. is_some (old_name r)) (sym root) ∙ h)

on_remove : (p : Path) (old : NamesView) → IsSoundNames old → LeadsOn (Remove p) old
unfolding undone
on_remove p old is new e =
    let rows = fin.entries old.tree in
    let names = names_of (fin.from_entries {R = path_cmp} new.0) new.1 in
    let parts = admitted (edits.Remove p) rows old.refs new e in
    let made = tabled_ok _ (remove (at rows) p) new.0 parts.rows in
    let was = was_removed (at rows) made.0 p made.1 in
    let stands : is_some (fin.get old.tree p) ≡ true = ap (λ m. is_some (m p)) (seen old.tree) ∙ was.stands in
    let nodes = by_text (rows_under p rows) in
    let node = seen_from p (rows_of_nodes nodes) in
    let back = back_remove p node old is.tree.grown (planted_at old.tree p is.tree was.below) (fits_all old.refs new.1 (chunks_under p rows) is.counts parts.counts) new e in
    let top : top_path (rows_of_nodes nodes) ≡ p = ap (λ es. top_path (rows_of_nodes es)) (listed_headed old.tree p is.tree was.below stands).is in
    ap (λ b. if b then tree_undone (planted (rows_of_nodes nodes)) names else None) (listed_removed old.tree p is.tree was.below stands)
    ∙ ap (λ q. tree_undone (Removed q (seen_from q (rows_of_nodes nodes))) names) top ∙ tree_back (Removed p node) old names back

on_forget : (chunks : List ℕ) (old : NamesView) → LeadsOn (Forget chunks) old
unfolding undone
on_forget chunks old new e =
    let parts = with_parts (Ok (fin.entries old.tree)) (taken_each old.refs chunks) new e in
    let rows : fin.entries old.tree ≡ new.0 = ok_is parts.0 in
    ap (option_map (names_of (fin.from_entries new.0))) (forgotten_back old.refs new.1 chunks chunks refl parts.1)
    ∙ ap (λ t. Some (names_of t old.refs)) (ap (λ (r : Rows ℕ). fin.from_entries r) (sym rows) ∙ same_tree (fin.from_entries (fin.entries old.tree)) old.tree (λ q. fin.get-from_entries path_total (fin.entries old.tree) q ∙ sym (fin.get-entries old.tree q)))
  where
    ok_is : {a b : Rows ℕ} → ◌≡◌ {A = Result (Rows ℕ) Refusal} (Ok a) (Ok b) → a ≡ b
    ok_is h = cc

-- ---- any edit

leads_on : (edit : PlainEdit) (old : NamesView) → IsSoundNames old → LeadsOn edit old
leads_on (Mkdirs p) old is = on_mkdirs p old is
leads_on (Create p) old is = on_create p old is
leads_on (Rename from to) old is = on_rename from to old is
leads_on (Hide p moment number) old is = on_hide p moment number old is
leads_on (Unhide p) old is = on_unhide p old is
leads_on (Remove p) old is = on_remove p old is
leads_on (AddChunk p chunk) old is = on_add p chunk old
leads_on (Cow p index before chunk) old is = on_cow p index before chunk old
leads_on (Snapshot from to) old is = on_snapshot from to old is
leads_on (Forget chunks) old is = on_forget chunks old

-- what names an edit gives
pub record IsNamed (edit : PlainEdit) (old new : NamesView) : Type 0 where
  pub rows : Rows ℕ
  pub refs : Counts
  pub made : named_plain edit (fin.entries old.tree) old.refs ≡ Ok (rows, refs)
  pub is : names_of (fin.from_entries rows) refs ≡ new

pub was_named : (edit : PlainEdit) (old new : NamesView) → edited_names edit old ≡ Ok new → IsNamed edit old new
unfolding edited_names
was_named edit old new e = each (named_plain edit (fin.entries old.tree) old.refs) refl e
  where
    ok_is : {a b : NamesView} → ◌≡◌ {A = Result NamesView Refusal} (Ok a) (Ok b) → a ≡ b
    ok_is h = cc

    each : (r : Result (Rows ℕ × Counts) Refusal) → named_plain edit (fin.entries old.tree) old.refs ≡ r → names_from r ≡ Ok new → IsNamed edit old new
    each (Ok made) is h = record { rows = made.0; refs = made.1; made = is; is = ok_is h }
    each (Err f) is h = absurd (let k = h in cc)

-- an edit's inverse leads back to the names before it
pub undoes_edit : (edit : PlainEdit) (old new : NamesView) → IsSoundNames old → edited_names edit old ≡ Ok new → undone (inverse_of edit (fin.entries old.tree)) new ≡ Some old
undoes_edit edit old new is e =
    let n = was_named edit old new e in
    ap (undone (inverse_of edit (fin.entries old.tree))) (sym n.is) ∙ leads_on edit old is (n.rows, n.refs) n.made
