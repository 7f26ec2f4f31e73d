-- What holds of each element of each path that stands, holds so behind an edit that names such elements.
use Rattle.std.proofs.Common.{◌≡◌, ◌∙◌, ◌++◌, ℕ, Bool, true, List, map, refl, sym, ap, subst}
use Rattle.std.specs.Prelude.{Option, Some, None, Result, Ok}
use Rattle.std.specs.List.{list_all}
use Rattle.std.specs.FinMap as fin
use Rattle.gs_base.specs.declared.refusal.Refusal.{Refusal}
use Rattle.gs_path.specs.Path.{Name, Path, path_cmp, path_total}
use Rattle.gs_refs.specs.Counts.{Counts, taken_each}
use Rattle.gs_tree.specs.Edits.{add_chunk, beside, create, hidden_path, hide, mkdirs, old_name, remove, rename, set_chunk, snapshot, target_of, unhidden}
use Rattle.gs_tree.specs.Find.{Rows, at, is_copied_too_deep, is_too_deep}
use Rattle.gs_tree.specs.Plain.{Plain}
use Rattle.gs_edit.specs.Plain.{unhide_target}
use Rattle.gs_edit.specs.Table.{moved_path, paths_of, tabled}
use Rattle.gs_edit.specs.View.{NamesView, names_of}
use Rattle.gs_edit.specs.declared.edit.Edit.TheVariants as edits
use Rattle.gs_edit.proofs.Applied.{same_tree}
use Rattle.gs_edit.proofs.Covers.{covered-add, covered-create, covered-hide, covered-mkdirs, covered-remove, covered-rename, covered-set, covered-snapshot, covered-unhide}
use Rattle.gs_master_record.specs.Plain.{PlainEdit, Mkdirs, Create, Rename, Hide, Unhide, Remove, AddChunk, Cow, Snapshot, Forget}
use Rattle.gs_master_spec.specs.Undoing.{edited_names, named_plain}
use Rattle.gs_laws_master.proofs.lemmas.names.Commanded.{EachName, add_gives, all_beside, all_target, create_gives, each_chunks, each_copied, each_dirs, each_gone, each_made, each_moved, hide_gives, mkdirs_gives, remove_gives, rename_gives, set_gives, snapshot_gives, unhide_gives}
use Rattle.gs_laws_master.proofs.lemmas.names.EditsBack.{IsDone, admitted, done_of, with_parts}
use Rattle.gs_laws_master.proofs.lemmas.names.Grown.{Grown}
use Rattle.gs_laws_master.proofs.lemmas.names.Undone.{was_named}

-- ---- what holds of each element that stands, behind an edit

module _ (f : Name → Bool) where
  -- it holds of each element that the edit puts into a path
  abbrev pub NamesSo : PlainEdit → Type 0
  NamesSo (Mkdirs p) = list_all f p ≡ true
  NamesSo (Create p) = list_all f p ≡ true
  NamesSo (Rename from to) = list_all f to ≡ true
  NamesSo (Hide p moment number) = list_all f (hidden_path p moment number) ≡ true
  NamesSo (Unhide p) = (name : Name) → old_name p ≡ Some name → f name ≡ true
  NamesSo (Snapshot from to) = list_all f to ≡ true
  NamesSo edit = Unit {0}

  abbrev now : Rows ℕ → Counts → NamesView
  now rows refs = names_of (fin.from_entries rows) refs

  abbrev EachIn : NamesView → Type 0
  EachIn names = EachName f (fin.get names.tree)

  given : (command : Result (Plain ℕ) Refusal) (rows : Rows ℕ) (refs : Counts) (done : IsDone command rows) → EachName f done.plain → EachIn (now rows refs)
  given command rows refs done each = subst (λ (m : Plain ℕ). EachName f m) (sym done.same) each

  abbrev StillEach : PlainEdit → NamesView → Type 0
  StillEach edit old = (new : Rows ℕ × Counts) → named_plain edit (fin.entries old.tree) old.refs ≡ Ok new → EachIn (now new.0 new.1)

  still_unhide : (p : Path) (old : NamesView) → Grown (fin.get old.tree) → EachIn old → NamesSo (Unhide p) → StillEach (Unhide p) old
  still_unhide p old grown each names new e =
      let parts = admitted (edits.Unhide p) (fin.entries old.tree) old.refs new e in by_name (old_name p) refl parts.rows
    where
      by_name : (name : Option Name) → old_name p ≡ name
          → tabled (paths_of (fin.entries old.tree) ++ map (moved_path p (unhide_target p name)) (paths_of (fin.entries old.tree))) (unhidden (at (fin.entries old.tree)) p name) ≡ Ok new.0 → EachIn (now new.0 new.1)
      by_name None is h = absurd (let k = h in cc)
      by_name (Some name) is h =
          let m = fin.get old.tree in
          let done = done_of _ (λ m. unhidden m p (Some name)) old.tree new.0 (covered-unhide (fin.entries old.tree) p (Some name)) h in
          let gives = unhide_gives m done.plain p name grown is done.is in
          given (unhidden m p (Some name)) new.0 new.1 done (each_moved f m done.plain p (beside p name) each gives (all_beside f p name (each p gives.stands) (names name is)))

  still_forget : (chunks : List ℕ) (old : NamesView) → EachIn old → StillEach (Forget chunks) old
  still_forget chunks old each new e =
      let parts = with_parts (Ok (fin.entries old.tree)) (taken_each old.refs chunks) new e in
      let same : fin.entries old.tree ≡ new.0 = rows_are parts.0 in
      let tree : fin.from_entries {R = path_cmp} new.0 ≡ old.tree = ap (λ (r : Rows ℕ). fin.from_entries r) (sym same) ∙ same_tree (fin.from_entries (fin.entries old.tree)) old.tree (λ q. fin.get-from_entries path_total (fin.entries old.tree) q ∙ sym (fin.get-entries old.tree q)) in
      subst (λ t. EachName f (fin.get t)) (sym tree) each
    where
      rows_are : {a b : Rows ℕ} → ◌≡◌ {A = Result (Rows ℕ) Refusal} (Ok a) (Ok b) → a ≡ b
      rows_are h = cc

  still_each : (edit : PlainEdit) (old : NamesView) → Grown (fin.get old.tree) → EachIn old → NamesSo edit → StillEach edit old
  still_each (Mkdirs p) old grown each names new e =
      let m = fin.get old.tree in
      let parts = admitted (edits.Mkdirs p) (fin.entries old.tree) old.refs new e in
      let done = done_of _ (λ m. mkdirs m p) old.tree new.0 (covered-mkdirs (fin.entries old.tree) p) parts.rows in
      given (mkdirs m p) new.0 new.1 done (each_dirs f m done.plain p each (mkdirs_gives m done.plain p done.is) names)
  still_each (Create p) old grown each names new e =
      let m = fin.get old.tree in
      let parts = admitted (edits.Create p) (fin.entries old.tree) old.refs new e in
      let done = done_of _ (λ m. create m p) old.tree new.0 (covered-create (fin.entries old.tree) p) parts.rows in
      given (create m p) new.0 new.1 done (each_made f m done.plain p each (create_gives m done.plain p done.is) names)
  still_each (Rename from to) old grown each names new e =
      let m = fin.get old.tree in
      let deep = is_too_deep (fin.entries old.tree) from in
      let parts = admitted (edits.Rename from to) (fin.entries old.tree) old.refs new e in
      let done = done_of _ (λ m. rename deep m from to) old.tree new.0 (covered-rename (fin.entries old.tree) from to) parts.rows in
      let gives = rename_gives deep m done.plain from to done.is in
      given (rename deep m from to) new.0 new.1 done (each_moved f m done.plain from (target_of m from to) each gives (all_target f m from to each gives.stands names))
  still_each (Hide p moment number) old grown each names new e =
      let m = fin.get old.tree in
      let parts = admitted (edits.Hide p (record { 0 = moment }) number) (fin.entries old.tree) old.refs new e in
      let done = done_of _ (λ m. hide m p moment number) old.tree new.0 (covered-hide (fin.entries old.tree) p moment number) parts.rows in
      let gives = hide_gives m done.plain p moment number grown done.is in
      given (hide m p moment number) new.0 new.1 done (each_moved f m done.plain p (hidden_path p moment number) each gives names)
  still_each (Unhide p) old grown each names new e = still_unhide p old grown each names new e
  still_each (Remove p) old grown each names new e =
      let m = fin.get old.tree in
      let parts = admitted (edits.Remove p) (fin.entries old.tree) old.refs new e in
      let done = done_of _ (λ m. remove m p) old.tree new.0 (covered-remove (fin.entries old.tree) p) parts.rows in
      given (remove m p) new.0 new.1 done (each_gone f m done.plain p each (remove_gives m done.plain p done.is))
  still_each (AddChunk p chunk) old grown each names new e =
      let m = fin.get old.tree in
      let parts = admitted (edits.AddChunk p chunk) (fin.entries old.tree) old.refs new e in
      let done = done_of _ (λ m. add_chunk m p chunk) old.tree new.0 (covered-add (fin.entries old.tree) p chunk) parts.rows in
      given (add_chunk m p chunk) new.0 new.1 done (each_chunks f m done.plain p each (add_gives m done.plain p chunk done.is))
  still_each (Cow p index before chunk) old grown each names new e =
      let m = fin.get old.tree in
      let parts = admitted (edits.Cow p index before chunk) (fin.entries old.tree) old.refs new e in
      let done = done_of _ (λ m. set_chunk m p index chunk) old.tree new.0 (covered-set (fin.entries old.tree) p index chunk) parts.rows in
      given (set_chunk m p index chunk) new.0 new.1 done (each_chunks f m done.plain p each (set_gives m done.plain p index chunk done.is))
  still_each (Snapshot from to) old grown each names new e =
      let m = fin.get old.tree in
      let rows = fin.entries old.tree in
      let deep = is_copied_too_deep rows from in
      let parts = admitted (edits.Snapshot from to) rows old.refs new e in
      let done = done_of _ (λ m. snapshot deep m from to) old.tree new.0 (covered-snapshot rows from to) parts.rows in
      given (snapshot deep m from to) new.0 new.1 done (each_copied f m done.plain from to each (snapshot_gives deep m done.plain from to done.is) names)
  still_each (Forget chunks) old grown each names new e = still_forget chunks old each new e

  pub edited_each : (edit : PlainEdit) (old new : NamesView) → Grown (fin.get old.tree) → EachIn old → NamesSo edit → edited_names edit old ≡ Ok new → EachIn new
  edited_each edit old new grown each names e =
      let n = was_named edit old new e in subst EachIn n.is (still_each edit old grown each names (n.rows, n.refs) n.made)
