-- Each edit that is told leaves names as they are to stand.
use Rattle.std.proofs.Common.{◌≡◌, ◌∙◌, ◌≤◌, ◌<◌, ◌-◌, ◌^◌, ◌&&◌, ◌||◌, ◌++◌, ℕ, Bool, true, false, cond, not, List, [], ◌∷◌, length, map, refl, sym, ap, subst, arith}
use Rattle.std.specs.Prelude.{Option, Some, None, Result, Ok, Err}
use Rattle.std.specs.List.{list_all, list_any}
use Rattle.std.specs.FinMap as fin
use Rattle.std.proofs.lemmas.Bool.{false≢true, and_parts, le-leb}
use Rattle.std.proofs.lemmas.Bool.Decides.{nat_tests}
use Rattle.gs_base.specs.declared.refusal.Refusal.{Refusal}
use Rattle.gs_base.specs.declared.refusal.Refusal.TheVariants.{BadLine}
use Rattle.gs_path.specs.Element.{is_hidden, is_stored}
use Rattle.gs_path.specs.Path.{Name, Path, path_cmp, path_total}
use Rattle.gs_refs.specs.Counts.{Counts, ascends, count_or_zero, is_at_zero, last_count, occurrences, taken_each, without_each}
use Rattle.gs_tree.specs.Build.{is_short}
use Rattle.gs_tree.specs.Chunks.{all_chunks, chunks_under, rows_under, visible_chunks_under}
use Rattle.gs_tree.specs.Commands as commands
use Rattle.gs_tree.specs.Edits.{add_chunk, beside, create, hidden_path, hide, mkdirs, old_name, remove, rename, set_chunk, snapshot, stood, target_of, unhidden}
use Rattle.gs_tree.specs.Find.{Rows, at, is_copied_too_deep, is_too_deep, IsWithin, most_elements}
use Rattle.gs_tree.specs.Plain.{Plain}
use Rattle.gs_tree.specs.declared.inverse.TreeInverse.TheVariants.{Made, Moved, Removed, Added, Changed, Copied}
use Rattle.gs_tree.proofs.Depths.{copied_map_test, map_test}
use Rattle.gs_tree.proofs.Levels.{both_true}
use Rattle.gs_tree.proofs.Short.{stay_short}
use Rattle.gs_edit.specs.Names.{IsCounted}
use Rattle.gs_edit.specs.Plain.{unhide_target}
use Rattle.gs_edit.specs.Table.{moved_path, paths_of, tabled}
use Rattle.gs_edit.specs.View.{NamesView, names_of}
use Rattle.gs_edit.specs.declared.edit.Edit.TheVariants as edits
use Rattle.gs_edit.specs.declared.edit.Inverse.TheVariants as inverses
use Rattle.gs_edit.proofs.Applied.{same_tree}
use Rattle.gs_edit.proofs.Covers.{covered-add, covered-create, covered-hide, covered-mkdirs, covered-remove, covered-rename, covered-set, covered-snapshot, covered-unhide}
use Rattle.gs_edit.proofs.Occurring.{stays_counted}
use Rattle.gs_edit.proofs.References.{all_among, among, get-without}
use Rattle.gs_edit.specs.Scan.{is_without_slashes}
use Rattle.gs_master_record.specs.Plain.{PlainEdit, Mkdirs, Create, Rename, Hide, Unhide, Remove, AddChunk, Cow, Snapshot, Forget}
use Rattle.gs_master_spec.specs.Applied.{is_visible, is_visible_name, names_well}
use Rattle.gs_master_spec.specs.Undoing.{edited_names, named_plain, rows_of_nodes, seen_from}
use Rattle.gs_master_order.specs.Order.{by_text}
use Rattle.gs_laws_master.proofs.lemmas.names.Commanded.{EachName, add_gives, all_beside, all_hidden, all_target, create_gives, each_chunks, each_copied, each_dirs, each_gone, each_made, each_moved, hide_gives, mkdirs_gives, remove_gives, rename_gives, set_gives, snapshot_gives, tree_chunks, tree_copied, tree_dirs, tree_gone, tree_made, tree_moved, unhide_gives}
use Rattle.gs_laws_master.proofs.lemmas.names.EditsBack.{FitCounts, IsDone, admitted, back_add, back_cow, back_create, back_hide, back_mkdirs, back_remove, back_rename, back_snapshot, back_unhide, done_of, with_parts}
use Rattle.gs_laws_master.proofs.lemmas.names.Grown.{Grown}
use Rattle.gs_laws_master.proofs.lemmas.keeping.KeptNames.{Stands, each_rows}
use Rattle.gs_laws_master.proofs.lemmas.names.Planted.{IsPlainTree, fits_all, planted_at}
use Rattle.gs_laws_master.proofs.lemmas.keeping.Sized.{all_lowered, all_raised, fit_insert, fit_without}
use Rattle.gs_laws_master.proofs.lemmas.spelling.Spelled.{IsRead, can_hide, is_once, is_plain, once_hidden, once_visible, plain_hidden, plain_old}
use Rattle.gs_laws_master.proofs.lemmas.names.Undone.{was_named}

-- the paths of an edit are read, and its numbers those of a type
abbrev pub IsTold : PlainEdit → Type 0
IsTold (Mkdirs p) = IsRead p
IsTold (Create p) = IsRead p
IsTold (Rename from to) = IsRead from × IsRead to
IsTold (Hide p moment number) = IsRead p × (moment < 2 ^ 64) × (number < 2 ^ 64)
IsTold (Unhide p) = IsRead p
IsTold (Remove p) = Unit {0}
IsTold (AddChunk p chunk) = IsRead p
IsTold (Cow p index old new) = IsRead p
IsTold (Snapshot from to) = IsRead from × IsRead to
IsTold (Forget chunks) = Unit {0}

-- ---- what is visible isn't hidden, so not twice

not_false : (b : Bool) → not b ≡ true → b ≡ false
not_false true h = absurd (false≢true h)
not_false false h = refl

pub each_visible : (p : Path) → is_visible p ≡ true → list_all (λ x. not (is_hidden x)) p ≡ true
each_visible [] h = refl
each_visible (x ∷ p) h = by_test (each_visible p) (is_hidden x) refl h
  where
    by_test : (is_visible p ≡ true → list_all (λ y. not (is_hidden y)) p ≡ true) → (b : Bool) → is_hidden x ≡ b → not (b || list_any is_hidden p) ≡ true → list_all (λ y. not (is_hidden y)) (x ∷ p) ≡ true
    by_test rest true is k = absurd (false≢true k)
    by_test rest false is k = both_true (not (is_hidden x)) (list_all (λ y. not (is_hidden y)) p) (ap not is) (rest k)

pub all_by : (f g : Name → Bool) (p : Path) → ((x : Name) → f x ≡ true → g x ≡ true) → list_all f p ≡ true → list_all g p ≡ true
all_by f g [] h all = refl
all_by f g (x ∷ p) h all = let parts = and_parts (f x) (list_all f p) all in both_true (g x) (list_all g p) (h x parts.0) (all_by f g p h parts.1)

all_two : (f g : Name → Bool) (p : Path) → list_all f p ≡ true → list_all g p ≡ true → list_all (λ x. f x && g x) p ≡ true
all_two f g [] h k = refl
all_two f g (x ∷ p) h k =
    let a = and_parts (f x) (list_all f p) h in
    let b = and_parts (g x) (list_all g p) k in both_true (f x && g x) (list_all (λ y. f y && g y) p) (both_true (f x) (g x) a.0 b.0) (all_two f g p a.1 b.1)

pub once_path : (p : Path) → is_visible p ≡ true → list_all is_once p ≡ true
once_path p h = all_by (λ x. not (is_hidden x)) is_once p once_visible (each_visible p h)

pub can_hide_path : (p : Path) → IsRead p → is_visible p ≡ true → list_all can_hide p ≡ true
can_hide_path p read h = all_two is_stored (λ x. not (is_hidden x)) p read.stored (each_visible p h)

-- ---- the names of what a command gives

abbrev now : Rows ℕ → Counts → NamesView
now rows refs = names_of (fin.from_entries rows) refs

-- what is so of the tree that a command gives is so of its rows
given : (command : Result (Plain ℕ) Refusal) (rows : Rows ℕ) (refs : Counts) (done : IsDone command rows) → Grown done.plain → IsWithin most_elements done.plain → EachName is_plain done.plain → EachName is_once done.plain
    → IsCounted (now rows refs) → FitCounts refs → Stands (now rows refs)
given command rows refs done grown within plain once counted counts = record {
  grown = subst (λ (m : Plain ℕ). Grown m) (sym done.same) grown;
  within = subst (λ (m : Plain ℕ). IsWithin most_elements m) (sym done.same) within;
  plain = subst (λ (m : Plain ℕ). EachName is_plain m) (sym done.same) plain;
  once = subst (λ (m : Plain ℕ). EachName is_once m) (sym done.same) once;
  counted = counted;
  counts = counts;
}

same_fit : {refs counts : Counts} → ◌≡◌ {A = Result Counts Refusal} (Ok refs) (Ok counts) → FitCounts refs → FitCounts counts
same_fit e fit = subst FitCounts (let k = e in cc) fit

plain_tree : (names : NamesView) → Stands names → IsPlainTree names.tree
plain_tree names s = record { grown = s.grown; short = each_rows is_short names.tree (λ q some. le-leb (length q) most_elements (s.within q some)); plain = each_rows is_without_slashes names.tree s.plain }

abbrev StillStands : PlainEdit → NamesView → Type 0
StillStands edit old = (new : Rows ℕ × Counts) → named_plain edit (fin.entries old.tree) old.refs ≡ Ok new → Stands (now new.0 new.1)

still_mkdirs : (p : Path) (old : NamesView) → Stands old → IsRead p → list_all is_once p ≡ true → StillStands (Mkdirs p) old
still_mkdirs p old s read once new e =
    let m = fin.get old.tree in
    let parts = admitted (edits.Mkdirs p) (fin.entries old.tree) old.refs new e in
    let done = done_of _ (λ m. mkdirs m p) old.tree new.0 (covered-mkdirs (fin.entries old.tree) p) parts.rows in
    let gives = mkdirs_gives m done.plain p done.is in
    given (mkdirs m p) new.0 new.1 done (tree_dirs m done.plain p s.grown gives) (stay_short (commands.Mkdirs p) m done.plain tt read.short s.within done.is)
    (each_dirs is_plain m done.plain p s.plain gives read.plain) (each_dirs is_once m done.plain p s.once gives once)
    (stays_counted (inverses.Tree (Made p (stood m p))) old (now new.0 new.1) (back_mkdirs p old s.grown new e) s.counted) (same_fit parts.counts s.counts)

still_create : (p : Path) (old : NamesView) → Stands old → IsRead p → list_all is_once p ≡ true → StillStands (Create p) old
still_create p old s read once new e =
    let m = fin.get old.tree in
    let parts = admitted (edits.Create p) (fin.entries old.tree) old.refs new e in
    let done = done_of _ (λ m. create m p) old.tree new.0 (covered-create (fin.entries old.tree) p) parts.rows in
    let gives = create_gives m done.plain p done.is in
    given (create m p) new.0 new.1 done (tree_made m done.plain p s.grown gives) (stay_short (commands.Create p) m done.plain tt read.short s.within done.is)
    (each_made is_plain m done.plain p s.plain gives read.plain) (each_made is_once m done.plain p s.once gives once)
    (stays_counted (inverses.Tree (Made p (stood m p))) old (now new.0 new.1) (back_create p old s.grown new e) s.counted) (same_fit parts.counts s.counts)

still_rename : (from to : Path) (old : NamesView) → Stands old → IsRead to → list_all is_once to ≡ true → StillStands (Rename from to) old
still_rename from to old s read once new e =
    let m = fin.get old.tree in
    let deep = is_too_deep (fin.entries old.tree) from in
    let parts = admitted (edits.Rename from to) (fin.entries old.tree) old.refs new e in
    let done = done_of _ (λ m. rename deep m from to) old.tree new.0 (covered-rename (fin.entries old.tree) from to) parts.rows in
    let gives = rename_gives deep m done.plain from to done.is in
    let target = target_of m from to in
    given (rename deep m from to) new.0 new.1 done (tree_moved m done.plain from target s.grown gives) (stay_short (commands.Rename deep from to) m done.plain (map_test old.tree from target) refl s.within done.is)
    (each_moved is_plain m done.plain from target s.plain gives (all_target is_plain m from to s.plain gives.stands read.plain)) (each_moved is_once m done.plain from target s.once gives (all_target is_once m from to s.once gives.stands once))
    (stays_counted (inverses.Tree (Moved from target)) old (now new.0 new.1) (back_rename from to old s.grown new e) s.counted) (same_fit parts.counts s.counts)

still_hide : (p : Path) (moment number : ℕ) (old : NamesView) → Stands old → IsRead p → moment < 2 ^ 64 → number < 2 ^ 64 → is_visible p ≡ true → StillStands (Hide p moment number) old
still_hide p moment number old s read low few visible new e =
    let m = fin.get old.tree in
    let parts = admitted (edits.Hide p (record { 0 = moment }) number) (fin.entries old.tree) old.refs new e in
    let done = done_of _ (λ m. hide m p moment number) old.tree new.0 (covered-hide (fin.entries old.tree) p moment number) parts.rows in
    let gives = hide_gives m done.plain p moment number s.grown done.is in
    let target = hidden_path p moment number in
    let can = can_hide_path p read visible in
    given (hide m p moment number) new.0 new.1 done (tree_moved m done.plain p target s.grown gives) (stay_short (commands.Hide p moment number) m done.plain tt refl s.within done.is)
    (each_moved is_plain m done.plain p target s.plain gives (all_hidden is_plain is_plain p moment number read.plain read.plain (λ x h. plain_hidden moment number x low few h)))
    (each_moved is_once m done.plain p target s.once gives (all_hidden is_once can_hide p moment number (once_path p visible) can (λ x h. once_hidden moment number x low few h)))
    (stays_counted (inverses.Tree (Moved p target)) old (now new.0 new.1) (back_hide p (record { 0 = moment }) number old s.grown new e) s.counted) (same_fit parts.counts s.counts)

still_unhide : (p : Path) (old : NamesView) → Stands old → IsRead p → is_visible_name (old_name p) ≡ true → StillStands (Unhide p) old
still_unhide p old s read visible new e =
    let parts = admitted (edits.Unhide p) (fin.entries old.tree) old.refs new e in
    by_name (old_name p) refl visible parts.rows (stays_counted (inverses.Tree (Moved p (unhide_target p (old_name p)))) old (now new.0 new.1) (back_unhide p old s.grown new e) s.counted) (same_fit parts.counts s.counts)
  where
    by_name : (name : Option Name) → old_name p ≡ name → is_visible_name name ≡ true
        → tabled (paths_of (fin.entries old.tree) ++ map (moved_path p (unhide_target p name)) (paths_of (fin.entries old.tree))) (unhidden (at (fin.entries old.tree)) p name) ≡ Ok new.0 → IsCounted (now new.0 new.1) → FitCounts new.1 → Stands (now new.0 new.1)
    by_name None is seen_name h counted fit = absurd (let k = h in cc)
    by_name (Some name) is seen_name h counted fit =
        let m = fin.get old.tree in
        let done = done_of _ (λ m. unhidden m p (Some name)) old.tree new.0 (covered-unhide (fin.entries old.tree) p (Some name)) h in
        let gives = unhide_gives m done.plain p name s.grown is done.is in
        let target = beside p name in
        given (unhidden m p (Some name)) new.0 new.1 done (tree_moved m done.plain p target s.grown gives) (stay_short (commands.Unhide p) m done.plain tt refl s.within (ap (unhidden m p) is ∙ done.is))
        (each_moved is_plain m done.plain p target s.plain gives (all_beside is_plain p name read.plain (plain_old p name is read.plain)))
        (each_moved is_once m done.plain p target s.once gives (all_beside is_once p name (s.once p gives.stands) (once_visible name seen_name))) counted fit

still_remove : (p : Path) (old : NamesView) → Stands old → StillStands (Remove p) old
still_remove p old s new e =
    let m = fin.get old.tree in
    let rows = fin.entries old.tree in
    let parts = admitted (edits.Remove p) rows old.refs new e in
    let done = done_of _ (λ m. remove m p) old.tree new.0 (covered-remove rows p) parts.rows in
    let gives = remove_gives m done.plain p done.is in
    let node = seen_from p (rows_of_nodes (by_text (rows_under p rows))) in
    let back = back_remove p node old s.grown (planted_at old.tree p (plain_tree old s) gives.below) (fits_all old.refs new.1 (chunks_under p rows) s.counts parts.counts) new e in
    given (remove m p) new.0 new.1 done (tree_gone m done.plain p s.grown gives) (stay_short (commands.Remove p) m done.plain tt refl s.within done.is) (each_gone is_plain m done.plain p s.plain gives) (each_gone is_once m done.plain p s.once gives)
    (stays_counted (inverses.Tree (Removed p node)) old (now new.0 new.1) back s.counted) ((all_lowered (chunks_under p rows) old.refs new.1 parts.counts).fits s.counts)

still_add : (p : Path) (chunk : ℕ) (old : NamesView) → Stands old → StillStands (AddChunk p chunk) old
still_add p chunk old s new e =
    let m = fin.get old.tree in
    let parts = admitted (edits.AddChunk p chunk) (fin.entries old.tree) old.refs new e in
    let done = done_of _ (λ m. add_chunk m p chunk) old.tree new.0 (covered-add (fin.entries old.tree) p chunk) parts.rows in
    let gives = add_gives m done.plain p chunk done.is in
    given (add_chunk m p chunk) new.0 new.1 done (tree_chunks m done.plain p s.grown gives) (stay_short (commands.AddChunk p chunk) m done.plain tt refl s.within done.is)
    (each_chunks is_plain m done.plain p s.plain gives) (each_chunks is_once m done.plain p s.once gives)
    (stays_counted (inverses.Tree (Added p)) old (now new.0 new.1) (back_add p chunk old new e) s.counted) (same_fit parts.counts (fit_insert old.refs chunk 1 s.counts (omega arith)))

still_cow : (p : Path) (index before chunk : ℕ) (old : NamesView) → Stands old → StillStands (Cow p index before chunk) old
still_cow p index before chunk old s new e =
    let m = fin.get old.tree in
    let parts = admitted (edits.Cow p index before chunk) (fin.entries old.tree) old.refs new e in
    let done = done_of _ (λ m. set_chunk m p index chunk) old.tree new.0 (covered-set (fin.entries old.tree) p index chunk) parts.rows in
    let gives = set_gives m done.plain p index chunk done.is in
    given (set_chunk m p index chunk) new.0 new.1 done (tree_chunks m done.plain p s.grown gives) (stay_short (commands.SetChunk p index chunk) m done.plain tt refl s.within done.is)
    (each_chunks is_plain m done.plain p s.plain gives) (each_chunks is_once m done.plain p s.once gives)
    (stays_counted (inverses.Tree (Changed p index before)) old (now new.0 new.1) (back_cow p index before chunk old new e) s.counted)
    (same_fit parts.counts (fit_insert (fin.insert old.refs chunk 1) before (count_or_zero (fin.get old.refs before) - 1) (fit_insert old.refs chunk 1 s.counts (omega arith)) (less (fin.get old.refs before) refl)))
  where
    less : (v : Option ℕ) → fin.get old.refs before ≡ v → count_or_zero v - 1 ≤ last_count
    less None is = omega arith
    less (Some n) is = let k = s.counts before n is in omega arith

still_snapshot : (from to : Path) (old : NamesView) → Stands old → IsRead to → list_all is_once to ≡ true → StillStands (Snapshot from to) old
still_snapshot from to old s read once new e =
    let m = fin.get old.tree in
    let rows = fin.entries old.tree in
    let deep = is_copied_too_deep rows from in
    let parts = admitted (edits.Snapshot from to) rows old.refs new e in
    let done = done_of _ (λ m. snapshot deep m from to) old.tree new.0 (covered-snapshot rows from to) parts.rows in
    let gives = snapshot_gives deep m done.plain from to done.is in
    given (snapshot deep m from to) new.0 new.1 done (tree_copied m done.plain from to s.grown gives) (stay_short (commands.Snapshot deep from to) m done.plain (copied_map_test old.tree from to) refl s.within done.is)
    (each_copied is_plain m done.plain from to s.plain gives read.plain) (each_copied is_once m done.plain from to s.once gives once)
    (stays_counted (inverses.Tree (Copied to)) old (now new.0 new.1) (back_snapshot from to old s.grown new e) s.counted) ((all_raised (visible_chunks_under from rows) old.refs new.1 parts.counts).fits s.counts)

-- ---- what is forgotten

forgotten_counted : (hs chunks : List ℕ) (m : Counts) → list_all (λ h. is_at_zero (fin.get m h)) chunks ≡ true → ((h : ℕ) → count_or_zero (fin.get m h) ≡ occurrences h hs) → (h : ℕ) → count_or_zero (fin.get (without_each m chunks) h) ≡ occurrences h hs
forgotten_counted hs chunks m none counted h = ap count_or_zero (get-without chunks m h) ∙ by_test (among h chunks) refl
  where
    zero_of : (v : Option ℕ) → is_at_zero v ≡ true → 0 ≡ count_or_zero v
    zero_of None k = absurd (false≢true k)
    zero_of (Some n) k = grind (arith, nat_tests)

    by_test : (b : Bool) → among h chunks ≡ b → count_or_zero (cond b None (fin.get m h)) ≡ occurrences h hs
    by_test true is = zero_of (fin.get m h) (all_among (λ c. is_at_zero (fin.get m c)) chunks h none is) ∙ counted h
    by_test false is = counted h

still_forget : (chunks : List ℕ) (old : NamesView) → Stands old → StillStands (Forget chunks) old
still_forget chunks old s new e =
    let parts = with_parts (Ok (fin.entries old.tree)) (taken_each old.refs chunks) new e in
    by_test (ascends chunks && list_all (λ h. is_at_zero (fin.get old.refs h)) chunks) refl parts.1 (rows_are parts.0)
  where
    rows_are : ◌≡◌ {A = Result (Rows ℕ) Refusal} (Ok (fin.entries old.tree)) (Ok new.0) → fin.from_entries {R = path_cmp} new.0 ≡ old.tree
    rows_are h =
        let same : fin.entries old.tree ≡ new.0 = (let k = h in cc) in
        ap (λ (r : Rows ℕ). fin.from_entries r) (sym same) ∙ same_tree (fin.from_entries (fin.entries old.tree)) old.tree (λ q. fin.get-from_entries path_total (fin.entries old.tree) q ∙ sym (fin.get-entries old.tree q))

    by_test : (b : Bool) → (ascends chunks && list_all (λ h. is_at_zero (fin.get old.refs h)) chunks) ≡ b → cond b (Ok (without_each old.refs chunks)) (Err BadLine) ≡ Ok new.1 → fin.from_entries {R = path_cmp} new.0 ≡ old.tree → Stands (now new.0 new.1)
    by_test false is k same = absurd (let h = k in cc)
    by_test true is k same =
        let none = (and_parts (ascends chunks) (list_all (λ h. is_at_zero (fin.get old.refs h)) chunks) is).1 in
        let refs : without_each old.refs chunks ≡ new.1 = (let h = k in cc) in
        subst (λ (n : NamesView). Stands n) (λ i. names_of (sym same i) (refs i)) (record {
          grown = s.grown;
          within = s.within;
          plain = s.plain;
          once = s.once;
          counted = forgotten_counted (all_chunks (fin.entries old.tree)) chunks old.refs none s.counted;
          counts = fit_without old.refs chunks s.counts;
        })

-- ---- any edit

both_visible : (from to : Path) → (is_visible from && is_visible to) ≡ true → is_visible to ≡ true
both_visible from to h = (and_parts (is_visible from) (is_visible to) h).1

still_any : (edit : PlainEdit) (old : NamesView) → Stands old → IsTold edit → names_well edit ≡ true → StillStands edit old
still_any (Mkdirs p) old s read well = still_mkdirs p old s read (once_path p well)
still_any (Create p) old s read well = still_create p old s read (once_path p well)
still_any (Rename from to) old s read well = still_rename from to old s read.1 (once_path to (both_visible from to well))
still_any (Hide p moment number) old s read well = still_hide p moment number old s read.0 read.1 read.2 well
still_any (Unhide p) old s read well = still_unhide p old s read well
still_any (Remove p) old s read well = still_remove p old s
still_any (AddChunk p chunk) old s read well = still_add p chunk old s
still_any (Cow p index before chunk) old s read well = still_cow p index before chunk old s
still_any (Snapshot from to) old s read well = still_snapshot from to old s read.1 (once_path to (both_visible from to well))
still_any (Forget chunks) old s read well = still_forget chunks old s

-- an edit that is told leaves names that stand
pub still_stands : (edit : PlainEdit) (old new : NamesView) → Stands old → IsTold edit → names_well edit ≡ true → edited_names edit old ≡ Ok new → Stands new
still_stands edit old new s told well e =
    let n = was_named edit old new e in
    subst (λ (x : NamesView). Stands x) n.is (still_any edit old s told well (n.rows, n.refs) n.made)
