-- What takes each edit back can be told, behind each record.
use Rattle.std.proofs.Common.{◌≡◌, ◌∙◌, ◌≤◌, ◌+◌, ◌==◌, ◌&&◌, ◌++◌, ℕ, Bool, true, false, cond, List, [], ◌∷◌, length, length-append, append-nil, filter, refl, sym, ap, subst, arith}
use Rattle.std.specs.Prelude.{nat_le, nat_lt, is_some, Option, Some, None, Result, Ok, Err, option_and_then, if◌then◌else◌}
use Rattle.std.specs.Cmp.{Equal-is}
use Rattle.std.specs.FinMap as fin
use Rattle.std.specs.List.{list_all, AllByRecursion}
use Rattle.std.specs.Ordering.{eq_by_cmp}
use Rattle.std.proofs.lemmas.Bool.{false≢true, and_parts, le-leb, leb-true}
use Rattle.std.proofs.lemmas.List.Folds.{list_all-append}
use Rattle.gs_base.specs.declared.epoch.EpochEnd.TheVariants as ends
use Rattle.gs_base.specs.declared.numbers.ReqId.{ReqId}
use Rattle.gs_base.specs.declared.refusal.Refusal.{Refusal}
use Rattle.gs_path.specs.Path.{Name, Path, begins, path_cmp, path_total}
use Rattle.gs_tree.specs.Build.{is_short}
use Rattle.gs_tree.specs.Edits.{beside, hidden_path, is_dir, last, moved, old_name, rename, stood, target_of}
use Rattle.gs_tree.specs.Find.{Rows, at, is_too_deep}
use Rattle.gs_tree.specs.Lists.{fronts_below, made_paths}
use Rattle.gs_tree.specs.Plain.{Plain, after, without}
use Rattle.gs_tree.proofs.Depths.{paths_antisymmetric}
use Rattle.gs_tree.proofs.Laws.{after_append, begins_append}
use Rattle.gs_tree.proofs.Levels.{both_true}
use Rattle.gs_edit.specs.Plain.{unhide_target}
use Rattle.gs_edit.specs.Scan.{is_without_slashes}
use Rattle.gs_edit.specs.View.{NamesView}
use Rattle.gs_edit.specs.declared.edit.Edit.TheVariants as edits
use Rattle.gs_edit.proofs.Covers.{covered-rename}
use Rattle.gs_journal.specs.declared.version.Version.TheVariants.{Two}
use Rattle.gs_master_record.specs.Plain.{PlainEdit, Mkdirs, Create, Rename, Hide, Unhide, Remove, AddChunk, Cow, Snapshot, Forget, PlainEntry, PlainInverse, Edited, Said, Propose, Settle, Prepare, Finalize, RollbackBegin, RollbackCommit, Whole, Holder}
use Rattle.gs_master_record.specs.Writable.{AreFields, IsEdit, IsEntry, IsHandle, IsPath}
use Rattle.gs_master_record.specs.declared.checkpoint.Phase.{Phase}
use Rattle.gs_master_record.specs.declared.checkpoint.Phase.TheVariants.{Ordinary, Upgrade, Rolling}
use Rattle.gs_master_record.specs.declared.entry.Answered.{Answered}
use Rattle.gs_master_spec.specs.Applied.{after_edit, after_undoing, applied, are_answers, are_at_rest, held_by, inverses_with, is_next_epoch, is_whole_entry, may_be_settled, may_edit, may_propose, names_well, proposed, replayed, rolled_back, with_edit, with_epoch, with_view, without_prepared}
use Rattle.gs_master_spec.specs.Durable.{Durable, is_listed, is_ordinary, is_rolling, is_upgrade, prepared_view, with_prepared}
use Rattle.gs_master_spec.specs.Undoing.{all_undone, edited_names, inverse_of}
use Rattle.gs_laws_master.specs.Promises.{AreKept, IsKept}
use Rattle.gs_laws_master.specs.Written.{AreHandles, AreLow, AreSpelled, HasSpelled, IsToldBack, is_spelled}
use Rattle.gs_laws_master.proofs.lemmas.upgrades.Beginnings.{fits_gives}
use Rattle.gs_laws_master.proofs.lemmas.names.Commanded.{all_beside, all_hidden, rename_gives}
use Rattle.gs_laws_master.proofs.lemmas.names.EditsBack.{admitted, done_of}
use Rattle.gs_laws_master.proofs.lemmas.names.Grown.{beside_long, has_name, hidden_long}
use Rattle.gs_laws_master.proofs.lemmas.keeping.KeptAll.{keeps_all}
use Rattle.gs_laws_master.proofs.lemmas.keeping.KeptEdits.{may_edit_so}
use Rattle.gs_laws_master.proofs.lemmas.upgrades.LedBack.{kept_tree}
use Rattle.gs_laws_master.proofs.lemmas.spelling.Retold.{each_found}
use Rattle.gs_laws_master.proofs.lemmas.spelling.Spelled.{is_plain, plain_hidden, plain_old, read_path}
use Rattle.gs_laws_master.proofs.lemmas.spelling.SpelledNames.{keeps_spelled, names_spelled, path_of}
use Rattle.gs_laws_master.proofs.lemmas.standing.StandingCalls.{all_placed, is_placed}
use Rattle.gs_laws_master.proofs.lemmas.telling.Tellable.{IsTellable, listed_handle, low_after, not_whole}
use Rattle.gs_laws_master.proofs.lemmas.telling.Telling.{all_both, all_filtered}
use Rattle.gs_laws_master.proofs.lemmas.telling.ToldReplies.{unhide_stands}
use Rattle.gs_laws_master.proofs.lemmas.names.Undone.{was_named}
use Rattle.gs_laws_master.proofs.lemmas.telling.WritingCheckpoints.{rows_told, texts_both}

-- ---- what stands can be told

found_row : (f : Path → Bool) (es : Rows ℕ) (q : Path) → list_all (λ r. f r.0) es ≡ true → is_some (at es q) ≡ true → f q ≡ true
found_row f [] q all some = absurd (false≢true some)
found_row f (e ∷ es) q all some = let parts = and_parts (f e.0) (list_all (λ r. f r.0) es) all in by_key (found_row f es q parts.1) parts.0 (eq_by_cmp path_cmp q e.0) refl some
  where
    by_key : (is_some (at es q) ≡ true → f q ≡ true) → f e.0 ≡ true → (b : Bool) → eq_by_cmp path_cmp q e.0 ≡ b → is_some (cond b (Some e.1) (at es q)) ≡ true → f q ≡ true
    by_key rest own true tied h = ap f (paths_antisymmetric q e.0 ((Equal-is (path_cmp q e.0)).0 tied)) ∙ own
    by_key rest own false tied h = rest h

stands_told : (names : NamesView) (q : Path) → AreKept names → AreSpelled names → is_some (fin.get names.tree q) ≡ true → IsPath q
stands_told names q kept spelled some =
    let plain = kept_tree names kept in
    let here = sym (ap is_some (fin.get-entries names.tree q)) ∙ some in
    path_of q (spelled q some) (found_row is_short (fin.entries names.tree) q plain.short here) (found_row is_without_slashes (fin.entries names.tree) q plain.plain here)

-- ---- what is moved stands where it goes

moved_stands : (m : Plain ℕ) (from to : Path) → is_some (m from) ≡ true → is_some (moved from to m to) ≡ true
moved_stands m from to some =
    let own : begins to to ≡ true = ap (begins to) (sym (append-nil to)) ∙ begins_append to [] in
    let none : after to to ≡ [] = ap (after to) (sym (append-nil to)) ∙ after_append to [] in
    ap (λ b. is_some (cond b (m (from ++ after to to)) (without from m to))) own ∙ ap (λ q. is_some (m (from ++ q))) none ∙ ap (λ q. is_some (m q)) (append-nil from) ∙ some

target_stands : (from to : Path) (old new : NamesView) → edited_names (Rename from to) old ≡ Ok new → is_some (fin.get new.tree (target_of (at (fin.entries old.tree)) from to)) ≡ true
target_stands from to old new e =
    let n = was_named (Rename from to) old new e in
    let m = fin.get old.tree in
    let deep = is_too_deep (fin.entries old.tree) from in
    let parts = admitted (edits.Rename from to) (fin.entries old.tree) old.refs (n.rows, n.refs) n.made in
    let done = done_of _ (λ m. rename deep m from to) old.tree n.rows (covered-rename (fin.entries old.tree) from to) parts.rows in
    let gives = rename_gives deep m done.plain from to done.is in
    let target = target_of m from to in
    let there : is_some (done.plain target) ≡ true = ap (λ (p : Plain ℕ). is_some (p target)) gives.is ∙ moved_stands m from target gives.stands in
    let now : is_some (fin.get (fin.from_entries {R = path_cmp} n.rows) target) ≡ true = ap (λ (p : Plain ℕ). is_some (p target)) done.same ∙ there in
    let same : target_of (at (fin.entries old.tree)) from to ≡ target = ap (λ o. if is_dir o then to ++ last from else to) (sym (fin.get-entries old.tree to)) in
    ap (λ q. is_some (fin.get new.tree q)) same ∙ ap (λ (x : NamesView). is_some (fin.get x.tree target)) (sym n.is) ∙ now

-- ---- the paths that are made

fronts_told : (front p : Path) → list_all is_spelled front ≡ true → list_all is_spelled p ≡ true → is_without_slashes front ≡ true → is_without_slashes p ≡ true → length front + length p ≤ 64 → AllByRecursion IsPath (fronts_below front p)
fronts_told front [] a b c d few = tt
fronts_told front (x ∷ p) a b c d few =
    let s = and_parts (is_spelled x) (list_all is_spelled p) b in
    let t = and_parts (is_plain x) (is_without_slashes p) d in
    let next = front ++ x ∷ [] in
    let spelled : list_all is_spelled next ≡ true = list_all-append is_spelled front (x ∷ []) ∙ both_true (list_all is_spelled front) (is_spelled x && true) a (both_true (is_spelled x) true s.0 refl) in
    let plain : is_without_slashes next ≡ true = list_all-append is_plain front (x ∷ []) ∙ both_true (is_without_slashes front) (is_plain x && true) c (both_true (is_plain x) true t.0 refl) in
    let long : length next ≤ 64 = omega (arith, length-append front (x ∷ [])) in
    (path_of next spelled (le-leb (length next) 64 long) plain, fronts_told next p spelled s.1 plain t.1 (omega (arith, length-append front (x ∷ []))))

made_told : (p : Path) (above : ℕ) → IsPath p → list_all is_spelled p ≡ true → AllByRecursion IsPath (made_paths p above)
made_told p above t spelled =
    let read = read_path p t.1 in
    let few = leb-true (length p) 64 read.short in
    all_filtered IsPath (λ q. nat_lt above (length q)) (fronts_below [] p) (fronts_told [] p refl spelled refl read.plain (omega arith))

-- ---- what takes an edit back

hidden_told : (p : Path) (moment n : ℕ) → IsEdit (Hide p moment n) → names_well (Hide p moment n) ≡ true → IsPath (hidden_path p moment n)
hidden_told p moment n t well =
    let read = read_path p t.0.1 in
    path_of (hidden_path p moment n) (names_spelled (Hide p moment n) t well) (still p read.short) (all_hidden is_plain is_plain p moment n read.plain read.plain (λ x h. plain_hidden moment n x t.1.0 t.1.1 h))
  where
    some_path : (x : Name) (q : Path) → x ∷ q ≡ [] → ⊥
    some_path x q e = cc

    still : (q : Path) → is_short q ≡ true → is_short (hidden_path q moment n) ≡ true
    still [] h = refl
    still (x ∷ q) h = ap (λ k. nat_le k 64) (hidden_long (x ∷ q) moment n (some_path x q)) ∙ h

old_told : (d : Durable) (p : Path) (names : NamesView) → IsKept d → HasSpelled d → IsEdit (Unhide p) → names_well (Unhide p) ≡ true → edited_names (Unhide p) d.names ≡ Ok names → (o : Option Name) → old_name p ≡ o → IsPath (unhide_target p o)
old_told d p names k h t well e None is = t
old_told d p names k h t well e (Some name) is =
    let read = read_path p t.1 in
    let stands = unhide_stands p name d.names names (kept_tree d.names k.names).grown is e in
    path_of (beside p name) (all_beside is_spelled p name (h.now p stands) (names_spelled (Unhide p) t well name is)) (ap (λ k. nat_le k 64) (beside_long p name (has_name p name is)) ∙ read.short)
    (all_beside is_plain p name read.plain (plain_old p name is read.plain))

removed_told : (d : Durable) (p : Path) → IsKept d → HasSpelled d → AreLow d → IsToldBack (inverse_of (Remove p) (fin.entries d.names.tree))
removed_told d p k h low =
    let rows = fin.entries d.names.tree in
    let plain = kept_tree d.names k.names in
    let spelled = each_found path_cmp path_total paths_antisymmetric (λ r. list_all is_spelled r.0) rows (fin.entries_sorted d.names.tree) (λ q entry found. h.now q (ap is_some (fin.get-entries d.names.tree q ∙ found))) in
    let handle : (chunk : ℕ) → is_placed d chunk ≡ true → IsHandle chunk = (λ chunk placed. listed_handle d chunk k low (and_parts (is_listed d chunk) (is_some (fin.get d.chunks chunk)) placed).0) in
    texts_both IsPath AreHandles (filter (λ r. begins p r.0) rows) (all_filtered _ (λ r. begins p r.0) rows (rows_told d rows handle spelled plain.short plain.plain (all_placed d k)))

inverse_told : (d next : Durable) (edit : PlainEdit) (names : NamesView) → IsKept d → HasSpelled d → AreLow d → AreKept names → AreSpelled names → IsEdit edit → names_well edit ≡ true → edited_names edit d.names ≡ Ok names → IsToldBack (inverse_of edit (fin.entries d.names.tree))
inverse_told d next (Mkdirs p) names k h low kept spelled t well e = made_told p (stood (at (fin.entries d.names.tree)) p) t (names_spelled (Mkdirs p) t well)
inverse_told d next (Create p) names k h low kept spelled t well e = made_told p (stood (at (fin.entries d.names.tree)) p) t (names_spelled (Create p) t well)
inverse_told d next (Rename from to) names k h low kept spelled t well e = (stands_told names (target_of (at (fin.entries d.names.tree)) from to) kept spelled (target_stands from to d.names names e), t.0)
inverse_told d next (Hide p moment n) names k h low kept spelled t well e = (hidden_told p moment n t well, t.0)
inverse_told d next (Unhide p) names k h low kept spelled t well e = (old_told d p names k h t well e (old_name p) refl, t)
inverse_told d next (Remove p) names k h low kept spelled t well e = removed_told d p k h low
inverse_told d next (AddChunk p chunk) names k h low kept spelled t well e = t.0
inverse_told d next (Cow p index old new) names k h low kept spelled t well e = (t.0, (t.1.0, t.1.1.0))
inverse_told d next (Snapshot from to) names k h low kept spelled t well e = t.1
inverse_told d next (Forget chunks) names k h low kept spelled t well e = t.1

-- ---- records

abbrev AreBack : Durable → Type 0
AreBack d = AllByRecursion IsToldBack d.inverses

one_more : (phase : Phase) (inverses : List PlainInverse) (inverse : PlainInverse) → AllByRecursion IsToldBack inverses → IsToldBack inverse → AllByRecursion IsToldBack (inverses_with phase inverses inverse)
one_more Ordinary inverses inverse all own = all
one_more Upgrade inverses inverse all own = all_both IsToldBack inverses (inverse ∷ []) all (own, tt)
one_more Rolling inverses inverse all own = all

edit_back : (d next : Durable) (by : ReqId) (edit : PlainEdit) → IsKept d → HasSpelled d → AreLow d → IsKept next → HasSpelled next → AreBack d → IsEdit edit → (names : Result NamesView Refusal) → edited_names edit d.names ≡ names → after_edit d by edit names ≡ Some next → AreBack next
edit_back d next by edit k h low kept spelled all t (Err refusal) named f = absurd (false≢true (ap is_some f))
edit_back d next by edit k h low kept spelled all t (Ok names) named f =
    let is = fits_gives (may_edit d edit) (with_edit d by edit names) next f in
    let same : next.names ≡ names = ap (λ (x : Durable). x.names) (sym is.1) in
    let own = inverse_told d next edit names k h low (subst AreKept same kept.names) (subst AreSpelled same spelled.now) t (may_edit_so d edit is.0).well named in
    subst AreBack is.1 (one_more d.phase d.inverses (inverse_of edit (fin.entries d.names.tree)) all own)

undone_back : (d next : Durable) (epoch : ℕ) (answers : List Answered) (names : Option NamesView) → after_undoing d epoch answers names ≡ Some next → AreBack next
undone_back d next epoch answers None e = absurd (false≢true (ap is_some e))
undone_back d next epoch answers (Some names) e =
    subst AreBack (fits_gives (is_rolling d.phase && ((epoch == d.epoch) && are_answers (prepared_view d) (fin.entries names.refs) answers)) (rolled_back d answers names) next e).1 tt

pub keeps_back : (entry : PlainEntry) (d next : Durable) → is_whole_entry entry ≡ false → AreFields Two entry → IsKept d → HasSpelled d → AreLow d → IsKept next → HasSpelled next → AreBack d → applied d entry ≡ Some next → AreBack next
unfolding applied
keeps_back (Edited by edit) d next other f k h low kept spelled all e = edit_back d next by edit k h low kept spelled all f.1 (edited_names edit d.names) refl e
keeps_back (Said to refusal) d next other f k h low kept spelled all e = subst AreBack (fits_gives true _ next e).1 all
keeps_back (Propose chunk version) d next other f k h low kept spelled all e =
    subst AreBack (fits_gives (may_propose d.phase d.next_handle d.next_version chunk version (fin.get d.chunks chunk)) (proposed d chunk version) next e).1 all
keeps_back (Settle v) d next other f k h low kept spelled all e = subst AreBack (fits_gives (may_be_settled d v) (with_view d v) next e).1 all
keeps_back (Prepare epoch moment chunks) d next other f k h low kept spelled all e =
    let n = without_prepared (with_epoch d ends.Prepare Upgrade) in subst AreBack (fits_gives (is_ordinary d.phase && (is_next_epoch d.epoch epoch && are_at_rest d)) n next e).1 tt
keeps_back (Finalize epoch) d next other f k h low kept spelled all e =
    let n = without_prepared (with_epoch d ends.Finalize Ordinary) in subst AreBack (fits_gives (is_upgrade d.phase && is_next_epoch d.epoch epoch) n next e).1 tt
keeps_back (RollbackBegin epoch) d next other f k h low kept spelled all e = let n = with_epoch d ends.Rollback Rolling in subst AreBack (fits_gives (is_upgrade d.phase && is_next_epoch d.epoch epoch) n next e).1 all
keeps_back (RollbackCommit epoch answers) d next other f k h low kept spelled all e = undone_back d next epoch answers (all_undone d.inverses d.names) e
keeps_back (Whole c) d next other f k h low kept spelled all e = absurd (false≢true (sym other))
keeps_back (Holder chunk server) d next other f k h low kept spelled all e =
    let n = record d { prepared = with_prepared d chunk (held_by server (prepared_view d chunk)) } in
    subst AreBack (fits_gives (is_upgrade d.phase && (nat_lt server 16 && is_some (prepared_view d chunk))) n next e).1 all

-- ---- many records

pub all_keep_back : (entries : List PlainEntry) (d last : Durable) → IsKept d → HasSpelled d → AreLow d → AreBack d → AllByRecursion IsTellable entries → AllByRecursion (IsEntry Two) entries → replayed d entries ≡ Some last → AreBack last
all_keep_back [] d last k h low all t f e = subst AreBack (durable_is e) all
  where
    durable_is : {a b : Durable} → ◌≡◌ {A = Option Durable} (Some a) (Some b) → a ≡ b
    durable_is x = cc
all_keep_back (entry ∷ entries) d last k h low all t f e = by_first (λ n kept spelled left back x. all_keep_back entries n last kept spelled left back t.1 f.1 x) (applied d entry) refl e
  where
    by_first : ((n : Durable) → IsKept n → HasSpelled n → AreLow n → AreBack n → replayed n entries ≡ Some last → AreBack last) → (o : Option Durable) → applied d entry ≡ o → option_and_then (λ n. replayed n entries) o ≡ Some last → AreBack last
    by_first rest None is x = absurd (false≢true (ap is_some x))
    by_first rest (Some n) is x =
        let other = not_whole entry t.0 in
        let kept = keeps_all entry other d n f.0 k is in
        let spelled = keeps_spelled entry d n other f.0.0 k h is in rest n kept spelled (low_after entry d n low t.0 f.0.0 is) (keeps_back entry d n other f.0.0 k h low kept spelled all is) x
