-- While an upgrade stands, what takes edits back leads to the names of the prepare.
use Rattle.std.proofs.Common.{◌≡◌, ◌∙◌, ◌&&◌, ◌||◌, ◌++◌, ℕ, Bool, true, false, not, List, [], ◌∷◌, T, refl, sym, ap, subst}
use Rattle.std.specs.Prelude.{nat_lt, Some, None, is_some, is_none, option_and_then, Result, Ok, Err}
use Rattle.std.specs.List.{list_all}
use Rattle.std.specs.FinMap as fin
use Rattle.std.specs.FinMap.Entries.{below_all, is_sorted}
use Rattle.std.specs.Ordering.{is_lt}
use Rattle.std.proofs.lemmas.Bool.{false≢true, and_parts}
use Rattle.gs_base.specs.declared.epoch.EpochEnd.TheVariants as ends
use Rattle.gs_base.specs.declared.numbers.ReqId.{ReqId}
use Rattle.gs_base.specs.declared.refusal.Refusal.{Refusal}
use Rattle.gs_edit.specs.View.{NamesView}
use Rattle.gs_edit.proofs.Tables.{seen}
use Rattle.gs_path.specs.Path.{Name, Path, begins, path_cmp}
use Rattle.gs_master_record.specs.Plain.{PlainEdit, PlainEntry, PlainInverse, Edited, Said, Propose, Settle, Prepare, Finalize, RollbackBegin, RollbackCommit, Whole, Holder}
use Rattle.gs_master_record.specs.declared.checkpoint.Phase.{Phase}
use Rattle.gs_master_record.specs.declared.checkpoint.Phase.TheVariants.{Ordinary, Upgrade, Rolling}
use Rattle.gs_tree.specs.Build.{all_apart, below_root, has_place, is_short, is_tree, rooted_rows}
use Rattle.gs_tree.specs.Edits.{is_dir, parent}
use Rattle.gs_tree.specs.Entry.{Dir}
use Rattle.gs_tree.specs.Find.{Rows, at}
use Rattle.gs_tree.proofs.Levels.{both_true}
use Rattle.gs_tree.proofs.Moves.{is_dir_some}
use Rattle.gs_master_spec.specs.Applied.{after_edit, applied, chunk_of_edit, held_by, inverses_with, is_fresh_if, is_next_epoch, may_be_settled, may_edit, may_propose, names_well, number_of_edit, proposed, view_for, with_edit, with_epoch, with_view}
use Rattle.gs_master_spec.specs.Durable.{Durable, is_ordinary, is_rolling, is_upgrade, prepared_view, with_prepared}
use Rattle.gs_laws_master.specs.Promises.{AreKept, LeadsBack}
use Rattle.gs_master_spec.specs.Undoing.{all_undone, edited_names, inverse_of, undone}
use Rattle.gs_laws_master.proofs.lemmas.upgrades.Beginnings.{fits_gives}
use Rattle.gs_laws_master.proofs.lemmas.names.Parents.{HasParents, grown_by}
use Rattle.gs_laws_master.proofs.lemmas.names.Planted.{IsPlainTree, of_each}
use Rattle.gs_laws_master.proofs.lemmas.names.Undone.{IsSoundNames, undoes_edit}

-- ---- names that stand are those of a tree

fst : (a b : Bool) → T (a && b) → T a
fst true b h = tt
fst false b h = h

snd : (a b : Bool) → T (a && b) → T b
snd true b h = h
snd false b h = absurd h

no_root : (x : Name) (p : Path) (rows : Rows ℕ) → T (below_all path_cmp (x ∷ p) rows) → at rows [] ≡ None
no_root x p [] below = refl
no_root x p (([], e) ∷ rows) below = absurd below
no_root x p ((y ∷ q, e) ∷ rows) below = no_root x p rows (snd (is_lt (path_cmp (x ∷ p) (y ∷ q))) (below_all path_cmp (x ∷ p) rows) below)

-- the root's row comes first
pub root_first : (rows : Rows ℕ) → T (is_sorted path_cmp rows) → at rows [] ≡ Some Dir → rooted_rows (below_root rows) ≡ rows
root_first [] sorted dir = absurd (false≢true (ap is_some dir))
root_first (([], e) ∷ rows) sorted dir = let same : e ≡ Dir = (let h = dir in cc) in ap (λ d. ([], d) ∷ rows) (sym same)
root_first ((x ∷ p, e) ∷ rows) sorted dir = absurd (false≢true (sym (ap is_some (no_root x p rows (fst (below_all path_cmp (x ∷ p) rows) (is_sorted path_cmp rows) sorted))) ∙ ap is_some dir))

rows_of_tree : (rows : Rows ℕ) → is_tree (below_root rows) ≡ true → rooted_rows (below_root rows) ≡ rows → list_all (λ r. begins [] r.0 && has_place (at rows) r.0) (below_root rows) ≡ true
rows_of_tree rows tree whole =
    let parts = and_parts (is_short []) (all_apart (rooted_rows (below_root rows)) && list_all (λ r. begins [] r.0 && has_place (at (rooted_rows (below_root rows))) r.0) (below_root rows)) tree in
    ap (λ (rs : Rows ℕ). list_all (λ r. begins [] r.0 && has_place (at rs) r.0) (below_root rows)) (sym whole)
    ∙ (and_parts (all_apart (rooted_rows (below_root rows))) (list_all (λ r. begins [] r.0 && has_place (at (rooted_rows (below_root rows))) r.0) (below_root rows)) parts.1).1

pub kept_tree : (names : NamesView) → AreKept names → IsPlainTree names.tree
kept_tree names kept = record { grown = grown_by (fin.get names.tree) kept.root up; short = short; plain = kept.plain }
  where
    rows : Rows ℕ
    rows = fin.entries names.tree

    whole : rooted_rows (below_root (fin.entries names.tree)) ≡ fin.entries names.tree
    whole = root_first (fin.entries names.tree) (fin.entries_sorted names.tree) (ap (λ m. m []) (sym (seen names.tree)) ∙ kept.root)

    each : list_all (λ r. begins [] r.0 && has_place (at (fin.entries names.tree)) r.0) (below_root (fin.entries names.tree)) ≡ true
    each = rows_of_tree (fin.entries names.tree) kept.tree whole

    below : (x : Name) (p : Path) → is_some (fin.get names.tree (x ∷ p)) ≡ true → is_some (at (below_root (fin.entries names.tree)) (x ∷ p)) ≡ true
    below x p some = ap (λ (rs : Rows ℕ). is_some (at rs (x ∷ p))) whole ∙ ap (λ m. is_some (m (x ∷ p))) (sym (seen names.tree)) ∙ some

    place : (x : Name) (p : Path) → is_some (fin.get names.tree (x ∷ p)) ≡ true → has_place (at (fin.entries names.tree)) (x ∷ p) ≡ true
    place x p some = of_each (λ q. has_place (at (fin.entries names.tree)) q) (below_root (fin.entries names.tree)) (x ∷ p) each (below x p some)

    up : HasParents (fin.get names.tree)
    up x p some = ap (λ m. m (parent (x ∷ p))) (seen names.tree) ∙ is_dir_some (at (fin.entries names.tree) (parent (x ∷ p))) (and_parts (is_short (x ∷ p)) (is_dir (at (fin.entries names.tree) (parent (x ∷ p)))) (place x p some)).1

    short_places : (rs : Rows ℕ) → list_all (λ r. begins [] r.0 && has_place (at (fin.entries names.tree)) r.0) rs ≡ true → list_all (λ r. is_short r.0) rs ≡ true
    short_places [] h = refl
    short_places (r ∷ rs) h =
        let parts = and_parts (begins [] r.0 && has_place (at (fin.entries names.tree)) r.0) (list_all (λ s. begins [] s.0 && has_place (at (fin.entries names.tree)) s.0) rs) h in
        both_true (is_short r.0) (list_all (λ s. is_short s.0) rs) (and_parts (is_short r.0) (is_dir (at (fin.entries names.tree) (parent r.0))) parts.0).0 (short_places rs parts.1)

    short : list_all (λ r. is_short r.0) (fin.entries names.tree) ≡ true
    short = ap (list_all (λ r. is_short r.0)) (sym whole) ∙ short_places (below_root (fin.entries names.tree)) each

pub kept_sound : (names : NamesView) → AreKept names → IsSoundNames names
kept_sound names kept = record { tree = kept_tree names kept; counts = kept.counts }

-- ---- one inverse more

pub undone_last : (inverses : List PlainInverse) (inverse : PlainInverse) (old new : NamesView) → undone inverse new ≡ Some old → all_undone (inverses ++ inverse ∷ []) new ≡ all_undone inverses old
undone_last [] inverse old new is = is
undone_last (i ∷ inverses) inverse old new is = ap (option_and_then (undone i)) (undone_last inverses inverse old new is)

not_rolling : (d : Durable) (edit : PlainEdit) → may_edit d edit ≡ true → not (is_rolling d.phase) ≡ true
not_rolling d edit may =
    (and_parts (not (is_rolling d.phase)) (names_well edit && ((is_none (chunk_of_edit edit) || is_some (view_for d (chunk_of_edit edit))) && is_fresh_if d.next_hidden (number_of_edit edit))) may).0

led_with : (phase : Phase) (inverses : List PlainInverse) (inverse : PlainInverse) (old new : NamesView) → is_ordinary phase ≡ false → not (is_rolling phase) ≡ true → undone inverse new ≡ Some old
    → all_undone (inverses_with phase inverses inverse) new ≡ all_undone inverses old
led_with Ordinary inverses inverse old new stands may is = absurd (false≢true (sym stands))
led_with Upgrade inverses inverse old new stands may is = undone_last inverses inverse old new is
led_with Rolling inverses inverse old new stands may is = absurd (false≢true may)

edit_led : (d next : Durable) (by : ReqId) (edit : PlainEdit) (names : Result NamesView Refusal) → AreKept d.names → is_ordinary d.phase ≡ false → edited_names edit d.names ≡ names → after_edit d by edit names ≡ Some next
    → all_undone next.inverses next.names ≡ all_undone d.inverses d.names
edit_led d next by edit (Ok names) kept stands named e =
    let is = fits_gives (may_edit d edit) (with_edit d by edit names) next e in
    subst (λ (x : Durable). all_undone x.inverses x.names ≡ all_undone d.inverses d.names) is.1
    (led_with d.phase d.inverses (inverse_of edit (fin.entries d.names.tree)) d.names names stands (not_rolling d edit is.0) (undoes_edit edit d.names names (kept_sound d.names kept) named))
edit_led d next by edit (Err refusal) kept stands named e = absurd (false≢true (ap is_some e))

-- ---- all records

abbrev Same : Durable → Durable → Type 0
Same d next = all_undone next.inverses next.names ≡ all_undone d.inverses d.names

stays : (d n next : Durable) → n ≡ next → Same d n → Same d next
stays d n next is same = subst (λ (x : Durable). Same d x) is same

pub leads_back : (entry : PlainEntry) → LeadsBack entry
unfolding applied
leads_back (Edited by edit) d next kept stands within e = edit_led d next by edit (edited_names edit d.names) kept.names stands refl e
leads_back (Said to refusal) d next kept stands within e = stays d _ next (fits_gives true _ next e).1 refl
leads_back (Propose chunk version) d next kept stands within e =
    stays d (proposed d chunk version) next (fits_gives (may_propose d.phase d.next_handle d.next_version chunk version (fin.get d.chunks chunk)) (proposed d chunk version) next e).1 refl
leads_back (Settle v) d next kept stands within e = stays d (with_view d v) next (fits_gives (may_be_settled d v) (with_view d v) next e).1 refl
leads_back (Prepare epoch moment chunks) d next kept stands within e = absurd (false≢true within)
leads_back (Finalize epoch) d next kept stands within e = absurd (false≢true within)
leads_back (RollbackBegin epoch) d next kept stands within e =
    stays d (with_epoch d ends.Rollback Rolling) next (fits_gives (is_upgrade d.phase && is_next_epoch d.epoch epoch) (with_epoch d ends.Rollback Rolling) next e).1 refl
leads_back (RollbackCommit epoch answers) d next kept stands within e = absurd (false≢true within)
leads_back (Whole c) d next kept stands within e = absurd (false≢true within)
leads_back (Holder chunk server) d next kept stands within e =
    stays d (record d { prepared = with_prepared d chunk (held_by server (prepared_view d chunk)) }) next
    (fits_gives (is_upgrade d.phase && (nat_lt server 16 && is_some (prepared_view d chunk))) (record d { prepared = with_prepared d chunk (held_by server (prepared_view d chunk)) }) next e).1 refl
