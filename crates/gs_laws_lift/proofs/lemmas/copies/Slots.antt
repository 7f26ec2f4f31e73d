-- What records leave at a place of a file.
use Rattle.std.proofs.Common.{◌≡◌, zero, suc, ◌∙◌, ◌&&◌, ◌||◌, ◌++◌, ℕ, Bool, true, false, not, cond, List, [], ◌∷◌, map, refl, ap, sym}
use Rattle.std.specs.Prelude.{is_none, is_some, slice_get, Option, Some, None, Result, Ok}
use Rattle.std.specs.FinMap as fin
use Rattle.std.specs.List.{list_all, list_any}
use Rattle.std.proofs.lemmas.Bool.{false≢true, true≢false}
use Rattle.gs_base.specs.declared.epoch.EpochEnd.TheVariants as ends
use Rattle.gs_base.specs.declared.refusal.Refusal.{Refusal}
use Rattle.gs_base.specs.declared.refusal.Refusal.TheVariants.{IsADirectory, NotFound, NotHidden}
use Rattle.gs_edit.proofs.Covers.{covered-add, covered-remove}
use Rattle.gs_edit.proofs.Tables.{same_itself, same_path-is}
use Rattle.gs_edit.specs.View.{NamesView}
use Rattle.gs_edit.specs.declared.edit.Edit.TheVariants as edits
use Rattle.gs_path.specs.Element.{is_hidden}
use Rattle.gs_path.specs.Path.{Path, begins, path_cmp, path_total}
use Rattle.gs_refs.specs.Counts.{taken_each}
use Rattle.gs_tree.proofs.Apart.{past, same_answer, through}
use Rattle.gs_tree.proofs.Splice.{begins_parts}
use Rattle.gs_tree.specs.Edits.{add_chunk, chunks_in, is_dir, old_name, remove, same_path, with_chunks}
use Rattle.gs_tree.specs.Entry.{Entry, File}
use Rattle.gs_tree.specs.Find.{Rows}
use Rattle.gs_tree.specs.Plain.{Plain, after, without}
use Rattle.gs_laws_moves.proofs.lemmas.moves.GivenNames.{names_given}
use Rattle.gs_laws_master.proofs.lemmas.upgrades.Beginnings.{fits_gives}
use Rattle.gs_laws_master.proofs.lemmas.names.EditsBack.{admitted, done_of, with_parts}
use Rattle.gs_laws_master.proofs.lemmas.names.Undone.{was_named}
use Rattle.gs_laws_master.specs.Promises.{AreKept}
use Rattle.gs_master_record.specs.Plain.{AddChunk, Edited, Finalize, Forget, Holder, PlainEdit, PlainEntry, Prepare, Propose, Remove, RollbackBegin, Said, Settle}
use Rattle.gs_master_record.specs.declared.checkpoint.Phase.TheVariants.{Ordinary, Rolling, Upgrade}
use Rattle.gs_master_spec.specs.Applied.{applied, are_at_rest, held_by, is_next_epoch, is_visible, may_be_settled, may_propose, proposed, replayed, with_epoch, with_view, without_prepared}
use Rattle.gs_master_spec.specs.Durable.{Durable, is_ordinary, is_upgrade, prepared_view, with_prepared}
use Rattle.gs_master_spec.specs.Settling.{own_request}
use Rattle.gs_master_spec.specs.Undoing.{edited_names}
use Rattle.gs_master_spec.specs.Working.{scan_edits}
use Rattle.gs_laws_lift.specs.copies.Held.{slot}
use Rattle.gs_laws_moves.proofs.lemmas.moves.Listed.{over_records}
use Rattle.gs_laws_moves.proofs.lemmas.moves.Places.{edits_spare}
use Rattle.gs_laws_moves.specs.moves.Places.{spares_path}

slot_there : (names : NamesView) (path : Path) (index c : ℕ) → slot names path index ≡ Some c → is_some (fin.get names.tree path) ≡ true
slot_there names path index c is = by_entry (fin.get names.tree path) is
  where
    by_entry : (o : Option (Entry ℕ)) → slice_get (chunks_in o) index ≡ Some c → is_some o ≡ true
    by_entry None h = absurd (cc)
    by_entry (Some e) h = refl

-- an edit that spares the file
pub edit_slot : (edit : PlainEdit) (old new : NamesView) (path : Path) (index c : ℕ) → AreKept old → edited_names edit old ≡ Ok new → spares_path edit path ≡ true → slot old path index ≡ Some c → slot new path index ≡ Some c
edit_slot edit old new path index c kept e spared is = ap (λ o. slice_get (chunks_in o) index) (edits_spare edit old new path kept e spared (slot_there old path index c is)) ∙ is

-- one that adds a chunk at the end of it
front_get : (xs ys : List ℕ) (index c : ℕ) → slice_get xs index ≡ Some c → slice_get (xs ++ ys) index ≡ Some c
front_get [] ys index c is = absurd (cc)
front_get (x ∷ xs) ys zero c is = is
front_get (x ∷ xs) ys (suc index) c is = front_get xs ys index c is

add_here : (path : Path) (chunk : ℕ) (names after : NamesView) (index c : ℕ) → edited_names (AddChunk path chunk) names ≡ Ok after → slot names path index ≡ Some c → slot after path index ≡ Some c
add_here path chunk names next index c e is =
    let n = was_named (AddChunk path chunk) names next e in
    let done = done_of _ (λ m. add_chunk m path chunk) names.tree n.rows (covered-add (fin.entries names.tree) path chunk) (admitted (edits.AddChunk path chunk) (fin.entries names.tree) names.refs (n.rows, n.refs) n.made).rows in
    ap (λ (x : NamesView). slice_get (chunks_in (fin.get x.tree path)) index) (sym n.is) ∙ ap (λ (f : Plain ℕ). slice_get (chunks_in (f path)) index) done.same ∙ add_in (fin.get names.tree) done.plain done.is is
  where
    add_in : (m n : Plain ℕ) → add_chunk m path chunk ≡ Ok n → slice_get (chunks_in (m path)) index ≡ Some c → slice_get (chunks_in (n path)) index ≡ Some c
    add_in m n h was =
        let one = past (is_none (m path)) NotFound _ n h in
        let same = same_answer (with_chunks path (chunks_in (m path) ++ chunk ∷ []) m) n path (past (is_dir (m path)) IsADirectory _ n one) in
        ap (λ o. slice_get (chunks_in o) index) (same ∙ ap (λ b. cond b (Some (File (chunks_in (m path) ++ chunk ∷ []))) (m path)) (same_itself path)) ∙ front_get (chunks_in (m path)) (chunk ∷ []) index c was

pub add_slot : (at : Path) (chunk : ℕ) (old new : NamesView) (path : Path) (index c : ℕ) → AreKept old → edited_names (AddChunk at chunk) old ≡ Ok new → slot old path index ≡ Some c → slot new path index ≡ Some c
add_slot at chunk old new path index c kept e is = by_test (same_path at path) refl
  where
    by_test : (b : Bool) → same_path at path ≡ b → slot new path index ≡ Some c
    by_test true same = (let here = same_path-is at path same in add_here path chunk old new index c (ap (λ p. edited_names (AddChunk p chunk) old) (sym here) ∙ e) is)
    by_test false other = edit_slot (AddChunk at chunk) old new path index c kept e (ap not other) is

-- ---- a scan

any_back : (p r : Path) → list_any is_hidden p ≡ true → list_any is_hidden (p ++ r) ≡ true
any_back [] r some = absurd (false≢true some)
any_back (n ∷ p) r some = by_head (is_hidden n) some (any_back p r)
  where
    by_head : (b : Bool) → (b || list_any is_hidden p) ≡ true → (list_any is_hidden p ≡ true → list_any is_hidden (p ++ r) ≡ true) → (b || list_any is_hidden (p ++ r)) ≡ true
    by_head true h rest = refl
    by_head false h rest = rest h

old_hidden : (p : Path) → is_none (old_name p) ≡ false → list_any is_hidden p ≡ true
old_hidden [] h = absurd (true≢false h)
old_hidden (x ∷ []) h = by_test (is_hidden x) refl
  where
    by_test : (b : Bool) → is_hidden x ≡ b → (is_hidden x || false) ≡ true
    by_test true is = ap (λ b. b || false) is
    by_test false is = absurd (true≢false (rw is at h))
old_hidden (x ∷ y ∷ p) h = by_head (is_hidden x) (old_hidden (y ∷ p) h)
  where
    by_head : (b : Bool) → list_any is_hidden (y ∷ p) ≡ true → (b || list_any is_hidden (y ∷ p)) ≡ true
    by_head true g = refl
    by_head false g = g

-- what is visible isn't below what is hidden
not_below : (p path : Path) → is_none (old_name p) ≡ false → is_visible path ≡ true → begins p path ≡ false
not_below p path hidden visible = by_test (begins p path) refl
  where
    clash : (b : Bool) → b ≡ true → not b ≡ true → ⊥
    clash true a b = false≢true b
    clash false a b = false≢true a

    by_test : (b : Bool) → begins p path ≡ b → b ≡ false
    by_test true is = absurd (clash (list_any is_hidden path) (ap (list_any is_hidden) (begins_parts p path is) ∙ any_back p (after p path) (old_hidden p hidden)) visible)
    by_test false is = refl

rows_is : {a b : Rows ℕ} → ◌≡◌ {A = Result (Rows ℕ) Refusal} (Ok a) (Ok b) → a ≡ b
rows_is h = cc

module _ (path : Path) (visible : is_visible path ≡ true) (index c : ℕ) where
  remove_slot : (p : Path) (old new : NamesView) → edited_names (Remove p) old ≡ Ok new → slot old path index ≡ Some c → slot new path index ≡ Some c
  remove_slot p old new e is =
      let n = was_named (Remove p) old new e in
      let done = done_of _ (λ m. remove m p) old.tree n.rows (covered-remove (fin.entries old.tree) p) (admitted (edits.Remove p) (fin.entries old.tree) old.refs (n.rows, n.refs) n.made).rows in
      ap (λ (x : NamesView). slice_get (chunks_in (fin.get x.tree path)) index) (sym n.is) ∙ ap (λ (f : Plain ℕ). slice_get (chunks_in (f path)) index) done.same ∙ ap (λ o. slice_get (chunks_in o) index) (removed (fin.get old.tree) done.plain done.is) ∙ is
    where
      removed : (m n : Plain ℕ) → remove m p ≡ Ok n → n path ≡ m path
      removed m n h =
          let hidden = through (is_none (old_name p)) NotHidden _ n h in
          let one = past (is_none (old_name p)) NotHidden _ n h in
          same_answer (without p m) n path (past (is_none (m p)) NotFound _ n one) ∙ ap (λ b. cond b None (m path)) (not_below p path hidden visible)

  forget_slot : (chunks : List ℕ) (old new : NamesView) → edited_names (Forget chunks) old ≡ Ok new → slot old path index ≡ Some c → slot new path index ≡ Some c
  forget_slot chunks old new e is =
      let n = was_named (Forget chunks) old new e in
      let same = (with_parts (Ok (fin.entries old.tree)) (taken_each old.refs chunks) (n.rows, n.refs) n.made).0 in
      ap (λ (x : NamesView). slice_get (chunks_in (fin.get x.tree path)) index) (sym n.is)
      ∙ ap (λ (r : Rows ℕ). slice_get (chunks_in (fin.get (fin.from_entries {R = path_cmp} r) path)) index) (sym (rows_is same)) ∙ ap (λ o. slice_get (chunks_in o) index) (fin.get-from_entries path_total (fin.entries old.tree) path ∙ sym (fin.get-entries old.tree path)) ∙ is

  abbrev is_scan : PlainEntry → Bool
  is_scan (Edited by (Remove p)) = true
  is_scan (Edited by (Forget chunks)) = true
  is_scan entry = false

  abbrev SlotOn : Durable → Durable → Type 0
  SlotOn d e = slot d.names path index ≡ Some c → slot e.names path index ≡ Some c

  scan_record : (d e : Durable) (entry : PlainEntry) → is_scan entry ≡ true → applied d entry ≡ Some e → SlotOn d e
  scan_record d e (Edited by (Remove p)) is fit = remove_slot p d.names e.names (names_given d e by (Remove p) fit)
  scan_record d e (Edited by (Forget chunks)) is fit = forget_slot chunks d.names e.names (names_given d e by (Forget chunks) fit)
  scan_record d e entry is fit = absurd (false≢true is)

  scan_all : (removed : List Path) (forgotten : List ℕ) → list_all is_scan (map (Edited own_request) (scan_edits removed forgotten)) ≡ true
  scan_all [] [] = refl
  scan_all [] (f ∷ forgotten) = refl
  scan_all (p ∷ removed) forgotten = scan_all removed forgotten

  pub scan_slot : (removed : List Path) (forgotten : List ℕ) (d e : Durable) → replayed d (map (Edited own_request) (scan_edits removed forgotten)) ≡ Some e → SlotOn d e
  scan_slot removed forgotten d e fit = over_records SlotOn (λ x h. h) (λ x n y a b h. b (a h)) is_scan scan_record (map (Edited own_request) (scan_edits removed forgotten)) d e (scan_all removed forgotten) fit

-- ---- records that leave the names

abbrev pub leaves_names : PlainEntry → Bool
leaves_names (Said to refusal) = true
leaves_names (Propose q version) = true
leaves_names (Settle v) = true
leaves_names (Prepare epoch moment many) = true
leaves_names (Finalize epoch) = true
leaves_names (RollbackBegin epoch) = true
leaves_names (Holder q server) = true
leaves_names entry = false

durable_is : {a b : Durable} → ◌≡◌ {A = Option Durable} (Some a) (Some b) → a ≡ b
durable_is k = cc

record_names : (d e : Durable) (entry : PlainEntry) → leaves_names entry ≡ true → applied d entry ≡ Some e → e.names ≡ d.names
unfolding applied
record_names d e (Said to refusal) is fit = ap (λ (x : Durable). x.names) (sym (durable_is fit))
record_names d e (Propose q version) is fit = ap (λ (x : Durable). x.names) (sym (fits_gives (may_propose d.phase d.next_handle d.next_version q version (fin.get d.chunks q)) (proposed d q version) e fit).1)
record_names d e (Settle v) is fit = ap (λ (x : Durable). x.names) (sym (fits_gives (may_be_settled d v) (with_view d v) e fit).1)
record_names d e (Prepare epoch moment many) is fit =
    ap (λ (x : Durable). x.names) (sym (fits_gives (is_ordinary d.phase && (is_next_epoch d.epoch epoch && are_at_rest d)) (without_prepared (with_epoch d ends.Prepare Upgrade)) e fit).1)
record_names d e (Finalize epoch) is fit = ap (λ (x : Durable). x.names) (sym (fits_gives (is_upgrade d.phase && is_next_epoch d.epoch epoch) (without_prepared (with_epoch d ends.Finalize Ordinary)) e fit).1)
record_names d e (RollbackBegin epoch) is fit = ap (λ (x : Durable). x.names) (sym (fits_gives (is_upgrade d.phase && is_next_epoch d.epoch epoch) (with_epoch d ends.Rollback Rolling) e fit).1)
record_names d e (Holder q server) is fit =
    ap (λ (x : Durable). x.names) (sym (fits_gives (is_upgrade d.phase && (_ && is_some (prepared_view d q))) (record d { prepared = with_prepared d q (held_by server (prepared_view d q)) }) e fit).1)
record_names d e entry is fit = absurd (false≢true is)

pub names_left : (entries : List PlainEntry) (d e : Durable) → list_all leaves_names entries ≡ true → replayed d entries ≡ Some e → e.names ≡ d.names
names_left entries d e all fit = over_records (λ x y. y.names ≡ x.names) (λ x. refl) (λ x n y a b. b ∙ a) leaves_names record_names entries d e all fit
