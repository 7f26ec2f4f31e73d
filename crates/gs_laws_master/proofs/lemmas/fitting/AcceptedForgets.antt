-- A scan's records fit what they meet, and keep what stands: each removal, then the chunks that are left without a reference.
use Rattle.std.proofs.Common.{◌≡◌, ◌∙◌, ◌||◌, ◌==◌, ◌+◌, ℕ, Bool, true, false, not, cond, T, List, [], ◌∷◌, length, map, filter, refl, ap, subst, sym, arith}
use Rattle.std.specs.Prelude.{fold, is_some, nat_lt, option_and_then, unwrap_or, Option, Some, None, Ok, Err}
use Rattle.std.specs.Cmp.{nat_cmp_total}
use Rattle.std.specs.FinMap as fin
use Rattle.std.specs.FinMap.Entries.{below_all, is_sorted}
use Rattle.std.specs.List.{list_all}
use Rattle.std.specs.Ordering.{is_lt, nat_cmp}
use Rattle.std.proofs.lemmas.Bool.{false≢true, and_parts}
use Rattle.std.proofs.lemmas.Bool.Decides.{nat_tests}
use Rattle.std.proofs.lemmas.List.Folds.{list_all-map}
use Rattle.gs_base.specs.declared.numbers.Moment.{Moment}
use Rattle.gs_base.specs.declared.numbers.ReqId.{ReqId}
use Rattle.gs_base.specs.declared.refusal.Refusal.TheVariants as refusals
use Rattle.gs_path.specs.Path.{Path}
use Rattle.gs_refs.specs.Counts.{ascends, ascends_from, count_or_zero, is_at_zero, occurrences, without_each}
use Rattle.gs_tree.specs.Chunks.{all_chunks}
use Rattle.gs_tree.specs.Find.{Rows, at}
use Rattle.gs_tree.proofs.Levels.{both_true}
use Rattle.gs_edit.specs.Edits.{with_counts}
use Rattle.gs_edit.specs.Scan.{gone, is_gone, left}
use Rattle.gs_edit.specs.View.{names_of}
use Rattle.gs_edit.proofs.Removals.{gone_is}
use Rattle.gs_edit.proofs.Sweeping.{rows_without, split_chunks}
use Rattle.gs_msg.specs.declared.answer.Answer.TheVariants as answers
use Rattle.gs_master_record.specs.Plain.{PlainEntry, Edited, Forget}
use Rattle.gs_master_spec.specs.Applied.{after_edit, applied, if_fits, replayed, with_edit}
use Rattle.gs_master_spec.specs.Calls.{answered_with}
use Rattle.gs_master_spec.specs.Durable.{Durable, is_rolling}
use Rattle.gs_master_spec.specs.Settling.{own_request}
use Rattle.gs_master_spec.specs.State.{State, Turn, turned, and_then, with_record, all_ended_by}
use Rattle.gs_master_spec.specs.Undoing.{edited_names, names_from}
use Rattle.gs_master_spec.specs.Working.{forget_if, forgotten_chunks, removed_paths, scan_edits, scan_plan, scans, waiting_for}
use Rattle.gs_laws_master.specs.Promises.{IsKept}
use Rattle.gs_laws_master.proofs.lemmas.fitting.Accepted.{Goes, all_ended_goes, answered_goes, may_so, room_goes, then_goes}
use Rattle.gs_laws_master.proofs.lemmas.fitting.AcceptedScans.{IsRemoved, all_removed, own_edits, removed_apart, removed_each, removed_goes}
use Rattle.gs_laws_master.proofs.lemmas.fitting.AcceptedUpgrades.{filtered_all}
use Rattle.gs_laws_master.proofs.lemmas.keeping.KeptEdits.{edit_kept_told}
use Rattle.gs_laws_master.proofs.lemmas.spelling.Retold.{each_found}

-- ---- the chunks that are forgotten ascend

from_t : (b : Bool) → T b → b ≡ true
from_t true h = refl
from_t false h = absurd h

pub lower : (x y : ℕ) → is_lt (nat_cmp x y) ≡ true → nat_lt x y ≡ true
lower x y h = grind (arith, nat_tests)

module _ (test : ℕ × ℕ → Bool) where
  ascends_behind : (x : ℕ) (es : List (ℕ × ℕ)) → below_all nat_cmp x es ≡ true → is_sorted nat_cmp es ≡ true → ascends_from x (map (λ e. e.0) (filter test es)) ≡ true
  ascends_behind x [] below sorted = refl
  ascends_behind x (e ∷ es) below sorted =
      let one = and_parts (is_lt (nat_cmp x e.0)) (below_all nat_cmp x es) below in
      let two = and_parts (below_all nat_cmp e.0 es) (is_sorted nat_cmp es) sorted in
      by_test (test e) (lower x e.0 one.0) (ascends_behind e.0 es two.0 two.1) (ascends_behind x es one.1 two.1)
    where
      by_test : (b : Bool) → nat_lt x e.0 ≡ true → ascends_from e.0 (map (λ f. f.0) (filter test es)) ≡ true → ascends_from x (map (λ f. f.0) (filter test es)) ≡ true → ascends_from x (map (λ f. f.0) (cond b (e ∷ filter test es) (filter test es))) ≡ true
      by_test true low here rest = both_true (nat_lt x e.0) (ascends_from e.0 (map (λ f. f.0) (filter test es))) low here
      by_test false low here rest = rest

  filtered_ascend : (es : List (ℕ × ℕ)) → is_sorted nat_cmp es ≡ true → ascends (map (λ e. e.0) (filter test es)) ≡ true
  filtered_ascend [] sorted = refl
  filtered_ascend (e ∷ es) sorted =
      let two = and_parts (below_all nat_cmp e.0 es) (is_sorted nat_cmp es) sorted in by_test (test e) (ascends_behind e.0 es two.0 two.1) (filtered_ascend es two.1)
    where
      by_test : (b : Bool) → ascends_from e.0 (map (λ f. f.0) (filter test es)) ≡ true → ascends (map (λ f. f.0) (filter test es)) ≡ true → ascends (map (λ f. f.0) (cond b (e ∷ filter test es) (filter test es))) ≡ true
      by_test true here rest = here
      by_test false here rest = rest

-- ---- each of them is without a reference then

-- all of its references are in what goes, so none is in what is left
zero_left : (v w : Option ℕ) (count gone_refs left_refs : ℕ) → v ≡ Some count → is_some w ≡ is_some v → count ≡ gone_refs + left_refs → count_or_zero w ≡ left_refs → (not (count == gone_refs) || is_at_zero w) ≡ true
zero_left v None count g l is same sum now = absurd (false≢true (same ∙ ap is_some is))
zero_left v (Some n) count g l is same sum now = grind (arith, nat_tests)

module _ (d : Durable) (moment : ℕ) (k : IsKept d) where
  at_zero : (next : Durable) → IsRemoved d (removed_paths moment (fin.entries d.names.tree)) next
      → list_all (λ h. is_at_zero (fin.get next.names.refs h)) (forgotten_chunks moment (fin.entries d.names.tree) (fin.entries d.names.refs)) ≡ true
  at_zero next r =
      let rows = fin.entries d.names.tree in
      let refs = fin.entries d.names.refs in
      let gone_refs : ℕ → ℕ = λ h. occurrences h (all_chunks (gone moment rows)) in
      let zero : ℕ → Bool = λ h. is_at_zero (fin.get next.names.refs h) in
      let same_rows : rows_without (removed_paths moment rows) rows ≡ left moment rows =
      ap (λ (f : Path → Bool). filter (λ r. not (f r.0)) rows) (λ i q. gone_is moment (at rows) (removed_paths moment rows) (removed_each moment rows) q i) in
      list_all-map zero (λ (e : ℕ × ℕ). e.0) (filter (λ (e : ℕ × ℕ). e.1 == gone_refs e.0) refs)
      ∙ filtered_all (λ (e : ℕ × ℕ). e.1 == gone_refs e.0) (λ e. zero e.0) refs
      (each_found nat_cmp nat_cmp_total fin.nat_cmp-IsAntisymmetric (λ (e : ℕ × ℕ). not (e.1 == gone_refs e.0) || zero e.0) refs (fin.entries_sorted d.names.refs)
      (λ h count found.
      let has = fin.get-entries d.names.refs h ∙ found in
      zero_left (fin.get d.names.refs h) (fin.get next.names.refs h) count (gone_refs h) (occurrences h (all_chunks (left moment rows))) has (r.listed h)
      (sym (ap count_or_zero has) ∙ k.names.counted h ∙ split_chunks h (is_gone moment (at rows)) rows)
      (r.kept.names.counted h ∙ ap (λ (rs : Rows ℕ). occurrences h (all_chunks rs)) (r.rows ∙ same_rows))))

  pub record Scanned (entries : List PlainEntry) : Type 0 where
    pub next : Durable
    pub is : replayed d entries ≡ Some next
    pub kept : IsKept next

  forgets_one : (next : Durable) (chunks : List ℕ) → IsKept next → is_rolling next.phase ≡ false → ascends chunks ≡ true → list_all (λ h. is_at_zero (fin.get next.names.refs h)) chunks ≡ true
      → applied next (Edited own_request (Forget chunks)) ≡ Some (with_edit next own_request (Forget chunks) (names_of (fin.from_entries (fin.entries next.names.tree)) (without_each next.names.refs chunks)))
  unfolding applied edited_names
  forgets_one next chunks kept rolling rise zero =
      let names = names_of (fin.from_entries (fin.entries next.names.tree)) (without_each next.names.refs chunks) in
      let made : edited_names (Forget chunks) next.names ≡ Ok names =
      ap (λ b. names_from (with_counts (Ok (fin.entries next.names.tree)) (cond b (Ok (without_each next.names.refs chunks)) (Err refusals.BadLine))))
      (both_true (ascends chunks) (list_all (λ h. is_at_zero (fin.get next.names.refs h)) chunks) rise zero) in
      ap (after_edit next own_request (Forget chunks)) made ∙ ap (λ b. if_fits b (with_edit next own_request (Forget chunks) names)) (may_so next (Forget chunks) rolling refl refl refl)

  forgets_all : (next : Durable) (chunks : List ℕ) → IsKept next → is_rolling next.phase ≡ false → ascends chunks ≡ true → list_all (λ h. is_at_zero (fin.get next.names.refs h)) chunks ≡ true
      → (after : Durable) × (replayed next (own_edits (forget_if chunks)) ≡ Some after) × IsKept after
  forgets_all next [] kept rolling rise zero = (next, refl, kept)
  forgets_all next (chunk ∷ chunks) kept rolling rise zero =
      let all = chunk ∷ chunks in
      let after = with_edit next own_request (Forget all) (names_of (fin.from_entries (fin.entries next.names.tree)) (without_each next.names.refs all)) in
      let fit = forgets_one next all kept rolling rise zero in
      (after, ap (λ o. option_and_then (λ (n : Durable). Some n) o) fit, edit_kept_told next after own_request (Forget all) tt (λ well a h. absurd (false≢true (ap is_some h))) kept fit)

  pub scan_fits : is_rolling d.phase ≡ false → Scanned (own_edits (scan_edits (removed_paths moment (fin.entries d.names.tree)) (forgotten_chunks moment (fin.entries d.names.tree) (fin.entries d.names.refs))))
  scan_fits rolling =
      let rows = fin.entries d.names.tree in
      let gone_refs : ℕ → ℕ = λ h. occurrences h (all_chunks (gone moment rows)) in
      let chunks = forgotten_chunks moment rows (fin.entries d.names.refs) in
      let first = all_removed d (removed_paths moment rows) moment k rolling (removed_apart moment rows) (removed_goes moment rows) in
      let rest = forgets_all first.next chunks first.removed.kept (ap is_rolling first.removed.phase ∙ rolling)
      (filtered_ascend (λ (e : ℕ × ℕ). e.1 == gone_refs e.0) (fin.entries d.names.refs) (from_t _ (fin.entries_sorted d.names.refs))) (at_zero first.next first.removed) in
      record { next = rest.0; is = first.is (forget_if chunks) ∙ rest.1; kept = rest.2 }

-- ---- the turn

pub folded : (entries : List PlainEntry) (s : State) (d : Durable) → replayed s.durable entries ≡ Some d → (fold with_record s entries).durable ≡ d
folded [] s d e = ap (λ o. unwrap_or o s.durable) e
folded (x ∷ entries) s d e = by_first (applied s.durable x) refl e (λ h. folded entries (with_record s x) d h)
  where
    by_first : (o : Option Durable) → applied s.durable x ≡ o → option_and_then (λ n. replayed n entries) o ≡ Some d
        → (replayed (with_record s x).durable entries ≡ Some d → (fold with_record (with_record s x) entries).durable ≡ d) → (fold with_record (with_record s x) entries).durable ≡ d
    by_first None is h rest = absurd (false≢true (ap is_some h))
    by_first (Some n) is h rest = rest (ap (λ o. replayed (unwrap_or o s.durable) entries) is ∙ h)

pub scans_goes : (T : Type 0) (s : State) (req : ReqId) (moment : Moment) → IsKept s.durable → is_rolling s.durable.phase ≡ false → Goes T s (scans s req moment)
scans_goes T s req moment k rolling =
    let rows = fin.entries s.durable.names.tree in
    let removed = removed_paths moment.0 rows in
    let forgotten = forgotten_chunks moment.0 rows (fin.entries s.durable.names.refs) in
    let fit = scan_fits s.durable moment.0 k rolling in
    let same = folded (own_edits (scan_edits removed forgotten)) s fit.next fit.is in
    let plan = scan_plan removed forgotten in
    let ended : State → Turn = λ next. all_ended_by next (waiting_for s forgotten) refusals.NoReplica in
    let answer : State → Turn = λ next. answered_with next req (answers.Scanned (length removed) (length forgotten)) in
    room_goes T s req (and_then (and_then (turned s plan) ended) answer)
    (then_goes T s (and_then (turned s plan) ended) answer
    (then_goes T s (turned s plan) ended (record { fits = fit.is ∙ ap Some (sym same); kept = λ t kept. subst IsKept (sym same) fit.kept })
    (all_ended_goes T (waiting_for s forgotten) refusals.NoReplica (turned s plan).after))
    (answered_goes T (and_then (turned s plan) ended).after req (answers.Scanned (length removed) (length forgotten))))
