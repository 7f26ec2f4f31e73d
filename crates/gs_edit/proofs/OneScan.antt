-- A scan of a deleted file with one chunk, beside a chunk that stands in no file: what its law asks for holds of these names.
use Rattle.std.proofs.Common.{◌≡◌, ◌&&◌, ◌||◌, ◌+◌, ℕ, Bool, true, false, cond, List, [], ◌∷◌, refl, sym, ap, ◌∙◌, subst, arith}
use Rattle.std.specs.Prelude.{Some, None, is_some, codes}
use Rattle.std.specs.List.Sorted.{IsStrictlySortedBy}
use Rattle.std.specs.List.{list_any}
use Rattle.std.specs.Cmp.{nat_cmp_total}
use Rattle.std.specs.FinMap as fin
use Rattle.std.specs.FinMap.Entries.{same_entries}
use Rattle.gs_path.specs.Path.{Name, Path, path_cmp, path_total}
use Rattle.gs_refs.specs.Counts.{Counts, count_or_zero, occurrences, ascends}
use Rattle.gs_tree.specs.Entry.{Dir, File}
use Rattle.gs_tree.specs.Find.{Rows, at}
use Rattle.gs_tree.specs.Edits.{same_path}
use Rattle.gs_tree.specs.Chunks.{all_chunks}
use Rattle.gs_edit.specs.View.{NamesView}
use Rattle.gs_edit.specs.Names.{IsCounted}
use Rattle.gs_edit.specs.Scan.{goes, is_removed, has_just, removal_cmp, IsScan}
use Rattle.gs_edit.specs.Sweep.{named_each, edits_of, Sweeps}
use Rattle.gs_edit.specs.declared.scan.Scan.{Scan}
use Rattle.gs_edit.proofs.Sweeping.{swept}
use Rattle.gs_edit.proofs.Tables.{same_path-is, paths_antisymmetric}
use Rattle.gs_edit.proofs.References.{same}

abbrev old_f : Name
old_f = codes ".deleted.00000000000000000000.00000000000000000001.f"

abbrev rows : Rows ℕ
rows = ([], Dir) ∷ (old_f ∷ [], File (7 ∷ [])) ∷ []

abbrev counts : List (ℕ × ℕ)
counts = (7, 1) ∷ (9, 0) ∷ []

abbrev refs : Counts
refs = fin.from_entries counts

abbrev names : NamesView
names = record { tree = fin.from_entries rows; refs = refs }

-- each chunk's count
count_at : (q : ℕ) → fin.get refs q ≡ cond (same q 7) (Some 1) (cond (same q 9) (Some 0) None)
count_at q = fin.get-from_entries nat_cmp_total counts q

rows_are : fin.entries (fin.from_entries {R = path_cmp} rows) ≡ rows
rows_are =
    same_entries path_cmp path_total paths_antisymmetric (fin.entries (fin.from_entries rows)) rows (fin.entries_sorted (fin.from_entries rows)) tt
    (λ q. sym (fin.get-entries (fin.from_entries rows) q) ∙ fin.get-from_entries path_total rows q)

removed : (p : Path) → (same_path p (old_f ∷ []) || false) ≡ is_removed 259201 (at rows) p
removed p =
    elim (same_path p (old_f ∷ [])) as (λ b. same_path p (old_f ∷ []) ≡ b → (b || false) ≡ is_removed 259201 (at rows) p) [
      | true ↦ λ b. ap (is_removed 259201 (at rows)) (sym (same_path-is p (old_f ∷ []) b))
      | false ↦ λ b. elim (same_path p []) as (λ d. same_path p [] ≡ d → false ≡ is_removed 259201 (at rows) p) [
        | true ↦ λ d. ap (is_removed 259201 (at rows)) (sym (same_path-is p [] d))
        | false ↦ λ d. sym (ap (λ v. is_some v && goes 259201 p) (ap (λ t. cond t (Some Dir) (cond (same_path p (old_f ∷ [])) (Some (File (7 ∷ []))) None)) d ∙ ap (λ t. cond t (Some (File (7 ∷ []))) None) b))
      ] refl
    ] refl

-- how often a chunk stands in the file, and its count
stands : (q : ℕ) (a b : Bool) → same q 7 ≡ a → same q 9 ≡ b → count_or_zero (cond a (Some 1) (cond b (Some 0) None)) ≡ cond a 1 0 + 0
stands q true b e f = refl
stands q false true e f = refl
stands q false false e f = refl

freed : (q : ℕ) (a b : Bool) → same q 7 ≡ a → same q 9 ≡ b → (a || (b || false)) ≡ has_just (cond a 1 0 + 0) (cond a (Some 1) (cond b (Some 0) None))
freed q true b e f = refl
freed q false true e f = refl
freed q false false e f = refl

pub counted : IsCounted names
counted q = ap count_or_zero (count_at q) ∙ stands q (same q 7) (same q 9) refl refl ∙ ap (λ (rs : Rows ℕ). occurrences q (all_chunks rs)) (sym rows_are)

pub one_scan : (scan : Scan) → scan.removed.items ≡ (old_f ∷ []) ∷ [] → scan.forgotten.items ≡ 7 ∷ 9 ∷ [] → IsScan 259201 (fin.entries names.tree) refs scan
unfolding IsStrictlySortedBy
one_scan scan paths chunks = subst (λ (rs : Rows ℕ). IsScan 259201 rs refs scan) (sym rows_are) (record {
  removed = record {
    each = λ p. ap (list_any (same_path p)) paths ∙ removed p;
    rise = subst (λ (ps : List Path). IsStrictlySortedBy removal_cmp ps) (sym paths) (tt, tt);
  };
  counted = λ q. (let k = ap count_or_zero (count_at q) ∙ stands q (same q 7) (same q 9) refl refl in omega arith);
  forgotten = record {
    each = λ q. ap (list_any (same q)) chunks ∙ freed q (same q 7) (same q 9) refl refl ∙ ap (has_just (occurrences q (7 ∷ []))) (sym (count_at q));
    rise = ap ascends chunks;
  };
})

pub one_sweep : (scan : Scan) → scan.removed.items ≡ (old_f ∷ []) ∷ [] → scan.forgotten.items ≡ 7 ∷ 9 ∷ [] → Sweeps 259201 (fin.entries names.tree) (named_each (edits_of scan) (fin.entries names.tree) refs)
one_sweep scan paths chunks = swept 259201 names scan counted (one_scan scan paths chunks)
