use Rattle.std.proofs.Common.{◌≡◌, ◌<◌, ◌+◌, ◌∷◌, [], ℕ, true, drop, length, sym, ap, ◌∙◌, subst, inl, inr, Err, arith, rules}
use Rattle.std.proofs.lemmas.List.{drop_more, drop_all}
use Rattle.std.specs.Prelude.{◌==◌}
use Rattle.gs_path.specs.Path.{Path}
use Rattle.gs_tree.specs.Entry.{Entry}
use Rattle.gs_tree.specs.declared.entry.TreeEntry.{TreeEntry}
use Rattle.gs_tree.specs.Find.{Rows, at}
use Rattle.gs_tree.specs.Plain.{Plain, Same}
use Rattle.gs_tree.specs.Edits.{with_entry}
use Rattle.gs_tree.specs.Build.{row_of_entry, rows_of_entries, path_of_entry, kind_of_entry}
use Rattle.gs_tree.specs.inner.Building.{IsFreeBelow}
use Rattle.gs_tree.proofs.Levels.{Filling, filling_skip, filling_more, filling_refused, filling_all}
use Rattle.gs_tree.proofs.building.add_level.Goals.{then-is_next+in_ok-add_entry, else-is_next}
use Rattle.gs_tree.proofs.building.add_level.Goals as goal

added : (t : Path × Entry ℕ) (e : TreeEntry) (all left : Rows ℕ) (k : ℕ) (m new : Plain ℕ) → Filling t all (row_of_entry e ∷ left) k m → (length (path_of_entry e) == k + 1) ≡ true → (top : Path) → top ≡ t.0 → (q : Path) × (IsFreeBelow m top (path_of_entry e) q × Same new (with_entry q (kind_of_entry e) m)) → Filling t all left k new
added t e all left k m new before test top is h =
    filling_more t (row_of_entry e) all left k m new h.0 before test (subst (λ (p : Path). IsFreeBelow m p (path_of_entry e) h.0) is h.1.0) h.1.1

pub returns-in_err-add_entry : goal.returns-in_err-add_entry
returns-in_err-add_entry c =
    let entries = c.args.entries.now in
    let i = c.loop-entry.entry-index in
    let item = c.entry-item.result in
    let t = row_of_entry c.args.first.now in
    let more : i < length entries = omega arith in
    let left : drop i entries ≡ item ∷ drop (i + 1) entries = drop_more entries i item more ∙ ap (λ x. x ∷ drop (i + 1) entries) (sym c.entry-item.is) in
    let before = subst (λ l. Filling t (rows_of_entries entries) (rows_of_entries l) c.args.most (at c.loop-entry.root)) left c.loop-entry.invariant in
    let test : (length (path_of_entry item) == c.args.most + 1) ≡ true = ap (λ (p : Path). length p == c.args.most + 1) (sym c.path.ensures) ∙ sym c.is_next.ensures ∙ c.if-is_next.true in
    let e : c.from_residual.result ≡ Err c.in_err-add_entry.field-0.0 = search rules in
    rw e (elim c.in_err-add_entry.ensures [
      | inl memory ↦ inl memory
      | inr bad ↦ inr (
        bad.0,
        filling_refused t (row_of_entry item) (rows_of_entries entries) (rows_of_entries (drop (i + 1) entries)) c.args.most (at c.loop-entry.root) before test (λ q free. bad.1 q (subst (λ (p : Path). IsFreeBelow (at c.loop-entry.root) p (path_of_entry item) q) (sym c.path-then-is_next.ensures) free)),
      )
    ])

pub loop-entry-preserved : goal.loop-entry-preserved
loop-entry-preserved c =
    let entries = c.args.entries.now in
    let i = c.loop-entry.entry-index in
    let item = c.entry-item.result in
    let t = row_of_entry c.args.first.now in
    let more : i < length entries = omega arith in
    let left : drop i entries ≡ item ∷ drop (i + 1) entries = drop_more entries i item more ∙ ap (λ x. x ∷ drop (i + 1) entries) (sym c.entry-item.is) in
    let before = subst (λ l. Filling t (rows_of_entries entries) (rows_of_entries l) c.args.most (at c.loop-entry.root)) left c.loop-entry.invariant in
    let told : (length (path_of_entry item) == c.args.most + 1) ≡ c.is_next.result = ap (λ (p : Path). length p == c.args.most + 1) (sym c.path.ensures) ∙ sym c.is_next.ensures in
    elim c.if-is_next.branch [
      | then-is_next+in_ok-add_entry w ↦ subst (λ n. Filling t (rows_of_entries entries) (rows_of_entries (drop (i + 1) entries)) c.args.most (at n)) (sym w.root-is)
          (added t item (rows_of_entries entries) (rows_of_entries (drop (i + 1) entries)) c.args.most (at c.loop-entry.root) (at w.add_entry.new.root) before (told ∙ w.if-is_next.true) w.path-then-is_next.result.now w.path-then-is_next.ensures w.in_ok-add_entry.ensures)
      | else-is_next w ↦ subst (λ n. Filling t (rows_of_entries entries) (rows_of_entries (drop (i + 1) entries)) c.args.most (at n)) (sym w.root-is)
          (filling_skip t (row_of_entry item) (rows_of_entries entries) (rows_of_entries (drop (i + 1) entries)) c.args.most (at c.loop-entry.root) before (told ∙ w.if-is_next.false))
    ]

pub returns : goal.returns
returns c =
    let entries = c.args.entries.now in
    let t = row_of_entry c.args.first.now in
    let none : drop c.loop-entry.entry-index entries ≡ [] = drop_all c.loop-entry.entry-index entries c.loop-entry-test.false in
    filling_all t (rows_of_entries entries) c.args.most (at c.loop-entry.root) (subst (λ l. Filling t (rows_of_entries entries) (rows_of_entries l) c.args.most (at c.loop-entry.root)) none c.loop-entry.invariant)
