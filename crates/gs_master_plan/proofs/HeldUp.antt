-- That a snapshot waits while a file holds it up.
use Rattle.std.proofs.Common.{◌≡◌, ◌∙◌, ℕ, Bool, true, false, [], ◌∷◌, ◌&&◌, not, ap, refl, sym}
use Rattle.std.specs.Prelude.{cond, filter, Some}
use Rattle.std.specs.List.{list_all}
use Rattle.std.specs.FinMap as fin
use Rattle.std.specs.Ordering.{eq_by_cmp}
use Rattle.std.proofs.lemmas.Bool.{false≢true, and_parts}
use Rattle.std.proofs.lemmas.List.Folds.{list_all-append}
use Rattle.gs_path.specs.Path.{Path, path_cmp}
use Rattle.gs_tree.specs.Chunks.{all_chunks}
use Rattle.gs_tree.specs.Edits.{chunks_in}
use Rattle.gs_tree.specs.Find.{Rows, at}
use Rattle.gs_edit.proofs.Tables.{same_path-is}
use Rattle.gs_master_spec.specs.Settling.{is_quiet_at, source_chunks}
use Rattle.gs_master_spec.specs.State.{State}
use Rattle.gs_master_plan.specs.inner.Holding.{holds_up, is_visible_below}

-- what holds of the chunks of all rows that pass a test of their paths holds of those of one
one_passes : (f : ℕ → Bool) (test : Path → Bool) (rows : Rows ℕ) (p : Path) → test p ≡ true → list_all f (all_chunks (filter (λ r. test r.0) rows)) ≡ true → list_all f (chunks_in (at rows p)) ≡ true
one_passes f test [] p passes all = refl
one_passes f test (r ∷ rows) p passes all = by_test (test r.0) refl (one_passes f test rows p passes) all
  where
    kept : Rows ℕ
    kept = filter (λ r. test r.0) rows

    by_key : (b : Bool) → (b ≡ true → list_all f (chunks_in (Some r.1)) ≡ true) → list_all f (chunks_in (at rows p)) ≡ true → list_all f (chunks_in (cond b (Some r.1) (at rows p))) ≡ true
    by_key true here rest = here refl
    by_key false here rest = rest

    by_test : (b : Bool) → test r.0 ≡ b → (list_all f (all_chunks kept) ≡ true → list_all f (chunks_in (at rows p)) ≡ true) → list_all f (all_chunks (cond b (r ∷ kept) kept)) ≡ true
        → list_all f (chunks_in (cond (eq_by_cmp path_cmp p r.0) (Some r.1) (at rows p))) ≡ true
    by_test true is on more =
        let parts = and_parts (list_all f (chunks_in (Some r.1))) (list_all f (all_chunks kept)) (sym (list_all-append f (chunks_in (Some r.1)) (all_chunks kept)) ∙ more) in
        by_key (eq_by_cmp path_cmp p r.0) (λ same. parts.0) (on parts.1)
    by_test false is on more = by_key (eq_by_cmp path_cmp p r.0) (λ same. absurd (false≢true (sym is ∙ ap test (sym (same_path-is p r.0 same)) ∙ passes))) (on more)

not_all : (copied quiet all : Bool) → (copied ≡ true → all ≡ true → quiet ≡ true) → (copied && not quiet) ≡ true → all ≡ false
not_all copied quiet false so is = refl
not_all false quiet true so is = absurd (false≢true is)
not_all true true true so is = absurd (false≢true is)
not_all true false true so is = absurd (false≢true (so refl refl))

pub held_up_waits : (s : State) (from file : Path) → holds_up s from file ≡ true → list_all (is_quiet_at s) (source_chunks s from) ≡ false
held_up_waits s from file is =
    not_all (is_visible_below from file) (list_all (is_quiet_at s) (chunks_in (fin.get s.durable.names.tree file))) (list_all (is_quiet_at s) (source_chunks s from))
    (λ copied all. ap (λ e. list_all (is_quiet_at s) (chunks_in e)) (fin.get-entries s.durable.names.tree file) ∙ one_passes (is_quiet_at s) (is_visible_below from) (fin.entries s.durable.names.tree) file copied all) is
