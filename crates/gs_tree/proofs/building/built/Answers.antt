use Rattle.std.proofs.Common.{◌≡◌, ◌<◌, ◌∷◌, ℕ, Bool, true, length, refl, sym, ap, ◌∙◌, subst, inl, inr, Err, arith, rules}
use Rattle.std.proofs.lemmas.Bool.{leb-true, le-leb}
use Rattle.std.proofs.lemmas.Result.{err_from_is_err_and}
use Rattle.std.specs.List.{list_all}
use Rattle.gs_path.specs.Path.{Path}
use Rattle.gs_tree.specs.Entry.{Entry}
use Rattle.gs_tree.specs.Find.{Rows, at}
use Rattle.gs_tree.specs.Build.{row_of_entry, rows_of_entries, path_of_entry, is_short, is_inside, goes_deeper}
use Rattle.gs_tree.specs.inner.Building.{IsFilled}
use Rattle.gs_tree.proofs.Levels.{both_true, never, filled_none, filled_all, not_inside, not_short}
use Rattle.gs_tree.proofs.building.built.Goals as goal

pub returns-then-least-ge-TOO_MANY_ELEMENTS : goal.returns-then-least-ge-TOO_MANY_ELEMENTS
returns-then-least-ge-TOO_MANY_ELEMENTS c =
    let n : c.elements-least.result.now ≡ path_of_entry c.args.first.now = c.elements-least.ensures ∙ c.path.ensures in
    let len = ap length n in
    inr (refl, not_short (row_of_entry c.args.first.now) (rows_of_entries c.args.entries.now) (never (is_short (path_of_entry c.args.first.now)) (λ s. let l = leb-true (length (path_of_entry c.args.first.now)) 64 s in omega arith)))

pub returns-then-not-are_inside : goal.returns-then-not-are_inside
returns-then-not-are_inside c =
    let len = ap length (c.elements-least.ensures ∙ c.path.ensures) in
    inr (refl, not_inside (row_of_entry c.args.first.now) (rows_of_entries c.args.entries.now) (ap (λ n. list_all (λ r. is_inside n r.0) (rows_of_entries c.args.entries.now)) (sym len) ∙ sym c.are_inside.ensures ∙ c.if-not-are_inside.true))

pub loop-most-init : goal.loop-most-init
loop-most-init c =
    let t = row_of_entry c.args.first.now in
    let all = rows_of_entries c.args.entries.now in
    let len = ap length (c.elements-least.ensures ∙ c.path.ensures) in
    let inside : list_all (λ r. is_inside (length t.0) r.0) all ≡ true = ap (λ n. list_all (λ r. is_inside n r.0) all) (sym len) ∙ sym c.are_inside.ensures ∙ c.if-not-are_inside.false in
    subst (λ n. IsFilled t all n (at c.in_ok-root.root)) (sym len) (filled_none t all (at c.in_ok-root.root) inside (λ q. ap (λ n. at n q) c.in_ok-root.ensures))

pub returns : goal.returns
returns c =
    let t = row_of_entry c.args.first.now in
    let all = rows_of_entries c.args.entries.now in
    let len = ap length (c.elements-least.ensures ∙ c.path.ensures) in
    let inside : list_all (λ r. is_inside (length t.0) r.0) all ≡ true = ap (λ n. list_all (λ r. is_inside n r.0) all) (sym len) ∙ sym c.are_inside.ensures ∙ c.if-not-are_inside.false in
    let last = c.loop-most.auto.most-end c.longest-most-end.ensures.least in
    let test = c.loop-most-test.false in
    let end : c.loop-most.most ≡ c.longest-most-end.result = omega arith in
    let few = c.if-least-ge-TOO_MANY_ELEMENTS.false in
    let short : is_short t.0 ≡ true = le-leb (length t.0) 64 (omega arith) in
    filled_all t all c.longest-most-end.result (at c.loop-most.root) short inside c.longest-most-end.ensures.all (subst (λ n. IsFilled t all n (at c.loop-most.root)) end c.loop-most.invariant)

-- where the lengths of the paths were judged, what was refused since may be for memory
judged : (t : Path × Entry ℕ) (all : Rows ℕ) (least : ℕ) (inside : Bool) → least ≡ length t.0 → least < 65 → inside ≡ list_all (λ r. is_inside least r.0) all → inside ≡ true → goes_deeper (t ∷ all) ≡ true
judged t all least inside is few was test =
    both_true (is_short t.0) (list_all (λ r. is_inside (length t.0) r.0) all) (le-leb (length t.0) 64 (omega arith)) (ap (λ n. list_all (λ r. is_inside n r.0) all) (sym is) ∙ sym was ∙ test)

pub returns-in_err-root : goal.returns-in_err-root
returns-in_err-root c =
    let few = c.if-least-ge-TOO_MANY_ELEMENTS.false in
    let deeper = judged (row_of_entry c.args.first.now) (rows_of_entries c.args.entries.now) (length c.elements-least.result.now) c.are_inside.result (ap length (c.elements-least.ensures ∙ c.path.ensures)) (omega arith) c.are_inside.ensures c.if-not-are_inside.false in
    let p = err_from_is_err_and c.from_residual.result c.from_residual.ensures.1 in
    rw (p.1, p.2) (inl (refl, deeper))

pub returns-in_err-add_level : goal.returns-in_err-add_level
returns-in_err-add_level c =
    let few = c.if-least-ge-TOO_MANY_ELEMENTS.false in
    let deeper = judged (row_of_entry c.args.first.now) (rows_of_entries c.args.entries.now) (length c.elements-least.result.now) c.are_inside.result (ap length (c.elements-least.ensures ∙ c.path.ensures)) (omega arith) c.are_inside.ensures c.if-not-are_inside.false in
    let e : c.from_residual-in_err-add_level.result ≡ Err c.in_err-add_level.field-0.0 = search rules in
    rw e (elim c.in_err-add_level.ensures [
      | inl memory ↦ inl (memory, deeper)
      | inr bad ↦ inr bad
    ])
