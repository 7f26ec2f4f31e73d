use Rattle.std.proofs.Common.{◌≡◌, ◌<◌, ◌-◌, ◌∷◌, true, length, take, drop, refl, sym, ap, ◌∙◌, inl, arith}
use Rattle.std.proofs.lemmas.List.{drop_more, take_all, length-drop}
use Rattle.std.proofs.lemmas.Result.{err_from_is_err_and}
use Rattle.gs_tree.specs.Build.{row_of_entry, rows_of_entries, goes_deeper}
use Rattle.gs_tree.proofs.Levels.{part_goes_deeper}
use Rattle.gs_tree.proofs.inverse.TreeInverse.of_removed.Goals as goal

pub returns-in_err-copy : goal.returns-in_err-copy
returns-in_err-copy c =
    let entries = c.args.entries.now in
    let first = c.first-item.result in
    let some = c.in-len1-up.len_at_least in
    let more : 0 < length entries = omega arith in
    let rest = take (length entries - 1) (drop 1 entries) in
    let whole : entries ≡ first ∷ rest = drop_more entries 0 first more ∙ ap (λ x. x ∷ drop 1 entries) (sym c.first-item.is) ∙ ap (λ l. first ∷ l) (sym (take_all (length entries - 1) (drop 1 entries) (omega (arith, length-drop 1 entries)))) in
    let deeper : goes_deeper (rows_of_entries entries) ≡ true = ap (λ l. goes_deeper (rows_of_entries l)) whole ∙ part_goes_deeper (row_of_entry first) (rows_of_entries rest) (c.in_ok-node.ensures.0) in
    let p = err_from_is_err_and c.from_residual-in_err-copy.result c.from_residual-in_err-copy.ensures.1 in
    rw (p.1, p.2) (inl (refl, deeper))
