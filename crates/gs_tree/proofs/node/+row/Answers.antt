use Rattle.std.proofs.Common.{ap, sym, ◌∙◌, refl, cond}
use Rattle.std.specs.Prelude.{Some}
use Rattle.std.specs.BTreeMap.{is_at}
use Rattle.std.specs.Map.{lookup}
use Rattle.gs_path.specs.Path.{Name, Path, name_cmp, same_name}
use Rattle.gs_tree.specs.Find.{at}
use Rattle.gs_tree.specs.inner.Sort.{entry_of_leaf}
use Rattle.gs_tree.specs.Inverses.{row_of}
use Rattle.gs_tree.specs.Rows.{rows_of}
use Rattle.gs_tree.specs.declared.node.Kind.TheVariants as kinds
use Rattle.gs_tree.proofs.Rows.{path_parts, rest_of, empty_path}
use Rattle.gs_tree.proofs.Splice.{at-updated, updated}
use Rattle.gs_tree.proofs.Sowing.{row_step, row_empty, empty_below}
use Rattle.gs_tree.proofs.Reaching.{node_row, rooted_one, row_stands}
use Rattle.gs_tree.proofs.node.+row.Goals as goal

pub returns-in_default : goal.returns-in_default
returns-in_default t c q = ap (λ r. at r q) c.new.ensures ∙ row_empty q (entry_of_leaf c.args.leaf) ∙ ap (λ (p : Path). row_of p (entry_of_leaf c.args.leaf) q) (sym (empty_path c.args.names.now c.in_default.len_below))

pub returns : goal.returns
returns t c q =
    let lookups = λ (n : Name). c.in_ok-insert.ensures.updates.0 n ∙ ap (λ x. cond (same_name x n) (Some c.in_ok-below.below) (lookup (is_at (name_cmp n)) c.new-children.result.entries)) c.in_ok-name.ensures in
    let u = updated {m = rows_of (kinds.Dir c.new-children.result)} {k = kinds.Dir c.new-children.result} c.insert.new.self (Some c.in_ok-below.below) refl c.new-children.ensures.ordered refl c.in_ok-insert.ensures.ordered lookups in
    at-updated u q
    ∙ row_step c.first-item.result (rest_of c.args.names.now) (entry_of_leaf c.args.leaf) c.in_ok-below.below (at (rows_of (kinds.Dir c.new-children.result))) refl (λ n r. empty_below n r c.new-children.result.entries c.new-children.ensures.empty) c.in_ok-below.ensures q
    ∙ ap (λ (p : Path). row_of p (entry_of_leaf c.args.leaf) q) (sym (path_parts c.args.names.now c.first-item.result c.in-len1-up.len_at_least c.first-item.is))

pub invariant_of-result : goal.invariant_of-result
invariant_of-result t c =
    let lookups = λ (n : Name). c.in_ok-insert.ensures.updates.0 n ∙ ap (λ x. cond (same_name x n) (Some c.in_ok-below.below) (lookup (is_at (name_cmp n)) c.new-children.result.entries)) c.in_ok-name.ensures in
    let u = updated {m = rows_of (kinds.Dir c.new-children.result)} {k = kinds.Dir c.new-children.result} c.insert.new.self (Some c.in_ok-below.below) refl c.new-children.ensures.ordered refl c.in_ok-insert.ensures.ordered lookups in
    node_row c.insert.new.self c.args.names.now (entry_of_leaf c.args.leaf) c.reach_of.result c.in_ok-insert.ensures.ordered (rooted_one c.new-children.result c.insert.new.self c.in_ok-name.name c.in_ok-below.below c.new-children.ensures.empty c.in_ok-insert.ensures.updates.0 (row_stands c.in_ok-below.below (rest_of c.args.names.now) (entry_of_leaf c.args.leaf) c.in_ok-below.ensures)) (λ q.
    at-updated u q
    ∙ row_step c.first-item.result (rest_of c.args.names.now) (entry_of_leaf c.args.leaf) c.in_ok-below.below (at (rows_of (kinds.Dir c.new-children.result))) refl (λ n r. empty_below n r c.new-children.result.entries c.new-children.ensures.empty) c.in_ok-below.ensures q
    ∙ ap (λ (p : Path). row_of p (entry_of_leaf c.args.leaf) q) (sym (path_parts c.args.names.now c.first-item.result c.in-len1-up.len_at_least c.first-item.is))) c.reach_of.ensures
