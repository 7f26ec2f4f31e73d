use Rattle.std.proofs.Common.{◌≡◌, ◌++◌, ◌∷◌, sym, ap, ◌∙◌, subst}
use Rattle.std.specs.List.Sorted.{IsPermutation}
use Rattle.std.proofs.lemmas.List.Sorted.{IsPermutation-map}
use Rattle.gs_tree.specs.Build.{row_of_entry, rows_of_entries, prefixed, below_root}
use Rattle.gs_tree.specs.Lists.{IsPartList}
use Rattle.gs_tree.proofs.node.Node.entries.Goals as goal

pub returns-clause-rows : goal.returns-clause-rows
returns-clause-rows c =
    let path = c.args.path.now in
    let node = c.args.self.now in
    let sorted = c.in_ok-listed.listed.items in
    let own = c.in_ok-own.own in
    let items : c.insert.new.self.items ≡ own ∷ sorted = c.in_ok-insert.ensures.items in
    let below : rows_of_entries c.list_below.new.listed.items ≡ prefixed path (below_root node) = c.in_ok-list_below.ensures.rows ∙ ap (λ l. rows_of_entries l ++ prefixed path (below_root node)) c.new-below.ensures.items in
    subst (λ l. IsPartList path node (rows_of_entries l)) (sym items)
    (c.in_ok-own.ensures.row, subst (λ l. IsPermutation l (rows_of_entries sorted)) below (IsPermutation-map row_of_entry c.list_below.new.listed.items sorted c.in_ok-listed.ensures.same))
