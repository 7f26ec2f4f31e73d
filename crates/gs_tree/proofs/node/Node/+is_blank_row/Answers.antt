use Rattle.std.proofs.Common.{◌≡◌, ◌∷◌, false, refl, sym, ap, ◌∙◌, subst, arith, rules, length}
use Rattle.std.specs.Bool.{MatchBool}
use Rattle.std.proofs.lemmas.Grind.{common_steps}
use Rattle.gs_tree.specs.Find.{at}
use Rattle.gs_tree.specs.Inverses.{IsBlankRow}
use Rattle.gs_tree.specs.Rows.{rows_of, IsRooted}
use Rattle.gs_tree.specs.declared.node.Kind.TheVariants as kinds
use Rattle.gs_tree.proofs.Rows.{goes_to, rest_of, empty_path}
use Rattle.gs_tree.proofs.Children.{file_row, no_file_path, dir_row, row_here, row_in_child, no_row_child, row_of_more, blank_seen, blank_back, match_map, nil_from}
use Rattle.gs_tree.proofs.node.Node.+is_blank_row.Goals as goal

pub returns-in-File-empty : goal.returns-in-File-empty
returns-in-File-empty t c =
    blank_seen c.is_empty.result (ap rows_of (sym c.in-File-empty.is-0) ∙ c.self.view_is) (sym (empty_path c.args.path.now c.in-File-empty.len_below))
    (file_row c.in-File-empty.handles.items c.is_empty.result
    (λ e. nil_from c.in-File-empty.handles.items (grind (arith, common_steps)))
    (λ e z. let n : length c.in-File-empty.handles.items ≡ 0 = ap length z in grind (arith, common_steps)))

pub returns-in-File-default : goal.returns-in-File-default
returns-in-File-default t c = λ h. no_file_path c.in-File-default.field-0-0.items c.args.path.now c.in-File-default.len_at_least
    (blank_back {m = rows_of (kinds.File c.in-File-default.field-0-0)} (ap rows_of (sym c.in-File-default.is-0) ∙ c.self.view_is) refl h)

pub returns-in-Dir-empty : goal.returns-in-Dir-empty
returns-in-Dir-empty t c =
    blank_seen c.is_empty-in-Dir-empty.result (ap rows_of (sym c.in-Dir-empty.is-0) ∙ c.self.view_is) (sym (empty_path c.args.path.now c.in-Dir-empty.len_below))
    (dir_row c.in-Dir-empty.children.entries c.is_empty-in-Dir-empty.result (subst IsRooted c.in-Dir-empty.is-0 c.self.invariant.rooted)
    (λ e. nil_from c.in-Dir-empty.children.entries (c.is_empty-in-Dir-empty.ensures.0 e))
    (λ e z. let k = c.is_empty-in-Dir-empty.ensures.1 (ap length z) in cc))

pub returns-then-all_named : goal.returns-then-all_named
returns-then-all_named t c = let g = goes_to c.self.view_is c.self.invariant.level c.in-Dir-len1-up.is-0 c.in-Dir-len1-up.len_at_least c.first-item.is in
    let all = sym c.all_named.ensures ∙ c.if-all_named.true in
    let rest = rest_of c.args.path.now in
    blank_seen {m = rows_of (kinds.Dir c.in-Dir-len1-up.children)} {p = c.first-item.result ∷ rest} c.is_blank_row.result (sym g.rows) (sym g.parts)
    (match_map c.is_blank_row.result (IsBlankRow (at c.in-Some.child.now) rest) (IsBlankRow (at (rows_of (kinds.Dir c.in-Dir-len1-up.children))) (c.first-item.result ∷ rest))
    (row_here c.in-Dir-len1-up.children.entries c.first-item.result rest c.in-Some.child.now g.ordered c.in-Some.ensures.value all)
    (row_in_child c.in-Dir-len1-up.children.entries c.first-item.result rest c.in-Some.child.now g.ordered c.in-Some.ensures.value) c.is_blank_row.ensures)

pub returns-else-all_named : goal.returns-else-all_named
returns-else-all_named t c = let g = goes_to c.self.view_is c.self.invariant.level c.in-Dir-len1-up.is-0 c.in-Dir-len1-up.len_at_least c.first-item.is in
    let none : c.all_named.result ≡ false = search rules in
    let rooted = subst IsRooted c.in-Dir-len1-up.is-0 c.self.invariant.rooted in
    subst (λ b. MatchBool b (IsBlankRow (at c.args.self.now) c.args.path.now) (IsBlankRow (at c.args.self.now) c.args.path.now → ⊥)) (sym none)
    (λ h. row_of_more c.in-Dir-len1-up.children.entries c.first-item.result (rest_of c.args.path.now) g.ordered rooted (sym c.all_named.ensures ∙ none)
    (blank_back {m = rows_of (kinds.Dir c.in-Dir-len1-up.children)} (sym g.rows) (sym g.parts) h))

pub returns-in-None : goal.returns-in-None
returns-in-None t c = let g = goes_to c.self.view_is c.self.invariant.level c.in-Dir-len1-up.is-0 c.in-Dir-len1-up.len_at_least c.first-item.is in
    λ h. no_row_child c.in-Dir-len1-up.children.entries c.first-item.result (rest_of c.args.path.now) g.ordered c.in-None.ensures.value
    (blank_back {m = rows_of (kinds.Dir c.in-Dir-len1-up.children)} (sym g.rows) (sym g.parts) h)
