use Rattle.std.proofs.Common.{◌≡◌, ◌++◌, sym, ap, ◌∙◌, subst}
use Rattle.std.specs.List.{list_all}
use Rattle.std.specs.FinMap.{entries}
use Rattle.gs_tree.specs.Build.{rows_of_entries, prefixed, below_root, rooted_rows, is_short, IsSound}
use Rattle.gs_tree.proofs.Entering.{prefixed-nil, whole_rows, sound_entries, sound-tree}
use Rattle.gs_tree.proofs.tree.Tree.entries.Goals as goal

pub returns-clause-rows : goal.returns-clause-rows
returns-clause-rows c =
    let root = c.self.inside.root in
    let sound : IsSound root = c.in_ok-list_below.ensures.sound in
    ap rooted_rows (c.in_ok-list_below.ensures.rows ∙ ap (λ l. rows_of_entries l ++ prefixed c.root.result (below_root root)) c.new-listed.ensures.items ∙ ap (λ p. prefixed p (below_root root)) c.root.ensures ∙ prefixed-nil (below_root root))
    ∙ whole_rows root sound c.self.invariant ∙ sym (sound_entries root sound) ∙ ap entries c.self.view_is

pub returns-clause-tree : goal.returns-clause-tree
returns-clause-tree c =
    let rows = rows_of_entries c.list_below.new.listed.items in
    let sound : IsSound c.self.inside.root = c.in_ok-list_below.ensures.sound in
    let is : c.self.inside.root ≡ rooted_rows rows = sym (sound_entries c.self.inside.root sound) ∙ ap entries c.self.view_is ∙ sym (returns-clause-rows c) in
    ap (list_all (λ r. is_short r.0)) (sym (returns-clause-rows c)) ∙ sound-tree rows (subst IsSound is sound)
