use Rattle.std.proofs.Common.{◌≡◌, ◌++◌, ◌∷◌, [], sym, ap, ◌∙◌, subst, append_assoc}
use Rattle.std.proofs.lemmas.List.{map-append}
use Rattle.gs_tree.specs.Rows.{rows_of, IsLevel}
use Rattle.gs_tree.specs.declared.entry.TreeEntry.{TreeEntry}
use Rattle.gs_tree.specs.Build.{rows_of_entries, path_of_entry, kind_of_entry, prefixed, below_root, IsSound}
use Rattle.gs_tree.proofs.Entering.{Entered, entered-more, sound-dir, sound-file}
use Rattle.gs_tree.proofs.node.Node.+list_below.Goals as goal

pub returns-in_default-clause-sound : goal.returns-in_default-clause-sound
returns-in_default-clause-sound t c = subst IsSound (ap rows_of (sym c.in_default.is) ∙ c.self.view_is) (sound-file c.in_default.field-0.items)

pub loop-name-preserved : goal.loop-name-preserved
loop-name-preserved t c =
    let before = subst (λ l. Entered c.args.path.now c.into_iter-name-iterator.result l (rows_of_entries c.args.listed.now.items) (rows_of_entries c.loop-name.listed.items)) c.in-Some.ensures.steps c.loop-name.invariant in
    let found = rows_of_entries c.loop-name.listed.items in
    let path = c.in_ok-path.path in
    let entry = c.in_ok-entry.entry in
    let pushed : rows_of_entries c.push.new.self.items ≡ found ++ (path_of_entry entry, kind_of_entry entry) ∷ [] =
    ap rows_of_entries c.in_ok-push.ensures.items ∙ map-append (λ (e : TreeEntry). (path_of_entry e, kind_of_entry e)) c.loop-name.listed.items (entry ∷ []) in
    let listed : rows_of_entries c.list_below.new.listed.items ≡ found ++ prefixed path c.in-Some.child.now =
    c.in_ok-list_below.ensures.rows ∙ ap (λ l. l ++ prefixed path (below_root c.in-Some.child.now)) pushed
    ∙ append_assoc found ((path_of_entry entry, kind_of_entry entry) ∷ []) (prefixed path (below_root c.in-Some.child.now)) ∙ ap (λ l. found ++ l) (sym c.in_ok-entry.ensures.row) in
    entered-more c.args.path.now c.into_iter-name-iterator.result (c.in-Some.name.now, c.in-Some.child.now) c.next.new.self (rows_of_entries c.args.listed.now.items) found (rows_of_entries c.list_below.new.listed.items)
    (listed ∙ ap (λ p. found ++ prefixed p c.in-Some.child.now) c.in_ok-path.ensures) c.in_ok-list_below.ensures.sound before

pub returns-clause-sound : goal.returns-clause-sound
returns-clause-sound t c =
    let done = subst (λ l. Entered c.args.path.now l c.loop-name.name-iterator (rows_of_entries c.args.listed.now.items) (rows_of_entries c.loop-name.listed.items)) c.into_iter-name-iterator.ensures.into_iter_gives.0 c.loop-name.invariant in
    let end = subst (λ l. Entered c.args.path.now c.in-Dir.children.entries l (rows_of_entries c.args.listed.now.items) (rows_of_entries c.loop-name.listed.items)) c.in-None.ensures.steps.0 done in
    subst IsSound (ap rows_of (sym c.in-Dir.is) ∙ c.self.view_is) (sound-dir c.in-Dir.children.entries (subst IsLevel c.in-Dir.is c.self.invariant.level) (end.sound tt))
