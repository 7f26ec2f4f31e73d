use Rattle.std.proofs.Common.{rules, ◌≡◌, ◌&&◌, ◌++◌, sym, ap, ◌∙◌, subst, not, false}
use Rattle.std.specs.FinMap.{is_sorted}
use Rattle.gs_path.specs.Path.{path_cmp}
use Rattle.gs_path.specs.Element.{is_hidden}
use Rattle.gs_tree.specs.Rows.{rows_of, IsLevel}
use Rattle.gs_tree.specs.Chunks.{all_chunks, kept_rows}
use Rattle.gs_tree.proofs.Gathering.{Gathered, gathered-more, gathered-all, rows-rise}
use Rattle.gs_tree.proofs.node.Node.+collect.Goals.{then-all-via-then-all, then-all-via-else-all+then-not-is_hidden}
use Rattle.gs_tree.proofs.node.Node.+collect.Goals as goal

pub loop-name-preserved-in-loop-name : goal.loop-name-preserved-in-loop-name
loop-name-preserved-in-loop-name t c =
    let before = subst (λ l. Gathered c.args.all c.into_iter-name-iterator.result l c.args.found.now.items c.loop-name.found.items) c.in-Some.ensures.steps c.loop-name.invariant in
    let plain : (not c.args.all && is_hidden c.in-Some.name.now) ≡ false = elim c.then-all.branch [
      | then-all-via-then-all w ↦ ap (λ b. not b && is_hidden c.in-Some.name.now) w.if-all.true
      | then-all-via-else-all+then-not-is_hidden w ↦ (let seen_name : is_hidden c.in-Some.name.now ≡ false = search rules in ap (λ b. not b && is_hidden c.in-Some.name.now) w.if-all.false ∙ seen_name)
    ] in
    gathered-more c.args.all c.into_iter-name-iterator.result (c.in-Some.name.now, c.in-Some.child.now) c.next.new.self c.args.found.now.items c.loop-name.found.items c.collect.new.found.items plain
    c.in_ok-collect.ensures.chunks c.in_ok-collect.ensures.rise before

pub returns-clause-chunks : goal.returns-clause-chunks
returns-clause-chunks t c =
    let done = subst (λ l. Gathered c.args.all l c.loop-name.name-iterator c.args.found.now.items c.loop-name.found.items) c.into_iter-name-iterator.ensures.into_iter_gives.0 c.loop-name.invariant in
    gathered-all c.args.all c.in-Dir.children.entries c.args.found.now.items c.loop-name.found.items (subst (λ l. Gathered c.args.all c.in-Dir.children.entries l c.args.found.now.items c.loop-name.found.items) c.in-None.ensures.steps.0 done)
    ∙ ap (λ r. c.args.found.now.items ++ all_chunks (kept_rows c.args.all r)) (ap rows_of (sym c.in-Dir.is) ∙ c.self.view_is)

pub returns-clause-rise : goal.returns-clause-rise
returns-clause-rise t c =
    let done = subst (λ l. Gathered c.args.all l c.loop-name.name-iterator c.args.found.now.items c.loop-name.found.items) c.into_iter-name-iterator.ensures.into_iter_gives.0 c.loop-name.invariant in
    let end = subst (λ l. Gathered c.args.all c.in-Dir.children.entries l c.args.found.now.items c.loop-name.found.items) c.in-None.ensures.steps.0 done in
    ap (λ r. is_sorted path_cmp (kept_rows c.args.all r)) (sym c.self.view_is ∙ ap rows_of c.in-Dir.is)
    ∙ rows-rise c.args.all c.in-Dir.children.entries (subst IsLevel c.in-Dir.is c.self.invariant.level) (end.rise tt)
