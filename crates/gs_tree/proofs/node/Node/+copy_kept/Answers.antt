use Rattle.gs_tree.specs.Entry.{File}
use Rattle.gs_tree.proofs.node.Node.+copy_kept.Goals.{then-all-via-then-all, then-all-via-else-all+then-not-is_hidden}
use Rattle.std.proofs.Common.{ℕ, List, [], ◌∷◌, rules, ◌≡◌, ◌&&◌, sym, ap, ◌∙◌, subst, cond, not, true, false}
use Rattle.std.specs.Prelude.{Some}
use Rattle.std.specs.BTreeMap.{is_at}
use Rattle.std.specs.Map.{lookup}
use Rattle.gs_path.specs.Path.{same_name, name_cmp}
use Rattle.gs_path.specs.Element.{is_hidden}
use Rattle.gs_tree.specs.Find.{at}
use Rattle.gs_tree.specs.Rows.{rows_of, IsNode, IsLevel}
use Rattle.gs_tree.proofs.Copying.{CopiedFrom, copied_none, copied_more, copied_less, copied_all, copied_node, copied_file, seen}
use Rattle.gs_tree.proofs.node.Node.+copy_kept.Goals as goal

pub loop-name-init : goal.loop-name-init
loop-name-init t c =
    let is = c.into_iter-name-iterator.ensures.into_iter_gives.0 in
    subst (λ l. CopiedFrom c.args.all l l c.new-copies.result) (sym is) (copied_none c.args.all c.in-Dir.children.entries c.new-copies.result (subst IsLevel c.in-Dir.is c.self.invariant.level) c.new-copies.ensures.ordered c.new-copies.ensures.empty)

pub invariant_of-result-2 : goal.invariant_of-result-2
invariant_of-result-2 t c =
    let done = subst (λ l. CopiedFrom c.args.all l c.loop-name.name-iterator c.loop-name.copies) c.into_iter-name-iterator.ensures.into_iter_gives.0 c.loop-name.invariant in
    copied_node c.args.all c.in-Dir.children c.loop-name.copies c.self.inside.reach (subst (IsNode c.self.inside.reach) c.in-Dir.is c.self.invariant)
    (subst (λ l. CopiedFrom c.args.all c.in-Dir.children.entries l c.loop-name.copies) c.in-None.ensures.steps.0 done)

pub returns-clause-same : goal.returns-clause-same
returns-clause-same t c q =
    let done = subst (λ l. CopiedFrom c.args.all l c.loop-name.name-iterator c.loop-name.copies) c.into_iter-name-iterator.ensures.into_iter_gives.0 c.loop-name.invariant in
    copied_all c.args.all c.in-Dir.children c.loop-name.copies (subst IsLevel c.in-Dir.is c.self.invariant.level) (subst (λ l. CopiedFrom c.args.all c.in-Dir.children.entries l c.loop-name.copies) c.in-None.ensures.steps.0 done) q
    ∙ ap (λ r. seen c.args.all q (at r q)) (ap rows_of (sym c.in-Dir.is) ∙ c.self.view_is)

pub returns-in-File-clause-same : goal.returns-in-File-clause-same
returns-in-File-clause-same t c q =
    let items = c.in_ok-from_slice-in-File.ensures.items ∙ c.deref.ensures.value in
    ap (λ (l : List ℕ). at (([], File l) ∷ []) q) items ∙ copied_file c.args.all c.in-File.handles.items q ∙ ap (λ r. seen c.args.all q (at r q)) (ap rows_of (sym c.in-File.is) ∙ c.self.view_is)

pub loop-name-preserved : goal.loop-name-preserved
loop-name-preserved t c =
    let before = subst (λ l. CopiedFrom c.args.all c.into_iter-name-iterator.result l c.loop-name.copies) c.in-Some.ensures.steps c.loop-name.invariant in
    let hid : is_hidden c.in-Some.name.now ≡ true = search rules in
    let out : (not c.args.all && is_hidden c.in-Some.name.now) ≡ true = ap (λ b. not b && is_hidden c.in-Some.name.now) c.if-all.false ∙ hid in
    copied_less c.args.all c.into_iter-name-iterator.result (c.in-Some.name.now, c.in-Some.child.now) c.next.new.self c.loop-name.copies out before

pub loop-name-preserved-in-loop-name : goal.loop-name-preserved-in-loop-name
loop-name-preserved-in-loop-name t c =
    let before = subst (λ l. CopiedFrom c.args.all c.into_iter-name-iterator.result l c.loop-name.copies) c.in-Some.ensures.steps c.loop-name.invariant in
    let plain : (not c.args.all && is_hidden c.in-Some.name.now) ≡ false = elim c.then-all.branch [
      | then-all-via-then-all w ↦ ap (λ b. not b && is_hidden c.in-Some.name.now) w.if-all.true
      | then-all-via-else-all+then-not-is_hidden w ↦ (let seen_name : is_hidden c.in-Some.name.now ≡ false = search rules in ap (λ b. not b && is_hidden c.in-Some.name.now) w.if-all.false ∙ seen_name)
    ] in
    copied_more c.args.all c.into_iter-name-iterator.result (c.in-Some.name.now, c.in-Some.child.now) c.next.new.self c.loop-name.copies c.add_child.new.children c.in_ok-copy.copy plain before c.in_ok-add_child.ensures.ordered
    (λ n. c.in_ok-add_child.ensures.updates.0 n ∙ ap (λ x. cond (same_name x n) (Some c.in_ok-copy.copy) (lookup (is_at (name_cmp n)) c.loop-name.copies.entries)) c.in_ok-name.ensures) c.in_ok-copy.ensures.same c.in_ok-copy.ensures.stands
