use Rattle.std.proofs.Common.{[], ◌∷◌, true, ◌≡◌, ap, sym, ◌∙◌, subst, refl}
use Rattle.std.specs.Prelude.{Some, None, is_some}
use Rattle.std.specs.Option.{IsSome}
use Rattle.gs_path.specs.Path.{Path}
use Rattle.gs_tree.specs.Find.{at}
use Rattle.gs_tree.specs.Rows.{rows_of, IsRooted}
use Rattle.gs_tree.specs.declared.node.Kind.TheVariants as kinds
use Rattle.gs_tree.specs.Plain.{without}
use Rattle.gs_tree.proofs.Rows.{goes_to, rest_of, part_none, part_below, part_here, part_of_file}
use Rattle.gs_tree.proofs.Splice.{at-updated, splice-here, splice-below, updates, child_at, without_none, no_rest, some_rest}
use Rattle.gs_tree.proofs.Reaching.{node_without, one_child, pruned_stands}
use Rattle.gs_tree.proofs.node.Node.+prune.Goals as goal

pub returns-in_default-clause-part : goal.returns-in_default-clause-part
returns-in_default-clause-part t c = part_of_file c.args.self.now c.self.inside.kind c.args.path.now c.self.view_is (λ d. c.in_default.not-Dir d) c.requires

pub returns-in_default-clause-rest : goal.returns-in_default-clause-rest
returns-in_default-clause-rest t c q =
    ap (λ m. at m q) c.self.view_is ∙ without_none c.args.path.now (at c.args.self.now) (returns-in_default-clause-part t c) q

pub returns-then-is_empty-clause-part : goal.returns-then-is_empty-clause-part
returns-then-is_empty-clause-part t c =
    let g = goes_to c.self.view_is c.self.invariant.level c.in-Dir.is c.in-len1-up.len_at_least c.first-item.is in
    part_here g (no_rest (rest_of c.args.path.now) _ c.is_empty.ensures c.if-is_empty.true) c.remove.result c.remove.ensures.value

pub returns-then-is_empty-clause-rest : goal.returns-then-is_empty-clause-rest
returns-then-is_empty-clause-rest t c q =
    let g = goes_to c.self.view_is c.self.invariant.level c.in-Dir.is c.in-len1-up.len_at_least c.first-item.is in
    let u = updates c.remove.new.self None g c.remove.ensures.ordered c.remove.ensures.updates.0 in
    let end = no_rest (rest_of c.args.path.now) _ c.is_empty.ensures c.if-is_empty.true in
    at-updated u q ∙ splice-here c.first-item.result None (at c.args.self.now) q
    ∙ ap (λ (p : Path). without p (at c.args.self.now) q) (ap (λ (p : Path). c.first-item.result ∷ p) (sym end) ∙ sym g.parts)

pub returns-in_default-get_mut-clause-part : goal.returns-in_default-get_mut-clause-part
returns-in_default-get_mut-clause-part t c =
    part_none (goes_to c.self.view_is c.self.invariant.level c.in-Dir.is c.in-len1-up.len_at_least c.first-item.is) c.in_default-get_mut.ensures.value

pub returns-in_default-get_mut-clause-rest : goal.returns-in_default-get_mut-clause-rest
returns-in_default-get_mut-clause-rest t c q =
    let g = goes_to c.self.view_is c.self.invariant.level c.in-Dir.is c.in-len1-up.len_at_least c.first-item.is in
    ap (λ n. at (rows_of (kinds.Dir n)) q) c.get_mut.follows.holds-at-none
    ∙ ap (λ r. at r q) (sym g.rows)
    ∙ without_none c.args.path.now (at c.args.self.now) (returns-in_default-get_mut-clause-part t c) q

pub returns-clause-part : goal.returns-clause-part
returns-clause-part t c =
    part_below (goes_to c.self.view_is c.self.invariant.level c.in-Dir.is c.in-len1-up.len_at_least c.first-item.is) c.in-Some.child.now _ c.in-Some.ensures.value c.prune.ensures.part

pub returns-clause-rest : goal.returns-clause-rest
returns-clause-rest t c q =
    let g = goes_to c.self.view_is c.self.invariant.level c.in-Dir.is c.in-len1-up.len_at_least c.first-item.is in
    let written = c.get_mut.follows.holds c.prune.new.self in
    let u = updates (c.get_mut.follows.lender c.prune.new.self) (Some c.prune.new.self) g written.4 (written.3 (subst IsSome c.in-Some.ensures.value refl)).0 in
    at-updated u q
    ∙ splice-below c.first-item.result (rest_of c.args.path.now) c.in-Some.child.now c.prune.new.self (λ _. None) (at c.args.self.now) c.prune.ensures.rest (child_at g c.in-Some.child.now c.in-Some.ensures.value) q
    ∙ ap (λ (p : Path). without p (at c.args.self.now) q) (sym g.parts)

pub invariant_of-self-then-is_empty : goal.invariant_of-self-then-is_empty
invariant_of-self-then-is_empty t c =
    let g = goes_to c.self.view_is c.self.invariant.level c.in-Dir.is c.in-len1-up.len_at_least c.first-item.is in
    let u = updates c.remove.new.self None g c.remove.ensures.ordered c.remove.ensures.updates.0 in
    node_without c.self.inside.kind c.self.inside.reach (c.first-item.result ∷ []) u c.self.view_is c.self.invariant c.in-Dir.is (λ a e. cc) (λ q. at-updated u q ∙ splice-here c.first-item.result None (at c.args.self.now) q)

pub invariant_of-self-2 : goal.invariant_of-self-2
invariant_of-self-2 t c =
    let g = goes_to c.self.view_is c.self.invariant.level c.in-Dir.is c.in-len1-up.len_at_least c.first-item.is in
    let written = c.get_mut.follows.holds c.prune.new.self in
    let u = updates (c.get_mut.follows.lender c.prune.new.self) (Some c.prune.new.self) g written.4 (written.3 (subst IsSome c.in-Some.ensures.value refl)).0 in
    let was = subst IsRooted c.in-Dir.is c.self.invariant.rooted c.first-item.result c.in-Some.child.now (sym c.in-Some.ensures.value) in
    let stands : is_some (at c.prune.new.self []) ≡ true = pruned_stands (rest_of c.args.path.now) (at c.in-Some.child.now) (at c.prune.new.self) (some_rest (rest_of c.args.path.now) _ c.is_empty.ensures c.if-is_empty.false) c.prune.ensures.rest was in
    node_without c.self.inside.kind c.self.inside.reach (c.first-item.result ∷ rest_of c.args.path.now) u c.self.view_is c.self.invariant c.in-Dir.is (λ a e. one_child c.prune.new.self a stands e)
    (λ q. at-updated u q ∙ splice-below c.first-item.result (rest_of c.args.path.now) c.in-Some.child.now c.prune.new.self (λ _. None) (at c.args.self.now) c.prune.ensures.rest (child_at g c.in-Some.child.now c.in-Some.ensures.value) q)
