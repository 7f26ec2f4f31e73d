use Rattle.std.proofs.Common.{ap, sym, ◌∙◌, subst, refl, cond}
use Rattle.std.specs.Prelude.{Some, is_some}
use Rattle.std.specs.Option.{IsSome}
use Rattle.gs_path.specs.Path.{Path}
use Rattle.gs_tree.specs.Find.{at}
use Rattle.gs_tree.specs.Rows.{rows_of}
use Rattle.gs_tree.specs.declared.node.Kind.TheVariants as kinds
use Rattle.gs_tree.specs.Plain.{with_at}
use Rattle.gs_tree.proofs.Rows.{goes_to, at-path, at_child, rest_of, part_none, part_below, dirs_above}
use Rattle.gs_tree.proofs.Splice.{at-updated, splice-below_if, updates, child_at}
use Rattle.gs_tree.proofs.Reaching.{node_spliced}
use Rattle.gs_tree.proofs.node.Node.+replace.Goals as goal

pub returns-in_default-get_mut-clause-part : goal.returns-in_default-get_mut-clause-part
returns-in_default-get_mut-clause-part t c =
    part_none (goes_to c.self.view_is c.self.invariant.level c.in-Dir.is c.in-len1-up.len_at_least c.first-item.is) c.in_default-get_mut.ensures.value

pub returns-in_default-get_mut-clause-found : goal.returns-in_default-get_mut-clause-found
returns-in_default-get_mut-clause-found t c =
    let g = goes_to c.self.view_is c.self.invariant.level c.in-Dir.is c.in-len1-up.len_at_least c.first-item.is in
    sym (ap is_some (at-path g ∙ ap (λ v. at_child v (rest_of c.args.path.now)) (sym c.in_default-get_mut.ensures.value)))

pub returns-in_default-get_mut-clause-now : goal.returns-in_default-get_mut-clause-now
returns-in_default-get_mut-clause-now t c q =
    let g = goes_to c.self.view_is c.self.invariant.level c.in-Dir.is c.in-len1-up.len_at_least c.first-item.is in
    ap (λ n. at (rows_of (kinds.Dir n)) q) c.get_mut.follows.holds-at-none ∙ ap (λ r. at r q) (sym g.rows)

pub returns-clause-part : goal.returns-clause-part
returns-clause-part t c =
    part_below (goes_to c.self.view_is c.self.invariant.level c.in-Dir.is c.in-len1-up.len_at_least c.first-item.is) c.in-Some.child.now _ c.in-Some.ensures.value c.replace-had.ensures.part

pub returns-clause-found : goal.returns-clause-found
returns-clause-found t c =
    let g = goes_to c.self.view_is c.self.invariant.level c.in-Dir.is c.in-len1-up.len_at_least c.first-item.is in
    c.replace-had.ensures.found ∙ ap is_some (ap (λ v. at_child v (rest_of c.args.path.now)) c.in-Some.ensures.value ∙ sym (at-path g))

pub returns-clause-above : goal.returns-clause-above
returns-clause-above t c some =
    dirs_above (goes_to c.self.view_is c.self.invariant.level c.in-Dir.is c.in-len1-up.len_at_least c.first-item.is) c.in-Some.child.now c.in-Some.ensures.value (c.replace-had.ensures.above some)

pub returns-clause-now : goal.returns-clause-now
returns-clause-now t c q =
    let g = goes_to c.self.view_is c.self.invariant.level c.in-Dir.is c.in-len1-up.len_at_least c.first-item.is in
    let written = c.get_mut.follows.holds c.replace-had.new.self in
    let u = updates (c.get_mut.follows.lender c.replace-had.new.self) (Some c.replace-had.new.self) g written.4 (written.3 (subst IsSome c.in-Some.ensures.value refl)).0 in
    at-updated u q
    ∙ splice-below_if (is_some c.replace-had.result) c.first-item.result (rest_of c.args.path.now) c.in-Some.child.now c.replace-had.new.self (at c.args.node) (at c.args.self.now) c.replace-had.ensures.now (child_at g c.in-Some.child.now c.in-Some.ensures.value) q
    ∙ ap (λ (p : Path). cond (is_some c.replace-had.result) (with_at p (at c.args.node) (at c.args.self.now) q) (at c.args.self.now q)) (sym g.parts)

pub invariant_of-self-2 : goal.invariant_of-self-2
invariant_of-self-2 t c =
    let g = goes_to c.self.view_is c.self.invariant.level c.in-Dir.is c.in-len1-up.len_at_least c.first-item.is in
    let written = c.get_mut.follows.holds c.replace-had.new.self in
    let u = updates (c.get_mut.follows.lender c.replace-had.new.self) (Some c.replace-had.new.self) g written.4 (written.3 (subst IsSome c.in-Some.ensures.value refl)).0 in
    node_spliced c.self.inside.kind c.self.inside.reach c.saturating_add-reach.result c.reach.result c.max-self-inside.result u c.self.view_is c.self.invariant c.in-Dir.is c.reach.ensures.bound c.reach.ensures.stands c.saturating_add-reach.ensures c.max-self-inside.ensures
